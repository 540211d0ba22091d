-- The language as a table: which words are a line, and the first place where words leave it. The law above `line_of`.
use Rattle.std.specs.Prelude.{◌≡◌, ◌≢◌, ℕ, ◌<◌, ◌≤◌, ◌⊎◌, true, false, List, [], ◌∷◌, ◌++◌, length, map, slice_index, Ok}
use Rattle.std.specs.declared.option.Option.{Option}
use Rattle.std.specs.declared.option.Option.TheVariants.{Some, None}
use Rattle.std.specs.Fmt.{decimal}
use Rattle.std.specs.Str.Parse.{IsNumeral, digits_value}
use lib.Chars.{codes}
use Rattle.hex.specs.Hex.{decode_of}
use Rattle.dataset_tree.specs.Suite.{suite_name}
use Rattle.dataset_tree.specs.declared.kinds.Suite.TheVariants.{Aes256Gcm}
use Rattle.dataset_tree.specs.declared.kinds.Format.{Format}
use Rattle.dataset_tree.specs.declared.kinds.Format.TheVariants.{Raw, Hex, Passphrase}
use Rattle.encryption_roots.specs.PathText.{is_path}
use Rattle.encryption_roots.specs.RecordSize.{IsRecordSize}
use Rattle.encryption_roots.specs.declared.props.Location.{Location}
use Rattle.encryption_roots.specs.declared.props.Location.TheVariants.{Prompt, File}
use Rattle.encryption_roots.specs.declared.props.Prop.{Prop}
use Rattle.encryption_roots.specs.declared.props.Prop.TheVariants as props
use Rattle.shell_lines.specs.declared.line.Line.{Line}
use Rattle.shell_lines.specs.declared.line.Line.TheVariants.{Silent}
use Rattle.shell_lines.specs.declared.setting.OptionKind.{OptionKind}
use Rattle.shell_lines.specs.declared.setting.Setting.{Setting}
use Rattle.shell_lines.specs.declared.setting.Setting.TheVariants.{Encryption, KeyFormat, KeyLocation, Iterations, RecordSize, CheckOnly, LoadFrom, Recursive, AllRoots, LoadFirst, Inherit}
use Rattle.shell_lines.specs.Settings.{dash, kind_of}
use Rattle.shell_lines.specs.Reading.{WordKind, a_name, a_property, the_word, a_number, some_bytes, Value, has_kind, is_set, begins_option}
use Rattle.shell_lines.specs.Forms.{Form, end_as, word_then, options_then, Command}
use Rattle.shell_lines.specs.Words.{WordAt}

abbrev pub IsAmong : List ℕ → List (List ℕ) → Type 0
IsAmong text [] = ⊥
IsAmong text (other ∷ texts) = (text ≡ other) ⊎ IsAmong text texts

-- ---- words

abbrev pub property_name : Prop → List ℕ
property_name props.KeyStatus = codes "keystatus"
property_name props.Encryption = codes "encryption"
property_name props.EncryptionRoot = codes "encryptionroot"
property_name props.KeyFormat = codes "keyformat"
property_name props.KeyLocation = codes "keylocation"
property_name props.Pbkdf2Iters = codes "pbkdf2iters"
property_name props.RecordSize = codes "recordsize"

-- 1 to 10 decimal digits, which write this number
pub record IsNumber (word : List ℕ) (number : ℕ) : Type 0 where
  pub digits : IsNumeral 10 word
  pub short : length word ≤ 10
  pub is : number ≡ digits_value 10 word

-- 2 or more hexadecimal digits, of either case and an even number, and the bytes that they spell
pub record AreBytes (word bytes : List ℕ) : Type 0 where
  pub some : 2 ≤ length word
  pub digits : decode_of word ≡ Ok bytes

-- a word of this kind, for a command with these options, and what it tells
abbrev pub IsWord : List (List ℕ) → (kind : WordKind) → List ℕ → Value kind → Type 0
IsWord options a_name word name = (word ≡ name) × (¬ IsAmong word options)
IsWord options a_property word prop = word ≡ property_name prop
IsWord options (the_word text) word told = word ≡ text
IsWord options (a_number most) word number = IsNumber word number × (number ≤ most)
IsWord options some_bytes word bytes = AreBytes word bytes

-- ---- options

-- the word behind `-o` is this key, `=`, and a value of it
pub record IsKeyValue (word : Option (List ℕ)) (key : List ℕ) (IsValue : List ℕ → Type 0) : Type 0 where
  pub value : List ℕ
  pub spells : word ≡ Some (key ++ codes "=" ++ value)
  pub is_value : IsValue value

abbrev pub format_name : Format → List ℕ
format_name Raw = codes "raw"
format_name Hex = codes "hex"
format_name Passphrase = codes "passphrase"

-- `prompt`, or `file://` and a path
abbrev pub IsLocation : List ℕ → Location → Type 0
IsLocation word Prompt = word ≡ codes "prompt"
IsLocation word (File path) = (word ≡ codes "file://" ++ path) × (is_path path ≡ true)

-- the one word, which is this location
pub record IsLocationWord (word : Option (List ℕ)) (place : Location) : Type 0 where
  pub value : List ℕ
  pub spells : word ≡ Some value
  pub is_value : IsLocation value place

-- an option's words behind the first one, of which it has one or none, make this setting
abbrev pub IsSpelled : Option (List ℕ) → Setting → Type 0
IsSpelled word (Encryption suite) =
    IsKeyValue word (codes "encryption") (λ value. (value ≡ suite_name suite)
    ⊎ ((value ≡ codes "on") × (suite ≡ Aes256Gcm)))
IsSpelled word (KeyFormat format) =
    IsKeyValue word (codes "keyformat") (λ value. value ≡ format_name format)
IsSpelled word (KeyLocation place) =
    IsKeyValue word (codes "keylocation") (λ value. IsLocation value place)
IsSpelled word (Iterations count) =
    IsKeyValue word (codes "pbkdf2iters") (λ value. IsNumber value count)
IsSpelled word (RecordSize size) =
    IsKeyValue word (codes "recordsize") (λ value. (value ≡ decimal size) × IsRecordSize size)
IsSpelled word CheckOnly = word ≡ None
IsSpelled word (LoadFrom place) = IsLocationWord word place
IsSpelled word Recursive = word ≡ None
IsSpelled word AllRoots = word ≡ None
IsSpelled word LoadFirst = word ≡ None
IsSpelled word Inherit = word ≡ None

-- what stands behind an option's first word, and the setting that it makes
abbrev pub Spelled : Type 0
Spelled = Option (List ℕ) × Setting

abbrev pub words_in : Option (List ℕ) → List (List ℕ)
words_in None = []
words_in (Some word) = word ∷ []

-- the words of options
abbrev pub option_words : List Spelled → List (List ℕ)
option_words [] = []
option_words (spelled ∷ more) = dash (kind_of spelled.1) ∷ (words_in spelled.0 ++ option_words more)

abbrev pub settings_of : List Spelled → List Setting
settings_of options = map (λ spelled. spelled.1) options

-- options of these kinds, of which none stands twice, nor makes a setting of a kind that is set before
abbrev pub AreNew : List OptionKind → List Setting → List Spelled → Type 0
AreNew kinds settings [] = Unit {0}
AreNew kinds settings (spelled ∷ more) =
    IsSpelled spelled.0 spelled.1 × (has_kind kinds (kind_of spelled.1) ≡ true)
    × (is_set settings (kind_of spelled.1) ≡ false)
    × AreNew kinds (settings ++ (spelled.1 ∷ [])) more

-- no option that could still stand comes next
abbrev pub NoneNext : List OptionKind → List Setting → List (List ℕ) → Type 0
NoneNext kinds settings [] = Unit {0}
NoneNext kinds settings (word ∷ words) = begins_option kinds settings word ≡ false

-- words that options of these kinds begin, and what stands behind the options in what is told of their settings
pub record HasOptions (kinds : List OptionKind) (settings : List Setting)
    (Behind : List Setting → List (List ℕ) → Type 0) (words : List (List ℕ)) : Type 0 where
  pub spelled : List Spelled
  pub rest : List (List ℕ)
  pub stand : words ≡ option_words spelled ++ rest
  pub new : AreNew kinds settings spelled
  pub none_next : NoneNext kinds (settings ++ settings_of spelled) rest
  pub behind : Behind (settings ++ settings_of spelled) rest

-- ---- forms and commands

-- the form has these words, and makes this of them: nothing where its last condition fails
abbrev pub Matches : List (List ℕ) → Form → Option Line → List (List ℕ) → Type 0
Matches options (end_as made) line words = (words ≡ []) × (line ≡ made)
Matches options (word_then kind next) line words =
    (word : List ℕ) × (rest : List (List ℕ)) × (value : Value kind) × (words ≡ word ∷ rest)
    × IsWord options kind word value × Matches options (next value) line rest
Matches options (options_then kinds next) line words =
    HasOptions kinds [] (λ settings rest. Matches options (next settings) line rest) words

abbrev pub IsMatch : List (List ℕ) → Form → List (List ℕ) → Type 0
IsMatch options form words = (line : Option Line) × Matches options form line words

-- one of the forms has these words
abbrev pub SomeMatch : List (List ℕ) → List Form → List (List ℕ) → Type 0
SomeMatch options [] words = ⊥
SomeMatch options (form ∷ forms) words = IsMatch options form words ⊎ SomeMatch options forms words

-- the first of the forms that makes a line of these words makes this one
abbrev pub Makes : List (List ℕ) → List Form → List (List ℕ) → Line → Type 0
Makes options [] words line = ⊥
Makes options (form ∷ forms) words line =
    Matches options form (Some line) words
    ⊎ (((other : Line) → ¬ Matches options form (Some other) words) × Makes options forms words line)

-- the same of the first command with this word
abbrev pub CommandMatches : List Command → List ℕ → List (List ℕ) → Type 0
CommandMatches [] word words = ⊥
CommandMatches (command ∷ commands) word words =
    ((word ≡ command.word) × SomeMatch command.options command.forms words)
    ⊎ ((word ≢ command.word) × CommandMatches commands word words)

abbrev pub CommandMakes : List Command → List ℕ → List (List ℕ) → Line → Type 0
CommandMakes [] word words line = ⊥
CommandMakes (command ∷ commands) word words line =
    ((word ≡ command.word) × Makes command.options command.forms words line)
    ⊎ ((word ≢ command.word) × CommandMakes commands word words line)

-- ---- lines

-- the words are of a form, or none
abbrev pub IsWhole : List Command → List (List ℕ) → Type 0
IsWhole commands [] = Unit {0}
IsWhole commands (word ∷ words) = CommandMatches commands word words

-- the words are this line
abbrev pub IsLine : List Command → List (List ℕ) → Line → Type 0
IsLine commands [] line = line ≡ Silent
IsLine commands (word ∷ words) line = CommandMakes commands word words line

-- a front of what has this property
abbrev pub Begins : (List (List ℕ) → Type 0) → List (List ℕ) → Type 0
Begins Has words = (more : List (List ℕ)) × Has (words ++ more)

abbrev pub texts_of : List WordAt → List (List ℕ)
texts_of words = map (λ word. word.text) words

-- The word at this offset can't stand behind those before it, behind which others can.
pub record IsWrongWord (commands : List Command) (words : List WordAt) (at : ℕ) : Type 0 where
  pub before : List WordAt
  pub word : WordAt
  pub behind : List WordAt
  pub stand : words ≡ before ++ (word ∷ behind)
  pub begin : Begins (IsWhole commands) (texts_of before)
  pub wrong : ¬ Begins (IsWhole commands) (texts_of before ++ (word.text ∷ []))
  pub offset : at ≡ word.at

-- The words can begin a line and are none: a word is missing where they end.
pub record LacksWord (commands : List Command) (words : List WordAt) (end at : ℕ) : Type 0 where
  pub begin : Begins (IsWhole commands) (texts_of words)
  pub no_line : (line : Line) → ¬ IsLine commands (texts_of words) line
  pub offset : at ≡ end

-- the first place, from the left, where the words of a line of so many bytes leave the language
abbrev pub IsFirstWrong : List Command → List WordAt → ℕ → ℕ → Type 0
IsFirstWrong commands words end at = IsWrongWord commands words at ⊎ LacksWord commands words end at

-- ---- bytes

-- from space to `~`
abbrev pub IsPrintable : ℕ → Type 0
IsPrintable byte = (0x20 ≤ byte) × (byte ≤ 0x7e)

pub record IsFirstUnprintable (bytes : List ℕ) (at : ℕ) : Type 0 where
  pub within : at < length bytes
  pub before : (k : ℕ) → k < at → IsPrintable (slice_index bytes k)
  pub here : ¬ IsPrintable (slice_index bytes at)

abbrev pub IsComment : List ℕ → Type 0
IsComment bytes = (rest : List ℕ) × ((bytes ≡ codes "#" ++ rest) ⊎ (bytes ≡ codes "<" ++ rest))

-- printable bytes that are no comment
pub record IsPlain (bytes : List ℕ) : Type 0 where
  pub printable : (k : ℕ) → k < length bytes → IsPrintable (slice_index bytes k)
  pub no_comment : ¬ IsComment bytes
