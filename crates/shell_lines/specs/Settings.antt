-- The options of the language: the word that begins each, and the setting that its words spell.
use Rattle.std.specs.Prelude.{ℕ, ◌||◌, ◌&&◌, ◌==◌, nat_le, List, [], ◌∷◌, length, if◌then◌else◌}
use Rattle.std.specs.declared.option.Option.{Option}
use Rattle.std.specs.declared.option.Option.TheVariants.{Some, None}
use Rattle.std.specs.Char.{is_digit}
use Rattle.std.specs.List.{fold, list_all}
use Rattle.std.specs.Option.{option_map}
use Rattle.std.specs.Str.{bytes_eq}
use Rattle.std.specs.Str.Parse.{digits_value}
use lib.Chars.{codes}
use Rattle.dataset_tree.specs.declared.kinds.Suite.TheVariants.{Aes128Gcm, Aes192Gcm, Aes256Gcm}
use Rattle.dataset_tree.specs.declared.kinds.Format.TheVariants.{Raw, Hex, Passphrase}
use Rattle.encryption_roots.specs.Options.{no_options}
use Rattle.encryption_roots.specs.PathText.{path_of}
use Rattle.encryption_roots.specs.declared.props.Location.{Location}
use Rattle.encryption_roots.specs.declared.props.Location.TheVariants.{Prompt, File}
use Rattle.encryption_roots.specs.declared.props.Options.{Options}
use Rattle.shell_lines.specs.declared.setting.OptionKind.{OptionKind}
use Rattle.shell_lines.specs.declared.setting.OptionKind.TheVariants as kinds
use Rattle.shell_lines.specs.declared.setting.Setting.{Setting}
use Rattle.shell_lines.specs.declared.setting.Setting.TheVariants.{Encryption, KeyFormat, KeyLocation, Iterations, RecordSize, CheckOnly, LoadFrom, Recursive, AllRoots, LoadFirst, Inherit}

-- the word that begins an option of this kind
abbrev pub dash : OptionKind → List ℕ
dash kinds.Encryption = codes "-o"
dash kinds.KeyFormat = codes "-o"
dash kinds.KeyLocation = codes "-o"
dash kinds.Iterations = codes "-o"
dash kinds.RecordSize = codes "-o"
dash kinds.CheckOnly = codes "-n"
dash kinds.LoadFrom = codes "-L"
dash kinds.Recursive = codes "-r"
dash kinds.AllRoots = codes "-a"
dash kinds.LoadFirst = codes "-l"
dash kinds.Inherit = codes "-i"

-- what tells this kind from the others
abbrev pub key : OptionKind → List ℕ
key kinds.Encryption = codes "encryption"
key kinds.KeyFormat = codes "keyformat"
key kinds.KeyLocation = codes "keylocation"
key kinds.Iterations = codes "pbkdf2iters"
key kinds.RecordSize = codes "recordsize"
key kinds.CheckOnly = codes "-n"
key kinds.LoadFrom = codes "-L"
key kinds.Recursive = codes "-r"
key kinds.AllRoots = codes "-a"
key kinds.LoadFirst = codes "-l"
key kinds.Inherit = codes "-i"

-- the kind of option that makes this setting
abbrev pub kind_of : Setting → OptionKind
kind_of (Encryption suite) = kinds.Encryption
kind_of (KeyFormat format) = kinds.KeyFormat
kind_of (KeyLocation place) = kinds.KeyLocation
kind_of (Iterations count) = kinds.Iterations
kind_of (RecordSize size) = kinds.RecordSize
kind_of CheckOnly = kinds.CheckOnly
kind_of (LoadFrom place) = kinds.LoadFrom
kind_of Recursive = kinds.Recursive
kind_of AllRoots = kinds.AllRoots
kind_of LoadFirst = kinds.LoadFirst
kind_of Inherit = kinds.Inherit

-- what stands behind a front in a text
abbrev pub behind : List ℕ → List ℕ → Option (List ℕ)
behind [] text = Some text
behind (byte ∷ front) [] = None
behind (byte ∷ front) (first ∷ text) = if first == byte then behind front text else None

-- What a function reads behind a front, and else another reading.
abbrev pub read_behind : {A : Type 0} → Option (List ℕ) → (List ℕ → Option A) → Option A → Option A
read_behind None read other = other
read_behind (Some value) read other = read value

-- The number of a text of 1 to 10 decimal digits.

abbrev pub decimal_of : List ℕ → Option ℕ
decimal_of text =
    if list_all (λ byte. is_digit byte 10) text then Some (digits_value 10 text) else None

abbrev pub number_of : List ℕ → Option ℕ
number_of text = if nat_le 1 (length text) && nat_le (length text) 10 then decimal_of text else None

-- The location that a word LOC spells.

abbrev pub file_of : Option (List ℕ) → Option Location
file_of path = option_map (λ path. File path) path

abbrev pub location_of : List ℕ → Option Location
location_of word =
    if bytes_eq word (codes "prompt") then Some Prompt
    else read_behind (behind (codes "file://") word) (λ path. file_of (path_of path)) None

-- The setting of each key with a value.

abbrev pub suite_value : List ℕ → Option Setting
suite_value value =
    if bytes_eq value (codes "on") || bytes_eq value (codes "aes-256-gcm") then Some (Encryption Aes256Gcm)
    else if bytes_eq value (codes "aes-192-gcm") then Some (Encryption Aes192Gcm)
    else if bytes_eq value (codes "aes-128-gcm") then Some (Encryption Aes128Gcm)
    else None

abbrev pub format_value : List ℕ → Option Setting
format_value value =
    if bytes_eq value (codes "raw") then Some (KeyFormat Raw)
    else if bytes_eq value (codes "hex") then Some (KeyFormat Hex)
    else if bytes_eq value (codes "passphrase") then Some (KeyFormat Passphrase)
    else None

abbrev pub place_value : List ℕ → Option Setting
place_value value = option_map (λ place. KeyLocation place) (location_of value)

abbrev pub iterations_value : List ℕ → Option Setting
iterations_value value = option_map (λ count. Iterations count) (number_of value)

abbrev pub record_size_value : List ℕ → Option Setting
record_size_value value =
    if bytes_eq value (codes "512") then Some (RecordSize 512)
    else if bytes_eq value (codes "1024") then Some (RecordSize 1024)
    else if bytes_eq value (codes "2048") then Some (RecordSize 2048)
    else if bytes_eq value (codes "4096") then Some (RecordSize 4096)
    else if bytes_eq value (codes "8192") then Some (RecordSize 8192)
    else if bytes_eq value (codes "16384") then Some (RecordSize 16384)
    else if bytes_eq value (codes "32768") then Some (RecordSize 32768)
    else if bytes_eq value (codes "65536") then Some (RecordSize 65536)
    else if bytes_eq value (codes "131072") then Some (RecordSize 131072)
    else None

-- the setting that a word KEY=VALUE spells
abbrev pub key_value : List ℕ → Option Setting
key_value word =
    read_behind (behind (codes "encryption=") word) suite_value
    (read_behind (behind (codes "keyformat=") word) format_value
    (read_behind (behind (codes "keylocation=") word) place_value
    (read_behind (behind (codes "pbkdf2iters=") word) iterations_value
    (read_behind (behind (codes "recordsize=") word) record_size_value None))))

-- the setting of `-L` with the word behind it
abbrev pub load_from : List ℕ → Option Setting
load_from word = option_map (λ place. LoadFrom place) (location_of word)

-- the setting that a word spells without another one behind it
abbrev pub lone_setting : List ℕ → Option Setting
lone_setting word =
    if bytes_eq word (codes "-n") then Some CheckOnly
    else if bytes_eq word (codes "-r") then Some Recursive
    else if bytes_eq word (codes "-a") then Some AllRoots
    else if bytes_eq word (codes "-l") then Some LoadFirst
    else if bytes_eq word (codes "-i") then Some Inherit
    else None

-- The setting that an option's words spell: the word that begins it, and the one behind, where it has one.
abbrev pub setting_of : List ℕ → Option (List ℕ) → Option Setting
setting_of first None = lone_setting first
setting_of first (Some word) =
    if bytes_eq first (codes "-o") then key_value word
    else if bytes_eq first (codes "-L") then load_from word
    else None

abbrev pub with_setting : Options → Setting → Options
with_setting options (Encryption suite) = record options { suite = Some suite }
with_setting options (KeyFormat format) = record options { format = Some format }
with_setting options (KeyLocation place) = record options { place = Some place }
with_setting options (Iterations count) = record options { iters = Some count }
with_setting options (RecordSize size) = record options { block = Some size }
with_setting options CheckOnly = options
with_setting options (LoadFrom place) = options
with_setting options Recursive = options
with_setting options AllRoots = options
with_setting options LoadFirst = options
with_setting options Inherit = options

abbrev pub options_with : List Setting → Options
options_with settings = fold with_setting no_options settings

-- The location that `-L` sets, in place of the one that was set.

abbrev pub with_place : Option Location → Setting → Option Location
with_place place (LoadFrom other) = Some other
with_place place setting = place

abbrev pub load_place : List Setting → Option Location
load_place settings = fold with_place None settings
