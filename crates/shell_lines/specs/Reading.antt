-- How the words of a line are read: a word of one kind, or options in any order. What is taken comes with the
-- words behind it. Else it is wrong at AT, the offset of the first word that can't stand there, or the line's
-- length `end` where a word is missing.
use Rattle.std.specs.Prelude.{ℕ, Bool, not, ◌&&◌, nat_le, List, [], ◌∷◌, ◌++◌, length, if◌then◌else◌}
use Rattle.std.specs.declared.option.Option.{Option}
use Rattle.std.specs.declared.option.Option.TheVariants.{Some, None}
use Rattle.std.specs.List.{list_any}
use Rattle.std.specs.Result.{result_ok}
use Rattle.std.specs.Str.{bytes_eq}
use Rattle.hex.specs.Hex.{decode_of}
use lib.Chars.{codes}
use Rattle.encryption_roots.specs.declared.props.Prop.{Prop}
use Rattle.encryption_roots.specs.declared.props.Prop.TheVariants.{KeyStatus, Encryption, EncryptionRoot, KeyFormat, KeyLocation, Pbkdf2Iters, RecordSize}
use Rattle.shell_lines.specs.declared.setting.OptionKind.{OptionKind}
use Rattle.shell_lines.specs.declared.setting.Setting.{Setting}
use Rattle.shell_lines.specs.Settings.{dash, key, kind_of, number_of, setting_of}
use Rattle.shell_lines.specs.Words.{WordAt}

pub data Reading (A : Type 0) : Type 0 where
  Taken : (value : A) (words : List WordAt) → Reading A
  Wrong : (at : ℕ) → Reading A

-- ---- a word

-- a kind of word
pub data WordKind : Type 0 where
  a_name : WordKind
  a_property : WordKind
  the_word : (text : List ℕ) → WordKind
  a_number : (most : ℕ) → WordKind
  some_bytes : WordKind

-- what a word of this kind tells
abbrev pub Value : WordKind → Type 0
Value a_name = List ℕ
Value a_property = Prop
Value (the_word text) = Unit {0}
Value (a_number most) = ℕ
Value some_bytes = List ℕ

abbrev pub property_of : List ℕ → Option Prop
property_of word =
    if bytes_eq word (codes "keystatus") then Some KeyStatus
    else if bytes_eq word (codes "encryption") then Some Encryption
    else if bytes_eq word (codes "encryptionroot") then Some EncryptionRoot
    else if bytes_eq word (codes "keyformat") then Some KeyFormat
    else if bytes_eq word (codes "keylocation") then Some KeyLocation
    else if bytes_eq word (codes "pbkdf2iters") then Some Pbkdf2Iters
    else if bytes_eq word (codes "recordsize") then Some RecordSize
    else None

abbrev pub up_to : (most : ℕ) → Option ℕ → Option ℕ
up_to most None = None
up_to most (Some number) = if nat_le number most then Some number else None

-- the number of 1 to 10 decimal digits, up to a greatest one
abbrev pub number_up_to : (most : ℕ) → List ℕ → Option ℕ
number_up_to most word = up_to most (number_of word)

-- the bytes of 2 or more hexadecimal digits, of either case
abbrev pub bytes_in : List ℕ → Option (List ℕ)
bytes_in word = if nat_le 2 (length word) then result_ok (decode_of word) else None

-- What a word tells where this kind is due. An option of the command is never a name.
abbrev pub value_of : List (List ℕ) → (kind : WordKind) → List ℕ → Option (Value kind)
value_of options a_name word = if list_any (λ option. bytes_eq option word) options then None else Some word
value_of options a_property word = property_of word
value_of options (the_word text) word = if bytes_eq word text then Some tt else None
value_of options (a_number most) word = number_up_to most word
value_of options some_bytes word = bytes_in word

abbrev pub told_by : {A : Type 0} → ℕ → List WordAt → Option A → Reading A
told_by at words None = Wrong at
told_by at words (Some value) = Taken value words

abbrev pub word_from : ℕ → List (List ℕ) → (kind : WordKind) → List WordAt → Reading (Value kind)
word_from end options kind [] = Wrong end
word_from end options kind (word ∷ words) = told_by word.at words (value_of options kind word.text)

-- ---- options in any order, each at most once

abbrev pub is_same : OptionKind → OptionKind → Bool
is_same kind other = bytes_eq (key kind) (key other)

abbrev pub has_kind : List OptionKind → OptionKind → Bool
has_kind kinds kind = list_any (λ other. is_same other kind) kinds

-- one of the settings is of this kind
abbrev pub is_set : List Setting → OptionKind → Bool
is_set settings kind = list_any (λ setting. is_same (kind_of setting) kind) settings

-- the word begins an option of the set that isn't set yet
abbrev pub begins_option : List OptionKind → List Setting → List ℕ → Bool
begins_option kinds settings word = list_any (λ kind. bytes_eq word (dash kind) && not (is_set settings kind)) kinds

abbrev pub if_left : List OptionKind → List Setting → Option Setting → Option Setting
if_left kinds settings None = None
if_left kinds settings (Some setting) =
    if has_kind kinds (kind_of setting) && not (is_set settings (kind_of setting)) then Some setting else None

-- the setting that an option's words spell, where its kind is in the set and isn't set yet
abbrev pub new_setting : List OptionKind → List Setting → List ℕ → Option (List ℕ) → Option Setting
new_setting kinds settings first value = if_left kinds settings (setting_of first value)

abbrev pub set_then : {A : Type 0} → Option Setting → A → (Setting → A) → A
set_then None none next = none
set_then (Some setting) none next = next setting

-- The options that stand next, behind those that made these settings, where the value of the option that
-- `first` begins may be due.
abbrev pub options_from : ℕ → List OptionKind → (first : Option (List ℕ)) → List Setting → List WordAt
    → Reading (List Setting)
options_from end kinds None settings [] = Taken settings []
options_from end kinds (Some first) settings [] = Wrong end
options_from end kinds None settings (word ∷ words) =
    if begins_option kinds settings word.text then
    set_then (new_setting kinds settings word.text None)
    (options_from end kinds (Some word.text) settings words)
    (λ setting. options_from end kinds None (settings ++ (setting ∷ [])) words)
    else Taken settings (word ∷ words)
options_from end kinds (Some first) settings (word ∷ words) =
    set_then (new_setting kinds settings first (Some word.text))
    (Wrong word.at)
    (λ setting. options_from end kinds None (settings ++ (setting ∷ [])) words)

-- The value's word of the option that `first` begins.
abbrev pub value_from : ℕ → List OptionKind → List Setting → (first : List ℕ) → List WordAt → Reading Setting
value_from end kinds settings first [] = Wrong end
value_from end kinds settings first (word ∷ words) =
    told_by word.at words (new_setting kinds settings first (Some word.text))

-- What stands behind the word `first`, which begins an option.
abbrev pub option_from : ℕ → List OptionKind → List Setting → (first : List ℕ) → List WordAt → Reading Setting
option_from end kinds settings first words =
    set_then (new_setting kinds settings first None) (value_from end kinds settings first words)
    (λ setting. Taken setting words)
