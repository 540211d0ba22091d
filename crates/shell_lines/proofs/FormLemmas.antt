-- A form is read as the table has it.
use Rattle.std.proofs.Common.{◌≡◌, ◌+◌, ◌≤◌, ℕ, nat_le, Option, Some, None, inl, inr, true, false, List, [], ◌∷◌, length, replicate, Result, Ok, Err, refl, sym, ap, subst, arith}
use Rattle.std.specs.List.{list_any}
use Rattle.std.specs.Str.{bytes_eq}
use Rattle.hex.specs.Hex.{decode_of}
use Rattle.hex.proofs.OnLiterals.{hex_on_literals}
use Rattle.std.specs.Result.{result_ok}
use Rattle.std.proofs.lemmas.Bool.Decides.{nat_tests}
use Rattle.std.proofs.lemmas.List.{length-replicate}
use lib.Chars.{codes}
use Rattle.encryption_roots.specs.declared.props.Prop.{Prop}
use Rattle.encryption_roots.specs.declared.props.Prop.TheVariants.{KeyStatus, Encryption, EncryptionRoot, KeyFormat, KeyLocation, Pbkdf2Iters, RecordSize}
use Rattle.shell_lines.specs.declared.line.Line.{Line}
use Rattle.shell_lines.specs.Words.{WordAt}
use Rattle.shell_lines.specs.Reading.{WordKind, a_name, a_property, the_word, a_number, some_bytes, Value, value_of, up_to, number_up_to, bytes_in, property_of}
use Rattle.shell_lines.specs.Forms.{Form, end_as, word_then, options_then, made_at, form_from}
use Rattle.shell_lines.specs.Language.{IsAmong, property_name, IsNumber, AreBytes, IsWord, Matches, Begins, texts_of}
use Rattle.shell_lines.specs.Settings.{number_of}
use Rattle.shell_lines.proofs.FrontLemmas.{by_text}
use Rattle.shell_lines.proofs.ReadLemmas.{by_bool, Has, IsRead, onto, stops_here, Front, front_of, no_word}
use Rattle.shell_lines.proofs.SettingLemmas.{by_number, number_given}
use Rattle.shell_lines.proofs.OptionRunLemmas.{can_stand, options_read, options_given}

-- ---- words

not_among : (word : List ℕ) (options : List (List ℕ)) → list_any (λ option. bytes_eq option word) options ≡ false → ¬ IsAmong word options
not_among word [] e among = among
not_among word (option ∷ options) e among =
    by_text option word
    (λ same _. let taken : true ≡ false = rw same at e in cc)
    (λ other apart. elim among [
      | inl same ↦ apart (sym same)
      | inr later ↦ not_among word options (rw other at e) later
    ])

none_among : (word : List ℕ) (options : List (List ℕ)) → (¬ IsAmong word options) → list_any (λ option. bytes_eq option word) options ≡ false
none_among word [] none = refl
none_among word (option ∷ options) none =
    by_text option word
    (λ _ same. absurd (none (inl (sym same))))
    (λ other _. rw other (none_among word options (λ later. none (inr later))))

abbrev IsNamed : List ℕ → Option Prop → Type 0
IsNamed word None = Unit {0}
IsNamed word (Some prop) = word ≡ property_name prop

property_is : (word : List ℕ) → IsNamed word (property_of word)
property_is word =
    by_text word (codes "keystatus") (λ e same. rw e same) (λ e other. rw e
    (by_text word (codes "encryption") (λ e same. rw e same) (λ e other. rw e
    (by_text word (codes "encryptionroot") (λ e same. rw e same) (λ e other. rw e
    (by_text word (codes "keyformat") (λ e same. rw e same) (λ e other. rw e
    (by_text word (codes "keylocation") (λ e same. rw e same) (λ e other. rw e
    (by_text word (codes "pbkdf2iters") (λ e same. rw e same) (λ e other. rw e
    (by_text word (codes "recordsize") (λ e same. rw e same) (λ e other. rw e tt)))))))))))))

property_given : (prop : Prop) → property_of (property_name prop) ≡ Some prop
property_given KeyStatus = refl
property_given Encryption = refl
property_given EncryptionRoot = refl
property_given KeyFormat = refl
property_given KeyLocation = refl
property_given Pbkdf2Iters = refl
property_given RecordSize = refl

up_to_is : (most value : ℕ) (word : List ℕ) (given : Option ℕ) → number_of word ≡ given → up_to most given ≡ Some value
    → ((number : ℕ) → given ≡ Some number → IsNumber word number) → IsNumber word value × (value ≤ most)
up_to_is most value word None e told is = absurd (let other : None ≡ Some value = told in cc)
up_to_is most value word (Some number) e told is =
    by_bool (nat_le number most)
    (λ below.
    let taken : Some number ≡ Some value = rw below at told in
    let same : number ≡ value = cc in
    (subst (IsNumber word) same (is number refl), (let bound : number ≤ most = grind (arith, nat_tests) in subst (λ n. n ≤ most) same bound)))
    (λ above. let none : None ≡ Some value = rw above at told in absurd (cc))

number_is : (most : ℕ) (word : List ℕ) (value : ℕ) → number_up_to most word ≡ Some value → IsNumber word value × (value ≤ most)
number_is most word value e =
    by_number word
    (λ number is number_here. up_to_is most value word (Some number) is (rw is at e) (λ other same. (let equal : number ≡ other = cc in subst (IsNumber word) equal number_here)))
    (λ none. let nothing : None ≡ Some value = rw none at e in absurd (cc))

ok_is : {E : Type 0} (given : Result (List ℕ) E) (value : List ℕ) → result_ok given ≡ Some value → given ≡ Ok value
ok_is (Ok found) value e = let same : found ≡ value = cc in ap Ok same
ok_is (Err stop) value e = absurd (let nothing : None ≡ Some value = e in cc)

bytes_are : (word value : List ℕ) → bytes_in word ≡ Some value → AreBytes word value
bytes_are word value e =
    by_bool (nat_le 2 (length word))
    (λ some. record {
      some = grind (arith, nat_tests);
      digits = ok_is (decode_of word) value (rw some at e);
    })
    (λ few. let nothing : None ≡ Some value = rw few at e in absurd (cc))

word_is : (options : List (List ℕ)) (kind : WordKind) (word : List ℕ) (value : Value kind) → value_of options kind word ≡ Some value → IsWord options kind word value
word_is options a_name word name e =
    by_bool (list_any (λ option. bytes_eq option word) options)
    (λ option. let none : None ≡ Some name = rw option at e in cc)
    (λ other. let taken : Some word ≡ Some name = rw other at e in let same : word ≡ name = cc in (same, not_among word options other))
word_is options a_property word prop e = subst (IsNamed word) e (property_is word)
word_is options (a_number most) word value e = number_is most word value e
word_is options some_bytes word value e = bytes_are word value e
word_is options (the_word text) word value e =
    by_text word text (λ _ same. same) (λ other _. let none : None ≡ Some value = rw other at e in cc)

word_given : (options : List (List ℕ)) (kind : WordKind) (word : List ℕ) (value : Value kind) → IsWord options kind word value → value_of options kind word ≡ Some value
word_given options a_name word name h = rw (none_among word options h.1) (ap Some h.0)
word_given options a_property word prop h = rw h (property_given prop)
word_given options (a_number most) word value h =
    let below : nat_le value most ≡ true = grind (arith, nat_tests) in
    rw (number_given word value h.0, below) refl
word_given options some_bytes word value h =
    let some : nat_le 2 (length word) ≡ true = grind (arith, nat_tests) in
    rw (some, h.digits) refl
word_given options (the_word text) word value h = by_text word text (λ same _. rw same refl) (λ _ apart. absurd (apart h))

-- a text that is longer than each of these
total : List (List ℕ) → ℕ
total [] = 0
total (text ∷ texts) = length text + total texts

no_longer : (word : List ℕ) (texts : List (List ℕ)) → IsAmong word texts → length word ≤ total texts
unfolding total
no_longer word [] among = absurd among
no_longer word (text ∷ texts) (inl same) = let long : length word ≡ length text = ap length same in omega arith
no_longer word (text ∷ texts) (inr later) = let long : length word ≤ total texts = no_longer word texts later in omega arith

record WordSample (options : List (List ℕ)) (kind : WordKind) : Type 0 where
  word : List ℕ
  value : Value kind
  is : IsWord options kind word value

zero_byte : decode_of (codes "00") ≡ Ok (0 ∷ [])
unfolding hex_on_literals
zero_byte = refl

word_sample : (options : List (List ℕ)) (kind : WordKind) → WordSample options kind
word_sample options a_name =
    let letter : ℕ = 97 in
    let word : List ℕ = replicate (total options + 1) letter in
    let size : length word ≡ total options + 1 = length-replicate (total options + 1) letter in
    record { word = word; value = word; is = (refl, λ among. (let long : length word ≤ total options = no_longer word options among in absurd (omega arith))) }
word_sample options a_property = record { word = codes "keystatus"; value = KeyStatus; is = refl }
word_sample options (a_number most) = record {
  word = codes "0";
  value = 0;
  is = (record { digits = (omega arith, (omega arith, tt)); short = omega arith; is = refl }, omega arith);
}
word_sample options some_bytes = record { word = codes "00"; value = 0 ∷ []; is = record { some = omega arith; digits = zero_byte } }
word_sample options (the_word text) = record { word = text; value = tt; is = refl }

-- ---- forms

-- some words are of the form
pub completes : (options : List (List ℕ)) (form : Form) → Begins (Has (Matches options form)) []
completes options (end_as made) = ([], (made, (refl, refl)))
completes options (word_then kind next) =
    let s : WordSample options kind = word_sample options kind in
    let rest : Begins (Has (Matches options (next s.value))) [] = completes options (next s.value) in
    (s.word ∷ rest.0, (rest.1.0, (s.word, rest.0, s.value, refl, s.is, rest.1.1)))
completes options (options_then kinds next) = can_stand kinds (λ settings. Matches options (next settings)) [] (λ settings. completes options (next settings))

by_value : {A P : Type 0} (given : Option A) → ((value : A) → given ≡ Some value → P) → (given ≡ None → P) → P
by_value {A} {P} given some none = elim given as (λ v. given ≡ v → P) [ None ↦ none | Some value ↦ some value ] refl

pub form_read : (options : List (List ℕ)) (form : Form) (words : List WordAt) → IsRead (Matches options form) (λ end more. form_from end options form more) words
form_read options (end_as made) [] = inl (made, (refl, refl), λ end. refl)
form_read options (end_as made) (word ∷ words) =
    stops_here (Matches options (end_as made)) (λ end more. form_from end options (end_as made) more) word words (completes options (end_as made)) (λ end more. refl)
form_read options (word_then kind next) [] = inr (inr (record { begin = completes options (word_then kind next); missing = λ end. refl }))
form_read options (word_then kind next) (word ∷ words) =
    by_value (value_of options kind word.text)
    (λ value e. onto (Matches options (word_then kind next)) (Matches options (next value))
    (λ end more. form_from end options (word_then kind next) more) (λ end more. form_from end options (next value) more) word words
    (λ end at more. rw e refl)
    (λ made more h. (word.text, more, value, refl, word_is options kind word.text value e, h))
    (form_read options (next value) words))
    (λ e. stops_here (Matches options (word_then kind next)) (λ end more. form_from end options (word_then kind next) more) word words (completes options (word_then kind next)) (λ end more. rw e refl))
form_read options (options_then kinds next) words =
    options_read kinds (λ settings. Matches options (next settings)) (λ settings end more. form_from end options (next settings) more)
    (λ settings. completes options (next settings)) (λ settings more. form_read options (next settings) more) None [] words tt

pub form_given : (options : List (List ℕ)) (form : Form) (end : ℕ) (words : List WordAt) (made : Option Line) → Matches options form made (texts_of words) → form_from end options form words ≡ made_at end made
form_given options (end_as told) end words made h =
    let none : words ≡ [] = no_word words h.0 in
    rw (none, h.1) refl
form_given options (word_then kind next) end words made (word, rest, value, stand, is, h) =
    let f : Front words word rest = front_of words word rest stand in
    rw (f.stand, word_given options kind word value is)
    (form_given options (next value) end f.rest made (subst (Matches options (next value) made) (sym f.behind_is) h))
form_given options (options_then kinds next) end words made h =
    options_given kinds (λ settings. Matches options (next settings)) (λ settings end more. form_from end options (next settings) more) end made
    (λ settings more m. form_given options (next settings) end more made m) h.spelled [] words h.rest h.stand h.new h.none_next h.behind
