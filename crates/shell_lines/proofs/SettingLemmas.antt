-- An option's words give just the setting that they spell, and each kind of option has words.
use Rattle.std.proofs.Common.{◌≡◌, ◌⊎◌, if◌then◌else◌, ℕ, ◌^◌, Option, Some, None, inl, inr, Bool, true, false, eqb, length, arith, lit<, lit≤, List, [], ◌∷◌, ◌++◌, refl, sym, ◌∙◌, ap, subst}
use Rattle.std.specs.Prelude.{nat_lt, nat_le}
use Rattle.std.specs.Char.{is_digit, digit_value}
use Rattle.std.specs.List.{list_any, list_all, AllByRecursion}
use Rattle.std.specs.Option.{option_map}
use Rattle.std.specs.Str.Parse.{AllDigits, digits_value}
use Rattle.std.specs.Fmt.{decimal, digits}
use Rattle.std.specs.Str.{bytes_eq}
use Rattle.std.proofs.lemmas.Bool.Decides.{eqb_tells, nat_tests}
use Rattle.std.proofs.lemmas.Slice.Eq.{bytes_eq-Decides}
use lib.Chars.{codes}
use Rattle.dataset_tree.specs.Suite.{suite_name}
use Rattle.dataset_tree.specs.declared.kinds.Suite.{Suite}
use Rattle.dataset_tree.specs.declared.kinds.Suite.TheVariants.{Aes128Gcm, Aes192Gcm, Aes256Gcm}
use Rattle.dataset_tree.specs.declared.kinds.Format.{Format}
use Rattle.dataset_tree.specs.declared.kinds.Format.TheVariants.{Raw, Hex, Passphrase}
use Rattle.encryption_roots.specs.PathText.{is_path, path_of}
use Rattle.encryption_roots.specs.RecordSize.{IsRecordSize}
use Rattle.encryption_roots.specs.declared.props.Location.{Location}
use Rattle.encryption_roots.specs.declared.props.Location.TheVariants.{Prompt, File}
use Rattle.shell_lines.specs.declared.setting.OptionKind.{OptionKind}
use Rattle.shell_lines.specs.declared.setting.OptionKind.TheVariants as kinds
use Rattle.shell_lines.specs.declared.setting.Setting.{Setting}
use Rattle.shell_lines.specs.declared.setting.Setting.TheVariants.{Encryption, KeyFormat, KeyLocation, Iterations, RecordSize, CheckOnly, LoadFrom, Recursive, AllRoots, LoadFirst, Inherit}
use Rattle.shell_lines.specs.Settings.{dash, key, kind_of, number_of, file_of, location_of, suite_value, format_value, place_value, iterations_value, record_size_value, key_value, load_from, lone_setting, setting_of}
use Rattle.shell_lines.specs.Reading.{is_same}
use Rattle.shell_lines.specs.Language.{format_name, IsLocation, IsNumber, IsSpelled}
use Rattle.shell_lines.proofs.FrontLemmas.{by_front, by_text}

-- What is spelled is given.

suite_given : (value : List ℕ) (suite : Suite) → (value ≡ suite_name suite) ⊎ ((value ≡ codes "on") × (suite ≡ Aes256Gcm)) → suite_value value ≡ Some (Encryption suite)
suite_given value suite (inr h) = rw (h.0, h.1) refl
suite_given value Aes128Gcm (inl e) = rw e refl
suite_given value Aes192Gcm (inl e) = rw e refl
suite_given value Aes256Gcm (inl e) = rw e refl

one_power : (size : ℕ) (P : ℕ → Type 0) (powers : List ℕ) → list_any (λ k. eqb size (2 ^ k)) powers ≡ true → AllByRecursion (λ k. P (2 ^ k)) powers → P size
one_power size P [] e all = cc
one_power size P (k ∷ powers) e all =
    elim (eqb_tells size (2 ^ k)) [
      | inl same ↦ subst P (sym same.1) all.0
      | inr other ↦ one_power size P powers (rw other.0 at e) all.1
    ]

size_given : (size : ℕ) → IsRecordSize size → record_size_value (decimal size) ≡ Some (RecordSize size)
unfolding digits
size_given size h =
    one_power size (λ n. record_size_value (decimal n) ≡ Some (RecordSize n)) (9 ∷ 10 ∷ 11 ∷ 12 ∷ 13 ∷ 14 ∷ 15 ∷ 16 ∷ 17 ∷ []) h
    (refl, (refl, (refl, (refl, (refl, (refl, (refl, (refl, (refl, tt)))))))))

path_given : (path : List ℕ) → is_path path ≡ true → path_of path ≡ Some path
path_given path e = rw e refl

format_given : (format : Format) → format_value (format_name format) ≡ Some (KeyFormat format)
format_given Raw = refl
format_given Hex = refl
format_given Passphrase = refl

location_given : (word : List ℕ) (place : Location) → IsLocation word place → location_of word ≡ Some place
location_given word Prompt h = rw h refl
location_given word (File path) h = rw h.0 (ap file_of (path_given path h.1))

all_digits : (word : List ℕ) → AllDigits 10 word → list_all (λ byte. is_digit byte 10) word ≡ true
all_digits [] all = refl
all_digits (byte ∷ word) all =
    let digit : nat_lt (digit_value byte) 10 ≡ true = grind (arith, nat_tests) in
    rw digit (all_digits word all.1)

pub number_given : (word : List ℕ) (number : ℕ) → IsNumber word number → number_of word ≡ Some number
number_given word number h =
    let some : nat_le 1 (length word) ≡ true = grind (arith, nat_tests) in
    let short : nat_le (length word) 10 ≡ true = grind (arith, nat_tests) in
    rw (some, short, all_digits word h.digits.1) (ap Some (sym h.is))

pub setting_given : (word : Option (List ℕ)) (setting : Setting) → IsSpelled word setting → setting_of (dash (kind_of setting)) word ≡ Some setting
setting_given word (Encryption suite) h = rw h.spells (suite_given h.value suite h.is_value)
setting_given word (KeyFormat format) h = rw (h.spells, h.is_value) (format_given format)
setting_given word (KeyLocation place) h = rw h.spells (ap (option_map (λ p. KeyLocation p)) (location_given h.value place h.is_value))
setting_given word (Iterations count) h = rw h.spells (ap (option_map (λ n. Iterations n)) (number_given h.value count h.is_value))
setting_given word (RecordSize size) h = rw (h.spells, h.is_value.0) (size_given size h.is_value.1)
setting_given word CheckOnly h = rw h refl
setting_given word Recursive h = rw h refl
setting_given word AllRoots h = rw h refl
setting_given word LoadFirst h = rw h refl
setting_given word Inherit h = rw h refl
setting_given word (LoadFrom place) h = rw h.spells (ap (option_map (λ p. LoadFrom p)) (location_given h.value place h.is_value))

-- What is given is spelled.

abbrev pub IsTold : List ℕ → Option (List ℕ) → Option Setting → Type 0
IsTold first word None = Unit {0}
IsTold first word (Some setting) = IsSpelled word setting × (dash (kind_of setting) ≡ first)

abbrev IsKeyTold : List ℕ → Option Setting → Type 0
IsKeyTold text given = IsTold (codes "-o") (Some text) given

suite_is : (text value : List ℕ) → text ≡ codes "encryption=" ++ value → IsKeyTold text (suite_value value)
suite_is text value stand =
    by_text value (codes "on") (λ e same. rw e (record { value = value; spells = ap Some stand; is_value = inr (same, refl) }, refl)) (λ e other. rw e
    (by_text value (codes "aes-256-gcm") (λ f same. rw f (record { value = value; spells = ap Some stand; is_value = inl same }, refl)) (λ f other. rw f
    (by_text value (codes "aes-192-gcm") (λ g same. rw g (record { value = value; spells = ap Some stand; is_value = inl same }, refl)) (λ g other. rw g
    (by_text value (codes "aes-128-gcm") (λ h same. rw h (record { value = value; spells = ap Some stand; is_value = inl same }, refl)) (λ h other. rw h tt)))))))

format_is : (text value : List ℕ) → text ≡ codes "keyformat=" ++ value → IsKeyTold text (format_value value)
format_is text value stand =
    by_text value (codes "raw") (λ e same. rw e (record { value = value; spells = ap Some stand; is_value = same }, refl)) (λ e other. rw e
    (by_text value (codes "hex") (λ e same. rw e (record { value = value; spells = ap Some stand; is_value = same }, refl)) (λ e other. rw e
    (by_text value (codes "passphrase") (λ e same. rw e (record { value = value; spells = ap Some stand; is_value = same }, refl)) (λ e other. rw e tt)))))

-- a text is a location or it isn't, and the reading says which
by_location : {P : Type 0} (word : List ℕ) → ((place : Location) → location_of word ≡ Some place → IsLocation word place → P) → (location_of word ≡ None → P) → P
by_location word stands other =
    by_text word (codes "prompt") (λ e same. stands Prompt (rw e refl) same)
    (λ e _. by_front (codes "file://") word
    (λ path f more. by_path path (λ g. stands (File path) (rw (e, f, g) refl) (more, g)) (λ g. other (rw (e, f, g) refl)))
    (λ f. other (rw (e, f) refl)))
  where
    by_path : {P : Type 0} (path : List ℕ) → (is_path path ≡ true → P) → (is_path path ≡ false → P) → P
    by_path {P} path good bad = elim (is_path path) as (λ v. is_path path ≡ v → P) [ true ↦ good | false ↦ bad ] refl

place_is : (text value : List ℕ) → text ≡ codes "keylocation=" ++ value → IsKeyTold text (place_value value)
place_is text value stand =
    by_location value (λ place e is. rw e (record { value = value; spells = ap Some stand; is_value = is }, refl)) (λ e. rw e tt)

digits_all : (word : List ℕ) → list_all (λ byte. is_digit byte 10) word ≡ true → AllDigits 10 word
digits_all [] all = tt
digits_all (byte ∷ word) all =
    elim (nat_lt (digit_value byte) 10) as (λ v. nat_lt (digit_value byte) 10 ≡ v → AllDigits 10 (byte ∷ word)) [
      | true ↦ λ e. (grind (arith, nat_tests), digits_all word (rw e at all))
      | false ↦ λ e. let nothing : false ≡ true = rw e at all in cc
    ] refl

by_test : {P : Type 0} (test : Bool) → (test ≡ true → P) → (test ≡ false → P) → P
by_test {P} test passes fails = elim test as (λ v. test ≡ v → P) [ true ↦ passes | false ↦ fails ] refl

-- a text is a number or it isn't, and the reading says which
pub by_number : {P : Type 0} (word : List ℕ) → ((number : ℕ) → number_of word ≡ Some number → IsNumber word number → P) → (number_of word ≡ None → P) → P
by_number {P} word stands other =
    by_test (nat_le 1 (length word))
    (λ some. by_test (nat_le (length word) 10)
    (λ short. by_test (list_all (λ byte. is_digit byte 10) word)
    (λ all. stands (digits_value 10 word) (rw (some, short, all) refl)
    (record { digits = (grind (arith, nat_tests), digits_all word all); short = grind (arith, nat_tests); is = refl }))
    (λ all. other (rw (some, short, all) refl)))
    (λ short. other (rw (some, short) refl)))
    (λ some. other (rw some refl))

iterations_is : (text value : List ℕ) → text ≡ codes "pbkdf2iters=" ++ value → IsKeyTold text (iterations_value value)
iterations_is text value stand =
    by_number value (λ number e is. rw e (record { value = value; spells = ap Some stand; is_value = is }, refl)) (λ e. rw e tt)

size_is : (text value : List ℕ) → text ≡ codes "recordsize=" ++ value → IsKeyTold text (record_size_value value)
unfolding digits
size_is text value stand =
    by_text value (codes "512") (λ e same. rw e (record { value = value; spells = ap Some stand; is_value = (same, refl) }, refl)) (λ e other. rw e
    (by_text value (codes "1024") (λ e same. rw e (record { value = value; spells = ap Some stand; is_value = (same, refl) }, refl)) (λ e other. rw e
    (by_text value (codes "2048") (λ e same. rw e (record { value = value; spells = ap Some stand; is_value = (same, refl) }, refl)) (λ e other. rw e
    (by_text value (codes "4096") (λ e same. rw e (record { value = value; spells = ap Some stand; is_value = (same, refl) }, refl)) (λ e other. rw e
    (by_text value (codes "8192") (λ e same. rw e (record { value = value; spells = ap Some stand; is_value = (same, refl) }, refl)) (λ e other. rw e
    (by_text value (codes "16384") (λ e same. rw e (record { value = value; spells = ap Some stand; is_value = (same, refl) }, refl)) (λ e other. rw e
    (by_text value (codes "32768") (λ e same. rw e (record { value = value; spells = ap Some stand; is_value = (same, refl) }, refl)) (λ e other. rw e
    (by_text value (codes "65536") (λ e same. rw e (record { value = value; spells = ap Some stand; is_value = (same, refl) }, refl)) (λ e other. rw e
    (by_text value (codes "131072") (λ e same. rw e (record { value = value; spells = ap Some stand; is_value = (same, refl) }, refl)) (λ e other. rw e tt)))))))))))))))))

key_is : (text : List ℕ) → IsKeyTold text (key_value text)
key_is text =
    by_front (codes "encryption=") text (λ value e stand. rw e (suite_is text value stand)) (λ e. rw e
    (by_front (codes "keyformat=") text (λ value e stand. rw e (format_is text value stand)) (λ e. rw e
    (by_front (codes "keylocation=") text (λ value e stand. rw e (place_is text value stand)) (λ e. rw e
    (by_front (codes "pbkdf2iters=") text (λ value e stand. rw e (iterations_is text value stand)) (λ e. rw e
    (by_front (codes "recordsize=") text (λ value e stand. rw e (size_is text value stand)) (λ e. rw e tt)))))))))

place_from_is : (text : List ℕ) → IsTold (codes "-L") (Some text) (load_from text)
place_from_is text = by_location text (λ place e is. rw e (record { value = text; spells = refl; is_value = is }, refl)) (λ e. rw e tt)

lone_is : (word : List ℕ) → IsTold word None (lone_setting word)
lone_is word =
    by_text word (codes "-n") (λ e same. rw e (refl, sym same)) (λ e _. rw e
    (by_text word (codes "-r") (λ f same. rw f (refl, sym same)) (λ f _. rw f
    (by_text word (codes "-a") (λ g same. rw g (refl, sym same)) (λ g _. rw g
    (by_text word (codes "-l") (λ h same. rw h (refl, sym same)) (λ h _. rw h
    (by_text word (codes "-i") (λ i same. rw i (refl, sym same)) (λ i _. rw i tt)))))))))

pub setting_is : (first : List ℕ) (word : Option (List ℕ)) → IsTold first word (setting_of first word)
setting_is first None = lone_is first
setting_is first (Some text) =
    by_text first (codes "-o")
    (λ e same. rw e (subst (λ begun. IsTold begun (Some text) (key_value text)) (sym same) (key_is text)))
    (λ e other. rw e
    (by_text first (codes "-L")
    (λ f same. rw f (subst (λ begun. IsTold begun (Some text) (load_from text)) (sym same) (place_from_is text)))
    (λ f other. rw f tt)))

-- an option that has a word behind its first one is never that word alone
pub none_alone : (first text : List ℕ) (setting : Setting) → setting_of first (Some text) ≡ Some setting → setting_of first None ≡ None
none_alone first text setting e =
    unlone (codes "-n") refl (λ n. unlone (codes "-r") refl (λ r. unlone (codes "-a") refl (λ a.
    unlone (codes "-l") refl (λ l. unlone (codes "-i") refl (λ i. rw (n, r, a, l, i) refl)))))
  where
    -- the word isn't one behind which no setting is given
    unlone : (lone : List ℕ) → setting_of lone (Some text) ≡ None → (bytes_eq first lone ≡ false → lone_setting first ≡ None) → lone_setting first ≡ None
    unlone lone none further =
        by_text first lone
        (λ _ same. let nothing : None ≡ Some setting = sym none ∙ subst (λ word. setting_of word (Some text) ≡ Some setting) same e in cc)
        (λ f _. further f)

-- Each kind of option has words, and is known by its key.

pub record Sample (kind : OptionKind) : Type 0 where
  pub word : Option (List ℕ)
  pub setting : Setting
  pub kind_is : kind_of setting ≡ kind
  pub spelled : IsSpelled word setting

key_sample : (setting : Setting) (text : List ℕ) → IsSpelled (Some text) setting → Sample (kind_of setting)
key_sample setting text spelled = record { word = Some text; setting = setting; kind_is = refl; spelled = spelled }

pub sample : (kind : OptionKind) → Sample kind
unfolding digits
sample kinds.Encryption = key_sample (Encryption Aes256Gcm) (codes "encryption=on") (record { value = codes "on"; spells = refl; is_value = inr (refl, refl) })
sample kinds.KeyFormat = key_sample (KeyFormat Raw) (codes "keyformat=raw") (record { value = codes "raw"; spells = refl; is_value = refl })
sample kinds.KeyLocation = key_sample (KeyLocation (File (codes "/"))) (codes "keylocation=file:///") (record { value = codes "file:///"; spells = refl; is_value = (refl, refl) })
sample kinds.Iterations = key_sample (Iterations 0) (codes "pbkdf2iters=0") (record { value = codes "0"; spells = refl; is_value = record { digits = (lit< tt, (lit< tt, tt)); short = lit≤ tt; is = refl } })
sample kinds.CheckOnly = record { word = None; setting = CheckOnly; kind_is = refl; spelled = refl }
sample kinds.Recursive = record { word = None; setting = Recursive; kind_is = refl; spelled = refl }
sample kinds.AllRoots = record { word = None; setting = AllRoots; kind_is = refl; spelled = refl }
sample kinds.LoadFirst = record { word = None; setting = LoadFirst; kind_is = refl; spelled = refl }
sample kinds.Inherit = record { word = None; setting = Inherit; kind_is = refl; spelled = refl }
sample kinds.LoadFrom = key_sample (LoadFrom Prompt) (codes "prompt") (record { value = codes "prompt"; spells = refl; is_value = refl })
sample kinds.RecordSize = key_sample (RecordSize 512) (codes "recordsize=512") (record { value = codes "512"; spells = refl; is_value = (refl, refl) })

abbrev kind_by : List ℕ → Option OptionKind
kind_by text =
    if bytes_eq text (codes "encryption") then Some kinds.Encryption
    else if bytes_eq text (codes "keyformat") then Some kinds.KeyFormat
    else if bytes_eq text (codes "keylocation") then Some kinds.KeyLocation
    else if bytes_eq text (codes "pbkdf2iters") then Some kinds.Iterations
    else if bytes_eq text (codes "recordsize") then Some kinds.RecordSize
    else if bytes_eq text (codes "-n") then Some kinds.CheckOnly
    else if bytes_eq text (codes "-L") then Some kinds.LoadFrom
    else if bytes_eq text (codes "-r") then Some kinds.Recursive
    else if bytes_eq text (codes "-a") then Some kinds.AllRoots
    else if bytes_eq text (codes "-l") then Some kinds.LoadFirst
    else Some kinds.Inherit

by_its_key : (kind : OptionKind) → kind_by (key kind) ≡ Some kind
by_its_key kinds.Encryption = refl
by_its_key kinds.KeyFormat = refl
by_its_key kinds.KeyLocation = refl
by_its_key kinds.Iterations = refl
by_its_key kinds.RecordSize = refl
by_its_key kinds.CheckOnly = refl
by_its_key kinds.LoadFrom = refl
by_its_key kinds.Recursive = refl
by_its_key kinds.AllRoots = refl
by_its_key kinds.LoadFirst = refl
by_its_key kinds.Inherit = refl

pub same_kind : (kind other : OptionKind) → is_same kind other ≡ true → kind ≡ other
same_kind kind other e =
    let keys : key kind ≡ key other = (bytes_eq-Decides (key kind) (key other)).0 e in
    let found : Some kind ≡ Some other = sym (by_its_key kind) ∙ ap kind_by keys ∙ by_its_key other in
    cc

pub same_itself : (kind : OptionKind) → is_same kind kind ≡ true
same_itself kind = (bytes_eq-Decides (key kind) (key kind)).1 refl
