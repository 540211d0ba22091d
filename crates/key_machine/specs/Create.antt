-- `create`: a dataset, which is a root where the options have a key format, and inherits its parent's key
-- below an encrypted parent.
use Rattle.std.specs.Prelude.{ℕ, Bool, true, false, not, ◌&&◌, ◌||◌, ◌+◌, nat_lt, nat_le, List, [], ◌∷◌, length, slice_get, is_some, is_none, unwrap_or, if◌then◌else◌, Result, Ok, Err}
use Rattle.std.specs.declared.option.Option.{Option}
use Rattle.std.specs.declared.option.Option.TheVariants.{Some, None}
use Rattle.std.specs.Option.{option_and_then}
use Rattle.byte_fields.specs.LittleEndian.{little_endian_value}
use Rattle.dataset_tree.specs.declared.kinds.Format.{Format}
use Rattle.dataset_tree.specs.declared.kinds.Format.TheVariants.{Raw, Hex, Passphrase}
use Rattle.dataset_tree.specs.declared.kinds.Kind.TheVariants.{Plain as PlainKind, Crypt}
use Rattle.dataset_tree.specs.declared.kinds.Suite.{Suite}
use Rattle.dataset_tree.specs.declared.kinds.Suite.TheVariants.{Aes256Gcm}
use Rattle.dataset_tree.specs.declared.refusal.Refusal.{Refusal}
use Rattle.dataset_tree.specs.declared.refusal.Refusal.TheVariants.{Exists, NoParent, KeyUnavailable, Full, BadIters, BadOptions}
use Rattle.dataset_tree.specs.declared.tree.Row.{Row}
use Rattle.dataset_tree.specs.SetName.{parent_name}
use Rattle.dataset_tree.specs.Suite.{suite_numbered, suite_key_len}
use Rattle.dataset_tree.specs.Tree.{row_named, parent_in, with_row}
use Rattle.encryption_roots.specs.declared.kit.LineKit.{LineKit}
use Rattle.encryption_roots.specs.declared.props.Location.TheVariants.{Prompt}
use Rattle.encryption_roots.specs.declared.props.Options.{Options}
use Rattle.encryption_roots.specs.declared.props.Props.{Props}
use Rattle.encryption_roots.specs.ById.{at_id, with_id}
use Rattle.encryption_roots.specs.Owners.{family}
use Rattle.salt_rotation.specs.Places.{master_place, hmac_place, guid_place, salt_place, vector_place}
use Rattle.key_machine.specs.Limits.{max_datasets, max_id, max_families, min_iterations, max_iterations, default_iterations, default_record_size}
use Rattle.key_machine.specs.Plain.{Plain, Stored, Master, Ciphers, owner_of, has_key_of, is_encrypted_row}
use Rattle.key_machine.specs.Reply.{Stepped, Made}
use Rattle.key_machine.specs.Told.{Wanted, Told, no_key, nothing_told, fault_told, key_of, seed_of}

-- ---- the new dataset

-- the row of its parent
abbrev pub parent_row : Plain → List ℕ → Option Row
parent_row p name = option_and_then (λ parent. row_named parent p.tree.rows) (parent_name name)

abbrev pub is_below_encrypted : Plain → List ℕ → Bool
is_below_encrypted p name = is_encrypted_row (parent_row p name)

abbrev pub makes_root : Options → Bool
makes_root opts = is_some opts.format

abbrev pub makes_heir : Plain → List ℕ → Options → Bool
makes_heir p name opts = not (makes_root opts) && is_below_encrypted p name

abbrev pub makes_encrypted : Plain → List ℕ → Options → Bool
makes_encrypted p name opts = makes_root opts || makes_heir p name opts

-- ---- refusals

abbrev pub is_passphrase : Option Format → Bool
is_passphrase None = false
is_passphrase (Some Raw) = false
is_passphrase (Some Hex) = false
is_passphrase (Some Passphrase) = true

-- Without a key format: a key location, iterations, or a suite where nothing is inherited. With one:
-- iterations where it is no passphrase.
abbrev pub are_bad_options : Plain → List ℕ → Options → Bool
are_bad_options p name opts =
    if makes_root opts then is_some opts.iters && not (is_passphrase opts.format)
    else is_some opts.place || is_some opts.iters || is_some opts.suite && not (is_below_encrypted p name)

abbrev pub are_bad_iterations : Option ℕ → Bool
are_bad_iterations None = false
are_bad_iterations (Some iters) = nat_lt iters min_iterations || nat_lt max_iterations iters

-- whether the key under which a new dataset would stand is loaded
abbrev pub has_parent_key : Plain → Option Row → Bool
has_parent_key p None = false
has_parent_key p (Some parent) = has_key_of p (owner_of p parent.id)

abbrev pub create_cases : Plain → List ℕ → Options → List (Bool × Refusal)
create_cases p name opts =
    (is_some (row_named name p.tree.rows), Exists)
    ∷ (is_none (parent_in p.tree.rows (parent_name name)), NoParent)
    ∷ (are_bad_options p name opts, BadOptions)
    ∷ (are_bad_iterations opts.iters, BadIters)
    ∷ (makes_heir p name opts && not (has_parent_key p (parent_row p name)), KeyUnavailable)
    ∷ (nat_le max_datasets (length p.tree.rows), Full max_datasets)
    ∷ (nat_le max_id p.tree.last, Full max_id)
    ∷ (makes_encrypted p name opts && nat_le max_families (length p.wrapped), Full max_families)
    ∷ []

-- then the new key's, and then the seed's
abbrev pub create_material : Told → List (Option Refusal)
create_material told = told.fault ∷ []

-- ---- takings

-- a root's key from the command's location, else at the prompt
abbrev pub create_wanted : Plain → List ℕ → Options → Wanted
create_wanted p name opts = record {
  old_place = None;
  new_place = if makes_root opts then Some (unwrap_or opts.place Prompt) else None;
  seed = makes_encrypted p name opts;
}

-- ---- what they tell

-- the suite that a stored record names, by the byte behind its guid
abbrev pub suite_of : List ℕ → Option Suite
suite_of stored = option_and_then suite_numbered (slice_get stored 8)

abbrev pub suite_of_family : Plain → ℕ → Option Suite
suite_of_family p id = option_and_then (λ stored. suite_of stored.wrapped) (at_id id p.wrapped)

abbrev pub parent_suite : Plain → Option Row → Option Suite
parent_suite p row = option_and_then (λ parent. suite_of_family p (family p.tree.rows parent.id)) row

-- that of the options, else of the parent, else aes-256-gcm
abbrev pub new_suite : Plain → List ℕ → Options → Suite
new_suite p name opts = unwrap_or opts.suite (unwrap_or (parent_suite p (parent_row p name)) Aes256Gcm)

abbrev pub new_format : Options → Format
new_format opts = unwrap_or opts.format Raw

-- iterations for a passphrase, and none for other formats
abbrev pub new_iters : Options → ℕ
new_iters opts = if is_passphrase opts.format then unwrap_or opts.iters default_iterations else 0

-- a salt for a passphrase, where a seed was had
abbrev pub new_salt : Ciphers → Options → Result (List ℕ) Refusal → ℕ
new_salt c opts (Ok seed) =
    if is_passphrase opts.format then little_endian_value (c.seed_bytes seed salt_place 8) else 0
new_salt c opts (Err why) = 0

-- the master key that a seed's words make
abbrev pub seeded_master : Ciphers → Suite → List ℕ → Master
seeded_master c suite seed = record {
  guid = little_endian_value (c.seed_bytes seed guid_place 8);
  suite = suite;
  master = c.seed_bytes seed master_place (suite_key_len suite);
  hmac = c.seed_bytes seed hmac_place 64;
}

-- its record under a wrapping key
abbrev pub seeded_record : Ciphers → Suite → List ℕ → List ℕ → List ℕ
seeded_record c suite seed key =
    c.record_of (seeded_master c suite seed) key (c.seed_bytes seed (vector_place 0) 12)

-- the key of the parent's owner
abbrev pub parent_key : Plain → Option Row → List ℕ
parent_key p row =
    unwrap_or (option_and_then (λ root. at_id root p.loaded)
    (option_and_then (λ parent. owner_of p parent.id) row)) no_key

-- the key of a new root, or that under which an heir stands
abbrev pub create_key : Ciphers → Plain → List ℕ → Options → LineKit → Result (List ℕ) Refusal
create_key c p name opts kit =
    if makes_root opts then key_of c (new_format opts) (new_iters opts) (new_salt c opts (seed_of kit.seed)) kit.new_key
    else Ok (parent_key p (parent_row p name))

-- by that key and the seed; an heir's key isn't told
abbrev pub told_encrypted : Ciphers → Plain → List ℕ → Options → (key seed : Result (List ℕ) Refusal) → Told
told_encrypted c p name opts (Err why) seed = fault_told why
told_encrypted c p name opts (Ok key) (Err why) = fault_told why
told_encrypted c p name opts (Ok key) (Ok seed) = record {
  fault = None;
  wrong = None;
  key = if makes_root opts then key else no_key;
  salt = new_salt c opts (Ok seed);
  wrapped = (p.tree.last + 1, seeded_record c (new_suite p name opts) seed key) ∷ [];
}

abbrev pub told_create : Ciphers → Plain → List ℕ → Options → LineKit → Told
told_create c p name opts kit =
    if makes_encrypted p name opts then told_encrypted c p name opts (create_key c p name opts kit)
    (seed_of kit.seed) else nothing_told

-- ---- effect

abbrev pub new_props : Options → Told → Props
new_props opts told =
    record { format = new_format opts; place = unwrap_or opts.place Prompt; iters = new_iters opts; salt = told.salt }

-- a new family has an empty record where none was written for it
abbrev pub new_stored : ℕ → Options → Told → Stored
new_stored id opts told =
    record { wrapped = unwrap_or (at_id id told.wrapped) []; block = unwrap_or opts.block default_record_size }

abbrev pub created : Plain → List ℕ → Options → Told → Plain
created p name opts told =
    let id = p.tree.last + 1 in
    record p {
      tree = with_row p.tree name (if makes_encrypted p name opts then Crypt else PlainKind) 0;
      roots = if makes_root opts then with_id id (new_props opts told) p.roots else p.roots;
      wrapped = if makes_encrypted p name opts then with_id id (new_stored id opts told) p.wrapped else p.wrapped;
      loaded = if makes_root opts then with_id id told.key p.loaded else p.loaded;
    }

abbrev pub create_done : Plain → List ℕ → Options → Told → Stepped
create_done p name opts told = record { state = created p name opts told; reply = Made (p.tree.last + 1) }
