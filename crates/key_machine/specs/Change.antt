-- `change-key`: gives a dataset a key of its own. It becomes a root where it was none, and the records
-- of the families that it then owns are written anew under the new key, with the same master keys.
use Rattle.std.specs.Prelude.{ℕ, Bool, true, not, ◌&&◌, ◌||◌, List, [], ◌∷◌, map, is_some, is_none, unwrap_or, if◌then◌else◌, Result, Ok, Err}
use Rattle.std.specs.declared.option.Option.{Option}
use Rattle.std.specs.declared.option.Option.TheVariants.{Some, None}
use Rattle.std.specs.Option.{option_and_then, option_map}
use Rattle.byte_fields.specs.LittleEndian.{little_endian_value}
use Rattle.dataset_tree.specs.declared.kinds.Format.{Format}
use Rattle.dataset_tree.specs.declared.kinds.Format.TheVariants.{Raw}
use Rattle.dataset_tree.specs.declared.refusal.Refusal.{Refusal}
use Rattle.dataset_tree.specs.declared.refusal.Refusal.TheVariants.{NoSuch, NotEncrypted, IsClone, BadOptions, BadIters, KeyUnavailable, WrongKey}
use Rattle.dataset_tree.specs.declared.tree.Row.{Row}
use Rattle.dataset_tree.specs.Tree.{row_named}
use Rattle.encryption_roots.specs.declared.kit.LineKit.{LineKit}
use Rattle.encryption_roots.specs.declared.props.Location.{Location}
use Rattle.encryption_roots.specs.declared.props.Location.TheVariants.{Prompt}
use Rattle.encryption_roots.specs.declared.props.Options.{Options}
use Rattle.encryption_roots.specs.declared.props.Props.{Props}
use Rattle.encryption_roots.specs.ById.{at_id, with_id}
use Rattle.salt_rotation.specs.Places.{salt_place}
use Rattle.key_machine.specs.Create.{is_passphrase, are_bad_iterations}
use Rattle.key_machine.specs.Limits.{default_iterations}
use Rattle.key_machine.specs.Load.{own_place}
use Rattle.key_machine.specs.Plain.{Plain, Ciphers, owner_of, is_encrypted_row, owned}
use Rattle.key_machine.specs.Rekey.{is_clone, has_key_row, old_place, old_key, old_wrong, rewrapped, told_anew, with_records}
use Rattle.key_machine.specs.Reply.{Stepped, Done, refused}
use Rattle.key_machine.specs.Told.{Wanted, Told, nothing_told, key_of, seed_of}

-- ---- the new properties, by the dataset's own where it is a root

abbrev pub changed_format : Option Props → Options → Format
changed_format own opts = unwrap_or opts.format (unwrap_or (option_map (λ props. props.format) own) Raw)

abbrev pub changed_place : Option Props → Options → Location
changed_place own opts = unwrap_or opts.place (unwrap_or (option_map (λ props. props.place) own) Prompt)

-- those of a passphrase that stays one; another root has the default
abbrev pub kept_iters : Option Props → ℕ
kept_iters None = default_iterations
kept_iters (Some props) = if is_passphrase (Some props.format) then props.iters else default_iterations

-- iterations for a passphrase, and none for other formats
abbrev pub changed_iters : Option Props → Options → ℕ
changed_iters own opts =
    if is_passphrase (Some (changed_format own opts)) then unwrap_or opts.iters (kept_iters own) else 0

-- a new salt for a passphrase, where a seed was had
abbrev pub changed_salt : Ciphers → Option Props → Options → Result (List ℕ) Refusal → ℕ
changed_salt c own opts (Ok seed) =
    if is_passphrase (Some (changed_format own opts)) then little_endian_value (c.seed_bytes seed salt_place 8) else 0
changed_salt c own opts (Err why) = 0

abbrev pub changed_props : Option Props → Options → ℕ → Props
changed_props own opts salt =
    record {
      format = changed_format own opts;
      place = changed_place own opts;
      iters = changed_iters own opts;
      salt = salt;
    }

-- ---- refusals

-- no key format for a dataset that isn't a root, or iterations where the new format is no passphrase
abbrev pub are_bad_changes : Option Props → Options → Bool
are_bad_changes own opts =
    is_none own && is_none opts.format || is_some opts.iters && not (is_passphrase (Some (changed_format own opts)))

abbrev pub own_props : Plain → Option Row → Option Props
own_props p row = option_and_then (λ found. at_id found.id p.roots) row

abbrev pub change_cases : Plain → List ℕ → Options → Bool → List (Bool × Refusal)
change_cases p name opts load_first =
    let row = row_named name p.tree.rows in
    (is_none row, NoSuch)
    ∷ (not (is_encrypted_row row), NotEncrypted)
    ∷ (is_clone row, IsClone)
    ∷ (are_bad_changes (own_props p row) opts, BadOptions)
    ∷ (are_bad_iterations opts.iters, BadIters)
    ∷ (not load_first && not (has_key_row p row), KeyUnavailable)
    ∷ []

-- Then the old key's, that of a record that doesn't open under it, the new key's, and the seed's.
-- Where the old key has a fault no record is told wrong.
abbrev pub change_material : Told → List (Option Refusal)
change_material told = option_map (λ dataset. WrongKey dataset) told.wrong ∷ told.fault ∷ []

-- ---- takings

-- the old key from its owner's location, the new one from the command's, else from the dataset's
-- own, else at the prompt
abbrev pub change_wanted : Plain → List ℕ → Options → Bool → Wanted
change_wanted p name opts load_first = record {
  old_place = old_place p load_first (row_named name p.tree.rows);
  new_place = Some (unwrap_or opts.place (unwrap_or (own_place p name) Prompt));
  seed = true;
}

-- ---- what they tell

-- the state in which the dataset is a root
abbrev pub with_own_root : Plain → ℕ → Options → ℕ → Plain
with_own_root p id opts salt = record p { roots = with_id id (changed_props (at_id id p.roots) opts salt) p.roots }

abbrev pub told_changed : Ciphers → Plain → ℕ → Options → Bool → (old new seed : List ℕ) → Told
told_changed c p id opts load_first old new seed = record {
  fault = None;
  wrong = old_wrong c p id load_first old;
  key = new;
  salt = changed_salt c (at_id id p.roots) opts (Ok seed);
  wrapped = rewrapped c seed old new 0 (owned (with_own_root p id opts 0) id);
}

abbrev pub told_change_of : Ciphers → Plain → Options → Bool → LineKit → ℕ → Told
told_change_of c p opts load_first kit id =
    let own = at_id id p.roots in
    let seed = seed_of kit.seed in
    told_anew (old_wrong c p id load_first) (told_changed c p id opts load_first)
    (old_key c p id load_first kit.old_key)
    (key_of c (changed_format own opts) (changed_iters own opts) (changed_salt c own opts seed) kit.new_key) seed

abbrev pub told_change : Ciphers → Plain → Options → Bool → LineKit → Option ℕ → Told
told_change c p opts load_first kit None = nothing_told
told_change c p opts load_first kit (Some id) = told_change_of c p opts load_first kit id

-- the families whose records it writes
abbrev pub change_families : Plain → Options → Option ℕ → List ℕ
change_families p opts None = []
change_families p opts (Some id) = map (λ entry. entry.0) (owned (with_own_root p id opts 0) id)

-- ---- effect

-- The dataset is a root with the new properties, its key is loaded, and each family that it now owns
-- has its record from those written. A key of the former owner that was fetched serves this line
-- alone.
abbrev pub changed : Plain → ℕ → Options → Told → Plain
changed p id opts told =
    let rooted = with_own_root p id opts told.salt in
    record rooted {
      wrapped = with_records (owner_of rooted) id told.wrapped p.wrapped;
      loaded = with_id id told.key p.loaded;
    }

abbrev pub change_done : Plain → Options → Told → Option ℕ → Stepped
change_done p opts told None = refused p NoSuch
change_done p opts told (Some id) = record { state = changed p id opts told; reply = Done }
