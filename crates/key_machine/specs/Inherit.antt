-- `change-key -i`: a root uses its parent's key again. The records of the families that it owned are
-- written anew under that key, with the same master keys.
use Rattle.std.specs.Prelude.{ℕ, Bool, true, not, ◌&&◌, ◌==◌, List, [], ◌∷◌, map, is_none, if◌then◌else◌, Ok}
use Rattle.std.specs.declared.option.Option.{Option}
use Rattle.std.specs.declared.option.Option.TheVariants.{Some, None}
use Rattle.std.specs.Option.{option_and_then, option_map}
use Rattle.dataset_tree.specs.declared.refusal.Refusal.{Refusal}
use Rattle.dataset_tree.specs.declared.refusal.Refusal.TheVariants.{NoSuch, NotEncrypted, NotRoot, IsClone, KeyUnavailable, EntropyFault, NoEncryptedParent, WrongKey}
use Rattle.dataset_tree.specs.declared.tree.Row.{Row}
use Rattle.dataset_tree.specs.Refusal.{number_of}
use Rattle.dataset_tree.specs.Tree.{row_of, row_named}
use Rattle.encryption_roots.specs.declared.kit.LineKit.{LineKit}
use Rattle.encryption_roots.specs.ById.{without_id}
use Rattle.key_machine.specs.Create.{has_parent_key, parent_key}
use Rattle.key_machine.specs.Plain.{Plain, Ciphers, owner_of, is_encrypted_row, owned}
use Rattle.key_machine.specs.Refusals.{is_root_row}
use Rattle.key_machine.specs.Rekey.{is_clone, has_key_row, old_place, old_key, old_wrong, rewrapped, told_anew, with_records}
use Rattle.key_machine.specs.Reply.{Stepped, Done, refused}
use Rattle.key_machine.specs.Told.{Wanted, Told, nothing_told, no_key, seed_of}

-- ---- the parent

abbrev pub row_above : Plain → Option Row → Option Row
row_above p row = option_and_then (λ found. row_of found.parent p.tree.rows) row

-- ---- refusals

-- whether the present key, which is the root's own, is to be fetched
abbrev pub fetches_own : Plain → Bool → Option Row → Bool
fetches_own p load_first row = load_first && not (has_key_row p row)

-- Where the present key is to be fetched, its faults and that of a record come before a parent whose
-- key isn't loaded.
abbrev pub inherit_cases : Plain → List ℕ → Bool → List (Bool × Refusal)
inherit_cases p name load_first =
    let row = row_named name p.tree.rows in
    (is_none row, NoSuch)
    ∷ (not (is_encrypted_row row), NotEncrypted)
    ∷ (is_clone row, IsClone)
    ∷ (not (is_root_row p row), NotRoot)
    ∷ (not (is_encrypted_row (row_above p row)), NoEncryptedParent)
    ∷ (not load_first && not (has_key_row p row), KeyUnavailable)
    ∷ (not (fetches_own p load_first row) && not (has_parent_key p (row_above p row)), KeyUnavailable)
    ∷ []

abbrev pub unless_seed : Refusal → Option Refusal
unless_seed why = if number_of why == number_of EntropyFault then None else Some why

-- a fault of the old key, and none of the seed
abbrev pub key_fault : Told → Option Refusal
key_fault told = option_and_then unless_seed told.fault

-- the old key's, that of a record that doesn't open under it, that the parent's owner has no key
-- loaded, and the seed's
abbrev pub inherit_material : Plain → List ℕ → Told → List (Option Refusal)
inherit_material p name told =
    key_fault told
    ∷ option_map (λ dataset. WrongKey dataset) told.wrong
    ∷ (if has_parent_key p (row_above p (row_named name p.tree.rows)) then None else Some KeyUnavailable)
    ∷ told.fault
    ∷ []

-- ---- takings

abbrev pub inherit_wanted : Plain → List ℕ → Bool → Wanted
inherit_wanted p name load_first =
    record { old_place = old_place p load_first (row_named name p.tree.rows); new_place = None; seed = true }

-- ---- what they tell; the key that is inherited isn't told

abbrev pub key_above : Plain → ℕ → List ℕ
key_above p id = parent_key p (row_above p (row_of id p.tree.rows))

abbrev pub told_inherited : Ciphers → Plain → ℕ → Bool → (old new seed : List ℕ) → Told
told_inherited c p id load_first old new seed = record {
  fault = None;
  wrong = old_wrong c p id load_first old;
  key = no_key;
  salt = 0;
  wrapped = rewrapped c seed old new 0 (owned p id);
}

abbrev pub told_inherit : Ciphers → Plain → Bool → LineKit → Option ℕ → Told
told_inherit c p load_first kit None = nothing_told
told_inherit c p load_first kit (Some id) =
    told_anew (old_wrong c p id load_first) (told_inherited c p id load_first)
    (old_key c p id load_first kit.old_key) (Ok (key_above p id)) (seed_of kit.seed)

-- the families whose records it writes, and the key under which these will stand
abbrev pub inherit_families : Plain → Option ℕ → List ℕ
inherit_families p None = []
inherit_families p (Some id) = map (λ entry. entry.0) (owned p id)

abbrev pub inherit_key : Plain → Option ℕ → List ℕ
inherit_key p None = no_key
inherit_key p (Some id) = key_above p id

-- ---- effect

-- The dataset is no root, its own key is no longer loaded, and each family that it owned has its
-- record from those written.
abbrev pub inherited : Plain → ℕ → Told → Plain
inherited p id told = record p {
  roots = without_id id p.roots;
  wrapped = with_records (owner_of p) id told.wrapped p.wrapped;
  loaded = without_id id p.loaded;
}

abbrev pub inherit_done : Plain → Told → Option ℕ → Stepped
inherit_done p told None = refused p NoSuch
inherit_done p told (Some id) = record { state = inherited p id told; reply = Done }
