-- What `change-key` and `change-key -i` have in common: the present key, which they may have to
-- fetch, and the records that they write anew, under another wrapping key and with the same master
-- keys.
use Rattle.std.specs.Prelude.{ℕ, ◌+◌, Bool, false, not, ◌&&◌, ◌==◌, List, [], ◌∷◌, map, unwrap_or, if◌then◌else◌, Result, Ok, Err}
use Rattle.std.specs.declared.option.Option.{Option}
use Rattle.std.specs.declared.option.Option.TheVariants.{Some, None}
use Rattle.std.specs.Option.{option_and_then, option_map}
use Rattle.dataset_tree.specs.declared.refusal.Refusal.{Refusal}
use Rattle.dataset_tree.specs.declared.tree.Row.{Row}
use Rattle.encryption_roots.specs.declared.kit.Fetched.{Fetched}
use Rattle.encryption_roots.specs.declared.props.Location.{Location}
use Rattle.encryption_roots.specs.declared.props.Props.{Props}
use Rattle.encryption_roots.specs.ById.{at_id}
use Rattle.salt_rotation.specs.Places.{vector_place}
use Rattle.key_machine.specs.Load.{first_wrong}
use Rattle.key_machine.specs.Plain.{Plain, Stored, Master, Ciphers, owner_of, has_key, is_same, owned}
use Rattle.key_machine.specs.Told.{Told, no_key, fault_told, key_of}

-- ---- refusals

abbrev pub is_clone : Option Row → Bool
is_clone None = false
is_clone (Some row) = not (row.origin == 0)

abbrev pub has_key_row : Plain → Option Row → Bool
has_key_row p None = false
has_key_row p (Some row) = has_key p row.id

-- ---- the present key

-- the properties of the present owner, and its loaded key
abbrev pub present_props : Plain → ℕ → Option Props
present_props p id = option_and_then (λ root. at_id root p.roots) (owner_of p id)

abbrev pub present_key : Plain → ℕ → List ℕ
present_key p id = unwrap_or (option_and_then (λ root. at_id root p.loaded) (owner_of p id)) no_key

-- whether the present owner's key is to be fetched: where that is asked for, and it isn't loaded
abbrev pub fetches_old : Plain → ℕ → Bool → Bool
fetches_old p id load_first = load_first && not (has_key p id)

-- the owner's location, from which it is fetched
abbrev pub old_place : Plain → Bool → Option Row → Option Location
old_place p load_first None = None
old_place p load_first (Some row) =
    if fetches_old p row.id load_first then option_map (λ props. props.place) (present_props p row.id) else None

abbrev pub fetched_old : Ciphers → Option Props → Fetched → Result (List ℕ) Refusal
fetched_old c None fetched = Ok no_key
fetched_old c (Some props) fetched = key_of c props.format props.iters props.salt fetched

abbrev pub old_key : Ciphers → Plain → ℕ → Bool → Fetched → Result (List ℕ) Refusal
old_key c p id load_first fetched =
    if fetches_old p id load_first then fetched_old c (present_props p id) fetched else Ok (present_key p id)

-- the first family of the present owner whose record doesn't open under a key that was fetched
abbrev pub first_wrong_of : Ciphers → Plain → List ℕ → Option ℕ → Option ℕ
first_wrong_of c p key None = None
first_wrong_of c p key (Some root) = first_wrong c key (owned p root)

abbrev pub old_wrong : Ciphers → Plain → ℕ → Bool → List ℕ → Option ℕ
old_wrong c p id load_first key = if fetches_old p id load_first then first_wrong_of c p key (owner_of p id) else None

-- ---- records anew

-- a family's record under another key, with its master key; one that doesn't open stays as it is
abbrev pub sealed_anew : Ciphers → (stored key vector : List ℕ) → Option Master → List ℕ
sealed_anew c stored key vector None = stored
sealed_anew c stored key vector (Some m) = c.record_of m key vector

-- the records of these families anew, that of number i in the line with the seed's vector i
abbrev pub rewrapped : Ciphers → (seed old new : List ℕ) → ℕ → List (ℕ × Stored) → List (ℕ × List ℕ)
rewrapped c seed old new i [] = []
rewrapped c seed old new i (entry ∷ entries) = (
  entry.0,
  sealed_anew c entry.1.wrapped new (c.seed_bytes seed (vector_place i) 12)
      (c.opens entry.1.wrapped old),
) ∷ rewrapped c seed old new (i + 1) entries

-- ---- what they tell

-- By the old key, the new one and the seed: the first fault, and the first record that doesn't open,
-- which is told where the old key has no fault; where nothing fails, what the keys and the seed make.
abbrev pub told_anew : (List ℕ → Option ℕ) → ((old new seed : List ℕ) → Told)
    → (old new seed : Result (List ℕ) Refusal) → Told
told_anew wrong tells (Err why) new seed = fault_told why
told_anew wrong tells (Ok old) (Err why) seed = record (fault_told why) { wrong = wrong old }
told_anew wrong tells (Ok old) (Ok new) (Err why) = record (fault_told why) { wrong = wrong old }
told_anew wrong tells (Ok old) (Ok new) (Ok seed) = tells old new seed

-- ---- effect

-- the record that was written for a family, of several the first; else its own stays
abbrev pub with_record : List (ℕ × List ℕ) → ℕ × Stored → Stored
with_record records entry = record entry.1 { wrapped = unwrap_or (at_id entry.0 records) entry.1.wrapped }

-- the stored records, with those that were written for the families that a root owns
abbrev pub with_records : (ℕ → Option ℕ) → ℕ → List (ℕ × List ℕ) → List (ℕ × Stored) → List (ℕ × Stored)
with_records owner root records stored =
    map (λ entry. (entry.0, if is_same root (owner entry.0) then with_record records entry else entry.1)) stored
