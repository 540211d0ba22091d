-- A root that inherits its parent's key keeps the state sound, and each family's master key.
use Rattle.std.proofs.Common.{◌≡◌, ◌≢◌, ◌⊎◌, ⊎_elim, ℕ, ◌<◌, ◌≤◌, Bool, true, false, not, ◌&&◌, ◌==◌, List, [], ◌∷◌, map, Option, Some, None, IfSome, is_some, refl, ap, sym, ◌∙◌, subst, arith, if◌then◌else◌}
use Rattle.std.proofs.lemmas.Bool.Decides.{nat_tests}
use Rattle.std.specs.Prelude.{get_or, unwrap_or}
use Rattle.std.specs.Option.{option_and_then}
use Rattle.dataset_tree.specs.declared.kinds.Kind.TheVariants.{Crypt}
use Rattle.dataset_tree.specs.declared.refusal.Refusal.{Refusal}
use Rattle.dataset_tree.specs.declared.refusal.Refusal.TheVariants.{KeyUnavailable}
use Rattle.dataset_tree.specs.declared.tree.Row.{Row}
use Rattle.dataset_tree.specs.Tree.{IsTree, row_of, row_named}
use Rattle.encryption_roots.specs.declared.command.KeyCmd.TheVariants as commands
use Rattle.encryption_roots.specs.declared.props.Props.{Props}
use Rattle.encryption_roots.specs.ById.{at_id, without_id}
use Rattle.encryption_roots.proofs.ByIdLemmas.{IsRisingById-without_id, at_id-without_id, at_id-without_id_other}
use Rattle.encryption_roots.proofs.OwnerLemmas.{owner_of_other, next_of_child, ids_fall}
use Rattle.key_machine.specs.Create.{has_parent_key, parent_key}
use Rattle.key_machine.specs.Inherit.{row_above, inherit_cases, inherit_material, key_above, inherited}
use Rattle.key_machine.specs.Plain.{Plain, Stored, Master, Ciphers, owner_of, is_root, has_key, has_key_of, is_encrypted_row, is_same, owned, mkey}
use Rattle.key_machine.specs.Refusals.{first_refusal, is_root_row}
use Rattle.key_machine.specs.Rekey.{has_key_row, with_record}
use Rattle.key_machine.specs.Sound.{Sound, IsEncrypted, OpensAt}
use Rattle.key_machine.specs.Step.{refusal_of, material_refusal, target}
use Rattle.key_machine.specs.Told.{Told, no_key}
use Rattle.key_machine.specs.Fair.{AllOpen, AllKept}
use Rattle.key_machine.proofs.ChangeLaws.{IsFirst, first_named, found_id, some_id, not_same}
use Rattle.key_machine.proofs.CreateLawsCases.{encrypted_kind}
use Rattle.key_machine.proofs.CreateLawsStep.{NoneHolds, none_holds}
use Rattle.key_machine.proofs.KeyLists.{All-kept, at_id-filter}
use Rattle.key_machine.proofs.RekeyOwners.{splits, without_agrees, owner_not_above}
use Rattle.key_machine.proofs.RekeyRecords.{records_rise, records_there, records_kept, records_written, there_alike, written}

-- ---- what the state and the material don't refuse

pub record IsInheritable (p : Plain) (id : ℕ) (load_first : Bool) : Type 0 where
  pub first : IsFirst p id
  pub root : is_root p id ≡ true
  pub parent : Row
  pub above : row_of first.row.parent p.tree.rows ≡ Some parent
  pub crypt : parent.kind ≡ Crypt
  pub key : (not load_first && not (has_key p id)) ≡ false

yes_of : (b : Bool) → not b ≡ false → b ≡ true
yes_of true h = refl
yes_of false h = absurd (cc)

encrypted_row : (found : Option Row) → is_encrypted_row found ≡ true → (parent : Row) × (found ≡ Some parent) × (parent.kind ≡ Crypt)
encrypted_row None h = absurd (cc)
encrypted_row (Some parent) h = (parent, refl, encrypted_kind parent.kind h)

pub inheritable : (p : Plain) (name : List ℕ) (load_first : Bool) (id : ℕ) → IsTree p.tree → refusal_of p (commands.Inherit name load_first) ≡ None
    → target p (commands.Inherit name load_first) ≡ Some id → IsInheritable p id load_first
inheritable p name load_first id tree accepted at =
    let none : NoneHolds (inherit_cases p name load_first) = none_holds (inherit_cases p name load_first) accepted in
    let first = first_named p name id (row_named name p.tree.rows) refl tree none.0 none.1.0 none.1.1.0 at in
    let same : first.0.row.id ≡ id = found_id p id first.0.row first.0.found in
    let root : is_root p first.0.row.id ≡ true = sym (ap (λ (row : Option Row). is_root_row p row) first.1) ∙ yes_of (is_root_row p (row_named name p.tree.rows)) none.1.1.1.0 in
    let row = encrypted_row (row_above p (row_named name p.tree.rows)) (yes_of (is_encrypted_row (row_above p (row_named name p.tree.rows))) none.1.1.1.1.0) in
    record {
      first = first.0;
      root = subst (λ (m : ℕ). is_root p m ≡ true) same root;
      parent = row.0;
      above = sym (ap (λ (r : Option Row). row_above p r) first.1) ∙ row.1;
      crypt = row.2;
      key = ap (λ (m : ℕ). not load_first && not (has_key p m)) (sym same) ∙ ap (λ (r : Option Row). not load_first && not (has_key_row p r)) (sym first.1) ∙ none.1.1.1.1.1.0;
    }

-- none of a list of refusals is there
abbrev pub NoneThere : List (Option Refusal) → Type 0
NoneThere [] = Unit {0}
NoneThere (case ∷ cases) = (case ≡ None) × NoneThere cases

pub none_there : (cases : List (Option Refusal)) → first_refusal cases ≡ None → NoneThere cases
none_there [] none = tt
none_there (None ∷ cases) none = (refl, none_there cases none)
none_there (Some why ∷ cases) none = absurd (cc)

loaded_above : (has : Bool) → (if has then None else Some KeyUnavailable) ≡ None → has ≡ true
loaded_above true h = refl
loaded_above false h = absurd (cc)

pub has_above : (p : Plain) (name : List ℕ) (load_first : Bool) (told : Told) (id : ℕ) (is : IsInheritable p id load_first) → IsTree p.tree → refusal_of p (commands.Inherit name load_first) ≡ None
    → target p (commands.Inherit name load_first) ≡ Some id → material_refusal p (commands.Inherit name load_first) told ≡ None → has_parent_key p (Some is.parent) ≡ true
has_above p name load_first told id is tree accepted at material =
    let none : NoneHolds (inherit_cases p name load_first) = none_holds (inherit_cases p name load_first) accepted in
    let first = first_named p name id (row_named name p.tree.rows) refl tree none.0 none.1.0 none.1.1.0 at in
    let has : has_parent_key p (row_above p (row_named name p.tree.rows)) ≡ true = loaded_above (has_parent_key p (row_above p (row_named name p.tree.rows))) (none_there (inherit_material p name told) material).1.1.0 in
    let both : Some first.0.row ≡ Some is.first.row = sym first.0.found ∙ is.first.found in
    let same : first.0.row ≡ is.first.row = cc in
    let there : row_above p (row_named name p.tree.rows) ≡ Some is.parent = ap (λ (r : Option Row). row_above p r) first.1 ∙ ap (λ (r : Row). row_of r.parent p.tree.rows) same ∙ is.above in
    sym (ap (λ (r : Option Row). has_parent_key p r) there) ∙ has

-- the owner above, whose key is loaded
pub record IsAbove (p : Plain) (parent : Row) : Type 0 where
  pub up : ℕ
  pub owner : owner_of p parent.id ≡ Some up
  pub key : List ℕ
  pub loaded : at_id up p.loaded ≡ Some key

some_key : (found : Option (List ℕ)) → is_some found ≡ true → (key : List ℕ) × (found ≡ Some key)
some_key None h = absurd (cc)
some_key (Some key) h = (key, refl)

pub owner_above : (p : Plain) (parent : Row) → has_parent_key p (Some parent) ≡ true → IsAbove p parent
owner_above p parent has = by (owner_of p parent.id) refl has where
  by : (found : Option ℕ) → owner_of p parent.id ≡ found → has_key_of p found ≡ true → IsAbove p parent
  by None owner has = absurd (cc)
  by (Some up) owner has = let key = some_key (at_id up p.loaded) has in record { up = up; owner = owner; key = key.0; loaded = key.1 }

-- ---- the state after

module _ (c : Ciphers) (p : Plain) (id : ℕ) (told : Told) (s : Sound c p) (is : IsFirst p id) (root : is_root p id ≡ true) (parent : Row) (above : row_of is.row.parent p.tree.rows ≡ Some parent)
    (owner : IsAbove p parent) (families : map (λ entry. entry.0) told.wrapped ≡ map (λ entry. entry.0) (owned p id)) where
  abbrev after : Plain
  after = inherited p id told

  parent_id : parent.id ≡ is.row.parent
  parent_id = found_id p is.row.parent parent above

  below : is.row.parent < id
  below = (ids_fall p.tree id is.row (s.tree.tree, is.found)).0

  apart : owner.up ≢ id
  apart = λ same.
      let within : owner.up ≤ parent.id = owner_not_above p.tree p.roots parent.id owner.up s.tree.tree owner.owner in
      let equal : parent.id ≡ is.row.parent = parent_id in
      let lower : is.row.parent < id = below in
      omega (arith, within, equal, lower, same)

  either : (at : ℕ) → ((owner_of p at ≡ Some id) × (owner_of after at ≡ owner_of after id)) ⊎ ((owner_of p at ≡ Some id → ⊥) × (owner_of p at ≡ owner_of after at))
  either at = splits p.tree s.tree.tree p.roots (without_id id p.roots) id root (without_agrees id p.roots) at

  none_left : is_some (at_id id (without_id id p.roots)) ≡ false
  none_left = ap (λ (own : Option Props). is_some own) (at_id-without_id id p.roots)

  parent_owner : owner_of p is.row.parent ≡ Some owner.up
  parent_owner = ap (λ (m : ℕ). owner_of p m) (sym parent_id) ∙ owner.owner

  new_owner : owner_of after id ≡ Some owner.up
  new_owner =
      owner_of_other p.tree (without_id id p.roots) id is.row (s.tree.tree, is.found) is.crypt none_left
      ∙ ap (λ (m : ℕ). owner_of after m) (next_of_child is.row is.origin)
      ∙ ⊎_elim
      (λ (own : (owner_of p is.row.parent ≡ Some id) × (owner_of after is.row.parent ≡ owner_of after id)).
      absurd (let both : Some owner.up ≡ Some id = sym parent_owner ∙ own.0 in apart (let same : owner.up ≡ id = cc in same)))
      (λ (other : (owner_of p is.row.parent ≡ Some id → ⊥) × (owner_of p is.row.parent ≡ owner_of after is.row.parent)). sym other.1 ∙ parent_owner) (either is.row.parent)

  owners : (at : ℕ) → IsEncrypted p at → is_some (owner_of after at) ≡ true
  owners at crypt = ⊎_elim (λ (own : (owner_of p at ≡ Some id) × (owner_of after at ≡ owner_of after id)). ap (λ (o : Option ℕ). is_some o) (own.1 ∙ new_owner))
      (λ (other : (owner_of p at ≡ Some id → ⊥) × (owner_of p at ≡ owner_of after at)). ap (λ (o : Option ℕ). is_some o) (sym other.1) ∙ s.tree.owners at crypt) (either at)

  not_it : (at : ℕ) → is_root after at ≡ true → at ≢ id
  not_it at is_one = λ same. (let none : is_some (at_id at (without_id id p.roots)) ≡ false = subst (λ (m : ℕ). is_some (at_id m (without_id id p.roots)) ≡ false) (sym same) none_left in
      let both : true ≡ false = sym is_one ∙ none in cc)

  was_root : (at : ℕ) → is_root after at ≡ true → is_root p at ≡ true
  was_root at is_one = without_agrees id p.roots at (not_it at is_one) ∙ is_one

  loaded_other : (at : ℕ) → at ≢ id → at_id at after.loaded ≡ at_id at p.loaded
  loaded_other at other = at_id-without_id_other id at p.loaded other

  key_above_loaded : at_id owner.up after.loaded ≡ Some owner.key
  key_above_loaded = loaded_other owner.up apart ∙ owner.loaded

  key_stays : (found : Option ℕ) → (found ≡ Some id → ⊥) → has_key_of p found ≡ true → has_key_of after found ≡ true
  key_stays None never has = has
  key_stays (Some at) never has = ap (λ (k : Option (List ℕ)). is_some k) (loaded_other at (λ same. never (ap (λ m. Some m) same))) ∙ has

  has_after : (at : ℕ) → has_key p at ≡ true → has_key after at ≡ true
  has_after at has = ⊎_elim
      (λ (own : (owner_of p at ≡ Some id) × (owner_of after at ≡ owner_of after id)).
      ap (has_key_of after) (own.1 ∙ new_owner) ∙ ap (λ (k : Option (List ℕ)). is_some k) key_above_loaded)
      (λ (other : (owner_of p at ≡ Some id → ⊥) × (owner_of p at ≡ owner_of after at)). ap (has_key_of after) (sym other.1) ∙ key_stays (owner_of p at) other.0 has) (either at)

  has_written : (at : ℕ) → owner_of p at ≡ Some id → is_some (at_id at p.wrapped) ≡ true → is_some (at_id at told.wrapped) ≡ true
  has_written at own there =
      there_alike at told.wrapped (owned p id) families
      ∙ ap (λ (found : Option Stored). is_some found) (at_id-filter (λ (m : ℕ). is_same id (owner_of p m)) at p.wrapped (ap (is_same id) own ∙ some_id id)) ∙ there

  kept_record : (at : ℕ) → (owner_of p at ≡ Some id → ⊥) → at_id at after.wrapped ≡ at_id at p.wrapped
  kept_record at other = records_kept (owner_of p) id told.wrapped p.wrapped at (not_same id (owner_of p at) other)

  new_record : (at : ℕ) (old : Stored) → owner_of p at ≡ Some id → at_id at p.wrapped ≡ Some old → at_id at after.wrapped ≡ Some (with_record told.wrapped (at, old))
  new_record at old own there = records_written (owner_of p) id told.wrapped p.wrapped at old (ap (is_same id) own ∙ some_id id) there

  none_of : (found : Option Stored) → is_some found ≡ false → found ≡ None
  none_of None h = refl
  none_of (Some stored) h = absurd (cc)

  gone : (at : ℕ) → at_id at p.wrapped ≡ None → at_id at after.wrapped ≡ None
  gone at there = none_of (at_id at after.wrapped) (records_there (owner_of p) id told.wrapped p.wrapped at ∙ ap (λ (found : Option Stored). is_some found) there)

  opens_new : (at : ℕ) (found : Option Stored) → at_id at p.wrapped ≡ found → AllOpen c owner.key told.wrapped → owner_of p at ≡ Some id → OpensAt c after owner.key at
  opens_new at None there opened own = subst (λ (found : Option Stored). IfSome found (λ stored. is_some (c.opens stored.wrapped owner.key) ≡ true)) (sym (gone at there)) tt
  opens_new at (Some old) there opened own =
      let opens : is_some (c.opens (unwrap_or (at_id at told.wrapped) old.wrapped) owner.key) ≡ true =
      written told.wrapped at old.wrapped (λ entry. is_some (c.opens entry.1 owner.key) ≡ true) opened (has_written at own (ap (λ (found : Option Stored). is_some found) there)) in
      subst (λ (found : Option Stored). IfSome found (λ stored. is_some (c.opens stored.wrapped owner.key) ≡ true)) (sym (new_record at old own there)) opens

  loaded_apart : (at : ℕ) (key : List ℕ) → at_id at after.loaded ≡ Some key → at ≢ id
  loaded_apart at key found = λ same.
      (let none : at_id at after.loaded ≡ None = subst (λ (m : ℕ). at_id m (without_id id p.loaded) ≡ None) (sym same) (at_id-without_id id p.loaded) in
      let both : Some key ≡ None = sym found ∙ none in cc)

  opens_after : AllOpen c owner.key told.wrapped → (at_root at : ℕ) (key : List ℕ) → at_id at_root after.loaded ≡ Some key → owner_of after at ≡ Some at_root → OpensAt c after key at
  opens_after opened at_root at key found own = ⊎_elim
      (λ (mine : (owner_of p at ≡ Some id) × (owner_of after at ≡ owner_of after id)).
      let both : Some at_root ≡ Some owner.up = sym own ∙ mine.1 ∙ new_owner in
      let same : at_root ≡ owner.up = cc in
      let keys : Some key ≡ Some owner.key = sym found ∙ ap (λ (m : ℕ). at_id m after.loaded) same ∙ key_above_loaded in
      let alike : key ≡ owner.key = cc in
      subst (λ (k : List ℕ). OpensAt c after k at) (sym alike) (opens_new at (at_id at p.wrapped) refl opened mine.0))
      (λ (other : (owner_of p at ≡ Some id → ⊥) × (owner_of p at ≡ owner_of after at)).
      let old : OpensAt c p key at = s.keys.opened at_root at key (sym (loaded_other at_root (loaded_apart at_root key found)) ∙ found) (other.1 ∙ own) in
      subst (λ (stored : Option Stored). IfSome stored (λ r. is_some (c.opens r.wrapped key) ≡ true)) (sym (kept_record at other.0)) old) (either at)

  pub inherit_sound : AllOpen c owner.key told.wrapped → Sound c after
  inherit_sound opened = record {
    tree = record {
      tree = s.tree.tree;
      owners = owners;
      roots = IsRisingById-without_id id p.roots s.tree.roots;
      roots_encrypted = λ at is_one. s.tree.roots_encrypted at (was_root at is_one);
      no_clone = λ at row found is_one. s.tree.no_clone at row found (was_root at is_one);
      origins = s.tree.origins;
      records = records_rise (owner_of p) id told.wrapped p.wrapped s.tree.records;
      families = λ at. (
        λ found. (s.tree.families at).0 (sym (records_there (owner_of p) id told.wrapped p.wrapped at) ∙ found),
        λ dataset. records_there (owner_of p) id told.wrapped p.wrapped at ∙ (s.tree.families at).1 dataset,
      );
    };
    mappings = record {
      mapped = s.mappings.mapped;
      encrypted = s.mappings.encrypted;
      slots = s.mappings.slots;
      keys = λ k d within. has_after (get_or p.mapped k d).0 (s.mappings.keys k d within);
      mounted = s.mappings.mounted;
      mounts = s.mappings.mounts;
    };
    keys = record {
      loaded = IsRisingById-without_id id p.loaded s.keys.loaded;
      roots = All-kept (λ (entry : ℕ × List ℕ). is_root p entry.0 ≡ true) (λ (entry : ℕ × List ℕ). is_root after entry.0 ≡ true) (λ entry. not (entry.0 == id)) p.loaded
          (λ entry was kept. sym (without_agrees id p.roots entry.0 (λ same. unlike entry.0 kept same)) ∙ was) s.keys.roots;
      opened = opens_after opened;
    };
    users = record { one = s.users.one; mapped = s.users.mapped; present = s.users.present; few = s.users.few; riders = s.users.riders };
    slots = record { slots = s.slots.slots; generations = s.slots.generations; mapped = s.slots.mapped };
  } where
    unlike : (at : ℕ) → not (at == id) ≡ true → at ≡ id → ⊥
    unlike at kept same = absurd (let own : (at == id) ≡ true = grind (arith, nat_tests) in let no : not (at == id) ≡ false = rw own refl in let both : true ≡ false = sym kept ∙ no in cc)

  -- ---- master keys

  mkey_new : (at : ℕ) (found : Option Stored) → at_id at p.wrapped ≡ found → AllKept c p owner.key told.wrapped → owner_of p at ≡ Some id → owner_of after at ≡ Some owner.up → has_key p at ≡ true → mkey c after at ≡ mkey c p at
  mkey_new at None there kept own now has = rw (gone at there, there) refl
  mkey_new at (Some old) there kept own now has =
      let Same : ℕ × List ℕ → Type 0 = λ entry. has_key p entry.0 ≡ true → c.opens entry.1 owner.key ≡ mkey c p entry.0 in
      let opens : c.opens (unwrap_or (at_id at told.wrapped) old.wrapped) owner.key ≡ mkey c p at =
      written told.wrapped at old.wrapped Same kept (has_written at own (ap (λ (found : Option Stored). is_some found) there)) has in
      ap (λ (found : Option Stored). option_and_then (λ (r : Stored). option_and_then (λ at_root. option_and_then (λ key. c.opens r.wrapped key) (at_id at_root after.loaded)) (owner_of after at)) found) (new_record at old own there)
      ∙ ap (λ (found : Option ℕ). option_and_then (λ at_root. option_and_then (λ key. c.opens (unwrap_or (at_id at told.wrapped) old.wrapped) key) (at_id at_root after.loaded)) found) now
      ∙ ap (λ (found : Option (List ℕ)). option_and_then (λ key. c.opens (unwrap_or (at_id at told.wrapped) old.wrapped) key) found) key_above_loaded
      ∙ opens

  loaded_same : (found : Option ℕ) → (found ≡ Some id → ⊥) → (P : Option (List ℕ) → Option Master)
      → option_and_then (λ at_root. P (at_id at_root after.loaded)) found ≡ option_and_then (λ at_root. P (at_id at_root p.loaded)) found
  loaded_same None never P = refl
  loaded_same (Some at_root) never P = ap P (loaded_other at_root (λ same. never (ap (λ m. Some m) same)))

  mkey_other : (at : ℕ) → (owner_of p at ≡ Some id → ⊥) → owner_of p at ≡ owner_of after at → mkey c after at ≡ mkey c p at
  mkey_other at never same =
      ap (λ (found : Option Stored). option_and_then (λ (r : Stored). option_and_then (λ at_root. option_and_then (λ key. c.opens r.wrapped key) (at_id at_root after.loaded)) (owner_of after at)) found) (kept_record at never)
      ∙ by_stored (at_id at p.wrapped)
    where
      by_stored : (found : Option Stored)
          → option_and_then (λ (r : Stored). option_and_then (λ at_root. option_and_then (λ key. c.opens r.wrapped key) (at_id at_root after.loaded)) (owner_of after at)) found
          ≡ option_and_then (λ (r : Stored). option_and_then (λ at_root. option_and_then (λ key. c.opens r.wrapped key) (at_id at_root p.loaded)) (owner_of p at)) found
      by_stored None = refl
      by_stored (Some r) =
          ap (λ (o : Option ℕ). option_and_then (λ at_root. option_and_then (λ key. c.opens r.wrapped key) (at_id at_root after.loaded)) o) (sym same)
          ∙ loaded_same (owner_of p at) never (λ k. option_and_then (λ key. c.opens r.wrapped key) k)

  pub inherit_keeps : AllKept c p owner.key told.wrapped → (at : ℕ) → has_key p at ≡ true → mkey c after at ≡ mkey c p at
  inherit_keeps kept at has = ⊎_elim
      (λ (own : (owner_of p at ≡ Some id) × (owner_of after at ≡ owner_of after id)). mkey_new at (at_id at p.wrapped) refl kept own.0 (own.1 ∙ new_owner) has)
      (λ (other : (owner_of p at ≡ Some id → ⊥) × (owner_of p at ≡ owner_of after at)). mkey_other at other.0 other.1) (either at)

-- the key above is the one that is written under
pub key_above_is : (p : Plain) (id : ℕ) (is : IsFirst p id) (parent : Row) (above : row_of is.row.parent p.tree.rows ≡ Some parent) (owner : IsAbove p parent) → key_above p id ≡ owner.key
key_above_is p id is parent above owner =
    ap (λ (row : Option Row). parent_key p (row_above p row)) is.found
    ∙ ap (λ (row : Option Row). parent_key p row) above
    ∙ ap (λ (found : Option ℕ). unwrap_or (option_and_then (λ at_root. at_id at_root p.loaded) found) no_key) owner.owner
    ∙ ap (λ (found : Option (List ℕ)). unwrap_or found no_key) owner.loaded
