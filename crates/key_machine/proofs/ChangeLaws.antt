-- A change of a key that its state accepts keeps it sound, and each family's master key.
use Rattle.std.proofs.Common.{◌≡◌, ◌≢◌, ◌⊎◌, ⊎_elim, ℕ, Bool, true, false, not, ◌&&◌, List, [], ◌∷◌, map, Option, Some, None, IfSome, is_some, option_map, refl, ap, sym, ◌∙◌, subst, arith}
use Rattle.std.proofs.lemmas.Bool.{eq-eqb, ne_eqb, cases_eq}
use Rattle.std.proofs.lemmas.Bool.Decides.{nat_tests}
use Rattle.std.specs.Prelude.{get_or, is_none, unwrap_or}
use Rattle.std.specs.Option.{option_and_then}
use Rattle.std.specs.Str.{bytes_eq}
use Rattle.dataset_tree.specs.declared.kinds.Kind.TheVariants.{Crypt}
use Rattle.dataset_tree.specs.declared.tree.Row.{Row}
use Rattle.dataset_tree.specs.Tree.{IsTree, row_of, row_named}
use Rattle.dataset_tree.proofs.TreeLemmas.{found_by_its_id}
use Rattle.encryption_roots.specs.declared.command.KeyCmd.TheVariants as commands
use Rattle.encryption_roots.specs.declared.props.Options.{Options}
use Rattle.encryption_roots.specs.declared.props.Props.{Props}
use Rattle.encryption_roots.specs.ById.{at_id, with_id}
use Rattle.encryption_roots.proofs.ByIdLemmas.{IsRisingById-with_id, at_id-with_id, at_id-with_id_other}
use Rattle.key_machine.specs.Change.{changed_props, change_cases, with_own_root, changed}
use Rattle.key_machine.specs.Plain.{Plain, Stored, Master, Ciphers, owner_of, is_root, has_key, has_key_of, is_encrypted_row, is_same, owned, mkey}
use Rattle.key_machine.specs.Rekey.{is_clone, has_key_row, with_record}
use Rattle.key_machine.specs.Sound.{Sound, IsEncrypted, OpensAt}
use Rattle.key_machine.specs.Step.{refusal_of, target}
use Rattle.key_machine.specs.Told.{Told}
use Rattle.key_machine.specs.Fair.{AllOpen, AllKept}
use Rattle.key_machine.proofs.CreateLawsCases.{encrypted_kind}
use Rattle.key_machine.proofs.CreateLawsStep.{NoneHolds, none_holds}
use Rattle.key_machine.proofs.KeyLists.{All-with_id, at_id-filter}
use Rattle.key_machine.proofs.LoadLaws.{key_kept}
use Rattle.key_machine.proofs.RekeyOwners.{splits, with_is_root, with_agrees, owner_alike, with_props_alike}
use Rattle.key_machine.proofs.RekeyRecords.{records_rise, records_there, records_kept, records_written, there_alike, written}

-- ---- what the state doesn't refuse

-- an encrypted dataset that is no clone
pub record IsFirst (p : Plain) (id : ℕ) : Type 0 where
  pub row : Row
  pub found : row_of id p.tree.rows ≡ Some row
  pub crypt : row.kind ≡ Crypt
  pub origin : row.origin ≡ 0

no_clone : (row : Row) → is_clone (Some row) ≡ false → row.origin ≡ 0
no_clone row h = grind (arith, nat_tests)

is_crypt : (row : Row) → not (is_encrypted_row (Some row)) ≡ false → row.kind ≡ Crypt
is_crypt row h = encrypted_kind row.kind (yes (is_encrypted_row (Some row)) h) where
  yes : (b : Bool) → not b ≡ false → b ≡ true
  yes true h = refl
  yes false h = absurd (cc)

pub first_named : (p : Plain) (name : List ℕ) (id : ℕ) (found : Option Row) → row_named name p.tree.rows ≡ found → IsTree p.tree → is_none found ≡ false → not (is_encrypted_row found) ≡ false
    → is_clone found ≡ false → option_map (λ row. row.id) found ≡ Some id → (is : IsFirst p id) × (found ≡ Some is.row)
first_named p name id None named tree there encrypted clone at = absurd (cc)
first_named p name id (Some row) named tree there encrypted clone at =
    let same : row.id ≡ id = cc in
    let found : row_of id p.tree.rows ≡ Some row = subst (λ (m : ℕ). row_of m p.tree.rows ≡ Some row) same (found_by_its_id p.tree (λ r. bytes_eq r.name name) row tree named) in
    (record { row = row; found = found; crypt = is_crypt row encrypted; origin = no_clone row clone }, refl)

pub record IsChangeable (p : Plain) (id : ℕ) (load_first : Bool) : Type 0 where
  pub first : IsFirst p id
  pub key : (not load_first && not (has_key p id)) ≡ false

pub found_id : (p : Plain) (id : ℕ) (row : Row) → row_of id p.tree.rows ≡ Some row → row.id ≡ id
found_id p id row found = by p.tree.rows found where
  by : (rows : List Row) → row_of id rows ≡ Some row → row.id ≡ id
  by [] found = absurd (cc)
  by (first ∷ rows) found =
      let rest = by rows in
      grind (arith, nat_tests)

pub changeable : (p : Plain) (name : List ℕ) (opts : Options) (load_first : Bool) (id : ℕ) → IsTree p.tree → refusal_of p (commands.Change name opts load_first) ≡ None
    → target p (commands.Change name opts load_first) ≡ Some id → IsChangeable p id load_first
changeable p name opts load_first id tree accepted at =
    let none : NoneHolds (change_cases p name opts load_first) = none_holds (change_cases p name opts load_first) accepted in
    let first = first_named p name id (row_named name p.tree.rows) refl tree none.0 none.1.0 none.1.1.0 at in
    let same : first.0.row.id ≡ id = found_id p id first.0.row first.0.found in
    record {
      first = first.0;
      key = ap (λ (m : ℕ). not load_first && not (has_key p m)) (sym same) ∙ ap (λ (row : Option Row). not load_first && not (has_key_row p row)) (sym first.1) ∙ none.1.1.1.1.1.0;
    }

-- ---- the changed state

pub some_id : (b : ℕ) → is_same b (Some b) ≡ true
some_id b = eq-eqb b b refl

pub not_same : (root : ℕ) (found : Option ℕ) → (found ≡ Some root → ⊥) → is_same root found ≡ false
not_same root None apart = refl
not_same root (Some other) apart = ne_eqb other root (λ same. apart (ap (λ m. Some m) same))

module _ (c : Ciphers) (p : Plain) (id : ℕ) (opts : Options) (told : Told) (s : Sound c p) (is : IsFirst p id)
    (families : map (λ entry. entry.0) told.wrapped ≡ map (λ entry. entry.0) (owned (with_own_root p id opts 0) id)) where
  abbrev after : Plain
  after = changed p id opts told

  abbrev new_props : Props
  new_props = changed_props (at_id id p.roots) opts told.salt

  either : (at : ℕ) → ((owner_of after at ≡ Some id) × (owner_of p at ≡ owner_of p id)) ⊎ ((owner_of after at ≡ Some id → ⊥) × (owner_of after at ≡ owner_of p at))
  either at = splits p.tree s.tree.tree (with_id id new_props p.roots) p.roots id (with_is_root id new_props p.roots) (with_agrees id new_props p.roots) at

  encrypted : IsEncrypted p id
  encrypted = (is.row, is.found, is.crypt)

  owners : (at : ℕ) → IsEncrypted p at → is_some (owner_of after at) ≡ true
  owners at crypt = ⊎_elim (λ (own : (owner_of after at ≡ Some id) × (owner_of p at ≡ owner_of p id)). ap (λ (o : Option ℕ). is_some o) own.0)
      (λ (other : (owner_of after at ≡ Some id → ⊥) × (owner_of after at ≡ owner_of p at)). ap (λ (o : Option ℕ). is_some o) other.1 ∙ s.tree.owners at crypt) (either at)

  was_root : (at : ℕ) → at ≢ id → is_root after at ≡ true → is_root p at ≡ true
  was_root at apart root = sym (with_agrees id new_props p.roots at apart) ∙ root

  still_root : (at : ℕ) → is_root p at ≡ true → is_root after at ≡ true
  still_root at root = ⊎_elim (λ (same : at ≡ id). subst (λ (m : ℕ). is_root after m ≡ true) (sym same) (with_is_root id new_props p.roots))
      (λ (apart : at ≢ id). with_agrees id new_props p.roots at apart ∙ root) (cases_eq at id)

  roots_encrypted : (at : ℕ) → is_root after at ≡ true → IsEncrypted p at
  roots_encrypted at root = ⊎_elim (λ (same : at ≡ id). subst (λ (m : ℕ). IsEncrypted p m) (sym same) encrypted)
      (λ (apart : at ≢ id). s.tree.roots_encrypted at (was_root at apart root)) (cases_eq at id)

  no_clones : (at : ℕ) (row : Row) → row_of at p.tree.rows ≡ Some row → is_root after at ≡ true → row.origin ≡ 0
  no_clones at row found root = ⊎_elim
      (λ (same : at ≡ id).
      let both : Some row ≡ Some is.row = sym (subst (λ (m : ℕ). row_of m p.tree.rows ≡ Some row) same found) ∙ is.found in
      let alike : row ≡ is.row = cc in
      ap (λ (r : Row). r.origin) alike ∙ is.origin)
      (λ (apart : at ≢ id). s.tree.no_clone at row found (was_root at apart root)) (cases_eq at id)

  has_after : (at : ℕ) → has_key p at ≡ true → has_key after at ≡ true
  has_after at has = ⊎_elim
      (λ (own : (owner_of after at ≡ Some id) × (owner_of p at ≡ owner_of p id)).
      ap (has_key_of after) own.0 ∙ ap (λ (k : Option (List ℕ)). is_some k) (at_id-with_id id told.key p.loaded))
      (λ (other : (owner_of after at ≡ Some id → ⊥) × (owner_of after at ≡ owner_of p at)).
      ap (has_key_of after) other.1 ∙ key_kept p id told.key (owner_of p at) has) (either at)

  -- where it owns a family now, there is a record for it among those written
  has_written : (at : ℕ) → owner_of after at ≡ Some id → is_some (at_id at p.wrapped) ≡ true → is_some (at_id at told.wrapped) ≡ true
  has_written at own there =
      let planned : owner_of (with_own_root p id opts 0) at ≡ Some id =
      owner_alike p.tree.rows (with_id id (changed_props (at_id id p.roots) opts 0) p.roots) (with_id id new_props p.roots)
      (with_props_alike id (changed_props (at_id id p.roots) opts 0) new_props p.roots) at ∙ own in
      there_alike at told.wrapped (owned (with_own_root p id opts 0) id) families
      ∙ ap (λ (found : Option Stored). is_some found) (at_id-filter (λ (m : ℕ). is_same id (owner_of (with_own_root p id opts 0) m)) at p.wrapped (ap (is_same id) planned ∙ some_id id))
      ∙ there

  kept_record : (at : ℕ) → (owner_of after at ≡ Some id → ⊥) → at_id at after.wrapped ≡ at_id at p.wrapped
  kept_record at other = records_kept (owner_of after) id told.wrapped p.wrapped at (not_same id (owner_of after at) other)

  new_record : (at : ℕ) (old : Stored) → owner_of after at ≡ Some id → at_id at p.wrapped ≡ Some old → at_id at after.wrapped ≡ Some (with_record told.wrapped (at, old))
  new_record at old own there = records_written (owner_of after) id told.wrapped p.wrapped at old (ap (is_same id) own ∙ some_id id) there

  opens_new : (at : ℕ) (found : Option Stored) → at_id at p.wrapped ≡ found → AllOpen c told.key told.wrapped → owner_of after at ≡ Some id → OpensAt c after told.key at
  opens_new at None there opened own =
      let gone : at_id at after.wrapped ≡ None = none_of (at_id at after.wrapped) (records_there (owner_of after) id told.wrapped p.wrapped at ∙ ap (λ (found : Option Stored). is_some found) there) in
      subst (λ (found : Option Stored). IfSome found (λ stored. is_some (c.opens stored.wrapped told.key) ≡ true)) (sym gone) tt
    where
      none_of : (found : Option Stored) → is_some found ≡ false → found ≡ None
      none_of None h = refl
      none_of (Some stored) h = absurd (cc)
  opens_new at (Some old) there opened own =
      let opens : is_some (c.opens (unwrap_or (at_id at told.wrapped) old.wrapped) told.key) ≡ true =
      written told.wrapped at old.wrapped (λ entry. is_some (c.opens entry.1 told.key) ≡ true) opened (has_written at own (ap (λ (found : Option Stored). is_some found) there)) in
      subst (λ (found : Option Stored). IfSome found (λ stored. is_some (c.opens stored.wrapped told.key) ≡ true)) (sym (new_record at old own there)) opens

  opens_after : AllOpen c told.key told.wrapped → (root at : ℕ) (key : List ℕ) → at_id root after.loaded ≡ Some key → owner_of after at ≡ Some root → OpensAt c after key at
  opens_after opened root at key found own = ⊎_elim
      (λ (same : root ≡ id).
      let here : at_id root after.loaded ≡ Some told.key = ap (λ (m : ℕ). at_id m after.loaded) same ∙ at_id-with_id id told.key p.loaded in
      let both : Some told.key ≡ Some key = sym here ∙ found in
      let alike : told.key ≡ key = cc in
      subst (λ (k : List ℕ). OpensAt c after k at) alike (opens_new at (at_id at p.wrapped) refl opened (own ∙ ap (λ (m : ℕ). Some m) same)))
      (λ (apart : root ≢ id).
      let never : owner_of after at ≡ Some id → ⊥ = λ mine. (let both : Some root ≡ Some id = sym own ∙ mine in apart (let same : root ≡ id = cc in same)) in
      let before : owner_of p at ≡ Some root = ⊎_elim (λ (mine : (owner_of after at ≡ Some id) × (owner_of p at ≡ owner_of p id)). absurd (never mine.0))
      (λ (other : (owner_of after at ≡ Some id → ⊥) × (owner_of after at ≡ owner_of p at)). sym other.1 ∙ own) (either at) in
      let old : OpensAt c p key at = s.keys.opened root at key (sym (at_id-with_id_other id root told.key p.loaded apart) ∙ found) before in
      subst (λ (stored : Option Stored). IfSome stored (λ r. is_some (c.opens r.wrapped key) ≡ true)) (sym (kept_record at never)) old) (cases_eq root id)

  pub change_sound : AllOpen c told.key told.wrapped → Sound c after
  change_sound opened = record {
    tree = record {
      tree = s.tree.tree;
      owners = owners;
      roots = IsRisingById-with_id id new_props p.roots s.tree.roots;
      roots_encrypted = roots_encrypted;
      no_clone = no_clones;
      origins = s.tree.origins;
      records = records_rise (owner_of after) id told.wrapped p.wrapped s.tree.records;
      families = λ at. (
        λ found. (s.tree.families at).0 (sym (records_there (owner_of after) id told.wrapped p.wrapped at) ∙ found),
        λ dataset. records_there (owner_of after) id told.wrapped p.wrapped at ∙ (s.tree.families at).1 dataset,
      );
    };
    mappings = record {
      mapped = s.mappings.mapped;
      encrypted = s.mappings.encrypted;
      slots = s.mappings.slots;
      keys = λ k d within. has_after (get_or p.mapped k d).0 (s.mappings.keys k d within);
      mounted = s.mappings.mounted;
      mounts = s.mappings.mounts;
    };
    keys = record {
      loaded = IsRisingById-with_id id told.key p.loaded s.keys.loaded;
      roots = All-with_id (λ entry. is_root after entry.0 ≡ true) id told.key p.loaded (λ k d within. still_root (get_or p.loaded k d).0 (s.keys.roots k d within)) (with_is_root id new_props p.roots);
      opened = opens_after opened;
    };
    users = record { one = s.users.one; mapped = s.users.mapped; present = s.users.present; few = s.users.few; riders = s.users.riders };
    slots = record { slots = s.slots.slots; generations = s.slots.generations; mapped = s.slots.mapped };
  }

  -- ---- master keys

  some_key : (found : Option (List ℕ)) → is_some found ≡ true → (key : List ℕ) × (found ≡ Some key)
  some_key None h = absurd (cc)
  some_key (Some key) h = (key, refl)

  mkey_new : (at : ℕ) (found : Option Stored) → at_id at p.wrapped ≡ found → AllKept c p told.key told.wrapped → owner_of after at ≡ Some id → has_key p at ≡ true → mkey c after at ≡ mkey c p at
  mkey_new at None there kept own has =
      let gone : at_id at after.wrapped ≡ None = none_of (at_id at after.wrapped) (records_there (owner_of after) id told.wrapped p.wrapped at ∙ ap (λ (found : Option Stored). is_some found) there) in
      rw (gone, there) refl
    where
      none_of : (found : Option Stored) → is_some found ≡ false → found ≡ None
      none_of None h = refl
      none_of (Some stored) h = absurd (cc)
  mkey_new at (Some old) there kept own has =
      let Same : ℕ × List ℕ → Type 0 = λ entry. has_key p entry.0 ≡ true → c.opens entry.1 told.key ≡ mkey c p entry.0 in
      let opens : c.opens (unwrap_or (at_id at told.wrapped) old.wrapped) told.key ≡ mkey c p at =
      written told.wrapped at old.wrapped Same kept (has_written at own (ap (λ (found : Option Stored). is_some found) there)) has in
      ap (λ (found : Option Stored). option_and_then (λ (r : Stored). option_and_then (λ root. option_and_then (λ key. c.opens r.wrapped key) (at_id root after.loaded)) (owner_of after at)) found) (new_record at old own there)
      ∙ ap (λ (found : Option ℕ). option_and_then (λ root. option_and_then (λ key. c.opens (unwrap_or (at_id at told.wrapped) old.wrapped) key) (at_id root after.loaded)) found) own
      ∙ ap (λ (found : Option (List ℕ)). option_and_then (λ key. c.opens (unwrap_or (at_id at told.wrapped) old.wrapped) key) found) (at_id-with_id id told.key p.loaded)
      ∙ opens

  loaded_same : (found : Option ℕ) → (found ≡ Some id → ⊥) → (P : Option (List ℕ) → Option Master)
      → option_and_then (λ root. P (at_id root after.loaded)) found ≡ option_and_then (λ root. P (at_id root p.loaded)) found
  loaded_same None never P = refl
  loaded_same (Some root) never P = ap P (at_id-with_id_other id root told.key p.loaded (λ same. never (ap (λ m. Some m) same)))

  mkey_other : (at : ℕ) → (owner_of after at ≡ Some id → ⊥) → owner_of after at ≡ owner_of p at → mkey c after at ≡ mkey c p at
  mkey_other at never same =
      ap (λ (found : Option Stored). option_and_then (λ (r : Stored). option_and_then (λ root. option_and_then (λ key. c.opens r.wrapped key) (at_id root after.loaded)) (owner_of after at)) found) (kept_record at never)
      ∙ by_stored (at_id at p.wrapped)
    where
      by_stored : (found : Option Stored)
          → option_and_then (λ (r : Stored). option_and_then (λ root. option_and_then (λ key. c.opens r.wrapped key) (at_id root after.loaded)) (owner_of after at)) found
          ≡ option_and_then (λ (r : Stored). option_and_then (λ root. option_and_then (λ key. c.opens r.wrapped key) (at_id root p.loaded)) (owner_of p at)) found
      by_stored None = refl
      by_stored (Some r) =
          loaded_same (owner_of after at) never (λ k. option_and_then (λ key. c.opens r.wrapped key) k)
          ∙ ap (λ (o : Option ℕ). option_and_then (λ root. option_and_then (λ key. c.opens r.wrapped key) (at_id root p.loaded)) o) same

  pub change_keeps : AllKept c p told.key told.wrapped → (at : ℕ) → has_key p at ≡ true → mkey c after at ≡ mkey c p at
  change_keeps kept at has = ⊎_elim (λ (own : (owner_of after at ≡ Some id) × (owner_of p at ≡ owner_of p id)). mkey_new at (at_id at p.wrapped) refl kept own.0 has)
      (λ (other : (owner_of after at ≡ Some id → ⊥) × (owner_of after at ≡ owner_of p at)). mkey_other at other.0 other.1) (either at)
