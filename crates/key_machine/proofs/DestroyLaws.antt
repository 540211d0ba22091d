-- A destroy keeps a sound state sound.
use Rattle.std.proofs.Common.{◌≡◌, ◌≢◌, ◌⊎◌, ⊎_elim, inl, inr, ℕ, zero, suc, ◌<◌, ◌≤◌, Bool, true, false, not, cond, ◌==◌, ◌&&◌, List, [], ◌∷◌, length, get_or, Option, Some, None, IfSome, is_some, refl, ap, sym, ◌∙◌, subst, arith}
use Rattle.std.proofs.lemmas.Bool.{cases_eq, eq-eqb, ne_eqb, eqb-true, or_parts, and_from, cases_Bool}
use Rattle.std.proofs.lemmas.List.Elements.{All-filter, recursion_from_All}
use Rattle.std.proofs.lemmas.List.Folds.{list_any_none}
use Rattle.std.proofs.lemmas.List.Kept.{AllPairs-filter}
use Rattle.std.specs.List.{All, find, list_any}
use Rattle.std.specs.Option.{option_and_then}
use Rattle.dataset_tree.specs.declared.kinds.Kind.TheVariants.{Crypt}
use Rattle.dataset_tree.specs.declared.tree.Row.{Row}
use Rattle.dataset_tree.specs.Tree.{IsTree, row_of, row_named, is_needed}
use Rattle.dataset_tree.proofs.TreeLemmas.{ids_find}
use Rattle.encryption_roots.specs.declared.command.KeyCmd.TheVariants as commands
use Rattle.encryption_roots.specs.declared.props.Props.{Props}
use Rattle.encryption_roots.specs.ById.{IsRisingById, at_id, without_id}
use Rattle.encryption_roots.specs.Owners.{family}
use Rattle.encryption_roots.proofs.ByIdLemmas.{IsRisingById-without_id, at_id-without_id, at_id-without_id_other}
use Rattle.encryption_roots.proofs.OwnerLemmas.{family_by_walking, family_of_clone, owner_by_walking, ids_fall}
use Rattle.key_machine.specs.Destroy.{is_needed_row, destroy_cases, has_relatives, records_left, destroyed, destroyed_unless, destroy_done}
use Rattle.key_machine.specs.Plain.{Plain, Stored, Ciphers, owner_of, is_root, has_key, has_key_of}
use Rattle.key_machine.specs.Reap.{own_in_use}
use Rattle.key_machine.specs.Sound.{Sound, SoundTree, SoundKeys, IsEncrypted, OpensAt}
use Rattle.key_machine.specs.Step.{refusal_of, target}
use Rattle.key_machine.specs.Unload.{InUse}
use Rattle.key_machine.specs.Users.{users_of}
use Rattle.key_machine.proofs.CreateLawsCases.{found_has}
use Rattle.key_machine.proofs.CreateLawsStep.{NoneHolds, none_holds}
use Rattle.key_machine.proofs.DestroyLawsRows.{rows_left, row_of_gone, row_of_left, unneeded, owns_no_other, no_other_family, tree_left, owner_stays, family_stays}
use Rattle.key_machine.proofs.KeyLists.{All-kept}
use Rattle.key_machine.proofs.MountLaws.{idle_unless}
use Rattle.key_machine.proofs.NamedLaws.{IsNamed, named}
use Rattle.key_machine.proofs.UnloadLaws.{mounts_kept, holds_kept}

-- ---- what the state doesn't refuse

pub unneeded_named : (p : Plain) (name : List ℕ) (snaps : Bool) (id : ℕ) → refusal_of p (commands.Destroy name snaps) ≡ None → target p (commands.Destroy name snaps) ≡ Some id → is_needed id p.tree.rows ≡ false
unneeded_named p name snaps id accepted at =
    let none : NoneHolds (destroy_cases p name snaps) = none_holds (destroy_cases p name snaps) accepted in
    let is : IsNamed p name id = named p name id at in
    ap (λ (m : ℕ). is_needed m p.tree.rows) (sym is.same) ∙ ap (λ (found : Option Row). is_needed_row p found) (sym is.found)
    ∙ (or_parts (is_needed_row p (row_named name p.tree.rows)) snaps none.1.0).0

-- ---- a family's first dataset

module _ (p : Plain) (s : SoundTree p) where
  abbrev HasFirst : ℕ → Type 0
  HasFirst id = IsEncrypted p (family p.tree.rows id) × (family p.tree.rows (family p.tree.rows id) ≡ family p.tree.rows id)

  origin_encrypted : (id : ℕ) (row : Row) → row_of id p.tree.rows ≡ Some row → row.origin ≢ 0 → IsEncrypted p row.origin
  origin_encrypted id row found clone =
      (found_has (λ (r : Row). r.origin ≢ 0 → (r.kind ≡ Crypt) × IsEncrypted p r.origin) (λ r. r.id == id) p.tree.rows row
      (recursion_from_All (λ (r : Row). r.origin ≢ 0 → (r.kind ≡ Crypt) × IsEncrypted p r.origin) p.tree.rows s.origins) found clone).1

  first_at : (id : ℕ) (row : Row) → row_of id p.tree.rows ≡ Some row → row.kind ≡ Crypt → ((next : ℕ) → next < id → IsEncrypted p next → HasFirst next) → HasFirst id
  first_at id row found crypt lower = ⊎_elim
      (λ (first : row.origin ≡ 0).
      let zero_is : (row.origin == 0) ≡ true = eq-eqb row.origin 0 first in
      let own : family p.tree.rows id ≡ id = family_by_walking p.tree id s.tree ∙ rw (found, zero_is) refl in
      let here : IsEncrypted p id × (family p.tree.rows id ≡ id) = ((row, found, crypt), own) in
      subst (λ (m : ℕ). IsEncrypted p m × (family p.tree.rows m ≡ m)) (sym own) here)
      (λ (clone : row.origin ≢ 0).
      let same : family p.tree.rows id ≡ family p.tree.rows row.origin = family_of_clone p.tree id row (s.tree, found) clone in
      subst (λ (m : ℕ). IsEncrypted p m × (family p.tree.rows m ≡ m)) (sym same) (lower row.origin (ids_fall p.tree id row (s.tree, found)).1 (origin_encrypted id row found clone))) (cases_eq row.origin 0)

  first_within : (steps id : ℕ) → id ≤ steps → IsEncrypted p id → HasFirst id
  first_within zero id few crypt = first_at id crypt.0 crypt.1 crypt.2 (λ next below other. absurd (omega (arith, few, below)))
  first_within (suc steps) id few crypt = first_at id crypt.0 crypt.1 crypt.2 (λ next below other. first_within steps next (omega (arith, few, below)) other)

  pub family_first : (id : ℕ) → IsEncrypted p id → HasFirst id
  family_first id crypt = first_within id id (omega arith) crypt

-- ---- the records that are left

any_found : (any test : Row → Bool) (rows : List Row) (row : Row) → find test rows ≡ Some row → any row ≡ true → list_any any rows ≡ true
any_found any test [] row found passes = absurd (cc)
any_found any test (first ∷ rows) row found passes =
    (elim (test first) as (λ b. cond b (Some first) (find test rows) ≡ Some row → list_any any (first ∷ rows) ≡ true) [
      | true ↦ (λ here. let same : first ≡ row = cc in let holds : any first ≡ true = ap any same ∙ passes in rw holds refl)
      | false ↦ (λ later.
          let rest : list_any any rows ≡ true = any_found any test rows row later passes in
          ⊎_elim (λ (holds : any first ≡ true). rw holds refl) (λ (fails : any first ≡ false). rw fails rest) (cases_Bool (any first)))
    ]) found

pub row_is : (id : ℕ) (rows : List Row) (row : Row) → row_of id rows ≡ Some row → row.id ≡ id
row_is id [] row found = absurd (cc)
row_is id (first ∷ rows) row found =
    (elim (first.id == id) as (λ b. (first.id == id) ≡ b → cond b (Some first) (row_of id rows) ≡ Some row → row.id ≡ id) [
      | true ↦ (λ own here. let same : first ≡ row = cc in ap (λ (r : Row). r.id) (sym same) ∙ eqb-true first.id id own)
      | false ↦ (λ other later. row_is id rows row later)
    ]) refl found

-- another dataset of its family
pub relative : (p : Plain) (id other : ℕ) (row : Row) → row_of other p.tree.rows ≡ Some row → other ≢ id → family p.tree.rows other ≡ family p.tree.rows id → has_relatives p id ≡ true
relative p id other row found apart of_family =
    let own : row.id ≡ other = row_is other p.tree.rows row found in
    let unlike : (row.id == id) ≡ false = ne_eqb row.id id (λ e. apart (sym own ∙ e)) in
    let alike : (family p.tree.rows row.id == family p.tree.rows id) ≡ true = eq-eqb (family p.tree.rows row.id) (family p.tree.rows id) (ap (λ (m : ℕ). family p.tree.rows m) own ∙ of_family) in
    any_found (λ r. not (r.id == id) && (family p.tree.rows r.id == family p.tree.rows id)) (λ r. r.id == other) p.tree.rows row found
    (and_from (not (row.id == id)) (family p.tree.rows row.id == family p.tree.rows id) (ap not unlike) alike)

pub no_relative : (p : Plain) (id : ℕ) → All (λ row. row.id ≢ id → family p.tree.rows row.id ≢ family p.tree.rows id) p.tree.rows → has_relatives p id ≡ false
no_relative p id apart =
    list_any_none (λ r. not (r.id == id) && (family p.tree.rows r.id == family p.tree.rows id)) p.tree.rows
    (λ k d within.
    let row : Row = get_or p.tree.rows k d in
    ⊎_elim (λ (same : row.id ≡ id). let own : (row.id == id) ≡ true = eq-eqb row.id id same in rw own refl)
    (λ (other : row.id ≢ id).
    let unlike : (row.id == id) ≡ false = ne_eqb row.id id other in
    let strange : (family p.tree.rows row.id == family p.tree.rows id) ≡ false = ne_eqb (family p.tree.rows row.id) (family p.tree.rows id) (apart k d within other) in
    rw (unlike, strange) refl) (cases_eq row.id id))

module _ (p : Plain) (id : ℕ) where
  pub record_left : (at : ℕ) → (at_id at (records_left p id) ≡ at_id at p.wrapped) ⊎ (at_id at (records_left p id) ≡ None)
  record_left at = ⊎_elim (λ (has : has_relatives p id ≡ true). inl (rw has refl))
      (λ (none : has_relatives p id ≡ false).
      ⊎_elim (λ (same : at ≡ family p.tree.rows id). inr (rw none (ap (λ m. at_id m (without_id (family p.tree.rows id) p.wrapped)) same ∙ at_id-without_id (family p.tree.rows id) p.wrapped)))
      (λ (apart : at ≢ family p.tree.rows id). inl (rw none (at_id-without_id_other (family p.tree.rows id) at p.wrapped apart))) (cases_eq at (family p.tree.rows id)))
      (cases_Bool (has_relatives p id))

  pub record_of_other : (at : ℕ) → at ≢ family p.tree.rows id → at_id at (records_left p id) ≡ at_id at p.wrapped
  record_of_other at apart =
      ⊎_elim (λ (has : has_relatives p id ≡ true). rw has refl) (λ (none : has_relatives p id ≡ false). rw none (at_id-without_id_other (family p.tree.rows id) at p.wrapped apart))
      (cases_Bool (has_relatives p id))

  pub record_of_family : has_relatives p id ≡ true → (at : ℕ) → at_id at (records_left p id) ≡ at_id at p.wrapped
  record_of_family has at = rw has refl

  pub record_gone : has_relatives p id ≡ false → at_id (family p.tree.rows id) (records_left p id) ≡ None
  record_gone none = rw none (at_id-without_id (family p.tree.rows id) p.wrapped)

  records_rise : IsRisingById p.wrapped → IsRisingById (records_left p id)
  records_rise rising =
      ⊎_elim (λ (has : has_relatives p id ≡ true). rw has rising) (λ (none : has_relatives p id ≡ false). rw none (IsRisingById-without_id (family p.tree.rows id) p.wrapped rising))
      (cases_Bool (has_relatives p id))

-- ---- the state without the dataset

module _ (p : Plain) (id : ℕ) (free : is_needed id p.tree.rows ≡ false) where
  abbrev after : Plain
  after = destroyed p id

  -- what is left isn't it
  left_apart : (at : ℕ) → IsEncrypted after at → at ≢ id
  left_apart at encrypted same =
      let none : row_of id (rows_left id p.tree.rows) ≡ None = row_of_gone id p.tree.rows in
      let some : row_of id (rows_left id p.tree.rows) ≡ Some encrypted.0 = ap (λ (m : ℕ). row_of m (rows_left id p.tree.rows)) (sym same) ∙ encrypted.1 in
      let both : Some encrypted.0 ≡ None = sym some ∙ none in
      cc

  encrypted_before : (at : ℕ) → IsEncrypted after at → IsEncrypted p at
  encrypted_before at encrypted = (encrypted.0, sym (row_of_left id at p.tree.rows (left_apart at encrypted)) ∙ encrypted.1, encrypted.2)

  encrypted_after : (at : ℕ) → at ≢ id → IsEncrypted p at → IsEncrypted after at
  encrypted_after at apart encrypted = (encrypted.0, row_of_left id at p.tree.rows apart ∙ encrypted.1, encrypted.2)

  root_apart : (at : ℕ) → is_root after at ≡ true → at ≢ id
  root_apart at root same =
      let none : at_id id (without_id id p.roots) ≡ None = at_id-without_id id p.roots in
      let gone : is_some (at_id at (without_id id p.roots)) ≡ false = ap (λ (m : ℕ). is_some (at_id m (without_id id p.roots))) same ∙ ap (λ (own : Option Props). is_some own) none in
      cc

  root_before : (at : ℕ) → is_root after at ≡ true → is_root p at ≡ true
  root_before at root = ap (λ (own : Option Props). is_some own) (sym (at_id-without_id_other id at p.roots (root_apart at root))) ∙ root

  module _ (s : SoundTree p) where
    pub owner_after : (at : ℕ) → at ≢ id → owner_of after at ≡ owner_of p at
    owner_after at apart = owner_stays p.tree.rows id free p.tree.last s.tree p.roots at apart

    pub family_after : (at : ℕ) → at ≢ id → family after.tree.rows at ≡ family p.tree.rows at
    family_after at apart = family_stays p.tree.rows id free p.tree.last s.tree at apart

    -- its own family, where it is its first dataset and so the last one left
    pub alone : family p.tree.rows id ≡ id → has_relatives p id ≡ false
    alone own = no_relative p id (λ k d within apart same. no_other_family p.tree.rows id free (get_or p.tree.rows k d).id apart (same ∙ own))

    -- else it is a clone, and the first dataset of its family is another
    pub not_alone : IsEncrypted p id → family p.tree.rows id ≢ id → has_relatives p id ≡ true
    not_alone encrypted clone =
        let first : IsEncrypted p (family p.tree.rows id) × (family p.tree.rows (family p.tree.rows id) ≡ family p.tree.rows id) = family_first p s id encrypted in
        relative p id (family p.tree.rows id) first.0.0 first.0.1 clone first.1

    recorded : (at : ℕ) → is_some (at_id at (records_left p id)) ≡ true → (dataset : ℕ) × IsEncrypted after dataset × (family after.tree.rows dataset ≡ at)
    recorded at found =
        let before : is_some (at_id at p.wrapped) ≡ true = ⊎_elim (λ (same : at_id at (records_left p id) ≡ at_id at p.wrapped). ap (λ (stored : Option Stored). is_some stored) (sym same) ∙ found)
        (λ (gone : at_id at (records_left p id) ≡ None). absurd (let none : is_some (at_id at (records_left p id)) ≡ false = ap (λ (stored : Option Stored). is_some stored) gone in cc)) (record_left p id at) in
        let of : (dataset : ℕ) × IsEncrypted p dataset × (family p.tree.rows dataset ≡ at) = (s.families at).0 before in
        ⊎_elim (λ (same : of.0 ≡ id). by_first at found of same) (λ (apart : of.0 ≢ id). (of.0, encrypted_after of.0 apart of.1, family_after of.0 apart ∙ of.2)) (cases_eq of.0 id)
      where
        -- where it was of this family, the family's first dataset is
        by_first : (at : ℕ) → is_some (at_id at (records_left p id)) ≡ true → (of : (dataset : ℕ) × IsEncrypted p dataset × (family p.tree.rows dataset ≡ at)) → of.0 ≡ id
            → (dataset : ℕ) × IsEncrypted after dataset × (family after.tree.rows dataset ≡ at)
        by_first at found of same =
            let encrypted : IsEncrypted p id = subst (λ (m : ℕ). IsEncrypted p m) same of.1 in
            let of_family : family p.tree.rows id ≡ at = ap (λ (m : ℕ). family p.tree.rows m) (sym same) ∙ of.2 in
            ⊎_elim
            (λ (own : family p.tree.rows id ≡ id).
            absurd (let gone : at_id (family p.tree.rows id) (records_left p id) ≡ None = record_gone p id (alone own) in
            let none : is_some (at_id at (records_left p id)) ≡ false = ap (λ (m : ℕ). is_some (at_id m (records_left p id))) (sym of_family) ∙ ap (λ (stored : Option Stored). is_some stored) gone in
            cc))
            (λ (clone : family p.tree.rows id ≢ id).
            let first : IsEncrypted p (family p.tree.rows id) × (family p.tree.rows (family p.tree.rows id) ≡ family p.tree.rows id) = family_first p s id encrypted in
            (family p.tree.rows id, encrypted_after (family p.tree.rows id) clone first.0, family_after (family p.tree.rows id) clone ∙ first.1 ∙ of_family))
            (cases_eq (family p.tree.rows id) id)

    has_record : (at dataset : ℕ) → IsEncrypted after dataset → family after.tree.rows dataset ≡ at → is_some (at_id at (records_left p id)) ≡ true
    has_record at dataset encrypted of_family =
        let apart : dataset ≢ id = left_apart dataset encrypted in
        let before : IsEncrypted p dataset = encrypted_before dataset encrypted in
        let was : family p.tree.rows dataset ≡ at = sym (family_after dataset apart) ∙ of_family in
        let there : is_some (at_id at p.wrapped) ≡ true = (s.families at).1 (dataset, before, was) in
        ⊎_elim
        (λ (same : at ≡ family p.tree.rows id).
        let has : has_relatives p id ≡ true = relative p id dataset before.0 before.1 apart (was ∙ same) in
        ap (λ (stored : Option Stored). is_some stored) (record_of_family p id has at) ∙ there)
        (λ (strange : at ≢ family p.tree.rows id). ap (λ (stored : Option Stored). is_some stored) (record_of_other p id at strange) ∙ there) (cases_eq at (family p.tree.rows id))

    pub tree_after : SoundTree after
    tree_after = record {
      tree = tree_left p.tree.rows id free p.tree.last s.tree;
      owners = λ at encrypted. ap (λ (owner : Option ℕ). is_some owner) (owner_after at (left_apart at encrypted)) ∙ s.owners at (encrypted_before at encrypted);
      roots = IsRisingById-without_id id p.roots s.roots;
      roots_encrypted = λ at root. encrypted_after at (root_apart at root) (s.roots_encrypted at (root_before at root));
      no_clone = λ at row found root. s.no_clone at row (sym (row_of_left id at p.tree.rows (root_apart at root)) ∙ found) (root_before at root);
      origins = All-filter (λ row. not (row.id == id)) (λ (r : Row). r.origin ≢ 0 → (r.kind ≡ Crypt) × IsEncrypted after r.origin) p.tree.rows
          (λ k d within clone.
          let row : Row = get_or p.tree.rows k d in
          let old : (row.kind ≡ Crypt) × IsEncrypted p row.origin = s.origins k d within clone in
          (old.0, encrypted_after row.origin (origin_apart k d within) old.1));
      records = records_rise p id s.records;
      families = λ at. (recorded at, λ dataset. has_record at dataset.0 dataset.1 dataset.2);
    } where
      origin_apart : (k : ℕ) (d : Row) → k < length p.tree.rows → (get_or p.tree.rows k d).origin ≢ id
      origin_apart k d within =
          let row : Row = get_or p.tree.rows k d in
          (unneeded p.tree.rows id free row.id row (ids_find p.tree s.tree k d within)).1

module _ (c : Ciphers) (p : Plain) (s : Sound c p) (id : ℕ) (free : is_needed id p.tree.rows ≡ false) (idle : own_in_use p id ≡ None) where
  abbrev left : Plain
  left = destroyed p id

  no_mapping_used : All (λ mapping. not (mapping.0 == id) ≡ false → users_of p mapping ≡ 0) p.mapped
  no_mapping_used = idle_unless c p s id idle

  kept_apart : (at : ℕ) → not (at == id) ≡ true → at ≢ id
  kept_apart at kept same = let gone : not (at == id) ≡ false = ap not (eq-eqb at id same) in cc

  -- another dataset's owner is another, whose key stays
  pub key_after : (at : ℕ) → at ≢ id → has_key p at ≡ true → has_key left at ≡ true
  key_after at apart key = ap (has_key_of left) (owner_after p id free s.tree at apart) ∙ by (owner_of p at) refl ∙ key where
    by : (found : Option ℕ) → owner_of p at ≡ found → has_key_of left found ≡ has_key_of p found
    by None is = refl
    by (Some root) is = ap (λ (key : Option (List ℕ)). is_some key)
        (at_id-without_id_other id root p.loaded (λ same. owns_no_other p.tree.rows id free p.roots at apart (is ∙ ap (λ r. Some r) same)))

  no_owner : owner_of left id ≡ None
  no_owner = owner_by_walking left.tree left.roots id (tree_left p.tree.rows id free p.tree.last s.tree.tree) ∙ rw (row_of_gone id p.tree.rows) refl

  opened_after : (root at : ℕ) (key : List ℕ) → at_id root left.loaded ≡ Some key → owner_of left at ≡ Some root → OpensAt c left key at
  opened_after root at key found owner =
      let apart : at ≢ id = λ same. (let some : owner_of left id ≡ Some root = ap (λ (m : ℕ). owner_of left m) (sym same) ∙ owner in let both : None ≡ Some root = sym no_owner ∙ some in cc) in
      let other : root ≢ id = λ same. (let none : at_id id (without_id id p.loaded) ≡ None = at_id-without_id id p.loaded in let some : at_id id (without_id id p.loaded) ≡ Some key = ap (λ (m : ℕ). at_id m (without_id id p.loaded)) (sym same) ∙ found in let both : Some key ≡ None = sym some ∙ none in cc) in
      let was : OpensAt c p key at = s.keys.opened root at key (sym (at_id-without_id_other id root p.loaded other) ∙ found) (sym (owner_after p id free s.tree at apart) ∙ owner) in
      ⊎_elim (λ (same : at_id at (records_left p id) ≡ at_id at p.wrapped). subst (λ (stored : Option Stored). IfSome stored (λ s. is_some (c.opens s.wrapped key) ≡ true)) (sym same) was)
      (λ (gone : at_id at (records_left p id) ≡ None). subst (λ (stored : Option Stored). IfSome stored (λ s. is_some (c.opens s.wrapped key) ≡ true)) (sym gone) tt) (record_left p id at)

  keys_left : SoundKeys c left
  keys_left = record {
    loaded = IsRisingById-without_id id p.loaded s.keys.loaded;
    roots = All-kept (λ entry. is_root p entry.0 ≡ true) (λ entry. is_root left entry.0 ≡ true) (λ entry. not (entry.0 == id)) p.loaded
        (λ entry root kept. ap (λ (own : Option Props). is_some own) (at_id-without_id_other id entry.0 p.roots (kept_apart entry.0 kept)) ∙ root) s.keys.roots;
    opened = opened_after;
  }

  pub destroyed_sound : Sound c left
  destroyed_sound = record {
    tree = tree_after p id free s.tree;
    mappings = record {
      mapped = AllPairs-filter (λ a b. a.0 < b.0) (λ mapping. not (mapping.0 == id)) p.mapped s.mappings.mapped;
      encrypted = All-kept (λ mapping. IsEncrypted p mapping.0) (λ mapping. IsEncrypted left mapping.0) (λ mapping. not (mapping.0 == id)) p.mapped
          (λ mapping encrypted kept. encrypted_after p id free mapping.0 (kept_apart mapping.0 kept) encrypted) s.mappings.encrypted;
      slots = AllPairs-filter (λ a b. a.1 ≢ b.1) (λ mapping. not (mapping.0 == id)) p.mapped s.mappings.slots;
      keys = All-kept (λ mapping. has_key p mapping.0 ≡ true) (λ mapping. has_key left mapping.0 ≡ true) (λ mapping. not (mapping.0 == id)) p.mapped
          (λ mapping key kept. key_after mapping.0 (kept_apart mapping.0 kept) key) s.mappings.keys;
      mounted = s.mappings.mounted;
      mounts = mounts_kept c p s (λ at. not (at == id)) no_mapping_used;
    };
    keys = keys_left;
    users = record { one = s.users.one; mapped = holds_kept c p s (λ at. not (at == id)) no_mapping_used; present = s.users.present; few = s.users.few; riders = s.users.riders };
    slots = record { slots = s.slots.slots; generations = s.slots.generations; mapped = All-filter (λ mapping. not (mapping.0 == id)) (λ mapping. mapping.1 < 256) p.mapped s.slots.mapped };
  }

unless_sound : (c : Ciphers) (p : Plain) (s : Sound c p) (id : ℕ) → is_needed id p.tree.rows ≡ false → (found : Option InUse) → own_in_use p id ≡ found → Sound c (destroyed_unless p id found).state
unless_sound c p s id free None idle = destroyed_sound c p s id free idle
unless_sound c p s id free (Some busy) used = s

pub destroy_sound : (c : Ciphers) (p : Plain) (name : List ℕ) (snaps : Bool) → Sound c p → refusal_of p (commands.Destroy name snaps) ≡ None → (found : Option ℕ) → target p (commands.Destroy name snaps) ≡ found
    → Sound c (destroy_done p (option_and_then (own_in_use p) found) found).state
destroy_sound c p name snaps s accepted None at = s
destroy_sound c p name snaps s accepted (Some id) at = unless_sound c p s id (unneeded_named p name snaps id accepted at) (own_in_use p id) refl

unless_tree : (p : Plain) (id : ℕ) → IsTree p.tree → is_needed id p.tree.rows ≡ false → (busy : Option InUse) → IsTree (destroyed_unless p id busy).state.tree
unless_tree p id tree free None = tree_left p.tree.rows id free p.tree.last tree
unless_tree p id tree free (Some busy) = tree

pub destroy_tree : (p : Plain) (name : List ℕ) (snaps : Bool) → IsTree p.tree → refusal_of p (commands.Destroy name snaps) ≡ None → (busy : Option InUse) (found : Option ℕ)
    → target p (commands.Destroy name snaps) ≡ found → IsTree (destroy_done p busy found).state.tree
destroy_tree p name snaps tree accepted busy None at = tree
destroy_tree p name snaps tree accepted busy (Some id) at = unless_tree p id tree (unneeded_named p name snaps id accepted at) busy
