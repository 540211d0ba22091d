-- The tree, roots and records of a state that grows by one dataset stay sound.
use Rattle.std.proofs.Common.{◌≡◌, ◌≢◌, ⊎_elim, ℕ, true, List, [], ◌∷◌, ◌++◌, Option, Some, is_some, ap, sym, ◌∙◌, subst}
use Rattle.std.specs.List.{All}
use Rattle.std.proofs.lemmas.List.Elements.{All-push, All-weaker}
use Rattle.dataset_tree.specs.declared.kinds.Kind.TheVariants.{Crypt}
use Rattle.dataset_tree.specs.declared.tree.Row.{Row}
use Rattle.dataset_tree.specs.Tree.{row_of}
use Rattle.encryption_roots.specs.declared.props.Props.{Props}
use Rattle.encryption_roots.specs.ById.{IsRisingById, at_id}
use Rattle.encryption_roots.specs.Owners.{family}
use Rattle.key_machine.specs.Plain.{Plain, Stored, owner_of}
use Rattle.key_machine.specs.Sound.{IsEncrypted, SoundTree}
use Rattle.key_machine.proofs.CreateLawsGrown.{grown, Grows, new_or_other, grown_tree, new_found, other_found, encrypted_apart, encrypted_kept, encrypted_before, owner_stays, family_stays, family_apart, new_family, clone_family}

-- What is new of the dataset: it has an owner where it is encrypted, and it is a root or has a record of its own only there.
-- A clone is encrypted, as its origin is; it is no root and has no record.
pub record IsSoundlyNew (p : Plain) (row : Row) (roots : List (ℕ × Props)) (wrapped : List (ℕ × Stored)) (loaded : List (ℕ × List ℕ)) : Type 0 where
  pub rising_roots : IsRisingById roots
  pub rising_records : IsRisingById wrapped
  pub owner : row.kind ≡ Crypt → is_some (owner_of (grown p row roots wrapped loaded) row.id) ≡ true
  pub root : is_some (at_id row.id roots) ≡ true → (row.kind ≡ Crypt) × (row.origin ≡ 0)
  pub recorded : is_some (at_id row.id wrapped) ≡ true → (row.kind ≡ Crypt) × (row.origin ≡ 0)
  pub record_there : row.kind ≡ Crypt → row.origin ≡ 0 → is_some (at_id row.id wrapped) ≡ true
  pub origin : row.origin ≢ 0 → (row.kind ≡ Crypt) × IsEncrypted p row.origin

module _ (p : Plain) (row : Row) (roots : List (ℕ × Props)) (wrapped : List (ℕ × Stored)) (loaded : List (ℕ × List ℕ)) (g : Grows p row roots wrapped loaded) (n : IsSoundlyNew p row roots wrapped loaded) where
  is_new : (found : Row) → row_of row.id (p.tree.rows ++ row ∷ []) ≡ Some found → found ≡ row
  is_new found there = let same : Some found ≡ Some row = sym there ∙ new_found p row roots wrapped loaded g in cc

  new_kind : IsEncrypted (grown p row roots wrapped loaded) row.id → row.kind ≡ Crypt
  new_kind encrypted = ap (λ (r : Row). r.kind) (sym (is_new encrypted.0 encrypted.1)) ∙ encrypted.2

  new_encrypted : row.kind ≡ Crypt → IsEncrypted (grown p row roots wrapped loaded) row.id
  new_encrypted crypt = (row, new_found p row roots wrapped loaded g, crypt)

  owners : SoundTree p → (id : ℕ) → IsEncrypted (grown p row roots wrapped loaded) id → is_some (owner_of (grown p row roots wrapped loaded) id) ≡ true
  owners sound id encrypted = ⊎_elim
      (λ (same : id ≡ row.id).
      subst (λ (m : ℕ). IsEncrypted (grown p row roots wrapped loaded) m → is_some (owner_of (grown p row roots wrapped loaded) m) ≡ true) (sym same) (λ here. n.owner (new_kind here)) encrypted)
      (λ (apart : id ≢ row.id).
      ap (λ (owner : Option ℕ). is_some owner) (owner_stays p row roots wrapped loaded g id apart) ∙ sound.owners id (encrypted_before p row roots wrapped loaded g id apart encrypted)) (new_or_other id row.id)

  roots_encrypted : SoundTree p → (id : ℕ) → is_some (at_id id roots) ≡ true → IsEncrypted (grown p row roots wrapped loaded) id
  roots_encrypted sound id root = ⊎_elim
      (λ (same : id ≡ row.id).
      subst (λ (m : ℕ). is_some (at_id m roots) ≡ true → IsEncrypted (grown p row roots wrapped loaded) m) (sym same) (λ here. new_encrypted (n.root here).0) root)
      (λ (apart : id ≢ row.id).
      encrypted_kept p row roots wrapped loaded g id (sound.roots_encrypted id (ap (λ (own : Option Props). is_some own) (sym (g.roots_kept id apart)) ∙ root))) (new_or_other id row.id)

  no_clone : SoundTree p → (id : ℕ) (found : Row) → row_of id (p.tree.rows ++ row ∷ []) ≡ Some found → is_some (at_id id roots) ≡ true → found.origin ≡ 0
  no_clone sound id found there root = ⊎_elim
      (λ (same : id ≡ row.id).
      ap (λ (r : Row). r.origin) (is_new found (subst (λ (m : ℕ). row_of m (p.tree.rows ++ row ∷ []) ≡ Some found) same there))
      ∙ (n.root (subst (λ (m : ℕ). is_some (at_id m roots) ≡ true) same root)).1)
      (λ (apart : id ≢ row.id).
      sound.no_clone id found (sym (other_found p row roots wrapped loaded g id apart) ∙ there) (ap (λ (own : Option Props). is_some own) (sym (g.roots_kept id apart)) ∙ root)) (new_or_other id row.id)

  origins : SoundTree p → All (λ (r : Row). r.origin ≢ 0 → (r.kind ≡ Crypt) × IsEncrypted (grown p row roots wrapped loaded) r.origin) (p.tree.rows ++ row ∷ [])
  origins sound = All-push (λ (r : Row). r.origin ≢ 0 → (r.kind ≡ Crypt) × IsEncrypted (grown p row roots wrapped loaded) r.origin) p.tree.rows row
      (All-weaker (λ (r : Row). r.origin ≢ 0 → (r.kind ≡ Crypt) × IsEncrypted p r.origin) (λ (r : Row). r.origin ≢ 0 → (r.kind ≡ Crypt) × IsEncrypted (grown p row roots wrapped loaded) r.origin)
      (λ r before clone. ((before clone).0, encrypted_kept p row roots wrapped loaded g r.origin (before clone).1)) p.tree.rows sound.origins)
      (λ clone. ((n.origin clone).0, encrypted_kept p row roots wrapped loaded g row.origin (n.origin clone).1))

  recorded : SoundTree p → (id : ℕ) → is_some (at_id id wrapped) ≡ true → (dataset : ℕ) × IsEncrypted (grown p row roots wrapped loaded) dataset × (family (p.tree.rows ++ row ∷ []) dataset ≡ id)
  recorded sound id found = ⊎_elim
      (λ (same : id ≡ row.id).
      let first : (row.kind ≡ Crypt) × (row.origin ≡ 0) = n.recorded (subst (λ (m : ℕ). is_some (at_id m wrapped) ≡ true) same found) in
      (row.id, new_encrypted first.0, new_family p row roots wrapped loaded g first.1 ∙ sym same))
      (λ (apart : id ≢ row.id).
      let old : (dataset : ℕ) × IsEncrypted p dataset × (family p.tree.rows dataset ≡ id) = (sound.families id).0 (ap (λ (stored : Option Stored). is_some stored) (sym (g.wrapped_kept id apart)) ∙ found) in
      (old.0, encrypted_kept p row roots wrapped loaded g old.0 old.1, family_stays p row roots wrapped loaded g old.0 (encrypted_apart p row roots wrapped loaded g old.0 old.1) ∙ old.2)) (new_or_other id row.id)

  -- a record that was there stays, since the new dataset had none
  record_stays : SoundTree p → (id dataset : ℕ) → IsEncrypted p dataset → family p.tree.rows dataset ≡ id → is_some (at_id id wrapped) ≡ true
  record_stays sound id dataset old before =
      let other : id ≢ row.id = λ equal. family_apart p row roots wrapped loaded g dataset old (before ∙ equal) in
      ap (λ (stored : Option Stored). is_some stored) (g.wrapped_kept id other) ∙ (sound.families id).1 (dataset, old, before)

  -- the new dataset's record is its own, or that of its origin's family
  new_record : SoundTree p → (id : ℕ) → row.kind ≡ Crypt → family (p.tree.rows ++ row ∷ []) row.id ≡ id → is_some (at_id id wrapped) ≡ true
  new_record sound id crypt of_family = ⊎_elim
      (λ (first : row.origin ≡ 0). subst (λ (m : ℕ). is_some (at_id m wrapped) ≡ true) (sym (new_family p row roots wrapped loaded g first) ∙ of_family) (n.record_there crypt first))
      (λ (clone : row.origin ≢ 0). record_stays sound id row.origin (n.origin clone).1 (sym (clone_family p row roots wrapped loaded g clone) ∙ of_family)) (new_or_other row.origin 0)

  has_record : SoundTree p → (id dataset : ℕ) → IsEncrypted (grown p row roots wrapped loaded) dataset → family (p.tree.rows ++ row ∷ []) dataset ≡ id → is_some (at_id id wrapped) ≡ true
  has_record sound id dataset encrypted of_family = ⊎_elim
      (λ (same : dataset ≡ row.id).
      new_record sound id (new_kind (subst (λ (m : ℕ). IsEncrypted (grown p row roots wrapped loaded) m) same encrypted)) (subst (λ (m : ℕ). family (p.tree.rows ++ row ∷ []) m ≡ id) same of_family))
      (λ (apart : dataset ≢ row.id).
      record_stays sound id dataset (encrypted_before p row roots wrapped loaded g dataset apart encrypted) (sym (family_stays p row roots wrapped loaded g dataset apart) ∙ of_family))
      (new_or_other dataset row.id)

  pub tree_kept : SoundTree p → SoundTree (grown p row roots wrapped loaded)
  tree_kept sound = record {
    tree = grown_tree p row roots wrapped loaded g;
    owners = owners sound;
    roots = n.rising_roots;
    roots_encrypted = roots_encrypted sound;
    no_clone = no_clone sound;
    origins = origins sound;
    records = n.rising_records;
    families = λ id. (recorded sound id, λ dataset. has_record sound id dataset.0 dataset.1 dataset.2);
  }
