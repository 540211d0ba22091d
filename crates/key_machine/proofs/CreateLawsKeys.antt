-- The loaded keys of a state that grows by one dataset stay sound.
use Rattle.std.proofs.Common.{◌≡◌, ◌≢◌, ⊎_elim, ℕ, true, List, Option, Some, IfSome, is_some, sym, ◌∙◌, subst}
use Rattle.std.specs.List.{All}
use Rattle.dataset_tree.specs.declared.tree.Row.{Row}
use Rattle.encryption_roots.specs.declared.props.Props.{Props}
use Rattle.encryption_roots.specs.ById.{IsRisingById, at_id}
use Rattle.key_machine.specs.Plain.{Plain, Stored, Ciphers, owner_of}
use Rattle.key_machine.specs.Sound.{SoundKeys, OpensAt}
use Rattle.key_machine.proofs.CreateLawsGrown.{grown, Grows, new_or_other, owner_stays, owner_apart}

module _ (c : Ciphers) (p : Plain) (row : Row) (roots : List (ℕ × Props)) (wrapped : List (ℕ × Stored)) (loaded : List (ℕ × List ℕ)) (g : Grows p row roots wrapped loaded) where
  opened_other : SoundKeys c p → (root id : ℕ) (key : List ℕ) → id ≢ row.id → at_id root loaded ≡ Some key → owner_of (grown p row roots wrapped loaded) id ≡ Some root
      → OpensAt c (grown p row roots wrapped loaded) key id
  opened_other sound root id key apart found owner =
      let before : owner_of p id ≡ Some root = sym (owner_stays p row roots wrapped loaded g id apart) ∙ owner in
      let was : at_id root p.loaded ≡ Some key = sym (g.loaded_kept root (owner_apart p row roots wrapped loaded g id root before)) ∙ found in
      subst (λ (stored : Option Stored). IfSome stored (λ s. is_some (c.opens s.wrapped key) ≡ true)) (sym (g.wrapped_kept id apart)) (sound.opened root id key was before)

  -- if the loaded keys are those of roots, and the new dataset's record opens under its owner's key
  pub keys_kept : SoundKeys c p → IsRisingById loaded → All (λ (entry : ℕ × List ℕ). is_some (at_id entry.0 roots) ≡ true) loaded
      → ((root : ℕ) (key : List ℕ) → at_id root loaded ≡ Some key → owner_of (grown p row roots wrapped loaded) row.id ≡ Some root → OpensAt c (grown p row roots wrapped loaded) key row.id)
      → SoundKeys c (grown p row roots wrapped loaded)
  keys_kept sound rising of_roots new = record {
    loaded = rising;
    roots = of_roots;
    opened = λ root id key found owner. ⊎_elim
        (λ (same : id ≡ row.id).
        subst (λ (n : ℕ). owner_of (grown p row roots wrapped loaded) n ≡ Some root → OpensAt c (grown p row roots wrapped loaded) key n) (sym same) (new root key found) owner)
        (λ (apart : id ≢ row.id). opened_other sound root id key apart found owner) (new_or_other id row.id);
  }
