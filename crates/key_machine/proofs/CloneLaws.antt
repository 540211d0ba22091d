-- A clone keeps a sound state sound; its owner and its family are those of its origin.
use Rattle.std.proofs.Common.{◌≡◌, ◌≢◌, inr, ℕ, ◌+◌, ◌<◌, ◌≤◌, Bool, true, false, List, Option, Some, None, IfSome, is_some, is_none, refl, ap, ◌∙◌, subst, arith}
use Rattle.std.specs.Prelude.{unwrap_or}
use Rattle.dataset_tree.specs.declared.kinds.Kind.TheVariants.{Crypt}
use Rattle.dataset_tree.specs.declared.tree.Row.{Row}
use Rattle.dataset_tree.specs.SetName.{parent_name}
use Rattle.dataset_tree.specs.Tree.{IsTree, row_of, row_named, parent_in}
use Rattle.dataset_tree.proofs.TreeLemmas.{IsTree-with_row}
use Rattle.encryption_roots.specs.declared.command.KeyCmd.TheVariants as commands
use Rattle.encryption_roots.specs.ById.{at_id}
use Rattle.encryption_roots.specs.Owners.{family}
use Rattle.encryption_roots.proofs.OwnerLemmas.{falls_in_tree, found_below, owner_of_other, next_of_clone}
use Rattle.key_machine.specs.Clone.{clone_cases, cloned, clone_done}
use Rattle.key_machine.specs.Plain.{Plain, Stored, Ciphers, owner_of, is_root}
use Rattle.key_machine.specs.Sound.{Sound, SoundTree, IsEncrypted, OpensAt}
use Rattle.key_machine.specs.Step.{refusal_of, target}
use Rattle.key_machine.proofs.CreateLawsGrown.{Grows, slots_kept, users_kept, grown_tree, new_found, encrypted_apart, family_apart, owner_stays, origin_apart, clone_family}
use Rattle.key_machine.proofs.CreateLawsKeys.{keys_kept}
use Rattle.key_machine.proofs.CreateLawsMappings.{mappings_kept}
use Rattle.key_machine.proofs.CreateLawsRows.{row_is_given}
use Rattle.key_machine.proofs.CreateLawsStep.{NoneHolds, none_holds}
use Rattle.key_machine.proofs.CreateLawsTree.{IsSoundlyNew, tree_kept}
use Rattle.key_machine.proofs.NamedLaws.{named, encrypted_named}
use Rattle.std.proofs.lemmas.List.Elements.{recursion_from_All}

-- ---- what the state doesn't refuse

pub record IsClonable (p : Plain) (origin : ℕ) (name : List ℕ) : Type 0 where
  pub encrypted : IsEncrypted p origin
  pub absent : is_some (row_named name p.tree.rows) ≡ false
  pub parent : is_none (parent_in p.tree.rows (parent_name name)) ≡ false

pub clonable : (p : Plain) (from name : List ℕ) (origin : ℕ) → IsTree p.tree → refusal_of p (commands.Clone from name) ≡ None → target p (commands.Clone from name) ≡ Some origin → IsClonable p origin name
clonable p from name origin tree accepted at =
    let none : NoneHolds (clone_cases p from name) = none_holds (clone_cases p from name) accepted in
    record { encrypted = encrypted_named p from origin tree (named p from origin at) none.1.0; absent = none.1.1.0; parent = none.1.1.1.0 }

parent_there : (found : Option ℕ) → is_none found ≡ false → found ≡ Some (unwrap_or found 0)
parent_there None known = absurd (cc)
parent_there (Some parent) known = refl

-- ---- the row of a clone, and the state with it

module _ (p : Plain) (origin : ℕ) (name : List ℕ) (tree : IsTree p.tree) (is : IsClonable p origin name) where
  abbrev pub row : Row
  row = record { id = p.tree.last + 1; parent = unwrap_or (parent_in p.tree.rows (parent_name name)) 0; name = name; kind = Crypt; origin = origin }

  given : origin ≤ p.tree.last
  given = row_is_given origin p.tree.last p.tree.rows is.encrypted.0 (recursion_from_All (λ (r : Row). r.id ≤ p.tree.last) p.tree.rows tree.given) is.encrypted.1

  pub not_zero : origin ≢ 0
  not_zero zero_is = no_first (subst (λ (m : ℕ). row_of m p.tree.rows ≡ Some is.encrypted.0) zero_is is.encrypted.1) where
    no_first : row_of 0 p.tree.rows ≡ Some is.encrypted.0 → ⊥
    no_first found = let below : (is.encrypted.0.parent < 0) × (is.encrypted.0.origin < 0) = found_below 0 p.tree.rows is.encrypted.0 (falls_in_tree p.tree tree) found in omega (arith, below.1)

  pub clone_grows : Grows p row p.roots p.wrapped p.loaded
  clone_grows = record {
    tree = tree;
    id = refl;
    new = is.absent;
    parent = parent_there (parent_in p.tree.rows (parent_name name)) is.parent;
    origin = given;
    roots_kept = λ id apart. refl;
    wrapped_kept = λ id apart. refl;
    loaded_kept = λ id apart. refl;
  }

  no_root : SoundTree p → is_root p (p.tree.last + 1) ≡ true → ⊥
  no_root sound root = encrypted_apart p row p.roots p.wrapped p.loaded clone_grows (p.tree.last + 1) (sound.roots_encrypted (p.tree.last + 1) root) refl

  no_record : SoundTree p → is_some (at_id (p.tree.last + 1) p.wrapped) ≡ true → ⊥
  no_record sound found =
      let old = (sound.families (p.tree.last + 1)).0 found in
      family_apart p row p.roots p.wrapped p.loaded clone_grows old.0 old.1 old.2

  not_true : (b : Bool) → (b ≡ true → ⊥) → b ≡ false
  not_true true never = absurd (never refl)
  not_true false never = refl

  pub owner_of_clone : SoundTree p → owner_of (cloned p origin name) (p.tree.last + 1) ≡ owner_of p origin
  owner_of_clone sound =
      owner_of_other (cloned p origin name).tree p.roots (p.tree.last + 1) row (grown_tree p row p.roots p.wrapped p.loaded clone_grows, new_found p row p.roots p.wrapped p.loaded clone_grows) refl
      (not_true (is_root p (p.tree.last + 1)) (no_root sound))
      ∙ ap (λ (m : ℕ). owner_of (cloned p origin name) m) (next_of_clone row not_zero)
      ∙ owner_stays p row p.roots p.wrapped p.loaded clone_grows origin (origin_apart p row p.roots p.wrapped p.loaded clone_grows)

  pub family_of_clone : family (cloned p origin name).tree.rows (p.tree.last + 1) ≡ family p.tree.rows origin
  family_of_clone = clone_family p row p.roots p.wrapped p.loaded clone_grows not_zero

  clone_is_new : SoundTree p → IsSoundlyNew p row p.roots p.wrapped p.loaded
  clone_is_new sound = record {
    rising_roots = sound.roots;
    rising_records = sound.records;
    owner = λ crypt. ap (λ (owner : Option ℕ). is_some owner) (owner_of_clone sound) ∙ sound.owners origin is.encrypted;
    root = λ root. absurd (no_root sound root);
    recorded = λ found. absurd (no_record sound found);
    record_there = λ crypt first. absurd (not_zero first);
    origin = λ clone. (refl, is.encrypted);
  }

  -- the clone has no record of its own id
  opens_none : (c : Ciphers) (key : List ℕ) → SoundTree p → OpensAt c (cloned p origin name) key (p.tree.last + 1)
  opens_none c key sound = by (at_id (p.tree.last + 1) p.wrapped) (no_record sound) where
    by : (found : Option Stored) → (is_some found ≡ true → ⊥) → IfSome found (λ stored. is_some (c.opens stored.wrapped key) ≡ true)
    by None never = tt
    by (Some stored) never = absurd (never refl)

  pub cloned_sound : (c : Ciphers) → Sound c p → Sound c (cloned p origin name)
  cloned_sound c s = record {
    tree = tree_kept p row p.roots p.wrapped p.loaded clone_grows (clone_is_new s.tree) s.tree;
    mappings = mappings_kept p row p.roots p.wrapped p.loaded clone_grows s.mappings;
    keys = keys_kept c p row p.roots p.wrapped p.loaded clone_grows s.keys s.keys.loaded s.keys.roots (λ root key found owner. opens_none c key s.tree);
    users = users_kept p row p.roots p.wrapped p.loaded s.users;
    slots = slots_kept p row p.roots p.wrapped p.loaded s.slots;
  }

pub clone_sound : (c : Ciphers) (p : Plain) (from name : List ℕ) → Sound c p → refusal_of p (commands.Clone from name) ≡ None → (found : Option ℕ) → target p (commands.Clone from name) ≡ found
    → Sound c (clone_done p name found).state
clone_sound c p from name s accepted None at = s
clone_sound c p from name s accepted (Some origin) at = cloned_sound p origin name s.tree.tree (clonable p from name origin s.tree.tree accepted at) c s

pub clone_tree : (p : Plain) (from name : List ℕ) → IsTree p.tree → refusal_of p (commands.Clone from name) ≡ None → (found : Option ℕ) → target p (commands.Clone from name) ≡ found
    → IsTree (clone_done p name found).state.tree
clone_tree p from name tree accepted None at = tree
clone_tree p from name tree accepted (Some origin) at =
    let is : IsClonable p origin name = clonable p from name origin tree accepted at in
    IsTree-with_row p.tree name Crypt origin tree is.absent is.parent (inr (ap (λ (found : Option Row). is_some found) is.encrypted.1))
