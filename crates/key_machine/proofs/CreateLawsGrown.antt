-- A state that grows by one dataset: what is known of the others, and the slots and users, which stay sound.
use Rattle.std.proofs.Common.{◌≡◌, ◌≢◌, ◌⊎◌, ℕ, ◌+◌, ◌<◌, ◌≤◌, true, false, List, [], ◌∷◌, ◌++◌, length, length-append, Option, Some, None, is_some, refl, ap, sym, ◌∙◌, arith}
use Rattle.std.proofs.lemmas.List.Elements.{recursion_from_All}
use Rattle.dataset_tree.specs.declared.tree.Row.{Row}
use Rattle.dataset_tree.specs.SetName.{parent_name}
use Rattle.dataset_tree.specs.Tree.{IsTree, row_of, row_named, parent_in}
use Rattle.dataset_tree.proofs.TreeLemmas.{IsTree-push}
use Rattle.encryption_roots.specs.declared.props.Props.{Props}
use Rattle.encryption_roots.specs.ById.{at_id}
use Rattle.encryption_roots.specs.Owners.{family}
use Rattle.encryption_roots.proofs.OwnerLemmas.{Falls, falls_in_tree, up_to, at_most_all, enough_steps, enough_origins, family_by_walking, family_of_clone}
use Rattle.key_machine.specs.Plain.{Plain, Stored, owner_of, has_key, has_key_of}
use Rattle.key_machine.specs.Sound.{IsEncrypted, SoundUsers, SoundSlots}
use Rattle.key_machine.proofs.CreateLawsRows.{AreGiven, row_is_given, row_of_other, row_of_new, owner_kept, owner_is_given, family_kept, family_is_given}

-- one row more, and other roots, records and loaded keys
abbrev pub grown : Plain → Row → List (ℕ × Props) → List (ℕ × Stored) → List (ℕ × List ℕ) → Plain
grown p row roots wrapped loaded = record p { tree = record { rows = p.tree.rows ++ row ∷ []; last = p.tree.last + 1 }; roots = roots; wrapped = wrapped; loaded = loaded }

pub slots_kept : (p : Plain) (row : Row) (roots : List (ℕ × Props)) (wrapped : List (ℕ × Stored)) (loaded : List (ℕ × List ℕ)) → SoundSlots p → SoundSlots (grown p row roots wrapped loaded)
slots_kept p row roots wrapped loaded sound = record { slots = sound.slots; generations = sound.generations; mapped = sound.mapped }

pub users_kept : (p : Plain) (row : Row) (roots : List (ℕ × Props)) (wrapped : List (ℕ × Stored)) (loaded : List (ℕ × List ℕ)) → SoundUsers p → SoundUsers (grown p row roots wrapped loaded)
users_kept p row roots wrapped loaded sound = record { one = sound.one; mapped = sound.mapped; present = sound.present; few = sound.few; riders = sound.riders }

-- The row is new, and what is known of other ids stays.
pub record Grows (p : Plain) (row : Row) (roots : List (ℕ × Props)) (wrapped : List (ℕ × Stored)) (loaded : List (ℕ × List ℕ)) : Type 0 where
  pub tree : IsTree p.tree
  pub id : row.id ≡ p.tree.last + 1
  pub new : is_some (row_named row.name p.tree.rows) ≡ false
  pub parent : parent_in p.tree.rows (parent_name row.name) ≡ Some row.parent
  pub origin : row.origin ≤ p.tree.last
  pub roots_kept : (id : ℕ) → id ≢ row.id → at_id id roots ≡ at_id id p.roots
  pub wrapped_kept : (id : ℕ) → id ≢ row.id → at_id id wrapped ≡ at_id id p.wrapped
  pub loaded_kept : (id : ℕ) → id ≢ row.id → at_id id loaded ≡ at_id id p.loaded

pub new_or_other : (id new : ℕ) → (id ≡ new) ⊎ (id ≢ new)
new_or_other id new = grind arith

module _ (p : Plain) (row : Row) (roots : List (ℕ × Props)) (wrapped : List (ℕ × Stored)) (loaded : List (ℕ × List ℕ)) (g : Grows p row roots wrapped loaded) where
  falls : Falls p.tree.rows
  falls = falls_in_tree p.tree g.tree

  given : AreGiven p.tree.last p.tree.rows
  given = recursion_from_All (λ (r : Row). r.id ≤ p.tree.last) p.tree.rows g.tree.given

  above : p.tree.last < row.id
  above = omega (arith, g.id)

  pub grown_tree : IsTree (grown p row roots wrapped loaded).tree
  grown_tree = IsTree-push p.tree row g.tree g.id g.new g.parent g.origin

  pub new_found : row_of row.id (p.tree.rows ++ row ∷ []) ≡ Some row
  new_found = row_of_new p.tree.last p.tree.rows row given above

  pub other_found : (id : ℕ) → id ≢ row.id → row_of id (p.tree.rows ++ row ∷ []) ≡ row_of id p.tree.rows
  other_found id apart = row_of_other p.tree.rows row id apart

  pub was_given : (id : ℕ) (old : Row) → row_of id p.tree.rows ≡ Some old → id ≢ row.id
  was_given id old found equal = let within : id ≤ p.tree.last = row_is_given id p.tree.last p.tree.rows old given found in omega (arith, above)

  pub encrypted_apart : (id : ℕ) → IsEncrypted p id → id ≢ row.id
  encrypted_apart id encrypted = was_given id encrypted.0 encrypted.1

  pub encrypted_kept : (id : ℕ) → IsEncrypted p id → IsEncrypted (grown p row roots wrapped loaded) id
  encrypted_kept id encrypted = (encrypted.0, other_found id (encrypted_apart id encrypted) ∙ encrypted.1, encrypted.2)

  pub encrypted_before : (id : ℕ) → id ≢ row.id → IsEncrypted (grown p row roots wrapped loaded) id → IsEncrypted p id
  encrypted_before id apart encrypted = (encrypted.0, sym (other_found id apart) ∙ encrypted.1, encrypted.2)

  pub owner_stays : (id : ℕ) → id ≢ row.id → owner_of (grown p row roots wrapped loaded) id ≡ owner_of p id
  owner_stays id apart =
      let few : up_to id p.tree.rows ≤ length p.tree.rows = at_most_all id p.tree.rows in
      let steps : ℕ = length (p.tree.rows ++ row ∷ []) in
      owner_kept p.tree.last p.tree.rows row p.roots roots falls given above g.roots_kept steps id apart
      ∙ enough_steps p.tree.rows p.roots falls steps (length p.tree.rows) id (omega (arith, few, length-append p.tree.rows (row ∷ []))) few

  pub owner_apart : (id root : ℕ) → owner_of p id ≡ Some root → root ≢ row.id
  owner_apart id root owner equal = let within : root ≤ p.tree.last = owner_is_given p.tree.last p.tree.rows p.roots given (length p.tree.rows) id root owner in omega (arith, above)

  pub family_stays : (id : ℕ) → id ≢ row.id → family (p.tree.rows ++ row ∷ []) id ≡ family p.tree.rows id
  family_stays id apart =
      let few : up_to id p.tree.rows ≤ length p.tree.rows = at_most_all id p.tree.rows in
      let steps : ℕ = length (p.tree.rows ++ row ∷ []) in
      family_kept p.tree.last p.tree.rows row falls given above steps id apart
      ∙ enough_origins p.tree.rows falls steps (length p.tree.rows) id (omega (arith, few, length-append p.tree.rows (row ∷ []))) few

  pub family_apart : (id : ℕ) → IsEncrypted p id → family p.tree.rows id ≢ row.id
  family_apart id encrypted equal =
      let there : id ≤ p.tree.last = row_is_given id p.tree.last p.tree.rows encrypted.0 given encrypted.1 in
      let within : family p.tree.rows id ≤ p.tree.last = family_is_given p.tree.last p.tree.rows falls (length p.tree.rows) id there in
      omega (arith, above)

  -- the new dataset is its own family, or it is of its origin's
  pub new_family : row.origin ≡ 0 → family (p.tree.rows ++ row ∷ []) row.id ≡ row.id
  new_family origin =
      let found : row_of row.id (p.tree.rows ++ row ∷ []) ≡ Some row = new_found in
      family_by_walking (grown p row roots wrapped loaded).tree row.id grown_tree ∙ rw (found, origin) refl

  pub origin_apart : row.origin ≢ row.id
  origin_apart same = let given : row.origin ≤ p.tree.last = g.origin in omega (arith, given, above, same)

  pub clone_family : row.origin ≢ 0 → family (p.tree.rows ++ row ∷ []) row.id ≡ family p.tree.rows row.origin
  clone_family clone = family_of_clone (grown p row roots wrapped loaded).tree row.id row (grown_tree, new_found) clone ∙ family_stays row.origin origin_apart

  -- an owner's key stays loaded
  pub key_stays : (id : ℕ) → id ≢ row.id → has_key p id ≡ true → has_key (grown p row roots wrapped loaded) id ≡ true
  key_stays id apart key = ap (has_key_of (grown p row roots wrapped loaded)) (owner_stays id apart) ∙ kept (owner_of p id) (owner_apart id) ∙ key where
    kept : (found : Option ℕ) → ((root : ℕ) → found ≡ Some root → root ≢ row.id) → has_key_of (grown p row roots wrapped loaded) found ≡ has_key_of p found
    kept None other = refl
    kept (Some root) other = ap (λ key. is_some key) (g.loaded_kept root (other root refl))
