-- A create in its three cases, a root, an heir of its parent's key, and a plain dataset, keeps a state sound.
use Rattle.std.proofs.Common.{◌≡◌, ◌≢◌, ℕ, suc, ◌+◌, ◌<◌, Bool, true, false, cond, ◌==◌, List, [], ◌∷◌, map, Option, Some, None, IfSome, is_some, is_none, refl, ap, sym, ◌∙◌, arith, subst, if◌then◌else◌}
use Rattle.std.proofs.lemmas.Bool.Decides.{nat_tests}
use Rattle.std.proofs.lemmas.List.Elements.{All-from_recursion, recursion_from_All, All-head}
use Rattle.std.specs.Prelude.{unwrap_or}
use Rattle.std.specs.List.{All, AllPairs, AllByRecursion, find}
use Rattle.std.specs.Option.{option_and_then}
use Rattle.dataset_tree.specs.declared.kinds.Kind.{Kind}
use Rattle.dataset_tree.specs.declared.kinds.Kind.TheVariants.{Plain as PlainKind, Crypt}
use Rattle.dataset_tree.specs.declared.tree.Row.{Row}
use Rattle.dataset_tree.specs.SetName.{parent_name}
use Rattle.dataset_tree.specs.Tree.{row_of, row_named, parent_in}
use Rattle.encryption_roots.specs.declared.props.Props.{Props}
use Rattle.encryption_roots.specs.declared.props.Options.{Options}
use Rattle.encryption_roots.specs.ById.{IsRisingById, at_id, with_id}
use Rattle.encryption_roots.proofs.ByIdLemmas.{IsRisingById-with_id, at_id-with_id, at_id-with_id_other}
use Rattle.encryption_roots.proofs.OwnerLemmas.{owner_by_walking, owner_of_root, owner_of_other}
use Rattle.key_machine.specs.Plain.{Plain, Stored, Ciphers, owner_of, is_encrypted_kind, is_encrypted_row}
use Rattle.key_machine.specs.Create.{parent_row, parent_key, new_props, new_stored}
use Rattle.key_machine.specs.Sound.{Sound, SoundKeys}
use Rattle.key_machine.specs.Told.{Told}
use Rattle.key_machine.specs.Fair.{AllOpen}
use Rattle.key_machine.proofs.CreateLawsGrown.{grown, Grows, slots_kept, users_kept, grown_tree, new_found, encrypted_apart, family_apart, owner_stays, was_given}
use Rattle.key_machine.proofs.CreateLawsKeys.{keys_kept}
use Rattle.key_machine.proofs.CreateLawsMappings.{mappings_kept}
use Rattle.key_machine.proofs.CreateLawsTree.{IsSoundlyNew, tree_kept}

-- the row of a new dataset, and the state with it
abbrev pub new_row : Plain → List ℕ → Bool → Row
new_row p name encrypted = record { id = p.tree.last + 1; parent = unwrap_or (parent_in p.tree.rows (parent_name name)) 0; name = name; kind = if encrypted then Crypt else PlainKind; origin = 0 }

abbrev pub roots_with : Plain → Options → Told → Bool → List (ℕ × Props)
roots_with p opts told root = if root then with_id (p.tree.last + 1) (new_props opts told) p.roots else p.roots

abbrev pub records_with : Plain → Options → Told → Bool → List (ℕ × Stored)
records_with p opts told encrypted = if encrypted then with_id (p.tree.last + 1) (new_stored (p.tree.last + 1) opts told) p.wrapped else p.wrapped

abbrev pub loaded_with : Plain → Told → Bool → List (ℕ × List ℕ)
loaded_with p told root = if root then with_id (p.tree.last + 1) told.key p.loaded else p.loaded

abbrev pub created_with : Plain → List ℕ → Options → Told → (root encrypted : Bool) → Plain
created_with p name opts told root encrypted = grown p (new_row p name encrypted) (roots_with p opts told root) (records_with p opts told encrypted) (loaded_with p told root)

-- ---- lists by id

kept_unless : {X : Type 0} (b : Bool) (id at : ℕ) (value : X) (entries : List (ℕ × X)) → at ≢ id → at_id at (cond b (with_id id value entries) entries) ≡ at_id at entries
kept_unless true id at value entries apart = at_id-with_id_other id at value entries apart
kept_unless false id at value entries apart = refl

rising_unless : {X : Type 0} (b : Bool) (id : ℕ) (value : X) (entries : List (ℕ × X)) → IsRisingById entries → IsRisingById (cond b (with_id id value entries) entries)
rising_unless true id value entries rising = IsRisingById-with_id id value entries rising
rising_unless false id value entries rising = rising

all_with : {X : Type 0} (P : ℕ × X → Type 0) (id : ℕ) (value : X) (entries : List (ℕ × X)) → AllByRecursion P entries → P (id, value) → AllByRecursion P (with_id id value entries)
all_with P id value [] all one = (one, tt)
all_with P id value (entry ∷ entries) all one =
    let rest = all_with P id value entries all.1 one in
    grind (arith, nat_tests)

-- ---- the parent

parent_there : (found : Option ℕ) → is_none found ≡ false → found ≡ Some (unwrap_or found 0)
parent_there None known = absurd (cc)
parent_there (Some parent) known = refl

pub found_has : {X : Type 0} (P : X → Type 0) (test : X → Bool) (xs : List X) (x : X) → AllByRecursion P xs → find test xs ≡ Some x → P x
found_has P test [] x all found = cc
found_has P test (first ∷ xs) x all found =
    (elim (test first) as (λ b. cond b (Some first) (find test xs) ≡ Some x → P x) [
      | true ↦ (λ same. let here : first ≡ x = cc in subst P here all.0)
      | false ↦ found_has P test xs x all.1
    ]) found

-- a row that is found by a test is found by its id
found_by_id : (test : Row → Bool) (rows : List Row) (row : Row) → AllPairs (λ (a : Row) (b : Row). a.id < b.id) rows → find test rows ≡ Some row → row_of row.id rows ≡ Some row
found_by_id test [] row rising found = cc
found_by_id test (first ∷ rows) row rising found =
    let later = recursion_from_All (λ (r : Row). first.id < r.id) rows (λ k d within. rising 0 (suc k) d (omega arith) (omega arith)) in
    let rest = found_by_id test rows row (λ i j d before within. rising (suc i) (suc j) d (omega arith) (omega arith)) in
    (elim (test first) as (λ b. cond b (Some first) (find test rows) ≡ Some row → row_of row.id (first ∷ rows) ≡ Some row) [
      | true ↦ (λ same.
          let here : first ≡ row = cc in
          let own : (row.id == row.id) ≡ true = grind (arith, nat_tests) in
          rw (here, own) refl)
      | false ↦ (λ behind.
          let higher : first.id < row.id = found_has (λ (r : Row). first.id < r.id) test rows row later behind in
          let unlike : (first.id == row.id) ≡ false = grind (arith, nat_tests) in
          rw unlike (rest behind))
    ]) found

pub encrypted_kind : (kind : Kind) → is_encrypted_kind kind ≡ true → kind ≡ Crypt
encrypted_kind PlainKind h = cc
encrypted_kind Crypt h = refl

pub encrypted_row : (found : Option Row) → is_encrypted_row found ≡ true → (parent : Row) × (found ≡ Some parent) × (parent.kind ≡ Crypt)
encrypted_row None h = absurd (cc)
encrypted_row (Some parent) h = (parent, refl, encrypted_kind parent.kind h)

pub parent_found : (rows : List Row) (name : Option (List ℕ)) (parent : Row) → AllPairs (λ (a : Row) (b : Row). a.id < b.id) rows → option_and_then (λ n. row_named n rows) name ≡ Some parent
    → (unwrap_or (parent_in rows name) 0 ≡ parent.id) × (row_of parent.id rows ≡ Some parent)
parent_found rows None parent rising found = absurd (cc)
parent_found rows (Some name) parent rising found = (rw found refl, found_by_id _ rows parent rising found)

-- the one record that was written opens
pub record_opens : (c : Ciphers) (key : List ℕ) (records : List (ℕ × List ℕ)) (id : ℕ) → map (λ entry. entry.0) records ≡ id ∷ [] → AllOpen c key records
    → is_some (c.opens (unwrap_or (at_id id records) []) key) ≡ true
record_opens c key [] id one opened = absurd (cc)
record_opens c key (entry ∷ []) id one opened =
    let here : entry.0 ≡ id = cc in
    let same : (entry.0 == id) ≡ true = grind (arith, nat_tests) in
    rw same (All-head (λ (e : ℕ × List ℕ). is_some (c.opens e.1 key) ≡ true) entry [] opened)
record_opens c key (entry ∷ second ∷ records) id one opened = absurd (cc)

not_true : (b : Bool) → (b ≡ true → ⊥) → b ≡ false
not_true true never = absurd (never refl)
not_true false never = refl

-- ---- the three cases

module _ (c : Ciphers) (p : Plain) (name : List ℕ) (opts : Options) (told : Told) (sound : Sound c p) (new : is_some (row_named name p.tree.rows) ≡ false)
    (known : is_none (parent_in p.tree.rows (parent_name name)) ≡ false) where
  pub grows : (root encrypted : Bool) → Grows p (new_row p name encrypted) (roots_with p opts told root) (records_with p opts told encrypted) (loaded_with p told root)
  grows root encrypted = record {
    tree = sound.tree.tree;
    id = refl;
    new = new;
    parent = parent_there (parent_in p.tree.rows (parent_name name)) known;
    origin = omega arith;
    roots_kept = λ id apart. kept_unless root (p.tree.last + 1) id (new_props opts told) p.roots apart;
    wrapped_kept = λ id apart. kept_unless encrypted (p.tree.last + 1) id (new_stored (p.tree.last + 1) opts told) p.wrapped apart;
    loaded_kept = λ id apart. kept_unless root (p.tree.last + 1) id told.key p.loaded apart;
  }

  -- from the new root or record, and its soundness, to the whole
  sound_if : (root encrypted : Bool) → IsSoundlyNew p (new_row p name encrypted) (roots_with p opts told root) (records_with p opts told encrypted) (loaded_with p told root)
      → SoundKeys c (created_with p name opts told root encrypted) → Sound c (created_with p name opts told root encrypted)
  sound_if root encrypted new keys = record {
    tree = tree_kept p _ _ _ _ (grows root encrypted) new sound.tree;
    mappings = mappings_kept p _ _ _ _ (grows root encrypted) sound.mappings;
    keys = keys;
    users = users_kept p _ _ _ _ sound.users;
    slots = slots_kept p _ _ _ _ sound.slots;
  }

  no_root_before : is_some (at_id (p.tree.last + 1) p.roots) ≡ true → ⊥
  no_root_before root = encrypted_apart p _ _ _ _ (grows false false) (p.tree.last + 1) (sound.tree.roots_encrypted (p.tree.last + 1) root) refl

  no_record_before : is_some (at_id (p.tree.last + 1) p.wrapped) ≡ true → ⊥
  no_record_before found =
      let old = (sound.tree.families (p.tree.last + 1)).0 found in
      family_apart p _ _ _ _ (grows false false) old.0 old.1 old.2

  root_apart : (id : ℕ) → is_some (at_id id p.roots) ≡ true → id ≢ p.tree.last + 1
  root_apart id root = encrypted_apart p _ _ _ _ (grows false false) id (sound.tree.roots_encrypted id root)

  -- a plain dataset has no owner
  plain_owner : owner_of (created_with p name opts told false false) (p.tree.last + 1) ≡ None
  plain_owner =
      let found : row_of (p.tree.last + 1) (created_with p name opts told false false).tree.rows ≡ Some (new_row p name false) = new_found p _ _ _ _ (grows false false) in
      owner_by_walking (created_with p name opts told false false).tree p.roots (p.tree.last + 1) (grown_tree p _ _ _ _ (grows false false)) ∙ rw found refl

  pub plain_keeps : Sound c (created_with p name opts told false false)
  plain_keeps = sound_if false false
      (record {
        rising_roots = sound.tree.roots;
        rising_records = sound.tree.records;
        owner = λ crypt. absurd (cc);
        root = λ root. absurd (no_root_before root);
        recorded = λ found. absurd (no_record_before found);
        record_there = λ crypt first. absurd (cc);
        origin = λ clone. absurd (clone refl);
      })
      (keys_kept c p _ _ _ _ (grows false false) sound.keys sound.keys.loaded sound.keys.roots (λ root key found owner. absurd (let none : None ≡ Some root = sym plain_owner ∙ owner in cc)))

  -- a root owns itself
  root_owner : owner_of (created_with p name opts told true true) (p.tree.last + 1) ≡ Some (p.tree.last + 1)
  root_owner = owner_of_root (created_with p name opts told true true).tree (roots_with p opts told true) (p.tree.last + 1) (new_row p name true)
      (grown_tree p _ _ _ _ (grows true true), new_found p _ _ _ _ (grows true true)) refl (ap (λ (own : Option Props). is_some own) (at_id-with_id (p.tree.last + 1) (new_props opts told) p.roots))

  loaded_roots : All (λ (entry : ℕ × List ℕ). is_some (at_id entry.0 (roots_with p opts told true)) ≡ true) (loaded_with p told true)
  loaded_roots = All-from_recursion (λ (entry : ℕ × List ℕ). is_some (at_id entry.0 (roots_with p opts told true)) ≡ true) (loaded_with p told true)
      (all_with (λ (entry : ℕ × List ℕ). is_some (at_id entry.0 (roots_with p opts told true)) ≡ true) (p.tree.last + 1) told.key p.loaded
      (recursion_from_All (λ (entry : ℕ × List ℕ). is_some (at_id entry.0 (roots_with p opts told true)) ≡ true) p.loaded
      (λ k d within. ap (λ (own : Option Props). is_some own) ((grows true true).roots_kept _ (root_apart _ (sound.keys.roots k d within))) ∙ sound.keys.roots k d within))
      (ap (λ (own : Option Props). is_some own) (at_id-with_id (p.tree.last + 1) (new_props opts told) p.roots)))

  pub root_keeps : is_some (c.opens (unwrap_or (at_id (p.tree.last + 1) told.wrapped) []) told.key) ≡ true → Sound c (created_with p name opts told true true)
  root_keeps opened = sound_if true true
      (record {
        rising_roots = rising_unless true (p.tree.last + 1) (new_props opts told) p.roots sound.tree.roots;
        rising_records = rising_unless true (p.tree.last + 1) (new_stored (p.tree.last + 1) opts told) p.wrapped sound.tree.records;
        owner = λ crypt. ap (λ (owner : Option ℕ). is_some owner) root_owner;
        root = λ root. (refl, refl);
        recorded = λ found. (refl, refl);
        origin = λ clone. absurd (clone refl);
        record_there = λ crypt first. ap (λ (stored : Option Stored). is_some stored) (at_id-with_id (p.tree.last + 1) (new_stored (p.tree.last + 1) opts told) p.wrapped);
      })
      (keys_kept c p _ _ _ _ (grows true true) sound.keys (rising_unless true (p.tree.last + 1) told.key p.loaded sound.keys.loaded) loaded_roots
      (λ root key found owner.
      let own : Some (p.tree.last + 1) ≡ Some root = sym root_owner ∙ owner in
      let same : root ≡ p.tree.last + 1 = cc in
      let at_new : at_id (p.tree.last + 1) (loaded_with p told true) ≡ Some key = subst (λ (m : ℕ). at_id m (loaded_with p told true) ≡ Some key) same found in
      let both : Some told.key ≡ Some key = sym (at_id-with_id (p.tree.last + 1) told.key p.loaded) ∙ at_new in
      let known : told.key ≡ key = cc in
      subst (λ (stored : Option Stored). IfSome stored (λ s. is_some (c.opens s.wrapped key) ≡ true)) (sym (at_id-with_id (p.tree.last + 1) (new_stored (p.tree.last + 1) opts told) p.wrapped))
      (subst (λ (k : List ℕ). is_some (c.opens (unwrap_or (at_id (p.tree.last + 1) told.wrapped) []) k) ≡ true) known opened)))

  -- an heir's owner is that of its parent
  pub heir_owner : (parent : Row) → parent_row p name ≡ Some parent → owner_of (created_with p name opts told false true) (p.tree.last + 1) ≡ owner_of p parent.id
  heir_owner parent there =
      let found = parent_found p.tree.rows (parent_name name) parent sound.tree.tree.rising there in
      owner_of_other (created_with p name opts told false true).tree p.roots (p.tree.last + 1) (new_row p name true)
      (grown_tree p _ _ _ _ (grows false true), new_found p _ _ _ _ (grows false true)) refl (not_true (is_some (at_id (p.tree.last + 1) p.roots)) no_root_before)
      ∙ ap (λ (m : ℕ). owner_of (created_with p name opts told false true) m) found.0
      ∙ owner_stays p _ _ _ _ (grows false true) parent.id (was_given p _ _ _ _ (grows false true) parent.id parent found.1)

  heir_keeps_under : (parent : Row) → parent_row p name ≡ Some parent → parent.kind ≡ Crypt
      → is_some (c.opens (unwrap_or (at_id (p.tree.last + 1) told.wrapped) []) (parent_key p (Some parent))) ≡ true → Sound c (created_with p name opts told false true)
  heir_keeps_under parent there crypt opened = sound_if false true
      (record {
        rising_roots = sound.tree.roots;
        rising_records = rising_unless true (p.tree.last + 1) (new_stored (p.tree.last + 1) opts told) p.wrapped sound.tree.records;
        owner = λ kind.
            ap (λ (owner : Option ℕ). is_some owner) (heir_owner parent there)
            ∙ sound.tree.owners parent.id (parent, (parent_found p.tree.rows (parent_name name) parent sound.tree.tree.rising there).1, crypt);
        root = λ root. (refl, refl);
        recorded = λ found. (refl, refl);
        origin = λ clone. absurd (clone refl);
        record_there = λ kind first. ap (λ (stored : Option Stored). is_some stored) (at_id-with_id (p.tree.last + 1) (new_stored (p.tree.last + 1) opts told) p.wrapped);
      })
      (keys_kept c p _ _ _ _ (grows false true) sound.keys sound.keys.loaded sound.keys.roots
      (λ root key found owner.
      let of_parent : owner_of p parent.id ≡ Some root = sym (heir_owner parent there) ∙ owner in
      let known : parent_key p (Some parent) ≡ key = rw (of_parent, found) refl in
      subst (λ (stored : Option Stored). IfSome stored (λ s. is_some (c.opens s.wrapped key) ≡ true)) (sym (at_id-with_id (p.tree.last + 1) (new_stored (p.tree.last + 1) opts told) p.wrapped))
      (subst (λ (k : List ℕ). is_some (c.opens (unwrap_or (at_id (p.tree.last + 1) told.wrapped) []) k) ≡ true) known opened)))

  pub heir_keeps : is_encrypted_row (parent_row p name) ≡ true → is_some (c.opens (unwrap_or (at_id (p.tree.last + 1) told.wrapped) []) (parent_key p (parent_row p name))) ≡ true
      → Sound c (created_with p name opts told false true)
  heir_keeps below opened =
      let parent = encrypted_row (parent_row p name) below in
      heir_keeps_under parent.0 parent.1 parent.2
      (subst (λ (row : Option Row). is_some (c.opens (unwrap_or (at_id (p.tree.last + 1) told.wrapped) []) (parent_key p row)) ≡ true) parent.1 opened)
