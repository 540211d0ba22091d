-- What the keystore is where a clone goes again; and whose family goes with a dataset.
use Rattle.std.proofs.Common.{◌≡◌, ◌≢◌, ⊎_elim, ℕ, ◌+◌, ◌<◌, ◌≤◌, true, false, not, ◌==◌, ◌||◌, List, [], ◌∷◌, ◌++◌, get_or, Option, Some, None, is_some, is_none, refl, ap, sym, ◌∙◌, arith}
use Rattle.std.proofs.lemmas.Bool.{cases_eq, cases_Bool, eq-eqb, ne_eqb}
use Rattle.std.proofs.lemmas.List.Elements.{All-head, All-tail, filter-append, recursion_from_All}
use Rattle.std.proofs.lemmas.List.Folds.{find-append, list_any_none}
use Rattle.std.proofs.lemmas.Slice.Eq.{bytes_eq-Decides}
use Rattle.std.specs.List.{All, filter, find}
use Rattle.std.specs.Option.{option_map, option_or}
use Rattle.std.specs.Str.{bytes_eq}
use Rattle.dataset_tree.specs.declared.kinds.Kind.TheVariants.{Crypt}
use Rattle.dataset_tree.specs.declared.refusal.Refusal.TheVariants.{NoSuch, HasChildren, Mounted}
use Rattle.dataset_tree.specs.declared.tree.Row.{Row as Dataset}
use Rattle.dataset_tree.specs.Tree.{IsTree, id_named, is_needed, row_named, row_of}
use Rattle.encryption_roots.specs.declared.command.KeyCmd.TheVariants as commands
use Rattle.encryption_roots.specs.declared.props.Props.{Props}
use Rattle.encryption_roots.specs.ById.{at_id, without_id}
use Rattle.encryption_roots.specs.Owners.{family}
use Rattle.encryption_roots.proofs.OwnerLemmas.{family_by_walking}
use Rattle.key_ciphers.specs.Ciphers.{ciphers}
use Rattle.key_machine.specs.Clone.{cloned}
use Rattle.key_machine.specs.Destroy.{destroyed, has_relatives, is_needed_row, records_left}
use Rattle.key_machine.specs.Mount.{is_mounted_row}
use Rattle.key_machine.specs.Plain.{Plain, Stored, is_root}
use Rattle.key_machine.specs.Refusals.{first_of}
use Rattle.key_machine.specs.Reply.{Stepped, Done}
use Rattle.key_machine.specs.Sound.{IsEncrypted, Sound, SoundTree}
use Rattle.key_machine.specs.Step.{IsAccepted, key_step, refusal_of, target}
use Rattle.key_machine.specs.Told.{nothing_told}
use Rattle.key_machine.specs.Users.{is_mounted}
use Rattle.key_machine.proofs.CloneLaws.{IsClonable, clonable, clone_grows, cloned_sound, row}
use Rattle.key_machine.proofs.CloneSteps.{clone_step}
use Rattle.key_machine.proofs.CreateLawsCases.{found_has}
use Rattle.key_machine.proofs.CreateLawsGrown.{encrypted_apart, family_apart, grown_tree, new_found}
use Rattle.key_machine.proofs.DestroyLaws.{alone, not_alone}
use Rattle.key_machine.proofs.DestroySteps.{destroy_done_where_idle, done_state, first_record}
use Rattle.key_machine.proofs.KeyLists.{at_id_is}

-- ---- whose family goes

-- who isn't its family's first dataset is a clone, and so encrypted
clone_encrypted : (p : Plain) (id : ℕ) (of : Dataset) → row_of id p.tree.rows ≡ Some of → SoundTree p → family p.tree.rows id ≢ id → IsEncrypted p id
clone_encrypted p id of found s clone = (
  of,
  found,
  (found_has (λ (r : Dataset). r.origin ≢ 0 → (r.kind ≡ Crypt) × IsEncrypted p r.origin) (λ r. r.id == id) p.tree.rows of
      (recursion_from_All (λ (r : Dataset). r.origin ≢ 0 → (r.kind ≡ Crypt) × IsEncrypted p r.origin) p.tree.rows s.origins) found has_origin).0,
) where
  has_origin : of.origin ≢ 0
  has_origin first = clone (let zero_is : (of.origin == 0) ≡ true = eq-eqb of.origin 0 first in family_by_walking p.tree id s.tree ∙ rw (found, zero_is) refl)

-- others are of the family of a dataset that none needs exactly where it isn't the family's first
pub relatives : (p : Plain) (id : ℕ) (of : Dataset) → row_of id p.tree.rows ≡ Some of → SoundTree p → is_needed id p.tree.rows ≡ false → has_relatives p id ≡ not (family p.tree.rows id == id)
relatives p id of found s free = ⊎_elim
    (λ (own : family p.tree.rows id ≡ id).
    let same : (family p.tree.rows id == id) ≡ true = eq-eqb (family p.tree.rows id) id own in
    alone p id free s own ∙ ap not (sym same))
    (λ (clone : family p.tree.rows id ≢ id).
    let other : (family p.tree.rows id == id) ≡ false = ne_eqb (family p.tree.rows id) id clone in
    not_alone p id free s (clone_encrypted p id of found s clone) clone ∙ ap not (sym other)) (cases_eq (family p.tree.rows id) id)

-- ---- lists without an entry that isn't there

pub without_absent : {X : Type 0} (id : ℕ) (entries : List (ℕ × X)) → at_id id entries ≡ None → without_id id entries ≡ entries
without_absent id [] none = refl
without_absent id (entry ∷ entries) none = ⊎_elim (λ (same : (entry.0 == id) ≡ true). absurd (let some : Some entry.1 ≡ None = rw same at none in cc))
    (λ (other : (entry.0 == id) ≡ false). rw other (ap (λ rest. entry ∷ rest) (without_absent id entries (rw other at none)))) (cases_Bool (entry.0 == id))

absent_of : {X : Type 0} (found : Option X) → (is_some found ≡ true → ⊥) → found ≡ None
absent_of None never = refl
absent_of (Some x) never = absurd (never refl)

rows_below : (last : ℕ) (rows : List Dataset) → All (λ (r : Dataset). r.id ≤ last) rows → filter (λ r. not (r.id == last + 1)) rows ≡ rows
rows_below last [] below = refl
rows_below last (first ∷ rows) below =
    let within : first.id ≤ last = All-head (λ (r : Dataset). r.id ≤ last) first rows below in
    let apart : (first.id == last + 1) ≡ false = ne_eqb first.id (last + 1) (λ same. omega (arith, within, same)) in
    rw apart (ap (λ rest. first ∷ rest) (rows_below last rows (All-tail (λ (r : Dataset). r.id ≤ last) first rows below)))

-- ---- a clone that goes again

module _ (p : Plain) (from name : List ℕ) (origin : ℕ) (s : Sound ciphers p) (accepted : refusal_of p (commands.Clone from name) ≡ None) (at : target p (commands.Clone from name) ≡ Some origin) where
  abbrev new : ℕ
  new = p.tree.last + 1

  abbrev with_clone : Plain
  with_clone = cloned p origin name

  is : IsClonable p origin name
  is = clonable p from name origin s.tree.tree accepted at

  abbrev made : Dataset
  made = row p origin name s.tree.tree is

  pub cloned_state : (key_step p (commands.Clone from name) nothing_told).state ≡ with_clone
  cloned_state = ap (λ (stepped : Stepped). stepped.state) (clone_step p from name nothing_told origin at (record { state = accepted; material = refl }))

  tree_after : IsTree with_clone.tree
  tree_after = grown_tree p made p.roots p.wrapped p.loaded (clone_grows p origin name s.tree.tree is)

  sound_after : Sound ciphers with_clone
  sound_after = cloned_sound p origin name s.tree.tree is ciphers s

  never : IsEncrypted p new → ⊥
  never encrypted = encrypted_apart p made p.roots p.wrapped p.loaded (clone_grows p origin name s.tree.tree is) new encrypted refl

  absent_in : {X : Type 0} (entries : List (ℕ × X)) → All (λ entry. IsEncrypted p entry.0) entries → at_id new entries ≡ None
  absent_in {X = X} entries all = by (at_id new entries) refl where
    by : (found : Option X) → at_id new entries ≡ found → found ≡ None
    by None there = refl
    by (Some x) there = absurd (never (at_id_is (λ (entry : ℕ × X). IsEncrypted p entry.0) new entries x all there))

  no_mapping : at_id new p.mapped ≡ None
  no_mapping = absent_in p.mapped s.mappings.encrypted

  no_root : at_id new p.roots ≡ None
  no_root = absent_of (at_id new p.roots) (λ there. never (s.tree.roots_encrypted new there))

  no_record : at_id new p.wrapped ≡ None
  no_record = absent_of (at_id new p.wrapped) (λ there.
      let old = (s.tree.families new).0 there in
      family_apart p made p.roots p.wrapped p.loaded (clone_grows p origin name s.tree.tree is) old.0 old.1 old.2)

  no_key : at_id new p.loaded ≡ None
  no_key = by (at_id new p.loaded) refl where
    by : (found : Option (List ℕ)) → at_id new p.loaded ≡ found → found ≡ None
    by None there = refl
    by (Some key) there = absurd (never (s.tree.roots_encrypted new (at_id_is (λ (entry : ℕ × List ℕ). is_root p entry.0 ≡ true) new p.loaded key s.keys.roots there)))

  not_there : (found : Option Dataset) → is_some found ≡ false → found ≡ None
  not_there None none = refl
  not_there (Some r) none = absurd (cc)

  named_new : row_named name with_clone.tree.rows ≡ Some made
  named_new =
      let own : bytes_eq name name ≡ true = (bytes_eq-Decides name name).1 refl in
      let none : row_named name p.tree.rows ≡ None = not_there (row_named name p.tree.rows) is.absent in
      find-append (λ (r : Dataset). bytes_eq r.name name) p.tree.rows (made ∷ []) ∙ ap (λ (first : Option Dataset). option_or first (find (λ (r : Dataset). bytes_eq r.name name) (made ∷ []))) none ∙ rw own refl

  id_new : id_named name with_clone.tree.rows ≡ Some new
  id_new = ap (λ (found : Option Dataset). option_map (λ (r : Dataset). r.id) found) named_new

  free : is_needed new with_clone.tree.rows ≡ false
  free = list_any_none (λ (r : Dataset). r.parent == new || r.origin == new) with_clone.tree.rows (λ k d within.
      let r : Dataset = get_or with_clone.tree.rows k d in
      let given : r.id ≤ new = tree_after.given k d within in
      let parent : r.parent < r.id = tree_after.parents_first k d within in
      let of : r.origin < r.id = tree_after.origins k d within in
      let apart : (r.parent == new) ≡ false = ne_eqb r.parent new (λ same. omega (arith, given, parent, same)) in
      let beside : (r.origin == new) ≡ false = ne_eqb r.origin new (λ same. omega (arith, given, of, same)) in
      rw (apart, beside) refl)

  unmounted : is_mounted with_clone new ≡ false
  unmounted = list_any_none (λ mounted. mounted == new) p.mounted (λ k d within.
      ne_eqb (get_or p.mounted k d) new (λ same.
      let mapped : is_some (at_id (get_or p.mounted k d) p.mapped) ≡ true = s.mappings.mounts k d within in
      let none : is_some (at_id (get_or p.mounted k d) p.mapped) ≡ false = ap (λ (id : ℕ). is_some (at_id id p.mapped)) same ∙ ap (λ (found : Option ℕ). is_some found) no_mapping in
      let both : true ≡ false = sym mapped ∙ none in
      cc))

  accepted_again : IsAccepted with_clone (commands.Destroy name false) nothing_told
  accepted_again = record {
    state = ap (λ (r : Option Dataset). first_of ((is_none r, NoSuch) ∷ (is_needed_row with_clone r || false, HasChildren) ∷ (is_mounted_row with_clone r, Mounted) ∷ [])) named_new ∙ rw (free, unmounted) refl;
    material = refl;
  }

  done_again : (key_step with_clone (commands.Destroy name false) nothing_told).reply ≡ Done
  done_again = (destroy_done_where_idle with_clone name false nothing_told new id_new accepted_again).1
      (λ slot there. absurd (let both : None ≡ Some slot = sym no_mapping ∙ there in cc))

  same_fields : (rows : List Dataset) (roots : List (ℕ × Props)) (wrapped : List (ℕ × Stored)) (loaded : List (ℕ × List ℕ)) (mapped : List (ℕ × ℕ))
      → rows ≡ p.tree.rows → roots ≡ p.roots → wrapped ≡ p.wrapped → loaded ≡ p.loaded → mapped ≡ p.mapped
      → record p { tree = record { rows = rows; last = new }; roots = roots; wrapped = wrapped; loaded = loaded; mapped = mapped } ≡ record p { tree = record p.tree { last = new } }
  same_fields rows roots wrapped loaded mapped rows_are roots_are wrapped_are loaded_are mapped_are =
      ap (λ (r : List Dataset). record p { tree = record { rows = r; last = new }; roots = roots; wrapped = wrapped; loaded = loaded; mapped = mapped }) rows_are
      ∙ ap (λ (r : List (ℕ × Props)). record p { tree = record { rows = p.tree.rows; last = new }; roots = r; wrapped = wrapped; loaded = loaded; mapped = mapped }) roots_are
      ∙ ap (λ (w : List (ℕ × Stored)). record p { tree = record { rows = p.tree.rows; last = new }; wrapped = w; loaded = loaded; mapped = mapped }) wrapped_are
      ∙ ap (λ (l : List (ℕ × List ℕ)). record p { tree = record { rows = p.tree.rows; last = new }; loaded = l; mapped = mapped }) loaded_are
      ∙ ap (λ (m : List (ℕ × ℕ)). record p { tree = record { rows = p.tree.rows; last = new }; mapped = m }) mapped_are

  rows_back : filter (λ (r : Dataset). not (r.id == new)) (p.tree.rows ++ made ∷ []) ≡ p.tree.rows
  rows_back =
      let own : (new == new) ≡ true = eq-eqb new new refl in
      filter-append (λ (r : Dataset). not (r.id == new)) p.tree.rows (made ∷ []) ∙ ap (λ (rest : List Dataset). rest ++ filter (λ (r : Dataset). not (r.id == new)) (made ∷ [])) (rows_below p.tree.last p.tree.rows s.tree.tree.given)
      ∙ rw own (append_nil p.tree.rows)
    where
      append_nil : (rows : List Dataset) → rows ++ [] ≡ rows
      append_nil [] = refl
      append_nil (r ∷ rows) = ap (λ rest. r ∷ rest) (append_nil rows)

  gone_again : destroyed with_clone new ≡ record p { tree = record p.tree { last = new } }
  gone_again = same_fields (filter (λ (r : Dataset). not (r.id == new)) (p.tree.rows ++ made ∷ [])) (without_id new p.roots) (records_left with_clone new) (without_id new p.loaded) (without_id new p.mapped)
      rows_back (without_absent new p.roots no_root)
      (first_record with_clone new made (new_found p made p.roots p.wrapped p.loaded (clone_grows p origin name s.tree.tree is)) sound_after.tree free ∙ without_absent new p.wrapped no_record)
      (without_absent new p.loaded no_key) (without_absent new p.mapped no_mapping)

  -- of a clone that is destroyed at once its id alone is left used
  pub undone : (key_step (key_step p (commands.Clone from name) nothing_told).state (commands.Destroy name false) nothing_told).state ≡ record p { tree = record p.tree { last = p.tree.last + 1 } }
  undone =
      ap (λ (q : Plain). (key_step q (commands.Destroy name false) nothing_told).state) cloned_state
      ∙ done_state with_clone name false nothing_told new id_new done_again ∙ gone_again
