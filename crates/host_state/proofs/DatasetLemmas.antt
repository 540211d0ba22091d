-- The heads of a host's families are its datasets.
use Rattle.std.proofs.Common.{◌≡◌, ◌≢◌, ⊎_elim, ℕ, ◌≤◌, Bool, true, false, not, cond, ◌==◌, ◌&&◌, ◌||◌, List, [], ◌∷◌, ◌++◌, length, Option, Some, None, is_some, Result, Ok, Err, IfSome, refl, ap, sym, ◌∙◌, subst, arith}
use Rattle.std.proofs.lemmas.Bool.{cases_Bool, cases_eq, eq-eqb, eqb-true, ne_eqb}
use Rattle.std.proofs.lemmas.List.Elements.{recursion_from_All}
use Rattle.std.specs.List.{filter}
use Rattle.std.specs.Option.{option_map, option_map_or}
use Rattle.std.specs.declared.alloc.AllocError.{AllocError}
use Rattle.dataset_tree.specs.declared.refusal.Refusal.{Refusal}
use Rattle.dataset_tree.specs.declared.refusal.Refusal.TheVariants as refusals
use Rattle.dataset_tree.specs.declared.tree.Row.{Row as Dataset}
use Rattle.dataset_tree.specs.Tree.{is_needed, row_of}
use Rattle.encryption_roots.specs.ById.{at_id, with_id, without_id}
use Rattle.encryption_roots.specs.Owners.{family}
use Rattle.encryption_roots.proofs.ByIdLemmas.{at_id-with_id, at_id-with_id_other, at_id-without_id, at_id-without_id_other}
use Rattle.encryption_roots.proofs.OwnerLemmas.{falls_in_tree}
use Rattle.family_log.specs.declared.entry.Spot.{Spot}
use Rattle.family_log.specs.declared.head.Head.{Head}
use Rattle.family_log.specs.Calls.{given, with_head}
use Rattle.family_log.specs.Model.{FamilyState, head_of}
use Rattle.family_log.specs.Snapshots.{clone_added, clone_of, head_removed, with_snapshot, without_snapshot}
use Rattle.family_log.proofs.SpotLemmas.{id_stays}
use Rattle.file_dataset.specs.declared.reply.FileReply.{FileReply}
use Rattle.file_dataset.specs.declared.reply.FileReply.TheVariants as replies
use Rattle.key_machine.specs.Plain.{Plain}
use Rattle.key_machine.specs.Sound.{SoundTree}
use Rattle.key_machine.proofs.CreateLawsGrown.{Grows, family_apart, family_stays, new_found, other_found, was_given}
use Rattle.key_machine.proofs.CreateLawsRows.{family_is_given, row_is_given}
use Rattle.key_machine.proofs.DestroyLawsRows.{row_of_gone, row_of_left, rows_left}
use Rattle.key_machine.proofs.DestroyLaws.{family_after}
use Rattle.snap_clone.specs.Answers.{drop_snapshot_answer, place_refusal, refusal_or, snapshot_answer, with_refused}
use Rattle.host_state.specs.FileAnswers.{HasChanged, HasDone, HasRefused}
use Rattle.host_state.specs.Hosts.{HasDatasets, by_id, facts_of_family, facts_of_record, is_member}
use Rattle.host_state.specs.SpotLines.{drop_left, dropped_unless, made_unless, snapshot_left, without_head}
use Rattle.host_state.proofs.FileLemmas.{at_by_id}
use Rattle.host_state.proofs.HostParts.{Heads}

-- ---- whether a head is there

there_first : (id : ℕ) (head : Head) (heads : List Head) → is_some (head_of id (head ∷ heads)) ≡ ((head.id == id) || is_some (head_of id heads))
there_first id head heads = by (head.id == id) where
  by : (own : Bool) → is_some (cond own (Some head) (head_of id heads)) ≡ (own || is_some (head_of id heads))
  by true = refl
  by false = refl

there_changed : (id at : ℕ) (change : Head → Head) (heads : List Head) → ((head : Head) → (change head).id ≡ head.id) → is_some (head_of id (with_head at change heads)) ≡ is_some (head_of id heads)
there_changed id at change [] keeps = refl
there_changed id at change (head ∷ heads) keeps =
    ⊎_elim
    (λ (own : (head.id == at) ≡ true).
    rw own (there_first id (change head) heads ∙ ap (λ (n : ℕ). (n == id) || is_some (head_of id heads)) (keeps head) ∙ sym (there_first id head heads)))
    (λ (other : (head.id == at) ≡ false).
    rw other (there_first id head (with_head at change heads) ∙ ap (λ (b : Bool). (head.id == id) || b) (there_changed id at change heads keeps) ∙ sym (there_first id head heads)))
    (cases_Bool (head.id == at))

there_last : (id : ℕ) (heads : List Head) (head : Head) → is_some (head_of id (heads ++ head ∷ [])) ≡ (is_some (head_of id heads) || (head.id == id))
there_last id [] head = there_first id head [] ∙ by (head.id == id) where
  by : (own : Bool) → (own || false) ≡ (false || own)
  by true = refl
  by false = refl
there_last id (first ∷ heads) head =
    there_first id first (heads ++ head ∷ []) ∙ ap (λ (b : Bool). (first.id == id) || b) (there_last id heads head) ∙ by (first.id == id) (is_some (head_of id heads)) (head.id == id)
    ∙ ap (λ (b : Bool). b || (head.id == id)) (sym (there_first id first heads))
  where
    by : (a b c : Bool) → (a || (b || c)) ≡ ((a || b) || c)
    by true b c = refl
    by false b c = refl

there_gone : (gone : ℕ) (heads : List Head) → head_of gone (filter (λ head. not (head.id == gone)) heads) ≡ None
there_gone gone [] = refl
there_gone gone (head ∷ heads) =
    let rest : head_of gone (filter (λ head. not (head.id == gone)) heads) ≡ None = there_gone gone heads in
    ⊎_elim (λ (out : (head.id == gone) ≡ true). rw out rest) (λ (kept : (head.id == gone) ≡ false). rw (kept, kept) rest) (cases_Bool (head.id == gone))

there_beside : (gone id : ℕ) (heads : List Head) → id ≢ gone → head_of id (filter (λ head. not (head.id == gone)) heads) ≡ head_of id heads
there_beside gone id [] apart = refl
there_beside gone id (head ∷ heads) apart =
    let rest : head_of id (filter (λ head. not (head.id == gone)) heads) ≡ head_of id heads = there_beside gone id heads apart in
    ⊎_elim
    (λ (out : (head.id == gone) ≡ true).
    let same : head.id ≡ gone = eqb-true head.id gone out in
    let unlike : (head.id == id) ≡ false = ne_eqb head.id id (λ e. apart (sym e ∙ same)) in
    rw (out, unlike) rest)
    (λ (kept : (head.id == gone) ≡ false). rw kept (ap (λ found. cond (head.id == id) (Some head) found) rest)) (cases_Bool (head.id == gone))

-- ---- what leaves the heads that are there

-- two families have heads of the same ids
abbrev pub SameHeads : (earlier later : FamilyState) → Type 0
SameHeads earlier later = (id : ℕ) → is_some (head_of id later.heads) ≡ is_some (head_of id earlier.heads)

same_by : (earlier later : FamilyState) → later.heads ≡ earlier.heads → SameHeads earlier later
same_by earlier later same id = ap (λ (heads : List Head). is_some (head_of id heads)) same

changed_heads : (head : ℕ) (earlier later : FamilyState) → HasChanged head earlier later → SameHeads earlier later
changed_heads head earlier later is id =
    ap (λ (family : FamilyState). is_some (head_of id family.heads)) is.2 ∙ there_changed id head (given is.0.table) earlier.heads (λ found. refl)

entry_heads : (none : Bool) (earlier noted : FamilyState) → noted.heads ≡ earlier.heads → (cond none earlier noted).heads ≡ earlier.heads
entry_heads true earlier noted same = refl
entry_heads false earlier noted same = same

refused_heads : (head : ℕ) (why : Refusal) (earlier later : FamilyState) → HasRefused head why earlier later → SameHeads earlier later
refused_heads head why earlier later is =
    same_by earlier later (ap (λ (family : FamilyState). family.heads) is.3 ∙ entry_heads _ earlier _ refl)

pub done_heads : (result : Result FileReply AllocError) (head : ℕ) (earlier later : FamilyState) → HasDone result head earlier later → SameHeads earlier later
done_heads (Ok replies.Done) head earlier later is = changed_heads head earlier later is
done_heads (Ok (replies.Wrote blocks number)) head earlier later is = changed_heads head earlier later is
done_heads (Ok (replies.Bytes bytes)) head earlier later is = same_by earlier later (ap (λ (family : FamilyState). family.heads) is.1)
done_heads (Ok (replies.Names rows)) head earlier later is = same_by earlier later (ap (λ (family : FamilyState). family.heads) is.1)
done_heads (Ok (replies.Blocks count)) head earlier later is = same_by earlier later (ap (λ (family : FamilyState). family.heads) is.1)
done_heads (Ok (replies.Refused why)) head earlier later is = refused_heads head why earlier later is
done_heads (Err stop) head earlier later is = same_by earlier later (ap (λ (family : FamilyState). family.heads) is)

noted_heads : (first : Option Refusal) (head : ℕ) (why : Refusal) (family : FamilyState) → SameHeads family (with_refused first head why family)
noted_heads None head why family id = refl
noted_heads (Some first) head why family id = refl

made_heads : (head : ℕ) (part : List ℕ) (guid : ℕ) (family : FamilyState) (answer : Result (Unit {0}) Refusal) → SameHeads family (made_unless head part guid family answer).state
made_heads head part guid family (Ok done) id = there_changed id head (with_snapshot part guid) family.heads (λ found. refl)
made_heads head part guid family (Err why) id = noted_heads (place_refusal head family) head why family id

pub snapshot_heads : (part : List ℕ) (guid : Option ℕ) (head : ℕ) (family : FamilyState) → SameHeads family (snapshot_left part guid head family).state
snapshot_heads part (Some guid) head family id = made_heads head part guid family (snapshot_answer head part family) id
snapshot_heads part None head family id = noted_heads (place_refusal head family) head (refusal_or refusals.EntropyFault head part family) family id

dropped_heads : (spot : Spot) (snap : Option (List ℕ)) (family : FamilyState) (id : ℕ)
    → is_some (head_of id (option_map_or (λ part. Rattle.family_log.specs.Snapshots.snapshot_removed spot.head part family) snap family).heads) ≡ is_some (head_of id family.heads)
dropped_heads spot None family id = refl
dropped_heads spot (Some part) family id = there_changed id spot.head (without_snapshot part) family.heads (λ head. id_stays part head)

pub drop_heads : (spot : Spot) (family : FamilyState) → SameHeads family (drop_left spot family).state
drop_heads spot family id = by (drop_snapshot_answer spot family) where
  by : (answer : Result (Unit {0}) Refusal) → is_some (head_of id (dropped_unless spot family answer).state.heads) ≡ is_some (head_of id family.heads)
  by (Ok done) = dropped_heads spot spot.snap family id
  by (Err why) = refl

-- ---- families by id

if_some : {X : Type 0} (P Q : X → Type 0) (found : Option X) → ((x : X) → found ≡ Some x → P x → Q x) → IfSome found P → IfSome found Q
if_some P Q None into holds = tt
if_some P Q (Some x) into holds = into x refl holds

each_with : (P : ℕ → FamilyState → Type 0) (families : List (ℕ × FamilyState)) (at : ℕ) (left : FamilyState) → P at left → ((of : ℕ) → of ≢ at → IfSome (at_id of families) (P of))
    → (of : ℕ) → IfSome (at_id of (with_id at left families)) (P of)
each_with P families at left own others of = ⊎_elim
    (λ (same : of ≡ at). subst (λ (i : ℕ). IfSome (at_id i (with_id at left families)) (P i)) (sym same) (subst (λ (found : Option FamilyState). IfSome found (P at)) (sym (at_id-with_id at left families)) own))
    (λ (apart : of ≢ at). subst (λ (found : Option FamilyState). IfSome found (P of)) (sym (at_id-with_id_other at of left families apart)) (others of apart)) (cases_eq of at)

each_without : (P : ℕ → FamilyState → Type 0) (families : List (ℕ × FamilyState)) (at : ℕ) → ((of : ℕ) → of ≢ at → IfSome (at_id of families) (P of)) → (of : ℕ) → IfSome (at_id of (without_id at families)) (P of)
each_without P families at others of = ⊎_elim
    (λ (same : of ≡ at). subst (λ (i : ℕ). IfSome (at_id i (without_id at families)) (P i)) (sym same) (subst (λ (found : Option FamilyState). IfSome found (P at)) (sym (at_id-without_id at families)) tt))
    (λ (apart : of ≢ at). subst (λ (found : Option FamilyState). IfSome found (P of)) (sym (at_id-without_id_other at of families apart)) (others of apart)) (cases_eq of at)

-- one family is left with the same heads
pub heads_one : (rows : List Dataset) (families : List (ℕ × FamilyState)) (at : ℕ) (state left : FamilyState) → at_id at families ≡ Some state → SameHeads state left → Heads rows families → Heads rows (with_id at left families)
heads_one rows families at state left found same heads =
    let own : HasDatasets rows at state = subst (λ (f : Option FamilyState). IfSome f (HasDatasets rows at)) found (heads at) in
    each_with (HasDatasets rows) families at left (λ id. same id ∙ own id) (λ of apart. heads of)

some_of : {X Y : Type 0} (f : X → Y) (y : Y) (found : Option X) → option_map f found ≡ Some y → is_some found ≡ true
some_of f y None is = absurd (cc)
some_of f y (Some x) is = refl

-- a family has a record
pub recorded : (p : Plain) (families : List (ℕ × FamilyState)) (of : ℕ) (state : FamilyState) → by_id facts_of_family families ≡ by_id facts_of_record p.wrapped → at_id of families ≡ Some state → is_some (at_id of p.wrapped) ≡ true
recorded p families of state paired found =
    some_of facts_of_record (facts_of_family state) (at_id of p.wrapped)
    (sym (at_by_id facts_of_record of p.wrapped) ∙ ap (λ es. at_id of es) (sym paired) ∙ at_by_id facts_of_family of families ∙ ap (option_map facts_of_family) found)

-- ---- a tree with one dataset more

module _ (p : Plain) (row : Dataset) (g : Grows p row p.roots p.wrapped p.loaded) where
  abbrev rows : List Dataset
  rows = p.tree.rows ++ row ∷ []

  absent_before : row_of row.id p.tree.rows ≡ None
  absent_before = by (row_of row.id p.tree.rows) refl where
    by : (found : Option Dataset) → row_of row.id p.tree.rows ≡ found → found ≡ None
    by None is = refl
    by (Some old) is = absurd (was_given p row p.roots p.wrapped p.loaded g row.id old is refl)

  member_new : (of : ℕ) → is_member rows of row.id ≡ (family rows row.id == of)
  member_new of = ap (λ (found : Option Dataset). is_some found && (family rows row.id == of)) (new_found p row p.roots p.wrapped p.loaded g)

  member_before : (of : ℕ) → is_member p.tree.rows of row.id ≡ false
  member_before of = ap (λ (found : Option Dataset). is_some found && (family p.tree.rows row.id == of)) absent_before

  member_other : (of id : ℕ) → id ≢ row.id → is_member rows of id ≡ is_member p.tree.rows of id
  member_other of id apart =
      ap (λ (found : Option Dataset). is_some found && (family rows id == of)) (other_found p row p.roots p.wrapped p.loaded g id apart)
      ∙ ap (λ (m : ℕ). is_some (row_of id p.tree.rows) && (m == of)) (family_stays p row p.roots p.wrapped p.loaded g id apart)

  member_kept : (of : ℕ) → family rows row.id ≢ of → (id : ℕ) → is_member rows of id ≡ is_member p.tree.rows of id
  member_kept of beside id = ⊎_elim
      (λ (same : id ≡ row.id). subst (λ (m : ℕ). is_member rows of m ≡ is_member p.tree.rows of m) (sym same) (member_new of ∙ ne_eqb (family rows row.id) of beside ∙ sym (member_before of)))
      (λ (apart : id ≢ row.id). member_other of id apart) (cases_eq id row.id)

  heads_beside : (families : List (ℕ × FamilyState)) → Heads p.tree.rows families → (of : ℕ) → ((state : FamilyState) → at_id of families ≡ Some state → family rows row.id ≢ of) → IfSome (at_id of families) (HasDatasets rows of)
  heads_beside families heads of beside =
      if_some (HasDatasets p.tree.rows of) (HasDatasets rows of) (at_id of families) (λ state found has id. has id ∙ sym (member_kept of (beside state found) id)) (heads of)

  -- ---- the dataset is its family's first

  module _ (s : SoundTree p) (families : List (ℕ × FamilyState)) (paired : by_id facts_of_family families ≡ by_id facts_of_record p.wrapped) (heads : Heads p.tree.rows families) (own : family rows row.id ≡ row.id) where
    of_apart : (of : ℕ) (state : FamilyState) → at_id of families ≡ Some state → family rows row.id ≢ of
    of_apart of state found same =
        let old = (s.families of).0 (recorded p families of state paired found) in
        family_apart p row p.roots p.wrapped p.loaded g old.0 old.1 (old.2 ∙ sym same ∙ own)

    pub heads_lone : Heads rows families
    heads_lone of = heads_beside families heads of (of_apart of)

    first_before : (id : ℕ) → is_member p.tree.rows row.id id ≡ false
    first_before id = by (row_of id p.tree.rows) refl where
      by : (found : Option Dataset) → row_of id p.tree.rows ≡ found → (is_some found && (family p.tree.rows id == row.id)) ≡ false
      by None is = refl
      by (Some old) is =
          let within : id ≤ p.tree.last = row_is_given id p.tree.last p.tree.rows old (recursion_from_All (λ (r : Dataset). r.id ≤ p.tree.last) p.tree.rows s.tree.given) is in
          let below : family p.tree.rows id ≤ p.tree.last = family_is_given p.tree.last p.tree.rows (falls_in_tree p.tree s.tree) (length p.tree.rows) id within in
          ne_eqb (family p.tree.rows id) row.id (λ same. omega (arith, below, same, g.id))

    -- and gets a family, of which it is the only head
    pub heads_first : (fresh : FamilyState) (head : Head) → fresh.heads ≡ head ∷ [] → head.id ≡ row.id → Heads rows (with_id row.id fresh families)
    heads_first fresh head lone named = each_with (HasDatasets rows) families row.id fresh has (λ of apart. heads_lone of) where
      only : (id : ℕ) → is_some (head_of id fresh.heads) ≡ (row.id == id)
      only id =
          ap (λ (hs : List Head). is_some (head_of id hs)) lone ∙ there_first id head [] ∙ by (head.id == id) ∙ ap (λ (n : ℕ). n == id) named
        where
          by : (b : Bool) → (b || false) ≡ b
          by true = refl
          by false = refl

      has : HasDatasets rows row.id fresh
      has id = ⊎_elim
          (λ (same : id ≡ row.id).
          subst (λ (m : ℕ). is_some (head_of m fresh.heads) ≡ is_member rows row.id m) (sym same)
          (only row.id ∙ ap (λ (m : ℕ). m == row.id) (sym own) ∙ sym (member_new row.id)))
          (λ (apart : id ≢ row.id). only id ∙ ne_eqb row.id id (λ e. apart (sym e)) ∙ sym (member_other row.id id apart ∙ first_before id)) (cases_eq id row.id)

  -- ---- the dataset is a clone

  module _ (families : List (ℕ × FamilyState)) (heads : Heads p.tree.rows families) (at : ℕ) (own : family rows row.id ≡ at) (state : FamilyState) (found : at_id at families ≡ Some state) where
    pub heads_clone : (left : FamilyState) (head : Head) → left.heads ≡ state.heads ++ head ∷ [] → head.id ≡ row.id → Heads rows (with_id at left families)
    heads_clone left head more named = each_with (HasDatasets rows) families at left has (λ of apart. heads_beside families heads of (λ other there same. apart (sym same ∙ own))) where
      with_last : (id : ℕ) → is_some (head_of id left.heads) ≡ (is_some (head_of id state.heads) || (row.id == id))
      with_last id =
          ap (λ (hs : List Head). is_some (head_of id hs)) more ∙ there_last id state.heads head ∙ ap (λ (n : ℕ). is_some (head_of id state.heads) || (n == id)) named

      or_true : (b : Bool) → (b || true) ≡ true
      or_true true = refl
      or_true false = refl

      or_false : (b : Bool) → (b || false) ≡ b
      or_false true = refl
      or_false false = refl

      before : HasDatasets p.tree.rows at state
      before = subst (λ (f : Option FamilyState). IfSome f (HasDatasets p.tree.rows at)) found (heads at)

      has : HasDatasets rows at left
      has id = ⊎_elim
          (λ (same : id ≡ row.id).
          subst (λ (m : ℕ). is_some (head_of m left.heads) ≡ is_member rows at m) (sym same)
          (with_last row.id ∙ ap (λ (b : Bool). is_some (head_of row.id state.heads) || b) (eq-eqb row.id row.id refl) ∙ or_true (is_some (head_of row.id state.heads))
          ∙ sym (member_new at ∙ eq-eqb (family rows row.id) at own)))
          (λ (apart : id ≢ row.id).
          with_last id ∙ ap (λ (b : Bool). is_some (head_of id state.heads) || b) (ne_eqb row.id id (λ e. apart (sym e))) ∙ or_false (is_some (head_of id state.heads))
          ∙ before id ∙ sym (member_other at id apart)) (cases_eq id row.id)

-- ---- a tree without a dataset that none needs

module _ (p : Plain) (id : ℕ) (free : is_needed id p.tree.rows ≡ false) (s : SoundTree p) (families : List (ℕ × FamilyState)) (heads : Heads p.tree.rows families) where
  abbrev left : List Dataset
  left = rows_left id p.tree.rows

  abbrev at : ℕ
  at = family p.tree.rows id

  member_gone : (of : ℕ) → is_member left of id ≡ false
  member_gone of = ap (λ (found : Option Dataset). is_some found && (family left id == of)) (row_of_gone id p.tree.rows)

  member_left : (of other : ℕ) → other ≢ id → is_member left of other ≡ is_member p.tree.rows of other
  member_left of other apart =
      ap (λ (found : Option Dataset). is_some found && (family left other == of)) (row_of_left id other p.tree.rows apart)
      ∙ ap (λ (m : ℕ). is_some (row_of other p.tree.rows) && (m == of)) (family_after p id free s other apart)

  member_still : (of : ℕ) → of ≢ at → (other : ℕ) → is_member left of other ≡ is_member p.tree.rows of other
  member_still of beside other = ⊎_elim
      (λ (same : other ≡ id). subst (λ (m : ℕ). is_member left of m ≡ is_member p.tree.rows of m) (sym same)
      (member_gone of ∙ sym (ap (λ (b : Bool). is_some (row_of id p.tree.rows) && b) (ne_eqb at of (λ e. beside (sym e))) ∙ and_false (is_some (row_of id p.tree.rows)))))
      (λ (apart : other ≢ id). member_left of other apart) (cases_eq other id)
    where
      and_false : (b : Bool) → (b && false) ≡ false
      and_false true = refl
      and_false false = refl

  heads_still : (of : ℕ) → of ≢ at → IfSome (at_id of families) (HasDatasets left of)
  heads_still of beside =
      if_some (HasDatasets p.tree.rows of) (HasDatasets left of) (at_id of families) (λ state found has other. has other ∙ sym (member_still of beside other)) (heads of)

  pub heads_dropped : Heads left (without_id at families)
  heads_dropped = each_without (HasDatasets left) families at heads_still

  pub heads_left : (found : Option FamilyState) → at_id at families ≡ found → Heads left (without_head families at id found)
  heads_left None none = λ of. ⊎_elim
      (λ (same : of ≡ at). subst (λ (i : ℕ). IfSome (at_id i families) (HasDatasets left i)) (sym same) (subst (λ (f : Option FamilyState). IfSome f (HasDatasets left at)) (sym none) tt))
      (λ (beside : of ≢ at). heads_still of beside) (cases_eq of at)
  heads_left (Some state) found = each_with (HasDatasets left) families at (head_removed id state) has heads_still where
    before : HasDatasets p.tree.rows at state
    before = subst (λ (f : Option FamilyState). IfSome f (HasDatasets p.tree.rows at)) found (heads at)

    has : HasDatasets left at (head_removed id state)
    has other = ⊎_elim
        (λ (same : other ≡ id). subst (λ (m : ℕ). is_some (head_of m (head_removed id state).heads) ≡ is_member left at m) (sym same)
        (ap (λ (f : Option Head). is_some f) (there_gone id state.heads) ∙ sym (member_gone at)))
        (λ (apart : other ≢ id). ap (λ (f : Option Head). is_some f) (there_beside id other state.heads apart) ∙ before other ∙ sym (member_left at other apart)) (cases_eq other id)
