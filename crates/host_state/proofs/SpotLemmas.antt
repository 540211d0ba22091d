-- What calls on one family of a host leave of it, and of the host.
use Rattle.std.proofs.Common.{◌≡◌, ⊎_elim, ℕ, ◌<◌, ◌≤◌, Bool, true, false, not, cond, nat_lt, ◌==◌, List, [], ◌∷◌, get_or, set, Option, Some, None, Result, Ok, Err, IfErr, IfSome, OnErr, OnOk, refl, ap, sym, ◌∙◌, subst, arith}
use Rattle.std.proofs.lemmas.Bool.{cases_Bool, cases_eq, eqb-true}
use Rattle.std.proofs.lemmas.Bool.Decides.{nat_tests}
use Rattle.std.proofs.lemmas.List.{set-get_or}
use Rattle.std.proofs.lemmas.List.Elements.{All-filter, All-from_recursion, recursion_from_All}
use Rattle.std.specs.List.{All}
use Rattle.dataset_tree.specs.declared.refusal.Refusal.{Refusal}
use Rattle.dataset_tree.specs.declared.refusal.Refusal.TheVariants as refusals
use Rattle.dataset_tree.specs.declared.refusal.Stop.{Stop}
use Rattle.dataset_tree.specs.declared.refusal.Stop.TheVariants as stops
use Rattle.dataset_tree.specs.declared.tree.Row.{Row as Dataset}
use Rattle.dataset_tree.specs.Refusal.{Gives}
use Rattle.dataset_tree.specs.Tree.{IsTree, row_named}
use Rattle.encryption_roots.specs.ById.{IsRisingById, at_id, with_id, without_id}
use Rattle.encryption_roots.proofs.ByIdLemmas.{IsRisingById-with_id, IsRisingById-without_id, at_id-found, at_id-with_id, at_id-with_id_other, at_id-without_id, at_id-without_id_other, rises, with_id-replaced}
use Rattle.family_log.specs.declared.entry.ReadNote.TheVariants as notes
use Rattle.family_log.specs.declared.entry.Spot.{Spot}
use Rattle.family_log.specs.declared.head.Head.{Head}
use Rattle.family_log.specs.Log.{head_spot, snap_spot}
use Rattle.family_log.specs.Model.{FamilyState}
use Rattle.family_log.specs.Snapshots.{IsNewHead, clone_added, head_removed, snapshot_added}
use Rattle.file_dataset.specs.Steady.{IsSteady}
use Rattle.key_ciphers.specs.Calls.{AnswersDone}
use Rattle.key_machine.specs.Plain.{Plain, is_encrypted_kind}
use Rattle.key_machine.specs.Reply.{Refused}
use Rattle.key_machine.proofs.CreateLawsCases.{found_has}
use Rattle.key_machine.proofs.KeyLists.{at_id_is}
use Rattle.snap_clone.specs.Acts.{DropSnapshot, MakeClone, MakeSnapshot, Note}
use Rattle.snap_clone.specs.Answers.{after_stop, clone_answer, drop_snapshot_answer, place_refusal, refusal_or, snapshot_answer, spot_removed, with_refused}
use Rattle.snap_clone.specs.Ids.{IsUpTo}
use Rattle.snap_clone.proofs.IdLemmas.{up_to_still}
use Rattle.host_state.specs.FileAnswers.{IsPlaceOf}
use Rattle.host_state.specs.Hosts.{HostState, KeyFacts, by_id, facts_of_family, facts_of_record, host_after}
use Rattle.host_state.specs.SpotAnswers.{left_after}
use Rattle.host_state.specs.SpotLines.{Left, drop_left, dropped_unless, encrypted_id, encrypted_row, family_id, made_unless, on_family, on_head, replied, snapshot_left, unmade, with_families, without_head}
use Rattle.host_state.proofs.HostParts.{Pairs}
use Rattle.host_state.proofs.PairedLemmas.{facts_with_id}

-- ---- lists by id

pub with_same : {X : Type 0} (id : ℕ) (value : X) (entries : List (ℕ × X)) → IsRisingById entries → at_id id entries ≡ Some value → with_id id value entries ≡ entries
with_same {X = X} id value entries rising found = by entries (rises entries rising) found where
  above : (rest : List (ℕ × X)) (first : ℕ) → All (λ (later : ℕ × X). first < later.0) rest → at_id id rest ≡ Some value → first < id
  above rest first all there = at_id_is (λ (later : ℕ × X). first < later.0) id rest value all there

  by : (entries : List (ℕ × X)) → Rattle.encryption_roots.proofs.ByIdLemmas.Rises entries → at_id id entries ≡ Some value → with_id id value entries ≡ entries
  by [] rises found = absurd (cc)
  by (entry ∷ rest) rises found = ⊎_elim
      (λ (own : (entry.0 == id) ≡ true).
      let here : Some entry.1 ≡ Some value = rw own at found in
      let same : entry.1 ≡ value = cc in
      let at : entry.0 ≡ id = eqb-true entry.0 id own in
      let level : nat_lt entry.0 id ≡ false = grind (arith, nat_tests) in
      rw (level, own) (ap (λ (i : ℕ). (i, value) ∷ rest) (sym at) ∙ ap (λ (v : X). (entry.0, v) ∷ rest) (sym same)))
      (λ (other : (entry.0 == id) ≡ false).
      let there : at_id id rest ≡ Some value = rw other at found in
      let below : entry.0 < id = above rest entry.0 (All-from_recursion (λ (later : ℕ × X). entry.0 < later.0) rest rises.0) there in
      let lower : nat_lt entry.0 id ≡ true = grind (arith, nat_tests) in
      rw lower (ap (λ es. entry ∷ es) (by rest rises.1 there))) (cases_Bool (entry.0 == id))

pub facts_without_id : {X Y : Type 0} (f : X → Y) (id : ℕ) (entries : List (ℕ × X)) → by_id f (without_id id entries) ≡ without_id id (by_id f entries)
facts_without_id f id [] = refl
facts_without_id f id (entry ∷ entries) =
    let rest = facts_without_id f id entries in
    ⊎_elim (λ (own : (entry.0 == id) ≡ true). rw own rest) (λ (other : (entry.0 == id) ≡ false). rw other (ap (λ es. (entry.0, f entry.1) ∷ es) rest)) (cases_Bool (entry.0 == id))

-- ---- the call of one family, at its place

pub here_at : {X : Type 0} (entries : List (ℕ × X)) (at id : ℕ) (entry : ℕ × X) → IsPlaceOf id entries (Some at) → entry ≡ get_or entries at entry → at_id id entries ≡ Some entry.1
here_at {X = X} entries at id entry place here =
    at_id-found id entries at entry place.0 place.1 (place.2 entry) ∙ ap (λ (e : ℕ × X). let found : Option X = Some e.1 in found) (sym here)

pub put_at : {X : Type 0} (entries : List (ℕ × X)) (at id : ℕ) (entry : ℕ × X) (left : X) → IsPlaceOf id entries (Some at) → entry ≡ get_or entries at entry → set entries at (entry.0, left) ≡ with_id id left entries
put_at {X = X} entries at id entry left place here =
    let own : entry.0 ≡ id = ap (λ (e : ℕ × X). e.0) here ∙ place.2 entry in
    ap (λ (i : ℕ). set entries at (i, left)) own ∙ with_id-replaced id left entries at entry place.0 place.1 (place.2 entry)

module _ (entries : List (ℕ × FamilyState)) (at id : ℕ) (entry : ℕ × FamilyState) (place : IsPlaceOf id entries (Some at)) (here : entry ≡ get_or entries at entry) (why : Refusal) (call : FamilyState → Left) where
  there : at_id id entries ≡ Some entry.1
  there = here_at entries at id entry place here

  pub one_replies : (result : Result (Unit {0}) Stop) → AnswersDone result (replied (call entry.1).answer) → AnswersDone result (on_family entries id why call (at_id id entries)).reply
  one_replies result answers = subst (λ (found : Option FamilyState). AnswersDone result (on_family entries id why call found).reply) (sym there) answers

  pub one_left : (result : Result (Unit {0}) Stop) (left : FamilyState) → left ≡ left_after result entry.1 (call entry.1).state
      → set entries at (entry.0, left) ≡ left_after result entries (on_family entries id why call (at_id id entries)).families
  one_left result left is =
      subst (λ (found : Option FamilyState). set entries at (entry.0, left) ≡ left_after result entries (on_family entries id why call found).families) (sym there) (by result is)
    where
      by : (result : Result (Unit {0}) Stop) → left ≡ left_after result entry.1 (call entry.1).state
          → set entries at (entry.0, left) ≡ left_after result entries (with_id id (call entry.1).state entries)
      by (Ok done) is = put_at entries at id entry left place here ∙ ap (λ (f : FamilyState). with_id id f entries) is
      by (Err (stops.Refused why)) is = put_at entries at id entry left place here ∙ ap (λ (f : FamilyState). with_id id f entries) is
      by (Err stops.NoMemory) is = ap (λ (f : FamilyState). set entries at (entry.0, f)) is ∙ ap (λ (e : ℕ × FamilyState). set entries at e) here ∙ set-get_or entries at entry

pub none_replies : (entries : List (ℕ × FamilyState)) (id : ℕ) (why : Refusal) (call : FamilyState → Left) → IsPlaceOf id entries None
    → AnswersDone {T = Unit {0}} (Err (stops.Refused why)) (on_family entries id why call (at_id id entries)).reply
none_replies entries id why call none = ap (λ (found : Option FamilyState). (on_family entries id why call found).reply) none

pub none_left : (entries : List (ℕ × FamilyState)) (id : ℕ) (why : Refusal) (call : FamilyState → Left) → IsPlaceOf id entries None
    → entries ≡ (on_family entries id why call (at_id id entries)).families
none_left entries id why call none = sym (ap (λ (found : Option FamilyState). (on_family entries id why call found).families) none)

pub removed_at : (entries : List (ℕ × FamilyState)) (at id : ℕ) (entry : ℕ × FamilyState) (head : ℕ) (left : FamilyState) → IsPlaceOf id entries (Some at) → entry ≡ get_or entries at entry → left ≡ head_removed head entry.1
    → set entries at (entry.0, left) ≡ without_head entries id head (at_id id entries)
removed_at entries at id entry head left place here is =
    put_at entries at id entry left place here ∙ ap (λ (f : FamilyState). with_id id f entries) is
    ∙ sym (ap (λ (found : Option FamilyState). without_head entries id head found) (here_at entries at id entry place here))

-- ---- the calls of one family, by what they say of it

-- the answer of a call, and the family after it
abbrev pub Calls : Result (Unit {0}) Stop → (old new : FamilyState) → Left → Type 0
Calls result old new left = AnswersDone result (replied left.answer) × (new ≡ left_after result old left.state)

pub snapshot_by : (part : List ℕ) (guid head : ℕ) (result : Result (Unit {0}) Stop) (old new : FamilyState) → Gives result (snapshot_answer head part old) → OnOk result (new ≡ snapshot_added head part guid old)
    → IfErr result (λ stop. new ≡ after_stop head stop old) → Calls result old new (snapshot_left part (Some guid) head old)
snapshot_by part guid head (Ok tt) old new gives made stopped =
    (ap (λ (a : Result (Unit {0}) Refusal). replied (made_unless head part guid old a).answer) gives, made ∙ sym (ap (λ (a : Result (Unit {0}) Refusal). (made_unless head part guid old a).state) gives))
snapshot_by part guid head (Err (stops.Refused why)) old new gives made stopped =
    (ap (λ (a : Result (Unit {0}) Refusal). replied (made_unless head part guid old a).answer) gives, stopped ∙ sym (ap (λ (a : Result (Unit {0}) Refusal). (made_unless head part guid old a).state) gives))
snapshot_by part guid head (Err stops.NoMemory) old new gives made stopped = (tt, stopped)

pub refused_by : (part : List ℕ) (head : ℕ) (stop : Stop) (old new : FamilyState) → Gives {T = Unit {0}} (Err stop) (Err (refusal_or refusals.EntropyFault head part old)) → new ≡ after_stop head stop old
    → Calls (Err stop) old new (snapshot_left part None head old)
refused_by part head (stops.Refused why) old new gives stopped =
    let same : refusal_or refusals.EntropyFault head part old ≡ why = cc in
    (ap (λ (w : Refusal). Refused w) same, stopped ∙ ap (λ (w : Refusal). after_stop head (stops.Refused w) old) (sym same))
refused_by part head stops.NoMemory old new gives stopped = (tt, stopped)

pub drop_by : (spot : Spot) (result : Result (Unit {0}) Stop) (old new : FamilyState) → Gives result (drop_snapshot_answer spot old) → OnOk result (new ≡ spot_removed spot old) → OnErr result (new ≡ old) → Calls result old new (drop_left spot old)
drop_by spot (Ok tt) old new gives dropped same =
    (ap (λ (a : Result (Unit {0}) Refusal). replied (dropped_unless spot old a).answer) gives, dropped ∙ sym (ap (λ (a : Result (Unit {0}) Refusal). (dropped_unless spot old a).state) gives))
drop_by spot (Err (stops.Refused why)) old new gives dropped same =
    (ap (λ (a : Result (Unit {0}) Refusal). replied (dropped_unless spot old a).answer) gives, same ∙ sym (ap (λ (a : Result (Unit {0}) Refusal). (dropped_unless spot old a).state) gives))
drop_by spot (Err stops.NoMemory) old new gives dropped same = (tt, same)

-- ---- what each call keeps of a family

-- the guid and the record size, that it is steady, and up to which id it goes
pub record Keeps (last : ℕ) (old new : FamilyState) : Type 0 where
  pub facts : facts_of_family new ≡ facts_of_family old
  pub steady : IsSteady old → IsSteady new
  pub up_to : IsUpTo last old → IsUpTo last new

pub keeps_all : (last : ℕ) (family : FamilyState) → Keeps last family family
keeps_all last family = record { facts = refl; steady = λ steady. steady; up_to = λ below. below }

refused_keeps : (last head : ℕ) (family : FamilyState) (why : Refusal) → head ≤ last → (first : Option Refusal) → Keeps last family (with_refused first head why family)
refused_keeps last head family why within None = record {
  facts = refl;
  steady = λ steady. record { armed = steady.armed; held = steady.held; drawn = steady.drawn };
  up_to = λ below. up_to_still (Note (head_spot head) (notes.Refused why 0 0)) family last below tt within;
}
refused_keeps last head family why within (Some first) = keeps_all last family

unmade_keeps : (last head : ℕ) (family : FamilyState) (why : Refusal) → head ≤ last → Keeps last family (unmade head family why).state
unmade_keeps last head family why within = refused_keeps last head family why within (place_refusal head family)

made_keeps : (last head : ℕ) (part : List ℕ) (guid : ℕ) (family : FamilyState) → head ≤ last → (answer : Result (Unit {0}) Refusal) → snapshot_answer head part family ≡ answer
    → Keeps last family (made_unless head part guid family answer).state
made_keeps last head part guid family within (Ok tt) done = record {
  facts = refl;
  steady = λ steady. record { armed = steady.armed; held = steady.held; drawn = steady.drawn };
  up_to = λ below. up_to_still (MakeSnapshot head part guid) family last below done within;
}
made_keeps last head part guid family within (Err why) done = unmade_keeps last head family why within

pub snapshot_keeps : (last : ℕ) (part : List ℕ) (guid : Option ℕ) (head : ℕ) → head ≤ last → (family : FamilyState) → Keeps last family (snapshot_left part guid head family).state
snapshot_keeps last part (Some guid) head within family = made_keeps last head part guid family within (snapshot_answer head part family) refl
snapshot_keeps last part None head within family = unmade_keeps last head family (refusal_or refusals.EntropyFault head part family) within

pub drop_keeps : (last head : ℕ) (part : List ℕ) (family : FamilyState) → Keeps last family (drop_left (snap_spot head part) family).state
drop_keeps last head part family = by (drop_snapshot_answer (snap_spot head part) family) refl where
  by : (answer : Result (Unit {0}) Refusal) → drop_snapshot_answer (snap_spot head part) family ≡ answer → Keeps last family (dropped_unless (snap_spot head part) family answer).state
  by (Ok tt) done = record {
    facts = refl;
    steady = λ steady. record { armed = steady.armed; held = steady.held; drawn = steady.drawn };
    up_to = λ below. up_to_still (DropSnapshot (snap_spot head part)) family last below done tt;
  }
  by (Err why) done = keeps_all last family

pub removed_keeps : (last head : ℕ) (family : FamilyState) → Keeps last family (head_removed head family)
removed_keeps last head family = record {
  facts = refl;
  steady = λ steady. record { armed = steady.armed; held = steady.held; drawn = steady.drawn };
  up_to = λ below. record {
    heads = All-filter (λ (found : Head). not (found.id == head)) (λ (found : Head). found.id ≤ last) family.heads below.heads;
    entries = below.entries;
  };
}

pub clone_keeps : (last head : ℕ) (from : Spot) (family : FamilyState) → clone_answer from family ≡ Ok tt → IsNewHead head family → head ≤ last → Keeps last family (clone_added from head family)
clone_keeps last head from family done new within = record {
  facts = refl;
  steady = λ steady. record { armed = steady.armed; held = steady.held; drawn = steady.drawn };
  up_to = λ below. up_to_still (MakeClone from head) family last below (done, new) within;
}

-- ---- the host behind it

pub at_all : (P : FamilyState → Type 0) (families : List (ℕ × FamilyState)) (at id : ℕ) (left : FamilyState) → P left → IfSome (at_id id families) P → IfSome (at_id id (with_id at left families)) P
at_all P families at id left holds others = ⊎_elim
    (λ (same : id ≡ at). subst (λ (i : ℕ). IfSome (at_id i (with_id at left families)) P) (sym same) (subst (λ (found : Option FamilyState). IfSome found P) (sym (at_id-with_id at left families)) holds))
    (λ apart. subst (λ (found : Option FamilyState). IfSome found P) (sym (at_id-with_id_other at id left families apart)) others) (cases_eq id at)

pub at_left : (P : FamilyState → Type 0) (families : List (ℕ × FamilyState)) (at id : ℕ) → IfSome (at_id id families) P → IfSome (at_id id (without_id at families)) P
at_left P families at id others = ⊎_elim
    (λ (same : id ≡ at). subst (λ (i : ℕ). IfSome (at_id i (without_id at families)) P) (sym same) (subst (λ (found : Option FamilyState). IfSome found P) (sym (at_id-without_id at families)) tt))
    (λ apart. subst (λ (found : Option FamilyState). IfSome found P) (sym (at_id-without_id_other at id families apart)) others) (cases_eq id at)

module _ (tells : Bool) (keys : Plain) (families : List (ℕ × FamilyState)) (limit : ℕ) (host : Pairs tells keys families limit) where
  kept_facts : (at : ℕ) (state left : FamilyState) → at_id at families ≡ Some state → facts_of_family left ≡ facts_of_family state → by_id facts_of_family (with_id at left families) ≡ by_id facts_of_family families
  kept_facts at state left found facts =
      facts_with_id facts_of_family at left families ∙ ap (λ (f : KeyFacts). with_id at f (by_id facts_of_family families)) facts
      ∙ sym (facts_with_id facts_of_family at state families) ∙ ap (λ (fs : List (ℕ × FamilyState)). by_id facts_of_family fs) (with_same at state families host.rising found)

  -- one family is left so
  pub one_pairs : (at : ℕ) (state left : FamilyState) → at_id at families ≡ Some state → Keeps keys.tree.last state left → Pairs tells keys (with_id at left families) limit
  one_pairs at state left found keeps = record {
    rising = IsRisingById-with_id at left families host.rising;
    paired = kept_facts at state left found keeps.facts ∙ host.paired;
    steady = λ told id. at_all IsSteady families at id left (keeps.steady (subst (λ (f : Option FamilyState). IfSome f IsSteady) found (host.steady told at))) (host.steady told id);
    up_to = λ id. at_all (IsUpTo keys.tree.last) families at id left (keeps.up_to (subst (λ (f : Option FamilyState). IfSome f (IsUpTo keys.tree.last)) found (host.up_to at))) (host.up_to id);
    least = host.least;
    most = host.most;
  }

  pub left_pairs : (at : ℕ) (why : Refusal) (call : FamilyState → Left) → ((state : FamilyState) → Keeps keys.tree.last state (call state).state) → (result : Result (Unit {0}) Stop)
      → Pairs tells keys (left_after result families (on_family families at why call (at_id at families)).families) limit
  left_pairs at why call keeps result = by (at_id at families) refl result where
    by : (found : Option FamilyState) → at_id at families ≡ found → (result : Result (Unit {0}) Stop) → Pairs tells keys (left_after result families (on_family families at why call found).families) limit
    by None at_is (Ok done) = host
    by None at_is (Err (stops.Refused why)) = host
    by None at_is (Err stops.NoMemory) = host
    by (Some state) at_is (Ok done) = one_pairs at state (call state).state at_is (keeps state)
    by (Some state) at_is (Err (stops.Refused why)) = one_pairs at state (call state).state at_is (keeps state)
    by (Some state) at_is (Err stops.NoMemory) = host

-- ---- the dataset of a command

pub given_id : (p : Plain) (set : List ℕ) (id : ℕ) → encrypted_id p set ≡ Ok id → IsTree p.tree → id ≤ p.tree.last
given_id p set id is tree = by (row_named set p.tree.rows) refl is where
  by_kind : (row : Dataset) (crypt : Bool) → cond crypt (let found : Result ℕ Refusal = Ok row.id in found) (Err refusals.NotEncrypted) ≡ Ok id → row.id ≡ id
  by_kind row true is = cc
  by_kind row false is = absurd (cc)

  by : (found : Option Dataset) → row_named set p.tree.rows ≡ found → encrypted_row found ≡ Ok id → id ≤ p.tree.last
  by None there is = absurd (cc)
  by (Some row) there is =
      subst (λ (i : ℕ). i ≤ p.tree.last) (by_kind row (is_encrypted_kind row.kind) is)
      (found_has (λ (r : Dataset). r.id ≤ p.tree.last) (λ r. Rattle.std.specs.Str.bytes_eq r.name set) p.tree.rows row (recursion_from_All (λ (r : Dataset). r.id ≤ p.tree.last) p.tree.rows tree.given) there)

module _ (h : HostState) (none : ℕ → Refusal) (call : (head : ℕ) → FamilyState → Left) (p : Plain) (set : List ℕ) (here : p ≡ h.keys) where
  pub head_refused_replies : (why : Refusal) → encrypted_id p set ≡ Err why → AnswersDone {T = Unit {0}} (Err (stops.Refused why)) (on_head h none call (encrypted_id h.keys set)).reply
  head_refused_replies why is = ap (λ (q : Plain). (on_head h none call (encrypted_id q set)).reply) (sym here) ∙ ap (λ (at : Result ℕ Refusal). (on_head h none call at).reply) is

  pub head_refused_left : (why : Refusal) → encrypted_id p set ≡ Err why → h ≡ (on_head h none call (encrypted_id h.keys set)).state
  head_refused_left why is = sym (ap (λ (q : Plain). (on_head h none call (encrypted_id q set)).state) (sym here) ∙ ap (λ (at : Result ℕ Refusal). (on_head h none call at).state) is)

  module _ (id at : ℕ) (is : encrypted_id p set ≡ Ok id) (family_is : at ≡ family_id h id) where
    step_is : on_head h none call (encrypted_id h.keys set) ≡ with_families h (on_family h.families at (none id) (call id) (at_id at h.families))
    step_is =
        ap (λ (q : Plain). on_head h none call (encrypted_id q set)) (sym here) ∙ ap (λ (found : Result ℕ Refusal). on_head h none call found) is
        ∙ ap (λ (f : ℕ). with_families h (on_family h.families f (none id) (call id) (at_id f h.families))) (sym family_is)

    pub head_replies : (result : Result (Unit {0}) Stop) → AnswersDone result (on_family h.families at (none id) (call id) (at_id at h.families)).reply → AnswersDone result (on_head h none call (encrypted_id h.keys set)).reply
    head_replies result answers = subst (λ (s : Rattle.host_state.specs.Hosts.HostStepped). AnswersDone result s.reply) (sym step_is) answers

    pub head_left : (result : Result (Unit {0}) Stop) (new : List (ℕ × FamilyState)) → new ≡ left_after result h.families (on_family h.families at (none id) (call id) (at_id at h.families)).families
        → record h { families = new } ≡ host_after result h (on_head h none call (encrypted_id h.keys set)).state
    head_left result new left =
        subst (λ (s : Rattle.host_state.specs.Hosts.HostStepped). record h { families = new } ≡ host_after result h s.state) (sym step_is) (by result left)
      where
        by : (result : Result (Unit {0}) Stop) → new ≡ left_after result h.families (on_family h.families at (none id) (call id) (at_id at h.families)).families
            → record h { families = new } ≡ host_after result h (record h { families = (on_family h.families at (none id) (call id) (at_id at h.families)).families })
        by (Ok done) left = ap (λ (fs : List (ℕ × FamilyState)). record h { families = fs }) left
        by (Err (stops.Refused why)) left = ap (λ (fs : List (ℕ × FamilyState)). record h { families = fs }) left
        by (Err stops.NoMemory) left = ap (λ (fs : List (ℕ × FamilyState)). record h { families = fs }) left
