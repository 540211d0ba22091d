-- What a clone and a destroy leave of a host.
use Rattle.std.proofs.Common.{◌≡◌, ⊎_elim, inl, inr, ℕ, ◌+◌, ◌≤◌, Bool, true, false, not, cond, ◌==◌, ◌||◌, List, [], ◌∷◌, get_or, set, Option, Some, None, is_none, Result, Ok, Err, IfSome, OnOk, OnErr, refl, ap, sym, ◌∙◌, subst, arith}
use Rattle.std.specs.Option.{option_map}
use Rattle.dataset_tree.specs.declared.refusal.Refusal.{Refusal}
use Rattle.dataset_tree.specs.declared.refusal.Refusal.TheVariants as refusals
use Rattle.dataset_tree.specs.declared.refusal.Stop.{Stop}
use Rattle.dataset_tree.specs.declared.refusal.Stop.TheVariants as stops
use Rattle.dataset_tree.specs.declared.tree.Row.{Row as Dataset}
use Rattle.dataset_tree.specs.Refusal.{Gives}
use Rattle.dataset_tree.specs.Tree.{id_named, row_named}
use Rattle.encryption_roots.specs.declared.command.KeyCmd.TheVariants as commands
use Rattle.encryption_roots.specs.ById.{at_id, with_id, without_id}
use Rattle.encryption_roots.specs.Owners.{family}
use Rattle.encryption_roots.proofs.ByIdLemmas.{IsRisingById-without_id}
use Rattle.family_log.specs.declared.entry.Spot.{Spot}
use Rattle.family_log.specs.Log.{snap_spot}
use Rattle.family_log.specs.Model.{FamilyState}
use Rattle.family_log.specs.Snapshots.{IsNewHead, clone_added, head_removed}
use Rattle.file_dataset.specs.Steady.{IsSteady}
use Rattle.key_ciphers.specs.Calls.{AnswersDone}
use Rattle.key_ciphers.specs.Ciphers.{ciphers}
use Rattle.key_machine.specs.Clone.{clone_cases, clone_done}
use Rattle.key_machine.specs.Destroy.{destroy_done, destroyed, destroyed_unless, has_relatives, is_needed_row, records_left}
use Rattle.key_machine.specs.Mount.{is_mounted_row}
use Rattle.key_machine.specs.Plain.{Plain}
use Rattle.key_machine.specs.Reap.{own_in_use}
use Rattle.key_machine.specs.Refusals.{first_of, first_refusal}
use Rattle.key_machine.specs.Reply.{Stepped, Reply, Done, Made, Refused, refused, unless_refused}
use Rattle.key_machine.specs.Sound.{Sound}
use Rattle.key_machine.specs.Step.{key_step, refusal_of, target}
use Rattle.key_machine.specs.Told.{nothing_told}
use Rattle.key_machine.specs.Unload.{InUse}
use Rattle.key_machine.proofs.CreateLawsStep.{NoneHolds, none_holds}
use Rattle.key_machine.proofs.DestroyLaws.{unneeded_named}
use Rattle.key_machine.proofs.DestroySteps.{done_state}
use Rattle.key_machine.proofs.NamedLaws.{IsNamed, named, row_of_named}
use Rattle.key_machine.proofs.SoundLemmas.{accepted_step, by_step}
use Rattle.key_store.specs.Calls.{AnswersMade, AnswersUnloaded, state_after}
use Rattle.snap_clone.specs.Answers.{clone_answer, is_snapshot, refusal_in}
use Rattle.snap_clone.specs.Ids.{IsUpTo}
use Rattle.snap_clone.proofs.IdLemmas.{is_new, up_to_more}
use Rattle.host_state.specs.FileAnswers.{IsPlaceOf}
use Rattle.host_state.specs.Hosts.{HostState, HostStepped, KeyFacts, by_id, facts_of_family, facts_of_record}
use Rattle.host_state.specs.SpotAnswers.{Clones, ClonesIn, head_forgotten}
use Rattle.host_state.specs.SpotLines.{AfterClone, clone_refusal, clone_step, cloned_in, cloned_of, cloned_unless, destroy_at, destroy_step, encrypted_id, families_left, family_id, has_parts, id_used, parts_in, without_dataset, without_head}
use Rattle.host_state.proofs.HostParts.{Pairs}
use Rattle.host_state.proofs.SpotLemmas.{Keeps, at_left, clone_keeps, facts_without_id, here_at, one_pairs, put_at, removed_keeps, with_same}
use Rattle.host_state.proofs.UndoLemmas.{relatives, undone}

-- ---- the keystore has changed, and no record has

pub raised_pairs : (tells : Bool) (keys raised : Plain) (families : List (ℕ × FamilyState)) (limit : ℕ) → Pairs tells keys families limit → raised.wrapped ≡ keys.wrapped → keys.tree.last ≤ raised.tree.last → Pairs tells raised families limit
raised_pairs tells keys raised families limit host records higher = record {
  rising = host.rising;
  paired = host.paired ∙ ap (λ rs. by_id facts_of_record rs) (sym records);
  steady = host.steady;
  up_to = λ id. by (at_id id families) (host.up_to id);
  least = host.least;
  most = host.most;
} where
  by : (found : Option FamilyState) → IfSome found (IsUpTo keys.tree.last) → IfSome found (IsUpTo raised.tree.last)
  by None below = tt
  by (Some state) below = up_to_more state keys.tree.last raised.tree.last below higher

-- ---- a clone that nothing refuses

-- what nothing refuses neither the keystore nor the family refuses
pub free_clone : (p : Plain) (from name : List ℕ) (spot : Spot) (state : FamilyState) → clone_refusal p from name spot state ≡ None
    → (refusal_of p (commands.Clone from name) ≡ None) × (clone_answer spot state ≡ Ok tt)
free_clone p from name spot state none = by_snap (is_snapshot spot state.heads) none where
  by_answer : (answer : Result (Unit {0}) Refusal) → first_refusal (refusal_in answer ∷ []) ≡ None → answer ≡ Ok tt
  by_answer (Ok tt) none = refl
  by_answer (Err why) none = absurd (cc)

  by_keys : (why : Option Refusal) → first_refusal (why ∷ refusal_in (clone_answer spot state) ∷ []) ≡ None → (why ≡ None) × (clone_answer spot state ≡ Ok tt)
  by_keys None none = (refl, by_answer (clone_answer spot state) none)
  by_keys (Some why) none = absurd (cc)

  by_snap : (snap : Bool) → cond snap (first_refusal (refusal_of p (commands.Clone from name) ∷ refusal_in (clone_answer spot state) ∷ [])) (Some refusals.NoSnapshot) ≡ None
      → (refusal_of p (commands.Clone from name) ≡ None) × (clone_answer spot state ≡ Ok tt)
  by_snap true none = by_keys (refusal_of p (commands.Clone from name)) none
  by_snap false none = absurd (cc)

-- the origin of a clone that the keystore doesn't refuse
origin_of : (p : Plain) (from name : List ℕ) → refusal_of p (commands.Clone from name) ≡ None → (origin : ℕ) × (target p (commands.Clone from name) ≡ Some origin)
origin_of p from name accepted =
    let none : NoneHolds (clone_cases p from name) = none_holds (clone_cases p from name) accepted in
    by (row_named from p.tree.rows) refl none.0
  where
    by : (found : Option Dataset) → row_named from p.tree.rows ≡ found → is_none found ≡ false → (origin : ℕ) × (id_named from p.tree.rows ≡ Some origin)
    by None is there = absurd (cc)
    by (Some row) is there = (row.id, ap (λ (f : Option Dataset). option_map (λ (r : Dataset). r.id) f) is)

module _ (p : Plain) (from name : List ℕ) (accepted : refusal_of p (commands.Clone from name) ≡ None) where
  abbrev step : Stepped
  step = key_step p (commands.Clone from name) nothing_told

  made_reply : step.reply ≡ Made (p.tree.last + 1)
  made_reply =
      let at = origin_of p from name accepted in
      ap (λ (s : Stepped). s.reply) (accepted_step p (commands.Clone from name) nothing_told (record { state = accepted; material = refl })) ∙ ap (λ (found : Option ℕ). (clone_done p name found).reply) at.1

  pub made_head : (head : ℕ) → step.reply ≡ Made head → p.tree.last + 1 ≡ head
  made_head head made = let same : Made (p.tree.last + 1) ≡ Made head = sym made_reply ∙ made in cc

  -- the keystore doesn't refuse it
  pub stopped_clone : (stop : Stop) (left : Plain) → AnswersMade (Err stop) step.reply → left ≡ state_after {T = ℕ} (Err stop) p step.state → (stop ≡ stops.NoMemory) × (left ≡ p)
  stopped_clone stops.NoMemory left answers is = (refl, is)
  stopped_clone (stops.Refused why) left answers is = absurd (let same : Made (p.tree.last + 1) ≡ Refused why = sym made_reply ∙ answers in cc)

  clone_grows : (step.state.wrapped ≡ p.wrapped) × (step.state.tree.last ≡ p.tree.last + 1)
  clone_grows =
      let at = origin_of p from name accepted in
      let is : step.state ≡ (clone_done p name (Some at.0)).state =
      ap (λ (s : Stepped). s.state) (accepted_step p (commands.Clone from name) nothing_told (record { state = accepted; material = refl })) ∙ ap (λ (found : Option ℕ). (clone_done p name found).state) at.1 in
      (ap (λ (q : Plain). q.wrapped) is, ap (λ (q : Plain). q.tree.last) is)

  pub undone_clone : Sound ciphers p → (made left : Plain) → made ≡ step.state → left ≡ (key_step made (commands.Destroy name false) nothing_told).state → left ≡ id_used p
  undone_clone sound made left made_is is =
      let at = origin_of p from name accepted in
      is ∙ ap (λ (q : Plain). (key_step q (commands.Destroy name false) nothing_told).state) made_is ∙ undone p from name at.0 sound accepted at.1

module _ (p : Plain) (from name : List ℕ) (spot : Spot) (state : FamilyState) (none : clone_refusal p from name spot state ≡ None) where
  abbrev free : refusal_of p (commands.Clone from name) ≡ None
  free = (free_clone p from name spot state none).0

  -- the head's id is the dataset's
  pub new_head : (head : ℕ) → (key_step p (commands.Clone from name) nothing_told).reply ≡ Made head → IsNewHead (p.tree.last + 1) state → IsNewHead head state
  new_head head made new = subst (λ (id : ℕ). IsNewHead id state) (made_head p from name free head made) new

  pub cloned : (head : ℕ) (left : Plain) (state_left : FamilyState) → (key_step p (commands.Clone from name) nothing_told).reply ≡ Made head → left ≡ (key_step p (commands.Clone from name) nothing_told).state
      → state_left ≡ clone_added spot head state → Clones (Ok tt) from name spot p left state state_left
  cloned head left state_left made left_is is = (none, left_is, is ∙ ap (λ (id : ℕ). clone_added spot id state) (sym (made_head p from name free head made)))

  pub not_cloned : (stop : Stop) (left : Plain) → AnswersMade (Err stop) (key_step p (commands.Clone from name) nothing_told).reply → left ≡ state_after {T = ℕ} (Err stop) p (key_step p (commands.Clone from name) nothing_told).state
      → Clones (Err stop) from name spot p left state state
  not_cloned stop left answers is =
      let stopped = stopped_clone p from name free stop left answers is in
      subst (λ (s : Stop). Clones (Err s) from name spot p left state state) (sym stopped.0) (inl stopped.1, refl)

  -- the family doesn't refuse it either, so that memory was wanting
  pub gone_again : Sound ciphers p → (stop : Stop) (made left : Plain) (state_left : FamilyState) → Gives {T = Unit {0}} (Err stop) (clone_answer spot state) → made ≡ (key_step p (commands.Clone from name) nothing_told).state
      → left ≡ (key_step made (commands.Destroy name false) nothing_told).state → state_left ≡ state → Clones (Err stop) from name spot p left state state_left
  gone_again sound stops.NoMemory made left state_left gives made_is left_is is = (inr (undone_clone p from name free sound made left made_is left_is), is)
  gone_again sound (stops.Refused why) made left state_left gives made_is left_is is =
      absurd (let both : Ok tt ≡ Err why = sym (free_clone p from name spot state none).1 ∙ gives in cc)

pub refused_clone : (p q : Plain) (from name : List ℕ) (spot : Spot) (state : FamilyState) (why : Refusal) → p ≡ q → clone_refusal p from name spot state ≡ Some why → Clones (Err (stops.Refused why)) from name spot q q state state
refused_clone p q from name spot state why here is = (ap (λ (r : Plain). clone_refusal r from name spot state) (sym here) ∙ is, refl, refl)

pub nothing_refuses : (p q : Plain) (from name : List ℕ) (spot : Spot) (state : FamilyState) → p ≡ q → clone_refusal p from name spot state ≡ None → clone_refusal q from name spot state ≡ None
nothing_refuses p q from name spot state here is = ap (λ (r : Plain). clone_refusal r from name spot state) (sym here) ∙ is

-- ---- among the families

pub new_at : (entries : List (ℕ × FamilyState)) (at id : ℕ) (entry : ℕ × FamilyState) (last : ℕ) → IsPlaceOf id entries (Some at) → entry ≡ get_or entries at entry → IfSome (at_id id entries) (IsUpTo last) → IsNewHead (last + 1) entry.1
new_at entries at id entry last place here below =
    is_new entry.1 last (last + 1) (subst (λ (found : Option FamilyState). IfSome found (IsUpTo last)) (here_at entries at id entry place here) below) (omega arith)

pub cloned_at : (entries : List (ℕ × FamilyState)) (at id : ℕ) (entry : ℕ × FamilyState) (left : FamilyState) (result : Result (Unit {0}) Stop) (from name : List ℕ) (spot : Spot) (keys keys_left : Plain)
    → IsPlaceOf id entries (Some at) → entry ≡ get_or entries at entry → Clones result from name spot keys keys_left entry.1 left
    → ClonesIn result from name spot keys keys_left id entries (set entries at (entry.0, left)) (at_id id entries)
cloned_at entries at id entry left result from name spot keys keys_left place here clones =
    subst (λ (found : Option FamilyState). ClonesIn result from name spot keys keys_left id entries (set entries at (entry.0, left)) found) (sym (here_at entries at id entry place here))
    (record { state_left = left; clones = clones; put = put_at entries at id entry left place here })

pub cloned_none : (entries : List (ℕ × FamilyState)) (id : ℕ) (from name : List ℕ) (spot : Spot) (keys : Plain) → IsPlaceOf id entries None
    → ClonesIn (Err (stops.Refused refusals.NoSnapshot)) from name spot keys keys id entries entries (at_id id entries)
cloned_none entries id from name spot keys none =
    subst (λ (found : Option FamilyState). ClonesIn (Err (stops.Refused refusals.NoSnapshot)) from name spot keys keys id entries entries found) (sym none) (refl, refl, refl)

-- ---- the host behind a clone

module _ (h : HostState) (host : Pairs h.tells h.keys h.families h.limit) (from part name : List ℕ) (at id : ℕ) (family_is : at ≡ family_id h id) (result : Result (Unit {0}) Stop) (left : Plain) (new : List (ℕ × FamilyState)) where
  abbrev spot : Spot
  spot = snap_spot id part

  -- a family that is put back as it was
  put_back : (state state_left : FamilyState) → at_id at h.families ≡ Some state → state_left ≡ state → new ≡ with_id at state_left h.families → new ≡ h.families
  put_back state state_left found same put =
      put ∙ ap (λ (f : FamilyState). with_id at f h.families) same ∙ with_same at state h.families host.rising found

  host_one : (state : FamilyState) → at_id at h.families ≡ Some state → (result : Result (Unit {0}) Stop) (state_left : FamilyState) → Clones result from name spot h.keys left state state_left → new ≡ with_id at state_left h.families
      → Pairs h.tells left new h.limit
  host_one state found (Ok done) state_left clones put =
      let free = free_clone h.keys from name spot state clones.0 in
      let grows = clone_grows h.keys from name free.0 in
      let last_is : left.tree.last ≡ h.keys.tree.last + 1 = ap (λ (q : Plain). q.tree.last) clones.1 ∙ grows.1 in
      let raised : Pairs h.tells left h.families h.limit = raised_pairs h.tells h.keys left h.families h.limit host (ap (λ (q : Plain). q.wrapped) clones.1 ∙ grows.0) (omega (arith, last_is)) in
      let below : IsUpTo h.keys.tree.last state = subst (λ (f : Option FamilyState). IfSome f (IsUpTo h.keys.tree.last)) found (host.up_to at) in
      let keeps : Keeps left.tree.last state (clone_added spot (h.keys.tree.last + 1) state) =
      clone_keeps left.tree.last (h.keys.tree.last + 1) spot state free.1 (is_new state h.keys.tree.last (h.keys.tree.last + 1) below (omega arith)) (omega (arith, last_is)) in
      subst (λ (fs : List (ℕ × FamilyState)). Pairs h.tells left fs h.limit) (sym (put ∙ ap (λ (f : FamilyState). with_id at f h.families) clones.2))
      (one_pairs h.tells left h.families h.limit raised at state (clone_added spot (h.keys.tree.last + 1) state) found keeps)
  host_one state found (Err (stops.Refused why)) state_left clones put =
      subst (λ (q : Plain). Pairs h.tells q new h.limit) (sym clones.1)
      (subst (λ (fs : List (ℕ × FamilyState)). Pairs h.tells h.keys fs h.limit) (sym (put_back state state_left found clones.2 put)) host)
  host_one state found (Err stops.NoMemory) state_left clones put =
      subst (λ (fs : List (ℕ × FamilyState)). Pairs h.tells left fs h.limit) (sym (put_back state state_left found clones.1 put))
      (⊎_elim (λ (same : left ≡ h.keys). subst (λ (q : Plain). Pairs h.tells q h.families h.limit) (sym same) host)
      (λ (used : left ≡ id_used h.keys). subst (λ (q : Plain). Pairs h.tells q h.families h.limit) (sym used) (raised_pairs h.tells h.keys (id_used h.keys) h.families h.limit host refl (omega arith))) clones.0)

  pub cloned_pairs : ClonesIn result from name spot h.keys left at h.families new (at_id at h.families) → Pairs h.tells left new h.limit
  cloned_pairs is = by (at_id at h.families) refl is where
    by : (found : Option FamilyState) → at_id at h.families ≡ found → ClonesIn result from name spot h.keys left at h.families new found → Pairs h.tells left new h.limit
    by None found is = subst (λ (q : Plain). Pairs h.tells q new h.limit) (sym is.1) (subst (λ (fs : List (ℕ × FamilyState)). Pairs h.tells h.keys fs h.limit) (sym is.2) host)
    by (Some state) found is = host_one state found result is.state_left is.clones is.put

  -- the answer and what is left are a step's
  abbrev Steps : Result (Unit {0}) Stop → HostStepped → Type 0
  Steps result step = AnswersDone result step.reply × AfterClone result h step.state (record h { keys = left; families = new })

  same_host : left ≡ h.keys → new ≡ h.families → record h { keys = left; families = new } ≡ h
  same_host keys_are families_are = ap (λ (q : Plain). record h { keys = q; families = new }) keys_are ∙ ap (λ (fs : List (ℕ × FamilyState)). record h { families = fs }) families_are

  steps_one : (state : FamilyState) → at_id at h.families ≡ Some state → (result : Result (Unit {0}) Stop) (state_left : FamilyState) → Clones result from name spot h.keys left state state_left → new ≡ with_id at state_left h.families
      → Steps result (cloned_unless h from name spot state (clone_refusal h.keys from name spot state))
  steps_one state found (Ok done) state_left clones put =
      subst (λ (why : Option Refusal). Steps (Ok done) (cloned_unless h from name spot state why)) (sym clones.0) (
        refl,
        ap (λ (q : Plain). record h { keys = q; families = new }) clones.1
            ∙ ap (λ (fs : List (ℕ × FamilyState)). record h { keys = (key_step h.keys (commands.Clone from name) nothing_told).state; families = fs })
            (put ∙ ap (λ (f : FamilyState). with_id at f h.families) clones.2 ∙ ap (λ (i : ℕ). with_id i (clone_added spot (h.keys.tree.last + 1) state) h.families) family_is),
      )
  steps_one state found (Err (stops.Refused why)) state_left clones put =
      subst (λ (w : Option Refusal). Steps (Err (stops.Refused why)) (cloned_unless h from name spot state w)) (sym clones.0)
      (refl, same_host clones.1 (put_back state state_left found clones.2 put))
  steps_one state found (Err stops.NoMemory) state_left clones put = (
    tt,
    ⊎_elim (λ (same : left ≡ h.keys). inl (same_host same (put_back state state_left found clones.1 put)))
        (λ (used : left ≡ id_used h.keys). inr (ap (λ (q : Plain). record h { keys = q; families = new }) used ∙ ap (λ (fs : List (ℕ × FamilyState)). record h { keys = id_used h.keys; families = fs }) (put_back state state_left found clones.1 put)))
        clones.0,
  )

  steps_in : ClonesIn result from name spot h.keys left at h.families new (at_id at h.families) → Steps result (cloned_in h from name spot (at_id at h.families))
  steps_in is = by (at_id at h.families) refl is where
    none_steps : (r : Result (Unit {0}) Stop) → r ≡ Err (stops.Refused refusals.NoSnapshot) → left ≡ h.keys → new ≡ h.families → Steps r (cloned_in h from name spot None)
    none_steps r is keys_are families_are = subst (λ (q : Result (Unit {0}) Stop). Steps q (cloned_in h from name spot None)) (sym is) (refl, same_host keys_are families_are)

    by : (found : Option FamilyState) → at_id at h.families ≡ found → ClonesIn result from name spot h.keys left at h.families new found → Steps result (cloned_in h from name spot found)
    by None found is = none_steps result is.0 is.1 is.2
    by (Some state) found is = steps_one state found result is.state_left is.clones is.put

  pub cloned_steps : (p : Plain) → p ≡ h.keys → encrypted_id p from ≡ Ok id → ClonesIn result from name spot h.keys left at h.families new (at_id at h.families) → Steps result (clone_step h from part name)
  cloned_steps p here id_is is =
      subst (λ (s : HostStepped). Steps result s)
      (ap (λ (f : ℕ). cloned_in h from name spot (at_id f h.families)) family_is
      ∙ sym (ap (λ (q : Plain). cloned_of h from part name (encrypted_id q from)) (sym here) ∙ ap (λ (found : Result ℕ Refusal). cloned_of h from part name found) id_is)) (steps_in is)

module _ (h : HostState) (from part name : List ℕ) (p : Plain) (here : p ≡ h.keys) (why : Refusal) (is : encrypted_id p from ≡ Err why) where
  not_of : clone_step h from part name ≡ cloned_of h from part name (Err why)
  not_of = ap (λ (q : Plain). cloned_of h from part name (encrypted_id q from)) (sym here) ∙ ap (λ (found : Result ℕ Refusal). cloned_of h from part name found) is

  pub origin_refused_replies : AnswersDone {T = Unit {0}} (Err (stops.Refused why)) (clone_step h from part name).reply
  origin_refused_replies = ap (λ (s : HostStepped). s.reply) not_of

  pub origin_refused_left : h ≡ (clone_step h from part name).state
  origin_refused_left = sym (ap (λ (s : HostStepped). s.state) not_of)

-- ---- the host behind a destroy

-- a refused destroy leaves the keystore as it was
pub refused_state : (p : Plain) (name : List ℕ) (snaps : Bool) (why : Refusal) → (key_step p (commands.Destroy name snaps) nothing_told).reply ≡ Refused why → (key_step p (commands.Destroy name snaps) nothing_told).state ≡ p
refused_state p name snaps why =
    by_step p (commands.Destroy name snaps) nothing_told (λ (s : Stepped). s.reply ≡ Refused why → s.state ≡ p)
    (λ accepted. by_target (target p (commands.Destroy name snaps))) (λ r state reply. refl) (λ r material reply. refl)
  where
    by_use : (id : ℕ) (busy : Option InUse) → (destroyed_unless p id busy).reply ≡ Refused why → (destroyed_unless p id busy).state ≡ p
    by_use id None reply = absurd (cc)
    by_use id (Some busy) reply = refl

    by_target : (at : Option ℕ) → (destroy_done p (Rattle.std.specs.Option.option_and_then (own_in_use p) at) at).reply ≡ Refused why → (destroy_done p (Rattle.std.specs.Option.option_and_then (own_in_use p) at) at).state ≡ p
    by_target None reply = refl
    by_target (Some id) reply = by_use id (own_in_use p id) reply

no_such : (p : Plain) (name : List ℕ) → id_named name p.tree.rows ≡ None → key_step p (commands.Destroy name false) nothing_told ≡ refused p refusals.NoSuch
no_such p name none =
    ap (λ (why : Option Refusal). unless_refused p why (unless_refused p None (destroy_done p (Rattle.std.specs.Option.option_and_then (own_in_use p) (id_named name p.tree.rows)) (id_named name p.tree.rows)))) first_is
  where
    row_none : (found : Option Dataset) → option_map (λ (r : Dataset). r.id) found ≡ None → found ≡ None
    row_none None none = refl
    row_none (Some row) none = absurd (cc)

    first_is : refusal_of p (commands.Destroy name false) ≡ Some refusals.NoSuch
    first_is = ap (λ (r : Option Dataset). first_of ((is_none r, refusals.NoSuch) ∷ (is_needed_row p r || false, refusals.HasChildren) ∷ (is_mounted_row p r, refusals.Mounted) ∷ [])) (row_none (row_named name p.tree.rows) none)

pub accepted_where_done : (p : Plain) (name : List ℕ) (snaps : Bool) → (key_step p (commands.Destroy name snaps) nothing_told).reply ≡ Done → refusal_of p (commands.Destroy name snaps) ≡ None
accepted_where_done p name snaps =
    by_step p (commands.Destroy name snaps) nothing_told (λ (s : Stepped). s.reply ≡ Done → refusal_of p (commands.Destroy name snaps) ≡ None)
    (λ accepted reply. accepted.state) (λ r state reply. absurd (cc)) (λ r material reply. absurd (cc))

module _ (h : HostState) (host : Pairs h.tells h.keys h.families h.limit) (sound : Sound ciphers h.keys) (name : List ℕ) (id : ℕ) (at : id_named name h.keys.tree.rows ≡ Some id) where
  abbrev snaps : Bool
  snaps = has_parts (parts_in id (at_id (family h.keys.tree.rows id) h.families))

  abbrev gone : Stepped
  gone = key_step h.keys (commands.Destroy name snaps) nothing_told

  at_is : destroy_step h name ≡ destroy_at h name (Some id)
  at_is = ap (λ (found : Option ℕ). destroy_at h name found) at

  pub left_is : gone.reply ≡ Done → head_forgotten h.families (family h.keys.tree.rows id) id ≡ without_dataset h id
  left_is done =
      let is : IsNamed h.keys name id = named h.keys name id at in
      let others : has_relatives h.keys id ≡ not (family h.keys.tree.rows id == id) =
      relatives h.keys id is.row (row_of_named h.keys name id is sound.tree.tree) sound.tree (unneeded_named h.keys name snaps id (accepted_where_done h.keys name snaps done) at) in
      ap (λ (b : Bool). cond b (without_id (family h.keys.tree.rows id) h.families) (without_head h.families (family h.keys.tree.rows id) id (at_id (family h.keys.tree.rows id) h.families))) refl
      ∙ by (family h.keys.tree.rows id == id) (has_relatives h.keys id) others
    where
      by : (first others : Bool) → others ≡ not first
          → cond first (without_id (family h.keys.tree.rows id) h.families) (without_head h.families (family h.keys.tree.rows id) id (at_id (family h.keys.tree.rows id) h.families))
          ≡ cond others (without_head h.families (family h.keys.tree.rows id) id (at_id (family h.keys.tree.rows id) h.families)) (without_id (family h.keys.tree.rows id) h.families)
      by true true is = absurd (cc)
      by true false is = refl
      by false true is = refl
      by false false is = absurd (cc)

  abbrev Leaves : Result (Unit {0}) Refusal → HostState → Type 0
  Leaves result after = AnswersUnloaded result (destroy_step h name).reply × (after ≡ (destroy_step h name).state)

  pub destroy_steps : (result : Result (Unit {0}) Refusal) (left : Plain) (new : List (ℕ × FamilyState)) → AnswersUnloaded result gone.reply → left ≡ gone.state
      → OnOk result (new ≡ head_forgotten h.families (family h.keys.tree.rows id) id) → OnErr result (new ≡ h.families) → Leaves result (record h { keys = left; families = new })
  destroy_steps (Ok tt) left new answers keys_are forgotten same =
      let families_are : new ≡ families_left h (Some id) gone.reply = forgotten ∙ left_is answers ∙ ap (λ (r : Reply). families_left h (Some id) r) (sym answers) in (
        ap (λ (s : HostStepped). s.reply) at_is ∙ answers,
        ap (λ (q : Plain). record h { keys = q; families = new }) keys_are ∙ ap (λ (fs : List (ℕ × FamilyState)). record h { keys = gone.state; families = fs }) families_are ∙ sym (ap (λ (s : HostStepped). s.state) at_is),
      )
  destroy_steps (Err why) left new answers keys_are forgotten same =
      let families_are : new ≡ families_left h (Some id) gone.reply = same ∙ ap (λ (r : Reply). families_left h (Some id) r) (sym answers) in (
        ap (λ (s : HostStepped). s.reply) at_is ∙ answers,
        ap (λ (q : Plain). record h { keys = q; families = new }) keys_are ∙ ap (λ (fs : List (ℕ × FamilyState)). record h { keys = gone.state; families = fs }) families_are ∙ sym (ap (λ (s : HostStepped). s.state) at_is),
      )

  -- the host without the dataset
  abbrev of : ℕ
  of = family h.keys.tree.rows id

  forgotten_pairs : (others : Bool) → Pairs h.tells (record h.keys { wrapped = cond others h.keys.wrapped (without_id of h.keys.wrapped) }) (cond others (without_head h.families of id (at_id of h.families)) (without_id of h.families)) h.limit
  forgotten_pairs true = by (at_id of h.families) refl where
    by : (found : Option FamilyState) → at_id of h.families ≡ found → Pairs h.tells h.keys (without_head h.families of id found) h.limit
    by None found = host
    by (Some state) found = one_pairs h.tells h.keys h.families h.limit host of state (head_removed id state) found (removed_keeps h.keys.tree.last id state)
  forgotten_pairs false = record {
    rising = IsRisingById-without_id of h.families host.rising;
    paired = facts_without_id facts_of_family of h.families ∙ ap (λ (fs : List (ℕ × KeyFacts)). without_id of fs) host.paired ∙ sym (facts_without_id facts_of_record of h.keys.wrapped);
    steady = λ told other. at_left IsSteady h.families of other (host.steady told other);
    up_to = λ other. at_left (IsUpTo h.keys.tree.last) h.families of other (host.up_to other);
    least = host.least;
    most = host.most;
  }

  pub destroyed_pairs : (result : Result (Unit {0}) Refusal) (left : Plain) (new : List (ℕ × FamilyState)) → AnswersUnloaded result gone.reply → left ≡ gone.state
      → OnOk result (new ≡ head_forgotten h.families of id) → OnErr result (new ≡ h.families) → Pairs h.tells left new h.limit
  destroyed_pairs (Ok tt) left new answers keys_are forgotten same =
      let keys_gone : left ≡ destroyed h.keys id = keys_are ∙ done_state h.keys name snaps nothing_told id at answers in
      let host_gone : Pairs h.tells (record h.keys { wrapped = records_left h.keys id }) (without_dataset h id) h.limit = forgotten_pairs (has_relatives h.keys id) in
      let moved : Pairs h.tells (destroyed h.keys id) (without_dataset h id) h.limit =
      raised_pairs h.tells (record h.keys { wrapped = records_left h.keys id }) (destroyed h.keys id) (without_dataset h id) h.limit host_gone refl (omega arith) in
      subst (λ (q : Plain). Pairs h.tells q new h.limit) (sym keys_gone) (subst (λ (fs : List (ℕ × FamilyState)). Pairs h.tells (destroyed h.keys id) fs h.limit) (sym (forgotten ∙ left_is answers)) moved)
  destroyed_pairs (Err why) left new answers keys_are forgotten same =
      subst (λ (q : Plain). Pairs h.tells q new h.limit) (sym (keys_are ∙ refused_state h.keys name snaps why answers)) (subst (λ (fs : List (ℕ × FamilyState)). Pairs h.tells h.keys fs h.limit) (sym same) host)

pub absent_steps : (h : HostState) (name : List ℕ) → id_named name h.keys.tree.rows ≡ None → (destroy_step h name).reply ≡ Refused refusals.NoSuch
absent_steps h name none =
    ap (λ (found : Option ℕ). (destroy_at h name found).reply) none ∙ ap (λ (s : Stepped). s.reply) (no_such h.keys name none)

pub absent_left : (h : HostState) (name : List ℕ) → id_named name h.keys.tree.rows ≡ None → h ≡ (destroy_step h name).state
absent_left h name none =
    sym (ap (λ (found : Option ℕ). (destroy_at h name found).state) none ∙ ap (λ (s : Stepped). record h { keys = s.state }) (no_such h.keys name none))
