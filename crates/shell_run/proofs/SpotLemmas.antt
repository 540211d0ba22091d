-- Lines on snapshots and clones, and on what goes: a host's step, and for a snapshot a seed.
use Rattle.std.proofs.Common.{◌≡◌, ℕ, Bool, true, ◌||◌, List, [], ◌∷◌, ◌++◌, Option, Some, None, Result, Ok, Err, refl, ap, sym, ◌∙◌, subst, arith}
use Rattle.std.specs.Result.{result_err}
use Rattle.std.specs.declared.alloc.AllocError.{AllocError}
use Rattle.dataset_tree.specs.declared.refusal.Refusal.{Refusal}
use Rattle.dataset_tree.specs.declared.snap_name.SnapName.{SnapName}
use Rattle.edge_io.specs.Entropy.{is_short}
use Rattle.encryption_roots.specs.declared.kit.SeedGot.{SeedGot}
use Rattle.family_log.specs.declared.entry.Spot.{Spot as FamilySpot}
use Rattle.family_log.specs.Model.{FamilyState}
use Rattle.family_log.specs.Log.{snap_spot}
use Rattle.host_state.specs.Hosts.{HostState, HostStepped}
use Rattle.host_state.specs.SpotLines.{Left, clone_refusal, clone_step, cloned_in, cloned_of, cloned_unless, encrypted_id, family_of, on_head, snapshot_step}
use Rattle.shell_lines.specs.declared.line.Line.{Line}
use Rattle.shell_run.specs.declared.ending.Halt.{Halt}
use Rattle.shell_run.specs.declared.ending.Halt.TheVariants.{NoMemory}
use Rattle.shell_run.specs.declared.found.FoundEntry.{FoundEntry}
use Rattle.shell_run.specs.declared.found.FoundKind.TheVariants.{Seed}
use Rattle.shell_run.specs.declared.job.SpotName.{SpotName}
use Rattle.shell_run.specs.Answers.{Acts, Agrees, Fills, HaltsIn, HasAnswer, Reads, WhereTold, answer_takings, is_seed_fault, taking_with}
use Rattle.shell_run.specs.JobAnswers.{StepsTo}
use Rattle.shell_run.specs.Jobs.{Job, job_of, on_clone, on_destroy, on_snapshot}
use Rattle.shell_run.specs.Outer.{Outer, left_after}
use Rattle.shell_run.specs.Ran.{IsFront}
use Rattle.shell_run.specs.Script.{Script, ToldScript}
use Rattle.shell_run.specs.Takings.{Taking, fills_of}
use Rattle.shell_run.specs.Transcript.{World, world_of, told_world, Spot, fill_at, seed_at, seed_from, Answer, Goes, answer_of, answer_to, destroyed, destroyed_at, named_snapshot, only_part, snapshot_turn, stepped_turn}
use Rattle.shell_run.proofs.CommandLemmas.{front_all, front_nil, host_told, nothing_acts, told_after, told_each, told_of}
use Rattle.shell_run.proofs.KitLemmas.{entry_of, fill_agrees, told_at}
use Rattle.shell_run.proofs.PerformLemmas.{on_told_with, reads_none}

-- ---- a step leaves what the shelves tell

head_tells : (h : HostState) (none : ℕ → Refusal) (call : (head : ℕ) → FamilyState → Left) (given : Result ℕ Refusal) → (on_head h none call given).state.tells ≡ h.tells
head_tells h none call (Ok id) = refl
head_tells h none call (Err why) = refl

unless_tells : (h : HostState) (from name : List ℕ) (spot : FamilySpot) (state : FamilyState) (refusal : Option Refusal) → (cloned_unless h from name spot state refusal).state.tells ≡ h.tells
unless_tells h from name spot state None = refl
unless_tells h from name spot state (Some why) = refl

in_tells : (h : HostState) (from name : List ℕ) (spot : FamilySpot) (state : Option FamilyState) → (cloned_in h from name spot state).state.tells ≡ h.tells
in_tells h from name spot None = refl
in_tells h from name spot (Some state) = unless_tells h from name spot state (clone_refusal h.keys from name spot state)

of_tells : (h : HostState) (from part name : List ℕ) (given : Result ℕ Refusal) → (cloned_of h from part name given).state.tells ≡ h.tells
of_tells h from part name (Ok id) = in_tells h from name (snap_spot id part) (family_of h id)
of_tells h from part name (Err why) = refl

clone_tells : (h : HostState) (from part name : List ℕ) → (clone_step h from part name).state.tells ≡ h.tells
clone_tells h from part name = of_tells h from part name (encrypted_id h.keys from)

snapshot_tells : (h : HostState) (name : Result SnapName Refusal) (seed : SeedGot) → (named_snapshot h name seed).state.tells ≡ h.tells
snapshot_tells h (Ok name) seed = head_tells h _ _ (encrypted_id h.keys name.set)
snapshot_tells h (Err why) seed = refl

destroyed_tells : (h : HostState) (set : List ℕ) (snap : Option (List ℕ)) → (destroyed_at h set snap).state.tells ≡ h.tells
destroyed_tells h set None = refl
destroyed_tells h set (Some part) = head_tells h _ _ (encrypted_id h.keys set)

-- ---- a step that takes nothing

stepped_as : (n : ℕ) (p new : HostState) (step : HostStepped) (files : List (List ℕ × List ℕ)) (left : List ℕ) (script : Script) (result : Result (Unit {0}) Halt) (now : Option World) (before after : List ℕ) → StepsTo result n step new before after
    → (new ≡ step.state → now ≡ Some (world_of new files left script)) → HasAnswer result (Goes (stepped_turn n (world_of p files left script) step)) now before after []
stepped_as n p new step files left script (Ok ok) now before after steps told = (told steps.0 ∙ ap (λ h. Some (world_of h files left script)) steps.0, steps.1, refl)
stepped_as n p new step files left script (Err halt) now before after steps told =
    subst (λ (h : Halt). HaltsIn h (Goes (stepped_turn n (world_of p files left script) step)) []) (sym steps) (front_nil _)

-- what a line's job does is what the line does
pub of_job : (n : ℕ) (p new : HostState) (a d : Outer) (sa sd : ToldScript) (line : Line) (job : Job) (result : Result (Unit {0}) Halt) (before after : List ℕ) → job_of p.keys line ≡ job
    → Acts n a d (λ made. WhereTold (told_world p a sa) made (λ entries w. HasAnswer result (answer_to n entries w job) (told_world new d sd) before after made))
    → Acts n a d (λ made. WhereTold (told_world p a sa) made (λ entries w. HasAnswer result (answer_of n entries w line) (told_world new d sd) before after made))
of_job n p new a d sa sd line job result before after is acts = record {
  made = acts.made;
  takes = acts.takes;
  said = λ entries agrees.
      on_told_with (told_world p a sa) (λ w. HasAnswer result (answer_to n entries w job) (told_world new d sd) before after acts.made) (λ w. HasAnswer result (answer_of n entries w line) (told_world new d sd) before after acts.made)
      (λ w told answered.
      let same : answer_of n entries w line ≡ answer_to n entries w job = ap (λ q. answer_to n entries w (job_of q.keys line)) (host_told p a sa w told) ∙ ap (answer_to n entries w) is in
      subst (λ (answer : Answer). HasAnswer result answer (told_world new d sd) before after acts.made) (sym same) answered) (acts.said entries agrees);
}

stepped : (n : ℕ) (p new : HostState) (outer : Outer) (script : ToldScript) (line : Line) (job : Job) (step : HostStepped) (result : Result (Unit {0}) Halt) (before after : List ℕ) → job_of p.keys line ≡ job
    → ((entries : List FoundEntry) (files : List (List ℕ × List ℕ)) (left : List ℕ) (here : Script) → answer_to n entries (world_of p files left here) job ≡ Goes (stepped_turn n (world_of p files left here) step))
    → step.state.tells ≡ p.tells → StepsTo result n step new before after
    → Acts n outer outer (λ made. WhereTold (told_world p outer script) made (λ entries w. HasAnswer result (answer_of n entries w line) (told_world new outer script) before after made))
stepped n p new outer script line job step result before after is answers same steps =
    of_job n p new outer outer script script line job result before after is
    (nothing_acts n outer (λ made. WhereTold (told_world p outer script) made (λ entries w. HasAnswer result (answer_to n entries w job) (told_world new outer script) before after made))
    (λ entries agrees. told_each p outer script (λ w. HasAnswer result (answer_to n entries w job) (told_world new outer script) before after []) (λ files left here tells f e s.
    subst (λ (answer : Answer). HasAnswer result answer (told_world new outer script) before after []) (sym (answers entries files left here))
    (stepped_as n p new step files left here result (told_world new outer script) before after steps (λ moved. told_of new outer script files left here (ap (λ (h : HostState). h.tells) moved ∙ same ∙ tells) f e s)))))

pub cloned : (n : ℕ) (p new : HostState) (outer : Outer) (script : ToldScript) (line : Line) (from : SnapName) (name : List ℕ) (result : Result (Unit {0}) Halt) (before after : List ℕ) → job_of p.keys line ≡ on_clone from name
    → StepsTo result n (clone_step p from.set from.snap name) new before after
    → Acts n outer outer (λ made. WhereTold (told_world p outer script) made (λ entries w. HasAnswer result (answer_of n entries w line) (told_world new outer script) before after made))
cloned n p new outer script line from name result before after is steps =
    stepped n p new outer script line (on_clone from name) (clone_step p from.set from.snap name) result before after is (λ entries files left here. refl) (clone_tells p from.set from.snap name) steps

pub gone : (n : ℕ) (p new : HostState) (outer : Outer) (script : ToldScript) (line : Line) (spot : SpotName) (result : Result (Unit {0}) Halt) (before after : List ℕ) → job_of p.keys line ≡ on_destroy spot
    → StepsTo result n (destroyed p spot) new before after
    → Acts n outer outer (λ made. WhereTold (told_world p outer script) made (λ entries w. HasAnswer result (answer_of n entries w line) (told_world new outer script) before after made))
gone n p new outer script line spot result before after is steps =
    stepped n p new outer script line (on_destroy spot) (destroyed p spot) result before after is (λ entries files left here. refl) (destroyed_tells p spot.set spot.snap) steps

-- a step reads nothing of the script
pub reads_step : (a : ToldScript) (x n : ℕ) (step : HostStepped) (new : HostState) (before after : List ℕ) (result : Result (Unit {0}) Halt) → StepsTo result n step new before after → Reads (result_err result) a a x x
reads_step a x n step new before after (Ok ok) steps = reads_none a x (Ok ok) tt
reads_step a x n step new before after (Err halt) steps = reads_none a x (Err halt) (ap (λ (h : Halt). let ended : Result (Unit {0}) Halt = Err h in ended) steps)

-- ---- a snapshot, under its seed

snapped_as : (n : ℕ) (p new : HostState) (name : Result SnapName Refusal) (taking : Taking) (files : List (List ℕ × List ℕ)) (left : List ℕ) (script : Script) (result : Result (Unit {0}) Halt) (now : Option World) (before after : List ℕ) (made : List Taking)
    → StepsTo result n (named_snapshot p name (seed_from taking left true)) new before after → made ≡ taking ∷ []
    → (new ≡ (named_snapshot p name (seed_from taking left true)).state → now ≡ Some (world_of new files (left_after (fills_of made) left) script))
    → HasAnswer result (Goes (snapshot_turn n (world_of p files left script) taking name)) now before after made
snapped_as n p new name taking files left script (Ok ok) now before after made steps is told =
    let step : HostStepped = named_snapshot p name (seed_from taking left true) in (
      told steps.0 ∙ ap (λ h. Some (world_of h files (left_after (fills_of made) left) script)) steps.0 ∙ ap (λ xs. Some (world_of step.state files (left_after (fills_of xs) left) script)) is,
      steps.1,
      is,
    )
snapped_as n p new name taking files left script (Err halt) now before after made steps is told =
    subst (λ (h : Halt). HaltsIn h (Goes (snapshot_turn n (world_of p files left script) taking name)) made) (sym steps) (front_all made (taking ∷ []) is)

pub snapped : (n : ℕ) (p new : HostState) (a d : Outer) (script : ToldScript) (name : Result SnapName Refusal) (seed : SeedGot) (result : Result (Unit {0}) Halt) (before after : List ℕ) → Acts n a d (Fills (Ok seed) (entry_of n 0 Seed) true a.entropy)
    → StepsTo result n (named_snapshot p name seed) new before after
    → Acts n a d (λ made. WhereTold (told_world p a script) made (λ entries w. HasAnswer result (answer_to n entries w (on_snapshot name)) (told_world new d script) before after made))
snapped n p new a d script name seed result before after acts steps = record {
  made = acts.made;
  takes = acts.takes;
  said = λ entries agrees. told_each p a script (λ w. HasAnswer result (answer_to n entries w (on_snapshot name)) (told_world new d script) before after acts.made) (λ files left here tells f e s.
      let spot : Spot = only_part n entries in
      let entry : FoundEntry = entry_of n 0 Seed in
      let fails : Bool = is_seed_fault seed in
      let seed_told = told_at a.entropy left (λ l. (seed ≡ seed_from (taking_with entry fails) l true) × (true ≡ true → fails || is_short l ≡ fails)) e acts.said.1 in
      let agrees_seed : Agrees entries (fill_at (taking_with entry fails) true) = subst (Agrees entries) acts.said.0 agrees in
      let filled = fill_agrees n 0 entries left fails true seed_told.1 agrees_seed in
      let seed_is : seed ≡ seed_from (seed_at spot left) left true = seed_told.0 ∙ filled.1 in
      let made_is : acts.made ≡ seed_at spot left ∷ [] = acts.said.0 ∙ filled.0 in
      snapped_as n p new name (seed_at spot left) files left here result (told_world new d script) before after acts.made
      (subst (λ (got : SeedGot). StepsTo result n (named_snapshot p name got) new before after) seed_is steps) made_is
      (λ moved. told_after n new a d script files left here acts.made acts.takes (ap (λ (h : HostState). h.tells) moved ∙ snapshot_tells p name (seed_from (seed_at spot left) left true) ∙ tells) f e s));
}

-- no memory was found for the seed
pub snapped_not : (n : ℕ) (p : HostState) (a d : Outer) (sa sd : ToldScript) (name : Result SnapName Refusal) (stop : AllocError) (before after : List ℕ) → Acts n a d (Fills (Err stop) (entry_of n 0 Seed) true a.entropy)
    → Acts n a d (λ made. WhereTold (told_world p a sa) made (λ entries w. HasAnswer (let ended : Result (Unit {0}) Halt = Err NoMemory in ended) (answer_to n entries w (on_snapshot name)) (told_world p d sd) before after made))
snapped_not n p a d sa sd name stop before after acts = record {
  made = acts.made;
  takes = acts.takes;
  said = λ entries agrees. told_each p a sa (λ w. HaltsIn NoMemory (answer_to n entries w (on_snapshot name)) acts.made) (λ files left here tells f e s.
      subst (λ (xs : List Taking). IsFront xs (answer_takings (answer_to n entries (world_of p files left here) (on_snapshot name)))) (sym acts.said) (front_nil _));
}
