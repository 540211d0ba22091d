-- What a run has done, once its last line is written.
use Rattle.std.proofs.Common.{◌≡◌, ◌≢◌, ◌⊎◌, inl, inr, ⊎_elim, ℕ, zero, suc, ◌+◌, ◌*◌, ◌≤◌, Bool, true, false, ◌||◌, List, [], ◌∷◌, ◌++◌, length, take, drop, if◌then◌else◌, Option, Some, None, IfSome, refl, ap, sym, ◌∙◌, subst, append_assoc, arith, length-append, length-drop}
use Rattle.std.specs.Option.{option_map}
use Rattle.std.specs.List.{AllByRecursion}
use Rattle.std.proofs.lemmas.List.{append-nil}
use Rattle.std.proofs.lemmas.Bool.Decides.{nat_tests}
use Rattle.edge_io.specs.Counts.{one_more, raised}
use Rattle.edge_io.specs.Entropy.{is_short}
use Rattle.edge_io.specs.Faults.{Rose}
use Rattle.shell_run.specs.declared.ending.Ending.{Ending}
use Rattle.shell_run.specs.declared.ending.Ending.TheVariants.{Done, Usage, BadLine, ReadFault, WriteFault, NoMemory}
use Rattle.shell_run.specs.declared.found.FoundEntry.{FoundEntry}
use Rattle.shell_run.specs.Answers.{Agrees}
use Rattle.shell_run.specs.Endings.{status_of, closing_line, SourceFaults, SinkFaults, ClosesAs}
use Rattle.host_state.specs.Hosts.{no_host}
use Rattle.shell_run.specs.Outer.{Outer, Takes, FailWhereListedOrShort, failed_count}
use Rattle.shell_run.specs.Progress.{Taken, Ends as EndsSo, RunsFrom}
use Rattle.shell_run.specs.Ran.{IsAnswered, IsFront, Came, Closes, Took, Ran, last_line, WroteLast}
use Rattle.shell_run.specs.Script.{script_of}
use Rattle.shell_run.specs.Takings.{Taking, failures, is_fetch, is_fill, fetches_of, fills_of}
use Rattle.shell_run.specs.Transcript.{World, told_world, Run, Turn, replies_of, made_in, output_of, transcript, told_transcript}
use Rattle.shell_run.specs.Words.{default_limit}
use Rattle.shell_run.proofs.CommandLemmas.{front_nil}
use Rattle.shell_run.proofs.RunLemmas.{flat_map_both, unanswered}
use Rattle.shell_run.proofs.TakingLemmas.{agrees_failures, outcomes_both}
use Rattle.shell_run.proofs.WritingLemmas.{Took-after, Took-from_Appends}

-- ---- the run that is told

told_run : (world : Option World) (run : World → Run) (P : Run → Type 0) → IfSome world (λ w. P (run w)) → IfSome (option_map run world) P
told_run None run P holds = tt
told_run (Some w) run P holds = holds

-- ---- a run that is closed otherwise than it ended

came_without_memory : (run : Run) (replies : List ℕ) (made : List Taking) → Came run 3 replies made → Came run 12 replies made
came_without_memory run replies made c = record {
  turns = c.turns;
  later = c.later;
  whole = c.whole;
  answered = λ answered. absurd (unanswered 12 (omega arith) answered);
  replied = λ other. c.replied (λ e. absurd (omega (arith, e)));
  taken = λ fault other memory. absurd (memory refl);
  cut = λ five. absurd (omega (arith, five));
  unread = λ four. absurd (omega (arith, four));
  stopped = λ twelve. ([], c.taken (λ e. absurd (omega (arith, e))) (λ e. absurd (omega (arith, e))) (λ e. absurd (omega (arith, e))) ∙ sym (append-nil (made_in c.turns)), front_nil (made_in (take 1 c.later)));
}

came_closed : (e closed : Ending) (run : Run) (replies : List ℕ) (made : List Taking) → ClosesAs e closed → Came run (status_of e) replies made → Came run (status_of closed) replies made
came_closed (BadLine number at) closed run replies made closes_as came =
    ⊎_elim (λ same. subst (λ (x : Ending). Came run (status_of x) replies made) (sym same) came)
    (λ none. subst (λ (x : Ending). Came run (status_of x) replies made) (sym none) (came_without_memory run replies made came)) closes_as
came_closed Done closed run replies made closes_as came = subst (λ (x : Ending). Came run (status_of x) replies made) (sym closes_as) came
came_closed Usage closed run replies made closes_as came = subst (λ (x : Ending). Came run (status_of x) replies made) (sym closes_as) came
came_closed ReadFault closed run replies made closes_as came = subst (λ (x : Ending). Came run (status_of x) replies made) (sym closes_as) came
came_closed WriteFault closed run replies made closes_as came = subst (λ (x : Ending). Came run (status_of x) replies made) (sym closes_as) came
came_closed NoMemory closed run replies made closes_as came = subst (λ (x : Ending). Came run (status_of x) replies made) (sym closes_as) came

-- the last line of a closed run is that of its status
own_line : (e : Ending) (run : Run) → (IsAnswered (status_of e) → run.last ≡ closing_line e) → status_of e ≢ 5 → last_line (status_of e) run ≡ closing_line e
own_line Done run last other = last (inl refl)
own_line Usage run last other = last (inr (inl refl))
own_line (BadLine number at) run last other = last (inr (inr refl))
own_line ReadFault run last other = refl
own_line WriteFault run last other = absurd (other refl)
own_line NoMemory run last other = refl

closed_line : (e closed : Ending) (run : Run) → ClosesAs e closed → (IsAnswered (status_of e) → run.last ≡ closing_line e) → status_of closed ≢ 5 → last_line (status_of closed) run ≡ closing_line closed
closed_line (BadLine number at) closed run closes_as last =
    ⊎_elim (λ same. subst (λ (x : Ending). status_of x ≢ 5 → last_line (status_of x) run ≡ closing_line x) (sym same) (own_line (BadLine number at) run last))
    (λ none. subst (λ (x : Ending). status_of x ≢ 5 → last_line (status_of x) run ≡ closing_line x) (sym none) (λ other. refl)) closes_as
closed_line Done closed run closes_as last = subst (λ (x : Ending). status_of x ≢ 5 → last_line (status_of x) run ≡ closing_line x) (sym closes_as) (own_line Done run last)
closed_line Usage closed run closes_as last = subst (λ (x : Ending). status_of x ≢ 5 → last_line (status_of x) run ≡ closing_line x) (sym closes_as) (own_line Usage run last)
closed_line ReadFault closed run closes_as last = subst (λ (x : Ending). status_of x ≢ 5 → last_line (status_of x) run ≡ closing_line x) (sym closes_as) (own_line ReadFault run last)
closed_line WriteFault closed run closes_as last = subst (λ (x : Ending). status_of x ≢ 5 → last_line (status_of x) run ≡ closing_line x) (sym closes_as) (own_line WriteFault run last)
closed_line NoMemory closed run closes_as last = subst (λ (x : Ending). status_of x ≢ 5 → last_line (status_of x) run ≡ closing_line x) (sym closes_as) (own_line NoMemory run last)

-- ---- what was written

taken_told : (e : Ending) (t0 t1 : Option (List ℕ)) (replies : List ℕ) → Taken e t0 t1 replies → Took t0 t1 replies
taken_told WriteFault t0 t1 replies taken = taken
taken_told Done t0 t1 replies taken = Took-from_Appends t0 t1 replies taken
taken_told Usage t0 t1 replies taken = Took-from_Appends t0 t1 replies taken
taken_told ReadFault t0 t1 replies taken = Took-from_Appends t0 t1 replies taken
taken_told NoMemory t0 t1 replies taken = Took-from_Appends t0 t1 replies taken
taken_told (BadLine number at) t0 t1 replies taken = Took-from_Appends t0 t1 replies taken

-- only a write fault leaves a sink that may tell nothing
written_whole : (e closed : Ending) (t0 t1 t2 : Option (List ℕ)) (replies last : List ℕ) → ClosesAs e closed → Taken e t0 t1 replies → Took t1 t2 last → (closing_line closed ≡ [] → t2 ≡ t1) → (closing_line closed ≡ [] → last ≡ [])
    → Took t0 t2 (replies ++ last)
written_whole WriteFault closed t0 t1 t2 replies last closes_as taken more kept none =
    let silent : closing_line closed ≡ [] = ap closing_line closes_as in
    subst (λ (t : Option (List ℕ)). Took t0 t (replies ++ last)) (sym (kept silent))
    (subst (λ (xs : List ℕ). Took t0 t1 (replies ++ xs)) (sym (none silent)) (subst (λ (xs : List ℕ). Took t0 t1 xs) (sym (append-nil replies)) taken))
written_whole Done closed t0 t1 t2 replies last closes_as taken more kept none = Took-after t0 t1 t2 replies last taken more
written_whole Usage closed t0 t1 t2 replies last closes_as taken more kept none = Took-after t0 t1 t2 replies last taken more
written_whole ReadFault closed t0 t1 t2 replies last closes_as taken more kept none = Took-after t0 t1 t2 replies last taken more
written_whole NoMemory closed t0 t1 t2 replies last closes_as taken more kept none = Took-after t0 t1 t2 replies last taken more
written_whole (BadLine number at) closed t0 t1 t2 replies last closes_as taken more kept none = Took-after t0 t1 t2 replies last taken more

-- a cut needs a line
closes_nil : (line last : List ℕ) (before now : ℕ) → line ≡ [] → Closes line last before now → last ≡ []
closes_nil line last before now empty closed =
    ⊎_elim (λ whole. whole.0 ∙ empty) (λ cut. absurd (cut.0.2 (second last cut.0.0 (sym cut.0.1 ∙ empty)))) closed where
      second : (xs ys : List ℕ) → xs ++ ys ≡ [] → ys ≡ []
      second [] ys e = e
      second (x ∷ xs) ys e = absurd (cc)

closes_from : (line last : List ℕ) (first before now : ℕ) → before ≡ first → Closes line last before now → Closes line last first now
closes_from line last first before now same closed = subst (λ n. Closes line last n now) same closed

same_sink : (e : Ending) (before now : ℕ) → status_of e ≢ 5 → SinkFaults (Some e) before now → now ≡ before
same_sink Done before now other faults = faults
same_sink Usage before now other faults = faults
same_sink (BadLine number at) before now other faults = faults
same_sink ReadFault before now other faults = faults
same_sink WriteFault before now other faults = absurd (other refl)
same_sink NoMemory before now other faults = faults

other_ends : (e closed : Ending) → ClosesAs e closed → status_of closed ≢ 5 → status_of e ≢ 5
other_ends (BadLine number at) closed closes_as other = λ five. absurd (omega (arith, five))
other_ends Done closed closes_as other = λ five. absurd (omega (arith, five))
other_ends Usage closed closes_as other = λ five. absurd (omega (arith, five))
other_ends ReadFault closed closes_as other = λ five. absurd (omega (arith, five))
other_ends WriteFault closed closes_as other = absurd (other (ap status_of closes_as))
other_ends NoMemory closed closes_as other = λ five. absurd (omega (arith, five))

silent_at_five : (closed : Ending) → status_of closed ≡ 5 → closing_line closed ≡ []
silent_at_five WriteFault five = refl
silent_at_five Done five = refl
silent_at_five Usage five = absurd (omega (arith, five))
silent_at_five (BadLine number at) five = absurd (omega (arith, five))
silent_at_five ReadFault five = absurd (omega (arith, five))
silent_at_five NoMemory five = absurd (omega (arith, five))

-- all of an answered run's output
not_five : (status : ℕ) → IsAnswered status → status ≢ 5
not_five status answered five = ⊎_elim (λ e. omega (arith, e, five)) (λ other. ⊎_elim (λ e. omega (arith, e, five)) (λ e. omega (arith, e, five)) other) answered

answered_line : (status : ℕ) (run : Run) → IsAnswered status → last_line status run ≡ run.last
answered_line status run answered = ⊎_elim (λ done. rw done refl) (λ other. ⊎_elim (λ usage. rw usage refl) (λ bad. rw bad refl) other) answered

whole_output : (run : Run) (status : ℕ) (replies last : List ℕ) (made : List Taking) (before now : ℕ) → Came run status replies made → Closes (last_line status run) last before now → IsAnswered status → (Rose before now → ⊥)
    → replies ++ last ≡ output_of run
whole_output run status replies last made before now came closed answered kept =
    let all : run.turns ≡ came.turns = came.whole ∙ ap (λ ts. came.turns ++ ts) (came.answered answered).1 ∙ append-nil came.turns in
    let line : last ≡ run.last = ⊎_elim (λ whole. whole.0 ∙ answered_line status run answered) (λ cut. absurd (kept cut.1)) closed in
    ap (λ xs. xs ++ last) (came.replied (not_five status answered) ∙ ap replies_of (sym all)) ∙ ap (λ xs. replies_of run.turns ++ xs) line

-- ---- the takings of a run are those of a front of its turns

made_both : (xs ys : List Turn) → made_in (xs ++ ys) ≡ made_in xs ++ made_in ys
made_both xs ys = flat_map_both (λ turn. turn.takings) xs ys

front_more : {A : Type 0} (xs ys zs : List A) → IsFront xs ys → IsFront xs (ys ++ zs)
front_more xs ys zs front = (front.0 ++ zs, ap (λ ws. ws ++ zs) front.1 ∙ append_assoc xs front.0 zs)

take_one : (later : List Turn) → later ≡ take 1 later ++ drop 1 later
take_one [] = refl
take_one (turn ∷ later) = refl

front_of_run : (run : Run) (turns later : List Turn) (made : List Taking) → run.turns ≡ turns ++ later → IsFront made (made_in (turns ++ take 1 later)) → IsFront made (made_in run.turns)
front_of_run run turns later made whole front =
    let split : run.turns ≡ (turns ++ take 1 later) ++ drop 1 later = whole ∙ ap (λ ts. turns ++ ts) (take_one later) ∙ sym (append_assoc turns (take 1 later) (drop 1 later)) in
    subst (λ (xs : List Taking). IsFront made xs) (sym (ap made_in split ∙ made_both (turns ++ take 1 later) (drop 1 later))) (front_more made (made_in (turns ++ take 1 later)) (made_in (drop 1 later)) front)

front_of_turns : (turns later : List Turn) (made : List Taking) → made ≡ made_in turns → IsFront made (made_in (turns ++ take 1 later))
front_of_turns turns later made same = (made_in (take 1 later), made_both turns (take 1 later) ∙ ap (λ xs. xs ++ made_in (take 1 later)) (sym same))

made_front : (closed : Ending) (run : Run) (replies : List ℕ) (made : List Taking) → Came run (status_of closed) replies made → IsFront made (made_in run.turns)
made_front WriteFault run replies made came =
    front_of_run run came.turns came.later made came.whole ([], sym ((came.cut refl).3) ∙ sym (append-nil made))
made_front NoMemory run replies made came =
    let there = came.stopped refl in
    front_of_run run came.turns came.later made came.whole (
      there.2.0,
      made_both came.turns (take 1 came.later) ∙ ap (λ xs. made_in came.turns ++ xs) there.2.1 ∙ sym (append_assoc (made_in came.turns) there.0 there.2.0) ∙ ap (λ xs. xs ++ there.2.0) (sym there.1),
    )
made_front Done run replies made came =
    front_of_run run came.turns came.later made came.whole (front_of_turns came.turns came.later made (came.taken (λ e. absurd (omega (arith, e))) (λ e. absurd (omega (arith, e))) (λ e. absurd (omega (arith, e)))))
made_front Usage run replies made came =
    front_of_run run came.turns came.later made came.whole (front_of_turns came.turns came.later made (came.taken (λ e. absurd (omega (arith, e))) (λ e. absurd (omega (arith, e))) (λ e. absurd (omega (arith, e)))))
made_front ReadFault run replies made came =
    let there = came.unread refl in
    front_of_run run came.turns came.later made came.whole (
      there.2.0,
      made_both came.turns (take 1 came.later) ∙ ap (λ xs. made_in came.turns ++ xs) there.2.1 ∙ sym (append_assoc (made_in came.turns) there.0 there.2.0) ∙ ap (λ xs. xs ++ there.2.0) (sym there.1),
    )
made_front (BadLine number at) run replies made came =
    front_of_run run came.turns came.later made came.whole (front_of_turns came.turns came.later made (came.taken (λ e. absurd (omega (arith, e))) (λ e. absurd (omega (arith, e))) (λ e. absurd (omega (arith, e)))))

-- ---- where no fill is to fail and there are bytes for each

enough_bytes : (number : ℕ) (left : List ℕ) (xs : List Bool) → 32 * length xs ≤ length left → FailWhereListedOrShort [] number left xs → AllByRecursion (λ fails. fails ≡ false) xs
enough_bytes number left [] enough fails = tt
enough_bytes number left (first ∷ xs) enough fails =
    let none : first ≡ false = fails.0 ∙ long_enough left (omega (arith, enough)) in
    let rest : FailWhereListedOrShort [] (one_more number) (drop 32 left) xs = subst (λ (b : Bool). FailWhereListedOrShort [] (one_more number) (if b then left else drop 32 left) xs) none fails.1 in
    (none, enough_bytes (one_more number) (drop 32 left) xs (dropped left (length xs) (omega (arith, enough))) rest) where
      long_enough : (left : List ℕ) → 32 ≤ length left → is_short left ≡ false
      long_enough left long = grind (arith, nat_tests)

      dropped : (left : List ℕ) (n : ℕ) → 32 * (n + 1) ≤ length left → 32 * n ≤ length (drop 32 left)
      dropped left n long = omega (arith, length-drop 32 left, long)

no_fills : (made : List Taking) → AllByRecursion (λ fails. fails ≡ false) (fills_of made) → AllByRecursion (λ entry. is_fill entry.what ≡ false) (failures made)
no_fills [] none = tt
no_fills (taking ∷ made) none = by_kind (no_fills made) (is_fill taking.entry.what) refl none taking.fails refl where
  by_kind : (AllByRecursion (λ fails. fails ≡ false) (fills_of made) → AllByRecursion (λ entry. is_fill entry.what ≡ false) (failures made))
      → (kind : Bool) → is_fill taking.entry.what ≡ kind → AllByRecursion (λ fails. fails ≡ false) (if kind then taking.fails ∷ fills_of made else fills_of made) → (fails : Bool) → taking.fails ≡ fails
      → AllByRecursion (λ entry. is_fill entry.what ≡ false) (if fails then taking.entry ∷ failures made else failures made)
  by_kind rest true fill none true same = absurd (let not : taking.fails ≡ false = none.0 in cc)
  by_kind rest true fill none false same = rest none.1
  by_kind rest false fill none true same = (fill, rest none)
  by_kind rest false fill none false same = rest none

fewer_fills : (made rest : List Taking) → length (fills_of made) ≤ length (fills_of (made ++ rest))
fewer_fills made rest = let both : length (fills_of (made ++ rest)) ≡ length (fills_of made) + length (fills_of rest) = ap length (outcomes_both is_fill made rest) ∙ length-append (fills_of made) (fills_of rest) in omega (arith, both)

enough_told : (made whole : List Taking) (old : Outer) (found : List FoundEntry) → IsFront made whole → found ≡ failures made
    → IfSome old.fills.made (λ number. IfSome old.fills.failing (λ failing. IfSome old.entropy (λ left. FailWhereListedOrShort failing number left (fills_of made))))
    → IfSome old.entropy (λ left. IfSome old.fills.made (λ number. old.fills.failing ≡ Some [] → 32 * length (fills_of whole) ≤ length left → AllByRecursion (λ entry. is_fill entry.what ≡ false) found))
enough_told made whole old found front same fails = by_told old.fills.made old.fills.failing old.entropy fails where
  by_told : (number : Option ℕ) (failing entropy : Option (List ℕ)) → IfSome number (λ number. IfSome failing (λ failing. IfSome entropy (λ left. FailWhereListedOrShort failing number left (fills_of made))))
      → IfSome entropy (λ left. IfSome number (λ number. failing ≡ Some [] → 32 * length (fills_of whole) ≤ length left → AllByRecursion (λ entry. is_fill entry.what ≡ false) found))
  by_told number failing None fails = tt
  by_told None failing (Some left) fails = tt
  by_told (Some number) None (Some left) fails = λ none enough. absurd (cc)
  by_told (Some number) (Some failing) (Some left) fails = λ none enough.
      let empty : failing ≡ [] = cc in
      let fewer : length (fills_of made) ≤ length (fills_of whole) = subst (λ (xs : List Taking). length (fills_of made) ≤ length (fills_of xs)) (sym front.1) (fewer_fills made front.0) in
      subst (λ (es : List FoundEntry). AllByRecursion (λ entry. is_fill entry.what ≡ false) es) (sym same)
      (no_fills made (enough_bytes number left (fills_of made) (omega (arith, fewer, enough)) (subst (λ (l : List ℕ). FailWhereListedOrShort l number left (fills_of made)) empty fails)))

-- ---- where no count rose, nothing is listed

no_failure : (xs : List Bool) (before now : ℕ) → (Rose before now → ⊥) → raised (failed_count xs) before ≤ now → failed_count xs ≡ 0
no_failure xs before now kept rose = by_count (failed_count xs) rose where
  by_count : (n : ℕ) → raised n before ≤ now → n ≡ 0
  by_count zero rose = refl
  by_count (suc n) rose = absurd (kept (omega (arith, rose)))

none_failures : (made : List Taking) → AllByRecursion (λ taking. is_fetch taking.entry.what || is_fill taking.entry.what ≡ true) made → failed_count (fetches_of made) ≡ 0 → failed_count (fills_of made) ≡ 0 → failures made ≡ []
none_failures [] kinds fetches fills = refl
none_failures (taking ∷ made) kinds fetches fills = by_kind (none_failures made kinds.1) (is_fetch taking.entry.what) (is_fill taking.entry.what) taking.fails kinds.0 fetches fills where
  by_kind : (failed_count (fetches_of made) ≡ 0 → failed_count (fills_of made) ≡ 0 → failures made ≡ []) → (fetch fill fails : Bool) → fetch || fill ≡ true
      → failed_count (if fetch then fails ∷ fetches_of made else fetches_of made) ≡ 0 → failed_count (if fill then fails ∷ fills_of made else fills_of made) ≡ 0 → (if fails then taking.entry ∷ failures made else failures made) ≡ []
  by_kind rest true fill true some fetches fills = absurd (omega (arith, fetches))
  by_kind rest true true false some fetches fills = rest fetches fills
  by_kind rest true false false some fetches fills = rest fetches fills
  by_kind rest false true true some fetches fills = absurd (omega (arith, fills))
  by_kind rest false true false some fetches fills = rest fetches fills
  by_kind rest false false fails some fetches fills = absurd (cc)

pub none_listed : (here : ℕ → Type 0) (made : List Taking) (old new : Outer) → Takes here made old new → old.found ≡ [] → (Rose old.fetches.faults new.fetches.faults → ⊥) → (Rose old.fills.faults new.fills.faults → ⊥) → new.found ≡ []
none_listed here made old new takes empty files entropy =
    takes.found ∙ ap (λ es. es ++ failures made) empty
    ∙ none_failures made takes.kinds (no_failure (fetches_of made) old.fetches.faults new.fetches.faults files takes.fetches.rose) (no_failure (fills_of made) old.fills.faults new.fills.faults entropy takes.fills.rose)

-- ---- all together

ran_told : (told : Option Run) (e closed : Ending) (t0 t1 t2 : Option (List ℕ)) (f0 f1 f2 : ℕ) (old new : Outer) (made : List Taking) → Takes (λ line. line ≤ 1048576) made old new → new.found ≡ failures made
    → IfSome told (λ run. EndsSo e run made t0 t1) → ClosesAs e closed → SinkFaults (Some e) f0 f1 → WroteLast (closing_line closed) t1 t2 f1 f2 → (closing_line closed ≡ [] → (f2 ≡ f1) × (t2 ≡ t1))
    → Ran told (status_of closed) (record { taken = t0; faults = f0 }) (record { taken = t2; faults = f2 }) old new
ran_told None e closed t0 t1 t2 f0 f1 f2 old new made takes found ends closes_as sink wrote kept = record {
  replies = [];
  last = wrote.part;
  made = made;
  came = tt;
  written = tt;
  closed = tt;
  silent = λ five. closes_nil (closing_line closed) wrote.part f1 f2 (silent_at_five closed five) wrote.closed;
  takes = takes;
  exact = tt;
  enough = tt;
}
ran_told (Some run) e closed t0 t1 t2 f0 f1 f2 old new made takes found ends closes_as sink wrote kept =
    let came : Came run (status_of closed) ends.replies made = came_closed e closed run ends.replies made closes_as ends.came in
    let written : Took t0 t2 (ends.replies ++ wrote.part) =
    written_whole e closed t0 t1 t2 ends.replies wrote.part closes_as ends.taken wrote.taken (λ none. (kept none).1) (λ none. closes_nil (closing_line closed) wrote.part f1 f2 none wrote.closed) in
    let last_closed : status_of closed ≢ 5 → Closes (last_line (status_of closed) run) wrote.part f0 f2 = λ other.
    subst (λ (line : List ℕ). Closes line wrote.part f0 f2) (sym (closed_line e closed run closes_as ends.last other))
    (closes_from (closing_line closed) wrote.part f0 f1 f2 (same_sink e f0 f1 (other_ends e closed closes_as other) sink) wrote.closed) in
    record {
      replies = ends.replies;
      last = wrote.part;
      made = made;
      came = came;
      written = written;
      closed = last_closed;
      silent = λ five. closes_nil (closing_line closed) wrote.part f1 f2 (silent_at_five closed five) wrote.closed;
      takes = takes;
      exact = λ answered unfailed.
          subst (λ (bytes : List ℕ). Took t0 t2 bytes)
          (whole_output run (status_of closed) ends.replies wrote.part made f0 f2 came (last_closed (not_five (status_of closed) answered)) answered unfailed) written;
      enough = enough_told made (made_in run.turns) old new.found (made_front closed run ends.replies made came) found takes.fill_fails;
    }

pub same_names : (a b d e x y z w : ℕ) → a ∷ b ∷ d ∷ e ∷ [] ≡ x ∷ y ∷ z ∷ w ∷ [] → (a ≡ x) × (b ≡ y) × (d ≡ z) × (e ≡ w)
same_names a b d e x y z w same = (cc, cc, cc, cc)

pub ran : (tells : Bool) (words : List (List ℕ)) (script : Option (List ℕ)) (e closed : Ending) (t0 t1 t2 : Option (List ℕ)) (f0 f1 f2 : ℕ) (old new : Outer) → old.found ≡ []
    → RunsFrom (λ line. line ≤ 1048576) old new (λ found made. IfSome (told_world (no_host tells default_limit) old (script_of 1 script)) (λ w. EndsSo e (transcript words found w) made t0 t1))
    → ClosesAs e closed → SinkFaults (Some e) f0 f1 → WroteLast (closing_line closed) t1 t2 f1 f2 → (closing_line closed ≡ [] → (f2 ≡ f1) × (t2 ≡ t1))
    → Ran (told_transcript tells words script old new.found) (status_of closed) (record { taken = t0; faults = f0 }) (record { taken = t2; faults = f2 }) old new
ran tells words script e closed t0 t1 t2 f0 f1 f2 old new empty runs closes_as sink wrote kept =
    let found : new.found ≡ failures runs.made = runs.takes.found ∙ ap (λ es. es ++ failures runs.made) empty in
    let agrees : Agrees new.found runs.made = subst (λ (es : List FoundEntry). Agrees es runs.made) (sym found) (agrees_failures runs.made runs.takes.order) in
    ran_told (told_transcript tells words script old new.found) e closed t0 t1 t2 f0 f1 f2 old new runs.made runs.takes found
    (told_run (told_world (no_host tells default_limit) old (script_of 1 script)) (transcript words new.found) (λ run. EndsSo e run runs.made t0 t1) (runs.said new.found agrees)) closes_as sink wrote kept

-- ---- what a status says of the ending

pub done_is : (e closed : Ending) → ClosesAs e closed → status_of closed ≡ 0 → e ≡ Done
done_is Done closed closes_as none_bad = refl
done_is Usage closed closes_as none_bad = absurd (let same : status_of closed ≡ 2 = ap status_of closes_as in omega (arith, same, none_bad))
done_is ReadFault closed closes_as none_bad = absurd (let same : status_of closed ≡ 4 = ap status_of closes_as in omega (arith, same, none_bad))
done_is WriteFault closed closes_as none_bad = absurd (let same : status_of closed ≡ 5 = ap status_of closes_as in omega (arith, same, none_bad))
done_is NoMemory closed closes_as none_bad = absurd (let same : status_of closed ≡ 12 = ap status_of closes_as in omega (arith, same, none_bad))
done_is (BadLine number at) closed closes_as none_bad =
    absurd (⊎_elim (λ bad. let same : status_of closed ≡ 3 = ap status_of bad in omega (arith, same, none_bad)) (λ none. let same : status_of closed ≡ 12 = ap status_of none in omega (arith, same, none_bad)) closes_as)

pub source_unread : (e closed : Ending) (before now : ℕ) → ClosesAs e closed → status_of closed ≢ 4 → SourceFaults (Some e) before now → now ≡ before
source_unread Done closed before now closes_as other faults = faults
source_unread Usage closed before now closes_as other faults = faults
source_unread ReadFault closed before now closes_as other faults = absurd (other (ap status_of closes_as))
source_unread WriteFault closed before now closes_as other faults = faults
source_unread NoMemory closed before now closes_as other faults = faults
source_unread (BadLine number at) closed before now closes_as other faults = faults

pub sink_untouched : (e closed : Ending) (first before now : ℕ) → ClosesAs e closed → status_of closed ≡ 0 → SinkFaults (Some e) first before → (closing_line closed ≡ [] → now ≡ before) → now ≡ first
sink_untouched e closed first before now closes_as none_bad faults kept =
    let done : e ≡ Done = done_is e closed closes_as none_bad in
    let closed_done : closed ≡ Done = subst (λ (x : Ending). ClosesAs x closed) done closes_as in
    let before_same : before ≡ first = subst (λ (x : Ending). SinkFaults (Some x) first before) done faults in
    kept (ap closing_line closed_done) ∙ before_same

pub completes : (e closed : Ending) (s0 s1 o0 o1 o2 : ℕ) → ClosesAs e closed → SourceFaults (Some e) s0 s1 → SinkFaults (Some e) o0 o1 → o1 ≤ o2 → (Rose s0 s1 → ⊥) → (Rose o0 o2 → ⊥)
    → IsAnswered (status_of closed) ⊎ (status_of closed ≡ 12)
completes Done closed s0 s1 o0 o1 o2 closes_as source sink later read written = inl (inl (ap status_of closes_as))
completes Usage closed s0 s1 o0 o1 o2 closes_as source sink later read written = inl (inr (inl (ap status_of closes_as)))
completes (BadLine number at) closed s0 s1 o0 o1 o2 closes_as source sink later read written = ⊎_elim (λ bad. inl (inr (inr (ap status_of bad)))) (λ none. inr (ap status_of none)) closes_as
completes ReadFault closed s0 s1 o0 o1 o2 closes_as source sink later read written = absurd (read source.1)
completes WriteFault closed s0 s1 o0 o1 o2 closes_as source sink later read written = absurd (written (omega (arith, sink.1, later)))
completes NoMemory closed s0 s1 o0 o1 o2 closes_as source sink later read written = inr (ap status_of closes_as)

pub statuses : (e : Ending) → IsAnswered (status_of e) ⊎ (status_of e ≡ 4) ⊎ (status_of e ≡ 5) ⊎ (status_of e ≡ 12)
statuses Done = inl (inl refl)
statuses Usage = inl (inr (inl refl))
statuses (BadLine number at) = inl (inr (inr refl))
statuses ReadFault = inr (inl refl)
statuses WriteFault = inr (inr (inl refl))
statuses NoMemory = inr (inr (inr refl))
