-- One line of a run, and many.
use Rattle.std.proofs.Common.{◌≡◌, ◌≢◌, ℕ, zero, suc, ◌+◌, ◌<◌, ◌≤◌, nat_lt, Bool, true, false, is_some, List, [], ◌∷◌, ◌++◌, length, take, Option, Some, None, Result, Ok, Err, IfSome, IsSomeAnd, OnOk, OnErr, if◌then◌else◌, refl, ap, sym, ◌∙◌, subst, append_assoc, arith, inl, inr, ⊎_elim}
use Rattle.std.specs.Io.KnownBytes.{Appends}
use Rattle.std.specs.List.{flat_map}
use Rattle.std.specs.Option.{option_map}
use Rattle.std.proofs.lemmas.List.{append-nil}
use Rattle.edge_io.specs.Faults.{HasCause}
use Rattle.edge_io.specs.Lines.{prompt_of}
use Rattle.edge_io.specs.Told.{unread}
use Rattle.edge_io.specs.declared.errors.Failed.{Failed}
use Rattle.encryption_roots.specs.declared.props.Location.{Location}
use Rattle.encryption_roots.specs.declared.props.Location.TheVariants.{Prompt, File}
use Rattle.encryption_roots.specs.declared.command.KeyCmd.{KeyCmd}
use Rattle.encryption_roots.specs.declared.kit.Fetched.{Fetched}
use Rattle.dataset_tree.specs.declared.refusal.Refusal.{Refusal}
use Rattle.key_machine.specs.Step.{refusal_of, wanted}
use Rattle.key_machine.specs.Told.{Wanted}
use Rattle.shell_lines.specs.declared.line.Line.{Line}
use Rattle.shell_lines.specs.Grammar.{line_of}
use Rattle.shell_run.specs.declared.ending.Ending.{Ending}
use Rattle.shell_run.specs.declared.ending.Ending.TheVariants.{Done, Usage, BadLine, ReadFault, WriteFault, NoMemory}
use Rattle.shell_run.specs.declared.ending.Halt.{Halt}
use Rattle.shell_run.specs.declared.ending.Halt.TheVariants as halts
use Rattle.shell_run.specs.declared.found.FoundEntry.{FoundEntry}
use Rattle.shell_run.specs.declared.found.FoundKind.TheVariants.{OldKey, NewKey}
use Rattle.shell_run.specs.Answers.{Acts, HaltsIn, HasAnswer, WhereTold, answer_takings, spot_of}
use Rattle.shell_run.specs.Endings.{ending_of, status_of}
use Rattle.host_state.specs.Hosts.{HostState, no_host}
use Rattle.shell_run.specs.Outer.{Outer}
use Rattle.shell_run.specs.Progress.{Goes as GoesOn, Taken, Ends as EndsSo, TookCut, GoesPast, NoLine, IsNextLine, NoneTaken, HasReplied, HasCut, Replied, LineRan, RunsFrom}
use Rattle.shell_run.specs.Ran.{IsAnswered, IsFront, IsCut, Came, WroteLast}
use Rattle.shell_run.specs.Script.{Script, ToldScript, Given, Gives, Stops, prompted, prompted_by, prompted_before, past_line, script_of, script_told}
use Rattle.shell_run.specs.Takings.{Taking, has_entry, entries_of, fills_of}
use Rattle.shell_run.specs.Texts.{bad_line}
use Rattle.shell_run.specs.declared.task.Report.{Report}
use Rattle.shell_run.specs.Jobs.{Job, job_of, on_clone, on_destroy, on_files, on_keys, on_snapshot}
use Rattle.shell_run.specs.Transcript.{World, world_of, told_world, Spot, taking_at, at_prompt, material_at, Supply, Has, Lacks, with_new, with_old, kit_of, Commanded, Outcome, Does, Halts, supplied, unless_refused, commanded, Run, Turn, Answer, Goes, Ends, Performed, begun, with_done, unless_halted, performed, preceded, replies_of, made_in, goes_on, checked, answer_to, answer_of, answer_if, run_over, run_before, run_within, run_from, run_under, transcript}
use Rattle.shell_run.specs.Words.{default_limit, limit_of}
use Rattle.shell_run.proofs.CommandLemmas.{acts_told, front_nil, told_each, told_of}
use Rattle.shell_run.proofs.KitLemmas.{told_at}
use Rattle.shell_run.proofs.ScriptLemmas.{limit_bad, limit_within}
use Rattle.shell_run.proofs.TakingLemmas.{agrees_own, all_first, all_second, takes_none, takes_more, takes_weaker}
use Rattle.shell_run.proofs.WritingLemmas.{append_nil, Appends-nil, Appends-append, Took-after, Took-from_Appends}

-- ---- writing the closing line

pub closes : (r : Result (Unit {0}) Failed) (line : List ℕ) (t0 t1 : Option (List ℕ)) (before now : ℕ) → OnOk r (Appends t0 t1 line) → OnErr r (TookCut line t0 t1) → HasCause before now r → WroteLast line t0 t1 before now
closes (Ok done) line t0 t1 before now written part cause = record { part = line; taken = Took-from_Appends t0 t1 line written; closed = inl (refl, cause.kept) }
closes (Err failed) line t0 t1 before now written part cause = record { part = part.part; taken = part.taken; closed = inr (part.is_cut, cause.failed) }

-- ---- answering a line

has_replied : (answer : Answer) (new : Option World) (reply : List ℕ) (t0 t1 : Option (List ℕ)) (made : List Taking) → HasAnswer (Ok tt) answer new [] reply made → Appends t0 t1 reply → HasReplied answer new t0 t1 made
has_replied (Goes turn) new reply t0 t1 made said written = (said.0, subst (λ (bytes : List ℕ). Appends t0 t1 bytes) said.1 written, said.2)
has_replied (Ends number at w takings) new reply t0 t1 made said written = absurd said

has_cut : (answer : Answer) (new : Option World) (reply : List ℕ) (t0 t1 : Option (List ℕ)) (made : List Taking) → HasAnswer (Ok tt) answer new [] reply made → TookCut reply t0 t1 → HasCut answer t0 t1 made
has_cut (Goes turn) new reply t0 t1 made said part = (subst (λ (bytes : List ℕ). TookCut bytes t0 t1) said.1 part, said.2)
has_cut (Ends number at w takings) new reply t0 t1 made said part = absurd said

pub replied_all : (n : ℕ) (a b : Outer) (world new : Option World) (answer : List FoundEntry → World → Answer) (reply : List ℕ) (t0 t1 : Option (List ℕ)) → Appends t0 t1 reply
    → Acts n a b (λ made. WhereTold world made (λ entries w. HasAnswer (Ok tt) (answer entries w) new [] reply made))
    → Acts n a b (λ made. WhereTold world made (λ entries w. Replied None (answer entries w) new t0 t1 made))
replied_all n a b world new answer reply t0 t1 written =
    acts_told n a b world (λ entries w made. HasAnswer (Ok tt) (answer entries w) new [] reply made) (λ entries w made. Replied None (answer entries w) new t0 t1 made)
    (λ entries w made said. has_replied (answer entries w) new reply t0 t1 made said written)

pub replied_cut : (n : ℕ) (a b : Outer) (world new : Option World) (answer : List FoundEntry → World → Answer) (reply : List ℕ) (t0 t1 : Option (List ℕ)) → TookCut reply t0 t1
    → Acts n a b (λ made. WhereTold world made (λ entries w. HasAnswer (Ok tt) (answer entries w) new [] reply made))
    → Acts n a b (λ made. WhereTold world made (λ entries w. Replied (Some WriteFault) (answer entries w) new t0 t1 made))
replied_cut n a b world new answer reply t0 t1 part =
    acts_told n a b world (λ entries w made. HasAnswer (Ok tt) (answer entries w) new [] reply made) (λ entries w made. Replied (Some WriteFault) (answer entries w) new t0 t1 made)
    (λ entries w made said. has_cut (answer entries w) new reply t0 t1 made said part)

halts_so : (halt : Halt) (answer : Answer) (new : Option World) (t : Option (List ℕ)) (made : List Taking) → HaltsIn halt answer made → Replied (Some (ending_of halt)) answer new t t made
halts_so (halts.BadLine number at) answer new t made said = (refl, said)
halts_so halts.ReadFault answer new t made said = (refl, said)
halts_so halts.NoMemory answer new t made said = (refl, said)

pub replied_halt : (n : ℕ) (a b : Outer) (world new : Option World) (answer : List FoundEntry → World → Answer) (halt : Halt) (before after : List ℕ) (t : Option (List ℕ))
    → Acts n a b (λ made. WhereTold world made (λ entries w. HasAnswer (Err halt) (answer entries w) new before after made))
    → Acts n a b (λ made. WhereTold world made (λ entries w. Replied (Some (ending_of halt)) (answer entries w) new t t made))
replied_halt n a b world new answer halt before after t =
    acts_told n a b world (λ entries w made. HasAnswer (Err halt) (answer entries w) new before after made) (λ entries w made. Replied (Some (ending_of halt)) (answer entries w) new t t made)
    (λ entries w made said. halts_so halt (answer entries w) new t made said)

-- ---- turns, one after another

pub flat_map_both : {A B : Type 0} (f : A → List B) (xs ys : List A) → flat_map f (xs ++ ys) ≡ flat_map f xs ++ flat_map f ys
flat_map_both f [] ys = refl
flat_map_both f (x ∷ xs) ys = ap (λ zs. f x ++ zs) (flat_map_both f xs ys) ∙ sym (append_assoc (f x) (flat_map f xs) (flat_map f ys))

replies_both : (xs ys : List Turn) → replies_of (xs ++ ys) ≡ replies_of xs ++ replies_of ys
replies_both xs ys = flat_map_both (λ turn. turn.output) xs ys

made_both : (xs ys : List Turn) → made_in (xs ++ ys) ≡ made_in xs ++ made_in ys
made_both xs ys = flat_map_both (λ turn. turn.takings) xs ys

goes_none : (run : Run) (t : Option (List ℕ)) → GoesOn run run [] t t
goes_none run t = record { turns = []; goes_on = refl; taken = Appends-nil t; made_is = refl }

preceded_both : (xs ys : List Turn) (run : Run) → preceded xs (preceded ys run) ≡ preceded (xs ++ ys) run
preceded_both xs ys run = ap (λ turns. let r : Run = record { turns = turns; status = run.status; last = run.last } in r) (sym (append_assoc xs ys run.turns))

goes_more : (a b c : Run) (xs ys : List Taking) (t0 t1 t2 : Option (List ℕ)) → GoesOn a b xs t0 t1 → GoesOn b c ys t1 t2 → GoesOn a c (xs ++ ys) t0 t2
goes_more a b c xs ys t0 t1 t2 p q = record {
  turns = p.turns ++ q.turns;
  goes_on = p.goes_on ∙ ap (preceded p.turns) q.goes_on ∙ preceded_both p.turns q.turns c;
  taken = subst (λ (bytes : List ℕ). Appends t0 t2 bytes) (sym (replies_both p.turns q.turns)) (Appends-append t0 t1 t2 (replies_of p.turns) (replies_of q.turns) p.taken q.taken);
  made_is = ap (λ zs. zs ++ ys) p.made_is ∙ ap (λ zs. made_in p.turns ++ zs) q.made_is ∙ sym (made_both p.turns q.turns);
}

-- ---- how far a run came

came_preceded : (front : List Turn) (b : Run) (status : ℕ) (replies : List ℕ) (made : List Taking) → Came b status replies made → Came (preceded front b) status (replies_of front ++ replies) (made_in front ++ made)
came_preceded front b status replies made c = record {
  turns = front ++ c.turns;
  later = c.later;
  whole = ap (λ zs. front ++ zs) c.whole ∙ sym (append_assoc front c.turns c.later);
  answered = c.answered;
  replied = λ other. ap (λ zs. replies_of front ++ zs) (c.replied other) ∙ sym (replies_both front c.turns);
  taken = λ fault other memory. ap (λ zs. made_in front ++ zs) (c.taken fault other memory) ∙ sym (made_both front c.turns);
  cut = λ five.
      let there = c.cut five in (
        there.0,
        ap (λ zs. replies_of front ++ zs) there.1 ∙ sym (append_assoc (replies_of front) (replies_of c.turns) there.0) ∙ ap (λ zs. zs ++ there.0) (sym (replies_both front c.turns)),
        there.2,
        ap (λ zs. made_in front ++ zs) there.3 ∙ sym (made_both front (c.turns ++ take 1 c.later)) ∙ ap made_in (sym (append_assoc front c.turns (take 1 c.later))),
      );
  unread = λ four.
      let there = c.unread four in (
        there.0,
        ap (λ zs. made_in front ++ zs) there.1 ∙ sym (append_assoc (made_in front) (made_in c.turns) there.0) ∙ ap (λ zs. zs ++ there.0) (sym (made_both front c.turns)),
        there.2,
        there.3,
      );
  stopped = λ twelve.
      let there = c.stopped twelve in (
        there.0,
        ap (λ zs. made_in front ++ zs) there.1 ∙ sym (append_assoc (made_in front) (made_in c.turns) there.0) ∙ ap (λ zs. zs ++ there.0) (sym (made_both front c.turns)),
        there.2,
      );
}

taken_more : (e : Ending) (t0 t1 t2 : Option (List ℕ)) (xs ys : List ℕ) → Appends t0 t1 xs → Taken e t1 t2 ys → Taken e t0 t2 (xs ++ ys)
taken_more WriteFault t0 t1 t2 xs ys p q = Took-after t0 t1 t2 xs ys p q
taken_more Done t0 t1 t2 xs ys p q = Appends-append t0 t1 t2 xs ys p q
taken_more Usage t0 t1 t2 xs ys p q = Appends-append t0 t1 t2 xs ys p q
taken_more ReadFault t0 t1 t2 xs ys p q = Appends-append t0 t1 t2 xs ys p q
taken_more NoMemory t0 t1 t2 xs ys p q = Appends-append t0 t1 t2 xs ys p q
taken_more (BadLine number at) t0 t1 t2 xs ys p q = Appends-append t0 t1 t2 xs ys p q

ends_preceded : (e : Ending) (front : List Turn) (b : Run) (ys : List Taking) (t0 t1 t2 : Option (List ℕ)) → Appends t0 t1 (replies_of front) → EndsSo e b ys t1 t2 → EndsSo e (preceded front b) (made_in front ++ ys) t0 t2
ends_preceded e front b ys t0 t1 t2 taken q = record {
  replies = replies_of front ++ q.replies;
  taken = taken_more e t0 t1 t2 (replies_of front) q.replies taken q.taken;
  came = came_preceded front b (status_of e) q.replies ys q.came;
  last = q.last;
}

goes_ends : (e : Ending) (a b : Run) (xs ys : List Taking) (t0 t1 t2 : Option (List ℕ)) → GoesOn a b xs t0 t1 → EndsSo e b ys t1 t2 → EndsSo e a (xs ++ ys) t0 t2
goes_ends e a b xs ys t0 t1 t2 p q =
    let whole : EndsSo e (preceded p.turns b) (made_in p.turns ++ ys) t0 t2 = ends_preceded e p.turns b ys t0 t1 t2 p.taken q in
    subst (λ (r : Run). EndsSo e r (xs ++ ys) t0 t2) (sym p.goes_on) (subst (λ (zs : List Taking). EndsSo e (preceded p.turns b) (zs ++ ys) t0 t2) (sym p.made_is) whole)

pub unanswered : (status : ℕ) → 4 ≤ status → IsAnswered status → ⊥
unanswered status high answered = ⊎_elim (λ e. omega (arith, e, high)) (λ other. ⊎_elim (λ e. omega (arith, e, high)) (λ e. omega (arith, e, high)) other) answered

-- a run that is over, with these turns
came_all : (run : Run) (status : ℕ) → status < 4 → run.status ≡ status → Came run status (replies_of run.turns) (made_in run.turns)
came_all run status low same = record {
  turns = run.turns;
  later = [];
  whole = sym (append-nil run.turns);
  answered = λ answered. (same, refl);
  replied = λ other. refl;
  taken = λ fault other memory. refl;
  cut = λ five. absurd (omega (arith, five, low));
  unread = λ four. absurd (omega (arith, four, low));
  stopped = λ twelve. absurd (omega (arith, twelve, low));
}

-- a run that has done nothing, of which more was to come
came_none : (run : Run) (status : ℕ) → 4 ≤ status → status ≢ 5 → Came run status [] []
came_none run status high other = record {
  turns = [];
  later = run.turns;
  whole = refl;
  answered = λ answered. absurd (unanswered status high answered);
  replied = λ same. refl;
  taken = λ fault same memory. refl;
  cut = λ five. absurd (other five);
  unread = λ four. ([], refl, front_nil (made_in (take 1 run.turns)), refl);
  stopped = λ twelve. ([], refl, front_nil (made_in (take 1 run.turns)));
}

pub read_fault_ends : (run : Run) (t : Option (List ℕ)) → EndsSo ReadFault run [] t t
read_fault_ends run t = record {
  replies = [];
  taken = Appends-nil t;
  came = came_none run 4 (omega arith) (λ same. absurd (omega (arith, same)));
  last = λ answered. absurd (unanswered 4 (omega arith) answered);
}

pub no_memory_ends : (run : Run) (t : Option (List ℕ)) → EndsSo NoMemory run [] t t
no_memory_ends run t = record {
  replies = [];
  taken = Appends-nil t;
  came = came_none run 12 (omega arith) (λ same. absurd (omega (arith, same)));
  last = λ answered. absurd (unanswered 12 (omega arith) answered);
}

-- ---- what is left of a script

-- what a command takes leaves no more lines than it found
abbrev GivenWithin : {A : Type 0} → ℕ → Given A → Type 0
GivenWithin k (Gives given left) = length left.ahead ≤ k
GivenWithin k (Stops number at) = Unit {0}

abbrev SupplyWithin : ℕ → Supply → Type 0
SupplyWithin k (Has kit left takings) = length left.ahead ≤ k
SupplyWithin k (Lacks number at takings) = Unit {0}

abbrev OutcomeWithin : ℕ → Outcome → Type 0
OutcomeWithin k (Does done) = length done.world.script.ahead ≤ k
OutcomeWithin k (Halts number at w takings) = Unit {0}

abbrev AnswerWithin : ℕ → Answer → Type 0
AnswerWithin k (Goes turn) = length turn.world.script.ahead ≤ k
AnswerWithin k (Ends number at w takings) = Unit {0}

limits_within : (k : ℕ) (b c : Bool) (number : ℕ) (given : Given (List ℕ)) → GivenWithin k given → GivenWithin k (if b then Stops number 0 else if c then Stops number 65536 else given)
limits_within k true c number given within = tt
limits_within k false true number given within = tt
limits_within k false false number given within = within

prompted_within_of : (k : ℕ) (script : Script) (ahead : List (List ℕ)) → length script.ahead ≤ k → length ahead ≤ k → GivenWithin k (prompted_before script ahead)
prompted_within_of k script [] all within = all
prompted_within_of k script (line ∷ later) all within = by_line (prompt_of line) where
  by_line : (material : Option (List ℕ)) → GivenWithin k (prompted_by script line later material)
  by_line None = all
  by_line (Some material) = limits_within k (nat_lt 1048576 script.next) (nat_lt 65536 (length line)) script.next (Gives material (past_line script later)) (omega (arith, within))

at_prompt_within : (k : ℕ) (given : Given (List ℕ)) → GivenWithin k given → GivenWithin k (at_prompt given)
at_prompt_within k (Gives material left) within = within
at_prompt_within k (Stops number at) within = tt

material_within : (taking : Taking) (files : List (List ℕ × List ℕ)) (script : Script) (place : Option Location) → GivenWithin (length script.ahead) (material_at taking files script place)
material_within taking files script None = omega arith
material_within taking files script (Some Prompt) = at_prompt_within (length script.ahead) (prompted script) (prompted_within_of (length script.ahead) script script.ahead (omega arith) (omega arith))
material_within taking files script (Some (File path)) = omega arith

new_within : (k : ℕ) (spot : Spot) (left : List ℕ) (wants : Wanted) (old : Fetched) (given : Given Fetched) → GivenWithin k given → SupplyWithin k (with_new spot left wants old given)
new_within k spot left wants old (Gives new script) within = within
new_within k spot left wants old (Stops number at) within = tt

given_below : (k m : ℕ) (given : Given Fetched) → m ≤ k → GivenWithin m given → GivenWithin k given
given_below k m (Gives given left) below within = omega (arith, below, within)
given_below k m (Stops number at) below within = tt

old_within : (k : ℕ) (spot : Spot) (files : List (List ℕ × List ℕ)) (left : List ℕ) (wants : Wanted) (given : Given Fetched) → GivenWithin k given → SupplyWithin k (with_old spot files left wants given)
old_within k spot files left wants (Stops number at) within = tt
old_within k spot files left wants (Gives old script) within =
    new_within k spot left wants old (material_at (taking_at spot NewKey) files script wants.new_place)
    (given_below k (length script.ahead) (material_at (taking_at spot NewKey) files script wants.new_place) within (material_within (taking_at spot NewKey) files script wants.new_place))

supplied_within : (k : ℕ) (w : World) (command : KeyCmd) (supply : Supply) → SupplyWithin k supply → OutcomeWithin k (supplied w command supply)
supplied_within k w command (Has kit left takings) within = within
supplied_within k w command (Lacks number at takings) within = tt

commanded_within : (spot : Spot) (w : World) (command : KeyCmd) (refusal : Option Refusal) → OutcomeWithin (length w.script.ahead) (unless_refused spot w command refusal)
commanded_within spot w command (Some why) = omega arith
commanded_within spot w command None =
    supplied_within (length w.script.ahead) w command (kit_of spot w.files w.entropy w.script (wanted w.present.keys command))
    (old_within (length w.script.ahead) spot w.files w.entropy (wanted w.present.keys command) (material_at (taking_at spot OldKey) w.files w.script (wanted w.present.keys command).old_place)
    (material_within (taking_at spot OldKey) w.files w.script (wanted w.present.keys command).old_place))

outcome_below : (k m : ℕ) (outcome : Outcome) → m ≤ k → OutcomeWithin m outcome → OutcomeWithin k outcome
outcome_below k m (Does done) below within = omega (arith, below, within)
outcome_below k m (Halts number at w takings) below within = tt

unless_halted_within : (k : ℕ) (before : Performed) (outcome : Outcome) (rest : Commanded → Answer) → OutcomeWithin k outcome → ((done : Commanded) → length done.world.script.ahead ≤ k → AnswerWithin k (rest done))
    → AnswerWithin k (unless_halted before outcome rest)
unless_halted_within k before (Does done) rest within later = later done within
unless_halted_within k before (Halts number at w takings) rest within later = tt

performed_within : (n k : ℕ) (entries : List FoundEntry) (report : Report) (before : Performed) (commands : List KeyCmd) → length before.turn.world.script.ahead ≤ k → AnswerWithin k (performed n entries report before commands)
performed_within n k entries report before [] within = within
performed_within n k entries report before (command ∷ later) within =
    unless_halted_within k before (commanded (spot_of n before.tried entries) before.turn.world command) (λ done. performed n entries report (with_done n report command before done) later)
    (outcome_below k (length before.turn.world.script.ahead) (commanded (spot_of n before.tried entries) before.turn.world command) within
    (commanded_within (spot_of n before.tried entries) before.turn.world command (refusal_of before.turn.world.present.keys command)))
    (λ done fits. performed_within n k entries report (with_done n report command before done) later fits)

job_within : (n : ℕ) (entries : List FoundEntry) (w : World) (job : Job) → AnswerWithin (length w.script.ahead) (answer_to n entries w job)
job_within n entries w (on_keys asked) = performed_within n (length w.script.ahead) entries asked.report (begun w) asked.commands (omega arith)
job_within n entries w (on_files command) = omega arith
job_within n entries w (on_snapshot name) = omega arith
job_within n entries w (on_clone from name) = omega arith
job_within n entries w (on_destroy spot) = omega arith

line_within : (n : ℕ) (entries : List FoundEntry) (w : World) (line : Line) → AnswerWithin (length w.script.ahead) (answer_of n entries w line)
line_within n entries w line = job_within n entries w (job_of w.present.keys line)

answer_within : (n : ℕ) (entries : List FoundEntry) (w : World) (outcome : Result Line ℕ) → AnswerWithin (length w.script.ahead) (answer_if n entries w outcome)
answer_within n entries w (Ok line) = line_within n entries w line
answer_within n entries w (Err at) = tt

goes_same : (k : ℕ) (answer : Answer) (one other : Turn → Run) → AnswerWithin k answer → ((turn : Turn) → length turn.world.script.ahead ≤ k → one turn ≡ other turn) → goes_on answer one ≡ goes_on answer other
goes_same k (Goes turn) one other within same = ap (preceded (turn ∷ [])) (same turn within)
goes_same k (Ends number at w takings) one other within same = refl

none_ahead : (found : List FoundEntry) (w : World) (ahead : List (List ℕ)) (rest : Turn → Run) → length ahead ≤ 0 → run_before found w ahead rest ≡ run_over
none_ahead found w [] rest none = refl
none_ahead found w (bytes ∷ later) rest none = absurd (omega (arith, none))

before_same : (k : ℕ) (found : List FoundEntry) (w : World) (ahead : List (List ℕ)) (one other : Turn → Run) → length ahead ≤ suc k → ((turn : Turn) → length turn.world.script.ahead ≤ k → one turn ≡ other turn)
    → run_before found w ahead one ≡ run_before found w ahead other
before_same k found w [] one other within same = refl
before_same k found w (bytes ∷ later) one other within same =
    let here : World = record w { script = past_line w.script later } in
    goes_same (length later) (answer_if w.script.next (entries_of w.script.next found) here (checked w.script.next bytes)) one other
    (answer_within w.script.next (entries_of w.script.next found) here (checked w.script.next bytes)) (λ turn fits. same turn (omega (arith, within, fits)))

-- any bound that suffices leads to the same run
same_bound : (b c : ℕ) (found : List FoundEntry) (w : World) → length w.script.ahead ≤ b → b ≤ c → run_within b found w ≡ run_within c found w
same_bound zero zero found w within more = refl
same_bound zero (suc c) found w within more = sym (none_ahead found w w.script.ahead (λ turn. run_within c found turn.world) within)
same_bound (suc b) zero found w within more = absurd (omega (arith, more))
same_bound (suc b) (suc c) found w within more =
    before_same b found w w.script.ahead (λ turn. run_within b found turn.world) (λ turn. run_within c found turn.world) within (λ turn fits. same_bound b c found turn.world fits (omega (arith, more)))

-- ---- from a line to the rest of the run

one_line_goes : (k : ℕ) (found : List FoundEntry) (answer : Answer) (new : Option World) (t0 t1 : Option (List ℕ)) (made : List Taking) → AnswerWithin k answer → HasReplied answer new t0 t1 made
    → IsSomeAnd new (λ v. GoesOn (goes_on answer (λ turn. run_within k found turn.world)) (run_from found v) made t0 t1)
one_line_goes k found (Goes turn) None t0 t1 made within replied = absurd (let none : None ≡ Some turn.world = replied.0 in cc)
one_line_goes k found (Goes turn) (Some v) t0 t1 made within replied =
    let there : Some v ≡ Some turn.world = replied.0 in
    let world : turn.world ≡ v = cc in
    record {
      turns = turn ∷ [];
      goes_on = ap (preceded (turn ∷ [])) (sym (same_bound (length turn.world.script.ahead) k found turn.world (omega arith) within) ∙ ap (run_from found) world);
      taken = subst (λ (bytes : List ℕ). Appends t0 t1 bytes) (append_nil turn.output) replied.1;
      made_is = replied.2 ∙ sym (append-nil turn.takings);
    }
one_line_goes k found (Ends number at w takings) new t0 t1 made within replied = absurd replied

cut_ends : (answer : Answer) (rest : Turn → Run) (t0 t1 : Option (List ℕ)) (made : List Taking) → HasCut answer t0 t1 made → EndsSo WriteFault (goes_on answer rest) made t0 t1
cut_ends (Goes turn) rest t0 t1 made cut = record {
  replies = cut.0.part;
  taken = cut.0.taken;
  came = record {
    turns = [];
    later = turn ∷ (rest turn).turns;
    whole = refl;
    answered = λ answered. absurd (unanswered 5 (omega arith) answered);
    replied = λ other. absurd (other refl);
    taken = λ fault other memory. absurd (other refl);
    cut = λ five. (cut.0.part, refl, subst (λ (bytes : List ℕ). IsCut cut.0.part bytes) (append_nil turn.output) cut.0.is_cut, cut.1 ∙ sym (append-nil turn.takings));
    unread = λ four. absurd (omega (arith, four));
    stopped = λ twelve. absurd (omega (arith, twelve));
  };
  last = λ answered. absurd (unanswered 5 (omega arith) answered);
}
cut_ends (Ends number at w takings) rest t0 t1 made cut = absurd cut

next_takings : (answer : Answer) (rest : Turn → Run) (made : List Taking) → IsFront made (answer_takings answer) → IsFront made (made_in (take 1 (goes_on answer rest).turns))
next_takings (Goes turn) rest made front = subst (λ (zs : List Taking). IsFront made zs) (sym (append-nil turn.takings)) front
next_takings (Ends number at w takings) rest made front = subst (λ (zs : List Taking). IsFront made zs) (sym (append-nil takings)) front

stopped_ends : (answer : Answer) (rest : Turn → Run) (t : Option (List ℕ)) (made : List Taking) → IsFront made (answer_takings answer) → EndsSo NoMemory (goes_on answer rest) made t t
stopped_ends answer rest t made front = record {
  replies = [];
  taken = Appends-nil t;
  came = record {
    turns = [];
    later = (goes_on answer rest).turns;
    whole = refl;
    answered = λ answered. absurd (unanswered 12 (omega arith) answered);
    replied = λ other. refl;
    taken = λ fault other memory. absurd (memory refl);
    cut = λ five. absurd (omega (arith, five));
    unread = λ four. absurd (omega (arith, four));
    stopped = λ twelve. (made, refl, next_takings answer rest made front);
  };
  last = λ answered. absurd (unanswered 12 (omega arith) answered);
}

unread_ends : (answer : Answer) (rest : Turn → Run) (t : Option (List ℕ)) (made : List Taking) → IsFront made (answer_takings answer) → fills_of made ≡ [] → EndsSo ReadFault (goes_on answer rest) made t t
unread_ends answer rest t made front none = record {
  replies = [];
  taken = Appends-nil t;
  came = record {
    turns = [];
    later = (goes_on answer rest).turns;
    whole = refl;
    answered = λ answered. absurd (unanswered 4 (omega arith) answered);
    replied = λ other. refl;
    taken = λ fault other memory. absurd (fault refl);
    cut = λ five. absurd (omega (arith, five));
    unread = λ four. (made, refl, next_takings answer rest made front, none);
    stopped = λ twelve. absurd (omega (arith, twelve));
  };
  last = λ answered. absurd (unanswered 4 (omega arith) answered);
}

bad_ends : (answer : Answer) (rest : Turn → Run) (number at : ℕ) (t : Option (List ℕ)) (made : List Taking) → HaltsIn (halts.BadLine number at) answer made → EndsSo (BadLine number at) (goes_on answer rest) made t t
bad_ends (Goes turn) rest number at t made said = absurd said
bad_ends (Ends m place w takings) rest number at t made said =
    let run : Run = goes_on (Ends m place w takings) rest in
    record {
      replies = [];
      taken = Appends-nil t;
      came = subst (λ (zs : List Taking). Came run 3 [] zs) (append-nil takings ∙ sym said.2) (came_all run 3 (omega arith) refl);
      last = λ answered. ap (λ k. bad_line k place) said.0 ∙ ap (λ k. bad_line number k) said.1;
    }

one_line_ends : (e : Ending) (answer : Answer) (rest : Turn → Run) (new : Option World) (t0 t1 : Option (List ℕ)) (made : List Taking) → Replied (Some e) answer new t0 t1 made → EndsSo e (goes_on answer rest) made t0 t1
one_line_ends Done answer rest new t0 t1 made replied = absurd replied
one_line_ends Usage answer rest new t0 t1 made replied = absurd replied
one_line_ends WriteFault answer rest new t0 t1 made replied = cut_ends answer rest t0 t1 made replied
one_line_ends ReadFault answer rest new t0 t1 made replied =
    subst (λ (t : Option (List ℕ)). EndsSo ReadFault (goes_on answer rest) made t0 t) (sym replied.0) (unread_ends answer rest t0 made replied.1.0 replied.1.1)
one_line_ends NoMemory answer rest new t0 t1 made replied =
    subst (λ (t : Option (List ℕ)). EndsSo NoMemory (goes_on answer rest) made t0 t) (sym replied.0) (stopped_ends answer rest t0 made replied.1)
one_line_ends (BadLine number at) answer rest new t0 t1 made replied =
    subst (λ (t : Option (List ℕ)). EndsSo (BadLine number at) (goes_on answer rest) made t0 t) (sym replied.0) (bad_ends answer rest number at t0 made replied.1)

-- ---- the next line

abbrev with_lines : ℕ → List (List ℕ) → Script
with_lines next ahead = record { next = next; ahead = ahead }

-- a script that is told, by its lines
told_lines : (told : ToldScript) (script : Script) → script_told told ≡ Some script → (told.ahead ≡ Some script.ahead) × (script ≡ with_lines told.next script.ahead)
told_lines told script is = by_ahead told.ahead is where
  by_ahead : (ahead : Option (List (List ℕ))) → option_map (with_lines told.next) ahead ≡ Some script → (ahead ≡ Some script.ahead) × (script ≡ with_lines told.next script.ahead)
  by_ahead None same = absurd (cc)
  by_ahead (Some lines) same =
      let is : with_lines told.next lines ≡ script = cc in
      (ap (λ (s : Script). Some s.ahead) is, sym is ∙ ap (λ (s : Script). with_lines told.next s.ahead) is)

taken_of : (line : List ℕ) (ahead : List (List ℕ)) (next : ℕ) (after : ToldScript) → IsSomeAnd after.ahead (λ later. ahead ≡ line ∷ later) → after.next ≡ next
    → (later : List (List ℕ)) × (ahead ≡ line ∷ later) × (script_told after ≡ Some (with_lines next later))
taken_of line ahead next after taken same = by_after after.ahead taken where
  by_after : (left : Option (List (List ℕ))) → IsSomeAnd left (λ later. ahead ≡ line ∷ later) → (later : List (List ℕ)) × (ahead ≡ line ∷ later) × (option_map (with_lines after.next) left ≡ Some (with_lines next later))
  by_after None taken = absurd taken
  by_after (Some later) taken = (later, taken, ap (λ k. Some (with_lines k later)) same)

-- the run from a line on, by the line's answer
run_is : (found : List FoundEntry) (p : HostState) (files : List (List ℕ × List ℕ)) (left : List ℕ) (n : ℕ) (line : List ℕ) (later : List (List ℕ)) (outcome : Result Line ℕ) → checked n line ≡ outcome
    → run_from found (world_of p files left (with_lines n (line ∷ later)))
    ≡ goes_on (answer_if n (entries_of n found) (world_of p files left (with_lines (n + 1) later)) outcome) (λ turn. run_within (length later) found turn.world)
run_is found p files left n line later outcome is =
    ap (λ (o : Result Line ℕ). goes_on (answer_if n (entries_of n found) (world_of p files left (with_lines (n + 1) later)) o) (λ turn. run_within (length later) found turn.world)) is

line_ran_as : (r : Option Ending) (found : List FoundEntry) (w : World) (answer : Answer) (k : ℕ) (new : Option World) (t0 t1 : Option (List ℕ)) (made : List Taking) → AnswerWithin k answer
    → run_from found w ≡ goes_on answer (λ turn. run_within k found turn.world) → Replied r answer new t0 t1 made → LineRan r found w new t0 t1 made
line_ran_as None found w answer k None t0 t1 made within is replied = one_line_goes k found answer None t0 t1 made within replied
line_ran_as None found w answer k (Some v) t0 t1 made within is replied =
    subst (λ (run : Run). GoesOn run (run_from found v) made t0 t1) (sym is) (one_line_goes k found answer (Some v) t0 t1 made within replied)
line_ran_as (Some e) found w answer k new t0 t1 made within is replied =
    subst (λ (run : Run). EndsSo e run made t0 t1) (sym is) (one_line_ends e answer (λ turn. run_within k found turn.world) new t0 t1 made replied)

-- a line of this number, which a script may have
abbrev pub Here : ℕ → ℕ → Type 0
Here n line = (line ≡ n) × (line ≤ 1048576)

pub line_ran : (p : HostState) (a b : Outer) (before after : ToldScript) (line : List ℕ) (r : Option Ending) (new : Option World) (t0 t1 : Option (List ℕ)) → IsNextLine line before after
    → Acts before.next a b (λ made. WhereTold (told_world p a after) made (λ entries w. Replied r (answer_if before.next entries w (line_of line 0)) new t0 t1 made))
    → RunsFrom (Here before.next) a b (λ found made. IfSome (told_world p a before) (λ w. LineRan r found w new t0 t1 made))
line_ran p a b before after line r new t0 t1 is acts = record {
  made = acts.made;
  takes = takes_weaker (λ m. m ≡ before.next) (Here before.next) acts.made a b (λ m same. (same, omega (arith, same, is.few))) acts.takes;
  said = λ found agrees. told_each p a before (λ w. LineRan r found w new t0 t1 acts.made) (λ files left script tells f e s.
      let n : ℕ = before.next in
      let lines = told_lines before script s in
      let there = taken_of line script.ahead (n + 1) after (told_at before.ahead script.ahead (λ ahead. IsSomeAnd after.ahead (λ later. ahead ≡ line ∷ later)) lines.0 is.taken) is.next in
      let later : List (List ℕ) = there.0 in
      let here : World = world_of p files left (with_lines (n + 1) later) in
      let whole : script ≡ with_lines n (line ∷ later) = lines.1 ∙ ap (with_lines n) there.1 in
      let replied : Replied r (answer_if n (entries_of n found) here (line_of line 0)) new t0 t1 acts.made =
      told_at (told_world p a after) here (λ w. Replied r (answer_if n (entries_of n found) w (line_of line 0)) new t0 t1 acts.made) (told_of p a after files left (with_lines (n + 1) later) tells f e there.2)
      (acts.said (entries_of n found) (agrees_own n found acts.made acts.takes.lines agrees)) in
      line_ran_as r found (world_of p files left script) (answer_if n (entries_of n found) here (line_of line 0)) (length later) new t0 t1 acts.made
      (answer_within n (entries_of n found) here (line_of line 0))
      (ap (λ (x : Script). run_from found (world_of p files left x)) whole ∙ run_is found p files left n line later (line_of line 0) (limit_within n line (λ at. Err at) (line_of line 0) is.few is.short)) replied);
}

-- where no line is taken the run ends

run_over_ends : (t : Option (List ℕ)) → EndsSo Done run_over [] t t
run_over_ends t = record { replies = []; taken = Appends-nil t; came = came_all run_over 0 (omega arith) refl; last = λ answered. refl }

no_line_ends : (e : Ending) (p : HostState) (files : List (List ℕ × List ℕ)) (left : List ℕ) (n : ℕ) (ahead : List (List ℕ)) (after : ToldScript) (found : List FoundEntry) (t : Option (List ℕ)) → NoLine e n ahead after.ahead
    → EndsSo e (run_from found (world_of p files left (with_lines n ahead))) [] t t
no_line_ends Done p files left n ahead after found t none =
    subst (λ (ls : List (List ℕ)). EndsSo Done (run_from found (world_of p files left (with_lines n ls))) [] t t) (sym none.0) (run_over_ends t)
no_line_ends (BadLine number at) p files left n ahead after found t none =
    let line : List ℕ = none.1 in
    let later : List (List ℕ) = none.2 in
    let here : World = world_of p files left (with_lines (n + 1) later) in
    subst (λ (ls : List (List ℕ)). EndsSo (BadLine number at) (run_from found (world_of p files left (with_lines n ls))) [] t t) (sym none.3)
    (subst (λ (run : Run). EndsSo (BadLine number at) run [] t t) (sym (run_is found p files left n line later (Err at) (limit_bad n line at (λ place. Err place) (line_of line 0) none.4)))
    (bad_ends (Ends n at here []) (λ turn. run_within (length later) found turn.world) number at t [] (sym none.0, refl, refl)))
no_line_ends ReadFault p files left n ahead after found t none = read_fault_ends (run_from found (world_of p files left (with_lines n ahead))) t
no_line_ends NoMemory p files left n ahead after found t none = no_memory_ends (run_from found (world_of p files left (with_lines n ahead))) t
no_line_ends Usage p files left n ahead after found t none = absurd none
no_line_ends WriteFault p files left n ahead after found t none = absurd none

none_taken : (e : Ending) (before after : ToldScript) (ahead : List (List ℕ)) → before.ahead ≡ Some ahead → NoneTaken e before after → NoLine e before.next ahead after.ahead
none_taken Usage before after ahead told none = absurd none
none_taken WriteFault before after ahead told none = absurd none
none_taken Done before after ahead told none = told_at before.ahead ahead (λ ls. NoLine Done before.next ls after.ahead) told none
none_taken (BadLine number at) before after ahead told none = told_at before.ahead ahead (λ ls. NoLine (BadLine number at) before.next ls after.ahead) told none
none_taken ReadFault before after ahead told none = tt
none_taken NoMemory before after ahead told none = tt

pub line_not_taken : (e : Ending) (p : HostState) (a : Outer) (before after : ToldScript) (new : Option World) (t : Option (List ℕ)) → NoneTaken e before after
    → RunsFrom (Here before.next) a a (λ found made. IfSome (told_world p a before) (λ w. LineRan (Some e) found w new t t made))
line_not_taken e p a before after new t none = record {
  made = [];
  takes = takes_none (Here before.next) a;
  said = λ found agrees. told_each p a before (λ w. LineRan (Some e) found w new t t []) (λ files left script tells f ee s.
      let lines = told_lines before script s in
      subst (λ (x : Script). EndsSo e (run_from found (world_of p files left x)) [] t t) (sym lines.1)
      (no_line_ends e p files left before.next script.ahead after found t (none_taken e before after script.ahead lines.0 none)));
}

-- ---- many lines

-- lines before this one, which a script may have
abbrev pub Before : ℕ → ℕ → Type 0
Before n line = (line < n) × (line ≤ 1048576)

-- a run from its first line on has come to this world
abbrev pub HasReached : (start here : Option World) (t0 t1 : Option (List ℕ)) → List FoundEntry → List Taking → Type 0
HasReached start here t0 t1 found made = IfSome start (λ w. IsSomeAnd here (λ v. GoesOn (run_from found w) (run_from found v) made t0 t1))

pub reached_none : (n : ℕ) (outer : Outer) (start : Option World) (t : Option (List ℕ)) → RunsFrom (Before n) outer outer (HasReached start start t t)
reached_none n outer start t = record { made = []; takes = takes_none (Before n) outer; said = λ found agrees. each found start } where
  each : (found : List FoundEntry) (start : Option World) → HasReached start start t t found []
  each found None = tt
  each found (Some w) = goes_none (run_from found w) t

more_reached : (start here after : Option World) (t0 t1 t2 : Option (List ℕ)) (found : List FoundEntry) (xs ys : List Taking) → HasReached start here t0 t1 found xs → IfSome here (λ w. LineRan None found w after t1 t2 ys)
    → HasReached start after t0 t2 found (xs ++ ys)
more_reached None here after t0 t1 t2 found xs ys p q = tt
more_reached (Some w) None after t0 t1 t2 found xs ys p q = absurd p
more_reached (Some w) (Some v) None t0 t1 t2 found xs ys p q = absurd q
more_reached (Some w) (Some v) (Some u) t0 t1 t2 found xs ys p q = goes_more (run_from found w) (run_from found v) (run_from found u) xs ys t0 t1 t2 p q

pub reached_more : (n m : ℕ) (start here after : Option World) (t0 t1 t2 : Option (List ℕ)) (a b c : Outer) → n < m → RunsFrom (Before n) a b (HasReached start here t0 t1)
    → RunsFrom (Here n) b c (λ found made. IfSome here (λ w. LineRan None found w after t1 t2 made)) → RunsFrom (Before m) a c (HasReached start after t0 t2)
reached_more n m start here after t0 t1 t2 a b c more p q = record {
  made = p.made ++ q.made;
  takes = takes_more (Before n) (Here n) (Before m) p.made q.made a b c (λ k below. (omega (arith, below.0, more), below.1)) (λ k same. (omega (arith, same.0, more), same.1)) (λ k j below same. omega (arith, below.0, same.0)) p.takes q.takes;
  said = λ found agrees.
      more_reached start here after t0 t1 t2 found p.made q.made
      (p.said found (all_first (λ taking. has_entry taking.entry found ≡ taking.fails) p.made q.made agrees))
      (q.said found (all_second (λ taking. has_entry taking.entry found ≡ taking.fails) p.made q.made agrees));
}

end_reached : (e : Ending) (start here after : Option World) (t0 t1 t2 : Option (List ℕ)) (found : List FoundEntry) (xs ys : List Taking) → HasReached start here t0 t1 found xs → IfSome here (λ w. LineRan (Some e) found w after t1 t2 ys)
    → IfSome start (λ w. EndsSo e (run_from found w) (xs ++ ys) t0 t2)
end_reached e None here after t0 t1 t2 found xs ys p q = tt
end_reached e (Some w) None after t0 t1 t2 found xs ys p q = absurd p
end_reached e (Some w) (Some v) after t0 t1 t2 found xs ys p q = goes_ends e (run_from found w) (run_from found v) xs ys t0 t1 t2 p q

pub reached_end : (e : Ending) (n : ℕ) (start here after : Option World) (t0 t1 t2 : Option (List ℕ)) (a b c : Outer) → RunsFrom (Before n) a b (HasReached start here t0 t1)
    → RunsFrom (Here n) b c (λ found made. IfSome here (λ w. LineRan (Some e) found w after t1 t2 made))
    → RunsFrom (λ line. line ≤ 1048576) a c (λ found made. IfSome start (λ w. EndsSo e (run_from found w) made t0 t2))
reached_end e n start here after t0 t1 t2 a b c p q = record {
  made = p.made ++ q.made;
  takes = takes_more (Before n) (Here n) (λ line. line ≤ 1048576) p.made q.made a b c (λ k below. below.1) (λ k same. same.1) (λ k j below same. omega (arith, below.0, same.0)) p.takes q.takes;
  said = λ found agrees.
      end_reached e start here after t0 t1 t2 found p.made q.made
      (p.said found (all_first (λ taking. has_entry taking.entry found ≡ taking.fails) p.made q.made agrees))
      (q.said found (all_second (λ taking. has_entry taking.entry found ≡ taking.fails) p.made q.made agrees));
}

-- ---- the whole run

unread_nil : (left : Option (List ℕ)) → unread [] left ≡ left
unread_nil None = refl
unread_nil (Some bytes) = refl

-- a run from the reader's first byte on
pub script_runs : (e : Ending) (host : HostState) (reader : List ℕ) (left : Option (List ℕ)) (t0 t1 : Option (List ℕ)) (a b : Outer) → reader ≡ []
    → RunsFrom (λ line. line ≤ 1048576) a b (λ found made. IfSome (told_world host a (script_of 1 (unread reader left))) (λ w. EndsSo e (run_from found w) made t0 t1))
    → RunsFrom (λ line. line ≤ 1048576) a b (λ found made. IfSome (told_world host a (script_of 1 left)) (λ w. EndsSo e (run_from found w) made t0 t1))
script_runs e host reader left t0 t1 a b empty p =
    subst (λ (told : Option (List ℕ)). RunsFrom (λ line. line ≤ 1048576) a b (λ found made. IfSome (told_world host a (script_of 1 told)) (λ w. EndsSo e (run_from found w) made t0 t1)))
    (ap (λ (r : List ℕ). unread r left) empty ∙ unread_nil left) p

-- words that are in the form say the limit of the host
pub words_run : (words : List (List ℕ)) (limit : ℕ) (tells : Bool) (e : Ending) (script : ToldScript) (t0 t1 : Option (List ℕ)) (a b : Outer) → limit_of words ≡ Some limit
    → RunsFrom (λ line. line ≤ 1048576) a b (λ found made. IfSome (told_world (no_host tells limit) a script) (λ w. EndsSo e (run_from found w) made t0 t1))
    → RunsFrom (λ line. line ≤ 1048576) a b (λ found made. IfSome (told_world (no_host tells default_limit) a script) (λ w. EndsSo e (transcript words found w) made t0 t1))
words_run words limit tells e script t0 t1 a b says run = record {
  made = run.made;
  takes = run.takes;
  said = λ found agrees. told_each (no_host tells default_limit) a script (λ w. EndsSo e (transcript words found w) run.made t0 t1) (λ files left here telling f en s.
      subst (λ (o : Option ℕ). EndsSo e (run_under o found (world_of (no_host tells default_limit) files left here)) run.made t0 t1) (sym says)
      (told_at (told_world (no_host tells limit) a script) (world_of (no_host tells limit) files left here) (λ w. EndsSo e (run_from found w) run.made t0 t1)
      (told_of (no_host tells limit) a script files left here telling f en s) (run.said found agrees)));
}

-- a run that doesn't begin
ends_at_once : (e : Ending) (world : Option World) (run : List FoundEntry → World → Run) (t : Option (List ℕ)) (outer : Outer) → ((found : List FoundEntry) (w : World) → EndsSo e (run found w) [] t t)
    → RunsFrom (λ line. line ≤ 1048576) outer outer (λ found made. IfSome world (λ w. EndsSo e (run found w) made t t))
ends_at_once e world run t outer ends = record { made = []; takes = takes_none (λ line. line ≤ 1048576) outer; said = λ found agrees. each found world } where
  each : (found : List FoundEntry) (world : Option World) → IfSome world (λ w. EndsSo e (run found w) [] t t)
  each found None = tt
  each found (Some w) = ends found w

-- words that aren't in the form
pub words_faulty : (words : List (List ℕ)) (world : Option World) (t : Option (List ℕ)) (outer : Outer) → limit_of words ≡ None
    → RunsFrom (λ line. line ≤ 1048576) outer outer (λ found made. IfSome world (λ w. EndsSo Usage (transcript words found w) made t t))
words_faulty words world t outer faulty = ends_at_once Usage world (transcript words) t outer (λ found w.
    subst (λ (o : Option ℕ). EndsSo Usage (run_under o found w) [] t t) (sym faulty) (record { replies = []; taken = Appends-nil t; came = came_all (run_under None found w) 2 (omega arith) refl; last = λ answered. refl }))

-- no memory was found to begin
pub not_made : (e : Ending) (world : Option World) (t : Option (List ℕ)) (outer : Outer) → e ≡ NoMemory → RunsFrom (λ line. line ≤ 1048576) outer outer (λ found made. IfSome world (λ w. EndsSo e (run_from found w) made t t))
not_made e world t outer none =
    subst (λ (x : Ending). RunsFrom (λ line. line ≤ 1048576) outer outer (λ found made. IfSome world (λ w. EndsSo x (run_from found w) made t t))) (sym none)
    (ends_at_once NoMemory world run_from t outer (λ found w. no_memory_ends (run_from found w) t))

-- a run over a host that was made
pub made_runs : (host start : HostState) (script : ToldScript) (e : Ending) (t0 t1 : Option (List ℕ)) (a b : Outer) → host ≡ start
    → RunsFrom (λ line. line ≤ 1048576) a b (λ found made. IfSome (told_world host a script) (λ w. EndsSo e (run_from found w) made t0 t1))
    → RunsFrom (λ line. line ≤ 1048576) a b (λ found made. IfSome (told_world start a script) (λ w. EndsSo e (run_from found w) made t0 t1))
made_runs host start script e t0 t1 a b is run = subst (λ (h : HostState). RunsFrom (λ line. line ≤ 1048576) a b (λ found made. IfSome (told_world h a script) (λ w. EndsSo e (run_from found w) made t0 t1))) is run

-- where the script is told it was read to its end
pub end_told : (e : Ending) (first before after : ToldScript) → (is_some first.ahead ≡ true → is_some before.ahead ≡ true) → GoesPast (Some e) before after → e ≡ Done → IfSome first.ahead (λ ahead. after.ahead ≡ Some [])
end_told e first before after stays past done = by_first first.ahead before.ahead stays (let here : GoesPast (Some Done) before after = subst (λ (x : Ending). GoesPast (Some x) before after) done past in here) where
  by_first : (a b : Option (List (List ℕ))) → (is_some a ≡ true → is_some b ≡ true) → IfSome b (λ ahead. after.ahead ≡ Some []) → IfSome a (λ ahead. after.ahead ≡ Some [])
  by_first None b stays end = tt
  by_first (Some ahead) None stays end = absurd (let none : false ≡ true = stays refl in cc)
  by_first (Some ahead) (Some more) stays end = end
