-- The commands of a line, one after another.
use Rattle.std.proofs.Common.{◌≡◌, ◌⊎◌, inl, inr, ⊎_elim, ℕ, zero, suc, ◌+◌, ◌<◌, ◌≤◌, Bool, true, false, List, [], ◌∷◌, ◌++◌, length, drop, get_or, Option, Some, None, Result, Ok, Err, IfSome, OnErr, OnOk, refl, ap, sym, ◌∙◌, subst, append_assoc, arith}
use Rattle.std.specs.Prelude.{if◌then◌else◌}
use Rattle.std.specs.List.{AllByRecursion}
use Rattle.std.specs.Result.{result_err}
use Rattle.std.proofs.lemmas.List.{append-nil, drop_all, drop_more}
use Rattle.dataset_tree.specs.declared.refusal.Refusal.{Refusal}
use Rattle.encryption_roots.specs.declared.command.KeyCmd.{KeyCmd}
use Rattle.encryption_roots.specs.declared.command.KeyCmd.TheVariants as commands
use Rattle.encryption_roots.specs.declared.kit.Fetched.{Fetched}
use Rattle.encryption_roots.specs.declared.props.Location.{Location}
use Rattle.encryption_roots.specs.declared.props.Location.TheVariants.{Prompt, File}
use Rattle.file_dataset.specs.declared.command.FileCmd.{FileCmd}
use Rattle.key_machine.specs.Plain.{Plain}
use Rattle.key_machine.specs.Step.{refusal_of, wanted}
use Rattle.key_machine.specs.Told.{Wanted}
use Rattle.shell_lines.specs.declared.line.Line.{Line}
use Rattle.shell_run.specs.declared.ending.Halt.{Halt}
use Rattle.shell_run.specs.declared.ending.Halt.TheVariants.{BadLine, ReadFault, NoMemory}
use Rattle.shell_run.specs.declared.found.FoundEntry.{FoundEntry}
use Rattle.shell_run.specs.declared.found.FoundKind.TheVariants.{OldKey, NewKey}
use Rattle.shell_run.specs.declared.task.Report.{Report}
use Rattle.shell_run.specs.Answers.{Acts, ActsAs, AreOfLine, HaltFaults, HaltsAt, HaltsIn, HasAnswer, IsSeedless, PerformsOne, Reads, WhereTold, answer_takings, outcome_takings, spot_of, supply_takings}
use Rattle.shell_run.specs.declared.job.LineJob.TheVariants as jobs
use Rattle.shell_run.specs.declared.task.Task.{Task}
use Rattle.host_state.specs.FileLines.{file_step}
use Rattle.host_state.specs.Hosts.{HostState}
use Rattle.shell_run.specs.Outer.{Outer, Takes}
use Rattle.shell_run.specs.Ran.{IsFront}
use Rattle.shell_run.specs.Reports.{file_output, is_refusal, reported, closing}
use Rattle.shell_run.specs.Script.{Script, ToldScript, Given, Gives, Stops}
use Rattle.shell_run.specs.Takings.{Taking, has_entry, is_fill, fills_of}
use Rattle.shell_run.specs.JobAnswers.{IsJob}
use Rattle.shell_run.specs.Jobs.{Job, job_of, on_clone, on_destroy, on_files, on_keys, on_snapshot}
use Rattle.shell_run.specs.Transcript.{World, world_of, told_world, Spot, taking_at, seed_at, fetch_at, fill_at, material_at, Supply, Has, Lacks, with_new, with_old, kit_of, Commanded, Outcome, Does, Halts, supplied, unless_refused, commanded, Answer, Goes, Performed, begun, with_done, unless_halted, performed, filed, answer_to, answer_of}
use Rattle.shell_run.proofs.CommandLemmas.{front_all, front_nil, host_told, nothing_acts, told_each, told_of}
use Rattle.shell_run.proofs.KitLemmas.{told_at}
use Rattle.shell_run.proofs.TakingLemmas.{all_both, all_first, all_second, all_weaker, order_both, outcomes_both, takes_both}

-- ---- a command that takes no seed

seedless_wants : (p : Plain) (command : KeyCmd) → IsSeedless command → (wanted p command).seed ≡ false
seedless_wants p (commands.Create name opts) seedless = absurd seedless
seedless_wants p (commands.Load name check_only place) seedless = refl
seedless_wants p (commands.Unload name) seedless = refl
seedless_wants p (commands.Change name opts load_first) seedless = absurd seedless
seedless_wants p (commands.Inherit name load_first) seedless = absurd seedless
seedless_wants p (commands.Mount name) seedless = refl
seedless_wants p (commands.Unmount name) seedless = refl
seedless_wants p (commands.Get name prop) seedless = refl
seedless_wants p (commands.Clone from name) seedless = absurd seedless
seedless_wants p (commands.Receive name props wrapped block) seedless = absurd seedless
seedless_wants p (commands.Destroy name snaps) seedless = absurd seedless

old_fills : (spot : Spot) (place : Option Location) → fills_of (fetch_at (taking_at spot OldKey) place) ≡ []
old_fills spot None = refl
old_fills spot (Some Prompt) = refl
old_fills spot (Some (File path)) = refl

new_fills : (spot : Spot) (place : Option Location) → fills_of (fetch_at (taking_at spot NewKey) place) ≡ []
new_fills spot None = refl
new_fills spot (Some Prompt) = refl
new_fills spot (Some (File path)) = refl

with_new_fills : (spot : Spot) (left : List ℕ) (wants : Wanted) (old : Fetched) (given : Given Fetched) → wants.seed ≡ false → fills_of (supply_takings (with_new spot left wants old given)) ≡ []
with_new_fills spot left wants old (Stops number at) none = old_fills spot wants.old_place
with_new_fills spot left wants old (Gives new script) none =
    let xs : List Taking = fetch_at (taking_at spot OldKey) wants.old_place in
    let ys : List Taking = fetch_at (taking_at spot NewKey) wants.new_place in
    ap (λ b. fills_of ((xs ++ ys) ++ fill_at (seed_at spot left) b)) none ∙ ap fills_of (append-nil (xs ++ ys)) ∙ outcomes_both is_fill xs ys
    ∙ ap (λ bs. bs ++ fills_of ys) (old_fills spot wants.old_place) ∙ new_fills spot wants.new_place

with_old_fills : (spot : Spot) (files : List (List ℕ × List ℕ)) (left : List ℕ) (wants : Wanted) (given : Given Fetched) → wants.seed ≡ false → fills_of (supply_takings (with_old spot files left wants given)) ≡ []
with_old_fills spot files left wants (Stops number at) none = refl
with_old_fills spot files left wants (Gives old script) none = with_new_fills spot left wants old (material_at (taking_at spot NewKey) files script wants.new_place) none

supplied_takings : (w : World) (command : KeyCmd) (supply : Supply) → outcome_takings (supplied w command supply) ≡ supply_takings supply
supplied_takings w command (Has kit left takings) = refl
supplied_takings w command (Lacks number at takings) = refl

seedless_by : (spot : Spot) (w : World) (command : KeyCmd) (refusal : Option Refusal) → IsSeedless command → fills_of (outcome_takings (unless_refused spot w command refusal)) ≡ []
seedless_by spot w command (Some why) seedless = refl
seedless_by spot w command None seedless =
    let wants : Wanted = wanted w.present.keys command in
    ap fills_of (supplied_takings w command (kit_of spot w.files w.entropy w.script wants))
    ∙ with_old_fills spot w.files w.entropy wants (material_at (taking_at spot OldKey) w.files w.script wants.old_place) (seedless_wants w.present.keys command seedless)

seedless_fills : (spot : Spot) (w : World) (command : KeyCmd) → IsSeedless command → fills_of (outcome_takings (commanded spot w command)) ≡ []
seedless_fills spot w command seedless = seedless_by spot w command (refusal_of w.present.keys command) seedless

-- ---- a front of the takings

front_more : (xs ys zs : List Taking) → IsFront ys zs → IsFront (xs ++ ys) (xs ++ zs)
front_more xs ys zs front = (front.0, ap (λ vs. xs ++ vs) front.1 ∙ sym (append_assoc xs ys front.0))

front_further : (xs ys zs : List Taking) → IsFront xs ys → IsFront ys zs → IsFront xs zs
front_further xs ys zs p q = (p.0 ++ q.0, q.1 ∙ ap (λ vs. vs ++ q.0) p.1 ∙ append_assoc xs p.0 q.0)

front_unless : (before : Performed) (outcome : Outcome) (rest : Commanded → Answer) → ((done : Commanded) → IsFront (before.turn.takings ++ done.takings) (answer_takings (rest done)))
    → IsFront before.turn.takings (answer_takings (unless_halted before outcome rest))
front_unless before (Does done) rest later = front_further before.turn.takings (before.turn.takings ++ done.takings) (answer_takings (rest done)) (done.takings, refl) (later done)
front_unless before (Halts number at w takings) rest later = (takings, refl)

-- what was taken before is a front of what the line takes
performed_front : (n : ℕ) (entries : List FoundEntry) (report : Report) (before : Performed) (commands : List KeyCmd) → IsFront before.turn.takings (answer_takings (performed n entries report before commands))
performed_front n entries report before [] = front_all before.turn.takings before.turn.takings refl
performed_front n entries report before (command ∷ later) =
    front_unless before (commanded (spot_of n before.tried entries) before.turn.world command) (λ done. performed n entries report (with_done n report command before done) later)
    (λ done. performed_front n entries report (with_done n report command before done) later)

front_next : (before : Performed) (outcome : Outcome) (rest : Commanded → Answer) (made : List Taking) → ((done : Commanded) → IsFront (before.turn.takings ++ done.takings) (answer_takings (rest done)))
    → IsFront made (outcome_takings outcome) → IsFront (before.turn.takings ++ made) (answer_takings (unless_halted before outcome rest))
front_next before (Does done) rest made later front =
    front_further (before.turn.takings ++ made) (before.turn.takings ++ done.takings) (answer_takings (rest done)) (front_more before.turn.takings made done.takings front) (later done)
front_next before (Halts number at w takings) rest made later front = front_more before.turn.takings made takings front

-- the run is over in the midst of the command that comes next
halts_next : (halt : Halt) (before : Performed) (outcome : Outcome) (rest : Commanded → Answer) (made : List Taking) → ((done : Commanded) → IsFront (before.turn.takings ++ done.takings) (answer_takings (rest done)))
    → fills_of before.turn.takings ≡ [] → HaltsAt halt outcome made → HaltsIn halt (unless_halted before outcome rest) (before.turn.takings ++ made)
halts_next (BadLine number at) before (Does done) rest made later none halts = absurd halts
halts_next (BadLine number at) before (Halts m place w takings) rest made later none halts = (halts.0, halts.1, ap (λ xs. before.turn.takings ++ xs) halts.2)
halts_next ReadFault before outcome rest made later none halts = (
  front_next before outcome rest made later halts.0,
  outcomes_both is_fill before.turn.takings made ∙ ap (λ bs. bs ++ fills_of made) none ∙ halts.1,
)
halts_next NoMemory before outcome rest made later none halts = front_next before outcome rest made later halts

-- ---- between two commands

-- So many commands of a line were carried out, and what is left goes on from what they did.
pub record Underway (n : ℕ) (entries : List FoundEntry) (report : Report) (w : World) (now : Option World) (all rest : List KeyCmd) (count good : ℕ) (before after : List ℕ) (made : List Taking) : Type 0 where
  pub done : Performed
  pub goes_on : performed n entries report (begun w) all ≡ performed n entries report done rest
  pub world : now ≡ Some done.turn.world
  pub output : after ≡ before ++ done.turn.output
  pub takings : done.turn.takings ≡ made
  pub tried : done.tried ≡ count
  pub well : done.well ≡ good
  pub fills : 2 ≤ length all → fills_of made ≡ []
  pub none : count ≡ 0 → made ≡ []

abbrev pub PerformsTo : (n : ℕ) (report : Report) (a b : Outer) (first now : Option World) (all rest : List KeyCmd) (count good : ℕ) (before after : List ℕ) → Type 0
PerformsTo n report a b first now all rest count good before after =
    Acts n a b (λ made. AllByRecursion (λ taking. taking.entry.part < count) made × WhereTold first made (λ entries w. Underway n entries report w now all rest count good before after made))

abbrev pub PerformsNext : (n part : ℕ) (report : Report) (command : KeyCmd) (a b : Outer) (first now : Option World) (result : Result ℕ Halt) (before after : List ℕ) → Type 0
PerformsNext n part report command a b first now result before after =
    ActsAs n part a b (λ made. WhereTold first made (λ entries w. PerformsOne result n report command (commanded (spot_of n part entries) w command) now before after made))

pub performed_none : (n : ℕ) (report : Report) (p : HostState) (a : Outer) (sa : ToldScript) (all : List KeyCmd) (before : List ℕ)
    → PerformsTo n report a a (told_world p a sa) (told_world p a sa) all all 0 0 before before
performed_none n report p a sa all before =
    nothing_acts n a (λ made. AllByRecursion (λ taking. taking.entry.part < 0) made × WhereTold (told_world p a sa) made (λ entries w. Underway n entries report w (told_world p a sa) all all 0 0 before before made)) (
      tt,
      λ entries agrees. told_each p a sa (λ w. Underway n entries report w (told_world p a sa) all all 0 0 before before []) (λ files left script tells f e s. record {
        done = begun (world_of p files left script);
        goes_on = refl;
        world = told_of p a sa files left script tells f e s;
        output = sym (append-nil before);
        takings = refl;
        tried = refl;
        well = refl;
        fills = λ several. refl;
        none = λ first. refl;
      }),
    )

one_well : (refused : Bool) (good : ℕ) → (if refused then good else good + 1) ≡ good + (if refused then 0 else 1)
one_well true good = omega arith
one_well false good = refl

more_by : (n : ℕ) (entries : List FoundEntry) (report : Report) (w : World) (middle now : Option World) (all : List KeyCmd) (command : KeyCmd) (rest : List KeyCmd) (count good one : ℕ) (before mid after : List ℕ) (xs ys : List Taking)
    → (under : Underway n entries report w middle all (command ∷ rest) count good before mid xs) → (2 ≤ length all → IsSeedless command)
    → (outcome : Outcome) → commanded (spot_of n count entries) under.done.turn.world command ≡ outcome → PerformsOne (Ok one) n report command outcome now mid after ys
    → Underway n entries report w now all rest (count + 1) (good + one) before after (xs ++ ys)
more_by n entries report w middle now all command rest count good one before mid after xs ys under seedless (Halts number at v takings) is performs = absurd performs
more_by n entries report w middle now all command rest count good one before mid after xs ys under seedless (Does done) is performs =
    let next : Commanded → Answer = λ done. performed n entries report (with_done n report command under.done done) rest in
    let text : List ℕ = reported n done.world.present.keys report command done.reply in
    record {
      done = with_done n report command under.done done;
      goes_on = under.goes_on ∙ ap (λ k. unless_halted under.done (commanded (spot_of n k entries) under.done.turn.world command) next) under.tried ∙ ap (λ o. unless_halted under.done o next) is;
      world = performs.0;
      output = performs.1 ∙ ap (λ out. out ++ text) under.output ∙ append_assoc before under.done.turn.output text;
      takings = ap (λ zs. zs ++ done.takings) under.takings ∙ ap (λ zs. xs ++ zs) (sym performs.2);
      tried = ap (λ k. k + 1) under.tried;
      well = ap (λ k. if is_refusal done.reply then k else k + 1) under.well ∙ one_well (is_refusal done.reply) good ∙ ap (λ k. good + k) (sym performs.3);
      fills = λ several.
          outcomes_both is_fill xs ys ∙ ap (λ bs. bs ++ fills_of ys) (under.fills several) ∙ ap fills_of performs.2
          ∙ ap (λ o. fills_of (outcome_takings o)) (sym is) ∙ seedless_fills (spot_of n count entries) under.done.turn.world command (seedless several);
      none = λ first. absurd (omega (arith, first));
    }

-- ---- takings of parts in order

all_of_both : (P Q : Taking → Type 0) (made : List Taking) → AllByRecursion P made → AllByRecursion Q made → AllByRecursion (λ taking. P taking × Q taking) made
all_of_both P Q [] p q = tt
all_of_both P Q (taking ∷ made) p q = ((p.0, q.0), all_of_both P Q made p.1 q.1)

takes_next : (n count : ℕ) (a b d : Outer) (SaidFirst SaidNext : List Taking → Type 0) (p : Acts n a b (λ made. AllByRecursion (λ taking. taking.entry.part < count) made × SaidFirst made)) (q : ActsAs n count b d SaidNext)
    → Takes (λ line. line ≡ n) (p.made ++ q.made) a d
takes_next n count a b d SaidFirst SaidNext p q =
    takes_both (λ line. line ≡ n) p.made q.made a b d
    (order_both (λ taking. (taking.entry.line ≡ n) × (taking.entry.part < count)) (λ taking. (taking.entry.line ≡ n) × (taking.entry.part ≡ count)) p.made q.made
    (λ x y first next. inr (first.0 ∙ sym next.0, inl (omega (arith, first.1, next.1))))
    (all_of_both (λ taking. taking.entry.line ≡ n) (λ taking. taking.entry.part < count) p.made p.takes.lines p.said.0)
    (all_of_both (λ taking. taking.entry.line ≡ n) (λ taking. taking.entry.part ≡ count) q.made q.takes.lines q.said.0) p.takes.order q.takes.order) p.takes q.takes

pub on_told_with : (world : Option World) (P Q : World → Type 0) → ((w : World) → world ≡ Some w → P w → Q w) → IfSome world P → IfSome world Q
on_told_with None P Q follows holds = tt
on_told_with (Some w) P Q follows holds = follows w refl holds

pub performed_more : (n : ℕ) (report : Report) (a b d : Outer) (first middle now : Option World) (all : List KeyCmd) (command : KeyCmd) (rest : List KeyCmd) (count good one : ℕ) (before mid after : List ℕ)
    → PerformsTo n report a b first middle all (command ∷ rest) count good before mid → PerformsNext n count report command b d middle now (Ok one) mid after → (2 ≤ length all → IsSeedless command)
    → PerformsTo n report a d first now all rest (count + 1) (good + one) before after
performed_more n report a b d first middle now all command rest count good one before mid after p q seedless = record {
  made = p.made ++ q.made;
  takes = takes_next n count a b d (λ made. WhereTold first made (λ entries w. Underway n entries report w middle all (command ∷ rest) count good before mid made))
      (λ made. WhereTold middle made (λ entries w. PerformsOne (Ok one) n report command (commanded (spot_of n count entries) w command) now mid after made)) p q;
  said = (
    all_both (λ taking. taking.entry.part < count + 1) p.made q.made
        (all_weaker (λ taking. taking.entry.part < count) (λ taking. taking.entry.part < count + 1) p.made (λ taking below. omega (arith, below)) p.said.0)
        (all_weaker (λ taking. taking.entry.part ≡ count) (λ taking. taking.entry.part < count + 1) q.made (λ taking own. omega (arith, own)) q.said.0),
    λ entries agrees.
        on_told_with first (λ w. Underway n entries report w middle all (command ∷ rest) count good before mid p.made) (λ w. Underway n entries report w now all rest (count + 1) (good + one) before after (p.made ++ q.made))
        (λ w told under.
        more_by n entries report w middle now all command rest count good one before mid after p.made q.made under seedless (commanded (spot_of n count entries) under.done.turn.world command) refl
        (told_at middle under.done.turn.world (λ v. PerformsOne (Ok one) n report command (commanded (spot_of n count entries) v command) now mid after q.made) under.world
        (q.said.1 entries (all_second (λ taking. has_entry taking.entry entries ≡ taking.fails) p.made q.made agrees))))
        (p.said.1 entries (all_first (λ taking. has_entry taking.entry entries ≡ taking.fails) p.made q.made agrees)),
  );
}

halt_by : (n : ℕ) (entries : List FoundEntry) (report : Report) (w : World) (middle : Option World) (all : List KeyCmd) (command : KeyCmd) (rest : List KeyCmd) (count good : ℕ) (before mid : List ℕ) (xs ys : List Taking) (halt : Halt)
    → (under : Underway n entries report w middle all (command ∷ rest) count good before mid xs) → (2 ≤ length all) ⊎ (count ≡ 0) → HaltsAt halt (commanded (spot_of n count entries) under.done.turn.world command) ys
    → HaltsIn halt (performed n entries report (begun w) all) (xs ++ ys)
halt_by n entries report w middle all command rest count good before mid xs ys halt under several halts =
    let next : Commanded → Answer = λ done. performed n entries report (with_done n report command under.done done) rest in
    let outcome : Outcome = commanded (spot_of n count entries) under.done.turn.world command in
    let none : fills_of xs ≡ [] = ⊎_elim under.fills (λ zero. ap fills_of (under.none zero)) several in
    let none_done : fills_of under.done.turn.takings ≡ [] = ap fills_of under.takings ∙ none in
    let here : performed n entries report (begun w) all ≡ unless_halted under.done outcome next =
    under.goes_on ∙ ap (λ k. unless_halted under.done (commanded (spot_of n k entries) under.done.turn.world command) next) under.tried in
    let halted : HaltsIn halt (unless_halted under.done outcome next) (under.done.turn.takings ++ ys) =
    halts_next halt under.done outcome next ys (λ done. performed_front n entries report (with_done n report command under.done done) rest) none_done halts in
    subst (λ (answer : Answer). HaltsIn halt answer (xs ++ ys)) (sym here) (subst (λ (zs : List Taking). HaltsIn halt (unless_halted under.done outcome next) (zs ++ ys)) under.takings halted)

pub performed_halt : (n : ℕ) (report : Report) (a b d : Outer) (first middle now : Option World) (all : List KeyCmd) (command : KeyCmd) (rest : List KeyCmd) (count good : ℕ) (before mid after : List ℕ) (halt : Halt)
    → PerformsTo n report a b first middle all (command ∷ rest) count good before mid → PerformsNext n count report command b d middle now (Err halt) mid after → (2 ≤ length all) ⊎ (count ≡ 0)
    → Acts n a d (λ made. WhereTold first made (λ entries w. HasAnswer (let ended : Result (Unit {0}) Halt = Err halt in ended) (performed n entries report (begun w) all) now before after made))
performed_halt n report a b d first middle now all command rest count good before mid after halt p q several = record {
  made = p.made ++ q.made;
  takes = takes_next n count a b d (λ made. WhereTold first made (λ entries w. Underway n entries report w middle all (command ∷ rest) count good before mid made))
      (λ made. WhereTold middle made (λ entries w. PerformsOne (Err halt) n report command (commanded (spot_of n count entries) w command) now mid after made)) p q;
  said = λ entries agrees.
      on_told_with first (λ w. Underway n entries report w middle all (command ∷ rest) count good before mid p.made) (λ w. HaltsIn halt (performed n entries report (begun w) all) (p.made ++ q.made))
      (λ w told under.
      halt_by n entries report w middle all command rest count good before mid p.made q.made halt under several
      (told_at middle under.done.turn.world (λ v. HaltsAt halt (commanded (spot_of n count entries) v command) q.made) under.world
      (q.said.1 entries (all_second (λ taking. has_entry taking.entry entries ≡ taking.fails) p.made q.made agrees))))
      (p.said.1 entries (all_first (λ taking. has_entry taking.entry entries ≡ taking.fails) p.made q.made agrees));
}

-- ---- behind the last command

end_by : (n : ℕ) (entries : List FoundEntry) (report : Report) (w : World) (q : HostState) (outer : Outer) (script : ToldScript) (all : List KeyCmd) (count good : ℕ) (before mid after : List ℕ) (made : List Taking) (result : Result (Unit {0}) Halt)
    → Underway n entries report w (told_world q outer script) all [] count good before mid made → OnOk result (after ≡ mid ++ closing n q report good count) → OnErr result (result ≡ Err NoMemory)
    → HasAnswer result (performed n entries report (begun w) all) (told_world q outer script) before after made
end_by n entries report w q outer script all count good before mid after made (Ok ok) under printed ended =
    let last : Performed = under.done in
    let present : last.turn.world.present ≡ q = host_told q outer script last.turn.world under.world in
    let text : List ℕ = closing n last.turn.world.present report last.well last.tried in
    let same : closing n q report good count ≡ text =
    ap (λ h. closing n h report good count) (sym present) ∙ ap (λ k. closing n last.turn.world.present report k count) (sym under.well) ∙ ap (λ k. closing n last.turn.world.present report last.well k) (sym under.tried) in
    subst (λ (answer : Answer). HasAnswer (Ok ok) answer (told_world q outer script) before after made) (sym under.goes_on)
    (under.world, printed ∙ ap (λ out. mid ++ out) same ∙ ap (λ out. out ++ text) under.output ∙ append_assoc before last.turn.output text, sym under.takings)
end_by n entries report w q outer script all count good before mid after made (Err halt) under printed ended =
    let memory : halt ≡ NoMemory = cc in
    subst (λ (h : Halt). HaltsIn h (performed n entries report (begun w) all) made) (sym memory)
    (subst (λ (answer : Answer). IsFront made (answer_takings answer)) (sym under.goes_on) (front_all made under.done.turn.takings (sym under.takings)))

pub performed_end : (n : ℕ) (report : Report) (q : HostState) (a b : Outer) (script : ToldScript) (first : Option World) (all : List KeyCmd) (count good : ℕ) (before mid after : List ℕ) (result : Result (Unit {0}) Halt)
    → PerformsTo n report a b first (told_world q b script) all [] count good before mid → OnOk result (after ≡ mid ++ closing n q report good count) → OnErr result (result ≡ Err NoMemory)
    → Acts n a b (λ made. WhereTold first made (λ entries w. HasAnswer result (performed n entries report (begun w) all) (told_world q b script) before after made))
performed_end n report q a b script first all count good before mid after result p printed ended = record {
  made = p.made;
  takes = p.takes;
  said = λ entries agrees.
      on_told_with first (λ w. Underway n entries report w (told_world q b script) all [] count good before mid p.made) (λ w. HasAnswer result (performed n entries report (begun w) all) (told_world q b script) before after p.made)
      (λ w told under. end_by n entries report w q b script all count good before mid after p.made result under printed ended) (p.said.1 entries agrees);
}

-- ---- a line

performed_as : (n : ℕ) (entries : List FoundEntry) (w : World) (job : Job) (task : Task) (all : List KeyCmd) → IsJob (jobs.Keys task) job → all ≡ task.commands.items → performed n entries task.report (begun w) all ≡ answer_to n entries w job
performed_as n entries w (on_keys asked) task all is same =
    ap (λ r. performed n entries r (begun w) all) is.0.report ∙ ap (λ cs. performed n entries asked.report (begun w) cs) (same ∙ is.0.commands)
performed_as n entries w (on_files command) task all is same = absurd is
performed_as n entries w (on_snapshot name) task all is same = absurd is
performed_as n entries w (on_clone from name) task all is same = absurd is
performed_as n entries w (on_destroy spot) task all is same = absurd is

pub carried : (n : ℕ) (p new : HostState) (a d : Outer) (sa sd : ToldScript) (line : Line) (task : Task) (all : List KeyCmd) (result : Result (Unit {0}) Halt) (before after : List ℕ) → IsJob (jobs.Keys task) (job_of p.keys line) → all ≡ task.commands.items
    → Acts n a d (λ made. WhereTold (told_world p a sa) made (λ entries w. HasAnswer result (performed n entries task.report (begun w) all) (told_world new d sd) before after made))
    → Acts n a d (λ made. WhereTold (told_world p a sa) made (λ entries w. HasAnswer result (answer_of n entries w line) (told_world new d sd) before after made))
carried n p new a d sa sd line task all result before after is commands acts = record {
  made = acts.made;
  takes = acts.takes;
  said = λ entries agrees.
      on_told_with (told_world p a sa) (λ w. HasAnswer result (performed n entries task.report (begun w) all) (told_world new d sd) before after acts.made) (λ w. HasAnswer result (answer_of n entries w line) (told_world new d sd) before after acts.made)
      (λ w told answered.
      let same : performed n entries task.report (begun w) all ≡ answer_of n entries w line =
      performed_as n entries w (job_of p.keys line) task all is commands ∙ ap (λ q. answer_to n entries w (job_of q.keys line)) (sym (host_told p a sa w told)) in
      subst (λ (answer : Answer). HasAnswer result answer (told_world new d sd) before after acts.made) same answered) (acts.said entries agrees);
}

-- a command about files

filed_as : (n : ℕ) (p new : HostState) (files : List (List ℕ × List ℕ)) (left : List ℕ) (script : Script) (command : FileCmd) (result : Result (Unit {0}) Halt) (now : Option World) (before after : List ℕ)
    → OnOk result (new ≡ (file_step p command).state) → OnOk result (after ≡ before ++ file_output n new.keys.tree.rows (file_step p command).reply) → OnErr result (result ≡ Err NoMemory)
    → now ≡ Some (world_of new files left script) → HasAnswer result (Goes (filed n (world_of p files left script) (file_step p command))) now before after []
filed_as n p new files left script command (Ok ok) now before after state text stops told = (
  told ∙ ap (λ h. Some (world_of h files left script)) state,
  text ∙ ap (λ h. before ++ file_output n h.keys.tree.rows (file_step p command).reply) state,
  refl,
)
filed_as n p new files left script command (Err halt) now before after state text stops told =
    let memory : halt ≡ NoMemory = cc in subst (λ (h : Halt). HaltsIn h (Goes (filed n (world_of p files left script) (file_step p command))) []) (sym memory) (front_nil _)

pub served : (n : ℕ) (p new : HostState) (outer : Outer) (script : ToldScript) (line : Line) (command : FileCmd) (result : Result (Unit {0}) Halt) (before after : List ℕ) → IsJob (jobs.Files command) (job_of p.keys line)
    → (p.tells ≡ true → OnOk result (new ≡ (file_step p command).state)) → (p.tells ≡ true → OnOk result (after ≡ before ++ file_output n new.keys.tree.rows (file_step p command).reply)) → new.tells ≡ p.tells → OnErr result (result ≡ Err NoMemory)
    → Acts n outer outer (λ made. WhereTold (told_world p outer script) made (λ entries w. HasAnswer result (answer_of n entries w line) (told_world new outer script) before after made))
served n p new outer script line command result before after is state text same stops =
    nothing_acts n outer (λ made. WhereTold (told_world p outer script) made (λ entries w. HasAnswer result (answer_of n entries w line) (told_world new outer script) before after made))
    (λ entries agrees. told_each p outer script (λ w. HasAnswer result (answer_of n entries w line) (told_world new outer script) before after []) (λ files left here tells f e s.
    subst (λ (answer : Answer). HasAnswer result answer (told_world new outer script) before after []) (sym (ap (answer_to n entries (world_of p files left here)) is))
    (filed_as n p new files left here command result (told_world new outer script) before after (state tells) (text tells) stops (told_of new outer script files left here (same ∙ tells) f e s))))

-- no memory was found to see what the line asks for
pub carried_not : (n : ℕ) (p : HostState) (outer : Outer) (script : ToldScript) (line : Line) (before after : List ℕ)
    → Acts n outer outer (λ made. WhereTold (told_world p outer script) made (λ entries w. HasAnswer (let ended : Result (Unit {0}) Halt = Err NoMemory in ended) (answer_of n entries w line) (told_world p outer script) before after made))
carried_not n p outer script line before after =
    nothing_acts n outer (λ made. WhereTold (told_world p outer script) made (λ entries w. HasAnswer (let ended : Result (Unit {0}) Halt = Err NoMemory in ended) (answer_of n entries w line) (told_world p outer script) before after made))
    (λ entries agrees. told_each p outer script (λ w. HaltsIn NoMemory (answer_of n entries w line) []) (λ files left here tells f e s. front_nil _))

-- ---- a loop over the commands

all_at : {A : Type 0} (P : A → Type 0) (xs : List A) (i : ℕ) (d : A) → i < length xs → AllByRecursion P xs → P (get_or xs i d)
all_at P [] i d within all = absurd (omega (arith, within))
all_at P (x ∷ xs) zero d within all = all.0
all_at P (x ∷ xs) (suc i) d within all = all_at P xs i d (omega (arith, within)) all.1

pub at_index : {A : Type 0} (P : A → Type 0) (xs : List A) (i : ℕ) (x : A) → i < length xs → x ≡ get_or xs i x → AllByRecursion P xs → P x
at_index P xs i x within is all = subst P (sym is) (all_at P xs i x within all)

next_of : {A : Type 0} (xs : List A) (i : ℕ) (x : A) → i < length xs → x ≡ get_or xs i x → drop i xs ≡ x ∷ drop (i + 1) xs
next_of xs i x within is = drop_more xs i x within ∙ ap (λ y. y ∷ drop (i + 1) xs) (sym is)

several : (count long : ℕ) → count < long → (2 ≤ long) ⊎ (count ≡ 0)
several zero long within = inr refl
several (suc count) long within = inl (omega (arith, within))

pub performed_step : (n : ℕ) (report : Report) (a b d : Outer) (first middle now : Option World) (all : List KeyCmd) (i : ℕ) (command : KeyCmd) (count good one : ℕ) (before mid after : List ℕ) → i < length all → command ≡ get_or all i command → AreOfLine all
    → PerformsTo n report a b first middle all (drop i all) count good before mid → PerformsNext n count report command b d middle now (Ok one) mid after
    → PerformsTo n report a d first now all (drop (i + 1) all) (count + 1) (good + one) before after
performed_step n report a b d first middle now all i command count good one before mid after within is of_line p q =
    performed_more n report a b d first middle now all command (drop (i + 1) all) count good one before mid after
    (subst (λ (rest : List KeyCmd). PerformsTo n report a b first middle all rest count good before mid) (next_of all i command within is) p) q
    (λ two. at_index IsSeedless all i command within is (of_line.seedless two))

pub performed_halt_at : (n : ℕ) (report : Report) (a b d : Outer) (first middle now : Option World) (all : List KeyCmd) (i : ℕ) (command : KeyCmd) (count good : ℕ) (before mid after : List ℕ) (halt : Halt) → i < length all → command ≡ get_or all i command → count ≡ i
    → PerformsTo n report a b first middle all (drop i all) count good before mid → PerformsNext n count report command b d middle now (Err halt) mid after
    → Acts n a d (λ made. WhereTold first made (λ entries w. HasAnswer (let ended : Result (Unit {0}) Halt = Err halt in ended) (performed n entries report (begun w) all) now before after made))
performed_halt_at n report a b d first middle now all i command count good before mid after halt within is place p q =
    performed_halt n report a b d first middle now all command (drop (i + 1) all) count good before mid after halt
    (subst (λ (rest : List KeyCmd). PerformsTo n report a b first middle all rest count good before mid) (next_of all i command within is) p) q
    (several count (length all) (omega (arith, within, place)))

pub performed_all : (n : ℕ) (report : Report) (q : HostState) (a b : Outer) (script : ToldScript) (first : Option World) (all : List KeyCmd) (i count good : ℕ) (before mid after : List ℕ) (result : Result (Unit {0}) Halt) → length all ≤ i
    → PerformsTo n report a b first (told_world q b script) all (drop i all) count good before mid → OnOk result (after ≡ mid ++ closing n q report good count) → OnErr result (result ≡ Err NoMemory)
    → Acts n a b (λ made. WhereTold first made (λ entries w. HasAnswer result (performed n entries report (begun w) all) (told_world q b script) before after made))
performed_all n report q a b script first all i count good before mid after result past p printed ended =
    performed_end n report q a b script first all count good before mid after result
    (subst (λ (rest : List KeyCmd). PerformsTo n report a b first (told_world q b script) all rest count good before mid) (drop_all i all past) p) printed ended

-- the text behind all commands leaves the state as it is
pub performed_closed : (n : ℕ) (report : Report) (q now : HostState) (a b : Outer) (script : ToldScript) (first : Option World) (all : List KeyCmd) (i count good : ℕ) (before mid after : List ℕ) (result : Result (Unit {0}) Halt) → length all ≤ i → now ≡ q
    → PerformsTo n report a b first (told_world q b script) all (drop i all) count good before mid → OnOk result (after ≡ mid ++ closing n q report good count) → OnErr result (result ≡ Err NoMemory)
    → Acts n a b (λ made. WhereTold first made (λ entries w. HasAnswer result (performed n entries report (begun w) all) (told_world now b script) before after made))
performed_closed n report q now a b script first all i count good before mid after result past same p printed ended =
    subst (λ (s : HostState). Acts n a b (λ made. WhereTold first made (λ entries w. HasAnswer result (performed n entries report (begun w) all) (told_world s b script) before after made))) (sym same)
    (performed_all n report q a b script first all i count good before mid after result past p printed ended)

-- ---- the script over several calls

pub reads_both : (a b c : ToldScript) (x y z : ℕ) (halt : Option Halt) → Reads None a b x y → Reads halt b c y z → Reads halt a c x z
reads_both a b c x y z halt p q = record {
  later = omega (arith, p.later, q.later);
  told = λ goes told. q.told goes (p.told refl told);
  faults = subst (λ (k : ℕ). HaltFaults halt k z) p.faults q.faults;
}

-- a last call that reads nothing, and stops for want of memory alone
pub reads_ended : (a b : ToldScript) (x y : ℕ) (result : Result (Unit {0}) Halt) → OnErr result (result ≡ Err NoMemory) → Reads None a b x y → Reads (result_err result) a b x y
reads_ended a b x y (Ok ok) ended p = p
reads_ended a b x y (Err halt) ended p =
    let memory : halt ≡ NoMemory = cc in
    subst (λ (h : Halt). Reads (Some h) a b x y) (sym memory) (record { later = p.later; told = λ goes told. absurd (let none : Some NoMemory ≡ None = goes in cc); faults = p.faults })

-- nothing was read
pub reads_none : (a : ToldScript) (x : ℕ) (result : Result (Unit {0}) Halt) → OnErr result (result ≡ Err NoMemory) → Reads (result_err result) a a x x
reads_none a x result ended = reads_ended a a x x result ended (record { later = omega arith; told = λ goes told. told; faults = refl })
