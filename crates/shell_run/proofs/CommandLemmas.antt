-- A command with what was taken for it is carried out as it is defined.
use Rattle.std.proofs.Common.{◌≡◌, ℕ, Bool, true, false, if◌then◌else◌, ◌++◌, List, [], Option, Some, None, Result, Ok, Err, IfOk, IfSome, OnErr, OnOk, refl, ap, sym, ◌∙◌, subst}
use Rattle.std.specs.Option.{option_and_then, option_map}
use Rattle.std.proofs.lemmas.List.{append-nil}
use Rattle.dataset_tree.specs.declared.refusal.Refusal.{Refusal}
use Rattle.dataset_tree.specs.declared.refusal.Stop.{Stop}
use Rattle.dataset_tree.specs.declared.refusal.Stop.TheVariants as stops
use Rattle.dataset_tree.specs.Refusal.{Gives}
use Rattle.encryption_roots.specs.declared.kit.LineKit.{LineKit}
use Rattle.encryption_roots.specs.declared.command.KeyCmd.{KeyCmd}
use Rattle.encryption_roots.specs.declared.command.KeyCmd.TheVariants as commands
use Rattle.encryption_roots.specs.declared.props.Location.{Location}
use Rattle.key_machine.specs.Plain.{Plain}
use Rattle.key_machine.specs.Reply.{Reply, Done, Made, Text, Refused, Reaped, Skipped}
use Rattle.key_machine.specs.Step.{refusal_of, wanted}
use Rattle.key_machine.specs.Told.{Wanted}
use Rattle.key_store.specs.declared.needs.Needs.{Needs}
use Rattle.key_store.specs.Calls.{needs_of, needed, needed_unless, AnswersMade, AnswersDone}
use Rattle.shell_lines.specs.declared.line.Line.{Line}
use Rattle.shell_lines.specs.declared.line.LineStop.{LineStop}
use Rattle.shell_lines.specs.declared.line.LineStop.TheVariants as line_stops
use Rattle.shell_lines.specs.Grammar.{Spells}
use Rattle.shell_run.specs.declared.command.Shown.{Shown}
use Rattle.shell_run.specs.declared.command.Shown.TheVariants as shows
use Rattle.shell_run.specs.declared.ending.Halt.{Halt}
use Rattle.shell_run.specs.declared.ending.Halt.TheVariants.{BadLine, ReadFault, NoMemory}
use Rattle.shell_run.specs.declared.found.FoundEntry.{FoundEntry}
use Rattle.shell_run.specs.declared.task.Report.{Report}
use Rattle.shell_run.specs.declared.task.Report.TheVariants as reports
use lib.Chars.{codes}
use Rattle.std.specs.List.{AllByRecursion}
use Rattle.dataset_tree.specs.declared.tree.Row.{Row}
use Rattle.shell_run.specs.Answers.{Acts, ActsAs, Agrees, Executes, GivesKit, HaltsAt, HaltsIn, HasAnswer, IsDone, PerformsOne, Replies, TakesKit, WhereTold, settled, shown_output, shown_report, spot_of, unspelled, wants_of, well_count, well_of}
use Rattle.host_state.specs.Hosts.{HostState, host_after, host_step}
use Rattle.shell_run.specs.Outer.{Outer, Takes, left_after}
use Rattle.shell_run.specs.Ran.{IsFront}
use Rattle.shell_run.specs.Script.{Script, ToldScript, script_told}
use Rattle.shell_run.specs.Takings.{Taking, fills_of}
use Rattle.shell_run.specs.Reports.{name_in, reply_output, reported, root_outcome}
use Rattle.shell_run.specs.Texts.{key_line}
use Rattle.shell_run.specs.Transcript.{World, world_of, told_world, Spot, Supply, Has, Lacks, kit_of, Outcome, Does, Halts, supplied, refused_at_once, unless_refused, commanded, answer_of, answer_if}
use Rattle.shell_run.proofs.KitLemmas.{told_at, some_of}
use Rattle.shell_run.proofs.TakingLemmas.{takes_none}

-- ---- worlds that are told

told_each_of : (p : HostState) (f : Option (List (List ℕ × List ℕ))) (e : Option (List ℕ)) (s : Option Script) (P : World → Type 0)
    → ((files : List (List ℕ × List ℕ)) (left : List ℕ) (script : Script) → f ≡ Some files → e ≡ Some left → s ≡ Some script → P (world_of p files left script))
    → IfSome (option_and_then (λ (files : List (List ℕ × List ℕ)). option_and_then (λ (left : List ℕ). option_map (world_of p files left) s) e) f) P
told_each_of p None e s P holds = tt
told_each_of p (Some files) None s P holds = tt
told_each_of p (Some files) (Some left) None P holds = tt
told_each_of p (Some files) (Some left) (Some script) P holds = holds files left script refl refl refl

-- a world is told where the host's shelves tell
told_where : (tells : Bool) (world : Option World) (P : World → Type 0) → (tells ≡ true → IfSome world P) → IfSome (if tells then world else None) P
told_where true world P holds = holds refl
told_where false world P holds = tt

abbrev outer_world : HostState → Outer → ToldScript → Option World
outer_world p outer told = option_and_then (λ (files : List (List ℕ × List ℕ)). option_and_then (λ (left : List ℕ). option_map (world_of p files left) (script_told told)) outer.entropy) outer.files

pub told_each : (p : HostState) (outer : Outer) (told : ToldScript) (P : World → Type 0)
    → ((files : List (List ℕ × List ℕ)) (left : List ℕ) (script : Script) → p.tells ≡ true → outer.files ≡ Some files → outer.entropy ≡ Some left → script_told told ≡ Some script → P (world_of p files left script))
    → IfSome (told_world p outer told) P
told_each p outer told P holds =
    told_where p.tells (outer_world p outer told) P (λ tells. told_each_of p outer.files outer.entropy (script_told told) P (λ files left script f e s. holds files left script tells f e s))

pub told_of : (p : HostState) (outer : Outer) (told : ToldScript) (files : List (List ℕ × List ℕ)) (left : List ℕ) (script : Script) → p.tells ≡ true → outer.files ≡ Some files → outer.entropy ≡ Some left → script_told told ≡ Some script
    → told_world p outer told ≡ Some (world_of p files left script)
told_of p outer told files left script tells f e s =
    ap (λ (b : Bool). let world : Option World = if b then outer_world p outer told else None in world) tells
    ∙ ap (λ (o : Option (List (List ℕ × List ℕ))). option_and_then (λ (files : List (List ℕ × List ℕ)). option_and_then (λ (left : List ℕ). option_map (world_of p files left) (script_told told)) outer.entropy) o) f
    ∙ ap (λ (o : Option (List ℕ)). option_and_then (λ (left : List ℕ). option_map (world_of p files left) (script_told told)) o) e ∙ ap (λ (o : Option Script). option_map (world_of p files left) o) s

-- the world that a line leaves, after what it took
pub told_after : (n : ℕ) (p : HostState) (a d : Outer) (told : ToldScript) (files : List (List ℕ × List ℕ)) (left : List ℕ) (later : Script) (made : List Taking) → Takes (λ line. line ≡ n) made a d → p.tells ≡ true → a.files ≡ Some files → a.entropy ≡ Some left → script_told told ≡ Some later
    → told_world p d told ≡ Some (world_of p files (left_after (fills_of made) left) later)
told_after n p a d told files left later made takes tells f e s =
    told_of p d told files (left_after (fills_of made) left) later tells (takes.files ∙ f) (told_at a.entropy left (λ l. d.entropy ≡ Some (left_after (fills_of made) l)) e takes.entropy) s

host_of : (p : HostState) (f : Option (List (List ℕ × List ℕ))) (e : Option (List ℕ)) (s : Option Script) (w : World)
    → option_and_then (λ (files : List (List ℕ × List ℕ)). option_and_then (λ (left : List ℕ). option_map (world_of p files left) s) e) f ≡ Some w → w.present ≡ p
host_of p None e s w told = absurd (cc)
host_of p (Some files) None s w told = absurd (cc)
host_of p (Some files) (Some left) None w told = absurd (cc)
host_of p (Some files) (Some left) (Some script) w told = let same : world_of p files left script ≡ w = cc in sym (ap (λ (v : World). v.present) same)

host_where : (tells : Bool) (p : HostState) (outer : Outer) (script : ToldScript) (w : World) → (let world : Option World = if tells then outer_world p outer script else None in world) ≡ Some w → w.present ≡ p
host_where true p outer script w told = host_of p outer.files outer.entropy (script_told script) w told
host_where false p outer script w told = absurd (cc)

pub host_told : (p : HostState) (outer : Outer) (script : ToldScript) (w : World) → told_world p outer script ≡ Some w → w.present ≡ p
host_told p outer script w told = host_where p.tells p outer script w told

pub on_told : (world : Option World) (P Q : World → Type 0) → ((w : World) → P w → Q w) → IfSome world P → IfSome world Q
on_told None P Q follows holds = tt
on_told (Some w) P Q follows holds = follows w holds

-- what holds of each list that agrees with what was taken
pub acts_told : (n : ℕ) (a b : Outer) (world : Option World) (P Q : List FoundEntry → World → List Taking → Type 0) → ((entries : List FoundEntry) (w : World) (made : List Taking) → P entries w made → Q entries w made)
    → Acts n a b (λ made. WhereTold world made (λ entries w. P entries w made)) → Acts n a b (λ made. WhereTold world made (λ entries w. Q entries w made))
acts_told n a b world P Q follows acts = record {
  made = acts.made;
  takes = acts.takes;
  said = λ entries agrees. on_told world (λ w. P entries w acts.made) (λ w. Q entries w acts.made) (λ w. follows entries w acts.made) (acts.said entries agrees);
}

pub nothing_acts : (n : ℕ) (a : Outer) (Q : List Taking → Type 0) → Q [] → Acts n a a Q
nothing_acts n a Q holds = record { made = []; takes = takes_none (λ line. line ≡ n) a; said = holds }

acts_not : (n part : ℕ) (a : Outer) (Q : List Taking → Type 0) → Q [] → ActsAs n part a a Q
acts_not n part a Q holds = nothing_acts n a (λ made. AllByRecursion (λ taking. taking.entry.part ≡ part) made × Q made) (tt, holds)

pub front_all : {A : Type 0} (made whole : List A) → made ≡ whole → IsFront made whole
front_all made whole same = ([], sym same ∙ sym (append-nil made))

pub front_nil : {A : Type 0} (whole : List A) → IsFront [] whole
front_nil whole = (whole, refl)

-- ---- a command

accepted_by : (p : Plain) (command : KeyCmd) (needs : Needs) (refusal : Option Refusal) → needed_unless p command refusal ≡ Ok needs → (refusal ≡ None) × (wanted p command ≡ wants_of needs)
accepted_by p command needs None known = (refl, let same : needs_of (wanted p command) ≡ needs = cc in ap wants_of same)
accepted_by p command needs (Some why) known = absurd (cc)

refused_by : (p : Plain) (command : KeyCmd) (why : Refusal) (refusal : Option Refusal) → Gives (let stopped : Result Needs Stop = Err (stops.Refused why) in stopped) (needed_unless p command refusal) → refusal ≡ Some why
refused_by p command why None gives = absurd (cc)
refused_by p command why (Some other) gives = cc

-- a command that the state refuses, or for which memory was wanting to see that
pub executed_at_once : (n part : ℕ) (p : HostState) (command : KeyCmd) (outer : Outer) (script : ToldScript) (stop : Stop) → Gives (let stopped : Result Needs Stop = Err stop in stopped) (needed p.keys command)
    → ActsAs n part outer outer (λ made. WhereTold (told_world p outer script) made (λ entries w. Executes (settled (Err stop)) (commanded (spot_of n part entries) w command) (told_world p outer script) made))
executed_at_once n part p command outer script (stops.Refused why) gives =
    acts_not n part outer (λ made. WhereTold (told_world p outer script) made (λ entries w. Executes (Ok (Err why)) (commanded (spot_of n part entries) w command) (told_world p outer script) made))
    (λ entries agrees. told_each p outer script (λ w. Executes (Ok (Err why)) (commanded (spot_of n part entries) w command) (told_world p outer script) []) (λ files left here tells f e s.
    let w : World = world_of p files left here in
    let done : commanded (spot_of n part entries) w command ≡ refused_at_once w why = ap (unless_refused (spot_of n part entries) w command) (refused_by p.keys command why (refusal_of p.keys command) gives) in
    subst (λ (d : Outcome). Executes (Ok (Err why)) d (told_world p outer script) []) (sym done) (refl, told_of p outer script files left here tells f e s, refl)))
executed_at_once n part p command outer script stops.NoMemory gives =
    acts_not n part outer (λ made. WhereTold (told_world p outer script) made (λ entries w. Executes (Err NoMemory) (commanded (spot_of n part entries) w command) (told_world p outer script) made))
    (λ entries agrees. told_each p outer script (λ w. Executes (Err NoMemory) (commanded (spot_of n part entries) w command) (told_world p outer script) []) (λ files left here tells f e s. front_nil _))

finish : (result : Result Shown Stop) (reply : Reply) (now : Option World) (old new state : HostState) (files : List (List ℕ × List ℕ)) (left : List ℕ) (later : Script) (made : List Taking) → Replies result reply
    → new ≡ host_after result old state → now ≡ Some (world_of new files left later) → Executes (settled result) (Does record { world = world_of state files left later; reply = reply; takings = made }) now made
finish (Ok shown) reply now old new state files left later made replies after told = (replies, told ∙ ap (λ p. Some (world_of p files left later)) after, refl)
finish (Err (stops.Refused why)) reply now old new state files left later made replies after told = (replies, told ∙ ap (λ p. Some (world_of p files left later)) after, refl)
finish (Err stops.NoMemory) reply now old new state files left later made replies after told = front_all made made refl

-- a command leaves what the shelves tell
after_tells : (result : Result Shown Stop) (old new state : HostState) → state.tells ≡ old.tells → new ≡ host_after result old state → new.tells ≡ old.tells
after_tells (Ok shown) old new state same after = ap (λ h. h.tells) after ∙ same
after_tells (Err (stops.Refused why)) old new state same after = ap (λ h. h.tells) after ∙ same
after_tells (Err stops.NoMemory) old new state same after = ap (λ h. h.tells) after

-- where the world is told, so is what the kit was made of
kit_at : (n part : ℕ) (wants : Wanted) (entries : List FoundEntry) (a : Outer) (sa sd : ToldScript) (made : List Taking) (result : Result LineKit Halt) (files : List (List ℕ × List ℕ)) (left : List ℕ) (script : Script)
    → a.files ≡ Some files → a.entropy ≡ Some left → script_told sa ≡ Some script → TakesKit result n part wants entries a sa sd made → GivesKit result (kit_of (spot_of n part entries) files left script wants) (script_told sd) made
kit_at n part wants entries a sa sd made result files left script f e s takes =
    told_at (script_told sa) script (λ here. GivesKit result (kit_of (spot_of n part entries) files left here wants) (script_told sd) made) s
    (told_at a.entropy left (λ l. IfSome (script_told sa) (λ here. GivesKit result (kit_of (spot_of n part entries) files l here wants) (script_told sd) made)) e
    (told_at a.files files (λ x. IfSome a.entropy (λ l. IfSome (script_told sa) (λ here. GivesKit result (kit_of (spot_of n part entries) x l here wants) (script_told sd) made))) f takes))

-- what an accepted command is, by what it wants
accepted_is : (p : HostState) (command : KeyCmd) (needs : Needs) (spot : Spot) (files : List (List ℕ × List ℕ)) (left : List ℕ) (script : Script) → needed p.keys command ≡ Ok needs
    → commanded spot (world_of p files left script) command ≡ supplied (world_of p files left script) command (kit_of spot files left script (wants_of needs))
accepted_is p command needs spot files left script known =
    let w : World = world_of p files left script in
    let both = accepted_by p.keys command needs (refusal_of p.keys command) known in
    ap (unless_refused spot w command) both.0 ∙ ap (λ (wants : Wanted). supplied w command (kit_of spot files left script wants)) both.1

pub executed : (n part : ℕ) (p new : HostState) (command : KeyCmd) (needs : Needs) (kit : LineKit) (a d : Outer) (sa sd : ToldScript) (result : Result Shown Stop) → needed p.keys command ≡ Ok needs
    → ActsAs n part a d (λ made. (entries : List FoundEntry) → Agrees entries made → TakesKit (Ok kit) n part (wants_of needs) entries a sa sd made)
    → Replies result (host_step p command kit).reply → new ≡ host_after result p (host_step p command kit).state
    → ActsAs n part a d (λ made. WhereTold (told_world p a sa) made (λ entries w. Executes (settled result) (commanded (spot_of n part entries) w command) (told_world new d sd) made))
executed n part p new command needs kit a d sa sd result known acts replies after = record {
  made = acts.made;
  takes = acts.takes;
  said = (
    acts.said.0,
    λ entries agrees. told_each p a sa (λ w. Executes (settled result) (commanded (spot_of n part entries) w command) (told_world new d sd) acts.made) (λ files left script tells f e s.
        let w : World = world_of p files left script in
        let spot : Spot = spot_of n part entries in
        let gives = some_of (script_told sd) (λ later. kit_of spot files left script (wants_of needs) ≡ Has kit later acts.made)
        (kit_at n part (wants_of needs) entries a sa sd acts.made (Ok kit) files left script f e s (acts.said.1 entries agrees)) in
        let done : commanded spot w command ≡ supplied w command (Has kit gives.0 acts.made) = accepted_is p command needs spot files left script known ∙ ap (supplied w command) gives.2 in
        let rest : List ℕ = left_after (fills_of acts.made) left in
        subst (λ (x : Outcome). Executes (settled result) x (told_world new d sd) acts.made) (sym done)
        (finish result (host_step p command kit).reply (told_world new d sd) p new (host_step p command kit).state files rest gives.0 acts.made replies after
        (told_after n new a d sd files left gives.0 acts.made acts.takes (after_tells result p new (host_step p command kit).state refl after ∙ tells) f e gives.1))),
  );
}

-- the run is over while a kit is made
halted : (halt : Halt) (w : World) (command : KeyCmd) (supply : Supply) (new : Option Script) (made : List Taking) → GivesKit (Err halt) supply new made → HaltsAt halt (supplied w command supply) made
halted (BadLine number at) w command supply new made gives =
    subst (λ (x : Supply). HaltsAt (BadLine number at) (supplied w command x) made) (sym gives) (refl, refl, refl)
halted ReadFault w command (Has kit left takings) new made gives = gives
halted ReadFault w command (Lacks number at takings) new made gives = gives
halted NoMemory w command (Has kit left takings) new made gives = gives
halted NoMemory w command (Lacks number at takings) new made gives = gives

pub executed_stopped : (n part : ℕ) (p : HostState) (command : KeyCmd) (needs : Needs) (halt : Halt) (a d : Outer) (sa sd : ToldScript) → needed p.keys command ≡ Ok needs
    → ActsAs n part a d (λ made. (entries : List FoundEntry) → Agrees entries made → TakesKit (Err halt) n part (wants_of needs) entries a sa sd made)
    → ActsAs n part a d (λ made. WhereTold (told_world p a sa) made (λ entries w. Executes (Err halt) (commanded (spot_of n part entries) w command) (told_world p d sd) made))
executed_stopped n part p command needs halt a d sa sd known acts = record {
  made = acts.made;
  takes = acts.takes;
  said = (
    acts.said.0,
    λ entries agrees. told_each p a sa (λ w. Executes (Err halt) (commanded (spot_of n part entries) w command) (told_world p d sd) acts.made) (λ files left script tells f e s.
        let w : World = world_of p files left script in
        subst (λ (x : Outcome). Executes (Err halt) x (told_world p d sd) acts.made) (sym (accepted_is p command needs (spot_of n part entries) files left script known))
        (halted halt w command (kit_of (spot_of n part entries) files left script (wants_of needs)) (script_told sd) acts.made
        (kit_at n part (wants_of needs) entries a sa sd acts.made (Err halt) files left script f e s (acts.said.1 entries agrees)))),
  );
}

-- ---- what is reported of it

done_output : (n : ℕ) (p : Plain) (reply : Reply) (text : List ℕ) → IsDone reply → text ≡ shown_output n p.tree.rows (Ok shows.Done) → text ≡ reply_output n p reply
done_output n p Done text is_done same = same
done_output n p (Made id) text is_done same = same
done_output n p (Text other) text is_done same = absurd is_done
done_output n p (Refused why) text is_done same = absurd is_done
done_output n p (Reaped dataset dropped) text is_done same = absurd is_done
done_output n p Skipped text is_done same = absurd is_done

done_root : (rows : List Row) (reply : Reply) → IsDone reply → codes "ok" ≡ root_outcome rows reply
done_root rows Done is_done = refl
done_root rows (Made id) is_done = refl
done_root rows (Text other) is_done = absurd is_done
done_root rows (Refused why) is_done = absurd is_done
done_root rows (Reaped dataset dropped) is_done = absurd is_done
done_root rows Skipped is_done = absurd is_done

done_well : (reply : Reply) → IsDone reply → 1 ≡ well_of reply
done_well Done is_done = refl
done_well (Made id) is_done = refl
done_well (Text other) is_done = absurd is_done
done_well (Refused why) is_done = absurd is_done
done_well (Reaped dataset dropped) is_done = absurd is_done
done_well Skipped is_done = absurd is_done

-- a command that is carried out
shown_done : (n : ℕ) (p : Plain) (report : Report) (command : KeyCmd) (shown : Shown) (reply : Reply) → Replies (Ok shown) reply
    → (shown_report n p.tree.rows report command (Ok shown) ≡ reported n p report command reply) × (1 ≡ well_of reply)
shown_done n p reports.Replies command shows.Done reply replies = (done_output n p reply (shown_output n p.tree.rows (Ok shows.Done)) replies refl, done_well reply replies)
shown_done n p reports.Replies command (shows.Text text) reply replies = (ap (reply_output n p) (sym replies), ap well_of (sym replies))
shown_done n p reports.Roots command shows.Done reply replies = (ap (key_line n (name_in command)) (done_root p.tree.rows reply replies), done_well reply replies)
shown_done n p reports.Roots command (shows.Text text) reply replies = (ap (λ r. key_line n (name_in command) (root_outcome p.tree.rows r)) (sym replies), ap well_of (sym replies))
shown_done n p reports.Sets command shows.Done reply replies = (refl, done_well reply replies)
shown_done n p reports.Sets command (shows.Text text) reply replies = (refl, ap well_of (sym replies))
shown_done n p reports.Counts command shows.Done reply replies = (refl, done_well reply replies)
shown_done n p reports.Counts command (shows.Text text) reply replies = (refl, ap well_of (sym replies))
shown_done n p (reports.Refused why) command shows.Done reply replies = (refl, done_well reply replies)
shown_done n p (reports.Refused why) command (shows.Text text) reply replies = (refl, ap well_of (sym replies))

-- one that is refused
shown_refused : (n : ℕ) (p : Plain) (report : Report) (command : KeyCmd) (why : Refusal) → shown_report n p.tree.rows report command (Err why) ≡ reported n p report command (Refused why)
shown_refused n p reports.Replies command why = refl
shown_refused n p reports.Roots command why = refl
shown_refused n p reports.Sets command why = refl
shown_refused n p reports.Counts command why = refl
shown_refused n p (reports.Refused other) command why = refl

performed_one_by : (n : ℕ) (p : HostState) (outer : Outer) (script : ToldScript) (report : Report) (command : KeyCmd) (shown : Result Shown Refusal) (outcome : Outcome) (result : Result ℕ Halt) (before after : List ℕ) (made : List Taking)
    → Executes (Ok shown) outcome (told_world p outer script) made → OnOk result (after ≡ before ++ shown_report n p.keys.tree.rows report command shown) → IfOk result (λ count. count ≡ well_count shown) → OnErr result (result ≡ Err NoMemory)
    → PerformsOne result n report command outcome (told_world p outer script) before after made
performed_one_by n p outer script report command (Ok shown) (Does done) (Ok count) before after made executes printed counted ended =
    let same : done.world.present ≡ p = host_told p outer script done.world executes.1 in
    let text = shown_done n p.keys report command shown done.reply executes.0 in
    (executes.1, printed ∙ ap (λ out. before ++ out) (text.0 ∙ ap (λ q. reported n q.keys report command done.reply) (sym same)), executes.2, counted ∙ text.1)
performed_one_by n p outer script report command (Err why) (Does done) (Ok count) before after made executes printed counted ended =
    let same : done.world.present ≡ p = host_told p outer script done.world executes.1 in (
      executes.1,
      printed ∙ ap (λ out. before ++ out) (shown_refused n p.keys report command why ∙ ap (reported n p.keys report command) (sym executes.0) ∙ ap (λ q. reported n q.keys report command done.reply) (sym same)),
      executes.2,
      counted ∙ ap well_of (sym executes.0),
    )
performed_one_by n p outer script report command (Ok shown) (Does done) (Err halt) before after made executes printed counted ended =
    let memory : halt ≡ NoMemory = cc in subst (λ h. HaltsAt h (Does done) made) (sym memory) (front_all made done.takings executes.2)
performed_one_by n p outer script report command (Err why) (Does done) (Err halt) before after made executes printed counted ended =
    let memory : halt ≡ NoMemory = cc in subst (λ h. HaltsAt h (Does done) made) (sym memory) (front_all made done.takings executes.2)
performed_one_by n p outer script report command (Ok shown) (Halts number at w takings) result before after made executes printed counted ended = absurd executes
performed_one_by n p outer script report command (Err why) (Halts number at w takings) result before after made executes printed counted ended = absurd executes

pub performed_one : (n part : ℕ) (p new : HostState) (a d : Outer) (sa sd : ToldScript) (report : Report) (command : KeyCmd) (shown : Result Shown Refusal) (result : Result ℕ Halt) (before after : List ℕ)
    → ActsAs n part a d (λ made. WhereTold (told_world p a sa) made (λ entries w. Executes (Ok shown) (commanded (spot_of n part entries) w command) (told_world new d sd) made))
    → OnOk result (after ≡ before ++ shown_report n new.keys.tree.rows report command shown) → IfOk result (λ count. count ≡ well_count shown) → OnErr result (result ≡ Err NoMemory)
    → ActsAs n part a d (λ made. WhereTold (told_world p a sa) made (λ entries w. PerformsOne result n report command (commanded (spot_of n part entries) w command) (told_world new d sd) before after made))
performed_one n part p new a d sa sd report command shown result before after acts printed counted ended = record {
  made = acts.made;
  takes = acts.takes;
  said = (
    acts.said.0,
    λ entries agrees.
        on_told (told_world p a sa) (λ w. Executes (Ok shown) (commanded (spot_of n part entries) w command) (told_world new d sd) acts.made)
        (λ w. PerformsOne result n report command (commanded (spot_of n part entries) w command) (told_world new d sd) before after acts.made)
        (λ w executes. performed_one_by n new d sd report command shown (commanded (spot_of n part entries) w command) result before after acts.made executes printed counted ended) (acts.said.1 entries agrees),
  );
}

-- ---- a line

-- bytes that spell a line
pub spelled_ok : (n : ℕ) (p new : HostState) (a d : Outer) (sa sd : ToldScript) (line : Line) (outcome : Result Line ℕ) (result : Result (Unit {0}) Halt) (before after : List ℕ) → outcome ≡ Ok line
    → Acts n a d (λ made. WhereTold (told_world p a sa) made (λ entries w. HasAnswer result (answer_of n entries w line) (told_world new d sd) before after made))
    → Acts n a d (λ made. WhereTold (told_world p a sa) made (λ entries w. HasAnswer result (answer_if n entries w outcome) (told_world new d sd) before after made))
spelled_ok n p new a d sa sd line outcome result before after spells acts =
    subst (λ (o : Result Line ℕ). Acts n a d (λ made. WhereTold (told_world p a sa) made (λ entries w. HasAnswer result (answer_if n entries w o) (told_world new d sd) before after made))) (sym spells) acts

-- bytes that spell none, or for which memory was wanting
pub spelled_not : (n : ℕ) (p : HostState) (outer : Outer) (script : ToldScript) (stop : LineStop) (outcome : Result Line ℕ) (before after : List ℕ) → Spells (Err stop) outcome
    → Acts n outer outer (λ made. WhereTold (told_world p outer script) made (λ entries w. HasAnswer (Err (unspelled n stop)) (answer_if n entries w outcome) (told_world p outer script) before after made))
spelled_not n p outer script (line_stops.Bad at) outcome before after bad =
    nothing_acts n outer (λ made. WhereTold (told_world p outer script) made (λ entries w. HasAnswer (Err (BadLine n at)) (answer_if n entries w outcome) (told_world p outer script) before after made))
    (λ entries agrees. told_each p outer script (λ w. HasAnswer (Err (BadLine n at)) (answer_if n entries w outcome) (told_world p outer script) before after [])
    (λ files left here tells f e s. subst (λ (o : Result Line ℕ). HaltsIn (BadLine n at) (answer_if n entries (world_of p files left here) o) []) (sym bad) (refl, refl, refl)))
spelled_not n p outer script line_stops.NoMemory outcome before after none =
    nothing_acts n outer (λ made. WhereTold (told_world p outer script) made (λ entries w. HasAnswer (Err NoMemory) (answer_if n entries w outcome) (told_world p outer script) before after made))
    (λ entries agrees. told_each p outer script (λ w. HasAnswer (Err NoMemory) (answer_if n entries w outcome) (told_world p outer script) before after []) (λ files left here tells f e s. front_nil _))

-- ---- a call of the keystore that stops

pub replies_made : (stop : Stop) (reply : Reply) → AnswersMade (Err stop) reply → Replies (Err stop) reply
replies_made (stops.Refused why) reply answers = answers
replies_made stops.NoMemory reply answers = tt

pub replies_done : (stop : Stop) (reply : Reply) → AnswersDone (let stopped : Result (Unit {0}) Stop = Err stop in stopped) reply → Replies (Err stop) reply
replies_done (stops.Refused why) reply answers = answers
replies_done stops.NoMemory reply answers = tt

pub same_state : (T : Type 0) (stop : Stop) (before after : HostState) → host_after (let stopped : Result T Stop = Err stop in stopped) before after ≡ host_after (let stopped : Result Shown Stop = Err stop in stopped) before after
same_state T (stops.Refused why) before after = refl
same_state T stops.NoMemory before after = refl

-- a load, which is the same from every place

pub loaded_replies : (p : HostState) (command : KeyCmd) (name : List ℕ) (check_only : Bool) (place : Option Location) (kit : LineKit) → command ≡ commands.Load name check_only place
    → ((from : Option Location) → AnswersDone (let done : Result (Unit {0}) Stop = Ok tt in done) (host_step p (commands.Load name check_only from) kit).reply) → Replies (Ok shows.Done) (host_step p command kit).reply
loaded_replies p command name check_only place kit is answers =
    let done : (host_step p command kit).reply ≡ Done = ap (λ (c : KeyCmd). (host_step p c kit).reply) is ∙ answers place in
    subst IsDone (sym done) tt

pub unloaded_replies : (p : HostState) (command : KeyCmd) (name : List ℕ) (check_only : Bool) (place : Option Location) (kit : LineKit) (stop : Stop) → command ≡ commands.Load name check_only place
    → ((from : Option Location) → AnswersDone (let stopped : Result (Unit {0}) Stop = Err stop in stopped) (host_step p (commands.Load name check_only from) kit).reply) → Replies (Err stop) (host_step p command kit).reply
unloaded_replies p command name check_only place kit stop is answers =
    subst (λ (c : KeyCmd). Replies (Err stop) (host_step p c kit).reply) (sym is) (replies_done stop (host_step p (commands.Load name check_only place) kit).reply (answers place))

pub loaded_state : (T : Type 0) (p new : HostState) (command : KeyCmd) (name : List ℕ) (check_only : Bool) (place : Option Location) (kit : LineKit) (result : Result T Stop) → command ≡ commands.Load name check_only place
    → ((from : Option Location) → new ≡ host_after result p (host_step p (commands.Load name check_only from) kit).state) → new ≡ host_after result p (host_step p command kit).state
loaded_state T p new command name check_only place kit result is state = state place ∙ ap (λ (c : KeyCmd). host_after result p (host_step p c kit).state) (sym is)
