-- What the calls that carry out a line say of their answers.
use Rattle.std.specs.Prelude.{◌≡◌, ℕ, ◌≤◌, Bool, true, false, ◌||◌, is_some, length, take, drop, List, ◌++◌, [], IfSome, IsSomeAnd, Result, Ok, Err, if◌then◌else◌}
use lib.Chars.{codes}
use Rattle.std.specs.declared.alloc.AllocError.{AllocError}
use Rattle.std.specs.declared.option.Option.{Option}
use Rattle.std.specs.declared.option.Option.TheVariants.{Some, None}
use Rattle.std.specs.List.{AllByRecursion}
use Rattle.std.specs.Option.{option_map}
use Rattle.edge_io.specs.Counts.{one_more}
use Rattle.edge_io.specs.Entropy.{is_short}
use Rattle.edge_io.specs.Faults.{Rose}
use Rattle.dataset_tree.specs.declared.refusal.Refusal.{Refusal as Why}
use Rattle.dataset_tree.specs.declared.refusal.Stop.{Stop}
use Rattle.dataset_tree.specs.declared.refusal.Stop.TheVariants as stops
use Rattle.dataset_tree.specs.declared.tree.Row.{Row}
use Rattle.encryption_roots.specs.declared.command.KeyCmd.{KeyCmd}
use Rattle.encryption_roots.specs.declared.command.KeyCmd.TheVariants as commands
use Rattle.encryption_roots.specs.declared.kit.Fetched.{Fetched}
use Rattle.encryption_roots.specs.declared.kit.Fetched.TheVariants as fetches
use Rattle.encryption_roots.specs.declared.kit.SeedGot.{SeedGot}
use Rattle.encryption_roots.specs.declared.kit.SeedGot.TheVariants as seeds
use Rattle.encryption_roots.specs.declared.kit.LineKit.{LineKit}
use Rattle.encryption_roots.specs.declared.props.Location.{Location}
use Rattle.encryption_roots.specs.RecordSize.{IsRecordSize}
use Rattle.key_machine.specs.Fair.{WasAsked, SeedWasAsked}
use Rattle.key_machine.specs.Reply.{Reply, Done, Made, Text, Refused, Reaped, Skipped}
use Rattle.key_machine.specs.Told.{Wanted}
use Rattle.key_store.specs.declared.needs.Needs.{Needs}
use Rattle.shell_lines.specs.declared.line.LineStop.{LineStop}
use Rattle.shell_lines.specs.declared.line.LineStop.TheVariants as line_stops
use Rattle.shell_run.specs.declared.command.Shown.{Shown}
use Rattle.shell_run.specs.declared.command.Shown.TheVariants as shows
use Rattle.shell_run.specs.declared.ending.Halt.{Halt}
use Rattle.shell_run.specs.declared.ending.Halt.TheVariants.{BadLine, ReadFault, NoMemory}
use Rattle.shell_run.specs.declared.found.FoundEntry.{FoundEntry}
use Rattle.shell_run.specs.declared.task.Report.{Report}
use Rattle.shell_run.specs.declared.task.Report.TheVariants as reports
use Rattle.shell_run.specs.declared.task.Task.{Task}
use Rattle.shell_run.specs.Outer.{Calls, Outer, Takes}
use Rattle.shell_run.specs.Ran.{IsFront}
use Rattle.shell_run.specs.Reports.{is_refusal, name_in, reported}
use Rattle.shell_run.specs.Tasks.{Asked, no_command}
use Rattle.shell_run.specs.Script.{Script, ToldScript, Gives, Stops, prompted, script_told}
use Rattle.shell_run.specs.Takings.{Taking, has_entry, fills_of}
use Rattle.shell_run.specs.Texts.{ok_line, text_line, error_line, error_text, key_line}
use Rattle.shell_run.specs.Transcript.{World, Spot, fetch_at, material_at, fill_at, seed_from, Supply, Has, Lacks, kit_of, Outcome, Does, Halts, Answer, Goes, Ends}

-- ---- the script

-- the count of faults of the script's source over a part of a line: it rose where a read failed, and else stayed
abbrev pub HaltFaults : Option Halt → (before now : ℕ) → Type 0
HaltFaults (Some ReadFault) before now = (before ≤ now) × Rose before now
HaltFaults halt before now = now ≡ before

-- A part of a line has read the script: the number of the next line doesn't fall, and what was told still is,
-- where the run goes on.
pub record Reads (halt : Option Halt) (old new : ToldScript) (before now : ℕ) : Type 0 where
  pub later : old.next ≤ new.next
  pub told : halt ≡ None → is_some old.ahead ≡ true → is_some new.ahead ≡ true
  pub faults : HaltFaults halt before now

-- a prompt gave this material
abbrev pub PromptGives : (material : List ℕ) → ToldScript → ToldScript → Type 0
PromptGives material old new =
    IfSome (script_told old) (λ script. IsSomeAnd (script_told new) (λ left. prompted script ≡ Gives material left))

-- a prompt ended the run
abbrev pub PromptStops : Halt → ToldScript → Type 0
PromptStops (BadLine number at) old = IfSome (script_told old) (λ script. prompted script ≡ Stops number at)
PromptStops ReadFault old = Unit {0}
PromptStops NoMemory old = Unit {0}

-- ---- takings

-- a list has an entry for each of these takings that fails, and for no other of them
abbrev pub Agrees : List FoundEntry → List Taking → Type 0
Agrees entries made = AllByRecursion (λ taking. has_entry taking.entry entries ≡ taking.fails) made

-- A part of line n has made takings, of which more is said.
pub record Acts (n : ℕ) (old new : Outer) (Said : List Taking → Type 0) : Type 0 where
  pub made : List Taking
  pub takes : Takes (λ line. line ≡ n) made old new
  pub said : Said made

-- the command of this part of line n has made takings
abbrev pub ActsAs : (n part : ℕ) → (old new : Outer) → (Said : List Taking → Type 0) → Type 0
ActsAs n part old new Said =
    Acts n old new (λ made. AllByRecursion (λ taking. taking.entry.part ≡ part) made × Said made)

-- What is said where the world is told, and of each list that agrees with what was taken.
abbrev pub WhereTold : Option World → List Taking → (List FoundEntry → World → Type 0) → Type 0
WhereTold world made Said = (entries : List FoundEntry) → Agrees entries made → IfSome world (λ w. Said entries w)

abbrev pub is_fault : Fetched → Bool
is_fault fetches.NotAsked = false
is_fault (fetches.Got material) = false
is_fault fetches.Missing = false
is_fault fetches.Fault = true

abbrev pub is_seed_fault : SeedGot → Bool
is_seed_fault seeds.NotAsked = false
is_seed_fault (seeds.Got seed) = false
is_seed_fault seeds.Fault = true

-- whether a fetch failed, want of memory apart
abbrev pub fetch_fails : Result Fetched AllocError → Bool
fetch_fails (Ok fetched) = is_fault fetched
fetch_fails (Err stop) = false

-- the count of faults rose, or stayed
abbrev pub CountsFault : Bool → ℕ → ℕ → Type 0
CountsFault true before now = (before ≤ now) × Rose before now
CountsFault false before now = now ≡ before

-- One call was made, and failed or not; what is known of that beforehand was right.
pub record IsCalled (known : Option Bool) (fails : Bool) (old new : Calls) : Type 0 where
  pub made : new.made ≡ option_map one_more old.made
  pub failing : new.failing ≡ old.failing
  pub faults : CountsFault fails old.faults new.faults
  pub as_known : IfSome known (λ listed. fails ≡ listed)

abbrev pub taking_with : FoundEntry → Bool → Taking
taking_with entry fails = record { entry = entry; fails = fails }

-- the material at a place was taken, as this entry, or a prompt ends the run
abbrev pub Fetches : Result Fetched Halt → FoundEntry → Option Location → Option (List (List ℕ × List ℕ))
    → (old new : ToldScript) → List Taking → Type 0
Fetches (Ok fetched) entry place files old new made =
    (made ≡ fetch_at (taking_with entry (is_fault fetched)) place)
    × IfSome files (λ files. IfSome (script_told old) (λ script. IsSomeAnd (script_told new) (λ left.
    material_at (taking_with entry (is_fault fetched)) files script place ≡ Gives fetched left)))
Fetches (Err (BadLine number at)) entry place files old new made =
    (made ≡ []) × IfSome files (λ files. IfSome (script_told old)
    (λ script. material_at (taking_with entry false) files script place ≡ Stops number at))
Fetches (Err ReadFault) entry place files old new made = made ≡ []
Fetches (Err NoMemory) entry place files old new made = IsFront made (fetch_at (taking_with entry false) place)

-- a seed was taken, if it was wanted
abbrev pub Fills : Result SeedGot AllocError → FoundEntry → Bool → Option (List ℕ) → List Taking → Type 0
Fills (Ok seed) entry wanted entropy made =
    (made ≡ fill_at (taking_with entry (is_seed_fault seed)) wanted)
    × IfSome entropy (λ left. (seed ≡ seed_from (taking_with entry (is_seed_fault seed)) left wanted)
    × (wanted ≡ true → is_seed_fault seed || is_short left ≡ is_seed_fault seed))
Fills (Err stop) entry wanted entropy made = made ≡ []

-- a seed that was got is the next 32 of these bytes, and a failed one took none
abbrev pub FillsFrom : List ℕ → Option (List ℕ) → SeedGot → Type 0
FillsFrom left now seeds.NotAsked = ⊥
FillsFrom left now (seeds.Got seed) = (is_short left ≡ false) × (seed ≡ take 32 left) × (now ≡ Some (drop 32 left))
FillsFrom left now seeds.Fault = now ≡ Some left

abbrev pub wants_of : Needs → Wanted
wants_of needs = record { old_place = needs.old_place; new_place = needs.new_place; seed = needs.seed }

abbrev pub spot_of : (n part : ℕ) → List FoundEntry → Spot
spot_of n part entries = record { line = n; part = part; entries = entries }

abbrev pub supply_takings : Supply → List Taking
supply_takings (Has kit left takings) = takings
supply_takings (Lacks number at takings) = takings

-- what is wanted was taken, and this is left of the script; or the run is over in the midst of that
abbrev pub GivesKit : Result LineKit Halt → Supply → Option Script → List Taking → Type 0
GivesKit (Ok kit) supply new made = IsSomeAnd new (λ left. supply ≡ Has kit left made)
GivesKit (Err (BadLine number at)) supply new made = supply ≡ Lacks number at made
GivesKit (Err ReadFault) supply new made = IsFront made (supply_takings supply) × (fills_of made ≡ [])
GivesKit (Err NoMemory) supply new made = IsFront made (supply_takings supply)

abbrev pub TakesKit : Result LineKit Halt → (n part : ℕ) → Wanted → List FoundEntry → Outer
    → (old new : ToldScript) → List Taking → Type 0
TakesKit result n part wants entries outer old new made =
    IfSome outer.files (λ files. IfSome outer.entropy (λ left. IfSome (script_told old) (λ script.
    GivesKit result (kit_of (spot_of n part entries) files left script wants) (script_told new) made)))

-- a kit has what is wanted
pub record HasWanted (needs : Needs) (kit : LineKit) : Type 0 where
  pub old_key : is_some needs.old_place ≡ true → WasAsked kit.old_key
  pub new_key : is_some needs.new_place ≡ true → WasAsked kit.new_key
  pub seed : needs.seed ≡ true → SeedWasAsked kit.seed

-- ---- a command

-- A command that a line of the language may give: the record size of a create, where it has one, is in form.
abbrev pub IsOfLine : KeyCmd → Type 0
IsOfLine (commands.Create name opts) = IfSome opts.block IsRecordSize
IsOfLine (commands.Load name check_only place) = Unit {0}
IsOfLine (commands.Unload name) = Unit {0}
IsOfLine (commands.Change name opts load_first) = Unit {0}
IsOfLine (commands.Inherit name load_first) = Unit {0}
IsOfLine (commands.Mount name) = Unit {0}
IsOfLine (commands.Unmount name) = Unit {0}
IsOfLine (commands.Get name prop) = Unit {0}
IsOfLine (commands.Clone from name) = ⊥
IsOfLine (commands.Receive name props wrapped block) = ⊥
IsOfLine (commands.Destroy name snaps) = ⊥

-- a command that takes no seed
abbrev pub IsSeedless : KeyCmd → Type 0
IsSeedless (commands.Create name opts) = ⊥
IsSeedless (commands.Load name check_only place) = Unit {0}
IsSeedless (commands.Unload name) = Unit {0}
IsSeedless (commands.Change name opts load_first) = ⊥
IsSeedless (commands.Inherit name load_first) = ⊥
IsSeedless (commands.Mount name) = Unit {0}
IsSeedless (commands.Unmount name) = Unit {0}
IsSeedless (commands.Get name prop) = Unit {0}
IsSeedless (commands.Clone from name) = ⊥
IsSeedless (commands.Receive name props wrapped block) = ⊥
IsSeedless (commands.Destroy name snaps) = ⊥

-- Commands of one line: of several none takes a seed.
pub record AreOfLine (commands : List KeyCmd) : Type 0 where
  pub each : AllByRecursion IsOfLine commands
  pub seedless : 2 ≤ length commands → AllByRecursion IsSeedless commands

abbrev pub IsDone : Reply → Type 0
IsDone Done = Unit {0}
IsDone (Made id) = Unit {0}
IsDone (Text text) = ⊥
IsDone (Refused why) = ⊥
IsDone (Reaped dataset dropped) = ⊥
IsDone Skipped = ⊥

-- what is shown is this reply, want of memory apart
abbrev pub Replies : Result Shown Stop → Reply → Type 0
Replies (Ok shows.Done) reply = IsDone reply
Replies (Ok (shows.Text text)) reply = reply ≡ Text text
Replies (Err (stops.Refused why)) reply = reply ≡ Refused why
Replies (Err stops.NoMemory) reply = Unit {0}

-- what a call that takes no memory shows
abbrev pub shown_unless : Result (Unit {0}) Why → Result Shown Stop
shown_unless (Ok done) = Ok shows.Done
shown_unless (Err why) = Err (stops.Refused why)

-- want of memory ends the run
abbrev pub settled : Result Shown Stop → Result (Result Shown Why) Halt
settled (Ok shown) = Ok (Ok shown)
settled (Err (stops.Refused why)) = Ok (Err why)
settled (Err stops.NoMemory) = Err NoMemory

-- the takings of an outcome and of an answer, whichever it is
abbrev pub outcome_takings : Outcome → List Taking
outcome_takings (Does done) = done.takings
outcome_takings (Halts number at w takings) = takings

abbrev pub answer_takings : Answer → List Taking
answer_takings (Goes turn) = turn.takings
answer_takings (Ends number at w takings) = takings

-- The run is over in the midst of a command that has this outcome. A fault of the script comes before the
-- command's seed.
abbrev pub HaltsAt : Halt → Outcome → List Taking → Type 0
HaltsAt (BadLine number at) (Does done) made = ⊥
HaltsAt (BadLine number at) (Halts m place w takings) made = (m ≡ number) × (place ≡ at) × (made ≡ takings)
HaltsAt ReadFault outcome made = IsFront made (outcome_takings outcome) × (fills_of made ≡ [])
HaltsAt NoMemory outcome made = IsFront made (outcome_takings outcome)

-- The run is over in the midst of a line that has this answer. A fault of the script comes before the line's seed.
abbrev pub HaltsIn : Halt → Answer → List Taking → Type 0
HaltsIn (BadLine number at) (Goes turn) made = ⊥
HaltsIn (BadLine number at) (Ends m place w takings) made = (m ≡ number) × (place ≡ at) × (made ≡ takings)
HaltsIn ReadFault answer made = IsFront made (answer_takings answer) × (fills_of made ≡ [])
HaltsIn NoMemory answer made = IsFront made (answer_takings answer)

-- a command was carried out as it is defined, or the run is over in the midst of it
abbrev pub Executes : Result (Result Shown Why) Halt → Outcome → Option World → List Taking → Type 0
Executes (Ok (Ok shown)) (Does done) new made =
    Replies (Ok shown) done.reply × (new ≡ Some done.world) × (made ≡ done.takings)
Executes (Ok (Err why)) (Does done) new made =
    (done.reply ≡ Refused why) × (new ≡ Some done.world) × (made ≡ done.takings)
Executes (Ok (Ok shown)) (Halts number at w takings) new made = ⊥
Executes (Ok (Err why)) (Halts number at w takings) new made = ⊥
Executes (Err halt) outcome new made = HaltsAt halt outcome made

-- how many commands went well, of one that has this reply
abbrev pub well_of : Reply → ℕ
well_of reply = if is_refusal reply then 0 else 1

-- a command of line n was carried out, its report added, and it counted, or the run is over in the midst of it
abbrev pub PerformsOne : Result ℕ Halt → ℕ → Report → KeyCmd → Outcome → Option World → (before after : List ℕ)
    → List Taking → Type 0
PerformsOne (Ok count) n report command (Does done) new before after made =
    (new ≡ Some done.world) × (after ≡ before ++ reported n done.world.present.keys report command done.reply)
    × (made ≡ done.takings) × (count ≡ well_of done.reply)
PerformsOne (Ok count) n report command (Halts number at w takings) new before after made = ⊥
PerformsOne (Err halt) n report command outcome new before after made = HaltsAt halt outcome made

-- ---- a line

-- a line had its turn, or the run is over in the midst of it
abbrev pub HasAnswer : Result (Unit {0}) Halt → Answer → Option World → (before after : List ℕ) → List Taking → Type 0
HasAnswer (Ok done) (Goes turn) new before after made =
    (new ≡ Some turn.world) × (after ≡ before ++ turn.output) × (made ≡ turn.takings)
HasAnswer (Ok done) (Ends number at w takings) new before after made = ⊥
HasAnswer (Err halt) answer new before after made = HaltsIn halt answer made

-- what is printed of a result
abbrev pub shown_output : ℕ → List Row → Result Shown Why → List ℕ
shown_output n rows (Ok shows.Done) = ok_line n
shown_output n rows (Ok (shows.Text text)) = text_line n text
shown_output n rows (Err why) = error_line n rows why

abbrev pub shown_root : List Row → Result Shown Why → List ℕ
shown_root rows (Ok shown) = codes "ok"
shown_root rows (Err why) = error_text rows why

abbrev pub shown_report : ℕ → List Row → Report → KeyCmd → Result Shown Why → List ℕ
shown_report n rows reports.Replies command shown = shown_output n rows shown
shown_report n rows reports.Roots command shown = key_line n (name_in command) (shown_root rows shown)
shown_report n rows reports.Sets command shown = []
shown_report n rows reports.Counts command shown = []
shown_report n rows (reports.Refused why) command shown = []

abbrev pub well_count : Result Shown Why → ℕ
well_count (Ok shown) = 1
well_count (Err why) = 0

-- ---- what a line asks for

-- a task is what is asked
pub record IsTask (task : Task) (asked : Asked) : Type 0 where
  pub commands : task.commands.items ≡ asked.commands
  pub report : task.report ≡ asked.report

-- a refusal is the one that is named; want of memory is free
abbrev pub StopsBy : {A : Type 0} → Stop → Result A Why → Type 0
StopsBy (stops.Refused why) given = given ≡ Err why
StopsBy stops.NoMemory given = Unit {0}

-- The task of something that a line names, or of the reason why it names none; want of memory gives none.
abbrev pub GivesTask : {A : Type 0} → (A → Asked) → Result Task AllocError → Result A Stop → Type 0
GivesTask asked (Ok task) (Ok given) = IsTask task (asked given)
GivesTask asked (Ok task) (Err (stops.Refused why)) = IsTask task (no_command (reports.Refused why))
GivesTask asked (Ok task) (Err stops.NoMemory) = ⊥
GivesTask asked (Err stop) given = Unit {0}

-- how the run ends whose line n has bytes that spell none
abbrev pub unspelled : ℕ → LineStop → Halt
unspelled n (line_stops.Bad at) = BadLine n at
unspelled n line_stops.NoMemory = NoMemory
