-- What a line asks for.
use Rattle.std.proofs.Common.{◌≡◌, ℕ, zero, suc, ◌<◌, Bool, true, false, List, [], ◌∷◌, ◌≤◌, length, map, get_or, Option, Some, None, Result, Ok, Err, IfOk, ap, sym, ◌∙◌, subst, arith}
use Rattle.std.proofs.lemmas.List.{get_or-map, length-append, length-map}
use Rattle.std.specs.Prelude.{if◌then◌else◌}
use Rattle.std.specs.declared.alloc.AllocError.{AllocError}
use Rattle.std.specs.List.{AllByRecursion, AllPairs, flat_map}
use Rattle.dataset_tree.specs.declared.refusal.Refusal.{Refusal}
use Rattle.dataset_tree.specs.declared.refusal.Stop.{Stop}
use Rattle.dataset_tree.specs.declared.refusal.Stop.TheVariants as stops
use Rattle.dataset_tree.specs.declared.tree.Row.{Row}
use Rattle.dataset_tree.specs.Refusal.{Gives}
use Rattle.dataset_tree.specs.SetName.{named}
use Rattle.dataset_tree.specs.ShortNames.{file_named}
use Rattle.dataset_tree.specs.SnapName.{snap_named}
use Rattle.dataset_tree.specs.declared.snap_name.SnapName.{SnapName}
use Rattle.dataset_tree.specs.Tree.{id_named, row_of}
use Rattle.encryption_roots.specs.declared.command.KeyCmd.{KeyCmd}
use Rattle.encryption_roots.specs.declared.command.KeyCmd.TheVariants as commands
use Rattle.encryption_roots.specs.declared.props.Props.{Props}
use Rattle.encryption_roots.specs.ById.{IsRisingById}
use Rattle.encryption_roots.specs.Owned.{roots_below}
use Rattle.encryption_roots.proofs.OwnedLemmas.{below_rise}
use Rattle.file_dataset.specs.declared.command.FileCmd.{FileCmd}
use Rattle.file_dataset.specs.declared.command.FileCmd.TheVariants as files
use Rattle.key_ciphers.specs.Ciphers.{ciphers}
use Rattle.key_machine.specs.Plain.{Plain}
use Rattle.key_machine.specs.Sound.{Sound}
use Rattle.shell_lines.specs.declared.line.Line.{Line}
use Rattle.shell_lines.specs.declared.line.Line.TheVariants.{Silent, Create, LoadKey, UnloadKey, ChangeKey, InheritKey, LoadBelow, LoadAll, UnloadBelow, UnloadAll, Mount, Unmount, Get, Touch, Remove, Write, Read, Truncate, Files, Verify, Snapshot, Clone, Destroy, List as ListSets, Counts as ShowCounts}
use Rattle.shell_lines.specs.Sized.{HasRecordSize}
use Rattle.shell_run.specs.declared.job.SpotName.{SpotName}
use Rattle.shell_run.specs.declared.task.RootAction.{RootAction}
use Rattle.shell_run.specs.declared.task.RootAction.TheVariants.{Load, Unload}
use Rattle.shell_run.specs.declared.task.Task.{Task}
use Rattle.shell_run.specs.Answers.{AreOfLine, GivesTask, IsOfLine, IsSeedless, IsTask}
use Rattle.shell_run.specs.Tasks.{Asked, all_roots, asked_if, command_at, command_named, command_on as root_commands, is_tried, on_roots, one_command, root_command, roots_named, roots_under}
use Rattle.shell_run.specs.declared.job.LineJob.TheVariants as jobs
use Rattle.shell_run.specs.JobAnswers.{IsJob}
use Rattle.shell_run.specs.Jobs.{Job, clone_from, clone_if, command_on, destroy_if, job_if, job_of, on_clone, on_destroy, on_files, on_keys, on_snapshot, result_in, spot_named}
use Rattle.shell_run.proofs.TakingLemmas.{all_both}

-- a task is what is asked of something that a line names, or why it names none
pub asked_by : (A : Type 0) (asked : A → Asked) (result : Result Task AllocError) (given : Result A Stop) (named : Result A Refusal) → Gives given named → GivesTask asked result given → IfOk result (λ task. IsTask task (asked_if asked named))
asked_by A asked (Err stop) given named gives task = tt
asked_by A asked (Ok made) (Ok given) named gives task = subst (λ (n : Result A Refusal). IsTask made (asked_if asked n)) (sym gives) task
asked_by A asked (Ok made) (Err (stops.Refused why)) named gives task = subst (λ (n : Result A Refusal). IsTask made (asked_if asked n)) (sym gives) task
asked_by A asked (Ok made) (Err stops.NoMemory) named gives task = absurd task

-- ---- commands of a line

none_of_line : AreOfLine []
none_of_line = record { each = tt; seedless = λ several. tt }

one_of_line : (command : KeyCmd) → IsOfLine command → AreOfLine (command ∷ [])
one_of_line command of_line = record { each = (of_line, tt); seedless = λ several. absurd (omega (arith, several)) }

name_of_line : (command : List ℕ → KeyCmd) (given : Result (List ℕ) Refusal) → ((name : List ℕ) → IsOfLine (command name)) → AreOfLine (asked_if one_command (command_named command given)).commands
name_of_line command (Ok name) of_line = one_of_line (command name) (of_line name)
name_of_line command (Err why) of_line = none_of_line

at_row : (P : KeyCmd → Type 0) (action : RootAction) (row : Option Row) → ((name : List ℕ) → P (root_command action name)) → AllByRecursion P (command_at action row)
at_row P action None holds = tt
at_row P action (Some row) holds = (holds row.name, tt)

at_root : (P : KeyCmd → Type 0) (action : RootAction) (row : Option Row) (b : Bool) → ((name : List ℕ) → P (root_command action name)) → AllByRecursion P (if b then command_at action row else [])
at_root P action row true holds = at_row P action row holds
at_root P action row false holds = tt

at_roots : (P : KeyCmd → Type 0) (p : Plain) (action : RootAction) (roots : List ℕ) → ((name : List ℕ) → P (root_command action name)) → AllByRecursion P (flat_map (root_commands p action) roots)
at_roots P p action [] holds = tt
at_roots P p action (root ∷ roots) holds =
    all_both P (root_commands p action root) (flat_map (root_commands p action) roots) (at_root P action (row_of root p.tree.rows) (is_tried p action root) holds) (at_roots P p action roots holds)

root_of_line : (action : RootAction) (name : List ℕ) → IsOfLine (root_command action name)
root_of_line (Load check_only) name = tt
root_of_line Unload name = tt

root_seedless : (action : RootAction) (name : List ℕ) → IsSeedless (root_command action name)
root_seedless (Load check_only) name = tt
root_seedless Unload name = tt

roots_of_line : (p : Plain) (action : RootAction) (given : Result (List ℕ) Refusal) → AreOfLine (on_roots p action given).commands
roots_of_line p action (Ok roots) = record { each = at_roots IsOfLine p action roots (root_of_line action); seedless = λ several. at_roots IsSeedless p action roots (root_seedless action) }
roots_of_line p action (Err why) = none_of_line

-- commands of the keystore, as a line may give them
abbrev JobOfLine : Job → Type 0
JobOfLine (on_keys asked) = AreOfLine asked.commands
JobOfLine (on_files command) = Unit {0}
JobOfLine (on_snapshot name) = Unit {0}
JobOfLine (on_clone from name) = Unit {0}
JobOfLine (on_destroy spot) = Unit {0}

file_of_line : (given : Result FileCmd Refusal) → JobOfLine (job_if given)
file_of_line (Ok command) = tt
file_of_line (Err why) = none_of_line

clone_of_line : (from : Result SnapName Refusal) (name : Result (List ℕ) Refusal) → JobOfLine (clone_if from name)
clone_of_line (Ok from) (Ok name) = tt
clone_of_line (Ok from) (Err why) = none_of_line
clone_of_line (Err why) name = none_of_line

destroy_of_line : (spot : Result SpotName Refusal) → JobOfLine (destroy_if spot)
destroy_of_line (Ok spot) = tt
destroy_of_line (Err why) = none_of_line

job_of_line : (p : Plain) (line : Line) → HasRecordSize line → JobOfLine (job_of p line)
job_of_line p Silent sized = none_of_line
job_of_line p ListSets sized = none_of_line
job_of_line p ShowCounts sized = none_of_line
job_of_line p (Create word opts) sized = name_of_line (λ name. commands.Create name opts) (named word) (λ name. sized)
job_of_line p (LoadKey word check_only place) sized = name_of_line (λ name. commands.Load name check_only place) (named word) (λ name. tt)
job_of_line p (LoadBelow word check_only) sized = roots_of_line p (Load check_only) (roots_named p (named word))
job_of_line p (LoadAll check_only) sized = roots_of_line p (Load check_only) (Ok (all_roots p))
job_of_line p (UnloadKey word) sized = name_of_line (λ name. commands.Unload name) (named word) (λ name. tt)
job_of_line p (UnloadBelow word) sized = roots_of_line p Unload (roots_named p (named word))
job_of_line p UnloadAll sized = roots_of_line p Unload (Ok (all_roots p))
job_of_line p (ChangeKey word opts load_first) sized = name_of_line (λ name. commands.Change name opts load_first) (named word) (λ name. tt)
job_of_line p (InheritKey word load_first) sized = name_of_line (λ name. commands.Inherit name load_first) (named word) (λ name. tt)
job_of_line p (Mount word) sized = name_of_line (λ name. commands.Mount name) (named word) (λ name. tt)
job_of_line p (Unmount word) sized = name_of_line (λ name. commands.Unmount name) (named word) (λ name. tt)
job_of_line p (Get prop word) sized = name_of_line (λ name. commands.Get name prop) (named word) (λ name. tt)
job_of_line p (Touch word file) sized = file_of_line (command_on (λ set name. files.Touch set name) (named word) (file_named file))
job_of_line p (Remove word file) sized = file_of_line (command_on (λ set name. files.Remove set name) (named word) (file_named file))
job_of_line p (Write word file from bytes) sized = file_of_line (command_on (λ set name. files.Write set name from bytes) (named word) (file_named file))
job_of_line p (Read word file from len) sized = file_of_line (command_on (λ spot name. files.Read spot.set spot.snap name from len) (spot_named word) (file_named file))
job_of_line p (Truncate word file to) sized = file_of_line (command_on (λ set name. files.Cut set name to) (named word) (file_named file))
job_of_line p (Files word) sized = file_of_line (result_in (λ spot. files.Names spot.set spot.snap) (spot_named word))
job_of_line p (Verify word) sized = file_of_line (result_in (λ spot. files.Verify spot.set spot.snap) (spot_named word))
job_of_line p (Snapshot word) sized = tt
job_of_line p (Clone from word) sized = clone_of_line (snap_named from) (named word)
job_of_line p (Destroy word) sized = destroy_of_line (spot_named word)

task_by : (job : Job) (task : Task) (all : List KeyCmd) → JobOfLine job → IsJob (jobs.Keys task) job → all ≡ task.commands.items → AreOfLine all
task_by (on_keys asked) task all of_line is same = subst AreOfLine (sym (same ∙ is.0.commands)) of_line
task_by (on_files command) task all of_line is same = absurd is
task_by (on_snapshot name) task all of_line is same = absurd is
task_by (on_clone from name) task all of_line is same = absurd is
task_by (on_destroy spot) task all of_line is same = absurd is

pub task_of_line : (p : Plain) (line : Line) (task : Task) (all : List KeyCmd) → HasRecordSize line → IsJob (jobs.Keys task) (job_of p line) → all ≡ task.commands.items → AreOfLine all
task_of_line p line task all sized is same = task_by (job_of p line) task all (job_of_line p line sized) is same

-- ---- how many there are

row_few : (action : RootAction) (row : Option Row) (b : Bool) → length (let commands : List KeyCmd = if b then command_at action row else [] in commands) ≤ 1
row_few action None true = omega arith
row_few action (Some row) true = omega arith
row_few action row false = omega arith

few_commands : (p : Plain) (action : RootAction) (roots : List ℕ) → length (flat_map (root_commands p action) roots) ≤ length roots
few_commands p action [] = omega arith
few_commands p action (root ∷ roots) =
    let one : length (root_commands p action root) ≤ 1 = row_few action (row_of root p.tree.rows) (is_tried p action root) in
    let later : length (flat_map (root_commands p action) roots) ≤ length roots = few_commands p action roots in
    omega (arith, one, later, length-append (root_commands p action root) (flat_map (root_commands p action) roots))

rising_above : (ids : List ℕ) → AllPairs (λ earlier later. earlier < later) ids → (k d : ℕ) → k < length ids → k ≤ get_or ids k d
rising_above ids rising zero d within = omega arith
rising_above ids rising (suc k) d within =
    let before : k ≤ get_or ids k d = rising_above ids rising k d (omega (arith, within)) in
    let step : get_or ids k d < get_or ids (suc k) d = rising k (suc k) d (omega arith) within in
    omega (arith, before, step)

-- ids that rise are no more than there are ids
few_ids : (ids : List ℕ) → AllPairs (λ earlier later. earlier < later) ids → ((k : ℕ) → get_or ids k 0 < 4294967296) → length ids ≤ 4294967296
few_ids [] rising fits = omega arith
few_ids (id ∷ ids) rising fits =
    let above : length ids ≤ get_or (id ∷ ids) (length ids) 0 = rising_above (id ∷ ids) rising (length ids) 0 (omega arith) in
    omega (arith, above, fits (length ids))

pub few_on_roots : (p : Plain) (action : RootAction) (roots : List ℕ) (all : List KeyCmd) → AllPairs (λ earlier later. earlier < later) roots → ((k : ℕ) → get_or roots k 0 < 4294967296) → all ≡ flat_map (root_commands p action) roots
    → length all ≤ 4294967296
few_on_roots p action roots all rising fits same =
    let few : length (flat_map (root_commands p action) roots) ≤ length roots = few_commands p action roots in
    let long : length all ≡ length (flat_map (root_commands p action) roots) = ap (λ (cs : List KeyCmd). length cs) same in
    omega (arith, few, few_ids roots rising fits, long)

ids_rise : (entries : List (ℕ × Props)) → IsRisingById entries → AllPairs (λ earlier later. earlier < later) (map (λ entry. entry.0) entries)
ids_rise [] rising = λ k j d before within. absurd (omega (arith, within))
ids_rise (entry ∷ entries) rising = λ k j d before within.
    let all : List (ℕ × Props) = entry ∷ entries in
    let id : ℕ × Props → ℕ = λ (one : ℕ × Props). one.0 in
    let long : length (map id all) ≡ length all = length-map all id in
    let there : j < length all = omega (arith, within, long) in
    let here : k < length all = omega (arith, before, there) in
    let low : get_or (map id all) k d ≡ (get_or all k entry).0 = get_or-map id all k entry d here in
    let high : get_or (map id all) j d ≡ (get_or all j entry).0 = get_or-map id all j entry d there in
    let step : (get_or all k entry).0 < (get_or all j entry).0 = rising k j entry before there in
    omega (arith, low, high, step)

pub all_rise : (p : Plain) → Sound ciphers p → (roots ids : List ℕ) → roots ≡ all_roots p → ids ≡ roots → AllPairs (λ earlier later. earlier < later) ids
all_rise p sound roots ids is same = subst (λ (xs : List ℕ). AllPairs (λ earlier later. earlier < later) xs) (sym (same ∙ is)) (ids_rise p.roots sound.tree.roots)

under_rise : (p : Plain) → Sound ciphers p → (found : Option ℕ) (roots : List ℕ) → roots_under p found ≡ Ok roots → AllPairs (λ earlier later. earlier < later) roots
under_rise p sound None roots is = absurd (cc)
under_rise p sound (Some id) roots is =
    let same : roots_below p.tree.rows p.roots id ≡ roots = cc in subst (λ (xs : List ℕ). AllPairs (λ earlier later. earlier < later) xs) same (below_rise p.tree p.roots id sound.tree.tree)

named_rise : (p : Plain) → Sound ciphers p → (given : Result (List ℕ) Refusal) (roots : List ℕ) → roots_named p given ≡ Ok roots → AllPairs (λ earlier later. earlier < later) roots
named_rise p sound (Ok name) roots is = under_rise p sound (id_named name p.tree.rows) roots is
named_rise p sound (Err why) roots is = absurd (cc)

pub roots_rise : (p : Plain) → Sound ciphers p → (given : Result (List ℕ) Refusal) (roots ids : List ℕ) → roots_named p given ≡ Ok roots → ids ≡ roots → AllPairs (λ earlier later. earlier < later) ids
roots_rise p sound given roots ids is same = subst (λ (xs : List ℕ). AllPairs (λ earlier later. earlier < later) xs) (sym same) (named_rise p sound given roots is)
