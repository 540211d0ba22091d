-- What a line asks for: commands of the keystore, and how it reports of them; a command about files; or one about
-- snapshots and clones.
use Rattle.std.specs.Prelude.{ℕ, ◌==◌, Bool, if◌then◌else◌, List, Result, Ok, Err}
use Rattle.std.specs.declared.option.Option.{Option}
use Rattle.std.specs.declared.option.Option.TheVariants.{Some, None}
use Rattle.std.specs.List.{list_any}
use Rattle.dataset_tree.specs.declared.refusal.Refusal.{Refusal}
use Rattle.dataset_tree.specs.declared.snap_name.SnapName.{SnapName}
use Rattle.dataset_tree.specs.SetName.{named}
use Rattle.dataset_tree.specs.ShortNames.{file_named}
use Rattle.dataset_tree.specs.SnapName.{at_sign, snap_named}
use Rattle.encryption_roots.specs.declared.command.KeyCmd.TheVariants as commands
use Rattle.file_dataset.specs.declared.command.FileCmd.{FileCmd}
use Rattle.file_dataset.specs.declared.command.FileCmd.TheVariants as files
use Rattle.key_machine.specs.Plain.{Plain}
use Rattle.shell_lines.specs.declared.line.Line.{Line}
use Rattle.shell_lines.specs.declared.line.Line.TheVariants as lines
use Rattle.shell_run.specs.declared.job.SpotName.{SpotName}
use Rattle.shell_run.specs.declared.task.Report.TheVariants.{Replies, Sets, Counts, Refused}
use Rattle.shell_run.specs.declared.task.RootAction.TheVariants.{Load, Unload}
use Rattle.shell_run.specs.Tasks.{Asked, all_roots, no_command, on_name, on_roots, roots_named}

pub data Job : Type 0 where
  on_keys : Asked → Job
  on_files : FileCmd → Job
  -- the name of a snapshot, or why a word is none: its line takes a seed in both cases
  on_snapshot : Result SnapName Refusal → Job
  on_clone : (from : SnapName) → (name : List ℕ) → Job
  on_destroy : SpotName → Job

-- ---- the dataset, or a snapshot of it, that a word names

abbrev pub of_set : List ℕ → SpotName
of_set name = record { set = name; snap = None }

abbrev pub of_snap : SnapName → SpotName
of_snap name = record { set = name.set; snap = Some name.snap }

abbrev pub result_in : {A B E : Type 0} → (A → B) → Result A E → Result B E
result_in make (Ok given) = Ok (make given)
result_in make (Err why) = Err why

-- a snapshot's name has an `@`, a dataset's has none
abbrev pub names_snap : List ℕ → Bool
names_snap word = list_any (λ byte. byte == at_sign) word

abbrev pub spot_named : List ℕ → Result SpotName Refusal
spot_named word = if names_snap word then result_in of_snap (snap_named word) else result_in of_set (named word)

-- ---- a line

-- a command about a file of a dataset or a snapshot, whose name is tested before the file's
abbrev pub command_on : {A B : Type 0} → (A → B → FileCmd) → Result A Refusal → Result B Refusal
    → Result FileCmd Refusal
command_on command (Ok set) (Ok file) = Ok (command set file)
command_on command (Ok set) (Err why) = Err why
command_on command (Err why) file = Err why

-- a word of the line names nothing
abbrev pub no_job : Refusal → Job
no_job why = on_keys (no_command (Refused why))

-- the command, or why a word of the line names nothing
abbrev pub job_if : Result FileCmd Refusal → Job
job_if (Ok command) = on_files command
job_if (Err why) = no_job why

abbrev pub on_file : ((set file : List ℕ) → FileCmd) → (word file_word : List ℕ) → Job
on_file command word file_word = job_if (command_on command (named word) (file_named file_word))

abbrev pub clone_from : (from : SnapName) → Result (List ℕ) Refusal → Job
clone_from from (Ok name) = on_clone from name
clone_from from (Err why) = no_job why

-- a clone, whose origin's name is tested before its own
abbrev pub clone_if : Result SnapName Refusal → Result (List ℕ) Refusal → Job
clone_if (Ok from) name = clone_from from name
clone_if (Err why) name = no_job why

abbrev pub destroy_if : Result SpotName Refusal → Job
destroy_if (Ok spot) = on_destroy spot
destroy_if (Err why) = no_job why

abbrev pub job_of : Plain → Line → Job
job_of p lines.Silent = on_keys (no_command Replies)
job_of p (lines.Create word opts) = on_keys (on_name (λ name. commands.Create name opts) word)
job_of p (lines.LoadKey word check_only place) = on_keys (on_name (λ name. commands.Load name check_only place) word)
job_of p (lines.LoadBelow word check_only) = on_keys (on_roots p (Load check_only) (roots_named p (named word)))
job_of p (lines.LoadAll check_only) = on_keys (on_roots p (Load check_only) (Ok (all_roots p)))
job_of p (lines.UnloadKey word) = on_keys (on_name (λ name. commands.Unload name) word)
job_of p (lines.UnloadBelow word) = on_keys (on_roots p Unload (roots_named p (named word)))
job_of p lines.UnloadAll = on_keys (on_roots p Unload (Ok (all_roots p)))
job_of p (lines.ChangeKey word opts load_first) =
    on_keys (on_name (λ name. commands.Change name opts load_first) word)
job_of p (lines.InheritKey word load_first) = on_keys (on_name (λ name. commands.Inherit name load_first) word)
job_of p (lines.Mount word) = on_keys (on_name (λ name. commands.Mount name) word)
job_of p (lines.Unmount word) = on_keys (on_name (λ name. commands.Unmount name) word)
job_of p (lines.Get prop word) = on_keys (on_name (λ name. commands.Get name prop) word)
job_of p (lines.Touch word file) = on_file (λ set name. files.Touch set name) word file
job_of p (lines.Remove word file) = on_file (λ set name. files.Remove set name) word file
job_of p (lines.Write word file from bytes) = on_file (λ set name. files.Write set name from bytes) word file
job_of p (lines.Read word file from len) =
    job_if (command_on (λ spot name. files.Read spot.set spot.snap name from len) (spot_named word) (file_named file))
job_of p (lines.Truncate word file to) = on_file (λ set name. files.Cut set name to) word file
job_of p (lines.Files word) = job_if (result_in (λ spot. files.Names spot.set spot.snap) (spot_named word))
job_of p (lines.Verify word) = job_if (result_in (λ spot. files.Verify spot.set spot.snap) (spot_named word))
job_of p (lines.Snapshot word) = on_snapshot (snap_named word)
job_of p (lines.Clone from word) = clone_if (snap_named from) (named word)
job_of p (lines.Destroy word) = destroy_if (spot_named word)
job_of p lines.List = on_keys (no_command Sets)
job_of p lines.Counts = on_keys (no_command Counts)
