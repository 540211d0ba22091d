-- What the functions that read a line's job, and those that make a host's step, say of their answers.
use Rattle.std.specs.Prelude.{◌≡◌, ℕ, ◌≤◌, ◌++◌, length, List, Result, Ok, Err}
use Rattle.dataset_tree.specs.declared.refusal.Stop.{Stop}
use Rattle.dataset_tree.specs.declared.refusal.Stop.TheVariants as stops
use Rattle.host_state.specs.Hosts.{HostState, HostStepped}
use Rattle.key_machine.specs.Reply.{Done, Refused}
use Rattle.shell_run.specs.declared.ending.Halt.{Halt}
use Rattle.shell_run.specs.declared.ending.Halt.TheVariants.{NoMemory}
use Rattle.shell_run.specs.declared.job.LineJob.{LineJob}
use Rattle.shell_run.specs.declared.job.LineJob.TheVariants as jobs
use Rattle.shell_run.specs.Answers.{IsTask}
use Rattle.shell_run.specs.Jobs.{Job, on_clone, on_destroy, on_files, on_keys, on_snapshot}
use Rattle.shell_run.specs.Reports.{reply_output}

-- a job is what is asked
abbrev pub IsJob : LineJob → Job → Type 0
IsJob (jobs.Keys task) (on_keys asked) = IsTask task asked × (length task.commands.items ≤ 4294967296)
IsJob (jobs.Keys task) (on_files command) = ⊥
IsJob (jobs.Keys task) (on_snapshot name) = ⊥
IsJob (jobs.Keys task) (on_clone from name) = ⊥
IsJob (jobs.Keys task) (on_destroy spot) = ⊥
IsJob (jobs.Files command) job = job ≡ on_files command
IsJob (jobs.Snapshot name) job = job ≡ on_snapshot name
IsJob (jobs.Clone from name) job = job ≡ on_clone from name
IsJob (jobs.Destroy spot) job = job ≡ on_destroy spot

-- a command answers this step and leaves the host so; where memory is wanting nothing is said
abbrev pub DoesStep : Result (Unit {0}) Stop → HostStepped → (new : HostState) → Type 0
DoesStep (Ok done) step new = (step.reply ≡ Done) × (new ≡ step.state)
DoesStep (Err (stops.Refused why)) step new = (step.reply ≡ Refused why) × (new ≡ step.state)
DoesStep (Err stops.NoMemory) step new = Unit {0}

-- the step of line n was made and its reply added, or memory was wanting
abbrev pub StepsTo : Result (Unit {0}) Halt → ℕ → HostStepped → (new : HostState) → (before after : List ℕ) → Type 0
StepsTo (Ok done) n step new before after =
    (new ≡ step.state) × (after ≡ before ++ reply_output n step.state.keys step.reply)
StepsTo (Err halt) n step new before after = halt ≡ NoMemory
