-- How the calls of key commands answer: by the machine's step, want of memory apart.
use Rattle.std.specs.Prelude.{◌≡◌, List, ℕ, Result, Ok, Err}
use Rattle.std.specs.declared.option.Option.{Option}
use Rattle.std.specs.declared.option.Option.TheVariants.{Some, None}
use Rattle.dataset_tree.specs.declared.refusal.Refusal.{Refusal as Why}
use Rattle.dataset_tree.specs.declared.refusal.Stop.{Stop}
use Rattle.dataset_tree.specs.declared.refusal.Stop.TheVariants as stops
use Rattle.encryption_roots.specs.declared.command.KeyCmd.{KeyCmd}
use Rattle.encryption_roots.specs.declared.kit.LineKit.{LineKit}
use Rattle.key_machine.specs.Plain.{Plain, Ciphers}
use Rattle.key_machine.specs.Reply.{Stepped, Reply, Done, Refused}
use Rattle.key_machine.specs.Step.{told, key_step}
use Rattle.key_ciphers.specs.Ciphers.{ciphers}

-- the step of a command under what its kit tells, by any ciphers and by these
abbrev pub step_by : Ciphers → Plain → KeyCmd → LineKit → Stepped
step_by c p command kit = key_step p command (told c p command kit)

abbrev pub stepped : Plain → KeyCmd → LineKit → Stepped
stepped p command kit = step_by ciphers p command kit

-- A call is done exactly where the step is, and is refused exactly as the step is.
abbrev pub AnswersDone : {T : Type 0} → Result T Stop → Reply → Type 0
AnswersDone (Ok _) reply = reply ≡ Done
AnswersDone (Err (stops.Refused why)) reply = reply ≡ Refused why
AnswersDone (Err stops.NoMemory) reply = Unit {0}

-- what was had, where nothing before it has a fault
abbrev pub unless_fault : Option Why → Result (List ℕ) Why → Result (List ℕ) Why
unless_fault None had = had
unless_fault (Some why) had = Err why
