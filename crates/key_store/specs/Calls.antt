-- How the keystore's calls answer: by the machine's step, want of memory apart, which changes nothing.
use Rattle.std.specs.Prelude.{◌≡◌, ℕ, Bool, not, ◌&&◌, is_some, List, Result, Ok, Err}
use Rattle.std.specs.declared.option.Option.{Option}
use Rattle.std.specs.declared.option.Option.TheVariants.{Some, None}
use Rattle.dataset_tree.specs.declared.refusal.Refusal.{Refusal as Why}
use Rattle.dataset_tree.specs.declared.refusal.Refusal.TheVariants.{WrongKey, Busy}
use Rattle.dataset_tree.specs.declared.refusal.Stop.{Stop}
use Rattle.dataset_tree.specs.declared.refusal.Stop.TheVariants as stops
use Rattle.encryption_roots.specs.declared.command.KeyCmd.{KeyCmd}
use Rattle.key_machine.specs.Plain.{Plain, owner_of, is_same}
use Rattle.key_machine.specs.Reply.{Reply, Done, Made, Refused}
use Rattle.key_machine.specs.Step.{refusal_of, wanted}
use Rattle.key_machine.specs.Told.{Wanted, Told}
use Rattle.key_machine.specs.Unload.{InUse}
use Rattle.key_store.specs.declared.needs.Needs.{Needs}
use Rattle.key_store.specs.declared.state.FamilyRecord.{FamilyRecord}
use Rattle.key_ciphers.specs.Ciphers.{ciphers}
pub use Rattle.key_ciphers.specs.Calls.{stepped, AnswersDone}
pub use Rattle.key_reads.specs.Reads.{GivesRoot}

-- what a command wants, or why the state refuses it
abbrev pub needs_of : Wanted → Needs
needs_of wants = record { old_place = wants.old_place; new_place = wants.new_place; seed = wants.seed }

abbrev pub needed_unless : Plain → KeyCmd → Option Why → Result Needs Why
needed_unless p command None = Ok (needs_of (wanted p command))
needed_unless p command (Some why) = Err why

abbrev pub needed : Plain → KeyCmd → Result Needs Why
needed p command = needed_unless p command (refusal_of p command)

-- the key that is told, or the first refusal for it: a fault of the material, else a record that doesn't open
abbrev pub key_unless : List ℕ → Option Why → Option ℕ → Result (List ℕ) Why
key_unless key (Some why) wrong = Err why
key_unless key None (Some dataset) = Err (WrongKey dataset)
key_unless key None None = Ok key

abbrev pub key_told : Told → Result (List ℕ) Why
key_told facts = key_unless facts.key facts.fault facts.wrong

-- a record of the root that doesn't open under the key
abbrev pub is_wrong : Plain → (root : ℕ) (key : List ℕ) → ℕ × FamilyRecord → Bool
is_wrong p root key entry = is_same root (owner_of p entry.0) && not (is_some (ciphers.opens entry.1.wrapped key))

-- The call of a command answers its step's reply.
abbrev pub AnswersMade : Result ℕ Stop → Reply → Type 0
AnswersMade (Ok id) reply = reply ≡ Made id
AnswersMade (Err (stops.Refused why)) reply = reply ≡ Refused why
AnswersMade (Err stops.NoMemory) reply = Unit {0}

abbrev pub AnswersUnloaded : {T : Type 0} → Result T Why → Reply → Type 0
AnswersUnloaded (Ok _) reply = reply ≡ Done
AnswersUnloaded (Err why) reply = reply ≡ Refused why

-- the mapping that the closes of a call found in use, by its answer
abbrev pub found_as : Why → Option InUse
found_as (Busy dataset count) = Some (record { dataset = dataset; count = count })
found_as _ = None

abbrev pub found_by : {T : Type 0} → Result T Why → Option InUse
found_by (Ok _) = None
found_by (Err why) = found_as why

-- the state after a call: that of the step, and where memory was wanting that of before
abbrev pub state_after : {T : Type 0} → Result T Stop → (before after : Plain) → Plain
state_after (Ok _) before after = after
state_after (Err (stops.Refused why)) before after = after
state_after (Err stops.NoMemory) before after = before
