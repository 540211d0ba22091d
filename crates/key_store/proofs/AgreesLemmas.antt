-- Slots that agree with a keystore, after a command that leaves them.
use Rattle.std.proofs.Common.{◌≡◌, Result, Ok, Err, subst, sym}
use Rattle.dataset_tree.specs.declared.refusal.Stop.{Stop}
use Rattle.dataset_tree.specs.declared.refusal.Stop.TheVariants as stops
use Rattle.key_machine.specs.Plain.{Plain}
use Rattle.key_store.specs.Agrees.{Agrees}
use Rattle.key_store.specs.Calls.{state_after}
use Rattle.mapping_words.specs.Told.{Told}

after : {T : Type 0} (t : Told) (result : Result T Stop) (before step : Plain) → Agrees t before → Agrees t step → Agrees t (state_after result before step)
after t (Ok value) before step old new = new
after t (Err (stops.Refused why)) before step old new = new
after t (Err stops.NoMemory) before step old new = old

-- the state after a call of the keystore whose step leaves the slots
pub agrees_after : {T : Type 0} (t : Told) (result : Result T Stop) (before step now : Plain) → Agrees t before → Agrees t step → now ≡ state_after result before step → Agrees t now
agrees_after t result before step now old new is = subst (Agrees t) (sym is) (after t result before step old new)
