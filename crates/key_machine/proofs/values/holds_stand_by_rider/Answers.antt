use Rattle.key_machine.specs.Plain.{Hold}
use Rattle.key_machine.proofs.HoldLaws.{with_entry_in_order}
use Rattle.key_machine.proofs.values.holds_stand_by_rider.Goals as goal

pub returns-clause-order : goal.returns-clause-order
returns-clause-order c = λ hold users order. with_entry_in_order (λ (other : Hold). other.rider) hold users order

pub returns-clause-mounts : goal.returns-clause-mounts
returns-clause-mounts c = λ id mounted order. with_entry_in_order (λ other. other) id mounted order
