use Rattle.std.proofs.Common.{arith, length, ◌<◌}
use Rattle.std.proofs.lemmas.Grind.{common_steps}
use Rattle.dataset_tree.proofs.NameLemmas.{fault_goes_on_at_slash, fault_goes_on_at_name_byte, fault_past_the_end}
use Rattle.dataset_tree.proofs.name.first_fault.Goals as goal
use Rattle.dataset_tree.proofs.name.first_fault.Goals.{then-byte-eq47+else-not-in_component+else-slashes-eq-MAX_DEPTH, else-byte-eq47+then-is_name_byte}

pub returns-then-at-eq-MAX_NAME_LEN : goal.returns-then-at-eq-MAX_NAME_LEN
returns-then-at-eq-MAX_NAME_LEN c =
    grind (arith, fault_past_the_end c.args.text.now c.loop-at.at)

pub loop-at-preserved : goal.loop-at-preserved
loop-at-preserved c =
    let within : c.loop-at.at < length c.args.text.now = omega arith in
    elim c.if-byte-eq47.branch [
      | then-byte-eq47+else-not-in_component+else-slashes-eq-MAX_DEPTH w ↦ grind (arith, common_steps, fault_goes_on_at_slash c.args.text.now c.loop-at.at)
      | else-byte-eq47+then-is_name_byte w ↦ grind (arith, common_steps, fault_goes_on_at_name_byte c.args.text.now c.loop-at.at)
    ]
