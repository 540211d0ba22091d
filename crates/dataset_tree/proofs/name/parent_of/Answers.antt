use Rattle.std.proofs.Common.{arith, length, ◌<◌}
use Rattle.std.proofs.lemmas.Grind.{common_steps}
use Rattle.dataset_tree.proofs.NameLemmas.{parent_at_slash, parent_elsewhere}
use Rattle.dataset_tree.proofs.name.parent_of.Goals as goal
use Rattle.dataset_tree.proofs.name.parent_of.Goals.{then-byte-eq47, else-byte-eq47}

pub loop-at-preserved : goal.loop-at-preserved
loop-at-preserved c =
    let within : c.loop-at.at < length c.args.name.now = omega arith in
    elim c.if-byte-eq47.branch [
      | then-byte-eq47 w ↦ grind (arith, common_steps, parent_at_slash c.args.name.now c.loop-at.at)
      | else-byte-eq47 w ↦ grind (arith, common_steps, parent_elsewhere c.args.name.now c.loop-at.at)
    ]
