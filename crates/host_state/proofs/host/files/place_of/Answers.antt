use Rattle.std.proofs.Common.{arith}
use Rattle.std.proofs.lemmas.Grind.{common_steps}
use Rattle.encryption_roots.proofs.ByIdLemmas.{at_id-missed_at}
use Rattle.host_state.proofs.host.files.place_of.Goals as goal
use Rattle.host_state.proofs.host.files.place_of.Goals.{else-at-entries-via-then-at-entries+else-entries-at, else-at-entries-via-else-at-entries}

pub returns : goal.returns
returns g c =
    at_id-missed_at c.args.id c.args.entries.now c.place_in-at.result c.requires c.place_in-at.ensures.below c.place_in-at.ensures.above
    (elim c.else-at-entries.branch [
      | else-at-entries-via-then-at-entries+else-entries-at w ↦ λ d within. grind (arith, common_steps)
      | else-at-entries-via-else-at-entries w ↦ λ d within. absurd (omega arith)
    ])
