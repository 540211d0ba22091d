use Rattle.std.proofs.Common.{◌≡◌, ◌<◌, length, get_or, sym, arith}
use Rattle.std.proofs.lemmas.Grind.{common_steps}
use Rattle.encryption_roots.proofs.ByIdLemmas.{at_id-found, at_id-missed_at}
use Rattle.encryption_roots.proofs.by_id.at_id.Goals as goal
use Rattle.encryption_roots.proofs.by_id.at_id.Goals.{else-at-entries-via-then-at-entries+else-entries-at, else-at-entries-via-else-at-entries}

pub returns-then-entries-at : goal.returns-then-entries-at
returns-then-entries-at g c =
    let within : c.place_in-at.result < length c.args.entries.now = omega arith in
    let here : (get_or c.args.entries.now c.place_in-at.result c.index-entries-at-then-entries-at.result).0 ≡ c.args.id = grind (arith, common_steps) in
    sym (at_id-found c.args.id c.args.entries.now c.place_in-at.result c.index-entries-at-then-entries-at.result within c.place_in-at.ensures.below here)

pub returns : goal.returns
returns g c =
    sym (at_id-missed_at c.args.id c.args.entries.now c.place_in-at.result c.requires c.place_in-at.ensures.below c.place_in-at.ensures.above
    (elim c.else-at-entries.branch [
      | else-at-entries-via-then-at-entries+else-entries-at w ↦ λ d within. grind (arith, common_steps)
      | else-at-entries-via-else-at-entries w ↦ λ d within. absurd (omega arith)
    ]))
