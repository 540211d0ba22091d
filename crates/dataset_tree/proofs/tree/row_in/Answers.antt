use Rattle.std.proofs.Common.{◌≡◌, ◌<◌, length, get_or, Some, sym, ap, ◌∙◌, arith}
use Rattle.dataset_tree.specs.declared.tree.Row.{Row}
use Rattle.std.proofs.lemmas.Grind.{common_steps}
use Rattle.dataset_tree.proofs.TreeLemmas.{row_at_place, no_row_at_place}
use Rattle.dataset_tree.proofs.tree.row_in.Goals as goal
use Rattle.dataset_tree.proofs.tree.row_in.Goals.{else-at-rows-via-then-at-rows+else-rows-at, else-at-rows-via-else-at-rows}

pub returns-then-rows-at : goal.returns-then-rows-at
returns-then-rows-at c =
    let within : c.place_in-at.result < length c.args.rows.now = omega arith in
    let here : (get_or c.args.rows.now c.place_in-at.result c.index-rows-at-then-rows-at.result).id ≡ c.args.id = grind (arith, common_steps) in
    let first : c.index-rows-at-then-rows-at.result ≡ get_or c.args.rows.now c.place_in-at.result c.index-rows-at-then-rows-at.result = grind (arith, common_steps) in
    ap (λ (row : Row). Some row) first ∙ sym (row_at_place c.args.id c.args.rows.now c.place_in-at.result c.index-rows-at-then-rows-at.result within c.place_in-at.ensures.below here)

pub returns : goal.returns
returns c =
    sym (no_row_at_place c.args.id c.args.rows.now c.place_in-at.result c.requires c.place_in-at.ensures.below c.place_in-at.ensures.above
    (elim c.else-at-rows.branch [
      | else-at-rows-via-then-at-rows+else-rows-at w ↦ λ d within. grind (arith, common_steps)
      | else-at-rows-via-else-at-rows w ↦ λ d within. absurd (omega arith)
    ]))
