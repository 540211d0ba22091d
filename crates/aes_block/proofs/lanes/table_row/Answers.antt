use Rattle.std.proofs.Common.{◌-◌, ◌*◌, ◌%◌, take, drop, get_or-take, length-take, length-drop, length-take-le, ◌∙◌, arith}
use Rattle.std.proofs.lemmas.List.{get_or-drop}
use Rattle.aes_block.proofs.LaneLaws.{lanes_twice}
use Rattle.aes_block.proofs.lanes.table_row.Goals as goal

pub returns : goal.returns
returns c =
    let at = 16 * (c.args.round % 4) in
    let rows = c.args.rows.now in
    let rest = take (64 - at) (drop at rows) in
    let lanes =
    lanes_twice (take 16 rest) (length-take-le 16 rest (omega (arith, length-take (64 - at) (drop at rows), length-drop at rows))) in
    record {
      long = lanes.long;
      each = λ i h.
          lanes.each i h ∙ get_or-take 16 rest (i % 16) 0 (omega arith)
          ∙ get_or-take (64 - at) (drop at rows) (i % 16) 0 (omega arith) ∙ get_or-drop at rows (i % 16) 0;
    }
