use Rattle.std.proofs.lemmas.Slice.Eq.{slice_eq-Decides}
use Rattle.family_log.proofs.SameLemmas.{row_decides}
use Rattle.family_log.proofs.table.same_rows.Goals as goal

pub returns : goal.returns
returns c = slice_eq-Decides row_decides c.args.a.now c.args.b.now c.eq.result c.eq.ensures
