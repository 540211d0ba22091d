use Rattle.std.proofs.Common.{sym, ◌∙◌, arith}
use Rattle.std.proofs.lemmas.Option.{IfSome_then}
use Rattle.indirect_macs.specs.RunFields.{run_of}
use Rattle.indirect_macs.proofs.RunReading.{below_failed, for_each_held}
use Rattle.indirect_macs.proofs.children.found_below.Goals as goal

pub returns-in-Ok-clause-told : goal.returns-in-Ok-clause-told
returns-in-Ok-clause-told g c =
    IfSome_then (g.B.Shelf.told c.args.shelf.now).held c.found_from.ensures.told (λ held told is. told (sym c.in-Ok.is ∙ is))

pub returns-in-Err-clause-told : goal.returns-in-Err-clause-told
returns-in-Err-clause-told g c =
    for_each_held (g.B.Shelf.told c.args.shelf.now).held (λ held is.
    below_failed held c.args.run.now.block (run_of c.args.run.now) c.args.level c.args.index c.in-Err.failed (omega arith) (omega arith)
    (sym c.in-Err.is ∙ is))
