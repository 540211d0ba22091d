use Rattle.std.proofs.Common.{Option, sym, ap, ◌∙◌, arith, Ok}
use Rattle.std.proofs.lemmas.Option.{IfSome_then}
use Rattle.indirect_macs.specs.declared.refs.NodeRef.{NodeRef}
use Rattle.indirect_macs.specs.RunFields.{run_of}
use Rattle.indirect_macs.proofs.RunReading.{if_ok, below_some, below_none, for_each_held}
use Rattle.indirect_macs.proofs.children.found_from.Goals as goal

pub returns-in-Some-clause-told : goal.returns-in-Some-clause-told
returns-in-Some-clause-told g c =
    IfSome_then (g.B.Shelf.told c.args.shelf.now).held c.found_in.ensures.told (λ held told is.
    if_ok c.found_in.result (λ xs same. below_some held c.args.run.now.block (run_of c.args.run.now) c.args.level c.args.index c.in-Some.node xs (omega arith) (omega arith)
    (ap (λ (o : Option NodeRef). Ok o) (sym c.in-Some.is) ∙ is) same) told)

pub returns-in-None-clause-told : goal.returns-in-None-clause-told
returns-in-None-clause-told g c =
    for_each_held (g.B.Shelf.told c.args.shelf.now).held (λ held is.
    below_none held c.args.run.now.block (run_of c.args.run.now) c.args.level c.args.index (omega arith) (omega arith)
    (ap (λ (o : Option NodeRef). Ok o) (sym c.in-None.is) ∙ is))
