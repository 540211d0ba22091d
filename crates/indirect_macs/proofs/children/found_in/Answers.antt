use Rattle.std.proofs.Common.{ℕ, ◌/◌, ◌^◌, ap, ◌∙◌}
use Rattle.std.proofs.lemmas.Option.{IfSome_then}
use Rattle.indirect_macs.proofs.RunReading.{child_read, spread_reads, spread_stops, spread_told}
use Rattle.indirect_macs.proofs.TreeFold.{first_under}
use Rattle.indirect_macs.proofs.children.found_in.Goals as goal

pub returns-in-Ok-clause-told : goal.returns-in-Ok-clause-told
returns-in-Ok-clause-told g c =
    IfSome_then (g.B.Shelf.told c.args.shelf.now).held c.in-Ok.ensures.bytes (λ held passes.
    c.refs_in.ensures c.args.level c.requires.above ∙ child_read held c.args.run.now.block c.args.level c.args.index c.args.node.now c.read_node.new.out passes)

pub returns-in-Err-clause-reads : goal.returns-in-Err-clause-reads
returns-in-Err-clause-reads g c = rw c.spread.ensures (spread_reads c.args.level _ c.in-Err.stop _ _ c.in-Err.ensures.answers)

pub returns-in-Err-clause-stops : goal.returns-in-Err-clause-stops
returns-in-Err-clause-stops g c = rw c.spread.ensures (spread_stops c.args.level _ c.in-Err.stop _ _ c.in-Err.ensures.answers)

pub returns-in-Err-clause-told : goal.returns-in-Err-clause-told
returns-in-Err-clause-told g c =
    IfSome_then (g.B.Shelf.told c.args.shelf.now).held c.in-Err.ensures.told (λ held gave.
    rw c.spread.ensures (spread_told held c.args.run.now.block c.args.level c.args.index c.block_over.result _ c.args.node.now c.in-Err.stop _ _
    (ap (λ (place : ℕ). place / 32 ^ c.args.level) c.block_over.ensures ∙ first_under c.args.level c.args.index) gave))
