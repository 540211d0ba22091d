use Rattle.std.proofs.Common.{◌-◌, arith}
use Rattle.indirect_macs.proofs.Groups.{group_cut}
use Rattle.indirect_macs.proofs.fold.group_at.Goals as goal

pub returns-clause-entries : goal.returns-clause-entries
returns-clause-entries g c =
    group_cut c.args.entries.now c.min-start.result (c.min-end.result - c.min-start.result) c.args.group (omega arith) (omega arith)
