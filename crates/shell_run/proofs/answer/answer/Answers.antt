use Rattle.shell_lines.specs.Grammar.{line_of}
use Rattle.shell_run.proofs.CommandLemmas.{spelled_not, spelled_ok}
use Rattle.shell_run.proofs.answer.answer.Goals as goal

pub returns-in-Ok-clause-told : goal.returns-in-Ok-clause-told
returns-in-Ok-clause-told g c =
    spelled_ok c.args.number c.args.host.now c.carry_out.new.host (g.W.Outside.told c.args.outside.now) (g.W.Outside.told c.carry_out.new.outside) (g.W.Outside.script c.args.outside.now) (g.W.Outside.script c.carry_out.new.outside)
    c.in-Ok.line (line_of c.args.bytes.now 0) c.carry_out.result c.args.output.now.items c.carry_out.new.output.items c.in-Ok.ensures.spells c.carry_out.ensures.told

pub returns-in-Err-clause-told : goal.returns-in-Err-clause-told
returns-in-Err-clause-told g c =
    rw c.halt_of.ensures
    (spelled_not c.args.number c.args.host.now (g.W.Outside.told c.args.outside.now) (g.W.Outside.script c.args.outside.now) c.in-Err.stop (line_of c.args.bytes.now 0) c.args.output.now.items c.args.output.now.items c.in-Err.ensures.spells)
