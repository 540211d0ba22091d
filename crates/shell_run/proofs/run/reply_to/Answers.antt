use Rattle.shell_lines.specs.Grammar.{line_of}
use Rattle.shell_run.specs.Transcript.{answer_if, told_world}
use Rattle.shell_run.proofs.RunLemmas.{replied_all, replied_cut, replied_halt}
use Rattle.shell_run.proofs.run.reply_to.Goals as goal

pub returns-in-Ok-write_all-clause-told : goal.returns-in-Ok-write_all-clause-told
returns-in-Ok-write_all-clause-told g c =
    replied_all c.args.number (g.W.Outside.told c.args.outside.now) (g.W.Outside.told c.answer.new.outside) (told_world c.args.host.now (g.W.Outside.told c.args.outside.now) (g.W.Outside.script c.args.outside.now))
    (told_world c.answer.new.host (g.W.Outside.told c.answer.new.outside) (g.W.Outside.script c.answer.new.outside)) (λ entries w. answer_if c.args.number entries w (line_of c.args.line.now 0)) c.answer.new.output.items _ _
    (rw c.as_slice.ensures.value at c.in-Ok-write_all.ensures.written) (rw c.clear.ensures.items at c.in-Ok.ensures.told)

pub returns-in-Err-write_all-clause-told : goal.returns-in-Err-write_all-clause-told
returns-in-Err-write_all-clause-told g c =
    replied_cut c.args.number (g.W.Outside.told c.args.outside.now) (g.W.Outside.told c.answer.new.outside) (told_world c.args.host.now (g.W.Outside.told c.args.outside.now) (g.W.Outside.script c.args.outside.now))
    (told_world c.answer.new.host (g.W.Outside.told c.answer.new.outside) (g.W.Outside.script c.answer.new.outside)) (λ entries w. answer_if c.args.number entries w (line_of c.args.line.now 0)) c.answer.new.output.items _ _
    (rw c.as_slice.ensures.value at c.in-Err-write_all.ensures.part) (rw c.clear.ensures.items at c.in-Ok.ensures.told)

pub returns-in-Err-clause-told : goal.returns-in-Err-clause-told
returns-in-Err-clause-told g c =
    rw c.ending.ensures
    (replied_halt c.args.number (g.W.Outside.told c.args.outside.now) (g.W.Outside.told c.answer.new.outside) (told_world c.args.host.now (g.W.Outside.told c.args.outside.now) (g.W.Outside.script c.args.outside.now))
    (told_world c.answer.new.host (g.W.Outside.told c.answer.new.outside) (g.W.Outside.script c.answer.new.outside)) (λ entries w. answer_if c.args.number entries w (line_of c.args.line.now 0)) c.in-Err.halt
    c.clear.new.self.items c.answer.new.output.items _ c.in-Err.ensures.told)
