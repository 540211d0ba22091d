use Rattle.std.proofs.Common.{sym}
use Rattle.shell_run.proofs.EndingLemmas.{same_names}
use Rattle.shell_run.proofs.RunLemmas.{script_runs}
use Rattle.shell_run.proofs.ScriptLemmas.{all_read}
use Rattle.shell_run.proofs.run.run_script.Goals as goal

pub returns-clause-told : goal.returns-clause-told
returns-clause-told g c =
    let run = c.run_lines-ending in
    let names = same_names _ _ _ _ _ _ _ _ run.ensures.holds in
    rw (c.files-1.given.1 (sym names.1), c.entropy-1.given.1 (sym names.2), c.found-1.given.1 (sym names.3))
    (script_runs run.result c.args.host.now c.args.reader.now (g.S.Source.left c.args.script.now) (g.O.Sink.taken c.args.out.now) (g.O.Sink.taken run.new.out) _ _ c.requires.reader run.ensures.told)

pub returns-clause-end : goal.returns-clause-end
returns-clause-end g c = λ done.
    let run = c.run_lines-ending in
    let names = same_names _ _ _ _ _ _ _ _ run.ensures.holds in
    rw (c.script-1.given.1 (sym names.0))
    (all_read c.args.reader.now run.new.outside.reader.now (g.S.Source.left c.args.script.now) (g.S.Source.left run.new.outside.source.now) c.requires.reader (run.ensures.end done))

pub returns-clause-source : goal.returns-clause-source
returns-clause-source g c =
    let run = c.run_lines-ending in
    let names = same_names _ _ _ _ _ _ _ _ run.ensures.holds in
    rw (c.script-1.given.1 (sym names.0)) run.ensures.source
