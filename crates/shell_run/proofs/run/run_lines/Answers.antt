use Rattle.std.proofs.Common.{◌∙◌, refl}
use Rattle.shell_run.specs.Outer.{Outer}
use Rattle.shell_run.specs.Script.{ToldScript}
use Rattle.shell_run.specs.Transcript.{told_world}
use Rattle.shell_run.proofs.RunLemmas.{reached_none, reached_more, reached_end, end_told}
use Rattle.shell_run.proofs.run.run_lines.Goals as goal

pub lines-init : goal.lines-init
lines-init g c = record {
  reached = reached_none (g.W.Outside.script c.args.outside.now).next (g.W.Outside.told c.args.outside.now) (told_world c.args.host.now (g.W.Outside.told c.args.outside.now) (g.W.Outside.script c.args.outside.now)) (g.O.Sink.taken c.args.out.now);
  ahead = λ told. told;
  source = refl;
  sink = refl;
  holds = refl;
}

pub lines-preserved : goal.lines-preserved
lines-preserved g c =
    let a : Outer = g.W.Outside.told c.args.outside.now in
    let b : Outer = g.W.Outside.told c.lines.outside in
    let d : Outer = g.W.Outside.told c.run_line.new.outside in
    let sa : ToldScript = g.W.Outside.script c.args.outside.now in
    let sb : ToldScript = g.W.Outside.script c.lines.outside in
    let sd : ToldScript = g.W.Outside.script c.run_line.new.outside in
    record {
      reached = reached_more sb.next sd.next (told_world c.args.host.now a sa) (told_world c.lines.host b sb) (told_world c.run_line.new.host d sd)
          (g.O.Sink.taken c.args.out.now) (g.O.Sink.taken c.lines.out) (g.O.Sink.taken c.run_line.new.out) a b d c.in_default.ensures.past.1 c.lines.invariant.reached c.in_default.ensures.told;
      ahead = λ told. c.in_default.ensures.past.2 (c.lines.invariant.ahead told);
      source = c.in_default.ensures.source ∙ c.lines.invariant.source;
      sink = c.in_default.ensures.sink ∙ c.lines.invariant.sink;
      holds = c.run_line.ensures.holds ∙ c.lines.invariant.holds;
    }

pub returns-in-Some-clause-told : goal.returns-in-Some-clause-told
returns-in-Some-clause-told g c =
    let a : Outer = g.W.Outside.told c.args.outside.now in
    let b : Outer = g.W.Outside.told c.lines.outside in
    let d : Outer = g.W.Outside.told c.run_line.new.outside in
    let sa : ToldScript = g.W.Outside.script c.args.outside.now in
    let sb : ToldScript = g.W.Outside.script c.lines.outside in
    let sd : ToldScript = g.W.Outside.script c.run_line.new.outside in
    reached_end c.in-Some.ending sb.next (told_world c.args.host.now a sa) (told_world c.lines.host b sb) (told_world c.run_line.new.host d sd)
    (g.O.Sink.taken c.args.out.now) (g.O.Sink.taken c.lines.out) (g.O.Sink.taken c.run_line.new.out) a b d c.lines.invariant.reached c.in-Some.ensures.told

pub returns-in-Some-clause-end : goal.returns-in-Some-clause-end
returns-in-Some-clause-end g c = λ done.
    end_told c.in-Some.ending (g.W.Outside.script c.args.outside.now) (g.W.Outside.script c.lines.outside) (g.W.Outside.script c.run_line.new.outside) c.lines.invariant.ahead c.in-Some.ensures.past done
