use Rattle.std.proofs.Common.{◌∙◌, ◌+◌, None, ℕ, ap, refl, arith}
use Rattle.shell_run.specs.Outer.{Outer}
use Rattle.shell_run.specs.Script.{ToldScript}
use Rattle.shell_run.specs.Transcript.{told_world}
use Rattle.shell_run.proofs.PerformLemmas.{performed_none, performed_step, performed_halt_at, performed_closed, reads_both, reads_ended}
use Rattle.shell_run.proofs.answer.perform.Goals as goal

pub loop-command-init : goal.loop-command-init
loop-command-init g c = record {
  so_far = performed_none c.args.number c.args.report.now c.args.host.now (g.W.Outside.told c.args.outside.now) (g.W.Outside.script c.args.outside.now) c.args.commands.now c.args.output.now.items;
  tried = refl;
  well = omega arith;
  reads = record { later = omega arith; told = λ goes told. told; faults = refl };
  holds = refl;
}

pub overflow_cast-part : goal.overflow_cast-part
overflow_cast-part g c = omega (arith, c.loop-command.invariant.tried, c.requires.few)

pub overflow_add-well : goal.overflow_add-well
overflow_add-well g c = omega (arith, c.loop-command.invariant.tried, c.loop-command.invariant.well, c.requires.few, c.in-Ok.ensures.few)

pub overflow_add-tried : goal.overflow_add-tried
overflow_add-tried g c = omega (arith, c.loop-command.invariant.tried, c.requires.few)

pub returns-in-Err-clause-told : goal.returns-in-Err-clause-told
returns-in-Err-clause-told g c =
    let a : Outer = g.W.Outside.told c.args.outside.now in
    let b : Outer = g.W.Outside.told c.loop-command.outside in
    let d : Outer = g.W.Outside.told c.perform_one.new.outside in
    let sa : ToldScript = g.W.Outside.script c.args.outside.now in
    let sb : ToldScript = g.W.Outside.script c.loop-command.outside in
    let sd : ToldScript = g.W.Outside.script c.perform_one.new.outside in
    performed_halt_at c.args.number c.args.report.now a b d (told_world c.args.host.now a sa) (told_world c.loop-command.host b sb) (told_world c.perform_one.new.host d sd)
    c.args.commands.now c.loop-command.command-index c.command-item.result c.loop-command.tried c.loop-command.well c.args.output.now.items c.loop-command.output.items c.perform_one.new.output.items c.in-Err.halt
    (omega arith) c.command-item.is c.loop-command.invariant.tried c.loop-command.invariant.so_far c.in-Err.ensures.told

pub returns-in-Err-clause-reads : goal.returns-in-Err-clause-reads
returns-in-Err-clause-reads g c = reads_both _ _ _ _ _ _ _ c.loop-command.invariant.reads c.in-Err.ensures.reads

pub returns-in-Err-clause-holds : goal.returns-in-Err-clause-holds
returns-in-Err-clause-holds g c = c.perform_one.ensures.holds ∙ c.loop-command.invariant.holds

pub loop-command-preserved : goal.loop-command-preserved
loop-command-preserved g c =
    let a : Outer = g.W.Outside.told c.args.outside.now in
    let b : Outer = g.W.Outside.told c.loop-command.outside in
    let d : Outer = g.W.Outside.told c.perform_one.new.outside in
    let sa : ToldScript = g.W.Outside.script c.args.outside.now in
    let sb : ToldScript = g.W.Outside.script c.loop-command.outside in
    let sd : ToldScript = g.W.Outside.script c.perform_one.new.outside in
    record {
      so_far = performed_step c.args.number c.args.report.now a b d (told_world c.args.host.now a sa) (told_world c.loop-command.host b sb) (told_world c.perform_one.new.host d sd)
          c.args.commands.now c.loop-command.command-index c.command-item.result c.loop-command.tried c.loop-command.well c.in-Ok.count c.args.output.now.items c.loop-command.output.items c.perform_one.new.output.items
          (omega arith) c.command-item.is c.requires.of_line c.loop-command.invariant.so_far c.in-Ok.ensures.told;
      tried = ap (λ (k : ℕ). k + 1) c.loop-command.invariant.tried;
      well = omega (arith, c.loop-command.invariant.well, c.in-Ok.ensures.few);
      reads = reads_both sa sb sd (g.W.Outside.faults c.args.outside.now) (g.W.Outside.faults c.loop-command.outside) (g.W.Outside.faults c.perform_one.new.outside) None c.loop-command.invariant.reads c.in-Ok.ensures.reads;
      holds = c.perform_one.ensures.holds ∙ c.loop-command.invariant.holds;
    }

pub returns-clause-told : goal.returns-clause-told
returns-clause-told g c =
    let a : Outer = g.W.Outside.told c.args.outside.now in
    let b : Outer = g.W.Outside.told c.loop-command.outside in
    let sa : ToldScript = g.W.Outside.script c.args.outside.now in
    let sb : ToldScript = g.W.Outside.script c.loop-command.outside in
    performed_closed c.args.number c.args.report.now c.loop-command.host c.push_closing.new.host a b sb (told_world c.args.host.now a sa) c.args.commands.now c.loop-command.command-index c.loop-command.tried c.loop-command.well
    c.args.output.now.items c.loop-command.output.items c.push_closing.new.output.items c.push_closing.result (omega arith) c.push_closing.ensures.same c.loop-command.invariant.so_far c.push_closing.ensures.text c.push_closing.ensures.stops

pub returns-clause-reads : goal.returns-clause-reads
returns-clause-reads g c =
    reads_ended (g.W.Outside.script c.args.outside.now) (g.W.Outside.script c.loop-command.outside) (g.W.Outside.faults c.args.outside.now) (g.W.Outside.faults c.loop-command.outside)
    c.push_closing.result c.push_closing.ensures.stops c.loop-command.invariant.reads

pub returns-clause-holds : goal.returns-clause-holds
returns-clause-holds g c = c.loop-command.invariant.holds
