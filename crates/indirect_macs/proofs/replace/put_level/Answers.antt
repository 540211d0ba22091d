use Rattle.std.proofs.Common.{◌∙◌, length, sym}
use Rattle.indirect_macs.specs.RunFields.{run_of}
use Rattle.indirect_macs.proofs.RunMade.{nodes_raised}
use Rattle.indirect_macs.proofs.Putting.{same_puts}
use Rattle.indirect_macs.proofs.RunPutting.{level_stop, puts_any}
use Rattle.indirect_macs.proofs.replace.put_level.Goals as goal

pub returns-in-Err : goal.returns-in-Err
returns-in-Err g c = λ before reads made start knows refs raised had.
    (tt, level_stop _ _ (run_of c.args.run.now) before (length start.sizes) c.args.level reads (length c.args.old.now) made c.in-Err.stop start _ (c.in-Err.ensures reads made start raised had).1)

pub returns-in-Ok-put_nodes : goal.returns-in-Ok-put_nodes
returns-in-Ok-put_nodes g c = λ before reads made start knows refs raised had.
    let first = c.in-Ok.ensures reads made start raised had in
    let put = c.in-Ok-put_nodes.ensures before reads made start knows refs raised (same_puts reads _ _ tt start _ first.1) in
    ((put.0, first.0 ∙ sym (nodes_raised (run_of c.args.run.now) before (length start.sizes) c.args.level made (length c.args.old.now))), same_puts reads _ _ _ start _ put.1)

pub returns-in-Err-put_nodes : goal.returns-in-Err-put_nodes
returns-in-Err-put_nodes g c = λ before reads made start knows refs raised had.
    let first = c.in-Ok.ensures reads made start raised had in
    (tt, puts_any _ _ reads _ c.in-Err-put_nodes.stop start _ (c.in-Err-put_nodes.ensures before reads made start knows refs raised (same_puts reads _ _ tt start _ first.1)).1)
