use Rattle.std.proofs.Common.{refl}
use Rattle.indirect_macs.specs.RunFields.{run_of}
use Rattle.indirect_macs.proofs.RunPutting.{leaf_node, leaf_kept, add_done, add_stopped}
use Rattle.indirect_macs.proofs.replace.add_leaf.Goals as goal

pub returns-in-Ok : goal.returns-in-Ok
returns-in-Ok g c = λ o reads made start is at refs had.
    add_done _ reads _ _ c.kept.result _ c.in-Ok.node made c.args.refs.now.items c.push.new.refs.items start _ _ c.push.result
    (leaf_node (run_of c.args.run.now) o made c.args.index c.new_blocks-entries.result (c.new_blocks-entries.ensures o is)) (leaf_kept (run_of c.args.run.now) o made c.args.index c.args.before.now c.new_blocks-entries.result _ c.kept.result c.same_blocks.result is (c.new_blocks-entries.ensures o is) at c.same_blocks.ensures c.kept.ensures) refl refs had c.in-Ok.ensures.value (c.in-Ok.ensures.puts reads made.puts start had) c.push.ensures.pushed c.push.ensures.stop

pub returns-in-Err : goal.returns-in-Err
returns-in-Err g c = λ o reads made start is at refs had.
    add_stopped reads _ _ c.kept.result _ made c.in-Err.stop start _
    (leaf_node (run_of c.args.run.now) o made c.args.index c.new_blocks-entries.result (c.new_blocks-entries.ensures o is)) (leaf_kept (run_of c.args.run.now) o made c.args.index c.args.before.now c.new_blocks-entries.result _ c.kept.result c.same_blocks.result is (c.new_blocks-entries.ensures o is) at c.same_blocks.ensures c.kept.ensures) (c.in-Err.ensures.puts reads made.puts start had)
