use Rattle.std.proofs.Common.{◌∙◌, refl}
use Rattle.indirect_macs.specs.RunFields.{run_of}
use Rattle.indirect_macs.proofs.RunPutting.{inner_node, inner_kept, add_done, add_stopped}
use Rattle.indirect_macs.proofs.replace.add_inner.Goals as goal

pub returns-in-Ok : goal.returns-in-Ok
returns-in-Ok g c = λ o reads under made start is at below raised refs had.
    add_done _ reads _ _ c.kept.result _ c.in-Ok.node made c.args.refs.now.items c.push.new.refs.items start _ _ c.push.result
    (inner_node (run_of c.args.run.now) o c.args.level under c.args.index c.new_refs-entries.result c.requires.above (c.new_refs-entries.ensures o under (c.old_refs-children.ensures ∙ is) below raised)) (inner_kept (run_of c.args.run.now) o c.args.level under c.args.index c.old_refs-children.result c.new_refs-entries.result _ c.kept.result c.same_refs.result c.requires.above (c.old_refs-children.ensures ∙ is) (c.new_refs-entries.ensures o under (c.old_refs-children.ensures ∙ is) below raised) at c.same_refs.ensures c.kept.ensures) refl refs had c.in-Ok.ensures.value (c.in-Ok.ensures.puts reads made.puts start had) c.push.ensures.pushed c.push.ensures.stop

pub returns-in-Err : goal.returns-in-Err
returns-in-Err g c = λ o reads under made start is at below raised refs had.
    add_stopped reads _ _ c.kept.result _ made c.in-Err.stop start _
    (inner_node (run_of c.args.run.now) o c.args.level under c.args.index c.new_refs-entries.result c.requires.above (c.new_refs-entries.ensures o under (c.old_refs-children.ensures ∙ is) below raised)) (inner_kept (run_of c.args.run.now) o c.args.level under c.args.index c.old_refs-children.result c.new_refs-entries.result _ c.kept.result c.same_refs.result c.requires.above (c.old_refs-children.ensures ∙ is) (c.new_refs-entries.ensures o under (c.old_refs-children.ensures ∙ is) below raised) at c.same_refs.ensures c.kept.ensures) (c.in-Err.ensures.puts reads made.puts start had)
