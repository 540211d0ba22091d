use Rattle.std.proofs.Common.{◌≡◌, ℕ, ◌+◌, ◌-◌, length, map, sym, ap, ◌∙◌, subst, arith, Option, Result}
use Rattle.indirect_macs.specs.RunFields.{run_of}
use Rattle.indirect_macs.specs.Runs.{first_at, or_hole}
use Rattle.indirect_macs.proofs.RunSpans.{count_small, last_at_small, touched_last, entries_fit}
use Rattle.indirect_macs.proofs.Spans.{entries_of_range}
use Rattle.indirect_macs.proofs.RunPutting.{nodes_none, nodes_step, nodes_stop, old_node, map_part, NodesPut}
use Rattle.indirect_macs.specs.declared.refs.NodeRef.{NodeRef}
use Rattle.indirect_macs.specs.declared.refs.MacError.{MacError}
use Rattle.indirect_macs.specs.Runs.{Made, nodes_made, entries_at}
use Rattle.indirect_macs.proofs.Putting.{same_puts}
use Rattle.indirect_macs.proofs.replace.put_nodes.Goals as goal

pub overflow_cast-i : goal.overflow_cast-i
overflow_cast-i g c = omega (arith, c.nodes-test.true, c.requires.count, count_small (run_of c.args.run.now) c.args.level (omega arith) (omega arith))

pub overflow_add-first : goal.overflow_add-first
overflow_add-first g c =
    omega (arith, c.first_at-first.ensures, touched_last (run_of c.args.run.now) c.args.level c.nodes.i (omega (arith, c.nodes-test.true, c.requires.count)), last_at_small (run_of c.args.run.now) c.args.level (omega arith) (omega arith))

pub add_inner-requires-clause-fits : goal.add_inner-requires-clause-fits
add_inner-requires-clause-fits g c =
    rw c.first_at-first.ensures (entries_fit (run_of c.args.run.now) c.args.level c.nodes.i (omega arith) (omega arith) (omega arith) (omega (arith, c.nodes-test.true, c.requires.count)))

pub nodes-init : goal.nodes-init
nodes-init g c = λ before reads made start knows refs raised had.
    rw c.new-refs.ensures.items (nodes_none (run_of c.args.run.now) before _ c.args.level reads made start _ had)

pub nodes-preserved : goal.nodes-preserved
nodes-preserved g c = λ before reads made start knows refs raised had.
    let so = c.nodes.invariant before reads made start knows refs raised had in
    let index : ℕ = c.first_at-first.result + c.nodes.i in
    let at : index ≡ first_at (run_of c.args.run.now) c.args.level + c.nodes.i = ap (λ (first : ℕ). first + c.nodes.i) c.first_at-first.ensures in
    let now : Made = nodes_made (run_of c.args.run.now) before (length start.sizes) c.args.level made c.nodes.i in
    let f : Result (Option NodeRef) MacError → Option NodeRef = or_hole in
    let put =
    c.in_default.ensures before reads made now start
    (map_part f _ _ c.args.children.now ∙ entries_of_range (before.node (c.args.level - 1)) (first_at (run_of c.args.run.now) c.args.level) (length c.args.old.now) c.nodes.i _ _ (map f c.args.children.now) c.nodes-test.true (omega arith) (omega arith) knows.children
    ∙ ap (entries_at (before.node (c.args.level - 1))) (sym at))
    (old_node (before.node c.args.level) (first_at (run_of c.args.run.now) c.args.level) c.nodes.i index c.args.old.now c.nodes-test.true at knows.nodes) refs raised so.refs_is so.puts in
    nodes_step (run_of c.args.run.now) before (length start.sizes) c.args.level reads made c.nodes.i index c.add_inner.new.refs.items start _ at (put.0, same_puts reads _ _ tt start _ put.1)

pub returns-in-Err : goal.returns-in-Err
returns-in-Err g c = λ before reads made start knows refs raised had.
    let so = c.nodes.invariant before reads made start knows refs raised had in
    let index : ℕ = c.first_at-first.result + c.nodes.i in
    let at : index ≡ first_at (run_of c.args.run.now) c.args.level + c.nodes.i = ap (λ (first : ℕ). first + c.nodes.i) c.first_at-first.ensures in
    let now : Made = nodes_made (run_of c.args.run.now) before (length start.sizes) c.args.level made c.nodes.i in
    let f : Result (Option NodeRef) MacError → Option NodeRef = or_hole in
    let put =
    c.in-Err.ensures before reads made now start
    (map_part f _ _ c.args.children.now ∙ entries_of_range (before.node (c.args.level - 1)) (first_at (run_of c.args.run.now) c.args.level) (length c.args.old.now) c.nodes.i _ _ (map f c.args.children.now) c.nodes-test.true (omega arith) (omega arith) knows.children
    ∙ ap (entries_at (before.node (c.args.level - 1))) (sym at))
    (old_node (before.node c.args.level) (first_at (run_of c.args.run.now) c.args.level) c.nodes.i index c.args.old.now c.nodes-test.true at knows.nodes) refs raised so.refs_is so.puts in
    (tt, nodes_stop (Unit {0}) _ (run_of c.args.run.now) before (length start.sizes) c.args.level reads made c.nodes.i index (length c.args.old.now) c.in-Err.stop start _ at c.nodes-test.true put.1)

pub returns : goal.returns
returns g c = λ before reads made start knows refs raised had.
    let end : c.nodes.i ≡ length c.args.old.now = omega arith in
    let so = subst (λ (n : ℕ). NodesPut (run_of c.args.run.now) before (length start.sizes) c.args.level made n reads c.nodes.refs.items start (g.B.Shelf.told c.nodes.shelf)) end
    (c.nodes.invariant before reads made start knows refs raised had) in
    (so.refs_is, same_puts reads _ tt _ start _ so.puts)
