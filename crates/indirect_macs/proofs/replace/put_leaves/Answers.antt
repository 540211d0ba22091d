use Rattle.std.proofs.Common.{◌≡◌, ℕ, ◌+◌, length, sym, ap, ◌∙◌, subst, arith, Err}
use Rattle.indirect_macs.specs.RunFields.{run_of}
use Rattle.indirect_macs.specs.Runs.{first_at, count_at}
use Rattle.indirect_macs.proofs.RunSpans.{count_small, last_at_small, touched_last, entries_fit}
use Rattle.indirect_macs.proofs.Spans.{entries_of_range}
use Rattle.indirect_macs.proofs.RunPutting.{leaves_none, leaves_all, leaves_stop, nodes_step, old_node, none_made, NodesPut, leaf_added}
use Rattle.indirect_macs.specs.Steps.{HasPut, Puts}
use Rattle.indirect_macs.specs.Runs.{Made, nodes_made, entries_at}
use Rattle.indirect_macs.proofs.Putting.{same_puts}
use Rattle.indirect_macs.proofs.replace.put_leaves.Goals as goal

pub overflow_cast-i : goal.overflow_cast-i
overflow_cast-i g c = omega (arith, c.nodes-test.true, c.requires.count, count_small (run_of c.args.run.now) 1 (omega arith) (omega arith))

pub overflow_add-first : goal.overflow_add-first
overflow_add-first g c =
    omega (arith, c.first_at-first.ensures, touched_last (run_of c.args.run.now) 1 c.nodes.i (omega (arith, c.nodes-test.true, c.requires.count)), last_at_small (run_of c.args.run.now) 1 (omega arith) (omega arith))

pub add_leaf-requires-clause-fits : goal.add_leaf-requires-clause-fits
add_leaf-requires-clause-fits g c =
    rw c.first_at-first.ensures (entries_fit (run_of c.args.run.now) 1 c.nodes.i (omega arith) (omega arith) (omega arith) (omega (arith, c.nodes-test.true, c.requires.count)))

pub nodes-init : goal.nodes-init
nodes-init g c = λ before reads start nodes blocks had.
    rw c.new-refs.ensures.items (leaves_none (run_of c.args.run.now) before _ reads start _ (omega arith) had)

pub nodes-preserved : goal.nodes-preserved
nodes-preserved g c = λ before reads start nodes blocks had.
    let so = c.nodes.invariant before reads start nodes blocks had in
    let index : ℕ = c.first_at-first.result + c.nodes.i in
    let at : index ≡ first_at (run_of c.args.run.now) 1 + c.nodes.i = ap (λ (first : ℕ). first + c.nodes.i) c.first_at-first.ensures in
    let made : Made = nodes_made (run_of c.args.run.now) before (length start.sizes) 1 (none_made (run_of c.args.run.now)) c.nodes.i in
    let put =
    c.in_default.ensures before reads made start
    (entries_of_range before.block (first_at (run_of c.args.run.now) 1) (length c.args.old.now) c.nodes.i _ _ c.args.blocks.now c.nodes-test.true (omega arith) (omega arith) blocks ∙ ap (entries_at before.block) (sym at))
    (old_node (before.node 1) (first_at (run_of c.args.run.now) 1) c.nodes.i index c.args.old.now c.nodes-test.true at nodes) so.refs_is so.puts in
    nodes_step (run_of c.args.run.now) before (length start.sizes) 1 reads (none_made (run_of c.args.run.now)) c.nodes.i index c.add_leaf.new.refs.items start _ at
    (subst (λ (m : Made). (c.add_leaf.new.refs.items ≡ m.refs) × HasPut reads m.puts start (g.B.Shelf.told c.add_leaf.new.shelf))
    (leaf_added (run_of c.args.run.now) before (length start.sizes) index made (none_made (run_of c.args.run.now)) made) (put.0, same_puts reads _ _ tt start _ put.1))

pub returns-in-Err : goal.returns-in-Err
returns-in-Err g c = record {
  made = λ before reads start nodes blocks had.
      let so = c.nodes.invariant before reads start nodes blocks had in
      let index : ℕ = c.first_at-first.result + c.nodes.i in
      let at : index ≡ first_at (run_of c.args.run.now) 1 + c.nodes.i = ap (λ (first : ℕ). first + c.nodes.i) c.first_at-first.ensures in
      let made : Made = nodes_made (run_of c.args.run.now) before (length start.sizes) 1 (none_made (run_of c.args.run.now)) c.nodes.i in
      let put =
      c.in-Err.ensures before reads made start
      (entries_of_range before.block (first_at (run_of c.args.run.now) 1) (length c.args.old.now) c.nodes.i _ _ c.args.blocks.now c.nodes-test.true (omega arith) (omega arith) blocks ∙ ap (entries_at before.block) (sym at))
      (old_node (before.node 1) (first_at (run_of c.args.run.now) 1) c.nodes.i index c.args.old.now c.nodes-test.true at nodes) so.refs_is so.puts in (
        tt,
        leaves_stop (Unit {0}) _ (run_of c.args.run.now) before (length start.sizes) reads c.nodes.i index c.in-Err.stop start _ at (omega (arith, c.nodes-test.true, c.requires.count))
            (subst (λ (m : Made). Puts {X = Unit {0}} reads m.puts (Err c.in-Err.stop) start (g.B.Shelf.told c.add_leaf.new.shelf))
            (leaf_added (run_of c.args.run.now) before (length start.sizes) index made (none_made (run_of c.args.run.now)) made) put.1),
      );
}

pub returns : goal.returns
returns g c = record {
  made = λ before reads start nodes blocks had.
      let end : c.nodes.i ≡ count_at (run_of c.args.run.now) 1 = omega (arith, c.requires.count) in
      let so = subst (λ (n : ℕ). NodesPut (run_of c.args.run.now) before (length start.sizes) 1 (none_made (run_of c.args.run.now)) n reads c.nodes.refs.items start (g.B.Shelf.told c.nodes.shelf)) end
      (c.nodes.invariant before reads start nodes blocks had) in
      let all = leaves_all (run_of c.args.run.now) before (length start.sizes) reads c.nodes.refs.items start _ (omega arith) so in
      (all.0, same_puts reads _ tt _ start _ all.1);
}
