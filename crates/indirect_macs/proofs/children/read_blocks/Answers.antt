use Rattle.std.proofs.Common.{◌≡◌, ℕ, ◌+◌, length, refl, ap, arith}
use Rattle.indirect_macs.specs.RunFields.{run_of}
use Rattle.indirect_macs.proofs.RunSpans.{count_small, last_at_small, touched_last, touched_fits}
use Rattle.indirect_macs.proofs.RunReading.{reads_more, reads_wider, blocks_more, blocks_stop}
use Rattle.indirect_macs.proofs.children.read_blocks.Goals as goal

pub overflow_cast-i : goal.overflow_cast-i
overflow_cast-i g c = omega (arith, c.nodes-test.true, c.requires, count_small (run_of c.args.run.now) 1 (omega arith) (omega arith))

pub overflow_add-first : goal.overflow_add-first
overflow_add-first g c =
    omega (arith, c.first_at-first.ensures, touched_last (run_of c.args.run.now) 1 c.nodes.i (omega (arith, c.nodes-test.true, c.requires)), last_at_small (run_of c.args.run.now) 1 (omega arith) (omega arith))

pub add_blocks-requires : goal.add_blocks-requires
add_blocks-requires g c =
    record { fits = rw c.first_at-first.ensures (touched_fits (run_of c.args.run.now) 1 c.nodes.i (omega arith) (omega arith) (omega (arith, c.nodes-test.true, c.requires))) }

pub returns-in-Err-clause-reads : goal.returns-in-Err-clause-reads
returns-in-Err-clause-reads g c =
    reads_wider (c.nodes.i + 1) _ _ _ _ (omega (arith, c.nodes-test.true)) (reads_more c.nodes.i 1 _ _ _ _ c.nodes.invariant.reads c.in-Err.ensures.reads)

pub returns-in-Err-clause-stops : goal.returns-in-Err-clause-stops
returns-in-Err-clause-stops g c =
    blocks_stop (Unit {0}) c.args.run.now.block (run_of c.args.run.now) c.nodes.i _ c.args.old.now c.nodes.blocks.items c.add_blocks.new.blocks.items _ c.in-Err.stop _ _
    c.nodes.invariant (ap (λ (first : ℕ). first + c.nodes.i) c.first_at-first.ensures) c.nodes-test.true refl c.in-Err.ensures.told

pub nodes-preserved : goal.nodes-preserved
nodes-preserved g c =
    blocks_more c.args.run.now.block (run_of c.args.run.now) c.nodes.i _ c.args.old.now c.nodes.blocks.items c.add_blocks.new.blocks.items _ (tt {0}) _ _ _
    c.nodes.invariant (ap (λ (first : ℕ). first + c.nodes.i) c.first_at-first.ensures) c.nodes-test.true refl c.in_default.ensures.reads c.in_default.ensures.size c.in_default.ensures.told

pub returns-clause-told : goal.returns-clause-told
returns-clause-told g c =
    let end : c.nodes.i ≡ length c.args.old.now = omega arith in
    rw end at c.nodes.invariant.told
