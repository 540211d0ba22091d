use Rattle.std.proofs.Common.{◌≡◌, ℕ, ◌+◌, ◌<◌, List, Some, ap, arith}
use Rattle.file_blocks.specs.Objects.{blocks_for, count_touched}
use Rattle.file_blocks.proofs.Ranges.{in_object, has_room, few_blocks, base_fits, low_is, high_is}
use Rattle.file_blocks.proofs.Loops.{reads_begun, reads_stop, reads_stop_told, reads_full, reads_more, reads_size, reads_told}
use Rattle.file_blocks.proofs.read.read_into.Goals as goal

pub each-init : goal.each-init
each-init g c = (reads_begun _ c.args.block c.args.object.now.tree c.args.from c.args.end _ _ _ c.requires.empty c.requires.fits, tt)

pub read_block-requires-clause-within : goal.read_block-requires-clause-within
read_block-requires-clause-within g c =
    let touches : c.each.k < count_touched c.args.block c.args.from c.args.end = rw c.count_touched-count.ensures.value at c.each-test.true in
    let inside = in_object c.args.block c.args.from c.args.end c.args.object.now.length c.each.k (omega arith) c.requires.within touches in
    let room = has_room (blocks_for c.args.block c.args.object.now.length) (few_blocks c.args.block c.args.object.now.length c.requires.above c.requires.object.bytes) in
    rw (c.first_touched-first.ensures.value, c.requires.object.levels) (omega (arith, inside, room))

pub returns-in-Err-clause-reading : goal.returns-in-Err-clause-reading
returns-in-Err-clause-reading g c =
    reads_stop _ c.args.block c.args.object.now.tree c.args.from c.args.end c.each.k _ c.each.out.items c.each.buffer c.in-Err.stop _ _ _ c.each.invariant.0
    (ap (λ (n : ℕ). n + c.each.k) c.first_touched-first.ensures.value) (rw c.count_touched-count.ensures.value at c.each-test.true) c.in-Err.ensures.reading

pub returns-in-Err-clause-told : goal.returns-in-Err-clause-told
returns-in-Err-clause-told g c =
    reads_stop_told {X = List ℕ} {Y = List ℕ} _ c.args.block c.args.object.now.tree c.args.from c.args.end c.each.k _ c.each.out.items c.each.buffer (λ bytes. Some bytes) (λ bytes. bytes) c.in-Err.stop _ _ c.each.invariant.0
    (ap (λ (n : ℕ). n + c.each.k) c.first_touched-first.ensures.value) (rw c.count_touched-count.ensures.value at c.each-test.true) c.in-Err.ensures.told

pub overflow_sub-upto-in-each : goal.overflow_sub-upto-in-each
overflow_sub-upto-in-each g c =
    base_fits c.args.block c.args.from c.args.end c.each.k _ c.from.ensures (omega arith) c.requires.order (rw c.count_touched-count.ensures.value at c.each-test.true)

pub returns-in-Err-append-clause-reading : goal.returns-in-Err-append-clause-reading
returns-in-Err-append-clause-reading g c =
    reads_full _ c.args.block c.args.object.now.tree c.args.from c.args.end c.each.k _ c.each.out.items c.each.buffer _ c.in-Err-append.stop _ _ _ c.each.invariant.0
    (rw c.count_touched-count.ensures.value at c.each-test.true) c.in_default.ensures.reading c.in-Err-append.ensures.stop

pub each-preserved : goal.each-preserved
each-preserved g c = (
  reads_more _ c.args.block c.args.object.now.tree c.args.from c.args.end c.each.k _ c.saturating_sub.result c.min.result c.in_default.field-0 _
      c.each.out.items c.each.buffer c.read_block.new.out c.append.new.list.items _ _ _ c.each.invariant.0 (omega arith)
      (ap (λ (n : ℕ). n + c.each.k) c.first_touched-first.ensures.value) (rw c.count_touched-count.ensures.value at c.each-test.true)
      c.in_default.ensures.len c.in_default.ensures.reading c.in_default.ensures.bytes c.in_default.ensures.told
      (low_is c.args.block c.args.from c.each.k _ c.saturating_sub.result c.from.ensures c.saturating_sub.ensures)
      (high_is c.args.block c.args.from c.args.end c.each.k _ c.min.result c.from.ensures c.requires.order c.min.ensures)
      c.in_default-append.ensures.all,
  c.read_block.ensures.known,
)

pub returns-clause-size : goal.returns-clause-size
returns-clause-size g c =
    let at_end : c.each.k ≡ count_touched c.args.block c.args.from c.args.end = omega (arith, c.count_touched-count.ensures.value) in
    reads_size _ c.args.block c.args.object.now.tree c.args.from c.args.end c.each.k c.each.out.items c.each.buffer _ _ c.each.invariant.0 (omega arith) c.requires.order at_end

pub returns-clause-told : goal.returns-clause-told
returns-clause-told g c =
    let at_end : c.each.k ≡ count_touched c.args.block c.args.from c.args.end = omega (arith, c.count_touched-count.ensures.value) in
    reads_told _ c.args.block c.args.object.now.tree c.args.from c.args.end c.each.k c.each.out.items c.each.buffer _ _ c.each.invariant.0 at_end
