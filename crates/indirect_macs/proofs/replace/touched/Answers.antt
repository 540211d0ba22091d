use Rattle.std.proofs.Common.{◌≡◌, ◌+◌, ◌-◌, ◌*◌, arith, drop, length-take, length-drop}
use Rattle.indirect_macs.specs.RunFields.{run_of}
use Rattle.indirect_macs.specs.Runs.{first_at, count_at}
use Rattle.indirect_macs.proofs.RunSpans.{first_child, order_at, count_is, last_at_small}
use Rattle.indirect_macs.proofs.Spans.{part_of_range}
use Rattle.indirect_macs.proofs.replace.touched.Goals as goal

pub overflow_mul-result : goal.overflow_mul-result
overflow_mul-result c = omega (arith, c.first_at-above.ensures, c.first_at-low.ensures, c.last_at-high.ensures, (first_child (run_of c.args.run.now) c.args.level (omega arith)).0, (first_child (run_of c.args.run.now) c.args.level (omega arith)).1, (first_child (run_of c.args.run.now) c.args.level (omega arith)).2, order_at (run_of c.args.run.now) c.args.level, count_is (run_of c.args.run.now) c.args.level, count_is (run_of c.args.run.now) (c.args.level - 1), last_at_small (run_of c.args.run.now) (c.args.level - 1) (omega arith) (omega arith), c.requires.size)

pub overflow_sub-result : goal.overflow_sub-result
overflow_sub-result c = omega (arith, c.first_at-above.ensures, c.first_at-low.ensures, c.last_at-high.ensures, (first_child (run_of c.args.run.now) c.args.level (omega arith)).0, (first_child (run_of c.args.run.now) c.args.level (omega arith)).1, (first_child (run_of c.args.run.now) c.args.level (omega arith)).2, order_at (run_of c.args.run.now) c.args.level, count_is (run_of c.args.run.now) c.args.level, count_is (run_of c.args.run.now) (c.args.level - 1), last_at_small (run_of c.args.run.now) (c.args.level - 1) (omega arith) (omega arith), c.requires.size)

pub overflow_mul-result-2 : goal.overflow_mul-result-2
overflow_mul-result-2 c = omega (arith, c.first_at-above.ensures, c.first_at-low.ensures, c.last_at-high.ensures, (first_child (run_of c.args.run.now) c.args.level (omega arith)).0, (first_child (run_of c.args.run.now) c.args.level (omega arith)).1, (first_child (run_of c.args.run.now) c.args.level (omega arith)).2, order_at (run_of c.args.run.now) c.args.level, count_is (run_of c.args.run.now) c.args.level, count_is (run_of c.args.run.now) (c.args.level - 1), last_at_small (run_of c.args.run.now) (c.args.level - 1) (omega arith) (omega arith), c.requires.size)

pub overflow_sub-result-2 : goal.overflow_sub-result-2
overflow_sub-result-2 c = omega (arith, c.first_at-above.ensures, c.first_at-low.ensures, c.last_at-high.ensures, (first_child (run_of c.args.run.now) c.args.level (omega arith)).0, (first_child (run_of c.args.run.now) c.args.level (omega arith)).1, (first_child (run_of c.args.run.now) c.args.level (omega arith)).2, order_at (run_of c.args.run.now) c.args.level, count_is (run_of c.args.run.now) c.args.level, count_is (run_of c.args.run.now) (c.args.level - 1), last_at_small (run_of c.args.run.now) (c.args.level - 1) (omega arith) (omega arith), c.requires.size)

pub slice_bounds-result-count : goal.slice_bounds-result-count
slice_bounds-result-count c = omega (arith, c.first_at-above.ensures, c.first_at-low.ensures, c.last_at-high.ensures, (first_child (run_of c.args.run.now) c.args.level (omega arith)).0, (first_child (run_of c.args.run.now) c.args.level (omega arith)).1, (first_child (run_of c.args.run.now) c.args.level (omega arith)).2, order_at (run_of c.args.run.now) c.args.level, count_is (run_of c.args.run.now) c.args.level, count_is (run_of c.args.run.now) (c.args.level - 1), last_at_small (run_of c.args.run.now) (c.args.level - 1) (omega arith) (omega arith), c.requires.size)

pub slice_bounds-result-start : goal.slice_bounds-result-start
slice_bounds-result-start c = omega (arith, c.first_at-above.ensures, c.first_at-low.ensures, c.last_at-high.ensures, (first_child (run_of c.args.run.now) c.args.level (omega arith)).0, (first_child (run_of c.args.run.now) c.args.level (omega arith)).1, (first_child (run_of c.args.run.now) c.args.level (omega arith)).2, order_at (run_of c.args.run.now) c.args.level, count_is (run_of c.args.run.now) c.args.level, count_is (run_of c.args.run.now) (c.args.level - 1), last_at_small (run_of c.args.run.now) (c.args.level - 1) (omega arith) (omega arith), c.requires.size)

pub slice_bounds-result-end : goal.slice_bounds-result-end
slice_bounds-result-end c = omega (arith, c.first_at-above.ensures, c.first_at-low.ensures, c.last_at-high.ensures, (first_child (run_of c.args.run.now) c.args.level (omega arith)).0, (first_child (run_of c.args.run.now) c.args.level (omega arith)).1, (first_child (run_of c.args.run.now) c.args.level (omega arith)).2, order_at (run_of c.args.run.now) c.args.level, count_is (run_of c.args.run.now) c.args.level, count_is (run_of c.args.run.now) (c.args.level - 1), last_at_small (run_of c.args.run.now) (c.args.level - 1) (omega arith) (omega arith), c.requires.size)

pub returns-clause-count : goal.returns-clause-count
returns-clause-count c =
    omega (
      arith,
      c.first_at-above.ensures,
      c.first_at-low.ensures,
      c.last_at-high.ensures,
      (first_child (run_of c.args.run.now) c.args.level (omega arith)).0,
      (first_child (run_of c.args.run.now) c.args.level (omega arith)).1,
      (first_child (run_of c.args.run.now) c.args.level (omega arith)).2,
      order_at (run_of c.args.run.now) c.args.level,
      count_is (run_of c.args.run.now) c.args.level,
      count_is (run_of c.args.run.now) (c.args.level - 1),
      last_at_small (run_of c.args.run.now) (c.args.level - 1) (omega arith) (omega arith),
      c.requires.size,
      length-take (c.last_at-high.result - 32 * c.first_at-above.result + 1 - (c.first_at-low.result - 32 * c.first_at-above.result)) (drop (c.first_at-low.result - 32 * c.first_at-above.result) c.args.children.now),
      length-drop (c.first_at-low.result - 32 * c.first_at-above.result) c.args.children.now,
    )

pub returns-clause-range : goal.returns-clause-range
returns-clause-range c = λ f is.
    let from : 32 * first_at (run_of c.args.run.now) c.args.level + (c.first_at-low.result - 32 * c.first_at-above.result) ≡ first_at (run_of c.args.run.now) (c.args.level - 1) = omega (arith, c.first_at-above.ensures, c.first_at-low.ensures, c.last_at-high.ensures, (first_child (run_of c.args.run.now) c.args.level (omega arith)).0, (first_child (run_of c.args.run.now) c.args.level (omega arith)).1, (first_child (run_of c.args.run.now) c.args.level (omega arith)).2, order_at (run_of c.args.run.now) c.args.level, count_is (run_of c.args.run.now) c.args.level, count_is (run_of c.args.run.now) (c.args.level - 1), last_at_small (run_of c.args.run.now) (c.args.level - 1) (omega arith) (omega arith), c.requires.size) in
    let many : c.last_at-high.result - 32 * c.first_at-above.result + 1 - (c.first_at-low.result - 32 * c.first_at-above.result) ≡ count_at (run_of c.args.run.now) (c.args.level - 1) = omega (arith, c.first_at-above.ensures, c.first_at-low.ensures, c.last_at-high.ensures, (first_child (run_of c.args.run.now) c.args.level (omega arith)).0, (first_child (run_of c.args.run.now) c.args.level (omega arith)).1, (first_child (run_of c.args.run.now) c.args.level (omega arith)).2, order_at (run_of c.args.run.now) c.args.level, count_is (run_of c.args.run.now) c.args.level, count_is (run_of c.args.run.now) (c.args.level - 1), last_at_small (run_of c.args.run.now) (c.args.level - 1) (omega arith) (omega arith), c.requires.size) in
    rw many (rw from at (part_of_range f (32 * first_at (run_of c.args.run.now) c.args.level) (32 * count_at (run_of c.args.run.now) c.args.level) (c.first_at-low.result - 32 * c.first_at-above.result) (count_at (run_of c.args.run.now) (c.args.level - 1)) c.args.children.now
    (omega (arith, c.first_at-above.ensures, c.first_at-low.ensures, c.last_at-high.ensures, (first_child (run_of c.args.run.now) c.args.level (omega arith)).0, (first_child (run_of c.args.run.now) c.args.level (omega arith)).1, (first_child (run_of c.args.run.now) c.args.level (omega arith)).2, order_at (run_of c.args.run.now) c.args.level, count_is (run_of c.args.run.now) c.args.level, count_is (run_of c.args.run.now) (c.args.level - 1), last_at_small (run_of c.args.run.now) (c.args.level - 1) (omega arith) (omega arith), c.requires.size)) is))
