use Rattle.std.proofs.Common.{◌≡◌, ℕ, ◌+◌, List, Some, ap, ◌∙◌, arith}
use Rattle.std.proofs.lemmas.Option.{IfSome_then}
use Rattle.file_blocks.proofs.Ranges.{tested_ended}
use Rattle.file_blocks.proofs.Loops.{tests_begun, tests_stop, tests_stop_told, tests_more, byte_is}
use mir.Val.{bool_byte}
use Rattle.file_blocks.proofs.read.test_into.Goals as goal

pub each-init : goal.each-init
each-init g c = (tests_begun _ c.args.block c.args.tree.now c.args.blocks _ _ c.requires.fits, tt)

pub returns-in-Err-clause-reading : goal.returns-in-Err-clause-reading
returns-in-Err-clause-reading g c =
    tests_stop _ c.args.block c.args.tree.now c.args.blocks c.each.k c.each.count c.each.buffer c.in-Err.stop _ _ _ c.each.invariant.0 c.each-test.true c.in-Err.ensures.reading

pub returns-in-Err-clause-told : goal.returns-in-Err-clause-told
returns-in-Err-clause-told g c =
    tests_stop_told {X = List ℕ} {Y = ℕ} _ c.args.block c.args.tree.now c.args.blocks c.each.k c.each.count c.each.buffer (λ bytes. Some bytes) (λ count. count) c.in-Err.stop _ _ c.each.invariant.0 c.each-test.true c.in-Err.ensures.told

pub each-preserved : goal.each-preserved
each-preserved g c = (
  tests_more _ c.args.block c.args.tree.now c.args.blocks c.each.k c.each.count _ c.in-Ok.stored _ c.each.buffer c.read_block.new.out _ _ _ c.each.invariant.0
      c.in-Ok.ensures.len c.in-Ok.ensures.reading c.in-Ok.ensures.told
      (ap (λ (n : ℕ). c.each.count + n) (c.from-count.ensures ∙ ap bool_byte c.is_some.ensures ∙ byte_is _)),
  c.read_block.ensures.known,
)

pub returns-clause-told : goal.returns-clause-told
returns-clause-told g c =
    let at_end : c.each.k ≡ c.args.blocks = omega arith in
    IfSome_then _ c.each.invariant.0.told (λ held so. tested_ended _ held c.args.block c.args.tree.now c.each.k c.args.blocks c.each.count so at_end)
