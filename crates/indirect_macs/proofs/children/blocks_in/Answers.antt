use Rattle.std.proofs.Common.{◌≡◌, ℕ, ◌+◌, ◌-◌, ◌*◌, take, drop, None, Option, ap, ◌∙◌, arith, length-set}
use Rattle.std.proofs.lemmas.List.Edits.{fill_by_more}
use Rattle.std.proofs.lemmas.List.FromFn.{fill_by_all}
use Rattle.indirect_macs.specs.declared.refs.BlockRef.{BlockRef}
use Rattle.indirect_macs.specs.Entries.{block_at}
use Rattle.indirect_macs.specs.Nodes.{slots}
use Rattle.indirect_macs.proofs.children.blocks_in.Goals as goal

pub entries-preserved : goal.entries-preserved
entries-preserved c = (
  length-set c.entries.blocks c.entries.slot _ ∙ c.entries.invariant.0,
  let f : ℕ → Option BlockRef = λ k. block_at (take 49 (drop (49 * k) c.args.node.now)) in
      let width : 49 * c.entries.slot + 49 - 49 * c.entries.slot ≡ 49 = omega arith in
      let entry : block_at (take (49 * c.entries.slot + 49 - 49 * c.entries.slot) (drop (49 * c.entries.slot) c.args.node.now)) ≡ block_at (take 49 (drop (49 * c.entries.slot) c.args.node.now)) =
      ap (λ (w : ℕ). block_at (take w (drop (49 * c.entries.slot) c.args.node.now))) width in
      rw (c.block_at.ensures, entry) (fill_by_more f c.entries.blocks c.entries.slot None (omega (arith, c.entries.invariant.0)) c.entries.invariant.1),
)

pub returns : goal.returns
unfolding slots
returns c =
    let end : c.entries.slot ≡ 32 = omega arith in
    fill_by_all (λ k. block_at (take 49 (drop (49 * k) c.args.node.now))) c.entries.blocks 32 None c.entries.invariant.0
    (λ k within. c.entries.invariant.1 k (omega (arith, end, within)))
