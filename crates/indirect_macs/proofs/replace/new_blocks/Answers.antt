use Rattle.std.proofs.Common.{◌≡◌, ℕ, ◌+◌, ◌*◌, None, Option, ◌∙◌, arith, length-set}
use Rattle.std.proofs.lemmas.List.Edits.{fill_by_more}
use Rattle.indirect_macs.specs.declared.refs.BlockRef.{BlockRef}
use Rattle.indirect_macs.specs.Runs.{target}
use Rattle.indirect_macs.specs.RunFields.{run_of}
use Rattle.indirect_macs.proofs.Spans.{entry_in, entries_filled}
use Rattle.indirect_macs.proofs.replace.new_blocks.Goals as goal

pub entries-preserved : goal.entries-preserved
entries-preserved c = (
  length-set c.entries.entries c.entries.slot _ ∙ c.entries.invariant.0,
  λ before is.
      let f : ℕ → Option BlockRef = λ k. target (run_of c.args.run.now) before (32 * c.args.index + k) in
      let new : c.target.result ≡ f c.entries.slot = c.target.ensures before (entry_in before.block c.args.index c.entries.slot c.args.old.now _ (omega arith) is) in
      rw new (fill_by_more f c.entries.entries c.entries.slot None (omega (arith, c.entries.invariant.0)) (c.entries.invariant.1 before is)),
)

pub returns : goal.returns
returns c = λ before is.
    let end : c.entries.slot ≡ 32 = omega arith in
    entries_filled (target (run_of c.args.run.now) before) c.args.index c.entries.entries None c.entries.invariant.0
    (λ k within. c.entries.invariant.1 before is k (omega (arith, end, within)))
