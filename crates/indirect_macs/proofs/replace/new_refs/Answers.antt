use Rattle.std.proofs.Common.{◌≡◌, ℕ, ◌+◌, ◌-◌, ◌*◌, None, Option, ◌∙◌, arith, length-set}
use Rattle.std.proofs.lemmas.List.Edits.{fill_by_more}
use Rattle.indirect_macs.specs.declared.refs.NodeRef.{NodeRef}
use Rattle.indirect_macs.specs.Runs.{new_ref}
use Rattle.indirect_macs.specs.RunFields.{run_of}
use Rattle.indirect_macs.proofs.Spans.{entry_in, entries_filled}
use Rattle.indirect_macs.proofs.replace.new_refs.Goals as goal

pub entries-preserved : goal.entries-preserved
entries-preserved c = (
  length-set c.entries.entries c.entries.slot _ ∙ c.entries.invariant.0,
  λ before made is refs raised.
      let f : ℕ → Option NodeRef = λ k. new_ref (run_of c.args.run.now) before (c.args.level - 1) made (32 * c.args.index + k) in
      let new : c.new_ref.result ≡ f c.entries.slot =
      c.new_ref.ensures before made (entry_in (before.node (c.args.level - 1)) c.args.index c.entries.slot c.args.old.now _ (omega arith) is) refs raised in
      rw new (fill_by_more f c.entries.entries c.entries.slot None (omega (arith, c.entries.invariant.0)) (c.entries.invariant.1 before made is refs raised)),
)

pub returns : goal.returns
returns c = λ before made is refs raised.
    let end : c.entries.slot ≡ 32 = omega arith in
    entries_filled (new_ref (run_of c.args.run.now) before (c.args.level - 1) made) c.args.index c.entries.entries None c.entries.invariant.0
    (λ k within. c.entries.invariant.1 before made is refs raised k (omega (arith, end, within)))
