use Rattle.std.proofs.Common.{◌≡◌, ℕ, ◌+◌, ◌-◌, ◌*◌, take, drop, Ok, None, Option, Result, ap, ◌∙◌, arith, ◌==◌, false, length-set}
use Rattle.std.proofs.lemmas.Bool.{ne_eqb}
use Rattle.std.proofs.lemmas.List.Edits.{fill_by_more}
use Rattle.std.proofs.lemmas.List.FromFn.{fill_by_all}
use Rattle.indirect_macs.specs.declared.refs.NodeRef.{NodeRef}
use Rattle.indirect_macs.specs.declared.refs.MacError.{MacError}
use Rattle.indirect_macs.specs.Entries.{node_at}
use Rattle.indirect_macs.specs.Nodes.{slots}
use Rattle.indirect_macs.proofs.children.refs_in.Goals as goal

pub entries-preserved : goal.entries-preserved
entries-preserved c = (
  length-set c.entries.found c.entries.slot _ ∙ c.entries.invariant.0,
  let f : ℕ → Result (Option NodeRef) MacError = λ k. Ok (node_at (take 25 (drop (25 * k) c.args.node.now))) in
      let width : 25 * c.entries.slot + 25 - 25 * c.entries.slot ≡ 25 = omega arith in
      let entry : node_at (take (25 * c.entries.slot + 25 - 25 * c.entries.slot) (drop (25 * c.entries.slot) c.args.node.now)) ≡ node_at (take 25 (drop (25 * c.entries.slot) c.args.node.now)) =
      ap (λ (w : ℕ). node_at (take w (drop (25 * c.entries.slot) c.args.node.now))) width in
      rw (c.node_at.ensures, entry) (fill_by_more f c.entries.found c.entries.slot (Ok None) (omega (arith, c.entries.invariant.0)) c.entries.invariant.1),
)

pub returns : goal.returns
unfolding slots
returns c = λ level above.
    let other : (level == 1) ≡ false = ne_eqb level 1 (λ e. omega (arith, e, above)) in
    let end : c.entries.slot ≡ 32 = omega arith in
    rw other (fill_by_all (λ k. Ok (node_at (take 25 (drop (25 * k) c.args.node.now)))) c.entries.found 32 (Ok None) c.entries.invariant.0
    (λ k within. c.entries.invariant.1 k (omega (arith, end, within))))
