use Rattle.std.proofs.Common.{◌≡◌, ℕ, get_or, map, Ok, None, Option, Result, sym, ◌∙◌, arith, length-set}
use Rattle.std.proofs.lemmas.List.{ext_get_or, get_or-map, length-map}
use Rattle.std.proofs.lemmas.List.Edits.{fill_by_more}
use Rattle.indirect_macs.specs.declared.refs.NodeRef.{NodeRef}
use Rattle.indirect_macs.specs.declared.refs.MacError.{MacError}
use Rattle.indirect_macs.specs.Runs.{or_hole}
use Rattle.indirect_macs.proofs.replace.old_refs.Goals as goal

pub entries-preserved : goal.entries-preserved
entries-preserved c = (
  length-set c.entries.entries c.entries.slot _ ∙ c.entries.invariant.0,
  let f : ℕ → Option NodeRef = λ k. or_hole (get_or c.args.old.now k (Ok None)) in
      rw c.or_hole.ensures (fill_by_more f c.entries.entries c.entries.slot None (omega (arith, c.entries.invariant.0)) c.entries.invariant.1),
)

pub returns : goal.returns
returns c =
    let end : c.entries.slot ≡ 32 = omega arith in
    let f : Result (Option NodeRef) MacError → Option NodeRef = or_hole in
    ext_get_or None c.entries.entries (map f c.args.old.now) (simp length-map (omega (arith, c.entries.invariant.0)))
    (λ k within. c.entries.invariant.1 k (omega (arith, end, within, c.entries.invariant.0)) ∙ sym (get_or-map f c.args.old.now k (Ok None) None (omega (arith, within, c.entries.invariant.0))))
