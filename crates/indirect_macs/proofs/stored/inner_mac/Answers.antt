use Rattle.std.proofs.Common.{◌≡◌, ℕ, List, take, ap, sym, ◌∙◌, subst, arith, Option}
use Rattle.std.specs.Option.{option_map}
use Rattle.std.proofs.lemmas.List.{take_all}
use Rattle.sha2.specs.Hashers.{Holds512}
use Rattle.indirect_macs.specs.declared.refs.NodeRef.{NodeRef}
use Rattle.indirect_macs.specs.Entries.{node_under_mac}
use Rattle.indirect_macs.specs.Nodes.{mac_of}
use Rattle.indirect_macs.proofs.Groups.{entry_more}
use Rattle.indirect_macs.proofs.Buffers.{flat_map-map}
use Rattle.indirect_macs.proofs.stored.inner_mac.Goals as goal

pub entries-preserved : goal.entries-preserved
entries-preserved c =
    let f : Option NodeRef → List ℕ = λ e. node_under_mac (option_map (λ r. r.mac) e) in
    subst (λ (m : List ℕ). Holds512 c.update_node.new.hasher m) (entry_more f c.args.level c.args.entries.now c.entries.entry-index _ (omega arith))
    (rw c.mac_in.ensures at (c.update_node.ensures _ c.entries.invariant))

pub returns : goal.returns
unfolding mac_of
returns c =
    let all : take c.entries.entry-index c.args.entries.now ≡ c.args.entries.now = take_all _ _ (omega arith) in
    let whole = rw (all, sym (flat_map-map node_under_mac (option_map (λ (r : NodeRef). r.mac)) c.args.entries.now)) at c.entries.invariant in
    c.cut.ensures ∙ ap (take 16) (c.finalize.ensures _ whole)
