use Rattle.std.proofs.Common.{◌≡◌, ℕ, List, take, ap, ◌∙◌, subst, arith}
use Rattle.std.proofs.lemmas.List.{take_all}
use Rattle.sha2.specs.Hashers.{Holds512}
use Rattle.indirect_macs.specs.Entries.{block_under_mac}
use Rattle.indirect_macs.specs.Nodes.{mac_of}
use Rattle.indirect_macs.proofs.Groups.{entry_more}
use Rattle.indirect_macs.proofs.fold.blocks_mac.Goals as goal

pub entries-preserved : goal.entries-preserved
entries-preserved c =
    subst (λ (m : List ℕ). Holds512 c.update_block.new.hasher m) (entry_more block_under_mac 1 c.args.entries.now c.entries.entry-index _ c.entries-test.true)
    (c.update_block.ensures _ c.entries.invariant)

pub returns : goal.returns
unfolding mac_of
returns c =
    let all : take c.entries.entry-index c.args.entries.now ≡ c.args.entries.now = take_all _ _ (omega arith) in
    let whole = rw all at c.entries.invariant in
    c.cut.ensures ∙ ap (take 16) (c.finalize.ensures _ whole)
