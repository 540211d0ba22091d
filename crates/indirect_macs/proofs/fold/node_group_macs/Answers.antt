use Rattle.std.proofs.Common.{◌≡◌, ℕ, List, Option, ap, sym, ◌∙◌, length, arith}
use Rattle.indirect_macs.specs.Entries.{node_under_mac}
use Rattle.indirect_macs.specs.Fold.{group_mac, group_macs, group_at, group_count}
use Rattle.indirect_macs.proofs.Groups.{groups_more}
use Rattle.indirect_macs.proofs.fold.node_group_macs.Goals as goal

pub groups-preserved : goal.groups-preserved
groups-preserved c =
    let mac_at : ℕ → Option (List ℕ) = λ j. group_mac c.args.level node_under_mac (group_at c.args.below.now j) in
    let value : c.node_group_mac.result ≡ mac_at c.groups.group =
    c.node_group_mac.ensures ∙ ap (group_mac c.args.level node_under_mac) c.group_at.ensures.entries in
    c.in_ok-push.ensures.items ∙ rw (c.groups.invariant, value) (sym (groups_more mac_at c.groups.group))

pub returns : goal.returns
unfolding group_macs
returns c =
    let end : c.groups.group ≡ group_count (length c.args.below.now) = omega arith in
    rw end at c.groups.invariant
