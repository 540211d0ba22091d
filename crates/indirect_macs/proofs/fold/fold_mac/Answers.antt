use Rattle.std.proofs.Common.{◌≡◌, ◌≤◌, ◌+◌, None, ap, sym, ◌∙◌, arith, length, vec_len}
use Rattle.indirect_macs.specs.Entries.{block_under_mac, node_under_mac}
use Rattle.indirect_macs.specs.Fold.{fold_mac, group_macs, group_count}
use Rattle.indirect_macs.proofs.Groups.{IsLeft-first, IsLeft-more, length-group_macs, folded_last, fewer_groups, first_any}
use Rattle.indirect_macs.proofs.fold.fold_mac.Goals as goal

pub levels-init : goal.levels-init
unfolding fold_mac
levels-init c =
    let count = length-group_macs 1 block_under_mac c.args.refs.now in
    rw c.in_ok-macs.ensures (IsLeft-first (group_macs 1 block_under_mac c.args.refs.now) (length c.args.refs.now) count (omega arith))

pub levels-smaller : goal.levels-smaller
levels-smaller c =
    let size : vec_len c.levels.macs ≡ length c.levels.macs.items = c.levels.macs.ok.0 in
    let size_next : vec_len c.in_ok-macs-2.macs ≡ length c.in_ok-macs-2.macs.items = c.in_ok-macs-2.macs.ok.0 in
    let count : length c.in_ok-macs-2.macs.items ≡ group_count (length c.levels.macs.items) =
    ap length (c.in_ok-macs-2.ensures ∙ ap (group_macs (c.levels.level + 1) node_under_mac) c.deref.ensures.value)
    ∙ length-group_macs (c.levels.level + 1) node_under_mac c.levels.macs.items in
    let some : 2 ≤ length c.levels.macs.items = omega arith in
    omega (arith, count, fewer_groups (length c.levels.macs.items) some)

pub levels-preserved : goal.levels-preserved
levels-preserved c =
    let size : vec_len c.levels.macs ≡ length c.levels.macs.items = c.levels.macs.ok.0 in
    let some : 2 ≤ length c.levels.macs.items = omega arith in
    IsLeft-more (fold_mac c.args.refs.now) c.levels.level c.levels.macs.items c.in_ok-macs-2.macs.items some
    (c.in_ok-macs-2.ensures ∙ ap (group_macs (c.levels.level + 1) node_under_mac) c.deref.ensures.value) c.levels.invariant

pub returns : goal.returns
returns c =
    let size : vec_len c.levels.macs ≡ length c.levels.macs.items = c.levels.macs.ok.0 in
    let one : length c.levels.macs.items ≤ 1 = omega arith in
    c.index.ensures ∙ first_any c.levels.macs.items _ None c.levels.invariant.some
    ∙ sym (folded_last c.levels.invariant.more c.levels.level c.levels.macs.items one) ∙ c.levels.invariant.same
