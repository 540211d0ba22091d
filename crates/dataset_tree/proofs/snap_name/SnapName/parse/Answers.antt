use Rattle.std.proofs.Common.{◌≡◌, ◌+◌, ◌<◌, length, drop, Ok, arith}
use Rattle.dataset_tree.specs.ShortNames.{part_named}
use Rattle.dataset_tree.proofs.SnapNameLemmas.{snap_named-faulty, snap_named-whole, snap_named-spelled}
use Rattle.dataset_tree.proofs.snap_name.SnapName.parse.Goals as goal

pub returns-in-Some-clause-named : goal.returns-in-Some-clause-named
returns-in-Some-clause-named c =
    let within : c.sign_in-sign.result < length c.args.bytes.now = omega arith in
    rw c.bad_name-in-Some.ensures (snap_named-faulty c.args.bytes.now c.in_ok-set.set c.sign_in-sign.result c.sign_in-sign.ensures within c.in_ok-set.ensures c.in-Some.at cc)

pub returns-clause-named : goal.returns-clause-named
returns-clause-named c =
    let within : c.sign_in-sign.result < length c.args.bytes.now = omega arith in
    let snap_is : part_named (drop (c.sign_in-sign.result + 1) c.args.bytes.now) ≡ Ok c.in_ok-snap.snap = rw c.rest_from-part.ensures at c.in_ok-snap.ensures in
    snap_named-whole c.args.bytes.now c.in_ok-set.set c.sign_in-sign.result c.sign_in-sign.ensures within c.in_ok-set.ensures c.in_ok-snap.snap snap_is

pub returns-clause-spelled : goal.returns-clause-spelled
returns-clause-spelled c =
    let within : c.sign_in-sign.result < length c.args.bytes.now = omega arith in
    let snap_is : part_named (drop (c.sign_in-sign.result + 1) c.args.bytes.now) ≡ Ok c.in_ok-snap.snap = rw c.rest_from-part.ensures at c.in_ok-snap.ensures in
    snap_named-spelled c.args.bytes.now c.in_ok-set.set c.sign_in-sign.result c.sign_in-sign.ensures within c.in_ok-set.ensures c.in_ok-snap.snap snap_is
