use Rattle.std.proofs.Common.{◌≡◌, ◌++◌, length, sym, rules, add-one}
use Rattle.std.specs.Int.{w32, to_be_bytes}
use Rattle.hmac_hkdf.specs.Hmac.{hmac1}
use Rattle.pbkdf2_keys.specs.Pbkdf2.{block, iterate}
use Rattle.byte_blocks.proofs.Xor.{xor_bytes-zeros}
use Rattle.pbkdf2_keys.proofs.derived_block.Goals as goal

pub loop-done-init : goal.loop-done-init
unfolding iterate block
loop-done-init c secret made =
    let first = c.mac_of_two-iterate.result in
    let is : first ≡ hmac1 secret (c.args.salt.now ++ to_be_bytes w32 c.args.number) = rw c.to_be_bytes.ensures at (c.mac_of_two-iterate.ensures secret made) in
    let long : length first ≡ 20 = search rules in
    (is, rw (← is) (sym (xor_bytes-zeros first 20 long)))

pub loop-done-preserved : goal.loop-done-preserved
unfolding iterate block
loop-done-preserved c secret made =
    let before = c.loop-done.invariant secret made in
    let is = rw before.0 at (c.mac-iterate.ensures secret made) in
    rw add-one (is, rw (← is, ← before.1) c.xor_into.ensures)
