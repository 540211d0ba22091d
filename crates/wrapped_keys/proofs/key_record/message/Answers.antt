use Rattle.std.proofs.Common.{refl, ◌≡◌, ◌+◌, ◌≤◌, length, sym, ap, ◌∙◌, arith}
use Rattle.dataset_tree.specs.Suite.{suite_key_len}
use Rattle.wrapped_keys.proofs.Parts.{key_len-le, put_message}
use Rattle.wrapped_keys.proofs.key_record.message.Goals as goal

pub returns-clause-message : goal.returns-clause-message
returns-clause-message c =
    let same : suite_key_len c.suite.result ≡ suite_key_len c.args.key.now.suite = ap suite_key_len c.suite.ensures in
    let key_len : c.key_len-key_len.result ≡ suite_key_len c.args.key.now.suite = c.key_len-key_len.ensures ∙ same in
    let master : length c.copy_from_slice.new.self ≡ c.key_len-key_len.result =
    ap length c.copy_from_slice.ensures.after ∙ c.master.ensures.whole ∙ sym key_len in
    let fits : c.key_len-key_len.result + 64 ≤ 96 = omega (arith, key_len-le c.args.key.now.suite) in
    put_message c.key_len-key_len.result c.copy_from_slice.new.self c.copy_from_slice-2.new.self master fits
    ∙ rw (c.copy_from_slice.ensures.after, c.master.ensures.bytes, c.copy_from_slice-2.ensures.after, c.hmac.ensures, key_len) refl
