use Rattle.std.proofs.Common.{◌≡◌, ◌%◌, ◌<◌, slice_index, take, get_or-take, length-take-le, sym, ap, ◌∙◌, arith}
use Rattle.std.proofs.lemmas.List.{ext_get_or}
use Rattle.aes_block.specs.Cipher.{aes}
use Rattle.aes_block.proofs.CipherLaws.{length-aes}
use Rattle.aes_block.proofs.Aes.encrypt_block.Goals as goal

pub returns : goal.returns
returns g c =
    let key = c.args.self.now in
    let block = c.args.block.now in
    let lanes = c.encrypt_pair.ensures (λ _. block) (λ _ k. c.fits-block k) c.side_by_side.ensures in
    let both = c.encrypt_pair.result in
    let long = lanes.long in
    let half = length-take-le 16 both (omega arith) in
    c.copy_from_slice.ensures.after
    ∙ ext_get_or 0 (take 16 both) (aes key block) (half ∙ sym (length-aes key block))
    (λ k lt.
    let below : k < 16 = omega arith in
    let place : k % 16 ≡ k = omega arith in
    get_or-take 16 both k 0 below ∙ lanes.each k (omega arith) ∙ ap (slice_index (aes key block)) place)
