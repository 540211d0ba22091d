use Rattle.std.proofs.Common.{◌≡◌, ℕ, ◌+◌, ◌*◌, ◌/◌, ◌%◌, slice_index, length, take, drop, get_or-take, length-take, length-drop, ap, ◌∙◌, arith}
use Rattle.std.proofs.lemmas.List.{get_or-drop}
use Rattle.byte_blocks.specs.Blocks.{xor_bytes}
use Rattle.byte_blocks.proofs.Xor.{get_or-xor_bytes, length-xor_bytes}
use Rattle.aes_block.specs.Field.{◌⊕◌}
use Rattle.aes_block.specs.Cipher.{add_round_key, at, byte_of_word}
use Rattle.aes_block.proofs.CipherLaws.{state_from_places}
use Rattle.aes_block.proofs.state.add_round_key.Goals as goal

pub returns : goal.returns
unfolding add_round_key
returns c =
    let s = c.args.state.now in
    let w = c.args.words.now in
    let round = c.args.round in
    let words = take 16 (drop (16 * round) w) in
    let long : length words ≡ 16 = length-take 16 (drop (16 * round) w) ∙ omega (arith, length-drop (16 * round) w) in
    rw c.block_at.ensures at c.xor_into.ensures
    ∙ state_from_places (xor_bytes s words) (λ row column. at s row column ⊕ byte_of_word w (4 * round + column) row)
    (length-xor_bytes s words (omega arith) ∙ c.told-state)
    (λ k lt.
    let place : k ≡ k % 4 + 4 * (k / 4) = omega arith in
    let key_place : 16 * round + k ≡ 4 * (4 * round + k / 4) + k % 4 = omega arith in
    get_or-xor_bytes s words k (omega arith) (omega arith)
    ∙ ap (λ (x : ℕ). slice_index s k ⊕ x) (get_or-take 16 (drop (16 * round) w) k 0 lt ∙ get_or-drop (16 * round) w k 0)
    ∙ ap (λ (x : ℕ). slice_index s x ⊕ slice_index w (16 * round + k)) place
    ∙ ap (λ (x : ℕ). slice_index s (k % 4 + 4 * (k / 4)) ⊕ slice_index w x) key_place)
