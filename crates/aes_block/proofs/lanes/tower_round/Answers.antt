use Rattle.std.proofs.Common.{◌≡◌, ℕ, ◌+◌, ◌*◌, ◌/◌, ◌%◌, slice_index, get_or-take, refl, ap, ◌∙◌, arith, zero-add}
use Rattle.std.proofs.lemmas.Simd.{get_or-replicate}
use Rattle.aes_block.specs.Field.{◌⊕◌}
use Rattle.aes_block.specs.Lanes.{tower}
use Rattle.aes_block.specs.declared.lanes.TheConstants.{PLACES}
use Rattle.aes_block.proofs.TurnLaws.{place_turned, places-table, turned, turned-lt}
use Rattle.aes_block.proofs.lanes.tower_round.Goals as goal

pub moved-placed-requires : goal.moved-placed-requires
moved-placed-requires c = λ i h. rw (places-table (c.args.round % 4) i (omega arith) h) (turned-lt (c.args.round % 4) i)

pub returns : goal.returns
returns c = λ q h.
    let r = c.args.round in
    let p = turned (r % 4) q in
    let below = turned-lt (r % 4) q in
    let block : q / 16 ≡ 0 = omega arith in
    let lane : q % 16 ≡ q = omega arith in
    let own : p % 16 ≡ p = omega arith in
    let lane_is : 16 * (q / 16) + slice_index PLACES (16 * (r % 4) + q % 16) ≡ p =
    rw (block, lane, places-table (r % 4) q (omega arith) h) (zero-add p) in
    ap (λ xs. slice_index xs q) c.copy_from_slice.ensures.after
    ∙ get_or-take 16 c.towers.result q 0 h
    ∙ c.towers.ensures.each q (omega arith)
    ∙ ap tower
    (c.sum.ensures.each q (omega arith)
    ∙ ap (λ (x : ℕ). slice_index c.moved-placed.result q ⊕ x) (get_or-replicate {A = ℕ} 32 q 0x63 0 (omega arith))
    ∙ ap (λ (x : ℕ). x ⊕ 0x63)
    (c.moved-placed.ensures.each q (omega arith)
    ∙ ap (slice_index c.round_words.result) lane_is ∙ c.round_words.ensures.each p (omega arith)
    ∙ rw (own, place_turned r q) refl))
