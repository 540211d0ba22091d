use Rattle.std.proofs.Common.{◌≡◌, ◌+◌, ◌-◌, ◌*◌, ◌/◌, ◌%◌, ◌≤◌, length, refl, ◌∙◌, inl, inr, arith}
use Rattle.std.proofs.lemmas.Bool.{cases_lt}
use Rattle.aes_block.proofs.LaneLaws.{length_over_part, over_part-below, over_part-within}
use Rattle.aes_block.proofs.tower_words.Goals as goal

pub rounds-preserved : goal.rounds-preserved
rounds-preserved c =
    let round = c.rounds.round in
    let at = 16 * round in
    let now = c.rounds.tower_words in
    let part = c.tower_round.result in
    let size = c.rounds.invariant.size in
    let within : at + 16 ≤ 240 = omega arith in
    let width : at + 16 - at ≡ 16 = omega arith in
    let long : length part ≡ 16 = omega (arith, c.copy_from_slice.ensures.len) in
    rw (width, c.copy_from_slice.ensures.after) record {
      size = length_over_part 16 240 now part at size within long;
      done = λ k lt.
          elim (cases_lt k at) [
            | inl below ↦ over_part-below 16 240 now part at k size within below ∙ c.rounds.invariant.done k below
            | inr ge ↦
                let own : k / 16 ≡ round = omega arith in
                let place_is : k % 16 ≡ k - at = omega arith in
                over_part-within 16 240 now part at k size within long ge (omega arith) ∙ c.tower_round.ensures (k - at) (omega arith)
                ∙ rw (own, place_is) refl
          ];
    }
