use Rattle.std.proofs.Common.{◌≡◌, ℕ, ◌+◌, ◌-◌, ◌*◌, length, length-drop, ap, ◌∙◌, arith}
use Rattle.aes_block.proofs.LaneLaws.{length_over_part}
use Rattle.gcm_seal.specs.Gcm.{v_at}
use Rattle.gcm_seal.proofs.MultipleLaws.{front_held, front_kept, rows_held, three_more}
use Rattle.gcm_seal.proofs.product.put_multiples.Goals as goal

pub loop-place-preserved : goal.loop-place-preserved
loop-place-preserved c =
    let h = c.args.h in
    let place = c.loop-place.place in
    let table = c.loop-place.table in
    let row = c.row.result in
    let start : ℕ = 4 + 64 * place in
    let size = c.loop-place.invariant.size in
    let held = c.loop-place.invariant.power in
    let width : start + 64 - start ≡ 64 = omega arith in
    let next : 2 + 6 * place + 3 + 3 ≡ 2 + 6 * (place + 1) = omega arith in
    let long : length row ≡ 64 = omega (arith, c.copy_from_slice-in-loop-place.ensures.len) in
    rw (width, c.copy_from_slice-in-loop-place.ensures.after) record {
      size = length_over_part 64 1348 table row start size (omega arith) long;
      power =
          three_more h (2 + 6 * place + 3) c.times_x3.result c.times_x3-power.result
          (three_more h (2 + 6 * place) c.loop-place.power c.times_x3.result held c.times_x3.ensures) c.times_x3-power.ensures
          ∙ ap (v_at h) next;
      front = front_kept h place table row size (omega arith) c.loop-place.invariant.front;
      done =
          rows_held h place table row size (omega arith) long c.loop-place.invariant.done
          (λ n below. c.row.ensures h place n (omega arith) held below);
    }

pub loop-place-init : goal.loop-place-init
unfolding v_at
loop-place-init c =
    let h = c.args.h in
    let once = c.times_x-once.result in
    rw c.copy_from_slice.ensures.after record {
      size = omega (arith, length-drop 4 c.args.table.now, c.told-table);
      power = c.times_x-power.ensures ∙ ap (λ (y : ℕ). v_at y 1) c.times_x-once.ensures;
      front = front_held h once _ c.times_x-once.ensures;
      done = λ place n lt below. absurd (omega arith);
    }
