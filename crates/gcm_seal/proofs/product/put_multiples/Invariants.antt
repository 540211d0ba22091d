use Rattle.std.proofs.Common.{◌≡◌, ℕ, ◌+◌, ◌-◌, ◌*◌, ◌^◌, ◌<◌, length, slice_index}
use Rattle.gcm_seal.specs.Gcm.{product, v_at}
use Rattle.gcm_seal.proofs.product.put_multiples.Given as goal

abbrev pub invariant-loop-place : goal.invariant-loop-place
invariant-loop-place l = record {
  size : length l.table ≡ 1348;
  power : l.power ≡ v_at l.h (2 + 6 * l.place);
  front : (n : ℕ) → n < 4 → slice_index l.table n ≡ product (n * 2 ^ 126) l.h;
  done : (place n : ℕ) → place < l.place → n < 64 → slice_index l.table (4 + 64 * place + n) ≡ product (n * 2 ^ (120 - 6 * place)) l.h;
}
