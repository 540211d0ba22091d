-- The steps of the product of blocks, by the tests that the code makes.
use Rattle.std.proofs.Common.{◌≡◌, ◌≢◌, ℕ, ◌+◌, ◌-◌, ◌/◌, ◌%◌, ◌^◌, bit_and, bit_xor, refl, sym, ◌∙◌, arith, add-one}
use Rattle.std.proofs.lemmas.Nat.{and_mask}
use Rattle.std.proofs.lemmas.Nat.Bits.{shr_and_one, bit_at-lt}
use Rattle.std.specs.Int.{bit_at}
use Rattle.gcm_seal.specs.Gcm.{r_block, v_at, z_at}

-- where bit i of x is set
pub z_at_add : (x y i : ℕ) → bit_and (x / 2 ^ (127 - i)) 1 ≡ 1 → z_at x y (i + 1) ≡ bit_xor (z_at x y i) (v_at y i)
unfolding z_at
z_at_add x y i h =
    let bit : bit_at x (127 - i) ≡ 1 = sym (shr_and_one x (127 - i)) ∙ h in
    rw (add-one, bit) refl

-- where it is not
pub z_at_keep : (x y i : ℕ) → bit_and (x / 2 ^ (127 - i)) 1 ≢ 1 → z_at x y (i + 1) ≡ z_at x y i
unfolding z_at
z_at_keep x y i h =
    let bit : bit_at x (127 - i) ≡ 0 = omega (arith, shr_and_one x (127 - i), bit_at-lt x (127 - i)) in
    rw (add-one, bit) refl

-- where the last bit of V_i is not set
pub v_at_even : (y i : ℕ) → bit_and (v_at y i) 1 ≡ 0 → v_at y (i + 1) ≡ v_at y i / 2
unfolding v_at
v_at_even y i h =
    let bit : v_at y i % 2 ≡ 0 = sym (and_mask (v_at y i) 1) ∙ h in
    rw (add-one, bit) refl

-- where it is
pub v_at_odd : (y i : ℕ) → bit_and (v_at y i) 1 ≢ 0 → v_at y (i + 1) ≡ bit_xor (v_at y i / 2) r_block
unfolding v_at
v_at_odd y i h =
    let bit : v_at y i % 2 ≡ 1 = omega (arith, and_mask (v_at y i) 1) in
    rw (add-one, bit) refl
