-- Which places of the state the lanes of a block stand for, round by round.
use Rattle.std.proofs.Common.{◌≡◌, ℕ, ◌+◌, ◌*◌, ◌/◌, ◌%◌, ◌<◌, true, List, slice_index, refl, ap, ◌∙◌, arith}
use Rattle.aes_block.specs.Field.{◌⊕◌, ◌•◌}
use Rattle.aes_block.specs.Cipher.{mix_columns, sbox, shift_rows, sub_bytes}
use Rattle.aes_block.specs.Lanes.{place}
use Rattle.aes_block.specs.declared.lanes.TheConstants.{PLACES, FORWARD, BACKWARD, HOME}
use Rattle.aes_block.proofs.Checked.{agree_below, same_from_checked}
use Rattle.aes_block.proofs.TowerLaws.{below, mixed-place, own, shifted-place}

-- two functions of a round's remainder by 4 and a lane
by_turns : (f g : ℕ → ℕ → ℕ) → agree_below (λ k. f (k / 16) (k % 16)) (λ k. g (k / 16) (k % 16)) 64 ≡ true
    → (t q : ℕ) → t < 4 → q < 16 → f t q ≡ g t q
by_turns f g checked t q ht hq =
    let at = same_from_checked (λ k. f (k / 16) (k % 16)) (λ k. g (k / 16) (k % 16)) 64 checked (16 * t + q) (omega arith) in
    let turn : (16 * t + q) / 16 ≡ t = omega arith in
    let lane : (16 * t + q) % 16 ≡ q = omega arith in
    rw (turn, lane) at at

-- the place of a lane by the remainder, and what the other tables hold
unfoldable pub turned : ℕ → ℕ → ℕ
turned t q = (q + 12 * t * (q % 4)) % 16

unfoldable pub forward : ℕ → ℕ → ℕ
forward t q = (below 1 q + 4 * t) % 16

unfoldable pub backward : ℕ → ℕ → ℕ
backward t q = (below 3 q + 12 * t) % 16

unfoldable pub home : ℕ → ℕ → ℕ
home t p = (p + 4 * t * (p % 4)) % 16

pub place_turned : (round q : ℕ) → place round q ≡ turned (round % 4) q
unfolding place turned
place_turned round q = refl

pub turned-lt : (t q : ℕ) → turned t q < 16
unfolding turned
turned-lt t q = omega arith

pub forward-lt : (t q : ℕ) → forward t q < 16
unfolding forward
forward-lt t q = omega arith

pub backward-lt : (t q : ℕ) → backward t q < 16
unfolding backward
backward-lt t q = omega arith

pub home-lt : (t q : ℕ) → home t q < 16
unfolding home
home-lt t q = omega arith

pub place-lt : (round q : ℕ) → place round q < 16
place-lt round q = rw (place_turned round q) (turned-lt (round % 4) q)

-- before the first round each lane stands for its own place
pub place-none : (q : ℕ) → q < 16 → place 0 q ≡ q
unfolding place
place-none q h = omega arith

-- ---- the tables

pub places-table : (t q : ℕ) → t < 4 → q < 16 → slice_index PLACES (16 * t + q) ≡ turned t q
unfolding agree_below turned
places-table = by_turns (λ t q. slice_index PLACES (16 * t + q)) turned refl

pub forward-table : (t q : ℕ) → t < 4 → q < 16 → slice_index FORWARD (16 * t + q) ≡ forward t q
unfolding agree_below below forward
forward-table = by_turns (λ t q. slice_index FORWARD (16 * t + q)) forward refl

pub backward-table : (t q : ℕ) → t < 4 → q < 16 → slice_index BACKWARD (16 * t + q) ≡ backward t q
unfolding agree_below below backward
backward-table = by_turns (λ t q. slice_index BACKWARD (16 * t + q)) backward refl

pub home-table : (t q : ℕ) → t < 4 → q < 16 → slice_index HOME (16 * t + q) ≡ home t q
unfolding agree_below home
home-table = by_turns (λ t q. slice_index HOME (16 * t + q)) home refl

-- ---- the places that a round's bytes come from, by the remainder t of its number

own_turned : (t q : ℕ) → t < 4 → q < 16 → own (turned t q) ≡ turned ((t + 3) % 4) q
unfolding agree_below own turned
own_turned = by_turns (λ t q. own (turned t q)) (λ t q. turned ((t + 3) % 4) q) refl

next_turned : (t q : ℕ) → t < 4 → q < 16 → own (below 1 (turned t q)) ≡ turned ((t + 3) % 4) (forward t q)
unfolding agree_below own turned below forward
next_turned = by_turns (λ t q. own (below 1 (turned t q))) (λ t q. turned ((t + 3) % 4) (forward t q)) refl

second_turned : (t q : ℕ) → t < 4 → q < 16 → own (below 2 (turned t q)) ≡ turned ((t + 3) % 4) (forward t (forward t q))
unfolding agree_below own turned below forward
second_turned = by_turns (λ t q. own (below 2 (turned t q))) (λ t q. turned ((t + 3) % 4) (forward t (forward t q))) refl

third_turned : (t q : ℕ) → t < 4 → q < 16 → own (below 3 (turned t q)) ≡ turned ((t + 3) % 4) (backward t q)
unfolding agree_below own turned below backward
third_turned = by_turns (λ t q. own (below 3 (turned t q))) (λ t q. turned ((t + 3) % 4) (backward t q)) refl

home_turned : (t q : ℕ) → t < 4 → q < 16 → own q ≡ turned ((t + 3) % 4) (home t q)
unfolding agree_below own turned home
home_turned = by_turns (λ t q. own q) (λ t q. turned ((t + 3) % 4) (home t q)) refl

-- a sum of four values
four_values : (f : ℕ → ℕ) (a b d e aa bb dd ee : ℕ) → a ≡ aa → b ≡ bb → d ≡ dd → e ≡ ee
    → 2 • f a ⊕ 3 • f b ⊕ f d ⊕ f e ≡ 2 • f aa ⊕ 3 • f bb ⊕ f dd ⊕ f ee
four_values f a b d e aa bb dd ee ea eb ed ee_is = rw (ea, eb, ed, ee_is) refl

pub mixed_turned : (s : List ℕ) (t q : ℕ) → t < 4 → q < 16 → slice_index (mix_columns (shift_rows (sub_bytes s))) (turned t q) ≡
    2 • sbox (slice_index s (turned ((t + 3) % 4) q)) ⊕ 3 • sbox (slice_index s (turned ((t + 3) % 4) (forward t q)))
    ⊕ sbox (slice_index s (turned ((t + 3) % 4) (forward t (forward t q)))) ⊕ sbox (slice_index s (turned ((t + 3) % 4) (backward t q)))
mixed_turned s t q ht hq =
    mixed-place s (turned t q) (turned-lt t q)
    ∙ four_values (λ p. sbox (slice_index s p)) (own (turned t q)) (own (below 1 (turned t q))) (own (below 2 (turned t q))) (own (below 3 (turned t q)))
    (turned ((t + 3) % 4) q) (turned ((t + 3) % 4) (forward t q)) (turned ((t + 3) % 4) (forward t (forward t q))) (turned ((t + 3) % 4) (backward t q))
    (own_turned t q ht hq) (next_turned t q ht hq) (second_turned t q ht hq) (third_turned t q ht hq)

pub shifted_turned : (s : List ℕ) (t p : ℕ) → t < 4 → p < 16 → slice_index (shift_rows (sub_bytes s)) p ≡ sbox (slice_index s (turned ((t + 3) % 4) (home t p)))
shifted_turned s t p ht hp = shifted-place s p hp ∙ ap (λ (x : ℕ). sbox (slice_index s x)) (home_turned t p ht hp)
