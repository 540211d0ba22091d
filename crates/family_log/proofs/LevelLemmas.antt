-- The levels of a tree are those that are computed.
use Rattle.std.proofs.Common.{◌≡◌, ℕ, ◌<◌, ◌≤◌, ◌^◌, zero, suc, Bool, true, false, refl, arith, lit≤}
use Rattle.std.specs.Prelude.{nat_le, ◌↔◌}
use Rattle.std.proofs.lemmas.Bool.Decides.{nat_tests}
use Rattle.indirect_macs.specs.Runs.{levels_for}
use Rattle.family_log.specs.Tables.{AreLevels}

by_space : {P : Type 0} (b : Bool) → (b ≡ true → P) → (b ≡ false → P) → P
by_space true yes_case no_case = yes_case refl
by_space false yes_case no_case = no_case refl

within : (blocks most : ℕ) → nat_le blocks most ≡ true → blocks ≤ most
within blocks most test = grind (arith, nat_tests)

above : (blocks most : ℕ) → nat_le blocks most ≡ false → most < blocks
above blocks most test = grind (arith, nat_tests)

-- more than what four, three, two levels or one have room for
over_four : (blocks fewer : ℕ) → 1048576 < blocks → 1 ≤ fewer → fewer < 5 → 32 ^ fewer < blocks
over_four blocks zero over positive fewer = absurd (omega arith)
over_four blocks (suc zero) over positive fewer = omega arith
over_four blocks (suc (suc zero)) over positive fewer = omega arith
over_four blocks (suc (suc (suc zero))) over positive fewer = omega arith
over_four blocks (suc (suc (suc (suc zero)))) over positive fewer = omega arith
over_four blocks (suc (suc (suc (suc (suc n))))) over positive fewer = absurd (omega arith)

over_three : (blocks fewer : ℕ) → 32768 < blocks → 1 ≤ fewer → fewer < 4 → 32 ^ fewer < blocks
over_three blocks zero over positive fewer = absurd (omega arith)
over_three blocks (suc zero) over positive fewer = omega arith
over_three blocks (suc (suc zero)) over positive fewer = omega arith
over_three blocks (suc (suc (suc zero))) over positive fewer = omega arith
over_three blocks (suc (suc (suc (suc n)))) over positive fewer = absurd (omega arith)

over_two : (blocks fewer : ℕ) → 1024 < blocks → 1 ≤ fewer → fewer < 3 → 32 ^ fewer < blocks
over_two blocks zero over positive fewer = absurd (omega arith)
over_two blocks (suc zero) over positive fewer = omega arith
over_two blocks (suc (suc zero)) over positive fewer = omega arith
over_two blocks (suc (suc (suc n))) over positive fewer = absurd (omega arith)

over_one : (blocks fewer : ℕ) → 32 < blocks → 1 ≤ fewer → fewer < 2 → 32 ^ fewer < blocks
over_one blocks zero over positive fewer = absurd (omega arith)
over_one blocks (suc zero) over positive fewer = omega arith
over_one blocks (suc (suc n)) over positive fewer = absurd (omega arith)

computed : (blocks : ℕ) → blocks ≤ 33554432 → AreLevels blocks (levels_for blocks)
computed blocks most =
    by_space (nat_le blocks 32)
    (λ one. let fits = within blocks 32 one in
    rw one (record { positive = lit≤ tt; enough = fits; least = λ fewer positive below. absurd (omega arith) }))
    (λ more_than_one. by_space (nat_le blocks 1024)
    (λ two. let fits = within blocks 1024 two in let over = above blocks 32 more_than_one in
    rw (more_than_one, two) (record { positive = lit≤ tt; enough = fits; least = λ fewer positive below. over_one blocks fewer over positive below }))
    (λ more_than_two. by_space (nat_le blocks 32768)
    (λ three. let fits = within blocks 32768 three in let over = above blocks 1024 more_than_two in
    rw (more_than_one, more_than_two, three)
    (record { positive = lit≤ tt; enough = fits; least = λ fewer positive below. over_two blocks fewer over positive below }))
    (λ more_than_three. by_space (nat_le blocks 1048576)
    (λ four. let fits = within blocks 1048576 four in let over = above blocks 32768 more_than_three in
    rw (more_than_one, more_than_two, more_than_three, four)
    (record { positive = lit≤ tt; enough = fits; least = λ fewer positive below. over_three blocks fewer over positive below }))
    (λ more_than_four. let over = above blocks 1048576 more_than_four in
    rw (more_than_one, more_than_two, more_than_three, more_than_four)
    (record { positive = lit≤ tt; enough = most; least = λ fewer positive below. over_four blocks fewer over positive below })))))

-- one number at most has room with none less that has
not_less : (blocks few many : ℕ) → AreLevels blocks few → AreLevels blocks many → few < many → ⊥
not_less blocks few many one other less =
    let over : 32 ^ few < blocks = other.least few one.positive less in
    let fits : blocks ≤ 32 ^ few = one.enough in
    omega arith

only : (blocks a b : ℕ) → AreLevels blocks a → AreLevels blocks b → a ≡ b
only blocks a b one other =
    let up : a < b → ⊥ = λ less. not_less blocks a b one other less in
    let down : b < a → ⊥ = λ less. not_less blocks b a other one less in
    omega arith

pub levels-computed : (blocks levels : ℕ) → blocks ≤ 33554432 → AreLevels blocks levels ↔ (levels ≡ levels_for blocks)
levels-computed blocks levels most = (
  λ are. only blocks levels (levels_for blocks) are (computed blocks most),
  λ is. rw is (computed blocks most),
)
