-- How many nodes a run touches, and how their ranges lie.
use Rattle.std.proofs.Common.{◌≡◌, ℕ, zero, suc, ◌+◌, ◌-◌, ◌*◌, ◌/◌, ◌%◌, ◌^◌, ◌<◌, ◌≤◌, true, false, nat_lt, nat_le, length, refl, ap, inl, inr, arith}
use Rattle.std.proofs.lemmas.Bool.{cases_lt}
use Rattle.std.proofs.Math.Nat.{div-le_self, div-mul-le_self, mul-le-mul_right, mul-le-mul_left, pow-suc}
use Rattle.std.proofs.lemmas.Nat.{le-div}
use Rattle.indirect_macs.proofs.FoldOfTree.{power_least}
use Rattle.indirect_macs.specs.Runs.{Run, first_block, last_block, first_at, last_at, count_at}
use Rattle.indirect_macs.specs.Walk.{place_of}
use Rattle.indirect_macs.proofs.TreeFold.{child_place}

pub last_small : (run : Run) → run.from + length run.refs ≤ run.blocks → run.blocks ≤ 8388608 → last_block run < 8388608
last_small run within most =
    elim (cases_lt 0 (length run.refs)) [
      | inl some ↦
          let yes : nat_lt 0 (length run.refs) ≡ true = grind (arith, some) in
          rw yes (omega (arith, within, most, some))
      | inr none ↦
          let no : nat_lt 0 (length run.refs) ≡ false = grind (arith, none) in
          rw no (omega (arith, within, most))
    ]

pub first_under_last : (run : Run) → first_block run ≤ last_block run
first_under_last run =
    elim (cases_lt 0 (length run.refs)) [
      | inl some ↦
          let yes : nat_lt 0 (length run.refs) ≡ true = grind (arith, some) in
          rw yes (omega (arith, some))
      | inr none ↦
          let no : nat_lt 0 (length run.refs) ≡ false = grind (arith, none) in
          rw no (omega arith)
    ]

pub last_at_small : (run : Run) (level : ℕ) → run.from + length run.refs ≤ run.blocks → run.blocks ≤ 8388608 → last_at run level < 8388608
unfolding last_at
last_at_small run level within most = omega (arith, last_small run within most, div-le_self (last_block run) (32 ^ level))

pub count_small : (run : Run) (level : ℕ) → run.from + length run.refs ≤ run.blocks → run.blocks ≤ 8388608 → count_at run level ≤ 8388608
unfolding count_at
count_small run level within most = omega (arith, last_at_small run level within most)

-- the place of a touched node of a level is within the run
pub touched_last : (run : Run) (level i : ℕ) → i < count_at run level → first_at run level + i ≤ last_at run level
unfolding count_at first_at last_at
touched_last run level i within =
    let least = power_least level in
    let whole : first_block run / 32 ^ level * 32 ^ level ≤ first_block run = div-mul-le_self (first_block run) (32 ^ level) in
    let order : first_block run / 32 ^ level ≤ last_block run / 32 ^ level =
    le-div (first_block run / 32 ^ level) (last_block run) (32 ^ level) (omega (arith, least)) (omega (arith, whole, first_under_last run)) in
    omega (arith, order, within)

pub touched_fits : (run : Run) (level i : ℕ) → run.from + length run.refs ≤ run.blocks → run.blocks ≤ 8388608 → i < count_at run level
    → (first_at run level + i) * 32 ^ level < 4294967296
unfolding last_at
touched_fits run level i within most few =
    let low : (first_at run level + i) * 32 ^ level ≤ last_block run / 32 ^ level * 32 ^ level = mul-le-mul_right (32 ^ level) (touched_last run level i few) in
    omega (arith, low, div-mul-le_self (last_block run) (32 ^ level), last_small run within most)

-- the children of the touched nodes that are touched themselves
pub first_child : (run : Run) (level : ℕ) → 1 ≤ level → (32 * first_at run level ≤ first_at run (level - 1)) × (first_at run (level - 1) ≤ last_at run (level - 1))
    × (last_at run (level - 1) < 32 * last_at run level + 32)
unfolding first_at last_at
first_child run level above =
    let own : level - 1 + 1 ≡ level = omega (arith, above) in
    let low : place_of (level - 1) (first_block run) / 32 ≡ place_of level (first_block run) = rw own at (child_place (level - 1) (first_block run)) in
    let high : place_of (level - 1) (last_block run) / 32 ≡ place_of level (last_block run) = rw own at (child_place (level - 1) (last_block run)) in
    (omega (arith, low), at_least (level - 1), omega (arith, high))
  where
    at_least : (k : ℕ) → first_block run / 32 ^ k ≤ last_block run / 32 ^ k
    at_least k =
        le-div (first_block run / 32 ^ k) (last_block run) (32 ^ k) (omega (arith, power_least k))
        (omega (arith, div-mul-le_self (first_block run) (32 ^ k), first_under_last run))

pub count_is : (run : Run) (level : ℕ) → count_at run level ≡ last_at run level - first_at run level + 1
unfolding count_at
count_is run level = refl

pub order_at : (run : Run) (level : ℕ) → first_at run level ≤ last_at run level
unfolding first_at last_at
order_at run level =
    le-div (first_block run / 32 ^ level) (last_block run) (32 ^ level) (omega (arith, power_least level))
    (omega (arith, div-mul-le_self (first_block run) (32 ^ level), first_under_last run))

pub index_small : (index level : ℕ) → index < 4294967296 → level ≤ 5 → index * 32 ^ level < 18446744073709551616
index_small index zero small low = omega (arith, small)
index_small index (suc zero) small low = omega (arith, small)
index_small index (suc (suc zero)) small low = omega (arith, small)
index_small index (suc (suc (suc zero))) small low = omega (arith, small)
index_small index (suc (suc (suc (suc zero)))) small low = omega (arith, small)
index_small index (suc (suc (suc (suc (suc zero))))) small low = omega (arith, small)
index_small index (suc (suc (suc (suc (suc (suc k)))))) small low = absurd (omega (arith, low))

pub behind : (blocks index level : ℕ) → index < 4294967296 → level ≤ 5 → nat_le blocks (index * 32 ^ level % 18446744073709551616) ≡ nat_le blocks (index * 32 ^ level)
behind blocks index level small low =
    let same : index * 32 ^ level % 18446744073709551616 ≡ index * 32 ^ level = omega (arith, index_small index level small low) in
    ap (nat_le blocks) same

pub entries_fit : (run : Run) (level i : ℕ) → 1 ≤ level → run.from + length run.refs ≤ run.blocks → run.blocks ≤ 8388608 → i < count_at run level
    → 32 * (first_at run level + i) < 2147483648
unfolding last_at
entries_fit run zero i above within most few = absurd (omega (arith, above))
entries_fit run (suc k) i above within most few =
    let index : ℕ = first_at run (suc k) + i in
    let wide : 32 ≤ 32 ^ suc k = omega (arith, pow-suc 32 k, power_least k) in
    let low : (first_at run (suc k) + i) * 32 ^ suc k ≤ last_block run / 32 ^ suc k * 32 ^ suc k = mul-le-mul_right (32 ^ suc k) (touched_last run (suc k) i few) in
    let more : (first_at run (suc k) + i) * 32 ≤ (first_at run (suc k) + i) * 32 ^ suc k = mul-le-mul_left (first_at run (suc k) + i) wide in
    omega (arith, low, more, div-mul-le_self (last_block run) (32 ^ suc k), last_small run within most)
