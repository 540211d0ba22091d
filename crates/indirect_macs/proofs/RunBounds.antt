-- How many nodes a run touches.
use Rattle.std.proofs.Common.{◌≡◌, ℕ, zero, suc, ◌+◌, ◌-◌, ◌*◌, ◌/◌, ◌<◌, ◌≤◌, Bool, true, false, ◌&&◌, ◌==◌, nat_lt, List, [], ◌∷◌, ◌++◌, length, replicate, refl, inl, inr, arith, length-append, Option, None, if◌then◌else◌}
use Rattle.std.proofs.lemmas.Bool.{cases_lt}
use Rattle.indirect_macs.specs.declared.refs.NodeRef.{NodeRef}
use Rattle.indirect_macs.specs.Runs.{Run, Old, Made, Node, first_block, last_block, first_at, last_at, count_at, levels_for, touched_below, raised_below, most_puts, puts_with, is_put, inner_of, begun, nodes_made, levels_made, puts_of, new_node, kept}

pub record IsWithin (n first last : ℕ) : Type 0 where
  pub order : first ≤ last
  pub len : last ≤ first + (n - 1)
  pub small : last < 8388608

within : (run : Run) → run.from + length run.refs ≤ run.blocks → run.blocks ≤ 8388608 → IsWithin (length run.refs) (first_block run) (last_block run)
within run fits few =
    elim (cases_lt 0 (length run.refs)) [
      | inl some ↦
          let is : nat_lt 0 (length run.refs) ≡ true = grind (arith, some) in
          rw is (record { order = omega (arith, some); len = omega (arith, some); small = omega (arith, some, fits, few) })
      | inr none ↦
          let is : nat_lt 0 (length run.refs) ≡ false = grind (arith, none) in
          rw is (record { order = omega arith; len = omega arith; small = omega (arith, few) })
    ]

pub sum_bound : (n first last : ℕ) → IsWithin n first last
    → last / 32 - first / 32 + (last / 1024 - first / 1024) + (last / 32768 - first / 32768) + (last / 1048576 - first / 1048576) ≤ n / 31 + 4
sum_bound n first last is =
    let one : 32 * (last / 32 - first / 32) ≤ n + 30 = omega (arith, is.order, is.len) in
    let two : 1024 * (last / 1024 - first / 1024) ≤ n + 1022 = omega (arith, is.order, is.len) in
    let three : 32768 * (last / 32768 - first / 32768) ≤ n + 32766 = omega (arith, is.order, is.len) in
    let four : 1048576 * (last / 1048576 - first / 1048576) ≤ n + 1048574 = omega (arith, is.order, is.len) in
    omega (arith, one, two, three, four)

-- the levels from the lowest
touched_more : (run : Run) (levels most : ℕ) → levels ≤ most → touched_below run levels ≤ touched_below run most
touched_more run levels zero few = let none : levels ≡ 0 = omega (arith, few) in rw none (omega arith)
touched_more run levels (suc most) few =
    elim (cases_lt levels (suc most)) [
      | inl less ↦ omega (arith, touched_more run levels most (omega (arith, less)))
      | inr all ↦ let same : levels ≡ suc most = omega (arith, all, few) in rw same (omega arith)
    ]

all_touched : (run : Run) → run.from + length run.refs ≤ run.blocks → run.blocks ≤ 8388608 → touched_below run 5 ≤ length run.refs / 31 + 9
unfolding count_at first_at last_at
all_touched run fits few =
    let is = within run fits few in
    let sum = sum_bound (length run.refs) (first_block run) (last_block run) is in
    omega (arith, sum, is.small, is.order)

pub touched_few : (run : Run) (levels : ℕ) → levels ≤ 5 → run.from + length run.refs ≤ run.blocks → run.blocks ≤ 8388608
    → touched_below run levels ≤ length run.refs / 31 + 9
touched_few run levels most fits few = omega (arith, touched_more run levels 5 most, all_touched run fits few)

levels_few : (blocks : ℕ) → levels_for blocks ≤ 5
levels_few blocks = grind arith

-- ---- above the old top

raised_some : Run → ℕ → ℕ
raised_some run level = if nat_lt run.levels level && nat_lt 0 (first_at run level) then 1 else 0

raised_within : (run : Run) (levels : ℕ) → levels ≤ run.levels → raised_below run levels ≡ 0
raised_within run zero low = refl
raised_within run (suc level) low =
    let below : nat_lt run.levels (suc level) ≡ false = grind (arith, low) in
    rw below (omega (arith, raised_within run level (omega (arith, low))))

raised_more : (run : Run) (levels most : ℕ) → levels ≤ most → raised_below run levels ≤ raised_below run most
raised_more run levels zero few = let none : levels ≡ 0 = omega (arith, few) in rw none (omega arith)
raised_more run levels (suc most) few =
    elim (cases_lt levels (suc most)) [
      | inl less ↦ omega (arith, raised_more run levels most (omega (arith, less)))
      | inr all ↦ let same : levels ≡ suc most = omega (arith, all, few) in rw same (omega arith)
    ]

one_at_most : (b : Bool) → (if b then 1 else 0) ≤ 1
one_at_most true = omega arith
one_at_most false = omega arith

all_raised : (run : Run) → 1 ≤ run.levels → run.from + length run.refs ≤ run.blocks → run.blocks ≤ 8388608 → raised_below run 5 ≤ 3
unfolding first_at
all_raised run some fits few =
    let is = within run fits few in
    let top : first_block run / 33554432 ≡ 0 = omega (arith, is.small, is.order) in
    let last : nat_lt 0 (first_block run / 33554432) ≡ false = rw top refl in
    let lowest : nat_lt run.levels 1 ≡ false = grind (arith, some) in
    let two = one_at_most (nat_lt run.levels 2 && nat_lt 0 (first_block run / 1024)) in
    let three = one_at_most (nat_lt run.levels 3 && nat_lt 0 (first_block run / 32768)) in
    let four = one_at_most (nat_lt run.levels 4 && nat_lt 0 (first_block run / 1048576)) in
    rw (last, lowest) (grind (arith, two, three, four))

-- ---- what is put

puts_more : (node : Node) (old : Option NodeRef) (puts : List (List ℕ)) → length (puts_with node old puts) ≤ length puts + 1
puts_more node old puts = by_put (is_put node old)
  where
    by_put : (b : Bool) → length (if b then puts ++ node.bytes ∷ [] else puts) ≤ length puts + 1
    by_put true = omega (arith, length-append puts (node.bytes ∷ []))
    by_put false = omega arith

begun_more : (run : Run) (base level : ℕ) (below : Made) → length (begun run base level below).puts
    ≤ length below.puts + (if nat_lt run.levels level && nat_lt 0 (first_at run level) then 1 else 0)
unfolding begun
begun_more run base level below = by_raised _ (nat_lt run.levels level && nat_lt 0 (first_at run level)) (puts_more (inner_of level (below.raised ∷ replicate 31 None)) None below.puts)
  where
    by_raised : (some : Made) (b : Bool) → length some.puts ≤ length below.puts + 1
        → length (if b then some else record below { refs = [] }).puts ≤ length below.puts + (if b then 1 else 0)
    by_raised some true more = more
    by_raised some false more = omega arith

pub nodes_more : (run : Run) (old : Old) (base level : ℕ) (below : Made) (count : ℕ) → length (nodes_made run old base level below count).puts
    ≤ length below.puts + (if nat_lt run.levels level && nat_lt 0 (first_at run level) then 1 else 0) + count
unfolding nodes_made
nodes_more run old base level below zero = omega (arith, begun_more run base level below)
nodes_more run old base level below (suc n) =
    omega (
      arith,
      nodes_more run old base level below n,
      puts_more (new_node run old level below (first_at run level + n)) (kept run old level below (first_at run level + n)) (nodes_made run old base level below n).puts,
    )

pub levels_more : (run : Run) (old : Old) (base levels : ℕ) → length (levels_made run old base levels).puts ≤ touched_below run levels + raised_below run levels
unfolding levels_made
levels_more run old base zero = omega arith
levels_more run old base (suc level) =
    omega (arith, levels_more run old base level, nodes_more run old base (suc level) (levels_made run old base level) (count_at run (suc level)))

pub few_puts : (run : Run) (old : Old) (base : ℕ) → length (puts_of run old base) ≤ most_puts run
unfolding puts_of
few_puts run old base = by_none (run.blocks == 0)
  where
    by_none : (b : Bool) → length (if b then [] else (levels_made run old base (levels_for run.blocks)).puts) ≤ most_puts run
    by_none true = omega arith
    by_none false = levels_more run old base (levels_for run.blocks)

pub puts_where_levels_stay : (run : Run) → levels_for run.blocks ≤ run.levels → run.from + length run.refs ≤ run.blocks → run.blocks ≤ 8388608
    → most_puts run ≤ length run.refs / 31 + 9
puts_where_levels_stay run stay fits few =
    omega (arith, touched_few run (levels_for run.blocks) (levels_few run.blocks) fits few, raised_within run (levels_for run.blocks) stay)

pub puts_where_levels_grow : (run : Run) → 1 ≤ run.levels → run.from + length run.refs ≤ run.blocks → run.blocks ≤ 8388608
    → most_puts run ≤ length run.refs / 31 + 12
puts_where_levels_grow run some fits few =
    omega (
      arith,
      touched_few run (levels_for run.blocks) (levels_few run.blocks) fits few,
      raised_more run (levels_for run.blocks) 5 (levels_few run.blocks),
      all_raised run some fits few,
    )
