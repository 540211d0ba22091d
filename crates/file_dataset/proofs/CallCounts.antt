-- How many calls of the shelf a change makes, over plain variables.
use Rattle.std.proofs.Common.{◌≡◌, ℕ, ◌+◌, ◌-◌, ◌*◌, ◌/◌, ◌<◌, ◌≤◌, Bool, true, false, List, length, refl, sym, ap, subst, ◌∙◌, arith, if◌then◌else◌}
use Rattle.std.specs.Prelude.{nat_lt}
use Rattle.std.proofs.Math.Nat.{div-mul-le_self}
use Rattle.std.proofs.lemmas.Nat.{le-div, mul-le}
use Rattle.indirect_macs.specs.Runs.{levels_for}
use Rattle.file_blocks.specs.declared.object.Object.{Object}
use Rattle.file_blocks.specs.Changes.{calls_of}
use Rattle.file_blocks.specs.Objects.{IsObject, blocks_for, count_touched}
use Rattle.file_blocks.specs.WriteFields.{write_to}
use Rattle.file_blocks.specs.Writes.{groups_touched, reads_of}
use Rattle.file_dataset.specs.ChangeCalls.{write_calls}
use Rattle.file_dataset.specs.Changes.{empty_object}

pub calls_more : (low high : ℕ) → low ≤ high → calls_of low ≤ calls_of high
calls_more low high less = omega (arith, less)

div_more : (low high k : ℕ) → 0 < k → low ≤ high → low / k ≤ high / k
div_more low high k some less = le-div (low / k) high k some (omega (arith, div-mul-le_self low k, less))

touched_more : (record_size from end high : ℕ) → 0 < record_size → end ≤ high → count_touched record_size from end ≤ count_touched record_size from high
unfolding count_touched
touched_more record_size from end high some less = by_order (nat_lt from end) (nat_lt from high) refl refl
  where
    by_order : (a b : Bool) → nat_lt from end ≡ a → nat_lt from high ≡ b
        → (if a then (end - 1) / record_size + 1 - from / record_size else 0) ≤ (if b then (high - 1) / record_size + 1 - from / record_size else 0)
    by_order false b one two = omega arith
    by_order true true one two = omega (arith, div_more (end - 1) (high - 1) record_size some (omega (arith, less)))
    by_order true false one two = absurd (grind (arith, one, two, less))

-- more bytes of an object take more calls
pub writes_more : (levels record_size from end high : ℕ) → 0 < record_size → end ≤ high
    → write_calls levels record_size from end ≤ write_calls levels record_size from high
writes_more levels record_size from end high some less =
    let groups : groups_touched record_size from end + 1 ≤ groups_touched record_size from high + 1 =
    omega (arith, div_more (end - 1) (high - 1) record_size some (omega (arith, less))) in
    omega (
      arith,
      mul-le (levels + 1) (groups_touched record_size from end + 1) (levels + 1) (groups_touched record_size from high + 1) (omega arith) groups,
      calls_more _ _ (touched_more record_size from end high some less),
    )

-- an object has five levels at most
pub levels_few : (record_size : ℕ) (object : Object) → IsObject record_size object → object.tree.levels ≤ 5
levels_few record_size object is = rw is.levels (few (blocks_for record_size object.length))
  where
    few : (blocks : ℕ) → levels_for blocks ≤ 5
    few blocks = grind arith

pub file_few : (record_size from : ℕ) (object : Object) (bytes : List ℕ) → IsObject record_size object
    → reads_of (write_to object record_size from bytes) + calls_of (count_touched record_size from (from + length bytes))
    ≤ write_calls 5 record_size from (from + length bytes)
file_few record_size from object bytes is =
    let groups = groups_touched record_size from (from + length bytes) + 1 in
    omega (arith, mul-le (object.tree.levels + 1) groups 6 groups (omega (arith, levels_few record_size object is)) (omega arith))

pub anew_few : (record_size : ℕ) (text : List ℕ) → 0 < record_size → length text ≤ 70656
    → reads_of (write_to empty_object record_size 0 text) + calls_of (count_touched record_size 0 (length text)) ≤ write_calls 1 record_size 0 70656
anew_few record_size text some few =
    let same : 0 + length text ≡ length text = omega arith in
    subst (λ (end : ℕ). (1 + 1) * (groups_touched record_size 0 end + 1) + calls_of (count_touched record_size 0 (length text)) ≤ write_calls 1 record_size 0 70656)
    (sym same) (writes_more 1 record_size 0 (length text) 70656 some few)
