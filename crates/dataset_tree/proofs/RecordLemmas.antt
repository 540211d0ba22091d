-- Bytes that are copied into the front of zeros.
use Rattle.std.proofs.Common.{◌≡◌, ℕ, ◌-◌, ◌≤◌, List, ◌++◌, length, drop, replicate, arith}
use Rattle.std.proofs.lemmas.List.{drop-replicate}
use Rattle.std.proofs.lemmas.Grind.{common_steps}
use Rattle.dataset_tree.specs.RecordBytes.{IsPadded}

pub padded_by_copy : (bytes : List ℕ) → length bytes ≤ 134 → IsPadded (record { len = length bytes; bytes = bytes ++ drop {A = ℕ} (length bytes) (replicate {A = ℕ} 134 0) })
padded_by_copy bytes short =
    let zeros : drop {A = ℕ} (length bytes) (replicate 134 0) ≡ replicate (134 - length bytes) 0 = drop-replicate (length bytes) 134 0 in
    rw zeros (record {
      whole = grind (arith, common_steps);
      short = short;
      zeros = grind (arith, common_steps);
    })
