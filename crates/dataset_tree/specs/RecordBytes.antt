-- A key record's bytes, and the array of 134 bytes in which they stand in front of zeros.
use Rattle.std.specs.Prelude.{◌≡◌, ℕ, ◌-◌, ◌≤◌, List, ◌++◌, length, take, drop, replicate}
use Rattle.std.proofs.Common.{ap, arith, sym, ◌∙◌}
use Rattle.std.proofs.lemmas.List.{take-append-drop}
use Rattle.std.proofs.lemmas.Grind.{common_steps}
use Rattle.dataset_tree.specs.declared.record.RecordBytes.TheInside.{Inside}

-- the bytes, and zeros up to the array's end
abbrev pub padded_bytes : List ℕ → List ℕ
padded_bytes bytes = bytes ++ replicate (134 - length bytes) 0

-- the array has zeros behind the bytes that count
pub record IsPadded (a : Inside) : Type 0 where
  pub whole : length a.bytes ≡ 134
  pub short : a.len ≤ 134
  pub zeros : drop a.len a.bytes ≡ replicate (134 - a.len) 0

abbrev pub of_bytes : List ℕ → Inside
of_bytes bytes = record { len = length bytes; bytes = padded_bytes bytes }

-- the array is known from the bytes that count
pub of_bytes-take : (a : Inside) → IsPadded a → of_bytes (take a.len a.bytes) ≡ a
of_bytes-take a h =
    let front : length (take a.len a.bytes) ≡ a.len = grind (arith, common_steps) in
    let zeros : take a.len a.bytes ++ replicate (134 - a.len) 0 ≡ a.bytes =
    ap (λ rest. take a.len a.bytes ++ rest) (sym h.zeros) ∙ take-append-drop a.len a.bytes in
    rw front (ap (λ bytes. let inside : Inside = record { len = a.len; bytes = bytes } in inside) zeros)
