-- What a shelf tells, and what each call makes of it.
use Rattle.std.specs.Prelude.{ℕ, zero, suc, ◌+◌, ◌-◌, ◌^◌, ◌≡◌, ◌≤◌, ◌==◌, Bool, false, if◌then◌else◌, min, List, [], ◌∷◌, ◌++◌, map, length, sum, bit_xor, Option, Some, None, IfSome, slice_index, slice_index_or, slice_set}
use Rattle.std.specs.Option.{option_map}
use Rattle.shelf_store.specs.declared.shelf.TheConstants.{SHELF_BYTES}

-- A shelf tells the sizes of its blocks, how often it failed, and in how many further calls of
-- put and get it fails, if that is armed. It may tell the blocks as they were put, and as get
-- gives them.
pub record ShelfState : Type 0 where
  pub sizes : List ℕ
  pub faults : ℕ
  pub armed : Option ℕ
  pub placed : Option (List (List ℕ))
  pub held : Option (List (List ℕ))

-- no blocks, no failures, and none armed; the blocks are told or not
abbrev pub empty_shelf : Bool → ShelfState
empty_shelf tells = record {
  sizes = [];
  faults = 0;
  armed = None;
  placed = if tells then Some [] else None;
  held = if tells then Some [] else None;
}

-- the blocks are within the limit, and those that are told have the told sizes
pub record HasToldSizes (s : ShelfState) : Type 0 where
  pub within_limit : sum s.sizes ≤ SHELF_BYTES
  pub of_placed : IfSome s.placed (λ blocks. map length blocks ≡ s.sizes)
  pub of_held : IfSome s.held (λ blocks. map length blocks ≡ s.sizes)

-- the next call of put or get fails
abbrev pub is_due : Option ℕ → Bool
is_due None = false
is_due (Some calls) = calls == 0

-- what is armed after a call of put or get: each arming lets one call fail
unfoldable pub armed_after : Option ℕ → Option ℕ
armed_after None = None
armed_after (Some calls) = if calls == 0 then None else Some (calls - 1)

-- one more: a count stands still at the end of its 64 bits
abbrev pub one_more : ℕ → ℕ
one_more count = min (count + 1) (2 ^ 64 - 1)

-- the count rose, or stands at the end of its 64 bits
abbrev pub Rose : ℕ → ℕ → Type 0
Rose before now = one_more before ≤ now

-- the count of failures after a call of put or get, which fails where it is due
unfoldable pub faults_after : Option ℕ → ℕ → ℕ
faults_after armed faults = if is_due armed then one_more faults else faults

-- a call of put or get was counted
abbrev pub counted : ShelfState → ShelfState
counted s = record s {
  faults = faults_after s.armed s.faults;
  armed = armed_after s.armed;
}

-- so many calls of put or get were counted
abbrev pub after_calls : ℕ → ShelfState → ShelfState
after_calls zero s = s
after_calls (suc calls) s = after_calls calls (counted s)

-- one more block was put at the end
abbrev pub with_block : ShelfState → List ℕ → ShelfState
with_block s block = record s {
  sizes = s.sizes ++ length block ∷ [];
  placed = option_map (λ blocks. blocks ++ block ∷ []) s.placed;
  held = option_map (λ blocks. blocks ++ block ∷ []) s.held;
}

-- these blocks, with one byte of the block at an address changed by exclusive or
abbrev pub with_changed_byte : List (List ℕ) → ℕ → ℕ → ℕ → List (List ℕ)
with_changed_byte blocks address at mask =
    let block = slice_index_or blocks address [] in
    slice_set blocks address (slice_set block at (bit_xor (slice_index block at) mask))

-- one byte of a held block was altered
abbrev pub altered : ShelfState → ℕ → ℕ → ℕ → ShelfState
altered s address at mask = record s {
  held = option_map (λ blocks. with_changed_byte blocks address at mask) s.held;
}
