-- The name of a snapshot: that of its dataset, `@`, and the part that names it.
use Rattle.std.specs.Prelude.{ℕ, ◌+◌, not, ◌==◌, List, [], ◌∷◌, take, drop, slice_index, Result, Ok, Err}
use Rattle.std.specs.declared.option.Option.{Option}
use Rattle.std.specs.declared.option.Option.TheVariants.{Some, None}
use Rattle.std.specs.List.{prefix_len}
use lib.Chars.{codes}
use Rattle.dataset_tree.specs.declared.refusal.Refusal.{Refusal}
use Rattle.dataset_tree.specs.declared.refusal.Refusal.TheVariants.{BadName}
use Rattle.dataset_tree.specs.declared.snap_name.SnapName.{SnapName}
use Rattle.dataset_tree.specs.SetName.{named}
use Rattle.dataset_tree.specs.ShortNames.{part_fault}

abbrev pub at_sign : ℕ
at_sign = slice_index (codes "@") 0

-- the part that names a snapshot, at its offset in the whole name
abbrev pub part_named_at : ℕ → List ℕ → Option ℕ → Result (List ℕ) Refusal
part_named_at at text None = Ok text
part_named_at at text (Some fault) = Err (BadName (at + fault))

-- what stands from the first `@` on, at its offset, as the part behind it
abbrev pub part_behind : ℕ → List ℕ → Result (List ℕ) Refusal
part_behind at [] = Err (BadName at)
part_behind at (_ ∷ text) = part_named_at (at + 1) text (part_fault text)

-- both names, or the first reason against one
abbrev pub snap_of : Result (List ℕ) Refusal → Result (List ℕ) Refusal → Result SnapName Refusal
snap_of (Ok set) (Ok part) = Ok (record { set = set; snap = part })
snap_of (Ok set) (Err why) = Err why
snap_of (Err why) part = Err why

abbrev pub snap_named_at : List ℕ → ℕ → Result SnapName Refusal
snap_named_at text at = snap_of (named (take at text)) (part_behind at (drop at text))

-- the snapshot's name that a text spells, or where it can't
abbrev pub snap_named : List ℕ → Result SnapName Refusal
snap_named text = snap_named_at text (prefix_len (λ b. not (b == at_sign)) text)
