-- What the fields of a `Slot` stand for.
use Rattle.std.specs.Prelude.{ℕ, List, unwrap_or}
use Rattle.std.specs.Option.{option_map}
use Rattle.shelf_store.specs.declared.slot.Slot.TheInside.{Inside}

-- what was put: the original where one is kept, and else what is held
abbrev pub placed_bytes : Inside → List ℕ
placed_bytes s = unwrap_or (option_map (λ v. v.items) s.original) s.held.items
