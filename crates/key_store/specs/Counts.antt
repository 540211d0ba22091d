-- What the counts of a keystore show of its mappings.
use Rattle.std.specs.Prelude.{◌≡◌, ℕ, ◌≤◌, Bool, true, List, map, if◌then◌else◌}
use Rattle.std.specs.List.{All}
use Rattle.key_machine.specs.Counts.{Counted}
use Rattle.key_machine.specs.Plain.{Plain}
use Rattle.key_machine.specs.Users.{generation_of, is_mounted, users_of}
use Rattle.key_store.specs.declared.counts.Counts.TheInside.{Inside as Lists}

abbrev pub counted_of : Lists → Counted
counted_of lists = record { wkeys = lists.wkeys.items; mkeys = lists.mkeys.items; maps = lists.maps.items }

-- the use of a dataset's mapping by its mount
abbrev pub mounts_of : Plain → ℕ → ℕ
mounts_of p id = if is_mounted p id then 1 else 0

-- Shown of a mapping are its dataset, its generation, and a count that has at least the mount; where the keeper tells
-- its counts, the count is that of the live users.
pub record ShowsMapping (tells : Bool) (p : Plain) (mapping : ℕ × ℕ) (shown : ℕ × ℕ × ℕ) : Type 0 where
  pub dataset : shown.0 ≡ mapping.0
  pub generation : shown.2 ≡ generation_of p mapping.1
  pub count : mounts_of p shown.0 ≤ shown.1
  pub exact : tells ≡ true → shown.1 ≡ users_of p mapping

-- the same of each mapping, in their order
pub record ShowsMappings (tells : Bool) (p : Plain) (mapped : List (ℕ × ℕ)) (maps : List (ℕ × ℕ × ℕ)) : Type 0 where
  pub datasets : map (λ shown. shown.0) maps ≡ map (λ mapping. mapping.0) mapped
  pub generations : map (λ shown. shown.2) maps ≡ map (λ mapping. generation_of p mapping.1) mapped
  pub counts : All (λ shown. mounts_of p shown.0 ≤ shown.1) maps
  pub exact : tells ≡ true
      → maps ≡ map (λ mapping. (mapping.0, users_of p mapping, generation_of p mapping.1)) mapped
