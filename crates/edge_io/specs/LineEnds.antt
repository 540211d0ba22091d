-- Where a reader finds the end of a line.
use Rattle.std.specs.Prelude.{◌≡◌, ◌≢◌, ℕ, ◌+◌, ◌<◌, ◌≤◌, List, [], ◌∷◌, length, take, drop, ◌==◌, if◌then◌else◌}
use Rattle.std.specs.List.{AllByRecursion}
use Rattle.edge_io.specs.declared.line_reader.LineEnd.{LineEnd}
use Rattle.edge_io.specs.declared.line_reader.LineEnd.TheVariants.{Feed, Input, TooFar}
use Rattle.edge_io.specs.declared.line_reader.TheConstants.{TOO_LONG}
use Rattle.edge_io.specs.Lines.{line_feed, carriage_return}

-- no byte is a line feed
abbrev pub HasNoFeed : List ℕ → Type 0
HasNoFeed bytes = AllByRecursion (λ byte. byte ≢ line_feed) bytes

-- the first line feed stands at this place
pub record IsFirstFeed (bytes : List ℕ) (at : ℕ) : Type 0 where
  pub within : at < length bytes
  pub before : HasNoFeed (take at bytes)
  pub feed : drop at bytes ≡ line_feed ∷ drop (at + 1) bytes

-- the end of the next line, as far as these bytes of it tell
abbrev pub EndsAt : List ℕ → LineEnd → Type 0
EndsAt bytes (Feed at) = IsFirstFeed bytes at
EndsAt bytes Input = HasNoFeed bytes
EndsAt bytes TooFar = HasNoFeed bytes × (TOO_LONG ≤ length bytes)

-- without one carriage return at the end
abbrev pub strip_return : List ℕ → List ℕ
strip_return [] = []
strip_return (byte ∷ []) = if byte == carriage_return then [] else byte ∷ []
strip_return (byte ∷ next ∷ bytes) = byte ∷ strip_return (next ∷ bytes)
