-- The script of a run: its lines, and what a prompt takes of them.
use Rattle.std.specs.Prelude.{ℕ, ◌+◌, nat_lt, List, [], ◌∷◌, length, if◌then◌else◌}
use Rattle.std.specs.declared.option.Option.{Option}
use Rattle.std.specs.declared.option.Option.TheVariants.{Some, None}
use Rattle.std.specs.Option.{option_map}
use Rattle.edge_io.specs.Lines.{lines, prompt_of}

-- what is left of a script: the number of the next line, and the lines from that one on
pub record Script : Type 0 where
  pub next : ℕ
  pub ahead : List (List ℕ)

-- behind the line that stands next
abbrev pub past_line : Script → (later : List (List ℕ)) → Script
past_line script later = record { next = script.next + 1; ahead = later }

-- A script has at most 1048576 lines, each of at most 65536 bytes; another line is bad at this place.
abbrev pub within_limits : {A : Type 0} → ℕ → List ℕ → (bad : ℕ → A) → (good : A) → A
within_limits n bytes bad good =
    if nat_lt 1048576 n then bad 0 else if nat_lt 65536 (length bytes) then bad 65536 else good

-- ---- prompts

-- What a place gives: this, and what is left of the script; or a prompt ends the run at a place of the line
-- of this number.
pub data Given (A : Type 0) : Type 0 where
  Gives : (given : A) (left : Script) → Given A
  Stops : (number at : ℕ) → Given A

abbrev pub prompted_by : Script → (line : List ℕ) (later : List (List ℕ)) → Option (List ℕ) → Given (List ℕ)
prompted_by script line later None = Gives [] script
prompted_by script line later (Some material) =
    within_limits script.next line (λ at. Stops script.next at) (Gives material (past_line script later))

abbrev pub prompted_before : Script → List (List ℕ) → Given (List ℕ)
prompted_before script [] = Gives [] script
prompted_before script (line ∷ later) = prompted_by script line later (prompt_of line)

-- At a prompt the next line is taken where it begins with `<`, and the material is the bytes behind that
-- byte. Else nothing is taken, and the material is empty.
abbrev pub prompted : Script → Given (List ℕ)
prompted script = prompted_before script script.ahead

-- ---- what is told of a script

-- the number of its next line, and the lines from that one on, where they are told
pub record ToldScript : Type 0 where
  pub next : ℕ
  pub ahead : Option (List (List ℕ))

-- of a reader that has these bytes before it
abbrev pub script_of : (next : ℕ) → (unread : Option (List ℕ)) → ToldScript
script_of next unread = record { next = next; ahead = option_map lines unread }

abbrev pub script_told : ToldScript → Option Script
script_told told = option_map (λ ahead. record { next = told.next; ahead = ahead }) told.ahead
