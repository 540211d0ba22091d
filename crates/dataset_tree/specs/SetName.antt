-- The names of datasets: 1 to 32 components, joined by slashes, of letters, digits, `_`, `-`, `.` and `:`.
use Rattle.std.specs.Prelude.{ℕ, Bool, false, not, ◌&&◌, ◌||◌, ◌==◌, nat_lt, List, [], ◌∷◌, ◌++◌, length, if◌then◌else◌, slice_index}
use Rattle.std.specs.declared.option.Option.{Option}
use Rattle.std.specs.declared.option.Option.TheVariants.{Some, None}
use Rattle.std.specs.Char.{is_ascii_alphanumeric}
use Rattle.std.specs.List.{count_by, list_any}
use lib.Chars.{codes}
use Rattle.std.specs.Prelude.{Result, Ok, Err}
use Rattle.dataset_tree.specs.declared.refusal.Refusal.{Refusal}
use Rattle.dataset_tree.specs.declared.refusal.Refusal.TheVariants.{BadName}

abbrev pub slash : ℕ
slash = slice_index (codes "/") 0

abbrev pub is_slash : ℕ → Bool
is_slash b = b == slash

abbrev pub is_name_byte : ℕ → Bool
is_name_byte b = is_ascii_alphanumeric b || list_any (λ c. b == c) (codes "_-.:")

-- whether the last component of what stands so far has a byte
abbrev pub ends_in_component : List ℕ → Bool
ends_in_component [] = false
ends_in_component (b ∷ []) = not (is_slash b)
ends_in_component (b ∷ c ∷ bs) = ends_in_component (c ∷ bs)

-- A byte may stand behind those before it: at most 255 in all, at most 32 components, none of them empty.
abbrev pub may_follow : List ℕ → ℕ → Bool
may_follow before b =
    nat_lt (length before) 255 && (is_name_byte b
    || (is_slash b && (ends_in_component before && nat_lt (count_by is_slash before) 31)))

-- the offset of the first byte that can't stand behind those before it; where the text ends too early, the
-- text's length
abbrev pub name_fault_after : List ℕ → List ℕ → Option ℕ
name_fault_after before [] = if ends_in_component before then None else Some (length before)
name_fault_after before (b ∷ bs) =
    if may_follow before b then name_fault_after (before ++ b ∷ []) bs else Some (length before)

-- where a text isn't the name of a dataset: nowhere for a name
abbrev pub name_fault : List ℕ → Option ℕ
name_fault text = name_fault_after [] text

-- what stands before the last slash of a text that begins with this byte, given what does so in the rest
abbrev pub before_slash : ℕ → Option (List ℕ) → Option (List ℕ)
before_slash b (Some front) = Some (b ∷ front)
before_slash b None = if is_slash b then Some [] else None

-- the name of a dataset's parent, which stands before the last slash: none for a name of one component
abbrev pub parent_name : List ℕ → Option (List ℕ)
parent_name [] = None
parent_name (b ∷ bs) = before_slash b (parent_name bs)

abbrev pub named_unless : List ℕ → Option ℕ → Result (List ℕ) Refusal
named_unless text None = Ok text
named_unless text (Some at) = Err (BadName at)

-- the name that a text spells, or where it can't
abbrev pub named : List ℕ → Result (List ℕ) Refusal
named text = named_unless text (name_fault text)
