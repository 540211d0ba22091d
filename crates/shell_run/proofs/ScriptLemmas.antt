-- The next line of a script, by the bytes that a reader has before it.
use Rattle.std.proofs.Common.{◌≡◌, ℕ, ◌+◌, ◌<◌, ◌≤◌, Bool, true, false, nat_lt, List, [], ◌∷◌, ◌++◌, length, drop, Option, Some, None, IfSome, IsSomeAnd, if◌then◌else◌, refl, ap, sym, ◌∙◌, subst, arith, length-drop}
use Rattle.std.specs.Option.{option_map}
use Rattle.std.proofs.lemmas.Bool.Decides.{nat_tests}
use Rattle.edge_io.specs.Lines.{lines, first_line, is_prompt, next_line, next_prompt, prompt_of, rest_of, rest_of_prompt}
use Rattle.edge_io.specs.Told.{unread}
use Rattle.edge_io.proofs.LinesLemmas.{lines_next}
use Rattle.shell_run.specs.Script.{Script, Given, Gives, Stops, prompted, prompted_by, script_of, script_told, within_limits}

-- ---- the next line

pub next_taken : (told left : Option (List ℕ)) (line : List ℕ) → IfSome told (λ bytes. Some line ≡ next_line bytes) → IfSome told (λ bytes. left ≡ Some (rest_of bytes))
    → IfSome (option_map lines told) (λ ahead. IsSomeAnd (option_map lines left) (λ later. ahead ≡ line ∷ later))
next_taken None left line next rest = tt
next_taken (Some bytes) left line next rest = rw rest (lines_next bytes ∙ rw (← next) refl)

lines_first : (bytes : List ℕ) → 0 < length (first_line bytes) → lines bytes ≡ first_line bytes ∷ lines (rest_of bytes)
lines_first [] some = absurd (omega (arith, some))
lines_first (byte ∷ bytes) some = lines_next (byte ∷ bytes)

limit_past : (n : ℕ) (line : List ℕ) → 1048576 < n → within_limits n line Some None ≡ Some 0
limit_past n line past = let over : nat_lt 1048576 n ≡ true = grind (arith, nat_tests) in rw over refl

-- the place at which a line is bad that is past the limits
pub limit_within : {A : Type 0} (n : ℕ) (line : List ℕ) (bad : ℕ → A) (good : A) → n ≤ 1048576 → length line ≤ 65536 → within_limits n line bad good ≡ good
limit_within n line bad good few short =
    let within : nat_lt 1048576 n ≡ false = grind (arith, nat_tests) in
    let fits : nat_lt 65536 (length line) ≡ false = grind (arith, nat_tests) in
    rw (within, fits) refl

pub limit_bad : {A : Type 0} (n : ℕ) (line : List ℕ) (at : ℕ) (bad : ℕ → A) (good : A) → within_limits n line Some None ≡ Some at → within_limits n line bad good ≡ bad at
limit_bad n line at bad good = by_case (nat_lt 1048576 n) (nat_lt 65536 (length line)) where
  by_case : (b c : Bool) → (if b then Some 0 else if c then Some 65536 else None) ≡ Some at → (if b then bad 0 else if c then bad 65536 else good) ≡ bad at
  by_case true c place = let same : 0 ≡ at = cc in ap bad same
  by_case false true place = let same : 65536 ≡ at = cc in ap bad same
  by_case false false place = absurd (cc)

pub line_past : (told : Option (List ℕ)) (line : List ℕ) (n : ℕ) → 1048576 < n → IfSome told (λ bytes. Some line ≡ next_line bytes)
    → IfSome (option_map lines told) (λ ahead. (n ≡ n) × (line : List ℕ) × (later : List (List ℕ)) × (ahead ≡ line ∷ later) × (within_limits n line Some None ≡ Some 0))
line_past None line n past next = tt
line_past (Some bytes) line n past next = (refl, line, lines (rest_of bytes), lines_next bytes ∙ rw (← next) refl, limit_past n line past)

pub line_long : (told : Option (List ℕ)) (n at : ℕ) → ((line : List ℕ) → 65536 < length line → Some at ≡ within_limits n line Some None) → IfSome told (λ bytes. 65536 < length (first_line bytes))
    → IfSome (option_map lines told) (λ ahead. (n ≡ n) × (line : List ℕ) × (later : List (List ℕ)) × (ahead ≡ line ∷ later) × (within_limits n line Some None ≡ Some at))
line_long None n at place long = tt
line_long (Some bytes) n at place long = (refl, first_line bytes, lines (rest_of bytes), lines_first bytes (omega (arith, long)), sym (place (first_line bytes) long))

-- ---- a prompt

abbrev with_lines : ℕ → List (List ℕ) → Script
with_lines next ahead = record { next = next; ahead = ahead }

-- what a prompt gives by the line that stands first
prompted_first : (next : ℕ) (bytes : List ℕ) (given : Given (List ℕ)) → ((later : List (List ℕ)) → prompted_by (with_lines next (first_line bytes ∷ later)) (first_line bytes) later (prompt_of (first_line bytes)) ≡ given)
    → 0 < length bytes → prompted (with_lines next (lines bytes)) ≡ given
prompted_first next [] given gives some = absurd (omega (arith, some))
prompted_first next (byte ∷ bytes) given gives some =
    subst (λ (ls : List (List ℕ)). prompted (with_lines next ls) ≡ given) (sym (lines_next (byte ∷ bytes))) (gives (lines (rest_of (byte ∷ bytes))))

not_prompt : (b : Bool) (line x y : List ℕ) → None ≡ (if b then Some (drop 1 line) else None) → (if b then x else y) ≡ y
not_prompt true line x y none = absurd (cc)
not_prompt false line x y none = refl

is_prompt_line : (b : Bool) (line x y material : List ℕ) → Some material ≡ (if b then Some (drop 1 line) else None) → ((if b then x else y) ≡ x) × (material ≡ drop 1 line)
is_prompt_line true line x y material some = (refl, cc)
is_prompt_line false line x y material some = absurd (cc)

-- no line is taken
none_of : (next : ℕ) (bytes : List ℕ) → None ≡ next_prompt bytes → prompted (with_lines next (lines bytes)) ≡ Gives [] (with_lines next (lines bytes))
none_of next [] none = refl
none_of next (byte ∷ bytes) none =
    let all : lines (byte ∷ bytes) ≡ first_line (byte ∷ bytes) ∷ lines (rest_of (byte ∷ bytes)) = lines_next (byte ∷ bytes) in
    subst (λ (ls : List (List ℕ)). prompted (with_lines next ls) ≡ Gives [] (with_lines next ls)) (sym all)
    (ap (prompted_by (with_lines next (first_line (byte ∷ bytes) ∷ lines (rest_of (byte ∷ bytes)))) (first_line (byte ∷ bytes)) (lines (rest_of (byte ∷ bytes)))) (sym none))

pub prompt_none : (next : ℕ) (told left : Option (List ℕ)) → IfSome told (λ bytes. None ≡ next_prompt bytes) → IfSome told (λ bytes. left ≡ Some (rest_of_prompt bytes))
    → IfSome (script_told (script_of next told)) (λ script. IsSomeAnd (script_told (script_of next left)) (λ later. prompted script ≡ Gives [] later))
prompt_none next None left none rest = tt
prompt_none next (Some bytes) left none rest =
    let same : left ≡ Some bytes = rest ∙ ap (λ b. Some b) (not_prompt (is_prompt (first_line bytes)) (first_line bytes) (rest_of bytes) bytes none) in
    subst (λ (l : Option (List ℕ)). IsSomeAnd (script_told (script_of next l)) (λ later. prompted (with_lines next (lines bytes)) ≡ Gives [] later)) (sym same) (none_of next bytes none)

some_bytes : (bytes material : List ℕ) → Some material ≡ next_prompt bytes → 0 < length bytes
some_bytes [] material some = absurd (cc)
some_bytes (byte ∷ bytes) material some = omega arith

-- the next line is taken
some_of : (next : ℕ) (bytes material : List ℕ) → Some material ≡ next_prompt bytes → next ≤ 1048576 → length material + 1 ≤ 65536
    → prompted (with_lines next (lines bytes)) ≡ Gives material (with_lines (next + 1) (lines (rest_of bytes)))
some_of next [] material some few short = absurd (cc)
some_of next (byte ∷ bytes) material some few short =
    let line : List ℕ = first_line (byte ∷ bytes) in
    let later : List (List ℕ) = lines (rest_of (byte ∷ bytes)) in
    let text : material ≡ drop 1 line = (is_prompt_line (is_prompt line) line [] [] material some).1 in
    let fits : length line ≤ 65536 = omega (arith, ap length text, length-drop 1 line, short) in
    subst (λ (ls : List (List ℕ)). prompted (with_lines next ls) ≡ Gives material (with_lines (next + 1) later)) (sym (lines_next (byte ∷ bytes)))
    (ap (prompted_by (with_lines next (line ∷ later)) line later) (sym some)
    ∙ limit_within next line (λ at. Stops next at) (Gives material (with_lines (next + 1) later)) few fits)

pub prompt_some : (next : ℕ) (told left : Option (List ℕ)) (material : List ℕ) → next ≤ 1048576 → length material + 1 ≤ 65536 → IfSome told (λ bytes. Some material ≡ next_prompt bytes) → IfSome told (λ bytes. left ≡ Some (rest_of_prompt bytes))
    → IfSome (script_told (script_of next told)) (λ script. IsSomeAnd (script_told (script_of (next + 1) left)) (λ later. prompted script ≡ Gives material later))
prompt_some next None left material few short some rest = tt
prompt_some next (Some bytes) left material few short some rest =
    let same : left ≡ Some (rest_of bytes) = rest ∙ ap (λ b. Some b) (is_prompt_line (is_prompt (first_line bytes)) (first_line bytes) (rest_of bytes) bytes material some).0 in
    subst (λ (l : Option (List ℕ)). IsSomeAnd (script_told (script_of (next + 1) l)) (λ later. prompted (with_lines next (lines bytes)) ≡ Gives material later)) (sym same) (some_of next bytes material some few short)

-- a line that begins with `<` is past the limits
stops_of : (next : ℕ) (bytes material : List ℕ) (at : ℕ) → Some material ≡ prompt_of (first_line bytes) → 0 < length bytes → within_limits next (first_line bytes) Some None ≡ Some at
    → prompted (with_lines next (lines bytes)) ≡ Stops next at
stops_of next bytes material at some there bad =
    prompted_first next bytes (Stops next at)
    (λ later. ap (prompted_by (with_lines next (first_line bytes ∷ later)) (first_line bytes) later) (sym some) ∙ limit_bad next (first_line bytes) at (λ place. Stops next place) (Gives material (with_lines (next + 1) later)) bad) there

pub prompt_past : (next : ℕ) (told : Option (List ℕ)) (material : List ℕ) → 1048576 < next → IfSome told (λ bytes. Some material ≡ next_prompt bytes)
    → IfSome (script_told (script_of next told)) (λ script. prompted script ≡ Stops next 0)
prompt_past next None material past some = tt
prompt_past next (Some bytes) material past some = stops_of next bytes material 0 some (some_bytes bytes material some) (limit_past next (first_line bytes) past)

pub prompt_long : (next at : ℕ) (told : Option (List ℕ)) → ((line : List ℕ) → 65536 < length line → Some at ≡ within_limits next line Some None)
    → IfSome told (λ bytes. (is_prompt (first_line bytes) ≡ true) × (65536 < length (first_line bytes))) → IfSome (script_told (script_of next told)) (λ script. prompted script ≡ Stops next at)
prompt_long next at None place long = tt
prompt_long next at (Some bytes) place long =
    stops_of next bytes (drop 1 (first_line bytes)) at (sym (ap (λ b. if b then Some (drop 1 (first_line bytes)) else None) long.0)) (there bytes long.1) (sym (place (first_line bytes) long.1)) where
      there : (bytes : List ℕ) → 65536 < length (first_line bytes) → 0 < length bytes
      there [] far = absurd (omega (arith, far))
      there (byte ∷ bytes) far = omega arith

-- ---- a script that was read to its end

no_lines : (bytes : List ℕ) → lines bytes ≡ [] → bytes ≡ []
no_lines [] none = refl
no_lines (byte ∷ bytes) none = absurd (let other : first_line (byte ∷ bytes) ∷ lines (rest_of (byte ∷ bytes)) ≡ [] = sym (lines_next (byte ∷ bytes)) ∙ none in cc)

second_nil : (xs ys : List ℕ) → xs ++ ys ≡ [] → ys ≡ []
second_nil [] ys e = e
second_nil (x ∷ xs) ys e = absurd (cc)

pub all_read : (reader rest : List ℕ) (told left : Option (List ℕ)) → reader ≡ [] → IfSome (option_map lines (unread reader told)) (λ ahead. option_map lines (unread rest left) ≡ Some []) → IfSome told (λ bytes. left ≡ Some [])
all_read reader rest None left empty end = tt
all_read reader rest (Some bytes) None empty end = absurd (cc)
all_read reader rest (Some bytes) (Some more) empty end = ap (λ xs. Some xs) (second_nil rest more (no_lines (rest ++ more) (let same : Some (lines (rest ++ more)) ≡ Some [] = end in cc)))
