-- What `line_of` gives, by the language's table.
use Rattle.std.proofs.Common.{◌⊎◌, ◌≡◌, ◌≢◌, eqb, ltb, not, Some, None, get_or, ℕ, ◌+◌, ◌<◌, inl, inr, true, false, List, [], ◌∷◌, ◌++◌, length, Result, Ok, Err, refl, ap, sym, ◌∙◌, arith, subst}
use Rattle.std.proofs.lemmas.List.{append_assoc, append-nil}
use Rattle.std.specs.List.{position_or_len}
use Rattle.std.proofs.lemmas.List.Sums.{position_or_len_is}
use Rattle.std.proofs.lemmas.Bool.Decides.{nat_tests, leb_tells, eqb_tells}
use Rattle.encryption_roots.specs.Printable.{is_printable}
use Rattle.shell_lines.specs.declared.line.Line.{Line}
use Rattle.shell_lines.specs.declared.line.Line.TheVariants.{Silent}
use Rattle.shell_lines.specs.Words.{WordAt, words_of}
use Rattle.shell_lines.specs.Forms.{Form, Command, forms_from, command_from, line_from}
use Rattle.shell_lines.specs.Commands.{commands}
use Rattle.shell_lines.specs.Grammar.{line_of, placed_of, is_comment, first_unprintable}
use Rattle.shell_lines.specs.Language.{IsMatch, SomeMatch, Makes, CommandMatches, CommandMakes, IsWhole, IsLine, Begins, IsWrongWord, IsFirstWrong, IsPrintable, IsFirstUnprintable, IsComment, IsPlain, texts_of}
use Rattle.shell_lines.proofs.FrontLemmas.{by_text}
use Rattle.shell_lines.proofs.OutcomeLemmas.{IsWrong, Outcome, FormMakes, RiseFrom, form_outcome, better_outcome, outcome_as, places, texts_split}
use Rattle.shell_lines.proofs.RunLemmas.{words_rise}

-- ---- forms and commands

abbrev NoForm : List (List ℕ) → List Form → ℕ → Result Line ℕ → Type 0
NoForm options forms at given = ((more : List (List ℕ)) → ¬ SomeMatch options forms more) × ((more : List (List ℕ)) (line : Line) → ¬ Makes options forms more line) × (given ≡ Err at)

some_form : (options : List (List ℕ)) (form : Form) (forms : List Form) (place at end : ℕ) (words : List WordAt) → RiseFrom at end words
    → Outcome (SomeMatch options (form ∷ forms)) (Makes options (form ∷ forms)) words end (forms_from end place options (form ∷ forms) words)
some_form options form [] place at end words rise =
    outcome_as (IsMatch options form) (SomeMatch options (form ∷ [])) (FormMakes options form) (Makes options (form ∷ [])) words end (forms_from end place options (form ∷ []) words)
    (λ texts h. inl h) (λ texts h. elim h [ inl one ↦ one | inr none ↦ absurd none ])
    (λ texts line h. inl h) (λ texts line h. elim h [ inl one ↦ one | inr none ↦ absurd none.1 ])
    (form_outcome options form end words)
some_form options form (other ∷ forms) place at end words rise =
    better_outcome (IsMatch options form) (SomeMatch options (other ∷ forms)) (FormMakes options form) (Makes options (other ∷ forms)) words at end _ _ rise
    (form_outcome options form end words) (some_form options other forms place at end words rise)

forms_outcome : (options : List (List ℕ)) (forms : List Form) (place at end : ℕ) (words : List WordAt) → RiseFrom at end words
    → Outcome (SomeMatch options forms) (Makes options forms) words end (forms_from end place options forms words) ⊎ NoForm options forms place (forms_from end place options forms words)
forms_outcome options [] place at end words rise = inr ((λ more h. h), (λ more line h. h), refl)
forms_outcome options (form ∷ forms) place at end words rise = inl (some_form options form forms place at end words rise)

record NoCommand (table : List Command) (word : WordAt) (given : Result Line ℕ) : Type 0 where
  none : (more : List (List ℕ)) → ¬ CommandMatches table word.text more
  makes_none : (more : List (List ℕ)) (line : Line) → ¬ CommandMakes table word.text more line
  is : given ≡ Err word.at

abbrev CommandOutcome : List Command → WordAt → List WordAt → ℕ → Result Line ℕ → Type 0
CommandOutcome table word words end given = Outcome (CommandMatches table word.text) (CommandMakes table word.text) words end given ⊎ NoCommand table word given

this_command : (command : Command) (table : List Command) (word : WordAt) (words : List WordAt) (end : ℕ) (given : Result Line ℕ) → word.text ≡ command.word
    → Outcome (SomeMatch command.options command.forms) (Makes command.options command.forms) words end given ⊎ NoForm command.options command.forms word.at given
    → CommandOutcome (command ∷ table) word words end given
this_command command table word words end given same (inl outcome) = inl
    (outcome_as (SomeMatch command.options command.forms) (CommandMatches (command ∷ table) word.text) (Makes command.options command.forms) (CommandMakes (command ∷ table) word.text) words end given
    (λ texts h. inl (same, h)) (λ texts h. elim h [ inl one ↦ one.1 | inr others ↦ absurd (others.0 same) ])
    (λ texts line h. inl (same, h)) (λ texts line h. elim h [ inl one ↦ one.1 | inr others ↦ absurd (others.0 same) ])
    outcome)
this_command command table word words end given same (inr none) = inr (record {
  none = λ more h. elim h [ inl one ↦ none.0 more one.1 | inr others ↦ others.0 same ];
  makes_none = λ more line h. elim h [ inl one ↦ none.1 more line one.1 | inr others ↦ others.0 same ];
  is = none.2;
})

other_command : (command : Command) (table : List Command) (word : WordAt) (words : List WordAt) (end : ℕ) (given : Result Line ℕ) → word.text ≢ command.word
    → CommandOutcome table word words end given → CommandOutcome (command ∷ table) word words end given
other_command command table word words end given apart (inl outcome) = inl
    (outcome_as (CommandMatches table word.text) (CommandMatches (command ∷ table) word.text) (CommandMakes table word.text) (CommandMakes (command ∷ table) word.text) words end given
    (λ texts h. inr (apart, h)) (λ texts h. elim h [ inl one ↦ absurd (apart one.0) | inr others ↦ others.1 ])
    (λ texts line h. inr (apart, h)) (λ texts line h. elim h [ inl one ↦ absurd (apart one.0) | inr others ↦ others.1 ])
    outcome)
other_command command table word words end given apart (inr none) = inr (record {
  none = λ more h. elim h [ inl one ↦ apart one.0 | inr others ↦ none.none more others.1 ];
  makes_none = λ more line h. elim h [ inl one ↦ apart one.0 | inr others ↦ none.makes_none more line others.1 ];
  is = none.is;
})

command_outcome : (table : List Command) (word : WordAt) (words : List WordAt) (at end : ℕ) → RiseFrom at end words → CommandOutcome table word words end (command_from end table word words)
command_outcome [] word words at end rise = inr (record { none = λ more h. h; makes_none = λ more line h. h; is = refl })
command_outcome (command ∷ table) word words at end rise =
    by_text word.text command.word
    (λ e same. rw e (this_command command table word words end (forms_from end word.at command.options command.forms words) same (forms_outcome command.options command.forms word.at at end words rise)))
    (λ e apart. rw e (other_command command table word words end (command_from end table word words) apart (command_outcome table word words at end rise)))

-- ---- lines

with_word : (table : List Command) (word : WordAt) (words : List WordAt) (end : ℕ) (given : Result Line ℕ) → CommandOutcome table word words end given
    → Outcome (IsWhole table) (IsLine table) (word ∷ words) end given
with_word table word words end given (inl (inl h)) = inl (record { line = h.line; makes = h.makes; whole = h.whole; only = h.only; is = h.is })
with_word table word words end given (inl (inr (inl h))) = inr (inl (record {
  before = word ∷ h.before;
  word = h.word;
  behind = h.behind;
  stand = ap (λ (more : List WordAt). word ∷ more) h.stand;
  begin = h.begin;
  wrong = h.wrong;
  no_line = h.no_line;
  is = h.is;
}))
with_word table word words end given (inl (inr (inr h))) = inr (inr (record { begin = h.begin; no_line = h.no_line; is = h.is }))
with_word table word words end given (inr h) = inr (inl (record {
  before = [];
  word = word;
  behind = words;
  stand = refl;
  begin = ([], tt);
  wrong = h.none;
  no_line = h.makes_none (texts_of words);
  is = h.is;
}))

line_outcome : (table : List Command) (words : List WordAt) (at end : ℕ) → RiseFrom at end words → Outcome (IsWhole table) (IsLine table) words end (line_from end table words)
line_outcome table [] at end rise = inl (record { line = Silent; makes = refl; whole = tt; only = λ other h. h; is = refl })
line_outcome table (word ∷ words) at end rise =
    with_word table word words end (command_from end table word words) (command_outcome table word words (word.at + 1) end rise.1)

-- ---- the first place where words leave the table

up_to : (before : List WordAt) (word : WordAt) (behind : List WordAt) → texts_of (before ++ (word ∷ behind)) ≡ (texts_of before ++ (word.text ∷ [])) ++ texts_of behind
up_to before word behind = texts_split before word behind ∙ sym (append_assoc (texts_of before) (word.text ∷ []) (texts_of behind))

shorter : (table : List Command) (words more : List (List ℕ)) → Begins (IsWhole table) (words ++ more) → Begins (IsWhole table) words
shorter table words more (rest, whole) = (more ++ rest, subst (IsWhole table) (append_assoc words more rest) whole)

begins_up_to : (table : List Command) (before : List WordAt) (word : WordAt) (behind : List WordAt) → Begins (IsWhole table) (texts_of (before ++ (word ∷ behind)))
    → Begins (IsWhole table) (texts_of before ++ (word.text ∷ []))
begins_up_to table before word behind begin = shorter table (texts_of before ++ (word.text ∷ [])) (texts_of behind) (subst (Begins (IsWhole table)) (up_to before word behind) begin)

past_wrong : (table : List Command) (words : List WordAt) (at : ℕ) → IsWrongWord table words at → ¬ Begins (IsWhole table) (texts_of words)
past_wrong table words at w begin = w.wrong (begins_up_to table w.before w.word w.behind (subst (λ (all : List WordAt). Begins (IsWhole table) (texts_of all)) w.stand begin))

itself : (table : List Command) (words : List (List ℕ)) → IsWhole table words → Begins (IsWhole table) words
itself table words whole = ([], subst (IsWhole table) (sym (append-nil words)) whole)

one_place : (table : List Command) (words : List WordAt) (at other : ℕ) → IsWrongWord table words at → IsWrongWord table words other → at ≡ other
one_place table words at other w v =
    elim (places w.before w.word w.behind v.before v.word v.behind (sym w.stand ∙ v.stand)) [
      | inl same ↦ w.offset ∙ ap (λ (word : WordAt). word.at) same.1 ∙ sym v.offset
      | inr apart ↦ elim apart [
        | inl after ↦ absurd (w.wrong (begins_up_to table w.before w.word after.0 (subst (λ (all : List WordAt). Begins (IsWhole table) (texts_of all)) after.1 v.begin)))
        | inr before ↦ absurd (v.wrong (begins_up_to table v.before v.word before.0 (subst (λ (all : List WordAt). Begins (IsWhole table) (texts_of all)) before.1 w.begin)))
      ]
    ]

wrong_word : (table : List Command) (words : List WordAt) (given : Result Line ℕ) (h : IsWrong (IsWhole table) (IsLine table) words given) → IsWrongWord table words h.word.at
wrong_word table words given h = record {
  before = h.before;
  word = h.word;
  behind = h.behind;
  stand = h.stand;
  begin = h.begin;
  wrong = λ begin. h.wrong begin.0 (subst (IsWhole table) (append_assoc (texts_of h.before) (h.word.text ∷ []) begin.0) begin.1);
  offset = refl;
}

pub line_is : (table : List Command) (words : List WordAt) (end : ℕ) (given : Result Line ℕ) (line : Line) → Outcome (IsWhole table) (IsLine table) words end given → given ≡ Ok line → IsLine table (texts_of words) line
line_is table words end given line (inl h) e = let is : given ≡ Ok h.line = h.is in let same : h.line ≡ line = cc in subst (IsLine table (texts_of words)) same h.makes
line_is table words end given line (inr (inl h)) e = let is : given ≡ Err h.word.at = h.is in absurd (cc)
line_is table words end given line (inr (inr h)) e = let is : given ≡ Err end = h.is in absurd (cc)

line_given : (table : List Command) (words : List WordAt) (end : ℕ) (given : Result Line ℕ) (line : Line) → Outcome (IsWhole table) (IsLine table) words end given → IsLine table (texts_of words) line → given ≡ Ok line
line_given table words end given line (inl h) l = let is : given ≡ Ok h.line = h.is in let same : line ≡ h.line = h.only line l in cc
line_given table words end given line (inr (inl h)) l = absurd (h.no_line line l)
line_given table words end given line (inr (inr h)) l = absurd (h.no_line line l)

wrong_is : (table : List Command) (words : List WordAt) (end : ℕ) (given : Result Line ℕ) (at : ℕ) → Outcome (IsWhole table) (IsLine table) words end given → given ≡ Err at → IsFirstWrong table words end at
wrong_is table words end given at (inl h) e = let is : given ≡ Ok h.line = h.is in absurd (cc)
wrong_is table words end given at (inr (inl h)) e = let is : given ≡ Err h.word.at = h.is in let same : h.word.at ≡ at = cc in inl (subst (IsWrongWord table words) same (wrong_word table words given h))
wrong_is table words end given at (inr (inr h)) e = let is : given ≡ Err end = h.is in let same : at ≡ end = cc in inr (record { begin = h.begin; no_line = h.no_line; offset = same })

wrong_given : (table : List Command) (words : List WordAt) (end : ℕ) (given : Result Line ℕ) (at : ℕ) → Outcome (IsWhole table) (IsLine table) words end given → IsFirstWrong table words end at → given ≡ Err at
wrong_given table words end given at (inl h) (inl w) = absurd (past_wrong table words at w (itself table (texts_of words) h.whole))
wrong_given table words end given at (inl h) (inr l) = absurd (l.no_line h.line h.makes)
wrong_given table words end given at (inr (inl h)) (inl w) = h.is ∙ ap Err (one_place table words h.word.at at (wrong_word table words given h) w)
wrong_given table words end given at (inr (inl h)) (inr l) = absurd (past_wrong table words h.word.at (wrong_word table words given h) l.begin)
wrong_given table words end given at (inr (inr h)) (inl w) = absurd (past_wrong table words at w h.begin)
wrong_given table words end given at (inr (inr h)) (inr l) = h.is ∙ ap Err (sym l.offset)

-- ---- bytes

printable_passes : (byte : ℕ) → IsPrintable byte → is_printable byte ≡ true
printable_passes byte h = grind (arith, nat_tests)

unprintable_fails : (byte : ℕ) → ¬ IsPrintable byte → is_printable byte ≡ false
unprintable_fails byte h =
    elim (leb_tells 32 byte) [
      | inl low ↦ elim (leb_tells byte 126) [ inl high ↦ absurd (h (low.1, high.1)) | inr above ↦ rw (low.0, above.0) refl ]
      | inr below ↦ rw below.0 refl
    ]

no_comment : (bytes : List ℕ) → ¬ IsComment bytes → is_comment bytes ≡ false
no_comment [] h = refl
no_comment (byte ∷ bytes) h =
    elim (eqb_tells byte 35) [
      | inl hash ↦ absurd (h (bytes, inl (ap (λ b. b ∷ bytes) hash.1)))
      | inr no_hash ↦ elim (eqb_tells byte 60) [
        | inl less ↦ absurd (h (bytes, inr (ap (λ b. b ∷ bytes) less.1)))
        | inr no_less ↦ rw (no_hash.0, no_less.0) refl
      ]
    ]

all_printable : (bytes : List ℕ) → IsPlain bytes → first_unprintable bytes ≡ None
all_printable bytes plain =
    let none : position_or_len (λ byte. not (is_printable byte)) bytes ≡ length bytes =
    position_or_len_is (λ byte. not (is_printable byte)) bytes (length bytes) 0 (omega arith)
    (λ k below. rw (printable_passes (get_or bytes k 0) (plain.printable k below)) refl)
    (λ below. absurd (omega arith)) in
    let past : ltb (length bytes) (length bytes) ≡ false = grind (arith, nat_tests) in
    rw (none, past) refl

one_unprintable : (bytes : List ℕ) (at : ℕ) → IsFirstUnprintable bytes at → first_unprintable bytes ≡ Some at
one_unprintable bytes at first =
    let place : position_or_len (λ byte. not (is_printable byte)) bytes ≡ at =
    position_or_len_is (λ byte. not (is_printable byte)) bytes at 0 (omega arith)
    (λ k below. rw (printable_passes (get_or bytes k 0) (first.before k below)) refl)
    (λ below. rw (unprintable_fails (get_or bytes at 0) first.here) refl) in
    let inside : ltb at (length bytes) ≡ true = grind (arith, nat_tests) in
    rw (place, inside) refl

pub at_unprintable : (bytes : List ℕ) (inside at : ℕ) → ¬ IsComment bytes → IsFirstUnprintable bytes at → line_of bytes inside ≡ Err at
at_unprintable bytes inside at none first = rw (no_comment bytes none, one_unprintable bytes at first) refl

by_words : (bytes : List ℕ) (inside : ℕ) → IsPlain bytes → line_of bytes inside ≡ placed_of inside (length bytes) (words_of bytes)
by_words bytes inside plain = rw (no_comment bytes plain.no_comment, all_printable bytes plain) refl

outside : (end : ℕ) (words : List WordAt) → placed_of 0 end words ≡ line_from end commands words
outside end [] = refl
outside end (word ∷ words) = refl

pub words_outcome : (bytes : List ℕ) → Outcome (IsWhole commands) (IsLine commands) (words_of bytes) (length bytes) (line_from (length bytes) commands (words_of bytes))
words_outcome bytes = line_outcome commands (words_of bytes) 0 (length bytes) (words_rise bytes)

outcome : (bytes : List ℕ) → IsPlain bytes → Outcome (IsWhole commands) (IsLine commands) (words_of bytes) (length bytes) (line_of bytes 0)
outcome bytes plain =
    subst (Outcome (IsWhole commands) (IsLine commands) (words_of bytes) (length bytes)) (sym (by_words bytes 0 plain ∙ outside (length bytes) (words_of bytes)))
    (words_outcome bytes)

pub is_line : (bytes : List ℕ) (line : Line) → IsPlain bytes → line_of bytes 0 ≡ Ok line → IsLine commands (texts_of (words_of bytes)) line
is_line bytes line plain e = line_is commands (words_of bytes) (length bytes) (line_of bytes 0) line (outcome bytes plain) e

pub gives_line : (bytes : List ℕ) (line : Line) → IsPlain bytes → IsLine commands (texts_of (words_of bytes)) line → line_of bytes 0 ≡ Ok line
gives_line bytes line plain l = line_given commands (words_of bytes) (length bytes) (line_of bytes 0) line (outcome bytes plain) l

pub first_wrong : (bytes : List ℕ) (at : ℕ) → IsPlain bytes → line_of bytes 0 ≡ Err at → IsFirstWrong commands (words_of bytes) (length bytes) at
first_wrong bytes at plain e = wrong_is commands (words_of bytes) (length bytes) (line_of bytes 0) at (outcome bytes plain) e

pub bad_at_first_wrong : (bytes : List ℕ) (at : ℕ) → IsPlain bytes → IsFirstWrong commands (words_of bytes) (length bytes) at → line_of bytes 0 ≡ Err at
bad_at_first_wrong bytes at plain wrong = wrong_given commands (words_of bytes) (length bytes) (line_of bytes 0) at (outcome bytes plain) wrong

pub blank_line : (bytes : List ℕ) (inside : ℕ) → IsPlain bytes → words_of bytes ≡ [] → line_of bytes inside ≡ Ok Silent
blank_line bytes inside plain none = by_words bytes inside plain ∙ ap (placed_of inside (length bytes)) none

nothing_stands : (inside end : ℕ) (words : List WordAt) → 0 < inside → words ≢ [] → placed_of inside end words ≡ Err 0
nothing_stands inside end [] some words = absurd (words refl)
nothing_stands inside end (word ∷ words) some any = let in_section : eqb inside 0 ≡ false = grind (arith, nat_tests) in rw in_section refl

pub inside_section : (bytes : List ℕ) (inside : ℕ) → IsPlain bytes → 0 < inside → words_of bytes ≢ [] → line_of bytes inside ≡ Err 0
inside_section bytes inside plain some words = by_words bytes inside plain ∙ nothing_stands inside (length bytes) (words_of bytes) some words

pub whole_line : (bytes : List ℕ) (inside : ℕ) (word : WordAt) (words : List WordAt) → is_comment bytes ≡ false → first_unprintable bytes ≡ None → inside ≡ 0 → words_of bytes ≡ word ∷ words
    → line_of bytes inside ≡ line_from (length bytes) commands (word ∷ words)
whole_line bytes inside word words no_comment printable outside stand = rw (no_comment, printable, outside, stand) refl
