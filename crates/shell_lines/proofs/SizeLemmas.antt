-- The record size of a line is in form.
use Rattle.std.proofs.Common.{◌≡◌, IfOk, eqb, if◌then◌else◌, ℕ, Bool, true, false, Option, Some, None, inl, inr, List, [], ◌∷◌, ◌++◌, length, Result, Ok, Err, sym, subst}
use Rattle.std.specs.List.{AllByRecursion, fold}
use Rattle.encryption_roots.specs.Options.{no_options}
use Rattle.encryption_roots.specs.RecordSize.{IsRecordSize}
use Rattle.encryption_roots.specs.declared.props.Options.{Options}
use Rattle.shell_lines.specs.declared.line.Line.{Line}
use Rattle.shell_lines.specs.declared.line.Line.TheVariants.{Silent, LoadBelow, LoadAll, InheritKey}
use Rattle.shell_lines.specs.declared.line.LineStop.{LineStop}
use Rattle.shell_lines.specs.declared.line.LineStop.TheVariants as stops
use Rattle.shell_lines.specs.declared.setting.OptionKind.{OptionKind}
use Rattle.shell_lines.specs.declared.setting.OptionKind.TheVariants as kinds
use Rattle.shell_lines.specs.declared.setting.Setting.{Setting}
use Rattle.shell_lines.specs.declared.setting.Setting.TheVariants.{Encryption, KeyFormat, KeyLocation, Iterations, RecordSize, CheckOnly, LoadFrom, Recursive, AllRoots, LoadFirst, Inherit}
use Rattle.shell_lines.specs.Settings.{with_setting}
use Rattle.shell_lines.specs.Words.{WordAt, words_of}
use Rattle.shell_lines.specs.Reading.{Value, is_set}
use Rattle.shell_lines.specs.Forms.{Form, end_as, word_then, options_then, Command, line_from}
use Rattle.shell_lines.specs.Commands.{commands, file_commands, snapshot_commands}
use Rattle.shell_lines.specs.Grammar.{Spells, line_of, placed_of, is_comment, printable_line, first_unprintable}
use Rattle.shell_lines.specs.Language.{Spelled, IsSpelled, settings_of, AreNew, Matches, Makes, CommandMakes, IsLine, texts_of}
use Rattle.shell_lines.specs.Sized.{SizedOptions, HasRecordSize}
use Rattle.shell_lines.proofs.ReadLemmas.{by_bool}
use Rattle.shell_lines.proofs.LanguageLemmas.{line_is, words_outcome}

abbrev SetsRecordSize : Setting → Type 0
SetsRecordSize (RecordSize size) = IsRecordSize size
SetsRecordSize setting = Unit {0}

spelled_sized : (word : Option (List ℕ)) (setting : Setting) → IsSpelled word setting → SetsRecordSize setting
spelled_sized word (Encryption suite) h = tt
spelled_sized word (KeyFormat format) h = tt
spelled_sized word (KeyLocation place) h = tt
spelled_sized word (Iterations count) h = tt
spelled_sized word (RecordSize size) h = h.is_value.1
spelled_sized word CheckOnly h = tt
spelled_sized word (LoadFrom place) h = tt
spelled_sized word Recursive h = tt
spelled_sized word AllRoots h = tt
spelled_sized word LoadFirst h = tt
spelled_sized word Inherit h = tt

all_sized : (kinds : List OptionKind) (spelled : List Spelled) (settings : List Setting) → AreNew kinds settings spelled → AllByRecursion SetsRecordSize (settings_of spelled)
all_sized kinds [] settings h = tt
all_sized kinds (one ∷ more) settings h = (spelled_sized one.0 one.1 h.0, all_sized kinds more (settings ++ (one.1 ∷ [])) h.3)

with_sized : (options : Options) (setting : Setting) → SizedOptions options → SetsRecordSize setting → SizedOptions (with_setting options setting)
with_sized options (Encryption suite) h s = h
with_sized options (KeyFormat format) h s = h
with_sized options (KeyLocation place) h s = h
with_sized options (Iterations count) h s = h
with_sized options (RecordSize size) h s = s
with_sized options CheckOnly h s = h
with_sized options (LoadFrom place) h s = h
with_sized options Recursive h s = h
with_sized options AllRoots h s = h
with_sized options LoadFirst h s = h
with_sized options Inherit h s = h

fold_sized : (settings : List Setting) (options : Options) → SizedOptions options → AllByRecursion SetsRecordSize settings → SizedOptions (fold with_setting options settings)
fold_sized [] options h all = h
fold_sized (setting ∷ settings) options h all = fold_sized settings (with_setting options setting) (with_sized options setting h all.0) all.1

-- what a form makes has a record size in form
abbrev Sized : Form → Type 0
Sized (end_as None) = Unit {0}
Sized (end_as (Some line)) = HasRecordSize line
Sized (word_then kind next) = (value : Value kind) → Sized (next value)
Sized (options_then kinds next) = (settings : List Setting) → AllByRecursion SetsRecordSize settings → Sized (next settings)

if_sized : (stands : Bool) (line : Line) → HasRecordSize line → Sized (end_as (if stands then Some line else None))
if_sized true line h = h
if_sized false line h = tt

snapshots_sized : AllByRecursion (λ command. AllByRecursion Sized command.forms) snapshot_commands
snapshots_sized = ((λ name. tt, tt), ((λ from name. tt, tt), ((λ spot. tt, tt), ((tt, tt), ((tt, tt), tt)))))

files_sized : AllByRecursion (λ command. AllByRecursion Sized command.forms) file_commands
files_sized = (
  (λ name file. tt, tt),
  (
    (λ name file. tt, tt),
    (
      (λ name file from bytes. tt, tt),
      (
        (λ spot file from len. tt, tt),
        ((λ name file to. tt, tt), ((λ spot. tt, tt), ((λ spot. tt, tt), snapshots_sized))),
      ),
    ),
  ),
)

commands_sized : AllByRecursion (λ command. AllByRecursion Sized command.forms) commands
commands_sized = (
  ((λ settings all name. fold_sized settings no_options tt all), tt),
  (
    (
      λ settings all name. tt,
      (
        (λ settings all name. if_sized (is_set settings kinds.Recursive) (LoadBelow name (is_set settings kinds.CheckOnly)) tt),
        ((λ settings all. if_sized (is_set settings kinds.AllRoots) (LoadAll (is_set settings kinds.CheckOnly)) tt), tt),
      ),
    ),
    (
      (λ name. tt, ((λ _ name. tt), ((λ _. tt), tt))),
      (
        (λ settings all name. fold_sized settings no_options tt all, ((λ settings all name. if_sized (is_set settings kinds.Inherit) (InheritKey name (is_set settings kinds.LoadFirst)) tt), tt)),
        (
          (λ name. tt, tt),
          ((λ name. tt, tt), ((λ prop name. tt, tt), files_sized)),
        ),
      ),
    ),
  ),
)

form_sized : (options : List (List ℕ)) (form : Form) (line : Line) (words : List (List ℕ)) → Sized form → Matches options form (Some line) words → HasRecordSize line
form_sized options (end_as None) line words sized h = let none : Some line ≡ None = h.1 in cc
form_sized options (end_as (Some made)) line words sized h = let same : made ≡ line = cc (h.1) in subst HasRecordSize same sized
form_sized options (word_then kind next) line words sized (word, rest, value, stand, is, h) = form_sized options (next value) line rest (sized value) h
form_sized options (options_then kinds next) line words sized h =
    form_sized options (next (settings_of h.spelled)) line h.rest (sized (settings_of h.spelled) (all_sized kinds h.spelled [] h.new)) h.behind

forms_sized : (options : List (List ℕ)) (forms : List Form) (line : Line) (words : List (List ℕ)) → AllByRecursion Sized forms → Makes options forms words line → HasRecordSize line
forms_sized options [] line words sized h = absurd h
forms_sized options (form ∷ forms) line words sized (inl h) = form_sized options form line words sized.0 h
forms_sized options (form ∷ forms) line words sized (inr h) = forms_sized options forms line words sized.1 h.1

command_sized : (all : List Command) (line : Line) (word : List ℕ) (words : List (List ℕ)) → AllByRecursion (λ command. AllByRecursion Sized command.forms) all → CommandMakes all word words line → HasRecordSize line
command_sized [] line word words sized h = absurd h
command_sized (command ∷ all) line word words sized (inl h) = forms_sized command.options command.forms line words sized.0 h.1
command_sized (command ∷ all) line word words sized (inr h) = command_sized all line word words sized.1 h.1

line_sized : (words : List (List ℕ)) (line : Line) → IsLine commands words line → HasRecordSize line
line_sized [] line h = subst HasRecordSize (sym h) tt
line_sized (word ∷ words) line h = command_sized commands line word words commands_sized h

silent_sized : (line : Line) → Silent ≡ line → HasRecordSize line
silent_sized line e = subst HasRecordSize e tt

placed_sized : (inside end : ℕ) (words : List WordAt) (line : Line) → ((e : line_from end commands words ≡ Ok line) → HasRecordSize line) → placed_of inside end words ≡ Ok line → HasRecordSize line
placed_sized inside end [] line further e = silent_sized line (cc)
placed_sized inside end (word ∷ words) line further e =
    by_bool (eqb inside 0)
    (λ outside. further (rw outside at e))
    (λ within. let bad : Err 0 ≡ Ok line = rw within at e in cc)

pub size_in_form : (bytes : List ℕ) (inside : ℕ) (line : Line) → line_of bytes inside ≡ Ok line → HasRecordSize line
size_in_form bytes inside line e =
    by_bool (is_comment bytes)
    (λ comment. let silent : Ok Silent ≡ Ok line = rw comment at e in silent_sized line (cc))
    (λ no_comment.
    let printed : printable_line bytes inside (first_unprintable bytes) ≡ Ok line = rw no_comment at e in
    elim (first_unprintable bytes) as (λ v. printable_line bytes inside v ≡ Ok line → HasRecordSize line) [
      | None ↦ λ placed. placed_sized inside (length bytes) (words_of bytes) line
          (λ f. line_sized (texts_of (words_of bytes)) line (line_is commands (words_of bytes) (length bytes) (line_from (length bytes) commands (words_of bytes)) line (words_outcome bytes) f)) placed
      | Some at ↦ λ bad. absurd (cc)
    ] printed)

pub result_sized : (result : Result Line LineStop) (bytes : List ℕ) (inside : ℕ) → Spells result (line_of bytes inside) → IfOk result HasRecordSize
result_sized (Ok line) bytes inside e = size_in_form bytes inside line e
result_sized (Err (stops.Bad at)) bytes inside e = tt
result_sized (Err stops.NoMemory) bytes inside e = tt
