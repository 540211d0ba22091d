-- A form of line: what stands behind a command's word, and what its words make.
use Rattle.std.specs.Prelude.{ℕ, max, List, [], ◌∷◌, if◌then◌else◌, Result, Ok, Err}
use Rattle.std.specs.declared.option.Option.{Option}
use Rattle.std.specs.declared.option.Option.TheVariants.{Some, None}
use Rattle.std.specs.Str.{bytes_eq}
use Rattle.shell_lines.specs.declared.line.Line.{Line}
use Rattle.shell_lines.specs.declared.line.Line.TheVariants.{Silent}
use Rattle.shell_lines.specs.declared.setting.OptionKind.{OptionKind}
use Rattle.shell_lines.specs.declared.setting.Setting.{Setting}
use Rattle.shell_lines.specs.Reading.{Reading, Taken, Wrong, WordKind, Value, word_from, options_from}
use Rattle.shell_lines.specs.Words.{WordAt}

-- the end, which may set a last condition on what stands in front: where that fails, the line lacks a word;
-- or a word of a kind, or options of these kinds in any order, each at most once, and then what their values
-- ask for
pub data Form : Type 0 where
  end_as : Option Line → Form
  word_then : (kind : WordKind) → (Value kind → Form) → Form
  options_then : List OptionKind → (List Setting → Form) → Form

pub record Command : Type 0 where
  pub word : List ℕ
  -- the words that are its options, in any of its forms
  pub options : List (List ℕ)
  pub forms : List Form

abbrev pub made_at : ℕ → Option Line → Result Line ℕ
made_at end None = Err end
made_at end (Some line) = Ok line

abbrev pub end_from : ℕ → Option Line → List WordAt → Result Line ℕ
end_from end made [] = made_at end made
end_from end made (word ∷ words) = Err word.at

abbrev pub reading_then : {A : Type 0} → Reading A → (A → List WordAt → Result Line ℕ) → Result Line ℕ
reading_then (Wrong at) next = Err at
reading_then (Taken value words) next = next value words

-- the words of one form, for a command with these options
abbrev pub form_from : ℕ → List (List ℕ) → Form → List WordAt → Result Line ℕ
form_from end options (end_as made) words = end_from end made words
form_from end options (word_then kind next) words =
    reading_then (word_from end options kind words) (λ value rest. form_from end options (next value) rest)
form_from end options (options_then kinds next) words =
    reading_then (options_from end kinds None [] words) (λ settings rest. form_from end options (next settings) rest)

-- a line before a stop, and of two stops the later one
abbrev pub better : Result Line ℕ → Result Line ℕ → Result Line ℕ
better (Ok line) other = Ok line
better (Err at) (Ok line) = Ok line
better (Err at) (Err place) = Err (max at place)

-- the best that any of a command's forms gives, where its own word stands at `at`
abbrev pub forms_from : ℕ → ℕ → List (List ℕ) → List Form → List WordAt → Result Line ℕ
forms_from end at options [] words = Err at
forms_from end at options (form ∷ []) words = form_from end options form words
forms_from end at options (form ∷ other ∷ forms) words =
    better (form_from end options form words) (forms_from end at options (other ∷ forms) words)

abbrev pub command_from : ℕ → List Command → WordAt → List WordAt → Result Line ℕ
command_from end [] word words = Err word.at
command_from end (command ∷ commands) word words =
    if bytes_eq word.text command.word then forms_from end word.at command.options command.forms words
    else command_from end commands word words

-- the words of a whole line in the language of these commands
abbrev pub line_from : ℕ → List Command → List WordAt → Result Line ℕ
line_from end commands [] = Ok Silent
line_from end commands (word ∷ words) = command_from end commands word words
