-- What a reader of words gives, and what it has left.
use Rattle.std.specs.Prelude.{◌≡◌, ℕ, List, drop, length, map, Result, Ok, Err, Vec}
use Rattle.std.specs.Borrow.{Bor}
use Rattle.shell_lines.specs.declared.line.LineStop.{LineStop}
use Rattle.shell_lines.specs.declared.line.LineStop.TheVariants as stops
use Rattle.shell_lines.specs.declared.words.Words.{Words}
use Rattle.shell_lines.specs.declared.words.PlacedWord.{PlacedWord}
use Rattle.shell_lines.specs.Words.{WordAt, words_from}
use Rattle.shell_lines.specs.Reading.{Reading, Taken, Wrong}
use Rattle.shell_lines.specs.Forms.{Command, forms_from}
use Rattle.shell_lines.specs.declared.line.Line.{Line}
use Rattle.shell_lines.specs.declared.setting.Setting.{Setting}

abbrev pub words_left : Words → List WordAt
words_left words = words_from words.at (drop words.at words.line.now)

-- the length of the line
abbrev pub end_of : Words → ℕ
end_of words = length words.line.now

-- what the forms of a command, of which it has some, make of the words that are left
abbrev pub read_by : Command → Words → Result Line ℕ
read_by command words = forms_from (end_of words) 0 command.options command.forms (words_left words)

abbrev pub placed : PlacedWord → WordAt
placed word = record { at = word.at; text = word.text.now }

-- a call reads so much of the words, want of memory apart, which says nothing
abbrev pub Reads : {A : Type 0} → Result A LineStop → List WordAt → Reading A → Type 0
Reads (Ok value) left reading = reading ≡ Taken value left
Reads (Err (stops.Bad at)) left reading = reading ≡ Wrong at
Reads (Err stops.NoMemory) left reading = Unit {0}

-- the texts of words that stand elsewhere
abbrev pub texts : List (Bor (List ℕ)) → List (List ℕ)
texts words = map (λ word. word.now) words

abbrev pub items_of : {Y : Type 0} → Result (Vec Setting Y) LineStop → Result (List Setting) LineStop
items_of (Ok settings) = Ok settings.items
items_of (Err stop) = Err stop
