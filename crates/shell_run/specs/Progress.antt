-- How far a run has come.
use Rattle.std.specs.Prelude.{◌≡◌, ℕ, ◌+◌, ◌<◌, ◌≤◌, true, List, [], ◌∷◌, length, is_some, IfSome, IsSomeAnd}
use Rattle.std.specs.declared.option.Option.{Option}
use Rattle.std.specs.declared.option.Option.TheVariants.{Some, None}
use Rattle.std.specs.Io.KnownBytes.{Appends}
use Rattle.shell_run.specs.declared.ending.Ending.{Ending}
use Rattle.shell_run.specs.declared.ending.Ending.TheVariants.{Done, Usage, BadLine, ReadFault, WriteFault, NoMemory}
use Rattle.shell_run.specs.declared.ending.Halt.TheVariants as halts
use Rattle.shell_run.specs.declared.found.FoundEntry.{FoundEntry}
use Rattle.shell_run.specs.Answers.{Agrees, HaltsIn}
use Rattle.shell_run.specs.Endings.{status_of, closing_line}
use Rattle.shell_run.specs.Outer.{Outer, Takes}
use Rattle.shell_run.specs.Ran.{IsAnswered, IsCut, Came, Took}
use Rattle.shell_run.specs.Script.{ToldScript, within_limits}
use Rattle.shell_run.specs.Takings.{Taking}
use Rattle.shell_run.specs.Transcript.{World, Run, Turn, Answer, Goes as TakesTurn, Ends as EndsRun, preceded, replies_of, made_in, run_from}

-- The run is these turns, with these takings and with the replies that the sink has taken, and then the rest.
pub record Goes (run rest : Run) (made : List Taking) (before after : Option (List ℕ)) : Type 0 where
  pub turns : List Turn
  pub goes_on : run ≡ preceded turns rest
  pub taken : Appends before after (replies_of turns)
  pub made_is : made ≡ made_in turns

-- A sink that failed may tell nothing any more; else it tells what it has taken.
abbrev pub Taken : Ending → Option (List ℕ) → Option (List ℕ) → List ℕ → Type 0
Taken WriteFault before after bytes = Took before after bytes
Taken ending before after bytes = Appends before after bytes

-- The run ends so, after these takings and the replies that the sink has taken.
pub record Ends (ending : Ending) (run : Run) (made : List Taking) (before after : Option (List ℕ)) : Type 0 where
  pub replies : List ℕ
  pub taken : Taken ending before after replies
  pub came : Came run (status_of ending) replies made
  pub last : IsAnswered (status_of ending) → run.last ≡ closing_line ending

-- a sink has taken a front of these bytes, not all
pub record TookCut (bytes : List ℕ) (before after : Option (List ℕ)) : Type 0 where
  pub part : List ℕ
  pub taken : Took before after part
  pub is_cut : IsCut part bytes

-- ---- the next line

-- why no line was taken of those that are ahead
abbrev pub NoLine : Ending → ℕ → List (List ℕ) → Option (List (List ℕ)) → Type 0
NoLine Done next ahead left = (ahead ≡ []) × (left ≡ Some [])
NoLine (BadLine number at) next ahead left =
    (number ≡ next) × (line : List ℕ) × (later : List (List ℕ)) × (ahead ≡ line ∷ later)
    × (within_limits next line Some None ≡ Some at)
NoLine ReadFault next ahead left = Unit {0}
NoLine NoMemory next ahead left = Unit {0}
NoLine Usage next ahead left = ⊥
NoLine WriteFault next ahead left = ⊥

-- the next line was taken
pub record IsNextLine (line : List ℕ) (old new : ToldScript) : Type 0 where
  pub few : old.next ≤ 1048576
  pub next : new.next ≡ old.next + 1
  pub short : length line ≤ 65536
  pub taken : IfSome old.ahead (λ ahead. IsSomeAnd new.ahead (λ later. ahead ≡ line ∷ later))

-- no line was taken, and the run ends
abbrev pub NoneTaken : Ending → ToldScript → ToldScript → Type 0
NoneTaken Usage old new = ⊥
NoneTaken WriteFault old new = ⊥
NoneTaken ending old new = IfSome old.ahead (λ ahead. NoLine ending old.next ahead new.ahead)

-- ---- a line that was taken

-- the sink has taken the output of this turn
abbrev pub HasReplied : Answer → Option World → (before after : Option (List ℕ)) → List Taking → Type 0
HasReplied (TakesTurn turn) new before after made =
    (new ≡ Some turn.world) × Appends before after turn.output × (made ≡ turn.takings)
HasReplied (EndsRun number at w takings) new before after made = ⊥

-- of this turn's output the sink has taken a part
abbrev pub HasCut : Answer → (before after : Option (List ℕ)) → List Taking → Type 0
HasCut (TakesTurn turn) before after made = TookCut turn.output before after × (made ≡ turn.takings)
HasCut (EndsRun number at w takings) before after made = ⊥

-- A line with this answer was carried out, and its reply taken by the sink; or the run ends there.
abbrev pub Replied : Option Ending → Answer → Option World → (before after : Option (List ℕ)) → List Taking → Type 0
Replied None answer new before after made = HasReplied answer new before after made
Replied (Some WriteFault) answer new before after made = HasCut answer before after made
Replied (Some (BadLine number at)) answer new before after made =
    (after ≡ before) × HaltsIn (halts.BadLine number at) answer made
Replied (Some ReadFault) answer new before after made = (after ≡ before) × HaltsIn halts.ReadFault answer made
Replied (Some NoMemory) answer new before after made = (after ≡ before) × HaltsIn halts.NoMemory answer made
Replied (Some Done) answer new before after made = ⊥
Replied (Some Usage) answer new before after made = ⊥

-- how a line that was taken can end the run
abbrev pub EndsInLine : Option Ending → Type 0
EndsInLine (Some Done) = ⊥
EndsInLine (Some Usage) = ⊥
EndsInLine ending = Unit {0}

-- The line was answered and the run goes on, or it ends there; so of each run whose list agrees with what was taken.
abbrev pub LineRan : Option Ending → (found : List FoundEntry) (w : World) → Option World
    → (before after : Option (List ℕ)) → List Taking → Type 0
LineRan None found w new before after made =
    IsSomeAnd new (λ v. Goes (run_from found w) (run_from found v) made before after)
LineRan (Some ending) found w new before after made = Ends ending (run_from found w) made before after

-- the next line's number and what is told behind it, where the run goes on
abbrev pub GoesPast : Option Ending → ToldScript → ToldScript → Type 0
GoesPast None old new =
    (old.next ≤ 1048576) × (old.next < new.next) × (is_some old.ahead ≡ true → is_some new.ahead ≡ true)
GoesPast (Some Done) old new = IfSome old.ahead (λ ahead. new.ahead ≡ Some [])
GoesPast (Some ending) old new = Unit {0}

-- A run from some line on has made takings, of lines that are here; so of each list that agrees with these.
pub record RunsFrom (here : ℕ → Type 0) (old new : Outer) (Said : List FoundEntry → List Taking → Type 0) : Type 0 where
  pub made : List Taking
  pub takes : Takes here made old new
  pub said : (found : List FoundEntry) → Agrees found made → Said found made
