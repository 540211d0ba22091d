-- What a run has done when it ends.
use Rattle.std.specs.Prelude.{◌≡◌, ◌≢◌, ◌⊎◌, ℕ, ◌*◌, ◌≤◌, false, List, [], ◌++◌, ◌==◌, length, take, IfSome, if◌then◌else◌}
use Rattle.std.specs.declared.option.Option.{Option}
use Rattle.std.specs.declared.option.Option.TheVariants.{Some}
use Rattle.std.specs.List.{AllByRecursion}
use Rattle.edge_io.specs.Faults.{Rose}
use Rattle.shell_run.specs.Outer.{Outer, Takes}
use Rattle.shell_run.specs.Takings.{Taking, is_fill, fills_of}
use Rattle.shell_run.specs.Texts.{read_fault_line, no_memory_line}
use Rattle.shell_run.specs.Transcript.{Run, Turn, replies_of, made_in, output_of}

-- the statuses of a run that met no fault and had memory: the script was read to its end, the words
-- are wrong, a line is bad
abbrev pub IsAnswered : ℕ → Type 0
IsAnswered status = (status ≡ 0) ⊎ (status ≡ 2) ⊎ (status ≡ 3)

abbrev pub IsFront : {A : Type 0} → List A → List A → Type 0
IsFront {A} front whole = (rest : List A) × (whole ≡ front ++ rest)

-- a front that isn't all
abbrev pub IsCut : {A : Type 0} → List A → List A → Type 0
IsCut {A} part whole = (rest : List A) × (whole ≡ part ++ rest) × (rest ≢ [])

-- How far a run with this status came: it answered these turns of its transcript, wrote these
-- replies and made these takings.
pub record Came (run : Run) (status : ℕ) (replies : List ℕ) (made : List Taking) : Type 0 where
  pub turns : List Turn
  pub later : List Turn
  pub whole : run.turns ≡ turns ++ later
  pub answered : IsAnswered status → (run.status ≡ status) × (later ≡ [])
  pub replied : status ≢ 5 → replies ≡ replies_of turns
  pub taken : status ≢ 4 → status ≢ 5 → status ≢ 12 → made ≡ made_in turns
  -- the reply of the next turn was cut short
  pub cut : status ≡ 5 → (part : List ℕ) × (replies ≡ replies_of turns ++ part)
      × IsCut part (replies_of (take 1 later)) × (made ≡ made_in (turns ++ take 1 later))
  -- the script failed at a prompt of the next turn's line, before its seed
  pub unread : status ≡ 4 → (part : List Taking) × (made ≡ made_in turns ++ part)
      × IsFront part (made_in (take 1 later)) × (fills_of part ≡ [])
  -- memory was wanting in the midst of the next turn
  pub stopped : status ≡ 12 → (part : List Taking) × (made ≡ made_in turns ++ part)
      × IsFront part (made_in (take 1 later))

-- the last line that a status other than 5 has: those of a read fault and of want of memory are the
-- status's own
abbrev pub last_line : ℕ → Run → List ℕ
last_line status run =
    if status == 4 then read_fault_line
    else if status == 12 then no_memory_line
    else run.last

-- A line was written whole, and no fault counted; or it was cut short, and the count rose.
abbrev pub Closes : (line last : List ℕ) (before now : ℕ) → Type 0
Closes line last before now = ((last ≡ line) × (now ≡ before)) ⊎ (IsCut last line × Rose before now)

-- what a sink has taken, where it tells that, and the count of its faults
pub record Printed : Type 0 where
  pub taken : Option (List ℕ)
  pub faults : ℕ

-- where a sink tells its bytes, it has taken these
abbrev pub Took : Option (List ℕ) → Option (List ℕ) → List ℕ → Type 0
Took before after bytes = IfSome before (λ old. IfSome after (λ new. new ≡ old ++ bytes))

-- the closing line was written, or cut short by a fault of the sink
pub record WroteLast (line : List ℕ) (before after : Option (List ℕ)) (faults_before faults : ℕ)
    : Type 0 where
  pub part : List ℕ
  pub taken : Took before after part
  pub closed : Closes line part faults_before faults

-- A run with this status did so much of its transcript, where that is told, and left the sink and
-- what it takes from so.
pub record Ran (told : Option Run) (status : ℕ) (before after : Printed) (old new : Outer)
    : Type 0 where
  pub replies : List ℕ
  pub last : List ℕ
  pub made : List Taking
  pub came : IfSome told (λ run. Came run status replies made)
  pub written : IfSome told (λ run. Took before.taken after.taken (replies ++ last))
  pub closed : IfSome told (λ run. status ≢ 5 →
      Closes (last_line status run) last before.faults after.faults)
  pub silent : status ≡ 5 → last ≡ []
  pub takes : Takes (λ line. line ≤ 1048576) made old new
  -- all of an answered run's output is there, where the sink counts no fault
  pub exact : IfSome told (λ run. IsAnswered status → ¬ Rose before.faults after.faults →
      Took before.taken after.taken (output_of run))
  -- where no fill is to fail and there are bytes for each, no seed is listed as failed
  pub enough : IfSome told (λ run. IfSome old.entropy (λ left. IfSome old.fills.made (λ number.
      old.fills.failing ≡ Some [] → 32 * length (fills_of (made_in run.turns)) ≤ length left →
      AllByRecursion (λ entry. is_fill entry.what ≡ false) new.found)))
