-- How a run ends, and what the parts of the run say of it.
use Rattle.std.specs.Prelude.{◌≡◌, ◌⊎◌, ℕ, ◌≤◌, List, []}
use Rattle.std.specs.declared.option.Option.{Option}
use Rattle.std.specs.declared.option.Option.TheVariants.{Some}
use Rattle.edge_io.specs.Faults.{Rose}
use Rattle.shell_run.specs.declared.ending.Ending.{Ending}
use Rattle.shell_run.specs.declared.ending.Ending.TheVariants.{Done, Usage, BadLine, ReadFault, WriteFault, NoMemory}
use Rattle.shell_run.specs.declared.ending.Halt.{Halt}
use Rattle.shell_run.specs.declared.ending.Halt.TheVariants as halts
use Rattle.shell_run.specs.Texts.{bad_line, usage_line, read_fault_line, no_memory_line}

abbrev pub status_of : Ending → ℕ
status_of Done = 0
status_of Usage = 2
status_of (BadLine number at) = 3
status_of ReadFault = 4
status_of WriteFault = 5
status_of NoMemory = 12

abbrev pub ending_of : Halt → Ending
ending_of (halts.BadLine number at) = BadLine number at
ending_of halts.ReadFault = ReadFault
ending_of halts.NoMemory = NoMemory

-- the line that is printed at the end
abbrev pub closing_line : Ending → List ℕ
closing_line Done = []
closing_line Usage = usage_line
closing_line (BadLine number at) = bad_line number at
closing_line ReadFault = read_fault_line
closing_line WriteFault = []
closing_line NoMemory = no_memory_line

-- The source's count of faults over a part of the run: it rose where a read failed, and else stayed.
abbrev pub SourceFaults : Option Ending → ℕ → ℕ → Type 0
SourceFaults (Some ReadFault) before now = (before ≤ now) × Rose before now
SourceFaults ending before now = now ≡ before

-- The sink's: it rose where a reply couldn't be written, and else stayed.
abbrev pub SinkFaults : Option Ending → ℕ → ℕ → Type 0
SinkFaults (Some WriteFault) before now = (before ≤ now) × Rose before now
SinkFaults ending before now = now ≡ before

-- A run that is to end so is closed so: a bad line's text may find no memory.
abbrev pub ClosesAs : Ending → Ending → Type 0
ClosesAs (BadLine number at) closed = (closed ≡ BadLine number at) ⊎ (closed ≡ NoMemory)
ClosesAs ending closed = closed ≡ ending
