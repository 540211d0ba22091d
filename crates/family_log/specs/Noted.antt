-- The entries of commands that changed no head.
use Rattle.family_log.specs.declared.entry.Spot.{Spot}
use Rattle.family_log.specs.declared.entry.LogEntry.{LogEntry}
use Rattle.family_log.specs.declared.entry.LogEntry.TheVariants as entries
use Rattle.family_log.specs.declared.entry.ReadNote.{ReadNote}
use Rattle.family_log.specs.declared.entry.ReadNote.TheVariants as notes

-- the entry of a note
abbrev pub noted : Spot → ReadNote → LogEntry
noted spot notes.Read = entries.Read spot
noted spot (notes.Refused why draws puts) = entries.Refused spot why draws puts
