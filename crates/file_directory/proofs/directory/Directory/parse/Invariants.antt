use Rattle.std.proofs.Common.{length}
use Rattle.file_directory.specs.Form.{objects_of}
use Rattle.file_directory.proofs.ReadLemmas.{IsReading}
use Rattle.file_directory.proofs.directory.Directory.parse.Given as goal

abbrev pub invariant-reading : goal.invariant-reading
invariant-reading l = IsReading (objects_of l.table) l.text l.entries.items l.rest

abbrev pub decreases-reading : goal.decreases-reading
decreases-reading l = length l.rest
