use Rattle.std.proofs.Common.{sym}
use Rattle.file_directory.proofs.FormLemmas.{above_last}
use Rattle.file_directory.proofs.reading.is_above.Goals as goal

pub returns-in-Some : goal.returns-in-Some
returns-in-Some c = let last = above_last c.args.before.now c.args.name.now c.in-Some.last.now c.requires (sym c.in-Some.ensures.value) in cc
