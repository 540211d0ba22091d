use Rattle.std.proofs.Common.{◌≡◌, take}
use Rattle.file_directory.specs.Entries.{directory_text}
use Rattle.file_directory.proofs.directory.text_of.Given as goal

abbrev pub invariant-entries : goal.invariant-entries
invariant-entries l = l.text.items ≡ directory_text (take l.entry-index l.entries)
