use Rattle.std.proofs.Common.{not}
use Rattle.file_directory.specs.declared.directory.DirectoryEntry.{DirectoryEntry}
use Rattle.file_directory.specs.Entries.{has_name}
use Rattle.file_directory.specs.Form.{any_object}
use Rattle.file_directory.proofs.ChangeLemmas.{filtered_form}
use Rattle.file_directory.proofs.directory.Directory.remove.Goals as goal

pub invariant_of-self : goal.invariant_of-self
invariant_of-self c =
    rw (c.remove_name.ensures, c.as_bytes.ensures.bytes)
    (filtered_form any_object (λ (entry : DirectoryEntry). not (has_name c.args.name.now entry)) c.self.inside.entries.items c.self.invariant)
