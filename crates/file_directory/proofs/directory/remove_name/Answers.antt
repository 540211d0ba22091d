use Rattle.std.proofs.Common.{not, rules}
use Rattle.std.proofs.lemmas.Fn.{filter_same}
use Rattle.file_directory.specs.declared.directory.DirectoryEntry.{DirectoryEntry}
use Rattle.file_directory.specs.Entries.{has_name}
use Rattle.file_directory.proofs.directory.remove_name.Goals as goal

pub returns : goal.returns
returns c =
    filter_same _ (λ (entry : DirectoryEntry). not (has_name c.args.name.now entry)) _ (λ x b f' k. search rules) c.args.entries.now.items c.retain.new.self.items c.retain.ensures.filtered
