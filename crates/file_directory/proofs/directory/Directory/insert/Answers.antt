use Rattle.std.proofs.Common.{List, sym, subst}
use Rattle.file_directory.specs.declared.directory.DirectoryEntry.{DirectoryEntry}
use Rattle.file_directory.specs.Form.{IsNew, any_object}
use Rattle.file_directory.proofs.ChangeLemmas.{inserted_form}
use Rattle.file_directory.proofs.directory.Directory.insert.Goals as goal

pub invariant_of-self-2 : goal.invariant_of-self-2
invariant_of-self-2 c =
    let new : DirectoryEntry = record { object = c.args.object; name = c.args.name.now } in
    let old : List DirectoryEntry = c.self.inside.entries.items in
    let fresh : IsNew any_object old new = subst (λ (entries : List DirectoryEntry). IsNew any_object entries new) (sym c.self.view_is) c.requires in
    rw (c.in_ok-insert_entry.ensures.inserted, c.in_ok-name.ensures) (inserted_form any_object old new c.self.invariant fresh)
