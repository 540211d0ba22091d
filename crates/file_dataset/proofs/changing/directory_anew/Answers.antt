use Rattle.std.proofs.Common.{ℕ, List, refl}
use Rattle.file_blocks.specs.declared.change.Wrote.{Wrote}
use Rattle.file_blocks.specs.WriteFields.{write_to}
use Rattle.file_blocks.specs.Writes.{change_of_write}
use Rattle.file_directory.specs.Entries.{directory_text}
use Rattle.file_dataset.specs.Changes.{empty_object}
use Rattle.file_dataset.proofs.NoSaltsLemmas.{leaving_none, told_none}
use Rattle.file_dataset.proofs.changing.directory_anew.Goals as goal

pub returns-in_default-clause-leaving : goal.returns-in_default-clause-leaving
returns-in_default-clause-leaving g c = leaving_none _ _ c.args.fam.now c.args.fam.now refl

pub returns-in_default-clause-told : goal.returns-in_default-clause-told
returns-in_default-clause-told g c =
    told_none (λ (wrote : Wrote). wrote.object) (g.K.BlockKey.told c.args.key.now)
    (λ (held : List (List ℕ)).
    change_of_write (g.K.BlockKey.told c.args.key.now) held (write_to empty_object c.args.block 0 (directory_text c.args.directory.now)))
    c.args.fam.now c.args.fam.now refl
