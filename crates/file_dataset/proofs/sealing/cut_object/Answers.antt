use Rattle.std.proofs.Common.{ℕ, List}
use Rattle.file_blocks.specs.declared.change.Wrote.{Wrote}
use Rattle.file_blocks.specs.Writes.{change_of_cut}
use Rattle.file_dataset.proofs.NoSaltsLemmas.{leaving_none, told_none}
use Rattle.file_dataset.proofs.sealing.cut_object.Goals as goal

pub returns-in_default-clause-leaving : goal.returns-in_default-clause-leaving
returns-in_default-clause-leaving g c = leaving_none _ _ c.args.fam.now c.copied_salts.new.fam c.in_default.ensures.same

pub returns-in_default-clause-told : goal.returns-in_default-clause-told
returns-in_default-clause-told g c =
    told_none (λ (wrote : Wrote). wrote.object) (g.K.BlockKey.told c.args.key.now)
    (λ (held : List (List ℕ)). change_of_cut (g.K.BlockKey.told c.args.key.now) held c.args.block c.args.object.now c.args.to)
    c.args.fam.now c.copied_salts.new.fam c.in_default.ensures.same
