use Rattle.std.proofs.Common.{inl, inr}
use Rattle.file_blocks.proofs.Behind.{cut_sized, write_sized}
use Rattle.file_blocks.proofs.WholeBytes.{if_found}
use Rattle.file_blocks.specs.Wholes.{refs_behind}
use Rattle.file_blocks.proofs.object_laws.changes_end_within.Goals as goal

pub returns : goal.returns
returns c = λ key salts held record_size addr object refs change made wide some has ends index. elim made [
  | inl write ↦
      if_found (refs_behind key salts addr change refs index)
      (write_sized key salts held record_size addr object refs wide some has ends write.0 write.1 change index write.2) (λ r sized. sized.1)
  | inr cut ↦
      if_found (refs_behind key salts addr change refs index)
      (cut_sized key salts held record_size addr object refs wide some has ends cut.0 change index cut.1) (λ r sized. sized.1)
]
