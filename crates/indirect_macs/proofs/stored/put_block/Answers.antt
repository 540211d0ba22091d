use Rattle.std.proofs.Common.{ℕ}
use Rattle.std.proofs.lemmas.List.{append-nil, append_assoc}
use Rattle.indirect_macs.proofs.stored.put_block.Goals as goal

pub returns : goal.returns
returns c =
    rw (
      c.in-Some.is,
      c.put_u32.ensures,
      c.put_u64.ensures,
      c.copy_from_slice-3.ensures.after,
      c.copy_from_slice-2.ensures.after,
      c.copy_from_slice.ensures.after,
      c.requires,
    ) (simp (append-nil {A = ℕ}, append_assoc {A = ℕ}))
