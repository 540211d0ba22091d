use Rattle.std.proofs.Common.{ℕ}
use Rattle.std.proofs.lemmas.List.{append-nil}
use Rattle.indirect_macs.proofs.stored.put_ref.Goals as goal

pub returns : goal.returns
returns c =
    rw (c.in-Some.is, c.put_u64.ensures, c.copy_from_slice.ensures.after, c.requires) (simp (append-nil {A = ℕ}))
