use Rattle.std.proofs.Common.{sym, subst}
use Rattle.family_log.specs.Model.{FamilyState}
use Rattle.snap_clone.specs.Answers.{HasNoSnapshots}
use Rattle.snap_clone.proofs.HeldLemmas.{clone_is_bare}
use Rattle.snap_clone.proofs.tests.with_clone.Goals as goal

pub returns : goal.returns
returns c =
    subst (λ (family : FamilyState). HasNoSnapshots 2 family) (sym c.in_ok-clone_head.ensures.made)
    (clone_is_bare c.in_ok-family.family c.in_ok-spot.spot 2 c.in_ok-family.ensures.absent)
