use Rattle.snap_clone.proofs.HeldLemmas.{clone_holds, clone_is_bare}
use Rattle.snap_clone.proofs.MadeLemmas.{clone_continues}
use Rattle.snap_clone.proofs.laws.clones_begin_with_their_snapshot_and_hold_it.Goals as goal

pub returns-clause-made : goal.returns-clause-made
returns-clause-made c = λ acts family later from head is new follows others. clone_continues acts family later from head new follows others

pub returns-clause-held : goal.returns-clause-held
returns-clause-held c = λ acts family later from head is new follows others. clone_holds acts family later from head is new follows others

pub returns-clause-bare : goal.returns-clause-bare
returns-clause-bare c = λ family from head new. clone_is_bare family from head new.absent
