use Rattle.snap_clone.proofs.ActLemmas.{stands}
use Rattle.snap_clone.proofs.MadeLemmas.{snapshot_continues}
use Rattle.snap_clone.proofs.laws.snapshots_have_what_their_head_had.Goals as goal

pub returns-clause-stands : goal.returns-clause-stands
returns-clause-stands c = λ acts family later spot follows there others. stands acts family later spot follows there others

pub returns-clause-made : goal.returns-clause-made
returns-clause-made c = λ acts family later head part guid kept is follows others. snapshot_continues acts family later head part guid kept is follows others
