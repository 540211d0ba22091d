use Rattle.family_log.specs.Log.{head_spot, snap_spot}
use Rattle.family_log.specs.Snapshots.{clone_added, snapshot_added}
use Rattle.snap_clone.proofs.MadeLemmas.{clone_continues, snapshot_continues}
use Rattle.host_state.proofs.FilesLemmas.{same_block, same_files}
use Rattle.host_state.proofs.file_laws.snapshots_and_clones_have_the_files_of_their_origin.Goals as goal

pub returns-clause-snapshot : goal.returns-clause-snapshot
returns-clause-snapshot c = λ key acts family later head part guid kept is follows placed others.
    same_files key family later (head_spot head) (snap_spot head part)
    (same_block acts (snapshot_added head part guid family) later follows) placed
    (snapshot_continues acts family later head part guid kept is follows others).last

pub returns-clause-clone : goal.returns-clause-clone
returns-clause-clone c = λ key acts family later from head is new follows placed others.
    same_files key family later from (head_spot head) (same_block acts (clone_added from head family) later follows) placed
    (clone_continues acts family later from head new follows others).last
