use Rattle.snap_clone.proofs.ActLemmas.{always, stands}
use Rattle.host_state.proofs.FilesLemmas.{same_block, same_files}
use Rattle.host_state.proofs.file_laws.files_stay_where_nothing_is_done.Goals as goal

pub returns-clause-others : goal.returns-clause-others
returns-clause-others c = λ key acts family later spot follows placed others.
    same_files key family later spot spot (same_block acts family later follows) placed
    (always acts family later spot follows others).last

pub returns-clause-stands : goal.returns-clause-stands
returns-clause-stands c = λ key acts family later spot follows placed there others.
    same_files key family later spot spot (same_block acts family later follows) placed
    (stands acts family later spot follows there others).last
