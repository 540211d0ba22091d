use Rattle.std.proofs.Common.{sym}
use Rattle.file_dataset.proofs.NoteLemmas.{reads_before, spot_noted}
use Rattle.file_dataset.proofs.surface.names.Goals as goal

pub returns-clause-before : goal.returns-clause-before
returns-clause-before g c =
    rw (sym c.hmac.ensures) (reads_before _ _ _ _ _ _ _ _ _ _ c.in_ok-note.ensures.place c.names_at_spot-answer.ensures
    (spot_noted c.in_ok-note.note _ _ _ _ _ c.in_ok-note.ensures.copy c.noted.ensures))
