use Rattle.file_dataset.proofs.TrialLemmas.{guid_read}
use Rattle.file_rates.proofs.store.Store.read_piece.Goals as goal

pub invariant_of-self : goal.invariant_of-self
invariant_of-self c = record { guid = guid_read _ _ _ _ _ c.read_at.ensures.left c.args.self.now.guid }
