use Rattle.file_dataset.proofs.TrialLemmas.{guid_changed}
use Rattle.file_rates.proofs.store.Store.touch.Goals as goal

pub invariant_of-self : goal.invariant_of-self
invariant_of-self c = record { guid = guid_changed _ _ _ _ _ _ _ _ _ _ c.make_file.ensures.edits c.args.self.now.guid }
