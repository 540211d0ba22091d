use Rattle.file_blocks.proofs.Stored.{changed_stored, others_stored}
use Rattle.file_blocks.proofs.laws.changes_store_their_texts_alone.Goals as goal

pub returns-clause-changed : goal.returns-clause-changed
returns-clause-changed c = changed_stored

pub returns-clause-others : goal.returns-clause-others
returns-clause-others c = others_stored
