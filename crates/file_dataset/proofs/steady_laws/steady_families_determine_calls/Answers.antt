use Rattle.file_dataset.proofs.SteadyLemmas.{edit_called, read_called}
use Rattle.file_dataset.proofs.steady_laws.steady_families_determine_calls.Goals as goal

pub returns-clause-reads : goal.returns-clause-reads
returns-clause-reads g c = λ sees answer most spot result old new steady reads told.
    read_called sees answer most spot result old new steady reads told

pub returns-clause-edits : goal.returns-clause-edits
returns-clause-edits g c = λ kind key hmac_key end head edit most numbers answer result old new steady sizes edits before.
    edit_called kind key hmac_key end head edit numbers answer result old new steady sizes edits before
