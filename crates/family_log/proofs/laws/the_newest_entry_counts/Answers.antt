use Rattle.std.proofs.Common.{ap}
use Rattle.std.specs.Option.{option_flatten}
use Rattle.family_log.specs.Log.{ref_in, length_said}
use Rattle.family_log.proofs.LogLemmas.{newest-said, newest-other, newest-unsaid, newest-none}
use Rattle.family_log.proofs.laws.the_newest_entry_counts.Goals as goal

pub returns-clause-refs : goal.returns-clause-refs
returns-clause-refs c = λ record_size before after entry spot object index to is pass.
    newest-said (ref_in record_size object index) spot before after entry to is pass

pub returns-clause-lengths : goal.returns-clause-lengths
returns-clause-lengths c = λ before after entry spot object bytes is pass. newest-said (length_said object) spot before after entry bytes is pass

pub returns-clause-others : goal.returns-clause-others
returns-clause-others c = λ record_size log entry changes spot object index is other.
    ap option_flatten (newest-other (ref_in record_size object index) spot log entry changes is other)

pub returns-clause-unsaid : goal.returns-clause-unsaid
returns-clause-unsaid c = λ record_size log entry changes spot object index is none.
    ap option_flatten (newest-unsaid (ref_in record_size object index) spot log entry changes is none)

pub returns-clause-unsaid_lengths : goal.returns-clause-unsaid_lengths
returns-clause-unsaid_lengths c = λ log entry changes spot object is none.
    ap option_flatten (newest-unsaid (length_said object) spot log entry changes is none)

pub returns-clause-holes : goal.returns-clause-holes
returns-clause-holes c = λ record_size log spot object index pass.
    ap option_flatten (newest-none (ref_in record_size object index) spot log pass)
