use Rattle.std.proofs.Common.{ap}
use Rattle.std.specs.Option.{option_flatten}
use Rattle.family_log.specs.Log.{ref_in, length_said}
use Rattle.family_log.proofs.LogLemmas.{newest-snapshot, newest-clone}
use Rattle.family_log.proofs.laws.snapshots_and_clones_keep_what_they_had.Goals as goal

pub returns-clause-snapshot : goal.returns-clause-snapshot
returns-clause-snapshot c = λ record_size before after head part object index pass.
    ap option_flatten (newest-snapshot (ref_in record_size object index) head part before after pass)

pub returns-clause-clone : goal.returns-clause-clone
returns-clause-clone c = λ record_size before after from head object index pass.
    ap option_flatten (newest-clone (ref_in record_size object index) from head before after pass)

pub returns-clause-snapshot_lengths : goal.returns-clause-snapshot_lengths
returns-clause-snapshot_lengths c = λ before after head part object pass. ap option_flatten (newest-snapshot (length_said object) head part before after pass)

pub returns-clause-clone_lengths : goal.returns-clause-clone_lengths
returns-clause-clone_lengths c = λ before after from head object pass. ap option_flatten (newest-clone (length_said object) from head before after pass)
