use Rattle.file_trials.proofs.SampleLemmas.{sample_change}
use Rattle.file_trials.proofs.sample.received.Goals as goal

pub append_write-requires : goal.append_write-requires
append_write-requires c =
    sample_change c.args.family.now _ _ _ _ (record { table = c.in_ok-table.table; entry = c.in_ok-entry.entry }) c.requires.block c.requires.log
    c.in_ok-table.ensures c.in_ok-entry.ensures
