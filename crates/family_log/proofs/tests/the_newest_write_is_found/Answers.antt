use Rattle.family_log.proofs.FreshLemmas.{fresh_change}
use Rattle.family_log.proofs.tests.the_newest_write_is_found.Goals as goal

pub append_write-requires : goal.append_write-requires
append_write-requires g c =
    fresh_change c.in_ok-family.family _ _ c.in_ok-change.change c.in_ok-family.ensures.block c.in_ok-family.ensures.log c.in_ok-change.ensures.table c.in_ok-change.ensures.entry
