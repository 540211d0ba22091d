use Rattle.shell_run.proofs.TakingLemmas.{no_part_before, not_twice}
use Rattle.shell_run.proofs.laws.parts_stand_in_order.Goals as goal

pub returns-clause-parts : goal.returns-clause-parts
returns-clause-parts c = no_part_before

pub returns-clause-once : goal.returns-clause-once
returns-clause-once c = not_twice
