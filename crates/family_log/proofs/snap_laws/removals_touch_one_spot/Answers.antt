use Rattle.family_log.proofs.SpotLemmas.{head-gone, head-others, removed-gone, removed-others}
use Rattle.family_log.proofs.snap_laws.removals_touch_one_spot.Goals as goal

pub returns-clause-head : goal.returns-clause-head
returns-clause-head c = λ family head spot same. head-gone family head spot same

pub returns-clause-other_heads : goal.returns-clause-other_heads
returns-clause-other_heads c = λ family head spot other. head-others family head spot other

pub returns-clause-snapshot : goal.returns-clause-snapshot
returns-clause-snapshot c = λ family head part kept. removed-gone family head part kept

pub returns-clause-other_spots : goal.returns-clause-other_spots
returns-clause-other_spots c = λ family head part spot kept apart. removed-others family head part spot kept apart
