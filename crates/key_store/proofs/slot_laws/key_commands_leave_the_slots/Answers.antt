use Rattle.key_store.proofs.SlotLawLemmas.{create_leaves, load_leaves, get_leaves, change_leaves, inherit_leaves}
use Rattle.key_store.proofs.slot_laws.key_commands_leave_the_slots.Goals as goal

pub returns-clause-create : goal.returns-clause-create
returns-clause-create c = λ t p name opts told agrees. create_leaves t p told agrees name opts

pub returns-clause-load : goal.returns-clause-load
returns-clause-load c = λ t p name check_only place told agrees. load_leaves t p told agrees name check_only place

pub returns-clause-get : goal.returns-clause-get
returns-clause-get c = λ t p name prop told agrees. get_leaves t p told agrees name prop

pub returns-clause-change : goal.returns-clause-change
returns-clause-change c = λ t p name opts load_first told agrees. change_leaves t p told agrees name opts load_first

pub returns-clause-inherit : goal.returns-clause-inherit
returns-clause-inherit c = λ t p name load_first told agrees. inherit_leaves t p told agrees name load_first
