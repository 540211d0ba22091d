use Rattle.dataset_tree.specs.declared.refusal.Refusal.TheVariants.{KeyFault, EntropyFault}
use Rattle.shell_run.proofs.CommandLemmas.{executed, executed_at_once, executed_stopped}
use Rattle.shell_run.proofs.FaultLemmas.{executed_fault, needs_apart, key_taking, entropy_taking, by_fetch, by_fill, either_rose}
use Rattle.shell_run.proofs.command.execute.Goals as goal

pub returns-in-Err-clause-told : goal.returns-in-Err-clause-told
returns-in-Err-clause-told g c =
    rw c.settle.ensures
    (executed_at_once c.args.number c.args.part c.args.host.now c.args.command.now (g.W.Outside.told c.args.outside.now) (g.W.Outside.script c.args.outside.now) c.in-Err.stop c.in-Err.ensures)

pub returns-in-Err-take_kit-clause-told : goal.returns-in-Err-take_kit-clause-told
returns-in-Err-take_kit-clause-told g c =
    executed_stopped c.args.number c.args.part c.args.host.now c.args.command.now c.in-Ok.needs c.in-Err-take_kit.halt (g.W.Outside.told c.args.outside.now) (g.W.Outside.told c.take_kit.new.outside)
    (g.W.Outside.script c.args.outside.now) (g.W.Outside.script c.take_kit.new.outside) c.in-Ok.ensures c.in-Err-take_kit.ensures.takes

pub returns-clause-told : goal.returns-clause-told
returns-clause-told g c =
    rw c.settle-2.ensures
    (executed c.args.number c.args.part c.args.host.now c.carry.new.host c.args.command.now c.in-Ok.needs c.in-Ok-take_kit.kit (g.W.Outside.told c.args.outside.now) (g.W.Outside.told c.take_kit.new.outside)
    (g.W.Outside.script c.args.outside.now) (g.W.Outside.script c.take_kit.new.outside) c.carry.result c.in-Ok.ensures c.in-Ok-take_kit.ensures.takes c.carry.ensures.reply c.carry.ensures.state)

pub returns-in-Err-clause-key_fault : goal.returns-in-Err-clause-key_fault
returns-in-Err-clause-key_fault g c = λ same. absurd (needs_apart KeyFault key_taking c.args.host.now.keys c.args.command.now c.requires c.in-Err.stop c.in-Err.ensures (rw c.settle.ensures at same))

pub returns-in-Err-clause-entropy_fault : goal.returns-in-Err-clause-entropy_fault
returns-in-Err-clause-entropy_fault g c = λ same. absurd (needs_apart EntropyFault entropy_taking c.args.host.now.keys c.args.command.now c.requires c.in-Err.stop c.in-Err.ensures (rw c.settle.ensures at same))

pub returns-clause-key_fault : goal.returns-clause-key_fault
returns-clause-key_fault g c = λ same.
    either_rose (g.W.Outside.told c.args.outside.now).fetches.faults (g.W.Outside.told c.take_kit.new.outside).fetches.faults c.in-Ok-take_kit.kit.old_key c.in-Ok-take_kit.kit.new_key
    c.in-Ok-take_kit.ensures.old_key_fault c.in-Ok-take_kit.ensures.new_key_fault
    (by_fetch c.in-Ok-take_kit.kit (executed_fault KeyFault key_taking c.args.host.now c.args.command.now c.requires c.in-Ok.needs c.in-Ok-take_kit.kit c.carry.result c.in-Ok.ensures c.in-Ok-take_kit.ensures.asked c.carry.ensures.reply
    (rw c.settle-2.ensures at same)))

pub returns-clause-entropy_fault : goal.returns-clause-entropy_fault
returns-clause-entropy_fault g c = λ same.
    c.in-Ok-take_kit.ensures.entropy_fault (by_fill c.in-Ok-take_kit.kit (executed_fault EntropyFault entropy_taking c.args.host.now c.args.command.now c.requires c.in-Ok.needs c.in-Ok-take_kit.kit c.carry.result c.in-Ok.ensures c.in-Ok-take_kit.ensures.asked c.carry.ensures.reply
    (rw c.settle-2.ensures at same)))
