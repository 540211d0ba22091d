use Rattle.std.proofs.Common.{ℕ, ◌∙◌, Ok, Err}
use Rattle.shell_run.proofs.CommandLemmas.{loaded_replies, loaded_state, replies_made, same_state, unloaded_replies}
use Rattle.shell_run.proofs.command.carry.Goals as goal

pub returns-in-Err-clause-reply : goal.returns-in-Err-clause-reply
returns-in-Err-clause-reply g c = rw c.in-Create.is (replies_made c.in-Err.stop _ c.in-Err.ensures.reply)

pub returns-in-Err-clause-state : goal.returns-in-Err-clause-state
returns-in-Err-clause-state g c = rw c.in-Create.is (c.in-Err.ensures.state ∙ same_state ℕ c.in-Err.stop _ _)

pub returns-in-Ok-load-clause-reply : goal.returns-in-Ok-load-clause-reply
returns-in-Ok-load-clause-reply g c = loaded_replies c.args.host.now c.args.command.now _ _ _ c.args.kit.now c.in-Load.is c.in-Ok-load.ensures.reply

pub returns-in-Ok-load-clause-state : goal.returns-in-Ok-load-clause-state
returns-in-Ok-load-clause-state g c = loaded_state (Unit {0}) c.args.host.now c.load.new.self c.args.command.now _ _ _ c.args.kit.now (Ok tt) c.in-Load.is c.in-Ok-load.ensures.state

pub returns-in-Err-load-clause-reply : goal.returns-in-Err-load-clause-reply
returns-in-Err-load-clause-reply g c = unloaded_replies c.args.host.now c.args.command.now _ _ _ c.args.kit.now c.in-Err-load.stop c.in-Load.is c.in-Err-load.ensures.reply

pub returns-in-Err-load-clause-state : goal.returns-in-Err-load-clause-state
returns-in-Err-load-clause-state g c =
    loaded_state (Unit {0}) c.args.host.now c.load.new.self c.args.command.now _ _ _ c.args.kit.now (Err c.in-Err-load.stop) c.in-Load.is c.in-Err-load.ensures.state ∙ same_state (Unit {0}) c.in-Err-load.stop _ _
