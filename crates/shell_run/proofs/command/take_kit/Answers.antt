use Rattle.shell_run.specs.Answers.{wants_of}
use Rattle.shell_run.proofs.KitLemmas.{kit_taken, kit_stopped_first, kit_stopped_second, kit_stopped_third}
use Rattle.shell_run.proofs.command.take_kit.Goals as goal

pub returns-in-Err-clause-takes : goal.returns-in-Err-clause-takes
returns-in-Err-clause-takes g c =
    kit_stopped_first c.args.number c.args.part (wants_of c.args.needs.now) _ _ _ _ c.in-Err.halt (rw c.taking_of-old_entry.ensures at c.in-Err.ensures.takes)

pub returns-in-Err-fetch_if-clause-takes : goal.returns-in-Err-fetch_if-clause-takes
returns-in-Err-fetch_if-clause-takes g c =
    kit_stopped_second c.args.number c.args.part (wants_of c.args.needs.now) _ _ _ _ _ _ c.in-Ok.old_key c.in-Err-fetch_if.halt (rw c.taking_of-old_entry.ensures at c.in-Ok.ensures.takes) (rw c.taking_of-new_entry.ensures at c.in-Err-fetch_if.ensures.takes)

pub returns-in-Err-fill-clause-takes : goal.returns-in-Err-fill-clause-takes
returns-in-Err-fill-clause-takes g c =
    kit_stopped_third c.args.number c.args.part (wants_of c.args.needs.now) _ _ _ _ _ _ _ c.in-Ok.old_key c.in-Ok-fetch_if.new_key c.in-Err-fill.field-0 (rw c.taking_of-old_entry.ensures at c.in-Ok.ensures.takes)
    (rw c.taking_of-new_entry.ensures at c.in-Ok-fetch_if.ensures.takes) (rw c.taking_of.ensures at c.in-Err-fill.ensures.takes)

pub returns-clause-takes : goal.returns-clause-takes
returns-clause-takes g c =
    rw c.in-Ok-fill.ensures.script
    (kit_taken c.args.number c.args.part (wants_of c.args.needs.now) _ _ _ _ _ _ _ c.in-Ok.old_key c.in-Ok-fetch_if.new_key c.in-Ok-fill.seed (rw c.taking_of-old_entry.ensures at c.in-Ok.ensures.takes)
    (rw c.taking_of-new_entry.ensures at c.in-Ok-fetch_if.ensures.takes) (rw c.taking_of.ensures at c.in-Ok-fill.ensures.takes))
