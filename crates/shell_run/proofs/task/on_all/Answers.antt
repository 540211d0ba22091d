use Rattle.shell_run.proofs.TaskLemmas.{all_rise}
use Rattle.shell_run.proofs.task.on_all.Goals as goal

pub on_each-requires : goal.on_each-requires
on_each-requires c = all_rise c.args.keys.now c.states_are_sound.ensures c.in-Ok.roots.items c.as_slice.result.now c.in-Ok.ensures c.as_slice.ensures.value
