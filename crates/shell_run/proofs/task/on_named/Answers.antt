use Rattle.dataset_tree.specs.SetName.{named}
use Rattle.shell_run.proofs.TaskLemmas.{roots_rise}
use Rattle.shell_run.proofs.task.on_named.Goals as goal

pub on_each-requires : goal.on_each-requires
on_each-requires c = roots_rise c.args.keys.now c.states_are_sound.ensures (named c.args.name.now) c.in-Ok.roots.items c.as_slice.result.now c.in-Ok.ensures.roots c.as_slice.ensures.value
