use Rattle.std.proofs.Common.{arith}
use Rattle.shell_run.proofs.TaskLemmas.{few_on_roots}
use Rattle.shell_run.proofs.task.on_each.Goals as goal

pub returns-clause-few : goal.returns-clause-few
returns-clause-few c =
    few_on_roots c.args.keys.now c.args.action c.args.roots.now c.in-Ok.commands.items c.requires (λ k. let fits = (c.type_inv.roots k).fits in omega (arith, fits)) c.in-Ok.ensures
