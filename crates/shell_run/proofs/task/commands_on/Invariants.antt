use Rattle.std.proofs.Common.{◌≡◌, take}
use Rattle.std.specs.List.{flat_map}
use Rattle.shell_run.specs.Tasks.{command_on}
use Rattle.shell_run.proofs.task.commands_on.Given as goal

-- the commands on the roots so far
abbrev pub invariant-loop-root : goal.invariant-loop-root
invariant-loop-root l = l.commands.items ≡ flat_map (command_on l.keys l.action) (take l.root-index l.roots)
