use Rattle.std.proofs.Common.{◌≡◌}
use Rattle.shell_lines.specs.Settings.{load_place}
use Rattle.shell_lines.proofs.setting.load_place.Given as goal

abbrev pub invariant-loop-setting : goal.invariant-loop-setting
invariant-loop-setting l = l.place ≡ load_place l.yielded
