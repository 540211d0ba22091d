use Rattle.std.proofs.Common.{◌≡◌}
use Rattle.shell_lines.specs.Settings.{options_with}
use Rattle.shell_lines.proofs.setting.options_with.Given as goal

abbrev pub invariant-loop-setting : goal.invariant-loop-setting
invariant-loop-setting l = l.options ≡ options_with l.yielded
