use Rattle.std.proofs.Common.{◌≡◌, [], length}
use Rattle.std.specs.declared.option.Option.TheVariants.{None}
use Rattle.shell_lines.specs.Left.{words_left, end_of}
use Rattle.shell_lines.specs.Reading.{options_from}
use Rattle.shell_lines.proofs.option.parse_options.Given as goal

abbrev pub invariant-loop-word : goal.invariant-loop-word
invariant-loop-word l =
    (options_from (end_of l.initial.words) l.kinds None [] (words_left l.initial.words) ≡ options_from (end_of l.initial.words) l.kinds None l.settings.items (words_left l.words))
    × (words_left l.ahead ≡ words_left l.words)
    × (end_of l.words ≡ end_of l.initial.words)
    × (end_of l.ahead ≡ end_of l.initial.words)

abbrev pub decreases-loop-word : goal.decreases-loop-word
decreases-loop-word l = length (words_left l.ahead)
