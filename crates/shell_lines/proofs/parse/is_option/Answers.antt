use Rattle.std.proofs.Common.{◌∙◌}
use Rattle.std.specs.Str.{bytes_eq}
use Rattle.shell_lines.proofs.FrontLemmas.{any_text}
use Rattle.shell_lines.proofs.parse.is_option.Goals as goal

pub returns : goal.returns
returns c = c.contains.ensures.value ∙ any_text (λ option. bytes_eq option c.args.word.now) c.args.options.now
