use Rattle.shell_lines.proofs.SizeLemmas.{size_in_form}
use Rattle.shell_lines.proofs.laws.record_sizes_are_in_form.Goals as goal

pub returns : goal.returns
returns c = size_in_form
