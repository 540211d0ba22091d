use Rattle.shell_lines.proofs.LanguageLemmas.{at_unprintable, is_line, gives_line, first_wrong, bad_at_first_wrong, blank_line, inside_section}
use Rattle.shell_lines.proofs.laws.bad_at_the_first_wrong_word.Goals as goal

pub returns-clause-unprintable : goal.returns-clause-unprintable
returns-clause-unprintable c = at_unprintable

pub returns-clause-line : goal.returns-clause-line
returns-clause-line c bytes line plain = (is_line bytes line plain, gives_line bytes line plain)

pub returns-clause-wrong : goal.returns-clause-wrong
returns-clause-wrong c bytes at plain = (first_wrong bytes at plain, bad_at_first_wrong bytes at plain)

pub returns-clause-blank : goal.returns-clause-blank
returns-clause-blank c = blank_line

pub returns-clause-inside : goal.returns-clause-inside
returns-clause-inside c = inside_section
