use Rattle.shell_lines.proofs.RunLemmas.{words_stand, words_are_runs, words_are_whole}
use Rattle.shell_lines.proofs.laws.words_are_the_longest_runs.Goals as goal

pub returns-clause-order : goal.returns-clause-order
returns-clause-order c = words_stand

pub returns-clause-run : goal.returns-clause-run
returns-clause-run c = words_are_runs

pub returns-clause-whole : goal.returns-clause-whole
returns-clause-whole c = words_are_whole
