use Rattle.std.proofs.Common.{arith, ◌≡◌, ℕ, ◌+◌, ◌-◌, ◌∙◌, ap}
use Rattle.std.specs.List.{prefix_len}
use Rattle.shell_lines.specs.Words.{is_space}
use Rattle.shell_lines.proofs.WordLemmas.{in_word, no_word, one_word, rest_of_line}
use Rattle.shell_lines.proofs.words.Words.next.Goals as goal

pub returns-then-start-end-clause-next : goal.returns-then-start-end-clause-next
returns-then-start-end-clause-next c =
    let line = c.args.self.now.line.now in
    let at : ℕ = c.args.self.now.at in
    no_word line at c.gap_len.result c.word_len.result
    (c.gap_len.ensures.length ∙ ap (prefix_len is_space) (rest_of_line line at))
    (c.word_len.ensures.length ∙ ap (prefix_len in_word) (rest_of_line line (at + c.gap_len.result)))
    (omega arith)

pub returns-clause-next : goal.returns-clause-next
returns-clause-next c =
    let line = c.args.self.now.line.now in
    let at : ℕ = c.args.self.now.at in
    let len : c.args.self.now.at + c.gap_len.result + c.word_len.result - (c.args.self.now.at + c.gap_len.result) ≡ c.word_len.result = omega arith in
    rw len (one_word line at c.gap_len.result c.word_len.result
    (c.gap_len.ensures.length ∙ ap (prefix_len is_space) (rest_of_line line at))
    (c.word_len.ensures.length ∙ ap (prefix_len in_word) (rest_of_line line (at + c.gap_len.result)))
    (omega arith))
