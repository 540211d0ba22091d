use Rattle.std.proofs.Common.{◌≡◌, ◌∷◌, length, false, None, sym, ◌∙◌}
use Rattle.shell_lines.specs.Words.{words_of}
use Rattle.shell_lines.specs.Grammar.{line_of, first_unprintable, is_comment}
use Rattle.shell_lines.specs.Left.{words_left, end_of, placed}
use Rattle.shell_lines.specs.Forms.{line_from}
use Rattle.shell_lines.specs.Commands.{commands}
use Rattle.shell_lines.proofs.LanguageLemmas.{whole_line}
use Rattle.shell_lines.proofs.SizeLemmas.{result_sized}
use Rattle.shell_lines.proofs.parse.parse_line.Goals as goal

pub returns-clause-spells : goal.returns-clause-spells
returns-clause-spells c =
    let comment : is_comment c.args.bytes.now ≡ false = sym c.is_comment.ensures ∙ c.if-is_comment.false in
    let printable : first_unprintable c.args.bytes.now ≡ None = sym c.in_default.ensures in
    let stand : words_of c.args.bytes.now ≡ placed c.in-Some-next.command ∷ words_left c.next.new.self = sym c.new-words.ensures.words ∙ c.in-Some-next.ensures.next in
    let end : end_of c.next.new.self ≡ length c.args.bytes.now = c.in-Some-next.ensures.end ∙ c.new-words.ensures.end in
    let line : line_of c.args.bytes.now c.args.inside ≡ line_from (length c.args.bytes.now) commands (placed c.in-Some-next.command ∷ words_left c.next.new.self) =
    whole_line c.args.bytes.now c.args.inside (placed c.in-Some-next.command) (words_left c.next.new.self) comment printable c.if-inside-ne0.false stand in
    rw line (rw end at c.parse_command.ensures)

pub returns-clause-record_size : goal.returns-clause-record_size
returns-clause-record_size c = result_sized c.parse_command.result c.args.bytes.now c.args.inside (returns-clause-spells c)
