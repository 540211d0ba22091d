use Rattle.std.proofs.Common.{arith, sym, ◌∙◌}
use Rattle.aes_block.proofs.ScheduleLaws.{temp-middle, temp-multiple, temp-other}
use Rattle.aes_block.proofs.schedule.temp.Goals as goal
use Rattle.aes_block.proofs.schedule.temp.Goals.{else-nk-gt6-via-then-nk-gt6+else-i-nk-eq4, else-nk-gt6-via-else-nk-gt6}

pub returns-then-i-nk-eq0 : goal.returns-then-i-nk-eq0
returns-then-i-nk-eq0 c =
    c.add_words.ensures
    ∙ rw (c.sub_word.ensures, c.rot_word.ensures, c.requires.constant)
    (sym (temp-multiple c.args.nk c.args.i c.args.previous c.requires.words c.requires.after_key c.if-i-nk-eq0.true))

pub returns-then-i-nk-eq4 : goal.returns-then-i-nk-eq4
returns-then-i-nk-eq4 c =
    c.sub_word-then-i-nk-eq4.ensures
    ∙ sym (temp-middle c.args.nk c.args.i c.args.previous c.if-nk-gt6.true c.if-i-nk-eq4.true)

pub returns-else-nk-gt6 : goal.returns-else-nk-gt6
returns-else-nk-gt6 c =
    sym (temp-other c.args.nk c.args.i c.args.previous c.if-i-nk-eq0.false
    (elim c.else-nk-gt6.branch [
      | else-nk-gt6-via-then-nk-gt6+else-i-nk-eq4 w ↦ λ large. w.if-i-nk-eq4.false
      | else-nk-gt6-via-else-nk-gt6 w ↦ λ large. absurd (omega arith)
    ]))
