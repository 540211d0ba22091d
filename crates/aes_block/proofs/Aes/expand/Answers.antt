use Rattle.std.proofs.Common.{◌*◌, ◌<◌, refl, ◌∙◌, arith}
use Rattle.aes_block.proofs.CipherLaws.{key_size-bounds}
use Rattle.aes_block.proofs.ScheduleLaws.{length_over_front, round_constant-first, round_constant-next, round_constant-same, schedule_done, words_after-more, words_after-none}
use Rattle.aes_block.proofs.Aes.expand.Goals as goal
use Rattle.aes_block.proofs.Aes.expand.Goals.{then-i-eq0, else-i-eq0}

pub words-init : goal.words-init
words-init g c =
    let bounds = key_size-bounds g.row.NK c.requires.size in
    rw c.copy_from_slice.ensures.after record {
      size = length_over_front (4 * g.row.NK) 240 c.args.key.now _ c.requires.whole (omega arith) refl;
      held = words_after-none g.row.NK c.args.key.now _ c.requires.whole;
      constant = round_constant-first g.row.NK (omega arith);
    }

pub words-preserved : goal.words-preserved
words-preserved g c =
    let nk = g.row.NK in
    let i = c.words.i in
    let bounds = key_size-bounds nk c.requires.size in
    let above : 0 < nk = omega arith in
    record {
      size = c.put_word.array_long;
      held =
          words_after-more nk i c.args.key.now c.words.words c.put_word.new.words above (omega arith) (omega arith)
          c.words.invariant.held (rw c.next_word-word.ensures at c.put_word.ensures);
      constant =
          elim c.if-i-eq0.branch [
            | then-i-eq0 w ↦
                w.round_constant-is ∙ rw (w.xtimes-round_constant.ensures, c.words.invariant.constant)
                (round_constant-next nk i above (omega arith) w.if-i-eq0.true)
            | else-i-eq0 w ↦
                w.round_constant-is ∙ c.words.invariant.constant ∙ round_constant-same nk i above w.if-i-eq0.false
          ];
    }

pub invariant_of-result : goal.invariant_of-result
invariant_of-result g c = (
  c.requires.size,
  (schedule_done g.row.NK c.words.i c.args.key.now c.words.words c.requires.whole (omega arith) c.words.invariant.held).1,
  c.tower_words.ensures.made,
  c.tower_words.ensures.bytes,
)

pub returns : goal.returns
returns g c =
    (schedule_done g.row.NK c.words.i c.args.key.now c.words.words c.requires.whole (omega arith) c.words.invariant.held).0
