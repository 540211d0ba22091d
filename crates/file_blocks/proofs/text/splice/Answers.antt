use Rattle.file_blocks.proofs.Texts.{if_ok, spliced_is}
use Rattle.std.proofs.Common.{ap, ◌∙◌, ◌++◌, List, ℕ}
use Rattle.file_blocks.proofs.text.splice.Goals as goal

pub returns-clause-all : goal.returns-clause-all
returns-clause-all c =
    if_ok c.append-3.result c.append-3.ensures.all (λ x last.
    spliced_is c.args.old.now c.args.piece.now c.append.new.list.items c.fill_to.new.list.items c.append-2.new.list.items _ c.args.out.now.items c.args.start
    c.requires.empty c.in_ok-append.ensures.all c.in_ok-fill_to.ensures.all c.in_ok-append-2.ensures.all
    (last ∙ ap (λ (more : List ℕ). c.append-2.new.list.items ++ more) c.tail.ensures))
