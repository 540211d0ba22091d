use Rattle.std.proofs.Common.{◌+◌, ◌++◌, ◌∙◌, List, ap, drop, arith}
use Rattle.family_log.specs.declared.entry.RefAt.{RefAt}
use Rattle.file_dataset.specs.Changes.{refs_from}
use Rattle.file_dataset.proofs.RowLemmas.{refs_more, refs_all}
use Rattle.file_dataset.proofs.new_rows.refs_of.Goals as goal

pub refs-preserved : goal.refs-preserved
refs-preserved c = record {
  at = omega arith;
  told =
      ap (λ (list : List RefAt). list ++ refs_from c.args.object (c.refs.index + 1) (drop (c.refs.to-index + 1) c.args.refs.now)) c.in_ok-push.ensures.items
      ∙ refs_more c.args.object c.args.first c.refs.index c.refs.to-index c.refs.list.items c.args.refs.now _ (omega arith) c.refs.invariant.told;
}

pub returns : goal.returns
returns c = refs_all c.args.object c.args.first c.refs.index c.refs.to-index c.refs.list.items c.args.refs.now (omega arith) c.refs.invariant.told
