use Rattle.dataset_tree.proofs.RecordLemmas.{padded_by_copy}
use Rattle.dataset_tree.proofs.record.RecordBytes.from_slice.Goals as goal

pub invariant_of-result : goal.invariant_of-result
invariant_of-result c = rw c.copy_from_slice.ensures.after (padded_by_copy c.args.bytes.now c.requires)
