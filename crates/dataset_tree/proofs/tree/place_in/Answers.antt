use Rattle.std.proofs.Common.{nat_lt, rules}
use Rattle.std.proofs.lemmas.List.Sorted.{IsPartitionPoint-from_clause}
use Rattle.dataset_tree.specs.declared.tree.Row.{Row}
use Rattle.dataset_tree.proofs.TreeLemmas.{partitioned, below_place, above_place}
use Rattle.dataset_tree.proofs.tree.place_in.Goals as goal

pub returns-clause-below : goal.returns-clause-below
returns-clause-below c =
    below_place c.args.id c.args.rows.now c.partition_point.result
    (IsPartitionPoint-from_clause (λ (row : Row). nat_lt row.id c.args.id) c.args.rows.now c.partition_point.result c.partition_point.ensures.partitioned (partitioned c.args.id c.args.rows.now c.requires) (λ a r f' k. search rules)).0

pub returns-clause-above : goal.returns-clause-above
returns-clause-above c =
    above_place c.args.id c.args.rows.now c.partition_point.result
    (IsPartitionPoint-from_clause (λ (row : Row). nat_lt row.id c.args.id) c.args.rows.now c.partition_point.result c.partition_point.ensures.partitioned (partitioned c.args.id c.args.rows.now c.requires) (λ a r f' k. search rules)).1
