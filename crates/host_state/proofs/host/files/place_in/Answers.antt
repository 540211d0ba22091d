use Rattle.std.proofs.Common.{nat_lt, rules}
use Rattle.std.proofs.lemmas.List.Sorted.{IsPartitionPoint-from_clause}
use Rattle.encryption_roots.proofs.ByIdLemmas.{partitioned, below_place, above_place}
use Rattle.host_state.proofs.host.files.place_in.Goals as goal

pub returns-clause-below : goal.returns-clause-below
returns-clause-below g c =
    below_place c.args.id c.args.entries.now c.partition_point.result
    (IsPartitionPoint-from_clause (λ entry. nat_lt entry.0 c.args.id) c.args.entries.now c.partition_point.result c.partition_point.ensures.partitioned (partitioned c.args.id c.args.entries.now c.requires) (λ a r f' k. search rules)).0

pub returns-clause-above : goal.returns-clause-above
returns-clause-above g c =
    above_place c.args.id c.args.entries.now c.partition_point.result
    (IsPartitionPoint-from_clause (λ entry. nat_lt entry.0 c.args.id) c.args.entries.now c.partition_point.result c.partition_point.ensures.partitioned (partitioned c.args.id c.args.entries.now c.requires) (λ a r f' k. search rules)).1
