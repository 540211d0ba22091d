use Rattle.std.proofs.Common.{◌≡◌, ◌≤◌, ◌<◌, ℕ, List, length, nat_le, true, false, sym, ◌∙◌, subst, rules}
use Rattle.std.proofs.lemmas.List.Sorted.{IsPartitionPoint-from_clause}
use Rattle.std.specs.List.{AllWithin, AllPairs, insert}
use Rattle.key_store.proofs.MappingLemmas.{mounts_parted, mount_placed, if_done}
use Rattle.key_store.proofs.slots.add_mount.Goals as goal

pub returns-clause-added : goal.returns-clause-added
returns-clause-added c =
    let mounted : List ℕ = c.args.mounted.now.items in
    let rising : AllPairs (λ a b. a < b) c.deref.result.now = subst (λ (xs : List ℕ). AllPairs (λ a b. a < b) xs) (sym c.deref.ensures.value) c.requires.rising in
    let split = IsPartitionPoint-from_clause (λ (other : ℕ). nat_le other c.args.id) c.deref.result.now c.partition_point-at.result c.partition_point-at.ensures.partitioned (mounts_parted c.args.id c.deref.result.now rising)
    (λ a r f' k. search rules) in
    let below : AllWithin (λ other. nat_le other c.args.id ≡ true) mounted 0 c.partition_point-at.result = rw c.deref.ensures.value at split.0 in
    let above : AllWithin (λ other. nat_le other c.args.id ≡ false) mounted c.partition_point-at.result (length mounted) = rw c.deref.ensures.value at split.1 in
    let within : c.partition_point-at.result ≤ length mounted = rw c.deref.ensures.value at c.partition_point-at.ensures.bound in
    c.insert.ensures.items
    ∙ if_done c.insert.result (insert mounted c.partition_point-at.result c.args.id) mounted (sym c.is_err.ensures.value ∙ c.if-is_err.false)
    ∙ mount_placed c.args.id mounted c.partition_point-at.result within below above
