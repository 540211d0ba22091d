use Rattle.std.proofs.Common.{◌==◌, not, rules}
use Rattle.std.proofs.lemmas.Fn.{filter_same}
use Rattle.encryption_roots.proofs.ByIdLemmas.{IsRisingById-without_id}
use Rattle.encryption_roots.proofs.by_id.remove_at_id.Goals as goal

pub returns-clause-removed : goal.returns-clause-removed
returns-clause-removed g c =
    filter_same _ (λ entry. not (entry.0 == c.args.id)) _ (λ x b f' k. search rules) c.args.entries.now.items c.retain.new.self.items c.retain.ensures.filtered

pub returns-clause-rising : goal.returns-clause-rising
returns-clause-rising g c = rw (returns-clause-removed g c) (IsRisingById-without_id c.args.id c.args.entries.now.items c.requires)
