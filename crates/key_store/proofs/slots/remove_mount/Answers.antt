use Rattle.std.proofs.Common.{◌==◌, ℕ, not, rules}
use Rattle.std.proofs.lemmas.Fn.{filter_same}
use Rattle.key_store.proofs.slots.remove_mount.Goals as goal

pub returns-clause-removed : goal.returns-clause-removed
returns-clause-removed c =
    filter_same _ (λ (other : ℕ). not (other == c.args.id)) _ (λ x b f' k. search rules) c.args.mounted.now.items c.retain.new.self.items c.retain.ensures.filtered
