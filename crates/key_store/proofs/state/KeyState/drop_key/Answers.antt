use Rattle.std.proofs.Common.{refl}
use Rattle.key_store.proofs.UnloadLemmas.{drop_kept}
use Rattle.key_store.proofs.state.KeyState.drop_key.Goals as goal

pub invariant_of-self : goal.invariant_of-self
invariant_of-self c =
    drop_kept c.self.inside (record c.self.inside { loaded = c.remove_at_id.new.entries }) c.args.self.now c.args.root c.self.view_is c.self.invariant c.requires.idle refl
    c.remove_at_id.ensures.removed c.remove_at_id.ensures.room
