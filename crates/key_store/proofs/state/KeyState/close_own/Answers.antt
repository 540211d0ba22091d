use Rattle.std.proofs.Common.{sym, ◌∙◌}
use Rattle.key_store.proofs.DestroyLemmas.{unmapped_is}
use Rattle.key_store.proofs.state.KeyState.close_own.Goals as goal

pub returns-in-None-clause-closed : goal.returns-in-None-clause-closed
returns-in-None-clause-closed g c = unmapped_is c.args.self.now c.args.id (sym c.slot_of.ensures ∙ c.in-None.is)
