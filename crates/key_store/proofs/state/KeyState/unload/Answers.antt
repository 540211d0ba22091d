use Rattle.encryption_roots.specs.ById.{without_id}
use Rattle.key_store.proofs.UnloadLemmas.{none_left, agrees_without}
use Rattle.key_store.proofs.state.KeyState.unload.Goals as goal

pub drop_key-requires-clause-idle : goal.drop_key-requires-clause-idle
drop_key-requires-clause-idle g c = none_left c.args.self.now c.close_owned.new.self c.in-Ok.root c.in-Ok-close_owned.ensures.closed

pub returns-clause-agrees : goal.returns-clause-agrees
returns-clause-agrees g c =
    agrees_without (g.K.SlotKeeper.told c.close_owned.new.keeper) c.close_owned.new.self c.drop_key.new.self (without_id c.in-Ok.root c.close_owned.new.self.loaded) c.drop_key.ensures c.in-Ok-close_owned.ensures.agrees
