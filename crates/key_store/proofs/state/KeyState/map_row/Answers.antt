use Rattle.std.proofs.Common.{◌≡◌, ◌<◌, length, arith}
use Rattle.mapping_words.specs.Told.{Told}
use Rattle.key_store.proofs.CountLemmas.{row_shown}
use Rattle.key_store.proofs.state.KeyState.map_row.Goals as goal

pub count-users-requires-clause-there : goal.count-users-requires-clause-there
count-users-requires-clause-there g c =
    let t : Told = g.K.SlotKeeper.told c.args.keeper.now in
    let long : length t.slots ≡ 256 = c.requires.agrees.slots in
    let within : c.args.slot < 256 = c.generation-generation.ensures.there in
    omega (arith, long, within)

pub returns-clause-shown : goal.returns-clause-shown
returns-clause-shown g c =
    row_shown c.args.self.now (g.K.SlotKeeper.told c.args.keeper.now) c.requires.agrees c.args.id c.args.slot c.generation-generation.ensures.there c.generation-generation.ensures.mounted c.generation-generation.ensures.users
    g.K.SlotKeeper.tells c.count-users.result c.generation-generation.result c.count-users.ensures.told c.count-users.ensures.mounted c.generation-generation.ensures.generation
