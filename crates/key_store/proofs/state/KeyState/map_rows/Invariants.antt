use Rattle.std.proofs.Common.{◌≡◌, take}
use Rattle.key_store.specs.Counts.{ShowsMappings}
use Rattle.key_store.proofs.state.KeyState.map_rows.Given as goal

abbrev pub invariant-loop-mapping : goal.invariant-loop-mapping
invariant-loop-mapping g l =
    ShowsMappings g.K.SlotKeeper.tells l.self (take l.mapping-index l.mapped) l.maps.items × (g.K.SlotKeeper.told l.keeper ≡ g.K.SlotKeeper.told l.initial.keeper) × g.K.SlotKeeper.fits l.keeper l.board
