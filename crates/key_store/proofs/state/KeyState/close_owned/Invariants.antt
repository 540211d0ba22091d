use Rattle.std.proofs.Common.{◌≡◌, ℕ, [], length}
use Rattle.encryption_roots.specs.ById.{IsRisingById}
use Rattle.key_store.specs.Agrees.{Agrees, SameRefusals}
use Rattle.key_store.proofs.UnloadLemmas.{IsClosedBelow}
use Rattle.key_store.proofs.state.KeyState.close_owned.Given as goal

abbrev pub invariant-loop-id : goal.invariant-loop-id
invariant-loop-id g l = record {
  rising : IsRisingById l.fn.self.mapped;
  unheld : l.fn.self.users ≡ [];
  so_far : (bound : ℕ) × IsClosedBelow l.fn.self l.self l.root bound;
  refusals : SameRefusals (g.K.SlotKeeper.told l.fn.keeper) (g.K.SlotKeeper.told l.keeper);
  agrees : Agrees (g.K.SlotKeeper.told l.keeper) l.self;
  fits : g.K.SlotKeeper.fits l.keeper l.board;
}

abbrev pub decreases-loop-id : goal.decreases-loop-id
decreases-loop-id g l = length l.self.mapped
