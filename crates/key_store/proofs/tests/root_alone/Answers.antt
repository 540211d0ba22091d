use Rattle.std.proofs.Common.{sym, subst}
use Rattle.mapping_words.specs.Told.{fresh}
use Rattle.key_store.specs.Agrees.{Agrees}
use Rattle.key_store.proofs.tests.root_alone.Goals as goal

pub returns-in-Ok : goal.returns-in-Ok
returns-in-Ok c = c.create.ensures (fresh 256) (subst (Agrees (fresh 256)) (sym c.in_ok-state.ensures) c.fresh_keepers_agree.ensures)
