use Rattle.std.proofs.Common.{◌≡◌, ℕ, List, IfOk, Some, ap, sym, ◌∙◌, subst}
use Rattle.std.specs.List.{All}
use Rattle.encryption_roots.specs.ById.{at_id}
use Rattle.key_machine.specs.Plain.{Plain}
use Rattle.key_store.specs.Counts.{ShowsMappings}
use Rattle.key_store.proofs.CountLemmas.{each_mapped}
use Rattle.key_store.proofs.state.KeyState.map_counts.Goals as goal

pub map_rows-requires-clause-mapped : goal.map_rows-requires-clause-mapped
map_rows-requires-clause-mapped g c =
    subst (λ (m : List (ℕ × ℕ)). All (λ mapping. at_id mapping.0 c.args.self.now.mapped ≡ Some mapping.1) m) (sym c.as_slice.ensures.value) (each_mapped c.self.inside c.args.self.now c.self.view_is c.self.invariant)

pub returns-clause-maps : goal.returns-clause-maps
returns-clause-maps g c =
    subst (λ (m : List (ℕ × ℕ)). IfOk c.map_rows.result (λ found. ShowsMappings g.K.SlotKeeper.tells c.args.self.now m found.items))
    (c.as_slice.ensures.value ∙ ap (λ (p : Plain). p.mapped) c.self.view_is) c.map_rows.ensures.maps
