use Rattle.std.proofs.Common.{ℕ, List, ap, ◌∙◌}
use Rattle.key_machine.specs.Counts.{Counted, counts}
use Rattle.key_machine.specs.Plain.{Plain}
use Rattle.key_store.proofs.state.KeyState.counts.Goals as goal

pub returns-clause-exact : goal.returns-clause-exact
returns-clause-exact g c = λ known.
    let p : Plain = c.args.self.now in
    ap (λ (w : List (ℕ × ℕ)). let found : Counted = record { wkeys = w; mkeys = c.in_ok-mkeys.mkeys.items; maps = c.in_ok-maps.maps.items } in found) c.in_ok-wkeys.ensures
    ∙ ap (λ (m : List (ℕ × ℕ)). let found : Counted = record { wkeys = (counts p).wkeys; mkeys = m; maps = c.in_ok-maps.maps.items } in found) c.in_ok-mkeys.ensures
    ∙ ap (λ (rows : List (ℕ × ℕ × ℕ)). let found : Counted = record { wkeys = (counts p).wkeys; mkeys = (counts p).mkeys; maps = rows } in found) (c.in_ok-maps.ensures.maps.exact known)
