use Rattle.std.proofs.Common.{◌≡◌, ℕ, ◌==◌, List, map, not, filter, IfOk, ap, ◌∙◌, subst}
use Rattle.key_machine.specs.Counts.{counts}
use Rattle.key_machine.specs.Plain.{Plain}
use Rattle.key_machine.specs.Users.{mkey_users}
use Rattle.key_store.specs.State.{plain_of}
use Rattle.key_store.proofs.UseLemmas.{counted_used}
use Rattle.key_store.proofs.state.KeyState.mkey_counts.Goals as goal

pub returns : goal.returns
returns c =
    subst (λ (rows : List (ℕ × ℕ)). IfOk c.used.result (λ found. found.items ≡ rows))
    (ap (λ (stored : List (ℕ × ℕ)). map {B = ℕ × ℕ} (λ entry. (entry.0, entry.1)) (filter (λ entry. not (entry.1 == 0)) stored)) (c.as_slice.ensures.value ∙ c.self.invariant.mkeys)
    ∙ counted_used (mkey_users (plain_of c.self.inside)) (plain_of c.self.inside).wrapped
    ∙ ap (λ (p : Plain). (counts p).mkeys) c.self.view_is) c.used.ensures
