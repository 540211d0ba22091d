use Rattle.std.proofs.Common.{ℕ, List, ap, sym, ◌∙◌, subst}
use Rattle.std.specs.Prelude.{unwrap_or}
use Rattle.encryption_roots.specs.ById.{IsRisingById, at_id}
use Rattle.key_machine.specs.Plain.{Plain}
use Rattle.key_machine.specs.Users.{mkey_users}
use Rattle.key_ciphers.specs.Ciphers.{ciphers}
use Rattle.key_store.specs.State.{plain_of}
use Rattle.key_store.proofs.UseLemmas.{rising_counts, users_at}
use Rattle.key_store.proofs.state.KeyState.mkey_users.Goals as goal

pub uses_of-requires : goal.uses_of-requires
uses_of-requires c =
    subst (λ (entries : List (ℕ × ℕ)). IsRisingById entries) (sym c.as_slice.ensures.value) (rising_counts ciphers (plain_of c.self.inside) c.self.invariant.sound c.self.inside.mkey_counts.items c.self.invariant.mkeys)

pub returns : goal.returns
returns c =
    c.uses_of.ensures ∙ ap (λ (entries : List (ℕ × ℕ)). unwrap_or (at_id c.args.family entries) 0) c.as_slice.ensures.value
    ∙ users_at ciphers (plain_of c.self.inside) c.self.invariant.sound c.self.inside.mkey_counts.items c.args.family c.self.invariant.mkeys ∙ ap (λ (p : Plain). mkey_users p c.args.family) c.self.view_is
