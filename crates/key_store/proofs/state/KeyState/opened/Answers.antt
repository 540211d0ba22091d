use Rattle.std.proofs.Common.{ap, ◌∙◌}
use Rattle.std.specs.Option.{option_map, option_copied}
use Rattle.encryption_roots.specs.ById.{at_id}
use Rattle.key_machine.specs.Counts.{is_opened}
use Rattle.key_machine.specs.Plain.{Plain}
use Rattle.key_ciphers.specs.Ciphers.{ciphers, master_of}
use Rattle.key_store.specs.State.{plain_of}
use Rattle.key_store.proofs.OpenedLemmas.{opened_there}
use Rattle.key_store.proofs.state.KeyState.opened.Goals as goal

pub returns-clause-mapped : goal.returns-clause-mapped
returns-clause-mapped c =
    opened_there ciphers (plain_of c.self.inside) c.args.family (option_copied c.at_id.result) c.self.invariant.sound
    (ap (λ found. option_map master_of found) (c.at_id.ensures ∙ ap (λ entries. at_id c.args.family entries) c.as_slice.ensures.value) ∙ c.self.invariant.opened c.args.family)
    ∙ ap (λ (q : Plain). is_opened q c.args.family) c.self.view_is
