use Rattle.std.proofs.Common.{sym, ap, ◌∙◌}
use Rattle.key_machine.specs.Plain.{Plain}
use Rattle.key_machine.specs.Reply.{Stepped, Reaped}
use Rattle.key_store.proofs.MountLemmas.{reap_told}
use Rattle.key_store.proofs.state.KeyState.drop_mapping.Goals as goal

pub returns-in-Some-clause-tells : goal.returns-in-Some-clause-tells
returns-in-Some-clause-tells g c = λ tells.
    reap_told c.close.result c.args.self.now c.close.new.self c.args.id c.in-Some.slot (sym (ap (λ (p : Plain). p.users) c.self.view_is)) (sym c.slot_of.ensures ∙ c.in-Some.is) (c.close.ensures.exact tells) c.close.ensures.closed
    c.close.ensures.kept
    ∙ ap (λ b. let stepped : Stepped = record { state = c.close.new.self; reply = Reaped c.args.id b } in stepped) (sym c.is_ok.ensures.value)
