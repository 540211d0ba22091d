use Rattle.std.proofs.Common.{◌≡◌, ◌∙◌, Result, Err, sym, subst}
use Rattle.dataset_tree.specs.declared.refusal.Stop.{Stop}
use Rattle.encryption_roots.specs.declared.command.KeyCmd.{KeyCmd}
use Rattle.encryption_roots.specs.declared.command.KeyCmd.TheVariants as commands
use Rattle.key_ciphers.specs.Ciphers.{ciphers}
use Rattle.key_machine.specs.Plain.{Plain}
use Rattle.key_machine.specs.Step.{told}
use Rattle.key_store.specs.Agrees.{Agrees}
use Rattle.key_store.specs.Calls.{state_after, stepped}
use Rattle.key_machine.specs.declared.view.ChangePlan.{ChangePlan}
use Rattle.host_state.proofs.ChangeLemmas.{inherit_stopped}
use Rattle.host_state.proofs.lone_keys.LoneKeys.inherit.Goals as goal

pub invariant_of-self : goal.invariant_of-self
invariant_of-self c =
    let before : Plain = c.self.inside.keys in
    let command : KeyCmd = commands.Inherit c.args.name.now c.args.load_first in
    subst (Agrees c.self.inside.words) (sym (c.apply_change.ensures ∙ c.in-Ok.ensures.plan.state))
    (c.key_commands_leave_the_slots.ensures.inherit c.self.inside.words before c.args.name.now c.args.load_first (told ciphers before command c.args.kit.now) c.self.invariant)

pub returns-in-Err-clause-state : goal.returns-in-Err-clause-state
returns-in-Err-clause-state c =
    subst (λ (p : Plain). p ≡ state_after (let ended : Result (Unit {0}) Stop = Err c.in-Err.stop in ended) p (stepped p (commands.Inherit c.args.name.now c.args.load_first) c.args.kit.now).state) c.self.view_is
    (inherit_stopped ChangePlan c.in-Err.stop c.self.inside.keys c.args.name.now c.args.load_first c.args.kit.now c.in-Err.ensures.reply)
