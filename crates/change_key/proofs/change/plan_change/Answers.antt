use Rattle.std.proofs.Common.{◌≡◌, ℕ, false, List, Option, Some, None, Result, Ok, Err, is_none, option_map, refl, ap, sym, ◌∙◌, subst}
use Rattle.dataset_tree.specs.Tree.{Datasets, id_named, row_named}
use Rattle.dataset_tree.specs.declared.tree.Row.{Row}
use Rattle.dataset_tree.specs.declared.refusal.Refusal.{Refusal}
use Rattle.encryption_roots.specs.declared.command.KeyCmd.{KeyCmd}
use Rattle.encryption_roots.specs.declared.command.KeyCmd.TheVariants as commands
use Rattle.key_machine.specs.Change.{change_cases}
use Rattle.key_machine.specs.Plain.{Plain}
use Rattle.key_machine.specs.Refusals.{first_of}
use Rattle.key_machine.specs.Reply.{Stepped}
use Rattle.key_machine.specs.Step.{refusal_of, target, told}
use Rattle.key_machine.proofs.CreateLawsStep.{none_holds}
use Rattle.key_machine.proofs.SoundLemmas.{refused_step}
use Rattle.key_ciphers.specs.Ciphers.{ciphers}
use Rattle.key_ciphers.proofs.CipherLaws.{ciphers_sound}
use Rattle.change_key.specs.Keys.{present_key}
use Rattle.key_ciphers.specs.Calls.{stepped}
use Rattle.change_key.proofs.ChangeLemmas.{encrypted, iterations, old_stops, opens, answers, plans, planned_of}
use Rattle.change_key.proofs.PlanLemmas.{answers_gives, named}
use Rattle.change_key.proofs.change.plan_change.Goals as goal

pub present_key-requires-clause-encrypted : goal.present_key-requires-clause-encrypted
present_key-requires-clause-encrypted g c =
    let p : Plain = g.V.KeyView.shows c.args.state.now in
    let state : first_of (change_cases p c.args.name.now c.args.opts.now c.args.load_first) ≡ None = sym c.change_refusal.ensures ∙ c.in_default.is in
    encrypted ciphers ciphers_sound p c.requires.sound c.args.name.now c.args.opts.now c.args.load_first c.args.kit.now c.in-Some-find.id state
    (named p c.args.name.now c.tree.result.now c.find.result c.in-Some-find.id c.tree.ensures c.find.ensures c.in-Some-find.is)

pub returns-in-Err-clause-reply : goal.returns-in-Err-clause-reply
returns-in-Err-clause-reply g c =
    let p : Plain = g.V.KeyView.shows c.args.state.now in
    let state : first_of (change_cases p c.args.name.now c.args.opts.now c.args.load_first) ≡ None = sym c.change_refusal.ensures ∙ c.in_default.is in
    let at = named p c.args.name.now c.tree.result.now c.find.result c.in-Some-find.id c.tree.ensures c.find.ensures c.in-Some-find.is in
    answers_gives c.in-Err.stop (present_key ciphers p c.in-Some-find.id c.args.kit.now.old_key) (stepped p (commands.Change c.args.name.now c.args.opts.now c.args.load_first) c.args.kit.now).reply c.in-Err.ensures
    (λ why failed. ap (λ (st : Stepped). st.reply)
    (old_stops ciphers ciphers_sound p c.requires.sound c.args.name.now c.args.opts.now c.args.load_first c.args.kit.now c.in-Some-find.id state at why failed))

pub change_with-requires-clause-opens : goal.change_with-requires-clause-opens
change_with-requires-clause-opens g c =
    let p : Plain = g.V.KeyView.shows c.args.state.now in
    let state : first_of (change_cases p c.args.name.now c.args.opts.now c.args.load_first) ≡ None = sym c.change_refusal.ensures ∙ c.in_default.is in
    let at = named p c.args.name.now c.tree.result.now c.find.result c.in-Some-find.id c.tree.ensures c.find.ensures c.in-Some-find.is in
    opens ciphers ciphers_sound p c.requires.sound c.args.name.now c.args.opts.now c.args.load_first c.args.kit.now c.in-Some-find.id state at c.in-Ok.old c.in-Ok.ensures

pub returns-clause-reply : goal.returns-clause-reply
returns-clause-reply g c =
    let p : Plain = g.V.KeyView.shows c.args.state.now in
    let state : first_of (change_cases p c.args.name.now c.args.opts.now c.args.load_first) ≡ None = sym c.change_refusal.ensures ∙ c.in_default.is in
    let at = named p c.args.name.now c.tree.result.now c.find.result c.in-Some-find.id c.tree.ensures c.find.ensures c.in-Some-find.is in
    answers ciphers ciphers_sound p c.requires.sound c.args.name.now c.args.opts.now c.args.load_first c.args.kit.now c.in-Some-find.id state at c.in-Ok.old c.in-Ok.ensures c.change_with.result
    c.change_with.ensures.plan c.change_with.ensures.fault

pub returns-clause-plan : goal.returns-clause-plan
returns-clause-plan g c =
    let p : Plain = g.V.KeyView.shows c.args.state.now in
    let state : first_of (change_cases p c.args.name.now c.args.opts.now c.args.load_first) ≡ None = sym c.change_refusal.ensures ∙ c.in_default.is in
    let at = named p c.args.name.now c.tree.result.now c.find.result c.in-Some-find.id c.tree.ensures c.find.ensures c.in-Some-find.is in
    plans ciphers ciphers_sound p c.requires.sound c.args.name.now c.args.opts.now c.args.load_first c.args.kit.now c.in-Some-find.id state at c.in-Ok.old c.in-Ok.ensures c.change_with.result c.change_with.ensures.plan

pub returns-clause-planned : goal.returns-clause-planned
returns-clause-planned g c =
    let p : Plain = g.V.KeyView.shows c.args.state.now in
    let state : first_of (change_cases p c.args.name.now c.args.opts.now c.args.load_first) ≡ None = sym c.change_refusal.ensures ∙ c.in_default.is in
    let at = named p c.args.name.now c.tree.result.now c.find.result c.in-Some-find.id c.tree.ensures c.find.ensures c.in-Some-find.is in
    planned_of ciphers ciphers_sound p c.requires.sound c.args.name.now c.args.opts.now c.args.load_first c.args.kit.now c.in-Some-find.id state at c.in-Ok.old c.in-Ok.ensures c.change_with.result c.change_with.ensures.plan
