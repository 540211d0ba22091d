use Rattle.std.proofs.Common.{◌≡◌, ℕ, false, List, Option, Some, None, Result, Ok, Err, is_none, option_map, refl, ap, sym, ◌∙◌, subst}
use Rattle.dataset_tree.specs.Tree.{Datasets, id_named, row_named}
use Rattle.dataset_tree.specs.declared.tree.Row.{Row}
use Rattle.dataset_tree.specs.declared.refusal.Refusal.{Refusal}
use Rattle.encryption_roots.specs.declared.command.KeyCmd.{KeyCmd}
use Rattle.encryption_roots.specs.declared.command.KeyCmd.TheVariants as commands
use Rattle.key_machine.specs.Inherit.{inherit_cases}
use Rattle.key_machine.specs.Plain.{Plain}
use Rattle.key_machine.specs.Refusals.{first_of}
use Rattle.key_machine.specs.Reply.{Stepped}
use Rattle.key_machine.specs.Step.{refusal_of, target, told}
use Rattle.key_machine.proofs.CreateLawsStep.{none_holds}
use Rattle.key_machine.proofs.SoundLemmas.{refused_step}
use Rattle.key_ciphers.specs.Ciphers.{ciphers}
use Rattle.key_ciphers.proofs.CipherLaws.{ciphers_sound}
use Rattle.change_key.specs.Keys.{root_key}
use Rattle.key_ciphers.specs.Calls.{stepped}
use Rattle.change_key.proofs.InheritLemmas.{is_a_root, old_stops, above_stops, opens, answers, plans, planned_of}
use Rattle.change_key.proofs.MaterialFaults.{fetched_apart}
use Rattle.change_key.proofs.PlanLemmas.{answers_gives, named}
use Rattle.change_key.proofs.inherit.plan_inherit.Goals as goal

pub returns-in-Err-clause-reply : goal.returns-in-Err-clause-reply
returns-in-Err-clause-reply g c =
    let p : Plain = g.V.KeyView.shows c.args.state.now in
    let state : first_of (inherit_cases p c.args.name.now c.args.load_first) ≡ None = sym c.inherit_refusal.ensures ∙ c.in_default.is in
    let at = named p c.args.name.now c.tree.result.now c.find.result c.in-Some-find.id c.tree.ensures c.find.ensures c.in-Some-find.is in
    answers_gives c.in-Err.stop (root_key ciphers p c.in-Some-find.id c.args.kit.now.old_key) (stepped p (commands.Inherit c.args.name.now c.args.load_first) c.args.kit.now).reply c.in-Err.ensures
    (λ why failed. ap (λ (st : Stepped). st.reply)
    (old_stops ciphers ciphers_sound p c.requires.sound c.args.name.now c.args.load_first c.args.kit.now c.in-Some-find.id state at (fetched_apart c.args.kit.now.old_key) why failed))

pub returns-in_default-loaded_above-clause-reply : goal.returns-in_default-loaded_above-clause-reply
returns-in_default-loaded_above-clause-reply g c =
    let p : Plain = g.V.KeyView.shows c.args.state.now in
    let state : first_of (inherit_cases p c.args.name.now c.args.load_first) ≡ None = sym c.inherit_refusal.ensures ∙ c.in_default.is in
    let at = named p c.args.name.now c.tree.result.now c.find.result c.in-Some-find.id c.tree.ensures c.find.ensures c.in-Some-find.is in
    ap (λ (st : Stepped). st.reply)
    (above_stops ciphers ciphers_sound p c.requires.sound c.args.name.now c.args.load_first c.args.kit.now c.in-Some-find.id state at c.in-Ok.old c.in-Ok.ensures (sym c.loaded_above.ensures ∙ c.in_default-loaded_above.is))

pub inherit_with-requires-clause-opens : goal.inherit_with-requires-clause-opens
inherit_with-requires-clause-opens g c =
    let p : Plain = g.V.KeyView.shows c.args.state.now in
    let state : first_of (inherit_cases p c.args.name.now c.args.load_first) ≡ None = sym c.inherit_refusal.ensures ∙ c.in_default.is in
    let at = named p c.args.name.now c.tree.result.now c.find.result c.in-Some-find.id c.tree.ensures c.find.ensures c.in-Some-find.is in
    opens ciphers ciphers_sound p c.requires.sound c.args.name.now c.args.load_first c.args.kit.now c.in-Some-find.id state at c.in-Ok.old c.in-Ok.ensures

pub returns-clause-reply : goal.returns-clause-reply
returns-clause-reply g c =
    let p : Plain = g.V.KeyView.shows c.args.state.now in
    let state : first_of (inherit_cases p c.args.name.now c.args.load_first) ≡ None = sym c.inherit_refusal.ensures ∙ c.in_default.is in
    let at = named p c.args.name.now c.tree.result.now c.find.result c.in-Some-find.id c.tree.ensures c.find.ensures c.in-Some-find.is in
    answers ciphers ciphers_sound p c.requires.sound c.args.name.now c.args.load_first c.args.kit.now c.in-Some-find.id state at c.in-Ok.old c.in-Ok.ensures c.in-Some-loaded_above.new (sym c.loaded_above.ensures ∙ c.in-Some-loaded_above.is) c.inherit_with.result
    c.inherit_with.ensures.plan c.inherit_with.ensures.fault

pub returns-clause-plan : goal.returns-clause-plan
returns-clause-plan g c =
    let p : Plain = g.V.KeyView.shows c.args.state.now in
    let state : first_of (inherit_cases p c.args.name.now c.args.load_first) ≡ None = sym c.inherit_refusal.ensures ∙ c.in_default.is in
    let at = named p c.args.name.now c.tree.result.now c.find.result c.in-Some-find.id c.tree.ensures c.find.ensures c.in-Some-find.is in
    plans ciphers ciphers_sound p c.requires.sound c.args.name.now c.args.load_first c.args.kit.now c.in-Some-find.id state at c.in-Ok.old c.in-Ok.ensures c.in-Some-loaded_above.new (sym c.loaded_above.ensures ∙ c.in-Some-loaded_above.is) c.inherit_with.result c.inherit_with.ensures.plan

pub returns-clause-planned : goal.returns-clause-planned
returns-clause-planned g c =
    let p : Plain = g.V.KeyView.shows c.args.state.now in
    let state : first_of (inherit_cases p c.args.name.now c.args.load_first) ≡ None = sym c.inherit_refusal.ensures ∙ c.in_default.is in
    let at = named p c.args.name.now c.tree.result.now c.find.result c.in-Some-find.id c.tree.ensures c.find.ensures c.in-Some-find.is in
    planned_of ciphers ciphers_sound p c.requires.sound c.args.name.now c.args.load_first c.args.kit.now c.in-Some-find.id state at c.in-Ok.old c.in-Ok.ensures c.in-Some-loaded_above.new (sym c.loaded_above.ensures ∙ c.in-Some-loaded_above.is) c.inherit_with.result c.inherit_with.ensures.plan
