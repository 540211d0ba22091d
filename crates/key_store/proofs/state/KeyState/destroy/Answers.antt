use Rattle.std.proofs.Common.{◌≡◌, ◌≤◌, ℕ, Bool, List, Option, Some, None, is_some, refl, ap, sym, ◌∙◌, subst}
use Rattle.dataset_tree.specs.declared.refusal.Refusal.{Refusal}
use Rattle.dataset_tree.specs.declared.refusal.Refusal.TheVariants.{Busy}
use Rattle.dataset_tree.specs.Tree.{id_named, is_needed, row_of}
use Rattle.encryption_roots.specs.ById.{at_id}
use Rattle.encryption_roots.specs.Owners.{family}
use Rattle.encryption_roots.proofs.ByIdLemmas.{at_id-without_id, at_id-without_id_other}
use Rattle.key_machine.specs.Destroy.{destroyed, destroyed_unless}
use Rattle.key_machine.specs.Kept.{KeepsKey}
use Rattle.key_machine.specs.Plain.{Plain}
use Rattle.key_machine.specs.Reply.{Stepped}
use Rattle.key_machine.specs.Sound.{Sound}
use Rattle.key_machine.specs.Unload.{InUse}
use Rattle.key_machine.proofs.MountSteps.{kept_here}
use Rattle.key_ciphers.specs.Ciphers.{ciphers}
use Rattle.key_store.specs.Agrees.{IsRefused}
use Rattle.key_store.specs.Calls.{found_as}
use Rattle.key_store.proofs.DestroyLemmas.{accepted_step, refused_step, own_use, never_busy, unneeded, mapping_first, mapping_kept, record_kept}
use Rattle.key_store.proofs.state.KeyState.destroy.Goals as goal

-- ---- refused by the state

pub returns-in-Some-clause-reply : goal.returns-in-Some-clause-reply
returns-in-Some-clause-reply g c = λ name found.
    ap (λ (stepped : Stepped). stepped.reply) (refused_step c.args.self.now c.args.id c.args.snaps name found (found_as c.in-Some.why) c.in-Some.why (sym c.use_refusal.ensures ∙ c.in-Some.is))

pub returns-in-Some-clause-state : goal.returns-in-Some-clause-state
returns-in-Some-clause-state g c = λ name found.
    sym (ap (λ (stepped : Stepped). stepped.state) (refused_step c.args.self.now c.args.id c.args.snaps name found (found_as c.in-Some.why) c.in-Some.why (sym c.use_refusal.ensures ∙ c.in-Some.is)))

pub returns-in-Some-clause-told_reply : goal.returns-in-Some-clause-told_reply
returns-in-Some-clause-told_reply g c = λ tells name found.
    ap (λ (stepped : Stepped). stepped.reply) (refused_step c.args.self.now c.args.id c.args.snaps name found _ c.in-Some.why (sym c.use_refusal.ensures ∙ c.in-Some.is))

pub returns-in-Some-clause-told_state : goal.returns-in-Some-clause-told_state
returns-in-Some-clause-told_state g c = λ tells name found.
    sym (ap (λ (stepped : Stepped). stepped.state) (refused_step c.args.self.now c.args.id c.args.snaps name found _ c.in-Some.why (sym c.use_refusal.ensures ∙ c.in-Some.is)))

pub returns-in-Some-clause-mappings : goal.returns-in-Some-clause-mappings
returns-in-Some-clause-mappings g c = λ other slot apart there. kept_here ciphers c.args.self.now other slot there

pub returns-in-Some-clause-busy : goal.returns-in-Some-clause-busy
returns-in-Some-clause-busy g c = λ dataset count is.
    absurd (never_busy c.args.self.now c.args.id c.args.snaps dataset count
    (sym c.use_refusal.ensures ∙ c.in-Some.is ∙ ap (λ (why : Refusal). Some why) (let same : c.in-Some.why ≡ Busy dataset count = cc in same)))

-- ---- in use

pub returns-in-Err-clause-reply : goal.returns-in-Err-clause-reply
returns-in-Err-clause-reply g c = λ name found.
    ap (λ (stepped : Stepped). stepped.reply) (accepted_step c.args.self.now c.args.id c.args.snaps name found (Some (let busy : InUse = record { dataset = c.args.id; count = c.from.result } in busy)) (sym c.use_refusal.ensures ∙ c.in_default.is))

pub returns-in-Err-clause-state : goal.returns-in-Err-clause-state
returns-in-Err-clause-state g c = λ name found.
    c.in-Err.ensures.kept
    ∙ sym (ap (λ (stepped : Stepped). stepped.state) (accepted_step c.args.self.now c.args.id c.args.snaps name found (Some (let busy : InUse = record { dataset = c.args.id; count = c.from.result } in busy)) (sym c.use_refusal.ensures ∙ c.in_default.is)))

pub returns-in-Err-clause-told_reply : goal.returns-in-Err-clause-told_reply
returns-in-Err-clause-told_reply g c = λ tells name found.
    ap (λ (stepped : Stepped). stepped.reply)
    (own_use c.args.self.now c.args.id c.args.snaps name found (Some (let busy : InUse = record { dataset = c.args.id; count = c.from.result } in busy)) (c.in-Err.ensures.used tells ∙ ap (λ (n : ℕ). Some (let busy : InUse = record { dataset = c.args.id; count = n } in busy)) (sym (c.from.ensures ∙ c.count.ensures)))
    ∙ accepted_step c.args.self.now c.args.id c.args.snaps name found (Some (let busy : InUse = record { dataset = c.args.id; count = c.from.result } in busy)) (sym c.use_refusal.ensures ∙ c.in_default.is))

pub returns-in-Err-clause-told_state : goal.returns-in-Err-clause-told_state
returns-in-Err-clause-told_state g c = λ tells name found.
    c.in-Err.ensures.kept
    ∙ sym (ap (λ (stepped : Stepped). stepped.state)
    (own_use c.args.self.now c.args.id c.args.snaps name found (Some (let busy : InUse = record { dataset = c.args.id; count = c.from.result } in busy)) (c.in-Err.ensures.used tells ∙ ap (λ (n : ℕ). Some (let busy : InUse = record { dataset = c.args.id; count = n } in busy)) (sym (c.from.ensures ∙ c.count.ensures)))
    ∙ accepted_step c.args.self.now c.args.id c.args.snaps name found (Some (let busy : InUse = record { dataset = c.args.id; count = c.from.result } in busy)) (sym c.use_refusal.ensures ∙ c.in_default.is)))

pub returns-in-Err-clause-mappings : goal.returns-in-Err-clause-mappings
returns-in-Err-clause-mappings g c = λ other slot apart there.
    subst (λ (after : Plain). KeepsKey ciphers c.args.self.now after other slot) (sym c.in-Err.ensures.kept) (kept_here ciphers c.args.self.now other slot there)

pub returns-in-Err-clause-busy : goal.returns-in-Err-clause-busy
returns-in-Err-clause-busy g c = λ dataset count is.
    let own : c.args.id ≡ dataset = cc in
    let number : c.from.result ≡ count = cc in
    let counted : c.count.result ≡ count = sym c.from.ensures ∙ number in
    let found : _ ≡ count = sym c.count.ensures ∙ counted in (
      sym own,
      c.in-Err.ensures.refused.0,
      c.in-Err.ensures.refused.1,
      subst (λ (n : ℕ). 1 ≤ n) found c.in-Err.ensures.refused.2,
      subst (λ (n : ℕ). IsRefused (g.K.SlotKeeper.told c.args.keeper.now) (g.K.SlotKeeper.told c.close_own.new.keeper) c.in-Err.ensures.refused.0 n) found c.in-Err.ensures.refused.3,
    )

-- ---- done

pub forget-requires-clause-there : goal.forget-requires-clause-there
forget-requires-clause-there g c = ap (λ (p : Plain). is_some (row_of c.args.id p.tree.rows)) c.in_default-close_own.ensures.closed ∙ c.requires.there

pub forget-requires-clause-free : goal.forget-requires-clause-free
forget-requires-clause-free g c =
    ap (λ (p : Plain). is_needed c.args.id p.tree.rows) c.in_default-close_own.ensures.closed ∙ unneeded c.args.self.now c.args.id c.args.snaps (sym c.use_refusal.ensures ∙ c.in_default.is)

pub forget-requires-clause-unmapped : goal.forget-requires-clause-unmapped
forget-requires-clause-unmapped g c = ap (λ (p : Plain). at_id c.args.id p.mapped) c.in_default-close_own.ensures.closed ∙ at_id-without_id c.args.id c.args.self.now.mapped

pub returns-clause-done : goal.returns-clause-done
returns-clause-done g c = c.forget.ensures.gone ∙ mapping_first c.args.self.now c.close_own.new.self c.args.id c.in_default-close_own.ensures.closed

pub returns-clause-reply : goal.returns-clause-reply
returns-clause-reply g c = λ name found.
    ap (λ (stepped : Stepped). stepped.reply) (accepted_step c.args.self.now c.args.id c.args.snaps name found None (sym c.use_refusal.ensures ∙ c.in_default.is))

pub returns-clause-state : goal.returns-clause-state
returns-clause-state g c = λ name found.
    c.forget.ensures.gone ∙ mapping_first c.args.self.now c.close_own.new.self c.args.id c.in_default-close_own.ensures.closed
    ∙ sym (ap (λ (stepped : Stepped). stepped.state) (accepted_step c.args.self.now c.args.id c.args.snaps name found None (sym c.use_refusal.ensures ∙ c.in_default.is)))

pub returns-clause-told_reply : goal.returns-clause-told_reply
returns-clause-told_reply g c = λ tells name found.
    ap (λ (stepped : Stepped). stepped.reply)
    (own_use c.args.self.now c.args.id c.args.snaps name found None (c.in_default-close_own.ensures.idle tells) ∙ accepted_step c.args.self.now c.args.id c.args.snaps name found None (sym c.use_refusal.ensures ∙ c.in_default.is))

pub returns-clause-told_state : goal.returns-clause-told_state
returns-clause-told_state g c = λ tells name found.
    c.forget.ensures.gone ∙ mapping_first c.args.self.now c.close_own.new.self c.args.id c.in_default-close_own.ensures.closed
    ∙ sym (ap (λ (stepped : Stepped). stepped.state)
    (own_use c.args.self.now c.args.id c.args.snaps name found None (c.in_default-close_own.ensures.idle tells) ∙ accepted_step c.args.self.now c.args.id c.args.snaps name found None (sym c.use_refusal.ensures ∙ c.in_default.is)))

pub returns-clause-keys : goal.returns-clause-keys
returns-clause-keys g c = λ root apart.
    ap (λ (p : Plain). at_id root p.loaded) (c.forget.ensures.gone ∙ mapping_first c.args.self.now c.close_own.new.self c.args.id c.in_default-close_own.ensures.closed)
    ∙ at_id-without_id_other c.args.id root c.args.self.now.loaded apart

pub returns-clause-mappings : goal.returns-clause-mappings
returns-clause-mappings g c = λ other slot apart there.
    let sound : Sound ciphers c.args.self.now = subst (λ (p : Plain). Sound ciphers p) c.self.view_is c.self.invariant.sound in
    subst (λ (after : Plain). KeepsKey ciphers c.args.self.now after other slot)
    (sym (c.forget.ensures.gone ∙ mapping_first c.args.self.now c.close_own.new.self c.args.id c.in_default-close_own.ensures.closed))
    (mapping_kept c.args.self.now c.args.id sound (unneeded c.args.self.now c.args.id c.args.snaps (sym c.use_refusal.ensures ∙ c.in_default.is)) other slot apart there)

pub returns-clause-records : goal.returns-clause-records
returns-clause-records g c = λ other row apart there.
    ap (λ (p : Plain). at_id (family c.args.self.now.tree.rows other) p.wrapped) (c.forget.ensures.gone ∙ mapping_first c.args.self.now c.close_own.new.self c.args.id c.in_default-close_own.ensures.closed)
    ∙ record_kept c.args.self.now c.args.id other row apart there

pub returns-clause-agrees : goal.returns-clause-agrees
returns-clause-agrees g c = c.forget.ensures.agrees (g.K.SlotKeeper.told c.close_own.new.keeper) c.in_default-close_own.ensures.agrees
