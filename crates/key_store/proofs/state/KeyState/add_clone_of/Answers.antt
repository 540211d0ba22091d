use Rattle.std.proofs.Common.{◌≡◌, ◌+◌, refl, ap, sym, ◌∙◌, subst}
use Rattle.dataset_tree.specs.Tree.{Datasets}
use Rattle.key_machine.specs.Plain.{Plain}
use Rattle.key_machine.specs.Reply.{Made}
use Rattle.key_store.specs.State.{IsKept}
use Rattle.key_store.proofs.ClonedLemmas.{new_is, origin_there, clone_reply, clone_is, clone_agrees, clone_kept}
use Rattle.key_store.proofs.state.KeyState.add_clone_of.Goals as goal

pub add_free_clone-requires-clause-free : goal.add_free_clone-requires-clause-free
add_free_clone-requires-clause-free c = new_is c.self.inside c.args.self.now c.self.view_is c.self.invariant c.args.from.now c.args.name.now c.args.origin c.requires.accepted c.requires.named

pub add_free_clone-requires-clause-origin : goal.add_free_clone-requires-clause-origin
add_free_clone-requires-clause-origin c = origin_there c.self.inside c.args.self.now c.self.view_is c.self.invariant c.args.from.now c.args.name.now c.args.origin c.requires.accepted c.requires.named

pub invariant_of-self : goal.invariant_of-self
invariant_of-self c = subst (λ (t : Datasets). IsKept (record c.self.inside { tree = t })) (sym c.in_err-id.ensures.same) c.self.invariant

pub invariant_of-self-2 : goal.invariant_of-self-2
invariant_of-self-2 c = clone_kept c.self.inside c.args.self.now c.self.view_is c.self.invariant c.args.from.now c.args.name.now c.args.origin c.requires.accepted c.requires.named (record c.self.inside { tree = c.add_free_clone.new.tree }) refl c.in_ok-id.ensures.added

pub returns-clause-reply : goal.returns-clause-reply
returns-clause-reply c =
    clone_reply c.self.inside c.args.self.now c.self.view_is c.self.invariant c.args.from.now c.args.name.now c.args.origin c.requires.accepted c.requires.named
    ∙ ap (λ (p : Plain). Made (p.tree.last + 1)) (sym c.self.view_is) ∙ ap (λ id. Made id) (sym c.in_ok-id.ensures.id)

pub returns-clause-state : goal.returns-clause-state
returns-clause-state c = clone_is c.self.inside c.args.self.now c.self.view_is c.self.invariant c.args.from.now c.args.name.now c.args.origin c.requires.accepted c.requires.named (record c.self.inside { tree = c.add_free_clone.new.tree }) refl c.in_ok-id.ensures.added

pub returns-clause-agrees : goal.returns-clause-agrees
returns-clause-agrees c = clone_agrees c.self.inside c.args.self.now c.self.view_is c.self.invariant c.args.from.now c.args.name.now c.args.origin c.requires.accepted c.requires.named (record c.self.inside { tree = c.add_free_clone.new.tree }) refl c.in_ok-id.ensures.added
