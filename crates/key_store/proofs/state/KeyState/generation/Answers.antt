use Rattle.std.proofs.Common.{◌<◌, ℕ, List, length, ap, sym, ◌∙◌, subst}
use Rattle.std.specs.Prelude.{slice_index}
use Rattle.key_machine.specs.Plain.{Plain}
use Rattle.key_machine.specs.Users.{generation_of}
use Rattle.key_store.proofs.CountLemmas.{slot_within, gens_there, own_mount_now, mount_alone}
use Rattle.key_store.proofs.state.KeyState.generation.Goals as goal

pub generation_at-requires : goal.generation_at-requires
generation_at-requires c =
    subst (λ (gens : List ℕ). c.args.slot < length gens) (sym c.as_slice.ensures.value) (gens_there c.self.inside c.args.self.now c.self.view_is c.self.invariant c.args.id c.args.slot c.requires)

pub returns-clause-generation : goal.returns-clause-generation
returns-clause-generation c =
    c.generation_at.ensures ∙ ap (λ (gens : List ℕ). slice_index gens c.args.slot) c.as_slice.ensures.value ∙ ap (λ (p : Plain). generation_of p c.args.slot) c.self.view_is

pub returns-clause-there : goal.returns-clause-there
returns-clause-there c = slot_within c.self.inside c.args.self.now c.self.view_is c.self.invariant c.args.id c.args.slot c.requires

pub returns-clause-mounted : goal.returns-clause-mounted
returns-clause-mounted c = own_mount_now c.self.inside c.args.self.now c.self.view_is c.self.invariant c.args.id c.args.slot c.requires

pub returns-clause-users : goal.returns-clause-users
returns-clause-users c = mount_alone c.self.inside c.args.self.now c.self.view_is c.self.invariant c.args.id c.args.slot c.requires
