use Rattle.std.proofs.Common.{ℕ, List, None, Some, subst}
use Rattle.family_log.specs.Model.{FamilyState}
use Rattle.host_state.specs.FileAnswers.{IsPlaceOf}
use Rattle.host_state.proofs.SpotHosts.{cloned_at, cloned_none, new_at}
use Rattle.host_state.proofs.host.spots.clone_in.Goals as goal

pub add_clone-requires : goal.add_clone-requires
add_clone-requires g c =
    new_at c.args.families.now.items c.in-Some.at c.args.family c.index_mut.result.now c.args.keys.now.tree.last (subst (λ (es : List (ℕ × FamilyState)). IsPlaceOf c.args.family es (Some c.in-Some.at)) c.as_slice.ensures.value c.in-Some.ensures) c.index_mut.ensures.value c.requires.up_to

pub returns-in-Some : goal.returns-in-Some
returns-in-Some g c =
    cloned_at c.args.families.now.items c.in-Some.at c.args.family c.index_mut.result.now c.add_clone.new.family c.add_clone.result c.args.from.now c.args.name.now c.args.spot.now c.args.keys.now c.add_clone.new.keys
    (subst (λ (es : List (ℕ × FamilyState)). IsPlaceOf c.args.family es (Some c.in-Some.at)) c.as_slice.ensures.value c.in-Some.ensures) c.index_mut.ensures.value c.add_clone.ensures

pub returns-in-None : goal.returns-in-None
returns-in-None g c = cloned_none c.args.families.now.items c.args.family c.args.from.now c.args.name.now c.args.spot.now c.args.keys.now (subst (λ (es : List (ℕ × FamilyState)). IsPlaceOf c.args.family es None) c.as_slice.ensures.value c.in-None.ensures)
