use Rattle.std.proofs.Common.{ℕ, List, None, Some, subst}
use Rattle.family_log.specs.Model.{FamilyState}
use Rattle.host_state.specs.FileAnswers.{IsPlaceOf}
use Rattle.dataset_tree.specs.declared.refusal.Refusal.TheVariants.{NoSnapshot}
use Rattle.host_state.specs.SpotLines.{drop_left}
use Rattle.host_state.proofs.SpotLemmas.{none_left, none_replies, one_left, one_replies}
use Rattle.host_state.proofs.host.spots.drop_in.Goals as goal

pub returns-in-Some-clause-reply : goal.returns-in-Some-clause-reply
returns-in-Some-clause-reply g c =
    one_replies c.args.families.now.items c.in-Some.at c.args.family c.index_mut.result.now (subst (λ (es : List (ℕ × FamilyState)). IsPlaceOf c.args.family es (Some c.in-Some.at)) c.as_slice.ensures.value c.in-Some.ensures) c.index_mut.ensures.value NoSnapshot (drop_left c.args.spot.now) c.drop_of.result c.drop_of.ensures.reply

pub returns-in-Some-clause-left : goal.returns-in-Some-clause-left
returns-in-Some-clause-left g c =
    one_left c.args.families.now.items c.in-Some.at c.args.family c.index_mut.result.now (subst (λ (es : List (ℕ × FamilyState)). IsPlaceOf c.args.family es (Some c.in-Some.at)) c.as_slice.ensures.value c.in-Some.ensures) c.index_mut.ensures.value NoSnapshot (drop_left c.args.spot.now) c.drop_of.result c.drop_of.new.family
    c.drop_of.ensures.left

pub returns-in-None-clause-reply : goal.returns-in-None-clause-reply
returns-in-None-clause-reply g c = none_replies c.args.families.now.items c.args.family NoSnapshot (drop_left c.args.spot.now) (subst (λ (es : List (ℕ × FamilyState)). IsPlaceOf c.args.family es None) c.as_slice.ensures.value c.in-None.ensures)

pub returns-in-None-clause-left : goal.returns-in-None-clause-left
returns-in-None-clause-left g c = none_left c.args.families.now.items c.args.family NoSnapshot (drop_left c.args.spot.now) (subst (λ (es : List (ℕ × FamilyState)). IsPlaceOf c.args.family es None) c.as_slice.ensures.value c.in-None.ensures)
