use Rattle.std.proofs.Common.{ℕ, List, Some, subst}
use Rattle.family_log.specs.Model.{FamilyState}
use Rattle.host_state.specs.FileAnswers.{IsPlaceOf}
use Rattle.host_state.proofs.SpotLemmas.{removed_at}
use Rattle.host_state.proofs.host.spots.remove_head.Goals as goal

pub returns-in-Some : goal.returns-in-Some
returns-in-Some g c =
    removed_at c.args.families.now.items c.in-Some.at c.args.family c.index_mut.result.now c.args.head c.remove_head.new.self (subst (λ (es : List (ℕ × FamilyState)). IsPlaceOf c.args.family es (Some c.in-Some.at)) c.as_slice.ensures.value c.in-Some.ensures) c.index_mut.ensures.value c.remove_head.ensures.removed
