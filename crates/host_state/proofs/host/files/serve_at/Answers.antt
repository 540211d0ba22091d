use Rattle.std.proofs.Common.{◌≡◌, ℕ, List, Some, subst}
use Rattle.family_log.specs.Model.{FamilyState}
use Rattle.host_state.specs.FileAnswers.{IsPlaceOf}
use Rattle.host_state.proofs.FileLemmas.{held_at, served_one}
use Rattle.host_state.proofs.host.files.serve_at.Goals as goal

pub serve-requires : goal.serve-requires
serve-requires g c =
    let place = subst (λ (es : List (ℕ × FamilyState)). IsPlaceOf c.args.family es (Some c.in-Some.at)) c.as_slice.ensures.value c.in-Some.ensures in
    held_at (λ state. state.guid ≡ c.args.key.now.guid) c.args.families.now.items c.in-Some.at c.args.family c.index_mut.result.now place c.index_mut.ensures.value c.requires.guid

pub returns-in-Some : goal.returns-in-Some
returns-in-Some g c =
    let place = subst (λ (es : List (ℕ × FamilyState)). IsPlaceOf c.args.family es (Some c.in-Some.at)) c.as_slice.ensures.value c.in-Some.ensures in
    served_one c.serve.result c.args.families.now.items c.in-Some.at c.args.family c.args.head c.index_mut.result.now c.serve.new.family c.args.key.now c.args.command.now
    place c.index_mut.ensures.value c.serve.ensures
