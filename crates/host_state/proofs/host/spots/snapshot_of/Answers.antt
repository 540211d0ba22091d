use Rattle.std.proofs.Common.{◌≡◌, ℕ, Option, Err, subst, sym}
use Rattle.key_ciphers.specs.Calls.{AnswersDone}
use Rattle.family_log.specs.Model.{FamilyState}
use Rattle.host_state.specs.SpotAnswers.{left_after}
use Rattle.host_state.specs.SpotLines.{replied, snapshot_left}
use Rattle.host_state.proofs.SpotLemmas.{refused_by, snapshot_by}
use Rattle.host_state.proofs.host.spots.snapshot_of.Goals as goal

pub returns-in-Some-clause-reply : goal.returns-in-Some-clause-reply
returns-in-Some-clause-reply g c =
    subst (λ (guid : Option ℕ). AnswersDone c.snapshot.result (replied (snapshot_left c.args.part.now guid c.args.head c.args.family.now).answer)) (sym c.in-Some.is)
    (snapshot_by c.args.part.now c.in-Some.guid c.args.head c.snapshot.result c.args.family.now c.snapshot.new.fam c.snapshot.ensures.answer c.snapshot.ensures.made c.snapshot.ensures.refused).0

pub returns-in-Some-clause-left : goal.returns-in-Some-clause-left
returns-in-Some-clause-left g c =
    subst (λ (guid : Option ℕ). c.snapshot.new.fam ≡ left_after c.snapshot.result c.args.family.now (snapshot_left c.args.part.now guid c.args.head c.args.family.now).state) (sym c.in-Some.is)
    (snapshot_by c.args.part.now c.in-Some.guid c.args.head c.snapshot.result c.args.family.now c.snapshot.new.fam c.snapshot.ensures.answer c.snapshot.ensures.made c.snapshot.ensures.refused).1

pub returns-in-None-clause-reply : goal.returns-in-None-clause-reply
returns-in-None-clause-reply g c =
    subst (λ (guid : Option ℕ). AnswersDone {T = Unit {0}} (Err c.refuse_snapshot.result) (replied (snapshot_left c.args.part.now guid c.args.head c.args.family.now).answer)) (sym c.in-None.is)
    (refused_by c.args.part.now c.args.head c.refuse_snapshot.result c.args.family.now c.refuse_snapshot.new.fam c.refuse_snapshot.ensures.answer c.refuse_snapshot.ensures.refused).0

pub returns-in-None-clause-left : goal.returns-in-None-clause-left
returns-in-None-clause-left g c =
    subst (λ (guid : Option ℕ). c.refuse_snapshot.new.fam ≡ left_after {X = FamilyState} (Err c.refuse_snapshot.result) c.args.family.now (snapshot_left c.args.part.now guid c.args.head c.args.family.now).state) (sym c.in-None.is)
    (refused_by c.args.part.now c.args.head c.refuse_snapshot.result c.args.family.now c.refuse_snapshot.new.fam c.refuse_snapshot.ensures.answer c.refuse_snapshot.ensures.refused).1
