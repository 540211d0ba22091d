use Rattle.std.proofs.Common.{◌≡◌, ◌<◌, length, false, refl, sym, subst}
use Rattle.family_log.specs.declared.head.TheConstants.{MAX_SNAPSHOTS}
use Rattle.family_log.specs.Model.{FamilyState, snapshot_count}
use Rattle.family_log.specs.Snapshots.{has_snapshot, snapshot_added}
use Rattle.family_log.specs.Honest.{IsHonest}
use Rattle.family_log.proofs.KeptLemmas.{IsFamily-snapshot, IsHonest-snapshot}
use Rattle.family_log.proofs.family.Family.add_snapshot.Goals as goal

pub invariant_of-self-in-Ok : goal.invariant_of-self-in-Ok
invariant_of-self-in-Ok g c =
    let family : FamilyState = record {
      guid = c.self.inside.guid;
      block = c.self.inside.block;
      room = c.self.inside.room;
      heads = c.self.inside.heads.items;
      log = c.self.inside.log.items;
      salts = c.self.inside.salts;
      shelf = g.B.Shelf.told c.self.inside.shelf;
    } in
    let P : FamilyState → Type 0 = λ old. (has_snapshot c.args.head c.args.part.now old.heads ≡ false)
    × (snapshot_count old.heads < MAX_SNAPSHOTS) × (length old.log < old.room) in
    let is : P family = subst P (sym c.self.view_is) (c.requires.fresh, c.requires.few, c.requires.room) in
    rw (c.in-Ok.ensures.added, c.in_ok-push.ensures.items, c.in_ok-copy.ensures)
    (IsFamily-snapshot family c.args.head c.args.part.now c.args.guid c.self.invariant is.0 is.1 is.2)

pub returns-in-Ok-clause-honest : goal.returns-in-Ok-clause-honest
returns-in-Ok-clause-honest g c = λ honest.
    let family : FamilyState = record {
      guid = c.self.inside.guid;
      block = c.self.inside.block;
      room = c.self.inside.room;
      heads = c.self.inside.heads.items;
      log = c.self.inside.log.items;
      salts = c.self.inside.salts;
      shelf = g.B.Shelf.told c.self.inside.shelf;
    } in
    let after : FamilyState = record family { heads = c.add_snapshot.new.heads.items; log = c.push.new.self.items } in
    let none : has_snapshot c.args.head c.args.part.now family.heads ≡ false =
    subst (λ (f : FamilyState). has_snapshot c.args.head c.args.part.now f.heads ≡ false) (sym c.self.view_is) c.requires.fresh in
    let is : after ≡ snapshot_added c.args.head c.args.part.now c.args.guid family =
    rw (c.in-Ok.ensures.added, c.in_ok-push.ensures.items, c.in_ok-copy.ensures) refl in
    subst IsHonest (sym is)
    (IsHonest-snapshot family c.args.head c.args.part.now c.args.guid c.self.invariant none (subst IsHonest (sym c.self.view_is) honest))
