use Rattle.std.proofs.Common.{◌≡◌, ◌<◌, length, Ok, refl, sym, subst}
use Rattle.family_log.specs.Model.{FamilyState}
use Rattle.family_log.specs.Noted.{noted}
use Rattle.family_log.specs.Calls.{new_place, with_entry}
use Rattle.family_log.specs.Honest.{IsHonest}
use Rattle.family_log.proofs.HeadLemmas.{room_left}
use Rattle.family_log.proofs.HonestLemmas.{IsFamily-noted, IsHonest-noted}
use Rattle.family_log.proofs.family.Family.note_read.Goals as goal

pub invariant_of-self-2 : goal.invariant_of-self-2
invariant_of-self-2 g c =
    let place_is : new_place c.args.self.now c.args.spot.head ≡ Ok c.in_ok-place.place = c.in_ok-place.ensures in
    let family : FamilyState = record {
      guid = c.self.inside.guid;
      block = c.self.inside.block;
      room = c.self.inside.room;
      heads = c.self.inside.heads.items;
      log = c.self.inside.log.items;
      salts = c.self.inside.salts;
      shelf = g.B.Shelf.told c.self.inside.shelf;
    } in
    let left : length family.log < family.room =
    subst (λ (old : FamilyState). length old.log < old.room) (sym c.self.view_is) (room_left c.args.self.now c.args.spot.head c.in_ok-place.place place_is) in
    rw (c.in_ok-push.ensures.items, c.entry.ensures) (IsFamily-noted family c.args.spot c.args.what c.self.invariant left)

pub returns-clause-honest : goal.returns-clause-honest
returns-clause-honest g c = λ honest.
    let after : FamilyState = record {
      guid = c.self.inside.guid;
      block = c.self.inside.block;
      room = c.self.inside.room;
      heads = c.self.inside.heads.items;
      log = c.push.new.self.items;
      salts = c.self.inside.salts;
      shelf = g.B.Shelf.told c.self.inside.shelf;
    } in
    let is : after ≡ with_entry (noted c.args.spot c.args.what) c.args.self.now = rw (c.in_ok-push.ensures.items, c.entry.ensures, ← c.self.view_is) refl in
    subst IsHonest (sym is) (IsHonest-noted c.args.self.now c.args.spot c.args.what honest)
