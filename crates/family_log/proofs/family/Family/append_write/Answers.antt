use Rattle.std.proofs.Common.{◌≡◌, ◌<◌, length, Ok, refl, sym, subst}
use Rattle.family_log.specs.Model.{FamilyState}
use Rattle.family_log.specs.Calls.{IsChangeOf, new_place, with_change}
use Rattle.family_log.specs.Honest.{IsHonest}
use Rattle.family_log.proofs.ChangeLemmas.{IsFamily-changed, IsHonest-changed}
use Rattle.family_log.proofs.HeadLemmas.{room_left}
use Rattle.family_log.proofs.family.Family.append_write.Goals as goal

pub invariant_of-self-2 : goal.invariant_of-self-2
invariant_of-self-2 g c =
    let place_is : new_place c.args.self.now c.args.head ≡ Ok c.in_ok-place.place = c.in_ok-place.ensures in
    let left = room_left c.args.self.now c.args.head c.in_ok-place.place place_is in
    let family : FamilyState = record {
      guid = c.self.inside.guid;
      block = c.self.inside.block;
      room = c.self.inside.room;
      heads = c.self.inside.heads.items;
      log = c.self.inside.log.items;
      salts = c.self.inside.salts;
      shelf = g.B.Shelf.told c.self.inside.shelf;
    } in
    let P : FamilyState → Type 0 = λ old. IsChangeOf old c.args.head c.args.change × (length old.log < old.room) in
    let is : P family = subst P (sym c.self.view_is) (c.requires, left) in
    rw (c.put_table.ensures, c.in_ok-push.ensures.items) (IsFamily-changed family c.args.head c.args.change c.self.invariant is.0 is.1)

pub returns-clause-honest : goal.returns-clause-honest
returns-clause-honest g c = λ honest as_logged.
    let after : FamilyState = record {
      guid = c.self.inside.guid;
      block = c.self.inside.block;
      room = c.self.inside.room;
      heads = c.put_table.new.heads.items;
      log = c.push.new.self.items;
      salts = c.self.inside.salts;
      shelf = g.B.Shelf.told c.self.inside.shelf;
    } in
    let is : after ≡ with_change c.args.head c.args.change c.args.self.now =
    rw (c.put_table.ensures, c.in_ok-push.ensures.items, ← c.self.view_is) refl in
    subst IsHonest (sym is) (IsHonest-changed c.args.self.now c.args.head c.args.change honest c.requires as_logged)
