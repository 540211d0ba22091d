use Rattle.std.proofs.Common.{◌≡◌, refl, sym, subst}
use Rattle.family_log.specs.Model.{FamilyState}
use Rattle.family_log.specs.Snapshots.{snapshot_removed}
use Rattle.family_log.specs.Honest.{IsHonest}
use Rattle.family_log.proofs.KeptLemmas.{IsFamily-removed, IsHonest-removed}
use Rattle.family_log.proofs.family.Family.remove_snapshot.Goals as goal

pub invariant_of-self : goal.invariant_of-self
invariant_of-self g c =
    let family : FamilyState = record {
      guid = c.self.inside.guid;
      block = c.self.inside.block;
      room = c.self.inside.room;
      heads = c.self.inside.heads.items;
      log = c.self.inside.log.items;
      salts = c.self.inside.salts;
      shelf = g.B.Shelf.told c.self.inside.shelf;
    } in
    rw c.remove_snapshot.ensures (IsFamily-removed family c.args.head c.args.part.now c.self.invariant)

pub returns-clause-honest : goal.returns-clause-honest
returns-clause-honest g c = λ honest.
    let family : FamilyState = record {
      guid = c.self.inside.guid;
      block = c.self.inside.block;
      room = c.self.inside.room;
      heads = c.self.inside.heads.items;
      log = c.self.inside.log.items;
      salts = c.self.inside.salts;
      shelf = g.B.Shelf.told c.self.inside.shelf;
    } in
    let after : FamilyState = record family { heads = c.remove_snapshot.new.heads.items } in
    let is : after ≡ snapshot_removed c.args.head c.args.part.now family = rw c.remove_snapshot.ensures refl in
    subst IsHonest (sym is) (IsHonest-removed family c.args.head c.args.part.now c.self.invariant (subst IsHonest (sym c.self.view_is) honest))
