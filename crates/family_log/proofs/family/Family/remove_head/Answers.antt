use Rattle.std.proofs.Common.{◌≡◌, refl, sym, subst}
use Rattle.family_log.specs.Model.{FamilyState}
use Rattle.family_log.specs.Snapshots.{head_removed}
use Rattle.family_log.specs.Honest.{IsHonest}
use Rattle.family_log.proofs.KeptLemmas.{IsFamily-without_head, IsHonest-without_head}
use Rattle.family_log.proofs.family.Family.remove_head.Goals as goal

pub invariant_of-self : goal.invariant_of-self
invariant_of-self g c =
    let family : FamilyState = record {
      guid = c.self.inside.guid;
      block = c.self.inside.block;
      room = c.self.inside.room;
      heads = c.self.inside.heads.items;
      log = c.self.inside.log.items;
      salts = c.self.inside.salts;
      shelf = g.B.Shelf.told c.self.inside.shelf;
    } in
    rw c.remove_head.ensures (IsFamily-without_head family c.args.head c.self.invariant)

pub returns-clause-honest : goal.returns-clause-honest
returns-clause-honest g c = λ honest.
    let after : FamilyState = record {
      guid = c.self.inside.guid;
      block = c.self.inside.block;
      room = c.self.inside.room;
      heads = c.remove_head.new.heads.items;
      log = c.self.inside.log.items;
      salts = c.self.inside.salts;
      shelf = g.B.Shelf.told c.self.inside.shelf;
    } in
    let is : after ≡ head_removed c.args.head c.args.self.now = rw (c.remove_head.ensures, ← c.self.view_is) refl in
    subst IsHonest (sym is) (IsHonest-without_head c.args.self.now c.args.head honest)
