use Rattle.std.proofs.Common.{◌≡◌, ◌<◌, length, true, Some, sym, subst}
use Rattle.std.specs.Prelude.{is_none}
use Rattle.family_log.specs.Model.{FamilyState, head_of, table_of}
use Rattle.family_log.specs.Snapshots.{clone_added}
use Rattle.family_log.specs.Honest.{IsHonest}
use Rattle.family_log.proofs.KeptLemmas.{IsHonest-clone, IsKept-clone, clone_built}
use Rattle.family_log.proofs.family.Family.add_clone.Goals as goal

pub invariant_of-self-in-Ok : goal.invariant_of-self-in-Ok
invariant_of-self-in-Ok g c =
    let family : FamilyState = record {
      guid = c.self.inside.guid;
      block = c.self.inside.block;
      room = c.self.inside.room;
      heads = c.self.inside.heads.items;
      log = c.self.inside.log.items;
      salts = c.self.inside.salts;
      shelf = g.B.Shelf.told c.self.inside.shelf;
    } in
    let P : FamilyState → Type 0 = λ old. (Some c.in-Some.table.now ≡ table_of c.args.from.now old.heads)
    × (is_none (head_of c.args.head old.heads) ≡ true) × (length old.log < old.room) in
    let is : P family = subst P (sym c.self.view_is) (c.in-Some.ensures.table, c.requires.fresh.absent, c.requires.room) in
    rw (c.in-Ok.ensures.added, c.in_ok-push.ensures.items, c.in_ok-copy.ensures, c.in_ok-table.ensures)
    (IsKept-clone family c.args.from.now c.args.head c.in-Some.table.now c.self.invariant is.0 is.1 is.2)

pub returns-in-Ok-clause-honest : goal.returns-in-Ok-clause-honest
returns-in-Ok-clause-honest g c = λ honest.
    let family : FamilyState = record {
      guid = c.self.inside.guid;
      block = c.self.inside.block;
      room = c.self.inside.room;
      heads = c.self.inside.heads.items;
      log = c.self.inside.log.items;
      salts = c.self.inside.salts;
      shelf = g.B.Shelf.told c.self.inside.shelf;
    } in
    let after : FamilyState = record family { heads = c.add_head.new.heads.items; log = c.push.new.self.items } in
    let found : Some c.in-Some.table.now ≡ table_of c.args.from.now family.heads =
    subst (λ (f : FamilyState). Some c.in-Some.table.now ≡ table_of c.args.from.now f.heads) (sym c.self.view_is) c.in-Some.ensures.table in
    let none : is_none (head_of c.args.head family.heads) ≡ true =
    subst (λ (f : FamilyState). is_none (head_of c.args.head f.heads) ≡ true) (sym c.self.view_is) c.requires.fresh.absent in
    let is : after ≡ clone_added c.args.from.now c.args.head family =
    rw (c.in-Ok.ensures.added, c.in_ok-push.ensures.items, c.in_ok-copy.ensures, c.in_ok-table.ensures)
    (clone_built family c.args.from.now c.args.head c.in-Some.table.now found) in
    subst IsHonest (sym is) (IsHonest-clone family c.args.from.now c.args.head none (subst IsHonest (sym c.self.view_is) honest))
