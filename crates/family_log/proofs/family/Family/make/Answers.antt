use Rattle.std.proofs.Common.{◌≡◌, refl}
use Rattle.family_log.specs.Model.{FamilyState, fresh_family}
use Rattle.family_log.proofs.FreshLemmas.{fresh-is_family}
use Rattle.family_log.proofs.HonestLemmas.{fresh_is_honest}
use Rattle.family_log.proofs.family.Family.make.Goals as goal

pub invariant_of-result : goal.invariant_of-result
invariant_of-result g c =
    rw (c.in_ok-heads.ensures, c.in_ok-fresh.ensures, c.in_ok-log.ensures)
    (fresh-is_family g.B.Shelf.tells c.args.guid c.args.block c.new.result c.args.room c.args.head c.args.portable c.requires.record_size
    c.requires.room_least c.requires.room_most)

pub returns-clause-honest : goal.returns-clause-honest
returns-clause-honest g c =
    let family : FamilyState = record {
      guid = c.args.guid;
      block = c.args.block;
      room = c.args.room;
      heads = c.in_ok-heads.heads.items;
      log = c.in_ok-log.log.items;
      salts = c.new.result;
      shelf = g.B.Shelf.told c.in_ok-shelf.shelf;
    } in
    let is : family ≡ fresh_family g.B.Shelf.tells c.args.guid c.args.block (record { seed = c.args.seed; limit = c.args.limit; made = 0 }) c.args.room c.args.head c.args.portable =
    rw (c.in_ok-heads.ensures, c.in_ok-fresh.ensures, c.in_ok-log.ensures, c.new.ensures, c.in_ok-shelf.ensures.empty) refl in
    fresh_is_honest g.B.Shelf.tells c.args.guid c.args.block (record { seed = c.args.seed; limit = c.args.limit; made = 0 }) c.args.room c.args.head c.args.portable family is
