-- What a family ends as, where a part of it was lent.
use Rattle.std.specs.Borrow.{Lends, MutBor, Fml, RattleType}
use Rattle.shelf_store.specs.declared.shelf.Shelf.{Ghosts}
use Rattle.salt_rotation.specs.SaltState.{SaltState}
use Rattle.family_log.specs.Model.{FamilyState}
use Rattle.family_log.specs.contracts.family.Family.{the_row}
use Rattle.salt_rotation.specs.contracts.salts.Salts.{the_row as salts_row}

module _ (B : RattleType) (shelves : Ghosts B.Denot) (family : MutBor FamilyState) where
  -- the family that was, with the salts that the borrower left
  abbrev pub LendsSalts : MutBor SaltState → Fml
  LendsSalts lent = Lends (the_row B shelves) salts_row family lent (λ left. record family.now { salts = left })

  -- the family that was, with what the shelf tells that the borrower left
  abbrev pub LendsShelf : MutBor B.Denot → Fml
  LendsShelf lent = Lends (the_row B shelves) B family lent (λ left. record family.now { shelf = shelves.told left })
