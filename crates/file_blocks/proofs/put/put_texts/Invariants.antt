use Rattle.file_blocks.proofs.Sealing.{SealedSoFar}
use Rattle.file_blocks.proofs.put.put_texts.Given as goal

-- the first texts, so many, are sealed and put
abbrev pub invariant-texts : goal.invariant-texts
invariant-texts g l =
    SealedSoFar (g.K.BlockKey.told l.key) (g.T.Texts.told l.texts) l.at l.placed.refs.items l.placed.last_number (g.B.Shelf.told l.fn.shelf) (g.B.Shelf.told l.shelf) l.fn.salts l.salts
