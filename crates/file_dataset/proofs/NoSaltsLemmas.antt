-- Blocks that aren't sealed, since there was no memory for the salts.
use Rattle.std.proofs.Common.{◌≡◌, ℕ, List, refl, arith, Err, Result}
use Rattle.std.specs.Prelude.{IfSome, ⊤}
use Rattle.block_crypt.specs.Blocks.{KeyValue}
use Rattle.shelf_store.specs.ShelfState.{ShelfState}
use Rattle.indirect_macs.specs.declared.refs.MacError.{MacError}
use Rattle.indirect_macs.specs.declared.refs.MacError.TheVariants.{NoMemory}
use Rattle.family_log.specs.Model.{FamilyState}
use Rattle.file_blocks.specs.declared.object.Object.{Object}
use Rattle.file_blocks.specs.declared.write_error.WriteError.TheVariants.{Stopped}
use Rattle.file_blocks.specs.Changes.{Change, Changed, Leaving}
use Rattle.file_blocks.specs.Objects.{Reading}
use Rattle.file_blocks.proofs.Composing.{leaving_unread, told_unread}
use Rattle.file_dataset.proofs.NoteLemmas.{for_each}

no_reading : (reads : ℕ) (s : ShelfState) → Reading {X = Unit {0}} reads (λ failed. ⊤) (Err NoMemory) s s
no_reading reads s = record { calls = 0; bound = omega arith; after = refl; fault = refl; failure = tt }

pub leaving_none : {X : Type 0} (most reads : ℕ) (old new : FamilyState) → new ≡ old
    → Leaving {X = X} most reads (Err (Stopped NoMemory)) old.shelf new.shelf old.salts new.salts
leaving_none most reads old new same =
    rw same (leaving_unread {Y = Unit {0}} reads most (λ failed. ⊤) NoMemory old.shelf old.shelf old.salts (no_reading reads old.shelf))

pub told_none : {X : Type 0} (object : X → Object) (key : KeyValue) (change : (held : List (List ℕ)) → Result Change MacError)
    (old new : FamilyState) → new ≡ old
    → IfSome old.shelf.held
    (λ held. Changed {X = X} object key held (change held) (Err (Stopped NoMemory)) old.shelf new.shelf old.salts new.salts)
told_none object key change old new same =
    rw same
    (told_unread {Y = Unit {0}} object key change 0 (λ failed. ⊤) NoMemory old.shelf old.shelf old.salts (no_reading 0 old.shelf)
    (for_each old.shelf.held (λ held. tt)))
