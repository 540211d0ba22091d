-- The bytes of whole objects, by their references.
use Rattle.std.proofs.Common.{◌≡◌, ℕ, ◌+◌, ◌*◌, ◌/◌, ◌%◌, ◌<◌, ◌≤◌, List, length, get_or, Option, Some, None, Ok, ap, sym, subst, ◌∙◌, arith}
use Rattle.std.specs.List.{All}
use Rattle.std.proofs.Math.Nat.{div-add-mod, mod-lt}
use Rattle.std.proofs.lemmas.List.Elements.{All-from_get_or}
use Rattle.block_crypt.specs.Blocks.{KeyValue}
use Rattle.indirect_macs.specs.declared.refs.BlockRef.{BlockRef}
use Rattle.indirect_macs.specs.Trees.{AreBytes, HoldsBytes}
use Rattle.file_blocks.specs.declared.object.Object.{Object}
use Rattle.file_blocks.specs.Objects.{IsObject, blocks_for}
use Rattle.file_blocks.specs.Wholes.{EndsWithin, HasRefs, bytes_of_refs, whole_object}
use Rattle.file_blocks.proofs.Fitting.{opened_bytes}
use Rattle.file_blocks.proofs.WholeBytes.{IsPart, Stores, block_within, given_parts}
use Rattle.file_blocks.proofs.WholeRanges.{parts_end, parts_range}

pub whole_of_refs : (key : KeyValue) (held : List (List ℕ)) (record_size : ℕ) (object : Object) (refs : ℕ → Option BlockRef) (bytes : List ℕ)
    → 512 ≤ record_size → IsObject record_size object → HasRefs held record_size object refs
    → bytes_of_refs key held record_size object.length refs ≡ Some bytes
    → (whole_object key held record_size object ≡ Ok bytes) × EndsWithin record_size object.length refs
whole_of_refs key held record_size object refs bytes wide is has given =
    let parts = given_parts key held record_size object.length refs (omega (arith, wide)) bytes given in (
      parts_range key held record_size object refs wide is has bytes parts.0 (λ index within. (parts.1 index within).1),
      parts_end key held record_size object refs wide is has (λ index within. (parts.1 index within).0),
    )

-- ---- what is stored is of bytes

stored_bytes : (key : KeyValue) (held : List (List ℕ)) (found : Option BlockRef) (text : List ℕ) → HoldsBytes held → Stores key held found text → AreBytes text
stored_bytes key held None text holds stores = subst AreBytes (sym stores) (λ i. omega arith)
stored_bytes key held (Some r) text holds stores = opened_bytes key held r text holds stores

-- so are those of an object
pub object_has_bytes : (key : KeyValue) (held : List (List ℕ)) (record_size size : ℕ) (refs : ℕ → Option BlockRef) (bytes : List ℕ) → 0 < record_size
    → HoldsBytes held → bytes_of_refs key held record_size size refs ≡ Some bytes → All (λ byte. byte < 256) bytes
object_has_bytes key held record_size size refs bytes some holds given =
    let parts = given_parts key held record_size size refs some bytes given in
    All-from_get_or (λ byte. byte < 256) bytes 0
    (λ j within. let inside : j < size = omega (arith, within, parts.0) in
    byte_of j (parts.1 (j / record_size) (block_within record_size size j some inside)).1)
  where
    byte_of : (j : ℕ) → IsPart key held record_size bytes (j / record_size) (refs (j / record_size)) → get_or bytes j 0 < 256
    byte_of j part =
        let low : j % record_size < record_size = mod-lt j some in
        let place : record_size * (j / record_size) + j % record_size ≡ j = omega (arith, div-add-mod j record_size) in
        subst (λ (n : ℕ). n < 256) (part.each (j % record_size) low ∙ ap (λ (n : ℕ). get_or bytes n 0) place)
        (stored_bytes key held (refs (j / record_size)) part.text holds part.stores (j % record_size))
