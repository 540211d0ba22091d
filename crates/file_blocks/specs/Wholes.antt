-- Whole objects: all of their bytes, by their trees and by their references, and where their blocks end.
use Rattle.std.specs.Prelude.{ℕ, ◌+◌, ◌-◌, ◌*◌, ◌≤◌, ◌≡◌, ◌⊎◌, ◌&&◌, min, nat_le, nat_lt, false, if◌then◌else◌, List, [], ◌∷◌, ◌++◌, length, map, replicate, slice_index_or, Option, Some, None, IfSome, Result, Ok}
use Rattle.std.specs.List.{flat_map, range_with_len}
use Rattle.std.specs.Option.{option_map}
use Rattle.block_crypt.specs.Blocks.{KeyValue}
use Rattle.salt_rotation.specs.SaltState.{SaltState}
use Rattle.indirect_macs.specs.declared.refs.BlockRef.{BlockRef}
use Rattle.indirect_macs.specs.declared.refs.MacError.{MacError}
use Rattle.indirect_macs.specs.Trees.{IsRunOn}
use Rattle.file_blocks.specs.declared.object.Object.{Object}
use Rattle.file_blocks.specs.Changes.{Change, held_with, object_in, puts_in, ref_in, refs_to, run_in}
use Rattle.file_blocks.specs.Objects.{IsObject, blocks_for, filled, object_range, opened_ref}
use Rattle.file_blocks.specs.WriteFields.{write_to}
use Rattle.file_blocks.specs.Writes.{change_of_cut, change_of_write}

-- ---- by the tree

-- all bytes of an object, or the failure of the first of its blocks that fails
abbrev pub whole_object : KeyValue → (held : List (List ℕ)) → (record_size : ℕ) → Object → Result (List ℕ) MacError
whole_object key held record_size object = object_range key held record_size object.tree 0 object.length

-- the object's tree leads to these references, by block, and behind the last block to holes
pub record HasRefs (held : List (List ℕ)) (record_size : ℕ) (object : Object) (refs : ℕ → Option BlockRef)
    : Type 0 where
  pub leads : (index : ℕ) → ref_in held record_size object.tree index ≡ Ok (refs index)
  pub holes : (index : ℕ) → blocks_for record_size object.length ≤ index → refs index ≡ None

-- ---- by the references

-- what each of these references stores ends within the object, which has so many bytes
abbrev pub EndsWithin : (record_size bytes : ℕ) → (refs : ℕ → Option BlockRef) → Type 0
EndsWithin record_size bytes refs = (index : ℕ) → IfSome (refs index) (λ r. record_size * index + r.size ≤ bytes)

-- all of these, none where one of them is none
abbrev pub all_of : {X : Type 0} → List (Option X) → Option (List X)
all_of [] = Some []
all_of (None ∷ rest) = None
all_of (Some x ∷ rest) = option_map (λ xs. x ∷ xs) (all_of rest)

-- the bytes that a block stands for, so many, of which those behind what it stores are zeros, and all in a hole;
-- none where it stores more, or doesn't open
abbrev pub bytes_of_ref : KeyValue → (held : List (List ℕ)) → (most : ℕ) → Option BlockRef → Option (List ℕ)
bytes_of_ref key held most None = Some (replicate most 0)
bytes_of_ref key held most (Some r) =
    option_map (filled most) (if nat_le r.size most then opened_ref key held r else None)

-- the bytes of an object that has so many, one block after another; none where one of its blocks gives none
unfoldable pub bytes_of_refs : KeyValue → (held : List (List ℕ)) → (record_size bytes : ℕ)
    → (refs : ℕ → Option BlockRef) → Option (List ℕ)
bytes_of_refs key held record_size bytes refs =
    option_map (flat_map (λ block. block))
    (all_of
    (map (λ index. bytes_of_ref key held (min record_size (bytes - record_size * index)) (refs index))
    (range_with_len 0 (blocks_for record_size bytes))))

-- ---- changes

-- the references behind a change whose texts stand from an address on: theirs, none behind the last block of the new
-- length, and else those before
abbrev pub refs_behind : KeyValue → SaltState → (addr : ℕ) → Change → (refs : ℕ → Option BlockRef)
    → (index : ℕ) → Option BlockRef
refs_behind key salts addr c refs index =
    if nat_le c.first index && nat_lt index (c.first + length c.texts)
    then slice_index_or (refs_to key salts addr c.texts) (index - c.first) None
    else (if nat_le (blocks_for c.record_size c.new_length) index then None else refs index)

-- what the shelf holds behind a change, and the new object
abbrev pub held_behind : KeyValue → SaltState → (held : List (List ℕ)) → Change → List (List ℕ)
held_behind key salts held c = held ++ puts_in key salts held (length held) c

abbrev pub object_behind : KeyValue → SaltState → (held : List (List ℕ)) → Change → Object
object_behind key salts held c = object_in key salts held (length held) c

-- a write or a cut of an object gives this change
abbrev pub GivesChange : KeyValue → (held : List (List ℕ)) → (record_size : ℕ) → Object → Change → Type 0
GivesChange key held record_size object c =
    ((from : ℕ) × (bytes : List ℕ) × (change_of_write key held (write_to object record_size from bytes) ≡ Ok c))
    ⊎ ((to : ℕ) × (change_of_cut key held record_size object to ≡ Ok c))

-- the object is one, the new one isn't too long, and the references and nodes that are put fit
pub record ChangeFits (key : KeyValue) (salts : SaltState) (held : List (List ℕ)) (record_size : ℕ) (object : Object)
    (c : Change) : Type 0 where
  pub wide : 512 ≤ record_size
  pub is : IsObject record_size object
  pub bytes : c.new_length ≤ 4294967296
  pub on : c.stays ≡ false → IsRunOn (held_with key salts held c) record_size (run_in key salts (length held) c)
