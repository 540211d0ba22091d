-- The bytes of an object behind a write or a cut, by its tree.
use Rattle.std.proofs.Common.{◌≡◌, ℕ, ◌<◌, List, ◌++◌, length, sym, subst, arith, Option, Some, Ok}
use Rattle.block_crypt.specs.Blocks.{KeyValue}
use Rattle.salt_rotation.specs.SaltState.{SaltState}
use Rattle.indirect_macs.specs.declared.refs.BlockRef.{BlockRef}
use Rattle.file_blocks.specs.declared.object.Object.{Object}
use Rattle.file_blocks.specs.Changes.{Change, nodes_in, sealed_texts}
use Rattle.file_blocks.specs.Objects.{filled, spliced}
use Rattle.file_blocks.specs.Wholes.{ChangeFits, EndsWithin, HasRefs, bytes_of_refs, held_behind, object_behind, refs_behind, whole_object}
use Rattle.file_blocks.specs.WriteFields.{write_to}
use Rattle.file_blocks.specs.Writes.{change_of_cut, change_of_write}
use Rattle.file_blocks.proofs.BehindBytes.{cut_bytes, write_bytes}
use Rattle.file_blocks.proofs.Leading.{IsBehind, cut_behind, length_is, levels_some, write_behind}
use Rattle.file_blocks.proofs.WholeBytes.{given_parts, parts_give}
use Rattle.file_blocks.proofs.WholeRanges.{parts_range, range_parts}

module _ (key : KeyValue) (salts : SaltState) (held : List (List ℕ)) (record_size : ℕ) (object : Object) (refs : ℕ → Option BlockRef) (c : Change)
    (fits : ChangeFits key salts held record_size object c) (has : HasRefs held record_size object refs) (ends : EndsWithin record_size object.length refs)
    (old : List ℕ) (read : whole_object key held record_size object ≡ Ok old) where
  some : 0 < record_size
  some = let wide = fits.wide in omega (arith, wide)

  given : bytes_of_refs key held record_size object.length refs ≡ Some old
  given =
      let parts = range_parts key held record_size object refs fits.wide fits.is has old read ends in
      parts_give key held record_size object.length refs some old parts.0 parts.1

  by_tree : (new : List ℕ) → IsBehind key salts held record_size object refs some has c
      → bytes_of_refs key (held ++ (sealed_texts key salts c.texts ++ nodes_in key salts held (length held) c)) record_size c.new_length (refs_behind key salts (length held) c refs)
      ≡ Some new
      → whole_object key (held_behind key salts held c) record_size (object_behind key salts held c) ≡ Ok new
  by_tree new is bytes =
      let parts = given_parts key (held_behind key salts held c) record_size (object_behind key salts held c).length (refs_behind key salts (length held) c refs) some new
      (subst (λ (n : ℕ). bytes_of_refs key (held_behind key salts held c) record_size n (refs_behind key salts (length held) c refs) ≡ Some new) (sym (length_is key salts held c refs)) bytes) in
      parts_range key (held_behind key salts held c) record_size (object_behind key salts held c) (refs_behind key salts (length held) c refs) fits.wide is.is_object is.has_refs
      new parts.0 (λ index within. (parts.1 index within).1)

  pub write_tree : (from : ℕ) (bytes : List ℕ) → change_of_write key held (write_to object record_size from bytes) ≡ Ok c
      → whole_object key (held_behind key salts held c) record_size (object_behind key salts held c) ≡ Ok (spliced old from bytes)
  write_tree from bytes change =
      by_tree (spliced old from bytes) (write_behind key salts held record_size object refs some has from bytes c change fits)
      (write_bytes key salts held (nodes_in key salts held (length held) c) record_size object refs some (levels_some object fits.is) has old given from bytes c change)

  pub cut_tree : (to : ℕ) → change_of_cut key held record_size object to ≡ Ok c
      → whole_object key (held_behind key salts held c) record_size (object_behind key salts held c) ≡ Ok (filled to old)
  cut_tree to change =
      by_tree (filled to old) (cut_behind key salts held record_size object refs some has to c change fits)
      (cut_bytes key salts held (nodes_in key salts held (length held) c) record_size object refs some (levels_some object fits.is) has old given to c change)
