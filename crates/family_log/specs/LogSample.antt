-- A log that is worked out by hand: two heads, of which the second is a clone.
use Rattle.std.specs.Prelude.{ℕ, List, [], ◌∷◌, Some, None, replicate}
use Rattle.indirect_macs.specs.declared.refs.BlockRef.{BlockRef}
use Rattle.family_log.specs.declared.entry.LengthAt.{LengthAt}
use Rattle.family_log.specs.declared.entry.RefAt.{RefAt}
use Rattle.family_log.specs.declared.entry.LogEntry.{LogEntry}
use Rattle.family_log.specs.declared.entry.LogEntry.TheVariants.{Make, Write, Cut, Remove, Snapshot, Clone}
use Rattle.family_log.specs.Log.{snap_spot}

-- a block of this size and address
abbrev block_of : ℕ → ℕ → BlockRef
block_of size address =
    record { size = size; addr = address; salt = replicate 8 0; iv = replicate 12 0; mac = replicate 16 0 }

abbrev pub first_block : BlockRef
first_block = block_of 5 10

abbrev pub second_block : BlockRef
second_block = block_of 7 11

abbrev pub third_block : BlockRef
third_block = block_of 9 12

abbrev pub fourth_block : BlockRef
fourth_block = block_of 4 13

abbrev pub fifth_block : BlockRef
fifth_block = block_of 512 14

abbrev pub sixth_block : BlockRef
sixth_block = block_of 8 15

abbrev block_at : (object index : ℕ) → BlockRef → RefAt
block_at object index block = record { object = object; index = index; to = Some block }

abbrev length_at : ℕ → ℕ → List LengthAt
length_at object bytes = record { object = object; length = Some bytes } ∷ []

abbrev gone : ℕ → List LengthAt
gone object = record { object = object; length = None } ∷ []

-- snapshot 97 stands behind the first write. Snapshot 98 was made there too, and again behind the second write.
-- Object 4 has three blocks of 512 bytes, is cut to one, is removed, and another object 4 has only its second block
abbrev pub sample : List LogEntry
sample =
    Make 1 (length_at 1 0) []
    ∷ Make 1 (length_at 3 0) []
    ∷ Write 1 (length_at 2 5) (block_at 2 0 first_block ∷ [])
    ∷ Snapshot 1 (97 ∷ [])
    ∷ Snapshot 1 (98 ∷ [])
    ∷ Write 1 (length_at 2 7) (block_at 2 0 second_block ∷ [])
    ∷ Clone (snap_spot 1 (97 ∷ [])) 2
    ∷ Snapshot 1 (98 ∷ [])
    ∷ Write 1 (length_at 2 9) (block_at 2 0 third_block ∷ [])
    ∷ Write 2 [] (block_at 2 1 fourth_block ∷ [])
    ∷ Remove 2 (gone 3) []
    ∷ Write 1 (length_at 4 1030) (block_at 4 0 fifth_block ∷ block_at 4 1 fifth_block ∷ block_at 4 2 sixth_block ∷ [])
    ∷ Snapshot 1 (99 ∷ [])
    ∷ Cut 1 (length_at 4 512) []
    ∷ Snapshot 1 (100 ∷ [])
    ∷ Remove 1 (gone 4) []
    ∷ Make 1 (length_at 4 0) []
    ∷ Write 1 (length_at 4 520) (block_at 4 1 sixth_block ∷ [])
    ∷ []
