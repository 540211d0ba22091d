-- The wrapping key of key material.
use Rattle.std.specs.Prelude.{ℕ, ◌==◌, ◌||◌, nat_lt, List, [], length, slice_index, codes, if◌then◌else◌, Option, Some, None, Result, Ok, Err}
use Rattle.std.specs.Char.{is_ascii_hexdigit}
use Rattle.std.specs.Int.{w64, to_le_bytes}
use Rattle.std.specs.Io.BufRead.{strip_last}
use Rattle.std.specs.List.{prefix_len}
use Rattle.std.specs.Option.{option_or}
use Rattle.std.specs.Result.{result_unwrap_or}
use Rattle.hex.specs.Hex.{decode_of}
use Rattle.pbkdf2_keys.specs.Pbkdf2.{pbkdf2}
use Rattle.dataset_tree.specs.declared.kinds.Format.{Format}
use Rattle.dataset_tree.specs.declared.kinds.Format.TheVariants.{Raw, Hex, Passphrase}
use Rattle.dataset_tree.specs.declared.refusal.MaterialFault.TheVariants.{Short, Long, Hex as NoDigit}
use Rattle.dataset_tree.specs.declared.refusal.Refusal.{Refusal}
use Rattle.dataset_tree.specs.declared.refusal.Refusal.TheVariants.{BadMaterial, BadIters}

-- one line feed at the end doesn't count
abbrev pub without_line_feed : List ℕ → List ℕ
without_line_feed material = strip_last (slice_index (codes "\n") 0) material

abbrev pub length_fault : (least most : ℕ) → List ℕ → Option Refusal
length_fault least most material =
    if nat_lt (length material) least then Some (BadMaterial Short)
    else if nat_lt most (length material) then Some (BadMaterial Long)
    else None

-- the first character that is no hexadecimal digit
abbrev pub digit_fault : List ℕ → Option Refusal
digit_fault digits =
    let good = prefix_len is_ascii_hexdigit digits in
    if good == length digits then None else Some (BadMaterial (NoDigit good))

abbrev pub hex_fault : List ℕ → Option Refusal
hex_fault digits = option_or (length_fault 64 64 digits) (digit_fault digits)

abbrev pub passphrase_fault : (phrase : List ℕ) (iters : ℕ) → Option Refusal
passphrase_fault phrase iters =
    if nat_lt iters 100000 || nat_lt 10000000 iters then Some BadIters
    else length_fault 8 512 phrase

-- why material can't be a key in its format
abbrev pub material_fault : Format → (material : List ℕ) (iters : ℕ) → Option Refusal
material_fault Raw material iters = length_fault 32 32 material
material_fault Hex material iters = hex_fault (without_line_feed material)
material_fault Passphrase material iters = passphrase_fault (without_line_feed material) iters

-- the bytes that digits spell
abbrev pub digit_bytes : List ℕ → List ℕ
digit_bytes digits = result_unwrap_or (decode_of digits) []

-- the key of material that has no fault
abbrev pub material_key : Format → (material : List ℕ) (iters salt : ℕ) → List ℕ
material_key Raw material iters salt = material
material_key Hex material iters salt = digit_bytes (without_line_feed material)
material_key Passphrase material iters salt = pbkdf2 (without_line_feed material) (to_le_bytes w64 salt) iters 32

abbrev pub unless_faulty : Option Refusal → List ℕ → Result (List ℕ) Refusal
unless_faulty None key = Ok key
unless_faulty (Some why) key = Err why

-- The wrapping key of 32 bytes, or the refusal of its material.
abbrev pub wkey : Format → (material : List ℕ) (iters salt : ℕ) → Result (List ℕ) Refusal
wkey format material iters salt =
    unless_faulty (material_fault format material iters) (material_key format material iters salt)
