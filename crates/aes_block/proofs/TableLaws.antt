-- The table of columns, byte by byte.
use Rattle.std.proofs.Common.{◌≡◌, ℕ, ◌<◌, [], ◌∷◌, slice_index, w32, refl, sym, ap, ◌∙◌}
use Rattle.std.specs.Int.{to_be_bytes}
use Rattle.aes_block.specs.Field.{◌⊕◌, ◌•◌, xtimes}
use Rattle.aes_block.specs.Cipher.{sbox}
use Rattle.aes_block.specs.declared.field.TheConstants.{SBOX}
use Rattle.aes_block.specs.declared.tables.TheConstants.{COLUMNS}
use Rattle.aes_block.proofs.Checked.{agree_below, same_from_checked}
use Rattle.aes_block.proofs.FieldLaws.{product-three, product-two}
use Rattle.aes_block.proofs.TowerLaws.{sbox-table}

-- byte k of the entry of b
abbrev entry_byte : ℕ → ℕ → ℕ
entry_byte k b = slice_index (to_be_bytes w32 (slice_index COLUMNS b)) k

double_byte : (b : ℕ) → b < 256 → entry_byte 0 b ≡ xtimes (slice_index SBOX b)
unfolding agree_below xtimes
double_byte = same_from_checked (entry_byte 0) (λ b. xtimes (slice_index SBOX b)) 256 refl

first_byte : (b : ℕ) → b < 256 → entry_byte 1 b ≡ slice_index SBOX b
unfolding agree_below
first_byte = same_from_checked (entry_byte 1) (slice_index SBOX) 256 refl

second_byte : (b : ℕ) → b < 256 → entry_byte 2 b ≡ slice_index SBOX b
unfolding agree_below
second_byte = same_from_checked (entry_byte 2) (slice_index SBOX) 256 refl

triple_byte : (b : ℕ) → b < 256 → entry_byte 3 b ≡ slice_index SBOX b ⊕ xtimes (slice_index SBOX b)
unfolding agree_below xtimes
triple_byte = same_from_checked (entry_byte 3) (λ b. slice_index SBOX b ⊕ xtimes (slice_index SBOX b)) 256 refl

four_bytes : (n : ℕ) → to_be_bytes w32 n ≡
    slice_index (to_be_bytes w32 n) 0 ∷ slice_index (to_be_bytes w32 n) 1 ∷ slice_index (to_be_bytes w32 n) 2 ∷ slice_index (to_be_bytes w32 n) 3 ∷ []
four_bytes n = refl

same_four : {a b c d a' b' c' d' : ℕ} → a ≡ a' → b ≡ b' → c ≡ c' → d ≡ d' → a ∷ b ∷ c ∷ d ∷ [] ≡ a' ∷ b' ∷ c' ∷ d' ∷ []
same_four p q r s = rw (p, q, r, s) refl

pub column_of : (b : ℕ) → b < 256 → to_be_bytes w32 (slice_index COLUMNS b) ≡ (2 • sbox b) ∷ sbox b ∷ sbox b ∷ (3 • sbox b) ∷ []
column_of b h =
    let s = sbox-table b h in
    let double = double_byte b h ∙ ap xtimes s ∙ sym (product-two (sbox b)) in
    let triple = triple_byte b h ∙ ap (λ (x : ℕ). x ⊕ xtimes x) s ∙ sym (product-three (sbox b)) in
    four_bytes (slice_index COLUMNS b) ∙ same_four double (first_byte b h ∙ s) (second_byte b h ∙ s) triple
