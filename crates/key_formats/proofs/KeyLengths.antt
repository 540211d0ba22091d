-- A wrapping key has 32 bytes.
use Rattle.std.proofs.Common.{◌≡◌, ℕ, zero, suc, ◌*◌, List, length, Option, Some, None, Ok, refl, sym, ◌∙◌, arith, subst, length-append, length-take}
use Rattle.std.specs.Int.{w32, w64, to_be_bytes, to_le_bytes}
use Rattle.std.specs.Prelude.{slice_index}
use Rattle.hex.specs.Hex.{decode_of}
use Rattle.hex.proofs.HexLemmas.{decode_of-ok, decode_sized-twice}
use Rattle.sha1.specs.Sha1.{digest_bytes, sha1}
use Rattle.hmac_hkdf.specs.Hmac.{hmac1}
use Rattle.byte_blocks.proofs.Xor.{length-xor_bytes}
use Rattle.pbkdf2_keys.specs.Pbkdf2.{iterate, block, blocks, pbkdf2}
use Rattle.dataset_tree.specs.declared.kinds.Format.{Format}
use Rattle.dataset_tree.specs.declared.kinds.Format.TheVariants.{Raw, Hex, Passphrase}
use Rattle.dataset_tree.specs.declared.refusal.Refusal.{Refusal}
use Rattle.key_formats.specs.WrappingKey.{digit_bytes, digit_fault, hex_fault, length_fault, material_fault, material_key, unless_faulty, wkey, without_line_feed}
use Rattle.key_formats.proofs.MaterialLemmas.{decodes, length_is, neither}

length-digest_bytes : (h : List ℕ) (n : ℕ) → length (digest_bytes h n) ≡ 4 * n
unfolding digest_bytes
length-digest_bytes h zero = refl
length-digest_bytes h (suc n) =
    let four : length (to_be_bytes w32 (slice_index h n)) ≡ 4 = refl in
    let rest = length-digest_bytes h n in
    omega (arith, length-append (digest_bytes h n) (to_be_bytes w32 (slice_index h n)))

length-sha1 : (text : List ℕ) → length (sha1 text) ≡ 20
unfolding sha1
length-sha1 text = length-digest_bytes _ 5

length-hmac1 : (key text : List ℕ) → length (hmac1 key text) ≡ 20
unfolding hmac1
length-hmac1 key text = length-sha1 _

length-iterate : (secret salt : List ℕ) (c i : ℕ) → length (iterate secret salt (suc c) i) ≡ 20
unfolding iterate
length-iterate secret salt c i = length-hmac1 secret (iterate secret salt c i)

length-block : (secret salt : List ℕ) (c i : ℕ) → length (block secret salt c i) ≡ 20
unfolding block
length-block secret salt zero i = refl
length-block secret salt (suc c) i =
    let before = length-block secret salt c i in
    let added = length-iterate secret salt c i in
    length-xor_bytes (block secret salt c i) (iterate secret salt (suc c) i) (omega arith) ∙ before

length-two_blocks : (secret salt : List ℕ) (c : ℕ) → length (blocks secret salt c 2) ≡ 40
unfolding blocks
length-two_blocks secret salt c =
    let first = length-block secret salt c 1 in
    let second = length-block secret salt c 2 in
    omega (arith, length-append (block secret salt c 1) (block secret salt c 2))

length-derived : (secret salt : List ℕ) (c : ℕ) → length (pbkdf2 secret salt c 32) ≡ 32
unfolding pbkdf2
length-derived secret salt c =
    let two = length-two_blocks secret salt c in
    omega (arith, length-take 32 (blocks secret salt c 2))

length-digit_bytes : (digits : List ℕ) → hex_fault digits ≡ None → length (digit_bytes digits) ≡ 32
length-digit_bytes digits none =
    let long : length digits ≡ 64 = length_is 64 digits (neither (length_fault 64 64 digits) (digit_fault digits) none).0 in
    let same : decode_of digits ≡ Ok (digit_bytes digits) = sym (decode_sized-twice digits 32 (omega arith)) ∙ decodes digits none in
    let half = decode_of-ok digits (digit_bytes digits) same in
    omega (arith, half.2)

length-material_key : (format : Format) (material : List ℕ) (iters salt : ℕ) → material_fault format material iters ≡ None → length (material_key format material iters salt) ≡ 32
length-material_key Raw material iters salt none = length_is 32 material none
length-material_key Hex material iters salt none = length-digit_bytes (without_line_feed material) none
length-material_key Passphrase material iters salt none = length-derived (without_line_feed material) (to_le_bytes w64 salt) iters

of_answer : (fault : Option Refusal) (key answer : List ℕ) → unless_faulty fault key ≡ Ok answer → (fault ≡ None) × (key ≡ answer)
of_answer None key answer h = (refl, let same : key ≡ answer = cc in same)
of_answer (Some why) key answer h = absurd (cc)

pub keys_have_32_bytes : (format : Format) (material : List ℕ) (iters salt : ℕ) (key : List ℕ) → wkey format material iters salt ≡ Ok key → length key ≡ 32
keys_have_32_bytes format material iters salt key made =
    let parts = of_answer (material_fault format material iters) (material_key format material iters salt) key made in
    subst (λ (k : List ℕ). length k ≡ 32) parts.1 (length-material_key format material iters salt parts.0)
