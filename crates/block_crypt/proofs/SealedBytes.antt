-- Keys of blocks are bytes, and so are sealed texts and tags.
use Rattle.std.proofs.Common.{ℕ, zero, suc, ◌<◌, List, [], ◌∷◌, ◌++◌, take, slice_index, arith}
use Rattle.std.specs.Int.{w64, to_be_bytes, byte_at, bytes_high_first, div_ceil}
use Rattle.sha2.specs.Sha512.{sha512, digest_bytes}
use Rattle.dataset_tree.specs.declared.kinds.Suite.{Suite}
use Rattle.dataset_tree.specs.declared.kinds.Suite.TheVariants.{Aes128Gcm, Aes192Gcm, Aes256Gcm}
use Rattle.hmac_hkdf.specs.Hmac.{hmac512}
use Rattle.hmac_hkdf.specs.Hkdf.{expand_block, expand_blocks, extract, hkdf}
use Rattle.gcm_seal.proofs.Bytes.{sealed-bytes, tag-bytes}
use Rattle.wrapped_keys.specs.Aead.{aead_seal}
use Rattle.block_crypt.specs.Blocks.{KeyValue, block_key, sealed_block}

abbrev AreBytes : List ℕ → Type 0
AreBytes xs = (i : ℕ) → slice_index xs i < 256

append-bytes : (xs ys : List ℕ) → AreBytes xs → AreBytes ys → AreBytes (xs ++ ys)
append-bytes [] ys left right i = right i
append-bytes (x ∷ xs) ys left right zero = left zero
append-bytes (x ∷ xs) ys left right (suc i) = append-bytes xs ys (λ k. left (suc k)) right i

take-bytes : (n : ℕ) (xs : List ℕ) → AreBytes xs → AreBytes (take n xs)
take-bytes zero xs all i = omega arith
take-bytes (suc n) [] all i = omega arith
take-bytes (suc n) (x ∷ xs) all zero = all zero
take-bytes (suc n) (x ∷ xs) all (suc i) = take-bytes n xs (λ k. all (suc k)) i

byte_at-lt : (k n : ℕ) → byte_at k n < 256
byte_at-lt zero n = omega arith
byte_at-lt (suc k) n = omega arith

high_first-bytes : (k n : ℕ) → AreBytes (bytes_high_first k n)
high_first-bytes zero n i = omega arith
high_first-bytes (suc k) n zero = byte_at-lt k n
high_first-bytes (suc k) n (suc i) = high_first-bytes k n i

digest-bytes : (h : List ℕ) (n : ℕ) → AreBytes (digest_bytes h n)
unfolding digest_bytes
digest-bytes h zero i = omega arith
digest-bytes h (suc n) i =
    append-bytes (digest_bytes h n) (to_be_bytes w64 (slice_index h n)) (digest-bytes h n) (high_first-bytes 8 (slice_index h n)) i

hmac-bytes : (key text : List ℕ) → AreBytes (hmac512 key text)
unfolding hmac512 sha512
hmac-bytes key text = digest-bytes _ 8

block-bytes : (prk info : List ℕ) (i : ℕ) → AreBytes (expand_block prk info i)
unfolding expand_block
block-bytes prk info zero k = omega arith
block-bytes prk info (suc i) k = hmac-bytes prk (expand_block prk info i ++ info ++ suc i ∷ []) k

blocks-bytes : (prk info : List ℕ) (count : ℕ) → AreBytes (expand_blocks prk info count)
unfolding expand_blocks
blocks-bytes prk info zero k = omega arith
blocks-bytes prk info (suc count) k =
    append-bytes (expand_blocks prk info count) (expand_block prk info (suc count)) (blocks-bytes prk info count) (block-bytes prk info (suc count)) k

hkdf-bytes : (ikm info : List ℕ) (n : ℕ) → AreBytes (hkdf ikm info n)
unfolding hkdf
hkdf-bytes ikm info n = take-bytes n (expand_blocks (extract ikm) info (div_ceil n 64)) (blocks-bytes (extract ikm) info (div_ceil n 64))

aead_text-bytes : (suite : Suite) (key iv aad text : List ℕ) → AreBytes key → AreBytes text → AreBytes (aead_seal suite key iv aad text).0
aead_text-bytes Aes128Gcm key iv aad text keys texts = sealed-bytes key iv aad text keys texts
aead_text-bytes Aes192Gcm key iv aad text keys texts = sealed-bytes key iv aad text keys texts
aead_text-bytes Aes256Gcm key iv aad text keys texts = sealed-bytes key iv aad text keys texts

aead_tag-bytes : (suite : Suite) (key iv aad text : List ℕ) → AreBytes key → AreBytes (aead_seal suite key iv aad text).1
aead_tag-bytes Aes128Gcm key iv aad text keys = tag-bytes key iv aad text keys
aead_tag-bytes Aes192Gcm key iv aad text keys = tag-bytes key iv aad text keys
aead_tag-bytes Aes256Gcm key iv aad text keys = tag-bytes key iv aad text keys

pub sealed_text-bytes : (key : KeyValue) (salt iv text : List ℕ) → AreBytes text → AreBytes (sealed_block key salt iv text).0
sealed_text-bytes key salt iv text texts =
    aead_text-bytes key.suite (block_key key salt) iv [] text (hkdf-bytes key.master salt _) texts

pub sealed_tag-bytes : (key : KeyValue) (salt iv text : List ℕ) → AreBytes (sealed_block key salt iv text).1
sealed_tag-bytes key salt iv text = aead_tag-bytes key.suite (block_key key salt) iv [] text (hkdf-bytes key.master salt _)
