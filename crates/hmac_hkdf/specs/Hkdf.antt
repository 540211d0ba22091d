-- HKDF (RFC 5869) with HMAC-SHA-512 and no salt. Section numbers are the RFC's.
use Rattle.std.specs.Prelude.{ℕ, zero, suc, List, [], ◌∷◌, ◌++◌, take, replicate}
use Rattle.std.specs.Int.{div_ceil}
use Rattle.hmac_hkdf.specs.Hmac.{hmac512}

-- PRK: a salt that is not given is a string of HashLen zeros (2.2)
abbrev pub extract : List ℕ → List ℕ
extract ikm = hmac512 (replicate 64 0) ikm

-- T(i), for i up to 255, of a pseudorandom key (2.3)
unfoldable pub expand_block : List ℕ → List ℕ → ℕ → List ℕ
expand_block prk info zero = []
expand_block prk info (suc i) = hmac512 prk (expand_block prk info i ++ info ++ suc i ∷ [])

-- T(1) | T(2) | .. | T(count) (2.3)
unfoldable pub expand_blocks : List ℕ → List ℕ → ℕ → List ℕ
expand_blocks prk info zero = []
expand_blocks prk info (suc count) = expand_blocks prk info count ++ expand_block prk info (suc count)

-- the first n bytes of T(1) | .. | T(N), with N = ceil (n / HashLen), for n up to 255 * HashLen (2.3)
unfoldable pub hkdf : List ℕ → List ℕ → ℕ → List ℕ
hkdf ikm info n = take n (expand_blocks (extract ikm) info (div_ceil n 64))
