-- One more block of HKDF's output.
use Rattle.std.proofs.Common.{◌≡◌, ℕ, ◌+◌, List, [], ◌∷◌, ◌++◌, refl, add-one}
use Rattle.hmac_hkdf.specs.Hmac.{hmac512}
use Rattle.hmac_hkdf.specs.Hkdf.{expand_block, expand_blocks}

pub expand_block-next : (prk info previous block : List ℕ) (i : ℕ) → previous ≡ expand_block prk info i → block ≡ hmac512 prk (previous ++ info ++ (i + 1) ∷ []) → block ≡ expand_block prk info (i + 1)
unfolding expand_block
expand_block-next prk info previous block i last next = rw add-one (rw (last, add-one) at next)

pub expand_blocks-next : (prk info block : List ℕ) (i : ℕ) → block ≡ expand_block prk info (i + 1) → expand_blocks prk info i ++ block ≡ expand_blocks prk info (i + 1)
unfolding expand_blocks
expand_blocks-next prk info block i new = rw (add-one, new, add-one) refl
