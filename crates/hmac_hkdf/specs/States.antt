-- What a contract sees of a keyed state: its key, and the text that it has taken in.
use Rattle.std.specs.Prelude.{ℕ, List, ◌++◌}
use Rattle.sha1.specs.Sha1.{sha1, Holds}
use Rattle.sha2.specs.Sha512.{sha512}
use Rattle.sha2.specs.Hashers.{Holds512}
use Rattle.hmac_hkdf.specs.Hmac.{inner_block, outer_block}
use Rattle.hmac_hkdf.specs.declared.pieces.Hmac512.{Hmac512}
use Rattle.hmac_hkdf.specs.declared.keyed.Hmac1Key.{Hmac1Key}

-- the state was begun with the key, and has taken in the text
unfoldable pub HasTaken : Hmac512 → List ℕ → List ℕ → Type 0
HasTaken mac key text =
    Holds512 mac.inner (inner_block sha512 128 key ++ text) × Holds512 mac.outer (outer_block sha512 128 key)

-- the state was made for the key
unfoldable pub IsMadeFor : Hmac1Key → List ℕ → Type 0
IsMadeFor state key = Holds state.inner (inner_block sha1 64 key) × Holds state.outer (outer_block sha1 64 key)
