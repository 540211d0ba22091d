-- Authenticated encryption in the mode of a suite. The length of the key chooses the AES.
use Rattle.std.specs.Prelude.{ℕ, List, Option}
use Rattle.dataset_tree.specs.declared.kinds.Suite.{Suite}
use Rattle.dataset_tree.specs.declared.kinds.Suite.TheVariants.{Aes128Gcm, Aes192Gcm, Aes256Gcm}
use Rattle.gcm_seal.specs.Gcm.{gcm_seal, gcm_open}

-- the sealed text and its tag
abbrev pub aead_seal : Suite → (key iv aad text : List ℕ) → List ℕ × List ℕ
aead_seal Aes128Gcm key iv aad text = gcm_seal key iv aad text
aead_seal Aes192Gcm key iv aad text = gcm_seal key iv aad text
aead_seal Aes256Gcm key iv aad text = gcm_seal key iv aad text

-- the text, or none where the tag differs
abbrev pub aead_open : Suite → (key iv aad sealed tag : List ℕ) → Option (List ℕ)
aead_open Aes128Gcm key iv aad sealed tag = gcm_open key iv aad sealed tag
aead_open Aes192Gcm key iv aad sealed tag = gcm_open key iv aad sealed tag
aead_open Aes256Gcm key iv aad sealed tag = gcm_open key iv aad sealed tag
