-- How the blocks of a dataset are sealed.
use Rattle.std.specs.Prelude.{◌≡◌, ℕ, List, [], length, Option}
use Rattle.dataset_tree.specs.declared.kinds.Suite.{Suite}
use Rattle.dataset_tree.specs.Suite.{suite_key_len}
use Rattle.hmac_hkdf.specs.Hkdf.{hkdf}
use Rattle.wrapped_keys.specs.Aead.{aead_seal, aead_open}

-- the keys of a dataset's blocks: a suite, and the master key
pub record KeyValue : Type 0 where
  pub suite : Suite
  pub master : List ℕ

-- the master key has as many bytes as the suite's keys
pub record IsWhole (key : KeyValue) : Type 0 where
  pub master : length key.master ≡ suite_key_len key.suite

-- the key of the blocks with this salt, by HKDF of the master key with the salt as info
abbrev pub block_key : KeyValue → (salt : List ℕ) → List ℕ
block_key key salt = hkdf key.master salt (suite_key_len key.suite)

-- the sealed text and its tag, which covers no additional data
abbrev pub sealed_block : KeyValue → (salt iv text : List ℕ) → List ℕ × List ℕ
sealed_block key salt iv text = aead_seal key.suite (block_key key salt) iv [] text

-- the text, or none where the tag differs
abbrev pub opened_block : KeyValue → (salt iv sealed tag : List ℕ) → Option (List ℕ)
opened_block key salt iv sealed tag = aead_open key.suite (block_key key salt) iv [] sealed tag
