-- Master keys and key records as values. Keys, initialization vectors, tags and sealed texts are lists of bytes.
use Rattle.std.specs.Prelude.{◌≡◌, ℕ, ◌+◌, ◌^◌, ◌<◌, List, length}
use Rattle.dataset_tree.specs.declared.kinds.Suite.{Suite}
use Rattle.dataset_tree.specs.Suite.{suite_key_len}

-- the keys of a family of datasets: the master key, of as many bytes as the suite's keys have, and the HMAC key
pub record MasterValue : Type 0 where
  pub guid : ℕ
  pub suite : Suite
  pub master : List ℕ
  pub hmac : List ℕ

-- a master key as it is stored, sealed under a wrapping key
pub record RecordValue : Type 0 where
  pub guid : ℕ
  pub suite : Suite
  pub version : ℕ
  pub iv : List ℕ
  pub mac : List ℕ
  pub sealed : List ℕ

-- how many bytes an HMAC key has
abbrev pub hmac_key_len : ℕ
hmac_key_len = 64

-- how many bytes the sealed text of a record has: the master key and the HMAC key
abbrev pub sealed_len : Suite → ℕ
sealed_len suite = suite_key_len suite + hmac_key_len

-- the version of a record
abbrev pub current_version : ℕ
current_version = 1

-- what each master key has
pub record IsMasterKey (key : MasterValue) : Type 0 where
  pub guid : key.guid < 2 ^ 64
  pub master : length key.master ≡ suite_key_len key.suite
  pub hmac : length key.hmac ≡ hmac_key_len

-- what each record has
pub record IsRecord (r : RecordValue) : Type 0 where
  pub guid : r.guid < 2 ^ 64
  pub version : r.version ≡ current_version
  pub iv : length r.iv ≡ 12
  pub mac : length r.mac ≡ 16
  pub sealed : length r.sealed ≡ sealed_len r.suite
