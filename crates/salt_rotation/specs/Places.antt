-- Where the words of a seed stand that a command takes from entropy.
use Rattle.std.specs.Prelude.{ℕ, ◌+◌, ◌*◌}

-- the master key, at most 32 bytes
abbrev pub master_place : ℕ
master_place = 0

-- the HMAC key, 64 bytes
abbrev pub hmac_place : ℕ
hmac_place = 8

-- the guid of a key or of a snapshot, 8 bytes
abbrev pub guid_place : ℕ
guid_place = 24

-- the seed of a family's salts, 32 bytes
abbrev pub salts_seed_place : ℕ
salts_seed_place = 26

-- the salt of a passphrase, 8 bytes
abbrev pub salt_place : ℕ
salt_place = 34

-- the initialization vector of a command's record number i, 12 bytes
abbrev pub vector_place : ℕ → ℕ
vector_place i = 36 + 3 * i
