-- The limits of a host, of its options and of its riders.
use Rattle.std.specs.Prelude.{ℕ}

-- the most datasets, and the last id that a dataset has
abbrev pub max_datasets : ℕ
max_datasets = 256

abbrev pub max_id : ℕ
max_id = 4294967295

-- the most families
abbrev pub max_families : ℕ
max_families = 32

-- the iterations of PBKDF2: the fewest, the most, and those where the options have none
abbrev pub min_iterations : ℕ
min_iterations = 100000

abbrev pub max_iterations : ℕ
max_iterations = 10000000

abbrev pub default_iterations : ℕ
default_iterations = 350000

-- the record size where the options have none, in bytes
abbrev pub default_record_size : ℕ
default_record_size = 131072

-- the slots for mappings, and the last generation of a slot
abbrev pub slot_count : ℕ
slot_count = 256

abbrev pub max_generation : ℕ
max_generation = 1073741823

-- the riders, and the holds of one
abbrev pub max_riders : ℕ
max_riders = 32

abbrev pub max_holds : ℕ
max_holds = 65535

-- the bytes of a wrapping key
abbrev pub key_len : ℕ
key_len = 32
