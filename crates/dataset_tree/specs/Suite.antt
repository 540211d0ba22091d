-- The cipher suites of encrypted datasets.
use Rattle.std.specs.Prelude.{ℕ, List, ◌==◌, if◌then◌else◌}
use Rattle.std.specs.declared.option.Option.{Option}
use Rattle.std.specs.declared.option.Option.TheVariants.{Some, None}
use lib.Chars.{codes}
use Rattle.dataset_tree.specs.declared.kinds.Suite.{Suite}
use Rattle.dataset_tree.specs.declared.kinds.Suite.TheVariants.{Aes128Gcm, Aes192Gcm, Aes256Gcm}

-- the number by which stored forms name it
abbrev pub suite_number : Suite → ℕ
suite_number Aes128Gcm = 6
suite_number Aes192Gcm = 7
suite_number Aes256Gcm = 8

-- the suite of a number, if one has it
abbrev pub suite_numbered : ℕ → Option Suite
suite_numbered number =
    if number == suite_number Aes128Gcm then Some Aes128Gcm
    else if number == suite_number Aes192Gcm then Some Aes192Gcm
    else if number == suite_number Aes256Gcm then Some Aes256Gcm
    else None

-- its name in commands and replies
abbrev pub suite_name : Suite → List ℕ
suite_name Aes128Gcm = codes "aes-128-gcm"
suite_name Aes192Gcm = codes "aes-192-gcm"
suite_name Aes256Gcm = codes "aes-256-gcm"

-- how many bytes its keys have
abbrev pub suite_key_len : Suite → ℕ
suite_key_len Aes128Gcm = 16
suite_key_len Aes192Gcm = 24
suite_key_len Aes256Gcm = 32
