-- What the material of a command tells: its first fault, the record that doesn't open, the key, the salt, and
-- the records to write.
use Rattle.std.specs.Prelude.{ℕ, Bool, false, List, [], replicate, Result, Ok, Err}
use Rattle.std.specs.declared.option.Option.{Option}
use Rattle.std.specs.declared.option.Option.TheVariants.{Some, None}
use Rattle.dataset_tree.specs.declared.kinds.Format.{Format}
use Rattle.dataset_tree.specs.declared.refusal.Refusal.{Refusal}
use Rattle.dataset_tree.specs.declared.refusal.Refusal.TheVariants.{KeyFileMissing, KeyFault, EntropyFault}
use Rattle.encryption_roots.specs.declared.props.Location.{Location}
use Rattle.encryption_roots.specs.declared.kit.Fetched.{Fetched}
use Rattle.encryption_roots.specs.declared.kit.Fetched.TheVariants as fetched
use Rattle.encryption_roots.specs.declared.kit.SeedGot.{SeedGot}
use Rattle.encryption_roots.specs.declared.kit.SeedGot.TheVariants as seeds
use Rattle.key_machine.specs.Limits.{key_len}
use Rattle.key_machine.specs.Plain.{Ciphers}

-- ---- what a command takes beside the state

-- the place of the old key and that of the new one, where they are to be fetched, and whether a seed is to be taken
pub record Wanted : Type 0 where
  pub old_place : Option Location
  pub new_place : Option Location
  pub seed : Bool

abbrev pub nothing_wanted : Wanted
nothing_wanted = record { old_place = None; new_place = None; seed = false }

-- ---- what that tells

-- `fault` is the first fault among those of old key, new key and seed; `wrong` the first dataset whose record
-- doesn't open; `key` the new or loaded wrapping key, of 32 bytes; `salt` the PBKDF2 salt of new properties;
-- `wrapped` the records written, by family.
pub record Told : Type 0 where
  pub fault : Option Refusal
  pub wrong : Option ℕ
  pub key : List ℕ
  pub salt : ℕ
  pub wrapped : List (ℕ × List ℕ)

-- where there is no key
abbrev pub no_key : List ℕ
no_key = replicate key_len 0

abbrev pub nothing_told : Told
nothing_told = record { fault = None; wrong = None; key = no_key; salt = 0; wrapped = [] }

-- A fault tells nothing else.
abbrev pub fault_told : Refusal → Told
fault_told why = record { fault = Some why; wrong = None; key = no_key; salt = 0; wrapped = [] }

-- the wrapping key that was fetched, or why there is none; what wasn't asked for wasn't had
abbrev pub key_of : Ciphers → Format → ℕ → ℕ → Fetched → Result (List ℕ) Refusal
key_of c format iters salt (fetched.Got material) = c.wkey format material iters salt
key_of c format iters salt fetched.Missing = Err KeyFileMissing
key_of c format iters salt fetched.Fault = Err KeyFault
key_of c format iters salt fetched.NotAsked = Err KeyFault

-- the seed that was had, or why there is none
abbrev pub seed_of : SeedGot → Result (List ℕ) Refusal
seed_of (seeds.Got seed) = Ok seed
seed_of seeds.Fault = Err EntropyFault
seed_of seeds.NotAsked = Err EntropyFault
