-- What is asked of ciphers, and when what is told of a command's material is fair: it could have come from
-- real material.
use Rattle.std.specs.Prelude.{◌≡◌, ◌⊎◌, ℕ, ◌+◌, ◌^◌, ◌<◌, List, [], ◌∷◌, length, map, true, is_some, if◌then◌else◌, Ok}
use Rattle.std.specs.declared.option.Option.{Option}
use Rattle.std.specs.declared.option.Option.TheVariants.{Some, None}
use Rattle.std.specs.List.{All}
use Rattle.byte_fields.specs.LittleEndian.{little_endian_value}
use Rattle.dataset_tree.specs.declared.kinds.Format.{Format}
use Rattle.dataset_tree.specs.declared.refusal.Refusal.{Refusal}
use Rattle.dataset_tree.specs.Suite.{suite_key_len}
use Rattle.encryption_roots.specs.declared.kit.Fetched.{Fetched}
use Rattle.encryption_roots.specs.declared.kit.Fetched.TheVariants as fetched
use Rattle.encryption_roots.specs.declared.kit.SeedGot.{SeedGot}
use Rattle.encryption_roots.specs.declared.kit.SeedGot.TheVariants as seeds
use Rattle.encryption_roots.specs.declared.kit.LineKit.{LineKit}
use Rattle.encryption_roots.specs.declared.command.KeyCmd.{KeyCmd}
use Rattle.encryption_roots.specs.declared.command.KeyCmd.TheVariants as commands
use Rattle.key_machine.specs.Change.{change_families}
use Rattle.key_machine.specs.Create.{makes_root, makes_encrypted, parent_row, parent_key}
use Rattle.key_machine.specs.Inherit.{inherit_families, inherit_key}
use Rattle.key_machine.specs.Limits.{key_len}
use Rattle.key_machine.specs.Plain.{Plain, Master, Ciphers, owned, has_key, mkey}
use Rattle.key_machine.specs.Reply.{Refused}
use Rattle.key_machine.specs.Step.{wanted, key_step, target}
use Rattle.key_machine.specs.Told.{Told, no_key}

-- ---- ciphers

pub record IsMaster (m : Master) : Type 0 where
  pub guid : m.guid < 2 ^ 64
  pub master : length m.master ≡ suite_key_len m.suite
  pub hmac : length m.hmac ≡ 64

-- A record that is made opens, under its wrapping key, to its master key, and what a record opens to is one;
-- a seed gives as many bytes as are asked for; and material gives keys of 32 bytes.
pub record AreSound (c : Ciphers) : Type 0 where
  pub opened : (m : Master) (key vector : List ℕ) → IsMaster m → length vector ≡ 12
      → c.opens (c.record_of m key vector) key ≡ Some m
  pub masters : (stored key : List ℕ) (m : Master) → c.opens stored key ≡ Some m → IsMaster m
  pub words : (seed : List ℕ) (place n : ℕ) → length (c.seed_bytes seed place n) ≡ n
  pub numbers : (seed : List ℕ) (place : ℕ) → little_endian_value (c.seed_bytes seed place 8) < 2 ^ 64
  pub keys : (format : Format) (material : List ℕ) (iters salt : ℕ) (key : List ℕ)
      → c.wkey format material iters salt ≡ Ok key → length key ≡ key_len

-- ---- kits

-- what a command needs was asked for
abbrev pub WasAsked : Fetched → Type 0
WasAsked fetched.NotAsked = ⊥
WasAsked (fetched.Got material) = Unit {0}
WasAsked fetched.Missing = Unit {0}
WasAsked fetched.Fault = Unit {0}

abbrev pub SeedWasAsked : SeedGot → Type 0
SeedWasAsked seeds.NotAsked = ⊥
SeedWasAsked (seeds.Got seed) = Unit {0}
SeedWasAsked seeds.Fault = Unit {0}

pub record Suffices (p : Plain) (command : KeyCmd) (kit : LineKit) : Type 0 where
  pub old_key : is_some (wanted p command).old_place ≡ true → WasAsked kit.old_key
  pub new_key : is_some (wanted p command).new_place ≡ true → WasAsked kit.new_key
  pub seed : (wanted p command).seed ≡ true → SeedWasAsked kit.seed

-- ---- what is told

-- each record of these opens under the key
abbrev pub AllOpen : Ciphers → List ℕ → List (ℕ × List ℕ) → Type 0
AllOpen c key records = All (λ entry. is_some (c.opens entry.1 key) ≡ true) records

-- the families whose records a command writes, and the key under which they will stand
abbrev pub families_written : Plain → KeyCmd → List ℕ
families_written p (commands.Create name opts) = if makes_encrypted p name opts then (p.tree.last + 1) ∷ [] else []
families_written p (commands.Load name check_only place) = []
families_written p (commands.Unload name) = []
families_written p (commands.Change name opts load_first) =
    change_families p opts (target p (commands.Change name opts load_first))
families_written p (commands.Inherit name load_first) = inherit_families p (target p (commands.Inherit name load_first))
families_written p (commands.Mount name) = []
families_written p (commands.Unmount name) = []
families_written p (commands.Get name prop) = []
families_written p (commands.Clone from name) = []
families_written p (commands.Receive name props wrapped block) = []
families_written p (commands.Destroy name snaps) = []

abbrev pub key_written : Plain → KeyCmd → Told → List ℕ
key_written p (commands.Create name opts) told = if makes_root opts then told.key else parent_key p (parent_row p name)
key_written p (commands.Load name check_only place) told = no_key
key_written p (commands.Unload name) told = no_key
key_written p (commands.Change name opts load_first) told = told.key
key_written p (commands.Inherit name load_first) told = inherit_key p (target p (commands.Inherit name load_first))
key_written p (commands.Mount name) told = no_key
key_written p (commands.Unmount name) told = no_key
key_written p (commands.Get name prop) told = no_key
key_written p (commands.Clone from name) told = no_key
key_written p (commands.Receive name props wrapped block) told = no_key
key_written p (commands.Destroy name snaps) told = no_key

-- For a load, each record that the root owns opens under the key.
abbrev pub OpensAll : Ciphers → Plain → Told → Option ℕ → Type 0
OpensAll c p told None = Unit {0}
OpensAll c p told (Some root) = All (λ entry. is_some (c.opens entry.1.wrapped told.key) ≡ true) (owned p root)

abbrev pub OpensOwned : Ciphers → Plain → KeyCmd → Told → Type 0
OpensOwned c p (commands.Create name opts) told = Unit {0}
OpensOwned c p (commands.Load name check_only place) told =
    OpensAll c p told (target p (commands.Load name check_only place))
OpensOwned c p (commands.Unload name) told = Unit {0}
OpensOwned c p (commands.Change name opts load_first) told = Unit {0}
OpensOwned c p (commands.Inherit name load_first) told = Unit {0}
OpensOwned c p (commands.Mount name) told = Unit {0}
OpensOwned c p (commands.Unmount name) told = Unit {0}
OpensOwned c p (commands.Get name prop) told = Unit {0}
OpensOwned c p (commands.Clone from name) told = Unit {0}
OpensOwned c p (commands.Receive name props wrapped block) told = Unit {0}
OpensOwned c p (commands.Destroy name snaps) told = Unit {0}

-- each of these records opens under the key to the master key that its family has, wherever the key that the
-- family uses is loaded
abbrev pub AllKept : Ciphers → Plain → List ℕ → List (ℕ × List ℕ) → Type 0
AllKept c p key records = All (λ entry. has_key p entry.0 ≡ true → c.opens entry.1 key ≡ mkey c p entry.0) records

-- A refused step asks nothing of what is told. Of another, the records are those of the families that it
-- names, and each opens under the key that will own it, and there to the master key of before.
pub record IsGenuine (c : Ciphers) (p : Plain) (command : KeyCmd) (told : Told) : Type 0 where
  pub owned : OpensOwned c p command told
  pub families : map (λ entry. entry.0) told.wrapped ≡ families_written p command
  pub opened : AllOpen c (key_written p command told) told.wrapped
  pub kept : AllKept c p (key_written p command told) told.wrapped

abbrev pub IsFair : Ciphers → Plain → KeyCmd → Told → Type 0
IsFair c p command told =
    ((why : Refusal) × ((key_step p command told).reply ≡ Refused why)) ⊎ IsGenuine c p command told
