-- When a plain state is sound.
use Rattle.std.specs.Prelude.{◌≡◌, ◌≢◌, ◌↔◌, ℕ, ◌<◌, ◌≤◌, ◌==◌, List, length, is_some, true, map, IfSome}
use Rattle.std.specs.declared.option.Option.TheVariants.{Some}
use Rattle.std.specs.List.{All, AllPairs, Contains, count_by}
use Rattle.dataset_tree.specs.declared.kinds.Kind.TheVariants.{Crypt}
use Rattle.dataset_tree.specs.declared.tree.Row.{Row}
use Rattle.dataset_tree.specs.Tree.{IsTree, row_of}
use Rattle.encryption_roots.specs.ById.{IsRisingById, at_id}
use Rattle.encryption_roots.specs.Owners.{family}
use Rattle.key_machine.specs.Limits.{slot_count, max_generation, max_riders, max_holds}
use Rattle.key_machine.specs.Plain.{Plain, Ciphers, owner_of, is_root, has_key}
use Rattle.key_machine.specs.Users.{generation_of}

-- the dataset is there and encrypted
abbrev pub IsEncrypted : Plain → ℕ → Type 0
IsEncrypted p id = (row : Row) × (row_of id p.tree.rows ≡ Some row) × (row.kind ≡ Crypt)

-- The tree; owners, roots and origins are encrypted, no clone is a root; and each encrypted dataset's family
-- has one record.
pub record SoundTree (p : Plain) : Type 0 where
  pub tree : IsTree p.tree
  pub owners : (id : ℕ) → IsEncrypted p id → is_some (owner_of p id) ≡ true
  pub roots : IsRisingById p.roots
  pub roots_encrypted : (id : ℕ) → is_root p id ≡ true → IsEncrypted p id
  pub no_clone : (id : ℕ) (row : Row) → row_of id p.tree.rows ≡ Some row → is_root p id ≡ true → row.origin ≡ 0
  pub origins : All (λ row. row.origin ≢ 0 → (row.kind ≡ Crypt) × IsEncrypted p row.origin) p.tree.rows
  pub records : IsRisingById p.wrapped
  pub families : (id : ℕ) → (is_some (at_id id p.wrapped) ≡ true)
      ↔ ((dataset : ℕ) × IsEncrypted p dataset × (family p.tree.rows dataset ≡ id))

-- Mapped datasets are encrypted and have their key, each has one slot, and mounted datasets are mapped.
pub record SoundMappings (p : Plain) : Type 0 where
  pub mapped : IsRisingById p.mapped
  pub encrypted : All (λ mapping. IsEncrypted p mapping.0) p.mapped
  pub slots : AllPairs (λ a b. a.1 ≢ b.1) p.mapped
  pub keys : All (λ mapping. has_key p mapping.0 ≡ true) p.mapped
  pub mounted : AllPairs (λ a b. a < b) p.mounted
  pub mounts : All (λ id. is_some (at_id id p.mapped) ≡ true) p.mounted

-- the record of this family, where it has one, opens under the key
abbrev pub OpensAt : Ciphers → Plain → List ℕ → ℕ → Type 0
OpensAt c p key id = IfSome (at_id id p.wrapped) (λ stored. is_some (c.opens stored.wrapped key) ≡ true)

-- Loaded keys are those of roots, and open the records that the root owns.
pub record SoundKeys (c : Ciphers) (p : Plain) : Type 0 where
  pub loaded : IsRisingById p.loaded
  pub roots : All (λ entry. is_root p entry.0 ≡ true) p.loaded
  pub opened : (root id : ℕ) (key : List ℕ) → at_id root p.loaded ≡ Some key → owner_of p id ≡ Some root
      → OpensAt c p key id

-- Each rider holds one mapping, of the present generation, at most 65535 times; riders are 1 to 32.
pub record SoundUsers (p : Plain) : Type 0 where
  pub one : AllPairs (λ a b. a.rider ≡ b.rider → (a.slot ≡ b.slot) × (a.generation ≡ b.generation)) p.users
  pub mapped : All (λ hold. Contains (map (λ mapping. mapping.1) p.mapped) hold.slot) p.users
  pub present : All (λ hold. hold.generation ≡ generation_of p hold.slot) p.users
  pub few : (rider : ℕ) → count_by (λ hold. hold.rider == rider) p.users ≤ max_holds
  pub riders : All (λ hold. (1 ≤ hold.rider) × (hold.rider ≤ max_riders)) p.users

-- There are 256 slots, and a generation below 2 ^ 30 for each.
pub record SoundSlots (p : Plain) : Type 0 where
  pub slots : length p.gens ≡ slot_count
  pub generations : All (λ generation. generation ≤ max_generation) p.gens
  pub mapped : All (λ mapping. mapping.1 < slot_count) p.mapped

pub record Sound (c : Ciphers) (p : Plain) : Type 0 where
  pub tree : SoundTree p
  pub mappings : SoundMappings p
  pub keys : SoundKeys c p
  pub users : SoundUsers p
  pub slots : SoundSlots p
