-- The plain state that a keystore's fields show, and what the fields keep.
use Rattle.std.specs.Prelude.{◌≡◌, ℕ, ◌≤◌, List, [], length, map, vec_capacity, is_some, true, unwrap_or, if◌then◌else◌}
use Rattle.std.specs.declared.option.Option.{Option}
use Rattle.std.specs.declared.option.Option.TheVariants.{None}
use Rattle.std.specs.List.{All}
use Rattle.std.specs.Option.{option_map}
use Rattle.encryption_roots.specs.ById.{IsRisingById, at_id}
use Rattle.encryption_roots.specs.Props.{KeepsIterations}
use Rattle.encryption_roots.specs.RecordSize.{IsRecordSize}
use Rattle.wrapped_keys.specs.Stored.{parsed_record}
use Rattle.key_machine.specs.Counts.{is_opened}
use Rattle.key_machine.specs.Plain.{Plain, Stored, Master, mkey}
use Rattle.key_machine.specs.Sound.{Sound}
use Rattle.key_machine.specs.Users.{mkey_users}
use Rattle.key_store.specs.declared.state.FamilyRecord.{FamilyRecord}
use Rattle.key_store.specs.declared.state.KeyState.TheInside.{Inside}
use Rattle.key_ciphers.specs.Ciphers.{ciphers, master_of}

abbrev pub stored_of : FamilyRecord → Stored
stored_of family = record { wrapped = family.wrapped; block = family.block }

abbrev pub stored_records : List (ℕ × FamilyRecord) → List (ℕ × Stored)
stored_records records = map (λ entry. (entry.0, stored_of entry.1)) records

-- a family's record, with the bytes that are written for it, of several the first
abbrev pub with_written : List (ℕ × List ℕ) → ℕ × FamilyRecord → ℕ × FamilyRecord
with_written written entry =
    (entry.0, record { wrapped = unwrap_or (at_id entry.0 written) entry.1.wrapped; block = entry.1.block })

-- Whoever holds a mapping beside its mount doesn't show here.
abbrev pub plain_of : Inside → Plain
plain_of s = record {
  tree = s.tree;
  roots = s.roots;
  wrapped = stored_records s.records.items;
  loaded = s.loaded.items;
  gens = s.gens.items;
  mapped = s.mapped.items;
  mounted = s.mounted.items;
  users = [];
}

-- a family's master key where it is opened, which is where a dataset of the family is mapped
abbrev pub opened_key : Plain → ℕ → Option Master
opened_key p family = if is_opened p family then mkey ciphers p family else None

-- each entry with the users of its id
abbrev pub counted_by : {X : Type 0} → (ℕ → ℕ) → List (ℕ × X) → List (ℕ × ℕ)
counted_by users entries = map (λ entry. (entry.0, users entry.0)) entries

-- The counters of master keys: for each family that has a record its mapped datasets.
abbrev pub AreCounted : Plain → List (ℕ × ℕ) → Type 0
AreCounted p counts = counts ≡ counted_by (mkey_users p) p.wrapped

-- There is room for 32 records and 256 loaded keys and mappings, and there are at most 256 datasets, of which each
-- root is one.
pub record HasRoom (s : Inside) : Type 0 where
  pub datasets : length s.tree.rows ≤ 256
  pub records : 32 ≤ vec_capacity s.records
  pub loaded : 256 ≤ vec_capacity s.loaded
  pub mapped : 256 ≤ vec_capacity s.mapped
  pub mounted : 256 ≤ vec_capacity s.mounted
  pub opened : 32 ≤ vec_capacity s.opened
  pub mkeys : 32 ≤ vec_capacity s.mkey_counts

-- The plain state is sound; its records, its record sizes and the properties of its roots are in form; the master
-- keys that are opened are those of the families with a mapped dataset; their counters are the live users; and there
-- is room.
pub record IsKept (s : Inside) : Type 0 where
  pub sound : Sound ciphers (plain_of s)
  pub records : All (λ entry. is_some (parsed_record entry.1.wrapped) ≡ true) s.records.items
  pub sizes : All (λ entry. IsRecordSize entry.1.block) s.records.items
  pub props : All (λ entry. KeepsIterations entry.1) s.roots
  pub by_family : IsRisingById s.opened.items
  pub opened : (family : ℕ) → option_map master_of (at_id family s.opened.items) ≡ opened_key (plain_of s) family
  pub mkeys : AreCounted (plain_of s) s.mkey_counts.items
  pub room : HasRoom s
