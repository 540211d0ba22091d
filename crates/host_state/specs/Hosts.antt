-- A host, and what a command does to it: to its keystore, and to the families of its encrypted datasets.
use Rattle.std.specs.Prelude.{◌≡◌, ℕ, ◌≤◌, ◌==◌, ◌&&◌, Bool, true, List, [], map, unwrap_or, if◌then◌else◌, take, is_some, IfSome, Result, Ok, Err}
use Rattle.std.specs.declared.option.Option.{Option}
use Rattle.std.specs.declared.option.Option.TheVariants.{Some, None}
use Rattle.byte_fields.specs.LittleEndian.{little_endian_value}
use Rattle.dataset_tree.specs.declared.refusal.Stop.{Stop}
use Rattle.dataset_tree.specs.declared.refusal.Stop.TheVariants as stops
use Rattle.dataset_tree.specs.declared.tree.Row.{Row}
use Rattle.dataset_tree.specs.Tree.{id_named, row_of}
use Rattle.encryption_roots.specs.declared.command.KeyCmd.{KeyCmd}
use Rattle.encryption_roots.specs.declared.command.KeyCmd.TheVariants as commands
use Rattle.encryption_roots.specs.declared.kit.LineKit.{LineKit}
use Rattle.encryption_roots.specs.declared.kit.SeedGot.{SeedGot}
use Rattle.encryption_roots.specs.declared.kit.SeedGot.TheVariants as seeds
use Rattle.encryption_roots.specs.declared.props.Options.{Options}
use Rattle.encryption_roots.specs.ById.{IsRisingById, at_id, with_id}
use Rattle.encryption_roots.specs.Owners.{family}
use Rattle.salt_rotation.specs.Places.{hmac_place, guid_place, salts_seed_place}
use Rattle.salt_rotation.specs.SaltState.{SaltState}
use Rattle.salt_rotation.specs.SeedWords.{seed_bytes}
use Rattle.family_log.specs.Model.{FamilyState, fresh_family, head_of}
use Rattle.family_log.specs.Tables.{fresh_table}
use Rattle.file_dataset.specs.Portable.{portable}
use Rattle.file_dataset.specs.Steady.{IsSteady}
use Rattle.key_machine.specs.Create.{makes_encrypted}
use Rattle.key_machine.specs.Limits.{default_record_size}
use Rattle.key_machine.specs.Plain.{Plain, Stored, no_keys}
use Rattle.key_machine.specs.Reap.{reap_step}
use Rattle.key_machine.specs.Reply.{Stepped, Reply, Done, Made, Text, Refused, Reaped, Skipped}
use Rattle.key_store.specs.Calls.{stepped}
use Rattle.snap_clone.specs.Ids.{IsUpTo}

-- ---- a host

-- A host: its keystore; the families, by the ids of their records in rising order; and what a new family gets: how
-- many draws one of its salts serves, and whether its shelf tells what was put on it.
pub record HostState : Type 0 where
  pub keys : Plain
  pub families : List (ℕ × FamilyState)
  pub limit : ℕ
  pub tells : Bool

-- a host that holds nothing
abbrev pub no_host : (tells : Bool) → (limit : ℕ) → HostState
no_host tells limit = record { keys = no_keys; families = []; limit = limit; tells = tells }

-- what a family and its key record have in common: the guid of the key, and the record size
pub record KeyFacts : Type 0 where
  pub guid : ℕ
  pub block : ℕ

-- the guid in a stored key record: its first 8 bytes
abbrev pub guid_in : (stored : List ℕ) → ℕ
guid_in stored = little_endian_value (take 8 stored)

abbrev pub facts_of_family : FamilyState → KeyFacts
facts_of_family family = record { guid = family.guid; block = family.block }

abbrev pub facts_of_record : Stored → KeyFacts
facts_of_record stored = record { guid = guid_in stored.wrapped; block = stored.block }

abbrev pub by_id : {X Y : Type 0} → (X → Y) → List (ℕ × X) → List (ℕ × Y)
by_id of entries = map (λ entry. (entry.0, of entry.1)) entries

-- a dataset of this family is there
abbrev pub is_member : List Row → (of id : ℕ) → Bool
is_member rows of id = is_some (row_of id rows) && (family rows id == of)

-- the heads of the family of this id are its datasets
abbrev pub HasDatasets : List Row → (of : ℕ) → FamilyState → Type 0
HasDatasets rows of state = (id : ℕ) → is_some (head_of id state.heads) ≡ is_member rows of id

-- What a host keeps: it has a family for each key record and no other, which has that record's guid and record size,
-- and whose heads are the datasets of that family; where its shelves tell what was put on them each family is steady;
-- no family has a head or an entry above the last id that the tree gave; and the limit is one that salts can have.
pub record IsHost (tells : Bool) (keys : Plain) (families : List (ℕ × FamilyState)) (limit : ℕ) : Type 0 where
  pub rising : IsRisingById families
  pub paired : by_id facts_of_family families ≡ by_id facts_of_record keys.wrapped
  pub steady : tells ≡ true → (id : ℕ) → IfSome (at_id id families) IsSteady
  pub up_to : (id : ℕ) → IfSome (at_id id families) (IsUpTo keys.tree.last)
  pub datasets : (of : ℕ) → IfSome (at_id of families) (HasDatasets keys.tree.rows of)
  pub least : 1 ≤ limit
  pub most : limit ≤ 400000000

-- ---- the keystore's step

abbrev pub reaped_at : Option ℕ → Plain → Plain
reaped_at None p = p
reaped_at (Some id) p = (reap_step p id).state

-- the reap of a dataset behind a command on it that is done
abbrev pub reaped_if : Reply → Option ℕ → Plain → Plain
reaped_if Done at p = reaped_at at p
reaped_if (Made id) at p = p
reaped_if (Text text) at p = p
reaped_if (Refused why) at p = p
reaped_if (Reaped dataset dropped) at p = p
reaped_if Skipped at p = p

abbrev pub with_reap : (name : List ℕ) → Stepped → Stepped
with_reap name step =
    record { state = reaped_if step.reply (id_named name step.state.tree.rows) step.state; reply = step.reply }

-- An unmount is followed by the reap of its dataset.
abbrev pub reaped_behind : KeyCmd → Stepped → Stepped
reaped_behind (commands.Create name opts) step = step
reaped_behind (commands.Load name check_only place) step = step
reaped_behind (commands.Unload name) step = step
reaped_behind (commands.Change name opts load_first) step = step
reaped_behind (commands.Inherit name load_first) step = step
reaped_behind (commands.Mount name) step = step
reaped_behind (commands.Unmount name) step = with_reap name step
reaped_behind (commands.Get name prop) step = step
reaped_behind (commands.Clone from name) step = step
reaped_behind (commands.Receive name props wrapped block) step = step
reaped_behind (commands.Destroy name snaps) step = step

-- ---- the family of a new dataset, by the words of its line's seed

-- how many entries its log may have
abbrev pub log_room : ℕ
log_room = 1048576

abbrev pub seeded_guid : (seed : List ℕ) → ℕ
seeded_guid seed = little_endian_value (seed_bytes seed guid_place 8)

-- its salts have a seed of their own
abbrev pub seeded_salts : (seed : List ℕ) → (limit : ℕ) → SaltState
seeded_salts seed limit = record { seed = seed_bytes seed salts_seed_place 32; limit = limit; made = 0 }

-- the portable MAC of its fresh head, under the family's HMAC key
abbrev pub seeded_portable : (seed : List ℕ) → (block : ℕ) → List ℕ
seeded_portable seed block = portable (seed_bytes seed hmac_place 64) (fresh_table block [])

abbrev pub seeded_family : (tells : Bool) → (limit : ℕ) → (seed : List ℕ) → (block id : ℕ) → FamilyState
seeded_family tells limit seed block id =
    fresh_family tells (seeded_guid seed) block (seeded_salts seed limit) log_room id (seeded_portable seed block)

-- where a seed was had
abbrev pub family_from : (tells : Bool) → (limit : ℕ) → (block id : ℕ) → SeedGot → Option FamilyState
family_from tells limit block id (seeds.Got seed) = Some (seeded_family tells limit seed block id)
family_from tells limit block id seeds.NotAsked = None
family_from tells limit block id seeds.Fault = None

abbrev pub new_block : Options → ℕ
new_block opts = unwrap_or opts.block default_record_size

-- a new dataset has a family where it is encrypted
abbrev pub new_family : HostState → (name : List ℕ) → Options → LineKit → (id : ℕ) → Option FamilyState
new_family h name opts kit id =
    if makes_encrypted h.keys name opts then family_from h.tells h.limit (new_block opts) id kit.seed else None

abbrev pub with_family : ℕ → Option FamilyState → List (ℕ × FamilyState) → List (ℕ × FamilyState)
with_family id None families = families
with_family id (Some family) families = with_id id family families

-- the families behind a create, by its reply
abbrev pub created_families : HostState → (name : List ℕ) → Options → LineKit → Reply → List (ℕ × FamilyState)
created_families h name opts kit Done = h.families
created_families h name opts kit (Made id) = with_family id (new_family h name opts kit id) h.families
created_families h name opts kit (Text text) = h.families
created_families h name opts kit (Refused why) = h.families
created_families h name opts kit (Reaped dataset dropped) = h.families
created_families h name opts kit Skipped = h.families

-- Of the commands of a line only a create makes a family, and none takes one away.
abbrev pub families_after : HostState → KeyCmd → LineKit → Reply → List (ℕ × FamilyState)
families_after h (commands.Create name opts) kit reply = created_families h name opts kit reply
families_after h (commands.Load name check_only place) kit reply = h.families
families_after h (commands.Unload name) kit reply = h.families
families_after h (commands.Change name opts load_first) kit reply = h.families
families_after h (commands.Inherit name load_first) kit reply = h.families
families_after h (commands.Mount name) kit reply = h.families
families_after h (commands.Unmount name) kit reply = h.families
families_after h (commands.Get name prop) kit reply = h.families
families_after h (commands.Clone from name) kit reply = h.families
families_after h (commands.Receive name props wrapped block) kit reply = h.families
families_after h (commands.Destroy name snaps) kit reply = h.families

-- ---- a command

-- a host after a step, and the reply
pub record HostStepped : Type 0 where
  pub state : HostState
  pub reply : Reply

-- the machine's step under what a kit tells and the reap behind it, and the families with it
abbrev pub host_step : HostState → KeyCmd → LineKit → HostStepped
host_step h command kit =
    let step = reaped_behind command (stepped h.keys command kit) in
    record {
      state = record h { keys = step.state; families = families_after h command kit step.reply };
      reply = step.reply;
    }

-- the host after a call: that of the step, and where memory was wanting that of before
abbrev pub host_after : {T : Type 0} → Result T Stop → (before after : HostState) → HostState
host_after (Ok _) before after = after
host_after (Err (stops.Refused why)) before after = after
host_after (Err stops.NoMemory) before after = before
