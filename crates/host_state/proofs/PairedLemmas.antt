-- Families and key records: what each command of the machine leaves of what they have in common.
use Rattle.std.proofs.Common.{◌≡◌, ⊎_elim, ℕ, ◌+◌, ◌^◌, ◌<◌, Bool, true, false, cond, nat_lt, ◌==◌, List, [], ◌∷◌, ◌++◌, length, take, Option, Some, None, Result, Ok, Err, refl, ap, sym, ◌∙◌, subst, arith, length-append, take_all}
use Rattle.std.proofs.lemmas.Bool.{cases_Bool}
use Rattle.std.proofs.lemmas.Bool.Decides.{nat_tests}
use Rattle.std.proofs.lemmas.List.{take-append-le}
use Rattle.std.proofs.lemmas.List.Elements.{All-nil, All-cons, All-head, All-tail}
use Rattle.std.specs.Prelude.{unwrap_or}
use Rattle.std.specs.List.{All, filter}
use Rattle.std.specs.Option.{option_and_then, option_map}
use Rattle.byte_fields.specs.LittleEndian.{little_endian_bytes, little_endian_value}
use Rattle.byte_fields.proofs.FieldLaws.{length-little_endian_bytes, little_endian_value-bytes}
use Rattle.dataset_tree.specs.declared.kinds.Suite.{Suite}
use Rattle.dataset_tree.specs.declared.refusal.Refusal.{Refusal}
use Rattle.dataset_tree.specs.Tree.{id_named}
use Rattle.encryption_roots.specs.declared.command.KeyCmd.{KeyCmd}
use Rattle.encryption_roots.specs.declared.command.KeyCmd.TheVariants as commands
use Rattle.encryption_roots.specs.declared.kit.LineKit.{LineKit}
use Rattle.encryption_roots.specs.declared.props.Location.{Location}
use Rattle.encryption_roots.specs.declared.props.Options.{Options}
use Rattle.encryption_roots.specs.ById.{IsRisingById, at_id, with_id}
use Rattle.wrapped_keys.specs.Values.{MasterValue, RecordValue}
use Rattle.wrapped_keys.specs.Wrapping.{record_of, opens}
use Rattle.wrapped_keys.specs.Stored.{header_bytes, record_bytes, parsed_record, record_at, is_record, suite_of}
use Rattle.key_machine.specs.Change.{told_change, change_done, with_own_root}
use Rattle.key_machine.specs.Inherit.{told_inherit, inherit_done}
use Rattle.key_machine.specs.Load.{load_done}
use Rattle.key_machine.specs.Mount.{mount_done, mounted_at, mounted_on, free_slot}
use Rattle.key_machine.specs.Plain.{Plain, Stored, Master, owner_of, is_same, owned}
use Rattle.key_machine.specs.Reap.{own_in_use, reaped, reap_step}
use Rattle.key_machine.specs.Rekey.{sealed_anew, rewrapped, told_anew, with_record, with_records}
use Rattle.key_machine.specs.Reply.{Stepped, Reply, Done, Made, Text, Refused, Reaped, Skipped}
use Rattle.key_machine.specs.Step.{in_use, key_step, target, told}
use Rattle.key_machine.specs.Told.{Told}
use Rattle.key_machine.specs.Unload.{InUse, unload_done}
use Rattle.key_machine.specs.Unmount.{unmount_done}
use Rattle.key_machine.proofs.KeyLists.{All-kept, at_id_is, each_found}
use Rattle.key_machine.proofs.SoundLemmas.{by_step, done}
use Rattle.salt_rotation.specs.Places.{vector_place}
use Rattle.key_ciphers.specs.Ciphers.{ciphers, value_of, master_of, with_guid}
use Rattle.host_state.specs.Hosts.{KeyFacts, guid_in, facts_of_record, by_id, reaped_at, reaped_if, with_reap}

-- ---- the guid in a stored record

front8 : (guid : ℕ) (a b c d : List ℕ) → take 8 (little_endian_bytes 8 guid ++ a ++ b ++ c ++ d) ≡ little_endian_bytes 8 guid
front8 guid a b c d =
    let eight : length (little_endian_bytes 8 guid) ≡ 8 = length-little_endian_bytes 8 guid in
    take-append-le 8 (little_endian_bytes 8 guid ++ a ++ b ++ c) d (omega (arith, eight, length-append (little_endian_bytes 8 guid ++ a ++ b) c, length-append (little_endian_bytes 8 guid ++ a) b, length-append (little_endian_bytes 8 guid) a))
    ∙ take-append-le 8 (little_endian_bytes 8 guid ++ a ++ b) c (omega (arith, eight, length-append (little_endian_bytes 8 guid ++ a) b, length-append (little_endian_bytes 8 guid) a))
    ∙ take-append-le 8 (little_endian_bytes 8 guid ++ a) b (omega (arith, eight, length-append (little_endian_bytes 8 guid) a))
    ∙ take-append-le 8 (little_endian_bytes 8 guid) a (omega (arith, eight)) ∙ take_all 8 (little_endian_bytes 8 guid) (omega (arith, eight))

guid_of_bytes : (r : RecordValue) → r.guid < 2 ^ 64 → guid_in (record_bytes r) ≡ r.guid
unfolding record_bytes header_bytes
guid_of_bytes r small = ap little_endian_value (front8 r.guid _ _ _ _) ∙ little_endian_value-bytes 8 r.guid small

record_of_guid : (m : MasterValue) (key vector : List ℕ) → (record_of m key vector).guid ≡ m.guid
unfolding record_of
record_of_guid m key vector = refl

pub written_guid : (m : Master) (key vector : List ℕ) → m.guid < 2 ^ 64 → guid_in (ciphers.record_of m key vector) ≡ m.guid
written_guid m key vector small =
    let same : (record_of (value_of m) key vector).guid ≡ m.guid = record_of_guid (value_of m) key vector in
    guid_of_bytes (record_of (value_of m) key vector) (subst (λ (g : ℕ). g < 2 ^ 64) (sym same) small) ∙ same

opens_guid : (r : RecordValue) (key : List ℕ) (m : MasterValue) → opens r key ≡ Some m → m.guid ≡ r.guid
unfolding opens
opens_guid r key m is = by_text _ is where
  by_text : (text : Option (List ℕ)) → option_map (Rattle.wrapped_keys.specs.Wrapping.master_of r.guid r.suite) text ≡ Some m → m.guid ≡ r.guid
  by_text None is = absurd (cc)
  by_text (Some text) is = cc

by_guid : (found : Option MasterValue) (m : Master) → option_map master_of (option_and_then with_guid found) ≡ Some m → (v : MasterValue) × (found ≡ Some v) × (v.guid ≡ m.guid) × (m.guid < 2 ^ 64)
by_guid None m is = absurd (cc)
by_guid (Some v) m is = by_size (nat_lt v.guid (2 ^ 64)) refl is where
  below : (g : ℕ) → nat_lt g (2 ^ 64) ≡ true → g < 2 ^ 64
  below g small = grind (arith, nat_tests)

  by_size : (b : Bool) → nat_lt v.guid (2 ^ 64) ≡ b → option_map master_of (cond b (Some v) None) ≡ Some m → (w : MasterValue) × (Some v ≡ Some w) × (w.guid ≡ m.guid) × (m.guid < 2 ^ 64)
  by_size true small is =
      let same : v.guid ≡ m.guid = let whole : master_of v ≡ m = cc in ap (λ (k : Master). k.guid) whole in
      (v, refl, same, subst (λ (g : ℕ). g < 2 ^ 64) same (below v.guid small))
  by_size false small is = absurd (cc)

parsed_guid : (stored : List ℕ) (r : RecordValue) → parsed_record stored ≡ Some r → r.guid ≡ guid_in stored
unfolding parsed_record
parsed_guid stored r is = by_suite (suite_of stored) is where
  by_record : (suite : Suite) (b : Bool) → cond b (Some (record_at suite stored)) None ≡ Some r → r.guid ≡ guid_in stored
  by_record suite true is = let same : record_at suite stored ≡ r = cc in sym (ap (λ (k : RecordValue). k.guid) same)
  by_record suite false is = absurd (cc)

  by_suite : (suite : Option Suite) → option_and_then (λ suite. cond (is_record suite stored) (Some (record_at suite stored)) None) suite ≡ Some r → r.guid ≡ guid_in stored
  by_suite None is = absurd (cc)
  by_suite (Some suite) is = by_record suite (is_record suite stored) is

opened_guid : (parsed : Option RecordValue) (key stored : List ℕ) (v : MasterValue) → ((r : RecordValue) → parsed ≡ Some r → r.guid ≡ guid_in stored) → option_and_then (λ r. opens r key) parsed ≡ Some v → v.guid ≡ guid_in stored
opened_guid None key stored v guid is = absurd (cc)
opened_guid (Some r) key stored v guid is = opens_guid r key v is ∙ guid r refl

-- what a stored record opens to has its guid, so that another record of it has it too
pub opened_to : (stored key : List ℕ) (m : Master) → ciphers.opens stored key ≡ Some m → (m.guid ≡ guid_in stored) × (m.guid < 2 ^ 64)
opened_to stored key m is =
    let found = by_guid (option_and_then (λ r. opens r key) (parsed_record stored)) m is in
    (sym found.2 ∙ opened_guid (parsed_record stored) key stored found.0 (parsed_guid stored) found.1, found.3)

sealed_guid : (stored new vector : List ℕ) (old : Option Master) → ((m : Master) → old ≡ Some m → (m.guid ≡ guid_in stored) × (m.guid < 2 ^ 64)) → guid_in (sealed_anew ciphers stored new vector old) ≡ guid_in stored
sealed_guid stored new vector None opened = refl
sealed_guid stored new vector (Some m) opened = written_guid m new vector (opened m refl).1 ∙ (opened m refl).0

-- ---- records that are written anew

-- what was written for a family has the guid of its record
abbrev WrittenFor : List (ℕ × Stored) → ℕ × List ℕ → Type 0
WrittenFor wrapped written = (s : Stored) → at_id written.0 wrapped ≡ Some s → guid_in written.1 ≡ guid_in s.wrapped

abbrev Found : List (ℕ × Stored) → ℕ × Stored → Type 0
Found wrapped entry = at_id entry.0 wrapped ≡ Some entry.1

abbrev facts_with : (stored : Stored) (guid : ℕ) → KeyFacts
facts_with stored guid = record { guid = guid; block = stored.block }

module _ (wrapped : List (ℕ × Stored)) where
  anew_written : (seed old new : List ℕ) (i : ℕ) (entries : List (ℕ × Stored)) → All (Found wrapped) entries → All (WrittenFor wrapped) (rewrapped ciphers seed old new i entries)
  anew_written seed old new i [] all = All-nil (WrittenFor wrapped)
  anew_written seed old new i (entry ∷ entries) all =
      All-cons (WrittenFor wrapped) (entry.0, sealed_anew ciphers entry.1.wrapped new (ciphers.seed_bytes seed (vector_place i) 12) (ciphers.opens entry.1.wrapped old)) (rewrapped ciphers seed old new (i + 1) entries)
      (λ s there.
      let same : entry.1 ≡ s = let both : Some entry.1 ≡ Some s = sym (All-head (Found wrapped) entry entries all) ∙ there in cc in
      sealed_guid entry.1.wrapped new (ciphers.seed_bytes seed (vector_place i) 12) (ciphers.opens entry.1.wrapped old) (opened_to entry.1.wrapped old) ∙ ap (λ (x : Stored). guid_in x.wrapped) same)
      (anew_written seed old new (i + 1) entries (All-tail (Found wrapped) entry entries all))

  module _ (owner : ℕ → Option ℕ) (root : ℕ) (records : List (ℕ × List ℕ)) (written : All (WrittenFor wrapped) records) where
    one_alike : (entry : ℕ × Stored) → Found wrapped entry → (found : Option (List ℕ)) → at_id entry.0 records ≡ found → facts_of_record (record entry.1 { wrapped = unwrap_or found entry.1.wrapped }) ≡ facts_of_record entry.1
    one_alike entry there None is = refl
    one_alike entry there (Some bytes) is = ap (λ (guid : ℕ). facts_with entry.1 guid) (at_id_is (WrittenFor wrapped) entry.0 records bytes written is entry.1 there)

    entry_alike : (entry : ℕ × Stored) → Found wrapped entry → (b : Bool) → facts_of_record (cond b (with_record records entry) entry.1) ≡ facts_of_record entry.1
    entry_alike entry there true = one_alike entry there (at_id entry.0 records) refl
    entry_alike entry there false = refl

    pub records_alike : (entries : List (ℕ × Stored)) → All (Found wrapped) entries → by_id facts_of_record (with_records owner root records entries) ≡ by_id facts_of_record entries
    records_alike [] all = refl
    records_alike (entry ∷ entries) all =
        ap (λ (facts : KeyFacts). (entry.0, facts) ∷ by_id facts_of_record (with_records owner root records entries)) (entry_alike entry (All-head (Found wrapped) entry entries all) (is_same root (owner entry.0)))
        ∙ ap (λ (rest : List (ℕ × KeyFacts)). (entry.0, facts_of_record entry.1) ∷ rest) (records_alike entries (All-tail (Found wrapped) entry entries all))

-- the records that a root owns are found
owned_found : (p : Plain) → IsRisingById p.wrapped → (root : ℕ) → (owner : ℕ → Option ℕ) → All (Found p.wrapped) (filter (λ entry. is_same root (owner entry.0)) p.wrapped)
owned_found p rising root owner = All-kept (Found p.wrapped) (Found p.wrapped) (λ entry. is_same root (owner entry.0)) p.wrapped (λ entry there passes. there) (each_found p.wrapped rising)

anew_facts : (wrapped : List (ℕ × Stored)) (wrong : List ℕ → Option ℕ) (tells : (old new seed : List ℕ) → Told) → ((old new seed : List ℕ) → All (WrittenFor wrapped) (tells old new seed).wrapped)
    → (old new seed : Result (List ℕ) Refusal) → All (WrittenFor wrapped) (told_anew wrong tells old new seed).wrapped
anew_facts wrapped wrong tells each (Err why) new seed = All-nil (WrittenFor wrapped)
anew_facts wrapped wrong tells each (Ok old) (Err why) seed = All-nil (WrittenFor wrapped)
anew_facts wrapped wrong tells each (Ok old) (Ok new) (Err why) = All-nil (WrittenFor wrapped)
anew_facts wrapped wrong tells each (Ok old) (Ok new) (Ok seed) = each old new seed

change_written : (p : Plain) → IsRisingById p.wrapped → (opts : Options) (load_first : Bool) (kit : LineKit) (at : Option ℕ) → All (WrittenFor p.wrapped) (told_change ciphers p opts load_first kit at).wrapped
change_written p rising opts load_first kit None = All-nil (WrittenFor p.wrapped)
change_written p rising opts load_first kit (Some id) =
    anew_facts p.wrapped _ _ (λ old new seed. anew_written p.wrapped seed old new 0 (owned (with_own_root p id opts 0) id) (owned_found p rising id (owner_of (with_own_root p id opts 0)))) _ _ _

inherit_written : (p : Plain) → IsRisingById p.wrapped → (load_first : Bool) (kit : LineKit) (at : Option ℕ) → All (WrittenFor p.wrapped) (told_inherit ciphers p load_first kit at).wrapped
inherit_written p rising load_first kit None = All-nil (WrittenFor p.wrapped)
inherit_written p rising load_first kit (Some id) =
    anew_facts p.wrapped _ _ (λ old new seed. anew_written p.wrapped seed old new 0 (owned p id) (owned_found p rising id (owner_of p))) _ _ _

-- ---- the commands

-- a state's records have the facts that those of another had, and it has the same tree
abbrev pub SameFacts : Plain → Plain → Type 0
SameFacts p q = (by_id facts_of_record q.wrapped ≡ by_id facts_of_record p.wrapped) × (q.tree ≡ p.tree)

changed_facts : (p : Plain) → IsRisingById p.wrapped → (opts : Options) (facts : Told) → All (WrittenFor p.wrapped) facts.wrapped → (at : Option ℕ) → SameFacts p (change_done p opts facts at).state
changed_facts p rising opts facts written None = (refl, refl)
changed_facts p rising opts facts written (Some id) =
    (records_alike p.wrapped (owner_of (with_own_root p id opts facts.salt)) id facts.wrapped written p.wrapped (each_found p.wrapped rising), refl)

inherited_facts : (p : Plain) → IsRisingById p.wrapped → (facts : Told) → All (WrittenFor p.wrapped) facts.wrapped → (at : Option ℕ) → SameFacts p (inherit_done p facts at).state
inherited_facts p rising facts written None = (refl, refl)
inherited_facts p rising facts written (Some id) =
    (records_alike p.wrapped (owner_of p) id facts.wrapped written p.wrapped (each_found p.wrapped rising), refl)

-- a step of which so much is known where it is carried out
stepped_facts : (p : Plain) (command : KeyCmd) (facts : Told) → SameFacts p (done p command facts).state → SameFacts p (key_step p command facts).state
stepped_facts p command facts same = by_step p command facts (λ (s : Stepped). SameFacts p s.state) (λ accepted. same) (λ why state. (refl, refl)) (λ why material. (refl, refl))

pub change_same : (p : Plain) → IsRisingById p.wrapped → (name : List ℕ) (opts : Options) (load_first : Bool) (kit : LineKit) → let command : KeyCmd = commands.Change name opts load_first in SameFacts p (key_step p command (told ciphers p command kit)).state
change_same p rising name opts load_first kit =
    let command : KeyCmd = commands.Change name opts load_first in
    let facts : Told = told ciphers p command kit in
    stepped_facts p command facts (changed_facts p rising opts facts (change_written p rising opts load_first kit (target p command)) (target p command))

pub inherit_same : (p : Plain) → IsRisingById p.wrapped → (name : List ℕ) (load_first : Bool) (kit : LineKit) → let command : KeyCmd = commands.Inherit name load_first in SameFacts p (key_step p command (told ciphers p command kit)).state
inherit_same p rising name load_first kit =
    let command : KeyCmd = commands.Inherit name load_first in
    let facts : Told = told ciphers p command kit in
    stepped_facts p command facts (inherited_facts p rising facts (inherit_written p rising load_first kit (target p command)) (target p command))

load_at : (p : Plain) (check_only : Bool) (facts : Told) (at : Option ℕ) → SameFacts p (load_done p check_only facts at).state
load_at p check_only facts None = (refl, refl)
load_at p true facts (Some root) = (refl, refl)
load_at p false facts (Some root) = (refl, refl)

pub load_same : (p : Plain) (name : List ℕ) (check_only : Bool) (place : Option Location) (facts : Told) → SameFacts p (key_step p (commands.Load name check_only place) facts).state
load_same p name check_only place facts =
    let command : KeyCmd = commands.Load name check_only place in stepped_facts p command facts (load_at p check_only facts (target p command))

unload_at : (p : Plain) (found : Option InUse) (at : Option ℕ) → SameFacts p (unload_done p found at).state
unload_at p found None = (refl, refl)
unload_at p None (Some root) = (refl, refl)
unload_at p (Some busy) (Some root) = (refl, refl)

pub unload_same : (p : Plain) (name : List ℕ) (facts : Told) → SameFacts p (key_step p (commands.Unload name) facts).state
unload_same p name facts = let command : KeyCmd = commands.Unload name in stepped_facts p command facts (unload_at p (in_use p command) (target p command))

mount_on : (p : Plain) (id : ℕ) (free : Option ℕ) → SameFacts p (mounted_on p id free).state
mount_on p id None = (refl, refl)
mount_on p id (Some slot) = (refl, refl)

mount_at : (p : Plain) (id : ℕ) (slot : Option ℕ) → SameFacts p (mounted_at p id slot).state
mount_at p id None = mount_on p id (free_slot p)
mount_at p id (Some slot) = (refl, refl)

mount_of : (p : Plain) (at : Option ℕ) → SameFacts p (mount_done p at).state
mount_of p None = (refl, refl)
mount_of p (Some id) = mount_at p id (at_id id p.mapped)

pub mount_same : (p : Plain) (name : List ℕ) (facts : Told) → SameFacts p (key_step p (commands.Mount name) facts).state
mount_same p name facts = let command : KeyCmd = commands.Mount name in stepped_facts p command facts (mount_of p (target p command))

unmount_at : (p : Plain) (at : Option ℕ) → SameFacts p (unmount_done p at).state
unmount_at p None = (refl, refl)
unmount_at p (Some id) = (refl, refl)

unmount_same : (p : Plain) (name : List ℕ) (facts : Told) → SameFacts p (key_step p (commands.Unmount name) facts).state
unmount_same p name facts = let command : KeyCmd = commands.Unmount name in stepped_facts p command facts (unmount_at p (target p command))

reaped_of : (p : Plain) (dataset : ℕ) (slot : Option ℕ) (found : Option InUse) → SameFacts p (reaped p dataset slot found).state
reaped_of p dataset None found = (refl, refl)
reaped_of p dataset (Some slot) None = (refl, refl)
reaped_of p dataset (Some slot) (Some busy) = (refl, refl)

same_then : (p q r : Plain) → SameFacts p q → SameFacts q r → SameFacts p r
same_then p q r first later = (later.0 ∙ first.0, later.1 ∙ first.1)

reaped_same : (p q : Plain) (at : Option ℕ) → SameFacts p q → SameFacts p (reaped_at at q)
reaped_same p q None same = same
reaped_same p q (Some id) same = same_then p q (reap_step q id).state same (reaped_of q id (at_id id q.mapped) (own_in_use q id))

reaped_behind_same : (p q : Plain) (reply : Reply) (at : Option ℕ) → SameFacts p q → SameFacts p (reaped_if reply at q)
reaped_behind_same p q Done at same = reaped_same p q at same
reaped_behind_same p q (Made id) at same = same
reaped_behind_same p q (Text text) at same = same
reaped_behind_same p q (Refused why) at same = same
reaped_behind_same p q (Reaped dataset dropped) at same = same
reaped_behind_same p q Skipped at same = same

pub unmount_reaped_same : (p : Plain) (name : List ℕ) (facts : Told) → SameFacts p (with_reap name (key_step p (commands.Unmount name) facts)).state
unmount_reaped_same p name facts =
    let step : Stepped = key_step p (commands.Unmount name) facts in
    reaped_behind_same p step.state step.reply (id_named name step.state.tree.rows) (unmount_same p name facts)

-- ---- a new dataset

pub facts_with_id : {X Y : Type 0} (f : X → Y) (id : ℕ) (value : X) (entries : List (ℕ × X)) → by_id f (with_id id value entries) ≡ with_id id (f value) (by_id f entries)
facts_with_id f id value [] = refl
facts_with_id f id value (entry ∷ entries) =
    let rest = facts_with_id f id value entries in
    ⊎_elim (λ (lower : nat_lt entry.0 id ≡ true). rw lower (ap (λ es. (entry.0, f entry.1) ∷ es) rest))
    (λ (lower : nat_lt entry.0 id ≡ false). ⊎_elim (λ (same : (entry.0 == id) ≡ true). rw (lower, same) refl) (λ (same : (entry.0 == id) ≡ false). rw (lower, same) refl) (cases_Bool (entry.0 == id))) (cases_Bool (nat_lt entry.0 id))
