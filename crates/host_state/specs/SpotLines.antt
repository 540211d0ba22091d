-- What the commands about snapshots and clones do to a host, and what a destroy does.
use Rattle.std.specs.Prelude.{ℕ, ◌+◌, ◌≡◌, ◌⊎◌, Bool, false, not, ◌==◌, if◌then◌else◌, List, [], ◌∷◌, length, Option, Some, None, Result, Ok, Err}
use Rattle.std.specs.Option.{option_map_or}
use Rattle.dataset_tree.specs.declared.refusal.Refusal.{Refusal}
use Rattle.dataset_tree.specs.declared.refusal.Refusal.TheVariants.{EntropyFault, NoHead, NoSnapshot, NoSuch, NotEncrypted}
use Rattle.dataset_tree.specs.declared.refusal.Stop.{Stop}
use Rattle.dataset_tree.specs.declared.refusal.Stop.TheVariants as stops
use Rattle.dataset_tree.specs.declared.tree.Row.{Row}
use Rattle.dataset_tree.specs.Tree.{id_named, row_named}
use Rattle.encryption_roots.specs.declared.command.KeyCmd.TheVariants as commands
use Rattle.encryption_roots.specs.declared.kit.SeedGot.{SeedGot}
use Rattle.encryption_roots.specs.declared.kit.SeedGot.TheVariants as seeds
use Rattle.encryption_roots.specs.ById.{at_id, with_id, without_id}
use Rattle.encryption_roots.specs.Owners.{family}
use Rattle.family_log.specs.declared.entry.Spot.{Spot}
use Rattle.family_log.specs.Log.{snap_spot}
use Rattle.family_log.specs.Model.{FamilyState, head_of}
use Rattle.family_log.specs.Snapshots.{clone_added, head_removed, snapshot_added}
use Rattle.key_machine.specs.Destroy.{has_relatives}
use Rattle.key_machine.specs.Plain.{Plain, is_encrypted_kind}
use Rattle.key_machine.specs.Refusals.{first_refusal}
use Rattle.key_machine.specs.Reply.{Reply, Done, Made, Text, Refused, Reaped, Skipped}
use Rattle.key_machine.specs.Step.{key_step, refusal_of}
use Rattle.key_machine.specs.Told.{nothing_told}
use Rattle.snap_clone.specs.Answers.{after_stop, clone_answer, drop_snapshot_answer, is_snapshot, refusal_in, refusal_or, snapshot_answer, spot_removed}
use Rattle.host_state.specs.Hosts.{HostState, HostStepped, seeded_guid}

-- ---- the dataset of a command, and its family

abbrev pub encrypted_row : Option Row → Result ℕ Refusal
encrypted_row None = Err NoSuch
encrypted_row (Some row) = if is_encrypted_kind row.kind then Ok row.id else Err NotEncrypted

-- the encrypted dataset of this name, mounted or not, with a loaded key or without
abbrev pub encrypted_id : Plain → (set : List ℕ) → Result ℕ Refusal
encrypted_id p set = encrypted_row (row_named set p.tree.rows)

abbrev pub family_id : HostState → (id : ℕ) → ℕ
family_id h id = family h.keys.tree.rows id

-- the family of a dataset; a plain one has none
abbrev pub family_of : HostState → (id : ℕ) → Option FamilyState
family_of h id = at_id (family_id h id) h.families

-- a dataset's snapshots, by the parts of their names, from the oldest on
abbrev pub parts_in : (id : ℕ) → Option FamilyState → List (List ℕ)
parts_in id None = []
parts_in id (Some state) = option_map_or (λ head. head.parts) (head_of id state.heads) []

abbrev pub snaps_of : HostState → (id : ℕ) → List (List ℕ)
snaps_of h id = parts_in id (family_of h id)

-- ---- a call on a family

abbrev pub refused_host : HostState → Refusal → HostStepped
refused_host h why = record { state = h; reply = Refused why }

-- what a call leaves of a family, and what it answers
pub record Left : Type 0 where
  pub state : FamilyState
  pub answer : Result (Unit {0}) Refusal

abbrev pub replied : Result (Unit {0}) Refusal → Reply
replied (Ok done) = Done
replied (Err why) = Refused why

-- the families after a call on one of them, and the reply
pub record FamiliesLeft : Type 0 where
  pub families : List (ℕ × FamilyState)
  pub reply : Reply

-- a call on the family at this id; this is the refusal where there is none
abbrev pub on_family : List (ℕ × FamilyState) → (at : ℕ) → Refusal → (FamilyState → Left) → Option FamilyState
    → FamiliesLeft
on_family families at why call None = record { families = families; reply = Refused why }
on_family families at why call (Some state) =
    record { families = with_id at (call state).state families; reply = replied (call state).answer }

abbrev pub with_families : HostState → FamiliesLeft → HostStepped
with_families h left = record { state = record h { families = left.families }; reply = left.reply }

-- a call on the family of a dataset, unless the dataset can't have one
abbrev pub on_head : HostState → (none : ℕ → Refusal) → (call : (head : ℕ) → FamilyState → Left) → Result ℕ Refusal
    → HostStepped
on_head h none call (Err why) = refused_host h why
on_head h none call (Ok id) =
    with_families h (on_family h.families (family_id h id) (none id) (call id) (family_of h id))

-- ---- snapshots

-- the guid of a snapshot is that which a family has by the same seed
abbrev pub guid_from : SeedGot → Option ℕ
guid_from (seeds.Got seed) = Some (seeded_guid seed)
guid_from seeds.NotAsked = None
guid_from seeds.Fault = None

abbrev pub unmade : (head : ℕ) → FamilyState → Refusal → Left
unmade head state why = record { state = after_stop head (stops.Refused why) state; answer = Err why }

abbrev pub made_unless : (head : ℕ) → (part : List ℕ) → (guid : ℕ) → FamilyState → Result (Unit {0}) Refusal → Left
made_unless head part guid state (Ok done) =
    record { state = snapshot_added head part guid state; answer = Ok tt }
made_unless head part guid state (Err why) = unmade head state why

-- where no guid was had, that is the last reason against a snapshot
abbrev pub snapshot_left : (part : List ℕ) → (guid : Option ℕ) → (head : ℕ) → FamilyState → Left
snapshot_left part (Some guid) head state = made_unless head part guid state (snapshot_answer head part state)
snapshot_left part None head state = unmade head state (refusal_or EntropyFault head part state)

-- `snapshot`: of an encrypted dataset, whether or not it is mounted and its key is loaded
abbrev pub snapshot_step : HostState → (set part : List ℕ) → SeedGot → HostStepped
snapshot_step h set part seed =
    on_head h (λ id. NoHead id) (λ head state. snapshot_left part (guid_from seed) head state) (encrypted_id h.keys set)

abbrev pub dropped_unless : Spot → FamilyState → Result (Unit {0}) Refusal → Left
dropped_unless spot state (Ok done) = record { state = spot_removed spot state; answer = Ok tt }
dropped_unless spot state (Err why) = record { state = state; answer = Err why }

abbrev pub drop_left : Spot → FamilyState → Left
drop_left spot state = dropped_unless spot state (drop_snapshot_answer spot state)

-- `destroy` of a snapshot
abbrev pub destroy_snap_step : HostState → (set part : List ℕ) → HostStepped
destroy_snap_step h set part =
    on_head h (λ _. NoSnapshot) (λ head state. drop_left (snap_spot head part) state) (encrypted_id h.keys set)

-- ---- clones

-- why no clone of this spot gets this name, once its dataset is known to be encrypted: the spot is no snapshot, the
-- keystore refuses the name, or the family's log is full
abbrev pub clone_refusal : Plain → (from name : List ℕ) → Spot → FamilyState → Option Refusal
clone_refusal p from name spot state =
    if is_snapshot spot state.heads
    then first_refusal (refusal_of p (commands.Clone from name) ∷ refusal_in (clone_answer spot state) ∷ [])
    else Some NoSnapshot

-- a clone is a dataset of the keystore, and a head of its origin's family under the same id
abbrev pub cloned_unless : HostState → (from name : List ℕ) → Spot → FamilyState → Option Refusal → HostStepped
cloned_unless h from name spot state (Some why) = refused_host h why
cloned_unless h from name spot state None = record {
  state = record h {
    keys = (key_step h.keys (commands.Clone from name) nothing_told).state;
    families = with_id (family_id h spot.head) (clone_added spot (h.keys.tree.last + 1) state) h.families;
  };
  reply = Done;
}

abbrev pub cloned_in : HostState → (from name : List ℕ) → Spot → Option FamilyState → HostStepped
cloned_in h from name spot None = refused_host h NoSnapshot
cloned_in h from name spot (Some state) =
    cloned_unless h from name spot state (clone_refusal h.keys from name spot state)

abbrev pub cloned_of : HostState → (from part name : List ℕ) → Result ℕ Refusal → HostStepped
cloned_of h from part name (Err why) = refused_host h why
cloned_of h from part name (Ok id) = cloned_in h from name (snap_spot id part) (family_of h id)

-- `clone`: of a snapshot of an encrypted dataset
abbrev pub clone_step : HostState → (from part name : List ℕ) → HostStepped
clone_step h from part name = cloned_of h from part name (encrypted_id h.keys from)

-- the keystore with an id used up, for a dataset that isn't there any more
abbrev pub id_used : Plain → Plain
id_used p = record p { tree = record p.tree { last = p.tree.last + 1 } }

-- the host after a clone: that of the step, and where memory was wanting that of before, but that an id may be used up
abbrev pub AfterClone : Result (Unit {0}) Stop → (before after left : HostState) → Type 0
AfterClone (Ok done) before after left = left ≡ after
AfterClone (Err (stops.Refused why)) before after left = left ≡ after
AfterClone (Err stops.NoMemory) before after left =
    (left ≡ before) ⊎ (left ≡ record before { keys = id_used before.keys })

-- ---- datasets that go

abbrev pub has_parts : List (List ℕ) → Bool
has_parts parts = not (length parts == 0)

-- whether the dataset has snapshots
abbrev pub has_snaps : HostState → Option ℕ → Bool
has_snaps h None = false
has_snaps h (Some id) = has_parts (snaps_of h id)

-- the families of which the one at this id, if there is one, has lost a head
abbrev pub without_head : List (ℕ × FamilyState) → (at head : ℕ) → Option FamilyState → List (ℕ × FamilyState)
without_head families at head None = families
without_head families at head (Some state) = with_id at (head_removed head state) families

-- the families without a dataset: the family goes with its last one, as its record does
abbrev pub without_dataset : HostState → (id : ℕ) → List (ℕ × FamilyState)
without_dataset h id =
    if has_relatives h.keys id then without_head h.families (family_id h id) id (family_of h id)
    else without_id (family_id h id) h.families

abbrev pub families_left : HostState → Option ℕ → Reply → List (ℕ × FamilyState)
families_left h None reply = h.families
families_left h (Some id) Done = without_dataset h id
families_left h (Some id) (Made made) = h.families
families_left h (Some id) (Text text) = h.families
families_left h (Some id) (Refused why) = h.families
families_left h (Some id) (Reaped dataset dropped) = h.families
families_left h (Some id) Skipped = h.families

abbrev pub destroy_at : HostState → (name : List ℕ) → Option ℕ → HostStepped
destroy_at h name at =
    let step = key_step h.keys (commands.Destroy name (has_snaps h at)) nothing_told in
    record {
      state = record h { keys = step.state; families = families_left h at step.reply };
      reply = step.reply;
    }

-- `destroy` of a dataset, encrypted or plain: the keystore's, and the family with it
abbrev pub destroy_step : HostState → (name : List ℕ) → HostStepped
destroy_step h name = destroy_at h name (id_named name h.keys.tree.rows)
