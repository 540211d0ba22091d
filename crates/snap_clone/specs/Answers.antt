-- What the calls on snapshots and clones answer, and what refused ones leave.
use Rattle.std.specs.Prelude.{ℕ, ◌≡◌, ◌==◌, ◌&&◌, Bool, nat_le, if◌then◌else◌, List, [], length, Option, Some, None, is_none, is_some, IfSome, Result, Ok, Err}
use Rattle.std.specs.Option.{option_map_or}
use Rattle.dataset_tree.specs.declared.refusal.Refusal.{Refusal}
use Rattle.dataset_tree.specs.declared.refusal.Refusal.TheVariants.{Exists, Full, HasClones, NoHead, NoSnapshot}
use Rattle.dataset_tree.specs.declared.refusal.Stop.{Stop}
use Rattle.dataset_tree.specs.declared.refusal.Stop.TheVariants as stops
use Rattle.family_log.specs.declared.entry.LogEntry.TheVariants.{Refused}
use Rattle.family_log.specs.declared.entry.Spot.{Spot}
use Rattle.family_log.specs.declared.head.Head.{Head}
use Rattle.family_log.specs.declared.head.TheConstants.{MAX_SNAPSHOTS}
use Rattle.family_log.specs.Log.{head_spot}
use Rattle.family_log.specs.Model.{FamilyState, head_of, snapshot_count, table_of}
use Rattle.family_log.specs.Calls.{new_place, with_entry}
use Rattle.family_log.specs.Snapshots.{has_clone, has_snapshot, head_removed, snapshot_removed}

-- nothing to be answered, or this refusal
abbrev pub unless : Option Refusal → Result (Unit {0}) Refusal
unless None = Ok tt
unless (Some why) = Err why

-- the refusal of a call, if it is refused
abbrev pub refusal_in : {X : Type 0} → Result X Refusal → Option Refusal
refusal_in (Ok x) = None
refusal_in (Err why) = Some why

-- the first of two refusals
abbrev pub first_of : Option Refusal → Option Refusal → Option Refusal
first_of None later = later
first_of (Some why) later = Some why

abbrev pub reason_or : Option Refusal → Refusal → Refusal
reason_or None why = why
reason_or (Some first) why = first

-- ---- a snapshot

-- the name is taken, or the family has as many snapshots as it may
abbrev pub name_refusal : (head : ℕ) → (part : List ℕ) → FamilyState → Option Refusal
name_refusal head part family =
    if has_snapshot head part family.heads then Some Exists
    else (if nat_le MAX_SNAPSHOTS (snapshot_count family.heads) then Some (Full MAX_SNAPSHOTS) else None)

-- before that, there is no such head, or the log is full
abbrev pub place_refusal : (head : ℕ) → FamilyState → Option Refusal
place_refusal head family = refusal_in (new_place family head)

abbrev pub snapshot_answer : (head : ℕ) → (part : List ℕ) → FamilyState → Result (Unit {0}) Refusal
snapshot_answer head part family = unless (first_of (place_refusal head family) (name_refusal head part family))

-- the refusal of a snapshot, and this reason where there is none
abbrev pub refusal_or : Refusal → (head : ℕ) → (part : List ℕ) → FamilyState → Refusal
refusal_or why head part family =
    reason_or (first_of (place_refusal head family) (name_refusal head part family)) why

-- a refused snapshot has an entry in the log, unless there is no such head or the log is full
abbrev pub with_refused : Option Refusal → (head : ℕ) → Refusal → FamilyState → FamilyState
with_refused None head why family = with_entry (Refused (head_spot head) why 0 0) family
with_refused (Some first) head why family = family

-- the family after a snapshot that wasn't made
abbrev pub after_stop : (head : ℕ) → Stop → FamilyState → FamilyState
after_stop head stops.NoMemory family = family
after_stop head (stops.Refused why) family = with_refused (place_refusal head family) head why family

-- ---- clones and what goes

-- the spot is a snapshot that the family has
abbrev pub is_snapshot : Spot → List Head → Bool
is_snapshot spot heads = is_some spot.snap && is_some (table_of spot heads)

abbrev pub clone_answer : Spot → FamilyState → Result (Unit {0}) Refusal
clone_answer spot family =
    if is_snapshot spot family.heads
    then (if nat_le family.room (length family.log) then Err (Full family.room) else Ok tt) else Err NoSnapshot

-- whether no head is left, where there was this one
abbrev pub drop_answer : (head : ℕ) → FamilyState → Result Bool Refusal
drop_answer head family =
    if is_none (head_of head family.heads) then Err (NoHead head)
    else Ok (length (head_removed head family).heads == 0)

-- a head that is dropped has no snapshots
abbrev pub HasNoSnapshots : (head : ℕ) → FamilyState → Type 0
HasNoSnapshots head family = IfSome (head_of head family.heads) (λ found. found.parts ≡ [])

abbrev pub drop_snapshot_answer : Spot → FamilyState → Result (Unit {0}) Refusal
drop_snapshot_answer spot family =
    if is_snapshot spot family.heads then (if has_clone spot family then Err HasClones else Ok tt) else Err NoSnapshot

-- the family without a snapshot; a spot that is a head's own names none
abbrev pub spot_removed : Spot → FamilyState → FamilyState
spot_removed spot family = option_map_or (λ part. snapshot_removed spot.head part family) spot.snap family
