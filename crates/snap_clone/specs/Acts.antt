-- What the calls on a family do to it, one after another.
use Rattle.std.specs.Prelude.{ℕ, ◌≡◌, ◌==◌, Bool, false, List, [], ◌∷◌, Ok, ⊤}
use Rattle.std.specs.Option.{option_map}
use Rattle.salt_rotation.specs.SaltState.{SaltState}
use Rattle.shelf_store.specs.ShelfState.{ShelfState}
use Rattle.family_log.specs.declared.entry.HeadChange.{HeadChange}
use Rattle.family_log.specs.declared.entry.ReadNote.{ReadNote}
use Rattle.family_log.specs.declared.entry.Spot.{Spot}
use Rattle.family_log.specs.Log.{KeepsLast, head_spot, snap_spot}
use Rattle.family_log.specs.Model.{FamilyState, IsFamily, table_of}
use Rattle.family_log.specs.Calls.{IsChangeOf, with_change, with_entry}
use Rattle.family_log.specs.Noted.{noted}
use Rattle.family_log.specs.Snapshots.{IsNewHead, clone_added, head_removed, same_spot, snapshot_added, with_guid}
use Rattle.snap_clone.specs.Answers.{HasNoSnapshots, clone_answer, drop_snapshot_answer, snapshot_answer, spot_removed}

-- a head is changed; an entry is noted that changes none, as of a snapshot that was refused; salts are drawn and
-- blocks put; a snapshot or a clone is made; a head or a snapshot is dropped
pub data Act : Type 0 where
  Change : (head : ℕ) (change : HeadChange) → Act
  Note : (spot : Spot) (what : ReadNote) → Act
  Lend : (salts : SaltState) (shelf : ShelfState) → Act
  MakeSnapshot : (head : ℕ) (part : List ℕ) (guid : ℕ) → Act
  MakeClone : (from : Spot) (head : ℕ) → Act
  DropHead : (head : ℕ) → Act
  DropSnapshot : (spot : Spot) → Act

-- the family after it
abbrev pub done : Act → FamilyState → FamilyState
done (Change head change) family = with_change head change family
done (Note spot what) family = with_entry (noted spot what) family
done (Lend salts shelf) family = record family { salts = salts; shelf = shelf }
done (MakeSnapshot head part guid) family = snapshot_added head part guid family
done (MakeClone from head) family = clone_added from head family
done (DropHead head) family = head_removed head family
done (DropSnapshot spot) family = spot_removed spot family

-- a call does it: its condition holds, and nothing refuses it
abbrev pub IsDone : Act → FamilyState → Type 0
IsDone (Change head change) family = IsChangeOf family head change
IsDone (Note spot what) family = ⊤
IsDone (Lend salts shelf) family = ⊤
IsDone (MakeSnapshot head part guid) family = snapshot_answer head part family ≡ Ok tt
IsDone (MakeClone from head) family = (clone_answer from family ≡ Ok tt) × IsNewHead head family
IsDone (DropHead head) family = HasNoSnapshots head family
IsDone (DropSnapshot spot) family = drop_snapshot_answer spot family ≡ Ok tt

-- a call has done it
abbrev pub Does : Act → (earlier later : FamilyState) → Type 0
Does act earlier later = IsDone act earlier × (later ≡ done act earlier)

-- the later family comes of the earlier one by these, in order
abbrev pub Follows : List Act → (earlier later : FamilyState) → Type 0
Follows [] earlier later = later ≡ earlier
Follows (act ∷ acts) earlier later = (IsFamily earlier × IsDone act earlier) × Follows acts (done act earlier) later

-- it drops the spot
abbrev pub drops : Spot → Act → Bool
drops spot (Change head change) = false
drops spot (Note of_note what) = false
drops spot (Lend salts shelf) = false
drops spot (MakeSnapshot head part guid) = false
drops spot (MakeClone from head) = false
drops spot (DropHead head) = spot.head == head
drops spot (DropSnapshot dropped) = same_spot spot dropped

-- it makes, changes or drops the spot
abbrev pub touches : Spot → Act → Bool
touches spot (Change head change) = same_spot spot (head_spot head)
touches spot (Note of_note what) = false
touches spot (Lend salts shelf) = false
touches spot (MakeSnapshot head part guid) = same_spot spot (snap_spot head part)
touches spot (MakeClone from head) = same_spot spot (head_spot head)
touches spot (DropHead head) = spot.head == head
touches spot (DropSnapshot dropped) = same_spot spot dropped

-- a spot of the later family has the table that a spot of the earlier one had, but for the guid, and the log tells of
-- it what it told of that one
pub record Continues (earlier : FamilyState) (from : Spot) (guid : ℕ) (later : FamilyState) (spot : Spot) : Type 0 where
  pub table : table_of spot later.heads ≡ option_map (with_guid guid) (table_of from earlier.heads)
  pub last : KeepsLast earlier.log from later.log spot
