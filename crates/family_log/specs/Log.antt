-- What heads and snapshots hold, by the log alone: at each place of an object the newest reference, and of
-- each object the newest length.
use Rattle.std.specs.Prelude.{ℕ, ◌≡◌, ◌==◌, ◌&&◌, nat_le, Bool, true, if◌then◌else◌, List, [], ◌∷◌, reverse, Option, Some, None, is_none}
use Rattle.std.specs.List.{find}
use Rattle.std.specs.Option.{option_and_then, option_flatten, option_map, option_or, option_eq}
use Rattle.std.specs.Str.{bytes_eq}
use Rattle.indirect_macs.specs.declared.refs.BlockRef.{BlockRef}
use Rattle.family_log.specs.declared.entry.LengthAt.{LengthAt}
use Rattle.family_log.specs.declared.entry.RefAt.{RefAt}
use Rattle.family_log.specs.declared.entry.Spot.{Spot}
use Rattle.family_log.specs.declared.entry.LogEntry.{LogEntry}
use Rattle.family_log.specs.declared.entry.LogEntry.TheVariants.{Make, Write, Cut, Remove, Receive, Snapshot, Clone, Read, Refused}
use Rattle.family_log.specs.Tables.{blocks_of}

abbrev pub head_spot : ℕ → Spot
head_spot head = record { head = head; snap = None }

abbrev pub snap_spot : ℕ → List ℕ → Spot
snap_spot head part = record { head = head; snap = Some part }

abbrev pub is_head : ℕ → Spot → Bool
is_head head spot = spot.head == head && is_none spot.snap

abbrev pub is_snap : ℕ → List ℕ → Spot → Bool
is_snap head part spot = spot.head == head && option_eq bytes_eq spot.snap (Some part)

-- what an entry changes: the head, the lengths of objects, and the references of places
pub record Changes : Type 0 where
  pub head : ℕ
  pub lengths : List LengthAt
  pub refs : List RefAt

-- the changes in an entry; those that change no head have none
abbrev pub changes_in : LogEntry → Option Changes
changes_in (Make head lengths refs) = Some (record { head = head; lengths = lengths; refs = refs })
changes_in (Write head lengths refs) = Some (record { head = head; lengths = lengths; refs = refs })
changes_in (Cut head lengths refs) = Some (record { head = head; lengths = lengths; refs = refs })
changes_in (Remove head lengths refs) = Some (record { head = head; lengths = lengths; refs = refs })
changes_in (Receive head lengths refs) = Some (record { head = head; lengths = lengths; refs = refs })
changes_in (Snapshot head part) = None
changes_in (Clone from head) = None
changes_in (Read spot) = None
changes_in (Refused spot why draws puts) = None

-- the head that an entry changes
abbrev pub changed_head : LogEntry → Option ℕ
changed_head entry = option_map (λ changes. changes.head) (changes_in entry)

-- what an entry says of a spot itself: something only of a head, and only in a change of that head
abbrev pub said : {X : Type 0} → (Changes → Option X) → Spot → LogEntry → Option X
said find_in spot entry =
    option_and_then (λ changes. if is_head changes.head spot then find_in changes else None) (changes_in entry)

-- where what a spot holds stood before an entry: a snapshot that the entry makes is its head, and a clone's
-- head that it makes is the snapshot that it is cloned from
abbrev pub stood : Spot → LogEntry → Spot
stood spot (Snapshot head part) = if is_snap head part spot then head_spot head else spot
stood spot (Clone from head) = if is_head head spot then from else spot
stood spot (Make head lengths refs) = spot
stood spot (Write head lengths refs) = spot
stood spot (Cut head lengths refs) = spot
stood spot (Remove head lengths refs) = spot
stood spot (Receive head lengths refs) = spot
stood spot (Read other) = spot
stood spot (Refused other why draws puts) = spot

-- an entry says nothing, and doesn't make the spot
abbrev pub Passes : {X : Type 0} → (Changes → Option X) → Spot → LogEntry → Type 0
Passes find_in spot entry = (said find_in spot entry ≡ None) × (stood spot entry ≡ spot)

-- the newest that is said of a spot by entries, of which the newest stands first
unfoldable pub newest : {X : Type 0} → (Changes → Option X) → Spot → List LogEntry → Option X
newest find_in spot [] = None
newest find_in spot (entry ∷ older) = option_or (said find_in spot entry) (newest find_in (stood spot entry) older)

-- what changes say of an object, its length or that it is gone. They name an object once; else the first counts
abbrev pub length_said : (object : ℕ) → Changes → Option (Option ℕ)
length_said object changes =
    option_map (λ change. change.length) (find (λ change. change.object == object) changes.lengths)

-- the reference or the hole that changes list for a place. They list a place once; else the first counts
abbrev pub ref_listed : (object index : ℕ) → Changes → Option (Option BlockRef)
ref_listed object index changes =
    option_map (λ ref. ref.to) (find (λ ref. ref.object == object && ref.index == index) changes.refs)

-- an object that is gone, or of this length, has no block of this index
abbrev pub is_past : (record_size index : ℕ) → (length : Option ℕ) → Bool
is_past record_size index None = true
is_past record_size index (Some bytes) = nat_le (blocks_of record_size bytes) index

-- what is said of a place by what is said of its object: a hole, where the object has no such block now
abbrev pub hole_said : (record_size index : ℕ) → Option (Option ℕ) → Option (Option BlockRef)
hole_said record_size index length =
    option_and_then (λ now. if is_past record_size index now then Some None else None) length

-- what changes say of a place, the reference to its block or a hole: what they list for it, else what they say by
-- its object's new length
abbrev pub ref_in : (record_size object index : ℕ) → Changes → Option (Option BlockRef)
ref_in record_size object index changes =
    option_or (ref_listed object index changes) (hole_said record_size index (length_said object changes))

-- the newest reference of a place of an object, of blocks of the record size; none for a hole
abbrev pub last_ref : (record_size : ℕ) → List LogEntry → Spot → (object index : ℕ) → Option BlockRef
last_ref record_size log spot object index =
    option_flatten (newest (ref_in record_size object index) spot (reverse log))

-- the newest length of an object, none where it isn't there
abbrev pub last_length : List LogEntry → Spot → (object : ℕ) → Option ℕ
last_length log spot object = option_flatten (newest (length_said object) spot (reverse log))

-- of one spot the later log tells what the earlier one told of a spot, be it the same or not
pub record KeepsLast (earlier : List LogEntry) (from : Spot) (later : List LogEntry) (spot : Spot) : Type 0 where
  pub lengths : (object : ℕ) → last_length later spot object ≡ last_length earlier from object
  pub refs : (record_size object index : ℕ)
      → last_ref record_size later spot object index ≡ last_ref record_size earlier from object index
