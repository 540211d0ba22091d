-- Up to which id a family has heads, and its log entries of heads.
use Rattle.std.specs.Prelude.{ℕ, ◌≤◌, ⊤}
use Rattle.std.specs.List.{All}
use Rattle.family_log.specs.declared.entry.LogEntry.{LogEntry}
use Rattle.family_log.specs.declared.entry.LogEntry.TheVariants.{Make, Write, Cut, Remove, Receive, Snapshot, Clone, Read, Refused}
use Rattle.family_log.specs.Model.{FamilyState}
use Rattle.snap_clone.specs.Acts.{Act, Change, Note, Lend, MakeSnapshot, MakeClone, DropHead, DropSnapshot}

-- the head that an entry is of
abbrev pub head_in : LogEntry → ℕ
head_in (Make head lengths refs) = head
head_in (Write head lengths refs) = head
head_in (Cut head lengths refs) = head
head_in (Remove head lengths refs) = head
head_in (Receive head lengths refs) = head
head_in (Snapshot head part) = head
head_in (Clone from head) = head
head_in (Read spot) = spot.head
head_in (Refused spot why draws puts) = spot.head

-- no head and no entry is above this id
pub record IsUpTo (last : ℕ) (family : FamilyState) : Type 0 where
  pub heads : All (λ head. head.id ≤ last) family.heads
  pub entries : All (λ entry. head_in entry ≤ last) family.log

-- the entry that it makes is of no head above this id
abbrev pub ActsUpTo : (last : ℕ) → Act → Type 0
ActsUpTo last (Change head change) = head ≤ last
ActsUpTo last (Note spot what) = spot.head ≤ last
ActsUpTo last (Lend salts shelf) = ⊤
ActsUpTo last (MakeSnapshot head part guid) = head ≤ last
ActsUpTo last (MakeClone from head) = head ≤ last
ActsUpTo last (DropHead head) = ⊤
ActsUpTo last (DropSnapshot spot) = ⊤
