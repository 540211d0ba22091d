-- Lemmas on the heads of a family.
use Rattle.std.proofs.Common.{◌≡◌, ℕ, ◌+◌, ◌<◌, ◌≤◌, suc, zero, Bool, true, false, List, [], ◌∷◌, ◌++◌, length, length-append, Ok, Err, get_or, set, Option, Some, None, IfSome, refl, ap, sym, ◌∙◌, subst, arith}
use Rattle.std.specs.Prelude.{◌==◌, nat_lt, nat_le, is_none}
use Rattle.std.specs.List.{All, position, position_or_len}
use Rattle.std.proofs.lemmas.List.Sums.{fails_before_first, sum_by-cons}
use Rattle.std.proofs.lemmas.List.Quantifiers.{position-Some}
use Rattle.std.proofs.lemmas.Bool.Decides.{nat_tests}
use Rattle.std.proofs.lemmas.List.Elements.{All-head, All-tail, All-cons}
use Rattle.dataset_tree.specs.declared.refusal.Refusal.TheVariants.{NoHead, Full}
use Rattle.family_log.specs.declared.entry.LogEntry.{LogEntry}
use Rattle.family_log.specs.declared.entry.Spot.{Spot}
use Rattle.family_log.specs.declared.table.Table.{Table}
use Rattle.family_log.specs.declared.head.Head.{Head}
use Rattle.family_log.specs.Tables.{IsRecordSize, IsTable}
use Rattle.family_log.specs.declared.head.TheConstants.{MAX_SNAPSHOTS}
use Rattle.family_log.specs.Model.{FamilyState, HasLengths, IsHead, IsKept, head_of, snapshot_count, table_of}
use Rattle.family_log.specs.Calls.{given, new_place, with_head, with_table}

pub with_head-at : (id : ℕ) (change : Head → Head) (heads : List Head) (at : ℕ) (head : Head) → at < length heads
    → (head.id == id) ≡ true → ((k : ℕ) → k < at → ((get_or heads k head).id == id) ≡ false) → head ≡ get_or heads at head
    → set heads at (change head) ≡ with_head id change heads
with_head-at id change [] at head within here before is = absurd (omega arith)
with_head-at id change (first ∷ heads) zero head within here before is = rw (sym is, here) refl
with_head-at id change (first ∷ heads) (suc at) head within here before is =
    rw (before 0 (omega arith)) (ap (λ rest. first ∷ rest) (with_head-at id change heads at head (omega arith) here (λ k below. before (suc k) (omega arith)) is))

pub with_head-none : (id : ℕ) (change : Head → Head) (heads : List Head) (d : Head)
    → ((k : ℕ) → k < length heads → ((get_or heads k d).id == id) ≡ false) → heads ≡ with_head id change heads
with_head-none id change [] d apart = refl
with_head-none id change (head ∷ heads) d apart =
    rw (apart 0 (omega arith)) (ap (λ rest. head ∷ rest) (with_head-none id change heads d (λ k below. apart (suc k) (omega arith))))

-- the head that was changed in place, by what is known where it was found
pub with_head-placed : (id : ℕ) (change : Head → Head) (heads : List Head) (at : ℕ) (head : Head)
    → position (λ (other : Head). other.id == id) heads ≡ Some at → head ≡ get_or heads at head
    → set heads at (change head) ≡ with_head id change heads
with_head-placed id change heads at head placed is =
    let facts = position-Some (λ (other : Head). other.id == id) heads at head placed in
    let here : (head.id == id) ≡ true = ap (λ (other : Head). other.id == id) is ∙ facts.1 in
    with_head-at id change heads at head facts.0 here facts.2 is

IsHead-given : (record_size : ℕ) (table : Table) (head : Head) → IsTable record_size table → IsHead record_size head
    → IsHead record_size (given table head)
IsHead-given record_size table head is kept = record {
  table = record { block = is.block; count = is.count; first = is.first; rising = is.rising; rows = is.rows };
  no_guid = refl;
  snapshots = kept.snapshots;
  paired = kept.paired;
  apart = kept.apart;
}

false_is_true : false ≡ true → ⊥
false_is_true e = cc

err_is_ok : {X Y : Type 0} {x : X} {y : Y} → Err y ≡ Ok x → ⊥
err_is_ok e = cc

-- a test is split on
by_space : {P : Type 0} (b : Bool) → (b ≡ true → P) → (b ≡ false → P) → P
by_space true yes_case no_case = yes_case refl
by_space false yes_case no_case = no_case refl

none_is_some : {X : Type 0} {x : X} → None ≡ Some x → ⊥
none_is_some e = cc

-- where none passes, each fails
pub all_fail : {X : Type 0} (p : X → Bool) (xs : List X) (d : X) → position p xs ≡ None → (k : ℕ) → k < length xs → p (get_or xs k d) ≡ false
all_fail p xs d missed k within =
    by_space (nat_lt (position_or_len p xs) (length xs))
    (λ found. let some : position p xs ≡ Some (position_or_len p xs) = rw found refl in absurd (none_is_some (sym missed ∙ some)))
    (λ passed. fails_before_first p xs k d (let past : length xs ≤ position_or_len p xs = grind (arith, nat_tests) in omega arith))

pub with_head-missed : (id : ℕ) (change : Head → Head) (heads : List Head) → position (λ (head : Head). head.id == id) heads ≡ None
    → heads ≡ with_head id change heads
with_head-missed id change [] missed = refl
with_head-missed id change (head ∷ heads) missed =
    with_head-none id change (head ∷ heads) head (all_fail (λ (other : Head). other.id == id) (head ∷ heads) head missed)

-- what all heads have the one that is found has
pub found_has : (P : Head → Type 0) (id : ℕ) (heads : List Head) → All P heads → IfSome (head_of id heads) P
found_has P id [] all = tt
found_has P id (head ∷ heads) all =
    by_space (head.id == id) (λ found. rw found (All-head P head heads all)) (λ apart. rw apart (found_has P id heads (All-tail P head heads all)))

-- each head of a record size stays one where the one that is found does
pub IsHead-with_head : (record_size id : ℕ) (change : Head → Head) (heads : List Head) → All (IsHead record_size) heads
    → IfSome (head_of id heads) (λ head. IsHead record_size (change head)) → All (IsHead record_size) (with_head id change heads)
IsHead-with_head record_size id change [] all is = all
IsHead-with_head record_size id change (head ∷ heads) all is =
    let first = All-head (IsHead record_size) head heads all in
    let rest = All-tail (IsHead record_size) head heads all in
    by_space (head.id == id)
    (λ found. rw found (All-cons (IsHead record_size) (change head) heads (rw found at is) rest))
    (λ apart. rw apart (All-cons (IsHead record_size) head (with_head id change heads) first
    (IsHead-with_head record_size id change heads rest (rw apart at is))))

-- a change that keeps ids keeps them all
with_head-length : (id : ℕ) (change : Head → Head) (heads : List Head) → length (with_head id change heads) ≡ length heads
with_head-length id change [] = refl
with_head-length id change (head ∷ heads) =
    by_space (head.id == id) (λ found. rw found refl) (λ apart. rw apart (ap (λ n. suc n) (with_head-length id change heads)))

with_head-id : (id : ℕ) (change : Head → Head) (heads : List Head) (k : ℕ) (d : Head) → ((head : Head) → (change head).id ≡ head.id)
    → (get_or (with_head id change heads) k d).id ≡ (get_or heads k d).id
with_head-id id change [] k d keeps = refl
with_head-id id change (head ∷ heads) zero d keeps = by_space (head.id == id) (λ found. rw found (keeps head)) (λ apart. rw apart refl)
with_head-id id change (head ∷ heads) (suc k) d keeps =
    by_space (head.id == id) (λ found. rw found refl) (λ apart. rw apart (with_head-id id change heads k d keeps))

found_first : (id : ℕ) (change : Head → Head) (head : Head) (heads : List Head) → (head.id == id) ≡ true
    → with_head id change (head ∷ heads) ≡ change head ∷ heads
found_first id change head heads found = rw found refl

found_later : (id : ℕ) (change : Head → Head) (head : Head) (heads : List Head) → (head.id == id) ≡ false
    → with_head id change (head ∷ heads) ≡ head ∷ with_head id change heads
found_later id change head heads apart = rw apart refl

pub count-cons : (head : Head) (heads : List Head) → snapshot_count (head ∷ heads) ≡ length head.parts + snapshot_count heads
count-cons head heads = sum_by-cons (λ (head : Head). length head.parts) head heads

-- and adds as many snapshots at most as it adds to one
pub with_head-count : (id : ℕ) (change : Head → Head) (heads : List Head) (more : ℕ)
    → ((head : Head) → length (change head).parts ≤ length head.parts + more)
    → snapshot_count (with_head id change heads) ≤ snapshot_count heads + more
with_head-count id change [] more adds = omega arith
with_head-count id change (head ∷ heads) more adds =
    let first : length (change head).parts ≤ length head.parts + more = adds head in
    let rest : snapshot_count (with_head id change heads) ≤ snapshot_count heads + more = with_head-count id change heads more adds in
    let all : snapshot_count (head ∷ heads) ≡ length head.parts + snapshot_count heads = count-cons head heads in
    let with_first : snapshot_count (change head ∷ heads) ≡ length (change head).parts + snapshot_count heads = count-cons (change head) heads in
    let with_rest : snapshot_count (head ∷ with_head id change heads) ≡ length head.parts + snapshot_count (with_head id change heads) =
    count-cons head (with_head id change heads) in
    by_space (head.id == id)
    (λ found. subst (λ (n : ℕ). n ≤ snapshot_count (head ∷ heads) + more) (ap snapshot_count (sym (found_first id change head heads found))) (omega arith))
    (λ apart. subst (λ (n : ℕ). n ≤ snapshot_count (head ∷ heads) + more) (ap snapshot_count (sym (found_later id change head heads apart))) (omega arith))

pub IsKept-with_head : (block room id : ℕ) (change : Head → Head) (heads : List Head) (log later : List LogEntry) → IsKept block room heads log
    → ((head : Head) → (change head).id ≡ head.id) → IfSome (head_of id heads) (λ head. IsHead block (change head))
    → snapshot_count (with_head id change heads) ≤ MAX_SNAPSHOTS → length later ≤ room
    → ((spot : Spot) → IfSome (table_of spot (with_head id change heads)) (λ table. HasLengths later spot table))
    → IsKept block room (with_head id change heads) later
IsKept-with_head block room id change heads log later kept keeps is few left lengths = record {
  record_size = kept.record_size;
  room_least = kept.room_least;
  room_most = kept.room_most;
  in_room = left;
  tables = IsHead-with_head block id change heads kept.tables is;
  apart = λ i j d before within same. kept.apart i j d before (omega (arith, within, with_head-length id change heads))
      (sym (with_head-id id change heads i d keeps) ∙ same ∙ with_head-id id change heads j d keeps);
  few_snapshots = few;
  lengths = lengths;
}

given_all : (record_size : ℕ) (table : Table) (found : Option Head) → IsTable record_size table → IfSome found (IsHead record_size)
    → IfSome found (λ head. IsHead record_size (given table head))
given_all record_size table None is kept = tt
given_all record_size table (Some head) is kept = IsHead-given record_size table head is kept

one_longer : (log : List LogEntry) (entry : LogEntry) (room : ℕ) → length log < room → length (log ++ entry ∷ []) ≤ room
one_longer log entry room left = omega (arith, length-append log (entry ∷ []))

-- what the type keeps is kept by a change of a head
pub IsKept-changed : (block room id : ℕ) (heads : List Head) (log : List LogEntry) (table : Table) (entry : LogEntry) → IsKept block room heads log
    → IsTable block table → length log < room
    → ((spot : Spot) → IfSome (table_of spot (with_table id table heads)) (λ table. HasLengths (log ++ entry ∷ []) spot table))
    → IsKept block room (with_table id table heads) (log ++ entry ∷ [])
IsKept-changed block room id heads log table entry kept is left lengths =
    let count : snapshot_count (with_table id table heads) ≤ snapshot_count heads + 0 =
    with_head-count id (given table) heads 0 (λ head. omega arith) in
    let few : snapshot_count heads ≤ MAX_SNAPSHOTS = kept.few_snapshots in
    IsKept-with_head block room id (given table) heads log (log ++ entry ∷ []) kept (λ head. refl)
    (given_all block table (head_of id heads) is (found_has (IsHead block) id heads kept.tables)) (omega arith)
    (one_longer log entry room left) lengths

-- a family that has a place for a new entry has room for it
pub room_left : (family : FamilyState) (head place : ℕ) → new_place family head ≡ Ok place → length family.log < family.room
room_left family head place is =
    by_space (is_none (head_of head family.heads))
    (λ none. let refused : new_place family head ≡ Err (NoHead head) = rw none refl in absurd (err_is_ok (sym refused ∙ is)))
    (λ there. by_space (nat_le family.room (length family.log))
    (λ full. let refused : new_place family head ≡ Err (Full family.room) = rw (there, full) refl in absurd (err_is_ok (sym refused ∙ is)))
    (λ left. grind (arith, nat_tests)))

-- a record size isn't 0
pub positive_size : (size : ℕ) → IsRecordSize size → 1 ≤ size
positive_size zero is = absurd (false_is_true is)
positive_size (suc n) is = omega arith
