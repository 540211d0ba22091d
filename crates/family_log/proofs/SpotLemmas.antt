-- What spots have where snapshots, clones and heads come and go.
use Rattle.std.proofs.Common.{◌≡◌, ℕ, zero, suc, Bool, true, false, not, List, [], ◌∷◌, ◌++◌, get_or, Option, Some, None, IfSome, refl, ap, sym, ◌∙◌, subst, arith}
use Rattle.std.specs.Prelude.{◌==◌, is_none}
use Rattle.std.specs.List.{All, filter, position}
use Rattle.std.specs.Option.{option_and_then, option_eq, option_flatten, option_map, option_map_or}
use Rattle.std.specs.Str.{bytes_eq}
use Rattle.std.proofs.lemmas.Bool.Decides.{nat_tests, Decides-eqb}
use Rattle.family_log.specs.declared.table.Table.{Table}
use Rattle.family_log.specs.declared.head.Head.{Head}
use Rattle.family_log.specs.declared.entry.Spot.{Spot}
use Rattle.family_log.specs.declared.entry.LogEntry.{LogEntry}
use Rattle.family_log.specs.declared.entry.LogEntry.TheVariants.{Make, Write, Cut, Remove, Receive, Snapshot, Clone, Read, Refused}
use Rattle.family_log.specs.Log.{Changes, KeepsLast, Passes, head_spot, snap_spot, is_head, length_said, ref_in}
use Rattle.family_log.specs.Model.{FamilyState, IsFamily, IsHead, head_of, table_in, table_of}
use Rattle.family_log.specs.Calls.{with_head}
use Rattle.family_log.specs.Snapshots.{KeepsSpot, clone_added, clone_of, has_part, has_snapshot, head_removed, is_about, same_spot, snapshot_added, snapshot_removed, with_snapshot, without_place, without_snapshot}
use Rattle.family_log.proofs.LogLemmas.{newest-passed, newest-snapshot, newest-clone}
use Rattle.family_log.proofs.HeadLemmas.{found_has}
use Rattle.family_log.proofs.SnapLemmas.{alike, snap_table-added, snap_table-beside, snap_table-gone, snap_table-others}

by_space : {P : Type 0} (b : Bool) → (b ≡ true → P) → (b ≡ false → P) → P
by_space true yes_case no_case = yes_case refl
by_space false yes_case no_case = no_case refl

true_is_false : true ≡ false → ⊥
true_is_false e = cc

abbrev pub spot_at : ℕ → Option (List ℕ) → Spot
spot_at of_head snap = record { head = of_head; snap = snap }

-- ---- the log

-- an entry that is not about a spot passes it
about-passes : {X : Type 0} (find_in : Changes → Option X) (spot : Spot) (entry : LogEntry) → is_about spot entry ≡ false → Passes find_in spot entry
about-passes find_in spot (Make head lengths refs) other = (rw other refl, refl)
about-passes find_in spot (Write head lengths refs) other = (rw other refl, refl)
about-passes find_in spot (Cut head lengths refs) other = (rw other refl, refl)
about-passes find_in spot (Remove head lengths refs) other = (rw other refl, refl)
about-passes find_in spot (Receive head lengths refs) other = (rw other refl, refl)
about-passes find_in spot (Snapshot head part) other = (refl, rw other refl)
about-passes find_in spot (Clone from head) other = (refl, rw other refl)
about-passes find_in spot (Read of_note) other = (refl, refl)
about-passes find_in spot (Refused of_note why draws puts) other = (refl, refl)

pub kept-later : (log later : List LogEntry) (spot : Spot) → All (λ entry. is_about spot entry ≡ false) later → KeepsLast log spot (log ++ later) spot
kept-later log later spot others = record {
  lengths = λ object. ap option_flatten (newest-passed (length_said object) spot log later
      (λ k d within. about-passes (length_said object) spot (get_or later k d) (others k d within)));
  refs = λ record_size object index. ap option_flatten (newest-passed (ref_in record_size object index) spot log later
      (λ k d within. about-passes (ref_in record_size object index) spot (get_or later k d) (others k d within)));
}

only_one : (spot : Spot) (entry : LogEntry) → is_about spot entry ≡ false → All (λ (other : LogEntry). is_about spot other ≡ false) (entry ∷ [])
only_one spot entry other zero d within = other
only_one spot entry other (suc k) d within = absurd (omega arith)

pub kept-one : (log : List LogEntry) (entry : LogEntry) (spot : Spot) → is_about spot entry ≡ false → KeepsLast log spot (log ++ entry ∷ []) spot
kept-one log entry spot other = kept-later log (entry ∷ []) spot (only_one spot entry other)

none_pass : {X : Type 0} (find_in : Changes → Option X) (spot : Spot) → All (Passes find_in spot) []
none_pass find_in spot k d within = absurd (omega arith)

pub kept-snapshot : (log : List LogEntry) (head : ℕ) (part : List ℕ)
    → KeepsLast log (head_spot head) (log ++ Snapshot head part ∷ []) (snap_spot head part)
kept-snapshot log head part = record {
  lengths = λ object. ap option_flatten (newest-snapshot (length_said object) head part log [] (none_pass (length_said object) (snap_spot head part)));
  refs = λ record_size object index. ap option_flatten (newest-snapshot (ref_in record_size object index) head part log []
      (none_pass (ref_in record_size object index) (snap_spot head part)));
}

pub kept-clone : (log : List LogEntry) (from : Spot) (head : ℕ) → KeepsLast log from (log ++ Clone from head ∷ []) (head_spot head)
kept-clone log from head = record {
  lengths = λ object. ap option_flatten (newest-clone (length_said object) from head log [] (none_pass (length_said object) (head_spot head)));
  refs = λ record_size object index. ap option_flatten (newest-clone (ref_in record_size object index) from head log []
      (none_pass (ref_in record_size object index) (head_spot head)));
}

-- ---- spots

same_snap : (a b : Option (List ℕ)) → option_eq bytes_eq a b ≡ true → a ≡ b
same_snap None None same = refl
same_snap None (Some b) same = absurd (true_is_false (sym same))
same_snap (Some a) None same = absurd (true_is_false (sym same))
same_snap (Some a) (Some b) same = ap Some (alike a b same)

-- that two spots are one
pub same_spot-is : (a b : Spot) → same_spot a b ≡ true → a ≡ b
same_spot-is a b same =
    by_space (a.head == b.head)
    (λ heads. let id : a.head ≡ b.head = (Decides-eqb a.head b.head).0 heads in
    let snaps : a.snap ≡ b.snap = same_snap a.snap b.snap (rw heads at same) in rw (id, snaps) refl)
    (λ apart. absurd (true_is_false (sym (rw apart at same))))

not_head_at : (of_head : ℕ) (snap : Option (List ℕ)) (head : ℕ) → same_spot (spot_at of_head snap) (head_spot head) ≡ false
    → is_head head (spot_at of_head snap) ≡ false
not_head_at of_head None head apart = apart
not_head_at of_head (Some part) head apart = apart

-- a spot that is not this head is not named by it
not_head : (spot : Spot) (head : ℕ) → same_spot spot (head_spot head) ≡ false → is_head head spot ≡ false
not_head spot head apart = not_head_at spot.head spot.snap head apart

-- ---- a head that is changed

head_of-changed : (id : ℕ) (change : Head → Head) (heads : List Head) → ((head : Head) → (change head).id ≡ head.id)
    → head_of id (with_head id change heads) ≡ option_map change (head_of id heads)
head_of-changed id change [] keeps = refl
head_of-changed id change (head ∷ heads) keeps =
    by_space (head.id == id)
    (λ found. let still : ((change head).id == id) ≡ true = ap (λ n. n == id) (keeps head) ∙ found in rw (found, still) refl)
    (λ apart. rw (apart, apart) (head_of-changed id change heads keeps))

head_of-beside : (id asked : ℕ) (change : Head → Head) (heads : List Head) → ((head : Head) → (change head).id ≡ head.id)
    → (asked == id) ≡ false → head_of asked (with_head id change heads) ≡ head_of asked heads
head_of-beside id asked change [] keeps other = refl
head_of-beside id asked change (head ∷ heads) keeps other =
    by_space (head.id == id)
    (λ found.
    let beside : (head.id == asked) ≡ false = grind (arith, nat_tests) in
    let still : ((change head).id == asked) ≡ false = ap (λ n. n == asked) (keeps head) ∙ beside in rw (found, still, beside) refl)
    (λ apart. rw apart (by_space (head.id == asked) (λ here. rw here refl)
    (λ beside. rw beside (head_of-beside id asked change heads keeps other))))

mapped : (change : Head → Head) (f : Head → Option Table) (found : Option Head)
    → option_and_then f (option_map change found) ≡ option_and_then (λ head. f (change head)) found
mapped change f None = refl
mapped change f (Some head) = refl

-- what a spot of the changed head has is what the changed head has
own_spot : (id : ℕ) (change : Head → Head) (heads : List Head) (snap : Option (List ℕ)) → ((head : Head) → (change head).id ≡ head.id)
    → table_of (spot_at id snap) (with_head id change heads) ≡ option_and_then (λ head. table_in snap (change head)) (head_of id heads)
own_spot id change heads snap keeps =
    ap (λ (found : Option Head). option_and_then (λ head. table_in snap head) found) (head_of-changed id change heads keeps)
    ∙ mapped change (λ head. table_in snap head) (head_of id heads)

other_spot : (id of_head : ℕ) (change : Head → Head) (heads : List Head) (snap : Option (List ℕ)) → ((head : Head) → (change head).id ≡ head.id)
    → (of_head == id) ≡ false → table_of (spot_at of_head snap) (with_head id change heads) ≡ table_of (spot_at of_head snap) heads
other_spot id of_head change heads snap keeps other =
    ap (λ (found : Option Head). option_and_then (λ head. table_in snap head) found) (head_of-beside id of_head change heads keeps other)

alike_in : (f g : Head → Option Table) (found : Option Head) → IfSome found (λ head. f head ≡ g head) → option_and_then f found ≡ option_and_then g found
alike_in f g None same = refl
alike_in f g (Some head) same = same

weaker : (P Q : Head → Type 0) (found : Option Head) → ((head : Head) → P head → Q head) → IfSome found P → IfSome found Q
weaker P Q None f is = tt
weaker P Q (Some head) f is = f head is

-- ---- a snapshot is made

made_in : (record_size guid : ℕ) (part : List ℕ) (found : Option Head) → IfSome found (IsHead record_size)
    → option_map_or (λ (head : Head). has_part part head.parts) found false ≡ false
    → option_and_then (λ (head : Head). table_in (Some part) (with_snapshot part guid head)) found
    ≡ option_map (λ (table : Table). record table { guid = guid }) (option_and_then (λ (head : Head). table_in None head) found)
made_in record_size guid part None kept none = refl
made_in record_size guid part (Some head) kept none = snap_table-added part guid head kept.paired none

pub snapshot-made : (family : FamilyState) (id : ℕ) (part : List ℕ) (guid : ℕ) → IsFamily family → has_snapshot id part family.heads ≡ false
    → table_of (snap_spot id part) (snapshot_added id part guid family).heads
    ≡ option_map (λ (table : Table). record table { guid = guid }) (table_of (head_spot id) family.heads)
snapshot-made family id part guid kept none =
    own_spot id (with_snapshot part guid) family.heads (Some part) (λ head. refl)
    ∙ made_in family.block guid part (head_of id family.heads) (found_has (IsHead family.block) id family.heads kept.tables) none

-- a snapshot of another name, or the head itself
stays_in : (record_size guid : ℕ) (part : List ℕ) (snap : Option (List ℕ)) (head : Head) → option_eq bytes_eq snap (Some part) ≡ false
    → IsHead record_size head → table_in snap (with_snapshot part guid head) ≡ table_in snap head
stays_in record_size guid part None head apart kept = refl
stays_in record_size guid part (Some asked) head apart kept = snap_table-beside asked part guid head kept.paired apart

pub snapshot-others_at : (family : FamilyState) (id : ℕ) (part : List ℕ) (guid of_head : ℕ) (snap : Option (List ℕ)) → IsFamily family
    → same_spot (spot_at of_head snap) (snap_spot id part) ≡ false
    → table_of (spot_at of_head snap) (with_head id (with_snapshot part guid) family.heads) ≡ table_of (spot_at of_head snap) family.heads
snapshot-others_at family id part guid of_head snap kept apart =
    by_space (of_head == id)
    (λ here. let same : of_head ≡ id = (Decides-eqb of_head id).0 here in
    let beside : option_eq bytes_eq snap (Some part) ≡ false = rw here at apart in
    subst (λ (n : ℕ). table_of (spot_at n snap) (with_head id (with_snapshot part guid) family.heads) ≡ table_of (spot_at n snap) family.heads)
    (sym same)
    (own_spot id (with_snapshot part guid) family.heads snap (λ head. refl)
    ∙ alike_in (λ head. table_in snap (with_snapshot part guid head)) (λ head. table_in snap head) (head_of id family.heads)
    (weaker (IsHead family.block) (λ head. table_in snap (with_snapshot part guid head) ≡ table_in snap head) (head_of id family.heads)
    (λ head is. stays_in family.block guid part snap head beside is)
    (found_has (IsHead family.block) id family.heads kept.tables))))
    (λ other. other_spot id of_head (with_snapshot part guid) family.heads snap (λ head. refl) other)

pub snapshot-others : (family : FamilyState) (id : ℕ) (part : List ℕ) (guid : ℕ) (spot : Spot) → IsFamily family
    → same_spot spot (snap_spot id part) ≡ false → KeepsSpot family (snapshot_added id part guid family) spot
snapshot-others family id part guid spot kept apart = record {
  table = snapshot-others_at family id part guid spot.head spot.snap kept apart;
  last = kept-one family.log (Snapshot id part) spot apart;
}

-- ---- a snapshot goes

-- what going snapshots leave of a head
place_stays : (part : List ℕ) (head : Head) (found : Option ℕ) → (without_place found head).id ≡ head.id
place_stays part head None = refl
place_stays part head (Some at) = refl

pub id_stays : (part : List ℕ) (head : Head) → (without_snapshot part head).id ≡ head.id
id_stays part head = place_stays part head (position (λ other. bytes_eq other part) head.parts)

own_place : (part : List ℕ) (head : Head) (found : Option ℕ) → table_in None (without_place found head) ≡ table_in None head
own_place part head None = refl
own_place part head (Some at) = refl

own_stays : (part : List ℕ) (head : Head) → table_in None (without_snapshot part head) ≡ table_in None head
own_stays part head = own_place part head (position (λ other. bytes_eq other part) head.parts)

leaves_in : (record_size : ℕ) (part : List ℕ) (snap : Option (List ℕ)) (head : Head) → option_eq bytes_eq snap (Some part) ≡ false
    → IsHead record_size head → table_in snap (without_snapshot part head) ≡ table_in snap head
leaves_in record_size part None head apart kept = own_stays part head
leaves_in record_size part (Some asked) head apart kept = snap_table-others asked part head kept.paired apart

pub removed-others_at : (family : FamilyState) (id : ℕ) (part : List ℕ) (of_head : ℕ) (snap : Option (List ℕ)) → IsFamily family
    → same_spot (spot_at of_head snap) (snap_spot id part) ≡ false
    → table_of (spot_at of_head snap) (with_head id (without_snapshot part) family.heads) ≡ table_of (spot_at of_head snap) family.heads
removed-others_at family id part of_head snap kept apart =
    by_space (of_head == id)
    (λ here. let same : of_head ≡ id = (Decides-eqb of_head id).0 here in
    let beside : option_eq bytes_eq snap (Some part) ≡ false = rw here at apart in
    subst (λ (n : ℕ). table_of (spot_at n snap) (with_head id (without_snapshot part) family.heads) ≡ table_of (spot_at n snap) family.heads)
    (sym same)
    (own_spot id (without_snapshot part) family.heads snap (λ head. id_stays part head)
    ∙ alike_in (λ head. table_in snap (without_snapshot part head)) (λ head. table_in snap head) (head_of id family.heads)
    (weaker (IsHead family.block) (λ head. table_in snap (without_snapshot part head) ≡ table_in snap head) (head_of id family.heads)
    (λ head is. leaves_in family.block part snap head beside is)
    (found_has (IsHead family.block) id family.heads kept.tables))))
    (λ other. other_spot id of_head (without_snapshot part) family.heads snap (λ head. id_stays part head) other)

log_stays : (log : List LogEntry) (spot : Spot) → KeepsLast log spot log spot
log_stays log spot = record { lengths = λ object. refl; refs = λ record_size object index. refl }

pub removed-others : (family : FamilyState) (id : ℕ) (part : List ℕ) (spot : Spot) → IsFamily family
    → same_spot spot (snap_spot id part) ≡ false → KeepsSpot family (snapshot_removed id part family) spot
removed-others family id part spot kept apart = record {
  table = removed-others_at family id part spot.head spot.snap kept apart;
  last = log_stays family.log spot;
}

gone_in : (record_size : ℕ) (part : List ℕ) (found : Option Head) → IfSome found (IsHead record_size)
    → option_and_then (λ (head : Head). table_in (Some part) (without_snapshot part head)) found ≡ None
gone_in record_size part None kept = refl
gone_in record_size part (Some head) kept = snap_table-gone record_size part head kept

pub removed-gone : (family : FamilyState) (id : ℕ) (part : List ℕ) → IsFamily family
    → table_of (snap_spot id part) (snapshot_removed id part family).heads ≡ None
removed-gone family id part kept =
    own_spot id (without_snapshot part) family.heads (Some part) (λ head. id_stays part head)
    ∙ gone_in family.block part (head_of id family.heads) (found_has (IsHead family.block) id family.heads kept.tables)

-- ---- a head goes

filtered_gone : (id asked : ℕ) (heads : List Head) → (asked == id) ≡ true → head_of asked (filter (λ head. not (head.id == id)) heads) ≡ None
filtered_gone id asked [] same = refl
filtered_gone id asked (head ∷ heads) same =
    by_space (head.id == id)
    (λ found. rw found (filtered_gone id asked heads same))
    (λ apart. let beside : (head.id == asked) ≡ false = grind (arith, nat_tests) in
    rw (apart, beside) (filtered_gone id asked heads same))

filtered_other : (id asked : ℕ) (heads : List Head) → (asked == id) ≡ false
    → head_of asked (filter (λ head. not (head.id == id)) heads) ≡ head_of asked heads
filtered_other id asked [] other = refl
filtered_other id asked (head ∷ heads) other =
    by_space (head.id == id)
    (λ found. let beside : (head.id == asked) ≡ false = grind (arith, nat_tests) in
    rw (found, beside) (filtered_other id asked heads other))
    (λ apart. rw apart (by_space (head.id == asked) (λ here. rw here refl) (λ beside. rw beside (filtered_other id asked heads other))))

pub head-gone : (family : FamilyState) (id : ℕ) (spot : Spot) → (spot.head == id) ≡ true → table_of spot (head_removed id family).heads ≡ None
head-gone family id spot same =
    ap (λ (found : Option Head). option_and_then (λ head. table_in spot.snap head) found) (filtered_gone id spot.head family.heads same)

pub head-others : (family : FamilyState) (id : ℕ) (spot : Spot) → (spot.head == id) ≡ false → KeepsSpot family (head_removed id family) spot
head-others family id spot other = record {
  table = ap (λ (found : Option Head). option_and_then (λ head. table_in spot.snap head) found) (filtered_other id spot.head family.heads other);
  last = log_stays family.log spot;
}

-- ---- a clone is made

head_of-pushed : (asked : ℕ) (heads : List Head) (more : List Head) → is_none (head_of asked heads) ≡ true
    → head_of asked (heads ++ more) ≡ head_of asked more
head_of-pushed asked [] more none = refl
head_of-pushed asked (head ∷ heads) more none =
    by_space (head.id == asked)
    (λ here. absurd (true_is_false (sym (rw here at none))))
    (λ beside. rw beside (head_of-pushed asked heads more (rw beside at none)))

none_here : (id asked : ℕ) (more : List Head) → (asked == id) ≡ false → All (λ (head : Head). head.id ≡ id) more → head_of asked more ≡ None
none_here id asked [] other all = refl
none_here id asked (head ∷ more) other all =
    let of_id : head.id ≡ id = all 0 head (omega arith) in
    let beside : (head.id == asked) ≡ false = grind (arith, nat_tests) in
    rw beside (none_here id asked more other (λ k d within. all (suc k) d (omega arith)))

head_of-before : (id asked : ℕ) (heads : List Head) (more : List Head) → (asked == id) ≡ false → All (λ (head : Head). head.id ≡ id) more
    → head_of asked (heads ++ more) ≡ head_of asked heads
head_of-before id asked [] more other all = none_here id asked more other all
head_of-before id asked (head ∷ heads) more other all =
    by_space (head.id == asked) (λ here. rw here refl) (λ beside. rw beside (head_of-before id asked heads more other all))

abbrev pub cloned : ℕ → Option Table → List Head
cloned id found = option_map_or (λ table. clone_of id table ∷ []) found []

cloned_ids : (id : ℕ) (found : Option Table) → All (λ (head : Head). head.id ≡ id) (cloned id found)
cloned_ids id None k d within = absurd (omega arith)
cloned_ids id (Some table) zero d within = refl
cloned_ids id (Some table) (suc k) d within = absurd (omega arith)

own_clone : (id : ℕ) (found : Option Table) → option_and_then (λ (head : Head). table_in None head) (head_of id (cloned id found))
    ≡ option_map (λ (table : Table). record table { guid = 0 }) found
own_clone id None = refl
own_clone id (Some table) = rw ((Decides-eqb id id).1 refl) refl

pub clone-made : (family : FamilyState) (from : Spot) (id : ℕ) → is_none (head_of id family.heads) ≡ true
    → table_of (head_spot id) (clone_added from id family).heads
    ≡ option_map (λ (table : Table). record table { guid = 0 }) (table_of from family.heads)
clone-made family from id none =
    ap (λ (found : Option Head). option_and_then (λ head. table_in None head) found)
    (head_of-pushed id family.heads (cloned id (table_of from family.heads)) none)
    ∙ own_clone id (table_of from family.heads)

-- of the clone's head no snapshot is there, before or after
no_snaps : (id : ℕ) (part : List ℕ) (found : Option Table) → option_and_then (λ (head : Head). table_in (Some part) head) (head_of id (cloned id found)) ≡ None
no_snaps id part None = refl
no_snaps id part (Some table) = rw ((Decides-eqb id id).1 refl) refl

none_then : (f : Head → Option Table) (found : Option Head) → is_none found ≡ true → option_and_then f found ≡ None
none_then f None none = refl
none_then f (Some head) none = absurd (true_is_false (sym none))

clone_snap : (family : FamilyState) (from : Spot) (id : ℕ) (part : List ℕ) → is_none (head_of id family.heads) ≡ true
    → table_of (snap_spot id part) (clone_added from id family).heads ≡ table_of (snap_spot id part) family.heads
clone_snap family from id part none =
    ap (λ (found : Option Head). option_and_then (λ head. table_in (Some part) head) found)
    (head_of-pushed id family.heads (cloned id (table_of from family.heads)) none)
    ∙ no_snaps id part (table_of from family.heads)
    ∙ sym (none_then (λ head. table_in (Some part) head) (head_of id family.heads) none)

clone-others_at : (family : FamilyState) (from : Spot) (id of_head : ℕ) (snap : Option (List ℕ)) → is_none (head_of id family.heads) ≡ true
    → same_spot (spot_at of_head snap) (head_spot id) ≡ false
    → table_of (spot_at of_head snap) (clone_added from id family).heads ≡ table_of (spot_at of_head snap) family.heads
clone-others_at family from id of_head None none apart =
    by_space (of_head == id)
    (λ here. absurd (true_is_false (rw here at apart)))
    (λ other. ap (λ (found : Option Head). option_and_then (λ head. table_in None head) found)
    (head_of-before id of_head family.heads (cloned id (table_of from family.heads)) other (cloned_ids id (table_of from family.heads))))
clone-others_at family from id of_head (Some part) none apart =
    by_space (of_head == id)
    (λ here. let same : of_head ≡ id = (Decides-eqb of_head id).0 here in
    subst (λ (n : ℕ). table_of (snap_spot n part) (clone_added from id family).heads ≡ table_of (snap_spot n part) family.heads)
    (sym same) (clone_snap family from id part none))
    (λ other. ap (λ (found : Option Head). option_and_then (λ head. table_in (Some part) head) found)
    (head_of-before id of_head family.heads (cloned id (table_of from family.heads)) other (cloned_ids id (table_of from family.heads))))

pub clone-others : (family : FamilyState) (from : Spot) (id : ℕ) (spot : Spot) → is_none (head_of id family.heads) ≡ true
    → same_spot spot (head_spot id) ≡ false → KeepsSpot family (clone_added from id family) spot
clone-others family from id spot none apart = record {
  table = clone-others_at family from id spot.head spot.snap none apart;
  last = kept-one family.log (Clone from id) spot (not_head spot id apart);
}
