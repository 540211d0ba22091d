-- A change of a head, on an honest shelf or not.
use Rattle.std.proofs.Common.{◌≡◌, ℕ, Bool, true, false, ◌&&◌, List, [], ◌∷◌, ◌++◌, length, ◌<◌, Option, Some, None, IfSome, refl, ap, sym, ◌∙◌, subst, arith}
use Rattle.std.specs.Prelude.{◌==◌}
use Rattle.std.specs.Option.{option_flatten, option_map}
use Rattle.std.proofs.lemmas.Bool.Decides.{nat_tests}
use Rattle.family_log.specs.declared.table.Table.{Table}
use Rattle.family_log.specs.declared.head.Head.{Head}
use Rattle.family_log.specs.declared.entry.HeadChange.{HeadChange}
use Rattle.family_log.specs.declared.entry.Spot.{Spot}
use Rattle.family_log.specs.declared.entry.LogEntry.{LogEntry}
use Rattle.family_log.specs.Log.{Changes, KeepsLast, changes_in, changed_head, head_spot, is_head, length_said, ref_in}
use Rattle.family_log.specs.Model.{FamilyState, HasLengths, IsFamily, table_of}
use Rattle.family_log.specs.Calls.{IsChangeOf, given, with_change, with_table}
use Rattle.family_log.specs.Honest.{IsHonest, LeadsAsLogged, TellsTheLog}
use Rattle.family_log.proofs.LogLemmas.{newest-other}
use Rattle.family_log.proofs.HeadLemmas.{IsKept-changed}
use Rattle.family_log.proofs.ToldLemmas.{GoesAlong, lengths-along, still_told, tells-along}

by_space : {P : Type 0} (b : Bool) → (b ≡ true → P) → (b ≡ false → P) → P
by_space true yes_case no_case = yes_case refl
by_space false yes_case no_case = no_case refl

none_is_some : {X : Type 0} {x : X} → None ≡ Some x → ⊥
none_is_some e = cc

true_is_false : true ≡ false → ⊥
true_is_false e = cc

abbrev spot_at : ℕ → Option (List ℕ) → Spot
spot_at of_head snap = record { head = of_head; snap = snap }

-- the changed head has its new table
own_table : (id : ℕ) (table : Table) (heads : List Head) (P : Table → Type 0) → P (record table { guid = 0 })
    → IfSome (table_of (head_spot id) (with_table id table heads)) P
own_table id table [] P is = tt
own_table id table (head ∷ heads) P is =
    by_space (head.id == id) (λ found. rw (found, found) is) (λ apart. rw (apart, apart) (own_table id table heads P is))

-- every other spot has the table that it had
same_head : (id of_head : ℕ) (snap : Option (List ℕ)) (table : Table) (head : Head) (heads : List Head) → (head.id == id) ≡ true
    → is_head id (spot_at of_head snap) ≡ false
    → table_of (spot_at of_head snap) (given table head ∷ heads) ≡ table_of (spot_at of_head snap) (head ∷ heads)
same_head id of_head None table head heads found other =
    by_space (head.id == of_head)
    (λ here. let same : (of_head == id) ≡ true = grind (arith, nat_tests) in
    let is : is_head id (spot_at of_head None) ≡ true = rw same refl in
    absurd (true_is_false (sym is ∙ other)))
    (λ apart. rw apart refl)
same_head id of_head (Some part) table head heads found other =
    by_space (head.id == of_head) (λ here. rw here refl) (λ apart. rw apart refl)

other_table : (id of_head : ℕ) (snap : Option (List ℕ)) (table : Table) (heads : List Head) → is_head id (spot_at of_head snap) ≡ false
    → table_of (spot_at of_head snap) heads ≡ table_of (spot_at of_head snap) (with_table id table heads)
other_table id of_head snap table [] other = refl
other_table id of_head snap table (head ∷ heads) other =
    by_space (head.id == id)
    (λ found. rw found (sym (same_head id of_head snap table head heads found other)))
    (λ apart. rw apart (by_space (head.id == of_head) (λ here. rw here refl) (λ beside. rw beside (other_table id of_head snap table heads other))))

-- the changes of an entry that changes this head
changed : (head : ℕ) (found : Option Changes) → option_map (λ changes. changes.head) found ≡ Some head
    → (changes : Changes) × ((found ≡ Some changes) × (changes.head ≡ head))
changed head None is = absurd (none_is_some is)
changed head (Some changes) is = (changes, (refl, cc))

-- an entry of a head keeps what the log tells of every other spot
pub changed_keeps : (log : List LogEntry) (entry : LogEntry) (head : ℕ) (spot : Spot) → changed_head entry ≡ Some head → is_head head spot ≡ false
    → KeepsLast log spot (log ++ entry ∷ []) spot
changed_keeps log entry head spot of_head other =
    let it = changed head (changes_in entry) of_head in
    let apart : is_head it.0.head spot ≡ false = ap (λ id. is_head id spot) it.1.1 ∙ other in
    record {
      lengths = λ object. ap option_flatten (newest-other (length_said object) spot log entry it.0 it.1.0 apart);
      refs = λ record_size object index. ap option_flatten (newest-other (ref_in record_size object index) spot log entry it.0 it.1.0 apart);
    }

not_a_head : (b : Bool) → (b && false) ≡ true → ⊥
not_a_head true e = cc
not_a_head false e = cc

-- what is told of the new table and of each spot is told of each spot afterwards
module _ (P : List LogEntry → Spot → Table → Type 0) (along : GoesAlong P) (family : FamilyState) (head : ℕ) (change : HeadChange)
    (is : changed_head change.entry ≡ Some head) (new : P (family.log ++ change.entry ∷ []) (head_spot head) change.table)
    (told : (spot : Spot) → IfSome (table_of spot family.heads) (λ table. P family.log spot table)) where
  own_spot : (of_head : ℕ) (snap : Option (List ℕ)) → is_head head (spot_at of_head snap) ≡ true
      → IfSome (table_of (spot_at of_head snap) (with_table head change.table family.heads))
      (λ table. P (family.log ++ change.entry ∷ []) (spot_at of_head snap) table)
  own_spot of_head None here =
      let same : head ≡ of_head = grind (arith, nat_tests) in
      subst
      (λ (id : ℕ). IfSome (table_of (head_spot id) (with_table head change.table family.heads))
      (λ table. P (family.log ++ change.entry ∷ []) (head_spot id) table))
      same
      (own_table head change.table family.heads (λ table. P (family.log ++ change.entry ∷ []) (head_spot head) table)
      (along.guids (family.log ++ change.entry ∷ []) (head_spot head) 0 change.table new))
  own_spot of_head (Some part) here = absurd (not_a_head (of_head == head) here)

  changed_spot : (of_head : ℕ) (snap : Option (List ℕ)) → IfSome (table_of (spot_at of_head snap) (with_table head change.table family.heads))
      (λ table. P (family.log ++ change.entry ∷ []) (spot_at of_head snap) table)
  changed_spot of_head snap =
      by_space (is_head head (spot_at of_head snap))
      (λ here. own_spot of_head snap here)
      (λ other. subst
      (λ (found : Option Table). IfSome found (λ table. P (family.log ++ change.entry ∷ []) (spot_at of_head snap) table))
      (other_table head of_head snap change.table family.heads other)
      (still_told P along family.log (family.log ++ change.entry ∷ []) (spot_at of_head snap) (table_of (spot_at of_head snap) family.heads)
      (changed_keeps family.log change.entry head (spot_at of_head snap) is other) (told (spot_at of_head snap))))

  pub told-changed : (spot : Spot) → IfSome (table_of spot (with_table head change.table family.heads))
      (λ table. P (family.log ++ change.entry ∷ []) spot table)
  told-changed spot = changed_spot spot.head spot.snap

pub IsFamily-changed : (family : FamilyState) (head : ℕ) (change : HeadChange) → IsFamily family → IsChangeOf family head change
    → length family.log < family.room → IsFamily (with_change head change family)
IsFamily-changed family head change kept is left =
    IsKept-changed family.block family.room head family.heads family.log change.table change.entry kept is.table left
    (told-changed HasLengths lengths-along family head change is.of_head is.lengths kept.lengths)

-- what the new table tells
tells_now : (family : FamilyState) (head : ℕ) (change : HeadChange) (blocks : List (List ℕ)) → family.shelf.held ≡ Some blocks
    → LeadsAsLogged family head change → TellsTheLog blocks (family.log ++ change.entry ∷ []) (head_spot head) change.table
tells_now family head change blocks held as_logged =
    subst
    (λ (shelf : Option (List (List ℕ))). IfSome shelf
    (λ blocks. TellsTheLog blocks (family.log ++ change.entry ∷ []) (head_spot head) change.table))
    held as_logged

pub IsHonest-changed : (family : FamilyState) (head : ℕ) (change : HeadChange) → IsHonest family → IsChangeOf family head change
    → LeadsAsLogged family head change → IsHonest (with_change head change family)
IsHonest-changed family head change honest is as_logged = record {
  blocks = honest.blocks;
  placed = honest.placed;
  held = honest.held;
  bytes = honest.bytes;
  spots = told-changed (TellsTheLog honest.blocks) (tells-along honest.blocks) family head change is.of_head
      (tells_now family head change honest.blocks honest.held as_logged) honest.spots;
}
