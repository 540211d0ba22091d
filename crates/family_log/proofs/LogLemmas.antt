-- Lemmas on what the log tells.
use Rattle.std.proofs.Common.{◌≡◌, ℕ, ◌-◌, ◌<◌, ◌≤◌, zero, suc, Bool, true, false, List, [], ◌∷◌, ◌++◌, length, get_or, take, Option, Some, None, refl, ap, sym, ◌∙◌, arith, reverse, append_assoc}
use Rattle.std.specs.Prelude.{if◌then◌else◌}
use Rattle.std.specs.List.{All}
use Rattle.std.proofs.lemmas.List.Elements.{All-head, All-tail}
use Rattle.std.proofs.lemmas.Bool.Decides.{Decides-eqb}
use Rattle.std.proofs.lemmas.Slice.Eq.{bytes_eq-Decides}
use Rattle.std.specs.Option.{option_and_then, option_flatten, option_or}
use Rattle.std.proofs.lemmas.List.{reverse-append, append-nil}
use Rattle.std.proofs.Math.Seq.{take-suc}
use Rattle.family_log.specs.declared.entry.Spot.{Spot}
use Rattle.family_log.specs.declared.entry.LogEntry.{LogEntry}
use Rattle.family_log.specs.declared.entry.LogEntry.TheVariants.{Make, Write, Cut, Remove, Receive, Snapshot, Clone, Read, Refused}
use Rattle.family_log.specs.declared.entry.ReadNote.{ReadNote}
use Rattle.family_log.specs.declared.entry.ReadNote.TheVariants as notes
use Rattle.family_log.specs.Noted.{noted}
use Rattle.family_log.specs.Log.{Changes, Passes, changes_in, head_spot, snap_spot, is_head, is_past, is_snap, length_said, newest, ref_in, ref_listed, said, stood}

none_is_some : {X : Type 0} {x : X} → None ≡ Some x → ⊥
none_is_some e = cc

-- what a change of the spot's head says
pub said-changed : {X : Type 0} (find_in : Changes → Option X) (spot : Spot) (changes : Changes) (entry : LogEntry)
    → changes_in entry ≡ Some changes → is_head changes.head spot ≡ true → said find_in spot entry ≡ find_in changes
said-changed find_in spot changes entry is here = rw (is, here) refl

-- the newest of a log with one more entry
pub newest-pushed : {X : Type 0} (find_in : Changes → Option X) (spot : Spot) (log : List LogEntry) (entry : LogEntry)
    → newest find_in spot (reverse (log ++ entry ∷ []))
    ≡ option_or (said find_in spot entry) (newest find_in (stood spot entry) (reverse log))
unfolding newest
newest-pushed find_in spot log entry = rw (reverse-append log (entry ∷ [])) refl

-- the newest of a front of a log with one more entry
pub newest-next : {X : Type 0} (find_in : Changes → Option X) (spot : Spot) (log : List LogEntry) (n : ℕ) (d : LogEntry) → n < length log
    → newest find_in spot (reverse (take (suc n) log))
    ≡ option_or (said find_in spot (get_or log n d)) (newest find_in (stood spot (get_or log n d)) (reverse (take n log)))
newest-next find_in spot log n d within = rw (take-suc log n d within) (newest-pushed find_in spot (take n log) (get_or log n d))

-- one step back through the log
pub newest-step : {X : Type 0} (find_in : Changes → Option X) (spot : Spot) (log : List LogEntry) (at : ℕ) (entry : LogEntry) → 0 < at → at ≤ length log
    → entry ≡ get_or log (at - 1) entry
    → newest find_in spot (reverse (take at log))
    ≡ option_or (said find_in spot entry) (newest find_in (stood spot entry) (reverse (take (at - 1) log)))
newest-step find_in spot log zero entry positive within is = absurd (omega arith)
newest-step find_in spot log (suc n) entry positive within is =
    let down : suc n - 1 ≡ n = omega arith in
    let here : get_or log n entry ≡ entry = sym (ap (λ m. get_or log m entry) down) ∙ sym is in
    rw down (newest-next find_in spot log n entry (omega arith) ∙ rw here refl)

-- nothing is said before the log begins
pub newest-start : {X : Type 0} (find_in : Changes → Option X) (spot : Spot) (log : List LogEntry) (at : ℕ) → at ≤ 0
    → newest find_in spot (reverse (take at log)) ≡ None
unfolding newest
newest-start find_in spot log zero start = refl
newest-start find_in spot log (suc n) start = absurd (omega arith)

-- entries that pass change nothing
pub newest-passed : {X : Type 0} (find_in : Changes → Option X) (spot : Spot) (front after : List LogEntry) → All (Passes find_in spot) after
    → newest find_in spot (reverse (front ++ after)) ≡ newest find_in spot (reverse front)
newest-passed find_in spot front [] pass = ap (λ log. newest find_in spot (reverse log)) (append-nil front)
newest-passed find_in spot front (entry ∷ after) pass =
    let first = All-head (Passes find_in spot) entry after pass in
    let rest = All-tail (Passes find_in spot) entry after pass in
    ap (λ log. newest find_in spot (reverse log)) (sym (append_assoc front (entry ∷ []) after))
    ∙ newest-passed find_in spot (front ++ entry ∷ []) after rest
    ∙ newest-pushed find_in spot front entry
    ∙ rw (first.0, first.1) refl

-- the newest of a log behind one entry of which all pass
pub newest-at : {X : Type 0} (find_in : Changes → Option X) (spot : Spot) (before after : List LogEntry) (entry : LogEntry) → All (Passes find_in spot) after
    → newest find_in spot (reverse (before ++ entry ∷ after))
    ≡ option_or (said find_in spot entry) (newest find_in (stood spot entry) (reverse before))
newest-at find_in spot before after entry pass =
    ap (λ log. newest find_in spot (reverse log)) (sym (append_assoc before (entry ∷ []) after))
    ∙ newest-passed find_in spot (before ++ entry ∷ []) after pass
    ∙ newest-pushed find_in spot before entry

pub newest-said : {X : Type 0} (find_in : Changes → Option (Option X)) (spot : Spot) (before after : List LogEntry) (entry : LogEntry) (to : Option X)
    → said find_in spot entry ≡ Some to → All (Passes find_in spot) after
    → option_flatten (newest find_in spot (reverse (before ++ entry ∷ after))) ≡ to
newest-said find_in spot before after entry to is pass =
    let newest_is : newest find_in spot (reverse (before ++ entry ∷ after)) ≡ Some to = newest-at find_in spot before after entry pass ∙ rw is refl in
    ap option_flatten newest_is

pub newest-snapshot : {X : Type 0} (find_in : Changes → Option X) (head : ℕ) (part : List ℕ) (before after : List LogEntry)
    → All (Passes find_in (snap_spot head part)) after
    → newest find_in (snap_spot head part) (reverse (before ++ Snapshot head part ∷ after)) ≡ newest find_in (head_spot head) (reverse before)
newest-snapshot find_in head part before after pass =
    let here : is_snap head part (snap_spot head part) ≡ true = rw ((Decides-eqb head head).1 refl, (bytes_eq-Decides part part).1 refl) refl in
    newest-at find_in (snap_spot head part) before after (Snapshot head part) pass ∙ rw here refl

pub newest-clone : {X : Type 0} (find_in : Changes → Option X) (from : Spot) (head : ℕ) (before after : List LogEntry)
    → All (Passes find_in (head_spot head)) after
    → newest find_in (head_spot head) (reverse (before ++ Clone from head ∷ after)) ≡ newest find_in from (reverse before)
newest-clone find_in from head before after pass =
    let here : is_head head (head_spot head) ≡ true = rw ((Decides-eqb head head).1 refl) refl in
    newest-at find_in (head_spot head) before after (Clone from head) pass ∙ rw here refl

by_space : {P : Type 0} (b : Bool) → (b ≡ true → P) → (b ≡ false → P) → P
by_space true yes_case no_case = yes_case refl
by_space false yes_case no_case = no_case refl

-- a change of another head says nothing of a spot
said_nothing : {X : Type 0} (find_in : Changes → Option X) (spot : Spot) (found : Option Changes) (changes : Changes) → found ≡ Some changes
    → is_head changes.head spot ≡ false
    → option_and_then (λ changes. if is_head changes.head spot then find_in changes else None) found ≡ None
said_nothing find_in spot found changes is other = rw (is, other) refl

-- and doesn't make it
changes_stay : (spot : Spot) (entry : LogEntry) (changes : Changes) → changes_in entry ≡ Some changes → stood spot entry ≡ spot
changes_stay spot (Make head lengths refs) changes is = refl
changes_stay spot (Write head lengths refs) changes is = refl
changes_stay spot (Cut head lengths refs) changes is = refl
changes_stay spot (Remove head lengths refs) changes is = refl
changes_stay spot (Receive head lengths refs) changes is = refl
changes_stay spot (Snapshot head part) changes is = absurd (none_is_some is)
changes_stay spot (Clone from head) changes is = absurd (none_is_some is)
changes_stay spot (Read other) changes is = refl
changes_stay spot (Refused other why draws puts) changes is = refl

pub newest-other : {X : Type 0} (find_in : Changes → Option X) (spot : Spot) (log : List LogEntry) (entry : LogEntry) (changes : Changes)
    → changes_in entry ≡ Some changes → is_head changes.head spot ≡ false
    → newest find_in spot (reverse (log ++ entry ∷ [])) ≡ newest find_in spot (reverse log)
newest-other find_in spot log entry changes is other =
    newest-pushed find_in spot log entry
    ∙ rw (said_nothing find_in spot (changes_in entry) changes is other, changes_stay spot entry changes is) refl

-- a change that finds nothing says nothing
said_not : {X : Type 0} (find_in : Changes → Option X) (spot : Spot) (found : Option Changes) (changes : Changes) → found ≡ Some changes
    → find_in changes ≡ None
    → option_and_then (λ changes. if is_head changes.head spot then find_in changes else None) found ≡ None
said_not find_in spot found changes is none =
    by_space (is_head changes.head spot) (λ here. rw (is, here) none) (λ other. rw (is, other) refl)

pub newest-unsaid : {X : Type 0} (find_in : Changes → Option X) (spot : Spot) (log : List LogEntry) (entry : LogEntry) (changes : Changes)
    → changes_in entry ≡ Some changes → find_in changes ≡ None
    → newest find_in spot (reverse (log ++ entry ∷ [])) ≡ newest find_in spot (reverse log)
newest-unsaid find_in spot log entry changes is none =
    newest-pushed find_in spot log entry
    ∙ rw (said_not find_in spot (changes_in entry) changes is none, changes_stay spot entry changes is) refl

-- a hole, by the length alone
hole-said : (record_size object index : ℕ) (changes : Changes) (length_now : Option ℕ)
    → length_said object changes ≡ Some length_now → is_past record_size index length_now ≡ true → ref_listed object index changes ≡ None
    → ref_in record_size object index changes ≡ Some None
hole-said record_size object index changes length_now is past none = rw (none, is, past) refl

pub hole-behind : (record_size : ℕ) (before after : List LogEntry) (entry : LogEntry) (changes : Changes) (object index : ℕ)
    (length_now : Option ℕ) → changes_in entry ≡ Some changes → length_said object changes ≡ Some length_now
    → is_past record_size index length_now ≡ true → ref_listed object index changes ≡ None
    → All (Passes (ref_in record_size object index) (head_spot changes.head)) after
    → option_flatten (newest (ref_in record_size object index) (head_spot changes.head) (reverse (before ++ entry ∷ after))) ≡ None
hole-behind record_size before after entry changes object index length_now is length_is past none pass =
    let here : is_head changes.head (head_spot changes.head) ≡ true = rw ((Decides-eqb changes.head changes.head).1 refl) refl in
    newest-said (ref_in record_size object index) (head_spot changes.head) before after entry None
    (said-changed (ref_in record_size object index) (head_spot changes.head) changes entry is here
    ∙ hole-said record_size object index changes length_now length_is past none) pass

-- nothing is said by entries that all pass
pub newest-none : {X : Type 0} (find_in : Changes → Option X) (spot : Spot) (log : List LogEntry) → All (Passes find_in spot) log
    → newest find_in spot (reverse log) ≡ None
unfolding newest
newest-none find_in spot log pass = newest-passed find_in spot [] log pass

-- a note changes nothing of what the log tells
pub newest-noted : {X : Type 0} (find_in : Changes → Option X) (spot of_note : Spot) (what : ReadNote) (log : List LogEntry)
    → newest find_in spot (reverse (log ++ noted of_note what ∷ [])) ≡ newest find_in spot (reverse log)
newest-noted find_in spot of_note notes.Read log = newest-pushed find_in spot log (Read of_note)
newest-noted find_in spot of_note (notes.Refused why draws puts) log = newest-pushed find_in spot log (Refused of_note why draws puts)
