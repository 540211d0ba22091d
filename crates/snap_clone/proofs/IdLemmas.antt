-- Ids of heads: those above all that a family knows are new.
use Rattle.std.proofs.Common.{◌≡◌, ℕ, ◌<◌, ◌≤◌, zero, suc, Bool, true, false, not, List, [], ◌∷◌, ◌++◌, get_or, Option, Some, None, refl, sym, subst, arith}
use Rattle.std.specs.Prelude.{◌==◌, is_none}
use Rattle.std.specs.List.{All}
use Rattle.std.specs.Option.{option_map_or}
use Rattle.std.proofs.lemmas.Bool.Decides.{nat_tests}
use Rattle.std.proofs.lemmas.List.Elements.{All-append, All-cons, All-filter, All-head, All-push, All-tail}
use Rattle.salt_rotation.specs.SaltState.{SaltState}
use Rattle.family_log.specs.declared.table.Table.{Table}
use Rattle.family_log.specs.declared.head.Head.{Head}
use Rattle.family_log.specs.declared.entry.ReadNote.{ReadNote}
use Rattle.family_log.specs.declared.entry.ReadNote.TheVariants as notes
use Rattle.family_log.specs.declared.entry.Spot.{Spot}
use Rattle.family_log.specs.declared.entry.LogEntry.{LogEntry}
use Rattle.family_log.specs.declared.entry.LogEntry.TheVariants.{Make, Write, Cut, Remove, Receive, Snapshot, Clone, Read, Refused}
use Rattle.family_log.specs.Tables.{fresh_table}
use Rattle.family_log.specs.Log.{changed_head}
use Rattle.family_log.specs.Model.{FamilyState, fresh_family, head_of, table_of}
use Rattle.family_log.specs.Calls.{given, with_head}
use Rattle.family_log.specs.Noted.{noted}
use Rattle.family_log.specs.Snapshots.{IsNewHead, clone_of, names_head, with_snapshot, without_snapshot}
use Rattle.family_log.proofs.SpotLemmas.{id_stays, spot_at}
use Rattle.snap_clone.specs.Answers.{spot_removed}
use Rattle.snap_clone.specs.Acts.{Act, Change, Note, Lend, MakeSnapshot, MakeClone, DropHead, DropSnapshot, IsDone, done}
use Rattle.snap_clone.specs.Ids.{ActsUpTo, IsUpTo, head_in}
use Rattle.snap_clone.proofs.ActLemmas.{by_space}

-- ---- above all that is known

apart : (a last id : ℕ) → a ≤ last → last < id → (a == id) ≡ false
apart a last id below above = grind (arith, nat_tests)

unnamed : (entry : LogEntry) (last id : ℕ) → head_in entry ≤ last → last < id → names_head id entry ≡ false
unnamed (Make head lengths refs) last id below above = apart head last id below above
unnamed (Write head lengths refs) last id below above = apart head last id below above
unnamed (Cut head lengths refs) last id below above = apart head last id below above
unnamed (Remove head lengths refs) last id below above = apart head last id below above
unnamed (Receive head lengths refs) last id below above = apart head last id below above
unnamed (Snapshot head part) last id below above = apart head last id below above
unnamed (Clone from head) last id below above = apart head last id below above
unnamed (Read spot) last id below above = apart spot.head last id below above
unnamed (Refused spot why draws puts) last id below above = apart spot.head last id below above

no_head : (heads : List Head) (last id : ℕ) → All (λ (head : Head). head.id ≤ last) heads → last < id → is_none (head_of id heads) ≡ true
no_head [] last id below above = refl
no_head (head ∷ heads) last id below above =
    rw (apart head.id last id (All-head (λ (head : Head). head.id ≤ last) head heads below) above)
    (no_head heads last id (All-tail (λ (head : Head). head.id ≤ last) head heads below) above)

pub is_new : (family : FamilyState) (last id : ℕ) → IsUpTo last family → last < id → IsNewHead id family
is_new family last id below above = record {
  absent = no_head family.heads last id below.heads above;
  never = λ k d within. unnamed (get_or family.log k d) last id (below.entries k d within) above;
}

-- ---- what is done

changed_ids : (last id : ℕ) (change : Head → Head) (heads : List Head) → ((head : Head) → (change head).id ≡ head.id)
    → All (λ (head : Head). head.id ≤ last) heads → All (λ (head : Head). head.id ≤ last) (with_head id change heads)
changed_ids last id change [] keeps below = below
changed_ids last id change (head ∷ heads) keeps below =
    let first : head.id ≤ last = All-head (λ (head : Head). head.id ≤ last) head heads below in
    let later = All-tail (λ (head : Head). head.id ≤ last) head heads below in
    by_space (head.id == id)
    (λ found. rw found (All-cons (λ (head : Head). head.id ≤ last) (change head) heads (subst (λ (n : ℕ). n ≤ last) (sym (keeps head)) first) later))
    (λ beside. rw beside (All-cons (λ (head : Head). head.id ≤ last) head (with_head id change heads) first (changed_ids last id change heads keeps later)))

of_head : (entry : LogEntry) (head : ℕ) → changed_head entry ≡ Some head → head_in entry ≡ head
of_head (Make id lengths refs) head is = cc
of_head (Write id lengths refs) head is = cc
of_head (Cut id lengths refs) head is = cc
of_head (Remove id lengths refs) head is = cc
of_head (Receive id lengths refs) head is = cc
of_head (Snapshot id part) head is = cc
of_head (Clone from id) head is = cc
of_head (Read spot) head is = cc
of_head (Refused spot why draws puts) head is = cc

of_note : (spot : Spot) (what : ReadNote) → head_in (noted spot what) ≡ spot.head
of_note spot notes.Read = refl
of_note spot (notes.Refused why draws puts) = refl

more : (last : ℕ) (log : List LogEntry) (entry : LogEntry) → All (λ entry. head_in entry ≤ last) log → head_in entry ≤ last
    → All (λ entry. head_in entry ≤ last) (log ++ entry ∷ [])
more last log entry below within = All-push (λ entry. head_in entry ≤ last) log entry below within

cloned_id : (last id : ℕ) (found : Option Table) → id ≤ last → All (λ (head : Head). head.id ≤ last) (option_map_or (λ table. clone_of id table ∷ []) found [])
cloned_id last id None within k d at = absurd (omega arith)
cloned_id last id (Some table) within zero d at = within
cloned_id last id (Some table) within (suc k) d at = absurd (omega arith)

spot_gone : (last : ℕ) (family : FamilyState) (id : ℕ) (snap : Option (List ℕ)) → IsUpTo last family
    → IsUpTo last (spot_removed (spot_at id snap) family)
spot_gone last family id None below = below
spot_gone last family id (Some part) below = record {
  heads = changed_ids last id (without_snapshot part) family.heads (λ head. id_stays part head) below.heads;
  entries = below.entries;
}

pub up_to_still : (act : Act) (family : FamilyState) (last : ℕ) → IsUpTo last family → IsDone act family → ActsUpTo last act
    → IsUpTo last (done act family)
up_to_still (Change head change) family last below is_done within = record {
  heads = changed_ids last head (given change.table) family.heads (λ of_id. refl) below.heads;
  entries = more last family.log change.entry below.entries
      (subst (λ (n : ℕ). n ≤ last) (sym (of_head change.entry head is_done.of_head)) within);
}
up_to_still (Note spot what) family last below is_done within = record {
  heads = below.heads;
  entries = more last family.log (noted spot what) below.entries (subst (λ (n : ℕ). n ≤ last) (sym (of_note spot what)) within);
}
up_to_still (Lend salts shelf) family last below is_done within = record { heads = below.heads; entries = below.entries }
up_to_still (MakeSnapshot head part guid) family last below is_done within = record {
  heads = changed_ids last head (with_snapshot part guid) family.heads (λ of_id. refl) below.heads;
  entries = more last family.log (Snapshot head part) below.entries within;
}
up_to_still (MakeClone from head) family last below is_done within = record {
  heads = All-append (λ (head : Head). head.id ≤ last) family.heads (option_map_or (λ table. clone_of head table ∷ []) (table_of from family.heads) [])
      below.heads (cloned_id last head (table_of from family.heads) within);
  entries = more last family.log (Clone from head) below.entries within;
}
up_to_still (DropHead head) family last below is_done within = record {
  heads = All-filter (λ (found : Head). not (found.id == head)) (λ (head : Head). head.id ≤ last) family.heads below.heads;
  entries = below.entries;
}
up_to_still (DropSnapshot spot) family last below is_done within = spot_gone last family spot.head spot.snap below

le_then : (a b c : ℕ) → a ≤ b → b ≤ c → a ≤ c
le_then a b c first next = omega arith

pub up_to_more : (family : FamilyState) (last later : ℕ) → IsUpTo last family → last ≤ later → IsUpTo later family
up_to_more family last later below above = record {
  heads = λ k d within. le_then (get_or family.heads k d).id last later (below.heads k d within) above;
  entries = λ k d within. le_then (head_in (get_or family.log k d)) last later (below.entries k d within) above;
}

lone : {X : Type 0} (P : X → Type 0) (x : X) → P x → All P (x ∷ [])
lone P x is zero d within = is
lone P x is (suc k) d within = absurd (omega arith)

pub fresh_up_to : (tells : Bool) (guid block : ℕ) (salts : SaltState) (room head : ℕ) (portable : List ℕ)
    → IsUpTo head (fresh_family tells guid block salts room head portable)
fresh_up_to tells guid block salts room head portable =
    let family = fresh_family tells guid block salts room head portable in
    let at_most : head ≤ head = omega arith in
    record {
      heads = lone (λ (found : Head). found.id ≤ head) (get_or family.heads 0 (clone_of head (fresh_table block portable))) at_most;
      entries = lone (λ (entry : LogEntry). head_in entry ≤ head) (get_or family.log 0 (Read (spot_at head None))) at_most;
    }
