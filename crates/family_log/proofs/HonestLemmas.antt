-- A fresh family stands on an honest shelf.
use Rattle.std.proofs.Common.{◌≡◌, ℕ, Bool, true, false, List, [], ◌∷◌, ◌++◌, length, length-append, ◌<◌, Option, Some, None, Ok, IfSome, refl, ap, sym, ◌∙◌, subst, arith}
use Rattle.std.specs.Prelude.{◌==◌, IsTrue, nat_lt, nat_le}
use Rattle.std.specs.Option.{option_flatten}
use Rattle.std.proofs.lemmas.Bool.Decides.{nat_tests}
use Rattle.indirect_macs.specs.Walk.{walk}
use Rattle.indirect_macs.specs.Runs.{walk_to}
use Rattle.salt_rotation.specs.SaltState.{SaltState}
use Rattle.family_log.specs.declared.table.Table.{Table}
use Rattle.family_log.specs.declared.head.Head.{Head}
use Rattle.family_log.specs.declared.entry.Spot.{Spot}
use Rattle.family_log.specs.declared.entry.LogEntry.{LogEntry}
use Rattle.family_log.specs.declared.entry.LogEntry.TheVariants.{Make}
use Rattle.family_log.specs.Tables.{blocks_of, fresh_table, length_in}
use Rattle.family_log.specs.Log.{KeepsLast, head_spot, length_said, ref_in, last_ref, last_length, newest, is_head}
use Rattle.family_log.specs.Model.{FamilyState, HasLengths, IsFamily, fresh_family, table_of}
use Rattle.family_log.specs.declared.entry.ReadNote.{ReadNote}
use Rattle.family_log.specs.Noted.{noted}
use Rattle.family_log.specs.Calls.{with_entry}
use Rattle.family_log.proofs.LogLemmas.{newest-noted}
use Rattle.family_log.proofs.ToldLemmas.{GoesAlong, lengths-along, still_told, tells-along}
use Rattle.family_log.specs.Honest.{IsHonest, TellsTheLog, leads}

by_space : {P : Type 0} (b : Bool) → (b ≡ true → P) → (b ≡ false → P) → P
by_space true yes_case no_case = yes_case refl
by_space false yes_case no_case = no_case refl

none_is_some : {X : Type 0} {x : X} → None ≡ Some x → ⊥
none_is_some e = cc

-- the log of a fresh head
abbrev pub fresh_log : ℕ → List LogEntry
fresh_log head = Make head (record { object = 1; length = Some 0 } ∷ []) [] ∷ []

-- nothing is there but an empty directory
fresh_length : (head object record_size : ℕ) (portable : List ℕ) (spot : Spot) → is_head head spot ≡ true
    → length_in (fresh_table record_size portable) object ≡ last_length (fresh_log head) spot object
unfolding newest
fresh_length head object record_size portable spot here =
    by_space (1 == object) (λ first. rw (here, first) refl) (λ other. rw (here, other) refl)

fresh_ref : (record_size head object index : ℕ) (spot : Spot) → is_head head spot ≡ true
    → last_ref record_size (fresh_log head) spot object index ≡ None
unfolding newest
fresh_ref record_size head object index spot here =
    by_space (1 == object)
    (λ first. by_space (nat_le (blocks_of record_size 0) index) (λ past. rw (here, first, past) refl) (λ within. rw (here, first, within) refl))
    (λ other. rw (here, other) refl)

fresh_leads : (record_size : ℕ) (portable : List ℕ) (object index : ℕ) → leads [] (fresh_table record_size portable) object index ≡ Ok None
unfolding walk walk_to
fresh_leads record_size portable object index =
    by_space (1 == object)
    (λ first. by_space (nat_lt index 32) (λ within. rw (first, within) refl) (λ past. rw (first, past) refl))
    (λ other. rw other refl)

fresh_tells : (head record_size : ℕ) (portable : List ℕ) (spot : Spot) → is_head head spot ≡ true
    → TellsTheLog [] (fresh_log head) spot (fresh_table record_size portable)
fresh_tells head record_size portable spot here = record {
  refs = λ object index. fresh_leads record_size portable object index ∙ ap Ok (sym (fresh_ref record_size head object index spot here));
  ends = λ object index past. fresh_ref record_size head object index spot here;
}

noted_keeps : (log : List LogEntry) (of_note spot : Spot) (what : ReadNote) → KeepsLast log spot (log ++ noted of_note what ∷ []) spot
noted_keeps log of_note spot what = record {
  lengths = λ object. ap option_flatten (newest-noted (length_said object) spot of_note what log);
  refs = λ record_size object index. ap option_flatten (newest-noted (ref_in record_size object index) spot of_note what log);
}

abbrev fresh_heads : (head record_size : ℕ) → (portable : List ℕ) → List Head
fresh_heads head record_size portable = record { id = head; table = fresh_table record_size portable; parts = []; tables = [] } ∷ []

-- what is told of the table of a fresh head is told of each spot
fresh_told : (P : Spot → Table → Type 0) (head record_size : ℕ) (portable : List ℕ)
    → ((spot : Spot) → is_head head spot ≡ true → P spot (fresh_table record_size portable)) → (of_head : ℕ) (snap : Option (List ℕ))
    → let spot : Spot = record { head = of_head; snap = snap } in
    IfSome (table_of spot (fresh_heads head record_size portable)) (λ table. P spot table)
fresh_told P head record_size portable told of_head None =
    by_space (head == of_head)
    (λ found. let here : (of_head == head) ≡ true = grind (arith, nat_tests) in rw found (told (head_spot of_head) (rw here refl)))
    (λ other. rw other tt)
fresh_told P head record_size portable told of_head (Some part) =
    by_space (head == of_head) (λ found. rw found tt) (λ other. rw other tt)

-- the table of a fresh head has the lengths that its log gives
pub fresh_lengths : (head record_size : ℕ) (portable : List ℕ) (spot : Spot)
    → IfSome (table_of spot (fresh_heads head record_size portable)) (λ table. HasLengths (fresh_log head) spot table)
fresh_lengths head record_size portable spot =
    fresh_told (HasLengths (fresh_log head)) head record_size portable
    (λ of_head here. λ object. fresh_length head object record_size portable of_head here) spot.head spot.snap

-- a fresh family stands on an honest shelf
pub fresh_family-is_honest : (guid block : ℕ) (salts : SaltState) (room head : ℕ) (portable : List ℕ)
    → IsHonest (fresh_family true guid block salts room head portable)
fresh_family-is_honest guid block salts room head portable = record {
  blocks = [];
  placed = refl;
  held = refl;
  bytes = λ address stored is. absurd (none_is_some is);
  spots = λ spot. fresh_told (TellsTheLog [] (fresh_log head)) head block portable (λ of_head here. fresh_tells head block portable of_head here)
      spot.head spot.snap;
}

false_is_true : false ≡ true → ⊥
false_is_true e = cc

-- where the shelf tells its blocks
pub fresh_is_honest : (tells : Bool) (guid block : ℕ) (salts : SaltState) (room head : ℕ) (portable : List ℕ) (family : FamilyState)
    → family ≡ fresh_family tells guid block salts room head portable → IsTrue tells → IsHonest family
fresh_is_honest true guid block salts room head portable family is told =
    subst IsHonest (sym is) (fresh_family-is_honest guid block salts room head portable)
fresh_is_honest false guid block salts room head portable family is told = absurd (false_is_true told)

-- a note keeps what heads and snapshots have
pub told-noted : (P : List LogEntry → Spot → Table → Type 0) → GoesAlong P → (heads : List Head) (log : List LogEntry) (of_note : Spot) (what : ReadNote)
    → ((spot : Spot) → IfSome (table_of spot heads) (λ table. P log spot table))
    → (spot : Spot) → IfSome (table_of spot heads) (λ table. P (log ++ noted of_note what ∷ []) spot table)
told-noted P along heads log of_note what told spot =
    still_told P along log (log ++ noted of_note what ∷ []) spot (table_of spot heads) (noted_keeps log of_note spot what) (told spot)

pub IsHonest-noted : (family : FamilyState) (spot : Spot) (what : ReadNote) → IsHonest family → IsHonest (with_entry (noted spot what) family)
IsHonest-noted family of_note what honest = record {
  blocks = honest.blocks;
  placed = honest.placed;
  held = honest.held;
  bytes = honest.bytes;
  spots = told-noted (TellsTheLog honest.blocks) (tells-along honest.blocks) family.heads family.log of_note what honest.spots;
}

pub IsFamily-noted : (family : FamilyState) (spot : Spot) (what : ReadNote) → IsFamily family → length family.log < family.room
    → IsFamily (with_entry (noted spot what) family)
IsFamily-noted family of_note what kept left = record {
  record_size = kept.record_size;
  room_least = kept.room_least;
  room_most = kept.room_most;
  in_room = omega (arith, length-append family.log (noted of_note what ∷ []));
  tables = kept.tables;
  apart = kept.apart;
  few_snapshots = kept.few_snapshots;
  lengths = told-noted HasLengths lengths-along family.heads family.log of_note what kept.lengths;
}
