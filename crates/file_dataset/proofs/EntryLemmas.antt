-- What the log tells of a head with the entry of a change of it.
use Rattle.std.proofs.Common.{◌≡◌, ◌≢◌, ℕ, zero, suc, ◌+◌, ◌-◌, ◌<◌, ◌≤◌, Bool, true, false, ◌==◌, ◌&&◌, nat_le, nat_lt, if◌then◌else◌, List, [], ◌∷◌, ◌++◌, length, Option, Some, None, refl, sym, ap, ◌∙◌, inl, inr, arith}
use Rattle.std.specs.Prelude.{◌⊎◌, slice_index_or}
use Rattle.std.specs.List.{find}
use Rattle.std.specs.Option.{option_and_then, option_flatten, option_map, option_map_or, option_or}
use Rattle.std.proofs.lemmas.Bool.{cases_lt}
use Rattle.std.proofs.lemmas.Bool.Decides.{Decides-eqb, nat_tests}
use Rattle.std.proofs.lemmas.List.Elements.{All-nil}
use Rattle.indirect_macs.specs.declared.refs.BlockRef.{BlockRef}
use Rattle.family_log.specs.declared.entry.LengthAt.{LengthAt}
use Rattle.family_log.specs.declared.entry.LogEntry.{LogEntry}
use Rattle.family_log.specs.declared.entry.RefAt.{RefAt}
use Rattle.family_log.specs.Log.{Changes, Passes, changes_in, head_spot, hole_said, is_head, is_past, last_length, last_ref, length_said, ref_in, ref_listed, said}
use Rattle.family_log.specs.Tables.{blocks_of}
use Rattle.family_log.proofs.LogLemmas.{newest-said, newest-unsaid, said-changed}
use Rattle.file_blocks.specs.declared.object.Object.{Object}
use Rattle.file_dataset.specs.Changes.{Edit, entry_of, lengths_with, refs_from}
use Rattle.file_dataset.specs.declared.kind.Kind.{Kind}
use Rattle.file_dataset.specs.declared.kind.Kind.TheVariants as kinds
use Rattle.file_dataset.proofs.FileLists.{by_space}

-- ---- an entry, by what it says

changes_are : (kind : Kind) (head : ℕ) (lengths : List LengthAt) (refs : List RefAt)
    → changes_in (entry_of kind head lengths refs) ≡ Some (record { head = head; lengths = lengths; refs = refs })
changes_are kinds.Make head lengths refs = refl
changes_are kinds.Write head lengths refs = refl
changes_are kinds.Cut head lengths refs = refl
changes_are kinds.Remove head lengths refs = refl

module _ (log : List LogEntry) (kind : Kind) (head : ℕ) (lengths : List LengthAt) (refs : List RefAt) where
  abbrev new_log : List LogEntry
  new_log = log ++ entry_of kind head lengths refs ∷ []

  abbrev changes : Changes
  changes = record { head = head; lengths = lengths; refs = refs }

  said_is : {X : Type 0} (find_in : Changes → Option X) → said find_in (head_spot head) (entry_of kind head lengths refs) ≡ find_in changes
  said_is find_in =
      let here : is_head head (head_spot head) ≡ true = rw ((Decides-eqb head head).1 refl) refl in
      said-changed find_in (head_spot head) changes (entry_of kind head lengths refs) (changes_are kind head lengths refs) here

  length_told : (object : ℕ) (now : Option ℕ) → length_said object changes ≡ Some now → last_length new_log (head_spot head) object ≡ now
  length_told object now is =
      newest-said (length_said object) (head_spot head) log [] (entry_of kind head lengths refs) now (said_is (length_said object) ∙ is)
      (All-nil (Passes (length_said object) (head_spot head)))

  length_untold : (object : ℕ) → length_said object changes ≡ None → last_length new_log (head_spot head) object ≡ last_length log (head_spot head) object
  length_untold object none =
      ap option_flatten (newest-unsaid (length_said object) (head_spot head) log (entry_of kind head lengths refs) changes (changes_are kind head lengths refs) none)

  ref_told : (record_size object index : ℕ) (to : Option BlockRef) → ref_in record_size object index changes ≡ Some to
      → last_ref record_size new_log (head_spot head) object index ≡ to
  ref_told record_size object index to is =
      newest-said (ref_in record_size object index) (head_spot head) log [] (entry_of kind head lengths refs) to (said_is (ref_in record_size object index) ∙ is)
      (All-nil (Passes (ref_in record_size object index) (head_spot head)))

  ref_untold : (record_size object index : ℕ) → ref_in record_size object index changes ≡ None
      → last_ref record_size new_log (head_spot head) object index ≡ last_ref record_size log (head_spot head) object index
  ref_untold record_size object index none =
      ap option_flatten
      (newest-unsaid (ref_in record_size object index) (head_spot head) log (entry_of kind head lengths refs) changes (changes_are kind head lengths refs) none)

-- ---- the listed references

pub other_number : (a b : ℕ) → a ≢ b → (a == b) ≡ false
other_number a b other = by_space (a == b) (λ same. absurd (other ((Decides-eqb a b).0 same))) (λ apart. apart)

pub same_number : (a : ℕ) → (a == a) ≡ true
same_number a = (Decides-eqb a a).1 refl

-- what is listed for a place
abbrev found_at : (object index : ℕ) → List RefAt → Option (Option BlockRef)
found_at object index listed = option_map (λ ref. ref.to) (find (λ ref. ref.object == object && ref.index == index) listed)

listed_in : (object first index : ℕ) (refs : List (Option BlockRef)) → first ≤ index → index < first + length refs
    → found_at object index (refs_from object first refs) ≡ Some (slice_index_or refs (index - first) None)
unfolding refs_from
listed_in object first index [] low high = absurd (omega (arith, low, high))
listed_in object first index (to ∷ rest) low high =
    by_space (first == index)
    (λ here. let same : first ≡ index = (Decides-eqb first index).0 here in
    let none : index - first ≡ 0 = omega (arith, same) in
    rw (same_number object, here, none) refl)
    (λ other. let apart : first ≢ index = λ same. absurd (unlike index (rw same at other)) in
    let later : first + 1 ≤ index = omega (arith, low, apart) in
    let place : index - first ≡ suc (index - (first + 1)) = omega (arith, later) in
    rw (other, place) (both_false (object == object) (listed_in object (first + 1) index rest later (omega (arith, high)))))
  where
    unlike : (i : ℕ) → (i == i) ≡ false → ⊥
    unlike i is = let e = same_number i in cc

    both_false : (b : Bool) → found_at object index (refs_from object (first + 1) rest) ≡ Some (slice_index_or rest (index - (first + 1)) None)
        → option_map (λ ref. ref.to) (if b && false then Some (record { object = object; index = first; to = to })
        else find (λ ref. ref.object == object && ref.index == index) (refs_from object (first + 1) rest))
        ≡ Some (slice_index_or rest (index - (first + 1)) None)
    both_false true is = is
    both_false false is = is

listed_out : (object first index : ℕ) (refs : List (Option BlockRef)) → (index < first) ⊎ (first + length refs ≤ index)
    → found_at object index (refs_from object first refs) ≡ None
unfolding refs_from
listed_out object first index [] out = refl
listed_out object first index (to ∷ rest) out =
    let other : (first == index) ≡ false = other_number first index (λ same. apart out same) in
    rw other (both_false (object == object) (listed_out object (first + 1) index rest (further out)))
  where
    apart : (index < first) ⊎ (first + suc (length rest) ≤ index) → first ≡ index → ⊥
    apart (inl before) same = omega (arith, before, same)
    apart (inr behind) same = omega (arith, behind, same)

    further : (index < first) ⊎ (first + suc (length rest) ≤ index) → (index < first + 1) ⊎ (first + 1 + length rest ≤ index)
    further (inl before) = inl (omega (arith, before))
    further (inr behind) = inr (omega (arith, behind))

    both_false : (b : Bool) → found_at object index (refs_from object (first + 1) rest) ≡ None
        → option_map (λ ref. ref.to) (if b && false then Some (record { object = object; index = first; to = to })
        else find (λ ref. ref.object == object && ref.index == index) (refs_from object (first + 1) rest))
        ≡ None
    both_false true is = is
    both_false false is = is

listed_other : (object other first index : ℕ) (refs : List (Option BlockRef)) → other ≢ object → found_at other index (refs_from object first refs) ≡ None
unfolding refs_from
listed_other object other first index [] apart = refl
listed_other object other first index (to ∷ rest) apart =
    rw (other_number object other (λ same. apart (sym same))) (listed_other object other (first + 1) index rest apart)

-- ---- the entry of an edit

-- what an edit tells of the length of another object than its own
abbrev pub told_other : Option LengthAt → (object : ℕ) → Option (Option ℕ)
told_other other object = option_and_then (λ at. if at.object == object then Some at.length else None) other

pub outside : (a b c : ℕ) → (nat_le a c && nat_lt c b) ≡ false → (c < a) ⊎ (b ≤ c)
outside a b c out =
    elim (cases_lt c a) [
      | inl before ↦ inl before
      | inr low ↦
          elim (cases_lt c b) [
            | inl inside ↦
                let one : nat_le a c ≡ true = grind (arith, nat_tests) in
                let other : nat_lt c b ≡ true = grind (arith, nat_tests) in
                absurd (let e = rw (one, other) at out in cc)
            | inr behind ↦ inr behind
          ]
    ]

inside_low : (a b c : ℕ) → (nat_le a c && nat_lt c b) ≡ true → a ≤ c
inside_low a b c is = by_space (nat_le a c) (λ low. grind (arith, nat_tests)) (λ none. absurd (let e = rw none at is in cc))

inside_high : (a b c : ℕ) → (nat_le a c && nat_lt c b) ≡ true → c < b
inside_high a b c is =
    by_space (nat_lt c b) (λ high. grind (arith, nat_tests))
    (λ none. by_space (nat_le a c) (λ low. absurd (let e = rw (low, none) at is in cc)) (λ no_low. absurd (let e = rw no_low at is in cc)))

module _ (log : List LogEntry) (kind : Kind) (head : ℕ) (e : Edit) (made : Object) (refs : List (Option BlockRef)) where
  abbrev pub edit_log : List LogEntry
  edit_log = log ++ entry_of kind head (lengths_with e made) (refs_from e.object e.change.first refs) ∷ []

  abbrev told : Changes
  told = record { head = head; lengths = lengths_with e made; refs = refs_from e.object e.change.first refs }

  own_length_said : length_said e.object told ≡ Some (Some made.length)
  own_length_said = rw (same_number e.object) refl

  other_length_said : (object : ℕ) → object ≢ e.object → length_said object told ≡ told_other e.other object
  other_length_said object apart = rw (other_number e.object object (λ same. apart (sym same))) (by_other e.other)
    where
      by_other : (other : Option LengthAt)
          → option_map (λ change. change.length) (find (λ change. change.object == object) (option_map_or (λ at. at ∷ []) other []))
          ≡ told_other other object
      by_other None = refl
      by_other (Some at) = by_space (at.object == object) (λ here. rw here refl) (λ off. rw off refl)

  pub own_length : last_length edit_log (head_spot head) e.object ≡ Some made.length
  own_length = length_told log kind head (lengths_with e made) (refs_from e.object e.change.first refs) e.object (Some made.length) own_length_said

  pub told_length : (object : ℕ) (now : Option ℕ) → object ≢ e.object → told_other e.other object ≡ Some now
      → last_length edit_log (head_spot head) object ≡ now
  told_length object now apart is =
      length_told log kind head (lengths_with e made) (refs_from e.object e.change.first refs) object now (other_length_said object apart ∙ is)

  pub other_length : (object : ℕ) → object ≢ e.object → told_other e.other object ≡ None
      → last_length edit_log (head_spot head) object ≡ last_length log (head_spot head) object
  other_length object apart none =
      length_untold log kind head (lengths_with e made) (refs_from e.object e.change.first refs) object (other_length_said object apart ∙ none)

  pub own_ref : (record_size index : ℕ) → last_ref record_size edit_log (head_spot head) e.object index
      ≡ (if nat_le e.change.first index && nat_lt index (e.change.first + length refs)
      then slice_index_or refs (index - e.change.first) None
      else (if nat_le (blocks_of record_size made.length) index then None else last_ref record_size log (head_spot head) e.object index))
  own_ref record_size index =
      by_space (nat_le e.change.first index && nat_lt index (e.change.first + length refs))
      (λ within. rw within (ref_told log kind head (lengths_with e made) (refs_from e.object e.change.first refs) record_size e.object index
      (slice_index_or refs (index - e.change.first) None)
      (listed (inside_low e.change.first (e.change.first + length refs) index within) (inside_high e.change.first (e.change.first + length refs) index within))))
      (λ out. rw out (by_space (nat_le (blocks_of record_size made.length) index)
      (λ past. rw past (ref_told log kind head (lengths_with e made) (refs_from e.object e.change.first refs) record_size e.object index None
      (hole (outside e.change.first (e.change.first + length refs) index out) past)))
      (λ short. rw short (ref_untold log kind head (lengths_with e made) (refs_from e.object e.change.first refs) record_size e.object index
      (none (outside e.change.first (e.change.first + length refs) index out) short)))))
    where
      listed : e.change.first ≤ index → index < e.change.first + length refs → ref_in record_size e.object index told ≡ Some (slice_index_or refs (index - e.change.first) None)
      listed low high = rw (listed_in e.object e.change.first index refs low high) refl

      hole : (index < e.change.first) ⊎ (e.change.first + length refs ≤ index) → nat_le (blocks_of record_size made.length) index ≡ true
          → ref_in record_size e.object index told ≡ Some None
      hole off past = rw (listed_out e.object e.change.first index refs off, own_length_said, past) refl

      none : (index < e.change.first) ⊎ (e.change.first + length refs ≤ index) → nat_le (blocks_of record_size made.length) index ≡ false
          → ref_in record_size e.object index told ≡ None
      none off short = rw (listed_out e.object e.change.first index refs off, own_length_said, short) refl

  pub told_ref : (record_size object index : ℕ) (now : Option ℕ) → object ≢ e.object → told_other e.other object ≡ Some now
      → is_past record_size index now ≡ true → last_ref record_size edit_log (head_spot head) object index ≡ None
  told_ref record_size object index now apart is past =
      ref_told log kind head (lengths_with e made) (refs_from e.object e.change.first refs) record_size object index None
      (rw (listed_other e.object object e.change.first index refs apart, other_length_said object apart, is, past) refl)

  pub other_ref : (record_size object index : ℕ) → object ≢ e.object → told_other e.other object ≡ None
      → last_ref record_size edit_log (head_spot head) object index ≡ last_ref record_size log (head_spot head) object index
  other_ref record_size object index apart none =
      ref_untold log kind head (lengths_with e made) (refs_from e.object e.change.first refs) record_size object index
      (rw (listed_other e.object object e.change.first index refs apart, other_length_said object apart, none) refl)
