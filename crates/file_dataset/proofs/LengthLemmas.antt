-- A change that is made of a draft gives the head the objects and lengths that the log tells with its entry.
use Rattle.std.proofs.Common.{◌≡◌, ℕ, ◌==◌, ◌<◌, ◌≤◌, ◌+◌, Bool, true, false, not, List, [], ◌∷◌, ◌++◌, length, refl, sym, ap, subst, ◌∙◌, arith, Option, Some, None, is_some, if◌then◌else◌}
use Rattle.std.specs.List.{find}
use Rattle.std.specs.Option.{option_and_then, option_flatten, option_map, option_map_or, option_or}
use Rattle.std.proofs.lemmas.Bool.{eq-eqb, eqb-true, ne_eqb}
use Rattle.std.proofs.lemmas.List.Elements.{All-nil}
use Rattle.std.proofs.lemmas.List.Folds.{find-append}
use Rattle.family_log.specs.declared.entry.HeadChange.{HeadChange}
use Rattle.family_log.specs.declared.entry.LengthAt.{LengthAt}
use Rattle.family_log.specs.declared.entry.LogEntry.{LogEntry}
use Rattle.family_log.specs.declared.entry.RefAt.{RefAt}
use Rattle.family_log.specs.declared.table.Table.{Table}
use Rattle.family_log.specs.declared.table.TableRow.{TableRow}
use Rattle.family_log.specs.Calls.{IsChangeOf}
use Rattle.family_log.specs.Log.{Changes, Passes, changes_in, changed_head, head_spot, last_length, length_said, said}
use Rattle.family_log.specs.Model.{FamilyState}
use Rattle.family_log.specs.Tables.{IsTable, length_in}
use Rattle.family_log.proofs.LogLemmas.{newest-said, newest-unsaid, said-changed}
use Rattle.file_blocks.specs.declared.change.Wrote.{Wrote as Sealed}
use Rattle.file_blocks.specs.declared.object.Object.{Object}
use Rattle.file_blocks.specs.Objects.{IsObject}
use Rattle.file_dataset.specs.declared.edit.Draft.{Draft}
use Rattle.file_dataset.specs.declared.edit.Made.{Made}
use Rattle.file_dataset.specs.declared.kind.Kind.{Kind}
use Rattle.file_dataset.specs.declared.kind.Kind.TheVariants as kinds
use Rattle.file_dataset.specs.ChangeCalls.{IsEditOf}
use Rattle.file_dataset.specs.Changes.{empty_row, entry_of, greatest_object, put_row, refs_from, renewed, row_with, without_row}
use Rattle.file_dataset.specs.ChangeSteps.{IsDraft, IsMadeOf}
use Rattle.file_dataset.specs.Portable.{portable}
use Rattle.file_dataset.specs.Steps.{IsTableAt}
use Rattle.file_dataset.proofs.FormLemmas.{below_greatest, by_space, put_form, with_rows}

-- the length of an object in rows
abbrev pub length_of : (rows : List TableRow) → (object : ℕ) → Option ℕ
length_of rows object = option_map (λ row. row.length) (find (λ row. row.object == object) rows)

-- what the log is told of another object
abbrev pub other_said : Option LengthAt → (object : ℕ) → Option (Option ℕ)
other_said other object = option_and_then (λ at. if at.object == object then Some at.length else None) other

-- the rows of a draft are those of a table in form, with this object; another one has the length that is told, or
-- that which it had
pub record HasRows (table : Table) (object : ℕ) (rows : List TableRow) (other : Option LengthAt) : Type 0 where
  pub form : IsTable table.block (with_rows table rows)
  pub has : is_some (length_of rows object) ≡ true
  pub lengths : (o : ℕ) → (o == object) ≡ false → length_of rows o ≡ option_map_or (λ l. l) (other_said other o) (length_in table o)

-- ---- the row that is put

turned : (a b : ℕ) → (a == b) ≡ false → (b == a) ≡ false
turned a b is = ne_eqb b a (λ e. let same : (a == b) ≡ true = eq-eqb a b (sym e) in absurd (cc))

put_length : (object : ℕ) (made : Object) (rows : List TableRow) → is_some (length_of rows object) ≡ true
    → length_of (put_row (row_with object made) rows) object ≡ Some made.length
put_length object made [] has = absurd (cc)
put_length object made (row ∷ rows) has =
    by_space (row.object == object)
    (λ same. let here : (object == object) ≡ true = eq-eqb object object refl in rw (same, here) refl)
    (λ other. rw (other, other) (put_length object made rows (subst (λ (b : Bool).
    is_some (option_map (λ (r : TableRow). r.length) (if b then Some row else find (λ r. r.object == object) rows)) ≡ true) other has)))

put_others : (object o : ℕ) (made : Object) (rows : List TableRow) → (o == object) ≡ false
    → length_of (put_row (row_with object made) rows) o ≡ length_of rows o
put_others object o made [] other = refl
put_others object o made (row ∷ rows) other =
    by_space (row.object == object)
    (λ same.
    let e : row.object ≡ object = eqb-true row.object object same in
    let none : (object == o) ≡ false = turned o object other in
    let also : (row.object == o) ≡ false = rw e none in
    rw (same, none, also) (put_others object o made rows other))
    (λ beside. rw beside (by_space (row.object == o) (λ here. rw here refl) (λ apart. rw apart (put_others object o made rows other))))

-- ---- what the entry says

entry_head : (kind : Kind) (head : ℕ) (lengths : List LengthAt) (refs : List RefAt)
    → changes_in (entry_of kind head lengths refs) ≡ Some (record { head = head; lengths = lengths; refs = refs })
entry_head kinds.Make head lengths refs = refl
entry_head kinds.Write head lengths refs = refl
entry_head kinds.Cut head lengths refs = refl
entry_head kinds.Remove head lengths refs = refl

abbrev told_lengths : (object : ℕ) → (bytes : ℕ) → Option LengthAt → List LengthAt
told_lengths object bytes other = record { object = object; length = Some bytes } ∷ option_map_or (λ more. more ∷ []) other []

said_own : (head object bytes : ℕ) (other : Option LengthAt) (refs : List RefAt)
    → length_said object (record { head = head; lengths = told_lengths object bytes other; refs = refs }) ≡ Some (Some bytes)
said_own head object bytes other refs = let here : (object == object) ≡ true = eq-eqb object object refl in rw here refl

said_other : (head object o bytes : ℕ) (other : Option LengthAt) (refs : List RefAt) → (o == object) ≡ false
    → length_said o (record { head = head; lengths = told_lengths object bytes other; refs = refs }) ≡ other_said other o
said_other head object o bytes None refs apart = let none : (object == o) ≡ false = turned o object apart in rw none refl
said_other head object o bytes (Some at) refs apart =
    let none : (object == o) ≡ false = turned o object apart in
    rw none (by_space (at.object == o) (λ here. rw here refl) (λ beside. rw beside refl))

-- the log with an entry of a head tells of the head what the entry says, and else what it told
told_by : (log : List LogEntry) (entry : LogEntry) (changes : Changes) (o : ℕ) (says : Option (Option ℕ)) → changes_in entry ≡ Some changes
    → length_said o changes ≡ says
    → last_length (log ++ entry ∷ []) (head_spot changes.head) o ≡ option_map_or (λ l. l) says (last_length log (head_spot changes.head) o)
told_by log entry changes o None is none =
    ap option_flatten (newest-unsaid (length_said o) (head_spot changes.head) log entry changes is none)
told_by log entry changes o (Some now) is some =
    let here : (changes.head == changes.head) ≡ true = eq-eqb changes.head changes.head refl in
    newest-said (length_said o) (head_spot changes.head) log [] entry now
    (said-changed (length_said o) (head_spot changes.head) changes entry is (rw here refl) ∙ some)
    (All-nil (Passes (length_said o) (head_spot changes.head)))

-- ---- the change

module _ (kind : Kind) (hmac_key : List ℕ) (head object : ℕ) (rows : List TableRow) (other : Option LengthAt) (table : Table)
    (old : FamilyState) where
  made_lengths : (made : Object) (refs : List RefAt) (o : ℕ) → IsTableAt old (head_spot head) table → HasRows table object rows other
      → length_of (put_row (row_with object made) rows) o
      ≡ last_length (old.log ++ entry_of kind head (told_lengths object made.length other) refs ∷ []) (head_spot head) o
  made_lengths made refs o at has =
      let changes : Changes = record { head = head; lengths = told_lengths object made.length other; refs = refs } in
      let entry = entry_of kind head (told_lengths object made.length other) refs in
      by_space (o == object)
      (λ same.
      let e : o ≡ object = eqb-true o object same in
      rw e (put_length object made rows has.has
      ∙ sym (told_by old.log entry changes object (Some (Some made.length)) (entry_head kind head (told_lengths object made.length other) refs)
      (said_own head object made.length other refs))))
      (λ apart.
      put_others object o made rows apart ∙ has.lengths o apart
      ∙ ap (λ (l : Option ℕ). option_map_or (λ l. l) (other_said other o) l) (at.lengths o)
      ∙ sym (told_by old.log entry changes o (other_said other o) (entry_head kind head (told_lengths object made.length other) refs)
      (said_other head object o made.length other refs apart)))

  -- what is made of a draft with blocks in form is an edit of the head
  pub makes_edits : (draft : Draft) → 512 ≤ table.block → IsTableAt old (head_spot head) table → HasRows table object rows other
      → IsDraft kind object rows other draft → (wrote : Sealed) (made : Made) → IsMadeOf hmac_key head table draft wrote made
      → IsObject table.block wrote.object → IsEditOf hmac_key old head made.change
  makes_edits draft wide at has of_draft wrote made of_made object_form =
      let new_table : made.change.table ≡ renewed hmac_key (with_rows table (put_row (row_with object wrote.object) rows)) =
      of_made.0 ∙ rw (of_draft.1, of_draft.2) refl in
      let refs : List RefAt = refs_from object wrote.first wrote.refs.items in
      let new_entry : made.change.entry ≡ entry_of kind head (told_lengths object wrote.object.length other) refs =
      of_made.1 ∙ rw (of_draft.0, of_draft.1, of_draft.3) refl in
      record {
        told = record {
          of_head = rw (new_entry, entry_head kind head (told_lengths object wrote.object.length other) refs) refl;
          table =
              let form = put_form table.block table rows object wrote.object wide object_form has.form in
              rw (new_table, sym at.record_size)
              (record { block = form.block; count = form.count; first = form.first; rising = form.rising; rows = form.rows });
          lengths = λ o. rw (new_table, new_entry) (made_lengths wrote.object refs o at has);
        };
        portable = rw new_table refl;
      }
