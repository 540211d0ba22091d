-- A directory with an entry more, and without one.
use Rattle.std.proofs.Common.{◌≡◌, ◌≢◌, ℕ, suc, ◌+◌, ◌==◌, Bool, true, false, not, cond, List, [], ◌∷◌, get_or, Option, Some, None, refl, sym, ap, ◌∙◌, arith}
use Rattle.std.specs.List.{All, AllPairs, filter, find, insert, prefix_len}
use Rattle.std.specs.Option.{option_map}
use Rattle.std.specs.Str.{bytes_eq}
use Rattle.std.proofs.lemmas.Bool.{iff_false}
use Rattle.std.proofs.lemmas.List.Elements.{All-cons, All-nil, All-head, All-tail, All-weaker, All-filter, filter_passes}
use Rattle.std.proofs.lemmas.List.Folds.{list_any_none}
use Rattle.std.proofs.lemmas.List.Kept.{AllPairs-cons, AllPairs-filter}
use Rattle.std.proofs.lemmas.Slice.Eq.{bytes_eq-Decides}
use Rattle.file_directory.specs.declared.directory.DirectoryEntry.{DirectoryEntry}
use Rattle.file_directory.specs.Entries.{stands_before, has_name, object_named, is_taken, with_entry, without_name}
use Rattle.file_directory.specs.Form.{IsEntry, IsDirectory, IsNew}
use Rattle.file_directory.proofs.OrderLemmas.{none_passes, stands_before-trans, stands_behind, pairs-head, pairs-tail}
use Rattle.file_directory.proofs.FormLemmas.{Rises, Differs, other_object, same_object}

-- ---- names

same_name : (a b : List ℕ) → bytes_eq a b ≡ true → a ≡ b
same_name a b h = (bytes_eq-Decides a b).0 h

other_name : (a b : List ℕ) → bytes_eq a b ≡ false → a ≢ b
other_name a b h = iff_false (bytes_eq-Decides a b) h

-- a name that isn't found is no entry's
no_object_no_name : (b : Bool) (entry : DirectoryEntry) (rest : Option DirectoryEntry)
    → option_map (λ (e : DirectoryEntry). e.object) (cond b (Some entry) rest) ≡ None
    → (b ≡ false) × (option_map (λ (e : DirectoryEntry). e.object) rest ≡ None)
no_object_no_name true entry rest none = absurd (cc)
no_object_no_name false entry rest none = (refl, none)

pub no_such_name : (name : List ℕ) (entries : List DirectoryEntry) → object_named name entries ≡ None → All (λ entry. entry.name ≢ name) entries
no_such_name name [] none = All-nil (λ (entry : DirectoryEntry). entry.name ≢ name)
no_such_name name (entry ∷ entries) none =
    let parts = no_object_no_name (has_name name entry) entry (find (has_name name) entries) none in
    All-cons (λ (e : DirectoryEntry). e.name ≢ name) entry entries (other_name entry.name name parts.0) (no_such_name name entries parts.1)

-- ---- with an entry

All-with : (P : DirectoryEntry → Type 0) (new : DirectoryEntry) (entries : List DirectoryEntry) → P new → All P entries → All P (with_entry new entries)
All-with P new [] good all = All-cons P new [] good all
All-with P new (entry ∷ entries) good all =
    let front : P entry = All-head P entry entries all in
    let rest : All P (with_entry new entries) = All-with P new entries good (All-tail P entry entries all) in
    elim (stands_before entry.name new.name) as (λ b. All P (cond b (entry ∷ with_entry new entries) (new ∷ entry ∷ entries))) [
      | true ↦ All-cons P entry (with_entry new entries) front rest
      | false ↦ All-cons P new (entry ∷ entries) good all
    ]

apart_with : (new : DirectoryEntry) (entries : List DirectoryEntry) → All (λ entry. entry.object ≢ new.object) entries → AllPairs Differs entries
    → AllPairs Differs (with_entry new entries)
apart_with new [] free pairs = AllPairs-cons Differs new [] (All-nil (Differs new)) pairs
apart_with new (entry ∷ entries) free pairs =
    let other : Differs entry new = All-head (λ (e : DirectoryEntry). e.object ≢ new.object) entry entries free in
    let others = All-tail (λ (e : DirectoryEntry). e.object ≢ new.object) entry entries free in
    let rest = apart_with new entries others (pairs-tail Differs entry entries pairs) in
    let before : All (Differs entry) (with_entry new entries) = All-with (Differs entry) new entries other (pairs-head Differs entry entries pairs) in
    let after : All (Differs new) (entry ∷ entries) = All-weaker (λ (e : DirectoryEntry). e.object ≢ new.object) (Differs new) (λ e h same. h (sym same)) (entry ∷ entries) free in
    elim (stands_before entry.name new.name) as (λ b. AllPairs Differs (cond b (entry ∷ with_entry new entries) (new ∷ entry ∷ entries))) [
      | true ↦ AllPairs-cons Differs entry (with_entry new entries) before rest
      | false ↦ AllPairs-cons Differs new (entry ∷ entries) after pairs
    ]

rising_with : (new : DirectoryEntry) (entries : List DirectoryEntry) → All (λ entry. entry.name ≢ new.name) entries → AllPairs Rises entries
    → AllPairs Rises (with_entry new entries)
rising_with new [] free pairs = AllPairs-cons Rises new [] (All-nil (Rises new)) pairs
rising_with new (entry ∷ entries) free pairs = placed (stands_before entry.name new.name) refl
    (rising_with new entries (All-tail (λ (e : DirectoryEntry). e.name ≢ new.name) entry entries free) (pairs-tail Rises entry entries pairs))
  where
    placed : (b : Bool) → stands_before entry.name new.name ≡ b → AllPairs Rises (with_entry new entries)
        → AllPairs Rises (cond b (entry ∷ with_entry new entries) (new ∷ entry ∷ entries))
    placed true before rest =
        AllPairs-cons Rises entry (with_entry new entries) (All-with (Rises entry) new entries before (pairs-head Rises entry entries pairs)) rest
    placed false behind rest =
        let other : entry.name ≢ new.name = All-head (λ (e : DirectoryEntry). e.name ≢ new.name) entry entries free in
        let first : Rises new entry = stands_behind entry.name new.name behind other in
        let later : All (Rises new) entries =
        All-weaker (Rises entry) (Rises new) (λ e h. stands_before-trans new.name entry.name e.name first h) entries (pairs-head Rises entry entries pairs) in
        AllPairs-cons Rises new (entry ∷ entries) (All-cons (Rises new) entry entries first later) pairs

pub in_table_too : (objects others : ℕ → Bool) → ((object : ℕ) → objects object ≡ true → others object ≡ true)
    → (entry : DirectoryEntry) → IsEntry objects entry → IsEntry others entry
in_table_too objects others more entry good =
    record { name = good.name; least = good.least; greatest = good.greatest; in_table = more entry.object good.in_table }

pub same_form : (objects others : ℕ → Bool) (entries : List DirectoryEntry) → IsDirectory objects entries
    → ((object : ℕ) → objects object ≡ true → others object ≡ true) → IsDirectory others entries
same_form objects others entries form more =
    record { each = All-weaker (IsEntry objects) (IsEntry others) (in_table_too objects others more) entries form.each; rising = form.rising; apart = form.apart }

pub inserted_form : (objects : ℕ → Bool) (entries : List DirectoryEntry) (new : DirectoryEntry) → IsDirectory objects entries
    → IsNew objects entries new → IsDirectory objects (with_entry new entries)
inserted_form objects entries new form fresh = record {
  each = All-with (IsEntry objects) new entries fresh.entry form.each;
  rising = rising_with new entries (no_such_name new.name entries fresh.no_name) form.rising;
  apart = apart_with new entries (λ k d within. other_object _ _ (none_passes (λ (e : DirectoryEntry). e.object == new.object) entries fresh.no_object k d within)) form.apart;
}

one_more : (n : ℕ) → 1 + n ≡ suc n
one_more n = omega arith

-- an object that isn't in the table is free
pub free_object : (objects : ℕ → Bool) (entries : List DirectoryEntry) (object : ℕ) → IsDirectory objects entries → objects object ≡ false
    → is_taken object entries ≡ false
free_object objects entries object form out =
    list_any_none (λ (e : DirectoryEntry). e.object == object) entries
    (λ k d within. same_object _ _ (λ same. absurd (unlike (objects (get_or entries k d).object) (form.each k d within).in_table (ap objects same ∙ out))))
  where
    unlike : (b : Bool) → b ≡ true → b ≡ false → ⊥
    unlike b on off = cc

-- where the entry stands
pub with_entry_at : (new : DirectoryEntry) (entries : List DirectoryEntry)
    → insert entries (prefix_len (λ entry. stands_before entry.name new.name) entries) new ≡ with_entry new entries
with_entry_at new [] = refl
with_entry_at new (entry ∷ entries) = placed (stands_before entry.name new.name) (with_entry_at new entries)
  where
    placed : (b : Bool) → insert entries (prefix_len (λ e. stands_before e.name new.name) entries) new ≡ with_entry new entries
        → insert (entry ∷ entries) (cond b (1 + prefix_len (λ e. stands_before e.name new.name) entries) 0) new
        ≡ cond b (entry ∷ with_entry new entries) (new ∷ entry ∷ entries)
    placed true rest = rw (one_more (prefix_len (λ e. stands_before e.name new.name) entries)) (ap (λ (es : List DirectoryEntry). entry ∷ es) rest)
    placed false rest = refl

-- ---- without a name

pub filtered_form : (objects : ℕ → Bool) (test : DirectoryEntry → Bool) (entries : List DirectoryEntry) → IsDirectory objects entries
    → IsDirectory objects (filter test entries)
filtered_form objects test entries form = record {
  each = All-filter test (IsEntry objects) entries form.each;
  rising = AllPairs-filter Rises test entries form.rising;
  apart = AllPairs-filter Differs test entries form.apart;
}

object_of_found : (b : Bool) (entry : DirectoryEntry) (rest : Option DirectoryEntry) (gone : ℕ)
    → option_map (λ (e : DirectoryEntry). e.object) (cond b (Some entry) rest) ≡ Some gone
    → b ≡ true → entry.object ≡ gone
object_of_found true entry rest gone is yes' = cc
object_of_found false entry rest gone is yes' = absurd (cc)

-- the object that is found isn't one that no entry has
found_differs : (name : List ℕ) (entries : List DirectoryEntry) (gone object : ℕ) → object_named name entries ≡ Some gone
    → All (λ entry. object ≢ entry.object) entries → object ≢ gone
found_differs name [] gone object found all = absurd (cc)
found_differs name (entry ∷ entries) gone object found all =
    let other : object ≢ entry.object = All-head (λ (e : DirectoryEntry). object ≢ e.object) entry entries all in
    let others = All-tail (λ (e : DirectoryEntry). object ≢ e.object) entry entries all in
    either (has_name name entry) found other (λ found_later. found_differs name entries gone object found_later others)
  where
    either : (b : Bool) → option_map (λ (e : DirectoryEntry). e.object) (cond b (Some entry) (find (has_name name) entries)) ≡ Some gone
        → object ≢ entry.object → (object_named name entries ≡ Some gone → object ≢ gone) → object ≢ gone
    either true is other later = λ same. other (same ∙ sym (object_of_found true entry (find (has_name name) entries) gone is refl))
    either false is other later = later is

not_both : (b : Bool) → b ≡ true → not b ≡ true → ⊥
not_both true h other = cc
not_both false h other = cc

-- an entry of another name has another object than the one that is found
kept_differ : (name : List ℕ) (entries : List DirectoryEntry) (gone : ℕ) → AllPairs Differs entries → object_named name entries ≡ Some gone
    → All (λ entry. not (has_name name entry) ≡ true → entry.object ≢ gone) entries
kept_differ name [] gone pairs found = absurd (cc)
kept_differ name (entry ∷ entries) gone pairs found =
    either (has_name name entry) refl found (λ found_later. kept_differ name entries gone (pairs-tail Differs entry entries pairs) found_later)
  where
    either : (b : Bool) → has_name name entry ≡ b
        → option_map (λ (e : DirectoryEntry). e.object) (cond b (Some entry) (find (has_name name) entries)) ≡ Some gone
        → (object_named name entries ≡ Some gone → All (λ e. not (has_name name e) ≡ true → e.object ≢ gone) entries)
        → All (λ e. not (has_name name e) ≡ true → e.object ≢ gone) (entry ∷ entries)
    either true named is later =
        let same : entry.object ≡ gone = object_of_found true entry (find (has_name name) entries) gone is refl in
        All-cons (λ (e : DirectoryEntry). not (has_name name e) ≡ true → e.object ≢ gone) entry entries
        (λ other. absurd (not_both (has_name name entry) named other))
        (All-weaker (Differs entry) (λ (e : DirectoryEntry). not (has_name name e) ≡ true → e.object ≢ gone) (λ e differs other is_gone. differs (same ∙ sym is_gone)) entries (pairs-head Differs entry entries pairs))
    either false named is later =
        All-cons (λ (e : DirectoryEntry). not (has_name name e) ≡ true → e.object ≢ gone) entry entries
        (λ other. found_differs name entries gone entry.object is (pairs-head Differs entry entries pairs)) (later is)

pub removed_form : (objects fewer : ℕ → Bool) (entries : List DirectoryEntry) (name : List ℕ) (gone : ℕ) → IsDirectory objects entries
    → object_named name entries ≡ Some gone → ((object : ℕ) → objects object ≡ true → object ≢ gone → fewer object ≡ true)
    → IsDirectory fewer (without_name name entries)
removed_form objects fewer entries name gone form found left =
    let test : DirectoryEntry → Bool = λ e. not (has_name name e) in
    let kept = filtered_form objects test entries form in
    let other : All (λ e. not (has_name name e) ≡ true → e.object ≢ gone) (filter test entries) =
    All-filter test (λ (e : DirectoryEntry). not (has_name name e) ≡ true → e.object ≢ gone) entries (kept_differ name entries gone form.apart found) in
    let passes : All (λ e. not (has_name name e) ≡ true) (filter test entries) = filter_passes test entries in
    record {
      each = λ k d within.
          let good : IsEntry objects (get_or (filter test entries) k d) = kept.each k d within in
          record {
            name = good.name;
            least = good.least;
            greatest = good.greatest;
            in_table = left (get_or (filter test entries) k d).object good.in_table (other k d within (passes k d within));
          };
      rising = kept.rising;
      apart = kept.apart;
    }

-- ---- what is found afterwards

pub found_with : (entries : List DirectoryEntry) (new : DirectoryEntry) (name : List ℕ) → All (λ entry. entry.name ≢ new.name) entries
    → object_named name (with_entry new entries) ≡ cond (bytes_eq new.name name) (Some new.object) (object_named name entries)
found_with [] new name free = elim (bytes_eq new.name name) as (λ b. option_map (λ (e : DirectoryEntry). e.object) (cond b (Some new) None) ≡ cond b (Some new.object) None) [ true ↦ refl | false ↦ refl ]
found_with (entry ∷ entries) new name free =
    let other : entry.name ≢ new.name = All-head (λ (e : DirectoryEntry). e.name ≢ new.name) entry entries free in
    let rest = found_with entries new name (All-tail (λ (e : DirectoryEntry). e.name ≢ new.name) entry entries free) in
    either (stands_before entry.name new.name) (bytes_eq new.name name) (has_name name entry) refl refl other rest
  where
    either : (before mine first : Bool) → bytes_eq new.name name ≡ mine → has_name name entry ≡ first → entry.name ≢ new.name
        → object_named name (with_entry new entries) ≡ cond mine (Some new.object) (object_named name entries)
        → object_named name (cond before (entry ∷ with_entry new entries) (new ∷ entry ∷ entries))
        ≡ cond mine (Some new.object) (option_map (λ (e : DirectoryEntry). e.object) (cond first (Some entry) (find (has_name name) entries)))
    either true true true mine_is first_is other rest =
        absurd (other (same_name entry.name name first_is ∙ sym (same_name new.name name mine_is)))
    either true true false mine_is first_is other rest = rw first_is rest
    either true false true mine_is first_is other rest = rw first_is refl
    either true false false mine_is first_is other rest = rw first_is rest
    either false true first mine_is first_is other rest = rw mine_is refl
    either false false first mine_is first_is other rest = rw (mine_is, first_is) refl

always : (b : Bool) (x : Option ℕ) → x ≡ cond b x x
always true x = refl
always false x = refl

pub found_without : (entries : List DirectoryEntry) (gone name : List ℕ)
    → object_named name (without_name gone entries) ≡ cond (bytes_eq gone name) None (object_named name entries)
found_without [] gone name = always (bytes_eq gone name) None
found_without (entry ∷ entries) gone name =
    either (has_name gone entry) (has_name name entry) (bytes_eq gone name) refl refl refl (found_without entries gone name)
  where
    either : (out first same : Bool) → has_name gone entry ≡ out → has_name name entry ≡ first → bytes_eq gone name ≡ same
        → object_named name (without_name gone entries) ≡ cond same None (object_named name entries)
        → object_named name (cond (not out) (entry ∷ without_name gone entries) (without_name gone entries))
        ≡ cond same None (option_map (λ (e : DirectoryEntry). e.object) (cond first (Some entry) (find (has_name name) entries)))
    either true first true out_is first_is same_is rest = rest
    either true true false out_is first_is same_is rest =
        absurd (other_name gone name same_is (sym (same_name entry.name gone out_is) ∙ same_name entry.name name first_is))
    either true false false out_is first_is same_is rest = rest
    either false true true out_is first_is same_is rest =
        absurd (other_name entry.name gone out_is (same_name entry.name name first_is ∙ sym (same_name gone name same_is)))
    either false true false out_is first_is same_is rest = rw first_is refl
    either false false same out_is first_is same_is rest = rw first_is rest
