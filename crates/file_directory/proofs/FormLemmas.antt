-- How a directory stays in form as an entry is put behind the others.
use Rattle.std.proofs.Common.{◌≡◌, ◌≢◌, ℕ, ◌<◌, ◌≤◌, ◌^◌, ◌==◌, Bool, true, false, not, ◌&&◌, nat_le, ◌-◌, ◌||◌, ◌⊎◌, ⊎_elim, cond, is_some, List, [], ◌∷◌, ◌++◌, length, get_or, Option, Some, None, Err, refl, sym, ap, ◌∙◌, arith, subst}
use Rattle.std.specs.Prelude.{is_none}
use Rattle.std.specs.List.{AllPairs, find, list_any, slice_get}
use Rattle.std.proofs.lemmas.Bool.Decides.{nat_tests}
use Rattle.std.proofs.lemmas.List.Elements.{All-push}
use Rattle.std.proofs.lemmas.List.Folds.{list_any_none, list_all_at}
use Rattle.std.proofs.Math.Nat.{eq-or-lt_of_le}
use Rattle.std.proofs.lemmas.Option.{slice_get_within, get_or_from_slice_get}
use Rattle.dataset_tree.specs.declared.refusal.Refusal.{Refusal}
use Rattle.dataset_tree.specs.SetName.{named_unless}
use Rattle.std.proofs.lemmas.List.Quantifiers.{all_pairs_push}
use Rattle.std.proofs.lemmas.List.Sums.{AllPass-from_list_all, list_all-from_AllPass}
use Rattle.dataset_tree.specs.ShortNames.{file_fault}
use Rattle.file_directory.specs.declared.directory.DirectoryEntry.{DirectoryEntry}
use Rattle.file_directory.specs.Entries.{stands_before}
use Rattle.file_directory.specs.Form.{IsEntry, IsDirectory}
use Rattle.file_directory.specs.Reading.{is_free, is_above, may_follow}
use Rattle.file_directory.proofs.OrderLemmas.{both, stands_before-trans, none_passes, All-front, All-last, pairs-front, pairs-last}

abbrev pub Rises : DirectoryEntry → DirectoryEntry → Type 0
Rises earlier later = stands_before earlier.name later.name ≡ true

abbrev pub Differs : DirectoryEntry → DirectoryEntry → Type 0
Differs earlier later = earlier.object ≢ later.object

pub no_entries : (objects : ℕ → Bool) → IsDirectory objects []
no_entries objects = record {
  each = λ k d within. absurd (omega arith);
  rising = λ i j d before within. absurd (omega arith);
  apart = λ i j d before within. absurd (omega arith);
}

none_is : (o : Option ℕ) → is_none o ≡ true → o ≡ None
none_is None h = refl
none_is (Some x) h = absurd (cc)

pub other_object : (a b : ℕ) → (a == b) ≡ false → a ≢ b
other_object a b h same = grind (arith, nat_tests)

pub same_object : (a b : ℕ) → a ≢ b → (a == b) ≡ false
same_object a b h = grind (arith, nat_tests)

at_least : (a b : ℕ) → nat_le a b ≡ true → a ≤ b
at_least a b h = grind (arith, nat_tests)

is_at_least : (a b : ℕ) → a ≤ b → nat_le a b ≡ true
is_at_least a b h = grind (arith, nat_tests)

no_more : (b : Bool) → not b ≡ true → b ≡ false
no_more true h = absurd (cc)
no_more false h = refl

-- an entry that may follow keeps the form
pub follows : (objects : ℕ → Bool) (before : List DirectoryEntry) (entry : DirectoryEntry) → IsDirectory objects before
    → entry.object < 2 ^ 32 → may_follow objects before entry ≡ true → IsDirectory objects (before ++ entry ∷ [])
follows objects before entry form fits may =
    let is_taken : Bool = list_any (λ (e : DirectoryEntry). e.object == entry.object) before in
    let outer = both (is_free objects before entry.object && is_above before entry.name) (is_none (file_fault entry.name)) may in
    let inner = both (is_free objects before entry.object) (is_above before entry.name) outer.0 in
    let free = both (nat_le 2 entry.object && objects entry.object) (not is_taken) inner.0 in
    let least = both (nat_le 2 entry.object) (objects entry.object) free.0 in
    let others = none_passes (λ (e : DirectoryEntry). e.object == entry.object) before (no_more is_taken free.1) in
    let good : IsEntry objects entry = record {
      name = none_is (file_fault entry.name) outer.1;
      least = at_least 2 entry.object least.0;
      greatest = fits;
      in_table = least.1;
    } in
    record {
      each = All-push (IsEntry objects) before entry form.each good;
      rising = all_pairs_push Rises before entry form.rising (AllPass-from_list_all (λ (e : DirectoryEntry). stands_before e.name entry.name) before inner.1);
      apart = all_pairs_push Differs before entry form.apart (λ k d within. other_object _ _ (others k d within));
    }

-- the front of a directory is one
pub front_in_form : (objects : ℕ → Bool) (before more : List DirectoryEntry) → IsDirectory objects (before ++ more) → IsDirectory objects before
front_in_form objects before more form = record {
  each = All-front (IsEntry objects) before more form.each;
  rising = pairs-front Rises before more form.rising;
  apart = pairs-front Differs before more form.apart;
}

pub last_entry : (objects : ℕ → Bool) (before : List DirectoryEntry) (entry : DirectoryEntry) → IsDirectory objects (before ++ entry ∷ [])
    → IsEntry objects entry
last_entry objects before entry form = All-last (IsEntry objects) before entry form.each

-- an entry of a directory may follow those before it
pub followed : (objects : ℕ → Bool) (before : List DirectoryEntry) (entry : DirectoryEntry) → IsDirectory objects (before ++ entry ∷ [])
    → may_follow objects before entry ≡ true
followed objects before entry form =
    let good = last_entry objects before entry form in
    let above : is_above before entry.name ≡ true = list_all-from_AllPass (λ (e : DirectoryEntry). stands_before e.name entry.name) before (pairs-last Rises before entry form.rising) in
    let others = pairs-last Differs before entry form.apart in
    let untaken : list_any (λ (e : DirectoryEntry). e.object == entry.object) before ≡ false =
    list_any_none (λ (e : DirectoryEntry). e.object == entry.object) before (λ k d within. same_object _ _ (others k d within)) in
    let least : nat_le 2 entry.object ≡ true = is_at_least 2 entry.object good.least in
    rw (least, good.in_table, untaken, above, good.name) refl

-- ---- what the code tests

-- that a row is found
pub any_is_found : {X : Type 0} (test : X → Bool) (xs : List X) → list_any test xs ≡ is_some (find test xs)
any_is_found test [] = refl
any_is_found test (x ∷ xs) = either (test x) (any_is_found test xs)
  where
    either : (b : Bool) → list_any test xs ≡ is_some (find test xs) → (b || list_any test xs) ≡ is_some (cond b (Some x) (find test xs))
    either true rest = refl
    either false rest = rest

-- a name stands above those of a directory where it stands above the last
pub above_last : (before : List DirectoryEntry) (name : List ℕ) (last : DirectoryEntry) → AllPairs Rises before
    → slice_get before (length before - 1) ≡ Some last → is_above before name ≡ stands_before last.name name
above_last before name last pairs is = either (stands_before last.name name) refl
  where
    within : length before - 1 < length before
    within = slice_get_within before (length before - 1) last is

    last_is : (d : DirectoryEntry) → get_or before (length before - 1) d ≡ last
    last_is d = get_or_from_slice_get before (length before - 1) last d is

    below : stands_before last.name name ≡ true → (k : ℕ) (d : DirectoryEntry) → k < length before
        → (k ≡ length before - 1) ⊎ (k < length before - 1) → stands_before (get_or before k d).name name ≡ true
    below above k d in_list where_it_is = ⊎_elim
        (λ (at_end : k ≡ length before - 1). subst (λ (e : DirectoryEntry). stands_before e.name name ≡ true) (sym (ap (λ (i : ℕ). get_or before i d) at_end ∙ last_is d)) above)
        (λ (earlier : k < length before - 1).
        stands_before-trans (get_or before k d).name last.name name
        (subst (λ (e : DirectoryEntry). stands_before (get_or before k d).name e.name ≡ true) (last_is d) (pairs k (length before - 1) d earlier within)) above)
        where_it_is

    either : (b : Bool) → stands_before last.name name ≡ b → is_above before name ≡ b
    either true above = list_all-from_AllPass (λ (e : DirectoryEntry). stands_before e.name name) before
        (λ k d in_list. below above k d in_list (eq-or-lt_of_le (omega arith)))
    either false behind = list_all_at (λ (e : DirectoryEntry). stands_before e.name name) before (length before - 1) last within
        (subst (λ (e : DirectoryEntry). stands_before e.name name ≡ false) (sym (last_is last)) behind)

-- bytes that no file name has
pub unnamed : (bytes : List ℕ) (fault : Option ℕ) (why : Refusal) → named_unless bytes fault ≡ Err why
    → None ≡ cond (is_none fault) (Some bytes) None
unnamed bytes None why is = absurd (cc)
unnamed bytes (Some at) why is = refl
