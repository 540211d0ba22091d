-- How the fault of a name and the name of a parent change as a text is read from its front.
use Rattle.std.proofs.Common.{◌≡◌, ◌≢◌, ℕ, ◌+◌, ◌<◌, Bool, true, false, not, ◌||◌, cond, ◌==◌, nat_lt, List, [], ◌∷◌, ◌++◌, length, get_or, take, drop, Some, None, refl, ap, ◌∙◌, arith, add-one}
use Rattle.std.proofs.lemmas.List.{take_more}
use Rattle.std.proofs.Math.Seq.{drop-cons}
use Rattle.std.proofs.lemmas.Grind.{common_steps}
use Rattle.std.proofs.lemmas.Bool.Decides.{nat_tests}
use Rattle.std.specs.List.{count_by, list_any}
use Rattle.std.proofs.lemmas.List.Sums.{sum_by-append}
use Rattle.dataset_tree.specs.SetName.{slash, is_slash, is_name_byte, ends_in_component, may_follow, name_fault_after, before_slash, parent_name}

-- a choice may be made before a function is applied or after
pub choice_through : {A B : Type 0} (f : A → B) (b : Bool) (x y : A) → f (cond b x y) ≡ cond b (f x) (f y)
choice_through f b x y = elim b as (λ v. f (cond v x y) ≡ cond v (f x) (f y)) [ true ↦ refl | false ↦ refl ]

pub parent_name-push : (xs : List ℕ) (x : ℕ) → parent_name (xs ++ x ∷ []) ≡ cond (is_slash x) (Some xs) (parent_name xs)
parent_name-push [] x = refl
parent_name-push (b ∷ bs) x =
    ap (before_slash b) (parent_name-push bs x) ∙ choice_through (before_slash b) (is_slash x) (Some bs) (parent_name bs)

pub ends_in_component-push : (xs : List ℕ) (x : ℕ) → ends_in_component (xs ++ x ∷ []) ≡ not (is_slash x)
ends_in_component-push [] x = refl
ends_in_component-push (b ∷ []) x = refl
ends_in_component-push (b ∷ c ∷ bs) x = ends_in_component-push (c ∷ bs) x

-- a byte that may stand there moves from the rest to the front
pub fault_goes_on : (text : List ℕ) (i : ℕ) → i < length text → may_follow (take i text) (get_or text i 0) ≡ true
    → name_fault_after (take i text) (drop i text) ≡ name_fault_after (take (i + 1) text) (drop (i + 1) text)
fault_goes_on text i within may =
    rw (drop-cons text i 0, take_more text i 0 within, add-one, may) refl

-- a byte that may not is where the fault is
pub fault_is_here : (text : List ℕ) (i : ℕ) → i < length text → may_follow (take i text) (get_or text i 0) ≡ false
    → name_fault_after (take i text) (drop i text) ≡ Some i
fault_is_here text i within may_not =
    let whole : length (take i text) ≡ i = grind (arith, common_steps) in
    rw (drop-cons text i 0, may_not, whole) refl

-- a slash ends the parent's name so far, and another byte leaves it as it was
pub parent_at_slash : (name : List ℕ) (i : ℕ) → i < length name → get_or name i 0 ≡ 47 → Some (take i name) ≡ parent_name (take (i + 1) name)
parent_at_slash name i within slash =
    rw (take_more name i 0 within, parent_name-push, slash) refl

pub parent_elsewhere : (name : List ℕ) (i : ℕ) → i < length name → get_or name i 0 ≢ 47 → parent_name (take i name) ≡ parent_name (take (i + 1) name)
parent_elsewhere name i within other =
    let no : (get_or name i 0 == 47) ≡ false = grind (arith, nat_tests) in
    rw (take_more name i 0 within, parent_name-push, no) refl

-- what a loop keeps of the text that it has read: no fault so far, whether a component is open, and the slashes
pub record ReadsOn (text : List ℕ) (i : ℕ) : Type 0 where
  pub so_far : name_fault_after (take i text) (drop i text) ≡ name_fault_after (take (i + 1) text) (drop (i + 1) text)
  pub component : ends_in_component (take (i + 1) text) ≡ not (is_slash (get_or text i 0))
  pub slashes : count_by is_slash (take (i + 1) text) ≡ count_by is_slash (take i text) + cond (is_slash (get_or text i 0)) 1 0

reads_on : (text : List ℕ) (i : ℕ) → i < length text → may_follow (take i text) (get_or text i 0) ≡ true → ReadsOn text i
reads_on text i within may = record {
  so_far = fault_goes_on text i within may;
  component = rw (take_more text i 0 within) (ends_in_component-push (take i text) (get_or text i 0));
  slashes = rw (take_more text i 0 within) (omega (arith, sum_by-append (λ x. cond (is_slash x) 1 0) (take i text) (get_or text i 0 ∷ [])));
}

pub fault_goes_on_at_slash : (text : List ℕ) (i : ℕ) → i < length text → i < 255 → get_or text i 0 ≡ 47
    → ends_in_component (take i text) ≡ true → count_by is_slash (take i text) < 31 → ReadsOn text i
fault_goes_on_at_slash text i within short slash in_component shallow =
    let whole : length (take i text) ≡ i = grind (arith, common_steps) in
    let room : nat_lt (length (take i text)) 255 ≡ true = grind (arith, nat_tests) in
    let few : nat_lt (count_by is_slash (take i text)) 31 ≡ true = grind (arith, nat_tests) in
    reads_on text i within (rw (room, slash, in_component, few) refl)

pub fault_goes_on_at_name_byte : (text : List ℕ) (i : ℕ) → i < length text → i < 255 → is_name_byte (get_or text i 0) ≡ true → ReadsOn text i
fault_goes_on_at_name_byte text i within short name_byte =
    let whole : length (take i text) ≡ i = grind (arith, common_steps) in
    let room : nat_lt (length (take i text)) 255 ≡ true = grind (arith, nat_tests) in
    reads_on text i within (rw (room, name_byte) refl)

-- nothing may stand behind 255 bytes
pub fault_past_the_end : (text : List ℕ) (i : ℕ) → i < length text → i ≡ 255 → name_fault_after (take i text) (drop i text) ≡ Some i
fault_past_the_end text i within full =
    let whole : length (take i text) ≡ i = grind (arith, common_steps) in
    let no_room : nat_lt (length (take i text)) 255 ≡ false = grind (arith, nat_tests) in
    fault_is_here text i within (rw (no_room) refl)

-- a text without a slash is a name at the top, and behind a last slash it stands below what is before it
no_slash : (b : ℕ) (bs : List ℕ) → (is_slash b || list_any is_slash bs) ≡ false → (is_slash b ≡ false) × (list_any is_slash bs ≡ false)
no_slash b bs none = grind (arith, nat_tests)

pub parent_at_top : (name : List ℕ) → list_any is_slash name ≡ false → parent_name name ≡ None
parent_at_top [] none = refl
parent_at_top (b ∷ bs) none =
    let apart = no_slash b bs none in
    rw (parent_at_top bs apart.1, apart.0) refl

pub parent_below : (front last : List ℕ) → list_any is_slash last ≡ false → parent_name (front ++ slash ∷ last) ≡ Some front
parent_below [] last none = rw (parent_at_top last none) refl
parent_below (b ∷ front) last none = ap (before_slash b) (parent_below front last none)
