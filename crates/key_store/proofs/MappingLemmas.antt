-- Mappings and mounts as lists: what a test of them sees once one is added or dropped.
use Rattle.std.proofs.Common.{◌≡◌, ◌≢◌, ◌⊎◌, ⊎_elim, ℕ, zero, suc, ◌+◌, ◌-◌, ◌<◌, ◌≤◌, Bool, true, false, not, cond, ◌==◌, ◌&&◌, ◌||◌, nat_lt, nat_le, is_ok, is_err, Result, Ok, Err, List, [], ◌∷◌, ◌++◌, length, get_or, map, take, drop, set, Some, None, refl, ap, sym, ◌∙◌, arith}
use Rattle.std.proofs.lemmas.Bool.{cases_Bool, cond_both, cases_eq, eq-eqb, eqb-true, ne_eqb}
use Rattle.std.proofs.lemmas.Bool.Decides.{nat_tests}
use Rattle.std.proofs.lemmas.List.Elements.{All-head, All-tail}
use Rattle.std.proofs.lemmas.List.Edits.{map_over_more}
use Rattle.std.proofs.lemmas.List.Folds.{list_any_none}
use Rattle.std.proofs.lemmas.List.Sums.{sum_by-cons}
use Rattle.std.specs.List.Sorted.{IsPartitionedBy}
use Rattle.std.specs.List.{All, AllPairs, AllWithin, list_any, count_by, find, range_with_len, insert}
use Rattle.encryption_roots.specs.ById.{IsRisingById, at_id, with_id, without_id}
use Rattle.key_machine.specs.Unmount.{without_mount}
use Rattle.key_machine.specs.Users.{with_mount}
use Rattle.key_machine.proofs.KeyLists.{All-kept}

-- ---- any of the entries by id

swapped : (entry new with_new others : Bool) → with_new ≡ (new || others) → (entry || with_new) ≡ (new || (entry || others))
swapped true true w others same = refl
swapped true false w others same = refl
swapped false new w others same = same

pub any_put : {X : Type 0} (test : ℕ × X → Bool) (id : ℕ) (value : X) (entries : List (ℕ × X)) → at_id id entries ≡ None → list_any test (with_id id value entries) ≡ (test (id, value) || list_any test entries)
any_put test id value [] new = refl
any_put test id value (entry ∷ entries) new = ⊎_elim (λ (same : (entry.0 == id) ≡ true). absurd (let some : Some entry.1 ≡ None = rw same at new in cc))
    (λ (other : (entry.0 == id) ≡ false).
    cond_both (nat_lt entry.0 id) (entry ∷ with_id id value entries) (cond (entry.0 == id) ((id, value) ∷ entries) ((id, value) ∷ entry ∷ entries))
    (λ all. list_any test all ≡ (test (id, value) || (test entry || list_any test entries)))
    (λ lower. swapped (test entry) (test (id, value)) (list_any test (with_id id value entries)) (list_any test entries) (any_put test id value entries (rw other at new)))
    (λ upper. rw other refl)) (cases_Bool (entry.0 == id))

none_above : {X : Type 0} (id : ℕ) (entries : List (ℕ × X)) → All (λ entry. id < entry.0) entries → at_id id entries ≡ None
none_above id [] all = refl
none_above {X} id (entry ∷ entries) all =
    let Above : ℕ × X → Type 0 = λ later. id < later.0 in
    let above : id < entry.0 = All-head Above entry entries all in
    let other : (entry.0 == id) ≡ false = grind (arith, nat_tests) in
    rw other (none_above id entries (All-tail Above entry entries all))

pub absent_stays : {X : Type 0} (id : ℕ) (entries : List (ℕ × X)) → at_id id entries ≡ None → without_id id entries ≡ entries
absent_stays id [] absent = refl
absent_stays id (entry ∷ entries) absent = ⊎_elim (λ (same : (entry.0 == id) ≡ true). absurd (let some : Some entry.1 ≡ None = rw same at absent in cc))
    (λ (other : (entry.0 == id) ≡ false). rw other (ap (λ rest. entry ∷ rest) (absent_stays id entries (rw other at absent)))) (cases_Bool (entry.0 == id))

pub any_drop : {X : Type 0} (test : ℕ × X → Bool) (id : ℕ) (value : X) (entries : List (ℕ × X)) → IsRisingById entries → at_id id entries ≡ Some value → list_any test entries ≡ (test (id, value) || list_any test (without_id id entries))
any_drop test id value [] rising there = absurd (cc)
any_drop {X} test id value (entry ∷ entries) rising there = ⊎_elim
    (λ (same : (entry.0 == id) ≡ true).
    let both : Some entry.1 ≡ Some value = rw same at there in
    let own : entry.1 ≡ value = cc in
    let at : entry.0 ≡ id = eqb-true entry.0 id same in
    let absent : at_id entry.0 entries ≡ None = none_above entry.0 entries (λ k d within. rising 0 (suc k) d (omega arith) (omega arith)) in
    let stays : without_id id entries ≡ entries = absent_stays id entries (ap (λ n. at_id n entries) (sym at) ∙ absent) in
    let tested : test entry ≡ test (id, value) = ap (λ n. test (n, entry.1)) at ∙ ap (λ v. test (id, v)) own in
    rw same (ap (λ b. b || list_any test entries) tested ∙ ap (λ es. test (id, value) || list_any test es) (sym stays)))
    (λ (other : (entry.0 == id) ≡ false).
    let later : list_any test entries ≡ (test (id, value) || list_any test (without_id id entries)) =
    any_drop test id value entries (λ i j d before within. rising (suc i) (suc j) d (omega arith) (omega arith)) (rw other at there) in
    rw other (swapped (test entry) (test (id, value)) (list_any test entries) (list_any test (without_id id entries)) later)) (cases_Bool (entry.0 == id))

one_more : (b rest : Bool) (n : ℕ) → rest ≡ not (n == 0) → (b || rest) ≡ not ((cond b 1 0 + n) == 0)
one_more true rest n same = let some : (1 + n == 0) ≡ false = grind (arith, nat_tests) in rw some refl
one_more false rest n same = let plain : 0 + n ≡ n = omega arith in rw plain same

pub any_counted : {X : Type 0} (test : X → Bool) (xs : List X) → list_any test xs ≡ not (count_by test xs == 0)
any_counted test [] = refl
any_counted test (x ∷ xs) =
    one_more (test x) (list_any test xs) (count_by test xs) (any_counted test xs) ∙ sym (ap (λ n. not (n == 0)) (sum_by-cons (λ y. cond (test y) 1 0) x xs))

pub any_same : {X : Type 0} (one other : X → Bool) (xs : List X) → All (λ x. one x ≡ other x) xs → list_any one xs ≡ list_any other xs
any_same one other [] all = refl
any_same {X} one other (x ∷ xs) all =
    let Same : X → Type 0 = λ y. one y ≡ other y in
    ap (λ b. b || list_any one xs) (All-head Same x xs all) ∙ ap (λ b. other x || b) (any_same one other xs (All-tail Same x xs all))

-- one that passes, with what holds of each
pub any_passes : {X : Type 0} (P : X → Type 0) (test : X → Bool) (xs : List X) → All P xs → list_any test xs ≡ true → (x : X) × P x × (test x ≡ true)
any_passes P test [] all any = absurd (cc)
any_passes P test (x ∷ xs) all any = ⊎_elim (λ (passes : test x ≡ true). (x, All-head P x xs all, passes))
    (λ (fails : test x ≡ false). any_passes P test xs (All-tail P x xs all) (rw fails at any)) (cases_Bool (test x))

-- ---- the entries that pass are counted

swapped_sum : (a b n : ℕ) → a + (b + n) ≡ b + (a + n)
swapped_sum a b n = omega arith

pub count_put : {X : Type 0} (test : ℕ × X → Bool) (id : ℕ) (value : X) (entries : List (ℕ × X)) → at_id id entries ≡ None → count_by test (with_id id value entries) ≡ cond (test (id, value)) 1 0 + count_by test entries
count_put {X} test id value [] new = sum_by-cons (λ (y : ℕ × X). cond (test y) 1 0) (id, value) []
count_put {X} test id value (entry ∷ entries) new =
    let count : ℕ × X → ℕ = λ y. cond (test y) 1 0 in
    let sum : count_by test (entry ∷ entries) ≡ count entry + count_by test entries = sum_by-cons count entry entries in
    ⊎_elim (λ (same : (entry.0 == id) ≡ true). absurd (let some : Some entry.1 ≡ None = rw same at new in cc))
    (λ (other : (entry.0 == id) ≡ false).
    cond_both (nat_lt entry.0 id) (entry ∷ with_id id value entries) (cond (entry.0 == id) ((id, value) ∷ entries) ((id, value) ∷ entry ∷ entries))
    (λ all. count_by test all ≡ count (id, value) + count_by test (entry ∷ entries))
    (λ lower.
    sum_by-cons count entry (with_id id value entries) ∙ ap (λ n. count entry + n) (count_put test id value entries (rw other at new)) ∙ swapped_sum (count entry) (count (id, value)) (count_by test entries)
    ∙ ap (λ n. count (id, value) + n) (sym sum))
    (λ upper. rw other (sum_by-cons count (id, value) (entry ∷ entries)))) (cases_Bool (entry.0 == id))

pub count_drop : {X : Type 0} (test : ℕ × X → Bool) (id : ℕ) (value : X) (entries : List (ℕ × X)) → IsRisingById entries → at_id id entries ≡ Some value
    → count_by test entries ≡ cond (test (id, value)) 1 0 + count_by test (without_id id entries)
count_drop test id value [] rising there = absurd (cc)
count_drop {X} test id value (entry ∷ entries) rising there =
    let count : ℕ × X → ℕ = λ y. cond (test y) 1 0 in
    let sum : count_by test (entry ∷ entries) ≡ count entry + count_by test entries = sum_by-cons count entry entries in
    ⊎_elim
    (λ (same : (entry.0 == id) ≡ true).
    let both : Some entry.1 ≡ Some value = rw same at there in
    let own : entry.1 ≡ value = cc in
    let at : entry.0 ≡ id = eqb-true entry.0 id same in
    let absent : at_id entry.0 entries ≡ None = none_above entry.0 entries (λ k d within. rising 0 (suc k) d (omega arith) (omega arith)) in
    let stays : without_id id entries ≡ entries = absent_stays id entries (ap (λ n. at_id n entries) (sym at) ∙ absent) in
    let counted : count entry ≡ count (id, value) = ap (λ n. count (n, entry.1)) at ∙ ap (λ v. count (id, v)) own in
    let left : without_id id (entry ∷ entries) ≡ entries = rw same stays in
    sum ∙ ap (λ n. n + count_by test entries) counted ∙ ap (λ es. count (id, value) + count_by test es) (sym left))
    (λ (other : (entry.0 == id) ≡ false).
    let later : count_by test entries ≡ count (id, value) + count_by test (without_id id entries) =
    count_drop test id value entries (λ i j d before within. rising (suc i) (suc j) d (omega arith) (omega arith)) (rw other at there) in
    let left : without_id id (entry ∷ entries) ≡ entry ∷ without_id id entries = rw other refl in
    sum ∙ ap (λ n. count entry + n) later ∙ swapped_sum (count entry) (count (id, value)) (count_by test (without_id id entries))
    ∙ ap (λ n. count (id, value) + n) (sym (sum_by-cons count entry (without_id id entries))) ∙ ap (λ es. count (id, value) + count_by test es) (sym left)) (cases_Bool (entry.0 == id))

-- ---- mounts

pub any_mount : (test : ℕ → Bool) (id : ℕ) (mounted : List ℕ) → list_any test (with_mount id mounted) ≡ (test id || list_any test mounted)
any_mount test id [] = refl
any_mount test id (first ∷ later) =
    cond_both (nat_lt id first) (id ∷ first ∷ later) (first ∷ with_mount id later) (λ all. list_any test all ≡ (test id || (test first || list_any test later))) (λ lower. refl)
    (λ upper. swapped (test first) (test id) (list_any test (with_mount id later)) (list_any test later) (any_mount test id later))

pub mounted_else : (id at : ℕ) (mounted : List ℕ) → at ≢ id → list_any (λ other. other == at) (without_mount id mounted) ≡ list_any (λ other. other == at) mounted
mounted_else id at [] apart = refl
mounted_else id at (first ∷ later) apart = ⊎_elim
    (λ (same : (first == id) ≡ true).
    let own : first ≡ id = eqb-true first id same in
    let other : (first == at) ≡ false = ne_eqb first at (λ here. apart (sym here ∙ own)) in
    rw (same, other) (mounted_else id at later apart))
    (λ (other : (first == id) ≡ false). rw other (ap (λ b. (first == at) || b) (mounted_else id at later apart))) (cases_Bool (first == id))

pub unmounted_own : (id : ℕ) (mounted : List ℕ) → list_any (λ other. other == id) (without_mount id mounted) ≡ false
unmounted_own id [] = refl
unmounted_own id (first ∷ later) = ⊎_elim (λ (same : (first == id) ≡ true). rw same (unmounted_own id later)) (λ (other : (first == id) ≡ false). rw (other, other) (unmounted_own id later)) (cases_Bool (first == id))

-- ---- the mappings on a slot

abbrev OtherSlots : ℕ × ℕ → ℕ × ℕ → Type 0
OtherSlots a b = a.1 ≢ b.1

-- the mapping of a dataset, by its place
at_place : (id slot : ℕ) (mappings : List (ℕ × ℕ)) → at_id id mappings ≡ Some slot → (k : ℕ) × (k < length mappings) × ((d : ℕ × ℕ) → get_or mappings k d ≡ (id, slot))
at_place id slot [] there = absurd (cc)
at_place id slot (mapping ∷ mappings) there = ⊎_elim
    (λ (same : (mapping.0 == id) ≡ true).
    let both : Some mapping.1 ≡ Some slot = rw same at there in
    let own : mapping.1 ≡ slot = cc in
    let at : mapping.0 ≡ id = eqb-true mapping.0 id same in
    (0, omega arith, λ d. ap (λ n. (n, mapping.1)) at ∙ ap (λ s. (id, s)) own))
    (λ (other : (mapping.0 == id) ≡ false).
    let later = at_place id slot mappings (rw other at there) in
    (suc later.0, omega (arith, later.1), λ d. later.2 d)) (cases_Bool (mapping.0 == id))

-- no other dataset is mapped on a dataset's slot
pub alone_on : (id slot : ℕ) (mappings : List (ℕ × ℕ)) → AllPairs OtherSlots mappings → at_id id mappings ≡ Some slot → All (λ mapping. (mapping.0 ≡ id → ⊥) → mapping.1 ≢ slot) mappings
alone_on id slot mappings apart there = λ k d within other here.
    let own = at_place id slot mappings there in
    let j : ℕ = own.0 in
    let at : get_or mappings j d ≡ (id, slot) = own.2 d in
    let at_slot : (get_or mappings j d).1 ≡ slot = ap (λ (m : ℕ × ℕ). m.1) at in
    let same : (get_or mappings k d).1 ≡ (get_or mappings j d).1 = here ∙ sym at_slot in
    ⊎_elim (λ (equal : k ≡ j). other (ap (λ n. (get_or mappings n d).0) equal ∙ ap (λ (m : ℕ × ℕ). m.0) at))
    (λ (unequal : k ≡ j → ⊥).
    ⊎_elim (λ (before : k < j). apart k j d before own.1 same) (λ (behind : j < k). apart j k d behind within (sym same)) (sides k j unequal)) (cases_eq k j)
  where
    sides : (a b : ℕ) → (a ≡ b → ⊥) → (a < b) ⊎ (b < a)
    sides a b unequal = grind (arith, nat_tests)

-- whatever is tested of those on the slot
pub none_left_on : (test : ℕ → Bool) (id slot : ℕ) (mappings : List (ℕ × ℕ)) → AllPairs OtherSlots mappings → at_id id mappings ≡ Some slot → list_any (λ mapping. (mapping.1 == slot) && test mapping.0) (without_id id mappings) ≡ false
none_left_on test id slot mappings apart there =
    let Alone : ℕ × ℕ → Type 0 = λ mapping. (mapping.0 ≡ id → ⊥) → mapping.1 ≢ slot in
    let Fails : ℕ × ℕ → Type 0 = λ mapping. ((mapping.1 == slot) && test mapping.0) ≡ false in
    list_any_none (λ mapping. (mapping.1 == slot) && test mapping.0) (without_id id mappings)
    (All-kept Alone Fails (λ mapping. not (mapping.0 == id)) mappings
    (λ mapping alone kept.
    let apart_from : mapping.1 ≢ slot = alone (λ same. (let equal : (mapping.0 == id) ≡ true = eq-eqb mapping.0 id same in let gone : false ≡ true = rw equal at kept in cc)) in
    let other : (mapping.1 == slot) ≡ false = ne_eqb mapping.1 slot apart_from in
    rw other refl) (alone_on id slot mappings apart there))

-- ---- a mount's place

at_most : (a b : ℕ) → nat_le a b ≡ true → nat_lt b a ≡ false
at_most a b test = grind (arith, nat_tests)

more_than : (a b : ℕ) → nat_le a b ≡ false → nat_lt b a ≡ true
more_than a b test = grind (arith, nat_tests)

below_too : (a b id : ℕ) → a < b → nat_le b id ≡ true → nat_le a id ≡ true
below_too a b id lower test = grind (arith, nat_tests)

pub mounts_parted : (id : ℕ) (mounted : List ℕ) → AllPairs (λ a b. a < b) mounted → IsPartitionedBy (λ other. nat_le other id) mounted
mounts_parted id mounted rising i j d before within later =
    let cases : (i ≡ j) ⊎ (i < j) = grind arith in
    ⊎_elim (λ (c : i ≡ j). rw c later) (λ (c : i < j). below_too (get_or mounted i d) (get_or mounted j d) id (rising i j d c within) later) cases

pub mount_placed : (id : ℕ) (mounted : List ℕ) (i : ℕ) → i ≤ length mounted → AllWithin (λ other. nat_le other id ≡ true) mounted 0 i → AllWithin (λ other. nat_le other id ≡ false) mounted i (length mounted)
    → insert mounted i id ≡ with_mount id mounted
mount_placed id [] zero within below above = refl
mount_placed id [] (suc i) within below above = absurd (omega arith)
mount_placed id (first ∷ later) zero within below above = rw (more_than first id (above 0 first (omega arith) (omega arith))) refl
mount_placed id (first ∷ later) (suc i) within below above =
    rw (at_most first id (below 0 first (omega arith) (omega arith)))
    (ap (λ rest. first ∷ rest) (mount_placed id later i (omega arith) (λ k e from h. below (suc k) e (omega arith) (omega arith)) (λ k e from h. above (suc k) e (omega arith) (omega arith))))

pub if_done : {T E A : Type 0} (r : Result T E) (done undone : A) → is_err r ≡ false → cond (is_ok r) done undone ≡ done
if_done (Ok x) done undone fine = refl
if_done (Err e) done undone fine = absurd (cc)

-- ---- the first of the numbers that are left

pub find_next : (test : ℕ → Bool) (at n : ℕ) → at < n → find test (range_with_len at (n - at)) ≡ cond (test at) (Some at) (find test (range_with_len (at + 1) (n - (at + 1))))
find_next test at n within = let more : n - at ≡ suc (n - (at + 1)) = omega arith in rw more refl

-- ---- a loop that changes each entry

any_default : {X : Type 0} (xs : List X) (i : ℕ) (d e : X) → i < length xs → get_or xs i d ≡ get_or xs i e
any_default [] i d e within = absurd (omega arith)
any_default (x ∷ xs) zero d e within = refl
any_default (x ∷ xs) (suc i) d e within = any_default xs i d e (omega arith)

pub map_over_place : {X : Type 0} (f : X → X) (xs ys : List X) (i : ℕ) (d : X) → i < length xs → i < length ys → ys ≡ map f (take i xs) ++ drop i xs → set ys i (f (get_or ys i d)) ≡ map f (take (i + 1) xs) ++ drop (i + 1) xs
map_over_place f xs ys i d within there so_far = map_over_more f xs ys i (get_or ys i d) within so_far (any_default ys i d (get_or ys i d) there)
