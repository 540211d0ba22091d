-- Finite maps from ids: what is found after a change, that the order is kept, and a change by place.
use Rattle.std.proofs.Common.{◌≡◌, ◌≢◌, ◌⊎◌, ⊎_elim, ℕ, zero, suc, ◌<◌, ◌≤◌, true, false, not, cond, ◌==◌, nat_lt, List, [], ◌∷◌, length, get_or, set, Some, None, refl, ap, arith}
use Rattle.std.proofs.lemmas.Bool.Decides.{nat_tests}
use Rattle.std.proofs.lemmas.List.Elements.{recursion_from_All, All-from_recursion, All-get_or}
use Rattle.std.specs.List.{AllByRecursion, AllWithin, insert}
use Rattle.std.specs.List.Sorted.{IsPartitionedBy}
use Rattle.encryption_roots.specs.ById.{IsRisingById, at_id, with_id, without_id}

lower : (a b : ℕ) → a < b → nat_lt a b ≡ true
lower a b h = grind (arith, nat_tests)

not_lower : (a b : ℕ) → b ≤ a → nat_lt a b ≡ false
not_lower a b h = grind (arith, nat_tests)

same : (a b : ℕ) → a ≡ b → (a == b) ≡ true
same a b h = grind (arith, nat_tests)

other : (a b : ℕ) → a ≢ b → (a == b) ≡ false
other a b h = grind (arith, nat_tests)

greater : (low high : ℕ) → low ≤ high → high ≢ low → low < high
greater low high le apart = grind arith

-- the order by recursion on the list
abbrev pub Rises : {X : Type 0} → List (ℕ × X) → Type 0
Rises [] = Unit {0}
Rises (entry ∷ entries) = AllByRecursion (λ later. entry.0 < later.0) entries × Rises entries

pub rises : {X : Type 0} (entries : List (ℕ × X)) → IsRisingById entries → Rises entries
rises [] ordered = tt
rises (entry ∷ entries) ordered =
    (recursion_from_All (λ later. entry.0 < later.0) entries (λ k d within. ordered 0 (suc k) d (omega arith) (omega arith)), rises entries (λ i j d before within. ordered (suc i) (suc j) d (omega arith) (omega arith)))

pub rising : {X : Type 0} (entries : List (ℕ × X)) → Rises entries → (i j : ℕ) (d : ℕ × X) → i < j → j < length entries → (get_or entries i d).0 < (get_or entries j d).0
rising [] r i j d before within = absurd (omega arith)
rising (entry ∷ entries) r zero zero d before within = absurd (omega arith)
rising (entry ∷ entries) r (suc i) zero d before within = absurd (omega arith)
rising (entry ∷ entries) r zero (suc j) d before within =
    All-get_or (λ later. entry.0 < later.0) entries j d (omega arith) (All-from_recursion (λ later. entry.0 < later.0) entries r.0)
rising (entry ∷ entries) r (suc i) (suc j) d before within = rising entries r.1 i j d (omega arith) (omega arith)

-- what holds of each entry holds of each after a change
all-with_id : {X : Type 0} (P : ℕ × X → Type 0) (id : ℕ) (value : X) (entries : List (ℕ × X)) → AllByRecursion P entries → P (id, value) → AllByRecursion P (with_id id value entries)
all-with_id P id value [] all one = (one, tt)
all-with_id P id value (entry ∷ entries) all one =
    elim (nat_lt entry.0 id) as (λ b. AllByRecursion P (cond b (entry ∷ with_id id value entries) (cond (entry.0 == id) ((id, value) ∷ entries) ((id, value) ∷ entry ∷ entries)))) [
      | true ↦ (all.0, all-with_id P id value entries all.1 one)
      | false ↦ elim (entry.0 == id) as (λ b. AllByRecursion P (cond b ((id, value) ∷ entries) ((id, value) ∷ entry ∷ entries))) [ true ↦ (one, all.1) | false ↦ (one, all) ]
    ]

all-without_id : {X : Type 0} (P : ℕ × X → Type 0) (id : ℕ) (entries : List (ℕ × X)) → AllByRecursion P entries → AllByRecursion P (without_id id entries)
all-without_id P id [] all = tt
all-without_id P id (entry ∷ entries) all =
    elim (not (entry.0 == id)) as (λ b. AllByRecursion P (cond b (entry ∷ without_id id entries) (without_id id entries))) [ true ↦ (all.0, all-without_id P id entries all.1) | false ↦ all-without_id P id entries all.1 ]

-- what is behind a lower entry is behind this one
all-above : {X : Type 0} (low high : ℕ) (entries : List (ℕ × X)) → low ≤ high → AllByRecursion (λ later. high < later.0) entries → AllByRecursion (λ later. low < later.0) entries
all-above low high [] le all = tt
all-above low high (entry ∷ entries) le all = (omega (arith, all.0), all-above low high entries le all.1)

rises-with_id : {X : Type 0} (id : ℕ) (value : X) (entries : List (ℕ × X)) → Rises entries → Rises (with_id id value entries)
rises-with_id id value [] r = (tt, tt)
rises-with_id id value (entry ∷ entries) r =
    let cases : ((nat_lt entry.0 id ≡ true) × (entry.0 < id)) ⊎ ((nat_lt entry.0 id ≡ false) × (id ≤ entry.0)) = grind (arith, nat_tests) in
    let equal : ((entry.0 == id) ≡ true) × (entry.0 ≡ id) ⊎ ((entry.0 == id) ≡ false) × (entry.0 ≢ id) = grind (arith, nat_tests) in
    ⊎_elim
    (λ c. rw c.0 (all-with_id (λ later. entry.0 < later.0) id value entries r.0 c.1, rises-with_id id value entries r.1))
    (λ c. ⊎_elim
    (λ e. rw (c.0, e.0) (all-above id entry.0 entries c.1 r.0, r.1))
    (λ e. rw (c.0, e.0) ((greater id entry.0 c.1 e.1, all-above id entry.0 entries c.1 r.0), r)) equal) cases

rises-without_id : {X : Type 0} (id : ℕ) (entries : List (ℕ × X)) → Rises entries → Rises (without_id id entries)
rises-without_id id [] r = tt
rises-without_id id (entry ∷ entries) r =
    elim (not (entry.0 == id)) as (λ b. Rises (cond b (entry ∷ without_id id entries) (without_id id entries))) [
      | true ↦ (all-without_id (λ later. entry.0 < later.0) id entries r.0, rises-without_id id entries r.1)
      | false ↦ rises-without_id id entries r.1
    ]

-- both changes keep the order
pub IsRisingById-with_id : {X : Type 0} (id : ℕ) (value : X) (entries : List (ℕ × X)) → IsRisingById entries → IsRisingById (with_id id value entries)
IsRisingById-with_id id value entries ordered = rising (with_id id value entries) (rises-with_id id value entries (rises entries ordered))

pub IsRisingById-without_id : {X : Type 0} (id : ℕ) (entries : List (ℕ × X)) → IsRisingById entries → IsRisingById (without_id id entries)
IsRisingById-without_id id entries ordered = rising (without_id id entries) (rises-without_id id entries (rises entries ordered))

-- what is found after a change: at the id, and at another one
pub at_id-with_id : {X : Type 0} (id : ℕ) (value : X) (entries : List (ℕ × X)) → at_id id (with_id id value entries) ≡ Some value
at_id-with_id id value [] = rw (same id id refl) refl
at_id-with_id id value (entry ∷ entries) =
    let cases : ((nat_lt entry.0 id ≡ true) × ((entry.0 == id) ≡ false)) ⊎ (nat_lt entry.0 id ≡ false) = grind (arith, nat_tests) in
    ⊎_elim
    (λ c. rw (c.0, c.1) (at_id-with_id id value entries))
    (λ c. rw c (elim (entry.0 == id) as (λ b. at_id id (cond b ((id, value) ∷ entries) ((id, value) ∷ entry ∷ entries)) ≡ Some value) [ true ↦ rw (same id id refl) refl | false ↦ rw (same id id refl) refl ])) cases

pub at_id-with_id_other : {X : Type 0} (id at : ℕ) (value : X) (entries : List (ℕ × X)) → at ≢ id → at_id at (with_id id value entries) ≡ at_id at entries
at_id-with_id_other id at value [] apart =
    let unlike : (id == at) ≡ false = grind (arith, nat_tests) in
    rw unlike refl
at_id-with_id_other id at value (entry ∷ entries) apart =
    let unlike : (id == at) ≡ false = grind (arith, nat_tests) in
    let rest : at_id at (with_id id value entries) ≡ at_id at entries = at_id-with_id_other id at value entries apart in
    elim (nat_lt entry.0 id) as (λ b. at_id at (cond b (entry ∷ with_id id value entries) (cond (entry.0 == id) ((id, value) ∷ entries) ((id, value) ∷ entry ∷ entries))) ≡ at_id at (entry ∷ entries)) [
      | true ↦ ap (λ found. cond (entry.0 == at) (Some entry.1) found) rest
      | false ↦ at_place id at value entry entries unlike
    ] where
      at_place : {X : Type 0} (id at : ℕ) (value : X) (entry : ℕ × X) (entries : List (ℕ × X)) → (id == at) ≡ false
          → at_id at (cond (entry.0 == id) ((id, value) ∷ entries) ((id, value) ∷ entry ∷ entries)) ≡ at_id at (entry ∷ entries)
      at_place id at value entry entries unlike =
          let cases : (((entry.0 == id) ≡ true) × ((entry.0 == at) ≡ false)) ⊎ ((entry.0 == id) ≡ false) = grind (arith, nat_tests) in
          ⊎_elim (λ c. rw (c.0, unlike, c.1) refl) (λ (c : (entry.0 == id) ≡ false). rw (c, unlike) refl) cases

pub at_id-without_id : {X : Type 0} (id : ℕ) (entries : List (ℕ × X)) → at_id id (without_id id entries) ≡ None
at_id-without_id id [] = refl
at_id-without_id id (entry ∷ entries) =
    let cases : ((entry.0 == id) ≡ true) ⊎ ((entry.0 == id) ≡ false) = grind (arith, nat_tests) in
    ⊎_elim (λ (c : (entry.0 == id) ≡ true). rw c (at_id-without_id id entries)) (λ (c : (entry.0 == id) ≡ false). rw (c, c) (at_id-without_id id entries)) cases

pub at_id-without_id_other : {X : Type 0} (id at : ℕ) (entries : List (ℕ × X)) → at ≢ id → at_id at (without_id id entries) ≡ at_id at entries
at_id-without_id_other id at [] apart = refl
at_id-without_id_other id at (entry ∷ entries) apart =
    let rest : at_id at (without_id id entries) ≡ at_id at entries = at_id-without_id_other id at entries apart in
    let cases : (((entry.0 == id) ≡ true) × ((entry.0 == at) ≡ false)) ⊎ ((entry.0 == id) ≡ false) = grind (arith, nat_tests) in
    ⊎_elim (λ c. rw (c.0, c.1) rest) (λ (c : (entry.0 == id) ≡ false). rw c (ap (λ found. cond (entry.0 == at) (Some entry.1) found) rest)) cases

-- a change by place, where those before the place are lower
pub with_id-replaced : {X : Type 0} (id : ℕ) (value : X) (entries : List (ℕ × X)) (i : ℕ) (d : ℕ × X) → i < length entries → AllWithin (λ entry. entry.0 < id) entries 0 i → (get_or entries i d).0 ≡ id
    → set entries i (id, value) ≡ with_id id value entries
with_id-replaced id value [] i d within below here = absurd (omega arith)
with_id-replaced id value (entry ∷ entries) zero d within below here = rw (not_lower entry.0 id (omega (arith, here)), same entry.0 id here) refl
with_id-replaced id value (entry ∷ entries) (suc i) d within below here =
    rw (lower entry.0 id (below 0 d (omega arith) (omega arith))) (ap (λ rest. entry ∷ rest) (with_id-replaced id value entries i d (omega arith) (λ k e from h. below (suc k) e (omega arith) (omega arith)) here))

pub with_id-added : {X : Type 0} (id : ℕ) (value : X) (entries : List (ℕ × X)) (i : ℕ) → i ≤ length entries → AllWithin (λ entry. entry.0 < id) entries 0 i → AllWithin (λ entry. id ≤ entry.0) entries i (length entries)
    → ((d : ℕ × X) → i < length entries → (get_or entries i d).0 ≢ id) → insert entries i (id, value) ≡ with_id id value entries
with_id-added id value [] zero within below above apart = refl
with_id-added id value [] (suc i) within below above apart = absurd (omega arith)
with_id-added id value (entry ∷ entries) zero within below above apart =
    rw (not_lower entry.0 id (above 0 entry (omega arith) (omega arith)), other entry.0 id (apart entry (omega arith))) refl
with_id-added id value (entry ∷ entries) (suc i) within below above apart =
    rw (lower entry.0 id (below 0 entry (omega arith) (omega arith)))
    (ap (λ rest. entry ∷ rest)
    (with_id-added id value entries i (omega arith) (λ k e from h. below (suc k) e (omega arith) (omega arith)) (λ k e from h. above (suc k) e (omega arith) (omega arith)) (λ e h. apart e (omega arith))))

-- a look-up by place
pub at_id-found : {X : Type 0} (id : ℕ) (entries : List (ℕ × X)) (i : ℕ) (d : ℕ × X) → i < length entries → AllWithin (λ entry. entry.0 < id) entries 0 i → (get_or entries i d).0 ≡ id
    → at_id id entries ≡ Some (get_or entries i d).1
at_id-found id [] i d within below here = absurd (omega arith)
at_id-found id (entry ∷ entries) zero d within below here = rw (same entry.0 id here) refl
at_id-found id (entry ∷ entries) (suc i) d within below here =
    let before : entry.0 < id = below 0 d (omega arith) (omega arith) in
    rw (other entry.0 id (λ e. omega arith)) (at_id-found id entries i d (omega arith) (λ k e from h. below (suc k) e (omega arith) (omega arith)) here)

at_id-missed : {X : Type 0} (id : ℕ) (entries : List (ℕ × X)) → ((k : ℕ) (d : ℕ × X) → k < length entries → (get_or entries k d).0 ≢ id) → at_id id entries ≡ None
at_id-missed id [] apart = refl
at_id-missed id (entry ∷ entries) apart =
    rw (other entry.0 id (apart 0 entry (omega arith))) (at_id-missed id entries (λ k d h. apart (suc k) d (omega arith)))

-- where no entry stands at the place, none has the id
pub at_id-missed_at : {X : Type 0} (id : ℕ) (entries : List (ℕ × X)) (i : ℕ) → IsRisingById entries → AllWithin (λ entry. entry.0 < id) entries 0 i → AllWithin (λ entry. id ≤ entry.0) entries i (length entries)
    → ((d : ℕ × X) → i < length entries → (get_or entries i d).0 ≢ id) → at_id id entries ≡ None
at_id-missed_at {X = X} id entries i ordered below above apart = at_id-missed id entries apart_at where
  apart_at : (k : ℕ) (d : ℕ × X) → k < length entries → (get_or entries k d).0 ≢ id
  apart_at k d within equal =
      let cases : (k < i) ⊎ ((k ≡ i) ⊎ (i < k)) = grind arith in
      ⊎_elim (λ (c : k < i). let lower_here : (get_or entries k d).0 < id = below k d (omega arith) c in omega arith)
      (λ rest. ⊎_elim (λ (c : k ≡ i). apart d (omega arith) (rw c at equal))
      (λ (c : i < k).
      let first : id ≤ (get_or entries i d).0 = above i d (omega arith) (omega arith) in
      let higher : (get_or entries i d).0 < (get_or entries k d).0 = ordered i k d c within in
      omega arith) rest) cases

passed : (a b : ℕ) → nat_lt a b ≡ true → a < b
passed a b h = grind (arith, nat_tests)

failed : (a b : ℕ) → nat_lt a b ≡ false → b ≤ a
failed a b h = grind (arith, nat_tests)

-- the place by the test that splits a list
pub partitioned : {X : Type 0} (id : ℕ) (entries : List (ℕ × X)) → IsRisingById entries → IsPartitionedBy (λ entry. nat_lt entry.0 id) entries
partitioned id entries ordered i j d before within later =
    let cases : (i ≡ j) ⊎ (i < j) = grind arith in
    ⊎_elim (λ (c : i ≡ j). rw c later)
    (λ (c : i < j).
    let higher : (get_or entries i d).0 < (get_or entries j d).0 = ordered i j d c within in
    let low : (get_or entries j d).0 < id = passed (get_or entries j d).0 id later in
    lower (get_or entries i d).0 id (omega arith)) cases

pub below_place : {X : Type 0} (id : ℕ) (entries : List (ℕ × X)) (i : ℕ) → AllWithin (λ entry. nat_lt entry.0 id ≡ true) entries 0 i → AllWithin (λ entry. entry.0 < id) entries 0 i
below_place id entries i split k d from within = passed (get_or entries k d).0 id (split k d from within)

pub above_place : {X : Type 0} (id : ℕ) (entries : List (ℕ × X)) (i : ℕ) → AllWithin (λ entry. nat_lt entry.0 id ≡ false) entries i (length entries) → AllWithin (λ entry. id ≤ entry.0) entries i (length entries)
above_place id entries i split k d from within = failed (get_or entries k d).0 id (split k d from within)
