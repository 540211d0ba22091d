-- The lowest free slot, and lists by id or number that gain an entry.
use Rattle.std.proofs.Common.{◌≡◌, ◌≢◌, ◌⊎◌, ⊎_elim, inl, inr, ℕ, zero, suc, ◌+◌, ◌<◌, ◌≤◌, Bool, true, false, not, cond, ◌==◌, ◌&&◌, nat_lt, List, [], ◌∷◌, length, get_or, set, map, Some, None, refl, ap, sym, ◌∙◌, arith}
use Rattle.std.proofs.lemmas.Bool.{eq-eqb, eqb-true, cases_Bool, cases_eq, cond_both}
use Rattle.std.proofs.lemmas.Bool.Decides.{nat_tests}
use Rattle.std.proofs.lemmas.List.{get_or-map, length-map, get_or-set_other}
use Rattle.std.proofs.lemmas.List.Elements.{All-nil, All-cons, All-head, All-tail}
use Rattle.std.proofs.lemmas.List.Folds.{list_any_at}
use Rattle.std.proofs.lemmas.List.Kept.{AllPairs-cons}
use Rattle.std.specs.List.{All, AllPairs, Contains, find, filter, list_any, range_with_len}
use Rattle.encryption_roots.specs.ById.{at_id, with_id}
use Rattle.key_machine.specs.Free.{IsBlocked, IsLowestFree, AllBlocked}
use Rattle.key_machine.specs.Mount.{is_taken, is_free, free_slot}
use Rattle.key_machine.specs.Plain.{Plain}
use Rattle.key_machine.specs.Users.{generation_of, with_mount}
use Rattle.key_machine.proofs.KeyLists.{All-with_id}

-- ---- what is found in a range

record FoundIn (test : ℕ → Bool) (from n found : ℕ) : Type 0 where
  pub passes : test found ≡ true
  pub within : found < from + n
  pub lower : (other : ℕ) → from ≤ other → other < found → test other ≡ false

found_in : (test : ℕ → Bool) (n from found : ℕ) → find test (range_with_len from n) ≡ Some found → FoundIn test from n found
found_in test zero from found is = absurd (cc)
found_in test (suc n) from found is = ⊎_elim
    (λ (here : test from ≡ true).
    let both : Some from ≡ Some found = rw here at is in
    let same : from ≡ found = cc in
    record { passes = ap test (sym same) ∙ here; within = omega (arith, same); lower = λ other low below. absurd (omega (arith, low, below, same)) })
    (λ (fails : test from ≡ false).
    let later : FoundIn test (from + 1) n found = found_in test n (from + 1) found (rw fails at is) in
    record {
      passes = later.passes;
      within = omega (arith, later.within);
      lower = λ other low below.
          ⊎_elim (λ (same : other ≡ from). ap test same ∙ fails) (λ (apart : other ≢ from). later.lower other (grind arith) below) (cases_eq other from);
    })
    (cases_Bool (test from))

none_in : (test : ℕ → Bool) (n from : ℕ) → find test (range_with_len from n) ≡ None → (other : ℕ) → from ≤ other → other < from + n → test other ≡ false
none_in test zero from none other low below = absurd (omega (arith, low, below))
none_in test (suc n) from none other low below = ⊎_elim
    (λ (here : test from ≡ true). absurd (let some : Some from ≡ None = rw here at none in cc))
    (λ (fails : test from ≡ false).
    ⊎_elim (λ (same : other ≡ from). ap test same ∙ fails) (λ (apart : other ≢ from). none_in test n (from + 1) (rw fails at none) other (grind arith) (omega (arith, below)))
    (cases_eq other from))
    (cases_Bool (test from))

in_none : (test : ℕ → Bool) (n from : ℕ) → ((other : ℕ) → from ≤ other → other < from + n → test other ≡ false) → find test (range_with_len from n) ≡ None
in_none test zero from fails = refl
in_none test (suc n) from fails =
    let here : test from ≡ false = fails from (omega arith) (omega arith) in
    rw here (in_none test n (from + 1) (λ other low below. fails other (omega (arith, low)) (omega (arith, below))))

-- ---- taken slots

taken_in : (slot : ℕ) (mappings : List (ℕ × ℕ)) → list_any (λ mapping. mapping.1 == slot) mappings ≡ true → Contains (map (λ mapping. mapping.1) mappings) slot
taken_in slot [] any = absurd (cc)
taken_in slot (mapping ∷ mappings) any = ⊎_elim
    (λ (here : (mapping.1 == slot) ≡ true). (0, omega arith, eqb-true mapping.1 slot here))
    (λ (fails : (mapping.1 == slot) ≡ false).
    let later : Contains (map (λ (m : ℕ × ℕ). m.1) mappings) slot = taken_in slot mappings (rw fails at any) in
    (suc later.0, omega (arith, later.1), later.2))
    (cases_Bool (mapping.1 == slot))

pub mapped_slot : (p : Plain) (slot k : ℕ) (d : ℕ × ℕ) → k < length p.mapped → (get_or p.mapped k d).1 ≡ slot → is_taken p slot ≡ true
mapped_slot p slot k d within same = list_any_at (λ mapping. mapping.1 == slot) p.mapped k d within (eq-eqb (get_or p.mapped k d).1 slot same)

pub contained_slot : (p : Plain) (slot : ℕ) → Contains (map (λ mapping. mapping.1) p.mapped) slot → is_taken p slot ≡ true
contained_slot p slot contained =
    let inside : contained.0 < length p.mapped = omega (arith, contained.1, length-map p.mapped (λ mapping. mapping.1)) in
    mapped_slot p slot contained.0 (0, 0) inside (sym (get_or-map (λ (m : ℕ × ℕ). m.1) p.mapped contained.0 (0, 0) slot inside) ∙ contained.2)

pub untaken : (p : Plain) (slot : ℕ) → is_taken p slot ≡ false → All (λ mapping. mapping.1 ≢ slot) p.mapped
untaken p slot free k d within same = let taken : is_taken p slot ≡ true = mapped_slot p slot k d within same in cc

-- ---- free and blocked slots

both_of : (a b : Bool) → (not a && b) ≡ true → (a ≡ false) × (b ≡ true)
both_of true b both = absurd (cc)
both_of false b both = (refl, both)

one_of : (a b : Bool) → (not a && b) ≡ false → (a ≡ true) ⊎ (b ≡ false)
one_of true b one = inl refl
one_of false b one = inr one

blocked_by : (a b : Bool) → (a ≡ true) ⊎ (b ≡ false) → (not a && b) ≡ false
blocked_by true b one = refl
blocked_by false true one = ⊎_elim (λ (t : false ≡ true). absurd (cc)) (λ (f : true ≡ false). absurd (cc)) one
blocked_by false false one = refl

below_of : (a b : ℕ) → nat_lt a b ≡ true → a < b
below_of a b test = grind (arith, nat_tests)

above_of : (a b : ℕ) → nat_lt a b ≡ false → b ≤ a
above_of a b test = grind (arith, nat_tests)

not_below : (a b : ℕ) → b ≤ a → nat_lt a b ≡ false
not_below a b above = grind (arith, nat_tests)

blocked_is : (p : Plain) (slot : ℕ) → is_free p slot ≡ false → IsBlocked p slot
blocked_is p slot fails = ⊎_elim (λ (taken : is_taken p slot ≡ true). inl (taken_in slot p.mapped taken))
    (λ (used : nat_lt (generation_of p slot) 1073741823 ≡ false). inr (above_of (generation_of p slot) 1073741823 used))
    (one_of (is_taken p slot) (nat_lt (generation_of p slot) 1073741823) fails)

is_blocked : (p : Plain) (slot : ℕ) → IsBlocked p slot → is_free p slot ≡ false
is_blocked p slot blocked = blocked_by (is_taken p slot) (nat_lt (generation_of p slot) 1073741823)
    (⊎_elim (λ (taken : Contains (map (λ (m : ℕ × ℕ). m.1) p.mapped) slot). inl (contained_slot p slot taken))
    (λ (used : 1073741823 ≤ generation_of p slot). inr (not_below (generation_of p slot) 1073741823 used)) blocked)

pub lowest_free : (p : Plain) (slot : ℕ) → free_slot p ≡ Some slot → IsLowestFree p slot
lowest_free p slot found =
    let first : FoundIn (is_free p) 0 256 slot = found_in (is_free p) 256 0 slot found in
    let both : (is_taken p slot ≡ false) × (nat_lt (generation_of p slot) 1073741823 ≡ true) = both_of (is_taken p slot) (nat_lt (generation_of p slot) 1073741823) first.passes in
    record {
      there = first.within;
      idle = untaken p slot both.0;
      left = below_of (generation_of p slot) 1073741823 both.1;
      lower = λ other below. blocked_is p other (first.lower other (omega arith) below);
    }

pub all_blocked : (p : Plain) → free_slot p ≡ None → AllBlocked p
all_blocked p none slot within = blocked_is p slot (none_in (is_free p) 256 0 none slot (omega arith) within)

pub blocked_all : (p : Plain) → AllBlocked p → free_slot p ≡ None
blocked_all p blocked = in_none (is_free p) 256 0 (λ slot low within. is_blocked p slot (blocked slot within))

-- ---- one mapping more

head_of : {X : Type 0} (R : X → X → Type 0) (x : X) (xs : List X) → AllPairs R (x ∷ xs) → All (R x) xs
head_of R x xs pairs k d within = pairs 0 (suc k) d (omega arith) (omega arith)

tail_of : {X : Type 0} (R : X → X → Type 0) (x : X) (xs : List X) → AllPairs R (x ∷ xs) → AllPairs R xs
tail_of R x xs pairs i j d before within = pairs (suc i) (suc j) d (omega arith) (omega arith)

abbrev OtherSlots : ℕ × ℕ → ℕ × ℕ → Type 0
OtherSlots a b = a.1 ≢ b.1

pub slots_with : (id slot : ℕ) (mappings : List (ℕ × ℕ)) → AllPairs OtherSlots mappings → All (λ mapping. mapping.1 ≢ slot) mappings → AllPairs OtherSlots (with_id id slot mappings)
slots_with id slot [] apart free = AllPairs-cons OtherSlots (id, slot) [] (All-nil _) apart
slots_with id slot (mapping ∷ mappings) apart free =
    let Idle : ℕ × ℕ → Type 0 = λ other. other.1 ≢ slot in
    let later : AllPairs OtherSlots mappings = tail_of OtherSlots mapping mappings apart in
    let rest : All Idle mappings = All-tail Idle mapping mappings free in
    let above : All (OtherSlots (id, slot)) mappings = λ k d within same. rest k d within (sym same) in
    let all : All (OtherSlots (id, slot)) (mapping ∷ mappings) = λ k d within same. free k d within (sym same) in
    cond_both (nat_lt mapping.0 id) (mapping ∷ with_id id slot mappings) (cond (mapping.0 == id) ((id, slot) ∷ mappings) ((id, slot) ∷ mapping ∷ mappings)) (AllPairs OtherSlots)
    (λ lower.
    AllPairs-cons OtherSlots mapping (with_id id slot mappings)
    (All-with_id (OtherSlots mapping) id slot mappings (head_of OtherSlots mapping mappings apart) (All-head Idle mapping mappings free)) (slots_with id slot mappings later rest))
    (λ upper.
    cond_both (mapping.0 == id) ((id, slot) ∷ mappings) ((id, slot) ∷ mapping ∷ mappings) (AllPairs OtherSlots) (λ same. AllPairs-cons OtherSlots (id, slot) mappings above later)
    (λ other. AllPairs-cons OtherSlots (id, slot) (mapping ∷ mappings) all apart))

-- a new entry is among those with it, and so are the others where it replaces none
pub with_contains : (id slot at : ℕ) (mappings : List (ℕ × ℕ)) → at_id id mappings ≡ None → Contains (map (λ mapping. mapping.1) mappings) at → Contains (map (λ mapping. mapping.1) (with_id id slot mappings)) at
with_contains id slot at [] new (k, within, there) = absurd (omega (arith, within))
with_contains id slot at (mapping ∷ mappings) new (k, within, there) = ⊎_elim
    (λ (same : (mapping.0 == id) ≡ true). absurd (let some : Some mapping.1 ≡ None = rw same at new in cc))
    (λ (other : (mapping.0 == id) ≡ false).
    let slots : List (ℕ × ℕ) → List ℕ = λ ms. map (λ m. m.1) ms in
    cond_both (nat_lt mapping.0 id) (mapping ∷ with_id id slot mappings) (cond (mapping.0 == id) ((id, slot) ∷ mappings) ((id, slot) ∷ mapping ∷ mappings)) (λ ms. Contains (slots ms) at)
    (λ lower. behind mapping mappings (with_id id slot mappings) (with_contains id slot at mappings (rw other at new)) (k, within, there))
    (λ upper. rw other (suc k, omega (arith, within), there)))
    (cases_Bool (mapping.0 == id))
  where
    behind : (m : ℕ × ℕ) (before after : List (ℕ × ℕ)) → (Contains (map (λ m. m.1) before) at → Contains (map (λ m. m.1) after) at) → Contains (map (λ m. m.1) (m ∷ before)) at → Contains (map (λ m. m.1) (m ∷ after)) at
    behind m before after step (zero, inside, here) = (0, omega arith, here)
    behind m before after step (suc j, inside, here) = let later = step (j, omega (arith, inside), here) in (suc later.0, omega (arith, later.1), later.2)

-- ---- one mount more

pub all_with_mount : (P : ℕ → Type 0) (id : ℕ) (mounted : List ℕ) → All P mounted → P id → All P (with_mount id mounted)
all_with_mount P id [] all one = All-cons P id [] one all
all_with_mount P id (first ∷ later) all one =
    cond_both (nat_lt id first) (id ∷ first ∷ later) (first ∷ with_mount id later) (All P) (λ lower. All-cons P id (first ∷ later) one all)
    (λ upper. All-cons P first (with_mount id later) (All-head P first later all) (all_with_mount P id later (All-tail P first later all) one))

abbrev Rises : ℕ → ℕ → Type 0
Rises a b = a < b

pub mounts_rise : (id : ℕ) (mounted : List ℕ) → AllPairs Rises mounted → list_any (λ other. other == id) mounted ≡ false → AllPairs Rises (with_mount id mounted)
mounts_rise id [] rising new = AllPairs-cons Rises id [] (All-nil _) rising
mounts_rise id (first ∷ later) rising new =
    let above : All (Rises first) later = head_of Rises first later rising in
    ⊎_elim (λ (same : (first == id) ≡ true). absurd (let any : true ≡ false = rw same at new in cc))
    (λ (other : (first == id) ≡ false).
    cond_both (nat_lt id first) (id ∷ first ∷ later) (first ∷ with_mount id later) (AllPairs Rises)
    (λ lower.
    let front : id < first = below_of id first lower in
    AllPairs-cons Rises id (first ∷ later) (All-cons (Rises id) first later front (λ k d within. let higher : first < get_or later k d = above k d within in omega (arith, front, higher))) rising)
    (λ upper.
    let front : first < id = between first id other upper in
    AllPairs-cons Rises first (with_mount id later) (all_with_mount (Rises first) id later above front) (mounts_rise id later (tail_of Rises first later rising) (rw other at new))))
    (cases_Bool (first == id))
  where
    between : (a b : ℕ) → (a == b) ≡ false → nat_lt b a ≡ false → a < b
    between a b apart upper = grind (arith, nat_tests)

-- who is mounted, with one mount more
pub mounted_with : (id : ℕ) (mounted : List ℕ) → list_any (λ other. other == id) (with_mount id mounted) ≡ true
mounted_with id [] = let same : (id == id) ≡ true = eq-eqb id id refl in rw same refl
mounted_with id (first ∷ later) =
    let same : (id == id) ≡ true = eq-eqb id id refl in
    cond_both (nat_lt id first) (id ∷ first ∷ later) (first ∷ with_mount id later) (λ all. list_any (λ other. other == id) all ≡ true) (λ lower. rw same refl)
    (λ upper. ⊎_elim (λ (here : (first == id) ≡ true). rw here refl) (λ (other : (first == id) ≡ false). rw (other, mounted_with id later) refl) (cases_Bool (first == id)))

-- taken away again
pub mounted_without : (id : ℕ) (mounted : List ℕ) → list_any (λ other. other == id) mounted ≡ false → filter (λ other. not (other == id)) mounted ≡ mounted
mounted_without id [] none = refl
mounted_without id (first ∷ later) none = ⊎_elim (λ (same : (first == id) ≡ true). absurd (let any : true ≡ false = rw same at none in cc))
    (λ (other : (first == id) ≡ false). rw other (ap (λ rest. first ∷ rest) (mounted_without id later (rw other at none)))) (cases_Bool (first == id))

pub with_without : (id : ℕ) (mounted : List ℕ) → list_any (λ other. other == id) mounted ≡ false → filter (λ other. not (other == id)) (with_mount id mounted) ≡ mounted
with_without id [] none = let same : (id == id) ≡ true = eq-eqb id id refl in rw same refl
with_without id (first ∷ later) none =
    let same : (id == id) ≡ true = eq-eqb id id refl in
    ⊎_elim (λ (here : (first == id) ≡ true). absurd (let any : true ≡ false = rw here at none in cc))
    (λ (other : (first == id) ≡ false).
    cond_both (nat_lt id first) (id ∷ first ∷ later) (first ∷ with_mount id later) (λ all. filter (λ m. not (m == id)) all ≡ first ∷ later)
    (λ lower. rw same (mounted_without id (first ∷ later) none)) (λ upper. rw other (ap (λ rest. first ∷ rest) (with_without id later (rw other at none)))))
    (cases_Bool (first == id))

-- ---- generations

pub other_generation : (p : Plain) (slot other g : ℕ) → other ≢ slot → get_or (set p.gens slot g) other 0 ≡ get_or p.gens other 0
other_generation p slot other g apart = get_or-set_other p.gens slot other g 0 apart
