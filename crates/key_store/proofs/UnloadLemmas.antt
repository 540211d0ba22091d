-- What an unload closes: the mappings of a root's datasets, in order of id, up to a bound.
use Rattle.std.proofs.Common.{◌≡◌, ◌⊎◌, ⊎_elim, ℕ, suc, ◌+◌, ◌-◌, ◌^◌, min, ◌<◌, ◌≤◌, Bool, true, false, not, cond, ◌==◌, ◌&&◌, nat_lt, List, [], ◌∷◌, length, get_or, Option, Some, None, option_map, refl, ap, sym, ◌∙◌, subst, arith}
use Rattle.std.proofs.lemmas.Bool.{cases_Bool, cases_eq, eq-eqb, eqb-true}
use Rattle.std.proofs.lemmas.Bool.Decides.{nat_tests}
use Rattle.std.proofs.lemmas.List.Elements.{All-nil, All-cons, All-head, All-tail}
use Rattle.std.proofs.lemmas.List.Kept.{AllPairs-filter}
use Rattle.std.specs.Prelude.{vec_capacity}
use Rattle.std.specs.List.{All, filter, find, count_by}
use Rattle.encryption_roots.specs.ById.{IsRisingById, at_id, without_id}
use Rattle.key_machine.specs.Plain.{Plain, Hold, owner_of, is_same}
use Rattle.key_machine.specs.Reap.{without_mapping}
use Rattle.key_machine.specs.Sound.{Sound}
use Rattle.key_machine.specs.Unload.{InUse, is_owned, first_in_use, closed, closed_below, unloaded}
use Rattle.key_machine.specs.Users.{generation_of, is_mounted, users_of, is_used}
use Rattle.key_machine.proofs.KeyLists.{All-kept, at_id-filter, at_id-dropped, at_id_is}
use Rattle.key_machine.proofs.UnloadLaws.{unload_sound}
use Rattle.key_ciphers.specs.Ciphers.{ciphers}
use Rattle.mapping_words.specs.Told.{Told}
use Rattle.key_store.specs.Agrees.{Agrees, SameRefusals, IsRefused}
use Rattle.key_store.specs.State.{plain_of, IsKept}
use Rattle.key_store.specs.declared.state.KeyState.TheInside.{Inside}
use Rattle.key_store.proofs.OpenedLemmas.{AreOpened, dropped_opened}

-- ---- filters

pub filter_same : {X : Type 0} (one other : X → Bool) (xs : List X) → All (λ x. one x ≡ other x) xs → filter one xs ≡ filter other xs
filter_same one other [] all = refl
filter_same {X} one other (x ∷ xs) all =
    let Same : X → Type 0 = λ y. one y ≡ other y in
    let rest : filter one xs ≡ filter other xs = filter_same one other xs (All-tail Same x xs all) in
    ap (λ ys. cond (one x) (x ∷ ys) ys) rest ∙ ap (λ b. cond b (x ∷ filter other xs) (filter other xs)) (All-head Same x xs all)

pub filter_twice : {X : Type 0} (one other : X → Bool) (xs : List X) → filter one (filter other xs) ≡ filter (λ x. other x && one x) xs
filter_twice one other [] = refl
filter_twice one other (x ∷ xs) =
    let rest : filter one (filter other xs) ≡ filter (λ y. other y && one y) xs = filter_twice one other xs in
    ⊎_elim
    (λ (passes : other x ≡ true).
    ⊎_elim (λ (keeps : one x ≡ true). rw (passes, keeps) (ap (λ ys. x ∷ ys) rest)) (λ (drops : one x ≡ false). rw (passes, drops) rest) (cases_Bool (one x)))
    (λ (fails : other x ≡ false). rw fails rest) (cases_Bool (other x))

filter_all : {X : Type 0} (test : X → Bool) (xs : List X) → All (λ x. test x ≡ true) xs → filter test xs ≡ xs
filter_all test [] all = refl
filter_all {X} test (x ∷ xs) all =
    let Passes : X → Type 0 = λ y. test y ≡ true in
    rw (All-head Passes x xs all) (ap (λ ys. x ∷ ys) (filter_all test xs (All-tail Passes x xs all)))

-- what holds of each that is kept holds of each that passes
of_kept : {X : Type 0} (P : X → Type 0) (test : X → Bool) (xs : List X) → All P (filter test xs) → All (λ x. test x ≡ true → P x) xs
of_kept P test [] all = All-nil _
of_kept {X} P test (x ∷ xs) all =
    let Kept : X → Type 0 = λ y. test y ≡ true → P y in
    ⊎_elim
    (λ (passes : test x ≡ true).
    let both : All P (x ∷ filter test xs) = rw passes at all in
    All-cons Kept x xs (λ again. All-head P x (filter test xs) both) (of_kept P test xs (All-tail P x (filter test xs) both)))
    (λ (fails : test x ≡ false).
    let rest : All P (filter test xs) = rw fails at all in
    All-cons Kept x xs (λ passes. absurd (let both : true ≡ false = sym passes ∙ fails in cc)) (of_kept P test xs rest)) (cases_Bool (test x))

pub fewer_or_same : {X : Type 0} (test : X → Bool) (xs : List X) → length (filter test xs) ≤ length xs
fewer_or_same test [] = omega arith
fewer_or_same test (x ∷ xs) =
    let rest : length (filter test xs) ≤ length xs = fewer_or_same test xs in
    ⊎_elim (λ (passes : test x ≡ true). rw passes (omega (arith, rest))) (λ (fails : test x ≡ false). rw fails (omega (arith, rest))) (cases_Bool (test x))

-- one entry fewer
pub fewer : {X : Type 0} (id : ℕ) (value : X) (entries : List (ℕ × X)) → at_id id entries ≡ Some value → length (without_id id entries) < length entries
fewer id value [] there = absurd (cc)
fewer {X} id value (entry ∷ entries) there =
    ⊎_elim
    (λ (own : (entry.0 == id) ≡ true).
    let rest : length (without_id id entries) ≤ length entries = fewer_or_same (λ (e : ℕ × X). not (e.0 == id)) entries in
    rw own (omega (arith, rest)))
    (λ (other : (entry.0 == id) ≡ false).
    let rest : length (without_id id entries) < length entries = fewer id value entries (rw other at there) in
    rw other (omega (arith, rest))) (cases_Bool (entry.0 == id))

-- ---- the first that passes

-- it is there and passes, and those before it fail
record IsFirst (test : ℕ × ℕ → Bool) (xs : List (ℕ × ℕ)) (first : ℕ × ℕ) : Type 0 where
  pub passes : test first ≡ true
  pub there : at_id first.0 xs ≡ Some first.1
  pub before : All (λ m. m.0 < first.0 → test m ≡ false) xs

found_first : (test : ℕ × ℕ → Bool) (xs : List (ℕ × ℕ)) (first : ℕ × ℕ) → IsRisingById xs → find test xs ≡ Some first → IsFirst test xs first
found_first test [] first rising found = absurd (cc)
found_first test (x ∷ xs) first rising found =
    ⊎_elim
    (λ (passes : test x ≡ true).
    let both : Some x ≡ Some first = rw passes at found in
    let same : x ≡ first = cc in
    let own : (x.0 == x.0) ≡ true = eq-eqb x.0 x.0 refl in
    subst (λ (m : ℕ × ℕ). IsFirst test (x ∷ xs) m) same (record {
      passes = passes;
      there = rw own refl;
      before = All-cons (λ m. m.0 < x.0 → test m ≡ false) x xs (λ below. absurd (omega (arith, below)))
          (λ k d within below. absurd (let above : x.0 < (get_or xs k d).0 = rising 0 (suc k) d (omega arith) (omega arith) in omega (arith, above, below)));
    }))
    (λ (fails : test x ≡ false).
    let rest : IsFirst test xs first = found_first test xs first (λ i j d before within. rising (suc i) (suc j) d (omega arith) (omega arith)) (rw fails at found) in
    let Above : ℕ × ℕ → Type 0 = λ later. x.0 < later.0 in
    let above : Above (first.0, first.1) = at_id_is Above first.0 xs first.1 (λ k d within. rising 0 (suc k) d (omega arith) (omega arith)) rest.there in
    let apart : (x.0 == first.0) ≡ false = grind (arith, nat_tests) in
    record { passes = rest.passes; there = rw apart rest.there; before = All-cons (λ m. m.0 < first.0 → test m ≡ false) x xs (λ below. fails) rest.before })
    (cases_Bool (test x))

none_found : (test : ℕ × ℕ → Bool) (xs : List (ℕ × ℕ)) → find test xs ≡ None → All (λ m. test m ≡ false) xs
none_found test [] none = All-nil _
none_found test (x ∷ xs) none =
    ⊎_elim (λ (passes : test x ≡ true). absurd (let both : Some x ≡ None = rw passes at none in cc))
    (λ (fails : test x ≡ false). All-cons (λ m. test m ≡ false) x xs fails (none_found test xs (rw fails at none))) (cases_Bool (test x))

find_none : (test : ℕ × ℕ → Bool) (xs : List (ℕ × ℕ)) → All (λ m. test m ≡ false) xs → find test xs ≡ None
find_none test [] all = refl
find_none test (x ∷ xs) all = rw (All-head (λ m. test m ≡ false) x xs all) (find_none test xs (All-tail (λ m. test m ≡ false) x xs all))

find_first : (test : ℕ × ℕ → Bool) (id slot : ℕ) (xs : List (ℕ × ℕ)) → IsRisingById xs → at_id id xs ≡ Some slot → test (id, slot) ≡ true → All (λ m. m.0 < id → test m ≡ false) xs → find test xs ≡ Some (id, slot)
find_first test id slot [] rising there passes before = absurd (cc)
find_first test id slot (x ∷ xs) rising there passes before =
    let Fails : ℕ × ℕ → Type 0 = λ m. m.0 < id → test m ≡ false in
    ⊎_elim
    (λ (own : (x.0 == id) ≡ true).
    let both : Some x.1 ≡ Some slot = rw own at there in
    let here : x.1 ≡ slot = cc in
    let same : x ≡ (id, slot) = ap (λ n. (n, x.1)) (eqb-true x.0 id own) ∙ ap (λ s. (id, s)) here in
    let yields : test x ≡ true = ap test same ∙ passes in
    rw yields (ap (λ (m : ℕ × ℕ). Some m) same))
    (λ (other : (x.0 == id) ≡ false).
    let later : at_id id xs ≡ Some slot = rw other at there in
    let Above : ℕ × ℕ → Type 0 = λ m. x.0 < m.0 in
    let above : x.0 < id = at_id_is Above id xs slot (λ k d within. rising 0 (suc k) d (omega arith) (omega arith)) later in
    let fails : test x ≡ false = All-head Fails x xs before above in
    rw fails (find_first test id slot xs (λ i j d early within. rising (suc i) (suc j) d (omega arith) (omega arith)) later passes (All-tail Fails x xs before))) (cases_Bool (x.0 == id))

-- ---- how far the closes have come

-- The mappings of the root's datasets below a bound are gone, and none of them was mounted.
pub record IsClosedBelow (p now : Plain) (root bound : ℕ) : Type 0 where
  pub state : now ≡ record p { mapped = closed_below p root bound }
  pub idle : All (λ mapping. is_owned p root mapping ≡ true → mapping.0 < bound → is_mounted p mapping.0 ≡ false) p.mapped

not_below : (own below : Bool) → own ≡ true → not (own && below) ≡ true → below ≡ false
not_below true true own kept = absurd (cc)
not_below true false own kept = refl
not_below false below own kept = absurd (cc)

kept_above : (own below : Bool) → below ≡ false → not (own && below) ≡ true
kept_above true below above = ap not above
kept_above false below above = refl

all_below : (own below : Bool) → (own ≡ true → below ≡ true) → not (own && below) ≡ not own
all_below true below is = ap not (is refl)
all_below false below is = refl

both_off : (one other : Bool) → (one ≡ true → other ≡ false) → (one && other) ≡ false
both_off true other off = off refl
both_off false other off = refl

-- two bounds between which the root owns nothing
same_kept : (own one other : Bool) → (own ≡ true → one ≡ other) → not (own && one) ≡ not (own && other)
same_kept true one other same = ap not (same refl)
same_kept false one other same = refl

at_least : (a b : ℕ) → nat_lt a b ≡ false → b ≤ a
at_least a b test = grind (arith, nat_tests)

is_below : (a b : ℕ) → nat_lt a b ≡ true → a < b
is_below a b test = grind (arith, nat_tests)

not_less : (a b : ℕ) → (a < b → ⊥) → b ≤ a
not_less a b never = grind arith

below_alike : (n bound id : ℕ) → bound ≤ id → (n < bound) ⊎ (id ≤ n) → nat_lt n bound ≡ nat_lt n id
below_alike n bound id low side =
    ⊎_elim
    (λ (below : n < bound).
    let one : nat_lt n bound ≡ true = grind (arith, nat_tests) in
    let other : nat_lt n id ≡ true = grind (arith, nat_tests) in
    one ∙ sym other)
    (λ (above : id ≤ n).
    let one : nat_lt n bound ≡ false = grind (arith, nat_tests) in
    let other : nat_lt n id ≡ false = grind (arith, nat_tests) in
    one ∙ sym other) side

-- of a mapping that the root owns
stays : (n bound id : ℕ) → bound ≤ id → (n < bound) ⊎ (id ≤ n) → (not (nat_lt n bound) && not (n == id)) ≡ not (nat_lt n (id + 1))
stays n bound id low side =
    ⊎_elim
    (λ (below : n < bound).
    let one : nat_lt n bound ≡ true = grind (arith, nat_tests) in
    let other : nat_lt n (id + 1) ≡ true = grind (arith, nat_tests) in
    rw (one, other) refl)
    (λ (above : id ≤ n).
    let one : nat_lt n bound ≡ false = grind (arith, nat_tests) in
    ⊎_elim
    (λ (same : n ≡ id).
    let here : (n == id) ≡ true = eq-eqb n id same in
    let other : nat_lt n (id + 1) ≡ true = grind (arith, nat_tests) in
    rw (one, here, other) refl)
    (λ (apart : n ≡ id → ⊥).
    let here : (n == id) ≡ false = grind (arith, nat_tests) in
    let other : nat_lt n (id + 1) ≡ false = grind (arith, nat_tests) in
    rw (one, here, other) refl) (cases_eq n id)) side

-- where nobody holds a mapping beside its mount
users_are : (p : Plain) → p.users ≡ [] → (m : ℕ × ℕ) → users_of p m ≡ cond (is_mounted p m.0) 1 0
users_are p unheld m =
    ap (λ (users : List Hold). cond (is_mounted p m.0) 1 0 + count_by (λ hold. (hold.slot == m.1) && (hold.generation == generation_of p m.1)) users) unheld ∙ plus_none (cond (is_mounted p m.0) 1 0)
  where
    plus_none : (n : ℕ) → n + 0 ≡ n
    plus_none n = omega arith

unused : (p : Plain) → p.users ≡ [] → (m : ℕ × ℕ) → is_mounted p m.0 ≡ false → is_used p m ≡ false
unused p unheld m idle = ap (λ n. not (n == 0)) (users_are p unheld m ∙ ap (λ b. cond b 1 0) idle)

module _ (p : Plain) (root : ℕ) (rising : IsRisingById p.mapped) where
  abbrev own : ℕ × ℕ → Bool
  own mapping = is_owned p root mapping

  abbrev keep : ℕ → ℕ → Bool
  keep bound id = not (is_same root (owner_of p id) && nat_lt id bound)

  pub none_closed : IsClosedBelow p p root 0
  none_closed = record {
    state = ap (λ (m : List (ℕ × ℕ)). let q : Plain = record p { mapped = m } in q) (sym (filter_all (λ mapping. keep 0 mapping.0) p.mapped (λ k d within. all_above (own (get_or p.mapped k d)) (get_or p.mapped k d).0)));
    idle = λ k d within owned below. absurd (omega (arith, below));
  } where
    all_above : (b : Bool) (n : ℕ) → not (b && nat_lt n 0) ≡ true
    all_above b n = kept_above b (nat_lt n 0) (grind (arith, nat_tests))

  module _ (now : Plain) (bound : ℕ) (so_far : IsClosedBelow p now root bound) where
    pub rises_now : IsRisingById now.mapped
    rises_now = subst (λ (q : Plain). IsRisingById q.mapped) (sym so_far.state) (AllPairs-filter (λ a b. a.0 < b.0) (λ mapping. keep bound mapping.0) p.mapped rising)

    -- ---- a mapping that the root owns is left

    module _ (id slot : ℕ) (found : find (λ mapping. is_owned now root mapping) now.mapped ≡ Some (id, slot)) where
      abbrev left : List (ℕ × ℕ)
      left = closed_below p root bound

      first : IsFirst own left (id, slot)
      first =
          found_first own left (id, slot) (AllPairs-filter (λ a b. a.0 < b.0) (λ mapping. keep bound mapping.0) p.mapped rising)
          (subst (λ (q : Plain). find (λ mapping. is_owned q root mapping) q.mapped ≡ Some (id, slot)) so_far.state found)

      pub own_now : owner_of p id ≡ Some root
      own_now = owned_by root (owner_of p id) first.passes where
        owned_by : (at : ℕ) (owner : Option ℕ) → is_same at owner ≡ true → owner ≡ Some at
        owned_by at None same = absurd (cc)
        owned_by at (Some other) same = ap (λ r. Some r) (eqb-true other at same)

      kept : keep bound id ≡ true
      kept =
          ⊎_elim (λ (stays : keep bound id ≡ true). stays)
          (λ (gone : keep bound id ≡ false). absurd (let none : at_id id left ≡ None = at_id-dropped (keep bound) id p.mapped gone in let both : Some slot ≡ None = sym first.there ∙ none in cc)) (cases_Bool (keep bound id))

      low : bound ≤ id
      low = at_least id bound (not_below (is_same root (owner_of p id)) (nat_lt id bound) first.passes kept)

      pub there_before : at_id id p.mapped ≡ Some slot
      there_before = sym (at_id-filter (keep bound) id p.mapped kept) ∙ first.there

      pub there_now : at_id id now.mapped ≡ Some slot
      there_now = ap (λ (q : Plain). at_id id q.mapped) so_far.state ∙ first.there

      pub fewer_left : length (without_id id now.mapped) < length now.mapped
      fewer_left = fewer id slot now.mapped there_now

      -- the root owns nothing between the bound and the dataset
      sides : All (λ m. own m ≡ true → (m.0 < bound) ⊎ (id ≤ m.0)) p.mapped
      sides k d within owned =
          let m : ℕ × ℕ = get_or p.mapped k d in
          let Fails : ℕ × ℕ → Type 0 = λ other. other.0 < id → own other ≡ false in
          let fails : keep bound m.0 ≡ true → m.0 < id → own m ≡ false = of_kept Fails (λ mapping. keep bound mapping.0) p.mapped first.before k d within in
          by_side m.0 (nat_lt m.0 bound) refl (λ above. not_less m.0 id (λ lower. (let off : own m ≡ false = fails (kept_above (own m) (nat_lt m.0 bound) above) lower in let both : true ≡ false = sym owned ∙ off in cc)))
        where
          by_side : (n : ℕ) (below : Bool) → nat_lt n bound ≡ below → (nat_lt n bound ≡ false → id ≤ n) → (n < bound) ⊎ (id ≤ n)
          by_side n true is above = left_side (is_below n bound is)
            where
              left_side : n < bound → (n < bound) ⊎ (id ≤ n)
              left_side lower = grind arith
          by_side n false is above = right_side (above is)
            where
              right_side : id ≤ n → (n < bound) ⊎ (id ≤ n)
              right_side upper = grind arith

      -- the mapping is closed
      pub one_more : is_mounted now id ≡ false → IsClosedBelow p (without_mapping now id) root (id + 1)
      one_more unmounted_now = record {
        state = ap (λ (q : Plain). without_mapping q id) so_far.state ∙ ap (λ (m : List (ℕ × ℕ)). let q : Plain = record p { mapped = m } in q) less;
        idle = λ k d within owned below. by_place k d within owned below (sides k d within owned);
      } where
        unmounted : is_mounted p id ≡ false
        unmounted = sym (ap (λ (q : Plain). is_mounted q id) so_far.state) ∙ unmounted_now

        other_id : (b : Bool) (m : ℕ × ℕ) → own m ≡ b → (b ≡ true → (m.0 < bound) ⊎ (id ≤ m.0)) → (not (b && nat_lt m.0 bound) && not (m.0 == id)) ≡ not (b && nat_lt m.0 (id + 1))
        other_id true m is side = stays m.0 bound id low (side refl)
        other_id false m is side =
            let apart : (m.0 == id) ≡ false = grind_apart m.0 (λ same. (let owned : own m ≡ true = ap (λ n. is_same root (owner_of p n)) same ∙ first.passes in let both : true ≡ false = sym owned ∙ is in cc)) in
            ap not apart
          where
            grind_apart : (n : ℕ) → (n ≡ id → ⊥) → (n == id) ≡ false
            grind_apart n never = grind (arith, nat_tests)

        less : without_id id left ≡ closed_below p root (id + 1)
        less =
            filter_twice (λ (m : ℕ × ℕ). not (m.0 == id)) (λ m. keep bound m.0) p.mapped
            ∙ filter_same (λ m. keep bound m.0 && not (m.0 == id)) (λ m. keep (id + 1) m.0) p.mapped
            (λ k d within. other_id (own (get_or p.mapped k d)) (get_or p.mapped k d) refl (λ owned. sides k d within owned))

        by_place : (k : ℕ) (d : ℕ × ℕ) → k < length p.mapped → own (get_or p.mapped k d) ≡ true → (get_or p.mapped k d).0 < id + 1 → ((get_or p.mapped k d).0 < bound) ⊎ (id ≤ (get_or p.mapped k d).0)
            → is_mounted p (get_or p.mapped k d).0 ≡ false
        by_place k d within owned below side =
            ⊎_elim (λ (lower : (get_or p.mapped k d).0 < bound). so_far.idle k d within owned lower)
            (λ (upper : id ≤ (get_or p.mapped k d).0).
            let same : (get_or p.mapped k d).0 ≡ id = omega (arith, below, upper) in
            ap (λ n. is_mounted p n) same ∙ unmounted) side

      -- the mapping is in use
      pub closed_up_to : now ≡ record p { mapped = closed_below p root id }
      closed_up_to =
          so_far.state
          ∙ ap (λ (m : List (ℕ × ℕ)). let q : Plain = record p { mapped = m } in q)
          (filter_same (λ m. keep bound m.0) (λ m. keep id m.0) p.mapped
          (λ k d within. same_kept (own (get_or p.mapped k d)) (nat_lt (get_or p.mapped k d).0 bound) (nat_lt (get_or p.mapped k d).0 id) (λ owned. below_alike (get_or p.mapped k d).0 bound id low (sides k d within owned))))

      pub used_first : p.users ≡ [] → is_mounted now id ≡ true → (count : ℕ) → count ≡ 1 → first_in_use p root ≡ Some (let busy : InUse = record { dataset = id; count = count } in busy)
      used_first unheld mounted_now count one =
          let users : users_of p (id, slot) ≡ 1 = users_are p unheld (id, slot) ∙ ap (λ b. cond b 1 0) mounted in
          let used : is_used p (id, slot) ≡ true = ap (λ n. not (n == 0)) users in
          let passes : (own (id, slot) && is_used p (id, slot)) ≡ true = ap (λ b. b && is_used p (id, slot)) first.passes ∙ used in
          ap (λ (m : Option (ℕ × ℕ)). as_busy m) (find_first (λ m. own m && is_used p m) id slot p.mapped rising there_before passes before)
          ∙ ap (λ n. Some (let busy : InUse = record { dataset = id; count = n } in busy)) (users ∙ sym one)
        where
          as_busy : Option (ℕ × ℕ) → Option InUse
          as_busy m = option_map (λ mapping. record { dataset = mapping.0; count = users_of p mapping }) m

          mounted : is_mounted p id ≡ true
          mounted = sym (ap (λ (q : Plain). is_mounted q id) so_far.state) ∙ mounted_now

          before : All (λ m. m.0 < id → (own m && is_used p m) ≡ false) p.mapped
          before k d within lower =
              let m : ℕ × ℕ = get_or p.mapped k d in
              both_off (own m) (is_used p m) (λ owned. unused p unheld m (by_place k d within owned lower (sides k d within owned)))
            where
              by_place : (k : ℕ) (d : ℕ × ℕ) → k < length p.mapped → own (get_or p.mapped k d) ≡ true → (get_or p.mapped k d).0 < id → ((get_or p.mapped k d).0 < bound) ⊎ (id ≤ (get_or p.mapped k d).0)
                  → is_mounted p (get_or p.mapped k d).0 ≡ false
              by_place k d within owned lower side =
                  ⊎_elim (λ (below : (get_or p.mapped k d).0 < bound). so_far.idle k d within owned below)
                  (λ (upper : id ≤ (get_or p.mapped k d).0). absurd (omega (arith, lower, upper))) side

    -- ---- none is left

    module _ (found : find (λ mapping. is_owned now root mapping) now.mapped ≡ None) where
      bounded : All (λ m. own m ≡ true → nat_lt m.0 bound ≡ true) p.mapped
      bounded k d within owned =
          let m : ℕ × ℕ = get_or p.mapped k d in
          let none : find own (closed_below p root bound) ≡ None = subst (λ (q : Plain). find (λ mapping. is_owned q root mapping) q.mapped ≡ None) so_far.state found in
          let fails : keep bound m.0 ≡ true → own m ≡ false = of_kept (λ other. own other ≡ false) (λ mapping. keep bound mapping.0) p.mapped (none_found own (closed_below p root bound) none) k d within in
          ⊎_elim (λ (below : nat_lt m.0 bound ≡ true). below)
          (λ (above : nat_lt m.0 bound ≡ false). absurd (let off : own m ≡ false = fails (kept_above (own m) (nat_lt m.0 bound) above) in let both : true ≡ false = sym owned ∙ off in cc)) (cases_Bool (nat_lt m.0 bound))

      pub all_closed : now ≡ record p { mapped = closed p root }
      all_closed =
          so_far.state
          ∙ ap (λ (m : List (ℕ × ℕ)). let q : Plain = record p { mapped = m } in q)
          (filter_same (λ m. keep bound m.0) (λ m. not (own m)) p.mapped (λ k d within. all_below (own (get_or p.mapped k d)) (nat_lt (get_or p.mapped k d).0 bound) (bounded k d within)))

      pub none_used : p.users ≡ [] → first_in_use p root ≡ None
      none_used unheld =
          ap (λ (found : Option (ℕ × ℕ)). option_map (λ mapping. let busy : InUse = record { dataset = mapping.0; count = users_of p mapping } in busy) found)
          (find_none (λ m. own m && is_used p m) p.mapped (λ k d within.
          let m : ℕ × ℕ = get_or p.mapped k d in
          both_off (own m) (is_used p m) (λ owned. unused p unheld m (so_far.idle k d within owned (is_below m.0 bound (bounded k d within owned))))))

-- ---- the key goes

none_owned : (p : Plain) (root : ℕ) → closed p root ≡ p.mapped → All (λ mapping. is_owned p root mapping ≡ false) p.mapped
none_owned p root idle =
    let Other : ℕ × ℕ → Type 0 = λ mapping. is_owned p root mapping ≡ false in
    subst (λ (mappings : List (ℕ × ℕ)). All Other mappings) idle
    (All-kept (λ mapping. Unit {0}) Other (λ mapping. not (is_owned p root mapping)) p.mapped (λ mapping any kept. not_true (is_owned p root mapping) kept) (λ k d within. tt))
  where
    not_true : (b : Bool) → not b ≡ true → b ≡ false
    not_true true kept = absurd (cc)
    not_true false kept = refl

none_in_use : (p : Plain) (root : ℕ) → closed p root ≡ p.mapped → first_in_use p root ≡ None
none_in_use p root idle =
    ap (λ (found : Option (ℕ × ℕ)). option_map (λ mapping. let busy : InUse = record { dataset = mapping.0; count = users_of p mapping } in busy) found)
    (find_none (λ m. is_owned p root m && is_used p m) p.mapped
    (λ k d within. ap (λ b. b && is_used p (get_or p.mapped k d)) (none_owned p root idle k d within)))

pub drop_kept : (s made : Inside) (now : Plain) (root : ℕ) → plain_of s ≡ now → IsKept s → closed now root ≡ now.mapped → made ≡ record s { loaded = made.loaded } → made.loaded.items ≡ without_id root s.loaded.items
    → vec_capacity s.loaded ≤ vec_capacity made.loaded → IsKept made
drop_kept s made now root view_is kept idle_now same loaded_is loaded_room =
    let p : Plain = plain_of s in
    let idle : closed p root ≡ p.mapped = subst (λ (q : Plain). closed q root ≡ q.mapped) (sym view_is) idle_now in
    let sound : Sound ciphers (record p { loaded = without_id root p.loaded }) =
    subst (λ (m : List (ℕ × ℕ)). Sound ciphers (record p { mapped = m; loaded = without_id root p.loaded })) idle
    (subst (λ (found : Option InUse). Sound ciphers (unloaded p root found).state) (none_in_use p root idle) (unload_sound ciphers p (Some root) kept.sound)) in
    let opened : AreOpened ciphers (record p { loaded = without_id root p.loaded }) s.opened.items = dropped_opened ciphers p root s.opened.items kept.sound idle kept.opened in
    subst IsKept (sym same) (record {
      sound = subst (λ (keys : List (ℕ × List ℕ)). Sound ciphers (record p { loaded = keys })) (sym loaded_is) sound;
      records = kept.records;
      sizes = kept.sizes;
      props = kept.props;
      by_family = kept.by_family;
      opened = subst (λ (keys : List (ℕ × List ℕ)). AreOpened ciphers (record p { loaded = keys }) s.opened.items) (sym loaded_is) opened;
      mkeys = kept.mkeys;
      room = record {
        datasets = kept.room.datasets;
        records = kept.room.records;
        loaded = omega (arith, kept.room.loaded, loaded_room);
        mapped = kept.room.mapped;
        mounted = kept.room.mounted;
        opened = kept.room.opened;
        mkeys = kept.room.mkeys;
      };
    })

-- once the root's mappings are closed, none is left
pub none_left : (p q : Plain) (root : ℕ) → q ≡ record p { mapped = closed p root } → closed q root ≡ q.mapped
none_left p q root closed_is =
    subst (λ (r : Plain). closed r root ≡ r.mapped) (sym closed_is)
    (filter_twice (λ m. not (is_owned p root m)) (λ m. not (is_owned p root m)) p.mapped
    ∙ filter_same (λ m. not (is_owned p root m) && not (is_owned p root m)) (λ m. not (is_owned p root m)) p.mapped (λ k d within. both_same (not (is_owned p root (get_or p.mapped k d)))))
  where
    both_same : (b : Bool) → (b && b) ≡ b
    both_same true = refl
    both_same false = refl

-- a key that goes changes no slot
pub agrees_without : (t : Told) (p q : Plain) (keys : List (ℕ × List ℕ)) → q ≡ record p { loaded = keys } → Agrees t p → Agrees t q
agrees_without t p q keys is agrees =
    let same : Agrees t (record p { loaded = keys }) = record { slots = agrees.slots; each = agrees.each } in
    subst (λ (r : Plain). Agrees t r) (sym is) same

-- ---- refused closes

pub same_since : (a b c : Told) → SameRefusals a b → SameRefusals b c → SameRefusals a c
same_since a b c one other = record { refused = other.refused ∙ one.refused; last = other.last ∙ one.last }

pub refused_since : (a b c : Told) (slot count found : ℕ) → SameRefusals a b → count ≡ found → IsRefused b c slot found → IsRefused a c slot count
refused_since a b c slot count found same counted refused = record {
  refused = refused.refused ∙ ap (λ n. min (n + 1) (2 ^ 64 - 1)) same.refused;
  word = refused.word;
  last = refused.last;
  in_use = refused.in_use;
  counted = refused.counted ∙ sym counted;
}
