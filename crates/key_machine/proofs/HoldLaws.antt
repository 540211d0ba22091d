-- Entries by number stay in order, and one rider's holds are at most 65535.
use Rattle.std.proofs.Common.{◌≡◌, ℕ, suc, zero, ◌*◌, ◌<◌, ◌≤◌, Bool, true, false, cond, ◌==◌, nat_lt, List, [], ◌∷◌, length, get_or, map, replicate, refl, ap, sym, ◌∙◌, arith}
use Rattle.std.proofs.lemmas.Bool.Decides.{nat_tests}
use Rattle.std.proofs.lemmas.List.{length-replicate, get_or-replicate}
use Rattle.std.proofs.lemmas.List.Folds.{sum_by-replicate}
use Rattle.std.proofs.lemmas.List.Elements.{All-nil, All-cons, All-head, All-tail, All-replicate}
use Rattle.std.specs.List.{All, AllPairs, Contains, count_by}
use Rattle.key_machine.specs.Plain.{Hold}
use Rattle.key_machine.specs.Users.{generation_of, with_entry}
use Rattle.key_machine.specs.Sound.{SoundUsers}
use Rattle.key_machine.specs.Sample.{sample, held_by_one}

module _ {X : Type 0} (number : X → ℕ) where
  abbrev InOrder : List X → Type 0
  InOrder xs = AllPairs (λ a b. number a ≤ number b) xs

  tail_in_order : (x : X) (xs : List X) → InOrder (x ∷ xs) → InOrder xs
  tail_in_order x xs order i j d before within = order (suc i) (suc j) d (omega arith) (omega arith)

  head_below : (x : X) (xs : List X) → InOrder (x ∷ xs) → All (λ y. number x ≤ number y) xs
  head_below x xs order k d within = order 0 (suc k) d (omega arith) (omega arith)

  cons_in_order : (x : X) (xs : List X) → All (λ y. number x ≤ number y) xs → InOrder xs → InOrder (x ∷ xs)
  cons_in_order x xs below order i zero d before within = absurd (omega (arith, before))
  cons_in_order x xs below order zero (suc j) d before within = below j d (omega arith)
  cons_in_order x xs below order (suc i) (suc j) d before within = order i j d (omega arith) (omega arith)

  all_with : (P : X → Type 0) (x : X) (xs : List X) → All P xs → P x → All P (with_entry number x xs)
  all_with P x [] all one = All-cons P x [] one all
  all_with P x (y ∷ ys) all one =
      elim (nat_lt (number x) (number y)) as (λ b. All P (cond b (x ∷ y ∷ ys) (y ∷ with_entry number x ys))) [
        | true ↦ All-cons P x (y ∷ ys) one all
        | false ↦ All-cons P y (with_entry number x ys) (All-head P y ys all) (all_with P x ys (All-tail P y ys all) one)
      ]

  lower : (x y : X) → nat_lt (number x) (number y) ≡ true → number x ≤ number y
  lower x y test = grind (arith, nat_tests)

  upper : (x y : X) → nat_lt (number x) (number y) ≡ false → number y ≤ number x
  upper x y test = grind (arith, nat_tests)

  pub with_entry_in_order : (x : X) (xs : List X) → InOrder xs → InOrder (with_entry number x xs)
  with_entry_in_order x [] order = cons_in_order x [] (All-nil _) order
  with_entry_in_order x (y ∷ ys) order =
      (elim (nat_lt (number x) (number y)) as (λ b. nat_lt (number x) (number y) ≡ b → InOrder (cond b (x ∷ y ∷ ys) (y ∷ with_entry number x ys))) [
        | true ↦ (λ test.
            let front : number x ≤ number y = lower x y test in
            cons_in_order x (y ∷ ys) (All-cons (λ z. number x ≤ number z) y ys front (λ k d within. let above : number y ≤ number (get_or ys k d) = head_below y ys order k d within in omega (arith, front, above))) order)
        | false ↦ (λ test.
            cons_in_order y (with_entry number x ys) (all_with (λ z. number y ≤ number z) x ys (head_below y ys order) (upper x y test)) (with_entry_in_order x ys (tail_in_order y ys order)))
      ]) refl

-- ---- one rider's holds

abbrev hold : Hold
hold = record { rider = 7; slot = 1; generation = 1 }

holds_of : (n rider : ℕ) → count_by (λ (h : Hold). h.rider == rider) (replicate n hold) ≡ n * cond (7 == rider) 1 0
holds_of n rider = sum_by-replicate (λ (h : Hold). cond (h.rider == rider) 1 0) n hold

at_most_all : (n : ℕ) (b : Bool) → n * cond b 1 0 ≤ n
at_most_all n true = omega arith
at_most_all n false = omega arith

each : (n i : ℕ) (d : Hold) → i < n → get_or (replicate n hold) i d ≡ hold
each n i d within = get_or-replicate n i hold d within

pub few_holds : (n : ℕ) → n ≤ 65535 → SoundUsers (held_by_one n)
few_holds n few = record {
  one = λ i j d before within same.
      let all : length (replicate n hold) ≡ n = length-replicate n hold in
      let first : get_or (replicate n hold) i d ≡ hold = each n i d (omega (arith, before, within, all)) in
      let second : get_or (replicate n hold) j d ≡ hold = each n j d (omega (arith, within, all)) in
      let alike : get_or (replicate n hold) i d ≡ get_or (replicate n hold) j d = first ∙ sym second in
      (ap (λ (h : Hold). h.slot) alike, ap (λ (h : Hold). h.generation) alike);
  mapped = All-replicate (λ (h : Hold). Contains (map (λ mapping. mapping.1) sample.mapped) h.slot) n hold (1, omega arith, refl);
  present = All-replicate (λ (h : Hold). h.generation ≡ generation_of sample h.slot) n hold refl;
  few = λ rider. omega (arith, holds_of n rider, at_most_all n (7 == rider), few);
  riders = All-replicate (λ (h : Hold). (1 ≤ h.rider) × (h.rider ≤ 32)) n hold (omega arith, omega arith);
}

pub not_more_holds : (n : ℕ) → SoundUsers (held_by_one n) → n ≤ 65535
not_more_holds n sound = omega (arith, holds_of n 7, sound.few 7)
