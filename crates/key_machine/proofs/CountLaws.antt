-- What `counts` shows is in order of id.
use Rattle.std.proofs.Common.{◌≡◌, ℕ, suc, ◌<◌, List, [], ◌∷◌, map, refl, sym, subst, arith}
use Rattle.std.proofs.lemmas.List.Elements.{All-nil, All-cons, All-head, All-tail}
use Rattle.std.proofs.lemmas.List.Kept.{AllPairs-cons, AllPairs-filter}
use Rattle.std.specs.List.{All, AllPairs, filter}
use Rattle.encryption_roots.specs.ById.{IsRisingById}
use Rattle.key_machine.specs.Counts.{is_opened, counts}
use Rattle.key_machine.specs.Plain.{Plain, Ciphers, Stored}
use Rattle.key_machine.specs.Sound.{Sound}
use Rattle.key_machine.specs.Users.{generation_of, users_of, mkey_users, wkey_users}

-- entries in order of id, shown as what has the same numbers
module _ {X Y : Type 0} (shown : ℕ × X → Y) (number : Y → ℕ) (same : (entry : ℕ × X) → number (shown entry) ≡ entry.0) where
  above : (id : ℕ) (entries : List (ℕ × X)) → All (λ entry. id < entry.0) entries → All (λ y. id < number y) (map shown entries)
  above id [] all = All-nil _
  above id (entry ∷ entries) all =
      let Above : ℕ × X → Type 0 = λ later. id < later.0 in
      let here : id < entry.0 = All-head Above entry entries all in
      All-cons (λ (y : Y). id < number y) (shown entry) (map shown entries) (subst (λ (n : ℕ). id < n) (sym (same entry)) here) (above id entries (All-tail Above entry entries all))

  rising_shown : (entries : List (ℕ × X)) → IsRisingById entries → AllPairs (λ a b. number a < number b) (map shown entries)
  rising_shown [] rising = λ i j d before within. absurd (omega arith)
  rising_shown (entry ∷ entries) rising =
      let later : All (λ (y : Y). entry.0 < number y) (map shown entries) = above entry.0 entries (λ k d within. rising 0 (suc k) d (omega arith) (omega arith)) in
      AllPairs-cons (λ (a b : Y). number a < number b) (shown entry) (map shown entries) (subst (λ (n : ℕ). All (λ (y : Y). n < number y) (map shown entries)) (sym (same entry)) later)
      (rising_shown entries (λ i j d before within. rising (suc i) (suc j) d (omega arith) (omega arith)))

pub wkeys_rise : (c : Ciphers) (p : Plain) → Sound c p → IsRisingById (counts p).wkeys
wkeys_rise c p s = rising_shown (λ (entry : ℕ × List ℕ). (entry.0, wkey_users p entry.0)) (λ entry. entry.0) (λ entry. refl) p.loaded s.keys.loaded

pub mkeys_rise : (c : Ciphers) (p : Plain) → Sound c p → IsRisingById (counts p).mkeys
mkeys_rise c p s =
    rising_shown (λ (entry : ℕ × Stored). (entry.0, mkey_users p entry.0)) (λ entry. entry.0) (λ entry. refl) (filter (λ (entry : ℕ × Stored). is_opened p entry.0) p.wrapped)
    (AllPairs-filter (λ (a b : ℕ × Stored). a.0 < b.0) (λ (entry : ℕ × Stored). is_opened p entry.0) p.wrapped s.tree.records)

pub maps_rise : (c : Ciphers) (p : Plain) → Sound c p → AllPairs (λ a b. a.0 < b.0) (counts p).maps
maps_rise c p s = rising_shown (λ (mapping : ℕ × ℕ). (mapping.0, users_of p mapping, generation_of p mapping.1)) (λ (shown : ℕ × ℕ × ℕ). shown.0) (λ mapping. refl) p.mapped s.mappings.mapped
