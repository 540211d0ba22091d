-- Groups of 32 entries, and how the number of groups falls.
use Rattle.std.proofs.Common.{◌≡◌, ℕ, zero, suc, ◌+◌, ◌-◌, ◌*◌, ◌^◌, ◌<◌, ◌≤◌, true, false, List, [], ◌∷◌, ◌++◌, length, map, take, drop, replicate, get_or, refl, sym, ap, ◌∙◌, inl, inr, arith, length-drop, Option, None}
use Rattle.std.specs.Prelude.{min, nat_le}
use Rattle.std.specs.List.{flat_map, range_with_len}
use Rattle.std.proofs.lemmas.List.{take_all, drop_all, drop-replicate, append-nil, take_more}
use Rattle.std.proofs.lemmas.List.Concat.{flat_map-append}
use Rattle.std.proofs.lemmas.List.FromFn.{length-map-range_with_len, map-range_with_len_more}
use Rattle.std.proofs.lemmas.Bool.{cases_lt}
use Rattle.std.proofs.Math.Pow.{pow_mono}
use Rattle.std.proofs.Math.Nat.{mul-le-mul_left, pow-suc, mul_assoc}
use Rattle.indirect_macs.specs.Entries.{node_under_mac}
use Rattle.indirect_macs.specs.Fold.{group_at, group_count, group_macs, filled_up, folded}

-- a part that begins at the end at most, and has 32 entries at most
pub group_cut : {A : Type 0} (entries : List A) (start len group : ℕ) → start ≡ min (length entries) (32 * group) → len ≡ min 32 (length entries - start)
    → take len (drop start entries) ≡ group_at entries group
group_cut {A = A} entries start len group from much =
    elim (cases_lt (length entries) (32 * group)) [
      | inl past ↦
          let start_end : start ≡ length entries = omega (arith, from, past) in
          let none : drop (32 * group) entries ≡ [] = drop_all (32 * group) entries (omega (arith, past)) in
          let len_none : len ≡ 0 = omega (arith, much, start_end) in
          rw (len_none, none) refl
      | inr within ↦
          let same : start ≡ 32 * group = omega (arith, from, within) in
          elim (cases_lt (length entries - start) 32) [
            | inl short ↦
                let rest : List A = drop (32 * group) entries in
                let size : length rest ≡ length entries - 32 * group = length-drop (32 * group) entries in
                let all : take len rest ≡ rest = take_all len rest (omega (arith, size, much, short, same)) in
                let all_32 : take 32 rest ≡ rest = take_all 32 rest (omega (arith, size, short, same)) in
                rw (same, all, all_32) refl
            | inr long ↦
                let width : len ≡ 32 = omega (arith, much, long) in
                rw (same, width) refl
          ]
    ]

-- entries that are copied to the front of 32 holes
pub filled : {A : Type 0} (group : List (Option A)) (n : ℕ) → n ≡ length group → group ++ drop n (replicate 32 None) ≡ filled_up group
filled {A = A} group n is = rw is (ap (λ (rest : List (Option A)). group ++ rest) (drop-replicate (length group) 32 None))

-- one more entry of a node
pub entry_more : {A : Type 0} (f : Option A → List ℕ) (byte : ℕ) (xs : List (Option A)) (i : ℕ) (d : Option A) → i < length xs
    → (byte ∷ flat_map f (take i xs)) ++ f (get_or xs i d) ≡ byte ∷ flat_map f (take (i + 1) xs)
entry_more {A = A} f byte xs i d within =
    let more : flat_map f (take (i + 1) xs) ≡ flat_map f (take i xs) ++ f (get_or xs i d) =
    ap (flat_map f) (take_more xs i d within) ∙ flat_map-append f (take i xs) (get_or xs i d ∷ [])
    ∙ ap (λ (last : List ℕ). flat_map f (take i xs) ++ last) (append-nil (f (get_or xs i d))) in
    ap (λ (bytes : List ℕ). byte ∷ bytes) (sym more)

-- the first element doesn't depend on the default
pub first_any : {X : Type 0} (xs : List X) (d e : X) → 1 ≤ length xs → get_or xs 0 d ≡ get_or xs 0 e
first_any [] d e some = absurd (omega (arith, some))
first_any (x ∷ xs) d e some = refl

-- one more group
pub groups_more : {X : Type 0} (f : ℕ → X) (n : ℕ) → map f (range_with_len 0 (n + 1)) ≡ map f (range_with_len 0 n) ++ f n ∷ []
groups_more f n = map-range_with_len_more f 0 n n (omega arith)

-- ---- folding until one is left

pub length-group_macs : {A : Type 0} (level : ℕ) (under_mac : Option A → List ℕ) (entries : List (Option A))
    → length (group_macs level under_mac entries) ≡ group_count (length entries)
unfolding group_macs
length-group_macs level under_mac entries = length-map-range_with_len _ 0 (group_count (length entries))

-- the number at least halves
pub fewer_groups : (n : ℕ) → 2 ≤ n → 2 * group_count n ≤ n
fewer_groups n some = omega arith

pub one_group_least : (n : ℕ) → 1 ≤ group_count n
one_group_least n = omega arith

pub few_groups : (n : ℕ) → n < 2 ^ 64 → group_count n ≤ 2 ^ 60
few_groups n fits = omega arith

-- so many levels and entries are left
pub room_falls : (level n : ℕ) → 2 ≤ n → 2 ^ level * n ≤ 2 ^ 64 → 2 ^ (level + 1) * group_count n ≤ 2 ^ 64
room_falls level n some room =
    let next : level + 1 ≡ suc level = omega arith in
    let twice : 2 ^ (level + 1) ≡ 2 ^ level * 2 = ap (λ (k : ℕ). 2 ^ k) next ∙ pow-suc 2 level in
    let halves : 2 ^ level * (2 * group_count n) ≤ 2 ^ level * n = mul-le-mul_left (2 ^ level) (fewer_groups n some) in
    let regroup : 2 ^ level * 2 * group_count n ≡ 2 ^ level * (2 * group_count n) = mul_assoc (2 ^ level) 2 (group_count n) in
    rw (twice, regroup) (omega (arith, halves, room))

pub few_levels : (level n : ℕ) → 2 ≤ n → 2 ^ level * n ≤ 2 ^ 64 → level < 64
few_levels level n some room =
    elim (cases_lt level 64) [
      | inl few ↦ few
      | inr many ↦
          let large : 2 ^ 64 ≤ 2 ^ level = pow_mono many in
          let twice : 2 ^ level * 2 ≤ 2 ^ level * n = mul-le-mul_left (2 ^ level) some in
          absurd (omega (arith, large, twice, room))
    ]

-- what is left to fold gives the same at each bound on the levels
pub folded_last : (more level : ℕ) (macs : List (Option (List ℕ))) → length macs ≤ 1 → folded more level macs ≡ get_or macs 0 None
unfolding folded
folded_last zero level macs one = refl
folded_last (suc more) level macs one =
    let last : nat_le (length macs) 1 ≡ true = grind (arith, one) in
    rw last refl

pub folded_more : (more level : ℕ) (macs : List (Option (List ℕ))) → 2 ≤ length macs
    → folded (suc more) level macs ≡ folded more (level + 1) (group_macs (level + 1) node_under_mac macs)
unfolding folded
folded_more more level macs some =
    let left : nat_le (length macs) 1 ≡ false = grind (arith, some) in
    rw left refl

-- the macs of a level are what is left to fold of the list, within a bound on the further levels
pub record IsLeft (whole : Option (List ℕ)) (level : ℕ) (macs : List (Option (List ℕ))) : Type 0 where
  pub more : ℕ
  pub enough : length macs ≤ more
  pub same : folded more level macs ≡ whole
  pub some : 1 ≤ length macs
  pub room : 2 ^ level * length macs ≤ 2 ^ 64

pub IsLeft-first : (macs : List (Option (List ℕ))) (n : ℕ) → length macs ≡ group_count n → n < 2 ^ 64 → IsLeft (folded (length macs) 1 macs) 1 macs
IsLeft-first macs n count fits =
    record {
      more = length macs;
      enough = omega arith;
      same = refl;
      some = omega (arith, count, one_group_least n);
      room = omega (arith, count, few_groups n fits);
    }

pub IsLeft-more : (whole : Option (List ℕ)) (level : ℕ) (macs next : List (Option (List ℕ))) → 2 ≤ length macs
    → next ≡ group_macs (level + 1) node_under_mac macs → IsLeft whole level macs → IsLeft whole (level + 1) next
IsLeft-more whole level macs next some is left =
    let count : length next ≡ group_count (length macs) = ap length is ∙ length-group_macs (level + 1) node_under_mac macs in
    let bound : left.more ≡ suc (left.more - 1) = omega (arith, left.enough, some) in
    record {
      more = left.more - 1;
      enough = omega (arith, count, left.enough, fewer_groups (length macs) some);
      same =
          ap (folded (left.more - 1) (level + 1)) is ∙ sym (folded_more (left.more - 1) level macs some)
          ∙ ap (λ (more : ℕ). folded more level macs) (sym bound) ∙ left.same;
      some = omega (arith, count, one_group_least (length macs));
      room = rw count (room_falls level (length macs) some left.room);
    }
