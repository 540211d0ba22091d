-- The fold over a list as a recursion on levels: the MAC of the node of each level and index, by the 32 below it.
use Rattle.std.proofs.Common.{◌≡◌, ℕ, zero, suc, ◌+◌, ◌-◌, ◌*◌, ◌^◌, ◌<◌, ◌≤◌, Bool, true, false, ◌&&◌, List, [], ◌∷◌, ◌++◌, length, map, drop, replicate, get_or, refl, sym, ap, ◌∙◌, inl, inr, arith, length-append, length-take, Option, None, is_none}
use Rattle.std.specs.List.{list_all, range_with_len}
use Rattle.std.proofs.lemmas.Bool.{cases_lt}
use Rattle.std.proofs.lemmas.List.{get_or-take, get_or_past, get_or-drop, append-nil, length-replicate}
use Rattle.std.proofs.lemmas.List.Folds.{list_all-append, list_all-map}
use Rattle.std.proofs.lemmas.List.FromFn.{fill_by_all, length-map-range_with_len, get_or-map-range_with_len}
use Rattle.std.proofs.Math.Path.{fun_ext}
use Rattle.std.proofs.Math.Nat.{pow-suc}
use Rattle.indirect_macs.specs.declared.refs.BlockRef.{BlockRef}
use Rattle.indirect_macs.specs.Entries.{block_under_mac, node_under_mac}
use Rattle.indirect_macs.specs.Nodes.{slots}
use Rattle.indirect_macs.specs.Fold.{filled_up, group_mac, group_at, group_count, group_macs, folded, fold_mac}
use Rattle.indirect_macs.proofs.Spelling.{each_passes}
use Rattle.indirect_macs.proofs.Groups.{folded_last, folded_more, length-group_macs}

-- the entries of the node of an index, of a list of all entries of the nodes of its level
unfoldable pub under : {X : Type 0} → (ℕ → Option X) → ℕ → List (Option X)
under f j = map (λ s. f (32 * j + s)) slots

pub length-under : {X : Type 0} (f : ℕ → Option X) (j : ℕ) → length (under f j) ≡ 32
unfolding under slots
length-under f j = length-map-range_with_len (λ s. f (32 * j + s)) 0 32

-- the MAC of the node so many levels above those of these macs
unfoldable pub raised : (level more : ℕ) → (ℕ → Option (List ℕ)) → ℕ → Option (List ℕ)
raised level zero f j = f j
raised level (suc more) f j = group_mac (level + more + 1) node_under_mac (under (raised level more f) j)

-- the MAC of the node that has so many levels below it
unfoldable pub mac_at : (below : ℕ) → (ℕ → Option BlockRef) → ℕ → Option (List ℕ)
mac_at below f j = raised 1 below (λ i. group_mac 1 block_under_mac (under f i)) j

-- ---- a group is its 32 entries

pub padded : {A : Type 0} (xs : List A) (n i : ℕ) (d : A) → get_or (xs ++ replicate n d) i d ≡ get_or xs i d
padded [] zero i d = refl
padded [] (suc n) zero d = refl
padded [] (suc n) (suc i) d = padded [] n i d
padded (x ∷ xs) n zero d = refl
padded (x ∷ xs) n (suc i) d = padded xs n i d

holes_are_none : (A : Type 0) (n : ℕ) → list_all (is_none {T = A}) (replicate n None) ≡ true
holes_are_none A zero = refl
holes_are_none A (suc n) = holes_are_none A n

and_true : (b : Bool) → (b && true) ≡ b
and_true true = refl
and_true false = refl

length-filled : {A : Type 0} (group : List (Option A)) → length group ≤ 32 → length (filled_up group) ≡ 32
length-filled {A = A} group few = omega (arith, few, length-append group (replicate (32 - length group) None), length-replicate {A = Option A} (32 - length group) None)

length-group_at : {A : Type 0} (entries : List A) (j : ℕ) → length (group_at entries j) ≤ 32
length-group_at entries j = omega (arith, length-take 32 (drop (32 * j) entries))

pub filled_whole : {A : Type 0} (group : List (Option A)) → length group ≡ 32 → filled_up group ≡ group
filled_whole group whole =
    let none : 32 - length group ≡ 0 = omega (arith, whole) in
    rw none (append-nil group)

group_at_under : {A : Type 0} (entries : List (Option A)) (j : ℕ) → filled_up (group_at entries j) ≡ under (λ i. get_or entries i None) j
unfolding slots under
group_at_under entries j =
    fill_by_all (λ s. get_or entries (32 * j + s) None) (filled_up (group_at entries j)) 32 None (length-filled (group_at entries j) (length-group_at entries j))
    (λ k within. padded (group_at entries j) (32 - length (group_at entries j)) k None ∙ get_or-take 32 (drop (32 * j) entries) k None within ∙ get_or-drop (32 * j) entries k None)

group_mac-filled : {A : Type 0} (level : ℕ) (f : Option A → List ℕ) (group : List (Option A)) → length group ≤ 32
    → group_mac level f group ≡ group_mac level f (filled_up group)
unfolding group_mac
group_mac-filled {A = A} level f group few =
    let same : list_all is_none (filled_up group) ≡ list_all is_none group =
    list_all-append is_none group (replicate (32 - length group) None)
    ∙ ap (λ (b : Bool). list_all is_none group && b) (holes_are_none A (32 - length group)) ∙ and_true (list_all is_none group) in
    rw (same, filled_whole (filled_up group) (length-filled group few)) refl

pub group_mac_under : {A : Type 0} (level : ℕ) (f : Option A → List ℕ) (entries : List (Option A)) (j : ℕ)
    → group_mac level f (group_at entries j) ≡ group_mac level f (under (λ i. get_or entries i None) j)
group_mac_under level f entries j =
    group_mac-filled level f (group_at entries j) (length-group_at entries j) ∙ ap (group_mac level f) (group_at_under entries j)

-- holes alone
pub under_holes : {X : Type 0} (f : ℕ → Option X) (j : ℕ) → ((s : ℕ) → s < 32 → f (32 * j + s) ≡ None) → list_all is_none (under f j) ≡ true
unfolding slots under
under_holes f j holes =
    list_all-map is_none (λ s. f (32 * j + s)) (range_with_len 0 32)
    ∙ each_passes (λ s. is_none (f (32 * j + s))) 32 (λ s within. ap is_none (holes s within))

pub group_mac_holes : {X : Type 0} (level : ℕ) (g : Option X → List ℕ) (f : ℕ → Option X) (j : ℕ) → ((s : ℕ) → s < 32 → f (32 * j + s) ≡ None)
    → group_mac level g (under f j) ≡ None
unfolding group_mac
group_mac_holes level g f j holes = rw (under_holes f j holes) refl

-- ---- the macs of a level, by index

macs_by_index : {A : Type 0} (level : ℕ) (f : Option A → List ℕ) (entries : List (Option A)) (j : ℕ)
    → get_or (group_macs level f entries) j None ≡ group_mac level f (under (λ i. get_or entries i None) j)
unfolding group_macs
macs_by_index level f entries j =
    elim (cases_lt j (group_count (length entries))) [
      | inl within ↦
          get_or-map-range_with_len (λ j. group_mac level f (group_at entries j)) 0 (group_count (length entries)) j j None within (omega arith)
          ∙ group_mac_under level f entries j
      | inr past ↦
          get_or_past (group_macs level f entries) j None (omega (arith, past, length-group_macs level f entries))
          ∙ sym (group_mac_holes level f (λ i. get_or entries i None) j (λ s within.
          get_or_past entries (32 * j + s) None (omega (arith, past))))
    ]

pub power_least : (k : ℕ) → 1 ≤ 32 ^ k
power_least zero = omega arith
power_least (suc k) = omega (arith, power_least k, pow-suc 32 k)

pub power_mono : (a b : ℕ) → a ≤ b → 32 ^ a ≤ 32 ^ b
power_mono a zero few = let none : a ≡ 0 = omega (arith, few) in rw none (omega arith)
power_mono a (suc b) few =
    elim (cases_lt a (suc b)) [
      | inl less ↦ omega (arith, power_mono a b (omega (arith, less)), pow-suc 32 b)
      | inr all ↦ let same : a ≡ suc b = omega (arith, all, few) in rw same (omega arith)
    ]

-- raising by one level first
raised_first : (level more : ℕ) (f : ℕ → Option (List ℕ)) (j : ℕ)
    → raised level (suc more) f j ≡ raised (level + 1) more (λ i. group_mac (level + 1) node_under_mac (under f i)) j
unfolding raised
raised_first level zero f j = let e : level + 0 + 1 ≡ level + 1 = omega arith in rw e refl
raised_first level (suc more) f j =
    let e : level + suc more + 1 ≡ level + 1 + more + 1 = omega arith in
    let below = fun_ext (λ i. raised_first level more f i) in
    rw e (ap (λ (g : ℕ → Option (List ℕ)). group_mac (level + 1 + more + 1) node_under_mac (under g j)) below)

folded_raised : (d level more : ℕ) (macs : List (Option (List ℕ))) → length macs ≤ 32 ^ d → ((e : ℕ) → d ≡ suc e → 32 ^ e < length macs)
    → length macs ≤ more → folded more level macs ≡ raised level d (λ i. get_or macs i None) 0
unfolding raised
folded_raised zero level more macs few least enough = folded_last more level macs (omega (arith, few))
folded_raised (suc d) level zero macs few least enough = absurd (omega (arith, enough, least d refl))
folded_raised (suc d) level (suc more) macs few least enough =
    let power : 32 ^ suc d ≡ 32 ^ d * 32 = pow-suc 32 d in
    let large : 32 ^ d < length macs = least d refl in
    let positive : 1 ≤ 32 ^ d = power_least d in
    let count : length (group_macs (level + 1) node_under_mac macs) ≡ group_count (length macs) = length-group_macs (level + 1) node_under_mac macs in
    let by_index = fun_ext (λ i. macs_by_index (level + 1) node_under_mac macs i) in
    folded_more more level macs (omega (arith, large, positive))
    ∙ folded_raised d (level + 1) more (group_macs (level + 1) node_under_mac macs)
    (omega (arith, count, few, power))
    (λ e is. let up : 32 ^ suc e ≡ 32 ^ e * 32 = pow-suc 32 e in let this : 32 ^ d ≡ 32 ^ suc e = ap (λ (k : ℕ). 32 ^ k) is in omega (arith, count, large, up, this))
    (omega (arith, count, enough, large, positive))
    ∙ ap (λ (g : ℕ → Option (List ℕ)). raised (level + 1) d g 0) by_index
    ∙ sym (raised_first level d (λ i. get_or macs i None) 0)

pub fold_is_top : (below : ℕ) (refs : List (Option BlockRef)) → length refs ≤ 32 ^ (below + 1) → ((e : ℕ) → below ≡ suc e → 32 ^ below < length refs)
    → fold_mac refs ≡ mac_at below (λ i. get_or refs i None) 0
unfolding fold_mac mac_at
fold_is_top below refs few least =
    let next : below + 1 ≡ suc below = omega arith in
    let power : 32 ^ (below + 1) ≡ 32 ^ below * 32 = ap (λ (k : ℕ). 32 ^ k) next ∙ pow-suc 32 below in
    let positive : 1 ≤ 32 ^ below = power_least below in
    let count : length (group_macs 1 block_under_mac refs) ≡ group_count (length refs) = length-group_macs 1 block_under_mac refs in
    let by_index = fun_ext (λ i. macs_by_index 1 block_under_mac refs i) in
    folded_raised below 1 (length (group_macs 1 block_under_mac refs)) (group_macs 1 block_under_mac refs)
    (omega (arith, count, few, power, positive))
    (λ e is. let up : 32 ^ suc e ≡ 32 ^ e * 32 = pow-suc 32 e in let this : 32 ^ below ≡ 32 ^ suc e = ap (λ (k : ℕ). 32 ^ k) is in let large = least e is in omega (arith, count, large, up, this))
    (omega arith)
    ∙ ap (λ (g : ℕ → Option (List ℕ)). raised 1 below g 0) by_index
