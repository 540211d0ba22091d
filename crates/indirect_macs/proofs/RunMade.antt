-- What was made of each level: its references, and where what they name is put.
use Rattle.std.proofs.Common.{◌≡◌, ℕ, zero, suc, ◌+◌, ◌-◌, ◌<◌, ◌≤◌, Bool, true, false, ◌&&◌, nat_lt, List, [], ◌∷◌, ◌++◌, length, replicate, get_or, refl, sym, ap, ◌∙◌, inl, inr, arith, length-append, Option, None, if◌then◌else◌}
use Rattle.std.proofs.lemmas.Bool.{cases_lt}
use Rattle.std.proofs.lemmas.List.{append_assoc, append-nil, get_or-append_right}
use Rattle.indirect_macs.specs.declared.refs.NodeRef.{NodeRef}
use Rattle.indirect_macs.specs.Runs.{Run, Old, Made, Node, first_at, count_at, puts_with, is_put, ref_with, inner_of, begun, nodes_made, levels_made, new_node, kept}

-- one list begins another
pub record IsFront (front whole : List (List ℕ)) : Type 0 where
  pub more : List (List ℕ)
  pub is : whole ≡ front ++ more

pub whole_front : (xs : List (List ℕ)) → IsFront xs xs
whole_front xs = record { more = []; is = sym (append-nil xs) }

pub longer_front : (xs ys zs : List (List ℕ)) → IsFront xs ys → IsFront ys zs → IsFront xs zs
longer_front xs ys zs one two =
    record { more = one.more ++ two.more; is = two.is ∙ ap (λ (v : List (List ℕ)). v ++ two.more) one.is ∙ append_assoc xs one.more two.more }

-- a node, and the reference to it where it is kept, a hole, or put behind this front of what is put
pub record IsMade (base : ℕ) (final : List (List ℕ)) (node : Node) (stays r : Option NodeRef) : Type 0 where
  pub front : List (List ℕ)
  pub is : r ≡ ref_with (base + length front) node stays
  pub put : IsFront (puts_with node stays front) final

pub with_more : (node : Node) (stays : Option NodeRef) (front : List (List ℕ)) → IsFront front (puts_with node stays front)
with_more node stays front = by_put (is_put node stays)
  where
    by_put : (b : Bool) → IsFront front (if b then front ++ node.bytes ∷ [] else front)
    by_put true = record { more = node.bytes ∷ []; is = refl }
    by_put false = whole_front front

pub begun_front : (run : Run) (base level : ℕ) (below : Made) → IsFront below.puts (begun run base level below).puts
unfolding begun
begun_front run base level below =
    by_raised (nat_lt run.levels level && nat_lt 0 (first_at run level)) _ (with_more (inner_of level (below.raised ∷ replicate 31 None)) None below.puts)
  where
    by_raised : (b : Bool) (some : Made) → IsFront below.puts some.puts → IsFront below.puts (if b then some else record below { refs = [] }).puts
    by_raised true some front = front
    by_raised false some front = whole_front below.puts

pub begun_refs : (run : Run) (base level : ℕ) (below : Made) → (begun run base level below).refs ≡ []
unfolding begun
begun_refs run base level below = by_raised (nat_lt run.levels level && nat_lt 0 (first_at run level)) _ refl
  where
    by_raised : (b : Bool) (some : Made) → some.refs ≡ [] → (if b then some else record below { refs = [] }).refs ≡ []
    by_raised true some none = none
    by_raised false some none = refl

pub nodes_front : (run : Run) (old : Old) (base level : ℕ) (below : Made) (i n : ℕ) → i ≤ n
    → IsFront (nodes_made run old base level below i).puts (nodes_made run old base level below n).puts
unfolding nodes_made
nodes_front run old base level below i zero few =
    let none : i ≡ 0 = omega (arith, few) in
    rw none (whole_front (begun run base level below).puts)
nodes_front run old base level below i (suc n) few =
    elim (cases_lt i (suc n)) [
      | inl less ↦
          longer_front (nodes_made run old base level below i).puts (nodes_made run old base level below n).puts _
          (nodes_front run old base level below i n (omega (arith, less)))
          (with_more (new_node run old level below (first_at run level + n)) (kept run old level below (first_at run level + n)) (nodes_made run old base level below n).puts)
      | inr all ↦
          let same : i ≡ suc n = omega (arith, all, few) in
          rw same (whole_front (nodes_made run old base level below (suc n)).puts)
    ]

pub length-nodes_made : (run : Run) (old : Old) (base level : ℕ) (below : Made) (n : ℕ) → length (nodes_made run old base level below n).refs ≡ n
unfolding nodes_made
length-nodes_made run old base level below zero = ap length (begun_refs run base level below)
length-nodes_made run old base level below (suc n) =
    omega (
      arith,
      length-nodes_made run old base level below n,
      length-append (nodes_made run old base level below n).refs
          (ref_with (base + length (nodes_made run old base level below n).puts) (new_node run old level below (first_at run level + n)) (kept run old level below (first_at run level + n)) ∷ []),
    )

get_or-front : {X : Type 0} (xs ys : List X) (i : ℕ) (d : X) → i < length xs → get_or (xs ++ ys) i d ≡ get_or xs i d
get_or-front [] ys i d within = absurd (omega (arith, within))
get_or-front (x ∷ xs) ys zero d within = refl
get_or-front (x ∷ xs) ys (suc i) d within = get_or-front xs ys i d (omega (arith, within))

get_or-last : {X : Type 0} (xs : List X) (x : X) (i : ℕ) (d : X) → i ≡ length xs → get_or (xs ++ x ∷ []) i d ≡ x
get_or-last xs x i d is =
    let none : i - length xs ≡ 0 = omega (arith, is) in
    get_or-append_right xs (x ∷ []) (length xs) i d refl (omega (arith, is)) ∙ ap (λ (k : ℕ). get_or (x ∷ []) k d) none

pub nodes_ref : (run : Run) (old : Old) (base level : ℕ) (below : Made) (i n : ℕ) → i < n
    → get_or (nodes_made run old base level below n).refs i None
    ≡ ref_with (base + length (nodes_made run old base level below i).puts) (new_node run old level below (first_at run level + i)) (kept run old level below (first_at run level + i))
unfolding nodes_made
nodes_ref run old base level below i zero few = absurd (omega (arith, few))
nodes_ref run old base level below i (suc n) few =
    elim (cases_lt i n) [
      | inl less ↦
          get_or-front (nodes_made run old base level below n).refs _ i None (omega (arith, less, length-nodes_made run old base level below n))
          ∙ nodes_ref run old base level below i n less
      | inr all ↦
          let same : n ≡ i = omega (arith, all, few) in
          get_or-last (nodes_made run old base level below n).refs _ i None (omega (arith, same, length-nodes_made run old base level below n))
          ∙ ap (λ (k : ℕ). ref_with (base + length (nodes_made run old base level below k).puts) (new_node run old level below (first_at run level + k)) (kept run old level below (first_at run level + k))) same
    ]

pub nodes_raised : (run : Run) (old : Old) (base level : ℕ) (below : Made) (n : ℕ) → (nodes_made run old base level below n).raised ≡ (begun run base level below).raised
unfolding nodes_made
nodes_raised run old base level below zero = refl
nodes_raised run old base level below (suc n) = nodes_raised run old base level below n

-- ---- over the levels

pub levels_front : (run : Run) (old : Old) (base low high : ℕ) → low ≤ high → IsFront (levels_made run old base low).puts (levels_made run old base high).puts
unfolding levels_made begun nodes_made
levels_front run old base low zero few =
    let none : low ≡ 0 = omega (arith, few) in
    rw none (whole_front [])
levels_front run old base low (suc high) few =
    elim (cases_lt low (suc high)) [
      | inl less ↦
          let below : Made = levels_made run old base high in
          longer_front (levels_made run old base low).puts below.puts _
          (levels_front run old base low high (omega (arith, less)))
          (longer_front below.puts (begun run base (suc high) below).puts _ (begun_front run base (suc high) below)
          (nodes_front run old base (suc high) below 0 (count_at run (suc high)) (omega arith)))
      | inr all ↦
          let same : low ≡ suc high = omega (arith, all, few) in
          rw same (whole_front (levels_made run old base (suc high)).puts)
    ]

pub put_front : (run : Run) (old : Old) (base level : ℕ) (below : Made) (i n : ℕ) → i < n
    → IsFront (puts_with (new_node run old level below (first_at run level + i)) (kept run old level below (first_at run level + i)) (nodes_made run old base level below i).puts)
    (nodes_made run old base level below n).puts
unfolding nodes_made
put_front run old base level below i n few = nodes_front run old base level below (suc i) n (omega (arith, few))

-- a touched node
pub node_is_made : (run : Run) (old : Old) (base level most i : ℕ) → suc level ≤ most → i < count_at run (suc level)
    → IsMade base (levels_made run old base most).puts
    (new_node run old (suc level) (levels_made run old base level) (first_at run (suc level) + i))
    (kept run old (suc level) (levels_made run old base level) (first_at run (suc level) + i))
    (get_or (levels_made run old base (suc level)).refs i None)
unfolding levels_made begun nodes_made
node_is_made run old base level most i low within =
    let below : Made = levels_made run old base level in
    record {
      front = (nodes_made run old base (suc level) below i).puts;
      is = nodes_ref run old base (suc level) below i (count_at run (suc level)) within;
      put = longer_front _ (levels_made run old base (suc level)).puts _
          (put_front run old base (suc level) below i (count_at run (suc level)) within) (levels_front run old base (suc level) most low);
    }

in_begun : (run : Run) (old : Old) (base level most : ℕ) → suc level ≤ most → (nat_lt run.levels (suc level) && nat_lt 0 (first_at run (suc level))) ≡ true
    → IsFront (nodes_made run old base (suc level) (levels_made run old base level) (count_at run (suc level))).puts (levels_made run old base most).puts
    → IsMade base (levels_made run old base most).puts (inner_of (suc level) ((levels_made run old base level).raised ∷ replicate 31 None)) None
    (nodes_made run old base (suc level) (levels_made run old base level) (count_at run (suc level))).raised
unfolding begun nodes_made
in_begun run old base level most low high front =
    let below : Made = levels_made run old base level in
    let node : Node = inner_of (suc level) (below.raised ∷ replicate 31 None) in
    let first = nodes_front run old base (suc level) below 0 (count_at run (suc level)) (omega arith) in
    record {
      front = below.puts;
      is = nodes_raised run old base (suc level) below (count_at run (suc level)) ∙ rw high refl;
      put = longer_front (puts_with node None below.puts) (nodes_made run old base (suc level) below (count_at run (suc level))).puts _ (rw high at first) front;
    }

-- the node over all of the old tree
pub raised_is_made : (run : Run) (old : Old) (base level most : ℕ) → suc level ≤ most → (nat_lt run.levels (suc level) && nat_lt 0 (first_at run (suc level))) ≡ true
    → IsMade base (levels_made run old base most).puts (inner_of (suc level) ((levels_made run old base level).raised ∷ replicate 31 None)) None
    (levels_made run old base (suc level)).raised
unfolding levels_made begun nodes_made
raised_is_made run old base level most low high = in_begun run old base level most low high (levels_front run old base (suc level) most low)

-- and at the levels of the old tree its top
pub raised_stays : (run : Run) (old : Old) (base level : ℕ) → level ≤ run.levels → (levels_made run old base level).raised ≡ run.top
unfolding levels_made begun
raised_stays run old base zero low = refl
raised_stays run old base (suc level) low =
    let below : nat_lt run.levels (suc level) ≡ false = grind (arith, low) in
    nodes_raised run old base (suc level) (levels_made run old base level) (count_at run (suc level))
    ∙ rw below (raised_stays run old base level (omega (arith, low)))

-- and elsewhere that of the level below
pub raised_same : (run : Run) (old : Old) (base level : ℕ) → (nat_lt run.levels (suc level) && nat_lt 0 (first_at run (suc level))) ≡ false
    → (levels_made run old base (suc level)).raised ≡ (levels_made run old base level).raised
unfolding levels_made begun
raised_same run old base level low =
    nodes_raised run old base (suc level) (levels_made run old base level) (count_at run (suc level)) ∙ rw low refl
