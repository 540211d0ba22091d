-- The first block that fails, and the places over blocks.
use Rattle.std.proofs.Common.{◌≡◌, ℕ, zero, suc, ◌+◌, ◌-◌, ◌*◌, ◌/◌, ◌%◌, ◌^◌, ◌<◌, ◌≤◌, List, ◌∷◌, map, refl, sym, ap, subst, ◌∙◌, inl, inr, arith, Option, Some, None, IsSome, Result, Ok, Err}
use Rattle.std.specs.Prelude.{◌⊎◌}
use Rattle.std.specs.List.{range_with_len}
use Rattle.std.specs.Option.{option_map_or}
use Rattle.std.proofs.lemmas.Bool.{cases_lt}
use Rattle.std.proofs.Math.Nat.{div-div-eq-div-mul, div-mul-le_self, lt-div-mul-add, mul-le-mul_right, add-mul}
use Rattle.std.proofs.lemmas.Nat.{pow-add, le-div}
use Rattle.std.proofs.Math.Nat.{one-le-pow}
use Rattle.block_crypt.specs.Blocks.{KeyValue}
use Rattle.indirect_macs.specs.declared.refs.BlockRef.{BlockRef}
use Rattle.indirect_macs.specs.declared.refs.NodeRef.{NodeRef}
use Rattle.indirect_macs.specs.declared.refs.ObjTree.{ObjTree}
use Rattle.indirect_macs.specs.declared.refs.MacError.{MacError}
use Rattle.indirect_macs.specs.declared.refs.MacError.TheVariants.{MacFailed}
use Rattle.indirect_macs.specs.Places.{Place, place_at, next_ref, block_in}
use Rattle.indirect_macs.specs.Walk.{passed, place_of, slot_of, fails_at}
use Rattle.indirect_macs.proofs.FirstPlace.{no_place, first_fails, all_pass}
use Rattle.file_blocks.specs.Objects.{collected, texts_at, text_at, text_of, opened_ref}
use Rattle.file_blocks.specs.Places.{FailsFirst, PassAll, IsBefore}

-- ---- the first that fails

pub record FirstErr {X E : Type 0} (f : ℕ → Result X E) (first n : ℕ) (failed : E) : Type 0 where
  pub at : ℕ
  pub within : at < n
  pub fails : f (first + at) ≡ Err failed
  pub before : (j : ℕ) → j < at → (other : E) → f (first + j) ≡ Err other → ⊥

pub first_err : {X E : Type 0} (f : ℕ → Result X E) (first n : ℕ) (failed : E) → collected (map f (range_with_len first n)) ≡ Err failed → FirstErr f first n failed
first_err f first zero failed is = absurd (cc)
first_err {X = X} {E = E} f first (suc n) failed is =
    by_one (f first) refl (collected (map f (range_with_len (first + 1) n))) refl (first_err f (first + 1) n failed) is
  where
    by_one : (one : Result X E) → f first ≡ one → (rest : Result (List X) E) → collected (map f (range_with_len (first + 1) n)) ≡ rest
        → (collected (map f (range_with_len (first + 1) n)) ≡ Err failed → FirstErr f (first + 1) n failed)
        → collected (one ∷ map f (range_with_len (first + 1) n)) ≡ Err failed → FirstErr f first (suc n) failed
    by_one (Err other) one rest same later is =
        let place : first + 0 ≡ first = omega arith in
        let e : other ≡ failed = cc in
        record {
          at = 0;
          within = omega arith;
          fails = ap f place ∙ rw e at one;
          before = λ j low o found. absurd (omega (arith, low));
        }
    by_one (Ok x) one (Ok xs) same later is = absurd (let g = rw same at is in cc)
    by_one (Ok x) one (Err other) same later is =
        let e : other ≡ failed = (let g = rw same at is in cc) in
        let next = later (rw e at same) in
        let place : first + 1 + next.at ≡ first + suc next.at = omega arith in
        record {
          at = suc next.at;
          within = omega (arith, next.within);
          fails = rw place at next.fails;
          before = λ j low o found. earlier next j low o found (f first) one;
        }
      where
        earlier : (next : FirstErr f (first + 1) n failed) → (j : ℕ) → j < suc next.at → (o : E) → f (first + j) ≡ Err o → (y : Result X E) → f first ≡ Ok x → ⊥
        earlier next zero low o found y one =
            let place : first + 0 ≡ first = omega arith in
            let found2 = rw place at found in
            absurd (cc)
        earlier next (suc j) low o found y one =
            let place : first + suc j ≡ first + 1 + j = omega arith in
            next.before j (omega (arith, low)) o (rw place at found)

-- ---- the places over a block

pub record FailsBelow (held : List (List ℕ)) (record_size index below : ℕ) (top : Option NodeRef) : Type 0 where
  pub depth : ℕ
  pub place : Place
  pub there : place_at held index below top depth ≡ Some place
  pub fails : passed held record_size place.level place.node ≡ None
  pub above : (d : ℕ) (other : Place) → d < depth → place_at held index below top d ≡ Some other → IsSome (passed held record_size other.level other.node)

AllBelow : (held : List (List ℕ)) → (record_size index below : ℕ) → Option NodeRef → Type 0
AllBelow held record_size index below top =
    (d : ℕ) (other : Place) → place_at held index below top d ≡ Some other → IsSome (passed held record_size other.level other.node)

pub walk_cases : (held : List (List ℕ)) (record_size index below : ℕ) (top : Option NodeRef)
    → FailsBelow held record_size index below top ⊎ ((d : ℕ) (other : Place) → place_at held index below top d ≡ Some other → IsSome (passed held record_size other.level other.node))
unfolding place_at
walk_cases held record_size index below None = inr (λ d other is. absurd (let none = no_place held index below d in cc))
walk_cases held record_size index zero (Some node) = by_passed (passed held record_size 1 node) refl
  where
    all : IsSome (passed held record_size 1 node) → (d : ℕ) (other : Place) → place_at held index zero (Some node) d ≡ Some other
        → IsSome (passed held record_size other.level other.node)
    all some zero other is =
        let e : record { level = 1; node = node } ≡ other = cc in
        subst (λ (p : Place). IsSome (passed held record_size p.level p.node)) e some
    all some (suc d) other is = absurd (cc)

    by_passed : (p : Option (List ℕ)) → passed held record_size 1 node ≡ p
        → FailsBelow held record_size index zero (Some node) ⊎ ((d : ℕ) (other : Place) → place_at held index zero (Some node) d ≡ Some other → IsSome (passed held record_size other.level other.node))
    by_passed None is = inl (record { depth = 0; place = record { level = 1; node = node }; there = refl; fails = is; above = λ d other low there. absurd (omega (arith, low)) })
    by_passed (Some bytes) is = inr (all (rw is refl))
walk_cases held record_size index (suc below) (Some node) =
    by_passed (passed held record_size (suc below + 1) node) refl (walk_cases held record_size index below (next_ref held index (below + 2) (Some node)))
  where
    all : IsSome (passed held record_size (suc below + 1) node)
        → ((d : ℕ) (other : Place) → place_at held index below (next_ref held index (below + 2) (Some node)) d ≡ Some other → IsSome (passed held record_size other.level other.node))
        → (d : ℕ) (other : Place) → place_at held index (suc below) (Some node) d ≡ Some other → IsSome (passed held record_size other.level other.node)
    all some rest zero other is =
        let e : record { level = suc below + 1; node = node } ≡ other = cc in
        subst (λ (p : Place). IsSome (passed held record_size p.level p.node)) e some
    all some rest (suc d) other is = rest d other is

    above : IsSome (passed held record_size (suc below + 1) node) → (rest : FailsBelow held record_size index below (next_ref held index (below + 2) (Some node)))
        → (d : ℕ) (other : Place) → d < suc rest.depth → place_at held index (suc below) (Some node) d ≡ Some other → IsSome (passed held record_size other.level other.node)
    above some rest zero other low is =
        let e : record { level = suc below + 1; node = node } ≡ other = cc in
        subst (λ (p : Place). IsSome (passed held record_size p.level p.node)) e some
    above some rest (suc d) other low is = rest.above d other (omega (arith, low)) is

    by_passed : (p : Option (List ℕ)) → passed held record_size (suc below + 1) node ≡ p
        → FailsBelow held record_size index below (next_ref held index (below + 2) (Some node)) ⊎ ((d : ℕ) (other : Place) → place_at held index below (next_ref held index (below + 2) (Some node)) d ≡ Some other → IsSome (passed held record_size other.level other.node))
        → FailsBelow held record_size index (suc below) (Some node) ⊎ ((d : ℕ) (other : Place) → place_at held index (suc below) (Some node) d ≡ Some other → IsSome (passed held record_size other.level other.node))
    by_passed None is rest =
        inl (record { depth = 0; place = record { level = suc below + 1; node = node }; there = refl; fails = is; above = λ d other low there. absurd (omega (arith, low)) })
    by_passed (Some bytes) is (inl rest) =
        inl (record { depth = suc rest.depth; place = rest.place; there = rest.there; fails = rest.fails; above = above (rw is refl) rest })
    by_passed (Some bytes) is (inr rest) = inr (all (rw is refl) rest)

-- the level of a place tells its depth
pub record LevelIs (below depth : ℕ) (place : Place) : Type 0 where
  pub sum : place.level + depth ≡ below + 1
  pub some : 1 ≤ place.level

pub place_level : (held : List (List ℕ)) (index below : ℕ) (top : Option NodeRef) (depth : ℕ) (place : Place) → place_at held index below top depth ≡ Some place
    → LevelIs below depth place
unfolding place_at
place_level held index below None depth place is = absurd (let none = no_place held index below depth in cc)
place_level held index below (Some node) zero place is =
    let e : record { level = below + 1; node = node } ≡ place = cc in
    subst (λ (p : Place). LevelIs below 0 p) e (record { sum = omega arith; some = omega arith })
place_level held index zero (Some node) (suc depth) place is = absurd (cc)
place_level held index (suc below) (Some node) (suc depth) place is =
    let rest = place_level held index below (next_ref held index (below + 2) (Some node)) depth place is in
    record { sum = omega (arith, rest.sum); some = rest.some }

-- two blocks under one place have the same places above it
same_above : (low m i j : ℕ) → place_of low i ≡ place_of low j → place_of (low + m) i ≡ place_of (low + m) j
same_above low m i j same =
    ap (λ (p : ℕ). i / p) (pow-add 32 low m) ∙ sym (div-div-eq-div-mul i (32 ^ low) (32 ^ m)) ∙ ap (λ (k : ℕ). k / 32 ^ m) same
    ∙ div-div-eq-div-mul j (32 ^ low) (32 ^ m) ∙ ap (λ (p : ℕ). j / p) (sym (pow-add 32 low m))

pub same_place : (held : List (List ℕ)) (i j low below : ℕ) (top : Option NodeRef) (depth : ℕ) → 1 ≤ low → place_of low i ≡ place_of low j → low + depth ≤ below + 1
    → place_at held i below top depth ≡ place_at held j below top depth
unfolding place_at next_ref
same_place held i j low below top zero some same high = refl
same_place held i j low zero top (suc depth) some same high = absurd (omega (arith, some, high))
same_place held i j low (suc below) top (suc depth) some same high =
    let at : below + 2 - 1 ≡ low + (below + 1 - low) = omega (arith, high) in
    let slots : slot_of (below + 2) i ≡ slot_of (below + 2) j =
    ap (λ (l : ℕ). place_of l i % 32) at ∙ ap (λ (p : ℕ). p % 32) (same_above low (below + 1 - low) i j same) ∙ ap (λ (l : ℕ). place_of l j % 32) (sym at) in
    rw slots (same_place held i j low below (next_ref held j (below + 2) top) depth some same (omega (arith, high)))

-- ---- what a block's answer says of the places over it

failed_at : ℕ → ℕ → Result (Option (List ℕ)) MacError
failed_at level place = Err (MacFailed level place)

own_place : (index : ℕ) → place_of 0 index ≡ index
own_place index = (omega arith)

pub text_fails : (key : KeyValue) (held : List (List ℕ)) (record_size : ℕ) (tree : ObjTree) (index level : ℕ) → FailsFirst key held record_size tree index level
    → text_at key held record_size tree index ≡ Err (MacFailed level (place_of level index))
unfolding text_at text_of
text_fails key held record_size tree index zero fails =
    let walked = all_pass held record_size index (tree.levels - 1) tree.top fails.3 in
    rw (walked, fails.1, fails.2) (ap (λ (n : ℕ). let e : Result (Option (List ℕ)) MacError = Err (MacFailed 0 n) in e) (sym (own_place index)))
text_fails key held record_size tree index (suc level) fails =
    let walked = first_fails held record_size index (tree.levels - 1) tree.top fails.0 fails.1 fails.2 fails.4 fails.5 in
    rw (walked, fails.3) refl

pub record Stops (key : KeyValue) (held : List (List ℕ)) (record_size : ℕ) (tree : ObjTree) (index : ℕ) (failed : MacError) : Type 0 where
  pub level : ℕ
  pub is : failed ≡ MacFailed level (place_of level index)
  pub fails : FailsFirst key held record_size tree index level

pub text_stops : (key : KeyValue) (held : List (List ℕ)) (record_size : ℕ) (tree : ObjTree) (index : ℕ) (failed : MacError)
    → text_at key held record_size tree index ≡ Err failed → Stops key held record_size tree index failed
unfolding text_at text_of
text_stops key held record_size tree index failed stops = by_walk (walk_cases held record_size index (tree.levels - 1) tree.top)
  where
    by_opened : PassAll held record_size tree index → (found : Option BlockRef)
        → block_in held index (place_at held index (tree.levels - 1) tree.top (tree.levels - 1)) ≡ found
        → text_of key held index found ≡ Err failed → Stops key held record_size tree index failed
    by_opened all None is stops = absurd (cc)
    by_opened all (Some r) is stops = by_text (opened_ref key held r) refl stops
      where
        by_text : (text : Option (List ℕ)) → opened_ref key held r ≡ text
            → option_map_or (λ t. Ok (Some t)) text (Err (MacFailed 0 index)) ≡ Err failed → Stops key held record_size tree index failed
        by_text None none stops =
            let e : MacFailed 0 index ≡ failed = cc in
            record { level = 0; is = sym e ∙ ap (MacFailed 0) (sym (own_place index)); fails = (r, is, none, all) }
        by_text (Some t) some stops = absurd (cc)

    by_walk : FailsBelow held record_size index (tree.levels - 1) tree.top
        ⊎ ((d : ℕ) (other : Place) → place_at held index (tree.levels - 1) tree.top d ≡ Some other → IsSome (passed held record_size other.level other.node))
        → Stops key held record_size tree index failed
    by_walk (inl f) =
        let walked = first_fails held record_size index (tree.levels - 1) tree.top f.depth f.place f.there f.fails f.above in
        let is = rw walked at stops in
        let e : fails_at f.place.level index ≡ failed = cc in
        let level : f.place.level ≡ suc (f.place.level - 1) = omega (arith, (place_level held index (tree.levels - 1) tree.top f.depth f.place f.there).some) in
        record {
          level = suc (f.place.level - 1);
          is = sym e ∙ ap (λ (l : ℕ). fails_at l index) level;
          fails = (f.depth, f.place, f.there, level, f.fails, f.above);
        }
    by_walk (inr all) =
        let walked = all_pass held record_size index (tree.levels - 1) tree.top all in
        by_opened all _ refl (rw walked at stops)

-- a place over two blocks fails for both
pub shared : (key : KeyValue) (held : List (List ℕ)) (record_size : ℕ) (tree : ObjTree) (i j level : ℕ) → place_of (suc level) i ≡ place_of (suc level) j
    → FailsFirst key held record_size tree i (suc level) → FailsFirst key held record_size tree j (suc level)
shared key held record_size tree i j level same fails =
    let at = place_level held i (tree.levels - 1) tree.top fails.0 fails.1 fails.2 in
    let sum : suc level + fails.0 ≡ tree.levels - 1 + 1 = ap (λ (l : ℕ). l + fails.0) (sym fails.3) ∙ at.sum in
    let move : (d : ℕ) → d ≤ fails.0 → place_at held i (tree.levels - 1) tree.top d ≡ place_at held j (tree.levels - 1) tree.top d =
    λ d low. same_place held i j (suc level) (tree.levels - 1) tree.top d (omega arith) same (omega (arith, sum, low)) in (
      fails.0,
      fails.1,
      sym (move fails.0 (omega arith)) ∙ fails.2,
      fails.3,
      fails.4,
      λ d other low there. fails.5 d other low (move d (omega (arith, low)) ∙ there),
    )

-- ---- the law

pub record Found (key : KeyValue) (held : List (List ℕ)) (record_size : ℕ) (tree : ObjTree) (first count : ℕ) (failed : MacError) : Type 0 where
  pub index : ℕ
  pub low : first ≤ index
  pub high : index < first + count
  pub stops : text_at key held record_size tree index ≡ Err failed
  pub before : (other : ℕ) → first ≤ other → other < index → (e : MacError) → text_at key held record_size tree other ≡ Err e → ⊥

pub found_first : (key : KeyValue) (held : List (List ℕ)) (record_size : ℕ) (tree : ObjTree) (first count : ℕ) (failed : MacError)
    → texts_at key held record_size tree first count ≡ Err failed → Found key held record_size tree first count failed
unfolding texts_at
found_first key held record_size tree first count failed is =
    let one = first_err (text_at key held record_size tree) first count failed is in
    record {
      index = first + one.at;
      low = omega arith;
      high = omega (arith, one.within);
      stops = one.fails;
      before = λ other low less e fails.
          let place : first + (other - first) ≡ other = omega (arith, low) in
          one.before (other - first) (omega (arith, less, low)) e (ap (text_at key held record_size tree) place ∙ fails);
    }

all_well : {X E : Type 0} (f : ℕ → Result X E) (first n k : ℕ) (ys : List X) (failed : E) → collected (map f (range_with_len first n)) ≡ Ok ys → k < n
    → f (first + k) ≡ Err failed → ⊥
all_well f first zero k ys failed is within fails = absurd (omega (arith, within))
all_well {X = X} {E = E} f first (suc n) zero ys failed is within fails =
    let place : first + 0 ≡ first = omega arith in
    let one = rw place at fails in
    absurd (let g = rw one at is in cc)
all_well {X = X} {E = E} f first (suc n) (suc k) ys failed is within fails =
    by_one (f first) (collected (map f (range_with_len (first + 1) n))) refl
    (λ zs same. let place : first + suc k ≡ first + 1 + k = omega arith in all_well f (first + 1) n k zs failed same (omega (arith, within)) (rw place at fails)) is
  where
    by_one : (one : Result X E) (rest : Result (List X) E) → collected (map f (range_with_len (first + 1) n)) ≡ rest
        → ((zs : List X) → collected (map f (range_with_len (first + 1) n)) ≡ Ok zs → ⊥)
        → collected (one ∷ map f (range_with_len (first + 1) n)) ≡ Ok ys → ⊥
    by_one (Err other) rest same later is = absurd (cc)
    by_one (Ok x) (Ok zs) same later is = later zs same
    by_one (Ok x) (Err other) same later is = absurd (let g = rw same at is in cc)

pub some_fails : (key : KeyValue) (held : List (List ℕ)) (record_size : ℕ) (tree : ObjTree) (first count index level : ℕ) → first ≤ index → index < first + count
    → FailsFirst key held record_size tree index level → (failed : MacError) × (texts_at key held record_size tree first count ≡ Err failed)
unfolding texts_at
some_fails key held record_size tree first count index level low high fails =
    by_result (collected (map (text_at key held record_size tree) (range_with_len first count))) refl
  where
    by_result : (r : Result (List (Option (List ℕ))) MacError) → collected (map (text_at key held record_size tree) (range_with_len first count)) ≡ r
        → (failed : MacError) × (collected (map (text_at key held record_size tree) (range_with_len first count)) ≡ Err failed)
    by_result (Err failed) is = (failed, is)
    by_result (Ok ys) is =
        let place : index ≡ first + (index - first) = omega (arith, low) in
        absurd (all_well (text_at key held record_size tree) first count (index - first) ys _ is (omega (arith, low, high))
        (ap (text_at key held record_size tree) (sym place) ∙ text_fails key held record_size tree index level fails))

-- of two blocks that aren't below one place of a level, that of the second begins behind the first
behind : (level i j : ℕ) → i < j → (place_of level i ≡ place_of level j → ⊥) → i < place_of level j * 32 ^ level
behind level i j order other =
    let some : 0 < 32 ^ level = one-le-pow level 32 (omega arith) in
    let upper : i < i / 32 ^ level * 32 ^ level + 32 ^ level = lt-div-mul-add some in
    let under : i / 32 ^ level * 32 ^ level ≤ i = div-mul-le_self i (32 ^ level) in
    elim (cases_lt (place_of level i) (place_of level j)) [
      | inl less ↦
          let next : i / 32 ^ level + 1 ≤ j / 32 ^ level = omega (arith, less) in
          let most : (i / 32 ^ level + 1) * 32 ^ level ≤ j / 32 ^ level * 32 ^ level = mul-le-mul_right (32 ^ level) next in
          behind_of i (i / 32 ^ level) (j / 32 ^ level * 32 ^ level) (32 ^ level) upper most
      | inr more ↦
          let over : i / 32 ^ level * 32 ^ level ≤ j = below_it i j (i / 32 ^ level * 32 ^ level) under order in
          let least : place_of level i ≤ place_of level j = le-div (i / 32 ^ level) j (32 ^ level) some over in
          absurd (other (equal_of (place_of level i) (place_of level j) least more))
    ]
  where
    behind_of : (i q most w : ℕ) → i < q * w + w → (q + 1) * w ≤ most → i < most
    behind_of i q most w upper up =
        let parts : (q + 1) * w ≡ q * w + 1 * w = add-mul q 1 w in
        let one : 1 * w ≡ w = omega arith in
        omega (arith, upper, up, parts, one)

    below_it : (i j n : ℕ) → n ≤ i → i < j → n ≤ j
    below_it i j n under order = omega (arith, under, order)

    equal_of : (a b : ℕ) → a ≤ b → b ≤ a → a ≡ b
    equal_of a b one two = omega (arith, one, two)

failed_same : (level other place at : ℕ) → MacFailed level place ≡ MacFailed other at → (level ≡ other) × (place ≡ at)
failed_same level other place at is = (cc, cc)

ok_same : {X : Type 0} (r : Result X MacError) (a b : MacError) → r ≡ Err a → r ≡ Err b → a ≡ b
ok_same r a b one two = cc

pub least_place : (key : KeyValue) (held : List (List ℕ)) (record_size : ℕ) (tree : ObjTree) (first count level place index other : ℕ)
    → texts_at key held record_size tree first count ≡ Err (MacFailed level place) → first ≤ index → index < first + count
    → FailsFirst key held record_size tree index other
    → IsBefore level place other (place_of other index) ⊎ ((level ≡ other) × (place ≡ place_of other index))
least_place key held record_size tree first count level place index other is low high fails =
    let one = found_first key held record_size tree first count (MacFailed level place) is in
    let own = text_stops key held record_size tree one.index (MacFailed level place) one.stops in
    let parts = failed_same level own.level place (place_of own.level one.index) own.is in
    let at_own : place * 32 ^ level ≡ place_of own.level one.index * 32 ^ own.level =
    ap (λ (p : ℕ). p * 32 ^ level) parts.1 ∙ ap (λ (l : ℕ). place_of own.level one.index * 32 ^ l) parts.0 in
    let begins : place * 32 ^ level ≤ one.index =
    subst (λ (n : ℕ). n ≤ one.index) (sym at_own) (div-mul-le_self one.index (32 ^ own.level)) in
    elim (cases_lt index one.index) [
      | inl earlier ↦ absurd (one.before index low earlier _ (text_fails key held record_size tree index other fails))
      | inr later ↦
          elim (cases_lt one.index index) [
            | inr back ↦
                let same : index ≡ one.index = omega (arith, later, back) in
                inr (failed_same level other place (place_of other index)
                (ok_same _ _ _ one.stops (ap (text_at key held record_size tree) (sym same) ∙ text_fails key held record_size tree index other fails)))
            | inl behind_it ↦ by_place one.index one.stops behind_it begins other fails (cases_same (place_of other one.index) (place_of other index))
          ]
    ]
  where
    cases_same : (a b : ℕ) → (a ≡ b) ⊎ (a ≡ b → ⊥)
    cases_same a b =
        elim (cases_lt a b) [
          | inl less ↦ inr (λ e. absurd (omega (arith, e, less)))
          | inr more ↦
              elim (cases_lt b a) [
                | inl less ↦ inr (λ e. absurd (omega (arith, e, less)))
                | inr also ↦ inl (omega (arith, more, also))
              ]
        ]

    by_place : (at : ℕ) → text_at key held record_size tree at ≡ Err (MacFailed level place) → at < index → place * 32 ^ level ≤ at → (other : ℕ)
        → FailsFirst key held record_size tree index other → (place_of other at ≡ place_of other index) ⊎ (place_of other at ≡ place_of other index → ⊥)
        → IsBefore level place other (place_of other index) ⊎ ((level ≡ other) × (place ≡ place_of other index))
    by_place at stops order begins other fails (inr differ) =
        inl (inl (omega (arith, begins, behind other at index order differ)))
    by_place at stops order begins zero fails (inl same) =
        let e : at ≡ index = sym (own_place at) ∙ same ∙ own_place index in
        absurd (omega (arith, e, order))
    by_place at stops order begins (suc other) fails (inl same) =
        let moved = text_fails key held record_size tree at (suc other) (shared key held record_size tree index at other (sym same) fails) in
        let parts = failed_same level (suc other) place (place_of (suc other) at) (ok_same _ _ _ stops moved) in
        inr (parts.0, parts.1 ∙ same)
