-- The bytes that references give, block by block.
use Rattle.std.proofs.Common.{◌≡◌, ℕ, zero, suc, ◌+◌, ◌-◌, ◌*◌, ◌/◌, ◌%◌, ◌<◌, ◌≤◌, Bool, true, false, nat_le, List, [], ◌∷◌, ◌++◌, length, get_or, map, replicate, refl, sym, ap, subst, ◌∙◌, inl, inr, arith, length-append, Option, Some, None, if◌then◌else◌}
use Rattle.std.specs.Prelude.{◌⊎◌, min, IfSome}
use Rattle.std.specs.List.{flat_map, range_with_len}
use Rattle.std.specs.Option.{option_map}
use Rattle.std.proofs.lemmas.Bool.{cases_lt, leb-true}
use Rattle.std.proofs.lemmas.Grind.{div_ceil_times, same_number_lists}
use Rattle.std.proofs.lemmas.List.{get_or-append-add, get_or_append_left, get_or_past}
use Rattle.std.proofs.Math.Nat.{add-mul, div-add-mod, div-mul-le_self, mod-lt, mul-add, mul-le-mul_right, mul_comm}
use Rattle.block_crypt.specs.Blocks.{KeyValue}
use Rattle.indirect_macs.specs.declared.refs.BlockRef.{BlockRef}
use Rattle.file_blocks.specs.Objects.{blocks_for, filled, opened_ref}
use Rattle.file_blocks.specs.Wholes.{all_of, bytes_of_ref, bytes_of_refs}
use Rattle.file_blocks.proofs.Bytes.{filled_at}
use Rattle.file_blocks.proofs.Opening.{hole_bytes}
use Rattle.file_blocks.proofs.Ranges.{length-filled}
use Rattle.file_blocks.proofs.Stored.{opened_grown}
use Rattle.file_blocks.proofs.WrittenBytes.{ref_long}

-- ---- blocks one after another

-- all blocks but the last ones have one size
abbrev AreBlocks : (size total first : ℕ) → List (List ℕ) → Type 0
AreBlocks size total first blocks = (k : ℕ) → k < length blocks → length (get_or blocks k []) ≡ min size (total - size * (first + k))

later_blocks : (size total first : ℕ) (block : List ℕ) (blocks : List (List ℕ)) → AreBlocks size total first (block ∷ blocks) → AreBlocks size total (first + 1) blocks
later_blocks size total first block blocks are k within =
    let place : first + suc k ≡ first + 1 + k = omega arith in
    are (suc k) (omega (arith, within)) ∙ ap (λ (n : ℕ). min size (total - size * n)) place

front_block : (size total first : ℕ) (block : List ℕ) (blocks : List (List ℕ)) → AreBlocks size total first (block ∷ blocks) → length block ≡ min size (total - size * first)
front_block size total first block blocks are =
    let place : first + 0 ≡ first = omega arith in
    are zero (omega arith) ∙ ap (λ (n : ℕ). min size (total - size * n)) place

joined_size : (size total first : ℕ) (blocks : List (List ℕ)) → AreBlocks size total first blocks
    → length (flat_map (λ block. block) blocks) ≡ min (size * length blocks) (total - size * first)
joined_size size total first [] are =
    let none : size * 0 ≡ 0 = omega arith in
    rw none (omega arith)
joined_size size total first (block ∷ blocks) are =
    let front = front_block size total first block blocks are in
    let rest = joined_size size total (first + 1) blocks (later_blocks size total first block blocks are) in
    let next : suc (length blocks) ≡ length blocks + 1 = omega arith in
    let one : size * 1 ≡ size = omega arith in
    let times = mul-add size (length blocks) 1 in
    let place = mul-add size first 1 in
    length-append block (flat_map (λ block. block) blocks) ∙ rw next (omega (arith, front, rest, one, times, place))

joined_byte : (size total first k r : ℕ) (blocks : List (List ℕ)) → AreBlocks size total first blocks → k < length blocks → r < length (get_or blocks k [])
    → get_or (flat_map (λ block. block) blocks) (size * k + r) 0 ≡ get_or (get_or blocks k []) r 0
joined_byte size total first k r [] are low within = absurd (omega (arith, low))
joined_byte size total first zero r (block ∷ blocks) are low within =
    let place : size * 0 + r ≡ r = omega arith in
    ap (λ (n : ℕ). get_or (block ++ flat_map (λ block. block) blocks) n 0) place ∙ get_or_append_left block (flat_map (λ block. block) blocks) 0 r within
joined_byte size total first (suc k) r (block ∷ blocks) are low within =
    let front = front_block size total first block blocks are in
    let own = are (suc k) low in
    let next : suc k ≡ k + 1 = omega arith in
    let times : size * suc k ≡ size * (k + 1) = ap (λ (n : ℕ). size * n) next in
    let both : size * (first + suc k) ≡ size * (first + (k + 1)) = ap (λ (n : ℕ). size * (first + n)) next in
    let one : size * 1 ≡ size = omega arith in
    let least : length block ≡ size = omega (arith, front, own, within, both, mul-add size first (k + 1), mul-add size k 1, one) in
    let place : size * suc k + r ≡ length block + (size * k + r) = omega (arith, times, least, mul-add size k 1, one) in
    ap (λ (n : ℕ). get_or (block ++ flat_map (λ block. block) blocks) n 0) place
    ∙ get_or-append-add block (flat_map (λ block. block) blocks) (size * k + r) 0
    ∙ joined_byte size total (first + 1) k r blocks (later_blocks size total first block blocks are) (omega (arith, low)) within

-- ---- all of some options

all_some : {X : Type 0} (f : ℕ → Option X) (first n : ℕ) → ((i : ℕ) → first ≤ i → i < first + n → (x : X) × (f i ≡ Some x))
    → (xs : List X) × (all_of (map f (range_with_len first n)) ≡ Some xs)
all_some f first zero each = ([], refl)
all_some f first (suc n) each =
    let one = each first (omega arith) (omega arith) in
    let rest = all_some f (first + 1) n (λ i low high. each i (omega (arith, low)) (omega (arith, high))) in
    (one.0 ∷ rest.0, rw (one.1, rest.1) refl)

all_long : {X : Type 0} (f : ℕ → Option X) (first n : ℕ) (xs : List X) → all_of (map f (range_with_len first n)) ≡ Some xs → length xs ≡ n
all_long f first zero xs is = let e : [] ≡ xs = cc in ap length (sym e)
all_long {X = X} f first (suc n) xs is = by_one (f first) (all_of (map f (range_with_len (first + 1) n))) refl (all_long f (first + 1) n) is
  where
    by_one : (one : Option X) (rest : Option (List X)) → all_of (map f (range_with_len (first + 1) n)) ≡ rest
        → ((ys : List X) → all_of (map f (range_with_len (first + 1) n)) ≡ Some ys → length ys ≡ n)
        → all_of (one ∷ map f (range_with_len (first + 1) n)) ≡ Some xs → length xs ≡ suc n
    by_one None rest same later is = absurd (cc)
    by_one (Some x) None same later is = absurd (let g = rw same at is in cc)
    by_one (Some x) (Some ys) same later is =
        let g = rw same at is in
        let e : x ∷ ys ≡ xs = cc in
        ap length (sym e) ∙ ap suc (later ys same)

all_at : {X : Type 0} (f : ℕ → Option X) (first n : ℕ) (xs : List X) (k : ℕ) (d : X) → all_of (map f (range_with_len first n)) ≡ Some xs → k < n
    → f (first + k) ≡ Some (get_or xs k d)
all_at f first zero xs k d is within = absurd (omega (arith, within))
all_at {X = X} f first (suc n) xs k d is within =
    by_one (f first) refl (all_of (map f (range_with_len (first + 1) n))) refl (λ ys j same low. all_at f (first + 1) n ys j d same low) k within is
  where
    by_one : (one : Option X) → f first ≡ one → (rest : Option (List X)) → all_of (map f (range_with_len (first + 1) n)) ≡ rest
        → ((ys : List X) (j : ℕ) → all_of (map f (range_with_len (first + 1) n)) ≡ Some ys → j < n → f (first + 1 + j) ≡ Some (get_or ys j d))
        → (k : ℕ) → k < suc n → all_of (one ∷ map f (range_with_len (first + 1) n)) ≡ Some xs → f (first + k) ≡ Some (get_or xs k d)
    by_one None one rest same later k low is = absurd (cc)
    by_one (Some x) one None same later k low is = absurd (let g = rw same at is in cc)
    by_one (Some x) one (Some ys) same later zero low is =
        let g = rw same at is in
        let e : x ∷ ys ≡ xs = cc in
        let place : first + 0 ≡ first = omega arith in
        ap f place ∙ one ∙ ap (λ (l : List X). Some (get_or l 0 d)) e
    by_one (Some x) one (Some ys) same later (suc k) low is =
        let g = rw same at is in
        let e : x ∷ ys ≡ xs = cc in
        let place : first + suc k ≡ first + 1 + k = omega arith in
        ap f place ∙ later ys k same (omega (arith, low)) ∙ ap (λ (l : List X). Some (get_or l (suc k) d)) e

-- ---- one block

-- a reference's block has this text; a hole has none
abbrev pub Stores : KeyValue → (held : List (List ℕ)) → Option BlockRef → (text : List ℕ) → Type 0
Stores key held None text = text ≡ []
Stores key held (Some r) text = opened_ref key held r ≡ Some text

-- the block of an index ends within so many bytes
abbrev pub IsSized : (record_size bytes index : ℕ) → Option BlockRef → Type 0
IsSized record_size bytes index found = IfSome found (λ r. (r.size ≤ record_size) × (record_size * index + r.size ≤ bytes))

-- and has the bytes of an object at its place
pub record IsPart (key : KeyValue) (held : List (List ℕ)) (record_size : ℕ) (bytes : List ℕ) (index : ℕ) (found : Option BlockRef) : Type 0 where
  pub text : List ℕ
  pub stores : Stores key held found text
  pub each : (p : ℕ) → p < record_size → get_or text p 0 ≡ get_or bytes (record_size * index + p) 0

pub stores_same : (key : KeyValue) (held : List (List ℕ)) (found : Option BlockRef) (one two : List ℕ) → Stores key held found one → Stores key held found two → one ≡ two
stores_same key held None one two first second = first ∙ sym second
stores_same key held (Some r) one two first second = cc

-- a text has no byte behind its reference's size
pub stores_past : (key : KeyValue) (held : List (List ℕ)) (found : Option BlockRef) (text : List ℕ) (most p : ℕ) → Stores key held found text
    → IfSome found (λ r. r.size ≤ most) → most ≤ p → get_or text p 0 ≡ 0
stores_past key held None text most p stores small past = ap (λ (l : List ℕ). get_or l p 0) stores ∙ refl
stores_past key held (Some r) text most p stores small past = get_or_past text p 0 (omega (arith, small, past, ref_long key held r text stores))

pub stores_grown : (key : KeyValue) (held more : List (List ℕ)) (found : Option BlockRef) (text : List ℕ) → Stores key held found text → Stores key (held ++ more) found text
stores_grown key held more None text stores = stores
stores_grown key held more (Some r) text stores = opened_grown key held more r text stores

pub if_found : {X : Type 0} (found : Option X) {P Q : X → Type 0} → IfSome found P → ((x : X) → P x → Q x) → IfSome found Q
if_found None is to = tt
if_found (Some x) is to = to x is

-- what a reference gives
record IsGiven (key : KeyValue) (held : List (List ℕ)) (most : ℕ) (found : Option BlockRef) (block : List ℕ) : Type 0 where
  pub small : IfSome found (λ r. r.size ≤ most)
  pub text : List ℕ
  pub stores : Stores key held found text
  pub is : block ≡ filled most text

given : (key : KeyValue) (held : List (List ℕ)) (most : ℕ) (found : Option BlockRef) (block : List ℕ) → bytes_of_ref key held most found ≡ Some block
    → IsGiven key held most found block
given key held most None block is =
    let e : replicate most 0 ≡ block = cc in
    record { small = tt; text = []; stores = refl; is = sym e ∙ hole_bytes most }
given key held most (Some r) block is = by_size (nat_le r.size most) refl (opened_ref key held r) refl is
  where
    by_size : (b : Bool) → nat_le r.size most ≡ b → (o : Option (List ℕ)) → opened_ref key held r ≡ o → option_map (filled most) (if b then o else None) ≡ Some block
        → IsGiven key held most (Some r) block
    by_size true small (Some text) opened is =
        let e : filled most text ≡ block = cc in
        record { small = leb-true r.size most small; text = text; stores = opened; is = sym e }
    by_size true small None opened is = absurd (cc)
    by_size false small o opened is = absurd (cc)

gives : (key : KeyValue) (held : List (List ℕ)) (most : ℕ) (found : Option BlockRef) (text : List ℕ) → IfSome found (λ r. r.size ≤ most) → Stores key held found text
    → bytes_of_ref key held most found ≡ Some (filled most text)
gives key held most None text small stores = rw stores (ap (λ (l : List ℕ). let o : Option (List ℕ) = Some l in o) (hole_bytes most))
gives key held most (Some r) text small stores =
    let yes : nat_le r.size most ≡ true = grind (arith, small) in
    rw (yes, stores) refl

-- ---- all blocks

-- a byte of an object is in one of its blocks
pub block_within : (record_size bytes j : ℕ) → 0 < record_size → j < bytes → j / record_size < blocks_for record_size bytes
block_within record_size bytes j wide within =
    elim (cases_lt (j / record_size) (blocks_for record_size bytes)) [
      | inl less ↦ less
      | inr more ↦
          let most = mul-le-mul_right record_size more in
          absurd (omega (arith, most, (div_ceil_times bytes record_size wide).0, div-mul-le_self j record_size, within))
    ]

-- a block begins within the object
pub begins : (record_size bytes index : ℕ) → 0 < record_size → index < blocks_for record_size bytes → record_size * index < bytes
begins record_size bytes index wide within =
    let few = (div_ceil_times bytes record_size wide).1 in
    let times : (index + 1) * record_size ≤ blocks_for record_size bytes * record_size = mul-le-mul_right record_size (omega (arith, within)) in
    let parts = add-mul index 1 record_size in
    let one : 1 * record_size ≡ record_size = omega arith in
    omega (arith, few, times, parts, one, mul_comm index record_size)

module _ (key : KeyValue) (held : List (List ℕ)) (record_size bytes : ℕ) (refs : ℕ → Option BlockRef) (wide : 0 < record_size) where
  abbrev most_at : ℕ → ℕ
  most_at index = min record_size (bytes - record_size * index)

  abbrev block_at : ℕ → Option (List ℕ)
  block_at index = bytes_of_ref key held (most_at index) (refs index)

  blocks_of : (whole : List ℕ) → bytes_of_refs key held record_size bytes refs ≡ Some whole
      → (blocks : List (List ℕ)) × (all_of (map block_at (range_with_len 0 (blocks_for record_size bytes))) ≡ Some blocks) × (whole ≡ flat_map (λ block. block) blocks)
  unfolding bytes_of_refs
  blocks_of whole is = by_all (all_of (map block_at (range_with_len 0 (blocks_for record_size bytes)))) refl is
    where
      by_all : (all : Option (List (List ℕ))) → all_of (map block_at (range_with_len 0 (blocks_for record_size bytes))) ≡ all
          → option_map (flat_map (λ block. block)) all ≡ Some whole
          → (blocks : List (List ℕ)) × (all_of (map block_at (range_with_len 0 (blocks_for record_size bytes))) ≡ Some blocks) × (whole ≡ flat_map (λ block. block) blocks)
      by_all None same is = absurd (cc)
      by_all (Some blocks) same is = let e : flat_map (λ block. block) blocks ≡ whole = cc in (blocks, same, sym e)

  pub given_parts : (whole : List ℕ) → bytes_of_refs key held record_size bytes refs ≡ Some whole
      → (length whole ≡ bytes) × ((index : ℕ) → index < blocks_for record_size bytes
      → IsSized record_size bytes index (refs index) × IsPart key held record_size whole index (refs index))
  given_parts whole is =
      let all = blocks_of whole is in
      let count : length all.0 ≡ blocks_for record_size bytes = all_long block_at 0 (blocks_for record_size bytes) all.0 all.1 in
      let one : (k : ℕ) → k < blocks_for record_size bytes → IsGiven key held (most_at k) (refs k) (get_or all.0 k [])
      = (λ k within.
      let place : 0 + k ≡ k = omega arith in
      given key held (most_at k) (refs k) (get_or all.0 k [])
      (subst (λ (i : ℕ). block_at i ≡ Some (get_or all.0 k [])) place (all_at block_at 0 (blocks_for record_size bytes) all.0 k [] all.1 within))) in
      let sizes : AreBlocks record_size bytes 0 all.0 = (λ k within.
      let place : 0 + k ≡ k = omega arith in
      rw place (ap length (one k (omega (arith, within, count))).is ∙ length-filled (most_at k) (one k (omega (arith, within, count))).text)) in
      let enough = (div_ceil_times bytes record_size wide).0 in
      let times : record_size * length all.0 ≡ blocks_for record_size bytes * record_size = ap (λ (n : ℕ). record_size * n) count ∙ mul_comm record_size (blocks_for record_size bytes) in
      let none : record_size * 0 ≡ 0 = omega arith in
      let long : length whole ≡ bytes = ap length all.2 ∙ omega (arith, joined_size record_size bytes 0 all.0 sizes, times, enough, none) in
      (long, λ index within. (sized index within (one index within), part all.0 count sizes whole all.2 long index within (one index within)))
    where
      sized : (index : ℕ) → index < blocks_for record_size bytes → {block : List ℕ} → IsGiven key held (most_at index) (refs index) block → IsSized record_size bytes index (refs index)
      sized index within is = let low = begins record_size bytes index wide within in if_found (refs index) is.small (λ r small. (omega (arith, small), omega (arith, small, low)))

      part : (blocks : List (List ℕ)) → length blocks ≡ blocks_for record_size bytes → AreBlocks record_size bytes 0 blocks → (whole : List ℕ)
          → whole ≡ flat_map (λ block. block) blocks → length whole ≡ bytes → (index : ℕ) → index < blocks_for record_size bytes
          → IsGiven key held (most_at index) (refs index) (get_or blocks index []) → IsPart key held record_size whole index (refs index)
      part blocks count sizes whole joined long index within is = record {
        text = is.text;
        stores = is.stores;
        each = λ p inside. by_most p inside (cases_lt p (most_at index));
      }
        where
          by_most : (p : ℕ) → p < record_size → (p < most_at index) ⊎ (most_at index ≤ p) → get_or is.text p 0 ≡ get_or whole (record_size * index + p) 0
          by_most p inside (inl low) =
              sym (ap (λ (l : List ℕ). get_or l (record_size * index + p) 0) joined
              ∙ joined_byte record_size bytes 0 index p blocks sizes (omega (arith, within, count)) (omega (arith, low, ap length is.is, length-filled (most_at index) is.text))
              ∙ ap (λ (l : List ℕ). get_or l p 0) is.is ∙ filled_at (most_at index) is.text p low)
          by_most p inside (inr past) =
              stores_past key held (refs index) is.text (most_at index) p is.stores is.small past
              ∙ sym (get_or_past whole (record_size * index + p) 0 (omega (arith, long, past, inside)))

  pub parts_give : (whole : List ℕ) → length whole ≡ bytes
      → ((index : ℕ) → index < blocks_for record_size bytes → IsSized record_size bytes index (refs index) × IsPart key held record_size whole index (refs index))
      → bytes_of_refs key held record_size bytes refs ≡ Some whole
  unfolding bytes_of_refs
  parts_give whole long each =
      let all = all_some block_at 0 (blocks_for record_size bytes) (λ i low high.
      let one = each i (omega (arith, high)) in
      (filled (most_at i) one.1.text, gives key held (most_at i) (refs i) one.1.text (if_found (refs i) one.0 (λ r small. omega (arith, small.0, small.1))) one.1.stores)) in
      let made : bytes_of_refs key held record_size bytes refs ≡ Some (flat_map (λ block. block) all.0) = rw all.1 refl in
      let other = given_parts (flat_map (λ block. block) all.0) made in
      let same : flat_map (λ block. block) all.0 ≡ whole =
      same_number_lists (flat_map (λ block. block) all.0) whole (other.0 ∙ sym long) (λ j within. by_place (flat_map (λ block. block) all.0) other.1 j (omega (arith, within, other.0))) in
      made ∙ ap (λ (l : List ℕ). let o : Option (List ℕ) = Some l in o) same
    where
      by_place : (made : List ℕ)
          → ((index : ℕ) → index < blocks_for record_size bytes → IsSized record_size bytes index (refs index) × IsPart key held record_size made index (refs index))
          → (j : ℕ) → j < bytes → get_or made j 0 ≡ get_or whole j 0
      by_place made parts j within =
          let place : record_size * (j / record_size) + j % record_size ≡ j = div-add-mod j record_size in
          let inside : j % record_size < record_size = mod-lt j wide in
          let there : j / record_size < blocks_for record_size bytes = block_within record_size bytes j wide within in
          let one = (parts (j / record_size) there).1 in
          let two = (each (j / record_size) there).1 in
          ap (λ (n : ℕ). get_or made n 0) (sym place)
          ∙ sym (one.each (j % record_size) inside)
          ∙ ap (λ (l : List ℕ). get_or l (j % record_size) 0) (stores_same key held (refs (j / record_size)) one.text two.text one.stores two.stores)
          ∙ two.each (j % record_size) inside
          ∙ ap (λ (n : ℕ). get_or whole n 0) place

-- ---- a longer shelf

all_grown : {X : Type 0} (f g : ℕ → Option X) (first n : ℕ) (xs : List X) → ((i : ℕ) (x : X) → f i ≡ Some x → g i ≡ Some x)
    → all_of (map f (range_with_len first n)) ≡ Some xs → all_of (map g (range_with_len first n)) ≡ Some xs
all_grown f g first zero xs each is = is
all_grown {X = X} f g first (suc n) xs each is = by_one (f first) refl (all_of (map f (range_with_len (first + 1) n))) refl (λ ys. all_grown f g (first + 1) n ys each) is
  where
    by_one : (one : Option X) → f first ≡ one → (rest : Option (List X)) → all_of (map f (range_with_len (first + 1) n)) ≡ rest
        → ((ys : List X) → all_of (map f (range_with_len (first + 1) n)) ≡ Some ys → all_of (map g (range_with_len (first + 1) n)) ≡ Some ys)
        → all_of (one ∷ map f (range_with_len (first + 1) n)) ≡ Some xs → all_of (map g (range_with_len first (suc n))) ≡ Some xs
    by_one None one rest same later is = absurd (cc)
    by_one (Some x) one None same later is = absurd (let h = rw same at is in cc)
    by_one (Some x) one (Some ys) same later is = let h = rw same at is in rw (each first x one, later ys same) h

given_grown : (key : KeyValue) (held more : List (List ℕ)) (most : ℕ) (found : Option BlockRef) (block : List ℕ) → bytes_of_ref key held most found ≡ Some block
    → bytes_of_ref key (held ++ more) most found ≡ Some block
given_grown key held more most found block is =
    let one = given key held most found block is in
    gives key (held ++ more) most found one.text one.small (stores_grown key held more found one.text one.stores)
    ∙ ap (λ (l : List ℕ). let o : Option (List ℕ) = Some l in o) (sym one.is)

pub refs_grown : (key : KeyValue) (held more : List (List ℕ)) (record_size bytes : ℕ) (refs : ℕ → Option BlockRef) (whole : List ℕ)
    → bytes_of_refs key held record_size bytes refs ≡ Some whole → bytes_of_refs key (held ++ more) record_size bytes refs ≡ Some whole
unfolding bytes_of_refs
refs_grown key held more record_size bytes refs whole is = by_all (all_of (map (block_at held) (range_with_len 0 (blocks_for record_size bytes)))) refl is
  where
    block_at : (held : List (List ℕ)) → ℕ → Option (List ℕ)
    block_at held index = bytes_of_ref key held (min record_size (bytes - record_size * index)) (refs index)

    by_all : (all : Option (List (List ℕ))) → all_of (map (block_at held) (range_with_len 0 (blocks_for record_size bytes))) ≡ all
        → option_map (flat_map (λ block. block)) all ≡ Some whole
        → option_map (flat_map (λ block. block)) (all_of (map (block_at (held ++ more)) (range_with_len 0 (blocks_for record_size bytes)))) ≡ Some whole
    by_all None same is = absurd (cc)
    by_all (Some blocks) same is =
        rw (all_grown (block_at held) (block_at (held ++ more)) 0 (blocks_for record_size bytes) blocks
        (λ i block. given_grown key held more (min record_size (bytes - record_size * i)) (refs i) block) same) is
