-- Stored nodes have one spelling.
use Rattle.std.proofs.Common.{◌≡◌, ℕ, zero, suc, ◌+◌, ◌*◌, ◌<◌, ◌≤◌, Bool, true, false, ◌&&◌, ◌==◌, List, [], ◌∷◌, ◌++◌, length, map, take, drop, replicate, get_or, slice_index, refl, sym, ap, subst, ◌∙◌, inl, inr, arith, length-append, length-take, length-drop, Option, Some, None}
use Rattle.std.specs.Prelude.{All, IfSome}
use Rattle.std.specs.List.{list_all, flat_map, range_with_len}
use Rattle.std.specs.Option.{option_map}
use Rattle.std.proofs.lemmas.Bool.{ne_eqb, eqb-true, cases_lt}
use Rattle.std.proofs.lemmas.List.{take_at, drop_at, take_all, append_assoc, get_or-take, get_or_past, get_or-drop, drop-drop, length-take-le}
use Rattle.std.proofs.lemmas.List.Elements.{All-head, All-tail, All-weaker, All-get_or}
use Rattle.std.proofs.lemmas.List.FromFn.{fill_by_all, length-range_with_len, get_or-range_with_len}
use Rattle.std.proofs.lemmas.List.Folds.{flat_map-map}
use Rattle.std.proofs.Math.Seq.{take-add}
use Rattle.std.proofs.Math.Nat.{mul-le-mul_left}
use Rattle.byte_fields.specs.LittleEndian.{little_endian_bytes, little_endian_value}
use Rattle.byte_fields.proofs.FieldLaws.{little_endian_value-bytes, little_endian_bytes-value}
use Rattle.indirect_macs.specs.declared.refs.BlockRef.{BlockRef}
use Rattle.indirect_macs.specs.declared.refs.NodeRef.{NodeRef}
use Rattle.indirect_macs.specs.Entries.{block_entry, node_entry, block_under_mac, node_under_mac, block_at, node_at, is_entry, is_size, without_address, IsBlockRef, IsNodeRef}
use Rattle.indirect_macs.specs.Nodes.{slots, entry_at, block_node, ref_node, blocks_of, refs_of, has_entries, mac_of, node_mac}
use Rattle.indirect_macs.proofs.Slots.{flat_more, all_more}

-- ---- pieces of one width, one after another

-- each piece of a list of pieces
piece_at : {X : Type 0} (f : X → List ℕ) (width : ℕ) (xs : List X) (d : X) (i : ℕ) → All (λ x. length (f x) ≡ width) xs → i < length xs
    → take width (drop (width * i) (flat_map f xs)) ≡ f (get_or xs i d)
piece_at f width [] d i all within = absurd (omega (arith, within))
piece_at f width (x ∷ xs) d zero all within =
    let start : width * 0 ≡ 0 = omega arith in
    rw start (take_at (f x) (flat_map f xs) width (All-head (λ x. length (f x) ≡ width) x xs all))
piece_at f width (x ∷ xs) d (suc i) all within =
    let next : width * suc i ≡ width + width * i = omega arith in
    let past : drop (width + width * i) (f x ++ flat_map f xs) ≡ drop (width * i) (flat_map f xs) =
    sym (drop-drop (width * i) width (f x ++ flat_map f xs)) ∙ ap (drop (width * i)) (drop_at (f x) (flat_map f xs) width (All-head (λ x. length (f x) ≡ width) x xs all)) in
    ap (λ (k : ℕ). take width (drop k (f x ++ flat_map f xs))) next ∙ ap (take width) past
    ∙ piece_at f width xs d i (All-tail (λ x. length (f x) ≡ width) x xs all) (omega (arith, within))

-- the pieces of a list of bytes
pieces_whole : (width n : ℕ) (bytes : List ℕ) → flat_map (λ slot. take width (drop (width * slot) bytes)) (range_with_len 0 n) ≡ take (width * n) bytes
pieces_whole width zero bytes = let none : width * 0 ≡ 0 = omega arith in rw none refl
pieces_whole width (suc n) bytes =
    let next : suc n ≡ n + 1 = omega arith in
    let size : width * n + width ≡ width * suc n = omega arith in
    ap (λ (k : ℕ). flat_map (λ slot. take width (drop (width * slot) bytes)) (range_with_len 0 k)) next
    ∙ flat_more (λ slot. take width (drop (width * slot) bytes)) n
    ∙ ap (λ (front : List ℕ). front ++ take width (drop (width * n) bytes)) (pieces_whole width n bytes)
    ∙ sym (take-add (width * n) width bytes) ∙ ap (λ (k : ℕ). take k bytes) size

-- pieces that are the same
pub same_pieces : (f g : ℕ → List ℕ) (n : ℕ) → ((i : ℕ) → i < n → f i ≡ g i) → flat_map f (range_with_len 0 n) ≡ flat_map g (range_with_len 0 n)
same_pieces f g zero same = refl
same_pieces f g (suc n) same =
    let next : suc n ≡ n + 1 = omega arith in
    let rest = same_pieces f g n (λ i within. same i (omega (arith, within))) in
    ap (λ (k : ℕ). flat_map f (range_with_len 0 k)) next ∙ flat_more f n
    ∙ rw (rest, same n (omega arith)) (sym (flat_more g n)) ∙ ap (λ (k : ℕ). flat_map g (range_with_len 0 k)) (sym next)

-- a test that each place passes
pub each_passes : (p : ℕ → Bool) (n : ℕ) → ((i : ℕ) → i < n → p i ≡ true) → list_all p (range_with_len 0 n) ≡ true
each_passes p zero all = refl
each_passes p (suc n) all =
    let next : suc n ≡ n + 1 = omega arith in
    ap (λ (k : ℕ). list_all p (range_with_len 0 k)) next
    ∙ all_more p n (each_passes p n (λ i within. all i (omega (arith, within)))) (all n (omega arith))

pub and_both : (a b : Bool) → (a && b) ≡ true → (a ≡ true) × (b ≡ true)
and_both true b h = (refl, h)
and_both false b h = cc

pub passes_at : {X : Type 0} (p : X → Bool) (xs : List X) (d : X) (i : ℕ) → i < length xs → list_all p xs ≡ true → p (get_or xs i d) ≡ true
passes_at p [] d i within all = absurd (omega (arith, within))
passes_at p (x ∷ xs) d zero within all = (and_both (p x) (list_all p xs) all).0
passes_at p (x ∷ xs) d (suc i) within all = passes_at p xs d i (omega (arith, within)) (and_both (p x) (list_all p xs) all).1

pub each_passed : (p : ℕ → Bool) (n i : ℕ) → i < n → list_all p (range_with_len 0 n) ≡ true → p i ≡ true
each_passed p n i within all =
    let place : get_or (range_with_len 0 n) i 0 ≡ i = get_or-range_with_len 0 n i 0 within ∙ omega arith in
    rw place at (passes_at p (range_with_len 0 n) 0 i (omega (arith, within, length-range_with_len 0 n)) all)

-- bytes of a part are bytes
pub bytes_of_part : (start n : ℕ) (bytes : List ℕ) → ((i : ℕ) → slice_index bytes i < 256) → (i : ℕ) → slice_index (take n (drop start bytes)) i < 256
bytes_of_part start n bytes all i =
    elim (cases_lt i n) [
      | inl lt ↦ rw (get_or-take n (drop start bytes) i 0 lt, get_or-drop start bytes i 0) (all (start + i))
      | inr ge ↦ rw (get_or_past (take n (drop start bytes)) i 0 (omega (arith, length-take n (drop start bytes)))) (omega arith)
    ]

-- ---- 32 pieces that are written by f and read by g

read_pieces : {X : Type 0} (f : X → List ℕ) (g : List ℕ → X) (width : ℕ) (xs : List X) (d : X) → length xs ≡ 32
    → All (λ x. length (f x) ≡ width) xs → All (λ x. g (f x) ≡ x) xs
    → map (λ slot. g (take width (drop (width * slot) (flat_map f xs)))) slots ≡ xs
unfolding slots
read_pieces f g width xs d whole widths same =
    sym (fill_by_all (λ slot. g (take width (drop (width * slot) (flat_map f xs)))) xs 32 d whole (λ k within.
    sym (ap g (piece_at f width xs d k widths (omega (arith, whole, within))) ∙ All-get_or (λ x. g (f x) ≡ x) xs k d (omega (arith, whole, within)) same)))

write_pieces : {X : Type 0} (f : X → List ℕ) (g : List ℕ → X) (width : ℕ) (node : List ℕ) → length node ≡ width * 32
    → ((slot : ℕ) → slot < 32 → f (g (take width (drop (width * slot) node))) ≡ take width (drop (width * slot) node))
    → flat_map f (map (λ slot. g (take width (drop (width * slot) node))) slots) ≡ node
unfolding slots
write_pieces f g width node whole same =
    flat_map-map f (λ slot. g (take width (drop (width * slot) node))) (range_with_len 0 32)
    ∙ same_pieces (λ slot. f (g (take width (drop (width * slot) node)))) (λ slot. take width (drop (width * slot) node)) 32 same
    ∙ pieces_whole width 32 node ∙ take_all (width * 32) node (omega (arith, whole))

test_pieces : {X : Type 0} (f : X → List ℕ) (p : List ℕ → Bool) (width : ℕ) (xs : List X) (d : X) → length xs ≡ 32
    → All (λ x. length (f x) ≡ width) xs → All (λ x. p (f x) ≡ true) xs
    → list_all (λ slot. p (take width (drop (width * slot) (flat_map f xs)))) slots ≡ true
unfolding slots
test_pieces f p width xs d whole widths passes =
    each_passes (λ slot. p (take width (drop (width * slot) (flat_map f xs)))) 32 (λ k within.
    ap p (piece_at f width xs d k widths (omega (arith, whole, within))) ∙ All-get_or (λ x. p (f x) ≡ true) xs k d (omega (arith, whole, within)) passes)

cover_pieces : {X : Type 0} (f : X → List ℕ) (u : List ℕ → List ℕ) (v : X → List ℕ) (width : ℕ) (xs : List X) (d : X) → length xs ≡ 32
    → All (λ x. length (f x) ≡ width) xs → All (λ x. u (f x) ≡ v x) xs
    → flat_map (λ slot. u (take width (drop (width * slot) (flat_map f xs)))) slots ≡ flat_map v xs
unfolding slots
cover_pieces f u v width xs d whole widths same =
    same_pieces (λ slot. u (take width (drop (width * slot) (flat_map f xs)))) (λ slot. v (get_or xs slot d)) 32 (λ k within.
    ap u (piece_at f width xs d k widths (omega (arith, whole, within))) ∙ All-get_or (λ x. u (f x) ≡ v x) xs k d (omega (arith, whole, within)) same)
    ∙ sym (flat_map-map v (λ slot. get_or xs slot d) (range_with_len 0 32))
    ∙ ap (flat_map v) (sym (fill_by_all (λ slot. get_or xs slot d) xs 32 d whole (λ k within. refl)))

-- ---- one entry

zeros_are : (e : List ℕ) → list_all (λ byte. byte == 0) e ≡ true → e ≡ replicate (length e) 0
zeros_are [] zeros = refl
zeros_are (x ∷ xs) zeros =
    let parts = and_both (x == 0) (list_all (λ byte. byte == 0) xs) zeros in
    let first : x ≡ 0 = eqb-true x 0 parts.0 in
    rw first (ap (λ (rest : List ℕ). 0 ∷ rest) (zeros_are xs parts.1))

front_of : (n : ℕ) (e : List ℕ) → 1 ≤ length e → slice_index e 0 ≡ 1 → 1 ∷ take n (drop 1 e) ≡ take (suc n) e
front_of n [] long tag = absurd (omega (arith, long))
front_of n (x ∷ xs) long tag = ap (λ (first : ℕ). first ∷ take n xs) (sym tag)

field : (n start : ℕ) (e : List ℕ) → start + n ≤ length e → ((i : ℕ) → slice_index e i < 256)
    → little_endian_bytes n (little_endian_value (take n (drop start e))) ≡ take n (drop start e)
field n start e within bytes =
    let size : length (take n (drop start e)) ≡ n = length-take-le n (drop start e) (omega (arith, within, length-drop start e)) in
    rw size at (little_endian_bytes-value (take n (drop start e)) (bytes_of_part start n e bytes))

pub block_entry-at : (record_size : ℕ) (e : List ℕ) → length e ≡ 49 → ((i : ℕ) → slice_index e i < 256) → is_entry 1 record_size e ≡ true
    → block_entry (block_at e) ≡ e
unfolding is_entry block_at
block_entry-at record_size e whole bytes entry = by_zeros (list_all (λ byte. byte == 0) e) refl
  where
    by_zeros : (zeros : Bool) → list_all (λ byte. byte == 0) e ≡ zeros → block_entry (block_at e) ≡ e
    by_zeros true zeros =
        let is : replicate 49 0 ≡ e = ap (λ (n : ℕ). replicate n 0) (sym whole) ∙ sym (zeros_are e zeros) in
        subst (λ (bytes : List ℕ). block_entry (block_at bytes) ≡ bytes) is refl
    by_zeros false other =
        let tagged = and_both (slice_index e 0 == 1) (is_size record_size (little_endian_value (take 4 (drop 1 e)))) (rw other at entry) in
        let tag : slice_index e 0 ≡ 1 = eqb-true (slice_index e 0) 1 tagged.0 in
        let reference : (slice_index e 0 == 0) ≡ false = rw tag refl in
        let size = field 4 1 e (omega (arith, whole)) bytes in
        let address = field 8 5 e (omega (arith, whole)) bytes in
        let parts : take 5 e ++ take 8 (drop 5 e) ++ take 8 (drop 13 e) ++ take 12 (drop 21 e) ++ take 16 (drop 33 e) ≡ e =
        rw (← take-add 5 8 e, ← take-add 13 8 e, ← take-add 21 12 e, ← take-add 33 16 e) (take_all 49 e (omega (arith, whole))) in
        rw (reference, size, address)
        (ap (λ (front : List ℕ). front ++ take 8 (drop 5 e) ++ take 8 (drop 13 e) ++ take 12 (drop 21 e) ++ take 16 (drop 33 e)) (front_of 4 e (omega (arith, whole)) tag)
        ∙ parts)

pub node_entry-at : (record_size : ℕ) (e : List ℕ) → length e ≡ 25 → ((i : ℕ) → slice_index e i < 256) → is_entry 2 record_size e ≡ true
    → node_entry (node_at e) ≡ e
unfolding is_entry node_at
node_entry-at record_size e whole bytes entry = by_zeros (list_all (λ byte. byte == 0) e) refl
  where
    by_zeros : (zeros : Bool) → list_all (λ byte. byte == 0) e ≡ zeros → node_entry (node_at e) ≡ e
    by_zeros true zeros =
        let is : replicate 25 0 ≡ e = ap (λ (n : ℕ). replicate n 0) (sym whole) ∙ sym (zeros_are e zeros) in
        subst (λ (bytes : List ℕ). node_entry (node_at bytes) ≡ bytes) is refl
    by_zeros false other =
        let tagged = and_both (slice_index e 0 == 1) true (rw other at entry) in
        let tag : slice_index e 0 ≡ 1 = eqb-true (slice_index e 0) 1 tagged.0 in
        let reference : (slice_index e 0 == 0) ≡ false = rw tag refl in
        let address = field 8 1 e (omega (arith, whole)) bytes in
        let parts : take 9 e ++ take 16 (drop 9 e) ≡ e = rw (← take-add 9 16 e) (take_all 25 e (omega (arith, whole))) in
        rw (reference, address)
        (ap (λ (front : List ℕ). front ++ take 16 (drop 9 e)) (front_of 8 e (omega (arith, whole)) tag) ∙ parts)

block_at-entry : (record_size : ℕ) (o : Option BlockRef) → IfSome o (IsBlockRef record_size) → block_at (block_entry o) ≡ o
unfolding block_at little_endian_bytes
block_at-entry record_size None is = refl
block_at-entry record_size (Some r) is =
    let size : little_endian_value (little_endian_bytes 4 r.size) ≡ r.size = little_endian_value-bytes 4 r.size is.size_fits in
    let address : little_endian_value (little_endian_bytes 8 r.addr) ≡ r.addr = little_endian_value-bytes 8 r.addr is.addr_fits in
    let rest : List ℕ = r.salt ++ r.iv ++ r.mac in
    let salt : take 8 rest ≡ r.salt = rw (append_assoc r.salt r.iv r.mac) (take_at r.salt (r.iv ++ r.mac) 8 is.salt) in
    let iv : take 12 (drop 8 rest) ≡ r.iv =
    rw (append_assoc r.salt r.iv r.mac, drop_at r.salt (r.iv ++ r.mac) 8 is.salt) (take_at r.iv r.mac 12 is.iv) in
    let mac : take 16 (drop 20 rest) ≡ r.mac =
    rw (drop_at (r.salt ++ r.iv) r.mac 20 (omega (arith, length-append r.salt r.iv, is.salt, is.iv))) (take_all 16 r.mac (omega (arith, is.mac))) in
    rw (size, address, salt, iv, mac) refl

node_at-entry : (o : Option NodeRef) → IfSome o IsNodeRef → node_at (node_entry o) ≡ o
unfolding node_at little_endian_bytes
node_at-entry None is = refl
node_at-entry (Some r) is =
    let address : little_endian_value (little_endian_bytes 8 r.addr) ≡ r.addr = little_endian_value-bytes 8 r.addr is.addr_fits in
    rw (address, take_all 16 r.mac (omega (arith, is.mac))) refl

is_entry-block : (record_size : ℕ) (o : Option BlockRef) → IfSome o (IsBlockRef record_size) → is_entry 1 record_size (block_entry o) ≡ true
unfolding is_entry little_endian_bytes
is_entry-block record_size None is = refl
is_entry-block record_size (Some r) is =
    let size : little_endian_value (little_endian_bytes 4 r.size) ≡ r.size = little_endian_value-bytes 4 r.size is.size_fits in
    rw (size, is.size) refl

is_entry-node : (record_size : ℕ) (o : Option NodeRef) → is_entry 2 record_size (node_entry o) ≡ true
unfolding is_entry
is_entry-node record_size None = refl
is_entry-node record_size (Some r) = refl

pub block_without_address : (o : Option BlockRef) → without_address 1 (block_entry o) ≡ block_under_mac o
unfolding little_endian_bytes
block_without_address None = refl
block_without_address (Some r) = refl

pub node_without_address : (o : Option NodeRef) → without_address 2 (node_entry o) ≡ node_under_mac (option_map (λ r. r.mac) o)
unfolding little_endian_bytes
node_without_address None = refl
node_without_address (Some r) = refl

pub length-block_entry : (record_size : ℕ) (o : Option BlockRef) → IfSome o (IsBlockRef record_size) → length (block_entry o) ≡ 49
unfolding little_endian_bytes
length-block_entry record_size None is = refl
length-block_entry record_size (Some r) is =
    omega (arith, length-append (r.salt ++ r.iv) r.mac, length-append r.salt r.iv, is.salt, is.iv, is.mac)

pub length-node_entry : (o : Option NodeRef) → IfSome o IsNodeRef → length (node_entry o) ≡ 25
unfolding little_endian_bytes
length-node_entry None is = refl
length-node_entry (Some r) is = omega (arith, is.mac)

-- ---- the laws

pub blocks_read : (record_size : ℕ) (refs : List (Option BlockRef)) → length refs ≡ 32 → All (λ entry. IfSome entry (IsBlockRef record_size)) refs
    → blocks_of (block_node refs) ≡ refs
blocks_read record_size refs whole all =
    read_pieces block_entry block_at 49 refs None whole
    (All-weaker _ (λ o. length (block_entry o) ≡ 49) (length-block_entry record_size) refs all)
    (All-weaker _ (λ o. block_at (block_entry o) ≡ o) (block_at-entry record_size) refs all)

pub blocks_have_entries : (record_size : ℕ) (refs : List (Option BlockRef)) → length refs ≡ 32 → All (λ entry. IfSome entry (IsBlockRef record_size)) refs
    → has_entries 1 record_size (block_node refs) ≡ true
unfolding has_entries
blocks_have_entries record_size refs whole all =
    test_pieces block_entry (is_entry 1 record_size) 49 refs None whole
    (All-weaker _ (λ o. length (block_entry o) ≡ 49) (length-block_entry record_size) refs all)
    (All-weaker _ (λ o. is_entry 1 record_size (block_entry o) ≡ true) (is_entry-block record_size) refs all)

pub part_of : (width slot : ℕ) (node : List ℕ) → length node ≡ width * 32 → slot < 32 → length (take width (drop (width * slot) node)) ≡ width
part_of width slot node whole within =
    let enough : width * (slot + 1) ≤ width * 32 = mul-le-mul_left width (omega (arith, within)) in
    let split : width * (slot + 1) ≡ width * slot + width = omega arith in
    length-take-le width (drop (width * slot) node) (omega (arith, length-drop (width * slot) node, whole, enough, split))

pub blocks_spelled : (record_size : ℕ) (node : List ℕ) → length node ≡ 1568 → ((i : ℕ) → slice_index node i < 256)
    → has_entries 1 record_size node ≡ true → block_node (blocks_of node) ≡ node
unfolding has_entries slots
blocks_spelled record_size node whole bytes entries =
    write_pieces block_entry block_at 49 node whole (λ slot within.
    block_entry-at record_size (take 49 (drop (49 * slot) node)) (part_of 49 slot node whole within) (bytes_of_part (49 * slot) 49 node bytes)
    (each_passed (λ slot. is_entry 1 record_size (take 49 (drop (49 * slot) node))) 32 slot within entries))

pub blocks_mac : (record_size : ℕ) (refs : List (Option BlockRef)) → length refs ≡ 32 → All (λ entry. IfSome entry (IsBlockRef record_size)) refs
    → node_mac 1 (block_node refs) ≡ mac_of 1 (flat_map block_under_mac refs)
unfolding node_mac
blocks_mac record_size refs whole all =
    ap (mac_of 1) (cover_pieces block_entry (without_address 1) block_under_mac 49 refs None whole
    (All-weaker _ (λ o. length (block_entry o) ≡ 49) (length-block_entry record_size) refs all)
    (All-weaker (λ entry. IfSome entry (IsBlockRef record_size)) (λ o. without_address 1 (block_entry o) ≡ block_under_mac o) (λ o is. block_without_address o) refs all))

pub refs_read : (refs : List (Option NodeRef)) → length refs ≡ 32 → All (λ entry. IfSome entry IsNodeRef) refs → refs_of (ref_node refs) ≡ refs
refs_read refs whole all =
    read_pieces node_entry node_at 25 refs None whole
    (All-weaker _ (λ o. length (node_entry o) ≡ 25) length-node_entry refs all)
    (All-weaker _ (λ o. node_at (node_entry o) ≡ o) node_at-entry refs all)

-- all levels above 1 have the same entries
pub entries_alike : (level record_size : ℕ) (node : List ℕ) → 2 ≤ level → has_entries level record_size node ≡ has_entries 2 record_size node
unfolding has_entries is_entry
entries_alike level record_size node above =
    let other : (level == 1) ≡ false = ne_eqb level 1 (λ e. omega (arith, e, above)) in
    simp other

pub macs_alike : (level : ℕ) (node : List ℕ) → 2 ≤ level
    → node_mac level node ≡ mac_of level (flat_map (λ slot. without_address 2 (entry_at 2 node slot)) slots)
unfolding node_mac
macs_alike level node above =
    let other : (level == 1) ≡ false = ne_eqb level 1 (λ e. omega (arith, e, above)) in
    simp other

refs_have : (record_size : ℕ) (refs : List (Option NodeRef)) → length refs ≡ 32 → All (λ entry. IfSome entry IsNodeRef) refs
    → has_entries 2 record_size (ref_node refs) ≡ true
unfolding has_entries
refs_have record_size refs whole all =
    test_pieces node_entry (is_entry 2 record_size) 25 refs None whole
    (All-weaker _ (λ o. length (node_entry o) ≡ 25) length-node_entry refs all)
    (All-weaker (λ entry. IfSome entry IsNodeRef) (λ o. is_entry 2 record_size (node_entry o) ≡ true) (λ o is. is_entry-node record_size o) refs all)

pub refs_have_entries : (level record_size : ℕ) (refs : List (Option NodeRef)) → 2 ≤ level → length refs ≡ 32 → All (λ entry. IfSome entry IsNodeRef) refs
    → has_entries level record_size (ref_node refs) ≡ true
refs_have_entries level record_size refs above whole all =
    entries_alike level record_size (ref_node refs) above ∙ refs_have record_size refs whole all

spelled : (record_size : ℕ) (node : List ℕ) → length node ≡ 800 → ((i : ℕ) → slice_index node i < 256)
    → has_entries 2 record_size node ≡ true → ref_node (refs_of node) ≡ node
unfolding has_entries slots
spelled record_size node whole bytes entries =
    write_pieces node_entry node_at 25 node whole (λ slot within.
    node_entry-at record_size (take 25 (drop (25 * slot) node)) (part_of 25 slot node whole within) (bytes_of_part (25 * slot) 25 node bytes)
    (each_passed (λ slot. is_entry 2 record_size (take 25 (drop (25 * slot) node))) 32 slot within entries))

pub refs_spelled : (level record_size : ℕ) (node : List ℕ) → 2 ≤ level → length node ≡ 800 → ((i : ℕ) → slice_index node i < 256)
    → has_entries level record_size node ≡ true → ref_node (refs_of node) ≡ node
refs_spelled level record_size node above whole bytes entries =
    spelled record_size node whole bytes (sym (entries_alike level record_size node above) ∙ entries)

pub refs_mac : (level : ℕ) (refs : List (Option NodeRef)) → 2 ≤ level → length refs ≡ 32 → All (λ entry. IfSome entry IsNodeRef) refs
    → node_mac level (ref_node refs) ≡ mac_of level (flat_map node_under_mac (map (option_map (λ r. r.mac)) refs))
refs_mac level refs above whole all =
    macs_alike level (ref_node refs) above
    ∙ ap (mac_of level) (cover_pieces node_entry (without_address 2) (λ o. node_under_mac (option_map (λ r. r.mac) o)) 25 refs None whole
    (All-weaker _ (λ o. length (node_entry o) ≡ 25) length-node_entry refs all)
    (All-weaker (λ entry. IfSome entry IsNodeRef) (λ o. without_address 2 (node_entry o) ≡ node_under_mac (option_map (λ r. r.mac) o)) (λ o is. node_without_address o) refs all)
    ∙ sym (flat_map-map node_under_mac (option_map (λ r. r.mac)) refs))
