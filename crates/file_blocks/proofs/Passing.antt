-- The walks over what a write or a cut changes pass where its old texts are read.
use Rattle.std.proofs.Common.{◌≡◌, ℕ, zero, suc, ◌+◌, ◌-◌, ◌*◌, ◌/◌, ◌^◌, ◌<◌, ◌≤◌, Bool, true, false, ◌==◌, nat_lt, nat_le, List, [], ◌∷◌, length, map, refl, sym, ap, subst, ◌∙◌, inl, inr, arith, Option, Some, None, Result, Ok, Err, if◌then◌else◌}
use Rattle.std.specs.Prelude.{IsOk}
use Rattle.std.specs.List.{range_with_len}
use Rattle.std.specs.Result.{result_map_both}
use Rattle.std.proofs.lemmas.Bool.{cases_lt, eq-eqb, eqb-false, leb-true}
use Rattle.std.proofs.lemmas.Grind.{div_ceil_times}
use Rattle.std.proofs.lemmas.List.FromFn.{length-map-range_with_len}
use Rattle.std.proofs.Math.Nat.{lt-div-mul-add, div-mul-le_self, mul-le-mul_right, add-mul, mul_comm, pow-suc}
use Rattle.block_crypt.specs.Blocks.{KeyValue}
use Rattle.salt_rotation.specs.SaltState.{SaltState}
use Rattle.indirect_macs.specs.declared.refs.BlockRef.{BlockRef}
use Rattle.indirect_macs.specs.declared.refs.ObjTree.{ObjTree}
use Rattle.indirect_macs.specs.declared.refs.MacError.{MacError}
use Rattle.indirect_macs.specs.Walk.{goes_on}
use Rattle.indirect_macs.specs.RunFields.{run_for}
use Rattle.indirect_macs.specs.Runs.{Passes, Run, first_at, first_block, last_at, last_block, levels_for, walk_to}
use Rattle.file_blocks.specs.Changes.{Change, ref_in, refs_to, run_in}
use Rattle.file_blocks.specs.Objects.{blocks_for, collected}
use Rattle.file_blocks.specs.Writes.{Write, change_of_cut, change_of_length, change_of_write, change_to, count_of, cut_by, first_of, front_at, last_kept, last_of, left_of, length_after, new_text, new_texts, front_from, taken_by}
use Rattle.file_blocks.specs.declared.object.Object.{Object}
use Rattle.file_blocks.proofs.Sealing.{length-refs}
use Rattle.file_blocks.proofs.NewTexts.{Finds, IsWrite, counted_up, finds_too, in_order, no_error, taken_finds, text_fails, is_ok_of}

-- ---- what is walked to

touched_walk : (held : List (List ℕ)) (record_size : ℕ) (run : Run) (tree : ObjTree) (j : ℕ) → run.levels ≡ tree.levels → run.top ≡ tree.top
    → Finds held record_size tree (32 * j) → IsOk (walk_to held record_size run (32 * j))
unfolding walk_to
touched_walk held record_size run tree j levels top found = rw (levels, top) (is_ok_of _ found.0 found.1)

-- the walks to the first and the last touched block pass, and those to the groups between
pub passes_over : (held : List (List ℕ)) (record_size : ℕ) (tree : ObjTree) (blocks from : ℕ) (refs : List (Option BlockRef)) (first last : ℕ) → 1 ≤ tree.levels
    → first_block (run_for tree blocks from refs) ≡ first → last_block (run_for tree blocks from refs) ≡ last
    → ((index : ℕ) → first ≤ index → index ≤ last → Finds held record_size tree index) → first ≤ last → Passes held record_size (run_for tree blocks from refs)
unfolding first_at last_at
passes_over held record_size tree blocks from refs first last some first_is last_is each order =
    record { each = λ j touched. touched_walk held record_size (run_for tree blocks from refs) tree j refl refl (by_place j (rw first_is at touched.low) (rw last_is at touched.high)) }
  where
    by_place : (j : ℕ) → first / 32 ^ 1 ≤ j → j ≤ last / 32 ^ 1 → Finds held record_size tree (32 * j)
    by_place j low high =
        elim (cases_lt (32 * j) first) [
          | inl before ↦ finds_too held record_size tree first (32 * j) some (omega (arith, before, low)) (each first (omega arith) order)
          | inr behind ↦ each (32 * j) behind (omega (arith, high))
        ]

-- a tree of no blocks has nothing to walk to
pub passes_none : (held : List (List ℕ)) (record_size : ℕ) (run : Run) → run.blocks ≡ 0 → Passes held record_size run
passes_none held record_size run none = record { each = λ j touched. absurd (let some = touched.blocks in omega (arith, some, none)) }

-- beyond the tree
beyond : (held : List (List ℕ)) (record_size : ℕ) (tree : ObjTree) (index : ℕ) → 32 ^ tree.levels ≤ index → Finds held record_size tree index
beyond held record_size tree index past =
    let no : nat_lt index (32 ^ tree.levels) ≡ false = grind (arith, past) in
    (None, rw no refl)

-- ---- numbers of blocks

pub blocks_some : (record_size bytes : ℕ) → 0 < record_size → 0 < bytes → blocks_for record_size bytes ≡ (bytes - 1) / record_size + 1
blocks_some record_size bytes wide some =
    let bounds = div_ceil_times bytes record_size wide in
    let over : bytes - 1 < (bytes - 1) / record_size * record_size + record_size = lt-div-mul-add wide in
    let under : (bytes - 1) / record_size * record_size ≤ bytes - 1 = div-mul-le_self (bytes - 1) record_size in
    by_size (blocks_for record_size bytes) ((bytes - 1) / record_size) bounds.0 bounds.1 over under
  where
    by_size : (n q : ℕ) → bytes ≤ n * record_size → n * record_size < bytes + record_size → bytes - 1 < q * record_size + record_size → q * record_size ≤ bytes - 1
        → n ≡ q + 1
    by_size n q enough few over under =
        elim (cases_lt n (q + 1)) [
          | inl less ↦
              let most : n * record_size ≤ q * record_size = mul-le-mul_right record_size (omega (arith, less)) in
              absurd (omega (arith, most, enough, under, some))
          | inr more ↦
              elim (cases_lt (q + 1) n) [
                | inl behind ↦
                    let least : (q + 2) * record_size ≤ n * record_size = mul-le-mul_right record_size (omega (arith, behind)) in
                    let parts : (q + 2) * record_size ≡ q * record_size + 2 * record_size = add-mul q 2 record_size in
                    let two : 2 * record_size ≡ record_size + record_size = omega arith in
                    absurd (omega (arith, least, parts, two, few, over, some))
                | inr also ↦ omega (arith, more, also)
              ]
        ]

pub blocks_none : (record_size : ℕ) → 0 < record_size → blocks_for record_size 0 ≡ 0
blocks_none record_size wide =
    let bounds = div_ceil_times 0 record_size wide in
    by_size (blocks_for record_size 0) bounds.1
  where
    by_size : (n : ℕ) → n * record_size < 0 + record_size → n ≡ 0
    by_size zero few = refl
    by_size (suc n) few =
        let parts : (n + 1) * record_size ≡ n * record_size + 1 * record_size = add-mul n 1 record_size in
        let next : suc n ≡ n + 1 = omega arith in
        let at_next = rw next at few in
        let one : 1 * record_size ≡ record_size = omega arith in
        absurd (omega (arith, at_next, parts, one))

pub blocks_order : (record_size a b : ℕ) → 0 < record_size → a ≤ b → blocks_for record_size a ≤ blocks_for record_size b
blocks_order record_size a b wide order =
    let low = div_ceil_times a record_size wide in
    let high = div_ceil_times b record_size wide in
    by_size (blocks_for record_size a) (blocks_for record_size b) low.1 high.0
  where
    by_size : (n m : ℕ) → n * record_size < a + record_size → b ≤ m * record_size → n ≤ m
    by_size n m few enough =
        elim (cases_lt m n) [
          | inl less ↦
              let least : (m + 1) * record_size ≤ n * record_size = mul-le-mul_right record_size (omega (arith, less)) in
              let parts : (m + 1) * record_size ≡ m * record_size + 1 * record_size = add-mul m 1 record_size in
              let one : 1 * record_size ≡ record_size = omega arith in
              absurd (omega (arith, least, parts, one, few, enough, order))
          | inr more ↦ more
        ]

-- ---- levels

one_level : (n : ℕ) → n ≤ 32 ^ 1 → levels_for n ≡ 1
one_level n few = let yes : nat_le n (32 ^ 1) ≡ true = grind (arith, few) in rw yes refl

two_levels : (n : ℕ) → 32 ^ 1 < n → n ≤ 32 ^ 2 → levels_for n ≡ 2
two_levels n many few =
    let no : nat_le n (32 ^ 1) ≡ false = grind (arith, many) in
    let yes : nat_le n (32 ^ 2) ≡ true = grind (arith, few) in
    rw (no, yes) refl

three_levels : (n : ℕ) → 32 ^ 2 < n → n ≤ 32 ^ 3 → levels_for n ≡ 3
three_levels n many few =
    let no : nat_le n (32 ^ 1) ≡ false = grind (arith, many) in
    let two : nat_le n (32 ^ 2) ≡ false = grind (arith, many) in
    let yes : nat_le n (32 ^ 3) ≡ true = grind (arith, few) in
    rw (no, two, yes) refl

four_levels : (n : ℕ) → 32 ^ 3 < n → n ≤ 32 ^ 4 → levels_for n ≡ 4
four_levels n many few =
    let no : nat_le n (32 ^ 1) ≡ false = grind (arith, many) in
    let two : nat_le n (32 ^ 2) ≡ false = grind (arith, many) in
    let three : nat_le n (32 ^ 3) ≡ false = grind (arith, many) in
    let yes : nat_le n (32 ^ 4) ≡ true = grind (arith, few) in
    rw (no, two, three, yes) refl

five_levels : (n : ℕ) → 32 ^ 4 < n → levels_for n ≡ 5
five_levels n many =
    let no : nat_le n (32 ^ 1) ≡ false = grind (arith, many) in
    let two : nat_le n (32 ^ 2) ≡ false = grind (arith, many) in
    let three : nat_le n (32 ^ 3) ≡ false = grind (arith, many) in
    let four : nat_le n (32 ^ 4) ≡ false = grind (arith, many) in
    rw (no, two, three, four) refl

-- where the levels differ, the greater number goes beyond the tree of the other
past_level : (old new level : ℕ) → levels_for old ≡ level → (new ≤ 32 ^ level → levels_for new ≡ level) → (levels_for new ≡ levels_for old → ⊥)
    → 32 ^ levels_for old < new
past_level old new level is within differ =
    elim (cases_lt (32 ^ level) new) [
      | inl past ↦ subst (λ (l : ℕ). 32 ^ l < new) (sym is) past
      | inr few ↦ absurd (differ (within few ∙ sym is))
    ]

levels_past : (old new : ℕ) → old ≤ new → (levels_for new ≡ levels_for old → ⊥) → 32 ^ levels_for old < new
levels_past old new order differ =
    elim (cases_lt (32 ^ 1) old) [
      | inr one ↦ past_level old new 1 (one_level old one) (λ few. one_level new few) differ
      | inl more ↦
          elim (cases_lt (32 ^ 2) old) [
            | inr two ↦ past_level old new 2 (two_levels old more two) (λ few. two_levels new (omega (arith, more, order)) few) differ
            | inl many ↦
                elim (cases_lt (32 ^ 3) old) [
                  | inr three ↦ past_level old new 3 (three_levels old many three) (λ few. three_levels new (omega (arith, many, order)) few) differ
                  | inl lots ↦
                      elim (cases_lt (32 ^ 4) old) [
                        | inr four ↦ past_level old new 4 (four_levels old lots four) (λ few. four_levels new (omega (arith, lots, order)) few) differ
                        | inl all ↦ absurd (differ (five_levels new (omega (arith, all, order)) ∙ sym (five_levels old all)))
                      ]
                ]
          ]
    ]

-- ---- a length alone

power_up : (levels : ℕ) → 1 ≤ levels → 32 ^ levels ≡ 32 * 32 ^ (levels - 1)
power_up levels some =
    let next : levels ≡ suc (levels - 1) = omega (arith, some) in
    ap (λ (l : ℕ). 32 ^ l) next ∙ pow-suc 32 (levels - 1) ∙ mul_comm (32 ^ (levels - 1)) 32

pub length_passes : (key : KeyValue) (salts : SaltState) (base : ℕ) (held : List (List ℕ)) (record_size : ℕ) (tree : ObjTree) (before after : ℕ) → 0 < record_size
    → 1 ≤ tree.levels → tree.levels ≡ levels_for (blocks_for record_size before) → before ≤ after → (change_of_length tree record_size after).stays ≡ false
    → Passes held record_size (run_in key salts base (change_of_length tree record_size after))
unfolding refs_to
length_passes key salts base held record_size tree before after wide some levels order moves =
    let blocks : ℕ = blocks_for record_size after in
    let differ : levels_for blocks ≡ levels_for (blocks_for record_size before) → ⊥ = (λ e. absurd (let same : levels_for blocks ≡ tree.levels = e ∙ sym levels in
    let yes : (levels_for blocks == tree.levels) ≡ true = eq-eqb (levels_for blocks) tree.levels same in cc)) in
    let past : 32 ^ tree.levels < blocks = subst (λ (l : ℕ). 32 ^ l < blocks) (sym levels)
    (levels_past (blocks_for record_size before) blocks (blocks_order record_size before after wide order) differ) in
    passes_over held record_size tree blocks 0 [] (blocks - 1) (blocks - 1) some refl refl
    (λ index low high. beyond held record_size tree index (omega (arith, low, past))) (omega arith)

-- ---- a write

length-collected : {X E : Type 0} (xs : List (Result X E)) (ys : List X) → collected xs ≡ Ok ys → length ys ≡ length xs
length-collected [] ys is = let e : [] ≡ ys = cc in ap length (sym e)
length-collected (Err failed ∷ xs) ys is = absurd (cc)
length-collected {X = X} {E = E} (Ok x ∷ xs) ys is = by_rest (collected xs) refl (λ zs same. length-collected xs zs same) is
  where
    by_rest : (rest : Result (List X) E) → collected xs ≡ rest → ((zs : List X) → collected xs ≡ Ok zs → length zs ≡ length xs)
        → result_map_both (λ zs. x ∷ zs) (λ e. e) rest ≡ Ok ys → length ys ≡ suc (length xs)
    by_rest (Ok zs) same later is = let e : x ∷ zs ≡ ys = cc in ap length (sym e) ∙ ap suc (later zs same)
    by_rest (Err failed) same later is = absurd (cc)

pub texts_count : (key : KeyValue) (held : List (List ℕ)) (w : Write) (texts : List (List ℕ)) → new_texts key held w ≡ Ok texts → length texts ≡ count_of w
unfolding new_texts
texts_count key held w texts is =
    length-collected (map (new_text key held w) (range_with_len (first_of w) (count_of w))) texts is ∙ length-map-range_with_len (new_text key held w) (first_of w) (count_of w)

text_finds : (key : KeyValue) (held : List (List ℕ)) (w : Write) (index : ℕ) → ((failed : MacError) → new_text key held w index ≡ Err failed → ⊥)
    → Finds held w.record_size w.tree index
text_finds key held w index passes = by_taken (taken_by key held w index) refl
  where
    by_taken : (r : Result (List ℕ) MacError) → taken_by key held w index ≡ r → Finds held w.record_size w.tree index
    by_taken (Ok taken) is = taken_finds key held w index taken is
    by_taken (Err failed) is = absurd (passes failed (text_fails key held w index failed is))

pub texts_pass : (key : KeyValue) (held : List (List ℕ)) (w : Write) (texts : List (List ℕ)) → IsWrite w → new_texts key held w ≡ Ok texts
    → (blocks : ℕ) (refs : List (Option BlockRef)) → length refs ≡ length texts → Passes held w.record_size (run_for w.tree blocks (first_of w) refs)
unfolding new_texts
texts_pass key held w texts is all blocks refs size =
    let total = counted_up w is in
    let order = in_order w is in
    let count : length refs ≡ count_of w = size ∙ texts_count key held w texts all in
    let some : nat_lt 0 (length refs) ≡ true = (let more : 0 < length refs = omega (arith, count, total, order) in grind (arith, more)) in
    let last : first_of w + length refs - 1 ≡ last_of w = omega (arith, count, total) in
    passes_over held w.record_size w.tree blocks (first_of w) refs (first_of w) (last_of w) is.levels (rw some refl) (rw some last)
    (λ index low high. text_finds key held w index (λ failed fails.
    no_error (new_text key held w) (first_of w) (count_of w) texts index low (omega (arith, high, total)) failed all fails)) order

pub write_passes : (key : KeyValue) (salts : SaltState) (base : ℕ) (held : List (List ℕ)) (w : Write) (c : Change) → 0 < w.record_size → 1 ≤ w.tree.levels
    → w.tree.levels ≡ levels_for (blocks_for w.record_size w.old_length) → change_of_write key held w ≡ Ok c → c.stays ≡ false
    → Passes held c.record_size (run_in key salts base c)
unfolding change_of_write
write_passes key salts base held w c wide some levels change moves = by_none (length w.bytes == 0) refl change
  where
    by_texts : 0 < length w.bytes → (r : Result (List (List ℕ)) MacError) → new_texts key held w ≡ r → result_map_both (change_to w) (λ failed. failed) r ≡ Ok c
        → Passes held c.record_size (run_in key salts base c)
    by_texts more (Ok texts) is change =
        let e : change_to w texts ≡ c = cc in
        subst (λ (d : Change). Passes held d.record_size (run_in key salts base d)) e
        (texts_pass key held w texts (record { levels = some; wide = wide; some = more }) is (blocks_for w.record_size (length_after w)) (refs_to key salts base texts)
        (length-refs key salts base texts))
    by_texts more (Err failed) is change = absurd (cc)

    by_none : (b : Bool) → (length w.bytes == 0) ≡ b
        → (if b then Ok (change_of_length w.tree w.record_size (length_after w)) else result_map_both (change_to w) (λ failed. failed) (new_texts key held w)) ≡ Ok c
        → Passes held c.record_size (run_in key salts base c)
    by_none true none change =
        let e : change_of_length w.tree w.record_size (length_after w) ≡ c = cc in
        subst (λ (d : Change). Passes held d.record_size (run_in key salts base d)) e
        (length_passes key salts base held w.record_size w.tree w.old_length (length_after w) wide some levels (omega arith) (ap (λ (d : Change). d.stays) e ∙ moves))
    by_none false more change =
        by_texts (omega (arith, eqb-false (length w.bytes) 0 more)) (new_texts key held w) refl change

-- ---- a cut

pub front_finds : (key : KeyValue) (held : List (List ℕ)) (record_size : ℕ) (tree : ObjTree) (index left : ℕ) (front : Option (List ℕ))
    → front_at key held record_size tree index left ≡ Ok front → Finds held record_size tree index
unfolding front_at
front_finds key held record_size tree index left front is = by_ref (ref_in held record_size tree index) refl is
  where
    by_ref : (r : Result (Option BlockRef) MacError) → ref_in held record_size tree index ≡ r
        → goes_on (λ found. front_from key held index left found) (λ failed. Err failed) r ≡ Ok front → Finds held record_size tree index
    by_ref (Ok found) same is = (found, same)
    by_ref (Err failed) same is = absurd (cc)

pub front_passes : (key : KeyValue) (salts : SaltState) (base : ℕ) (held : List (List ℕ)) (record_size to : ℕ) (tree : ObjTree) (front : Option (List ℕ)) → 0 < record_size
    → 1 ≤ tree.levels → 0 < to → Finds held record_size tree (last_kept record_size to) → Passes held record_size (run_in key salts base (cut_by tree record_size to front))
unfolding refs_to
front_passes key salts base held record_size to tree None wide some kept found =
    let blocks = blocks_some record_size to wide kept in
    let last : blocks_for record_size to - 1 ≡ last_kept record_size to = omega (arith, blocks) in
    passes_over held record_size tree (blocks_for record_size to) 0 [] (last_kept record_size to) (last_kept record_size to) some last last
    (λ index low high. let e : index ≡ last_kept record_size to = omega (arith, low, high) in subst (λ (i : ℕ). Finds held record_size tree i) (sym e) found) (omega arith)
front_passes key salts base held record_size to tree (Some text) wide some kept found =
    let last : last_kept record_size to + 1 - 1 ≡ last_kept record_size to = omega arith in
    passes_over held record_size tree (blocks_for record_size to) (last_kept record_size to) (refs_to key salts base (text ∷ [])) (last_kept record_size to) (last_kept record_size to) some refl last
    (λ index low high. let e : index ≡ last_kept record_size to = omega (arith, low, high) in subst (λ (i : ℕ). Finds held record_size tree i) (sym e) found) (omega arith)

pub cut_passes : (key : KeyValue) (salts : SaltState) (base : ℕ) (held : List (List ℕ)) (record_size : ℕ) (object : Object) (to : ℕ) (c : Change) → 0 < record_size
    → 1 ≤ object.tree.levels → object.tree.levels ≡ levels_for (blocks_for record_size object.length) → change_of_cut key held record_size object to ≡ Ok c
    → c.stays ≡ false → Passes held c.record_size (run_in key salts base c)
unfolding change_of_cut
cut_passes key salts base held record_size object to c wide some levels change moves = by_grown (nat_le object.length to) refl change
  where
    by_front : 0 < to → (r : Result (Option (List ℕ)) MacError) → front_at key held record_size object.tree (last_kept record_size to) (left_of record_size to) ≡ r
        → result_map_both (cut_by object.tree record_size to) (λ failed. failed) r ≡ Ok c → Passes held c.record_size (run_in key salts base c)
    by_front kept (Ok front) is change =
        let e : cut_by object.tree record_size to front ≡ c = cc in
        subst (λ (d : Change). Passes held d.record_size (run_in key salts base d)) e
        (front_passes key salts base held record_size to object.tree front wide some kept
        (front_finds key held record_size object.tree (last_kept record_size to) (left_of record_size to) front is))
    by_front kept (Err failed) is change = absurd (cc)

    by_none : (b : Bool) → (to == 0) ≡ b
        → (if b then Ok (cut_by object.tree record_size 0 None)
        else result_map_both (cut_by object.tree record_size to) (λ failed. failed)
        (front_at key held record_size object.tree (last_kept record_size to) (left_of record_size to))) ≡ Ok c
        → Passes held c.record_size (run_in key salts base c)
    by_none true none change =
        let e : cut_by object.tree record_size 0 None ≡ c = cc in
        subst (λ (d : Change). Passes held d.record_size (run_in key salts base d)) e
        (passes_none held record_size (run_in key salts base (cut_by object.tree record_size 0 None)) (blocks_none record_size wide))
    by_none false kept change =
        by_front (omega (arith, eqb-false to 0 kept)) _ refl change

    by_grown : (b : Bool) → nat_le object.length to ≡ b
        → (if b then Ok (change_of_length object.tree record_size to)
        else (if to == 0 then Ok (cut_by object.tree record_size 0 None)
        else result_map_both (cut_by object.tree record_size to) (λ failed. failed)
        (front_at key held record_size object.tree (last_kept record_size to) (left_of record_size to)))) ≡ Ok c
        → Passes held c.record_size (run_in key salts base c)
    by_grown true grown change =
        let e : change_of_length object.tree record_size to ≡ c = cc in
        subst (λ (d : Change). Passes held d.record_size (run_in key salts base d)) e
        (length_passes key salts base held record_size object.tree object.length to wide some levels (leb-true object.length to grown)
        (ap (λ (d : Change). d.stays) e ∙ moves))
    by_grown false cut change = by_none (to == 0) refl change
