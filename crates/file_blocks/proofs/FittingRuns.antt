-- The run of references that a change puts into a tree fits.
use Rattle.std.proofs.Common.{◌≡◌, ℕ, zero, suc, ◌+◌, ◌-◌, ◌*◌, ◌^◌, ◌<◌, ◌≤◌, Bool, true, false, nat_le, nat_lt, List, [], ◌∷◌, length, take, refl, sym, ap, subst, ◌∙◌, inl, inr, arith, length-append, Option, Some, None, Ok, Err, if◌then◌else◌}
use Rattle.std.specs.Prelude.{◌⊎◌, All, IfSome}
use Rattle.std.specs.Option.{option_map_or}
use Rattle.std.specs.Result.{result_map_both}
use Rattle.std.proofs.lemmas.Bool.{cases_lt}
use Rattle.std.proofs.lemmas.List.{length-take}
use Rattle.std.proofs.lemmas.List.Elements.{All-nil, All-cons, All-head, All-tail, All-from_get_or}
use Rattle.std.proofs.Math.Nat.{div-mul-le_self}
use Rattle.block_crypt.specs.Blocks.{KeyValue, block_key}
use Rattle.block_crypt.proofs.SealedBytes.{sealed_text-bytes, sealed_tag-bytes}
use Rattle.wrapped_keys.proofs.WrappingLaws.{length-aead_tag}
use Rattle.salt_rotation.specs.SaltState.{SaltState}
use Rattle.indirect_macs.specs.declared.refs.BlockRef.{BlockRef}
use Rattle.indirect_macs.specs.declared.refs.NodeRef.{NodeRef}
use Rattle.indirect_macs.specs.declared.refs.ObjTree.{ObjTree}
use Rattle.indirect_macs.specs.declared.refs.MacError.TheVariants.{MacFailed}
use Rattle.indirect_macs.specs.Entries.{IsBlockRef, IsNodeRef}
use Rattle.indirect_macs.specs.Runs.{Run, old_of, puts_of}
use Rattle.indirect_macs.specs.Trees.{AreBytes, HasBytes, HoldsBytes, IsRunOn, held_after}
use Rattle.indirect_macs.specs.Walk.{walk}
use Rattle.indirect_macs.proofs.FoldOfTree.{power_least}
use Rattle.indirect_macs.proofs.RunBytes.{after_bytes, holds_append, holds_none, walked_node}
use Rattle.file_blocks.specs.declared.object.Object.{Object}
use Rattle.file_blocks.specs.Changes.{Change, after_draws, held_with, next_draw, nodes_in, puts_in, ref_in, ref_under, refs_to, run_in, sealed_texts, sealed_under}
use Rattle.file_blocks.specs.Objects.{IsObject, blocks_for, opened_ref}
use Rattle.file_blocks.specs.Wholes.{ChangeFits, HasRefs}
use Rattle.file_blocks.specs.WriteFields.{write_to}
use Rattle.file_blocks.specs.Writes.{Write, change_of_cut, change_of_length, change_of_write, cut_by, end_of, first_of, front_at, front_from, last_kept, left_of, length_after, new_texts, opened_as, piece_in, start_in}
use Rattle.file_blocks.proofs.Behind.{cut_cases, front_some, stores_long, taken_is, touched_text, write_cases}
use Rattle.file_blocks.proofs.Fitting.{drawn_is}
use Rattle.file_blocks.proofs.Leading.{levels_some}
use Rattle.file_blocks.proofs.NewTexts.{IsWrite, counted_up, ref_size, taken_finds}
use Rattle.file_blocks.proofs.Passing.{front_finds, texts_count}
use Rattle.file_blocks.proofs.Ranges.{few_blocks}
use Rattle.file_blocks.proofs.Sealing.{length-refs, length-sealed}
use Rattle.file_blocks.proofs.Stored.{behind_get, held_is}
use Rattle.file_blocks.proofs.Texts.{has_room, length-spliced}
use Rattle.file_blocks.proofs.WholeBytes.{Stores, block_within}
use Rattle.file_blocks.proofs.WrittenBytes.{ref_long}

-- ---- sizes of new texts

abbrev AreSized : (record_size : ℕ) → List (List ℕ) → Type 0
AreSized record_size texts = All (λ text. (1 ≤ length text) × (length text ≤ record_size)) texts

small_ref : (held : List (List ℕ)) (record_size : ℕ) (tree : ObjTree) (index : ℕ) (found : Option BlockRef) → ref_in held record_size tree index ≡ Ok found
    → IfSome found (λ r. r.size ≤ record_size)
small_ref held record_size tree index None walked = tt
small_ref held record_size tree index (Some r) walked = ref_size held record_size tree index r walked

written_sized : (key : KeyValue) (held : List (List ℕ)) (w : Write) (texts : List (List ℕ)) → IsWrite w → new_texts key held w ≡ Ok texts → AreSized w.record_size texts
written_sized key held w texts is reads =
    All-from_get_or (λ text. (1 ≤ length text) × (length text ≤ w.record_size)) texts [] (λ k within.
    let text = touched_text key held w texts k reads within in
    let walked = taken_finds key held w (first_of w + k) text.0 text.1 in
    let count = texts_count key held w texts reads in
    let room = has_room w (first_of w + k) is (omega arith) (omega (arith, within, count, counted_up w is)) in
    let taken : length text.0 ≤ w.record_size = elim (taken_is key held w (first_of w + k) walked.0 text.0 walked.1 text.1) [
      | inl none ↦ let no_bytes : length text.0 ≡ 0 = ap length none in omega (arith, no_bytes)
      | inr stores ↦ stores_long key held walked.0 text.0 w.record_size stores (small_ref held w.record_size w.tree (first_of w + k) walked.0 walked.1)
    ] in
    let size = length-spliced text.0 (piece_in w (first_of w + k)) (start_in w (first_of w + k)) in
    let same = ap length text.2 in
    (omega (arith, same, size, room.some), omega (arith, same, size, room.within, taken)))

-- a front is cut where more is stored
front_less : (key : KeyValue) (held : List (List ℕ)) (record_size : ℕ) (tree : ObjTree) (index left : ℕ) (text : List ℕ) (found : Option BlockRef)
    → front_at key held record_size tree index left ≡ Ok (Some text) → ref_in held record_size tree index ≡ Ok found → (whole : List ℕ) → Stores key held found whole
    → left < length whole
unfolding front_at front_from opened_as
front_less key held record_size tree index left text found front walked whole stores = by_found found (rw walked at front) stores
  where
    by_found : (found : Option BlockRef) → front_from key held index left found ≡ Ok (Some text) → Stores key held found whole → left < length whole
    by_found None is stores = absurd (cc)
    by_found (Some r) is stores = by_size (cases_lt left r.size) is
      where
        by_size : (left < r.size) ⊎ (r.size ≤ left)
            → (if nat_lt left r.size then result_map_both (λ t. Some (take left t)) (λ failed. failed) (option_map_or (λ t. Ok t) (opened_ref key held r) (Err (MacFailed 0 index))) else Ok None)
            ≡ Ok (Some text) → left < length whole
        by_size (inl more) is = omega (arith, more, ref_long key held r whole stores)
        by_size (inr few) is =
            let no : nat_lt left r.size ≡ false = grind (arith, few) in
            absurd (let g = rw no at is in cc)

cut_sized : (key : KeyValue) (held : List (List ℕ)) (record_size to : ℕ) (tree : ObjTree) (front : Option (List ℕ)) → 0 < record_size → 0 < to
    → front_at key held record_size tree (last_kept record_size to) (left_of record_size to) ≡ Ok front → AreSized record_size (option_map_or (λ text. text ∷ []) front [])
cut_sized key held record_size to tree None wide kept reads = All-nil (λ text. (1 ≤ length text) × (length text ≤ record_size))
cut_sized key held record_size to tree (Some text) wide kept reads =
    let found = front_finds key held record_size tree (last_kept record_size to) (left_of record_size to) (Some text) reads in
    let parts = front_some key held record_size tree (last_kept record_size to) (left_of record_size to) text found.0 reads found.1 in
    let less = front_less key held record_size tree (last_kept record_size to) (left_of record_size to) text found.0 reads found.1 parts.0 parts.1 in
    let long = stores_long key held found.0 parts.0 record_size parts.1 (small_ref held record_size tree (last_kept record_size to) found.0 found.1) in
    let under : last_kept record_size to * record_size ≤ to - 1 = div-mul-le_self (to - 1) record_size in
    let size = length-take (left_of record_size to) parts.0 in
    let same = ap length parts.2 in
    All-cons (λ text. (1 ≤ length text) × (length text ≤ record_size)) text []
    (omega (arith, same, size, less, under, kept), omega (arith, same, size, less, long))
    (All-nil (λ text. (1 ≤ length text) × (length text ≤ record_size)))

-- ---- what the run needs of a change

pub record Shape (record_size : ℕ) (object : Object) (c : Change) : Type 0 where
  pub width : c.record_size ≡ record_size
  pub tree : c.tree ≡ object.tree
  pub none : c.stays ≡ true → c.texts ≡ []
  pub within : c.first + length c.texts ≤ blocks_for c.record_size c.new_length
  pub sizes : AreSized record_size c.texts

pub write_shape : (key : KeyValue) (held : List (List ℕ)) (record_size : ℕ) (object : Object) (from : ℕ) (bytes : List ℕ) (c : Change) → 0 < record_size → 1 ≤ object.tree.levels
    → change_of_write key held (write_to object record_size from bytes) ≡ Ok c → Shape record_size object c
write_shape key held record_size object from bytes c wide some change =
    let w : Write = write_to object record_size from bytes in
    write_cases (Shape record_size object) key held w c change
    (λ none. length_shape (length_after w))
    (λ more texts reads.
    let is : IsWrite w = record { levels = some; wide = wide; some = more } in
    record {
      width = refl;
      tree = refl;
      none = λ stays. absurd (cc);
      within =
          let last = block_within record_size (length_after w) (end_of w - 1) wide (omega (arith, more)) in
          omega (arith, last, counted_up w is, texts_count key held w texts reads);
      sizes = written_sized key held w texts is reads;
    })
  where
    length_shape : (to : ℕ) → Shape record_size object (change_of_length object.tree record_size to)
    length_shape to = record {
      width = refl;
      tree = refl;
      none = λ stays. refl;
      within = omega arith;
      sizes = All-nil (λ text. (1 ≤ length text) × (length text ≤ record_size));
    }

pub cut_shape : (key : KeyValue) (held : List (List ℕ)) (record_size : ℕ) (object : Object) (to : ℕ) (c : Change) → 0 < record_size
    → change_of_cut key held record_size object to ≡ Ok c → Shape record_size object c
cut_shape key held record_size object to c wide change =
    cut_cases (Shape record_size object) key held record_size object to c change
    (λ grown. record {
      width = refl;
      tree = refl;
      none = λ stays. refl;
      within = omega arith;
      sizes = All-nil (λ text. (1 ≤ length text) × (length text ≤ record_size));
    })
    (λ less none. record {
      width = refl;
      tree = refl;
      none = λ stays. refl;
      within = omega arith;
      sizes = All-nil (λ text. (1 ≤ length text) × (length text ≤ record_size));
    })
    (λ less kept front reads. record {
      width = refl;
      tree = refl;
      none = λ stays. absurd (cc);
      within = front_within front kept;
      sizes = cut_sized key held record_size to object.tree front wide kept reads;
    })
  where
    front_within : (front : Option (List ℕ)) → 0 < to
        → (cut_by object.tree record_size to front).first + length (cut_by object.tree record_size to front).texts ≤ blocks_for record_size to
    front_within None kept = omega arith
    front_within (Some text) kept =
        let last = block_within record_size to (to - 1) wide (omega (arith, kept)) in
        omega (arith, last)

-- ---- references and nodes

refs_fit : (key : KeyValue) (salts : SaltState) (record_size addr : ℕ) (texts : List (List ℕ)) → record_size ≤ 131072 → AreSized record_size texts → addr + length texts ≤ 2 ^ 64
    → All (λ entry. IfSome entry (IsBlockRef record_size)) (refs_to key salts addr texts)
unfolding refs_to
refs_fit key salts record_size addr [] narrow sized room = All-nil (λ entry. IfSome entry (IsBlockRef record_size))
refs_fit key salts record_size addr (text ∷ texts) narrow sized room =
    let size = All-head (λ t. (1 ≤ length t) × (length t ≤ record_size)) text texts sized in
    let one : nat_le 1 (length text) ≡ true = (let some = size.0 in grind (arith, some)) in
    let all : nat_le (length text) record_size ≡ true = (let most = size.1 in grind (arith, most)) in
    let draw = drawn_is salts in
    All-cons (λ entry. IfSome entry (IsBlockRef record_size)) (Some (ref_under key (next_draw salts) addr text)) (refs_to key (after_draws 1 salts) (addr + 1) texts)
    (record {
      size = rw (one, all) refl;
      size_fits = omega (arith, size.1, narrow);
      addr_fits = omega (arith, room);
      salt = draw.salt_long;
      iv = draw.iv_long;
      mac = length-aead_tag key.suite (block_key key (next_draw salts).salt) (next_draw salts).iv [] text;
    })
    (refs_fit key (after_draws 1 salts) record_size (addr + 1) texts narrow (All-tail (λ t. (1 ≤ length t) × (length t ≤ record_size)) text texts sized) (omega (arith, room)))

refs_bytes : (key : KeyValue) (salts : SaltState) (addr : ℕ) (texts : List (List ℕ)) → All (λ entry. IfSome entry HasBytes) (refs_to key salts addr texts)
unfolding refs_to
refs_bytes key salts addr [] = All-nil (λ entry. IfSome entry HasBytes)
refs_bytes key salts addr (text ∷ texts) =
    let draw = drawn_is salts in
    All-cons (λ entry. IfSome entry HasBytes) (Some (ref_under key (next_draw salts) addr text)) (refs_to key (after_draws 1 salts) (addr + 1) texts)
    (record {
      salt = draw.salt_bytes;
      iv = draw.iv_bytes;
      mac = sealed_tag-bytes key (next_draw salts).salt (next_draw salts).iv text;
    })
    (refs_bytes key (after_draws 1 salts) (addr + 1) texts)

sealed_bytes : (key : KeyValue) (salts : SaltState) (texts : List (List ℕ)) → All AreBytes texts → HoldsBytes (sealed_texts key salts texts)
unfolding sealed_texts
sealed_bytes key salts [] fair address block there = holds_none address block there
sealed_bytes key salts (text ∷ texts) fair zero block there =
    let e : sealed_under key (next_draw salts) text ≡ block = cc in
    subst AreBytes e (sealed_text-bytes key (next_draw salts).salt (next_draw salts).iv text (All-head AreBytes text texts fair))
sealed_bytes key salts (text ∷ texts) fair (suc k) block there = sealed_bytes key (after_draws 1 salts) texts (All-tail AreBytes text texts fair) k block there

-- a tree to whose first block a walk passes
top_walked : (held : List (List ℕ)) (record_size : ℕ) (tree : ObjTree) (found : Option BlockRef) → ref_in held record_size tree 0 ≡ Ok found
    → IfSome tree.top (λ node. (node.addr < length held) × (length node.mac ≡ 16) × AreBytes node.mac)
top_walked held record_size tree found walked =
    let inside : nat_lt 0 (32 ^ tree.levels) ≡ true = (let least : 0 < 32 ^ tree.levels = omega (arith, power_least tree.levels) in grind (arith, least)) in
    by_top tree.top (rw inside at walked)
  where
    by_top : (top : Option NodeRef) → walk held record_size 0 (tree.levels - 1) top ≡ Ok found
        → IfSome top (λ node. (node.addr < length held) × (length node.mac ≡ 16) × AreBytes node.mac)
    by_top None is = tt
    by_top (Some node) is = walked_node held record_size 0 (tree.levels - 1) node found is

module _ (key : KeyValue) (salts : SaltState) (held : List (List ℕ)) (record_size : ℕ) (object : Object) (refs : ℕ → Option BlockRef) (c : Change)
    (is : IsObject record_size object) (shape : Shape record_size object c) (fair : All AreBytes c.texts) (holds : HoldsBytes held) (has : HasRefs held record_size object refs) where
  abbrev run : Run
  run = run_in key salts (length held) c

  top_is : IfSome c.tree.top (λ node. (node.addr < length held) × (length node.mac ≡ 16) × AreBytes node.mac)
  top_is = subst (λ (tree : ObjTree). IfSome tree.top (λ node. (node.addr < length held) × (length node.mac ≡ 16) × AreBytes node.mac)) (sym shape.tree)
      (top_walked held record_size object.tree (refs 0) (has.leads 0))

  some_levels : 1 ≤ c.tree.levels
  some_levels = subst (λ (tree : ObjTree). 1 ≤ tree.levels) (sym shape.tree) (levels_some object is)

  with_bytes : HoldsBytes (held_with key salts held c)
  with_bytes = holds_append held (sealed_texts key salts c.texts) holds (sealed_bytes key salts c.texts fair)

  top_bytes : IfSome c.tree.top (λ node. AreBytes node.mac)
  top_bytes = by_top c.tree.top top_is
    where
      by_top : (top : Option NodeRef) → IfSome top (λ node. (node.addr < length held) × (length node.mac ≡ 16) × AreBytes node.mac) → IfSome top (λ node. AreBytes node.mac)
      by_top None known = tt
      by_top (Some node) known = known.2

  top_fits : length held ≤ 2 ^ 64 → IfSome c.tree.top IsNodeRef
  top_fits room = by_top c.tree.top top_is
    where
      by_top : (top : Option NodeRef) → IfSome top (λ node. (node.addr < length held) × (length node.mac ≡ 16) × AreBytes node.mac) → IfSome top IsNodeRef
      by_top None known = tt
      by_top (Some node) known = record { addr_fits = let there = known.0 in omega (arith, there, room); mac = known.1 }

  later_bytes : HoldsBytes (held_after (held_with key salts held c) c.record_size run)
  later_bytes = after_bytes (held_with key salts held c) c.record_size run some_levels with_bytes (refs_bytes key salts (length held) c.texts) top_bytes

  -- what is put is bytes
  no_nodes : c.stays ≡ true → nodes_in key salts held (length held) c ≡ []
  unfolding nodes_in
  no_nodes stays = rw stays refl

  pub puts_bytes : HoldsBytes (puts_in key salts held (length held) c)
  puts_bytes = by_stays c.stays refl
    where
      by_stays : (b : Bool) → c.stays ≡ b → HoldsBytes (puts_in key salts held (length held) c)
      by_stays true stays =
          holds_append (sealed_texts key salts c.texts) (nodes_in key salts held (length held) c) (sealed_bytes key salts c.texts fair)
          (subst HoldsBytes (sym (no_nodes stays)) holds_none)
      by_stays false moves =
          let all = subst HoldsBytes (sym (held_is key salts held c moves)) later_bytes in
          (λ address block there. all (length held + address) block (behind_get held (puts_in key salts held (length held) c) address ∙ there))

  -- and it fits
  run_fits : 512 ≤ record_size → record_size ≤ 131072 → c.new_length ≤ 4294967296 → length held + length (puts_in key salts held (length held) c) ≤ 2 ^ 64 → c.stays ≡ false
      → IsRunOn (held_with key salts held c) c.record_size run
  run_fits wide narrow few room moves =
      let refs_count = length-refs key salts (length held) c.texts in
      let sealed_count = length-sealed key salts c.texts in
      let puts_count = length-append (sealed_texts key salts c.texts) (nodes_in key salts held (length held) c) in
      let held_count = length-append held (puts_in key salts held (length held) c) in
      let after_count = length-append (held_with key salts held c) (puts_of run (old_of (held_with key salts held c) c.record_size run) (length (held_with key salts held c))) in
      let same = ap length (held_is key salts held c moves) in
      record {
        levels = some_levels;
        within = omega (arith, shape.within, refs_count);
        few = few_blocks c.record_size c.new_length (omega (arith, shape.width, wide)) few;
        refs =
            subst (λ (n : ℕ). All (λ entry. IfSome entry (IsBlockRef n)) (refs_to key salts (length held) c.texts)) (sym shape.width)
            (refs_fit key salts record_size (length held) c.texts narrow shape.sizes (omega (arith, room, puts_count, sealed_count)));
        top = top_fits (omega (arith, room));
        bytes = with_bytes;
        room = omega (arith, room, held_count, after_count, same);
      }

  pub change_fits : 512 ≤ record_size → record_size ≤ 131072 → c.new_length ≤ 4294967296 → length held + length (puts_in key salts held (length held) c) ≤ 2 ^ 64
      → ChangeFits key salts held record_size object c
  change_fits wide narrow few room = record {
    wide = wide;
    is = is;
    bytes = few;
    on = λ moves. subst (λ (n : ℕ). IsRunOn (held_with key salts held c) n run) shape.width (run_fits wide narrow few room moves);
  }
