-- The bytes of a whole object, block by block of its tree.
use Rattle.std.proofs.Common.{◌≡◌, ℕ, ◌+◌, ◌-◌, ◌*◌, ◌/◌, ◌%◌, ◌^◌, ◌<◌, ◌≤◌, Bool, true, false, nat_lt, List, [], length, get_or, refl, sym, ap, subst, ◌∙◌, inl, inr, arith, Option, Some, None, Result, Ok, Err, if◌then◌else◌}
use Rattle.std.specs.Prelude.{◌⊎◌, IfSome}
use Rattle.std.specs.Option.{option_map_or}
use Rattle.std.proofs.lemmas.Bool.{cases_lt}
use Rattle.std.proofs.lemmas.Grind.{same_number_lists}
use Rattle.std.proofs.lemmas.List.{get_or_past}
use Rattle.std.proofs.lemmas.Nat.{div-mul-add, mod-mul-add}
use Rattle.std.proofs.Math.Nat.{div-add-mod, mod-lt, mul_comm}
use Rattle.block_crypt.specs.Blocks.{KeyValue}
use Rattle.indirect_macs.specs.declared.refs.BlockRef.{BlockRef}
use Rattle.indirect_macs.specs.declared.refs.ObjTree.{ObjTree}
use Rattle.indirect_macs.specs.declared.refs.MacError.{MacError}
use Rattle.indirect_macs.specs.declared.refs.MacError.TheVariants.{MacFailed}
use Rattle.indirect_macs.specs.Walk.{walk}
use Rattle.file_blocks.specs.declared.object.Object.{Object}
use Rattle.file_blocks.specs.Changes.{ref_in}
use Rattle.file_blocks.specs.Objects.{IsObject, blocks_for, opened_ref, text_at, text_of, walk_in}
use Rattle.file_blocks.specs.Wholes.{EndsWithin, HasRefs, whole_object}
use Rattle.file_blocks.proofs.Bytes.{range_at, range_long}
use Rattle.file_blocks.proofs.NewTexts.{ref_size}
use Rattle.file_blocks.proofs.Ranges.{few_blocks, has_room, in_object}
use Rattle.file_blocks.proofs.WholeBytes.{IsPart, IsSized, Stores, begins, block_within, if_found, stores_past}
use Rattle.file_blocks.proofs.WrittenRanges.{byte_at, found_text, ok_same, range_ok}

-- ---- one block

-- a tree of the fewest levels has a place for each of the object's blocks
pub in_tree : (record_size : ℕ) (object : Object) (index : ℕ) → 512 ≤ record_size → IsObject record_size object → index < blocks_for record_size object.length
    → index < 32 ^ object.tree.levels
in_tree record_size object index wide is within =
    let room = has_room (blocks_for record_size object.length) (few_blocks record_size object.length wide is.bytes) in
    subst (λ (l : ℕ). index < 32 ^ l) (sym is.levels) (omega (arith, within, room))

text_by_ref : (key : KeyValue) (held : List (List ℕ)) (record_size : ℕ) (tree : ObjTree) (index : ℕ) (found : Option BlockRef) (text : List ℕ) → index < 32 ^ tree.levels
    → ref_in held record_size tree index ≡ Ok found → Stores key held found text
    → (stored : Option (List ℕ)) × (text_at key held record_size tree index ≡ Ok stored) × (option_map_or (λ t. t) stored [] ≡ text)
unfolding text_at text_of
text_by_ref key held record_size tree index found text small walked stores =
    let inside : nat_lt index (32 ^ tree.levels) ≡ true = grind (arith, small) in
    by_found found (rw inside at walked) stores
  where
    by_found : (found : Option BlockRef) → walk_in held record_size tree index ≡ Ok found → Stores key held found text
        → (stored : Option (List ℕ)) × (text_at key held record_size tree index ≡ Ok stored) × (option_map_or (λ t. t) stored [] ≡ text)
    by_found None walk stores = (None, rw walk refl, sym stores)
    by_found (Some r) walk stores = (Some text, rw (walk, stores) refl, refl)

stored_by_ref : (key : KeyValue) (held : List (List ℕ)) (record_size : ℕ) (tree : ObjTree) (index : ℕ) (found : Option BlockRef) (stored : Option (List ℕ)) → index < 32 ^ tree.levels
    → ref_in held record_size tree index ≡ Ok found → text_at key held record_size tree index ≡ Ok stored → Stores key held found (option_map_or (λ t. t) stored [])
unfolding text_of
stored_by_ref key held record_size tree index found stored small walked text =
    let own = found_text key held record_size tree index stored small text in
    by_found found (subst (λ (o : Option BlockRef). text_of key held index o ≡ Ok stored) (ok_same (ref_in held record_size tree index) own.0 found own.1 walked) own.2)
  where
    by_opened : (o : Option (List ℕ)) → option_map_or (λ t. Ok (Some t)) o (Err (MacFailed 0 index)) ≡ Ok stored → o ≡ Some (option_map_or (λ t. t) stored [])
    by_opened None is = absurd (cc)
    by_opened (Some t) is = let e : Some t ≡ stored = cc in ap (λ (o : Option (List ℕ)). Some (option_map_or (λ t. t) o [])) e

    by_found : (found : Option BlockRef) → text_of key held index found ≡ Ok stored → Stores key held found (option_map_or (λ t. t) stored [])
    by_found None is = let e : None ≡ stored = cc in ap (λ (o : Option (List ℕ)). option_map_or (λ t. t) o []) (sym e)
    by_found (Some r) is = by_opened (opened_ref key held r) is

-- where a byte of a block is
byte_place : (record_size index p : ℕ) → p < record_size → ((0 + (record_size * index + p)) / record_size ≡ index) × ((0 + (record_size * index + p)) % record_size ≡ p)
byte_place record_size index p inside =
    let place : 0 + (record_size * index + p) ≡ index * record_size + p = omega (arith, mul_comm record_size index) in (
      ap (λ (n : ℕ). n / record_size) place ∙ div-mul-add index record_size p inside,
      ap (λ (n : ℕ). n % record_size) place ∙ mod-mul-add index record_size p inside,
    )

-- ---- all blocks

module _ (key : KeyValue) (held : List (List ℕ)) (record_size : ℕ) (object : Object) (refs : ℕ → Option BlockRef) (wide : 512 ≤ record_size) (is : IsObject record_size object)
    (has : HasRefs held record_size object refs) where
  some : 0 < record_size
  some = omega (arith, wide)

  pub small_refs : (index : ℕ) → IfSome (refs index) (λ r. r.size ≤ record_size)
  small_refs index = by_found (refs index) (has.leads index)
    where
      by_found : (found : Option BlockRef) → ref_in held record_size object.tree index ≡ Ok found → IfSome found (λ r. r.size ≤ record_size)
      by_found None walked = tt
      by_found (Some r) walked = ref_size held record_size object.tree index r walked

  pub range_parts : (bytes : List ℕ) → whole_object key held record_size object ≡ Ok bytes → EndsWithin record_size object.length refs
      → (length bytes ≡ object.length) × ((index : ℕ) → index < blocks_for record_size object.length
      → IsSized record_size object.length index (refs index) × IsPart key held record_size bytes index (refs index))
  range_parts bytes read ends =
      let whole = range_long key held record_size object.tree 0 object.length bytes some (omega arith) read in
      let long : length bytes ≡ object.length = omega (arith, whole) in
      (long, λ index within. (both index (refs index) (small_refs index) (ends index), part long index within))
    where
      both : (index : ℕ) (found : Option BlockRef) → IfSome found (λ r. r.size ≤ record_size) → IfSome found (λ r. record_size * index + r.size ≤ object.length)
          → IsSized record_size object.length index found
      both index None small ends = tt
      both index (Some r) small ends = (small, ends)

      part : length bytes ≡ object.length → (index : ℕ) → index < blocks_for record_size object.length → IsPart key held record_size bytes index (refs index)
      part long index within =
          let low = begins record_size object.length index some within in
          let at = range_at key held record_size object.tree 0 object.length bytes some (record_size * index + 0) read (omega (arith, low)) in
          let text : text_at key held record_size object.tree index ≡ Ok at.0 =
          subst (λ (i : ℕ). text_at key held record_size object.tree i ≡ Ok at.0) (byte_place record_size index 0 some).0 at.1 in
          let stores = stored_by_ref key held record_size object.tree index (refs index) at.0 (in_tree record_size object index wide is within) (has.leads index) text in
          record {
            text = option_map_or (λ t. t) at.0 [];
            stores = stores;
            each = λ p inside. by_end at.0 text stores p inside (cases_lt (record_size * index + p) object.length);
          }
        where
          by_end : (stored : Option (List ℕ)) → text_at key held record_size object.tree index ≡ Ok stored → Stores key held (refs index) (option_map_or (λ t. t) stored [])
              → (p : ℕ) → p < record_size → (record_size * index + p < object.length) ⊎ (object.length ≤ record_size * index + p)
              → get_or (option_map_or (λ t. t) stored []) p 0 ≡ get_or bytes (record_size * index + p) 0
          by_end stored text stores p inside (inl low) =
              let place = byte_place record_size index p inside in
              sym (byte_at key held record_size object.tree 0 object.length (record_size * index + p) bytes stored some read (omega (arith, low))
              (subst (λ (i : ℕ). text_at key held record_size object.tree i ≡ Ok stored) (sym place.0) text)
              ∙ ap (λ (n : ℕ). get_or (option_map_or (λ t. t) stored []) n 0) place.1)
          by_end stored text stores p inside (inr past) =
              let low = begins record_size object.length index some within in
              stores_past key held (refs index) (option_map_or (λ t. t) stored []) (object.length - record_size * index) p stores
              (if_found (refs index) (ends index) (λ r end. omega (arith, end))) (omega (arith, past))
              ∙ sym (get_or_past bytes (record_size * index + p) 0 (omega (arith, past, long)))

  pub parts_range : (bytes : List ℕ) → length bytes ≡ object.length
      → ((index : ℕ) → index < blocks_for record_size object.length → IsPart key held record_size bytes index (refs index))
      → whole_object key held record_size object ≡ Ok bytes
  parts_range bytes long each =
      let read = range_ok key held record_size object.tree 0 object.length (λ i low high.
      let k : ℕ = i - 0 / record_size in
      let place : 0 / record_size + k ≡ i = omega (arith, low) in
      let inside : i < blocks_for record_size object.length =
      subst (λ (n : ℕ). n < blocks_for record_size object.length) place (in_object record_size 0 object.length object.length k some (omega arith) (omega (arith, low, high))) in
      let text = text_of_part i inside in (text.0, text.1)) in
      let whole = range_long key held record_size object.tree 0 object.length read.0 some (omega arith) read.1 in
      let same : read.0 ≡ bytes = same_number_lists read.0 bytes (omega (arith, whole, long)) (λ j within. by_place read.0 read.1 j (omega (arith, within, whole))) in
      read.1 ∙ ap (λ (l : List ℕ). let r : Result (List ℕ) MacError = Ok l in r) same
    where
      text_of_part : (index : ℕ) (within : index < blocks_for record_size object.length)
          → (stored : Option (List ℕ)) × (text_at key held record_size object.tree index ≡ Ok stored) × (option_map_or (λ t. t) stored [] ≡ (each index within).text)
      text_of_part index within =
          text_by_ref key held record_size object.tree index (refs index) (each index within).text (in_tree record_size object index wide is within) (has.leads index) (each index within).stores

      by_place : (made : List ℕ) → whole_object key held record_size object ≡ Ok made → (j : ℕ) → j < object.length → get_or made j 0 ≡ get_or bytes j 0
      by_place made read j within =
          let zero_j : 0 + j ≡ j = omega arith in
          let there = block_within record_size object.length j some within in
          let text = text_of_part (j / record_size) there in
          byte_at key held record_size object.tree 0 object.length j made text.0 some read (omega (arith, within))
          (subst (λ (n : ℕ). text_at key held record_size object.tree (n / record_size) ≡ Ok text.0) (sym zero_j) text.1)
          ∙ ap (λ (n : ℕ). get_or (option_map_or (λ t. t) text.0 []) (n % record_size) 0) zero_j
          ∙ ap (λ (l : List ℕ). get_or l (j % record_size) 0) text.2
          ∙ (each (j / record_size) there).each (j % record_size) (mod-lt j some)
          ∙ ap (λ (n : ℕ). get_or bytes n 0) (div-add-mod j record_size)

  pub parts_end : ((index : ℕ) → index < blocks_for record_size object.length → IsSized record_size object.length index (refs index)) → EndsWithin record_size object.length refs
  parts_end each index =
      elim (cases_lt index (blocks_for record_size object.length)) [
        | inl within ↦ if_found (refs index) (each index within) (λ r sized. sized.1)
        | inr past ↦ rw (has.holes index past) tt
      ]

-- ---- an object without bytes

pub no_refs : (held : List (List ℕ)) (record_size : ℕ) → HasRefs held record_size (record { length = 0; tree = record { levels = 1; top = None } }) (λ index. None)
unfolding walk
no_refs held record_size = record { leads = λ index. by_room (nat_lt index (32 ^ 1)) index; holes = λ index past. refl }
  where
    by_room : (b : Bool) (index : ℕ) → (if b then walk held record_size index 0 None else Ok None) ≡ Ok None
    by_room true index = refl
    by_room false index = refl
