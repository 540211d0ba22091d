-- Where the tree of an object leads behind a change.
use Rattle.std.proofs.Common.{◌≡◌, ℕ, ◌+◌, ◌-◌, ◌^◌, ◌<◌, ◌≤◌, Bool, true, false, nat_lt, List, [], ◌++◌, length, refl, sym, ap, subst, ◌∙◌, inl, inr, arith, Option, Some, None, Result, Ok, if◌then◌else◌}
use Rattle.std.specs.Prelude.{◌⊎◌, max, slice_index_or}
use Rattle.std.proofs.lemmas.Bool.{cases_lt, eqb-true}
use Rattle.block_crypt.specs.Blocks.{KeyValue}
use Rattle.salt_rotation.specs.SaltState.{SaltState}
use Rattle.indirect_macs.specs.declared.refs.BlockRef.{BlockRef}
use Rattle.indirect_macs.specs.declared.refs.ObjTree.{ObjTree}
use Rattle.indirect_macs.specs.declared.refs.MacError.{MacError}
use Rattle.indirect_macs.specs.Runs.{Passes, Run, last_block, levels_for, tree_of, walk_to}
use Rattle.indirect_macs.specs.Trees.{IsRunOn, tree_after, walk_after}
use Rattle.indirect_macs.specs.Walk.{walk}
use Rattle.indirect_macs.proofs.Growth.{walk-grown}
use Rattle.indirect_macs.proofs.RunEntries.{levels_some as least_level}
use Rattle.indirect_macs.proofs.RunLeads.{leads_before, leads_behind, leads_past, leads_within}
use Rattle.file_blocks.specs.declared.object.Object.{Object}
use Rattle.file_blocks.specs.Changes.{Change, held_with, object_in, puts_in, ref_in, refs_to, run_in, sealed_texts}
use Rattle.file_blocks.specs.Objects.{IsObject, blocks_for}
use Rattle.file_blocks.specs.Wholes.{ChangeFits, HasRefs, held_behind, object_behind, refs_behind}
use Rattle.file_blocks.specs.WriteFields.{write_to}
use Rattle.file_blocks.specs.Writes.{Write, change_of_cut, change_of_length, change_of_write, cut_by, last_kept, length_after}
use Rattle.file_blocks.proofs.Behind.{cut_cases, ref_cases, write_cases}
use Rattle.file_blocks.proofs.Changing.{passes-grown, walk_to-grown}
use Rattle.file_blocks.proofs.Passing.{blocks_order, blocks_some, cut_passes, write_passes}
use Rattle.file_blocks.proofs.Ranges.{has_room}
use Rattle.file_blocks.proofs.Sealing.{length-refs}
use Rattle.file_blocks.proofs.Stored.{held_is, refs_at, tree_is}

-- a longer shelf
ref_grown : (held more : List (List ℕ)) (record_size : ℕ) (tree : ObjTree) (index : ℕ) (found : Option BlockRef) → ref_in held record_size tree index ≡ Ok found
    → ref_in (held ++ more) record_size tree index ≡ Ok found
ref_grown held more record_size tree index found is = by_room (nat_lt index (32 ^ tree.levels)) is
  where
    by_room : (b : Bool) → (if b then walk held record_size index (tree.levels - 1) tree.top else Ok None) ≡ Ok found
        → (if b then walk (held ++ more) record_size index (tree.levels - 1) tree.top else Ok None) ≡ Ok found
    by_room true is = walk-grown held more record_size index (tree.levels - 1) tree.top found is
    by_room false is = is

module _ (key : KeyValue) (salts : SaltState) (held : List (List ℕ)) (c : Change) (refs : ℕ → Option BlockRef) where
  abbrev run : Run
  run = run_in key salts (length held) c

  abbrev shelf : List (List ℕ)
  shelf = held_with key salts held c

  abbrev blocks : ℕ
  blocks = blocks_for c.record_size c.new_length

  abbrev as_found : Option BlockRef → Result (Option BlockRef) MacError
  as_found found = Ok found

  -- ---- a tree that is made anew

  new_levels : (tree_after shelf c.record_size run).levels ≡ levels_for blocks
  unfolding tree_of
  new_levels = refl

  ref_is : (index : ℕ) → c.stays ≡ false
      → ref_in (held_behind key salts held c) c.record_size (object_behind key salts held c).tree index
      ≡ (if nat_lt index (32 ^ (tree_after shelf c.record_size run).levels) then walk_after shelf c.record_size run index else Ok None)
  ref_is index moves = rw (held_is key salts held c moves, tree_is key salts held c moves) refl

  pub in_blocks : IsRunOn shelf c.record_size run → c.first + length c.texts ≤ blocks
  in_blocks on = let size = length-refs key salts (length held) c.texts in omega (arith, on.within, size)

  pub made_leads : c.stays ≡ false → IsRunOn shelf c.record_size run → Passes held c.record_size run
      → ((index : ℕ) → ref_in held c.record_size c.tree index ≡ Ok (refs index))
      → ((index : ℕ) → blocks ≤ index → (last_block run ≡ blocks - 1) ⊎ (refs index ≡ None))
      → (index : ℕ) → ref_in (held_behind key salts held c) c.record_size (object_behind key salts held c).tree index ≡ Ok (refs_behind key salts (length held) c refs index)
  unfolding walk_to
  made_leads moves on passes lead end index =
      ref_is index moves ∙ by_room (cases_lt index (32 ^ (tree_after shelf c.record_size run).levels))
    where
      over : Passes shelf c.record_size run
      over = passes-grown held (sealed_texts key salts c.texts) c.record_size run passes

      size : length run.refs ≡ length c.texts
      size = length-refs key salts (length held) c.texts

      walked : (index : ℕ) → walk_to shelf c.record_size run index ≡ Ok (refs index)
      walked index = walk_to-grown held (sealed_texts key salts c.texts) c.record_size run index (refs index) (lead index)

      by_room : (index < 32 ^ (tree_after shelf c.record_size run).levels) ⊎ (32 ^ (tree_after shelf c.record_size run).levels ≤ index)
          → (if nat_lt index (32 ^ (tree_after shelf c.record_size run).levels) then walk_after shelf c.record_size run index else Ok None)
          ≡ Ok (refs_behind key salts (length held) c refs index)
      by_room (inr past) =
          let no : nat_lt index (32 ^ (tree_after shelf c.record_size run).levels) ≡ false = grind (arith, past) in
          let room : blocks ≤ index = omega (arith, has_room blocks on.few, past, ap (λ (l : ℕ). 32 ^ l) new_levels) in
          rw no (ref_cases (λ found. Ok None ≡ as_found found) key salts (length held) c refs index
          (λ k within place. absurd (omega (arith, within, place, room, in_blocks on))) (λ outside behind. refl) (λ outside inside. absurd (omega (arith, inside, room))))
      by_room (inl small) =
          let yes : nat_lt index (32 ^ (tree_after shelf c.record_size run).levels) ≡ true = grind (arith, small) in
          rw yes (ref_cases (λ found. walk_after shelf c.record_size run index ≡ as_found found) key salts (length held) c refs index
          (λ k within place.
          let at : index - c.first ≡ k = omega (arith, place) in
          leads_within shelf c.record_size run index on over (omega (arith, place)) (omega (arith, place, within, size))
          ∙ ap (λ (n : ℕ). as_found (slice_index_or (refs_to key salts (length held) c.texts) n None)) at
          ∙ ap as_found (refs_at key salts (length held) c.texts k within))
          (λ outside behind. leads_past shelf c.record_size run index on over behind small (elim (end index behind) [
            | inl last ↦ inl last
            | inr hole ↦ inr (walked index ∙ ap as_found hole)
          ]))
          (λ outside inside. elim outside [
            | inl before ↦ leads_before shelf c.record_size run index (refs index) on over before (walked index)
            | inr after ↦ leads_behind shelf c.record_size run index (refs index) on over (omega (arith, after, size)) inside (walked index)
          ]))

  -- ---- a tree that stays

  tree_stays : c.stays ≡ true → (object_behind key salts held c).tree ≡ c.tree
  unfolding object_in
  tree_stays stays = rw stays refl

  pub kept_leads : c.stays ≡ true → c.texts ≡ [] → ((index : ℕ) → ref_in held c.record_size c.tree index ≡ Ok (refs index))
      → ((index : ℕ) → blocks ≤ index → refs index ≡ None)
      → (index : ℕ) → ref_in (held_behind key salts held c) c.record_size (object_behind key salts held c).tree index ≡ Ok (refs_behind key salts (length held) c refs index)
  kept_leads stays empty lead end index =
      let none : length c.texts ≡ 0 = ap length empty in
      let old = ref_grown held (puts_in key salts held (length held) c) c.record_size c.tree index (refs index) (lead index) in
      subst (λ (tree : ObjTree). ref_in (held_behind key salts held c) c.record_size tree index ≡ as_found (refs_behind key salts (length held) c refs index)) (sym (tree_stays stays))
      (old ∙ ref_cases (λ found. as_found (refs index) ≡ as_found found) key salts (length held) c refs index
      (λ k within place. absurd (omega (arith, within, none))) (λ outside behind. ap as_found (end index behind)) (λ outside inside. refl))

  -- ---- levels and holes

  pub levels_are : (c.stays ≡ true → c.tree.levels ≡ levels_for blocks) → (object_behind key salts held c).tree.levels ≡ levels_for blocks
  unfolding tree_of
  levels_are kept = by_stays c.stays refl
    where
      by_stays : (b : Bool) → c.stays ≡ b → (object_behind key salts held c).tree.levels ≡ levels_for blocks
      by_stays true stays = ap (λ (tree : ObjTree). tree.levels) (tree_stays stays) ∙ kept stays
      by_stays false moves = ap (λ (tree : ObjTree). tree.levels) (tree_is key salts held c moves)

  pub length_is : (object_behind key salts held c).length ≡ c.new_length
  unfolding object_in
  length_is = refl

  pub made_holes : c.first + length c.texts ≤ blocks ⊎ (length c.texts ≡ 0) → (index : ℕ) → blocks_for c.record_size (object_behind key salts held c).length ≤ index
      → refs_behind key salts (length held) c refs index ≡ None
  unfolding object_in
  made_holes within index past =
      ref_cases (λ found. found ≡ None) key salts (length held) c refs index
      (λ k low place. absurd (elim within [
        | inl all ↦ omega (arith, all, low, place, past)
        | inr none ↦ omega (arith, low, none)
      ]))
      (λ outside behind. refl) (λ outside inside. absurd (omega (arith, inside, past)))

-- ---- behind a change

-- a tree has a level
pub levels_some : {record_size : ℕ} (object : Object) → IsObject record_size object → 1 ≤ object.tree.levels
levels_some {record_size = record_size} object is = subst (λ (l : ℕ). 1 ≤ l) (sym is.levels) (least_level (blocks_for record_size object.length))

-- what is to be shown of one
record Leads (key : KeyValue) (salts : SaltState) (held : List (List ℕ)) (record_size : ℕ) (refs : ℕ → Option BlockRef) (c : Change) : Type 0 where
  pub size : c.record_size ≡ record_size
  pub none : c.stays ≡ true → c.texts ≡ []
  pub old : (index : ℕ) → ref_in held c.record_size c.tree index ≡ Ok (refs index)
  pub end : (index : ℕ) → blocks_for c.record_size c.new_length ≤ index → (last_block (run_in key salts (length held) c) ≡ blocks_for c.record_size c.new_length - 1) ⊎ (refs index ≡ None)
  pub levels : c.stays ≡ true → c.tree.levels ≡ levels_for (blocks_for c.record_size c.new_length)
  pub kept : c.stays ≡ true → (index : ℕ) → blocks_for c.record_size c.new_length ≤ index → refs index ≡ None

new_refs : (key : KeyValue) (salts : SaltState) (held : List (List ℕ)) (record_size : ℕ) (refs : ℕ → Option BlockRef) (c : Change) → Leads key salts held record_size refs c
    → (c.stays ≡ false → IsRunOn (held_with key salts held c) c.record_size (run_in key salts (length held) c))
    → (c.stays ≡ false → Passes held c.record_size (run_in key salts (length held) c))
    → HasRefs (held_behind key salts held c) c.record_size (object_behind key salts held c) (refs_behind key salts (length held) c refs)
new_refs key salts held record_size refs c is on passes = by_stays c.stays refl
  where
    by_stays : (b : Bool) → c.stays ≡ b → HasRefs (held_behind key salts held c) c.record_size (object_behind key salts held c) (refs_behind key salts (length held) c refs)
    by_stays true stays = record {
      leads = kept_leads key salts held c refs stays (is.none stays) is.old (is.kept stays);
      holes = made_holes key salts held c refs (inr (ap length (is.none stays)));
    }
    by_stays false moves = record {
      leads = made_leads key salts held c refs moves (on moves) (passes moves) is.old is.end;
      holes = made_holes key salts held c refs (inl (in_blocks key salts held c refs (on moves)));
    }

module _ (key : KeyValue) (salts : SaltState) (held : List (List ℕ)) (record_size : ℕ) (object : Object) (refs : ℕ → Option BlockRef) (wide : 0 < record_size)
    (has : HasRefs held record_size object refs) where
  grown_hole : (to index : ℕ) → object.length ≤ to → blocks_for record_size to ≤ index → refs index ≡ None
  grown_hole to index order past = has.holes index (omega (arith, past, blocks_order record_size object.length to wide order))

  length_leads : (to : ℕ) → object.length ≤ to → Leads key salts held record_size refs (change_of_length object.tree record_size to)
  length_leads to order = record {
    size = refl;
    none = λ stays. refl;
    old = has.leads;
    end = λ index past. inr (grown_hole to index order past);
    levels = λ stays. sym (eqb-true (levels_for (blocks_for record_size to)) object.tree.levels stays);
    kept = λ stays index past. grown_hole to index order past;
  }

  write_leads : (from : ℕ) (bytes : List ℕ) (c : Change) → change_of_write key held (write_to object record_size from bytes) ≡ Ok c → Leads key salts held record_size refs c
  write_leads from bytes c change =
      let w : Write = write_to object record_size from bytes in
      write_cases (Leads key salts held record_size refs) key held w c change
      (λ none. length_leads (length_after w) (omega arith))
      (λ more texts reads. record {
        size = refl;
        none = λ stays. absurd (cc);
        old = has.leads;
        end = λ index past. inr (grown_hole (length_after w) index (omega arith) past);
        levels = λ stays. absurd (cc);
        kept = λ stays. absurd (cc);
      })

  cut_leads_to : (to : ℕ) (front : Option (List ℕ))
      → last_block (run_in key salts (length held) (cut_by object.tree record_size to front)) ≡ blocks_for record_size to - 1
      → Leads key salts held record_size refs (cut_by object.tree record_size to front)
  cut_leads_to to front last = record {
    size = refl;
    none = λ stays. absurd (cc);
    old = has.leads;
    end = λ index past. inl last;
    levels = λ stays. absurd (cc);
    kept = λ stays. absurd (cc);
  }

  last_of_none : (to : ℕ) → last_block (run_in key salts (length held) (cut_by object.tree record_size to None)) ≡ blocks_for record_size to - 1
  unfolding refs_to
  last_of_none to = refl

  last_of_front : (to : ℕ) (front : Option (List ℕ)) → 0 < to
      → last_block (run_in key salts (length held) (cut_by object.tree record_size to front)) ≡ blocks_for record_size to - 1
  unfolding refs_to
  last_of_front to None kept = last_of_none to
  last_of_front to (Some text) kept =
      let blocks = blocks_some record_size to wide kept in
      let last : last_kept record_size to + 1 - 1 ≡ blocks_for record_size to - 1 = omega (arith, blocks) in
      last

  cut_leads : (to : ℕ) (c : Change) → change_of_cut key held record_size object to ≡ Ok c → Leads key salts held record_size refs c
  cut_leads to c change =
      cut_cases (Leads key salts held record_size refs) key held record_size object to c change
      (λ grown. length_leads to grown)
      (λ less none. cut_leads_to 0 None (last_of_none 0))
      (λ less kept front reads. cut_leads_to to front (last_of_front to front kept))

  -- what is known of the new object
  pub record IsBehind (c : Change) : Type 0 where
    pub is_object : IsObject record_size (object_behind key salts held c)
    pub has_refs : HasRefs (held_behind key salts held c) record_size (object_behind key salts held c) (refs_behind key salts (length held) c refs)

  is_behind : (c : Change) → Leads key salts held record_size refs c → ChangeFits key salts held record_size object c
      → (c.stays ≡ false → Passes held c.record_size (run_in key salts (length held) c)) → IsBehind c
  is_behind c leads fits passes = record {
    is_object = record {
      bytes = subst (λ (n : ℕ). n ≤ 4294967296) (sym (length_is key salts held c refs)) fits.bytes;
      levels =
          levels_are key salts held c refs leads.levels
          ∙ ap (λ (n : ℕ). levels_for (blocks_for n c.new_length)) leads.size
          ∙ sym (ap (λ (n : ℕ). levels_for (blocks_for record_size n)) (length_is key salts held c refs));
    };
    has_refs =
        subst (λ (n : ℕ). HasRefs (held_behind key salts held c) n (object_behind key salts held c) (refs_behind key salts (length held) c refs)) leads.size
        (new_refs key salts held record_size refs c leads
        (λ moves. subst (λ (n : ℕ). IsRunOn (held_with key salts held c) n (run_in key salts (length held) c)) (sym leads.size) (fits.on moves)) passes);
  }

  pub write_behind : (from : ℕ) (bytes : List ℕ) (c : Change) → change_of_write key held (write_to object record_size from bytes) ≡ Ok c
      → ChangeFits key salts held record_size object c → IsBehind c
  write_behind from bytes c change fits =
      is_behind c (write_leads from bytes c change) fits
      (λ moves. write_passes key salts (length held) held (write_to object record_size from bytes) c wide (levels_some object fits.is) fits.is.levels change moves)

  pub cut_behind : (to : ℕ) (c : Change) → change_of_cut key held record_size object to ≡ Ok c → ChangeFits key salts held record_size object c → IsBehind c
  cut_behind to c change fits =
      is_behind c (cut_leads to c change) fits
      (λ moves. cut_passes key salts (length held) held record_size object to c wide (levels_some object fits.is) fits.is.levels change moves)

-- ---- lengths

pub write_length : (key : KeyValue) (held : List (List ℕ)) (record_size : ℕ) (object : Object) (from : ℕ) (bytes : List ℕ) (c : Change)
    → change_of_write key held (write_to object record_size from bytes) ≡ Ok c → c.new_length ≡ max object.length (from + length bytes)
write_length key held record_size object from bytes c change =
    write_cases (λ (d : Change). d.new_length ≡ max object.length (from + length bytes)) key held (write_to object record_size from bytes) c change
    (λ none. refl) (λ more texts reads. refl)

pub cut_length : (key : KeyValue) (held : List (List ℕ)) (record_size : ℕ) (object : Object) (to : ℕ) (c : Change)
    → change_of_cut key held record_size object to ≡ Ok c → c.new_length ≡ to
cut_length key held record_size object to c change =
    cut_cases (λ (d : Change). d.new_length ≡ to) key held record_size object to c change (λ grown. refl) (λ less none. sym none) (λ less kept front reads. refl)
