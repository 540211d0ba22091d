-- What the blocks of an object store once some of them got new texts.
use Rattle.std.proofs.Common.{◌≡◌, ℕ, zero, suc, ◌+◌, ◌-◌, ◌<◌, ◌≤◌, true, false, ◌==◌, List, [], ◌∷◌, ◌++◌, length, refl, sym, ap, ◌∙◌, inl, inr, arith, length-append, Option, Some, None, Ok, Err, if◌then◌else◌}
use Rattle.std.specs.Prelude.{◌⊎◌, slice_get, slice_index_or}
use Rattle.std.specs.Option.{option_and_then, option_map_or}
use Rattle.std.proofs.lemmas.Bool.{eq-eqb}
use Rattle.std.proofs.lemmas.List.{append_assoc}
use Rattle.block_crypt.specs.Blocks.{KeyValue, block_key, opened_block}
use Rattle.wrapped_keys.proofs.WrappingLaws.{aead_open-aead_seal, length-aead_seal}
use Rattle.salt_rotation.specs.SaltState.{SaltState}
use Rattle.salt_rotation.specs.declared.salts.Drawn.{Drawn}
use Rattle.indirect_macs.specs.declared.refs.BlockRef.{BlockRef}
use Rattle.indirect_macs.specs.declared.refs.MacError.TheVariants.{MacFailed}
use Rattle.indirect_macs.specs.Runs.{Passes, Run, walk_to}
use Rattle.indirect_macs.specs.Trees.{IsRunOn, held_after, tree_after, walk_after}
use Rattle.indirect_macs.proofs.Growth.{slice_get-grown}
use Rattle.indirect_macs.proofs.RunLeads.{leads_within, leads_before, leads_behind}
use Rattle.file_blocks.specs.Changes.{Change, after_draws, held_with, next_draw, nodes_in, object_in, puts_in, ref_in, ref_under, refs_to, run_in, sealed_texts, sealed_under}
use Rattle.file_blocks.specs.Objects.{blocks_for, opened_ref, text_at, text_of, walk_in}
use Rattle.file_blocks.proofs.Changing.{nodes_made, passes-grown, walk_to-grown}
use Rattle.file_blocks.proofs.Sealing.{draws_twice, length-refs, length-sealed, no_draws}

-- ---- each text, sealed

pub refs_at : (key : KeyValue) (salts : SaltState) (addr : ℕ) (texts : List (List ℕ)) (k : ℕ) → k < length texts
    → slice_index_or (refs_to key salts addr texts) k None ≡ Some (ref_under key (next_draw (after_draws k salts)) (addr + k) (slice_index_or texts k []))
unfolding refs_to
refs_at key salts addr [] k within = absurd (omega (arith, within))
refs_at key salts addr (text ∷ texts) zero within =
    let at : addr + 0 ≡ addr = omega arith in
    sym (ap (λ (s : SaltState). let r : Option BlockRef = Some (ref_under key (next_draw s) (addr + 0) text) in r) (no_draws salts)
    ∙ ap (λ (a : ℕ). let r : Option BlockRef = Some (ref_under key (next_draw salts) a text) in r) at)
refs_at key salts addr (text ∷ texts) (suc k) within =
    let later : 1 + k ≡ suc k = omega arith in
    let at : addr + 1 + k ≡ addr + suc k = omega arith in
    refs_at key (after_draws 1 salts) (addr + 1) texts k (omega (arith, within))
    ∙ ap (λ (s : SaltState). let r : Option BlockRef = Some (ref_under key (next_draw s) (addr + 1 + k) (slice_index_or texts k [])) in r)
    (draws_twice 1 k salts ∙ ap (λ (n : ℕ). after_draws n salts) later)
    ∙ ap (λ (a : ℕ). let r : Option BlockRef = Some (ref_under key (next_draw (after_draws (suc k) salts)) a (slice_index_or texts k [])) in r) at

pub sealed_at : (key : KeyValue) (salts : SaltState) (texts : List (List ℕ)) (k : ℕ) → k < length texts
    → slice_get (sealed_texts key salts texts) k ≡ Some (sealed_under key (next_draw (after_draws k salts)) (slice_index_or texts k []))
unfolding sealed_texts
sealed_at key salts [] k within = absurd (omega (arith, within))
sealed_at key salts (text ∷ texts) zero within =
    sym (ap (λ (s : SaltState). let r : Option (List ℕ) = Some (sealed_under key (next_draw s) text) in r) (no_draws salts))
sealed_at key salts (text ∷ texts) (suc k) within =
    let later : 1 + k ≡ suc k = omega arith in
    sealed_at key (after_draws 1 salts) texts k (omega (arith, within))
    ∙ ap (λ (s : SaltState). let r : Option (List ℕ) = Some (sealed_under key (next_draw s) (slice_index_or texts k [])) in r)
    (draws_twice 1 k salts ∙ ap (λ (n : ℕ). after_draws n salts) later)

pub behind_get : {A : Type 0} (xs ys : List A) (k : ℕ) → slice_get (xs ++ ys) (length xs + k) ≡ slice_get ys k
behind_get [] ys k = let place : 0 + k ≡ k = omega arith in rw place refl
behind_get (x ∷ xs) ys k =
    let place : suc (length xs) + k ≡ suc (length xs + k) = omega arith in
    rw place (behind_get xs ys k)

-- the sealed text opens
pub opened_sealed : (key : KeyValue) (d : Drawn) (addr : ℕ) (text : List ℕ) (held : List (List ℕ)) → slice_get held addr ≡ Some (sealed_under key d text)
    → opened_ref key held (ref_under key d addr text) ≡ Some text
unfolding opened_ref
opened_sealed key d addr text held there =
    let size : (length (sealed_under key d text) == length text) ≡ true =
    eq-eqb (length (sealed_under key d text)) (length text) (length-aead_seal key.suite (block_key key d.salt) d.iv [] text) in
    rw (there, size) (aead_open-aead_seal key.suite (block_key key d.salt) d.iv [] text)

-- ---- the whole shelf and the new tree

pub held_is : (key : KeyValue) (salts : SaltState) (held : List (List ℕ)) (c : Change) → c.stays ≡ false
    → held ++ puts_in key salts held (length held) c
    ≡ held_after (held_with key salts held c) c.record_size (run_in key salts (length held) c)
held_is key salts held c moves =
    let count : length (held_with key salts held c) ≡ length held + length c.texts =
    length-append held (sealed_texts key salts c.texts) ∙ ap (λ (n : ℕ). length held + n) (length-sealed key salts c.texts) in
    rw (nodes_made key salts held (length held) c moves, count) (sym (append_assoc held (sealed_texts key salts c.texts) _))

pub tree_is : (key : KeyValue) (salts : SaltState) (held : List (List ℕ)) (c : Change) → c.stays ≡ false
    → (object_in key salts held (length held) c).tree ≡ tree_after (held_with key salts held c) c.record_size (run_in key salts (length held) c)
unfolding object_in
tree_is key salts held c moves =
    let count : length (held_with key salts held c) ≡ length held + length c.texts =
    length-append held (sealed_texts key salts c.texts) ∙ ap (λ (n : ℕ). length held + n) (length-sealed key salts c.texts) in
    rw (moves, count) refl

walk_is : (key : KeyValue) (salts : SaltState) (held : List (List ℕ)) (c : Change) (index : ℕ) → c.stays ≡ false
    → walk_in (held ++ puts_in key salts held (length held) c) c.record_size (object_in key salts held (length held) c).tree index
    ≡ walk_after (held_with key salts held c) c.record_size (run_in key salts (length held) c) index
walk_is key salts held c index moves = rw (held_is key salts held c moves, tree_is key salts held c moves) refl

-- ---- what is stored

pub changed_stored : (key : KeyValue) (salts : SaltState) (held : List (List ℕ)) (c : Change) (k : ℕ) → c.stays ≡ false
    → IsRunOn (held_with key salts held c) c.record_size (run_in key salts (length held) c) → Passes held c.record_size (run_in key salts (length held) c)
    → k < length c.texts
    → text_at key (held ++ puts_in key salts held (length held) c) c.record_size (object_in key salts held (length held) c).tree (c.first + k)
    ≡ Ok (Some (slice_index_or c.texts k []))
unfolding text_at text_of
changed_stored key salts held c k moves on passes within =
    let size = length-refs key salts (length held) c.texts in
    let run : Run = run_in key salts (length held) c in
    let place : c.first + k - c.first ≡ k = omega arith in
    let led = leads_within (held_with key salts held c) c.record_size run (c.first + k) on (passes-grown held (sealed_texts key salts c.texts) c.record_size run passes)
    (omega arith) (omega (arith, within, size)) in
    let d : Drawn = next_draw (after_draws k salts) in
    let text : List ℕ = slice_index_or c.texts k [] in
    let there : slice_get (held ++ puts_in key salts held (length held) c) (length held + k) ≡ Some (sealed_under key d text) =
    behind_get held (puts_in key salts held (length held) c) k
    ∙ slice_get-grown (sealed_texts key salts c.texts) (nodes_in key salts held (length held) c) k (sealed_under key d text) (sealed_at key salts c.texts k within) in
    rw (
      walk_is key salts held c (c.first + k) moves,
      led,
      place,
      refs_at key salts (length held) c.texts k within,
      opened_sealed key d (length held + k) text (held ++ puts_in key salts held (length held) c) there,
    ) refl

pub opened_grown : (key : KeyValue) (held more : List (List ℕ)) (r : BlockRef) (text : List ℕ) → opened_ref key held r ≡ Some text
    → opened_ref key (held ++ more) r ≡ Some text
unfolding opened_ref
opened_grown key held more r text is = by_found (slice_get held r.addr) refl is
  where
    by_found : (found : Option (List ℕ)) → slice_get held r.addr ≡ found
        → option_and_then (λ sealed. if length sealed == r.size then opened_block key r.salt r.iv sealed r.mac else None) found ≡ Some text
        → option_and_then (λ sealed. if length sealed == r.size then opened_block key r.salt r.iv sealed r.mac else None) (slice_get (held ++ more) r.addr) ≡ Some text
    by_found None same is = absurd (cc)
    by_found (Some sealed) same is = rw (slice_get-grown held more r.addr sealed same) is

pub text_grown : (key : KeyValue) (held more : List (List ℕ)) (index : ℕ) (found : Option BlockRef) (stored : Option (List ℕ)) → text_of key held index found ≡ Ok stored
    → text_of key (held ++ more) index found ≡ Ok stored
unfolding text_of
text_grown key held more index None stored is = is
text_grown key held more index (Some r) stored is = by_opened (opened_ref key held r) refl is
  where
    by_opened : (o : Option (List ℕ)) → opened_ref key held r ≡ o → option_map_or (λ text. Ok (Some text)) o (Err (MacFailed 0 index)) ≡ Ok stored
        → option_map_or (λ text. Ok (Some text)) (opened_ref key (held ++ more) r) (Err (MacFailed 0 index)) ≡ Ok stored
    by_opened None same is = absurd (cc)
    by_opened (Some text) same is = rw (opened_grown key held more r text same) is

pub others_stored : (key : KeyValue) (salts : SaltState) (held : List (List ℕ)) (c : Change) (index : ℕ) (found : Option BlockRef) (stored : Option (List ℕ)) → c.stays ≡ false
    → IsRunOn (held_with key salts held c) c.record_size (run_in key salts (length held) c) → Passes held c.record_size (run_in key salts (length held) c)
    → index < blocks_for c.record_size c.new_length → (index < c.first) ⊎ (c.first + length c.texts ≤ index)
    → ref_in held c.record_size c.tree index ≡ Ok found → text_of key held index found ≡ Ok stored
    → text_at key (held ++ puts_in key salts held (length held) c) c.record_size (object_in key salts held (length held) c).tree index ≡ Ok stored
unfolding text_at walk_to
others_stored key salts held c index found stored moves on passes inside outside walked is =
    let size = length-refs key salts (length held) c.texts in
    let run : Run = run_in key salts (length held) c in
    let passes2 = passes-grown held (sealed_texts key salts c.texts) c.record_size run passes in
    let walked2 : walk_to (held_with key salts held c) c.record_size run index ≡ Ok found =
    walk_to-grown held (sealed_texts key salts c.texts) c.record_size run index found walked in
    let led : walk_after (held_with key salts held c) c.record_size run index ≡ Ok found =
    elim outside [
      | inl before ↦ leads_before (held_with key salts held c) c.record_size run index found on passes2 before walked2
      | inr behind ↦ leads_behind (held_with key salts held c) c.record_size run index found on passes2 (omega (arith, behind, size)) inside walked2
    ] in
    rw (walk_is key salts held c index moves, led) (text_grown key held (puts_in key salts held (length held) c) index found stored is)
