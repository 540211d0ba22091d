-- The size in a reference to which a walk leads is at most the record size.
use Rattle.std.proofs.Common.{◌≡◌, ℕ, zero, suc, ◌+◌, ◌*◌, ◌<◌, ◌≤◌, Bool, true, false, ◌==◌, ◌&&◌, ◌||◌, nat_le, List, length, take, drop, slice_index, refl, sym, subst, arith, Option, Some, None, Result, Ok, Err, if◌then◌else◌}
use Rattle.std.specs.List.{list_all}
use Rattle.std.specs.Option.{option_map_or}
use Rattle.std.proofs.lemmas.Bool.{leb-true}
use Rattle.std.proofs.lemmas.List.Folds.{list_all_at}
use Rattle.indirect_macs.specs.declared.refs.BlockRef.{BlockRef}
use Rattle.indirect_macs.specs.declared.refs.NodeRef.{NodeRef}
use Rattle.indirect_macs.specs.declared.refs.MacError.{MacError}
use Rattle.indirect_macs.specs.Entries.{block_at, is_entry, is_size}
use Rattle.indirect_macs.specs.Nodes.{slots, entry_at, has_entries}
use Rattle.indirect_macs.specs.Walk.{slot_of, passed, walk, goes_on, next_block, next_node, fails_at}
use Rattle.indirect_macs.proofs.Spelling.{and_both, each_passed, part_of}
use Rattle.indirect_macs.proofs.TreeFold.{passes_from}

entry_size : (record_size : ℕ) (e : List ℕ) (r : BlockRef) → length e ≡ 49 → is_entry 1 record_size e ≡ true → block_at e ≡ Some r
    → r.size ≤ record_size
unfolding block_at is_entry
entry_size record_size e r whole entry found =
    by_tag _ entry (slice_index e 0 == 0) refl _ refl found
  where
    by_tag : (size : ℕ) → (list_all (λ byte. byte == 0) e || (slice_index e 0 == 1 && is_size record_size size)) ≡ true
        → (b : Bool) → (slice_index e 0 == 0) ≡ b → (x : BlockRef) → x.size ≡ size → (if b then None else Some x) ≡ Some r → r.size ≤ record_size
    by_tag size entry true is x same found = absurd (cc)
    by_tag size entry false is x same found =
        let zeros : list_all (λ byte. byte == 0) e ≡ false = list_all_at (λ byte. byte == 0) e 0 0 (omega (arith, whole)) is in
        let sized = (and_both (slice_index e 0 == 1) (is_size record_size size) (rw zeros at entry)).1 in
        let fits : size ≤ record_size = leb-true size record_size (and_both (nat_le 1 size) (nat_le size record_size) sized).1 in
        let e : x ≡ r = cc in
        subst (λ (y : BlockRef). y.size ≤ record_size) e (subst (λ (n : ℕ). n ≤ record_size) (sym same) fits)

block_size : (held : List (List ℕ)) (record_size index : ℕ) (node : NodeRef) (r : BlockRef) → next_block held record_size index node ≡ Ok (Some r)
    → r.size ≤ record_size
unfolding next_block has_entries slots
block_size held record_size index node r found = by_passed (passed held record_size 1 node) refl found
  where
    by_passed : (p : Option (List ℕ)) → passed held record_size 1 node ≡ p
        → option_map_or (λ bytes. Ok (block_at (entry_at 1 bytes (slot_of 1 index)))) p (Err (fails_at 1 index)) ≡ Ok (Some r) → r.size ≤ record_size
    by_passed None is found = absurd (cc)
    by_passed (Some bytes) is found =
        let passes = passes_from held record_size 1 node bytes is in
        let slot = slot_of 1 index in
        let there : block_at (entry_at 1 bytes slot) ≡ Some r = cc in
        let within : slot_of 1 index < 32 = omega arith in
        entry_size record_size (take 49 (drop (49 * slot) bytes)) r (part_of 49 slot bytes passes.whole within)
        (each_passed (λ s. is_entry 1 record_size (entry_at 1 bytes s)) 32 slot within passes.entries) there

pub walk_size : (held : List (List ℕ)) (record_size index below : ℕ) (top : Option NodeRef) (r : BlockRef)
    → walk held record_size index below top ≡ Ok (Some r) → r.size ≤ record_size
unfolding walk
walk_size held record_size index zero None r found = absurd (cc)
walk_size held record_size index (suc below) None r found = absurd (cc)
walk_size held record_size index zero (Some node) r found = block_size held record_size index node r found
walk_size held record_size index (suc below) (Some node) r found =
    by_next (next_node held record_size index (below + 2) node) (λ child there. walk_size held record_size index below child r there) found
  where
    by_next : (next : Result (Option NodeRef) MacError) → ((child : Option NodeRef) → walk held record_size index below child ≡ Ok (Some r) → r.size ≤ record_size)
        → goes_on (λ next. walk held record_size index below next) (λ failed. Err failed) next ≡ Ok (Some r) → r.size ≤ record_size
    by_next (Ok child) below_it found = below_it child found
    by_next (Err failed) below_it found = absurd (cc)
