-- The walk to a group of blocks, and that it is the walk to each of them.
use Rattle.std.proofs.Common.{◌≡◌, ℕ, zero, suc, ◌+◌, ◌-◌, ◌*◌, ◌/◌, ◌%◌, ◌^◌, ◌<◌, ◌≤◌, List, length, map, replicate, get_or, refl, sym, ap, subst, ◌∙◌, arith, Option, Some, None, Result, Ok, Err}
use Rattle.std.specs.Prelude.{IfSome}
use Rattle.std.specs.List.{slice_index_or}
use Rattle.std.specs.Option.{option_map_or}
use Rattle.std.proofs.lemmas.Option.{IfSome_then}
use Rattle.std.proofs.lemmas.Nat.{mod_below}
use Rattle.std.proofs.lemmas.List.FromFn.{get_or-map-range_with_len}
use Rattle.shelf_store.specs.ShelfState.{ShelfState, after_calls}
use Rattle.indirect_macs.specs.declared.refs.BlockRef.{BlockRef}
use Rattle.indirect_macs.specs.declared.refs.NodeRef.{NodeRef}
use Rattle.indirect_macs.specs.declared.refs.MacError.{MacError}
use Rattle.indirect_macs.specs.declared.refs.MacError.TheVariants.{MacFailed}
use Rattle.indirect_macs.specs.Entries.{block_at, node_at}
use Rattle.indirect_macs.specs.Nodes.{slots, entry_at, blocks_of}
use Rattle.indirect_macs.specs.Walk.{names_node, passed, reads_of, place_of, slot_of, next_block, next_node, goes_on, walk, reads, fails_at, group_in, group_walk, in_group}
use Rattle.indirect_macs.specs.Calls.{Gave}
use Rattle.indirect_macs.proofs.Reading.{both}
use Rattle.indirect_macs.proofs.Walking.{stops, goes, next_unnamed, held_kept}
use Rattle.indirect_macs.proofs.RunReading.{for_each_held}
use Rattle.indirect_macs.proofs.TreeFold.{child_place}

-- ---- the walk from one node on

pub group_hole : (record_size index below : ℕ) (s : ShelfState)
    → IfSome s.held (λ held. Gave (reads held record_size index below None) (group_walk held record_size index below None) (Ok (replicate 32 None)) s s)
unfolding group_walk reads
group_hole record_size index below s = for_each_held s.held (λ held. by_level held below)
  where
    by_level : (held : List (List ℕ)) (below : ℕ) → Gave (reads held record_size index below None) (group_walk held record_size index below None) (Ok (replicate 32 None)) s s
    by_level held zero = record { given = refl; after = refl }
    by_level held (suc below) = record { given = refl; after = refl }

pub group_stops : (record_size index below : ℕ) (node : NodeRef) (stop : MacError) (s m : ShelfState)
    → IfSome s.held (λ held. Gave (reads_of (map length held) (below + 2) node) (next_node held record_size index (below + 2) node) (Err stop) s m)
    → IfSome s.held (λ held. Gave (reads held record_size index (suc below) (Some node)) (group_walk held record_size index (suc below) (Some node)) (Err stop) s m)
unfolding group_walk reads
group_stops record_size index below node stop s m first =
    IfSome_then s.held first (λ held gave.
    stops (names_node (map length held) (below + 2) node.addr) (next_node held record_size index (below + 2) node) stop
    (λ next. group_walk held record_size index below next) (λ next. reads held record_size index below next) s m gave)

pub group_goes_on : (record_size index below : ℕ) (node : NodeRef) (child : Option NodeRef) (result : Result (List (Option BlockRef)) MacError) (calls : ℕ) (s m t : ShelfState)
    → m ≡ after_calls calls s
    → IfSome s.held (λ held. Gave (reads_of (map length held) (below + 2) node) (next_node held record_size index (below + 2) node) (Ok child) s m)
    → IfSome m.held (λ held. Gave (reads held record_size index below child) (group_walk held record_size index below child) result m t)
    → IfSome s.held (λ held. Gave (reads held record_size index (suc below) (Some node)) (group_walk held record_size index (suc below) (Some node)) result s t)
unfolding group_walk reads
group_goes_on record_size index below node child result calls s m t after first rest =
    let kept : m.held ≡ s.held = ap (λ (state : ShelfState). state.held) after ∙ held_kept calls s in
    let later = subst (λ (told : Option (List (List ℕ))). IfSome told (λ held. Gave (reads held record_size index below child) (group_walk held record_size index below child) result m t)) kept rest in
    both s.held first later (λ held gave more.
    goes (names_node (map length held) (below + 2) node.addr) (next_node held record_size index (below + 2) node) (fails_at (below + 2) index) child
    (λ next. group_walk held record_size index below next) (λ next. reads held record_size index below next) result s m t
    (next_unnamed held record_size index (below + 2) node) gave more)

-- ---- by the level of the node

pub group_stops_at : (record_size index level : ℕ) (node : NodeRef) (stop : MacError) (s m : ShelfState) → 2 ≤ level
    → IfSome s.held (λ held. Gave (reads_of (map length held) level node) (next_node held record_size index level node) (Err stop) s m)
    → IfSome s.held (λ held. Gave (reads held record_size index (level - 1) (Some node)) (group_walk held record_size index (level - 1) (Some node)) (Err stop) s m)
group_stops_at record_size index level node stop s m above first =
    let whole : level ≡ level - 2 + 2 = omega arith in
    let low : level - 1 ≡ suc (level - 2) = omega arith in
    let Told : ℕ → Type 0 = λ l. IfSome s.held (λ held. Gave (reads_of (map length held) l node) (next_node held record_size index l node) (Err stop) s m) in
    rw low (group_stops record_size index (level - 2) node stop s m (subst Told whole first))

pub group_goes_on_at : (record_size index level : ℕ) (node : NodeRef) (child : Option NodeRef) (result : Result (List (Option BlockRef)) MacError) (calls : ℕ) (s m t : ShelfState)
    → 2 ≤ level → m ≡ after_calls calls s
    → IfSome s.held (λ held. Gave (reads_of (map length held) level node) (next_node held record_size index level node) (Ok child) s m)
    → IfSome m.held (λ held. Gave (reads held record_size index (level - 1 - 1) child) (group_walk held record_size index (level - 1 - 1) child) result m t)
    → IfSome s.held (λ held. Gave (reads held record_size index (level - 1) (Some node)) (group_walk held record_size index (level - 1) (Some node)) result s t)
group_goes_on_at record_size index level node child result calls s m t above after first rest =
    let whole : level ≡ level - 2 + 2 = omega arith in
    let low : level - 1 ≡ suc (level - 2) = omega arith in
    let lower : level - 1 - 1 ≡ level - 2 = omega arith in
    let First : ℕ → Type 0 = λ l. IfSome s.held (λ held. Gave (reads_of (map length held) l node) (next_node held record_size index l node) (Ok child) s m) in
    let Rest : ℕ → Type 0 = λ b. IfSome m.held (λ held. Gave (reads held record_size index b child) (group_walk held record_size index b child) result m t) in
    rw low (group_goes_on record_size index (level - 2) node child result calls s m t after (subst First whole first) (subst Rest lower rest))

pub group_at_one : (record_size index level : ℕ) (node : NodeRef) (result : Result (List (Option BlockRef)) MacError) (s t : ShelfState) → level ≡ 1
    → IfSome s.held (λ held. Gave (reads_of (map length held) 1 node) (group_in held record_size index node) result s t)
    → IfSome s.held (λ held. Gave (reads held record_size index (level - 1) (Some node)) (group_walk held record_size index (level - 1) (Some node)) result s t)
unfolding group_walk reads
group_at_one record_size index level node result s t one told =
    let low : level - 1 ≡ zero = omega arith in
    rw low told

-- ---- the walk to each block of the group

-- two blocks of a group are under the same places
same_place : (level index other : ℕ) → other / 32 ≡ index / 32 → place_of (level + 1) other ≡ place_of (level + 1) index
same_place zero index other same = same
same_place (suc level) index other same =
    let next : suc level + 1 ≡ level + 1 + 1 = omega arith in
    rw next (sym (child_place (level + 1) other) ∙ ap (λ (p : ℕ). p / 32) (same_place level index other same) ∙ child_place (level + 1) index)

same_next : (held : List (List ℕ)) (record_size index other below : ℕ) (node : NodeRef) → other / 32 ≡ index / 32
    → next_node held record_size other (below + 2) node ≡ next_node held record_size index (below + 2) node
unfolding next_node
same_next held record_size index other below node same =
    let low : below + 2 - 1 ≡ below + 1 = omega arith in
    let high : below + 2 ≡ below + 1 + 1 = omega arith in
    let slot : slot_of (below + 2) other ≡ slot_of (below + 2) index = rw low (ap (λ (p : ℕ). p % 32) (same_place below index other same)) in
    let place : place_of (below + 2) other ≡ place_of (below + 2) index = rw high (same_place (below + 1) index other same) in
    rw (slot, place) refl

hole_at : (n k : ℕ) (hole : Option BlockRef) → slice_index_or (replicate n hole) k hole ≡ hole
hole_at zero k hole = refl
hole_at (suc n) zero hole = refl
hole_at (suc n) (suc k) hole = hole_at n k hole

one_in_group : (held : List (List ℕ)) (record_size index other : ℕ) (node : NodeRef) → other / 32 ≡ index / 32
    → next_block held record_size other node ≡ in_group other (group_in held record_size index node)
unfolding next_block group_in slots
one_in_group held record_size index other node same = by_node (passed held record_size 1 node)
  where
    by_node : (found : Option (List ℕ))
        → option_map_or (λ bytes. Ok (block_at (entry_at 1 bytes (slot_of 1 other)))) found (Err (fails_at 1 other))
        ≡ in_group other (option_map_or (λ bytes. Ok (blocks_of bytes)) found (Err (fails_at 1 index)))
    by_node None = ap (λ (p : ℕ). Err (MacFailed 1 p)) same
    by_node (Some bytes) =
        ap Ok (sym (get_or-map-range_with_len (λ slot. block_at (entry_at 1 bytes slot)) 0 32 (other % 32) (slot_of 1 other) None
        (mod_below other 32 (omega arith)) (omega arith)))

pub walk_in_group : (held : List (List ℕ)) (record_size index below other : ℕ) (top : Option NodeRef) → other / 32 ≡ index / 32
    → walk held record_size other below top ≡ in_group other (group_walk held record_size index below top)
unfolding walk group_walk
walk_in_group held record_size index zero other None same = ap Ok (sym (hole_at 32 (other % 32) None))
walk_in_group held record_size index (suc below) other None same = ap Ok (sym (hole_at 32 (other % 32) None))
walk_in_group held record_size index zero other (Some node) same = one_in_group held record_size index other node same
walk_in_group held record_size index (suc below) other (Some node) same =
    rw (same_next held record_size index other below node same)
    (by_next (next_node held record_size index (below + 2) node) (λ child. walk_in_group held record_size index below other child same))
  where
    by_next : (next : Result (Option NodeRef) MacError)
        → ((child : Option NodeRef) → walk held record_size other below child ≡ in_group other (group_walk held record_size index below child))
        → goes_on (λ child. walk held record_size other below child) (λ failed. Err failed) next
        ≡ in_group other (goes_on (λ child. group_walk held record_size index below child) (λ failed. Err failed) next)
    by_next (Ok child) deeper = deeper child
    by_next (Err failed) deeper = refl
