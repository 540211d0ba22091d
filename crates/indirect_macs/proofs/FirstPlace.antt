-- The walk stops at the first place from the top that fails.
use Rattle.std.proofs.Common.{◌≡◌, ℕ, zero, suc, ◌+◌, ◌<◌, Bool, true, false, ◌&&◌, ◌==◌, List, length, refl, sym, ap, subst, ◌∙◌, arith, Option, Some, None, Result, Ok, Err, if◌then◌else◌}
use Rattle.std.specs.Prelude.{IsSome}
use Rattle.std.specs.List.{slice_get}
use Rattle.std.specs.Option.{option_and_then}
use Rattle.indirect_macs.specs.declared.refs.BlockRef.{BlockRef}
use Rattle.indirect_macs.specs.declared.refs.NodeRef.{NodeRef}
use Rattle.indirect_macs.specs.declared.refs.MacError.{MacError}
use Rattle.indirect_macs.specs.Nodes.{node_len, node_passes}
use Rattle.indirect_macs.specs.Walk.{passed, fails_at, next_block, next_node, walk}
use Rattle.indirect_macs.specs.Places.{Place, next_ref, place_at, block_in}

-- what passes is what is held
pub pass_found : (found : Option (List ℕ)) (test : List ℕ → Bool) (bytes : List ℕ)
    → option_and_then (λ bytes. if test bytes then Some bytes else None) found ≡ Some bytes → found ≡ Some bytes
pass_found None test bytes is = cc
pass_found (Some held) test bytes is = by_test (test held) is
  where
    by_test : (t : Bool) → (if t then Some held else None) ≡ Some bytes → Some held ≡ Some bytes
    by_test true same = same
    by_test false same = absurd (cc)

pub passed_held : (held : List (List ℕ)) (record_size level : ℕ) (node : NodeRef) (bytes : List ℕ) → passed held record_size level node ≡ Some bytes
    → slice_get held node.addr ≡ Some bytes
unfolding passed
passed_held held record_size level node bytes is =
    pass_found (slice_get held node.addr) (λ bytes. length bytes == node_len level && node_passes level record_size bytes node.mac) bytes is

-- the value that is there
value_of : {X : Type 0} (o : Option X) → IsSome o → (x : X) × (o ≡ Some x)
value_of None is = absurd (cc)
value_of (Some x) is = (x, refl)

-- below a hole there are no places
pub no_place : (held : List (List ℕ)) (index below depth : ℕ) → place_at held index below None depth ≡ None
unfolding place_at next_ref
no_place held index below zero = refl
no_place held index zero (suc depth) = refl
no_place held index (suc below) (suc depth) = no_place held index below depth

-- a node that fails, and one that passes
fails_here : (held : List (List ℕ)) (record_size index below : ℕ) (node : NodeRef) → passed held record_size (below + 1) node ≡ None
    → walk held record_size index below (Some node) ≡ Err (fails_at (below + 1) index)
unfolding walk next_block next_node
fails_here held record_size index zero node fails = rw fails refl
fails_here held record_size index (suc below) node fails =
    let level : suc below + 1 ≡ below + 2 = omega arith in
    let failed : passed held record_size (below + 2) node ≡ None = rw level at fails in
    rw failed (ap (λ (l : ℕ). let stop : Result (Option BlockRef) MacError = Err (fails_at l index) in stop) (sym level))

goes_below : (held : List (List ℕ)) (record_size index below : ℕ) (node : NodeRef) → IsSome (passed held record_size (suc below + 1) node)
    → walk held record_size index (suc below) (Some node) ≡ walk held record_size index below (next_ref held index (below + 2) (Some node))
unfolding walk next_node next_ref
goes_below held record_size index below node passes =
    let level : suc below + 1 ≡ below + 2 = omega arith in
    let here = subst (λ (l : ℕ). IsSome (passed held record_size l node)) level passes in
    let value = value_of (passed held record_size (below + 2) node) here in
    rw (value.1, passed_held held record_size (below + 2) node value.0 value.1) refl

pub first_fails : (held : List (List ℕ)) (record_size index below : ℕ) (top : Option NodeRef) (depth : ℕ) (place : Place)
    → place_at held index below top depth ≡ Some place → passed held record_size place.level place.node ≡ None
    → ((above : ℕ) (other : Place) → above < depth → place_at held index below top above ≡ Some other → IsSome (passed held record_size other.level other.node))
    → walk held record_size index below top ≡ Err (fails_at place.level index)
unfolding place_at
first_fails held record_size index below None depth place there fails passes =
    let none = no_place held index below depth in
    absurd (cc)
first_fails held record_size index below (Some node) zero place there fails passes =
    let is : record { level = below + 1; node = node } ≡ place = cc in
    let failed : passed held record_size (below + 1) node ≡ None =
    subst (λ (p : Place). passed held record_size p.level p.node ≡ None) (sym is) fails in
    fails_here held record_size index below node failed
    ∙ ap (λ (p : Place). let stop : Result (Option BlockRef) MacError = Err (fails_at p.level index) in stop) is
first_fails held record_size index zero (Some node) (suc depth) place there fails passes = absurd (cc)
first_fails held record_size index (suc below) (Some node) (suc depth) place there fails passes =
    goes_below held record_size index below node (passes 0 (record { level = suc below + 1; node = node }) (omega arith) refl)
    ∙ first_fails held record_size index below (next_ref held index (below + 2) (Some node)) depth place there fails
    (λ above other higher is. passes (suc above) other (omega (arith, higher)) is)

pub all_pass : (held : List (List ℕ)) (record_size index below : ℕ) (top : Option NodeRef)
    → ((depth : ℕ) (place : Place) → place_at held index below top depth ≡ Some place → IsSome (passed held record_size place.level place.node))
    → walk held record_size index below top ≡ Ok (block_in held index (place_at held index below top below))
unfolding place_at walk next_block block_in
all_pass held record_size index below None passes = no_walk below
  where
    no_walk : (below : ℕ) → walk held record_size index below None ≡ Ok (block_in held index (place_at held index below None below))
    no_walk zero = refl
    no_walk (suc below) =
        ap (λ (o : Option Place). let found : Result (Option BlockRef) MacError = Ok (block_in held index o) in found)
        (sym (no_place held index (suc below) (suc below)))
all_pass held record_size index zero (Some node) passes = lowest (passes 0 (record { level = 1; node = node }) refl)
  where
    lowest : IsSome (passed held record_size 1 node)
        → walk held record_size index zero (Some node) ≡ Ok (block_in held index (place_at held index zero (Some node) zero))
    lowest here =
        let value = value_of (passed held record_size 1 node) here in
        rw (value.1, passed_held held record_size 1 node value.0 value.1) refl
all_pass held record_size index (suc below) (Some node) passes =
    goes_below held record_size index below node (passes 0 (record { level = suc below + 1; node = node }) refl)
    ∙ all_pass held record_size index below (next_ref held index (below + 2) (Some node)) (λ depth place is. passes (suc depth) place is)
