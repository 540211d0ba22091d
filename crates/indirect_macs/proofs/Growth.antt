-- What a longer shelf gives: every node that passed still passes, and a walk that found its block finds it.
use Rattle.std.proofs.Common.{◌≡◌, ℕ, zero, suc, ◌+◌, Bool, ◌&&◌, ◌==◌, List, [], ◌∷◌, ◌++◌, length, refl, Option, Some, None, Result, Ok, Err, if◌then◌else◌}
use Rattle.std.specs.List.{slice_get}
use Rattle.std.specs.Option.{option_and_then, option_map_or}
use Rattle.indirect_macs.specs.declared.refs.BlockRef.{BlockRef}
use Rattle.indirect_macs.specs.declared.refs.NodeRef.{NodeRef}
use Rattle.indirect_macs.specs.declared.refs.MacError.{MacError}
use Rattle.indirect_macs.specs.Nodes.{node_len, node_passes}
use Rattle.indirect_macs.specs.Walk.{passed, walk, next_block, next_node, goes_on}

pub slice_get-grown : {A : Type 0} (xs more : List A) (i : ℕ) (x : A) → slice_get xs i ≡ Some x → slice_get (xs ++ more) i ≡ Some x
slice_get-grown [] more i x there = absurd (cc)
slice_get-grown (y ∷ xs) more zero x there = there
slice_get-grown (y ∷ xs) more (suc i) x there = slice_get-grown xs more i x there

still_passes : (found grown : Option (List ℕ)) (test : List ℕ → Bool) (bytes : List ℕ)
    → ((block : List ℕ) → found ≡ Some block → grown ≡ Some block)
    → option_and_then (λ block. if test block then Some block else None) found ≡ Some bytes
    → option_and_then (λ block. if test block then Some block else None) grown ≡ Some bytes
still_passes None grown test bytes stays passes = absurd (cc)
still_passes (Some block) grown test bytes stays passes = rw (stays block refl) passes

pub passed-grown : (held more : List (List ℕ)) (record_size level : ℕ) (node : NodeRef) (bytes : List ℕ)
    → passed held record_size level node ≡ Some bytes → passed (held ++ more) record_size level node ≡ Some bytes
unfolding passed
passed-grown held more record_size level node bytes passes =
    still_passes (slice_get held node.addr) (slice_get (held ++ more) node.addr)
    (λ block. length block == node_len level && node_passes level record_size block node.mac) bytes
    (λ block there. slice_get-grown held more node.addr block there) passes

found_still : {X : Type 0} (f : List ℕ → X) (failed : MacError) (found grown : Option (List ℕ)) (x : X)
    → ((bytes : List ℕ) → found ≡ Some bytes → grown ≡ Some bytes)
    → option_map_or (λ bytes. Ok (f bytes)) found (Err failed) ≡ Ok x → option_map_or (λ bytes. Ok (f bytes)) grown (Err failed) ≡ Ok x
found_still f failed None grown x stays is = absurd (cc)
found_still f failed (Some bytes) grown x stays is = rw (stays bytes refl) is

goes_still : {Y : Type 0} (next grown : Result (Option NodeRef) MacError) (on later : Option NodeRef → Result Y MacError) (y : Y)
    → ((child : Option NodeRef) → next ≡ Ok child → grown ≡ Ok child)
    → ((child : Option NodeRef) → on child ≡ Ok y → later child ≡ Ok y)
    → goes_on on (λ failed. Err failed) next ≡ Ok y → goes_on later (λ failed. Err failed) grown ≡ Ok y
goes_still (Ok child) grown on later y stays after is = rw (stays child refl) (after child is)
goes_still (Err failed) grown on later y stays after is = absurd (cc)

pub walk-grown : (held more : List (List ℕ)) (record_size index below : ℕ) (top : Option NodeRef) (found : Option BlockRef)
    → walk held record_size index below top ≡ Ok found → walk (held ++ more) record_size index below top ≡ Ok found
unfolding walk next_block next_node
walk-grown held more record_size index zero None found is = is
walk-grown held more record_size index (suc below) None found is = is
walk-grown held more record_size index zero (Some node) found is =
    found_still _ _ (passed held record_size 1 node) (passed (held ++ more) record_size 1 node) found
    (λ bytes passes. passed-grown held more record_size 1 node bytes passes) is
walk-grown held more record_size index (suc below) (Some node) found is =
    goes_still (next_node held record_size index (below + 2) node) (next_node (held ++ more) record_size index (below + 2) node)
    (λ next. walk held record_size index below next) (λ next. walk (held ++ more) record_size index below next) found
    (λ child next. found_still _ _ (passed held record_size (below + 2) node) (passed (held ++ more) record_size (below + 2) node) child
    (λ bytes passes. passed-grown held more record_size (below + 2) node bytes passes) next)
    (λ child rest. walk-grown held more record_size index below child found rest) is
