-- What the reading of a node gives, over plain variables.
use Rattle.std.proofs.Common.{◌≡◌, ℕ, Bool, true, false, ◌&&◌, ◌==◌, List, length, map, refl, ap, Option, Some, None, Result, Ok, Err, if◌then◌else◌}
use Rattle.std.specs.Prelude.{IfSome}
use Rattle.std.specs.List.{slice_get}
use Rattle.std.specs.Option.{option_map, option_eq, option_and_then}
use Rattle.std.proofs.lemmas.Bool.{eq-eqb, eqb-true}
use Rattle.std.proofs.lemmas.Option.{IfSome_then, slice_get-map}
use Rattle.shelf_store.specs.ShelfState.{ShelfState, HasToldSizes, is_due, counted}
use Rattle.indirect_macs.specs.declared.refs.NodeRef.{NodeRef}
use Rattle.indirect_macs.specs.declared.refs.MacError.{MacError}
use Rattle.indirect_macs.specs.declared.refs.MacError.TheVariants.{ShelfFault}
use Rattle.indirect_macs.specs.Nodes.{node_len, node_passes}
use Rattle.indirect_macs.specs.Walk.{names_node, passed, fails_at, tested, reads_of}
use Rattle.indirect_macs.specs.Calls.{Gave}

-- ---- what an address names

size_named : (found : Option ℕ) (n : ℕ) → option_eq ◌==◌ found (Some n) ≡ true → found ≡ Some n
size_named None n named = cc
size_named (Some size) n named = ap Some (eqb-true size n named)

pub named_size : (sizes : List ℕ) (level address : ℕ) → names_node sizes level address ≡ true → slice_get sizes address ≡ Some (node_len level)
unfolding names_node
named_size sizes level address named = size_named (slice_get sizes address) (node_len level) named

none_passes : (found : Option (List ℕ)) (n : ℕ) (test : List ℕ → Bool) → option_eq ◌==◌ (option_map length found) (Some n) ≡ false
    → option_and_then (λ bytes. if length bytes == n && test bytes then Some bytes else None) found ≡ None
none_passes None n test other = refl
none_passes (Some bytes) n test other = rw other refl

-- what names no node fails its test
pub passed_unnamed : (held : List (List ℕ)) (record_size level : ℕ) (node : NodeRef) → names_node (map length held) level node.addr ≡ false
    → passed held record_size level node ≡ None
unfolding names_node passed
passed_unnamed held record_size level node other =
    none_passes (slice_get held node.addr) (node_len level) (λ bytes. node_passes level record_size bytes node.mac)
    (rw slice_get-map at other)

-- what was read passes as its bytes do
pub passed_read : (held : List (List ℕ)) (record_size level : ℕ) (node : NodeRef) (bytes : List ℕ) (passes : Bool)
    → slice_get held node.addr ≡ Some bytes → length bytes ≡ node_len level → node_passes level record_size bytes node.mac ≡ passes
    → passed held record_size level node ≡ (if passes then Some bytes else None)
unfolding passed
passed_read held record_size level node bytes passes found whole test =
    let size : (length bytes == node_len level) ≡ true = eq-eqb (length bytes) (node_len level) whole in
    rw (found, size, test) refl

-- ---- what becomes of an answer

pub gave_none : {X : Type 0} (answer result : Result X MacError) (s : ShelfState) → result ≡ answer → Gave 0 answer result s s
gave_none answer result s same = record { given = same; after = refl }

pub gave_due : {X : Type 0} (answer : Result X MacError) (s new : ShelfState) → is_due s.armed ≡ true → new ≡ counted s
    → Gave 1 answer (Err ShelfFault) s new
gave_due answer s new due after = record { given = rw due refl; after = after }

pub gave_done : {X : Type 0} (answer result : Result X MacError) (s new : ShelfState) → is_due s.armed ≡ false → new ≡ counted s
    → result ≡ answer → Gave 1 answer result s new
gave_done answer result s new idle after same = record { given = rw idle same; after = after }

-- ---- each of the four ends of a reading, on a shelf that tells what it holds

pub read_unnamed : (record_size index level : ℕ) (node : NodeRef) (s : ShelfState) → HasToldSizes s
    → names_node s.sizes level node.addr ≡ false
    → IfSome s.held (λ held. Gave (reads_of (map length held) level node) (tested held record_size index level node) (Err (fails_at level index)) s s)
read_unnamed record_size index level node s sizes other =
    IfSome_then s.held sizes.of_held (λ held same.
    let unnamed : names_node (map length held) level node.addr ≡ false = rw same other in
    rw (unnamed, passed_unnamed held record_size level node unnamed) (gave_none _ _ s refl))

pub read_due : (record_size index level : ℕ) (node : NodeRef) (s new : ShelfState) → HasToldSizes s
    → names_node s.sizes level node.addr ≡ true → is_due s.armed ≡ true → new ≡ counted s
    → IfSome s.held (λ held. Gave (reads_of (map length held) level node) (tested held record_size index level node) (Err ShelfFault) s new)
read_due record_size index level node s new sizes is due after =
    IfSome_then s.held sizes.of_held (λ held same.
    let named : names_node (map length held) level node.addr ≡ true = rw same is in
    rw named (gave_due _ s new due after))

pub both : {X : Type 0} (o : Option X) {P Q R : X → Type 0} → IfSome o P → IfSome o Q → ((x : X) → P x → Q x → R x) → IfSome o R
both None p q f = p
both (Some x) p q f = f x p q

pub read_passed : (record_size level : ℕ) (node : NodeRef) (s : ShelfState) (bytes : List ℕ) → length bytes ≡ node_len level
    → node_passes level record_size bytes node.mac ≡ true → IfSome s.held (λ held. slice_get held node.addr ≡ Some bytes)
    → IfSome s.held (λ held. passed held record_size level node ≡ Some bytes)
read_passed record_size level node s bytes whole passes found =
    IfSome_then s.held found (λ held there. passed_read held record_size level node bytes true there whole passes)

pub read_done : (record_size index level : ℕ) (node : NodeRef) (s new : ShelfState) (bytes : List ℕ)
    → HasToldSizes s → names_node s.sizes level node.addr ≡ true → is_due s.armed ≡ false → new ≡ counted s
    → length bytes ≡ node_len level → node_passes level record_size bytes node.mac ≡ true
    → IfSome s.held (λ held. slice_get held node.addr ≡ Some bytes)
    → IfSome s.held (λ held. Gave (reads_of (map length held) level node) (tested held record_size index level node) (Ok tt) s new)
read_done record_size index level node s new bytes sizes is idle after whole passes found =
    both s.held sizes.of_held found (λ held lengths there.
    let named : names_node (map length held) level node.addr ≡ true = rw lengths is in
    rw (named, passed_read held record_size level node bytes true there whole passes) (gave_done _ _ s new idle after refl))

pub read_failed : (record_size index level : ℕ) (node : NodeRef) (s new : ShelfState) (bytes : List ℕ)
    → HasToldSizes s → names_node s.sizes level node.addr ≡ true → is_due s.armed ≡ false → new ≡ counted s
    → length bytes ≡ node_len level → node_passes level record_size bytes node.mac ≡ false
    → IfSome s.held (λ held. slice_get held node.addr ≡ Some bytes)
    → IfSome s.held (λ held. Gave (reads_of (map length held) level node) (tested held record_size index level node) (Err (fails_at level index)) s new)
read_failed record_size index level node s new bytes sizes is idle after whole fails found =
    both s.held sizes.of_held found (λ held lengths there.
    let named : names_node (map length held) level node.addr ≡ true = rw lengths is in
    rw (named, passed_read held record_size level node bytes false there whole fails) (gave_done _ _ s new idle after refl))
