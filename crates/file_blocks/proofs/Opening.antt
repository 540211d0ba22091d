-- What the reading and opening of one block gives, over plain variables.
use Rattle.std.proofs.Common.{◌≡◌, ℕ, ◌-◌, ◌≤◌, true, false, ◌==◌, List, [], ◌++◌, length, take, drop, map, replicate, length-take-le, length-drop, refl, sym, ap, ◌∙◌, arith, Option, Some, None, Result, Ok, Err, if◌then◌else◌}
use Rattle.std.specs.Prelude.{IfSome}
use Rattle.std.specs.List.{slice_get}
use Rattle.std.specs.Option.{option_map, option_eq, option_and_then}
use Rattle.std.proofs.lemmas.Bool.{eq-eqb, eqb-true}
use Rattle.std.proofs.lemmas.List.{take_at, drop_at, take_all, drop_all, append-nil, length-append}
use borrow.Rule.Slice.PartMut.{post_of}
use Rattle.std.proofs.lemmas.Option.{IfSome_then, slice_get-map}
use Rattle.block_crypt.specs.Blocks.{KeyValue, opened_block}
use Rattle.shelf_store.specs.ShelfState.{ShelfState, HasToldSizes}
use Rattle.indirect_macs.specs.declared.refs.BlockRef.{BlockRef}
use Rattle.indirect_macs.specs.declared.refs.MacError.{MacError}
use Rattle.indirect_macs.specs.declared.refs.MacError.TheVariants.{MacFailed, ShelfFault, Full, NoMemory}
use Rattle.file_blocks.specs.Objects.{Gives, opened_ref, text_of, filled, block_bytes}

-- ---- what an address names

opened_unnamed : (found : Option (List ℕ)) (n : ℕ) (opened : List ℕ → Option (List ℕ)) → option_eq ◌==◌ (option_map length found) (Some n) ≡ false
    → option_and_then (λ sealed. if length sealed == n then opened sealed else None) found ≡ None
opened_unnamed None n opened other = refl
opened_unnamed (Some sealed) n opened other = rw other refl

pub ref_unnamed : (key : KeyValue) (index : ℕ) (r : BlockRef) (s : ShelfState) → HasToldSizes s
    → option_eq ◌==◌ (slice_get s.sizes r.addr) (Some r.size) ≡ false
    → IfSome s.held (λ held. text_of key held index (Some r) ≡ Err (MacFailed 0 index))
unfolding text_of opened_ref
ref_unnamed key index r s sizes other =
    IfSome_then s.held sizes.of_held (λ held same.
    let unnamed : option_eq ◌==◌ (slice_get (map length held) r.addr) (Some r.size) ≡ false = rw same other in
    rw (opened_unnamed (slice_get held r.addr) r.size (λ sealed. opened_block key r.salt r.iv sealed r.mac) (rw slice_get-map at unnamed)) refl)

named_is : (found : Option ℕ) (n : ℕ) → option_eq ◌==◌ found (Some n) ≡ true → found ≡ Some n
named_is None n named = absurd (cc)
named_is (Some size) n named = ap Some (eqb-true size n named)

pub named_size : (sizes : List ℕ) (r : BlockRef) (n : ℕ) → option_eq ◌==◌ (slice_get sizes r.addr) (Some r.size) ≡ true → n ≡ r.size
    → slice_get sizes r.addr ≡ Some n
named_size sizes r n named fits = named_is (slice_get sizes r.addr) r.size named ∙ ap Some (sym fits)

-- ---- what was read

ref_found : (key : KeyValue) (held : List (List ℕ)) (r : BlockRef) (salt iv mac sealed : List ℕ) (found : Option (List ℕ)) → salt ≡ r.salt → iv ≡ r.iv
    → mac ≡ r.mac → slice_get held r.addr ≡ Some sealed → length sealed ≡ r.size → opened_block key salt iv sealed mac ≡ found
    → opened_ref key held r ≡ found
unfolding opened_ref
ref_found key held r salt iv mac sealed found salts ivs macs there whole is =
    let size : (length sealed == r.size) ≡ true = eq-eqb (length sealed) r.size whole in
    let opened : opened_block key r.salt r.iv sealed r.mac ≡ found = rw (salts, ivs, macs) at is in
    rw (there, size) opened

pub ref_opened : (key : KeyValue) (index : ℕ) (r : BlockRef) (salt iv mac sealed text : List ℕ) (s : ShelfState) → salt ≡ r.salt → iv ≡ r.iv
    → mac ≡ r.mac → IfSome s.held (λ held. slice_get held r.addr ≡ Some sealed) → length sealed ≡ r.size
    → opened_block key salt iv sealed mac ≡ Some text
    → IfSome s.held (λ held. text_of key held index (Some r) ≡ Ok (Some text))
unfolding text_of
ref_opened key index r salt iv mac sealed text s salts ivs macs there whole is =
    IfSome_then s.held there (λ held found.
    rw (ref_found key held r salt iv mac sealed (Some text) salts ivs macs found whole is) refl)

pub ref_bad : (key : KeyValue) (index : ℕ) (r : BlockRef) (salt iv mac sealed : List ℕ) (s : ShelfState) → salt ≡ r.salt → iv ≡ r.iv
    → mac ≡ r.mac → IfSome s.held (λ held. slice_get held r.addr ≡ Some sealed) → length sealed ≡ r.size
    → opened_block key salt iv sealed mac ≡ None
    → IfSome s.held (λ held. text_of key held index (Some r) ≡ Err (MacFailed 0 index))
unfolding text_of
ref_bad key index r salt iv mac sealed s salts ivs macs there whole is =
    IfSome_then s.held there (λ held found.
    rw (ref_found key held r salt iv mac sealed None salts ivs macs found whole is) refl)

-- ---- a buffer with a text in front and zeros behind

pub hole_bytes : (n : ℕ) → replicate n 0 ≡ block_bytes n None
unfolding filled
hole_bytes n =
    let none : take {A = ℕ} n [] ≡ [] = take_all n [] (omega arith) in
    let all : n - 0 ≡ n = omega arith in
    rw (none, all) refl

-- a part in front that was written, and a part behind it
pub written : (text old zeros : List ℕ) (size : ℕ) → length text ≡ size
    → take size (text ++ drop size old) ++ (zeros ++ post_of size (length (text ++ drop size old) - size) (text ++ drop size old)) ≡ text ++ zeros
written text old zeros size whole =
    let front : take size (text ++ drop size old) ≡ text = take_at text (drop size old) size whole in
    let behind : drop size (text ++ drop size old) ≡ drop size old = drop_at text (drop size old) size whole in
    let none : drop (length (text ++ drop size old) - size) (drop size old) ≡ [] =
    drop_all (length (text ++ drop size old) - size) (drop size old) (omega (arith, length-append text (drop size old), whole)) in
    rw (front, behind, none, append-nil zeros) refl

pub behind_len : (text old : List ℕ) (size n : ℕ) → length text ≡ size → size ≤ n → length old ≡ n
    → length (take (length (text ++ drop size old) - size) (drop size (text ++ drop size old))) ≡ n - size
behind_len text old size n whole small fits =
    let all = length-append text (drop size old) in
    let rest = length-drop size old in
    length-take-le (length (text ++ drop size old) - size) (drop size (text ++ drop size old)) (omega (arith, length-drop size (text ++ drop size old)))
    ∙ omega (arith, all, rest, whole, fits, small)

pub text_bytes : (text old zeros : List ℕ) (size n width : ℕ) → length text ≡ size → size ≤ n → length old ≡ n → zeros ≡ replicate width 0
    → width ≡ n - size → (out : List ℕ) → out ≡ text ++ zeros
    → (take size out ≡ text) × (out ≡ block_bytes n (Some (take size out)))
unfolding filled
text_bytes text old zeros size n width whole small fits nought wide out is =
    let front : take size out ≡ text = rw is (take_at text zeros size whole) in
    let all : take n text ≡ text = take_all n text (omega (arith, whole, small)) in
    (front, rw (front, all, whole) (is ∙ ap (λ (tail : List ℕ). text ++ tail) (nought ∙ ap (λ (k : ℕ). replicate k 0) wide)))

-- ---- answers that are passed on

pub gives_err : {X Z Y : Type 0} (f : X → Y) (g : Z → Y) (answer : Result Y MacError) (stop : MacError) → Gives f answer (Err stop) → Gives g answer (Err stop)
gives_err f g answer (MacFailed level place) gives = gives
gives_err f g answer ShelfFault gives = gives
gives_err f g answer Full gives = gives
gives_err f g answer NoMemory gives = gives

pub told_bytes : (held : Option (List (List ℕ))) (answer : List (List ℕ) → Result (Option (List ℕ)) MacError) (text front : List ℕ) → front ≡ text
    → IfSome held (λ h. answer h ≡ Ok (Some text)) → IfSome held (λ h. answer h ≡ Ok (Some front))
told_bytes held answer text front same told = rw same told
