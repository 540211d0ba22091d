-- What stands in a new node: its entries, where the walk through it goes on.
use Rattle.std.proofs.Common.{◌≡◌, ℕ, zero, suc, ◌+◌, ◌*◌, ◌^◌, ◌<◌, ◌≤◌, Bool, true, false, ◌==◌, List, [], ◌∷◌, ◌++◌, length, map, take, get_or, slice_index, refl, sym, ap, subst, ◌∙◌, arith, length-append, length-take-le, Option, Some, None, is_none}
use Rattle.std.specs.Prelude.{All, IfSome}
use Rattle.std.specs.List.{list_all, flat_map, slice_get}
use Rattle.std.specs.Option.{option_map}
use Rattle.std.specs.Str.{bytes_eq}
use Rattle.std.specs.Int.{w64, to_be_bytes}
use Rattle.sha2.specs.Sha512.{sha512, digest_bytes}
use Rattle.std.proofs.lemmas.List.{append_assoc}
use Rattle.std.proofs.lemmas.List.Elements.{All-head, All-tail, All-weaker}
use Rattle.std.proofs.lemmas.List.Folds.{list_all-map}
use Rattle.std.proofs.lemmas.List.FromFn.{get_or-map-range_with_len}
use Rattle.std.proofs.lemmas.Slice.Eq.{bytes_eq-Decides}
use Rattle.std.proofs.Math.Path.{fun_ext}
use Rattle.indirect_macs.specs.declared.refs.BlockRef.{BlockRef}
use Rattle.indirect_macs.specs.declared.refs.NodeRef.{NodeRef}
use Rattle.indirect_macs.specs.Entries.{block_at, node_at, block_entry, node_entry, block_under_mac, node_under_mac, IsBlockRef, IsNodeRef}
use Rattle.indirect_macs.specs.Nodes.{slots, node_len, entry_at, node_mac, has_entries, mac_of, block_node, ref_node, blocks_of, refs_of}
use Rattle.indirect_macs.specs.Walk.{passed}
use Rattle.indirect_macs.specs.Trees.{is_empty_node}
use Rattle.indirect_macs.specs.Runs.{Node, leaf_of, inner_of, ref_with, puts_with}
use Rattle.indirect_macs.proofs.Reading.{passed_read}
use Rattle.indirect_macs.proofs.Spelling.{blocks_read, blocks_have_entries, blocks_mac, refs_read, refs_have_entries, refs_mac, length-block_entry, length-node_entry, passes_at}
use Rattle.indirect_macs.proofs.TreeFold.{node_none, block_holes, entries_above, above_one}
use Rattle.indirect_macs.proofs.RunMade.{IsFront, IsMade}

-- a node that passes, with these entries, of which not all are holes
pub record HasEntries {X : Type 0} (at : List ℕ → Option X) (held : List (List ℕ)) (record_size level : ℕ) (e : ℕ → Option X) (node : NodeRef) : Type 0 where
  pub bytes : List ℕ
  pub passes : passed held record_size level node ≡ Some bytes
  pub entries : (s : ℕ) → s < 32 → at (entry_at level bytes s) ≡ e s
  pub filled : is_empty_node level bytes ≡ false

-- or a hole
unfoldable pub Entries : {X : Type 0} → (at : List ℕ → Option X) → (held : List (List ℕ)) → (record_size level : ℕ) → (e : ℕ → Option X) → Option NodeRef → Type 0
Entries at held record_size level e None = (s : ℕ) → s < 32 → e s ≡ None
Entries at held record_size level e (Some node) = HasEntries at held record_size level e node

-- ---- what is put is found

slice_get_at : {X : Type 0} (xs : List X) (x : X) (ys : List X) → slice_get (xs ++ x ∷ ys) (length xs) ≡ Some x
slice_get_at [] x ys = refl
slice_get_at (v ∷ xs) x ys =
    let e : length (v ∷ xs) ≡ suc (length xs) = omega arith in
    ap (slice_get (v ∷ (xs ++ x ∷ ys))) e ∙ slice_get_at xs x ys

slice_get_put : (held front more final : List (List ℕ)) (block : List ℕ) → final ≡ front ++ block ∷ [] ++ more
    → slice_get (held ++ final) (length held + length front) ≡ Some block
slice_get_put held front more final block is =
    let split : held ++ final ≡ held ++ front ++ block ∷ more = ap (λ (v : List (List ℕ)). held ++ v) (is ∙ append_assoc front (block ∷ []) more) ∙ sym (append_assoc held front (block ∷ more)) in
    ap (λ (v : List (List ℕ)). slice_get v (length held + length front)) split
    ∙ ap (slice_get (held ++ front ++ block ∷ more)) (sym (length-append held front))
    ∙ slice_get_at (held ++ front) block more

pub bytes_same : (xs ys : List ℕ) → xs ≡ ys → bytes_eq xs ys ≡ true
bytes_same xs ys is = grind (arith, is, bytes_eq-Decides xs ys)

passed_put : (held front final : List (List ℕ)) (record_size level : ℕ) (block mac : List ℕ) → IsFront (front ++ block ∷ []) final
    → length block ≡ node_len level → has_entries level record_size block ≡ true → node_mac level block ≡ mac
    → passed (held ++ final) record_size level (record { addr = length held + length front; mac = mac }) ≡ Some block
passed_put held front final record_size level block mac put whole entries is =
    passed_read (held ++ final) record_size level (record { addr = length held + length front; mac = mac }) block true
    (slice_get_put held front put.more final block put.is) whole (rw (entries, bytes_same (node_mac level block) mac is) refl)

-- ---- the three kinds of new references

ref_hole : (before : ℕ) (node : Node) (stays : Option NodeRef) → node.holes ≡ true → ref_with before node stays ≡ None
ref_hole before node stays holes = rw holes refl

ref_kept : (before : ℕ) (node : Node) (stays : Option NodeRef) (kept : NodeRef) → node.holes ≡ false → stays ≡ Some kept → ref_with before node stays ≡ Some kept
ref_kept before node stays kept some is = rw (some, is) refl

ref_put : (before : ℕ) (node : Node) (stays : Option NodeRef) → node.holes ≡ false → stays ≡ None
    → ref_with before node stays ≡ Some (record { addr = before; mac = node.mac })
ref_put before node stays some is = rw (some, is) refl

put_there : (node : Node) (stays : Option NodeRef) (front : List (List ℕ)) → node.holes ≡ false → stays ≡ None → puts_with node stays front ≡ front ++ node.bytes ∷ []
put_there node stays front some is = rw (some, is) refl

-- ---- a node's MAC and its fields fit

length-digest_bytes : (h : List ℕ) (n : ℕ) → length (digest_bytes h n) ≡ 8 * n
unfolding digest_bytes
length-digest_bytes h zero = refl
length-digest_bytes h (suc n) =
    omega (arith, length-digest_bytes h n, length-append (digest_bytes h n) (to_be_bytes w64 (slice_index h n)))

length-front : (h : List ℕ) → length (take 16 (digest_bytes h 8)) ≡ 16
length-front h = length-take-le 16 (digest_bytes h 8) (omega (arith, length-digest_bytes h 8))

pub length-mac_of : (level : ℕ) (covered : List ℕ) → length (mac_of level covered) ≡ 16
unfolding mac_of sha512
length-mac_of level covered = length-front _

length-pieces : {X : Type 0} (f : X → List ℕ) (width : ℕ) (xs : List X) → All (λ x. length (f x) ≡ width) xs → length (flat_map f xs) ≡ width * length xs
length-pieces f width [] all = omega arith
length-pieces f width (x ∷ xs) all =
    let rest = length-pieces f width xs (All-tail (λ x. length (f x) ≡ width) x xs all) in
    let first = All-head (λ x. length (f x) ≡ width) x xs all in
    let next : width * length (x ∷ xs) ≡ width + width * length xs = omega arith in
    omega (arith, rest, first, next, length-append (f x) (flat_map f xs))

length-leaf : (record_size : ℕ) (refs : List (Option BlockRef)) → length refs ≡ 32 → All (λ entry. IfSome entry (IsBlockRef record_size)) refs
    → length (block_node refs) ≡ 1568
length-leaf record_size refs whole all =
    omega (arith, whole, length-pieces block_entry 49 refs (All-weaker _ (λ o. length (block_entry o) ≡ 49) (length-block_entry record_size) refs all))

length-inner : (refs : List (Option NodeRef)) → length refs ≡ 32 → All (λ entry. IfSome entry IsNodeRef) refs → length (ref_node refs) ≡ 800
length-inner refs whole all =
    omega (arith, whole, length-pieces node_entry 25 refs (All-weaker _ (λ o. length (node_entry o) ≡ 25) length-node_entry refs all))

-- ---- the entries of a put node

pub leaf_slot : (bytes : List ℕ) (s : ℕ) → s < 32 → block_at (entry_at 1 bytes s) ≡ get_or (blocks_of bytes) s None
unfolding slots
leaf_slot bytes s within = sym (get_or-map-range_with_len (λ slot. block_at (entry_at 1 bytes slot)) 0 32 s s None within (omega arith))

pub inner_slot : (bytes : List ℕ) (s : ℕ) → s < 32 → node_at (entry_at 2 bytes s) ≡ get_or (refs_of bytes) s None
unfolding slots
inner_slot bytes s within = sym (get_or-map-range_with_len (λ slot. node_at (entry_at 2 bytes slot)) 0 32 s s None within (omega arith))

pub inner_holes : (below : ℕ) (bytes : List ℕ) → list_all is_none (refs_of bytes) ≡ is_empty_node (below + 2) bytes
unfolding is_empty_node
inner_holes below bytes =
    list_all-map is_none (λ slot. node_at (entry_at 2 bytes slot)) slots
    ∙ ap (λ (t : ℕ → Bool). list_all t slots)
    (fun_ext (λ s. node_none (entry_at 2 bytes s) ∙ ap (λ (e : List ℕ). slice_index e 0 == 0) (sym (entries_above below bytes s))))

none_at : {X : Type 0} (entries : List (Option X)) (s : ℕ) → list_all is_none entries ≡ true → s < length entries → get_or entries s None ≡ None
none_at {X = X} entries s holes within = is_hole (get_or entries s None) (passes_at is_none entries None s within holes)
  where
    is_hole : (o : Option X) → is_none o ≡ true → o ≡ None
    is_hole None none = refl
    is_hole (Some x) none = cc

pub leaf_entries : (held final : List (List ℕ)) (record_size : ℕ) (refs : List (Option BlockRef)) (stays r : Option NodeRef) → length refs ≡ 32
    → All (λ entry. IfSome entry (IsBlockRef record_size)) refs → IsMade (length held) final (leaf_of refs) stays r
    → ((node : NodeRef) → stays ≡ Some node → list_all is_none refs ≡ false → HasEntries block_at (held ++ final) record_size 1 (λ s. get_or refs s None) node)
    → Entries block_at (held ++ final) record_size 1 (λ s. get_or refs s None) r
unfolding leaf_of Entries
leaf_entries held final record_size refs stays r whole fits made old = by_holes (list_all is_none refs) refl stays refl
  where
    E : Option NodeRef → Type 0
    E = Entries block_at (held ++ final) record_size 1 (λ s. get_or refs s None)

    by_holes : (holes : Bool) → list_all is_none refs ≡ holes → (kept : Option NodeRef) → stays ≡ kept → E r
    by_holes true holes kept same =
        let none : r ≡ None = made.is ∙ ref_hole (length held + length made.front) (leaf_of refs) stays holes in
        subst E (sym none) (λ s within. none_at refs s holes (omega (arith, whole, within)))
    by_holes false some (Some node) same =
        let is : r ≡ Some node = made.is ∙ ref_kept (length held + length made.front) (leaf_of refs) stays node some same in
        subst E (sym is) (old node same some)
    by_holes false some None same =
        let is = made.is ∙ ref_put (length held + length made.front) (leaf_of refs) stays some same in
        let put = subst (λ (v : List (List ℕ)). IsFront v final) (put_there (leaf_of refs) stays made.front some same) made.put in
        subst E (sym is) (record {
          bytes = block_node refs;
          passes = passed_put held made.front final record_size 1 (block_node refs) (mac_of 1 (flat_map block_under_mac refs)) put
              (length-leaf record_size refs whole fits) (blocks_have_entries record_size refs whole fits) (blocks_mac record_size refs whole fits);
          entries = λ s within. leaf_slot (block_node refs) s within ∙ ap (λ (l : List (Option BlockRef)). get_or l s None) (blocks_read record_size refs whole fits);
          filled = sym (block_holes (block_node refs)) ∙ ap (list_all is_none) (blocks_read record_size refs whole fits) ∙ some;
        })

pub inner_entries : (held final : List (List ℕ)) (record_size below : ℕ) (refs : List (Option NodeRef)) (stays r : Option NodeRef) → length refs ≡ 32
    → All (λ entry. IfSome entry IsNodeRef) refs → IsMade (length held) final (inner_of (below + 2) refs) stays r
    → ((node : NodeRef) → stays ≡ Some node → list_all is_none refs ≡ false → HasEntries node_at (held ++ final) record_size (below + 2) (λ s. get_or refs s None) node)
    → Entries node_at (held ++ final) record_size (below + 2) (λ s. get_or refs s None) r
unfolding inner_of Entries
inner_entries held final record_size below refs stays r whole fits made old = by_holes (list_all is_none refs) refl stays refl
  where
    E : Option NodeRef → Type 0
    E = Entries node_at (held ++ final) record_size (below + 2) (λ s. get_or refs s None)

    by_holes : (holes : Bool) → list_all is_none refs ≡ holes → (kept : Option NodeRef) → stays ≡ kept → E r
    by_holes true holes kept same =
        let none : r ≡ None = made.is ∙ ref_hole (length held + length made.front) (inner_of (below + 2) refs) stays holes in
        subst E (sym none) (λ s within. none_at refs s holes (omega (arith, whole, within)))
    by_holes false some (Some node) same =
        let is : r ≡ Some node = made.is ∙ ref_kept (length held + length made.front) (inner_of (below + 2) refs) stays node some same in
        subst E (sym is) (old node same some)
    by_holes false some None same =
        let is = made.is ∙ ref_put (length held + length made.front) (inner_of (below + 2) refs) stays some same in
        let put = subst (λ (v : List (List ℕ)). IsFront v final) (put_there (inner_of (below + 2) refs) stays made.front some same) made.put in
        let size : node_len (below + 2) ≡ 800 = rw (above_one below) refl in
        subst E (sym is) (record {
          bytes = ref_node refs;
          passes = passed_put held made.front final record_size (below + 2) (ref_node refs) (mac_of (below + 2) (flat_map node_under_mac (map (option_map (λ r. r.mac)) refs))) put
              (length-inner refs whole fits ∙ sym size) (refs_have_entries (below + 2) record_size refs (omega arith) whole fits) (refs_mac (below + 2) refs (omega arith) whole fits);
          entries = λ s within. ap node_at (entries_above below (ref_node refs) s) ∙ inner_slot (ref_node refs) s within
              ∙ ap (λ (l : List (Option NodeRef)). get_or l s None) (refs_read refs whole fits);
          filled = sym (inner_holes below (ref_node refs)) ∙ ap (list_all is_none) (refs_read refs whole fits) ∙ some;
        })

-- a new reference fits, where the shelf's addresses do
pub made_fits : (base : ℕ) (final : List (List ℕ)) (node : Node) (stays r : Option NodeRef) → IsMade base final node stays r → length node.mac ≡ 16
    → IfSome stays IsNodeRef → base + length final ≤ 2 ^ 64 → IfSome r IsNodeRef
made_fits base final node stays r made mac old room = by_holes node.holes refl stays refl
  where
    Fits : Option NodeRef → Type 0
    Fits = λ o. IfSome o IsNodeRef

    by_holes : (holes : Bool) → node.holes ≡ holes → (kept : Option NodeRef) → stays ≡ kept → Fits r
    by_holes true holes kept same = subst Fits (sym (made.is ∙ ref_hole (base + length made.front) node stays holes)) tt
    by_holes false some (Some kept) same =
        subst Fits (sym (made.is ∙ ref_kept (base + length made.front) node stays kept some same)) (subst Fits same old)
    by_holes false some None same =
        let put = subst (λ (v : List (List ℕ)). IsFront v final) (put_there node stays made.front some same) made.put in
        let size : length final ≡ length (made.front ++ node.bytes ∷ []) + length put.more = ap length put.is ∙ length-append (made.front ++ node.bytes ∷ []) put.more in
        subst Fits (sym (made.is ∙ ref_put (base + length made.front) node stays some same))
        (record { addr_fits = omega (arith, room, size, length-append made.front (node.bytes ∷ [])); mac = mac })
