-- What is put for a run is bytes, where its references are.
use Rattle.std.proofs.Common.{◌≡◌, ℕ, zero, suc, ◌+◌, ◌-◌, ◌*◌, ◌<◌, ◌≤◌, Bool, true, false, ◌&&◌, ◌==◌, nat_lt, nat_le, List, [], ◌∷◌, ◌++◌, length, take, drop, replicate, get_or, slice_index, refl, sym, ap, subst, ◌∙◌, arith, Option, Some, None, Ok, if◌then◌else◌}
use Rattle.std.specs.Prelude.{All, IfSome}
use Rattle.std.specs.List.{flat_map}
use Rattle.std.specs.Int.{w64, to_be_bytes, bytes_high_first, byte_at}
use Rattle.sha2.specs.Sha512.{sha512, digest_bytes}
use Rattle.std.proofs.lemmas.List.{get_or-replicate}
use Rattle.std.proofs.lemmas.Option.{slice_get_within}
use Rattle.std.proofs.lemmas.List.Elements.{All-head, All-tail}
use Rattle.byte_fields.specs.LittleEndian.{little_endian_bytes}
use Rattle.byte_fields.proofs.FieldLaws.{little_endian_bytes-lt}
use Rattle.indirect_macs.specs.declared.refs.BlockRef.{BlockRef}
use Rattle.indirect_macs.specs.declared.refs.NodeRef.{NodeRef}
use Rattle.indirect_macs.specs.Entries.{block_at, node_at, block_entry, node_entry}
use Rattle.indirect_macs.specs.Nodes.{entry_at, mac_of, node_mac}
use Rattle.indirect_macs.specs.Walk.{fails_at, next_block, next_node, passed, slot_of, walk}
use Rattle.indirect_macs.specs.Trees.{AreBytes, HasBytes, HoldsBytes, IsRunOn, IsTree, LosesAll, held_after, tree_after, tree_before, with_run}
use Rattle.indirect_macs.specs.Fold.{fold_mac}
use Rattle.indirect_macs.proofs.RunTrees.{tree_fold, run_tree}
use Rattle.std.specs.Option.{option_map}
use Rattle.indirect_macs.specs.Runs.{Run, Old, Made, Node, first_at, count_at, levels_for, old_of, target, new_ref, entries_at, leaf_of, inner_of, new_node, kept, is_put, puts_with, ref_with, begun, nodes_made, levels_made, puts_of}
use Rattle.indirect_macs.proofs.Spelling.{bytes_of_part}
use Rattle.indirect_macs.proofs.RunNodes.{length-mac_of}
use Rattle.indirect_macs.proofs.TreeFold.{goes_ok, ok_passed, passes_from}
use Rattle.indirect_macs.proofs.RunOld.{old_node_any, old_block_any}
use Rattle.indirect_macs.proofs.RunEntries.{all_entries, new_ref_cases}

-- ---- bytes

pub bytes_append : (xs ys : List ℕ) → AreBytes xs → AreBytes ys → AreBytes (xs ++ ys)
bytes_append [] ys left right i = right i
bytes_append (x ∷ xs) ys left right zero = left zero
bytes_append (x ∷ xs) ys left right (suc i) = bytes_append xs ys (λ k. left (suc k)) right i

bytes_first : (x : ℕ) (xs : List ℕ) → x < 256 → AreBytes xs → AreBytes (x ∷ xs)
bytes_first x xs small rest zero = small
bytes_first x xs small rest (suc i) = rest i

bytes_zeros : (n : ℕ) → AreBytes (replicate n 0)
bytes_zeros zero i = omega arith
bytes_zeros (suc n) zero = omega arith
bytes_zeros (suc n) (suc i) = bytes_zeros n i

bytes_flat : {X : Type 0} (f : X → List ℕ) (xs : List X) → All (λ x. AreBytes (f x)) xs → AreBytes (flat_map f xs)
bytes_flat f [] all i = omega arith
bytes_flat f (x ∷ xs) all i =
    bytes_append (f x) (flat_map f xs) (All-head (λ x. AreBytes (f x)) x xs all) (bytes_flat f xs (All-tail (λ x. AreBytes (f x)) x xs all)) i

byte_small : (k n : ℕ) → byte_at k n < 256
byte_small zero n = omega arith
byte_small (suc k) n = omega arith

bytes_high : (k n : ℕ) → AreBytes (bytes_high_first k n)
bytes_high zero n i = omega arith
bytes_high (suc k) n zero = byte_small k n
bytes_high (suc k) n (suc i) = bytes_high k n i

bytes_digest : (h : List ℕ) (n : ℕ) → AreBytes (digest_bytes h n)
unfolding digest_bytes
bytes_digest h zero i = omega arith
bytes_digest h (suc n) i = bytes_append (digest_bytes h n) (to_be_bytes w64 (slice_index h n)) (bytes_digest h n) (bytes_high 8 (slice_index h n)) i

bytes_mac : (level : ℕ) (covered : List ℕ) → AreBytes (mac_of level covered)
unfolding mac_of sha512
bytes_mac level covered = bytes_of_part 0 16 (digest_bytes _ 8) (bytes_digest _ 8)

-- the MAC of a reference to a node is bytes
abbrev HasMac : Option NodeRef → Type 0
HasMac o = IfSome o (λ r. AreBytes r.mac)

bytes_block : (o : Option BlockRef) → IfSome o HasBytes → AreBytes (block_entry o)
bytes_block None has = bytes_zeros 49
bytes_block (Some r) has =
    bytes_first 1 _ (omega arith)
    (bytes_append (little_endian_bytes 4 r.size ++ little_endian_bytes 8 r.addr ++ r.salt ++ r.iv) r.mac
    (bytes_append (little_endian_bytes 4 r.size ++ little_endian_bytes 8 r.addr ++ r.salt) r.iv
    (bytes_append (little_endian_bytes 4 r.size ++ little_endian_bytes 8 r.addr) r.salt
    (bytes_append (little_endian_bytes 4 r.size) (little_endian_bytes 8 r.addr) (little_endian_bytes-lt 4 r.size) (little_endian_bytes-lt 8 r.addr)) has.salt) has.iv) has.mac)

bytes_node : (o : Option NodeRef) → HasMac o → AreBytes (node_entry o)
bytes_node None has = bytes_zeros 25
bytes_node (Some r) has =
    bytes_first 1 _ (omega arith) (bytes_append (little_endian_bytes 8 r.addr) r.mac (little_endian_bytes-lt 8 r.addr) has)

read_block : (e : List ℕ) → AreBytes e → IfSome (block_at e) HasBytes
unfolding block_at
read_block e fair = by_tag (slice_index e 0 == 0) _ (bytes_of_part 13 8 e fair) (bytes_of_part 21 12 e fair) (bytes_of_part 33 16 e fair)
  where
    by_tag : (b : Bool) (r : BlockRef) → AreBytes r.salt → AreBytes r.iv → AreBytes r.mac → IfSome (if b then None else Some r) HasBytes
    by_tag true r salt iv mac = tt
    by_tag false r salt iv mac = record { salt = salt; iv = iv; mac = mac }

read_node : (e : List ℕ) → AreBytes e → HasMac (node_at e)
unfolding node_at
read_node e fair = by_tag (slice_index e 0 == 0) _ (bytes_of_part 9 16 e fair)
  where
    by_tag : (b : Bool) (r : NodeRef) → AreBytes r.mac → HasMac (if b then None else Some r)
    by_tag true r mac = tt
    by_tag false r mac = mac

-- ---- blocks of a shelf

pub holds_append : (xs ys : List (List ℕ)) → HoldsBytes xs → HoldsBytes ys → HoldsBytes (xs ++ ys)
holds_append [] ys left right address block is = right address block is
holds_append (x ∷ xs) ys left right zero block is = left zero block is
holds_append (x ∷ xs) ys left right (suc address) block is = holds_append xs ys (λ k b there. left (suc k) b there) right address block is

holds_one : (b : List ℕ) → AreBytes b → HoldsBytes (b ∷ [])
holds_one b fair zero block is = subst AreBytes (let same : b ≡ block = cc in same) fair
holds_one b fair (suc k) block is = absurd (cc)

pub holds_none : HoldsBytes []
holds_none k block is = absurd (cc)

holds_with : (node : Node) (stays : Option NodeRef) (puts : List (List ℕ)) → AreBytes node.bytes → HoldsBytes puts → HoldsBytes (puts_with node stays puts)
holds_with node stays puts fair holds = by_put (is_put node stays)
  where
    by_put : (b : Bool) → HoldsBytes (if b then puts ++ node.bytes ∷ [] else puts)
    by_put true = holds_append puts (node.bytes ∷ []) holds (holds_one node.bytes fair)
    by_put false = holds

mac_with : (before : ℕ) (node : Node) (stays : Option NodeRef) → AreBytes node.mac → HasMac stays → HasMac (ref_with before node stays)
mac_with before node stays fair old = by_put (is_put node stays) node.holes
  where
    by_put : (b h : Bool) → HasMac (if b then Some (record { addr = before; mac = node.mac }) else (if h then None else stays))
    by_put true h = fair
    by_put false true = tt
    by_put false false = old

one_and_none : (o : Option NodeRef) → HasMac o → All (λ entry. AreBytes (node_entry entry)) (o ∷ replicate 31 None)
one_and_none o has zero d within = bytes_node o has
one_and_none o has (suc k) d within =
    subst (λ (entry : Option NodeRef). AreBytes (node_entry entry)) (sym (get_or-replicate 31 k None d (omega (arith, within)))) (bytes_zeros 25)

mac_append : (xs : List (Option NodeRef)) (x : Option NodeRef) → ((i : ℕ) → HasMac (get_or xs i None)) → HasMac x → (i : ℕ) → HasMac (get_or (xs ++ x ∷ []) i None)
mac_append [] x left right zero = right
mac_append [] x left right (suc i) = tt
mac_append (y ∷ xs) x left right zero = left zero
mac_append (y ∷ xs) x left right (suc i) = mac_append xs x (λ k. left (suc k)) right i

-- ---- a node that a walk went through

pub passed_node : (held : List (List ℕ)) (record_size level : ℕ) (node : NodeRef) (bytes : List ℕ) → passed held record_size level node ≡ Some bytes
    → (node.addr < length held) × (length node.mac ≡ 16) × AreBytes node.mac
unfolding node_mac
passed_node held record_size level node bytes is =
    let passes = passes_from held record_size level node bytes is in (
      slice_get_within held node.addr bytes passes.there,
      ap length (sym passes.mac) ∙ length-mac_of level _,
      subst AreBytes passes.mac (bytes_mac level _),
    )

pub walked_node : (held : List (List ℕ)) (record_size index below : ℕ) (node : NodeRef) (found : Option BlockRef) → walk held record_size index below (Some node) ≡ Ok found
    → (node.addr < length held) × (length node.mac ≡ 16) × AreBytes node.mac
unfolding walk next_block next_node
walked_node held record_size index zero node found is =
    let one = ok_passed (λ bytes. block_at (entry_at 1 bytes (slot_of 1 index))) (passed held record_size 1 node) (fails_at 1 index) found is in
    passed_node held record_size 1 node one.0 one.1
walked_node held record_size index (suc below) node found is =
    let next = goes_ok (λ next. walk held record_size index below next) (next_node held record_size index (below + 2) node) found is in
    let one = ok_passed (λ bytes. node_at (entry_at (below + 2) bytes (slot_of (below + 2) index))) (passed held record_size (below + 2) node) (fails_at (below + 2) index) next.0 next.1 in
    passed_node held record_size (below + 2) node one.0 one.1

-- ---- a run into a tree

module _ (held : List (List ℕ)) (record_size : ℕ) (run : Run) (levels : 1 ≤ run.levels) (holds : HoldsBytes held) (fair : All (λ entry. IfSome entry HasBytes) run.refs) (top : HasMac run.top) where
  abbrev old : Old
  old = old_of held record_size run

  abbrev made : ℕ → Made
  made level = levels_made run old (length held) level

  part_bytes : (node : NodeRef) (level start n : ℕ) (bytes : List ℕ) → passed held record_size level node ≡ Some bytes → AreBytes (take n (drop start bytes))
  part_bytes node level start n bytes is =
      let passes = passes_from held record_size level node bytes is in
      bytes_of_part start n bytes (holds node.addr bytes passes.there)

  old_mac : (level index : ℕ) → 1 ≤ level → HasMac (old.node level index)
  old_mac level index some =
      old_node_any held record_size run level index HasMac tt top some
      (λ l s node bytes high within is. read_node (entry_at l bytes s) (part_bytes node l _ _ bytes is))

  old_bytes : (index : ℕ) → IfSome (old.block index) HasBytes
  old_bytes index =
      old_block_any held record_size run index (λ o. IfSome o HasBytes) tt levels
      (λ s node bytes within there. read_block (entry_at 1 bytes s) (part_bytes node 1 (49 * s) 49 bytes there))

  target_bytes : (index : ℕ) → IfSome (target run old index) HasBytes
  unfolding target
  target_bytes index = by_past (nat_le run.blocks index) (nat_le run.from index) (nat_lt index (run.from + length run.refs)) refl refl
    where
      by_past : (past from to : Bool) → nat_le run.from index ≡ from → nat_lt index (run.from + length run.refs) ≡ to
          → IfSome (if past then None else (if from && to then get_or run.refs (index - run.from) None else old.block index)) HasBytes
      by_past true from to is also = tt
      by_past false true true is also =
          let low : run.from ≤ index = grind (arith, is) in
          let high : index < run.from + length run.refs = grind (arith, also) in
          fair (index - run.from) None (omega (arith, low, high))
      by_past false true false is also = old_bytes index
      by_past false false to is also = old_bytes index

  -- what was made has bytes alone
  record MadeBytes (m : Made) : Type 0 where
    pub refs : (i : ℕ) → HasMac (get_or m.refs i None)
    pub raised : HasMac m.raised
    pub puts : HoldsBytes m.puts

  ref_mac : (level index : ℕ) (m : Made) → 1 ≤ level → MadeBytes m → HasMac (new_ref run old level m index)
  ref_mac level index m some is =
      new_ref_cases HasMac run old level index m (λ from to. is.refs (index - first_at run level)) (λ out past. tt) (λ out inside above first. is.raised)
      (λ out above later. tt) (λ out inside within. old_mac level index some)

  leaf_bytes : (j : ℕ) → AreBytes (leaf_of (entries_at (target run old) j)).bytes
  unfolding leaf_of
  leaf_bytes j = bytes_flat block_entry (entries_at (target run old) j) (all_entries (λ o. AreBytes (block_entry o)) (target run old) j (λ index. bytes_block (target run old index) (target_bytes index)))

  inner_bytes : (level : ℕ) (m : Made) (j : ℕ) → 2 ≤ level → MadeBytes m → AreBytes (inner_of level (entries_at (new_ref run old (level - 1) m) j)).bytes
  unfolding inner_of
  inner_bytes level m j high is =
      bytes_flat node_entry (entries_at (new_ref run old (level - 1) m) j)
      (all_entries (λ o. AreBytes (node_entry o)) (new_ref run old (level - 1) m) j
      (λ index. bytes_node (new_ref run old (level - 1) m index) (ref_mac (level - 1) index m (omega (arith, high)) is)))

  node_bytes : (level : ℕ) (m : Made) (j : ℕ) → 1 ≤ level → MadeBytes m → AreBytes (new_node run old level m j).bytes
  unfolding new_node
  node_bytes level m j some is = by_level (level == 1) refl
    where
      by_level : (b : Bool) → (level == 1) ≡ b → AreBytes (if b then leaf_of (entries_at (target run old) j) else inner_of level (entries_at (new_ref run old (level - 1) m) j)).bytes
      by_level true one = leaf_bytes j
      by_level false more = inner_bytes level m j (grind (arith, more, some)) is

  node_mac_bytes : (level : ℕ) (m : Made) (j : ℕ) → AreBytes (new_node run old level m j).mac
  unfolding new_node leaf_of inner_of
  node_mac_bytes level m j = by_level (level == 1)
    where
      by_level : (b : Bool) → AreBytes (if b then leaf_of (entries_at (target run old) j) else inner_of level (entries_at (new_ref run old (level - 1) m) j)).mac
      by_level true = bytes_mac 1 _
      by_level false = bytes_mac level _

  kept_mac : (level : ℕ) (m : Made) (j : ℕ) → 1 ≤ level → HasMac (kept run old level m j)
  unfolding kept
  kept_mac level m j some = by_same _
    where
      by_same : (b : Bool) → HasMac (if b then old.node level j else None)
      by_same true = old_mac level j some
      by_same false = tt

  begun_bytes : (level : ℕ) (m : Made) → MadeBytes m → MadeBytes (begun run (length held) level m)
  unfolding begun inner_of
  begun_bytes level m is = by_raised (nat_lt run.levels level && nat_lt 0 (first_at run level)) _ _
      (mac_with (length held + length m.puts) (inner_of level (m.raised ∷ replicate 31 None)) None (bytes_mac level _) tt)
      (holds_with (inner_of level (m.raised ∷ replicate 31 None)) None m.puts
      (bytes_flat node_entry (m.raised ∷ replicate 31 None) (one_and_none m.raised is.raised)) is.puts)
    where
      by_raised : (b : Bool) (r : Option NodeRef) (puts : List (List ℕ)) → HasMac r → HoldsBytes puts
          → MadeBytes (if b then record { refs = []; raised = r; puts = puts } else record m { refs = [] })
      by_raised true r puts mac holds = record { refs = λ i. tt; raised = mac; puts = holds }
      by_raised false r puts mac holds = record { refs = λ i. tt; raised = is.raised; puts = is.puts }

  nodes_bytes : (level : ℕ) (m : Made) (n : ℕ) → 1 ≤ level → MadeBytes m → MadeBytes (nodes_made run old (length held) level m n)
  unfolding nodes_made
  nodes_bytes level m zero some is = begun_bytes level m is
  nodes_bytes level m (suc n) some is =
      let before = nodes_bytes level m n some is in
      let made_before : Made = nodes_made run old (length held) level m n in
      let j : ℕ = first_at run level + n in
      let node : Node = new_node run old level m j in
      let stays : Option NodeRef = kept run old level m j in
      record {
        refs = mac_append made_before.refs (ref_with (length held + length made_before.puts) node stays) before.refs
            (mac_with (length held + length made_before.puts) node stays (node_mac_bytes level m j) (kept_mac level m j some));
        raised = before.raised;
        puts = holds_with node stays made_before.puts (node_bytes level m j some is) before.puts;
      }

  levels_bytes : (level : ℕ) → MadeBytes (made level)
  unfolding levels_made
  levels_bytes zero = record { refs = λ i. tt; raised = top; puts = holds_none }
  levels_bytes (suc level) = nodes_bytes (suc level) (made level) (count_at run (suc level)) (omega arith) (levels_bytes level)

  pub after_bytes : HoldsBytes (held_after held record_size run)
  unfolding puts_of
  after_bytes = holds_append held (puts_of run old (length held)) holds (by_none (run.blocks == 0))
    where
      by_none : (b : Bool) → HoldsBytes (if b then [] else (made (levels_for run.blocks)).puts)
      by_none true = holds_none
      by_none false = (levels_bytes (levels_for run.blocks)).puts

-- ---- the top of the new tree

pub run_fold : (held : List (List ℕ)) (record_size : ℕ) (run : Run) (refs : List (Option BlockRef)) → IsRunOn held record_size run
    → All (λ entry. IfSome entry HasBytes) run.refs → IfSome run.top (λ node. AreBytes node.mac)
    → IsTree held record_size (tree_before run) refs → LosesAll run refs
    → option_map (λ node. node.mac) (tree_after held record_size run).top ≡ fold_mac (with_run run refs)
run_fold held record_size run refs ready fair top is all =
    tree_fold (held_after held record_size run) record_size (tree_after held record_size run) (with_run run refs)
    (after_bytes held record_size run ready.levels ready.bytes fair top) (run_tree held record_size run refs ready is all)
