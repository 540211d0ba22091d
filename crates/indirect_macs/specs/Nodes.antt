-- Nodes: 32 entries one after another, and the MAC over them.
use Rattle.std.specs.Prelude.{ℕ, ◌*◌, ◌&&◌, Bool, List, ◌∷◌, take, drop, map, Option}
use Rattle.std.specs.List.{list_all, flat_map, range_with_len}
use Rattle.std.specs.Str.{bytes_eq}
use Rattle.sha2.specs.Sha512.{sha512}
use Rattle.indirect_macs.specs.declared.refs.BlockRef.{BlockRef}
use Rattle.indirect_macs.specs.declared.refs.NodeRef.{NodeRef}
use Rattle.indirect_macs.specs.Entries.{block_entry, node_entry, block_at, node_at, entry_len, is_entry, without_address}

-- the places of a node's entries
unfoldable pub slots : List ℕ
slots = range_with_len 0 32

-- how many bytes a node of this level has: 1568 at level 1, and 800 above
abbrev pub node_len : ℕ → ℕ
node_len level = 32 * entry_len level

-- the bytes of the entry at a place of a node
abbrev pub entry_at : (level : ℕ) → (node : List ℕ) → (slot : ℕ) → List ℕ
entry_at level node slot = take (entry_len level) (drop (entry_len level * slot) node)

-- the nodes of level 1 and above, of the references in their entries
abbrev pub block_node : List (Option BlockRef) → List ℕ
block_node refs = flat_map block_entry refs

abbrev pub ref_node : List (Option NodeRef) → List ℕ
ref_node refs = flat_map node_entry refs

-- and the references in the entries of these
abbrev pub blocks_of : List ℕ → List (Option BlockRef)
blocks_of node = map (λ slot. block_at (entry_at 1 node slot)) slots

abbrev pub refs_of : List ℕ → List (Option NodeRef)
refs_of node = map (λ slot. node_at (entry_at 2 node slot)) slots

-- the MAC of a node, of the bytes that it covers: the first 16 bytes of the SHA-512 digest of the level, as
-- one byte, and these
unfoldable pub mac_of : (level : ℕ) → (covered : List ℕ) → List ℕ
mac_of level covered = take 16 (sha512 (level ∷ covered))

-- the MAC of a stored node
unfoldable pub node_mac : (level : ℕ) → (node : List ℕ) → List ℕ
node_mac level node = mac_of level (flat_map (λ slot. without_address level (entry_at level node slot)) slots)

-- each of its entries is one
unfoldable pub has_entries : (level record_size : ℕ) → (node : List ℕ) → Bool
has_entries level record_size node = list_all (λ slot. is_entry level record_size (entry_at level node slot)) slots

-- a node's test: each entry is one, and its MAC is the one that was expected
abbrev pub node_passes : (level record_size : ℕ) → (node mac : List ℕ) → Bool
node_passes level record_size node mac = has_entries level record_size node && bytes_eq (node_mac level node) mac
