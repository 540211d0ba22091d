-- The entries of stored nodes. An entry of a node of level 1 is a reference to a block, in 49 bytes: tag,
-- size 4, address 8, salt 8, initialization vector 12, MAC 16. An entry of a node above is a reference to a
-- node of the level below, in 25 bytes: tag, address 8, MAC 16. The tag is 1; a hole is zeros. Numbers have
-- their lowest byte first.
use Rattle.std.specs.Prelude.{ℕ, ◌+◌, ◌^◌, ◌<◌, ◌≡◌, ◌==◌, ◌&&◌, ◌||◌, Bool, true, IsTrue, nat_le, if◌then◌else◌, List, ◌∷◌, ◌++◌, length, take, drop, replicate, slice_index, Option, Some, None}
use Rattle.std.specs.List.{list_all}
use Rattle.byte_fields.specs.LittleEndian.{little_endian_bytes, little_endian_value}
use Rattle.indirect_macs.specs.declared.refs.BlockRef.{BlockRef}
use Rattle.indirect_macs.specs.declared.refs.NodeRef.{NodeRef}

-- an entry of a node of level 1
abbrev pub block_entry : Option BlockRef → List ℕ
block_entry None = replicate 49 0
block_entry (Some r) = 1 ∷ little_endian_bytes 4 r.size ++ little_endian_bytes 8 r.addr ++ r.salt ++ r.iv ++ r.mac

-- an entry of a node above level 1
abbrev pub node_entry : Option NodeRef → List ℕ
node_entry None = replicate 25 0
node_entry (Some r) = 1 ∷ little_endian_bytes 8 r.addr ++ r.mac

-- what a node's MAC covers of an entry: all but the address
abbrev pub block_under_mac : Option BlockRef → List ℕ
block_under_mac None = replicate 41 0
block_under_mac (Some r) = 1 ∷ little_endian_bytes 4 r.size ++ r.salt ++ r.iv ++ r.mac

-- of a reference to a node that is its MAC
abbrev pub node_under_mac : Option (List ℕ) → List ℕ
node_under_mac None = replicate 17 0
node_under_mac (Some mac) = 1 ∷ mac

-- how many bytes an entry has, by the level of its node
abbrev pub entry_len : ℕ → ℕ
entry_len level = if level == 1 then 49 else 25

-- where the address stands in it
abbrev pub address_at : ℕ → ℕ
address_at level = if level == 1 then 5 else 1

-- the reference in an entry of a node of level 1
unfoldable pub block_at : List ℕ → Option BlockRef
block_at entry =
    if slice_index entry 0 == 0 then None
    else Some (record {
      size = little_endian_value (take 4 (drop 1 entry));
      addr = little_endian_value (take 8 (drop 5 entry));
      salt = take 8 (drop 13 entry);
      iv = take 12 (drop 21 entry);
      mac = take 16 (drop 33 entry);
    })

-- the reference in an entry of a node above
unfoldable pub node_at : List ℕ → Option NodeRef
node_at entry =
    if slice_index entry 0 == 0 then None
    else Some (record {
      addr = little_endian_value (take 8 (drop 1 entry));
      mac = take 16 (drop 9 entry);
    })

-- the size of a block is 1 to the record size
abbrev pub is_size : ℕ → ℕ → Bool
is_size record_size size = nat_le 1 size && nat_le size record_size

-- the bytes are an entry of a node of this level, of blocks of at most the record size: all zeros, or with
-- the tag 1, and at level 1 with a good size
unfoldable pub is_entry : (level record_size : ℕ) → List ℕ → Bool
is_entry level record_size entry =
    list_all (λ byte. byte == 0) entry
    || (slice_index entry 0 == 1
    && (if level == 1 then is_size record_size (little_endian_value (take 4 (drop 1 entry))) else true))

-- what a node's MAC covers of the bytes of an entry
abbrev pub without_address : (level : ℕ) → List ℕ → List ℕ
without_address level entry = take (address_at level) entry ++ drop (address_at level + 8) entry

-- a reference to a block of 1 to the record size's bytes, whose fields fit
pub record IsBlockRef (record_size : ℕ) (r : BlockRef) : Type 0 where
  pub size : IsTrue (is_size record_size r.size)
  pub size_fits : r.size < 2 ^ 32
  pub addr_fits : r.addr < 2 ^ 64
  pub salt : length r.salt ≡ 8
  pub iv : length r.iv ≡ 12
  pub mac : length r.mac ≡ 16

-- a reference to a node, whose fields fit
pub record IsNodeRef (r : NodeRef) : Type 0 where
  pub addr_fits : r.addr < 2 ^ 64
  pub mac : length r.mac ≡ 16
