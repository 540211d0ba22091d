-- The portable MAC: what a head or a snapshot holds, under the HMAC key of its family.
use Rattle.std.specs.Prelude.{ℕ, List, ◌++◌, take, replicate, Option, Some, None}
use Rattle.std.specs.List.{flat_map}
use Rattle.byte_fields.specs.LittleEndian.{little_endian_bytes}
use Rattle.hmac_hkdf.specs.Hmac.{hmac512}
use Rattle.indirect_macs.specs.declared.refs.NodeRef.{NodeRef}
use Rattle.family_log.specs.declared.table.Table.{Table}
use Rattle.family_log.specs.declared.table.TableRow.{TableRow}

-- the MAC of a tree's top node, 16 bytes, which are zeros where the top is a hole
abbrev pub top_mac : Option NodeRef → List ℕ
top_mac None = replicate 16 0
top_mac (Some node) = node.mac

-- an object: its number in 4 bytes, its length in 8, and its top MAC
abbrev pub row_bytes : TableRow → List ℕ
row_bytes row = little_endian_bytes 4 row.object ++ little_endian_bytes 8 row.length ++ top_mac row.tree.top

-- the record size in 4 bytes, and the objects in rising order. Each number has its lowest byte first
abbrev pub table_bytes : Table → List ℕ
table_bytes table = little_endian_bytes 4 table.block ++ flat_map row_bytes table.rows

-- the first 32 bytes of the HMAC with SHA-512 (RFC 2104) of the table's bytes
abbrev pub portable : (hmac_key : List ℕ) → Table → List ℕ
portable hmac_key table = take 32 (hmac512 hmac_key (table_bytes table))
