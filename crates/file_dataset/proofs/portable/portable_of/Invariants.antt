use Rattle.std.proofs.Common.{◌++◌, take}
use Rattle.std.specs.List.{flat_map}
use Rattle.byte_fields.specs.LittleEndian.{little_endian_bytes}
use Rattle.hmac_hkdf.specs.States.{HasTaken}
use Rattle.file_dataset.specs.Portable.{row_bytes}
use Rattle.file_dataset.proofs.portable.portable_of.Given as goal

-- what was taken so far
abbrev pub invariant-rows : goal.invariant-rows
invariant-rows l = HasTaken l.mac l.key (little_endian_bytes 4 l.table.block ++ flat_map row_bytes (take l.row-index l.row-items))
