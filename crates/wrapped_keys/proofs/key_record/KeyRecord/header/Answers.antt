use Rattle.std.proofs.Common.{arith}
use Rattle.wrapped_keys.specs.Stored.{header_bytes}
use Rattle.wrapped_keys.proofs.Parts.{put_fields}
use Rattle.wrapped_keys.proofs.key_record.KeyRecord.header.Goals as goal

pub returns-clause-fields : goal.returns-clause-fields
unfolding header_bytes
returns-clause-fields c =
    rw (c.put_u64.ensures, c.number.ensures, c.copy_from_slice.ensures.after, c.copy_from_slice-2.ensures.after, ← c.self.view_is)
    (put_fields c.self.inside.guid _ c.self.inside.version c.self.inside.iv c.self.inside.mac (omega arith))
