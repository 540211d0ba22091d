use Rattle.std.proofs.Common.{refl}
use Rattle.byte_fields.specs.LittleEndian.{little_endian_bytes}
use Rattle.wrapped_keys.specs.Wrapping.{additional_data}
use Rattle.wrapped_keys.proofs.key_record.additional_data.Goals as goal

pub returns : goal.returns
unfolding additional_data little_endian_bytes
returns c = rw (c.put_u64-3.ensures, c.put_u64-2.ensures, c.put_u64.ensures, c.from-2.ensures, c.from.ensures, c.number.ensures) refl
