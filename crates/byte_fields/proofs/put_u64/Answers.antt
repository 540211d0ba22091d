use Rattle.byte_fields.proofs.FieldLaws.{put_field}
use Rattle.byte_fields.proofs.put_u64.Goals as goal

pub returns : goal.returns
returns c = put_field 8 c.args.at c.args.value c.args.bytes.now c.write_u64.new.buf c.requires c.write_u64.ensures
