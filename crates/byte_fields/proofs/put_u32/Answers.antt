use Rattle.byte_fields.proofs.FieldLaws.{put_field}
use Rattle.byte_fields.proofs.put_u32.Goals as goal

pub returns : goal.returns
returns c = put_field 4 c.args.at c.args.value c.args.bytes.now c.write_u32.new.buf c.requires c.write_u32.ensures
