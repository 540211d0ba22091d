use Rattle.std.proofs.Common.{◌∙◌}
use Rattle.byte_fields.proofs.FieldLaws.{get_field}
use Rattle.byte_fields.proofs.get_u16.Goals as goal

pub returns : goal.returns
returns c = c.read_u16.ensures ∙ get_field 2 c.args.at c.args.bytes.now c.requires
