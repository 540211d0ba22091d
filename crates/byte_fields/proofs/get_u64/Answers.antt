use Rattle.std.proofs.Common.{◌∙◌}
use Rattle.byte_fields.proofs.FieldLaws.{get_field}
use Rattle.byte_fields.proofs.get_u64.Goals as goal

pub returns : goal.returns
returns c = c.read_u64.ensures ∙ get_field 8 c.args.at c.args.bytes.now c.requires
