-- Lines whose record size, where they have one, is in form.
use Rattle.std.specs.Prelude.{IfSome}
use Rattle.encryption_roots.specs.RecordSize.{IsRecordSize}
use Rattle.encryption_roots.specs.declared.props.Options.{Options}
use Rattle.shell_lines.specs.declared.line.Line.{Line}
use Rattle.shell_lines.specs.declared.line.Line.TheVariants.{Create, ChangeKey}

abbrev pub SizedOptions : Options → Type 0
SizedOptions options = IfSome options.block IsRecordSize

-- the record size of a line's options, where it has one, is in form
abbrev pub HasRecordSize : Line → Type 0
HasRecordSize (Create name options) = SizedOptions options
HasRecordSize (ChangeKey name options load_first) = SizedOptions options
HasRecordSize line = Unit {0}
