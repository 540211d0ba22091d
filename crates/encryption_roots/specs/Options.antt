-- The options of a command.
use Rattle.encryption_roots.specs.declared.props.Options.{Options}
use Rattle.std.specs.declared.option.Option.TheVariants.{None}

-- each is missing
abbrev pub no_options : Options
no_options = record { suite = None; format = None; place = None; iters = None; block = None }
