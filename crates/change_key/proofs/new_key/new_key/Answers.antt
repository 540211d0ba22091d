use Rattle.std.specs.Option.{option_copied}
use Rattle.key_ciphers.specs.Ciphers.{ciphers}
use Rattle.change_key.proofs.KeyLemmas.{new_key_stops}
use Rattle.change_key.proofs.new_key.new_key.Goals as goal

pub returns-in-Err-clause-fault : goal.returns-in-Err-clause-fault
returns-in-Err-clause-fault c =
    new_key_stops (option_copied c.args.own) c.args.opts.now c.args.kit.now ciphers c.changed_format-format.result c.changed_iters-iters.result c.seed_behind_key.result c.in-Err.why
    c.changed_format-format.ensures c.changed_iters-iters.ensures c.seed_behind_key.ensures c.in-Err.is
