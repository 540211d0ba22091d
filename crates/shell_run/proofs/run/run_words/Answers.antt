use Rattle.std.proofs.Common.{map, sym}
use Rattle.std.specs.Prelude.{string_bytes}
use Rattle.shell_run.proofs.RunLemmas.{words_run, words_faulty}
use Rattle.shell_run.proofs.run.run_words.Goals as goal

pub returns-in-Some-clause-told : goal.returns-in-Some-clause-told
returns-in-Some-clause-told g c = words_run (map string_bytes c.args.words.now) c.in-Some.limit g.B.Shelf.tells c.run_limited.result _ _ _ _ _ (sym c.in-Some.ensures.result) c.run_limited.ensures.told

pub returns-in-None-clause-told : goal.returns-in-None-clause-told
returns-in-None-clause-told g c = words_faulty (map string_bytes c.args.words.now) _ _ _ (sym c.in-None.ensures.result)
