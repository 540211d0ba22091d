use Rattle.std.proofs.Common.{◌≤◌, ◌∙◌, sym, map}
use Rattle.std.specs.Prelude.{string_bytes}
use Rattle.shell_run.proofs.EndingLemmas.{completes, done_is, ran, none_listed, sink_untouched, source_unread, statuses}
use Rattle.shell_run.proofs.run.run_alone.Goals as goal

pub returns-clause-ran : goal.returns-clause-ran
returns-clause-ran g c =
    let run = c.run_words-ending in
    rw c.status.ensures
    (ran g.B.Shelf.tells (map string_bytes c.args.words.now) (g.S.Source.left c.args.script.now) run.result c.close.result (g.O.Sink.taken c.args.out.now) (g.O.Sink.taken run.new.out) (g.O.Sink.taken c.close.new.out)
    (g.O.Sink.faults c.args.out.now) (g.O.Sink.faults run.new.out) (g.O.Sink.faults c.close.new.out) _ _ c.requires run.ensures.told c.close.ensures.ending run.ensures.sink c.close.ensures.told c.close.ensures.silent)

pub returns-clause-none_failed : goal.returns-clause-none_failed
returns-clause-none_failed g c =
    let run = c.run_words-ending in
    none_listed (λ line. line ≤ 1048576) run.ensures.told.made _ _ run.ensures.told.takes c.requires

pub returns-clause-read_to_its_end : goal.returns-clause-read_to_its_end
returns-clause-read_to_its_end g c = λ none_bad. c.run_words-ending.ensures.end (done_is c.run_words-ending.result c.close.result c.close.ensures.ending (sym c.status.ensures ∙ none_bad))

pub returns-clause-no_read_fault : goal.returns-clause-no_read_fault
returns-clause-no_read_fault g c = λ other. source_unread c.run_words-ending.result c.close.result _ _ c.close.ensures.ending (λ four. other (c.status.ensures ∙ four)) c.run_words-ending.ensures.source

pub returns-clause-no_write_fault : goal.returns-clause-no_write_fault
returns-clause-no_write_fault g c = λ none_bad.
    sink_untouched c.run_words-ending.result c.close.result _ (g.O.Sink.faults c.run_words-ending.new.out) _ c.close.ensures.ending (sym c.status.ensures ∙ none_bad) c.run_words-ending.ensures.sink (λ none. (c.close.ensures.silent none).0)

pub returns-clause-complete : goal.returns-clause-complete
returns-clause-complete g c = λ read written.
    rw c.status.ensures
    (completes c.run_words-ending.result c.close.result _ _ _ (g.O.Sink.faults c.run_words-ending.new.out) _ c.close.ensures.ending c.run_words-ending.ensures.source c.run_words-ending.ensures.sink c.close.ensures.later read written)

pub returns-clause-statuses : goal.returns-clause-statuses
returns-clause-statuses g c = rw c.status.ensures (statuses c.close.result)
