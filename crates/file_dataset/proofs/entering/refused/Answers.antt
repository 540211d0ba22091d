use Rattle.std.proofs.Common.{◌-◌, ◌∙◌, ap, ℕ}
use Rattle.file_dataset.proofs.EndLemmas.{halt_ended}
use Rattle.file_dataset.proofs.entering.refused.Goals as goal

pub returns-in-Some-clause-ended : goal.returns-in-Some-clause-ended
returns-in-Some-clause-ended g c =
    halt_ended c.args.spot c.args.before c.args.halt c.in-Some.note c.saturating_sub.result c.saturating_sub-2.result c.stop_of.result c.noted_stop.result
    c.args.fam.now c.noted_stop.new.fam c.requires.head
    (c.saturating_sub.ensures ∙ ap (λ (n : ℕ). n - c.args.before.0) c.requires.draws)
    (c.saturating_sub-2.ensures ∙ ap (λ (n : ℕ). n - c.args.before.1) c.requires.puts)
    c.in-Some.ensures c.stop_of.ensures c.noted_stop.ensures.entry
