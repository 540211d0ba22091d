use Rattle.std.proofs.Common.{◌∙◌, sym}
use Rattle.family_log.specs.Log.{ref_in}
use Rattle.family_log.specs.Reading.{changes_of, spot_of}
use Rattle.family_log.proofs.LogLemmas.{said-changed}
use Rattle.family_log.proofs.last.said_of.Goals as goal

pub returns : goal.returns
returns c =
    c.ref_in.ensures
    ∙ sym (said-changed (ref_in c.args.block c.args.object c.args.index) (spot_of c.args.spot) (changes_of c.in-Some.changes) c.args.entry.now
    (sym c.in-Some.ensures) (sym c.is_head.ensures ∙ c.if-not-is_head.false))
