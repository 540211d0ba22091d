use Rattle.std.proofs.Common.{◌∙◌, refl, sym, ap, ◌∷◌, replicate, None}
use Rattle.indirect_macs.specs.RunFields.{run_of}
use Rattle.indirect_macs.proofs.RunPutting.{raised_put, not_raised}
use Rattle.indirect_macs.proofs.replace.put_raised.Goals as goal

pub returns : goal.returns
returns g c = λ reads made start raised had.
    raised_put (run_of c.args.run.now) _ c.args.level reads made _ c.put_inner.result start _ _
    (sym c.is_raised.ensures ∙ c.if-not-is_raised.false) (ap (λ first. first ∷ replicate 31 None) raised) refl had c.put_inner.ensures.value (c.put_inner.ensures.puts reads made.puts start had)

pub returns-then-not-is_raised : goal.returns-then-not-is_raised
returns-then-not-is_raised g c = λ reads made start raised had.
    not_raised (run_of c.args.run.now) _ c.args.level reads made _ start _ (sym c.is_raised.ensures ∙ c.if-not-is_raised.true) raised had
