use Rattle.std.proofs.Common.{◌∷◌, [], sym, ap, ◌∙◌}
use Rattle.std.proofs.lemmas.Bool.Decides.{Decides-eqb}
use Rattle.std.proofs.lemmas.Slice.Eq.{strip_suffix_is}
use Rattle.edge_io.specs.LineEnds.{strip_return}
use Rattle.edge_io.proofs.ReaderLemmas.{strip_return-13, strip_return-none}
use Rattle.edge_io.proofs.line_reader.without_return.Goals as goal

pub returns-in-Some : goal.returns-in-Some
returns-in-Some c =
    let is = strip_suffix_is Decides-eqb c.args.bytes.now (13 ∷ []) c.strip_suffix.result c.strip_suffix.ensures.cases in
    sym (ap strip_return (rw c.in-Some.is at is) ∙ strip_return-13 c.in-Some.line.now)

pub returns-in-None : goal.returns-in-None
returns-in-None c =
    let is = strip_suffix_is Decides-eqb c.args.bytes.now (13 ∷ []) c.strip_suffix.result c.strip_suffix.ensures.cases in
    sym (strip_return-none c.args.bytes.now (rw c.in-None.is at is))
