use Rattle.std.proofs.Common.{List, ℕ, drop, subst, ap, ◌∙◌}
use Rattle.std.proofs.lemmas.List.{take_rest}
use Rattle.edge_io.specs.LineEnds.{IsFirstFeed}
use Rattle.edge_io.proofs.ReaderLemmas.{IsFirstFeed-after}
use Rattle.edge_io.proofs.line_reader.LineReader.find_end.Goals as goal

pub returns-in-Some-clause-end : goal.returns-in-Some-clause-end
returns-in-Some-clause-end g c =
    let kept = c.loop-at.invariant in
    let searched = c.loop-at.searched in
    let rest = take_rest c.pending.result.now searched ∙ ap (drop searched) c.pending.ensures in
    IsFirstFeed-after c.loop-at.self searched c.in-Some.at kept.before kept.within
    (subst (λ (bytes : List ℕ). IsFirstFeed bytes c.in-Some.at) rest c.in-Some.ensures.found)
