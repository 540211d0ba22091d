use Rattle.snap_clone.proofs.IdLemmas.{fresh_up_to, is_new, up_to_more, up_to_still}
use Rattle.snap_clone.proofs.laws.ids_above_all_are_new.Goals as goal

pub returns-clause-new : goal.returns-clause-new
returns-clause-new c = λ family last head below above. is_new family last head below above

pub returns-clause-still : goal.returns-clause-still
returns-clause-still c = λ act family last below is_done within. up_to_still act family last below is_done within

pub returns-clause-higher : goal.returns-clause-higher
returns-clause-higher c = λ family last later below above. up_to_more family last later below above

pub returns-clause-fresh : goal.returns-clause-fresh
returns-clause-fresh c = λ tells guid block salts room head portable. fresh_up_to tells guid block salts room head portable
