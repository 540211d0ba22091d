use Rattle.family_log.proofs.LogLemmas.{hole-behind}
use Rattle.family_log.proofs.laws.lengths_say_where_holes_begin.Goals as goal

pub returns : goal.returns
returns c = λ record_size before after entry changes object index length_now is length_is past none pass.
    hole-behind record_size before after entry changes object index length_now is length_is past none pass
