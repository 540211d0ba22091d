use Rattle.std.proofs.Common.{◌==◌, not, rules}
use Rattle.std.proofs.lemmas.Fn.{filter_same}
use Rattle.family_log.specs.declared.head.Head.{Head}
use Rattle.family_log.proofs.head.remove_head.Goals as goal

pub returns : goal.returns
returns c =
    filter_same _ (λ (head : Head). not (head.id == c.args.id)) _ (λ x b f' k. search rules) c.args.heads.now.items c.retain.new.self.items c.retain.ensures.filtered
