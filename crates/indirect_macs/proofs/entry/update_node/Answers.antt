use Rattle.std.proofs.Common.{ℕ, List, [], ◌∷◌, subst, append_assoc}
use Rattle.sha2.specs.Hashers.{Holds512}
use Rattle.indirect_macs.proofs.entry.update_node.Goals as goal

pub returns-in-Some : goal.returns-in-Some
returns-in-Some c covered held =
    let last = c.update-in-Some.ensures _ (c.update.ensures covered held) in
    rw c.in-Some.is (subst (λ (m : List ℕ). Holds512 c.update-in-Some.new.self m) (append_assoc covered (1 ∷ []) c.in-Some.mac) last)
