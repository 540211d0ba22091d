use Rattle.std.proofs.Common.{ℕ, cond, ◌&&◌, nat_lt, None, ap, ◌∙◌, subst}
use Rattle.encryption_roots.specs.ById.{at_id}
use Rattle.key_machine.specs.Plain.{owner_of, is_same}
use Rattle.key_machine.specs.Busy.{IsFirstInUse}
use Rattle.key_machine.proofs.UnloadLaws.{done_where_idle, was_busy, is_first, closed_at, same_root}
use Rattle.key_machine.proofs.key_laws.an_unload_is_busy_at_the_first_mapping_in_use.Goals as goal

pub returns-clause-done : goal.returns-clause-done
returns-clause-done c = done_where_idle

pub returns-clause-first : goal.returns-clause-first
returns-clause-first c = λ p name told root dataset count rising target reply.
    let busy = was_busy p name told dataset count reply in
    subst (λ (r : ℕ). IsFirstInUse p r dataset count) (same_root p name busy.0 root busy.1.target target)
    (is_first p busy.0 (record { dataset = dataset; count = count }) rising busy.1.found)

pub returns-clause-closed : goal.returns-clause-closed
returns-clause-closed c = λ p name told root dataset count id rising target reply.
    let busy = was_busy p name told dataset count reply in
    ap (λ state. at_id id state.mapped) busy.1.state ∙ closed_at p busy.0 dataset id
    ∙ ap (λ (r : ℕ). cond (is_same r (owner_of p id) && nat_lt id dataset) None (at_id id p.mapped)) (same_root p name busy.0 root busy.1.target target)
