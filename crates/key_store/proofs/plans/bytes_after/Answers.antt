use Rattle.std.proofs.Common.{◌≡◌, ℕ, ◌==◌, List, Option, None, Some, ap, ◌∙◌}
use Rattle.std.specs.Prelude.{unwrap_or}
use Rattle.std.specs.List.{find}
use Rattle.std.specs.Option.{option_map}
use Rattle.encryption_roots.specs.ById.{at_id}
use Rattle.key_store.proofs.PlanLemmas.{first_written}
use Rattle.key_store.proofs.plans.bytes_after.Goals as goal

-- what the search found is what is written
found : (family : ℕ) (written : List (ℕ × List ℕ)) (own : List ℕ) (entry : Option (ℕ × List ℕ)) → entry ≡ find (λ e. e.0 == family) written → unwrap_or (option_map (λ e. e.1) entry) own ≡ unwrap_or (at_id family written) own
found family written own entry search_is = ap (λ e. unwrap_or (option_map (λ (f : ℕ × List ℕ). f.1) e) own) search_is ∙ ap (λ w. unwrap_or w own) (first_written family written)

pub returns-in-None : goal.returns-in-None
returns-in-None c = found c.args.family c.args.written.now c.args.own None c.in-None.ensures

pub returns-in-Some : goal.returns-in-Some
returns-in-Some c = found c.args.family c.args.written.now c.args.own (Some c.in-Some.found.now) c.in-Some.ensures
