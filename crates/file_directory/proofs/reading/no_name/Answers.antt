use Rattle.std.proofs.Common.{List, ℕ, Err, subst}
use Rattle.dataset_tree.specs.Refusal.{Gives}
use Rattle.dataset_tree.specs.ShortNames.{file_fault, file_named}
use Rattle.dataset_tree.specs.declared.refusal.Stop.{Stop}
use Rattle.file_directory.proofs.FormLemmas.{unnamed}
use Rattle.file_directory.proofs.reading.no_name.Goals as goal

pub returns-in-Refused : goal.returns-in-Refused
returns-in-Refused c = λ bytes gives.
    let told = subst (λ (stop : Stop). Gives {T = List ℕ} (Err stop) (file_named bytes)) c.in-Refused.is gives in
    unnamed bytes (file_fault bytes) c.in-Refused.field-0 told
