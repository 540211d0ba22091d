use Rattle.std.proofs.Common.{◌∙◌, ap, is_some}
use Rattle.encryption_roots.specs.Owners.{owner}
use Rattle.encryption_roots.proofs.OwnerLemmas.{owner_of_root, owner_of_other, family_of_clone, next_of_clone, next_of_child}
use Rattle.encryption_roots.proofs.owners.owners_by_walking.Goals as goal

pub returns-clause-owner_of_root : goal.returns-clause-owner_of_root
returns-clause-owner_of_root c = λ t roots id row there crypt root. owner_of_root t roots id row there crypt root

pub returns-clause-owner_of_clone : goal.returns-clause-owner_of_clone
returns-clause-owner_of_clone c =
    λ t roots id row there crypt none clone. owner_of_other t roots id row there crypt (ap is_some none) ∙ ap (λ next. owner t.rows roots next) (next_of_clone row clone)

pub returns-clause-owner_of_child : goal.returns-clause-owner_of_child
returns-clause-owner_of_child c =
    λ t roots id row there crypt none child. owner_of_other t roots id row there crypt (ap is_some none) ∙ ap (λ next. owner t.rows roots next) (next_of_child row child)

pub returns-clause-family_of_clone : goal.returns-clause-family_of_clone
returns-clause-family_of_clone c = λ t id row there clone. family_of_clone t id row there clone
