use Rattle.encryption_roots.proofs.OwnerLemmas.{owner_of_family, one_owner}
use Rattle.encryption_roots.proofs.owners.families_have_one_owner.Goals as goal

pub returns-clause-of_family : goal.returns-clause-of_family
returns-clause-of_family c = λ t roots id heirs. owner_of_family t roots heirs id

pub returns-clause-one : goal.returns-clause-one
returns-clause-one c = λ t roots id other heirs same. one_owner t roots heirs id other same
