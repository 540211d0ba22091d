use Rattle.key_machine.proofs.CloneSteps.{clone_owner, clone_of_family, clone_master}
use Rattle.key_machine.proofs.clone_laws.a_clone_is_of_its_origins_family.Goals as goal

pub returns-clause-owner : goal.returns-clause-owner
returns-clause-owner c = clone_owner

pub returns-clause-of_family : goal.returns-clause-of_family
returns-clause-of_family c = clone_of_family

pub returns-clause-master : goal.returns-clause-master
returns-clause-master c = λ ciphers p from name told origin s found accepted. clone_master p from name told origin s found accepted ciphers
