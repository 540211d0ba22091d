use Rattle.key_machine.proofs.FamilyNames.{owned_ids}
use Rattle.key_machine.proofs.sound_laws.records_are_of_the_owned_families.Goals as goal

pub returns : goal.returns
returns c = owned_ids
