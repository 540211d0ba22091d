use Rattle.key_machine.proofs.FamilyLaws.{family_opens}
use Rattle.key_machine.proofs.sound_laws.a_loaded_key_opens_its_families.Goals as goal

pub returns : goal.returns
returns c = family_opens
