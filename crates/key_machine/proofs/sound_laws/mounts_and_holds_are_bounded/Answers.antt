use Rattle.key_machine.proofs.sound_laws.mounts_and_holds_are_bounded.Goals as goal

pub returns-clause-holds : goal.returns-clause-holds
returns-clause-holds c = λ ciphers p rider sound. sound.users.few rider
