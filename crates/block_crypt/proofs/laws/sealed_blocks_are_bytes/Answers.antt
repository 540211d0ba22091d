use Rattle.block_crypt.proofs.SealedBytes.{sealed_tag-bytes, sealed_text-bytes}
use Rattle.block_crypt.proofs.laws.sealed_blocks_are_bytes.Goals as goal

pub returns-clause-text : goal.returns-clause-text
returns-clause-text c = λ key salt iv text texts. sealed_text-bytes key salt iv text texts

pub returns-clause-tag : goal.returns-clause-tag
returns-clause-tag c = λ key salt iv text. sealed_tag-bytes key salt iv text
