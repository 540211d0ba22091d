use Rattle.key_formats.proofs.KeyLengths.{keys_have_32_bytes}
use Rattle.key_formats.proofs.keys_have_32_bytes.Goals as goal

pub returns : goal.returns
returns c = λ format material iters salt key made. keys_have_32_bytes format material iters salt key made
