use Rattle.std.proofs.Common.{◌≡◌, ◌++◌, take, drop}
use Rattle.byte_blocks.specs.Blocks.{xor_bytes}
use Rattle.byte_blocks.proofs.xor_into.Given as goal

abbrev pub invariant-loop-i : goal.invariant-loop-i
invariant-loop-i l = l.bytes ≡ xor_bytes (take l.i l.initial.bytes) l.others ++ drop l.i l.initial.bytes
