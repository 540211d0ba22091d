use Rattle.std.proofs.Common.{◌≡◌, ◌*◌, ◌++◌, drop}
use Rattle.gcm_seal.specs.Gcm.{counter_block, gctr_blocks}
use Rattle.gcm_seal.proofs.gctr.apply.Given as goal

abbrev pub invariant-loop-i : goal.invariant-loop-i
invariant-loop-i g l =
    (l.counter ≡ counter_block l.initial.counter (8 * l.i))
    × (l.text ≡ gctr_blocks l.cipher l.initial.counter l.initial.text (8 * l.i) ++ drop (128 * l.i) l.initial.text)
