use Rattle.std.proofs.Common.{◌≡◌, ◌*◌, min, length, take}
use Rattle.hmac_hkdf.specs.Hkdf.{expand_block, expand_blocks}
use Rattle.hmac_hkdf.proofs.hkdf.hkdf512.Given as goal

abbrev pub invariant-fill : goal.invariant-fill
invariant-fill l = record {
  last : take (64 * min l.i 1) l.block ≡ expand_block l.prk l.info l.i;
  filled : take (64 * l.i) l.out ≡ take (length l.out) (expand_blocks l.prk l.info l.i);
}
