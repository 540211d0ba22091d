use Rattle.std.proofs.Common.{◌≡◌, ◌-◌, ◌*◌, ◌/◌, length, take}
use Rattle.aes_block.specs.Field.{power}
use Rattle.aes_block.specs.Cipher.{words_after}
use Rattle.aes_block.proofs.Aes.expand.Given as goal

abbrev pub invariant-words : goal.invariant-words
invariant-words g l = record {
  size : length l.words ≡ 240;
  held : take (4 * l.i) l.words ≡ words_after g.row.NK l.key (l.i - g.row.NK);
  constant : l.round_constant ≡ power 2 ((l.i - 1) / g.row.NK);
}
