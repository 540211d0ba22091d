use Rattle.std.proofs.Common.{◌≡◌, ℕ, ◌+◌, ◌*◌, ◌/◌, ◌%◌, ◌<◌, length, slice_index}
use Rattle.aes_block.specs.Field.{◌⊕◌}
use Rattle.aes_block.specs.Lanes.{place, tower}
use Rattle.aes_block.proofs.tower_words.Given as goal

abbrev pub invariant-rounds : goal.invariant-rounds
invariant-rounds l = record {
  size : length l.tower_words ≡ 240;
  done : (k : ℕ) → k < 16 * l.round → slice_index l.tower_words k ≡ tower (slice_index l.words (16 * (k / 16) + place (k / 16) (k % 16)) ⊕ 0x63);
}
