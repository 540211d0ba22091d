use Rattle.std.proofs.Common.{refl}
use Rattle.aes_block.specs.Cipher.{add_round_key, add_words, aes, affine, cipher, key_expansion, mix_columns, next_word, rcon, rot_word, sbox, shift_rows, state_after, sub_bytes, sub_word, temp, words_after}
use Rattle.aes_block.specs.Field.{◌•◌, inverse, power, sum_of_multiples, xtimes}
use Rattle.aes_block.proofs.vectors.aes_gives_the_examples.Goals as goal

pub returns-clause-aes_128 : goal.returns-clause-aes_128
unfolding add_round_key add_words aes affine cipher key_expansion mix_columns next_word rcon rot_word sbox shift_rows state_after sub_bytes sub_word temp words_after ◌•◌ inverse power sum_of_multiples xtimes
returns-clause-aes_128 c = refl

pub returns-clause-aes_192 : goal.returns-clause-aes_192
unfolding add_round_key add_words aes affine cipher key_expansion mix_columns next_word rcon rot_word sbox shift_rows state_after sub_bytes sub_word temp words_after ◌•◌ inverse power sum_of_multiples xtimes
returns-clause-aes_192 c = refl

pub returns-clause-aes_256 : goal.returns-clause-aes_256
unfolding add_round_key add_words aes affine cipher key_expansion mix_columns next_word rcon rot_word sbox shift_rows state_after sub_bytes sub_word temp words_after ◌•◌ inverse power sum_of_multiples xtimes
returns-clause-aes_256 c = refl
