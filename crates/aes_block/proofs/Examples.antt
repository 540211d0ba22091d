-- The examples that the standard computes, by computing the definitions.
use Rattle.std.proofs.Common.{◌≡◌, refl}
use Rattle.aes_block.specs.Cipher.{affine, sbox}
use Rattle.aes_block.specs.Field.{◌•◌, inverse, power, sum_of_multiples, xtimes}

-- {57} • {13} = {fe} (4.2)
product_example : 0x57 • 0x13 ≡ 0xfe
unfolding ◌•◌ sum_of_multiples xtimes
product_example = refl

-- SBOX({53}) = {ed} (5.1.1)
sbox_example : sbox 0x53 ≡ 0xed
unfolding sbox affine inverse power ◌•◌ sum_of_multiples xtimes
sbox_example = refl
