-- The ciphers keep what the machine asks of them.
use Rattle.std.proofs.Common.{◌≡◌, ℕ, ◌^◌, ◌<◌, true, cond, nat_lt, List, length, Some, None, ap, ◌∙◌, arith}
use Rattle.std.proofs.lemmas.Bool.Decides.{nat_tests}
use Rattle.std.specs.Option.{option_map, option_and_then}
use Rattle.byte_fields.specs.LittleEndian.{little_endian_value}
use Rattle.key_formats.proofs.KeyLengths.{keys_have_32_bytes}
use Rattle.salt_rotation.specs.SeedWords.{seed_bytes, bytes_of_words}
use Rattle.salt_rotation.proofs.KeyStream.{length-seed_bytes}
use Rattle.wrapped_keys.specs.Values.{IsMasterKey}
use Rattle.wrapped_keys.proofs.StoredLaws.{opens_bytes-record_of}
use Rattle.key_machine.specs.Plain.{Master}
use Rattle.key_machine.specs.Fair.{IsMaster, AreSound}
use Rattle.key_ciphers.specs.Ciphers.{ciphers, value_of, master_of, with_guid}
use Rattle.key_ciphers.proofs.OpenedMasters.{masters}

opened : (m : Master) (key vector : List ℕ) → IsMaster m → length vector ≡ 12 → ciphers.opens (ciphers.record_of m key vector) key ≡ Some m
opened m key vector is twelve =
    let value : IsMasterKey (value_of m) = record { guid = is.guid; master = is.master; hmac = is.hmac } in
    let small : nat_lt m.guid (2 ^ 64) ≡ true = small_guid m.guid is.guid in
    ap (λ found. option_map master_of (option_and_then with_guid found)) (opens_bytes-record_of (value_of m) key vector value twelve)
    ∙ ap (λ b. option_map master_of (cond b (Some (value_of m)) None)) small
  where
    small_guid : (guid : ℕ) → guid < 2 ^ 64 → nat_lt guid (2 ^ 64) ≡ true
    small_guid guid below = grind (arith, nat_tests)

number-lt : (seed : List ℕ) (place : ℕ) → little_endian_value (seed_bytes seed place 8) < 2 ^ 64
unfolding seed_bytes bytes_of_words little_endian_value
number-lt seed place = omega arith

pub ciphers_sound : AreSound ciphers
ciphers_sound = record {
  opened = opened;
  masters = masters;
  words = length-seed_bytes;
  numbers = number-lt;
  keys = keys_have_32_bytes;
}
