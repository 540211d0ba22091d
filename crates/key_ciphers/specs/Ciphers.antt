-- The ciphers that are given to the definitions of the machine: key records, the wrapping key of key
-- material, and the words of a seed.
use Rattle.std.specs.Prelude.{◌^◌, nat_lt, if◌then◌else◌, Option, Some, None}
use Rattle.std.specs.Option.{option_map, option_and_then}
use Rattle.key_formats.specs.WrappingKey.{wkey}
use Rattle.wrapped_keys.specs.Values.{MasterValue}
use Rattle.wrapped_keys.specs.Wrapping.{record_of}
use Rattle.wrapped_keys.specs.Stored.{record_bytes, opens_bytes}
use Rattle.salt_rotation.specs.SeedWords.{seed_bytes}
use Rattle.key_machine.specs.Plain.{Master, Ciphers}

-- a master key as the machine and as the records write it
abbrev pub value_of : Master → MasterValue
value_of m = record { guid = m.guid; suite = m.suite; master = m.master; hmac = m.hmac }

abbrev pub master_of : MasterValue → Master
master_of m = record { guid = m.guid; suite = m.suite; master = m.master; hmac = m.hmac }

-- Guids have 64 bits. (Bytes never give another; lists of other numbers may.)
abbrev pub with_guid : MasterValue → Option MasterValue
with_guid m = if nat_lt m.guid (2 ^ 64) then Some m else None

abbrev pub ciphers : Ciphers
ciphers = record {
  opens = λ stored key. option_map master_of (option_and_then with_guid (opens_bytes stored key));
  record_of = λ master key vector. record_bytes (record_of (value_of master) key vector);
  wkey = wkey;
  seed_bytes = seed_bytes;
}
