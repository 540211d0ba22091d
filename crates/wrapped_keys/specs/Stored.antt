-- The bytes in which a key record is stored: guid 8, suite 1, version 1, initialization vector 12, MAC 16,
-- and the sealed text.
use Rattle.std.specs.Prelude.{ℕ, ◌+◌, Bool, ◌&&◌, ◌==◌, if◌then◌else◌, List, [], ◌∷◌, ◌++◌, length, take, drop, slice_get, slice_index, Option, Some, None}
use Rattle.std.specs.Option.{option_and_then}
use Rattle.dataset_tree.specs.declared.kinds.Suite.{Suite}
use Rattle.dataset_tree.specs.Suite.{suite_number, suite_numbered}
use Rattle.byte_fields.specs.LittleEndian.{little_endian_bytes, little_endian_value}
use Rattle.wrapped_keys.specs.Values.{MasterValue, RecordValue, sealed_len, current_version}
use Rattle.wrapped_keys.specs.Wrapping.{opens}

-- the fields in front of the sealed text
unfoldable pub header_bytes : RecordValue → List ℕ
header_bytes r = little_endian_bytes 8 r.guid ++ (suite_number r.suite ∷ r.version ∷ []) ++ r.iv ++ r.mac

unfoldable pub record_bytes : RecordValue → List ℕ
record_bytes r = header_bytes r ++ r.sealed

-- the fields of a record of this suite
abbrev pub record_at : Suite → List ℕ → RecordValue
record_at suite bytes =
    record {
      guid = little_endian_value (take 8 bytes);
      suite = suite;
      version = slice_index bytes 9;
      iv = take 12 (drop 10 bytes);
      mac = take 16 (drop 22 bytes);
      sealed = drop 38 bytes;
    }

-- whether these are the bytes of a record of this suite
abbrev pub is_record : Suite → List ℕ → Bool
is_record suite bytes = length bytes == 38 + sealed_len suite && slice_index bytes 9 == current_version

-- the suite that a stored record names, by the byte behind its guid
abbrev pub suite_of : List ℕ → Option Suite
suite_of bytes = option_and_then suite_numbered (slice_get bytes 8)

-- the record that is stored in these bytes, none where suite, length or version is not that of a record
unfoldable pub parsed_record : List ℕ → Option RecordValue
parsed_record bytes =
    option_and_then (λ suite. if is_record suite bytes then Some (record_at suite bytes) else None) (suite_of bytes)

-- the master key of the record that is stored in these bytes, none where they are no record or its tag differs
abbrev pub opens_bytes : (bytes wrapping : List ℕ) → Option MasterValue
opens_bytes bytes wrapping = option_and_then (λ r. opens r wrapping) (parsed_record bytes)
