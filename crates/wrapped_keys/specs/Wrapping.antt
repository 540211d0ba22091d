-- How a wrapping key of 32 bytes seals a master key, by AES-256 in the mode of the master key's suite.
use Rattle.std.specs.Prelude.{ℕ, List, ◌++◌, take, drop, Option}
use Rattle.std.specs.Option.{option_map}
use Rattle.dataset_tree.specs.declared.kinds.Suite.{Suite}
use Rattle.dataset_tree.specs.Suite.{suite_number, suite_key_len}
use Rattle.byte_fields.specs.LittleEndian.{little_endian_bytes}
use Rattle.wrapped_keys.specs.Aead.{aead_seal, aead_open}
use Rattle.wrapped_keys.specs.Values.{MasterValue, RecordValue, current_version}

-- what the tag covers beside the sealed text: guid, suite and version, as numbers of 64 bits
unfoldable pub additional_data : (guid : ℕ) → Suite → (version : ℕ) → List ℕ
additional_data guid suite version =
    little_endian_bytes 8 guid ++ little_endian_bytes 8 (suite_number suite) ++ little_endian_bytes 8 version

-- the record of a master key: its bytes and those of the HMAC key are sealed as one message
unfoldable pub record_of : MasterValue → (wrapping iv : List ℕ) → RecordValue
record_of key wrapping iv =
    let aad = additional_data key.guid key.suite current_version in
    let message = aead_seal key.suite wrapping iv aad (key.master ++ key.hmac) in
    record {
      guid = key.guid;
      suite = key.suite;
      version = current_version;
      iv = iv;
      mac = message.1;
      sealed = message.0;
    }

-- the master key of a message
abbrev pub master_of : (guid : ℕ) → Suite → (message : List ℕ) → MasterValue
master_of guid suite message =
    record {
      guid = guid;
      suite = suite;
      master = take (suite_key_len suite) message;
      hmac = drop (suite_key_len suite) message;
    }

-- the master key of a record, or none where the tag differs
unfoldable pub opens : RecordValue → (wrapping : List ℕ) → Option MasterValue
opens r wrapping =
    let aad = additional_data r.guid r.suite r.version in
    option_map (master_of r.guid r.suite) (aead_open r.suite wrapping r.iv aad r.sealed r.mac)
