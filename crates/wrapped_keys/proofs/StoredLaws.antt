-- The stored form of a record, and its reading.
use Rattle.std.proofs.Common.{◌≡◌, ℕ, ◌+◌, ◌^◌, ◌<◌, ◌≤◌, inl, inr, true, ◌==◌, List, [], ◌∷◌, ◌++◌, length, take, drop, slice_index, Some, refl, ap, ◌∙◌, arith, length-append, length-take, length-drop}
use Rattle.std.proofs.lemmas.Bool.{eq-eqb}
use Rattle.std.proofs.lemmas.List.{take_at, drop_at, length-take-le, get_or-take, get_or_past, append_assoc, take-append-drop, drop_more}
use Rattle.std.proofs.lemmas.Bool.{cases_lt}
use Rattle.dataset_tree.specs.declared.kinds.Suite.{Suite}
use Rattle.dataset_tree.specs.declared.kinds.Suite.TheVariants.{Aes128Gcm, Aes192Gcm, Aes256Gcm}
use Rattle.dataset_tree.specs.Suite.{suite_number, suite_numbered}
use Rattle.byte_fields.specs.LittleEndian.{little_endian_bytes, little_endian_value}
use Rattle.byte_fields.proofs.FieldLaws.{little_endian_value-bytes, little_endian_bytes-value}
use Rattle.wrapped_keys.specs.Values.{MasterValue, RecordValue, sealed_len, IsMasterKey, IsRecord}
use Rattle.wrapped_keys.specs.Wrapping.{record_of, opens}
use Rattle.wrapped_keys.specs.Stored.{header_bytes, record_bytes, record_at, suite_of, parsed_record, opens_bytes}
use Rattle.wrapped_keys.specs.PaddedRecord.{IsPaddedRecord, record_value}
use Rattle.wrapped_keys.specs.declared.key_record.KeyRecord.TheInside.{Inside}
use Rattle.wrapped_keys.proofs.WrappingLaws.{length-aead_seal, length-aead_tag, opens-record_of}
use Rattle.wrapped_keys.proofs.Parts.{key_len-le, take_parts}

suite_numbered-number : (suite : Suite) → suite_numbered (suite_number suite) ≡ Some suite
suite_numbered-number Aes128Gcm = refl
suite_numbered-number Aes192Gcm = refl
suite_numbered-number Aes256Gcm = refl

-- ---- the reading

pub parsed_good : (suite : Suite) (bytes : List ℕ) → suite_of bytes ≡ Some suite
    → length bytes ≡ 38 + sealed_len suite → slice_index bytes 9 ≡ 1
    → parsed_record bytes ≡ Some (record_at suite bytes)
unfolding parsed_record
parsed_good suite bytes named whole version =
    let long : (length bytes == 38 + sealed_len suite) ≡ true = eq-eqb (length bytes) (38 + sealed_len suite) whole in
    let current : (slice_index bytes 9 == 1) ≡ true = eq-eqb (slice_index bytes 9) 1 version in
    rw (named, long, current) refl

-- ---- each is the inverse of the other

two_bytes : (bytes : List ℕ) → 10 ≤ length bytes → slice_index bytes 8 ∷ slice_index bytes 9 ∷ [] ≡ take 2 (drop 8 bytes)
two_bytes bytes long =
    let eighth : drop 8 bytes ≡ slice_index bytes 8 ∷ drop 9 bytes = drop_more bytes 8 0 (omega arith) in
    let ninth : drop 9 bytes ≡ slice_index bytes 9 ∷ drop 10 bytes = drop_more bytes 9 0 (omega arith) in
    rw (eighth, ninth) refl

first_bytes : (n : ℕ) (bytes : List ℕ) → ((i : ℕ) → slice_index bytes i < 256) → (i : ℕ) → slice_index (take n bytes) i < 256
first_bytes n bytes all i =
    elim (cases_lt i n) [
      | inl lt ↦ rw (get_or-take n bytes i 0 lt) (all i)
      | inr ge ↦ rw (get_or_past (take n bytes) i 0 (omega (arith, length-take n bytes))) (omega arith)
    ]

pub record_bytes-at : (suite : Suite) (bytes : List ℕ) → ((i : ℕ) → slice_index bytes i < 256) → suite_number suite ≡ slice_index bytes 8
    → length bytes ≡ 38 + sealed_len suite → record_bytes (record_at suite bytes) ≡ bytes
unfolding record_bytes header_bytes
record_bytes-at suite bytes all named whole =
    let eight : length (take 8 bytes) ≡ 8 = omega (arith, length-take 8 bytes) in
    let guid : little_endian_bytes 8 (little_endian_value (take 8 bytes)) ≡ take 8 bytes =
    rw eight at (little_endian_bytes-value (take 8 bytes) (first_bytes 8 bytes all)) in
    rw (guid, named, two_bytes bytes (omega arith), take_parts 8 2 bytes, take_parts 10 12 bytes, take_parts 22 16 bytes)
    (take-append-drop 38 bytes)

record_at-bytes : (r : RecordValue) → IsRecord r → record_at r.suite (record_bytes r) ≡ r
unfolding record_bytes header_bytes little_endian_bytes
record_at-bytes r is =
    let guid : little_endian_value (little_endian_bytes 8 r.guid) ≡ r.guid = little_endian_value-bytes 8 r.guid is.guid in
    let rest : List ℕ = r.iv ++ r.mac ++ r.sealed in
    let iv : take 12 rest ≡ r.iv = rw (append_assoc r.iv r.mac r.sealed) (take_at r.iv (r.mac ++ r.sealed) 12 is.iv) in
    let mac : take 16 (drop 12 rest) ≡ r.mac =
    rw (append_assoc r.iv r.mac r.sealed, drop_at r.iv (r.mac ++ r.sealed) 12 is.iv) (take_at r.mac r.sealed 16 is.mac) in
    let sealed : drop 28 rest ≡ r.sealed = drop_at (r.iv ++ r.mac) r.sealed 28 (omega (arith, length-append r.iv r.mac, is.iv, is.mac)) in
    rw (guid, iv, mac, sealed) refl

length-record_bytes : (r : RecordValue) → IsRecord r → length (record_bytes r) ≡ 38 + sealed_len r.suite
unfolding record_bytes header_bytes little_endian_bytes
length-record_bytes r is =
    omega (arith, length-append (r.iv ++ r.mac) r.sealed, length-append r.iv r.mac, is.iv, is.mac, is.sealed)

bytes_name_suite : (r : RecordValue) → suite_of (record_bytes r) ≡ Some r.suite
unfolding record_bytes header_bytes little_endian_bytes
bytes_name_suite r = suite_numbered-number r.suite

bytes_have_version : (r : RecordValue) → slice_index (record_bytes r) 9 ≡ r.version
unfolding record_bytes header_bytes little_endian_bytes
bytes_have_version r = refl

pub parsed_record-record_bytes : (r : RecordValue) → IsRecord r → parsed_record (record_bytes r) ≡ Some r
parsed_record-record_bytes r is =
    parsed_good r.suite (record_bytes r) (bytes_name_suite r) (length-record_bytes r is) (bytes_have_version r ∙ is.version)
    ∙ ap Some (record_at-bytes r is)

pub is_record-value : (a : Inside) → IsPaddedRecord a → a.guid < 2 ^ 64 → length a.iv ≡ 12 → length a.mac ≡ 16 → length a.sealed ≡ 96
    → IsRecord (record_value a)
is_record-value a h guid iv mac sealed =
    record {
      guid = guid;
      version = h.version;
      iv = iv;
      mac = mac;
      sealed = length-take-le (sealed_len a.suite) a.sealed (omega (arith, sealed, key_len-le a.suite));
    }

-- ---- the reading of each field

pub read_record : (suite : Suite) (bytes : List ℕ) (guid : ℕ) (iv mac sealed rest : List ℕ) → length bytes ≡ 38 + sealed_len suite
    → guid ≡ little_endian_value (take 8 bytes) → iv ≡ take 12 (drop 10 bytes) → mac ≡ take 16 (drop 22 bytes) → sealed ≡ drop 38 bytes
    → record { guid = guid; suite = suite; version = slice_index bytes 9; iv = iv; mac = mac; sealed = take (sealed_len suite) (sealed ++ rest) }
    ≡ record_at suite bytes
read_record suite bytes guid iv mac sealed rest whole g i m s =
    let front = take_at (drop 38 bytes) rest (sealed_len suite) (omega (arith, length-drop 38 bytes)) in
    rw (g, i, m, s, front) refl

-- ---- what is written opens to what was sealed

pub opens_bytes-record_bytes : (r : RecordValue) (wrapping : List ℕ) → IsRecord r → opens_bytes (record_bytes r) wrapping ≡ opens r wrapping
opens_bytes-record_bytes r wrapping is = rw (parsed_record-record_bytes r is) refl

pub is_record-record_of : (key : MasterValue) (wrapping iv : List ℕ) → IsMasterKey key → length iv ≡ 12 → IsRecord (record_of key wrapping iv)
unfolding record_of
is_record-record_of key wrapping iv is twelve =
    record {
      guid = is.guid;
      version = refl;
      iv = twelve;
      mac = length-aead_tag key.suite wrapping iv _ (key.master ++ key.hmac);
      sealed =
          length-aead_seal key.suite wrapping iv _ (key.master ++ key.hmac)
          ∙ omega (arith, length-append key.master key.hmac, is.master, is.hmac);
    }

pub opens_bytes-record_of : (key : MasterValue) (wrapping iv : List ℕ) → IsMasterKey key → length iv ≡ 12
    → opens_bytes (record_bytes (record_of key wrapping iv)) wrapping ≡ Some key
opens_bytes-record_of key wrapping iv is twelve =
    opens_bytes-record_bytes (record_of key wrapping iv) wrapping (is_record-record_of key wrapping iv is twelve)
    ∙ opens-record_of key wrapping iv is.master
