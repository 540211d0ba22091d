-- What a record opens to has the lengths of its suite.
use Rattle.std.proofs.Common.{◌≡◌, ⊎_elim, ℕ, ◌+◌, ◌^◌, ◌<◌, Bool, true, false, cond, nat_lt, ◌==◌, ◌&&◌, List, length, take, drop, Option, Some, None, option_map, refl, ap, sym, ◌∙◌, arith, length-take, length-drop}
use Rattle.std.proofs.lemmas.Bool.{cases_Bool, eqb-true}
use Rattle.std.proofs.lemmas.Bool.Decides.{nat_tests}
use Rattle.std.specs.Option.{option_and_then}
use Rattle.std.specs.Prelude.{slice_index}
use Rattle.std.specs.Str.{bytes_eq}
use Rattle.dataset_tree.specs.declared.kinds.Suite.{Suite}
use Rattle.dataset_tree.specs.declared.kinds.Suite.TheVariants.{Aes128Gcm, Aes192Gcm, Aes256Gcm}
use Rattle.dataset_tree.specs.Suite.{suite_key_len}
use Rattle.gcm_seal.specs.Gcm.{gcm_open, gcm_tag, gcm_text, gctr, inc32, j0}
use Rattle.gcm_seal.proofs.Counting.{length-gctr}
use Rattle.wrapped_keys.specs.Aead.{aead_open}
use Rattle.wrapped_keys.specs.Stored.{suite_of, is_record, record_at, parsed_record, opens_bytes}
use Rattle.wrapped_keys.specs.Values.{MasterValue, RecordValue, IsMasterKey, sealed_len}
use Rattle.wrapped_keys.specs.Wrapping.{additional_data, master_of as message_master, opens}
use Rattle.key_machine.specs.Plain.{Master}
use Rattle.key_machine.specs.Fair.{IsMaster}
use Rattle.key_ciphers.specs.Ciphers.{ciphers, master_of, with_guid}

length-text : (key iv text : List ℕ) → length (gcm_text key iv text) ≡ length text
unfolding gcm_text
length-text key iv text = length-gctr key (inc32 (j0 iv)) text

length-opened : (key iv aad sealed tag text : List ℕ) → gcm_open key iv aad sealed tag ≡ Some text → length text ≡ length sealed
unfolding gcm_open
length-opened key iv aad sealed tag text found = by (bytes_eq (gcm_tag key iv aad sealed) tag) found where
  by : (b : Bool) → cond b (Some (gcm_text key iv sealed)) None ≡ Some text → length text ≡ length sealed
  by true h = let same : gcm_text key iv sealed ≡ text = cc in ap (λ t. length t) (sym same) ∙ length-text key iv sealed
  by false h = absurd (cc)

length-aead : (suite : Suite) (key iv aad sealed tag text : List ℕ) → aead_open suite key iv aad sealed tag ≡ Some text → length text ≡ length sealed
length-aead Aes128Gcm key iv aad sealed tag text found = length-opened key iv aad sealed tag text found
length-aead Aes192Gcm key iv aad sealed tag text found = length-opened key iv aad sealed tag text found
length-aead Aes256Gcm key iv aad sealed tag text found = length-opened key iv aad sealed tag text found

record Lengths (v : MasterValue) : Type 0 where
  master : length v.master ≡ suite_key_len v.suite
  hmac : length v.hmac ≡ 64

message_lengths : (guid : ℕ) (suite : Suite) (text : List ℕ) → length text ≡ suite_key_len suite + 64 → Lengths (message_master guid suite text)
message_lengths guid suite text whole = record {
  master = omega (arith, whole, length-take (suite_key_len suite) text);
  hmac = omega (arith, whole, length-drop (suite_key_len suite) text);
}

by_text : (guid : ℕ) (suite : Suite) (n : ℕ) (found : Option (List ℕ)) (v : MasterValue) → ((text : List ℕ) → found ≡ Some text → length text ≡ n) → n ≡ suite_key_len suite + 64
    → option_map (message_master guid suite) found ≡ Some v → Lengths v
by_text guid suite n None v long whole h = absurd (cc)
by_text guid suite n (Some text) v long whole h =
    let same : message_master guid suite text ≡ v = cc in
    let is : Lengths (message_master guid suite text) = message_lengths guid suite text (long text refl ∙ whole) in
    rw (← same) is

opened_lengths : (r : RecordValue) (key : List ℕ) (v : MasterValue) → length r.sealed ≡ sealed_len r.suite → opens r key ≡ Some v → Lengths v
unfolding opens
opened_lengths r key v whole found =
    by_text r.guid r.suite (length r.sealed) (aead_open r.suite key r.iv (additional_data r.guid r.suite r.version) r.sealed r.mac) v
    (λ text opened. length-aead r.suite key r.iv (additional_data r.guid r.suite r.version) r.sealed r.mac text opened) whole found

both : (a b : Bool) → (a && b) ≡ true → a ≡ true
both true b h = refl
both false b h = absurd (cc)

at_length : (suite : Suite) (bytes : List ℕ) → is_record suite bytes ≡ true → length (drop 38 bytes) ≡ sealed_len suite
at_length suite bytes is =
    let whole : length bytes ≡ 38 + sealed_len suite = eqb-true (length bytes) (38 + sealed_len suite) (both (length bytes == 38 + sealed_len suite) (slice_index bytes 9 == 1) is) in
    omega (arith, whole, length-drop 38 bytes)

parsed_length : (bytes : List ℕ) (r : RecordValue) → parsed_record bytes ≡ Some r → length r.sealed ≡ sealed_len r.suite
unfolding parsed_record
parsed_length bytes r found = by_suite (suite_of bytes) found where
  by_test : (suite : Suite) (b : Bool) → is_record suite bytes ≡ b → cond b (Some (record_at suite bytes)) None ≡ Some r → length r.sealed ≡ sealed_len r.suite
  by_test suite true is h = let same : record_at suite bytes ≡ r = cc in let here : length (record_at suite bytes).sealed ≡ sealed_len (record_at suite bytes).suite = at_length suite bytes is in rw (← same) here
  by_test suite false is h = absurd (cc)

  by_suite : (found : Option Suite) → option_and_then (λ suite. cond (is_record suite bytes) (Some (record_at suite bytes)) None) found ≡ Some r → length r.sealed ≡ sealed_len r.suite
  by_suite None h = absurd (cc)
  by_suite (Some suite) h = by_test suite (is_record suite bytes) refl h

bytes_lengths : (stored key : List ℕ) (v : MasterValue) → opens_bytes stored key ≡ Some v → Lengths v
bytes_lengths stored key v found = by (parsed_record stored) refl found where
  by : (parsed : Option RecordValue) → parsed_record stored ≡ parsed → option_and_then (λ r. opens r key) parsed ≡ Some v → Lengths v
  by None is h = absurd (cc)
  by (Some r) is h = opened_lengths r key v (parsed_length stored r is) h

below : (guid : ℕ) → nat_lt guid (2 ^ 64) ≡ true → guid < 2 ^ 64
below guid test = grind (arith, nat_tests)

pub masters : (stored key : List ℕ) (m : Master) → ciphers.opens stored key ≡ Some m → IsMaster m
masters stored key m found = by (opens_bytes stored key) refl found where
  by_guid : (v : MasterValue) (b : Bool) → opens_bytes stored key ≡ Some v → nat_lt v.guid (2 ^ 64) ≡ b → option_map master_of (cond b (Some v) None) ≡ Some m → IsMaster m
  by_guid v true is small h =
      let same : master_of v ≡ m = cc in
      let lengths : Lengths v = bytes_lengths stored key v is in
      let here : IsMaster (master_of v) = record { guid = below v.guid small; master = lengths.master; hmac = lengths.hmac } in
      rw (← same) here
  by_guid v false is small h = absurd (cc)

  by : (opened : Option MasterValue) → opens_bytes stored key ≡ opened → option_map master_of (option_and_then with_guid opened) ≡ Some m → IsMaster m
  by None is h = absurd (cc)
  by (Some v) is h = by_guid v (nat_lt v.guid (2 ^ 64)) is refl h
