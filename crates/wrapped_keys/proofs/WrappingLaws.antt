-- A record opens to the master key that it was made of.
use Rattle.std.proofs.Common.{◌≡◌, ℕ, ◌-◌, List, ◌++◌, length, take, replicate, Some, None, refl, ap, arith, length-append}
use Rattle.std.proofs.lemmas.List.{take_at, drop_at}
use Rattle.dataset_tree.specs.declared.kinds.Suite.{Suite}
use Rattle.dataset_tree.specs.declared.kinds.Suite.TheVariants.{Aes128Gcm, Aes192Gcm, Aes256Gcm}
use Rattle.dataset_tree.specs.Suite.{suite_key_len}
use Rattle.gcm_seal.proofs.Opening.{gcm_open-gcm_seal, length-sealed, length-tag}
use Rattle.wrapped_keys.specs.Aead.{aead_seal, aead_open}
use Rattle.wrapped_keys.specs.Values.{MasterValue, RecordValue, sealed_len, current_version}
use Rattle.wrapped_keys.specs.Wrapping.{additional_data, record_of, master_of, opens}

pub aead_open-aead_seal : (suite : Suite) (key iv aad text : List ℕ)
    → aead_open suite key iv aad (aead_seal suite key iv aad text).0 (aead_seal suite key iv aad text).1 ≡ Some text
aead_open-aead_seal Aes128Gcm key iv aad text = gcm_open-gcm_seal key iv aad text
aead_open-aead_seal Aes192Gcm key iv aad text = gcm_open-gcm_seal key iv aad text
aead_open-aead_seal Aes256Gcm key iv aad text = gcm_open-gcm_seal key iv aad text

pub length-aead_seal : (suite : Suite) (key iv aad text : List ℕ) → length (aead_seal suite key iv aad text).0 ≡ length text
length-aead_seal Aes128Gcm key iv aad text = length-sealed key iv aad text
length-aead_seal Aes192Gcm key iv aad text = length-sealed key iv aad text
length-aead_seal Aes256Gcm key iv aad text = length-sealed key iv aad text

pub length-aead_tag : (suite : Suite) (key iv aad text : List ℕ) → length (aead_seal suite key iv aad text).1 ≡ 16
length-aead_tag Aes128Gcm key iv aad text = length-tag key iv aad text
length-aead_tag Aes192Gcm key iv aad text = length-tag key iv aad text
length-aead_tag Aes256Gcm key iv aad text = length-tag key iv aad text

-- the keys of a message are those that it was made of
master_of-message : (key : MasterValue) → length key.master ≡ suite_key_len key.suite
    → master_of key.guid key.suite (key.master ++ key.hmac) ≡ key
master_of-message key whole =
    let master = take_at key.master key.hmac (suite_key_len key.suite) whole in
    let hmac = drop_at key.master key.hmac (suite_key_len key.suite) whole in
    rw (master, hmac) refl

pub opens-record_of : (key : MasterValue) (wrapping iv : List ℕ) → length key.master ≡ suite_key_len key.suite
    → opens (record_of key wrapping iv) wrapping ≡ Some key
unfolding opens record_of
opens-record_of key wrapping iv whole =
    let aad : List ℕ = additional_data key.guid key.suite current_version in
    rw (aead_open-aead_seal key.suite wrapping iv aad (key.master ++ key.hmac)) (ap Some (master_of-message key whole))

-- ---- records by what was sealed or opened

pub record_of-sealed : (key : MasterValue) (guid : ℕ) (suite : Suite) (wrapping iv aad message text mac rest : List ℕ) (n : ℕ)
    → guid ≡ key.guid → suite ≡ key.suite → n ≡ sealed_len suite → aad ≡ additional_data guid suite current_version
    → message ≡ key.master ++ key.hmac ++ replicate (96 - sealed_len key.suite) 0
    → length key.master ≡ suite_key_len key.suite → length key.hmac ≡ 64
    → aead_seal suite wrapping iv aad (take n message) ≡ (text, mac)
    → record { guid = guid; suite = suite; version = current_version; iv = iv; mac = mac; sealed = take (sealed_len suite) (text ++ rest) }
    ≡ record_of key wrapping iv
unfolding record_of
record_of-sealed key guid suite wrapping iv aad message text mac rest n g s width covered is_message master hmac sealed =
    let same : suite_key_len suite ≡ suite_key_len key.suite = ap suite_key_len s in
    let both : List ℕ = key.master ++ key.hmac in
    let whole : length both ≡ n = omega (arith, length-append key.master key.hmac) in
    let front : take n message ≡ both = rw (is_message, take_at both (replicate (96 - sealed_len key.suite) 0) n whole) refl in
    let is : aead_seal key.suite wrapping iv (additional_data key.guid key.suite current_version) both ≡ (text, mac) =
    rw (front, covered, g, s) at sealed in
    let long : length text ≡ length both =
    rw is at (length-aead_seal key.suite wrapping iv (additional_data key.guid key.suite current_version) both) in
    let text_is : take (sealed_len suite) (text ++ rest) ≡ text = take_at text rest (sealed_len suite) (omega arith) in
    rw (text_is, is, g, s) refl

pub opens_good : (r : RecordValue) (wrapping aad sealed text : List ℕ) → aad ≡ additional_data r.guid r.suite r.version → sealed ≡ r.sealed
    → aead_open r.suite wrapping r.iv aad sealed r.mac ≡ Some text
    → opens r wrapping ≡ Some (master_of r.guid r.suite text)
unfolding opens
opens_good r wrapping aad sealed text covered whole is = rw (← covered, ← whole, is) refl

pub opens_bad : (r : RecordValue) (wrapping aad sealed : List ℕ) → aad ≡ additional_data r.guid r.suite r.version → sealed ≡ r.sealed
    → aead_open r.suite wrapping r.iv aad sealed r.mac ≡ None
    → opens r wrapping ≡ None
unfolding opens
opens_bad r wrapping aad sealed covered whole is = rw (← covered, ← whole, is) refl
