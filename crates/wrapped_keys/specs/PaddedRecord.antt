-- A key record's sealed text, and the array of 96 bytes in which it stands in front of zeros.
use Rattle.std.specs.Prelude.{◌≡◌, ℕ, ◌-◌, ◌++◌, take, drop, replicate, List}
use Rattle.std.proofs.Common.{ap, sym, ◌∙◌}
use Rattle.std.proofs.lemmas.List.{take-append-drop}
use Rattle.wrapped_keys.specs.Values.{RecordValue, sealed_len, current_version}
use Rattle.wrapped_keys.specs.declared.key_record.KeyRecord.TheInside.{Inside}

abbrev pub record_value : Inside → RecordValue
record_value a =
    record {
      guid = a.guid;
      suite = a.suite;
      version = a.version;
      iv = a.iv;
      mac = a.mac;
      sealed = take (sealed_len a.suite) a.sealed;
    }

-- the version is that of the records that are written, and the array has zeros behind the sealed text
pub record IsPaddedRecord (a : Inside) : Type 0 where
  pub version : a.version ≡ current_version
  pub zeros : drop (sealed_len a.suite) a.sealed ≡ replicate (96 - sealed_len a.suite) 0

abbrev pub padded_record : RecordValue → Inside
padded_record r =
    record {
      guid = r.guid;
      suite = r.suite;
      version = r.version;
      iv = r.iv;
      mac = r.mac;
      sealed = r.sealed ++ replicate (96 - sealed_len r.suite) 0;
    }

-- the array is known from the bytes that count
pub padded_record-value : (a : Inside) → IsPaddedRecord a → padded_record (record_value a) ≡ a
padded_record-value a h =
    let len : ℕ = sealed_len a.suite in
    let whole : take len a.sealed ++ replicate (96 - len) 0 ≡ a.sealed =
    ap (λ (rest : List ℕ). take len a.sealed ++ rest) (sym h.zeros) ∙ take-append-drop len a.sealed in
    ap (λ (sealed : List ℕ). let inside : Inside = record {
      guid = a.guid;
      suite = a.suite;
      version = a.version;
      iv = a.iv;
      mac = a.mac;
      sealed = sealed;
    } in inside) whole
