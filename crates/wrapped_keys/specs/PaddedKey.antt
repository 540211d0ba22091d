-- A master key's bytes, and the array of 32 bytes in which they stand in front of zeros.
use Rattle.std.specs.Prelude.{◌≡◌, ℕ, ◌-◌, ◌++◌, take, drop, replicate, List}
use Rattle.std.proofs.Common.{ap, sym, ◌∙◌}
use Rattle.std.proofs.lemmas.List.{take-append-drop}
use Rattle.dataset_tree.specs.Suite.{suite_key_len}
use Rattle.wrapped_keys.specs.Values.{MasterValue}
use Rattle.wrapped_keys.specs.declared.master_key.MasterKey.TheInside.{Inside}

abbrev pub key_value : Inside → MasterValue
key_value a =
    record { guid = a.guid; suite = a.suite; master = take (suite_key_len a.suite) a.master; hmac = a.hmac }

-- the array has zeros behind the bytes of the suite's keys
pub record IsPaddedKey (a : Inside) : Type 0 where
  pub zeros : drop (suite_key_len a.suite) a.master ≡ replicate (32 - suite_key_len a.suite) 0

abbrev pub padded_key : MasterValue → Inside
padded_key m =
    record {
      guid = m.guid;
      suite = m.suite;
      master = m.master ++ replicate (32 - suite_key_len m.suite) 0;
      hmac = m.hmac;
    }

-- the array is known from the bytes that count
pub padded_key-value : (a : Inside) → IsPaddedKey a → padded_key (key_value a) ≡ a
padded_key-value a h =
    let key_len : ℕ = suite_key_len a.suite in
    let whole : take key_len a.master ++ replicate (32 - key_len) 0 ≡ a.master =
    ap (λ (rest : List ℕ). take key_len a.master ++ rest) (sym h.zeros) ∙ take-append-drop key_len a.master in
    ap (λ (master : List ℕ). let inside : Inside = record {
      guid = a.guid;
      suite = a.suite;
      master = master;
      hmac = a.hmac;
    } in inside) whole
