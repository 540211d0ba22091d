-- What is known of material that has no fault.
use Rattle.std.proofs.Common.{◌≡◌, ℕ, Bool, true, false, cond, ◌==◌, nat_lt, List, [], length, get_or, Option, Some, None, Result, Ok, Err, IsOk, refl, ◌∙◌, subst, arith}
use Rattle.std.proofs.lemmas.Bool.Decides.{nat_tests}
use Rattle.std.proofs.lemmas.List.Sums.{prefix_len_passes}
use Rattle.std.specs.Char.{is_ascii_hexdigit}
use Rattle.std.specs.List.{AllPass, prefix_len}
use Rattle.std.specs.Option.{option_or}
use Rattle.std.specs.Result.{result_unwrap_or}
use Rattle.hex.specs.declared.error.FromHexError.{FromHexError}
use Rattle.hex.specs.Hex.{decode_of, decode_sized, is_hex_digit}
use Rattle.hex.proofs.HexLemmas.{IsOk-decode_sized, decode_sized-twice}
use Rattle.dataset_tree.specs.declared.refusal.Refusal.{Refusal}
use Rattle.key_formats.specs.WrappingKey.{digit_bytes, digit_fault, hex_fault, length_fault}

pub neither : {X : Type 0} (a b : Option X) → option_or a b ≡ None → (a ≡ None) × (b ≡ None)
neither None b none = (refl, none)
neither (Some x) b none = absurd (cc)

no_case : {X : Type 0} (b : Bool) (x : X) (rest : Option X) → cond b (Some x) rest ≡ None → (b ≡ false) × (rest ≡ None)
no_case true x rest none = absurd (cc)
no_case false x rest none = (refl, none)

pub length_is : (size : ℕ) (material : List ℕ) → length_fault size size material ≡ None → length material ≡ size
length_is size material none =
    let first = no_case (nat_lt (length material) size) _ _ none in
    let second = no_case (nat_lt size (length material)) _ _ first.1 in
    let long = first.0 in
    let short = second.0 in
    grind (arith, nat_tests)

is_digit : (c : ℕ) → is_ascii_hexdigit c ≡ true → is_hex_digit c ≡ true
is_digit c digit = grind (arith, nat_tests)

no_fault : (good whole : ℕ) (why : Refusal) → cond (good == whole) None (Some why) ≡ None → good ≡ whole
no_fault good whole why none =
    (elim (good == whole) as (λ b. (good == whole) ≡ b → cond b None (Some why) ≡ None → good ≡ whole) [
      | true ↦ (λ same h. grind (arith, nat_tests))
      | false ↦ (λ other h. absurd (cc))
    ]) refl none

value_of : (decoded : Result (List ℕ) FromHexError) → IsOk decoded → decoded ≡ Ok (result_unwrap_or decoded [])
value_of (Ok bytes) h = refl
value_of (Err e) h = absurd (cc h)

-- digits without a fault spell 32 bytes
pub decodes : (digits : List ℕ) → hex_fault digits ≡ None → decode_sized digits 32 ≡ Ok (digit_bytes digits)
decodes digits none =
    let parts = neither (length_fault 64 64 digits) (digit_fault digits) none in
    let long : length digits ≡ 64 = length_is 64 digits parts.0 in
    let whole : prefix_len is_ascii_hexdigit digits ≡ length digits = no_fault (prefix_len is_ascii_hexdigit digits) (length digits) _ parts.1 in
    let all : AllPass is_hex_digit digits = λ k d within. is_digit (get_or digits k d) (prefix_len_passes is_ascii_hexdigit digits k d (omega arith)) in
    let good : IsOk (decode_sized digits 32) = (IsOk-decode_sized digits 32).1 (omega arith, all) in
    let same : decode_sized digits 32 ≡ decode_of digits = decode_sized-twice digits 32 (omega arith) in
    same ∙ value_of (decode_of digits) (subst (λ (r : Result (List ℕ) FromHexError). IsOk r) same good)
