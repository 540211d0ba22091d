-- A path is ASCII.
use Rattle.std.proofs.Common.{◌≡◌, ℕ, ◌<◌, true, List, [], ◌∷◌, arith}
use Rattle.std.proofs.lemmas.Bool.Decides.{nat_tests}
use Rattle.std.proofs.lemmas.List.Elements.{All-from_recursion}
use Rattle.std.proofs.lemmas.Str.{IsUtf8-from_ascii}
use Rattle.std.proofs.lemmas.Str.Ascii.{IsAscii-from_all}
use Rattle.std.specs.List.{AllByRecursion, list_all}
use Rattle.std.specs.Str.{IsUtf8}
use Rattle.encryption_roots.specs.Printable.{stands_in_word}
use Rattle.encryption_roots.specs.PathText.{is_path}

ascii_below_128 : (text : List ℕ) → list_all stands_in_word text ≡ true → AllByRecursion (λ b. b < 128) text
ascii_below_128 [] all = tt
ascii_below_128 (b ∷ bs) all =
    let rest = ascii_below_128 bs in
    grind (arith, nat_tests)

pub path_is_utf8 : (text : List ℕ) → is_path text ≡ true → IsUtf8 text
path_is_utf8 text path =
    let all : list_all stands_in_word text ≡ true = grind (arith, nat_tests) in
    IsUtf8-from_ascii text (IsAscii-from_all text (All-from_recursion (λ b. b < 128) text (ascii_below_128 text all)))
