-- A fault of fetched material is none of the seed.
use Rattle.std.proofs.Common.{◌≡◌, ℕ, Bool, true, false, cond, ◌==◌, ◌||◌, nat_lt, List, length, Option, Some, None, Result, Ok, Err, refl, ap, sym, subst}
use Rattle.std.specs.Option.{option_or}
use Rattle.std.specs.List.{prefix_len}
use Rattle.std.specs.Char.{is_ascii_hexdigit}
use Rattle.dataset_tree.specs.declared.kinds.Format.{Format}
use Rattle.dataset_tree.specs.declared.kinds.Format.TheVariants.{Raw, Hex, Passphrase}
use Rattle.dataset_tree.specs.declared.refusal.MaterialFault.TheVariants.{Short, Long, Hex as NoDigit}
use Rattle.dataset_tree.specs.declared.refusal.Refusal.{Refusal}
use Rattle.dataset_tree.specs.declared.refusal.Refusal.TheVariants.{BadMaterial, BadIters, KeyFileMissing, KeyFault, EntropyFault}
use Rattle.dataset_tree.specs.Refusal.{number_of}
use Rattle.encryption_roots.specs.declared.kit.Fetched.{Fetched}
use Rattle.encryption_roots.specs.declared.kit.Fetched.TheVariants as fetches
use Rattle.encryption_roots.specs.declared.props.Props.{Props}
use Rattle.key_formats.specs.WrappingKey.{material_fault, material_key, unless_faulty, without_line_feed, length_fault, digit_fault, hex_fault, passphrase_fault, wkey}
use Rattle.key_machine.specs.Told.{key_of}
use Rattle.key_ciphers.specs.Ciphers.{ciphers}
use Rattle.change_key.proofs.InheritLemmas.{IsApart}

-- where there is a refusal, it is none of the seed
abbrev AllApart : Option Refusal → Type 0
AllApart None = Unit {0}
AllApart (Some why) = IsApart why

by_length : (a b : Bool) → AllApart (cond a (Some (BadMaterial Short)) (cond b (Some (BadMaterial Long)) None))
by_length true b = refl
by_length false true = refl
by_length false false = tt

length_apart : (least most : ℕ) (material : List ℕ) → AllApart (length_fault least most material)
length_apart least most material = by_length (nat_lt (length material) least) (nat_lt most (length material))

by_digit : (good : ℕ) (b : Bool) → AllApart (cond b None (Some (BadMaterial (NoDigit good))))
by_digit good true = tt
by_digit good false = refl

digit_apart : (digits : List ℕ) → AllApart (digit_fault digits)
digit_apart digits = by_digit (prefix_len is_ascii_hexdigit digits) (prefix_len is_ascii_hexdigit digits == length digits)

either_apart : (first second : Option Refusal) → AllApart first → AllApart second → AllApart (option_or first second)
either_apart None second one other = other
either_apart (Some why) second one other = one

by_iters : (b : Bool) (rest : Option Refusal) → AllApart rest → AllApart (cond b (Some BadIters) rest)
by_iters true rest apart = refl
by_iters false rest apart = apart

material_apart : (format : Format) (material : List ℕ) (iters : ℕ) → AllApart (material_fault format material iters)
material_apart Raw material iters = length_apart 32 32 material
material_apart Hex material iters = either_apart (length_fault 64 64 (without_line_feed material)) (digit_fault (without_line_feed material)) (length_apart 64 64 (without_line_feed material)) (digit_apart (without_line_feed material))
material_apart Passphrase material iters = by_iters (nat_lt iters 100000 || nat_lt 10000000 iters) (length_fault 8 512 (without_line_feed material)) (length_apart 8 512 (without_line_feed material))

by_fault : (fault : Option Refusal) (key : List ℕ) (why : Refusal) → AllApart fault → unless_faulty fault key ≡ Err why → IsApart why
by_fault None key why apart failed = absurd (cc)
by_fault (Some first) key why apart failed = let same : first ≡ why = cc in subst IsApart same apart

pub fetched_apart : (fetched : Fetched) (props : Props) (why : Refusal) → key_of ciphers props.format props.iters props.salt fetched ≡ Err why → IsApart why
fetched_apart (fetches.Got material) props why failed = by_fault (material_fault props.format material props.iters) (material_key props.format material props.iters props.salt) why (material_apart props.format material props.iters) failed
fetched_apart fetches.Missing props why failed = let same : KeyFileMissing ≡ why = cc in subst IsApart same refl
fetched_apart fetches.Fault props why failed = let same : KeyFault ≡ why = cc in subst IsApart same refl
fetched_apart fetches.NotAsked props why failed = let same : KeyFault ≡ why = cc in subst IsApart same refl
