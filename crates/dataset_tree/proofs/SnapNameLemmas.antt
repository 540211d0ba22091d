-- A snapshot's name around its first `@`.
use Rattle.std.proofs.Common.{◌≡◌, ℕ, ◌+◌, ◌<◌, Bool, false, not, ◌==◌, List, ◌∷◌, ◌++◌, length, get_or, take, drop, Option, Some, None, Ok, Err, refl, sym, ap, ◌∙◌, arith, add-one}
use Rattle.std.proofs.Math.Seq.{drop-cons}
use Rattle.std.proofs.lemmas.List.{take-append-drop}
use Rattle.std.proofs.lemmas.List.Sums.{prefix_len_stops}
use Rattle.std.proofs.lemmas.Bool.Decides.{nat_tests}
use Rattle.std.specs.List.{prefix_len}
use Rattle.dataset_tree.specs.declared.refusal.Refusal.TheVariants.{BadName}
use Rattle.dataset_tree.specs.SetName.{named, named_unless, name_fault}
use Rattle.dataset_tree.specs.ShortNames.{part_fault, part_named}
use Rattle.dataset_tree.specs.SnapName.{at_sign, part_named_at, snap_of, snap_named}

-- the text that a name was read from is the name
unless : (text name : List ℕ) (fault : Option ℕ) → named_unless text fault ≡ Ok name → (fault ≡ None) × (name ≡ text)
unless text name None named = (refl, let same : name ≡ text = cc in same)
unless text name (Some at) named = absurd (cc)

before_sign : ℕ → Bool
before_sign b = not (b == at_sign)

sign_of : (b : ℕ) → not (b == at_sign) ≡ false → b ≡ at_sign
sign_of b is = grind (arith, nat_tests)

module _ (text set : List ℕ) (sign : ℕ) (at : sign ≡ prefix_len (λ b. not (b == at_sign)) text) (within : sign < length text) (set_is : named (take sign text) ≡ Ok set) where
  parted : drop sign text ≡ get_or text sign 0 ∷ drop (sign + 1) text
  parted = rw (add-one) (drop-cons text sign 0 within)

  pub snap_named-faulty : (fault : ℕ) → part_fault (drop (sign + 1) text) ≡ Some fault → snap_named text ≡ Err (BadName (sign + 1 + fault))
  snap_named-faulty fault is = rw (sym at, set_is, parted) (ap (λ found. snap_of (Ok set) (part_named_at (sign + 1) (drop (sign + 1) text) found)) is)

  pub snap_named-whole : (snap : List ℕ) → part_named (drop (sign + 1) text) ≡ Ok snap → snap_named text ≡ Ok (record { set = set; snap = snap })
  snap_named-whole snap is =
      let part = unless (drop (sign + 1) text) snap (part_fault (drop (sign + 1) text)) is in
      rw (sym at, set_is, parted, part.1) (ap (λ found. snap_of (Ok set) (part_named_at (sign + 1) (drop (sign + 1) text) found)) part.0)

  pub snap_named-spelled : (snap : List ℕ) → part_named (drop (sign + 1) text) ≡ Ok snap → set ++ at_sign ∷ snap ≡ text
  snap_named-spelled snap is =
      let front = unless (take sign text) set (name_fault (take sign text)) set_is in
      let part = unless (drop (sign + 1) text) snap (part_fault (drop (sign + 1) text)) is in
      let stops : not (get_or text sign 0 == at_sign) ≡ false =
      rw (sym at) at (prefix_len_stops (λ b. not (b == at_sign)) text 0 (rw at at within)) in
      let there : get_or text sign 0 ≡ at_sign = sign_of (get_or text sign 0) stops in
      rw (front.1, part.1, sym there) (ap (λ rest. take sign text ++ rest) (sym parted) ∙ take-append-drop sign text)
