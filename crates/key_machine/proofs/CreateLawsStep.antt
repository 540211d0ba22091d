-- A create that its state accepts keeps it sound, where what is told is genuine.
use Rattle.std.proofs.Common.{◌≡◌, ⊎_elim, ℕ, ◌+◌, ◌<◌, Bool, true, false, not, cond, ◌&&◌, ◌||◌, nat_le, List, [], ◌∷◌, length, Some, None, is_some, is_none, refl, ap, ◌∙◌, if◌then◌else◌, arith}
use Rattle.std.proofs.lemmas.Bool.{cases_Bool}
use Rattle.std.proofs.lemmas.Bool.Decides.{nat_tests}
use Rattle.std.specs.Prelude.{unwrap_or}
use Rattle.dataset_tree.specs.declared.refusal.Refusal.{Refusal}
use Rattle.dataset_tree.specs.SetName.{parent_name}
use Rattle.dataset_tree.specs.Tree.{row_named, parent_in}
use Rattle.encryption_roots.specs.declared.props.Options.{Options}
use Rattle.encryption_roots.specs.declared.command.KeyCmd.TheVariants as commands
use Rattle.encryption_roots.specs.ById.{at_id}
use Rattle.key_machine.specs.Plain.{Plain, Ciphers, is_encrypted_row}
use Rattle.key_machine.specs.Create.{is_below_encrypted, parent_row, parent_key, has_parent_key, makes_root, makes_heir, makes_encrypted, are_bad_options, are_bad_iterations, create_cases, created}
use Rattle.key_machine.specs.Refusals.{first_of}
use Rattle.key_machine.specs.Step.{refusal_of}
use Rattle.key_machine.specs.Sound.{Sound}
use Rattle.key_machine.specs.Told.{Told}
use Rattle.key_machine.specs.Fair.{IsGenuine}
use Rattle.key_machine.proofs.CreateLawsCases.{created_with, record_opens, plain_keeps, root_keeps, heir_keeps}

-- ---- what the state doesn't refuse

abbrev pub NoneHolds : List (Bool × Refusal) → Type 0
NoneHolds [] = Unit {0}
NoneHolds (case ∷ cases) = (case.0 ≡ false) × NoneHolds cases

pub none_holds : (cases : List (Bool × Refusal)) → first_of cases ≡ None → NoneHolds cases
none_holds [] none = tt
none_holds (case ∷ cases) none =
    ⊎_elim (λ (holds : case.0 ≡ true). absurd (let some : Some case.1 ≡ None = rw holds at none in cc)) (λ (fails : case.0 ≡ false). (fails, none_holds cases (rw fails at none))) (cases_Bool case.0)

pub record IsFree (p : Plain) (name : List ℕ) (opts : Options) : Type 0 where
  pub absent : is_some (row_named name p.tree.rows) ≡ false
  pub parent : is_none (parent_in p.tree.rows (parent_name name)) ≡ false
  pub options : are_bad_options p name opts ≡ false
  pub iterations : are_bad_iterations opts.iters ≡ false
  pub key : (makes_heir p name opts && not (has_parent_key p (parent_row p name))) ≡ false
  pub rows : length p.tree.rows < 256
  pub ids : p.tree.last < 4294967295
  pub families : (makes_encrypted p name opts && nat_le 32 (length p.wrapped)) ≡ false

pub free : (p : Plain) (name : List ℕ) (opts : Options) → refusal_of p (commands.Create name opts) ≡ None → IsFree p name opts
free p name opts accepted =
    let none : NoneHolds (create_cases p name opts) = none_holds (create_cases p name opts) accepted in
    record {
      absent = none.0;
      parent = none.1.0;
      options = none.1.1.0;
      iterations = none.1.1.1.0;
      key = none.1.1.1.1.0;
      rows = below (length p.tree.rows) 256 none.1.1.1.1.1.0;
      ids = below p.tree.last 4294967295 none.1.1.1.1.1.1.0;
      families = none.1.1.1.1.1.1.1.0;
    } where
      below : (n limit : ℕ) → nat_le limit n ≡ false → n < limit
      below n limit test = grind (arith, nat_tests)

module _ (c : Ciphers) (p : Plain) (name : List ℕ) (opts : Options) (told : Told) (sound : Sound c p) (new : is_some (row_named name p.tree.rows) ≡ false)
    (known : is_none (parent_in p.tree.rows (parent_name name)) ≡ false) where
  by_case : (root below : Bool) → (below ≡ true → is_encrypted_row (parent_row p name) ≡ true)
      → ((root || (not root && below)) ≡ true → is_some (c.opens (unwrap_or (at_id (p.tree.last + 1) told.wrapped) []) (if root then told.key else parent_key p (parent_row p name))) ≡ true)
      → Sound c (created_with p name opts told root (root || (not root && below)))
  by_case true below parent opened = root_keeps c p name opts told sound new known (opened refl)
  by_case false true parent opened = heir_keeps c p name opts told sound new known (parent refl) (opened refl)
  by_case false false parent opened = plain_keeps c p name opts told sound new known

  by_free : IsGenuine c p (commands.Create name opts) told → Sound c (created p name opts told)
  by_free genuine = by_case (makes_root opts) (is_below_encrypted p name) (λ below. below)
      (λ encrypted. record_opens c (if makes_root opts then told.key else parent_key p (parent_row p name)) told.wrapped (p.tree.last + 1)
      (genuine.families ∙ ap (λ (b : Bool). cond b ((p.tree.last + 1) ∷ []) []) encrypted) genuine.opened)

pub created_sound : (c : Ciphers) (p : Plain) (name : List ℕ) (opts : Options) (told : Told) → Sound c p → refusal_of p (commands.Create name opts) ≡ None → IsGenuine c p (commands.Create name opts) told
    → Sound c (created p name opts told)
created_sound c p name opts told sound accepted genuine =
    let is : IsFree p name opts = free p name opts accepted in
    by_free c p name opts told sound is.absent is.parent genuine
