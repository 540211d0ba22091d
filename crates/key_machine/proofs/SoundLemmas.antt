-- A host that holds nothing is sound; and a step by its cases.
use Rattle.std.proofs.Common.{◌≡◌, ◌≤◌, Option, Some, None, refl, ap, ◌∙◌, arith, lit≤}
use Rattle.std.proofs.lemmas.List.Elements.{All-nil, All-replicate}
use Rattle.dataset_tree.specs.declared.refusal.Refusal.{Refusal}
use Rattle.encryption_roots.specs.declared.command.KeyCmd.{KeyCmd}
use Rattle.key_machine.specs.Plain.{Plain, Ciphers, no_keys}
use Rattle.key_machine.specs.Reply.{Stepped, refused, unless_refused}
use Rattle.key_machine.specs.Sound.{Sound}
use Rattle.key_machine.specs.Step.{key_step, carried_out, in_use, target, refusal_of, material_refusal, IsAccepted}
use Rattle.key_machine.specs.Told.{Told}

pub no_keys_sound : (c : Ciphers) → Sound c no_keys
no_keys_sound c = record {
  tree = record {
    tree = record {
      rising = (λ i j d before within. absurd (omega arith));
      given = All-nil _;
      origins = All-nil _;
      names = (λ i j d before within. absurd (omega arith));
      parents = All-nil _;
      parents_first = All-nil _;
    };
    owners = λ id encrypted. absurd (let none = encrypted.1 in cc);
    roots = (λ i j d before within. absurd (omega arith));
    roots_encrypted = λ id root. absurd (cc);
    no_clone = λ id row found root. absurd (cc);
    origins = All-nil _;
    records = (λ i j d before within. absurd (omega arith));
    families = λ id. (λ recorded. absurd (cc), λ dataset. absurd (let none : None ≡ Some dataset.1.0 = dataset.1.1 in cc));
  };
  mappings = record { mapped = (λ i j d before within. absurd (omega arith)); encrypted = All-nil _; slots = (λ i j d before within. absurd (omega arith)); keys = All-nil _; mounted = (λ i j d before within. absurd (omega arith)); mounts = All-nil _ };
  keys = record { loaded = (λ i j d before within. absurd (omega arith)); roots = All-nil _; opened = λ root id key found owner. absurd (cc) };
  users = record { one = (λ i j d before within. absurd (omega arith)); mapped = All-nil _; present = All-nil _; few = λ rider. lit≤ tt; riders = All-nil _ };
  slots = record { slots = refl; generations = All-replicate (λ generation. generation ≤ 1073741823) 256 0 (lit≤ tt); mapped = All-nil _ };
}

-- ---- a step is one that the state refuses, one that the material refuses, or one that is carried out

module _ (p : Plain) (command : KeyCmd) (told : Told) where
  abbrev pub done : Stepped
  done = carried_out p command told (in_use p command) (target p command)

  module _ (P : Stepped → Type 0) (carried : IsAccepted p command told → P done) where
    by_material : (why : Option Refusal) → refusal_of p command ≡ None → material_refusal p command told ≡ why → ((r : Refusal) → why ≡ Some r → P (refused p r)) → P (unless_refused p why done)
    by_material None state material refusal = carried (record { state = state; material = material })
    by_material (Some why) state material refusal = refusal why refl

    by_state : (why : Option Refusal) → refusal_of p command ≡ why → ((r : Refusal) → why ≡ Some r → P (refused p r)) → ((r : Refusal) → material_refusal p command told ≡ Some r → P (refused p r))
        → P (unless_refused p why (unless_refused p (material_refusal p command told) done))
    by_state None state refusal material = by_material (material_refusal p command told) state refl material
    by_state (Some why) state refusal material = refusal why refl

    pub by_step : ((r : Refusal) → refusal_of p command ≡ Some r → P (refused p r)) → ((r : Refusal) → material_refusal p command told ≡ Some r → P (refused p r)) → P (key_step p command told)
    by_step refusal material = by_state (refusal_of p command) refl refusal material

  -- an accepted command is carried out
  pub accepted_step : IsAccepted p command told → key_step p command told ≡ done
  accepted_step accepted =
      ap (λ why. unless_refused p why (unless_refused p (material_refusal p command told) done)) accepted.state ∙ ap (λ why. unless_refused p why done) accepted.material

  -- what the state or the material refuses changes nothing
  pub refused_step : (why : Refusal) → refusal_of p command ≡ Some why → key_step p command told ≡ refused p why
  refused_step why state = ap (λ r. unless_refused p r (unless_refused p (material_refusal p command told) done)) state

  pub refused_by_material : (why : Refusal) → refusal_of p command ≡ None → material_refusal p command told ≡ Some why → key_step p command told ≡ refused p why
  refused_by_material why state material =
      ap (λ r. unless_refused p r (unless_refused p (material_refusal p command told) done)) state ∙ ap (λ r. unless_refused p r done) material

-- a step keeps a state sound where it does so if it is accepted
pub step_sound : (c : Ciphers) (p : Plain) (command : KeyCmd) (told : Told) → Sound c p → (IsAccepted p command told → Sound c (done p command told).state) → Sound c (key_step p command told).state
step_sound c p command told s carried = by_step p command told (λ (stepped : Stepped). Sound c stepped.state) carried (λ why state. s) (λ why material. s)
