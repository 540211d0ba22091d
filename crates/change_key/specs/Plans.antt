-- What a plan of new wrapping keys says.
use Rattle.std.specs.Prelude.{◌≡◌, ℕ, true, List, map, is_some, Result, Ok, Err}
use Rattle.std.specs.declared.option.Option.{Option}
use Rattle.std.specs.declared.option.Option.TheVariants.{Some, None}
use Rattle.std.specs.List.{All}
use Rattle.dataset_tree.specs.declared.refusal.Refusal.{Refusal as Why}
use Rattle.encryption_roots.specs.declared.command.KeyCmd.{KeyCmd}
use Rattle.encryption_roots.specs.declared.kit.LineKit.{LineKit}
use Rattle.encryption_roots.specs.declared.props.Options.{Options}
use Rattle.encryption_roots.specs.ById.{at_id}
use Rattle.encryption_roots.specs.Owners.{family}
use Rattle.key_machine.specs.declared.view.ChangePlan.{ChangePlan}
use Rattle.key_machine.specs.Change.{changed_props, changed_salt, with_own_root}
use Rattle.key_machine.specs.Fair.{families_written}
use Rattle.key_machine.specs.Plain.{Plain, Ciphers, owner_of, owned, has_key, mkey}
use Rattle.key_machine.specs.Plan.{planned}
use Rattle.key_machine.specs.Rekey.{rewrapped}
use Rattle.key_machine.specs.Sound.{OpensAt}
use Rattle.key_machine.specs.Step.{told, target, IsAccepted}
use Rattle.key_machine.specs.Told.{seed_of}
use Rattle.key_ciphers.specs.Calls.{step_by}
use Rattle.change_key.specs.Keys.{new_key_of}
use Rattle.change_key.specs.Records.{opened_in}

-- The present key was had, loaded or fetched for this line, and there is a new key. Under that each
-- record of these opens, and to the master key to which the family's stored record opens under the
-- present key.
pub record KeepsMasters (c : Ciphers) (p : Plain) (present : Result (List ℕ) Why) (new : Option (List ℕ))
    (records : List (ℕ × List ℕ)) : Type 0 where
  pub old : List ℕ
  pub key : List ℕ
  pub had : present ≡ Ok old
  pub given : new ≡ Some key
  pub opens : All (λ entry. is_some (c.opens entry.1 key) ≡ true) records
  pub same : All (λ entry. c.opens entry.1 key ≡ opened_in c p old entry.0) records

-- The command is accepted, and the plan makes its state. The plan is about the command's dataset,
-- and has the records of exactly the families whose records the command writes, in order of id,
-- with their master keys. So each family's master key is what it was, wherever the key of its owner
-- was loaded.
pub record IsPlanOf (c : Ciphers) (p : Plain) (command : KeyCmd) (kit : LineKit) (present : Result (List ℕ) Why)
    (new : Option (List ℕ)) (plan : ChangePlan) : Type 0 where
  pub accepted : IsAccepted p command (told c p command kit)
  pub state : planned p plan ≡ (step_by c p command kit).state
  pub root : target p command ≡ Some plan.root
  pub families : map (λ entry. entry.0) plan.wrapped.items ≡ families_written p command
  pub masters : KeepsMasters c p present new plan.wrapped.items
  pub kept : (dataset : ℕ) → has_key p dataset ≡ true
      → mkey c (planned p plan) (family p.tree.rows dataset) ≡ mkey c p (family p.tree.rows dataset)

-- ---- the parts of a plan

-- the record of each family that the present owner owns opens under this key
abbrev pub OpensPresent : Ciphers → Plain → ℕ → List ℕ → Type 0
OpensPresent c p id old = (at : ℕ) → owner_of p at ≡ owner_of p id → OpensAt c p old at

-- a plan of a change that a kit's key and seed make
pub record IsToldChange (c : Ciphers) (p : Plain) (id : ℕ) (opts : Options) (kit : LineKit) (old : List ℕ)
    (plan : ChangePlan) : Type 0 where
  pub seed : List ℕ
  pub key : List ℕ
  pub had_seed : seed_of kit.seed ≡ Ok seed
  pub had_key : new_key_of c (at_id id p.roots) opts kit ≡ Ok key
  pub root : plan.root ≡ id
  pub props : plan.props ≡ Some (changed_props (at_id id p.roots) opts
      (changed_salt c (at_id id p.roots) opts (Ok seed)))
  pub loaded : plan.key ≡ Some key
  pub records : plan.wrapped.items ≡ rewrapped c seed old key 0 (owned (with_own_root p id opts 0) id)

-- a plan of an inherit that a kit's seed makes
pub record IsToldInherit (c : Ciphers) (p : Plain) (id : ℕ) (kit : LineKit) (old new : List ℕ)
    (plan : ChangePlan) : Type 0 where
  pub seed : List ℕ
  pub had_seed : seed_of kit.seed ≡ Ok seed
  pub root : plan.root ≡ id
  pub props : plan.props ≡ None
  pub loaded : plan.key ≡ None
  pub records : plan.wrapped.items ≡ rewrapped c seed old new 0 (owned p id)
