-- A told key has 32 bytes.
use Rattle.std.proofs.Common.{◌≡◌, ℕ, Bool, true, false, List, length, Option, Some, None, Result, Ok, Err, refl, if◌then◌else◌}
use Rattle.dataset_tree.specs.declared.kinds.Format.{Format}
use Rattle.dataset_tree.specs.declared.refusal.Refusal.{Refusal}
use Rattle.encryption_roots.specs.declared.command.KeyCmd.{KeyCmd}
use Rattle.encryption_roots.specs.declared.command.KeyCmd.TheVariants as commands
use Rattle.encryption_roots.specs.declared.kit.Fetched.{Fetched}
use Rattle.encryption_roots.specs.declared.kit.Fetched.TheVariants as fetched
use Rattle.encryption_roots.specs.declared.kit.LineKit.{LineKit}
use Rattle.encryption_roots.specs.declared.props.Options.{Options}
use Rattle.encryption_roots.specs.declared.props.Props.{Props}
use Rattle.encryption_roots.specs.ById.{at_id}
use Rattle.key_machine.specs.Change.{changed_format, changed_iters, changed_salt, told_change, told_changed}
use Rattle.key_machine.specs.Create.{makes_root, makes_encrypted, create_key, told_encrypted, new_format, new_iters, new_salt, parent_key, parent_row}
use Rattle.key_machine.specs.Fair.{AreSound}
use Rattle.key_machine.specs.Inherit.{key_above, told_inherit, told_inherited}
use Rattle.key_machine.specs.Load.{told_load, told_load_of, told_load_with}
use Rattle.key_machine.specs.Plain.{Plain, Ciphers}
use Rattle.key_machine.specs.Rekey.{old_key, old_wrong, told_anew}
use Rattle.key_machine.specs.Step.{told}
use Rattle.key_machine.specs.Told.{Told, no_key, nothing_told, key_of, seed_of}

module _ (c : Ciphers) (are : AreSound c) where
  fetched_len : (format : Format) (iters salt : ℕ) (got : Fetched) (key : List ℕ) → key_of c format iters salt got ≡ Ok key → length key ≡ 32
  fetched_len format iters salt (fetched.Got material) key had = are.keys format material iters salt key had
  fetched_len format iters salt fetched.Missing key had = absurd (cc)
  fetched_len format iters salt fetched.Fault key had = absurd (cc)
  fetched_len format iters salt fetched.NotAsked key had = absurd (cc)

  module _ (p : Plain) (name : List ℕ) (opts : Options) (kit : LineKit) where
    by_root : (root : Bool) (key : List ℕ)
        → (if root then key_of c (new_format opts) (new_iters opts) (new_salt c opts (seed_of kit.seed)) kit.new_key else Ok (parent_key p (parent_row p name))) ≡ Ok key
        → length (if root then key else no_key) ≡ 32
    by_root true key had = fetched_len (new_format opts) (new_iters opts) (new_salt c opts (seed_of kit.seed)) kit.new_key key had
    by_root false key had = refl

    encrypted_len : (key seed : Result (List ℕ) Refusal) → create_key c p name opts kit ≡ key → length (told_encrypted c p name opts key seed).key ≡ 32
    encrypted_len (Err why) seed had = refl
    encrypted_len (Ok key) (Err why) had = refl
    encrypted_len (Ok key) (Ok seed) had = by_root (makes_root opts) key had

    create_len : (encrypted : Bool) → length (if encrypted then told_encrypted c p name opts (create_key c p name opts kit) (seed_of kit.seed) else nothing_told).key ≡ 32
    create_len true = encrypted_len (create_key c p name opts kit) (seed_of kit.seed) refl
    create_len false = refl

  load_with_len : (p : Plain) (root : ℕ) (props : Props) (got : Fetched) (key : Result (List ℕ) Refusal) → key_of c props.format props.iters props.salt got ≡ key → length (told_load_with c p root key).key ≡ 32
  load_with_len p root props got (Ok key) had = fetched_len props.format props.iters props.salt got key had
  load_with_len p root props got (Err why) had = refl

  load_of_len : (p : Plain) (kit : LineKit) (root : ℕ) (found : Option Props) → length (told_load_of c p kit root found).key ≡ 32
  load_of_len p kit root None = refl
  load_of_len p kit root (Some props) = load_with_len p root props kit.new_key (key_of c props.format props.iters props.salt kit.new_key) refl

  load_len : (p : Plain) (kit : LineKit) (found : Option ℕ) → length (told_load c p kit found).key ≡ 32
  load_len p kit None = refl
  load_len p kit (Some root) = load_of_len p kit root (at_id root p.roots)

  anew_len : (wrong : List ℕ → Option ℕ) (tells : (old new seed : List ℕ) → Told) (old new seed : Result (List ℕ) Refusal)
      → ((o n k : List ℕ) → new ≡ Ok n → length (tells o n k).key ≡ 32) → length (told_anew wrong tells old new seed).key ≡ 32
  anew_len wrong tells (Err why) new seed each = refl
  anew_len wrong tells (Ok old) (Err why) seed each = refl
  anew_len wrong tells (Ok old) (Ok new) (Err why) each = refl
  anew_len wrong tells (Ok old) (Ok new) (Ok seed) each = each old new seed refl

  change_len : (p : Plain) (opts : Options) (load_first : Bool) (kit : LineKit) (found : Option ℕ) → length (told_change c p opts load_first kit found).key ≡ 32
  change_len p opts load_first kit None = refl
  change_len p opts load_first kit (Some id) =
      let format : Format = changed_format (at_id id p.roots) opts in
      let iters : ℕ = changed_iters (at_id id p.roots) opts in
      let salt : ℕ = changed_salt c (at_id id p.roots) opts (seed_of kit.seed) in
      anew_len (old_wrong c p id load_first) (told_changed c p id opts load_first) (old_key c p id load_first kit.old_key) (key_of c format iters salt kit.new_key) (seed_of kit.seed)
      (λ o n k had. fetched_len format iters salt kit.new_key n had)

  inherit_len : (p : Plain) (load_first : Bool) (kit : LineKit) (found : Option ℕ) → length (told_inherit c p load_first kit found).key ≡ 32
  inherit_len p load_first kit None = refl
  inherit_len p load_first kit (Some id) =
      anew_len (old_wrong c p id load_first) (told_inherited c p id load_first) (old_key c p id load_first kit.old_key) (Ok (key_above p id)) (seed_of kit.seed) (λ o n k had. refl)

  pub told_len : (p : Plain) (command : KeyCmd) (kit : LineKit) → length (told c p command kit).key ≡ 32
  told_len p (commands.Create name opts) kit = create_len p name opts kit (makes_encrypted p name opts)
  told_len p (commands.Load name check_only place) kit = load_len p kit _
  told_len p (commands.Unload name) kit = refl
  told_len p (commands.Change name opts load_first) kit = change_len p opts load_first kit _
  told_len p (commands.Inherit name load_first) kit = inherit_len p load_first kit _
  told_len p (commands.Mount name) kit = refl
  told_len p (commands.Unmount name) kit = refl
  told_len p (commands.Get name prop) kit = refl
  told_len p (commands.Clone from name) kit = refl
  told_len p (commands.Receive name props wrapped block) kit = refl
  told_len p (commands.Destroy name snaps) kit = refl
