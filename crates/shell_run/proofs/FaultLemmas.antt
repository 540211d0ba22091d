-- The refusals for a fetch and for a seed that failed come of the kit alone.
use Rattle.std.proofs.Common.{◌≡◌, ◌≢◌, ◌⊎◌, ⊎_elim, inl, inr, ℕ, ◌≤◌, Bool, true, false, ◌||◌, ◌==◌, List, [], ◌∷◌, length, nat_lt, Option, Some, None, Result, Ok, Err, is_some, refl, ap, sym, ◌∙◌, arith}
use Rattle.std.proofs.lemmas.Bool.{cases_Bool}
use Rattle.std.specs.Prelude.{unwrap_or, if◌then◌else◌}
use Rattle.std.specs.List.{AllByRecursion}
use Rattle.std.specs.Char.{is_ascii_hexdigit}
use Rattle.std.specs.List.{prefix_len}
use Rattle.std.specs.Option.{option_and_then, option_map, option_or}
use Rattle.dataset_tree.specs.declared.kinds.Format.{Format}
use Rattle.dataset_tree.specs.declared.kinds.Format.TheVariants.{Raw, Hex, Passphrase}
use Rattle.dataset_tree.specs.declared.refusal.Refusal.{Refusal}
use Rattle.dataset_tree.specs.declared.refusal.Refusal.TheVariants.{KeyFault, EntropyFault, KeyFileMissing, KeyUnavailable, WrongKey, BadIters, BadMaterial, Busy, Full, NoSuch}
use Rattle.dataset_tree.specs.declared.refusal.MaterialFault.TheVariants.{Short, Long, Hex as NoDigit}
use Rattle.dataset_tree.specs.Refusal.{number_of, Gives}
use Rattle.encryption_roots.specs.declared.props.Options.{Options}
use Rattle.encryption_roots.specs.declared.props.Props.{Props}
use Rattle.encryption_roots.specs.declared.props.Location.{Location}
use Rattle.encryption_roots.specs.declared.props.Location.TheVariants.{Prompt}
use Rattle.encryption_roots.specs.declared.kit.Fetched.{Fetched}
use Rattle.encryption_roots.specs.declared.kit.Fetched.TheVariants as fetches
use Rattle.encryption_roots.specs.declared.kit.SeedGot.{SeedGot}
use Rattle.encryption_roots.specs.declared.kit.SeedGot.TheVariants as seeds
use Rattle.encryption_roots.specs.declared.kit.LineKit.{LineKit}
use Rattle.encryption_roots.specs.declared.command.KeyCmd.{KeyCmd}
use Rattle.encryption_roots.specs.declared.command.KeyCmd.TheVariants as commands
use Rattle.encryption_roots.specs.ById.{at_id}
use Rattle.dataset_tree.specs.declared.tree.Row.{Row}
use Rattle.dataset_tree.specs.Tree.{id_named, row_named}
use Rattle.key_ciphers.specs.Ciphers.{ciphers}
use Rattle.key_formats.specs.WrappingKey.{length_fault, material_fault, material_key, unless_faulty, without_line_feed, wkey}
use Rattle.key_machine.specs.Change.{change_cases, changed_format, changed_iters, changed_salt, told_changed, told_change}
use Rattle.key_machine.specs.Create.{has_parent_key, makes_root, makes_encrypted, parent_row, parent_key, create_cases, create_key, told_encrypted, new_format, new_iters, new_salt}
use Rattle.key_machine.specs.Fair.{WasAsked, SeedWasAsked, Suffices}
use Rattle.key_machine.specs.Get.{get_cases}
use Rattle.key_machine.specs.Inherit.{inherit_cases, key_above, row_above, told_inherit, told_inherited, unless_seed}
use Rattle.key_machine.specs.Limits.{slot_count}
use Rattle.key_machine.specs.Load.{load_cases, told_load, told_load_of, told_load_with}
use Rattle.key_machine.specs.Mount.{free_slot, mount_cases, mount_done, mounted_at, mounted_on}
use Rattle.key_machine.specs.Plain.{Plain}
use Rattle.key_machine.specs.Refusals.{first_of, first_refusal}
use Rattle.key_machine.specs.Rekey.{fetched_old, fetches_old, old_key, old_place, old_wrong, present_key, present_props, told_anew}
use Rattle.key_machine.specs.Reply.{Reply, Refused, Stepped, unless_refused}
use Rattle.key_machine.specs.Step.{refusal_of, wanted, told, material_refusal, target, carried_out, in_use, key_step}
use Rattle.key_machine.specs.Told.{Told, nothing_told, key_of, seed_of}
use Rattle.key_machine.specs.Unload.{InUse, unload_cases, unloaded}
use Rattle.key_machine.specs.Unmount.{unmount_cases}
use Rattle.key_store.specs.declared.needs.Needs.{Needs}
use Rattle.key_store.specs.Calls.{stepped, needs_of, needed, needed_unless}
use Rattle.dataset_tree.specs.declared.refusal.Stop.{Stop}
use Rattle.dataset_tree.specs.declared.refusal.Stop.TheVariants as stops
use Rattle.edge_io.specs.Faults.{Rose}
use Rattle.shell_run.specs.declared.command.Shown.{Shown}
use Rattle.shell_run.specs.Answers.{HasWanted, IsOfLine, Replies, settled}
use Rattle.host_state.specs.Hosts.{HostState, host_step, reaped_behind}

-- a refusal for a taking that failed, by its number
pub record IsTaking (why : Refusal) : Type 0 where
  pub low : 12 ≤ number_of why
  pub high : number_of why ≤ 13

apart : (other why : Refusal) (n : ℕ) → number_of other ≡ n → (n ≤ 11) ⊎ (14 ≤ n) → IsTaking why → other ≢ why
apart other why n named range taking same =
    let number : number_of other ≡ number_of why = ap number_of same in
    ⊎_elim (λ below. omega (arith, named, number, taking.low, below)) (λ above. omega (arith, named, number, taking.high, above)) range

-- ---- what the state refuses

not_first : (why : Refusal) (cases : List (Bool × Refusal)) → AllByRecursion (λ case. case.1 ≢ why) cases → first_of cases ≡ Some why → ⊥
not_first why [] all found = cc
not_first why (case ∷ cases) all found =
    ⊎_elim (λ (holds : case.0 ≡ true). all.0 (let here : Some case.1 ≡ Some why = rw holds at found in cc)) (λ (fails : case.0 ≡ false). not_first why cases all.1 (rw fails at found)) (cases_Bool case.0)

-- the fetch of one of the keys failed and the refusal says so, or the seed did
abbrev pub Failed : Refusal → LineKit → Type 0
Failed why kit = (((kit.old_key ≡ fetches.Fault) ⊎ (kit.new_key ≡ fetches.Fault)) × (why ≡ KeyFault)) ⊎ ((kit.seed ≡ seeds.Fault) × (why ≡ EntropyFault))

by_old : (why : Refusal) (kit : LineKit) → (kit.old_key ≡ fetches.Fault) × (why ≡ KeyFault) → Failed why kit
by_old why kit failed = inl (inl failed.0, failed.1)

by_new : (why : Refusal) (kit : LineKit) → (kit.new_key ≡ fetches.Fault) × (why ≡ KeyFault) → Failed why kit
by_new why kit failed = inl (inr failed.0, failed.1)

module _ (why : Refusal) (taking : IsTaking why) where
  low : (other : Refusal) → number_of other ≤ 11 → other ≢ why
  low other below = apart other why (number_of other) refl (inl below) taking

  high : (other : Refusal) → 14 ≤ number_of other → other ≢ why
  high other above = apart other why (number_of other) refl (inr above) taking

  state_apart : (p : Plain) (command : KeyCmd) → IsOfLine command → refusal_of p command ≡ Some why → ⊥
  state_apart p (commands.Create name opts) of_line found =
      not_first why (create_cases p name opts)
      (low _ (omega arith), (low _ (omega arith), (high _ (omega arith), (high _ (omega arith), (low _ (omega arith), (high _ (omega arith), (high _ (omega arith), (high _ (omega arith), tt)))))))) found
  state_apart p (commands.Load name check_only place) of_line found =
      not_first why (load_cases p name check_only) (low _ (omega arith), (low _ (omega arith), (low _ (omega arith), (low _ (omega arith), tt)))) found
  state_apart p (commands.Unload name) of_line found = not_first why (unload_cases p name) (low _ (omega arith), (low _ (omega arith), (low _ (omega arith), (low _ (omega arith), tt)))) found
  state_apart p (commands.Get name prop) of_line found = not_first why (get_cases p name) (low _ (omega arith), tt) found
  state_apart p (commands.Change name opts load_first) of_line found =
      not_first why (change_cases p name opts load_first)
      (low _ (omega arith), (low _ (omega arith), (high _ (omega arith), (high _ (omega arith), (high _ (omega arith), (low _ (omega arith), tt)))))) found
  state_apart p (commands.Inherit name load_first) of_line found =
      not_first why (inherit_cases p name load_first)
      (low _ (omega arith), (low _ (omega arith), (high _ (omega arith), (low _ (omega arith), (high _ (omega arith), (low _ (omega arith), (low _ (omega arith), tt))))))) found
  state_apart p (commands.Mount name) of_line found =
      not_first why (mount_cases p name) (low _ (omega arith), (low _ (omega arith), (high _ (omega arith), (low _ (omega arith), (high _ (omega arith), tt))))) found
  state_apart p (commands.Unmount name) of_line found = not_first why (unmount_cases p name) (low _ (omega arith), (low _ (omega arith), (high _ (omega arith), tt))) found
  state_apart p (commands.Clone from name) of_line found = absurd of_line
  state_apart p (commands.Receive name props wrapped block) of_line found = absurd of_line
  state_apart p (commands.Destroy name snaps) of_line found = absurd of_line

  -- ---- what an accepted command answers

  no_such_apart : Refused NoSuch ≡ Refused why → ⊥
  no_such_apart refused = low NoSuch (omega arith) (cc)

  unloaded_apart : (p : Plain) (root : ℕ) (busy : Option InUse) → (unloaded p root busy).reply ≡ Refused why → ⊥
  unloaded_apart p root None refused = cc
  unloaded_apart p root (Some busy) refused = high (Busy busy.dataset busy.count) (omega arith) (cc)

  mounted_on_apart : (p : Plain) (id : ℕ) (free : Option ℕ) → (mounted_on p id free).reply ≡ Refused why → ⊥
  mounted_on_apart p id None refused = high (Full slot_count) (omega arith) (cc)
  mounted_on_apart p id (Some slot) refused = cc

  mounted_at_apart : (p : Plain) (id : ℕ) (slot : Option ℕ) → (mounted_at p id slot).reply ≡ Refused why → ⊥
  mounted_at_apart p id None refused = mounted_on_apart p id (free_slot p) refused
  mounted_at_apart p id (Some slot) refused = cc

  mounted_apart : (p : Plain) (at : Option ℕ) → (mount_done p at).reply ≡ Refused why → ⊥
  mounted_apart p None refused = no_such_apart refused
  mounted_apart p (Some id) refused = mounted_at_apart p id (at_id id p.mapped) refused

  carried_apart : (p : Plain) (command : KeyCmd) → IsOfLine command → (facts : Told) (busy : Option InUse) (at : Option ℕ) → (carried_out p command facts busy at).reply ≡ Refused why → ⊥
  carried_apart p (commands.Create name opts) of_line facts busy at refused = cc
  carried_apart p (commands.Load name check_only place) of_line facts busy None refused = no_such_apart refused
  carried_apart p (commands.Load name check_only place) of_line facts busy (Some root) refused = cc
  carried_apart p (commands.Unload name) of_line facts busy None refused = no_such_apart refused
  carried_apart p (commands.Unload name) of_line facts busy (Some root) refused = unloaded_apart p root busy refused
  carried_apart p (commands.Get name prop) of_line facts busy None refused = no_such_apart refused
  carried_apart p (commands.Get name prop) of_line facts busy (Some id) refused = cc
  carried_apart p (commands.Change name opts load_first) of_line facts busy None refused = no_such_apart refused
  carried_apart p (commands.Change name opts load_first) of_line facts busy (Some id) refused = cc
  carried_apart p (commands.Inherit name load_first) of_line facts busy None refused = no_such_apart refused
  carried_apart p (commands.Inherit name load_first) of_line facts busy (Some id) refused = cc
  carried_apart p (commands.Mount name) of_line facts busy at refused = mounted_apart p at refused
  carried_apart p (commands.Unmount name) of_line facts busy None refused = no_such_apart refused
  carried_apart p (commands.Unmount name) of_line facts busy (Some id) refused = cc
  carried_apart p (commands.Clone from name) of_line facts busy at refused = absurd of_line
  carried_apart p (commands.Receive name props wrapped block) of_line facts busy at refused = absurd of_line
  carried_apart p (commands.Destroy name snaps) of_line facts busy at refused = absurd of_line

  refused_by_either : (p : Plain) (refusal : Option Refusal) (done : Stepped) → (unless_refused p refusal done).reply ≡ Refused why → (refusal ≡ Some why) ⊎ (done.reply ≡ Refused why)
  refused_by_either p None done refused = inr refused
  refused_by_either p (Some first) done refused = inl (cc)

  load_material_is : (fault : Option Refusal) (wrong : Option ℕ) → first_refusal (fault ∷ option_map (λ dataset. WrongKey dataset) wrong ∷ []) ≡ Some why → fault ≡ Some why
  load_material_is (Some first) wrong found = found
  load_material_is None (Some dataset) found = absurd (low (WrongKey dataset) (omega arith) (cc))
  load_material_is None None found = absurd (cc)

  create_material_is : (fault : Option Refusal) → first_refusal (fault ∷ []) ≡ Some why → fault ≡ Some why
  create_material_is (Some first) found = found
  create_material_is None found = absurd (cc)

  change_material_is : (fault : Option Refusal) (wrong : Option ℕ) → first_refusal (option_map (λ dataset. WrongKey dataset) wrong ∷ fault ∷ []) ≡ Some why → fault ≡ Some why
  change_material_is fault (Some dataset) found = absurd (low (WrongKey dataset) (omega arith) (cc))
  change_material_is fault None found = create_material_is fault found

  -- behind a fault of the old key
  inherit_later_is : (fault : Option Refusal) (wrong : Option ℕ) (has_above : Bool)
      → first_refusal (option_map (λ dataset. WrongKey dataset) wrong ∷ (if has_above then None else Some KeyUnavailable) ∷ fault ∷ []) ≡ Some why → fault ≡ Some why
  inherit_later_is fault (Some dataset) has_above found = absurd (low (WrongKey dataset) (omega arith) (cc))
  inherit_later_is fault None true found = create_material_is fault found
  inherit_later_is fault None false found = absurd (low KeyUnavailable (omega arith) (cc))

  inherit_material_is : (fault : Option Refusal) (wrong : Option ℕ) (has_above : Bool)
      → first_refusal (option_and_then unless_seed fault ∷ option_map (λ dataset. WrongKey dataset) wrong ∷ (if has_above then None else Some KeyUnavailable) ∷ fault ∷ []) ≡ Some why → fault ≡ Some why
  inherit_material_is None wrong has_above found = inherit_later_is None wrong has_above found
  inherit_material_is (Some first) wrong has_above found = by_seed (number_of first == number_of EntropyFault) found where
    by_seed : (b : Bool)
        → first_refusal ((if b then None else Some first) ∷ option_map (λ dataset. WrongKey dataset) wrong ∷ (if has_above then None else Some KeyUnavailable) ∷ Some first ∷ []) ≡ Some why
        → Some first ≡ Some why
    by_seed true found = inherit_later_is (Some first) wrong has_above found
    by_seed false found = found

  material_is : (p : Plain) (command : KeyCmd) → IsOfLine command → (facts : Told) → material_refusal p command facts ≡ Some why → facts.fault ≡ Some why
  material_is p (commands.Create name opts) of_line facts found = create_material_is facts.fault found
  material_is p (commands.Load name check_only place) of_line facts found = load_material_is facts.fault facts.wrong found
  material_is p (commands.Unload name) of_line facts found = absurd (cc)
  material_is p (commands.Get name prop) of_line facts found = absurd (cc)
  material_is p (commands.Change name opts load_first) of_line facts found = change_material_is facts.fault facts.wrong found
  material_is p (commands.Inherit name load_first) of_line facts found =
      inherit_material_is facts.fault facts.wrong (has_parent_key p (row_above p (row_named name p.tree.rows))) found
  material_is p (commands.Mount name) of_line facts found = absurd (cc)
  material_is p (commands.Unmount name) of_line facts found = absurd (cc)
  material_is p (commands.Clone from name) of_line facts found = absurd of_line
  material_is p (commands.Receive name props wrapped block) of_line facts found = absurd of_line
  material_is p (commands.Destroy name snaps) of_line facts found = absurd of_line

  -- a step that answers it was told it
  told_fault : (p : Plain) (command : KeyCmd) → IsOfLine command → (facts : Told) → (key_step p command facts).reply ≡ Refused why → facts.fault ≡ Some why
  told_fault p command of_line facts refused =
      let done : Stepped = carried_out p command facts (in_use p command) (target p command) in
      ⊎_elim (λ state. absurd (state_apart p command of_line state))
      (λ later. ⊎_elim (λ material. material_is p command of_line facts material) (λ carried. absurd (carried_apart p command of_line facts (in_use p command) (target p command) carried))
      (refused_by_either p (material_refusal p command facts) done later))
      (refused_by_either p (refusal_of p command) (unless_refused p (material_refusal p command facts) done) refused)

  -- ---- what a kit tells

  by_length : (a b : Bool) → (if a then Some (BadMaterial Short) else if b then Some (BadMaterial Long) else None) ≡ Some why → ⊥
  by_length true b found = low (BadMaterial Short) (omega arith) (cc)
  by_length false true found = low (BadMaterial Long) (omega arith) (cc)
  by_length false false found = cc

  by_digits : (fault : Option Refusal) (b : Bool) (at : ℕ) → (fault ≡ Some why → ⊥) → option_or fault (if b then None else Some (BadMaterial (NoDigit at))) ≡ Some why → ⊥
  by_digits (Some first) b at apart found = apart found
  by_digits None true at apart found = cc
  by_digits None false at apart found = low (BadMaterial (NoDigit at)) (omega arith) (cc)

  by_iters : (b : Bool) (fault : Option Refusal) → (fault ≡ Some why → ⊥) → (if b then Some BadIters else fault) ≡ Some why → ⊥
  by_iters true fault apart found = high BadIters (omega arith) (cc)
  by_iters false fault apart found = apart found

  length_apart : (least most : ℕ) (material : List ℕ) → length_fault least most material ≡ Some why → ⊥
  length_apart least most material found = by_length (nat_lt (length material) least) (nat_lt most (length material)) found

  material_apart : (format : Format) (material : List ℕ) (iters : ℕ) → material_fault format material iters ≡ Some why → ⊥
  material_apart Raw material iters found = length_apart 32 32 material found
  material_apart Hex material iters found =
      let digits : List ℕ = without_line_feed material in
      by_digits (length_fault 64 64 digits) (prefix_len is_ascii_hexdigit digits == length digits) (prefix_len is_ascii_hexdigit digits) (length_apart 64 64 digits) found
  material_apart Passphrase material iters found =
      let phrase : List ℕ = without_line_feed material in
      by_iters (nat_lt iters 100000 || nat_lt 10000000 iters) (length_fault 8 512 phrase) (length_apart 8 512 phrase) found

  faulty_is : (fault : Option Refusal) (key : List ℕ) → unless_faulty fault key ≡ Err why → fault ≡ Some why
  faulty_is None key told = absurd (cc)
  faulty_is (Some first) key told = cc

  wrapping_apart : (format : Format) (material : List ℕ) (iters salt : ℕ) → wkey format material iters salt ≡ Err why → ⊥
  wrapping_apart format material iters salt told = material_apart format material iters (faulty_is (material_fault format material iters) (material_key format material iters salt) told)

  -- a fetched key's fault is that of its fetch
  key_fault_is : (format : Format) (iters salt : ℕ) (fetched : Fetched) → WasAsked fetched → key_of ciphers format iters salt fetched ≡ Err why → (fetched ≡ fetches.Fault) × (why ≡ KeyFault)
  key_fault_is format iters salt (fetches.Got material) asked fault = absurd (wrapping_apart format material iters salt fault)
  key_fault_is format iters salt fetches.Missing asked fault = absurd (low KeyFileMissing (omega arith) (cc))
  key_fault_is format iters salt fetches.Fault asked fault = (refl, cc)
  key_fault_is format iters salt fetches.NotAsked asked fault = absurd asked

  seed_fault_is : (seed : SeedGot) → SeedWasAsked seed → seed_of seed ≡ Err why → (seed ≡ seeds.Fault) × (why ≡ EntropyFault)
  seed_fault_is seeds.NotAsked asked fault = absurd asked
  seed_fault_is (seeds.Got seed) asked fault = absurd (cc)
  seed_fault_is seeds.Fault asked fault = (refl, cc)

  create_key_is : (root : Bool) (key : Result (List ℕ) Refusal) (own : List ℕ) (fetched : Fetched) → (root ≡ true → key ≡ Err why → (fetched ≡ fetches.Fault) × (why ≡ KeyFault))
      → (if root then key else Ok own) ≡ Err why → (fetched ≡ fetches.Fault) × (why ≡ KeyFault)
  create_key_is true key own fetched of_key fault = of_key refl fault
  create_key_is false key own fetched of_key fault = absurd (cc)

  encrypted_fault : (p : Plain) (name : List ℕ) (opts : Options) (key seed : Result (List ℕ) Refusal) → (told_encrypted ciphers p name opts key seed).fault ≡ Some why → (key ≡ Err why) ⊎ (seed ≡ Err why)
  encrypted_fault p name opts (Err first) seed fault = inl (cc)
  encrypted_fault p name opts (Ok key) (Err first) fault = inr (cc)
  encrypted_fault p name opts (Ok key) (Ok seed) fault = absurd (cc)

  encrypted_is : (encrypted : Bool) (facts : Told) (kit : LineKit) → (encrypted ≡ true → facts.fault ≡ Some why → Failed why kit) → (if encrypted then facts else nothing_told).fault ≡ Some why → Failed why kit
  encrypted_is true facts kit failed fault = failed refl fault
  encrypted_is false facts kit failed fault = absurd (cc)

  create_fault : (p : Plain) (name : List ℕ) (opts : Options) (kit : LineKit) → (makes_root opts ≡ true → WasAsked kit.new_key) → (makes_encrypted p name opts ≡ true → SeedWasAsked kit.seed)
      → (told ciphers p (commands.Create name opts) kit).fault ≡ Some why → Failed why kit
  create_fault p name opts kit asked seed_asked fault =
      let key : Result (List ℕ) Refusal = create_key ciphers p name opts kit in
      encrypted_is (makes_encrypted p name opts) (told_encrypted ciphers p name opts key (seed_of kit.seed)) kit
      (λ encrypted first. ⊎_elim
      (λ by_key. by_new why kit (create_key_is (makes_root opts) (key_of ciphers (new_format opts) (new_iters opts) (new_salt ciphers opts (seed_of kit.seed)) kit.new_key) (parent_key p (parent_row p name)) kit.new_key
      (λ root. key_fault_is (new_format opts) (new_iters opts) (new_salt ciphers opts (seed_of kit.seed)) kit.new_key (asked root)) by_key))
      (λ by_seed. inr (seed_fault_is kit.seed (seed_asked encrypted) by_seed)) (encrypted_fault p name opts key (seed_of kit.seed) first)) fault

  load_with_fault : (p : Plain) (root : ℕ) (key : Result (List ℕ) Refusal) → (told_load_with ciphers p root key).fault ≡ Some why → key ≡ Err why
  load_with_fault p root (Ok key) fault = absurd (cc)
  load_with_fault p root (Err other) fault = cc

  load_of_fault : (p : Plain) (kit : LineKit) (root : ℕ) (props : Option Props) → WasAsked kit.new_key → (told_load_of ciphers p kit root props).fault ≡ Some why → Failed why kit
  load_of_fault p kit root None asked fault = absurd (cc)
  load_of_fault p kit root (Some props) asked fault =
      by_new why kit (key_fault_is props.format props.iters props.salt kit.new_key asked (load_with_fault p root (key_of ciphers props.format props.iters props.salt kit.new_key) fault))

  load_fault : (p : Plain) (kit : LineKit) (found : Option ℕ) → WasAsked kit.new_key → (told_load ciphers p kit found).fault ≡ Some why → Failed why kit
  load_fault p kit None asked fault = absurd (cc)
  load_fault p kit (Some root) asked fault = load_of_fault p kit root (at_id root p.roots) asked fault

  -- what is told of records anew has the fault of the old key, of the new one or of the seed
  anew_fault : (wrong : List ℕ → Option ℕ) (tells : (old new seed : List ℕ) → Told) (old new seed : Result (List ℕ) Refusal) → ((a b c : List ℕ) → (tells a b c).fault ≡ None)
      → (told_anew wrong tells old new seed).fault ≡ Some why → (old ≡ Err why) ⊎ ((new ≡ Err why) ⊎ (seed ≡ Err why))
  anew_fault wrong tells (Err first) new seed none fault = inl (cc)
  anew_fault wrong tells (Ok old) (Err first) seed none fault = inr (inl (cc))
  anew_fault wrong tells (Ok old) (Ok new) (Err first) none fault = inr (inr (cc))
  anew_fault wrong tells (Ok old) (Ok new) (Ok seed) none fault = absurd (let no_fault : None ≡ Some why = sym (none old new seed) ∙ fault in cc)

  -- the old key is fetched, or it has no fault
  old_key_is : (asks : Bool) (props : Option Props) (key : List ℕ) (fetched : Fetched)
      → (is_some (let place : Option Location = if asks then option_map (λ props. props.place) props else None in place) ≡ true → WasAsked fetched)
      → (if asks then fetched_old ciphers props fetched else Ok key) ≡ Err why → (fetched ≡ fetches.Fault) × (why ≡ KeyFault)
  old_key_is false props key fetched asked fault = absurd (cc)
  old_key_is true None key fetched asked fault = absurd (cc)
  old_key_is true (Some props) key fetched asked fault = key_fault_is props.format props.iters props.salt fetched (asked refl) fault

  change_fault : (p : Plain) (opts : Options) (load_first : Bool) (kit : LineKit) (row : Option Row) → (is_some (old_place p load_first row) ≡ true → WasAsked kit.old_key) → WasAsked kit.new_key → SeedWasAsked kit.seed
      → (told_change ciphers p opts load_first kit (option_map (λ found. found.id) row)).fault ≡ Some why → Failed why kit
  change_fault p opts load_first kit None old_asked new_asked seed_asked fault = absurd (cc)
  change_fault p opts load_first kit (Some row) old_asked new_asked seed_asked fault =
      let own : Option Props = at_id row.id p.roots in
      let salt : ℕ = changed_salt ciphers own opts (seed_of kit.seed) in
      ⊎_elim (λ old. by_old why kit (old_key_is (fetches_old p row.id load_first) (present_props p row.id) (present_key p row.id) kit.old_key old_asked old))
      (λ behind. ⊎_elim (λ new. by_new why kit (key_fault_is (changed_format own opts) (changed_iters own opts) salt kit.new_key new_asked new)) (λ seed. inr (seed_fault_is kit.seed seed_asked seed)) behind)
      (anew_fault (old_wrong ciphers p row.id load_first) (told_changed ciphers p row.id opts load_first) (old_key ciphers p row.id load_first kit.old_key)
      (key_of ciphers (changed_format own opts) (changed_iters own opts) salt kit.new_key) (seed_of kit.seed) (λ a b c. refl) fault)

  inherit_fault : (p : Plain) (load_first : Bool) (kit : LineKit) (row : Option Row) → (is_some (old_place p load_first row) ≡ true → WasAsked kit.old_key) → SeedWasAsked kit.seed
      → (told_inherit ciphers p load_first kit (option_map (λ found. found.id) row)).fault ≡ Some why → Failed why kit
  inherit_fault p load_first kit None old_asked seed_asked fault = absurd (cc)
  inherit_fault p load_first kit (Some row) old_asked seed_asked fault =
      ⊎_elim (λ old. by_old why kit (old_key_is (fetches_old p row.id load_first) (present_props p row.id) (present_key p row.id) kit.old_key old_asked old))
      (λ behind. ⊎_elim (λ new. absurd (let had : Ok (key_above p row.id) ≡ Err why = new in cc)) (λ seed. inr (seed_fault_is kit.seed seed_asked seed)) behind)
      (anew_fault (old_wrong ciphers p row.id load_first) (told_inherited ciphers p row.id load_first) (old_key ciphers p row.id load_first kit.old_key)
      (Ok (key_above p row.id)) (seed_of kit.seed) (λ a b c. refl) fault)

  kit_fault : (p : Plain) (command : KeyCmd) (kit : LineKit) → IsOfLine command → Suffices p command kit → (told ciphers p command kit).fault ≡ Some why → Failed why kit
  kit_fault p (commands.Create name opts) kit of_line suffices fault =
      create_fault p name opts kit (λ root. suffices.new_key (ap (λ b. is_some (let place : Option Location = if b then Some (unwrap_or opts.place Prompt) else None in place)) root)) (λ encrypted. suffices.seed encrypted) fault
  kit_fault p (commands.Load name check_only place) kit of_line suffices fault = load_fault p kit (id_named name p.tree.rows) (suffices.new_key refl) fault
  kit_fault p (commands.Unload name) kit of_line suffices fault = absurd (cc)
  kit_fault p (commands.Get name prop) kit of_line suffices fault = absurd (cc)
  kit_fault p (commands.Change name opts load_first) kit of_line suffices fault =
      change_fault p opts load_first kit (row_named name p.tree.rows) suffices.old_key (suffices.new_key refl) (suffices.seed refl) fault
  kit_fault p (commands.Inherit name load_first) kit of_line suffices fault =
      inherit_fault p load_first kit (row_named name p.tree.rows) suffices.old_key (suffices.seed refl) fault
  kit_fault p (commands.Mount name) kit of_line suffices fault = absurd (cc)
  kit_fault p (commands.Unmount name) kit of_line suffices fault = absurd (cc)
  kit_fault p (commands.Clone from name) kit of_line suffices fault = absurd of_line
  kit_fault p (commands.Receive name props wrapped block) kit of_line suffices fault = absurd of_line
  kit_fault p (commands.Destroy name snaps) kit of_line suffices fault = absurd of_line

  pub step_fault : (p : Plain) (command : KeyCmd) (kit : LineKit) → IsOfLine command → Suffices p command kit → (stepped p command kit).reply ≡ Refused why → Failed why kit
  step_fault p command kit of_line suffices refused = kit_fault p command kit of_line suffices (told_fault p command of_line (told ciphers p command kit) refused)

-- ---- a command that is refused by one of them

replies_refused : (result : Result Shown Stop) (reply : Reply) (why : Refusal) → settled result ≡ Ok (Err why) → Replies result reply → reply ≡ Refused why
replies_refused (Ok shown) reply why same replies = absurd (cc)
replies_refused (Err (stops.Refused other)) reply why same replies = let inner : other ≡ why = cc in replies ∙ ap (λ w. Refused w) inner
replies_refused (Err stops.NoMemory) reply why same replies = absurd (cc)

wants_by : (p : Plain) (command : KeyCmd) (needs : Needs) (refusal : Option Refusal) → needed_unless p command refusal ≡ Ok needs → needs_of (wanted p command) ≡ needs
wants_by p command needs None known = cc
wants_by p command needs (Some why) known = absurd (cc)

suffices_by : (p : Plain) (command : KeyCmd) (needs : Needs) (kit : LineKit) → needed p command ≡ Ok needs → HasWanted needs kit → Suffices p command kit
suffices_by p command needs kit known has =
    let wants : needs_of (wanted p command) ≡ needs = wants_by p command needs (refusal_of p command) known in
    record {
      old_key = λ asked. has.old_key (ap (λ (n : Needs). is_some n.old_place) (sym wants) ∙ asked);
      new_key = λ asked. has.new_key (ap (λ (n : Needs). is_some n.new_place) (sym wants) ∙ asked);
      seed = λ asked. has.seed (ap (λ (n : Needs). n.seed) (sym wants) ∙ asked);
    }

-- the reap behind a step leaves its reply
step_reply : (command : KeyCmd) (step : Stepped) → (reaped_behind command step).reply ≡ step.reply
step_reply (commands.Create name opts) step = refl
step_reply (commands.Load name check_only place) step = refl
step_reply (commands.Unload name) step = refl
step_reply (commands.Change name opts load_first) step = refl
step_reply (commands.Inherit name load_first) step = refl
step_reply (commands.Mount name) step = refl
step_reply (commands.Unmount name) step = refl
step_reply (commands.Get name prop) step = refl
step_reply (commands.Clone from name) step = refl
step_reply (commands.Receive name props wrapped block) step = refl
step_reply (commands.Destroy name snaps) step = refl

pub executed_fault : (why : Refusal) → IsTaking why → (h : HostState) (command : KeyCmd) → IsOfLine command → (needs : Needs) (kit : LineKit) (result : Result Shown Stop) → needed h.keys command ≡ Ok needs → HasWanted needs kit
    → Replies result (host_step h command kit).reply → settled result ≡ Ok (Err why) → Failed why kit
executed_fault why taking h command of_line needs kit result known has replies refused =
    step_fault why taking h.keys command kit of_line (suffices_by h.keys command needs kit known has)
    (sym (step_reply command (stepped h.keys command kit)) ∙ replies_refused result (host_step h command kit).reply why refused replies)

needed_apart : (why : Refusal) (p : Plain) (command : KeyCmd) (refusal : Option Refusal) → needed_unless p command refusal ≡ Err why → refusal ≡ Some why
needed_apart why p command None known = absurd (cc)
needed_apart why p command (Some other) known = cc

pub needs_apart : (why : Refusal) → IsTaking why → (p : Plain) (command : KeyCmd) → IsOfLine command → (stop : Stop) → Gives (let stopped : Result Needs Stop = Err stop in stopped) (needed p command)
    → settled (Err stop) ≡ Ok (Err why) → ⊥
needs_apart why taking p command of_line (stops.Refused other) gives same =
    let inner : other ≡ why = cc in
    state_apart why taking p command of_line (needed_apart why p command (refusal_of p command) (gives ∙ ap (λ w. let r : Result Needs Refusal = Err w in r) inner))
needs_apart why taking p command of_line stops.NoMemory gives same = cc

pub key_taking : IsTaking KeyFault
key_taking = record { low = omega arith; high = omega arith }

pub entropy_taking : IsTaking EntropyFault
entropy_taking = record { low = omega arith; high = omega arith }

pub by_fetch : (kit : LineKit) → Failed KeyFault kit → (kit.old_key ≡ fetches.Fault) ⊎ (kit.new_key ≡ fetches.Fault)
by_fetch kit failed = ⊎_elim (λ key. key.0) (λ seed. absurd (let same : KeyFault ≡ EntropyFault = seed.1 in cc)) failed

pub by_fill : (kit : LineKit) → Failed EntropyFault kit → kit.seed ≡ seeds.Fault
by_fill kit failed = ⊎_elim (λ key. absurd (let same : EntropyFault ≡ KeyFault = key.1 in cc)) (λ seed. seed.0) failed

pub either_rose : (before now : ℕ) (old new : Fetched) → (old ≡ fetches.Fault → Rose before now) → (new ≡ fetches.Fault → Rose before now) → (old ≡ fetches.Fault) ⊎ (new ≡ fetches.Fault) → Rose before now
either_rose before now old new by_old by_new failed = ⊎_elim by_old by_new failed

pub Rose-later : (first before now : ℕ) → first ≤ before → Rose before now → Rose first now
Rose-later first before now later rose = omega arith
