-- A plan that is of a sound state makes one whose records and roots are in form, as those before it.
use Rattle.std.proofs.Common.{◌≡◌, ℕ, ◌≤◌, Bool, true, false, cond, not, ◌==◌, List, [], ◌∷◌, length, get_or, map, Option, Some, None, IfSome, Result, Ok, Err, is_some, refl, ap, sym, ◌∙◌, subst, arith}
use Rattle.std.proofs.lemmas.Bool.Decides.{nat_tests}
use Rattle.std.proofs.lemmas.List.{get_or-map, length-map}
use Rattle.std.proofs.lemmas.List.Elements.{All-map}
use Rattle.std.specs.List.{All, find}
use Rattle.std.specs.Option.{option_map, option_and_then}
use Rattle.std.specs.Prelude.{unwrap_or, vec_capacity, if◌then◌else◌}
use Rattle.dataset_tree.specs.declared.kinds.Format.{Format}
use Rattle.dataset_tree.specs.declared.kinds.Format.TheVariants.{Raw, Hex, Passphrase}
use Rattle.dataset_tree.specs.declared.refusal.Refusal.{Refusal}
use Rattle.dataset_tree.specs.Tree.{Datasets}
use Rattle.encryption_roots.specs.RecordSize.{IsRecordSize}
use Rattle.encryption_roots.specs.declared.command.KeyCmd.{KeyCmd}
use Rattle.encryption_roots.specs.declared.command.KeyCmd.TheVariants as commands
use Rattle.encryption_roots.specs.declared.kit.LineKit.{LineKit}
use Rattle.encryption_roots.specs.declared.props.Options.{Options}
use Rattle.encryption_roots.specs.declared.props.Props.{Props}
use Rattle.encryption_roots.specs.Owners.{family}
use Rattle.encryption_roots.specs.ById.{at_id, IsRisingById}
use Rattle.encryption_roots.specs.Props.{KeepsIterations, KeepsIterationsOf}
use Rattle.key_machine.proofs.RekeyLaws.{change_keeps_masters, inherit_keeps_masters}
use Rattle.wrapped_keys.specs.Values.{MasterValue}
use Rattle.key_store.proofs.OpenedLemmas.{AreOpened, opened_same, mapped_of}
use Rattle.key_machine.specs.declared.view.ChangePlan.{ChangePlan}
use Rattle.key_machine.specs.Change.{change_cases, changed_format, changed_iters, changed_salt, changed_props, kept_iters, told_changed, told_change, change_done}
use Rattle.key_machine.specs.Create.{is_passphrase, are_bad_iterations}
use Rattle.key_machine.specs.Fair.{AreSound, IsFair, AllOpen}
use Rattle.key_machine.specs.Inherit.{inherit_done}
use Rattle.key_machine.specs.Plain.{Plain, Stored, Ciphers, is_same, has_key, mkey}
use Rattle.key_machine.specs.Plan.{set_id, planned, IsRekeying, IsPlanned}
use Rattle.key_machine.specs.Rekey.{old_key, old_wrong, told_anew, with_record, with_records}
use Rattle.key_machine.specs.Reply.{Stepped}
use Rattle.key_machine.specs.Sound.{Sound}
use Rattle.key_machine.specs.Step.{refusal_of, told, target, key_step, IsAccepted}
use Rattle.key_machine.specs.Told.{Told, key_of, seed_of}
use Rattle.key_machine.proofs.CreateLawsStep.{NoneHolds, none_holds}
use Rattle.key_machine.proofs.FairLaws.{keeps, told_fair, change_genuine, inherit_genuine}
use Rattle.key_machine.proofs.KeyLists.{All-kept, All-with_id, at_id_is}
use Rattle.key_machine.proofs.SoundLemmas.{accepted_step}
use Rattle.wrapped_keys.specs.Stored.{parsed_record}
use Rattle.wrapped_keys.specs.Values.{RecordValue}
use Rattle.wrapped_keys.specs.Wrapping.{opens}
use Rattle.key_ciphers.proofs.CipherLaws.{ciphers_sound}
use Rattle.key_ciphers.specs.Ciphers.{ciphers, master_of, with_guid}
use Rattle.key_store.specs.declared.state.FamilyRecord.{FamilyRecord}
use Rattle.key_store.specs.declared.state.KeyState.TheInside.{Inside}
use Rattle.key_store.specs.State.{plain_of, stored_of, stored_records, with_written, AreCounted, IsKept}
use Rattle.key_store.proofs.UseLemmas.{written_counted}
use Rattle.key_store.proofs.RoomLemmas.{roots_fit, loaded_fit}

-- ---- what is written for a family

pub first_written : (family : ℕ) (written : List (ℕ × List ℕ)) → option_map (λ entry. entry.1) (find (λ entry. entry.0 == family) written) ≡ at_id family written
first_written family [] = refl
first_written family (entry ∷ written) =
    let rest : option_map (λ e. e.1) (find (λ e. e.0 == family) written) ≡ at_id family written = first_written family written in
    elim (entry.0 == family) as (λ b. option_map (λ e. e.1) (cond b (Some entry) (find (λ e. e.0 == family) written)) ≡ cond b (Some entry.1) (at_id family written)) [ true ↦ refl | false ↦ rest ]

pub stored_written : (written : List (ℕ × List ℕ)) (records : List (ℕ × FamilyRecord)) → stored_records (map (λ entry. with_written written entry) records) ≡ map (λ entry. (entry.0, with_record written entry)) (stored_records records)
stored_written written [] = refl
stored_written written (entry ∷ records) = ap (λ (rest : List (ℕ × Stored)). (entry.0, with_record written (entry.0, stored_of entry.1)) ∷ rest) (stored_written written records)

-- what holds of each record as it is shown holds of each record
pub all_shown : (F : List ℕ → Type 0) (records : List (ℕ × FamilyRecord)) → All (λ entry. F entry.1.wrapped) (stored_records records) → All (λ entry. F entry.1.wrapped) records
all_shown F records all k d within =
    let shown : ℕ × FamilyRecord → ℕ × Stored = λ entry. (entry.0, stored_of entry.1) in
    let long : length (stored_records records) ≡ length records = length-map records shown in
    let same : get_or (stored_records records) k (shown d) ≡ shown (get_or records k d) = get_or-map shown records k d (shown d) within in
    subst (λ (entry : ℕ × Stored). F entry.1.wrapped) same (all k (shown d) (omega (arith, long)))

-- ---- records in form: whatever opens is so

pub opened_parsed : (stored key : List ℕ) → is_some (ciphers.opens stored key) ≡ true → is_some (parsed_record stored) ≡ true
opened_parsed stored key opened = by (parsed_record stored) opened where
  by : (found : Option RecordValue) → is_some (option_map master_of (option_and_then with_guid (option_and_then (λ r. opens r key) found))) ≡ true → is_some found ≡ true
  by None opened = absurd (cc)
  by (Some record_there) opened = refl

module _ (c : Ciphers) (F : List ℕ → Type 0) (opened_form : (stored key : List ℕ) → is_some (c.opens stored key) ≡ true → F stored) where
  told_form : (key : List ℕ) (records : List (ℕ × List ℕ)) → AllOpen c key records → All (λ entry. F entry.1) records
  told_form key records opened k d within = opened_form (get_or records k d).1 key (opened k d within)

  chosen_form : (records : List (ℕ × List ℕ)) (id : ℕ) (own : List ℕ) → All (λ entry. F entry.1) records → F own → F (unwrap_or (at_id id records) own)
  chosen_form records id own all is = by (at_id id records) refl where
    by : (found : Option (List ℕ)) → at_id id records ≡ found → F (unwrap_or found own)
    by None there = is
    by (Some wrapped) there = at_id_is (λ entry. F entry.1) id records wrapped all there

  written_form : (owner : ℕ → Option ℕ) (root : ℕ) (records : List (ℕ × List ℕ)) (stored : List (ℕ × Stored)) → All (λ entry. F entry.1) records → All (λ entry. F entry.1.wrapped) stored
      → All (λ entry. F entry.1.wrapped) (with_records owner root records stored)
  written_form owner root records stored told all =
      All-map (λ (entry : ℕ × Stored). F entry.1.wrapped) (λ (entry : ℕ × Stored). (entry.0, cond (is_same root (owner entry.0)) (with_record records entry) entry.1)) stored
      (λ k d within. by (get_or stored k d) (is_same root (owner (get_or stored k d).0)) (all k d within)) where
        by : (entry : ℕ × Stored) (b : Bool) → F entry.1.wrapped → F (cond b (with_record records entry) entry.1).wrapped
        by entry true is = chosen_form records entry.0 entry.1.wrapped told is
        by entry false is = is

  abbrev InForm : Plain → Type 0
  InForm p = All (λ entry. F entry.1.wrapped) p.wrapped

  module _ (p : Plain) (tells : Told) (all : InForm p) where
    change_form : (name : List ℕ) (opts : Options) (load_first : Bool) → IsAccepted p (commands.Change name opts load_first) tells → IsFair c p (commands.Change name opts load_first) tells
        → (found : Option ℕ) → target p (commands.Change name opts load_first) ≡ found → InForm (change_done p opts tells found).state
    change_form name opts load_first accepted fair None at = all
    change_form name opts load_first accepted fair (Some id) at =
        let genuine = change_genuine c p name opts load_first tells id accepted at fair in
        written_form _ id tells.wrapped p.wrapped (told_form tells.key tells.wrapped genuine.opened) all

    inherit_form : (name : List ℕ) (load_first : Bool) → IsAccepted p (commands.Inherit name load_first) tells → IsFair c p (commands.Inherit name load_first) tells
        → (found : Option ℕ) → target p (commands.Inherit name load_first) ≡ found → InForm (inherit_done p tells found).state
    inherit_form name load_first accepted fair None at = all
    inherit_form name load_first accepted fair (Some id) at =
        let genuine = inherit_genuine c p name load_first tells id accepted at fair in
        written_form _ id tells.wrapped p.wrapped (told_form _ tells.wrapped genuine.opened) all

-- ---- properties in form

in_form_of : (format : Format) (iters salt : ℕ) → 100000 ≤ iters → iters ≤ 10000000 → (is_passphrase (Some format) ≡ false → salt ≡ 0) → KeepsIterationsOf format (if is_passphrase (Some format) then iters else 0) salt
in_form_of Raw iters salt low high none = (refl, none refl)
in_form_of Hex iters salt low high none = (refl, none refl)
in_form_of Passphrase iters salt low high none = (low, high)

record InRange (iters : ℕ) : Type 0 where
  low : 100000 ≤ iters
  high : iters ≤ 10000000

kept_range : (own : Option Props) → IfSome own KeepsIterations → InRange (kept_iters own)
kept_range None is = record { low = omega arith; high = omega arith }
kept_range (Some props) is = by props.format is where
  by : (format : Format) → KeepsIterationsOf format props.iters props.salt → InRange (if is_passphrase (Some format) then props.iters else 350000)
  by Raw keeps = record { low = omega arith; high = omega arith }
  by Hex keeps = record { low = omega arith; high = omega arith }
  by Passphrase keeps = record { low = keeps.0; high = keeps.1 }

changed_range : (given : Option ℕ) (own : Option Props) → are_bad_iterations given ≡ false → IfSome own KeepsIterations → InRange (unwrap_or given (kept_iters own))
changed_range None own fine is = kept_range own is
changed_range (Some iters) own fine is = record { low = grind (arith, nat_tests); high = grind (arith, nat_tests) }

changed_form : (own : Option Props) (opts : Options) (salt : ℕ) → are_bad_iterations opts.iters ≡ false → IfSome own KeepsIterations → (is_passphrase (Some (changed_format own opts)) ≡ false → salt ≡ 0)
    → KeepsIterations (changed_props own opts salt)
changed_form own opts salt fine is none =
    let range : InRange (unwrap_or opts.iters (kept_iters own)) = changed_range opts.iters own fine is in
    in_form_of (changed_format own opts) (unwrap_or opts.iters (kept_iters own)) salt range.low range.high none

-- a format that is no passphrase has no salt
no_salt : (wrong : List ℕ → Option ℕ) (tells : (old new seed : List ℕ) → Told) → ((old new seed : List ℕ) → (tells old new seed).salt ≡ 0) → (old new seed : Result (List ℕ) Refusal) → (told_anew wrong tells old new seed).salt ≡ 0
no_salt wrong tells none (Err why) new seed = refl
no_salt wrong tells none (Ok old) (Err why) seed = refl
no_salt wrong tells none (Ok old) (Ok new) (Err why) = refl
no_salt wrong tells none (Ok old) (Ok new) (Ok seed) = none old new seed

none_for : (b : Bool) (n : ℕ) → b ≡ false → (if b then n else 0) ≡ 0
none_for b n plain = ap (λ test. cond test n 0) plain

told_no_salt : (c : Ciphers) (p : Plain) (opts : Options) (load_first : Bool) (kit : LineKit) (id : ℕ) → is_passphrase (Some (changed_format (at_id id p.roots) opts)) ≡ false
    → (told_change c p opts load_first kit (Some id)).salt ≡ 0
told_no_salt c p opts load_first kit id plain =
    let own : Option Props = at_id id p.roots in
    no_salt (old_wrong c p id load_first) (told_changed c p id opts load_first)
    (λ old new seed. none_for (is_passphrase (Some (changed_format own opts))) _ plain)
    (old_key c p id load_first kit.old_key) (key_of c (changed_format own opts) (changed_iters own opts) (changed_salt c own opts (seed_of kit.seed)) kit.new_key) (seed_of kit.seed)

props_there : (id : ℕ) (roots : List (ℕ × Props)) → All (λ entry. KeepsIterations entry.1) roots → IfSome (at_id id roots) KeepsIterations
props_there id roots all = by (at_id id roots) refl where
  by : (found : Option Props) → at_id id roots ≡ found → IfSome found KeepsIterations
  by None there = tt
  by (Some props) there = at_id_is (λ entry. KeepsIterations entry.1) id roots props all there

abbrev PropsKept : Plain → Type 0
PropsKept p = All (λ entry. KeepsIterations entry.1) p.roots

change_props_kept : (c : Ciphers) (p : Plain) (name : List ℕ) (opts : Options) (load_first : Bool) (kit : LineKit) → refusal_of p (commands.Change name opts load_first) ≡ None → PropsKept p
    → (found : Option ℕ) → PropsKept (change_done p opts (told_change c p opts load_first kit found) found).state
change_props_kept c p name opts load_first kit accepted all None = all
change_props_kept c p name opts load_first kit accepted all (Some id) =
    let none : NoneHolds (change_cases p name opts load_first) = none_holds (change_cases p name opts load_first) accepted in
    let salt : ℕ = (told_change c p opts load_first kit (Some id)).salt in
    let props : Props = changed_props (at_id id p.roots) opts salt in
    All-with_id (λ entry. KeepsIterations entry.1) id props p.roots all
    (changed_form (at_id id p.roots) opts salt none.1.1.1.1.0 (props_there id p.roots all) (told_no_salt c p opts load_first kit id))

inherit_props_kept : (p : Plain) (tells : Told) → PropsKept p → (found : Option ℕ) → PropsKept (inherit_done p tells found).state
inherit_props_kept p tells all None = all
inherit_props_kept p tells all (Some id) =
    All-kept (λ (entry : ℕ × Props). KeepsIterations entry.1) (λ entry. KeepsIterations entry.1) (λ entry. not (entry.0 == id)) p.roots (λ entry kept other. kept) all

-- ---- the planned state

module _ (c : Ciphers) (fit : AreSound c) (p : Plain) (plan : ChangePlan) (is : IsPlanned c p plan) (sound : Sound c p) where
  fair : IsFair c p is.command (told c p is.command is.kit)
  fair = told_fair c p is.command is.kit fit sound

  pub planned_sound : Sound c (planned p plan)
  planned_sound = subst (λ (q : Plain). Sound c q) is.state (keeps c p is.command (told c p is.command is.kit) sound fair)

  -- what holds after each change and inherit that is accepted holds here
  by_command : (P : Plain → Type 0)
      → ((name : List ℕ) (opts : Options) (load_first : Bool) → let command = commands.Change name opts load_first in IsAccepted p command (told c p command is.kit) → P (change_done p opts (told c p command is.kit) (target p command)).state)
      → ((name : List ℕ) (load_first : Bool) → let command = commands.Inherit name load_first in IsAccepted p command (told c p command is.kit) → P (inherit_done p (told c p command is.kit) (target p command)).state)
      → P (planned p plan)
  by_command P change inherit = subst P is.state (by is.command is.rekeying is.accepted) where
    by : (command : KeyCmd) → IsRekeying command → IsAccepted p command (told c p command is.kit) → P (key_step p command (told c p command is.kit)).state
    by (commands.Create name opts) rekeying accepted = absurd rekeying
    by (commands.Load name check_only place) rekeying accepted = absurd rekeying
    by (commands.Unload name) rekeying accepted = absurd rekeying
    by (commands.Change name opts load_first) rekeying accepted =
        subst (λ (s : Stepped). P s.state) (sym (accepted_step p (commands.Change name opts load_first) (told c p (commands.Change name opts load_first) is.kit) accepted)) (change name opts load_first accepted)
    by (commands.Inherit name load_first) rekeying accepted =
        subst (λ (s : Stepped). P s.state) (sym (accepted_step p (commands.Inherit name load_first) (told c p (commands.Inherit name load_first) is.kit) accepted)) (inherit name load_first accepted)
    by (commands.Mount name) rekeying accepted = absurd rekeying
    by (commands.Unmount name) rekeying accepted = absurd rekeying
    by (commands.Get name prop) rekeying accepted = absurd rekeying
    by (commands.Clone from name) rekeying accepted = absurd rekeying
    by (commands.Receive name props wrapped block) rekeying accepted = absurd rekeying
    by (commands.Destroy name snaps) rekeying accepted = absurd rekeying

  pub planned_form : (F : List ℕ → Type 0) → ((stored key : List ℕ) → is_some (c.opens stored key) ≡ true → F stored) → All (λ entry. F entry.1.wrapped) p.wrapped → All (λ entry. F entry.1.wrapped) (planned p plan).wrapped
  planned_form F opened_form all =
      by_command (λ q. All (λ entry. F entry.1.wrapped) q.wrapped)
      (λ name opts load_first accepted. let command : KeyCmd = commands.Change name opts load_first in
      change_form c F opened_form p (told c p command is.kit) all name opts load_first accepted (told_fair c p command is.kit fit sound) (target p command) refl)
      (λ name load_first accepted. let command : KeyCmd = commands.Inherit name load_first in
      inherit_form c F opened_form p (told c p command is.kit) all name load_first accepted (told_fair c p command is.kit fit sound) (target p command) refl)

  pub planned_props : PropsKept p → PropsKept (planned p plan)
  planned_props all =
      by_command PropsKept (λ name opts load_first accepted. change_props_kept c p name opts load_first is.kit accepted.state all (target p (commands.Change name opts load_first)))
      (λ name load_first accepted. inherit_props_kept p (told c p (commands.Inherit name load_first) is.kit) all (target p (commands.Inherit name load_first)))

  -- a family's master key is what it was, where its owner's key was loaded
  masters_kept : (dataset : ℕ) → has_key p dataset ≡ true → mkey c (planned p plan) (family p.tree.rows dataset) ≡ mkey c p (family p.tree.rows dataset)
  masters_kept dataset has = subst (λ (q : Plain). mkey c q (family p.tree.rows dataset) ≡ mkey c p (family p.tree.rows dataset)) is.state (by is.command is.rekeying is.accepted fair) where
    by : (command : KeyCmd) → IsRekeying command → IsAccepted p command (told c p command is.kit) → IsFair c p command (told c p command is.kit)
        → mkey c (key_step p command (told c p command is.kit)).state (family p.tree.rows dataset) ≡ mkey c p (family p.tree.rows dataset)
    by (commands.Create name opts) rekeying accepted given = absurd rekeying
    by (commands.Load name check_only place) rekeying accepted given = absurd rekeying
    by (commands.Unload name) rekeying accepted given = absurd rekeying
    by (commands.Change name opts load_first) rekeying accepted given = change_keeps_masters c p name opts load_first (told c p (commands.Change name opts load_first) is.kit) dataset sound given accepted has
    by (commands.Inherit name load_first) rekeying accepted given = inherit_keeps_masters c p name load_first (told c p (commands.Inherit name load_first) is.kit) dataset sound given accepted has
    by (commands.Mount name) rekeying accepted given = absurd rekeying
    by (commands.Unmount name) rekeying accepted given = absurd rekeying
    by (commands.Get name prop) rekeying accepted given = absurd rekeying
    by (commands.Clone from name) rekeying accepted given = absurd rekeying
    by (commands.Receive name props wrapped block) rekeying accepted given = absurd rekeying
    by (commands.Destroy name snaps) rekeying accepted given = absurd rekeying

  pub planned_opened : (opened : List (ℕ × MasterValue)) → AreOpened c p opened → AreOpened c (planned p plan) opened
  planned_opened opened are =
      opened_same c p (planned p plan) opened (λ first. refl)
      (λ first on.
      let one = mapped_of (λ mapping. has_key p mapping.0 ≡ true) p first sound.mappings.keys on in
      subst (λ n. mkey c (planned p plan) n ≡ mkey c p n) one.2 (masters_kept one.0.0 one.1)) are

-- ---- a plan that is carried out

module _ (s : Inside) (now : Plain) (plan : ChangePlan) (view_is : plain_of s ≡ now) (kept : IsKept s) (given : IsPlanned ciphers now plan) where
  abbrev after : Plain
  after = planned (plain_of s) plan

  is_planned : IsPlanned ciphers (plain_of s) plan
  is_planned = subst (λ (p : Plain). IsPlanned ciphers p plan) (sym view_is) given

  after_sound : Sound ciphers after
  after_sound = planned_sound ciphers ciphers_sound (plain_of s) plan is_planned kept.sound

  pub few_roots : length (set_id plan.root plan.props s.roots) ≤ 256
  few_roots = let fit : length after.roots ≤ length s.tree.rows = roots_fit ciphers after after_sound in omega (arith, fit, kept.room.datasets)

  pub few_keys : length (set_id plan.root plan.key s.loaded.items) ≤ 256
  few_keys = let fit : length after.loaded ≤ length s.tree.rows = loaded_fit ciphers after after_sound in omega (arith, fit, kept.room.datasets)

  module _ (made : Inside) (tree_is : made.tree ≡ s.tree) (roots_is : made.roots ≡ set_id plan.root plan.props s.roots)
      (records_is : made.records.items ≡ map (λ entry. with_written plan.wrapped.items entry) s.records.items)
      (loaded_is : made.loaded.items ≡ set_id plan.root plan.key s.loaded.items)
      (same : made ≡ record s { tree = made.tree; roots = made.roots; records = made.records; loaded = made.loaded }) where
    stored_is : stored_records made.records.items ≡ after.wrapped
    stored_is = ap stored_records records_is ∙ stored_written plan.wrapped.items s.records.items

    made_is : plain_of made ≡ after
    made_is =
        ap plain_of same
        ∙ ap (λ (t : Datasets). let q : Plain = record after { tree = t; roots = made.roots; wrapped = stored_records made.records.items; loaded = made.loaded.items } in q) tree_is
        ∙ ap (λ (r : List (ℕ × Props)). let q : Plain = record after { roots = r; wrapped = stored_records made.records.items; loaded = made.loaded.items } in q) roots_is
        ∙ ap (λ (w : List (ℕ × Stored)). let q : Plain = record after { wrapped = w; loaded = made.loaded.items } in q) stored_is
        ∙ ap (λ (l : List (ℕ × List ℕ)). let q : Plain = record after { loaded = l } in q) loaded_is

    pub carried_out : plain_of made ≡ planned now plan
    carried_out = made_is ∙ ap (λ (p : Plain). planned p plan) view_is

    pub carried_kept : vec_capacity s.records ≤ vec_capacity made.records → vec_capacity s.loaded ≤ vec_capacity made.loaded → IsKept made
    carried_kept records_room loaded_room =
        let form : List ℕ → Type 0 = λ stored. is_some (parsed_record stored) ≡ true in
        let in_form : All (λ entry. form entry.1.wrapped) after.wrapped =
        planned_form ciphers ciphers_sound (plain_of s) plan is_planned kept.sound form opened_parsed
        (All-map (λ (entry : ℕ × Stored). form entry.1.wrapped) (λ (entry : ℕ × FamilyRecord). (entry.0, stored_of entry.1)) s.records.items kept.records) in
        let sizes : All (λ entry. IsRecordSize entry.1.block) (map (λ entry. with_written plan.wrapped.items entry) s.records.items) =
        All-map (λ (entry : ℕ × FamilyRecord). IsRecordSize entry.1.block) (λ (entry : ℕ × FamilyRecord). with_written plan.wrapped.items entry) s.records.items kept.sizes in
        record {
          sound = subst (λ (p : Plain). Sound ciphers p) (sym made_is) after_sound;
          records = all_shown form made.records.items (subst (λ (stored : List (ℕ × Stored)). All (λ entry. form entry.1.wrapped) stored) (sym stored_is) in_form);
          sizes = subst (λ (records : List (ℕ × FamilyRecord)). All (λ entry. IsRecordSize entry.1.block) records) (sym records_is) sizes;
          props = subst (λ (roots : List (ℕ × Props)). All (λ entry. KeepsIterations entry.1) roots) (sym roots_is) (planned_props ciphers ciphers_sound (plain_of s) plan is_planned kept.sound kept.props);
          by_family = subst (λ (entries : List (ℕ × MasterValue)). IsRisingById entries) (sym (ap (λ (i : Inside). i.opened.items) same)) kept.by_family;
          opened = subst (λ (p : Plain). AreOpened ciphers p made.opened.items) (sym made_is)
              (subst (λ (entries : List (ℕ × MasterValue)). AreOpened ciphers after entries) (sym (ap (λ (i : Inside). i.opened.items) same))
              (planned_opened ciphers ciphers_sound (plain_of s) plan is_planned kept.sound s.opened.items kept.opened));
          mkeys = subst (λ (p : Plain). AreCounted p made.mkey_counts.items) (sym made_is)
              (subst (λ (counts : List (ℕ × ℕ)). AreCounted after counts) (sym (ap (λ (i : Inside). i.mkey_counts.items) same))
              (written_counted (plain_of s) (with_record plan.wrapped.items) after.roots after.loaded s.mkey_counts.items kept.mkeys));
          room = record {
            datasets = subst (λ (t : Datasets). length t.rows ≤ 256) (sym tree_is) kept.room.datasets;
            records = omega (arith, kept.room.records, records_room);
            loaded = omega (arith, kept.room.loaded, loaded_room);
            mapped = subst (λ (i : Inside). 256 ≤ vec_capacity i.mapped) (sym same) kept.room.mapped;
            mounted = subst (λ (i : Inside). 256 ≤ vec_capacity i.mounted) (sym same) kept.room.mounted;
            opened = subst (λ (i : Inside). 32 ≤ vec_capacity i.opened) (sym same) kept.room.opened;
            mkeys = subst (λ (i : Inside). 32 ≤ vec_capacity i.mkey_counts) (sym same) kept.room.mkeys;
          };
        }
