-- The plan of a change is its step, and what refuses it refuses the step.
use Rattle.std.proofs.Common.{◌≡◌, ℕ, Bool, true, false, not, ◌&&◌, List, [], ◌∷◌, map, Option, Some, None, Result, Ok, Err, IfOk, IfSome, is_some, option_map, refl, ap, sym, ◌∙◌, subst}
use Rattle.std.specs.List.{All}
use Rattle.dataset_tree.specs.declared.refusal.Refusal.{Refusal}
use Rattle.dataset_tree.specs.declared.refusal.Refusal.TheVariants.{WrongKey}
use Rattle.dataset_tree.specs.declared.refusal.Stop.{Stop}
use Rattle.encryption_roots.specs.declared.command.KeyCmd.{KeyCmd}
use Rattle.encryption_roots.specs.declared.command.KeyCmd.TheVariants as commands
use Rattle.encryption_roots.specs.declared.kit.LineKit.{LineKit}
use Rattle.encryption_roots.specs.declared.props.Options.{Options}
use Rattle.encryption_roots.specs.declared.props.Props.{Props}
use Rattle.encryption_roots.specs.ById.{at_id, with_id}
use Rattle.encryption_roots.specs.Owned.{owned_families}
use Rattle.encryption_roots.specs.Owners.{family}
use Rattle.key_machine.specs.declared.view.ChangePlan.{ChangePlan}
use Rattle.key_machine.specs.Change.{change_cases, change_material, changed_props, changed_salt, with_own_root, told_changed, told_change, change_families, changed, change_done}
use Rattle.key_machine.specs.Create.{are_bad_iterations}
use Rattle.key_machine.specs.Fair.{AreSound, IsGenuine, IsFair, AllOpen, families_written}
use Rattle.key_machine.specs.Plain.{Plain, Stored, Ciphers, owner_of, is_same, owned, mkey}
use Rattle.key_machine.specs.Plan.{planned, IsPlanned}
use Rattle.key_machine.specs.Refusals.{first_refusal}
use Rattle.key_machine.specs.Rekey.{old_key, old_wrong, rewrapped, told_anew, with_records}
use Rattle.key_machine.specs.Reply.{Stepped, Done, refused}
use Rattle.key_machine.specs.Sound.{Sound, IsEncrypted}
use Rattle.key_machine.specs.Step.{refusal_of, told, target, key_step, IsAccepted}
use Rattle.key_machine.specs.Told.{Told, seed_of}
use Rattle.key_machine.proofs.ChangeLaws.{IsChangeable, changeable}
use Rattle.key_machine.proofs.CreateLawsStep.{NoneHolds, none_holds}
use Rattle.key_machine.proofs.FairLaws.{told_fair, change_genuine}
use Rattle.key_machine.proofs.RekeyFair.{is_old_key}
use Rattle.key_machine.proofs.RekeyLaws.{change_step, change_keeps_masters}
use Rattle.key_machine.proofs.RekeyOwners.{owner_alike, with_props_alike}
use Rattle.key_machine.proofs.RekeyRecords.{rewrapped_ids}
use Rattle.key_machine.proofs.SoundLemmas.{refused_step, refused_by_material}
use Rattle.change_key.specs.Keys.{unless_told_wrong, present_key, new_key_of, first_fault, IsNewKey, StopsAt}
use Rattle.change_key.specs.declared.new_key.NewKey.{NewKey}
use Rattle.key_ciphers.specs.Calls.{step_by, AnswersDone}
use Rattle.change_key.specs.Plans.{IsPlanOf, KeepsMasters, IsToldChange, OpensPresent}
use Rattle.change_key.specs.Records.{opened_in, anew, numbered}
use Rattle.change_key.proofs.FamilyRecords.{entries_found, entries_open, owned_once_root, owned_alike, written_are}
use Rattle.change_key.proofs.KeyLemmas.{present_key_is}
use Rattle.change_key.proofs.PlanLemmas.{plan_state, planned_is, no_record, wrong_first, key_had, answers_fault}
use Rattle.change_key.proofs.RecordLemmas.{same_masters, set_by_ids}

some_root : (found : Option ℕ) → is_some found ≡ true → (root : ℕ) × (found ≡ Some root)
some_root None h = absurd (cc)
some_root (Some root) h = (root, refl)

-- ---- what the material refuses

module _ (wrong : List ℕ → Option ℕ) (tells : (old new seed : List ℕ) → Told) (wrong_told : (old new seed : List ℕ) → (tells old new seed).wrong ≡ wrong old) where
  old_refuses : (old new seed : Result (List ℕ) Refusal) (why : Refusal) → unless_told_wrong old wrong ≡ Err why → first_refusal (change_material (told_anew wrong tells old new seed)) ≡ Some why
  old_refuses (Err first) new seed why told = let same : first ≡ why = cc in ap (λ w. Some w) same
  old_refuses (Ok old) (Err first) seed why told = wrong_first old (wrong old) (Some first ∷ []) why told
  old_refuses (Ok old) (Ok new) (Err first) why told = wrong_first old (wrong old) (Some first ∷ []) why told
  old_refuses (Ok old) (Ok new) (Ok seed) why told =
      ap (λ (o : Option ℕ). first_refusal (option_map (λ dataset. WrongKey dataset) o ∷ (tells old new seed).fault ∷ [])) (wrong_told old new seed)
      ∙ wrong_first old (wrong old) ((tells old new seed).fault ∷ []) why told

  new_refuses : (old : List ℕ) (new seed : Result (List ℕ) Refusal) (why : Refusal) → wrong old ≡ None → first_fault new seed ≡ Some why → first_refusal (change_material (told_anew wrong tells (Ok old) new seed)) ≡ Some why
  new_refuses old (Err first) seed why none told = ap (λ (o : Option ℕ). first_refusal (option_map (λ dataset. WrongKey dataset) o ∷ Some first ∷ [])) none ∙ told
  new_refuses old (Ok new) (Err first) why none told = ap (λ (o : Option ℕ). first_refusal (option_map (λ dataset. WrongKey dataset) o ∷ Some first ∷ [])) none ∙ told
  new_refuses old (Ok new) (Ok seed) why none told = absurd (cc)

module _ (c : Ciphers) (are : AreSound c) (p : Plain) (s : Sound c p) (name : List ℕ) (opts : Options) (load_first : Bool) (kit : LineKit) (id : ℕ)
    (state : refusal_of p (commands.Change name opts load_first) ≡ None) (at : target p (commands.Change name opts load_first) ≡ Some id) where
  abbrev change : KeyCmd
  change = commands.Change name opts load_first

  abbrev facts : Told
  facts = told c p change kit

  abbrev own : Option Props
  own = at_id id p.roots

  abbrev old_of : Result (List ℕ) Refusal
  old_of = old_key c p id load_first kit.old_key

  abbrev new_of : Result (List ℕ) Refusal
  new_of = new_key_of c own opts kit

  is : IsChangeable p id load_first
  is = changeable p name opts load_first id s.tree.tree state at

  pub encrypted : IsEncrypted p id
  encrypted = (is.first.row, is.first.found, is.first.crypt)

  pub iterations : are_bad_iterations opts.iters ≡ false
  iterations = (none_holds (change_cases p name opts load_first) state).1.1.1.1.0

  owner : (root : ℕ) × (owner_of p id ≡ Some root)
  owner = some_root (owner_of p id) (s.tree.owners id encrypted)

  told_is : facts ≡ told_anew (old_wrong c p id load_first) (told_changed c p id opts load_first) old_of new_of (seed_of kit.seed)
  told_is = ap (told_change c p opts load_first kit) at

  present_is : present_key c p id kit.old_key ≡ unless_told_wrong old_of (old_wrong c p id load_first)
  present_is = present_key_is c p id load_first kit.old_key is.key owner.0 owner.1

  refuses : (why : Refusal) → first_refusal (change_material (told_anew (old_wrong c p id load_first) (told_changed c p id opts load_first) old_of new_of (seed_of kit.seed))) ≡ Some why
      → step_by c p change kit ≡ refused p why
  refuses why material = refused_by_material p change facts why state (ap (λ (t : Told). first_refusal (change_material t)) told_is ∙ material)

  pub old_stops : (why : Refusal) → present_key c p id kit.old_key ≡ Err why → step_by c p change kit ≡ refused p why
  old_stops why failed = refuses why
      (old_refuses (old_wrong c p id load_first) (told_changed c p id opts load_first) (λ old new seed. refl) old_of new_of (seed_of kit.seed) why (sym present_is ∙ failed))

  module _ (old : List ℕ) (present : present_key c p id kit.old_key ≡ Ok old) where
    had : (old_of ≡ Ok old) × (old_wrong c p id load_first old ≡ None)
    had = key_had old_of (old_wrong c p id load_first) old (sym present_is ∙ present)

    pub opens : OpensPresent c p id old
    opens = (is_old_key c p s id is.first load_first kit.old_key old is.key had.0 had.1).opens

    pub new_stops : (why : Refusal) → first_fault new_of (seed_of kit.seed) ≡ Some why → step_by c p change kit ≡ refused p why
    new_stops why failed = refuses why
        (ap (λ (o : Result (List ℕ) Refusal). first_refusal (change_material (told_anew (old_wrong c p id load_first) (told_changed c p id opts load_first) o new_of (seed_of kit.seed)))) had.0
        ∙ new_refuses (old_wrong c p id load_first) (told_changed c p id opts load_first) (λ old new seed. refl) old new_of (seed_of kit.seed) why had.1 failed)

    module _ (plan : ChangePlan) (of_kit : IsToldChange c p id opts kit old plan) where
      abbrev tells : Told
      tells = told_changed c p id opts load_first old of_kit.key of_kit.seed

      abbrev salt : ℕ
      salt = changed_salt c own opts (Ok of_kit.seed)

      abbrev records : List (ℕ × List ℕ)
      records = rewrapped c of_kit.seed old of_kit.key 0 (owned (with_own_root p id opts 0) id)

      facts_are : facts ≡ tells
      facts_are = told_is
          ∙ ap (λ (o : Result (List ℕ) Refusal). told_anew (old_wrong c p id load_first) (told_changed c p id opts load_first) o new_of (seed_of kit.seed)) had.0
          ∙ ap (λ (n : Result (List ℕ) Refusal). told_anew (old_wrong c p id load_first) (told_changed c p id opts load_first) (Ok old) n (seed_of kit.seed)) of_kit.had_key
          ∙ ap (λ (k : Result (List ℕ) Refusal). told_anew (old_wrong c p id load_first) (told_changed c p id opts load_first) (Ok old) (Ok of_kit.key) k) of_kit.had_seed

      pub accepted : IsAccepted p change facts
      accepted = record {
        state = state;
        material = ap (λ (t : Told). first_refusal (change_material t)) facts_are ∙ ap (λ (o : Option ℕ). first_refusal (option_map (λ dataset. WrongKey dataset) o ∷ None ∷ [])) had.1;
      }

      step : step_by c p change kit ≡ change_done p opts facts (Some id)
      step = change_step p name opts load_first facts id at accepted

      pub done : (step_by c p change kit).reply ≡ Done
      done = ap (λ (st : Stepped). st.reply) step

      no_other : (family : ℕ) → is_same id (owner_of (with_own_root p id opts salt) family) ≡ false → at_id family records ≡ None
      no_other family other =
          let alike : owner_of (with_own_root p id opts 0) family ≡ owner_of (with_own_root p id opts salt) family =
          owner_alike p.tree.rows (with_id id (changed_props own opts 0) p.roots) (with_id id (changed_props own opts salt) p.roots)
          (with_props_alike id (changed_props own opts 0) (changed_props own opts salt) p.roots) family in
          no_record (λ m. is_same id (owner_of (with_own_root p id opts 0) m)) records p.wrapped (rewrapped_ids c of_kit.seed old of_kit.key 0 (owned (with_own_root p id opts 0) id)) family (ap (is_same id) alike ∙ other)

      as_changed : plan_state p id (Some (changed_props own opts salt)) (Some of_kit.key) records ≡ changed p id opts tells
      as_changed = ap (λ (w : List (ℕ × Stored)). record (with_own_root p id opts salt) { wrapped = w; loaded = with_id id of_kit.key p.loaded })
          (set_by_ids (owner_of (with_own_root p id opts salt)) id records p.wrapped no_other)

      plan_is : planned p plan ≡ (step_by c p change kit).state
      plan_is =
          planned_is p plan id (Some (changed_props own opts salt)) (Some of_kit.key) records of_kit.root of_kit.props of_kit.loaded of_kit.records
          ∙ as_changed ∙ ap (λ (t : Told). changed p id opts t) (sym facts_are) ∙ sym (ap (λ (st : Stepped). st.state) step)

      genuine : IsGenuine c p change facts
      genuine = change_genuine c p name opts load_first facts id accepted at (told_fair c p change kit are s)

      opened : AllOpen c of_kit.key records
      opened = subst (λ (t : Told). AllOpen c t.key t.wrapped) facts_are genuine.opened

      same : All (λ entry. c.opens entry.1 of_kit.key ≡ opened_in c p old entry.0) records
      same = same_masters c are p of_kit.seed old of_kit.key (owned (with_own_root p id opts 0) id)
          (entries_found c p s id old opens (with_id id (changed_props own opts 0) p.roots) id (owned_once_root c p s id (changed_props own opts 0)))
          (entries_open c p s id old opens (with_id id (changed_props own opts 0) p.roots) id (owned_once_root c p s id (changed_props own opts 0)))

      masters : KeepsMasters c p (old_key c p plan.root load_first kit.old_key) plan.key plan.wrapped.items
      masters = record {
        old = old;
        key = of_kit.key;
        had = ap (λ (m : ℕ). old_key c p m load_first kit.old_key) of_kit.root ∙ had.0;
        given = of_kit.loaded;
        opens = subst (λ (r : List (ℕ × List ℕ)). All (λ entry. is_some (c.opens entry.1 of_kit.key) ≡ true) r) (sym of_kit.records) opened;
        same = subst (λ (r : List (ℕ × List ℕ)). All (λ entry. c.opens entry.1 of_kit.key ≡ opened_in c p old entry.0) r) (sym of_kit.records) same;
      }

      pub is_plan : IsPlanOf c p change kit (old_key c p plan.root load_first kit.old_key) plan.key plan
      is_plan = record {
        accepted = accepted;
        state = plan_is;
        root = at ∙ ap (λ (m : ℕ). Some m) (sym of_kit.root);
        families = ap (λ (r : List (ℕ × List ℕ)). map (λ entry. entry.0) r) of_kit.records
            ∙ rewrapped_ids c of_kit.seed old of_kit.key 0 (owned (with_own_root p id opts 0) id) ∙ sym (ap (change_families p opts) at);
        masters = masters;
        kept = λ dataset has.
            ap (λ (q : Plain). mkey c q (family p.tree.rows dataset)) plan_is ∙ change_keeps_masters c p name opts load_first facts dataset s (told_fair c p change kit are s) accepted has;
      }

    -- the answers of the call
    pub answers : (result : Result ChangePlan Stop) → IfOk result (IsToldChange c p id opts kit old) → StopsAt result (first_fault new_of (seed_of kit.seed)) → AnswersDone result (step_by c p change kit).reply
    answers (Ok plan) of_kit stops = done plan of_kit
    answers (Err stop) of_kit stops =
        answers_fault stop (first_fault new_of (seed_of kit.seed)) (step_by c p change kit).reply stops (λ why failed. ap (λ (st : Stepped). st.reply) (new_stops why failed))

    pub plans : (result : Result ChangePlan Stop) → IfOk result (IsToldChange c p id opts kit old) → IfOk result (λ plan. IsPlanOf c p change kit (old_key c p plan.root load_first kit.old_key) plan.key plan)
    plans (Ok plan) of_kit = is_plan plan of_kit
    plans (Err stop) of_kit = tt

    pub planned_of : (result : Result ChangePlan Stop) → IfOk result (IsToldChange c p id opts kit old) → IfOk result (IsPlanned c p)
    planned_of (Ok plan) of_kit = record { command = change; kit = kit; rekeying = tt; accepted = accepted plan of_kit; state = sym (plan_is plan of_kit) }
    planned_of (Err stop) of_kit = tt

-- ---- the plan that the call makes

module _ (c : Ciphers) (p : Plain) (s : Sound c p) (id : ℕ) (opts : Options) (kit : LineKit) (old : List ℕ) (opens : OpensPresent c p id old) where
  pub told_plan : (own : Option Props) → own ≡ at_id id p.roots → (new : NewKey) → IsNewKey c own opts kit new → (families : List ℕ) → families ≡ owned_families p.tree.rows (with_id id new.props p.roots) id
      → (words : List ℕ) → words ≡ new.seed → (plan : ChangePlan) → plan.root ≡ id → plan.props ≡ Some new.props → plan.key ≡ Some new.key
      → plan.wrapped.items ≡ numbered (anew c p words old new.key) 0 families → IsToldChange c p id opts kit old plan
  told_plan had had_is new is_new families are_families words words_are plan root props key records =
      let is : IsNewKey c (at_id id p.roots) opts kit new = subst (λ (o : Option Props). IsNewKey c o opts kit new) had_is is_new in
      record {
        seed = new.seed;
        key = new.key;
        had_seed = is.seed;
        had_key = is.key;
        root = root;
        props = props ∙ ap (λ (n : Props). Some n) is.props
            ∙ ap (λ (k : Result (List ℕ) Refusal). Some (changed_props (at_id id p.roots) opts (changed_salt c (at_id id p.roots) opts k))) is.seed;
        loaded = key;
        records = records
            ∙ ap (λ (w : List ℕ). numbered (anew c p w old new.key) 0 families) words_are
            ∙ written_are c p s id old opens (with_id id new.props p.roots) id (owned_once_root c p s id new.props) families are_families new.seed new.key
            ∙ ap (λ (e : List (ℕ × Stored)). rewrapped c new.seed old new.key 0 e) (owned_alike p id opts new.props);
      }
