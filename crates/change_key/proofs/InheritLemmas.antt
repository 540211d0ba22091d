-- The plan of an inherit is its step, and what refuses it refuses the step.
use Rattle.std.proofs.Common.{◌≡◌, ℕ, Bool, true, false, not, cond, ◌&&◌, ◌==◌, List, [], ◌∷◌, map, Option, Some, None, Result, Ok, Err, IfOk, IfSome, is_some, option_map, refl, ap, sym, ◌∙◌, subst}
use Rattle.std.proofs.lemmas.Bool.{cases_Bool}
use Rattle.std.specs.Prelude.{unwrap_or, if◌then◌else◌}
use Rattle.std.specs.List.{All}
use Rattle.std.specs.Option.{option_and_then}
use Rattle.std.specs.Result.{result_err}
use Rattle.dataset_tree.specs.Refusal.{number_of}
use Rattle.dataset_tree.specs.declared.refusal.Refusal.{Refusal}
use Rattle.dataset_tree.specs.declared.refusal.Refusal.TheVariants.{WrongKey, KeyUnavailable, EntropyFault}
use Rattle.dataset_tree.specs.declared.refusal.Stop.{Stop}
use Rattle.dataset_tree.specs.declared.tree.Row.{Row}
use Rattle.dataset_tree.specs.Tree.{row_of, row_named}
use Rattle.encryption_roots.specs.declared.command.KeyCmd.{KeyCmd}
use Rattle.encryption_roots.specs.declared.command.KeyCmd.TheVariants as commands
use Rattle.encryption_roots.specs.declared.kit.LineKit.{LineKit}
use Rattle.encryption_roots.specs.declared.kit.Fetched.{Fetched}
use Rattle.encryption_roots.specs.declared.kit.SeedGot.{SeedGot}
use Rattle.encryption_roots.specs.declared.kit.SeedGot.TheVariants as seeds
use Rattle.encryption_roots.specs.declared.props.Props.{Props}
use Rattle.encryption_roots.specs.ById.{at_id, without_id}
use Rattle.encryption_roots.specs.Owned.{owned_families}
use Rattle.encryption_roots.specs.Owners.{family}
use Rattle.encryption_roots.proofs.OwnerLemmas.{owner_of_root}
use Rattle.key_machine.specs.declared.view.ChangePlan.{ChangePlan}
use Rattle.key_machine.specs.Create.{has_parent_key}
use Rattle.key_machine.specs.Fair.{AreSound, IsGenuine, AllOpen, families_written}
use Rattle.key_machine.specs.Inherit.{inherit_cases, inherit_material, row_above, unless_seed, key_fault, key_above, told_inherited, told_inherit, inherit_families, inherit_key, inherited, inherit_done}
use Rattle.key_machine.specs.Plain.{Plain, Stored, Ciphers, owner_of, is_root, is_same, owned, has_key_of, mkey}
use Rattle.key_machine.specs.Plan.{planned, IsPlanned}
use Rattle.key_machine.specs.Refusals.{first_refusal}
use Rattle.key_machine.specs.Rekey.{fetches_old, fetched_old, present_props, present_key as loaded_key, old_key, old_wrong, rewrapped, told_anew}
use Rattle.key_machine.specs.Reply.{Stepped, Done, refused}
use Rattle.key_machine.specs.Sound.{Sound}
use Rattle.key_machine.specs.Step.{refusal_of, told, target, key_step, IsAccepted}
use Rattle.key_machine.specs.Told.{Told, no_key, key_of, seed_of}
use Rattle.key_machine.proofs.ChangeLaws.{first_named, found_id}
use Rattle.key_machine.proofs.CreateLawsStep.{NoneHolds, none_holds}
use Rattle.key_machine.proofs.FairLaws.{told_fair, inherit_genuine}
use Rattle.key_machine.proofs.InheritLaws.{IsInheritable, inheritable}
use Rattle.key_machine.proofs.RekeyFair.{is_old_key}
use Rattle.key_machine.proofs.RekeyLaws.{inherit_step, inherit_keeps_masters}
use Rattle.key_machine.proofs.RekeyRecords.{rewrapped_ids}
use Rattle.key_machine.proofs.SoundLemmas.{refused_by_material}
use Rattle.change_key.specs.Keys.{unless_told_wrong, root_key, loaded_above, StopsAt}
use Rattle.key_ciphers.specs.Calls.{step_by, AnswersDone}
use Rattle.change_key.specs.Plans.{IsPlanOf, KeepsMasters, IsToldInherit, OpensPresent}
use Rattle.change_key.specs.Records.{opened_in, anew as by_number, numbered}
use Rattle.change_key.proofs.FamilyRecords.{entries_found, entries_open, owner_named, written_are}
use Rattle.change_key.proofs.KeyLemmas.{root_key_is}
use Rattle.change_key.proofs.PlanLemmas.{plan_state, planned_is, no_record, wrong_first, key_had, answers_fault}
use Rattle.change_key.proofs.RecordLemmas.{same_masters, set_by_ids}

-- ---- what the material refuses

-- a fault of a key isn't one of the seed
abbrev pub IsApart : Refusal → Type 0
IsApart why = (number_of why == number_of EntropyFault) ≡ false

abbrev refusal_by : Bool → Told → Option Refusal
refusal_by above told = first_refusal (key_fault told ∷ option_map (λ dataset. WrongKey dataset) told.wrong ∷ (if above then None else Some KeyUnavailable) ∷ told.fault ∷ [])

module _ (c : Ciphers) (p : Plain) (id : ℕ) (load_first : Bool) (above : Bool) where
  abbrev anew : (old : Result (List ℕ) Refusal) (new : List ℕ) → SeedGot → Told
  anew old new seed = told_anew (old_wrong c p id load_first) (told_inherited c p id load_first) old (Ok new) (seed_of seed)

  old_refuses : (old : Result (List ℕ) Refusal) (new : List ℕ) (seed : SeedGot) (why : Refusal) → ((first : Refusal) → old ≡ Err first → IsApart first) → unless_told_wrong old (old_wrong c p id load_first) ≡ Err why
      → refusal_by above (anew old new seed) ≡ Some why
  old_refuses (Err first) new seed why apart stops =
      let same : first ≡ why = cc in
      ap (λ b. first_refusal ((if b then None else Some first) ∷ None ∷ (if above then None else Some KeyUnavailable) ∷ Some first ∷ [])) (apart first refl) ∙ ap (λ w. Some w) same
  old_refuses (Ok old) new (seeds.Got seed) why apart stops = wrong_first old (old_wrong c p id load_first old) ((if above then None else Some KeyUnavailable) ∷ None ∷ []) why stops
  old_refuses (Ok old) new seeds.Fault why apart stops = wrong_first old (old_wrong c p id load_first old) ((if above then None else Some KeyUnavailable) ∷ Some EntropyFault ∷ []) why stops
  old_refuses (Ok old) new seeds.NotAsked why apart stops = wrong_first old (old_wrong c p id load_first old) ((if above then None else Some KeyUnavailable) ∷ Some EntropyFault ∷ []) why stops

  rest_of : (old : List ℕ) (new : List ℕ) (seed : SeedGot) → old_wrong c p id load_first old ≡ None
      → refusal_by above (anew (Ok old) new seed) ≡ first_refusal ((if above then None else Some KeyUnavailable) ∷ (anew (Ok old) new seed).fault ∷ [])
  rest_of old new (seeds.Got seed) none = ap (λ (o : Option ℕ). first_refusal (None ∷ option_map (λ dataset. WrongKey dataset) o ∷ (if above then None else Some KeyUnavailable) ∷ None ∷ [])) none
  rest_of old new seeds.Fault none = ap (λ (o : Option ℕ). first_refusal (None ∷ option_map (λ dataset. WrongKey dataset) o ∷ (if above then None else Some KeyUnavailable) ∷ Some EntropyFault ∷ [])) none
  rest_of old new seeds.NotAsked none = ap (λ (o : Option ℕ). first_refusal (None ∷ option_map (λ dataset. WrongKey dataset) o ∷ (if above then None else Some KeyUnavailable) ∷ Some EntropyFault ∷ [])) none

failed_seed : (seed : Result (List ℕ) Refusal) (why : Refusal) → result_err seed ≡ Some why → seed ≡ Err why
failed_seed (Ok seed) why failed = absurd (cc)
failed_seed (Err first) why failed = let same : first ≡ why = cc in ap (λ (w : Refusal). Err w) same

fault_is : (c : Ciphers) (p : Plain) (id : ℕ) (load_first : Bool) (old new : List ℕ) (seed : Result (List ℕ) Refusal) (why : Refusal) → seed ≡ Err why
    → (told_anew (old_wrong c p id load_first) (told_inherited c p id load_first) (Ok old) (Ok new) seed).fault ≡ Some why
fault_is c p id load_first old new seed why is = ap (λ (k : Result (List ℕ) Refusal). (told_anew (old_wrong c p id load_first) (told_inherited c p id load_first) (Ok old) (Ok new) k).fault) is

-- ---- a fault of the old key is one of what was fetched

old_fault_apart : (c : Ciphers) (p : Plain) (id : ℕ) (load_first : Bool) (fetched : Fetched) (why : Refusal)
    → ((props : Props) (first : Refusal) → key_of c props.format props.iters props.salt fetched ≡ Err first → IsApart first) → old_key c p id load_first fetched ≡ Err why → IsApart why
old_fault_apart c p id load_first fetched why apart = by_fetch (fetches_old p id load_first) where
  by_props : (own : Option Props) → fetched_old c own fetched ≡ Err why → IsApart why
  by_props None failed = absurd (cc)
  by_props (Some props) failed = apart props why failed

  by_fetch : (b : Bool) → cond b (fetched_old c (present_props p id) fetched) (Ok (loaded_key p id)) ≡ Err why → IsApart why
  by_fetch true failed = by_props (present_props p id) failed
  by_fetch false failed = absurd (cc)

-- ---- the key above

loaded_there : (p : Plain) (row : Option Row) → has_parent_key p row ≡ is_some (option_and_then (λ root. at_id root p.loaded) (option_and_then (λ parent. owner_of p parent.id) row))
loaded_there p None = refl
loaded_there p (Some parent) = by (owner_of p parent.id) where
  by : (found : Option ℕ) → has_key_of p found ≡ is_some (option_and_then (λ root. at_id root p.loaded) found)
  by None = refl
  by (Some root) = refl

module _ (c : Ciphers) (are : AreSound c) (p : Plain) (s : Sound c p) (name : List ℕ) (load_first : Bool) (kit : LineKit) (id : ℕ)
    (state : refusal_of p (commands.Inherit name load_first) ≡ None) (at : target p (commands.Inherit name load_first) ≡ Some id) where
  abbrev inherit : KeyCmd
  inherit = commands.Inherit name load_first

  abbrev facts : Told
  facts = told c p inherit kit

  abbrev old_of : Result (List ℕ) Refusal
  old_of = old_key c p id load_first kit.old_key

  abbrev has_above : Bool
  has_above = has_parent_key p (row_above p (row_named name p.tree.rows))

  is : IsInheritable p id load_first
  is = inheritable p name load_first id s.tree.tree state at

  pub is_a_root : is_root p id ≡ true
  is_a_root = is.root

  owner : owner_of p id ≡ Some id
  owner = owner_of_root p.tree p.roots id is.first.row (s.tree.tree, is.first.found) is.first.crypt is.root

  of_owner : (family : ℕ) → is_same id (owner_of p family) ≡ true → owner_of p family ≡ owner_of p id
  of_owner family own = owner_named id (owner_of p family) own ∙ sym owner

  told_is : facts ≡ told_anew (old_wrong c p id load_first) (told_inherited c p id load_first) old_of (Ok (key_above p id)) (seed_of kit.seed)
  told_is = ap (told_inherit c p load_first kit) at

  present_is : root_key c p id kit.old_key ≡ unless_told_wrong old_of (old_wrong c p id load_first)
  present_is = root_key_is c p id load_first kit.old_key is.key id owner

  refuses : (why : Refusal) → refusal_by has_above (told_anew (old_wrong c p id load_first) (told_inherited c p id load_first) old_of (Ok (key_above p id)) (seed_of kit.seed)) ≡ Some why
      → step_by c p inherit kit ≡ refused p why
  refuses why material = refused_by_material p inherit facts why state (ap (λ (t : Told). refusal_by has_above t) told_is ∙ material)

  pub old_stops : ((props : Props) (first : Refusal) → key_of c props.format props.iters props.salt kit.old_key ≡ Err first → IsApart first) → (why : Refusal) → root_key c p id kit.old_key ≡ Err why
      → step_by c p inherit kit ≡ refused p why
  old_stops apart why failed =
      refuses why (old_refuses c p id load_first has_above old_of (key_above p id) kit.seed why (λ first is_first. old_fault_apart c p id load_first kit.old_key first apart is_first) (sym present_is ∙ failed))

  -- the row of the name is that of the id
  same_row : row_named name p.tree.rows ≡ row_of id p.tree.rows
  same_row =
      let none : NoneHolds (inherit_cases p name load_first) = none_holds (inherit_cases p name load_first) state in
      let first = first_named p name id (row_named name p.tree.rows) refl s.tree.tree none.0 none.1.0 none.1.1.0 at in
      first.1 ∙ sym first.0.found

  above_is : has_above ≡ is_some (loaded_above p id)
  above_is = ap (λ (r : Option Row). has_parent_key p (row_above p r)) same_row ∙ loaded_there p (row_above p (row_of id p.tree.rows))

  module _ (old : List ℕ) (present : root_key c p id kit.old_key ≡ Ok old) where
    had : (old_of ≡ Ok old) × (old_wrong c p id load_first old ≡ None)
    had = key_had old_of (old_wrong c p id load_first) old (sym present_is ∙ present)

    pub opens : OpensPresent c p id old
    opens = (is_old_key c p s id is.first load_first kit.old_key old is.key had.0 had.1).opens

    by_rest : (why : Refusal) → first_refusal ((if has_above then None else Some KeyUnavailable) ∷ (anew c p id load_first has_above (Ok old) (key_above p id) kit.seed).fault ∷ []) ≡ Some why → step_by c p inherit kit ≡ refused p why
    by_rest why rest = refuses why
        (ap (λ (o : Result (List ℕ) Refusal). refusal_by has_above (told_anew (old_wrong c p id load_first) (told_inherited c p id load_first) o (Ok (key_above p id)) (seed_of kit.seed))) had.0
        ∙ rest_of c p id load_first has_above old (key_above p id) kit.seed had.1 ∙ rest)

    pub above_stops : loaded_above p id ≡ None → step_by c p inherit kit ≡ refused p KeyUnavailable
    above_stops none =
        let not_above : has_above ≡ false = above_is ∙ ap (λ (k : Option (List ℕ)). is_some k) none in
        by_rest KeyUnavailable (ap (λ b. first_refusal ((if b then None else Some KeyUnavailable) ∷ (anew c p id load_first has_above (Ok old) (key_above p id) kit.seed).fault ∷ [])) not_above)

    module _ (new : List ℕ) (there : loaded_above p id ≡ Some new) where
      is_above : has_above ≡ true
      is_above = above_is ∙ ap (λ (k : Option (List ℕ)). is_some k) there

      new_is : key_above p id ≡ new
      new_is = ap (λ (k : Option (List ℕ)). unwrap_or k no_key) there

      pub seed_stops : (why : Refusal) → seed_of kit.seed ≡ Err why → step_by c p inherit kit ≡ refused p why
      seed_stops why failed = by_rest why
          (ap (λ b. first_refusal ((if b then None else Some KeyUnavailable) ∷ (anew c p id load_first has_above (Ok old) (key_above p id) kit.seed).fault ∷ [])) is_above
          ∙ ap (λ (f : Option Refusal). first_refusal (None ∷ f ∷ [])) (fault_is c p id load_first old (key_above p id) (seed_of kit.seed) why failed))

      module _ (plan : ChangePlan) (of_kit : IsToldInherit c p id kit old new plan) where
        abbrev tells : Told
        tells = told_inherited c p id load_first old new of_kit.seed

        abbrev records : List (ℕ × List ℕ)
        records = rewrapped c of_kit.seed old new 0 (owned p id)

        facts_are : facts ≡ tells
        facts_are = told_is
            ∙ ap (λ (o : Result (List ℕ) Refusal). told_anew (old_wrong c p id load_first) (told_inherited c p id load_first) o (Ok (key_above p id)) (seed_of kit.seed)) had.0
            ∙ ap (λ (n : List ℕ). told_anew (old_wrong c p id load_first) (told_inherited c p id load_first) (Ok old) (Ok n) (seed_of kit.seed)) new_is
            ∙ ap (λ (k : Result (List ℕ) Refusal). told_anew (old_wrong c p id load_first) (told_inherited c p id load_first) (Ok old) (Ok new) k) of_kit.had_seed

        pub accepted : IsAccepted p inherit facts
        accepted = record {
          state = state;
          material = ap (λ (t : Told). refusal_by has_above t) facts_are
              ∙ ap (λ (o : Option ℕ). first_refusal (None ∷ option_map (λ dataset. WrongKey dataset) o ∷ (if has_above then None else Some KeyUnavailable) ∷ None ∷ [])) had.1
              ∙ ap (λ b. first_refusal (None ∷ None ∷ (if b then None else Some KeyUnavailable) ∷ None ∷ [])) is_above;
        }

        step : step_by c p inherit kit ≡ inherit_done p facts (Some id)
        step = inherit_step p name load_first facts id at accepted

        pub done : (step_by c p inherit kit).reply ≡ Done
        done = ap (λ (st : Stepped). st.reply) step

        no_other : (family : ℕ) → is_same id (owner_of p family) ≡ false → at_id family records ≡ None
        no_other family other = no_record (λ m. is_same id (owner_of p m)) records p.wrapped (rewrapped_ids c of_kit.seed old new 0 (owned p id)) family other

        as_inherited : plan_state p id None None records ≡ inherited p id tells
        as_inherited = ap (λ (w : List (ℕ × Stored)). record p { roots = without_id id p.roots; wrapped = w; loaded = without_id id p.loaded }) (set_by_ids (owner_of p) id records p.wrapped no_other)

        plan_is : planned p plan ≡ (step_by c p inherit kit).state
        plan_is =
            planned_is p plan id None None records of_kit.root of_kit.props of_kit.loaded of_kit.records
            ∙ as_inherited ∙ ap (λ (t : Told). inherited p id t) (sym facts_are) ∙ sym (ap (λ (st : Stepped). st.state) step)

        genuine : IsGenuine c p inherit facts
        genuine = inherit_genuine c p name load_first facts id accepted at (told_fair c p inherit kit are s)

        opened : AllOpen c new records
        opened =
            subst (λ (k : List ℕ). AllOpen c k records) (ap (inherit_key p) at ∙ new_is)
            (subst (λ (t : Told). AllOpen c (inherit_key p (target p inherit)) t.wrapped) facts_are genuine.opened)

        same : All (λ entry. c.opens entry.1 new ≡ opened_in c p old entry.0) records
        same = same_masters c are p of_kit.seed old new (owned p id) (entries_found c p s id old opens p.roots id of_owner) (entries_open c p s id old opens p.roots id of_owner)

        masters : KeepsMasters c p (old_key c p plan.root load_first kit.old_key) (loaded_above p plan.root) plan.wrapped.items
        masters = record {
          old = old;
          key = new;
          had = ap (λ (m : ℕ). old_key c p m load_first kit.old_key) of_kit.root ∙ had.0;
          given = ap (loaded_above p) of_kit.root ∙ there;
          opens = subst (λ (r : List (ℕ × List ℕ)). All (λ entry. is_some (c.opens entry.1 new) ≡ true) r) (sym of_kit.records) opened;
          same = subst (λ (r : List (ℕ × List ℕ)). All (λ entry. c.opens entry.1 new ≡ opened_in c p old entry.0) r) (sym of_kit.records) same;
        }

        pub is_plan : IsPlanOf c p inherit kit (old_key c p plan.root load_first kit.old_key) (loaded_above p plan.root) plan
        is_plan = record {
          accepted = accepted;
          state = plan_is;
          root = at ∙ ap (λ (m : ℕ). Some m) (sym of_kit.root);
          families = ap (λ (r : List (ℕ × List ℕ)). map (λ entry. entry.0) r) of_kit.records ∙ rewrapped_ids c of_kit.seed old new 0 (owned p id) ∙ sym (ap (inherit_families p) at);
          masters = masters;
          kept = λ dataset has.
              ap (λ (q : Plain). mkey c q (family p.tree.rows dataset)) plan_is ∙ inherit_keeps_masters c p name load_first facts dataset s (told_fair c p inherit kit are s) accepted has;
        }

      -- the answers of the call
      pub answers : (result : Result ChangePlan Stop) → IfOk result (IsToldInherit c p id kit old new) → StopsAt result (result_err (seed_of kit.seed)) → AnswersDone result (step_by c p inherit kit).reply
      answers (Ok plan) of_kit stops = done plan of_kit
      answers (Err stop) of_kit stops =
          answers_fault stop (result_err (seed_of kit.seed)) (step_by c p inherit kit).reply stops (λ why failed. ap (λ (st : Stepped). st.reply) (seed_stops why (failed_seed (seed_of kit.seed) why failed)))

      pub plans : (result : Result ChangePlan Stop) → IfOk result (IsToldInherit c p id kit old new) → IfOk result (λ plan. IsPlanOf c p inherit kit (old_key c p plan.root load_first kit.old_key) (loaded_above p plan.root) plan)
      plans (Ok plan) of_kit = is_plan plan of_kit
      plans (Err stop) of_kit = tt

      pub planned_of : (result : Result ChangePlan Stop) → IfOk result (IsToldInherit c p id kit old new) → IfOk result (IsPlanned c p)
      planned_of (Ok plan) of_kit = record { command = inherit; kit = kit; rekeying = tt; accepted = accepted plan of_kit; state = sym (plan_is plan of_kit) }
      planned_of (Err stop) of_kit = tt

-- ---- the plan that the call makes

root_owns : (c : Ciphers) (p : Plain) → Sound c p → (id : ℕ) → is_root p id ≡ true → owner_of p id ≡ Some id
root_owns c p s id root =
    let crypt = s.tree.roots_encrypted id root in
    owner_of_root p.tree p.roots id crypt.0 (s.tree.tree, crypt.1) crypt.2 root

module _ (c : Ciphers) (p : Plain) (s : Sound c p) (id : ℕ) (root : is_root p id ≡ true) (kit : LineKit) (old new : List ℕ) (opens : OpensPresent c p id old) where
  pub of_root : (family : ℕ) → is_same id (owner_of p family) ≡ true → owner_of p family ≡ owner_of p id
  of_root family own = owner_named id (owner_of p family) own ∙ sym (root_owns c p s id root)

  pub told_plan : (seed families : List ℕ) → seed_of kit.seed ≡ Ok seed → families ≡ owned_families p.tree.rows p.roots id → (words : List ℕ) → words ≡ seed → (plan : ChangePlan) → plan.root ≡ id → plan.props ≡ None
      → plan.key ≡ None → plan.wrapped.items ≡ numbered (by_number c p words old new) 0 families → IsToldInherit c p id kit old new plan
  told_plan seed families had are_families words words_are plan root_is props key records = record {
    seed = seed;
    had_seed = had;
    root = root_is;
    props = props;
    loaded = key;
    records = records ∙ ap (λ (w : List ℕ). numbered (by_number c p w old new) 0 families) words_are ∙ written_are c p s id old opens p.roots id of_root families are_families seed new;
  }
