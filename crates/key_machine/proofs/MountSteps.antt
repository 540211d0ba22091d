-- What mounts, unmounts and reaps answer, and what they leave.
use Rattle.std.proofs.Common.{◌≡◌, ◌≢◌, ◌↔◌, ◌⊎◌, ⊎_elim, inl, inr, ℕ, suc, ◌+◌, ◌<◌, ◌≤◌, Bool, true, false, not, ◌==◌, ◌||◌, List, [], ◌∷◌, ◌++◌, length, get_or, set, Option, Some, None, is_some, option_map, refl, ap, sym, ◌∙◌, subst, arith, if◌then◌else◌}
use Rattle.std.proofs.lemmas.Bool.{eq-eqb, eqb-true, or_parts, cases_Bool}
use Rattle.std.proofs.lemmas.Bool.Decides.{nat_tests}
use Rattle.std.specs.Prelude.{is_none}
use Rattle.std.specs.List.{count_by, filter}
use Rattle.std.specs.Option.{option_and_then}
use Rattle.dataset_tree.specs.declared.kinds.Kind.TheVariants.{Crypt}
use Rattle.dataset_tree.specs.declared.refusal.Refusal.{Refusal}
use Rattle.dataset_tree.specs.declared.refusal.Refusal.TheVariants.{NoSuch, NotEncrypted, Mounted, NotMounted, KeyUnavailable, Full}
use Rattle.dataset_tree.specs.declared.tree.Row.{Row}
use Rattle.dataset_tree.specs.Tree.{row_named}
use Rattle.encryption_roots.specs.declared.command.KeyCmd.TheVariants as commands
use Rattle.encryption_roots.specs.ById.{at_id, with_id, without_id}
use Rattle.encryption_roots.specs.Owners.{family}
use Rattle.encryption_roots.proofs.ByIdLemmas.{at_id-with_id, at_id-with_id_other}
use Rattle.key_machine.specs.Counts.{is_opened}
use Rattle.key_machine.specs.Free.{IsLowestFree, AllBlocked}
use Rattle.key_machine.specs.Kept.{KeepsKey}
use Rattle.key_machine.specs.Mount.{free_slot, is_mapped, is_mounted_row, has_slot_row, mount_cases, mounted_on, mounted_at, mount_done}
use Rattle.key_machine.specs.Plain.{Plain, Ciphers, has_key, is_encrypted_row, is_encrypted_kind}
use Rattle.key_machine.specs.Reap.{mapping_in_use, reaped, reap_found, reap_step}
use Rattle.key_machine.specs.Refusals.{first_of}
use Rattle.key_machine.specs.Rekey.{has_key_row}
use Rattle.key_machine.specs.Reply.{Stepped, Done, Refused, Reaped}
use Rattle.key_machine.specs.Step.{key_step, refusal_of, target, IsAccepted}
use Rattle.key_machine.specs.Told.{Told}
use Rattle.key_machine.specs.Unload.{InUse}
use Rattle.key_machine.specs.Unmount.{unmount_done}
use Rattle.key_machine.specs.Users.{generation_of, is_mounted, users_of, is_used, mkey_users, with_mount}
use Rattle.key_machine.proofs.CreateLawsStep.{NoneHolds, none_holds}
use Rattle.key_machine.proofs.KeyLists.{at_id_is, count_at}
use Rattle.key_machine.proofs.MountLaws.{IsMountable, mountable}
use Rattle.key_machine.proofs.NamedLaws.{IsNamed, named}
use Rattle.key_machine.proofs.SlotLaws.{lowest_free, all_blocked, blocked_all, mounted_with, with_without, other_generation}
use Rattle.key_machine.proofs.SoundLemmas.{by_step, accepted_step, refused_step}
use Rattle.key_machine.proofs.UnloadLaws.{IsApart}

-- ---- lists of cases

-- a reason that the cases before don't have is that of the case behind them
holds_behind : (why : Refusal) (front : List (Bool × Refusal)) (case : Bool × Refusal) → IsApart why front → first_of (front ++ case ∷ []) ≡ Some why → case.0 ≡ true
holds_behind why [] case apart found = ⊎_elim (λ (holds : case.0 ≡ true). holds) (λ (fails : case.0 ≡ false). absurd (let none : None ≡ Some why = rw fails at found in cc)) (cases_Bool case.0)
holds_behind why (other ∷ front) case apart found = ⊎_elim (λ (holds : other.0 ≡ true). absurd (apart.0 (let here : Some other.1 ≡ Some why = rw holds at found in cc)))
    (λ (fails : other.0 ≡ false). holds_behind why front case apart.1 (rw fails at found)) (cases_Bool other.0)

passes_by : (b : Bool) (why : Refusal) (cases : List (Bool × Refusal)) → b ≡ false → first_of ((b, why) ∷ cases) ≡ first_of cases
passes_by true why cases fails = absurd (cc)
passes_by false why cases fails = refl

stops_at : (b : Bool) (why : Refusal) (cases : List (Bool × Refusal)) → b ≡ true → first_of ((b, why) ∷ cases) ≡ Some why
stops_at true why cases holds = refl
stops_at false why cases holds = absurd (cc)

no_value : {X : Type 0} (found : Option X) → is_some found ≡ false → found ≡ None
no_value None none = refl
no_value (Some x) none = absurd (cc)

value_of : {X : Type 0} (found : Option X) → is_some found ≡ true → (x : X) × (found ≡ Some x)
value_of None there = absurd (cc)
value_of (Some x) there = (x, refl)

not_true : (b : Bool) → not b ≡ true → b ≡ false
not_true true h = absurd (cc)
not_true false h = refl

-- ---- a mount

module _ (p : Plain) (name : List ℕ) (told : Told) where
  mount_at : (id : ℕ) → target p (commands.Mount name) ≡ Some id → IsAccepted p (commands.Mount name) told → key_step p (commands.Mount name) told ≡ mounted_at p id (at_id id p.mapped)
  mount_at id found accepted = accepted_step p (commands.Mount name) told accepted ∙ ap (λ at. mount_done p at) found

  pub mapped_again : (id slot : ℕ) → target p (commands.Mount name) ≡ Some id → at_id id p.mapped ≡ Some slot → IsAccepted p (commands.Mount name) told
      → key_step p (commands.Mount name) told ≡ (let stepped : Stepped = record { state = record p { mounted = with_mount id p.mounted }; reply = Done } in stepped)
  mapped_again id slot found there accepted = mount_at id found accepted ∙ ap (λ place. mounted_at p id place) there

  mount_free : (id : ℕ) → target p (commands.Mount name) ≡ Some id → at_id id p.mapped ≡ None → IsAccepted p (commands.Mount name) told → key_step p (commands.Mount name) told ≡ mounted_on p id (free_slot p)
  mount_free id found absent accepted = mount_at id found accepted ∙ ap (λ place. mounted_at p id place) absent

  -- an accepted mount that isn't one of a mapping finds a free slot
  free_there : (id : ℕ) → target p (commands.Mount name) ≡ Some id → at_id id p.mapped ≡ None → IsAccepted p (commands.Mount name) told → is_some (free_slot p) ≡ true
  free_there id found absent accepted =
      let is : IsMountable p id = mountable p name id accepted.state found in
      let unmapped : is_mapped p id ≡ false = ap (λ (place : Option ℕ). is_some place) absent in
      right (is_mapped p id) (is_some (free_slot p)) unmapped is.place
    where
      right : (a b : Bool) → a ≡ false → (a || b) ≡ true → b ≡ true
      right true b none either = absurd (cc)
      right false b none either = either

  abbrev Fresh : ℕ → ℕ → Stepped
  Fresh id slot = record { state = record p { gens = set p.gens slot (generation_of p slot + 1); mapped = with_id id slot p.mapped; mounted = with_mount id p.mounted }; reply = Done }

  pub fresh_mount : (id : ℕ) → target p (commands.Mount name) ≡ Some id → at_id id p.mapped ≡ None → IsAccepted p (commands.Mount name) told
      → (slot : ℕ) × IsLowestFree p slot × (key_step p (commands.Mount name) told ≡ Fresh id slot)
  fresh_mount id found absent accepted =
      let slot : (slot : ℕ) × (free_slot p ≡ Some slot) = value_of (free_slot p) (free_there id found absent accepted) in
      (slot.0, lowest_free p slot.0 slot.1, mount_free id found absent accepted ∙ ap (λ free. mounted_on p id free) slot.1)

-- ---- no free slot

abbrev cases_of : Plain → Option Row → List (Bool × Refusal)
cases_of p row = (is_none row, NoSuch) ∷ (not (is_encrypted_row row), NotEncrypted) ∷ (is_mounted_row p row, Mounted) ∷ (not (has_key_row p row), KeyUnavailable) ∷ (not (has_slot_row p row), Full 256) ∷ []

-- the named dataset isn't mapped, and no slot is free
abbrev IsFull : Plain → List ℕ → Type 0
IsFull p name = AllBlocked p × ((row : Row) → row_named name p.tree.rows ≡ Some row → at_id row.id p.mapped ≡ None)

only_row : (p : Plain) (name : List ℕ) (row : Row) → row_named name p.tree.rows ≡ Some row → at_id row.id p.mapped ≡ None → (other : Row) → row_named name p.tree.rows ≡ Some other → at_id other.id p.mapped ≡ None
only_row p name row found absent other same = let both : Some row ≡ Some other = sym found ∙ same in let one : row ≡ other = cc in subst (λ (r : Row). at_id r.id p.mapped ≡ None) one absent

full_state : (p : Plain) (name : List ℕ) (row : Option Row) → row_named name p.tree.rows ≡ row → first_of (cases_of p row) ≡ Some (Full 256) → IsFull p name
full_state p name None named found = absurd (let apart : Some NoSuch ≡ Some (Full 256) = found in cc)
full_state p name (Some row) named found =
    let front : List (Bool × Refusal) = (is_none (Some row), NoSuch) ∷ (not (is_encrypted_row (Some row)), NotEncrypted) ∷ (is_mounted p row.id, Mounted) ∷ (not (has_key p row.id), KeyUnavailable) ∷ [] in
    let last : not (is_mapped p row.id || is_some (free_slot p)) ≡ true =
    holds_behind (Full 256) front (not (is_mapped p row.id || is_some (free_slot p)), Full 256) (λ e. absurd (cc), (λ e. absurd (cc), (λ e. absurd (cc), (λ e. absurd (cc), tt)))) found in
    let parts : (is_mapped p row.id ≡ false) × (is_some (free_slot p) ≡ false) = or_parts (is_mapped p row.id) (is_some (free_slot p)) (not_true (is_mapped p row.id || is_some (free_slot p)) last) in
    (all_blocked p (no_value (free_slot p) parts.1), only_row p name row named (no_value (at_id row.id p.mapped) parts.0))

module _ (p : Plain) (name : List ℕ) where
  full_on : (id : ℕ) (free : Option ℕ) → free_slot p ≡ free → at_id id p.mapped ≡ None → target p (commands.Mount name) ≡ Some id → (mounted_on p id free).reply ≡ Refused (Full 256) → IsFull p name
  full_on id None none absent at reply =
      let is : IsNamed p name id = named p name id at in
      (all_blocked p none, only_row p name is.row is.found (ap (λ (m : ℕ). at_id m p.mapped) is.same ∙ absent))
  full_on id (Some slot) found absent at reply = absurd (let apart : Done ≡ Refused (Full 256) = reply in cc)

  full_at : (id : ℕ) (place : Option ℕ) → at_id id p.mapped ≡ place → target p (commands.Mount name) ≡ Some id → (mounted_at p id place).reply ≡ Refused (Full 256) → IsFull p name
  full_at id None absent at reply = full_on id (free_slot p) refl absent at reply
  full_at id (Some slot) there at reply = absurd (let apart : Done ≡ Refused (Full 256) = reply in cc)

  full_done : (found : Option ℕ) → target p (commands.Mount name) ≡ found → (mount_done p found).reply ≡ Refused (Full 256) → IsFull p name
  full_done None at reply = absurd (let apart : Refused NoSuch ≡ Refused (Full 256) = reply in cc)
  full_done (Some id) at reply = full_at id (at_id id p.mapped) refl at reply

  pub full_mount : (told : Told) → (key_step p (commands.Mount name) told).reply ≡ Refused (Full 256) → IsFull p name
  full_mount told reply =
      by_step p (commands.Mount name) told (λ stepped. stepped.reply ≡ Refused (Full 256) → IsFull p name) (λ accepted answered. full_done (target p (commands.Mount name)) refl answered)
      (λ why state answered. (let same : why ≡ Full 256 = cc in full_state p name (row_named name p.tree.rows) refl (state ∙ ap (λ (w : Refusal). Some w) same)))
      (λ why material answered. absurd (let none : None ≡ Some why = material in cc)) reply

  pub blocked_mount : (told : Told) (row : Row) → row_named name p.tree.rows ≡ Some row → row.kind ≡ Crypt → is_mounted p row.id ≡ false → has_key p row.id ≡ true → at_id row.id p.mapped ≡ None → AllBlocked p
      → (key_step p (commands.Mount name) told).reply ≡ Refused (Full 256)
  blocked_mount told row found crypt new key absent blocked =
      let full : Bool × Refusal = (not (is_mapped p row.id || is_some (free_slot p)), Full 256) in
      let keys : Bool × Refusal = (not (has_key p row.id), KeyUnavailable) in
      let mounts : Bool × Refusal = (is_mounted p row.id, Mounted) in
      let encrypted : is_encrypted_kind row.kind ≡ true = ap is_encrypted_kind crypt in
      let no_place : (is_mapped p row.id || is_some (free_slot p)) ≡ false = none_of (is_mapped p row.id) (is_some (free_slot p)) (ap (λ (place : Option ℕ). is_some place) absent) (ap (λ (free : Option ℕ). is_some free) (blocked_all p blocked)) in
      let state : refusal_of p (commands.Mount name) ≡ Some (Full 256) =
      ap (λ (r : Option Row). first_of (cases_of p r)) found
      ∙ passes_by (not (is_encrypted_kind row.kind)) NotEncrypted (mounts ∷ keys ∷ full ∷ []) (ap not encrypted)
      ∙ passes_by (is_mounted p row.id) Mounted (keys ∷ full ∷ []) new
      ∙ passes_by (not (has_key p row.id)) KeyUnavailable (full ∷ []) (ap not key)
      ∙ stops_at (not (is_mapped p row.id || is_some (free_slot p))) (Full 256) [] (ap not no_place) in
      ap (λ (stepped : Stepped). stepped.reply) (refused_step p (commands.Mount name) told (Full 256) state)
    where
      none_of : (a b : Bool) → a ≡ false → b ≡ false → (a || b) ≡ false
      none_of true b x y = absurd (cc)
      none_of false true x y = absurd (cc)
      none_of false false x y = refl

-- ---- mounted, unmounted and mounted again

pub unmount_drops : (p : Plain) (name : List ℕ) (told : Told) (id : ℕ) → target p (commands.Unmount name) ≡ Some id → IsAccepted p (commands.Unmount name) told
    → key_step p (commands.Unmount name) told ≡ (let stepped : Stepped = record { state = record p { mounted = filter (λ other. not (other == id)) p.mounted }; reply = Done } in stepped)
unmount_drops p name told id found accepted = accepted_step p (commands.Unmount name) told accepted ∙ ap (λ at. unmount_done p at) found

-- what a first mount left: the slot where the dataset is mapped, and a mount more
record WasMounted (p : Plain) (id : ℕ) (stepped : Stepped) : Type 0 where
  pub gens : List ℕ
  pub mapped : List (ℕ × ℕ)
  pub slot : ℕ
  pub there : at_id id mapped ≡ Some slot
  pub state : stepped.state ≡ record p { gens = gens; mapped = mapped; mounted = with_mount id p.mounted }

was_mounted : (p : Plain) (name : List ℕ) (told : Told) (id : ℕ) → target p (commands.Mount name) ≡ Some id → IsAccepted p (commands.Mount name) told → WasMounted p id (key_step p (commands.Mount name) told)
was_mounted p name told id found accepted = by (at_id id p.mapped) refl where
  by : (place : Option ℕ) → at_id id p.mapped ≡ place → WasMounted p id (key_step p (commands.Mount name) told)
  by None absent =
      let fresh = fresh_mount p name told id found absent accepted in
      record {
        gens = set p.gens fresh.0 (generation_of p fresh.0 + 1);
        mapped = with_id id fresh.0 p.mapped;
        slot = fresh.0;
        there = at_id-with_id id fresh.0 p.mapped;
        state = ap (λ (stepped : Stepped). stepped.state) fresh.2;
      }
  by (Some slot) there = record { gens = p.gens; mapped = p.mapped; slot = slot; there = there; state = ap (λ (stepped : Stepped). stepped.state) (mapped_again p name told id slot found there accepted) }

-- an unmount and a mount from there
abbrev Again : List ℕ → Told → Plain → Type 0
Again name told first =
    ((key_step first (commands.Unmount name) told).reply ≡ Done)
    × ((key_step (key_step first (commands.Unmount name) told).state (commands.Mount name) told).reply ≡ Done)
    × ((key_step (key_step first (commands.Unmount name) told).state (commands.Mount name) told).state ≡ first)

module _ (p : Plain) (name : List ℕ) (told : Told) (row : Row) (found : row_named name p.tree.rows ≡ Some row) (encrypted : not (is_encrypted_kind row.kind) ≡ false) (new : is_mounted p row.id ≡ false)
    (key : has_key p row.id ≡ true) (gens : List ℕ) (mapped : List (ℕ × ℕ)) (slot : ℕ) (there : at_id row.id mapped ≡ Some slot) where
  abbrev mounted_state : List ℕ → Plain
  mounted_state mounted = record p { gens = gens; mapped = mapped; mounted = mounted }

  abbrev first_state : Plain
  first_state = mounted_state (with_mount row.id p.mounted)

  unmount_accepted : IsAccepted first_state (commands.Unmount name) told
  unmount_accepted = record {
    state =
        ap (λ (r : Option Row). first_of ((is_none r, NoSuch) ∷ (not (is_encrypted_row r), NotEncrypted) ∷ (not (is_mounted_row first_state r), NotMounted) ∷ [])) found
        ∙ passes_by (not (is_encrypted_kind row.kind)) NotEncrypted ((not (is_mounted first_state row.id), NotMounted) ∷ []) encrypted
        ∙ passes_by (not (is_mounted first_state row.id)) NotMounted [] (ap not (mounted_with row.id p.mounted));
    material = refl;
  }

  second : key_step first_state (commands.Unmount name) told ≡ (let stepped : Stepped = record { state = mounted_state p.mounted; reply = Done } in stepped)
  second =
      unmount_drops first_state name told row.id (ap (λ (r : Option Row). option_map (λ (x : Row). x.id) r) found) unmount_accepted
      ∙ ap (λ mounted. (let stepped : Stepped = record { state = mounted_state mounted; reply = Done } in stepped)) (with_without row.id p.mounted new)

  mount_accepted : IsAccepted (mounted_state p.mounted) (commands.Mount name) told
  mount_accepted =
      let state : Plain = mounted_state p.mounted in
      let full : Bool × Refusal = (not (is_mapped state row.id || is_some (free_slot state)), Full 256) in
      let keys : Bool × Refusal = (not (has_key p row.id), KeyUnavailable) in
      let place : (is_mapped state row.id || is_some (free_slot state)) ≡ true = left (is_mapped state row.id) (is_some (free_slot state)) (ap (λ (at : Option ℕ). is_some at) there) in
      record {
        state =
            ap (λ (r : Option Row). first_of (cases_of state r)) found
            ∙ passes_by (not (is_encrypted_kind row.kind)) NotEncrypted ((is_mounted p row.id, Mounted) ∷ keys ∷ full ∷ []) encrypted
            ∙ passes_by (is_mounted p row.id) Mounted (keys ∷ full ∷ []) new
            ∙ passes_by (not (has_key p row.id)) KeyUnavailable (full ∷ []) (ap not key)
            ∙ passes_by (not (is_mapped state row.id || is_some (free_slot state))) (Full 256) [] (ap not place);
        material = refl;
      }
    where
      left : (a b : Bool) → a ≡ true → (a || b) ≡ true
      left true b yes_is = refl
      left false b yes_is = absurd (cc)

  third : key_step (mounted_state p.mounted) (commands.Mount name) told ≡ (let stepped : Stepped = record { state = first_state; reply = Done } in stepped)
  third = mapped_again (mounted_state p.mounted) name told row.id slot (ap (λ (r : Option Row). option_map (λ (x : Row). x.id) r) found) there mount_accepted

  again : Again name told first_state
  again = (
    ap (λ (stepped : Stepped). stepped.reply) second,
    ap (λ (stepped : Stepped). (key_step stepped.state (commands.Mount name) told).reply) second ∙ ap (λ (stepped : Stepped). stepped.reply) third,
    ap (λ (stepped : Stepped). (key_step stepped.state (commands.Mount name) told).state) second ∙ ap (λ (stepped : Stepped). stepped.state) third,
  )

pub second_mount : (p : Plain) (name : List ℕ) (told : Told) → IsAccepted p (commands.Mount name) told → Again name told (key_step p (commands.Mount name) told).state
second_mount p name told accepted = by (row_named name p.tree.rows) refl where
  by : (found : Option Row) → row_named name p.tree.rows ≡ found → Again name told (key_step p (commands.Mount name) told).state
  by None found = absurd (let none : Some NoSuch ≡ None = sym (ap (λ (r : Option Row). first_of (cases_of p r)) found) ∙ accepted.state in cc)
  by (Some row) found =
      let at : target p (commands.Mount name) ≡ Some row.id = ap (λ (r : Option Row). option_map (λ (x : Row). x.id) r) found in
      let is : IsMountable p row.id = mountable p name row.id accepted.state at in
      let none : NoneHolds (mount_cases p name) = none_holds (mount_cases p name) accepted.state in
      let encrypted : not (is_encrypted_kind row.kind) ≡ false = ap (λ (r : Option Row). not (is_encrypted_row r)) (sym found) ∙ none.1.0 in
      let was : WasMounted p row.id (key_step p (commands.Mount name) told) = was_mounted p name told row.id at accepted in
      subst (Again name told) (sym was.state) (again p name told row found encrypted is.new is.key was.gens was.mapped was.slot was.there)

-- ---- a mapping keeps its key

module _ (c : Ciphers) (p : Plain) (id slot : ℕ) (there : at_id id p.mapped ≡ Some slot) where
  -- where the slot keeps its generation and the dataset its slot
  pub kept_by : (gens : List ℕ) (mapped : List (ℕ × ℕ)) (mounted : List ℕ) → at_id id mapped ≡ Some slot → generation_of (record p { gens = gens }) slot ≡ generation_of p slot
      → KeepsKey c p (record p { gens = gens; mapped = mapped; mounted = mounted }) id slot
  kept_by gens mapped mounted stays generation = record { mapped = stays; generation = generation; owner = refl; key = refl; of_family = refl; master = refl }

  pub kept_here : KeepsKey c p p id slot
  kept_here = kept_by p.gens p.mapped p.mounted there refl

  kept_on : (other : ℕ) (free : Option ℕ) → free_slot p ≡ free → at_id other p.mapped ≡ None → KeepsKey c p (mounted_on p other free).state id slot
  kept_on other None none absent = kept_here
  kept_on other (Some new) found absent =
      let lowest : IsLowestFree p new = lowest_free p new found in
      let apart : id ≢ other = λ same. (let none : at_id id p.mapped ≡ None = ap (λ (m : ℕ). at_id m p.mapped) same ∙ absent in let both : Some slot ≡ None = sym there ∙ none in cc) in
      let unlike : slot ≢ new = at_id_is (λ mapping. mapping.1 ≢ new) id p.mapped slot lowest.idle there in
      kept_by (set p.gens new (generation_of p new + 1)) (with_id other new p.mapped) (with_mount other p.mounted) (at_id-with_id_other other id new p.mapped apart ∙ there)
      (other_generation p new slot (generation_of p new + 1) unlike)

  kept_at : (other : ℕ) (place : Option ℕ) → at_id other p.mapped ≡ place → KeepsKey c p (mounted_at p other place).state id slot
  kept_at other None absent = kept_on other (free_slot p) refl absent
  kept_at other (Some own) found = kept_by p.gens p.mapped (with_mount other p.mounted) there refl

  kept_done : (found : Option ℕ) → KeepsKey c p (mount_done p found).state id slot
  kept_done None = kept_here
  kept_done (Some other) = kept_at other (at_id other p.mapped) refl

  pub mount_keeps : (name : List ℕ) (told : Told) → KeepsKey c p (key_step p (commands.Mount name) told).state id slot
  mount_keeps name told =
      by_step p (commands.Mount name) told (λ stepped. KeepsKey c p stepped.state id slot) (λ accepted. kept_done (target p (commands.Mount name))) (λ why state. kept_here) (λ why material. kept_here)

  unmount_kept : (found : Option ℕ) → KeepsKey c p (unmount_done p found).state id slot
  unmount_kept None = kept_here
  unmount_kept (Some other) = kept_by p.gens p.mapped (filter (λ m. not (m == other)) p.mounted) there refl

  pub unmount_keeps : (name : List ℕ) (told : Told) → KeepsKey c p (key_step p (commands.Unmount name) told).state id slot
  unmount_keeps name told =
      by_step p (commands.Unmount name) told (λ stepped. KeepsKey c p stepped.state id slot) (λ accepted. unmount_kept (target p (commands.Unmount name))) (λ why state. kept_here)
      (λ why material. kept_here)

-- ---- a reap

none_used : (n : ℕ) → n ≡ 0 → not (n == 0) ≡ false
none_used n none = grind (arith, nat_tests)

no_users : (n : ℕ) → not (n == 0) ≡ false → n ≡ 0
no_users n none = grind (arith, nat_tests)

module _ (p : Plain) (dataset : ℕ) where
  -- a mapping there without users
  abbrev IsIdle : Type 0
  IsIdle = (slot : ℕ) × (at_id dataset p.mapped ≡ Some slot) × (users_of p (dataset, slot) ≡ 0)

  by_users : (slot : ℕ) (used : Bool) → is_used p (dataset, slot) ≡ used → at_id dataset p.mapped ≡ Some slot
      → ((reaped p dataset (Some slot) (if used then Some (let busy : InUse = record { dataset = dataset; count = users_of p (dataset, slot) } in busy) else None)).reply ≡ Reaped dataset true) ↔ IsIdle
  by_users slot true used there = (
    λ reply. absurd (let apart : Reaped dataset false ≡ Reaped dataset true = reply in let unlike : false ≡ true = cc in cc),
    λ idle. absurd (let both : Some slot ≡ Some idle.0 = sym there ∙ idle.1 in let same : idle.0 ≡ slot = cc in
        let none : users_of p (dataset, slot) ≡ 0 = ap (λ (m : ℕ). users_of p (dataset, m)) (sym same) ∙ idle.2 in let fails : is_used p (dataset, slot) ≡ false = none_used (users_of p (dataset, slot)) none in cc),
  )
  by_users slot false used there = (λ reply. (slot, there, no_users (users_of p (dataset, slot)) used), λ idle. refl)

  by_place : (place : Option ℕ) → at_id dataset p.mapped ≡ place → ((reaped p dataset place (option_and_then (mapping_in_use p dataset) place)).reply ≡ Reaped dataset true) ↔ IsIdle
  by_place None absent = (
    λ reply. absurd (let apart : Reaped dataset false ≡ Reaped dataset true = reply in let unlike : false ≡ true = cc in cc),
    λ idle. absurd (let both : None ≡ Some idle.0 = sym absent ∙ idle.1 in cc),
  )
  by_place (Some slot) there = by_users slot (is_used p (dataset, slot)) refl there

  pub reap_drops : ((reap_step p dataset).reply ≡ Reaped dataset true) ↔ IsIdle
  reap_drops = by_place (at_id dataset p.mapped) refl

  abbrev Dropped : Stepped
  Dropped = record { state = record p { mapped = without_id dataset p.mapped }; reply = Reaped dataset true }

  abbrev NotDropped : Stepped
  NotDropped = record { state = p; reply = Reaped dataset false }

  pub reap_answers : (found : Option InUse) → ((reap_found found p dataset ≡ Dropped) × (is_some (at_id dataset p.mapped) ≡ true) × (is_none found ≡ true))
      ⊎ ((reap_found found p dataset ≡ NotDropped) × ((is_none (at_id dataset p.mapped) ≡ true) ⊎ (is_some found ≡ true)))
  reap_answers found = by (at_id dataset p.mapped) found refl where
    by : (place : Option ℕ) (found : Option InUse) → at_id dataset p.mapped ≡ place → ((reaped p dataset place found ≡ Dropped) × (is_some place ≡ true) × (is_none found ≡ true))
        ⊎ ((reaped p dataset place found ≡ NotDropped) × ((is_none place ≡ true) ⊎ (is_some found ≡ true)))
    by None found absent = inr (refl, inl refl)
    by (Some slot) None there = inl (refl, refl, refl)
    by (Some slot) (Some busy) there = inr (refl, inr refl)

-- ---- opened families

module _ (p : Plain) (first : ℕ) where
  abbrev is_of : ℕ × ℕ → Bool
  is_of mapping = family p.tree.rows mapping.0 == first

  one_of : (mappings : List (ℕ × ℕ)) → not (count_by is_of mappings == 0) ≡ true → (dataset : ℕ) × (is_some (at_id dataset mappings) ≡ true) × (family p.tree.rows dataset ≡ first)
  one_of [] some = absurd (cc)
  one_of (mapping ∷ mappings) some = ⊎_elim
      (λ (own : is_of mapping ≡ true).
      let same : (mapping.0 == mapping.0) ≡ true = eq-eqb mapping.0 mapping.0 refl in
      (mapping.0, rw same refl, eqb-true (family p.tree.rows mapping.0) first own))
      (λ (other : is_of mapping ≡ false).
      let fewer : not (count_by is_of mappings == 0) ≡ true = rw other at some in
      let rest = one_of mappings fewer in
      (rest.0, kept (mapping.0 == rest.0) (Some mapping.1) (at_id rest.0 mappings) rest.1, rest.2))
      (cases_Bool (is_of mapping))
    where
      kept : (b : Bool) (here later : Option ℕ) → is_some later ≡ true → is_some (if b then Some mapping.1 else later) ≡ true
      kept true here later some = refl
      kept false here later some = some

  -- where the mapping stands
  at_place : (mappings : List (ℕ × ℕ)) (dataset : ℕ) → is_some (at_id dataset mappings) ≡ true → (k : ℕ) × (k < length mappings) × ((get_or mappings k (0, 0)).0 ≡ dataset)
  at_place [] dataset there = absurd (cc)
  at_place (mapping ∷ mappings) dataset there = ⊎_elim (λ (here : (mapping.0 == dataset) ≡ true). (0, omega arith, eqb-true mapping.0 dataset here))
      (λ (other : (mapping.0 == dataset) ≡ false). let rest = at_place mappings dataset (rw other at there) in (suc rest.0, omega (arith, rest.1), rest.2)) (cases_Bool (mapping.0 == dataset))

  counted : (dataset : ℕ) → is_some (at_id dataset p.mapped) ≡ true → family p.tree.rows dataset ≡ first → 1 ≤ count_by is_of p.mapped
  counted dataset there of =
      let place = at_place p.mapped dataset there in
      count_at is_of p.mapped place.0 (0, 0) place.1 (eq-eqb (family p.tree.rows (get_or p.mapped place.0 (0, 0)).0) first (ap (λ (m : ℕ). family p.tree.rows m) place.2 ∙ of))

  some_used : (n : ℕ) → 1 ≤ n → not (n == 0) ≡ true
  some_used n least = grind (arith, nat_tests)

  pub opened_where : (is_opened p first ≡ true) ↔ ((dataset : ℕ) × (is_some (at_id dataset p.mapped) ≡ true) × (family p.tree.rows dataset ≡ first))
  opened_where = (λ some. one_of p.mapped some, λ mapped. some_used (mkey_users p first) (counted mapped.0 mapped.1 mapped.2))
