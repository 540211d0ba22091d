-- What a destroy answers, which records it leaves, and what it leaves of others.
use Rattle.std.proofs.Common.{◌≡◌, ◌≢◌, ◌↔◌, ⊎_elim, ℕ, ◌≤◌, Bool, true, false, not, ◌==◌, List, [], ◌∷◌, Option, Some, None, is_some, refl, ap, sym, ◌∙◌, subst, arith, if◌then◌else◌}
use Rattle.std.proofs.lemmas.Bool.{cases_eq, cases_Bool, eq-eqb}
use Rattle.std.proofs.lemmas.Bool.Decides.{nat_tests}
use Rattle.std.specs.List.{All}
use Rattle.std.specs.Option.{option_and_then}
use Rattle.dataset_tree.specs.declared.kinds.Kind.TheVariants.{Crypt}
use Rattle.dataset_tree.specs.declared.refusal.Refusal.{Refusal}
use Rattle.dataset_tree.specs.declared.refusal.Refusal.TheVariants.{Busy}
use Rattle.dataset_tree.specs.declared.tree.Row.{Row}
use Rattle.dataset_tree.specs.Tree.{row_of, is_needed, without_row}
use Rattle.encryption_roots.specs.declared.command.KeyCmd.TheVariants as commands
use Rattle.encryption_roots.specs.ById.{at_id, without_id}
use Rattle.encryption_roots.specs.Owners.{family}
use Rattle.encryption_roots.proofs.ByIdLemmas.{at_id-without_id_other}
use Rattle.encryption_roots.proofs.OwnerLemmas.{family_by_walking}
use Rattle.key_machine.specs.Destroy.{destroy_cases, has_relatives, records_left, destroyed, destroyed_unless, destroy_done}
use Rattle.key_machine.specs.Kept.{KeepsKey}
use Rattle.key_machine.specs.Plain.{Plain, Stored, Ciphers, owner_of, has_key_of, mkey}
use Rattle.key_machine.specs.Reap.{mapping_in_use, own_in_use}
use Rattle.key_machine.specs.Reply.{Stepped, Done, Refused, unless_refused}
use Rattle.key_machine.specs.Sound.{Sound, SoundTree, IsEncrypted}
use Rattle.key_machine.specs.Step.{refusal_of, target, key_step, key_step_found, IsAccepted}
use Rattle.key_machine.specs.Told.{Told}
use Rattle.key_machine.specs.Unload.{InUse}
use Rattle.key_machine.specs.Users.{users_of, is_used}
use Rattle.key_machine.proofs.CreateLawsCases.{found_has}
use Rattle.key_machine.proofs.DestroyLaws.{unneeded_named, relative, no_relative, record_of_other, record_of_family, record_gone, alone, not_alone, owner_after, family_after}
use Rattle.key_machine.proofs.DestroyLawsRows.{owns_no_other, no_other_family}
use Rattle.key_machine.proofs.KeyLists.{at_id_is}
use Rattle.key_machine.proofs.MasterLaws.{master_alike}
use Rattle.key_machine.proofs.MountSteps.{kept_here}
use Rattle.key_machine.proofs.NamedLaws.{IsNamed, named, row_of_named}
use Rattle.key_machine.proofs.SoundLemmas.{by_step, accepted_step}
use Rattle.key_machine.proofs.UnloadLaws.{not_among}
use Rattle.std.proofs.lemmas.List.Elements.{recursion_from_All}

-- ---- what the close of its own mapping finds

none_used : (n : ℕ) → n ≡ 0 → not (n == 0) ≡ false
none_used n none = grind (arith, nat_tests)

no_users : (n : ℕ) → not (n == 0) ≡ false → n ≡ 0
no_users n none = grind (arith, nat_tests)

some_users : (n : ℕ) → not (n == 0) ≡ true → 1 ≤ n
some_users n used = grind (arith, nat_tests)

module _ (p : Plain) (id : ℕ) where
  -- no mapping of it has a live user
  abbrev IsIdle : Type 0
  IsIdle = (slot : ℕ) → at_id id p.mapped ≡ Some slot → users_of p (id, slot) ≡ 0

  -- or it has one with so many
  abbrev IsUsed : InUse → Type 0
  IsUsed busy = (busy.dataset ≡ id) × (1 ≤ busy.count) × ((slot : ℕ) × (at_id id p.mapped ≡ Some slot) × (users_of p (id, slot) ≡ busy.count))

  abbrev as_found : ℕ → Bool → Option InUse
  as_found slot used = if used then Some (record { dataset = id; count = users_of p (id, slot) }) else None

  abbrev FoundAs : Option InUse → Type 0
  FoundAs None = IsIdle
  FoundAs (Some busy) = IsUsed busy

  by_use : (slot : ℕ) (used : Bool) → is_used p (id, slot) ≡ used → at_id id p.mapped ≡ Some slot → FoundAs (as_found slot used)
  by_use slot true used there = (refl, some_users (users_of p (id, slot)) used, (slot, there, refl))
  by_use slot false used there = λ other same.
      let both : Some slot ≡ Some other = sym there ∙ same in
      let one : slot ≡ other = cc in
      ap (λ (m : ℕ). users_of p (id, m)) (sym one) ∙ no_users (users_of p (id, slot)) used

  by_place : (place : Option ℕ) → at_id id p.mapped ≡ place → FoundAs (option_and_then (mapping_in_use p id) place)
  by_place None absent = λ slot there. absurd (let both : None ≡ Some slot = sym absent ∙ there in cc)
  by_place (Some slot) there = by_use slot (is_used p (id, slot)) refl there

  pub own_found : FoundAs (own_in_use p id)
  own_found = by_place (at_id id p.mapped) refl

  -- an idle one is not found in use
  pub idle_found : IsIdle → own_in_use p id ≡ None
  idle_found idle = by (own_in_use p id) refl own_found where
    by : (found : Option InUse) → own_in_use p id ≡ found → FoundAs found → own_in_use p id ≡ None
    by None same own = same
    by (Some busy) same own = absurd (let none : users_of p (id, own.2.0) ≡ 0 = idle own.2.0 own.2.1 in let least : 1 ≤ busy.count = own.1 in omega (arith, none, least, own.2.2))

-- ---- the reply

module _ (p : Plain) (name : List ℕ) (snaps : Bool) (told : Told) (id : ℕ) (found : target p (commands.Destroy name snaps) ≡ Some id) where
  accepted_destroy : IsAccepted p (commands.Destroy name snaps) told → key_step p (commands.Destroy name snaps) told ≡ destroyed_unless p id (own_in_use p id)
  accepted_destroy accepted =
      accepted_step p (commands.Destroy name snaps) told accepted ∙ ap (λ (at : Option ℕ). destroy_done p (option_and_then (own_in_use p) at) at) found

  unless_done : (busy : Option InUse) → (destroyed_unless p id busy).reply ≡ Done → busy ≡ None
  unless_done None reply = refl
  unless_done (Some busy) reply = absurd (cc)

  found_idle : (busy : Option InUse) → own_in_use p id ≡ busy → busy ≡ None → (slot : ℕ) → at_id id p.mapped ≡ Some slot → users_of p (id, slot) ≡ 0
  found_idle busy same none = idle_of (own_in_use p id) (same ∙ none) (own_found p id) where
    idle_of : (busy : Option InUse) → busy ≡ None → FoundAs p id busy → (slot : ℕ) → at_id id p.mapped ≡ Some slot → users_of p (id, slot) ≡ 0
    idle_of None none own = own
    idle_of (Some busy) none own = absurd (cc)

  pub destroy_done_where_idle : IsAccepted p (commands.Destroy name snaps) told
      → ((key_step p (commands.Destroy name snaps) told).reply ≡ Done) ↔ ((slot : ℕ) → at_id id p.mapped ≡ Some slot → users_of p (id, slot) ≡ 0)
  destroy_done_where_idle accepted =
      let reply : (key_step p (commands.Destroy name snaps) told).reply ≡ (destroyed_unless p id (own_in_use p id)).reply = ap (λ (stepped : Stepped). stepped.reply) (accepted_destroy accepted) in (
        λ done. found_idle (own_in_use p id) refl (unless_done (own_in_use p id) (sym reply ∙ done)),
        λ idle. reply ∙ ap (λ (busy : Option InUse). (destroyed_unless p id busy).reply) (idle_found p id idle),
      )

  abbrev WasBusy : ℕ → ℕ → Plain → Type 0
  WasBusy dataset count state = (dataset ≡ id) × (1 ≤ count) × ((slot : ℕ) × (at_id id p.mapped ≡ Some slot) × (users_of p (id, slot) ≡ count)) × (state ≡ p)

  busy_unless : (dataset count : ℕ) (busy : Option InUse) → FoundAs p id busy → (destroyed_unless p id busy).reply ≡ Refused (Busy dataset count) → WasBusy dataset count (destroyed_unless p id busy).state
  busy_unless dataset count None own reply = absurd (cc)
  busy_unless dataset count (Some busy) own reply =
      let same : busy.dataset ≡ dataset = cc in
      let number : busy.count ≡ count = cc in
      (sym same ∙ own.0, subst (λ (n : ℕ). 1 ≤ n) number own.1, (own.2.0, own.2.1, own.2.2 ∙ number), refl)

  pub destroy_busy : (dataset count : ℕ) → (key_step p (commands.Destroy name snaps) told).reply ≡ Refused (Busy dataset count) → WasBusy dataset count (key_step p (commands.Destroy name snaps) told).state
  destroy_busy dataset count reply =
      by_step p (commands.Destroy name snaps) told
      (λ stepped. key_step p (commands.Destroy name snaps) told ≡ stepped → stepped.reply ≡ Refused (Busy dataset count) → WasBusy dataset count (key_step p (commands.Destroy name snaps) told).state)
      (λ accepted step answered. (let is : key_step p (commands.Destroy name snaps) told ≡ destroyed_unless p id (own_in_use p id) = accepted_destroy accepted in
      subst (λ (stepped : Stepped). WasBusy dataset count stepped.state) (sym is)
      (busy_unless dataset count (own_in_use p id) (own_found p id) (sym (ap (λ (stepped : Stepped). stepped.reply) is) ∙ ap (λ (stepped : Stepped). stepped.reply) step ∙ answered))))
      (λ why state step answered. absurd (let same : why ≡ Busy dataset count = cc in
      not_among (Busy dataset count) (destroy_cases p name snaps) (λ e. absurd (cc), (λ e. absurd (cc), (λ e. absurd (cc), tt))) (state ∙ ap (λ (w : Refusal). Some w) same)))
      (λ why material step answered. absurd (let none : None ≡ Some why = material in cc)) refl reply

  pub found_busy : (busy : InUse) → IsAccepted p (commands.Destroy name snaps) told
      → key_step_found (Some busy) p (commands.Destroy name snaps) told ≡ (let stepped : Stepped = record { state = p; reply = Refused (Busy busy.dataset busy.count) } in stepped)
  found_busy busy accepted =
      ap (λ (why : Option Refusal). unless_refused p why (destroy_done p (Some busy) (target p (commands.Destroy name snaps)))) accepted.state
      ∙ ap (λ (at : Option ℕ). destroy_done p (Some busy) at) found

  -- ---- what is done

  done_unless : (busy : Option InUse) → (destroyed_unless p id busy).reply ≡ Done → (destroyed_unless p id busy).state ≡ destroyed p id
  done_unless None reply = refl
  done_unless (Some busy) reply = absurd (cc)

  pub done_state : (key_step p (commands.Destroy name snaps) told).reply ≡ Done → (key_step p (commands.Destroy name snaps) told).state ≡ destroyed p id
  done_state reply =
      by_step p (commands.Destroy name snaps) told (λ stepped. key_step p (commands.Destroy name snaps) told ≡ stepped → stepped.reply ≡ Done → stepped.state ≡ destroyed p id)
      (λ accepted step answered. subst (λ (at : Option ℕ). (destroy_done p (option_and_then (own_in_use p) at) at).reply ≡ Done → (destroy_done p (option_and_then (own_in_use p) at) at).state ≡ destroyed p id) (sym found)
      (λ done. done_unless (own_in_use p id) done) answered)
      (λ why state step answered. absurd (cc)) (λ why material step answered. absurd (cc)) refl reply

  pub destroy_drops : (key_step p (commands.Destroy name snaps) told).reply ≡ Done
      → (key_step p (commands.Destroy name snaps) told).state
      ≡ record p { tree = without_row p.tree id; roots = without_id id p.roots; wrapped = (key_step p (commands.Destroy name snaps) told).state.wrapped; loaded = without_id id p.loaded; mapped = without_id id p.mapped }
  destroy_drops reply =
      let is : (key_step p (commands.Destroy name snaps) told).state ≡ destroyed p id = done_state reply in
      is ∙ ap (λ (wrapped : List (ℕ × Stored)). record p { tree = without_row p.tree id; roots = without_id id p.roots; wrapped = wrapped; loaded = without_id id p.loaded; mapped = without_id id p.mapped })
      (sym (ap (λ (state : Plain). state.wrapped) is))

  -- ---- the records

  relative_kept : (other : ℕ) (row : Row) → row_of other p.tree.rows ≡ Some row → other ≢ id → at_id (family p.tree.rows other) (records_left p id) ≡ at_id (family p.tree.rows other) p.wrapped
  relative_kept other row there apart =
      ⊎_elim (λ (same : family p.tree.rows other ≡ family p.tree.rows id). record_of_family p id (relative p id other row there apart same) (family p.tree.rows other))
      (λ (strange : family p.tree.rows other ≢ family p.tree.rows id). record_of_other p id (family p.tree.rows other) strange) (cases_eq (family p.tree.rows other) (family p.tree.rows id))

  kept_unless : (other : ℕ) (row : Row) → row_of other p.tree.rows ≡ Some row → other ≢ id → (busy : Option InUse)
      → at_id (family p.tree.rows other) (destroyed_unless p id busy).state.wrapped ≡ at_id (family p.tree.rows other) p.wrapped
  kept_unless other row there apart None = relative_kept other row there apart
  kept_unless other row there apart (Some busy) = refl

  pub record_kept : (other : ℕ) (row : Row) → row_of other p.tree.rows ≡ Some row → other ≢ id
      → at_id (family p.tree.rows other) (key_step p (commands.Destroy name snaps) told).state.wrapped ≡ at_id (family p.tree.rows other) p.wrapped
  record_kept other row there apart =
      by_step p (commands.Destroy name snaps) told (λ stepped. at_id (family p.tree.rows other) stepped.state.wrapped ≡ at_id (family p.tree.rows other) p.wrapped)
      (λ accepted. subst (λ (at : Option ℕ). at_id (family p.tree.rows other) (destroy_done p (option_and_then (own_in_use p) at) at).state.wrapped ≡ at_id (family p.tree.rows other) p.wrapped) (sym found)
      (kept_unless other row there apart (own_in_use p id)))
      (λ why state. refl) (λ why material. refl)

  pub last_gone : (key_step p (commands.Destroy name snaps) told).reply ≡ Done → All (λ row. row.id ≢ id → family p.tree.rows row.id ≢ family p.tree.rows id) p.tree.rows
      → at_id (family p.tree.rows id) (key_step p (commands.Destroy name snaps) told).state.wrapped ≡ None
  last_gone reply apart = ap (λ (state : Plain). at_id (family p.tree.rows id) state.wrapped) (done_state reply) ∙ record_gone p id (no_relative p id apart)

-- ---- in a sound state the record is that of the family's first dataset

without_absent : {X : Type 0} (id : ℕ) (entries : List (ℕ × X)) → at_id id entries ≡ None → without_id id entries ≡ entries
without_absent id [] none = refl
without_absent id (entry ∷ entries) none = ⊎_elim (λ (same : (entry.0 == id) ≡ true). absurd (let some : Some entry.1 ≡ None = rw same at none in cc))
    (λ (other : (entry.0 == id) ≡ false). rw other (ap (λ rest. entry ∷ rest) (without_absent id entries (rw other at none)))) (cases_Bool (entry.0 == id))

absent_of : {X : Type 0} (found : Option X) → (is_some found ≡ true → ⊥) → found ≡ None
absent_of None never = refl
absent_of (Some x) never = absurd (never refl)

module _ (p : Plain) (id : ℕ) (row : Row) (found : row_of id p.tree.rows ≡ Some row) (s : SoundTree p) (free : is_needed id p.tree.rows ≡ false) where
  -- who isn't its family's first dataset is a clone, and so encrypted
  clone_encrypted : family p.tree.rows id ≢ id → IsEncrypted p id
  clone_encrypted clone = (
    row,
    found,
    (found_has (λ (r : Row). r.origin ≢ 0 → (r.kind ≡ Crypt) × IsEncrypted p r.origin) (λ r. r.id == id) p.tree.rows row
        (recursion_from_All (λ (r : Row). r.origin ≢ 0 → (r.kind ≡ Crypt) × IsEncrypted p r.origin) p.tree.rows s.origins) found has_origin).0,
  ) where
    has_origin : row.origin ≢ 0
    has_origin first = clone (let zero_is : (row.origin == 0) ≡ true = eq-eqb row.origin 0 first in family_by_walking p.tree id s.tree ∙ rw (found, zero_is) refl)

  no_record : family p.tree.rows id ≢ id → at_id id p.wrapped ≡ None
  no_record clone = absent_of (at_id id p.wrapped) (λ there.
      let of : (dataset : ℕ) × IsEncrypted p dataset × (family p.tree.rows dataset ≡ id) = (s.families id).0 there in
      ⊎_elim (λ (same : of.0 ≡ id). clone (ap (λ (m : ℕ). family p.tree.rows m) (sym same) ∙ of.2)) (λ (apart : of.0 ≢ id). no_other_family p.tree.rows id free of.0 apart of.2) (cases_eq of.0 id))

  pub first_record : records_left p id ≡ without_id id p.wrapped
  first_record = ⊎_elim
      (λ (own : family p.tree.rows id ≡ id).
      let none : has_relatives p id ≡ false = alone p id free s own in
      rw none (ap (λ (m : ℕ). without_id m p.wrapped) own))
      (λ (clone : family p.tree.rows id ≢ id).
      let has : has_relatives p id ≡ true = not_alone p id free s (clone_encrypted clone) clone in
      rw has (sym (without_absent id p.wrapped (no_record clone)))) (cases_eq (family p.tree.rows id) id)

done_accepted : (p : Plain) (name : List ℕ) (snaps : Bool) (told : Told) → (key_step p (commands.Destroy name snaps) told).reply ≡ Done → IsAccepted p (commands.Destroy name snaps) told
done_accepted p name snaps told reply =
    by_step p (commands.Destroy name snaps) told (λ stepped. stepped.reply ≡ Done → IsAccepted p (commands.Destroy name snaps) told) (λ accepted answered. accepted) (λ why state answered. absurd (cc))
    (λ why material answered. absurd (cc)) reply

pub destroy_first : (p : Plain) (name : List ℕ) (snaps : Bool) (told : Told) (id : ℕ) → SoundTree p → target p (commands.Destroy name snaps) ≡ Some id
    → (key_step p (commands.Destroy name snaps) told).reply ≡ Done → (key_step p (commands.Destroy name snaps) told).state.wrapped ≡ without_id id p.wrapped
destroy_first p name snaps told id s found reply =
    let accepted : IsAccepted p (commands.Destroy name snaps) told = done_accepted p name snaps told reply in
    let is : IsNamed p name id = named p name id found in
    ap (λ (state : Plain). state.wrapped) (done_state p name snaps told id found reply)
    ∙ first_record p id is.row (row_of_named p name id is s.tree) s (unneeded_named p name snaps id accepted.state found)

-- ---- a mapping in use keeps its key

module _ (c : Ciphers) (p : Plain) (s : Sound c p) (gone : ℕ) (free : is_needed gone p.tree.rows ≡ false) (id slot : ℕ) (there : at_id id p.mapped ≡ Some slot) where
  encrypted : IsEncrypted p id
  encrypted = at_id_is (λ mapping. IsEncrypted p mapping.0) id p.mapped slot s.mappings.encrypted there

  -- the keys of other owners stay
  loaded_stays : (at : ℕ) → at ≢ gone → (root : ℕ) → owner_of p at ≡ Some root → at_id root (without_id gone p.loaded) ≡ at_id root p.loaded
  loaded_stays at apart root owner = at_id-without_id_other gone root p.loaded (λ same. owns_no_other p.tree.rows gone free p.roots at apart (owner ∙ ap (λ r. Some r) same))

  key_stays : (at : ℕ) → at ≢ gone → (found : Option ℕ) → owner_of p at ≡ found → has_key_of (destroyed p gone) found ≡ has_key_of p found
  key_stays at apart None owner = refl
  key_stays at apart (Some root) owner = ap (λ (key : Option (List ℕ)). is_some key) (loaded_stays at apart root owner)

  master_stays : (first : ℕ) → first ≢ gone → at_id first (records_left p gone) ≡ at_id first p.wrapped → mkey c (destroyed p gone) first ≡ mkey c p first
  master_stays first apart record_is = master_alike c p (destroyed p gone) first record_is (owner_after p gone free s.tree first apart) (loaded_stays first apart)

  record_stays : id ≢ gone → at_id (family p.tree.rows id) (records_left p gone) ≡ at_id (family p.tree.rows id) p.wrapped
  record_stays apart =
      ⊎_elim (λ (same : family p.tree.rows id ≡ family p.tree.rows gone). record_of_family p gone (relative p gone id encrypted.0 encrypted.1 apart same) (family p.tree.rows id))
      (λ (strange : family p.tree.rows id ≢ family p.tree.rows gone). record_of_other p gone (family p.tree.rows id) strange) (cases_eq (family p.tree.rows id) (family p.tree.rows gone))

  pub other_keeps : id ≢ gone → KeepsKey c p (destroyed p gone) id slot
  other_keeps apart =
      let owner_is : owner_of (destroyed p gone) id ≡ owner_of p id = owner_after p gone free s.tree id apart in
      let of : family (destroyed p gone).tree.rows id ≡ family p.tree.rows id = family_after p gone free s.tree id apart in
      record {
        mapped = at_id-without_id_other gone id p.mapped apart ∙ there;
        generation = refl;
        owner = owner_is;
        key = ap (λ (found : Option ℕ). has_key_of (destroyed p gone) found) owner_is ∙ key_stays id apart (owner_of p id) refl;
        of_family = of;
        master = ap (λ (m : ℕ). mkey c (destroyed p gone) m) of ∙ master_stays (family p.tree.rows id) (no_other_family p.tree.rows gone free id apart) (record_stays apart);
      }

  -- its own dataset isn't destroyed, since its mapping is in use
  keeps_unless : 1 ≤ users_of p (id, slot) → (busy : Option InUse) → own_in_use p gone ≡ busy → KeepsKey c p (destroyed_unless p gone busy).state id slot
  keeps_unless least (Some busy) used = kept_here c p id slot there
  keeps_unless least None idle = ⊎_elim
      (λ (same : id ≡ gone).
      absurd (let none : users_of p (id, slot) ≡ 0 = ap (λ (m : ℕ). users_of p (m, slot)) same ∙ idle_of (own_in_use p gone) idle (own_found p gone) slot (ap (λ (m : ℕ). at_id m p.mapped) (sym same) ∙ there) in omega (arith, none, least)))
      (λ (apart : id ≢ gone). other_keeps apart) (cases_eq id gone)
    where
      idle_of : (busy : Option InUse) → busy ≡ None → FoundAs p gone busy → (slot : ℕ) → at_id gone p.mapped ≡ Some slot → users_of p (gone, slot) ≡ 0
      idle_of None none own = own
      idle_of (Some busy) none own = absurd (cc)

destroy_kept : (c : Ciphers) (p : Plain) (name : List ℕ) (snaps : Bool) (id slot : ℕ) → Sound c p → at_id id p.mapped ≡ Some slot → 1 ≤ users_of p (id, slot) → refusal_of p (commands.Destroy name snaps) ≡ None
    → (found : Option ℕ) → target p (commands.Destroy name snaps) ≡ found → KeepsKey c p (destroy_done p (option_and_then (own_in_use p) found) found).state id slot
destroy_kept c p name snaps id slot s there least accepted None at = kept_here c p id slot there
destroy_kept c p name snaps id slot s there least accepted (Some gone) at =
    keeps_unless c p s gone (unneeded_named p name snaps gone accepted at) id slot there least (own_in_use p gone) refl

pub destroy_keeps : (c : Ciphers) (p : Plain) (name : List ℕ) (snaps : Bool) (told : Told) (id slot : ℕ) → Sound c p → at_id id p.mapped ≡ Some slot → 1 ≤ users_of p (id, slot)
    → KeepsKey c p (key_step p (commands.Destroy name snaps) told).state id slot
destroy_keeps c p name snaps told id slot s there least =
    by_step p (commands.Destroy name snaps) told (λ stepped. KeepsKey c p stepped.state id slot)
    (λ accepted. destroy_kept c p name snaps id slot s there least accepted.state (target p (commands.Destroy name snaps)) refl) (λ why state. kept_here c p id slot there)
    (λ why material. kept_here c p id slot there)
