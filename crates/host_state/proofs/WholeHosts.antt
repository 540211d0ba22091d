-- The host behind a call, with the heads of its families.
use Rattle.std.proofs.Common.{◌≡◌, ⊎_elim, ℕ, ◌+◌, Bool, true, false, cond, ◌&&◌, List, [], ◌∷◌, ◌++◌, length, Option, Some, None, is_some, is_none, is_err, Result, Ok, Err, OnErr, OnOk, refl, ap, sym, ◌∙◌, subst, arith}
use Rattle.std.specs.Prelude.{nat_le, unwrap_or}
use Rattle.std.specs.Option.{option_map, option_map_or}
use Rattle.std.specs.declared.alloc.AllocError.{AllocError}
use Rattle.dataset_tree.specs.declared.kinds.Kind.{Kind}
use Rattle.dataset_tree.specs.declared.kinds.Kind.TheVariants.{Crypt, Plain as PlainKind}
use Rattle.dataset_tree.specs.declared.refusal.Refusal.{Refusal}
use Rattle.dataset_tree.specs.declared.refusal.Refusal.TheVariants as refusals
use Rattle.dataset_tree.specs.declared.refusal.Stop.{Stop}
use Rattle.dataset_tree.specs.declared.refusal.Stop.TheVariants as stops
use Rattle.dataset_tree.specs.declared.tree.Row.{Row as Dataset}
use Rattle.dataset_tree.specs.SetName.{parent_name}
use Rattle.dataset_tree.specs.Tree.{id_named, is_needed, parent_in, row_named}
use Rattle.encryption_roots.specs.declared.command.KeyCmd.{KeyCmd}
use Rattle.encryption_roots.specs.declared.command.KeyCmd.TheVariants as commands
use Rattle.encryption_roots.specs.declared.kit.LineKit.{LineKit}
use Rattle.encryption_roots.specs.declared.kit.SeedGot.{SeedGot}
use Rattle.encryption_roots.specs.declared.kit.SeedGot.TheVariants as seeds
use Rattle.encryption_roots.specs.declared.props.Options.{Options}
use Rattle.encryption_roots.specs.ById.{IsRisingById, at_id, with_id, without_id}
use Rattle.encryption_roots.specs.Owners.{family}
use Rattle.wrapped_keys.specs.Values.{MasterValue}
use Rattle.family_log.specs.declared.entry.Spot.{Spot}
use Rattle.family_log.specs.declared.table.Table.{Table}
use Rattle.family_log.specs.Log.{snap_spot}
use Rattle.family_log.specs.Model.{FamilyState, head_of, table_of}
use Rattle.family_log.specs.Snapshots.{clone_added, clone_of}
use Rattle.family_log.specs.Tables.{fresh_table}
use Rattle.file_dataset.specs.ChangeCalls.{used}
use Rattle.file_dataset.specs.declared.command.FileCmd.{FileCmd}
use Rattle.file_dataset.specs.declared.reply.FileReply.{FileReply}
use Rattle.key_ciphers.specs.Ciphers.{ciphers, value_of}
use Rattle.key_machine.specs.Clone.{cloned}
use Rattle.key_machine.specs.Create.{makes_encrypted}
use Rattle.key_machine.specs.Destroy.{destroyed, has_relatives}
use Rattle.key_machine.specs.Plain.{Master, Plain}
use Rattle.key_machine.specs.Reply.{Stepped, Made, Refused}
use Rattle.key_machine.specs.Sound.{Sound, SoundTree}
use Rattle.key_machine.specs.Step.{key_step, refusal_of, target, told}
use Rattle.key_machine.specs.Told.{Told, nothing_told}
use Rattle.key_machine.proofs.CloneLaws.{IsClonable, clonable, clone_grows, family_of_clone, row}
use Rattle.key_machine.proofs.CreateLawsGrown.{Grows, new_family as lone_family}
use Rattle.key_machine.proofs.CreateLawsStep.{IsFree, free}
use Rattle.key_machine.proofs.DestroyLaws.{unneeded_named}
use Rattle.key_machine.proofs.DestroyLawsRows.{rows_left}
use Rattle.key_machine.proofs.DestroySteps.{done_state}
use Rattle.key_machine.proofs.SoundLemmas.{by_step}
use Rattle.key_store.specs.Calls.{AnswersMade, AnswersUnloaded, state_after, stepped}
use Rattle.key_store.specs.State.{opened_key}
use Rattle.snap_clone.specs.Answers.{clone_answer, is_snapshot}
use Rattle.host_state.specs.FileAnswers.{ServesAt, ServesUnder}
use Rattle.host_state.specs.Hosts.{HostState, IsHost, by_id, facts_of_family, facts_of_record, family_from, new_block, new_family, seeded_family, seeded_portable, with_family}
use Rattle.host_state.specs.SpotAnswers.{Clones, ClonesIn, head_forgotten, left_after}
use Rattle.host_state.specs.SpotLines.{Left, encrypted_id, encrypted_row, family_id, has_parts, id_used, on_family, parts_in, without_dataset, without_head}
use Rattle.host_state.proofs.DatasetLemmas.{SameHeads, done_heads, heads_clone, heads_dropped, heads_first, heads_left, heads_lone, heads_one}
use Rattle.host_state.proofs.FileLemmas.{file_pairs}
use Rattle.host_state.proofs.HostLemmas.{created_not_pairs, created_pairs, made_id, same_after, still_pairs_at}
use Rattle.host_state.proofs.HostParts.{Heads, pairs, whole}
use Rattle.host_state.proofs.PairedLemmas.{SameFacts}
use Rattle.host_state.proofs.SpotHosts.{accepted_where_done, cloned_pairs, destroyed_pairs, free_clone, left_is, refused_state}
use Rattle.host_state.proofs.SpotLemmas.{Keeps, left_pairs}
use Rattle.host_state.proofs.UndoLemmas.{cloned_state}

-- the same heads under other rows, or of other families
with_rows : (rows others : List Dataset) (families : List (ℕ × FamilyState)) → rows ≡ others → Heads others families → Heads rows families
with_rows rows others families same heads = subst (λ (rs : List Dataset). Heads rs families) (sym same) heads

with_list : (rows : List Dataset) (families others : List (ℕ × FamilyState)) → families ≡ others → Heads rows others → Heads rows families
with_list rows families others same heads = subst (λ (fs : List (ℕ × FamilyState)). Heads rows fs) (sym same) heads

-- ---- a command that makes no family

pub still_host_at : (tells : Bool) (before step now : Plain) (families : List (ℕ × FamilyState)) (limit : ℕ) → IsHost tells before families limit → SameFacts before step → now ≡ step → IsHost tells now families limit
still_host_at tells before step now families limit host same is =
    whole (still_pairs_at tells before step now families limit (pairs host) same is)
    (with_rows now.tree.rows before.tree.rows families (ap (λ (p : Plain). p.tree.rows) is ∙ ap (λ t. t.rows) same.1) host.datasets)

pub still_host : {T : Type 0} (result : Result T Stop) (tells : Bool) (before step now : Plain) (families : List (ℕ × FamilyState)) (limit : ℕ) → IsHost tells before families limit
    → SameFacts before step → now ≡ state_after result before step → IsHost tells now families limit
still_host result tells before step now families limit host same is = still_host_at tells before (state_after result before step) now families limit host (same_after result before step same) is

-- ---- a create

parent_there : (found : Option ℕ) → is_none found ≡ false → found ≡ Some (unwrap_or found 0)
parent_there None known = absurd (cc)
parent_there (Some parent) known = refl

module _ (h : HostState) (name : List ℕ) (opts : Options) (paired : by_id facts_of_family h.families ≡ by_id facts_of_record h.keys.wrapped) (heads : Heads h.keys.tree.rows h.families) (s : SoundTree h.keys)
    (is : IsFree h.keys name opts) (kind : Kind) where
  abbrev new : ℕ
  new = h.keys.tree.last + 1

  abbrev made : Dataset
  made = record { id = new; parent = unwrap_or (parent_in h.keys.tree.rows (parent_name name)) 0; name = name; kind = kind; origin = 0 }

  grows : Grows h.keys made h.keys.roots h.keys.wrapped h.keys.loaded
  grows = record {
    tree = s.tree;
    id = refl;
    new = is.absent;
    parent = parent_there (parent_in h.keys.tree.rows (parent_name name)) is.parent;
    origin = omega arith;
    roots_kept = λ id apart. refl;
    wrapped_kept = λ id apart. refl;
    loaded_kept = λ id apart. refl;
  }

  own : family (h.keys.tree.rows ++ made ∷ []) new ≡ new
  own = lone_family h.keys made h.keys.roots h.keys.wrapped h.keys.loaded grows refl

  without_family : Heads (h.keys.tree.rows ++ made ∷ []) h.families
  without_family = heads_lone h.keys made grows s h.families paired heads own

  seeded : (seed : SeedGot) → Heads (h.keys.tree.rows ++ made ∷ []) (with_family new (family_from h.tells h.limit (new_block opts) new seed) h.families)
  seeded (seeds.Got seed) =
      heads_first h.keys made grows s h.families paired heads own (seeded_family h.tells h.limit seed (new_block opts) new)
      (record { id = new; table = fresh_table (new_block opts) (seeded_portable seed (new_block opts)); parts = []; tables = [] }) refl refl
  seeded seeds.NotAsked = without_family
  seeded seeds.Fault = without_family

  created_heads : (b : Bool) (seed : SeedGot) → Heads (h.keys.tree.rows ++ made ∷ []) (with_family new (cond b (family_from h.tells h.limit (new_block opts) new seed) None) h.families)
  created_heads true seed = seeded seed
  created_heads false seed = without_family

made_heads : (h : HostState) (name : List ℕ) (opts : Options) (kit : LineKit) (id : ℕ) → by_id facts_of_family h.families ≡ by_id facts_of_record h.keys.wrapped → Heads h.keys.tree.rows h.families → SoundTree h.keys
    → (stepped h.keys (commands.Create name opts) kit).reply ≡ Made id
    → Heads (stepped h.keys (commands.Create name opts) kit).state.tree.rows (with_family (h.keys.tree.last + 1) (new_family h name opts kit (h.keys.tree.last + 1)) h.families)
made_heads h name opts kit id paired heads s =
    let command : KeyCmd = commands.Create name opts in
    let new : ℕ = h.keys.tree.last + 1 in
    by_step h.keys command (told ciphers h.keys command kit)
    (λ (stepped : Stepped). stepped.reply ≡ Made id → Heads stepped.state.tree.rows (with_family new (new_family h name opts kit new) h.families))
    (λ accepted made. created_heads h name opts paired heads s (free h.keys name opts accepted.state) (cond (makes_encrypted h.keys name opts) Crypt PlainKind) (makes_encrypted h.keys name opts) kit.seed)
    (λ why state made. absurd (cc)) (λ why material made. absurd (cc))

pub created_host : (h : HostState) (name : List ℕ) (opts : Options) (kit : LineKit) (id next : ℕ) (keys : Plain) (made : Option FamilyState) (families : List (ℕ × FamilyState)) → IsHost h.tells h.keys h.families h.limit → SoundTree h.keys
    → (stepped h.keys (commands.Create name opts) kit).reply ≡ Made id → keys ≡ (stepped h.keys (commands.Create name opts) kit).state → next ≡ id → made ≡ new_family h name opts kit next → families ≡ with_family id made h.families
    → IsRisingById families → IsHost h.tells keys families h.limit
created_host h name opts kit id next keys made families host s reply keys_are next_is made_is families_are rising =
    let id_is : id ≡ h.keys.tree.last + 1 = (made_id h.keys name opts kit id reply).0 in
    let fresh : made ≡ new_family h name opts kit (h.keys.tree.last + 1) = made_is ∙ ap (λ (n : ℕ). new_family h name opts kit n) (next_is ∙ id_is) in
    let all : families ≡ with_family (h.keys.tree.last + 1) (new_family h name opts kit (h.keys.tree.last + 1)) h.families =
    families_are ∙ ap (λ (f : Option FamilyState). with_family id f h.families) fresh ∙ ap (λ (n : ℕ). with_family n (new_family h name opts kit (h.keys.tree.last + 1)) h.families) id_is in
    whole (created_pairs h name opts kit id next keys made families (pairs host) reply keys_are next_is made_is families_are rising)
    (with_list keys.tree.rows families (with_family (h.keys.tree.last + 1) (new_family h name opts kit (h.keys.tree.last + 1)) h.families) all
    (with_rows keys.tree.rows (stepped h.keys (commands.Create name opts) kit).state.tree.rows (with_family (h.keys.tree.last + 1) (new_family h name opts kit (h.keys.tree.last + 1)) h.families)
    (ap (λ (p : Plain). p.tree.rows) keys_are) (made_heads h name opts kit id host.paired host.datasets s reply)))

unmade_rows : (p : Plain) (name : List ℕ) (opts : Options) (kit : LineKit) (why : Refusal) → (stepped p (commands.Create name opts) kit).reply ≡ Refused why
    → (stepped p (commands.Create name opts) kit).state.tree.rows ≡ p.tree.rows
unmade_rows p name opts kit why =
    let command : KeyCmd = commands.Create name opts in
    let facts : Told = told ciphers p command kit in
    by_step p command facts (λ (s : Stepped). s.reply ≡ Refused why → s.state.tree.rows ≡ p.tree.rows)
    (λ accepted refused. absurd (let other : Made (p.tree.last + 1) ≡ Refused why = refused in cc)) (λ first state refused. refl) (λ first material refused. refl)

stopped_rows : (p : Plain) (name : List ℕ) (opts : Options) (kit : LineKit) (stop : Stop) (keys : Plain) → AnswersMade (Err stop) (stepped p (commands.Create name opts) kit).reply
    → keys ≡ state_after (let stopped : Result ℕ Stop = Err stop in stopped) p (stepped p (commands.Create name opts) kit).state → keys.tree.rows ≡ p.tree.rows
stopped_rows p name opts kit (stops.Refused why) keys answers keys_are = ap (λ (q : Plain). q.tree.rows) keys_are ∙ unmade_rows p name opts kit why answers
stopped_rows p name opts kit stops.NoMemory keys answers keys_are = ap (λ (q : Plain). q.tree.rows) keys_are

pub created_not_host : (h : HostState) (name : List ℕ) (opts : Options) (kit : LineKit) (stop : Stop) (keys : Plain) (families : List (ℕ × FamilyState)) → IsHost h.tells h.keys h.families h.limit
    → AnswersMade (Err stop) (stepped h.keys (commands.Create name opts) kit).reply → keys ≡ state_after (let stopped : Result ℕ Stop = Err stop in stopped) h.keys (stepped h.keys (commands.Create name opts) kit).state
    → families ≡ h.families → IsHost h.tells keys families h.limit
created_not_host h name opts kit stop keys families host answers keys_are families_are =
    whole (created_not_pairs h name opts kit stop keys families (pairs host) answers keys_are families_are)
    (with_list keys.tree.rows families h.families families_are
    (with_rows keys.tree.rows h.keys.tree.rows h.families (stopped_rows h.keys name opts kit stop keys answers keys_are) host.datasets))

-- ---- a call of one family

module _ (tells : Bool) (keys : Plain) (families : List (ℕ × FamilyState)) (limit : ℕ) (host : IsHost tells keys families limit) where
  pub left_host : (at : ℕ) (why : Refusal) (call : FamilyState → Left) → ((state : FamilyState) → Keeps keys.tree.last state (call state).state) → ((state : FamilyState) → SameHeads state (call state).state)
      → (result : Result (Unit {0}) Stop) → IsHost tells keys (left_after result families (on_family families at why call (at_id at families)).families) limit
  left_host at why call keeps same result = whole (left_pairs tells keys families limit (pairs host) at why call keeps result) (by (at_id at families) refl result) where
    by : (found : Option FamilyState) → at_id at families ≡ found → (result : Result (Unit {0}) Stop) → Heads keys.tree.rows (left_after result families (on_family families at why call found).families)
    by None there (Ok done) = host.datasets
    by None there (Err (stops.Refused why)) = host.datasets
    by None there (Err stops.NoMemory) = host.datasets
    by (Some state) there (Ok done) = heads_one keys.tree.rows families at state (call state).state there (same state) host.datasets
    by (Some state) there (Err (stops.Refused why)) = heads_one keys.tree.rows families at state (call state).state there (same state) host.datasets
    by (Some state) there (Err stops.NoMemory) = host.datasets

served_heads : (rows : List Dataset) (families new : List (ℕ × FamilyState)) (result : Result FileReply AllocError) (of head : ℕ) (key : MasterValue) (command : FileCmd) (found : Option FamilyState) → at_id of families ≡ found
    → ServesAt result families new of head key command found → Heads rows families → Heads rows new
served_heads rows families new result of head key command None there is heads = with_list rows new families is.1 heads
served_heads rows families new result of head key command (Some state) there is heads =
    with_list rows new (with_id of is.left families) is.put
    (heads_one rows families of state is.left there (done_heads result head (used is.serves.calls is.serves.put is.serves.draws state) is.left is.serves.left) heads)

under_heads : (rows : List Dataset) (families new : List (ℕ × FamilyState)) (result : Result FileReply AllocError) (of head : ℕ) (command : FileCmd) (key : Option Master) → ServesUnder result families new of head command key
    → Heads rows families → Heads rows new
under_heads rows families new result of head command None is heads = with_list rows new families is.1 heads
under_heads rows families new result of head command (Some key) is heads = served_heads rows families new result of head (value_of key) command (at_id of families) refl is heads

pub file_invariant : (tells : Bool) (p q : Plain) (families new : List (ℕ × FamilyState)) (limit : ℕ) (result : Result FileReply AllocError) (id : ℕ) (command : FileCmd) → q ≡ p → IsHost tells p families limit
    → ServesUnder result families new (family q.tree.rows id) id command (opened_key q (family q.tree.rows id)) → IsHost tells p new limit
file_invariant tells p q families new limit result id command same host is =
    whole (file_pairs tells p q families new limit result id command same (pairs host) is)
    (under_heads p.tree.rows families new result (family q.tree.rows id) id command (opened_key q (family q.tree.rows id)) is host.datasets)

-- ---- a clone

encrypted_target : (p : Plain) (from : List ℕ) (id : ℕ) → encrypted_id p from ≡ Ok id → id_named from p.tree.rows ≡ Some id
encrypted_target p from id is = by (row_named from p.tree.rows) is where
  by_kind : (row : Dataset) (crypt : Bool) → cond crypt (let found : Result ℕ Refusal = Ok row.id in found) (Err refusals.NotEncrypted) ≡ Ok id → Some row.id ≡ Some id
  by_kind row true is = cc
  by_kind row false is = absurd (cc)

  by : (found : Option Dataset) → encrypted_row found ≡ Ok id → option_map (λ (r : Dataset). r.id) found ≡ Some id
  by None is = absurd (cc)
  by (Some row) is = by_kind row (Rattle.key_machine.specs.Plain.is_encrypted_kind row.kind) is

-- the snapshot of a clone that isn't refused has a table
table_there : (spot : Spot) (state : FamilyState) → clone_answer spot state ≡ Ok tt → (table : Table) × (table_of spot state.heads ≡ Some table)
table_there spot state answer =
    by_table (is_some spot.snap) (table_of spot state.heads)
    (by_snap (is_snapshot spot state.heads) (cond (nat_le state.room (length state.log)) (Err (refusals.Full state.room)) (Ok tt)) (ap (λ (a : Result (Unit {0}) Refusal). is_err a) answer))
  where
    by_table : (named : Bool) (found : Option Table) → (named && is_some found) ≡ true → (table : Table) × (found ≡ Some table)
    by_table true None is = absurd (cc)
    by_table true (Some table) is = (table, refl)
    by_table false found is = absurd (cc)

    by_snap : (snap : Bool) (rest : Result (Unit {0}) Refusal) → is_err (cond snap rest (Err refusals.NoSnapshot)) ≡ false → snap ≡ true
    by_snap true rest answer = refl
    by_snap false rest answer = absurd (cc)

module _ (h : HostState) (host : IsHost h.tells h.keys h.families h.limit) (sound : Sound ciphers h.keys) (from part name : List ℕ) (at id : ℕ) (family_is : at ≡ family_id h id) (id_is : encrypted_id h.keys from ≡ Ok id)
    (left : Plain) (new : List (ℕ × FamilyState)) where
  abbrev spot : Spot
  spot = snap_spot id part

  made_clone : (state : FamilyState) → at_id at h.families ≡ Some state → refusal_of h.keys (commands.Clone from name) ≡ None → clone_answer spot state ≡ Ok tt → left ≡ (key_step h.keys (commands.Clone from name) nothing_told).state
      → new ≡ with_id at (clone_added spot (h.keys.tree.last + 1) state) h.families → Heads left.tree.rows new
  made_clone state found accepted answer left_made put =
      let target_is : target h.keys (commands.Clone from name) ≡ Some id = encrypted_target h.keys from id id_is in
      let is : IsClonable h.keys id name = clonable h.keys from name id sound.tree.tree accepted target_is in
      let table = table_there spot state answer in
      let own = family_of_clone h.keys id name sound.tree.tree is ∙ sym family_is in
      let more : (clone_added spot (h.keys.tree.last + 1) state).heads ≡ state.heads ++ clone_of (h.keys.tree.last + 1) table.0 ∷ [] =
      ap (λ (t : Option Table). state.heads ++ option_map_or (λ table. clone_of (h.keys.tree.last + 1) table ∷ []) t []) table.1 in
      let heads : Heads (cloned h.keys id name).tree.rows (with_id at (clone_added spot (h.keys.tree.last + 1) state) h.families) =
      heads_clone h.keys (row h.keys id name sound.tree.tree is) (clone_grows h.keys id name sound.tree.tree is) h.families host.datasets at own state found (clone_added spot (h.keys.tree.last + 1) state)
      (clone_of (h.keys.tree.last + 1) table.0) more refl in
      with_list left.tree.rows new (with_id at (clone_added spot (h.keys.tree.last + 1) state) h.families) put
      (with_rows left.tree.rows (cloned h.keys id name).tree.rows (with_id at (clone_added spot (h.keys.tree.last + 1) state) h.families)
      (ap (λ (q : Plain). q.tree.rows) (left_made ∙ cloned_state h.keys from name id sound accepted target_is)) heads)

  kept_family : (state state_left : FamilyState) → at_id at h.families ≡ Some state → state_left ≡ state → new ≡ with_id at state_left h.families → Heads h.keys.tree.rows new
  kept_family state state_left found same put =
      with_list h.keys.tree.rows new (with_id at state_left h.families) put
      (heads_one h.keys.tree.rows h.families at state state_left found (λ head. ap (λ (f : FamilyState). is_some (head_of head f.heads)) same) host.datasets)

  clone_heads : (state : FamilyState) → at_id at h.families ≡ Some state → (result : Result (Unit {0}) Stop) (state_left : FamilyState) → Clones result from name spot h.keys left state state_left → new ≡ with_id at state_left h.families
      → Heads left.tree.rows new
  clone_heads state found (Ok done) state_left clones put =
      let free_is = free_clone h.keys from name spot state clones.0 in
      made_clone state found free_is.0 free_is.1 clones.1 (put ∙ ap (λ (f : FamilyState). with_id at f h.families) clones.2)
  clone_heads state found (Err (stops.Refused why)) state_left clones put =
      with_rows left.tree.rows h.keys.tree.rows new (ap (λ (q : Plain). q.tree.rows) clones.1) (kept_family state state_left found clones.2 put)
  clone_heads state found (Err stops.NoMemory) state_left clones put =
      with_rows left.tree.rows h.keys.tree.rows new
      (⊎_elim (λ (same : left ≡ h.keys). ap (λ (q : Plain). q.tree.rows) same) (λ (spent : left ≡ id_used h.keys). ap (λ (q : Plain). q.tree.rows) spent) clones.0)
      (kept_family state state_left found clones.1 put)

  pub cloned_host : (result : Result (Unit {0}) Stop) → ClonesIn result from name spot h.keys left at h.families new (at_id at h.families) → IsHost h.tells left new h.limit
  cloned_host result is = whole (cloned_pairs h (pairs host) from part name at id family_is result left new is) (by (at_id at h.families) refl is) where
    by : (found : Option FamilyState) → at_id at h.families ≡ found → ClonesIn result from name spot h.keys left at h.families new found → Heads left.tree.rows new
    by None there is = with_rows left.tree.rows h.keys.tree.rows new (ap (λ (q : Plain). q.tree.rows) is.1) (with_list h.keys.tree.rows new h.families is.2 host.datasets)
    by (Some state) there is = clone_heads state there result is.state_left is.clones is.put

-- ---- a destroy

module _ (h : HostState) (host : IsHost h.tells h.keys h.families h.limit) (sound : Sound ciphers h.keys) (name : List ℕ) (id : ℕ) (at : id_named name h.keys.tree.rows ≡ Some id) where
  abbrev of : ℕ
  of = family h.keys.tree.rows id

  abbrev snaps : Bool
  snaps = has_parts (parts_in id (at_id of h.families))

  abbrev gone : Stepped
  gone = key_step h.keys (commands.Destroy name snaps) nothing_told

  without_heads : is_needed id h.keys.tree.rows ≡ false → (others : Bool) → Heads (rows_left id h.keys.tree.rows) (cond others (without_head h.families of id (at_id of h.families)) (without_id of h.families))
  without_heads free true = heads_left h.keys id free sound.tree h.families host.datasets (at_id of h.families) refl
  without_heads free false = heads_dropped h.keys id free sound.tree h.families host.datasets

  destroyed_heads : (result : Result (Unit {0}) Refusal) (left : Plain) (new : List (ℕ × FamilyState)) → AnswersUnloaded result gone.reply → left ≡ gone.state
      → OnOk result (new ≡ head_forgotten h.families of id) → OnErr result (new ≡ h.families) → Heads left.tree.rows new
  destroyed_heads (Ok tt) left new answers keys_are forgotten same =
      let free_is : is_needed id h.keys.tree.rows ≡ false = unneeded_named h.keys name snaps id (accepted_where_done h.keys name snaps answers) at in
      let keys_gone : left ≡ destroyed h.keys id = keys_are ∙ done_state h.keys name snaps nothing_told id at answers in
      with_list left.tree.rows new (without_dataset h id) (forgotten ∙ left_is h (pairs host) sound name id at answers)
      (with_rows left.tree.rows (rows_left id h.keys.tree.rows) (without_dataset h id) (ap (λ (q : Plain). q.tree.rows) keys_gone) (without_heads free_is (has_relatives h.keys id)))
  destroyed_heads (Err why) left new answers keys_are forgotten same =
      with_list left.tree.rows new h.families same
      (with_rows left.tree.rows h.keys.tree.rows h.families (ap (λ (q : Plain). q.tree.rows) (keys_are ∙ refused_state h.keys name snaps why answers)) host.datasets)

  pub destroyed_host : (result : Result (Unit {0}) Refusal) (left : Plain) (new : List (ℕ × FamilyState)) → AnswersUnloaded result gone.reply → left ≡ gone.state
      → OnOk result (new ≡ head_forgotten h.families of id) → OnErr result (new ≡ h.families) → IsHost h.tells left new h.limit
  destroyed_host result left new answers keys_are forgotten same =
      whole (destroyed_pairs h (pairs host) sound name id at result left new answers keys_are forgotten same) (destroyed_heads result left new answers keys_are forgotten same)
