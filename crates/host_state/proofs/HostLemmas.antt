-- What a command leaves of a host: its keystore's state, its families, and that these go together.
use Rattle.std.proofs.Common.{◌≡◌, ℕ, ◌+◌, ◌-◌, ◌^◌, ◌<◌, ◌≤◌, min, Bool, true, false, cond, List, [], ◌∷◌, Option, Some, None, Result, Ok, Err, IfOk, IfSome, inl, inr, refl, ap, sym, ◌∙◌, subst, arith}
use Rattle.std.proofs.lemmas.Bool.{eq-eqb}
use Rattle.std.proofs.lemmas.Bool.Decides.{eqb_tells}
use Rattle.std.specs.Prelude.{unwrap_or}
use Rattle.std.specs.declared.alloc.AllocError.{AllocError}
use Rattle.dataset_tree.specs.declared.refusal.Refusal.{Refusal}
use Rattle.dataset_tree.specs.declared.refusal.Stop.{Stop}
use Rattle.dataset_tree.specs.declared.refusal.Stop.TheVariants as stops
use Rattle.encryption_roots.specs.declared.command.KeyCmd.{KeyCmd}
use Rattle.encryption_roots.specs.declared.command.KeyCmd.TheVariants as commands
use Rattle.encryption_roots.specs.declared.kit.LineKit.{LineKit}
use Rattle.encryption_roots.specs.declared.kit.SeedGot.{SeedGot}
use Rattle.encryption_roots.specs.declared.kit.SeedGot.TheVariants as seeds
use Rattle.encryption_roots.specs.declared.props.Options.{Options}
use Rattle.encryption_roots.specs.ById.{IsRisingById, at_id, with_id}
use Rattle.encryption_roots.proofs.ByIdLemmas.{at_id-with_id, at_id-with_id_other}
use Rattle.salt_rotation.specs.Places.{guid_place, hmac_place, salts_seed_place, vector_place}
use Rattle.salt_rotation.specs.SaltState.{SaltState}
use Rattle.salt_rotation.specs.SeedWords.{seed_bytes}
use Rattle.key_machine.specs.Create.{makes_encrypted, create_key, told_encrypted, new_stored, new_suite, seeded_record, seeded_master}
use Rattle.key_machine.specs.Plain.{Plain, Stored}
use Rattle.key_machine.specs.Reply.{Stepped, Reply, Made, Refused}
use Rattle.key_machine.specs.Step.{told}
use Rattle.key_machine.specs.Told.{Told, nothing_told, seed_of}
use Rattle.key_machine.proofs.CreateLawsStep.{free}
use Rattle.key_machine.proofs.SoundLemmas.{by_step}
use Rattle.key_ciphers.proofs.CipherLaws.{ciphers_sound}
use Rattle.key_ciphers.specs.Ciphers.{ciphers}
use Rattle.key_store.specs.Calls.{AnswersMade, state_after, stepped}
use Rattle.family_log.specs.Model.{FamilyState, fresh_family}
use Rattle.family_log.specs.Tables.{fresh_table}
use Rattle.file_dataset.specs.Portable.{portable}
use Rattle.file_dataset.specs.Steady.{IsSteady}
use Rattle.host_state.specs.Hosts.{HostState, KeyFacts, by_id, facts_of_family, facts_of_record, seeded_family, family_from, new_block, new_family, with_family, created_families, host_step, host_after, log_room, seeded_guid, seeded_portable, seeded_salts}
use Rattle.snap_clone.specs.Ids.{IsUpTo}
use Rattle.snap_clone.proofs.IdLemmas.{fresh_up_to, up_to_more}
use Rattle.host_state.proofs.HostParts.{Pairs}
use Rattle.host_state.proofs.PairedLemmas.{SameFacts, facts_with_id, written_guid}

-- ---- a new dataset

-- the record that a seed makes has the guid of the family that it makes
seeded_alike : (p : Plain) (name : List ℕ) (opts : Options) (tells : Bool) (limit id : ℕ) (key seed : List ℕ)
    → facts_of_family (seeded_family tells limit seed (new_block opts) id) ≡ facts_of_record (let stored : Stored = record { wrapped = seeded_record ciphers (new_suite p name opts) seed key; block = new_block opts } in stored)
seeded_alike p name opts tells limit id key seed =
    ap (λ (guid : ℕ). let facts : KeyFacts = record { guid = guid; block = new_block opts } in facts)
    (sym (written_guid (seeded_master ciphers (new_suite p name opts) seed) key (ciphers.seed_bytes seed (vector_place 0) 12) (ciphers_sound.numbers seed guid_place)))

stored_is : (id : ℕ) (bytes : List ℕ) → unwrap_or (at_id id (let written : List (ℕ × List ℕ) = (id, bytes) ∷ [] in written)) [] ≡ bytes
stored_is id bytes = rw (eq-eqb id id refl) refl

no_fault : (fault : Option Refusal) → (why : Refusal) → fault ≡ Some why → fault ≡ None → ⊥
no_fault fault why some none = let both : Some why ≡ None = sym some ∙ none in cc

module _ (h : HostState) (name : List ℕ) (opts : Options) (kit : LineKit) (paired : by_id facts_of_family h.families ≡ by_id facts_of_record h.keys.wrapped) where
  abbrev new : ℕ
  new = h.keys.tree.last + 1

  both_with : (family : FamilyState) (stored : Stored) → facts_of_family family ≡ facts_of_record stored → by_id facts_of_family (with_id new family h.families) ≡ by_id facts_of_record (with_id new stored h.keys.wrapped)
  both_with family stored alike =
      facts_with_id facts_of_family new family h.families ∙ ap (λ (f : KeyFacts). with_id new f (by_id facts_of_family h.families)) alike
      ∙ ap (λ (fs : List (ℕ × KeyFacts)). with_id new (facts_of_record stored) fs) paired ∙ sym (facts_with_id facts_of_record new stored h.keys.wrapped)

  encrypted_paired : (key : Result (List ℕ) Refusal) (seed : SeedGot) (facts : Told) → facts ≡ told_encrypted ciphers h.keys name opts key (seed_of seed) → facts.fault ≡ None
      → by_id facts_of_family (with_family new (family_from h.tells h.limit (new_block opts) new seed) h.families) ≡ by_id facts_of_record (with_id new (new_stored new opts facts) h.keys.wrapped)
  encrypted_paired (Err why) seed facts is none = absurd (no_fault facts.fault why (ap (λ (t : Told). t.fault) is) none)
  encrypted_paired (Ok key) (seeds.Got seed) facts is none =
      let bytes : List ℕ = seeded_record ciphers (new_suite h.keys name opts) seed key in
      let stored : Stored = record { wrapped = bytes; block = new_block opts } in
      let same : new_stored new opts facts ≡ stored =
      ap (λ (t : Told). new_stored new opts t) is ∙ ap (λ (b : List ℕ). let made : Stored = record { wrapped = b; block = new_block opts } in made) (stored_is new bytes) in
      both_with (seeded_family h.tells h.limit seed (new_block opts) new) stored (seeded_alike h.keys name opts h.tells h.limit new key seed)
      ∙ ap (λ (s : Stored). by_id facts_of_record (with_id new s h.keys.wrapped)) (sym same)
  encrypted_paired (Ok key) seeds.NotAsked facts is none = absurd (no_fault facts.fault _ (ap (λ (t : Told). t.fault) is) none)
  encrypted_paired (Ok key) seeds.Fault facts is none = absurd (no_fault facts.fault _ (ap (λ (t : Told). t.fault) is) none)

  made_paired : (b : Bool) (facts : Told) → facts ≡ cond b (told_encrypted ciphers h.keys name opts (create_key ciphers h.keys name opts kit) (seed_of kit.seed)) nothing_told → facts.fault ≡ None
      → by_id facts_of_family (with_family new (cond b (family_from h.tells h.limit (new_block opts) new kit.seed) None) h.families)
      ≡ by_id facts_of_record (cond b (with_id new (new_stored new opts facts) h.keys.wrapped) h.keys.wrapped)
  made_paired true facts is none = encrypted_paired (create_key ciphers h.keys name opts kit) kit.seed facts is none
  made_paired false facts is none = paired

  fault_free : (fault : Option Refusal) → Rattle.key_machine.specs.Refusals.first_refusal (fault ∷ []) ≡ None → fault ≡ None
  fault_free None none = refl
  fault_free (Some why) none = absurd (cc)

  pub create_paired : by_id facts_of_family (created_families h name opts kit (stepped h.keys (commands.Create name opts) kit).reply) ≡ by_id facts_of_record (stepped h.keys (commands.Create name opts) kit).state.wrapped
  create_paired =
      let command : KeyCmd = commands.Create name opts in
      let facts : Told = told ciphers h.keys command kit in
      by_step h.keys command facts (λ (s : Stepped). by_id facts_of_family (created_families h name opts kit s.reply) ≡ by_id facts_of_record s.state.wrapped)
      (λ accepted. made_paired (makes_encrypted h.keys name opts) facts refl (fault_free facts.fault accepted.material)) (λ why state. paired) (λ why material. paired)

-- the id that a create gives, which is the last one then
pub made_id : (p : Plain) (name : List ℕ) (opts : Options) (kit : LineKit) (id : ℕ) → (stepped p (commands.Create name opts) kit).reply ≡ Made id
    → (id ≡ p.tree.last + 1) × (p.tree.last < 4294967295) × ((stepped p (commands.Create name opts) kit).state.tree.last ≡ p.tree.last + 1)
made_id p name opts kit id =
    let command : KeyCmd = commands.Create name opts in
    let facts : Told = told ciphers p command kit in
    by_step p command facts (λ (s : Stepped). s.reply ≡ Made id → (id ≡ p.tree.last + 1) × (p.tree.last < 4294967295) × (s.state.tree.last ≡ p.tree.last + 1))
    (λ accepted made. (let same : Made (p.tree.last + 1) ≡ Made id = made in cc, (free p name opts accepted.state).ids, refl)) (λ why state made. absurd (cc)) (λ why material made. absurd (cc))

unmade_last : (p : Plain) (name : List ℕ) (opts : Options) (kit : LineKit) (why : Refusal) → (stepped p (commands.Create name opts) kit).reply ≡ Refused why
    → (stepped p (commands.Create name opts) kit).state.tree.last ≡ p.tree.last
unmade_last p name opts kit why =
    let command : KeyCmd = commands.Create name opts in
    let facts : Told = told ciphers p command kit in
    by_step p command facts (λ (s : Stepped). s.reply ≡ Refused why → s.state.tree.last ≡ p.tree.last)
    (λ accepted refused. absurd (let other : Made (p.tree.last + 1) ≡ Refused why = refused in cc)) (λ first state refused. refl) (λ first material refused. refl)

pub created_ok : (h : HostState) (name : List ℕ) (opts : Options) (kit : LineKit) (id next : ℕ) (keys : Plain) (family : Option FamilyState) (families : List (ℕ × FamilyState)) → (stepped h.keys (commands.Create name opts) kit).reply ≡ Made id
    → keys ≡ (stepped h.keys (commands.Create name opts) kit).state → next ≡ id → family ≡ new_family h name opts kit next → families ≡ with_family id family h.families
    → record h { keys = keys; families = families } ≡ (host_step h (commands.Create name opts) kit).state
created_ok h name opts kit id next keys family families made keys_are next_is family_is families_are =
    let step : Stepped = stepped h.keys (commands.Create name opts) kit in
    let all : families ≡ created_families h name opts kit step.reply =
    families_are ∙ ap (λ (f : Option FamilyState). with_family id f h.families) (family_is ∙ ap (λ (i : ℕ). new_family h name opts kit i) next_is) ∙ ap (λ (r : Reply). created_families h name opts kit r) (sym made) in
    ap (λ (ks : Plain). record h { keys = ks; families = families }) keys_are ∙ ap (λ (fs : List (ℕ × FamilyState)). record h { keys = step.state; families = fs }) all

pub created_not : (h : HostState) (name : List ℕ) (opts : Options) (kit : LineKit) (stop : Stop) (keys : Plain) → AnswersMade (Err stop) (stepped h.keys (commands.Create name opts) kit).reply
    → keys ≡ state_after (let stopped : Result ℕ Stop = Err stop in stopped) h.keys (stepped h.keys (commands.Create name opts) kit).state
    → record h { keys = keys } ≡ host_after (let stopped : Result ℕ Stop = Err stop in stopped) h (host_step h (commands.Create name opts) kit).state
created_not h name opts kit (stops.Refused why) keys answers keys_are =
    let step : Stepped = stepped h.keys (commands.Create name opts) kit in
    ap (λ (ks : Plain). record h { keys = ks }) keys_are ∙ ap (λ (r : Reply). record h { keys = step.state; families = created_families h name opts kit r }) (sym answers)
created_not h name opts kit stops.NoMemory keys answers keys_are = ap (λ (ks : Plain). record h { keys = ks }) keys_are

-- the id for which a family was made is the one that is given
pub next_is : (p : Plain) (name : List ℕ) (opts : Options) (kit : LineKit) (id last next : ℕ) → (stepped p (commands.Create name opts) kit).reply ≡ Made id → last ≡ p.tree.last → next ≡ min (last + 1) (2 ^ 32 - 1) → next ≡ id
next_is p name opts kit id last next made last_is sum =
    let given = made_id p name opts kit id made in
    sum ∙ least last (subst (λ (l : ℕ). l < 4294967295) (sym last_is) given.1) ∙ ap (λ (l : ℕ). l + 1) last_is ∙ sym given.0
  where
    least : (l : ℕ) → l < 4294967295 → min (l + 1) (2 ^ 32 - 1) ≡ l + 1
    least l below = omega (arith, below)

-- a fresh family is steady, and so are all with it
fresh_steady : (h : HostState) (name : List ℕ) (opts : Options) (kit : LineKit) (next : ℕ) (b : Bool) (seed : SeedGot) → h.tells ≡ true
    → IfSome (cond b (family_from h.tells h.limit (new_block opts) next seed) None) IsSteady
fresh_steady h name opts kit next false seed tells = tt
fresh_steady h name opts kit next true seeds.NotAsked tells = tt
fresh_steady h name opts kit next true seeds.Fault tells = tt
fresh_steady h name opts kit next true (seeds.Got seed) tells =
    subst (λ (told : Bool). IsSteady (seeded_family told h.limit seed (new_block opts) next)) (sym tells)
    (record { armed = refl; held = refl; drawn = omega arith })

pub at_each : (P : FamilyState → Type 0) (families : List (ℕ × FamilyState)) (at id : ℕ) (family : FamilyState) → P family → IfSome (at_id id families) P → IfSome (at_id id (with_id at family families)) P
at_each P families at id family own others =
    elim (eqb_tells id at) [
      | inl same ↦ rw (same.1, at_id-with_id at family families) own
      | inr apart ↦ subst (λ (found : Option FamilyState). IfSome found P) (sym (at_id-with_id_other at id family families apart.1)) others
    ]

with_steady : (h : HostState) (name : List ℕ) (opts : Options) (kit : LineKit) (next : ℕ) → (h.tells ≡ true → (id : ℕ) → IfSome (at_id id h.families) IsSteady) → h.tells ≡ true → (id at : ℕ)
    (family : Option FamilyState) → family ≡ new_family h name opts kit next → IfSome (at_id id (with_family at family h.families)) IsSteady
with_steady h name opts kit next steady tells id at None is = steady tells id
with_steady h name opts kit next steady tells id at (Some family) is =
    at_each IsSteady h.families at id family
    (subst (λ (found : Option FamilyState). IfSome found IsSteady) (sym is) (fresh_steady h name opts kit next (makes_encrypted h.keys name opts) kit.seed tells)) (steady tells id)

-- a fresh family is up to its head, and all with it
higher : (last later : ℕ) → last ≤ later → (found : Option FamilyState) → IfSome found (IsUpTo last) → IfSome found (IsUpTo later)
higher last later above None below = tt
higher last later above (Some family) below = up_to_more family last later below above

fresh_below : (h : HostState) (opts : Options) (next : ℕ) (b : Bool) (seed : SeedGot) → IfSome (cond b (family_from h.tells h.limit (new_block opts) next seed) None) (IsUpTo next)
fresh_below h opts next false seed = tt
fresh_below h opts next true seeds.NotAsked = tt
fresh_below h opts next true seeds.Fault = tt
fresh_below h opts next true (seeds.Got seed) = fresh_up_to h.tells (seeded_guid seed) (new_block opts) (seeded_salts seed h.limit) log_room next (seeded_portable seed (new_block opts))

with_below : (h : HostState) (name : List ℕ) (opts : Options) (kit : LineKit) (next last : ℕ) → ((id : ℕ) → IfSome (at_id id h.families) (IsUpTo h.keys.tree.last)) → h.keys.tree.last ≤ last → next ≤ last → (id at : ℕ)
    (family : Option FamilyState) → family ≡ new_family h name opts kit next → IfSome (at_id id (with_family at family h.families)) (IsUpTo last)
with_below h name opts kit next last below above within id at None is = higher h.keys.tree.last last above (at_id id h.families) (below id)
with_below h name opts kit next last below above within id at (Some family) is =
    let own : IsUpTo next family = subst (λ (found : Option FamilyState). IfSome found (IsUpTo next)) (sym is) (fresh_below h opts next (makes_encrypted h.keys name opts) kit.seed) in
    at_each (IsUpTo last) h.families at id family (up_to_more family next last own within) (higher h.keys.tree.last last above (at_id id h.families) (below id))

created_below : (h : HostState) (name : List ℕ) (opts : Options) (kit : LineKit) (id next last : ℕ) (family : Option FamilyState) → ((id : ℕ) → IfSome (at_id id h.families) (IsUpTo h.keys.tree.last))
    → last ≡ h.keys.tree.last + 1 → id ≡ h.keys.tree.last + 1 → next ≡ id → family ≡ new_family h name opts kit next → (at : ℕ) → IfSome (at_id at (with_family id family h.families)) (IsUpTo last)
created_below h name opts kit id next last family below last_is id_is next_is family_is at =
    with_below h name opts kit next last below (omega (arith, last_is)) (omega (arith, last_is, id_is, next_is)) at id family family_is

pub created_pairs : (h : HostState) (name : List ℕ) (opts : Options) (kit : LineKit) (id next : ℕ) (keys : Plain) (family : Option FamilyState) (families : List (ℕ × FamilyState)) → Pairs h.tells h.keys h.families h.limit
    → (stepped h.keys (commands.Create name opts) kit).reply ≡ Made id → keys ≡ (stepped h.keys (commands.Create name opts) kit).state → next ≡ id → family ≡ new_family h name opts kit next → families ≡ with_family id family h.families
    → IsRisingById families → Pairs h.tells keys families h.limit
created_pairs h name opts kit id next keys family families host made keys_are next_is family_is families_are rising =
    let step : Stepped = stepped h.keys (commands.Create name opts) kit in
    let whole : record h { keys = keys; families = families } ≡ (host_step h (commands.Create name opts) kit).state = created_ok h name opts kit id next keys family families made keys_are next_is family_is families_are in
    let all : families ≡ created_families h name opts kit step.reply = ap (λ (k : HostState). k.families) whole in
    record {
      rising = rising;
      paired = ap (λ (fs : List (ℕ × FamilyState)). by_id facts_of_family fs) all ∙ create_paired h name opts kit host.paired ∙ ap (λ (p : Plain). by_id facts_of_record p.wrapped) (sym keys_are);
      steady = λ tells at. subst (λ (fs : List (ℕ × FamilyState)). IfSome (at_id at fs) IsSteady) (sym families_are)
          (with_steady h name opts kit next host.steady tells at id family family_is);
      up_to = λ at. subst (λ (fs : List (ℕ × FamilyState)). IfSome (at_id at fs) (IsUpTo keys.tree.last)) (sym families_are)
          (created_below h name opts kit id next keys.tree.last family host.up_to
          (ap (λ (p : Plain). p.tree.last) keys_are ∙ (made_id h.keys name opts kit id made).2) (made_id h.keys name opts kit id made).0 next_is family_is at);
      least = host.least;
      most = host.most;
    }

-- the same families, under a tree that gave the same id last
still_below : (families others : List (ℕ × FamilyState)) (last later : ℕ) → ((id : ℕ) → IfSome (at_id id others) (IsUpTo last)) → families ≡ others → later ≡ last → (id : ℕ) → IfSome (at_id id families) (IsUpTo later)
still_below families others last later below same last_is id =
    subst (λ (fs : List (ℕ × FamilyState)). IfSome (at_id id fs) (IsUpTo later)) (sym same) (subst (λ (n : ℕ). IfSome (at_id id others) (IsUpTo n)) (sym last_is) (below id))

pub created_not_pairs : (h : HostState) (name : List ℕ) (opts : Options) (kit : LineKit) (stop : Stop) (keys : Plain) (families : List (ℕ × FamilyState)) → Pairs h.tells h.keys h.families h.limit
    → AnswersMade (Err stop) (stepped h.keys (commands.Create name opts) kit).reply → keys ≡ state_after (let stopped : Result ℕ Stop = Err stop in stopped) h.keys (stepped h.keys (commands.Create name opts) kit).state
    → families ≡ h.families → Pairs h.tells keys families h.limit
created_not_pairs h name opts kit (stops.Refused why) keys families host answers keys_are families_are =
    let step : Stepped = stepped h.keys (commands.Create name opts) kit in
    let same : by_id facts_of_family h.families ≡ by_id facts_of_record step.state.wrapped =
    ap (λ (r : Reply). by_id facts_of_family (created_families h name opts kit r)) (sym answers) ∙ create_paired h name opts kit host.paired in
    record {
      rising = subst (λ (fs : List (ℕ × FamilyState)). IsRisingById fs) (sym families_are) host.rising;
      paired = ap (λ (fs : List (ℕ × FamilyState)). by_id facts_of_family fs) families_are ∙ same ∙ ap (λ (p : Plain). by_id facts_of_record p.wrapped) (sym keys_are);
      steady = λ tells id. subst (λ (fs : List (ℕ × FamilyState)). IfSome (at_id id fs) IsSteady) (sym families_are) (host.steady tells id);
      up_to = still_below families h.families h.keys.tree.last keys.tree.last host.up_to families_are
          (ap (λ (p : Plain). p.tree.last) keys_are ∙ unmade_last h.keys name opts kit why answers);
      least = host.least;
      most = host.most;
    }
created_not_pairs h name opts kit stops.NoMemory keys families host answers keys_are families_are = record {
  rising = subst (λ (fs : List (ℕ × FamilyState)). IsRisingById fs) (sym families_are) host.rising;
  paired = ap (λ (fs : List (ℕ × FamilyState)). by_id facts_of_family fs) families_are ∙ host.paired ∙ ap (λ (p : Plain). by_id facts_of_record p.wrapped) (sym keys_are);
  steady = λ tells id. subst (λ (fs : List (ℕ × FamilyState)). IfSome (at_id id fs) IsSteady) (sym families_are) (host.steady tells id);
  up_to = still_below families h.families h.keys.tree.last keys.tree.last host.up_to families_are (ap (λ (p : Plain). p.tree.last) keys_are);
  least = host.least;
  most = host.most;
}

-- a family that was made by the words of a seed
pub family_made : (result : Result FamilyState AllocError) (tells : Bool) (limit : ℕ) (seed words : List ℕ) (block id guid : ℕ) (salts hmac mac : List ℕ)
    → IfOk result (λ family. family ≡ fresh_family tells guid block (let state : SaltState = record { seed = salts; limit = limit; made = 0 } in state) log_room id mac) → words ≡ seed → guid ≡ seeded_guid words
    → salts ≡ seed_bytes words salts_seed_place 32 → hmac ≡ seed_bytes words hmac_place 64 → mac ≡ portable hmac (fresh_table block []) → IfOk result (λ family. family ≡ seeded_family tells limit seed block id)
family_made (Ok family) tells limit seed words block id guid salts hmac mac fresh words_are guid_is salts_are hmac_is mac_is =
    let macs : mac ≡ portable (seed_bytes seed hmac_place 64) (fresh_table block []) = mac_is ∙ ap (λ (key : List ℕ). portable key (fresh_table block [])) (hmac_is ∙ ap (λ (w : List ℕ). seed_bytes w hmac_place 64) words_are) in
    fresh ∙ ap (λ (g : ℕ). fresh_family tells g block (record { seed = salts; limit = limit; made = 0 }) log_room id mac) (guid_is ∙ ap (λ (w : List ℕ). seeded_guid w) words_are)
    ∙ ap (λ (s : List ℕ). fresh_family tells (seeded_guid seed) block (record { seed = s; limit = limit; made = 0 }) log_room id mac) (salts_are ∙ ap (λ (w : List ℕ). seed_bytes w salts_seed_place 32) words_are)
    ∙ ap (λ (m : List ℕ). fresh_family tells (seeded_guid seed) block (seeded_salts seed limit) log_room id m) macs
family_made (Err stop) tells limit seed words block id guid salts hmac mac fresh words_are guid_is salts_are hmac_is mac_is = tt

-- ---- a command that makes no family

pub keys_after : {T : Type 0} (result : Result T Stop) (h : HostState) (keys step : Plain) → keys ≡ state_after result h.keys step → record h { keys = keys } ≡ host_after result h (record h { keys = step })
keys_after (Ok value) h keys step is = ap (λ (ks : Plain). record h { keys = ks }) is
keys_after (Err (stops.Refused why)) h keys step is = ap (λ (ks : Plain). record h { keys = ks }) is
keys_after (Err stops.NoMemory) h keys step is = ap (λ (ks : Plain). record h { keys = ks }) is

pub same_after : {T : Type 0} (result : Result T Stop) (before step : Plain) → SameFacts before step → SameFacts before (state_after result before step)
same_after (Ok value) before step same = same
same_after (Err (stops.Refused why)) before step same = same
same_after (Err stops.NoMemory) before step same = (refl, refl)

pub still_pairs_at : (tells : Bool) (before step now : Plain) (families : List (ℕ × FamilyState)) (limit : ℕ) → Pairs tells before families limit → SameFacts before step → now ≡ step → Pairs tells now families limit
still_pairs_at tells before step now families limit host same is = record {
  rising = host.rising;
  paired = host.paired ∙ sym same.0 ∙ ap (λ (p : Plain). by_id facts_of_record p.wrapped) (sym is);
  steady = host.steady;
  up_to = still_below families families before.tree.last now.tree.last host.up_to refl (ap (λ (p : Plain). p.tree.last) is ∙ ap (λ t. t.last) same.1);
  least = host.least;
  most = host.most;
}

pub still_pairs : {T : Type 0} (result : Result T Stop) (tells : Bool) (before step now : Plain) (families : List (ℕ × FamilyState)) (limit : ℕ) → Pairs tells before families limit
    → SameFacts before step → now ≡ state_after result before step → Pairs tells now families limit
still_pairs result tells before step now families limit host same is = still_pairs_at tells before (state_after result before step) now families limit host (same_after result before step same) is
