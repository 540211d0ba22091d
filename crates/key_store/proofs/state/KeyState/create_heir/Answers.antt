use Rattle.std.proofs.Common.{◌≡◌, ◌<◌, ℕ, List, length, true, false, is_some, None, refl, sym, ap, ◌∙◌, subst, arith}
use Rattle.std.proofs.lemmas.List.{length-map}
use Rattle.std.specs.List.{All}
use Rattle.dataset_tree.specs.declared.kinds.Kind.TheVariants.{Crypt}
use Rattle.encryption_roots.specs.declared.command.KeyCmd.{KeyCmd}
use Rattle.encryption_roots.specs.declared.command.KeyCmd.TheVariants as commands
use Rattle.encryption_roots.specs.declared.props.Options.{Options}
use Rattle.encryption_roots.specs.ById.{with_id}
use Rattle.encryption_roots.specs.RecordSize.{IsRecordSize}
use Rattle.wrapped_keys.specs.Stored.{parsed_record}
use Rattle.key_machine.specs.Plain.{Plain, mkey}
use Rattle.key_machine.specs.Create.{makes_heir, parent_key, parent_row}
use Rattle.key_machine.specs.Sound.{Sound}
use Rattle.key_machine.specs.Reply.{Stepped}
use Rattle.key_machine.specs.Step.{refusal_of, told}
use Rattle.key_machine.specs.Told.{Told}
use Rattle.key_machine.proofs.CreateLawsCases.{created_with}
use Rattle.key_machine.proofs.CreateLawsStep.{IsFree, free}
use Rattle.key_machine.proofs.KeyLists.{All-with_id}
use Rattle.dataset_tree.specs.Tree.{Datasets}
use Rattle.key_store.proofs.OpenedLemmas.{AreOpened, created_opened}
use Rattle.key_store.specs.declared.state.FamilyRecord.{FamilyRecord}
use Rattle.key_ciphers.specs.Ciphers.{ciphers}
use Rattle.key_store.specs.Calls.{stepped}
use Rattle.key_store.specs.NewRoot.{IsToldFamily}
use Rattle.key_store.specs.State.{plain_of, stored_of, stored_records, AreCounted, IsKept}
use Rattle.key_store.proofs.UseLemmas.{as_many, rising_counts, created_counted}
use Rattle.key_store.proofs.RecordLemmas.{rising_records, with_id-stored}
use Rattle.key_store.proofs.RoomLemmas.{one_more_row}
use Rattle.key_store.proofs.CreateLemmas.{few_families, given_id, heir_encrypted, heir_step, heir_sound, heir_opens, heir_state}
use Rattle.key_store.proofs.state.KeyState.create_heir.Goals as goal

-- what the conditions say of the state that the fields show
is_free : (inside now : Plain) (name : List ℕ) (opts : Options) → inside ≡ now → refusal_of now (commands.Create name opts) ≡ None → IsFree inside name opts
is_free inside now name opts same accepted = free inside name opts (ap (λ p. refusal_of p (commands.Create name opts)) same ∙ accepted)

is_heir : (inside now : Plain) (name : List ℕ) (opts : Options) → inside ≡ now → makes_heir now name opts ≡ true → makes_heir inside name opts ≡ true
is_heir inside now name opts same heir = ap (λ p. makes_heir p name opts) same ∙ heir

pub add_free-requires : goal.add_free-requires
add_free-requires c =
    given_id (plain_of c.self.inside) c.args.name.now c.args.opts.now (is_free (plain_of c.self.inside) c.args.self.now c.args.name.now c.args.opts.now c.self.view_is c.requires.accepted)

pub put_with_room-requires-clause-rising : goal.put_with_room-requires-clause-rising
put_with_room-requires-clause-rising c = rising_records c.self.inside.records.items c.self.invariant.sound.tree.records

pub put_with_room-requires-clause-room : goal.put_with_room-requires-clause-room
put_with_room-requires-clause-room c =
    let before : Plain = plain_of c.self.inside in
    let is : IsFree before c.args.name.now c.args.opts.now = is_free before c.args.self.now c.args.name.now c.args.opts.now c.self.view_is c.requires.accepted in
    let heir : makes_heir before c.args.name.now c.args.opts.now ≡ true = is_heir before c.args.self.now c.args.name.now c.args.opts.now c.self.view_is c.requires.heir in
    let few : length before.wrapped < 32 = few_families before c.args.name.now c.args.opts.now is (heir_encrypted before c.args.name.now c.args.opts.now heir) in
    let same : length before.wrapped ≡ length c.self.inside.records.items = length-map c.self.inside.records.items (λ entry. (entry.0, stored_of entry.1)) in
    omega (arith, few, same, c.self.invariant.room.records)

pub put_with_room-requires-2-clause-rising : goal.put_with_room-requires-2-clause-rising
put_with_room-requires-2-clause-rising c = rising_counts ciphers (plain_of c.self.inside) c.self.invariant.sound c.self.inside.mkey_counts.items c.self.invariant.mkeys

pub put_with_room-requires-2-clause-room : goal.put_with_room-requires-2-clause-room
put_with_room-requires-2-clause-room c =
    let before : Plain = plain_of c.self.inside in
    let is : IsFree before c.args.name.now c.args.opts.now = is_free before c.args.self.now c.args.name.now c.args.opts.now c.self.view_is c.requires.accepted in
    let heir : makes_heir before c.args.name.now c.args.opts.now ≡ true = is_heir before c.args.self.now c.args.name.now c.args.opts.now c.self.view_is c.requires.heir in
    let few : length before.wrapped < 32 = few_families before c.args.name.now c.args.opts.now is (heir_encrypted before c.args.name.now c.args.opts.now heir) in
    omega (arith, few, as_many before c.self.inside.mkey_counts.items c.self.invariant.mkeys, c.self.invariant.room.mkeys)

module _ (c : goal.After-put_with_room-2) where
  abbrev before : Plain
  before = plain_of c.self.inside

  abbrev command : KeyCmd
  command = commands.Create c.args.name.now c.args.opts.now

  abbrev facts : Told
  facts = told ciphers before command c.args.kit.now

  abbrev key : List ℕ
  key = parent_key before (parent_row before c.args.name.now)

  heir : makes_heir before c.args.name.now c.args.opts.now ≡ true
  heir = is_heir before c.args.self.now c.args.name.now c.args.opts.now c.self.view_is c.requires.heir

  accepted : refusal_of before command ≡ None
  accepted = ap (λ p. refusal_of p command) c.self.view_is ∙ c.requires.accepted

  is_told : IsToldFamily before.tree.last c.args.opts.now facts key c.in-Ok.family
  is_told =
      subst (λ (p : Plain). IsToldFamily p.tree.last c.args.opts.now (told ciphers p command c.args.kit.now) (parent_key p (parent_row p c.args.name.now)) c.in-Ok.family) (sym c.self.view_is) c.in-Ok.ensures

  abbrev after : Plain
  after = record before { tree = c.add_free.new.tree; wrapped = stored_records c.put_with_room.new.entries.items }

  made : after ≡ created_with before c.args.name.now c.args.opts.now facts false true
  made =
      let wrapped = ap stored_records c.put_with_room.ensures.put ∙ with_id-stored c.in_ok-id.id c.in-Ok.family c.self.inside.records.items in
      heir_state before c.args.name.now c.args.opts.now heir facts c.in-Ok.family accepted is_told c.in_ok-id.id c.add_free.new.tree (stored_records c.put_with_room.new.entries.items) c.in_ok-id.ensures.id c.in_ok-id.ensures.added wrapped

pub invariant_of-self-2 : goal.invariant_of-self-2
invariant_of-self-2 c =
    let family : FamilyRecord = c.in-Ok.family in
    let id : ℕ = c.in_ok-id.id in
    let is = is_told c in
    let in_form : All (λ entry. is_some (parsed_record entry.1.wrapped) ≡ true) (with_id id family c.self.inside.records.items) =
    All-with_id (λ entry. is_some (parsed_record entry.1.wrapped) ≡ true) id family c.self.inside.records.items c.self.invariant.records is.in_form in
    let sizes : All (λ entry. IsRecordSize entry.1.block) (with_id id family c.self.inside.records.items) =
    All-with_id (λ entry. IsRecordSize entry.1.block) id family c.self.inside.records.items c.self.invariant.sizes is.size in
    record {
      sound = subst (λ (p : Plain). Sound ciphers p) (sym (made c))
          (heir_sound (before c) c.args.name.now c.args.opts.now (heir c) (facts c) family (accepted c) is c.args.kit.now refl c.self.invariant.sound);
      records = subst (λ (records : List (ℕ × FamilyRecord)). All (λ entry. is_some (parsed_record entry.1.wrapped) ≡ true) records) (sym c.put_with_room.ensures.put) in_form;
      sizes = subst (λ (records : List (ℕ × FamilyRecord)). All (λ entry. IsRecordSize entry.1.block) records) (sym c.put_with_room.ensures.put) sizes;
      props = c.self.invariant.props;
      by_family = c.self.invariant.by_family;
      opened = subst (λ (p : Plain). AreOpened ciphers p c.self.inside.opened.items) (sym (made c))
          (created_opened ciphers (before c) c.args.name.now c.args.opts.now (facts c) false true c.self.inside.opened.items c.self.invariant.sound (accepted c) c.self.invariant.opened);
      mkeys = subst (λ (p : Plain). AreCounted p c.put_with_room-2.new.entries.items) (sym (made c))
          (created_counted ciphers (before c) c.args.name.now c.args.opts.now (facts c) false true c.self.inside.mkey_counts.items c.put_with_room-2.new.entries.items c.self.invariant.sound (accepted c) c.self.invariant.mkeys
          (c.put_with_room-2.ensures.put ∙ ap (λ n. with_id n 0 c.self.inside.mkey_counts.items) c.in_ok-id.ensures.id));
      room = record {
        datasets = one_more_row (before c).tree c.add_free.new.tree c.args.name.now Crypt c.in_ok-id.ensures.added (free (before c) c.args.name.now c.args.opts.now (accepted c)).rows;
        records = omega (arith, c.self.invariant.room.records, c.put_with_room.ensures.room);
        loaded = c.self.invariant.room.loaded;
        mapped = c.self.invariant.room.mapped;
        mounted = c.self.invariant.room.mounted;
        opened = c.self.invariant.room.opened;
        mkeys = omega (arith, c.self.invariant.room.mkeys, c.put_with_room-2.ensures.room);
      };
    }

pub returns-clause-state : goal.returns-clause-state
returns-clause-state c =
    let stepped_to = heir_step (before c) c.args.name.now c.args.opts.now (heir c) (facts c) c.in-Ok.family (accepted c) (is_told c) in
    let at_before : after c ≡ (stepped (before c) (command c) c.args.kit.now).state = made c ∙ sym (ap (λ (s : Stepped). s.state) stepped_to) in
    subst (λ (p : Plain). after c ≡ (stepped p (command c) c.args.kit.now).state) c.self.view_is at_before

pub returns-clause-opens : goal.returns-clause-opens
returns-clause-opens c =
    let opens = heir_opens (before c) c.args.name.now c.args.opts.now (heir c) (facts c) c.in-Ok.family (accepted c) (is_told c) c.self.invariant.sound in
    subst (λ (p : Plain). is_some (mkey ciphers p c.in_ok-id.id) ≡ true) (sym (made c))
    (subst (λ (id : ℕ). is_some (mkey ciphers (created_with (before c) c.args.name.now c.args.opts.now (facts c) false true) id) ≡ true) (sym c.in_ok-id.ensures.id) opens)

pub invariant_of-self : goal.invariant_of-self
invariant_of-self c = subst (λ (t : Datasets). IsKept (record c.self.inside { tree = t })) (sym c.in_err-id.ensures.same) c.self.invariant
