use Rattle.std.proofs.Common.{◌≡◌, ◌<◌, ◌≤◌, ℕ, List, length, true, not, ◌&&◌, ◌||◌, is_some, None, refl, sym, ap, ◌∙◌, subst, arith}
use Rattle.std.proofs.lemmas.List.{length-map}
use Rattle.std.specs.List.{All}
use Rattle.dataset_tree.specs.declared.kinds.Kind.TheVariants.{Crypt}
use Rattle.encryption_roots.specs.declared.command.KeyCmd.{KeyCmd}
use Rattle.encryption_roots.specs.declared.command.KeyCmd.TheVariants as commands
use Rattle.encryption_roots.specs.declared.props.Options.{Options}
use Rattle.encryption_roots.specs.declared.props.Props.{Props}
use Rattle.encryption_roots.specs.ById.{with_id}
use Rattle.encryption_roots.specs.Props.{KeepsIterations}
use Rattle.encryption_roots.specs.RecordSize.{IsRecordSize}
use Rattle.wrapped_keys.specs.Stored.{parsed_record}
use Rattle.key_machine.specs.Plain.{Plain, mkey}
use Rattle.key_machine.specs.Create.{makes_root, is_below_encrypted}
use Rattle.key_machine.specs.Sound.{Sound}
use Rattle.key_machine.specs.Reply.{Stepped}
use Rattle.key_machine.specs.Step.{refusal_of, told}
use Rattle.key_machine.specs.Told.{Told}
use Rattle.key_machine.proofs.CreateLawsCases.{created_with}
use Rattle.key_machine.proofs.KeyLists.{All-with_id}
use Rattle.dataset_tree.specs.Tree.{Datasets}
use Rattle.key_store.proofs.OpenedLemmas.{AreOpened, created_opened}
use Rattle.key_store.specs.declared.state.FamilyRecord.{FamilyRecord}
use Rattle.key_ciphers.specs.Ciphers.{ciphers}
use Rattle.key_store.specs.Calls.{stepped}
use Rattle.key_store.specs.NewRoot.{IsToldRoot}
use Rattle.key_store.specs.State.{plain_of, stored_of, stored_records, AreCounted, IsKept}
use Rattle.key_store.proofs.UseLemmas.{as_many, rising_counts, created_counted}
use Rattle.key_store.proofs.RecordLemmas.{rising_records, with_id-stored}
use Rattle.key_store.proofs.RoomLemmas.{on_err, on_ok, one_more_row, roots_fit, loaded_fit}
use Rattle.key_machine.proofs.CreateLawsStep.{IsFree, free}
use Rattle.key_store.proofs.CreateLemmas.{few_families, given_id, root_step, root_sound, root_opens, made_state}
use Rattle.key_store.proofs.state.KeyState.create_root.Goals as goal

-- what the conditions say of the state that the fields show
is_free : (inside now : Plain) (name : List ℕ) (opts : Options) → inside ≡ now → refusal_of now (commands.Create name opts) ≡ None → IsFree inside name opts
is_free inside now name opts same accepted = free inside name opts (ap (λ p. refusal_of p (commands.Create name opts)) same ∙ accepted)

pub add_free-requires : goal.add_free-requires
add_free-requires c =
    given_id (plain_of c.self.inside) c.args.name.now c.args.opts.now (is_free (plain_of c.self.inside) c.args.self.now c.args.name.now c.args.opts.now c.self.view_is c.requires.accepted)

pub unreachable-requires : goal.unreachable-requires
unreachable-requires c =
    let before : Plain = plain_of c.self.inside in
    let is : IsFree before c.args.name.now c.args.opts.now = is_free before c.args.self.now c.args.name.now c.args.opts.now c.self.view_is c.requires.accepted in
    let full : 256 ≤ length before.roots = on_err c.insert.result (256 ≤ length before.roots) c.insert.ensures.full (sym c.is_err.ensures.value ∙ c.if-is_err.true) in
    let fit : length before.roots ≤ length before.tree.rows = roots_fit ciphers before c.self.invariant.sound in
    let few : length before.tree.rows < 256 = is.rows in
    omega (arith, full, fit, few)

pub put_with_room-requires-clause-rising : goal.put_with_room-requires-clause-rising
put_with_room-requires-clause-rising c = rising_records c.self.inside.records.items c.self.invariant.sound.tree.records

pub put_with_room-requires-clause-room : goal.put_with_room-requires-clause-room
put_with_room-requires-clause-room c =
    let before : Plain = plain_of c.self.inside in
    let is : IsFree before c.args.name.now c.args.opts.now = is_free before c.args.self.now c.args.name.now c.args.opts.now c.self.view_is c.requires.accepted in
    let root : makes_root c.args.opts.now ≡ true = ap (λ format. is_some format) c.requires.root in
    let few : length before.wrapped < 32 = few_families before c.args.name.now c.args.opts.now is (ap (λ b. b || (not b && is_below_encrypted before c.args.name.now)) root) in
    let same : length before.wrapped ≡ length c.self.inside.records.items = length-map c.self.inside.records.items (λ entry. (entry.0, stored_of entry.1)) in
    omega (arith, few, same, c.self.invariant.room.records)

pub put_with_room-requires-2-clause-room : goal.put_with_room-requires-2-clause-room
put_with_room-requires-2-clause-room c =
    let before : Plain = plain_of c.self.inside in
    let is : IsFree before c.args.name.now c.args.opts.now = is_free before c.args.self.now c.args.name.now c.args.opts.now c.self.view_is c.requires.accepted in
    let fit : length before.loaded ≤ length before.tree.rows = loaded_fit ciphers before c.self.invariant.sound in
    let few : length before.tree.rows < 256 = is.rows in
    omega (arith, fit, few, c.self.invariant.room.loaded)

pub put_with_room-requires-3-clause-rising : goal.put_with_room-requires-3-clause-rising
put_with_room-requires-3-clause-rising c = rising_counts ciphers (plain_of c.self.inside) c.self.invariant.sound c.self.inside.mkey_counts.items c.self.invariant.mkeys

pub put_with_room-requires-3-clause-room : goal.put_with_room-requires-3-clause-room
put_with_room-requires-3-clause-room c =
    let before : Plain = plain_of c.self.inside in
    let is : IsFree before c.args.name.now c.args.opts.now = is_free before c.args.self.now c.args.name.now c.args.opts.now c.self.view_is c.requires.accepted in
    let root : makes_root c.args.opts.now ≡ true = ap (λ format. is_some format) c.requires.root in
    let few : length before.wrapped < 32 = few_families before c.args.name.now c.args.opts.now is (ap (λ b. b || (not b && is_below_encrypted before c.args.name.now)) root) in
    omega (arith, few, as_many before c.self.inside.mkey_counts.items c.self.invariant.mkeys, c.self.invariant.room.mkeys)

-- the root that is told, at the state that the fields show
told_root : (c : goal.After-put_with_room-3) → IsToldRoot c.self.inside.tree.last c.args.opts.now (told ciphers (plain_of c.self.inside) (commands.Create c.args.name.now c.args.opts.now) c.args.kit.now) c.in_ok-root.root
told_root c =
    subst (λ (p : Plain). IsToldRoot p.tree.last c.args.opts.now (told ciphers p (commands.Create c.args.name.now c.args.opts.now) c.args.kit.now) c.in_ok-root.root) (sym c.self.view_is) c.in_ok-root.ensures.root

accepted_at : (c : goal.After-put_with_room-3) → refusal_of (plain_of c.self.inside) (commands.Create c.args.name.now c.args.opts.now) ≡ None
accepted_at c = ap (λ p. refusal_of p (commands.Create c.args.name.now c.args.opts.now)) c.self.view_is ∙ c.requires.accepted

inserted : (c : goal.After-put_with_room-3) → c.insert.new.self ≡ with_id c.in_ok-id.id c.in_ok-root.root.props c.self.inside.roots
inserted c = on_ok c.insert.result (c.insert.new.self ≡ with_id c.in_ok-id.id c.in_ok-root.root.props c.self.inside.roots) c.insert.ensures.ok (sym c.is_err.ensures.value ∙ c.if-is_err.false)

made : (c : goal.After-put_with_room-3)
    → record (plain_of c.self.inside) { tree = c.add_free.new.tree; roots = c.insert.new.self; wrapped = stored_records c.put_with_room.new.entries.items; loaded = c.put_with_room-2.new.entries.items }
    ≡ created_with (plain_of c.self.inside) c.args.name.now c.args.opts.now (told ciphers (plain_of c.self.inside) (commands.Create c.args.name.now c.args.opts.now) c.args.kit.now) true true
made c =
    let before : Plain = plain_of c.self.inside in
    let facts : Told = told ciphers before (commands.Create c.args.name.now c.args.opts.now) c.args.kit.now in
    let root : makes_root c.args.opts.now ≡ true = ap (λ format. is_some format) c.requires.root in
    let wrapped : stored_records c.put_with_room.new.entries.items ≡ with_id c.in_ok-id.id (stored_of c.in_ok-root.root.family) before.wrapped =
    ap stored_records c.put_with_room.ensures.put ∙ with_id-stored c.in_ok-id.id c.in_ok-root.root.family c.self.inside.records.items in
    made_state before c.args.name.now c.args.opts.now facts c.in_ok-root.root (accepted_at c) root (told_root c) c.in_ok-id.id c.add_free.new.tree c.insert.new.self (stored_records c.put_with_room.new.entries.items)
    c.put_with_room-2.new.entries.items c.in_ok-id.ensures.id c.in_ok-id.ensures.added (inserted c) wrapped c.put_with_room-2.ensures.put

pub invariant_of-self-2 : goal.invariant_of-self-2
invariant_of-self-2 c =
    let before : Plain = plain_of c.self.inside in
    let facts : Told = told ciphers before (commands.Create c.args.name.now c.args.opts.now) c.args.kit.now in
    let root : makes_root c.args.opts.now ≡ true = ap (λ format. is_some format) c.requires.root in
    let is : IsToldRoot before.tree.last c.args.opts.now facts c.in_ok-root.root = told_root c in
    let id : ℕ = c.in_ok-id.id in
    let family : FamilyRecord = c.in_ok-root.root.family in
    let in_form : All (λ entry. is_some (parsed_record entry.1.wrapped) ≡ true) (with_id id family c.self.inside.records.items) =
    All-with_id (λ entry. is_some (parsed_record entry.1.wrapped) ≡ true) id family c.self.inside.records.items c.self.invariant.records is.family.in_form in
    let sizes : All (λ entry. IsRecordSize entry.1.block) (with_id id family c.self.inside.records.items) =
    All-with_id (λ entry. IsRecordSize entry.1.block) id family c.self.inside.records.items c.self.invariant.sizes is.family.size in
    let props : All (λ entry. KeepsIterations entry.1) (with_id id c.in_ok-root.root.props c.self.inside.roots) =
    All-with_id (λ entry. KeepsIterations entry.1) id c.in_ok-root.root.props c.self.inside.roots c.self.invariant.props is.kept in
    record {
      sound = subst (λ (p : Plain). Sound ciphers p) (sym (made c)) (root_sound before c.args.name.now c.args.opts.now facts c.in_ok-root.root (accepted_at c) root is c.args.kit.now refl c.self.invariant.sound);
      records = subst (λ (records : List (ℕ × FamilyRecord)). All (λ entry. is_some (parsed_record entry.1.wrapped) ≡ true) records) (sym c.put_with_room.ensures.put) in_form;
      sizes = subst (λ (records : List (ℕ × FamilyRecord)). All (λ entry. IsRecordSize entry.1.block) records) (sym c.put_with_room.ensures.put) sizes;
      props = subst (λ (roots : List (ℕ × Props)). All (λ entry. KeepsIterations entry.1) roots) (sym (inserted c)) props;
      by_family = c.self.invariant.by_family;
      opened = subst (λ (p : Plain). AreOpened ciphers p c.self.inside.opened.items) (sym (made c))
          (created_opened ciphers before c.args.name.now c.args.opts.now facts true true c.self.inside.opened.items c.self.invariant.sound (accepted_at c) c.self.invariant.opened);
      mkeys = subst (λ (p : Plain). AreCounted p c.put_with_room-3.new.entries.items) (sym (made c))
          (created_counted ciphers before c.args.name.now c.args.opts.now facts true true c.self.inside.mkey_counts.items c.put_with_room-3.new.entries.items c.self.invariant.sound (accepted_at c) c.self.invariant.mkeys
          (c.put_with_room-3.ensures.put ∙ ap (λ n. with_id n 0 c.self.inside.mkey_counts.items) c.in_ok-id.ensures.id));
      room = record {
        datasets = one_more_row before.tree c.add_free.new.tree c.args.name.now Crypt c.in_ok-id.ensures.added (free before c.args.name.now c.args.opts.now (accepted_at c)).rows;
        records = omega (arith, c.self.invariant.room.records, c.put_with_room.ensures.room);
        loaded = omega (arith, c.self.invariant.room.loaded, c.put_with_room-2.ensures.room);
        mapped = c.self.invariant.room.mapped;
        mounted = c.self.invariant.room.mounted;
        opened = c.self.invariant.room.opened;
        mkeys = omega (arith, c.self.invariant.room.mkeys, c.put_with_room-3.ensures.room);
      };
    }

pub returns-clause-state : goal.returns-clause-state
returns-clause-state c =
    let before : Plain = plain_of c.self.inside in
    let command : KeyCmd = commands.Create c.args.name.now c.args.opts.now in
    let facts : Told = told ciphers before command c.args.kit.now in
    let root : makes_root c.args.opts.now ≡ true = ap (λ format. is_some format) c.requires.root in
    let stepped_to = root_step before c.args.name.now c.args.opts.now facts c.in_ok-root.root (accepted_at c) root (told_root c) in
    let after : Plain = record before { tree = c.add_free.new.tree; roots = c.insert.new.self; wrapped = stored_records c.put_with_room.new.entries.items; loaded = c.put_with_room-2.new.entries.items } in
    let at_before : after ≡ (stepped before command c.args.kit.now).state = made c ∙ sym (ap (λ (s : Stepped). s.state) stepped_to) in
    subst (λ (p : Plain). after ≡ (stepped p command c.args.kit.now).state) c.self.view_is at_before

pub returns-clause-opens : goal.returns-clause-opens
returns-clause-opens c =
    let before : Plain = plain_of c.self.inside in
    let facts : Told = told ciphers before (commands.Create c.args.name.now c.args.opts.now) c.args.kit.now in
    let root : makes_root c.args.opts.now ≡ true = ap (λ format. is_some format) c.requires.root in
    let opens = root_opens before c.args.name.now c.args.opts.now facts c.in_ok-root.root (accepted_at c) root (told_root c) c.args.kit.now refl c.self.invariant.sound in
    subst (λ (p : Plain). is_some (mkey ciphers p c.in_ok-id.id) ≡ true) (sym (made c))
    (subst (λ (id : ℕ). is_some (mkey ciphers (created_with before c.args.name.now c.args.opts.now facts true true) id) ≡ true) (sym c.in_ok-id.ensures.id) opens)

pub invariant_of-self : goal.invariant_of-self
invariant_of-self c = subst (λ (t : Datasets). IsKept (record c.self.inside { tree = t })) (sym c.in_err-id.ensures.same) c.self.invariant
