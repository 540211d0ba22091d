use Rattle.std.proofs.Common.{◌≡◌, false, None, refl, sym, subst}
use Rattle.dataset_tree.specs.declared.kinds.Kind.TheVariants.{Plain as PlainKind}
use Rattle.dataset_tree.specs.Tree.{Datasets, with_row}
use Rattle.encryption_roots.specs.declared.command.KeyCmd.TheVariants as commands
use Rattle.key_machine.specs.Plain.{Plain}
use Rattle.key_machine.specs.Create.{is_below_encrypted}
use Rattle.key_machine.specs.Step.{refusal_of}
use Rattle.key_machine.specs.Told.{nothing_told}
use Rattle.key_machine.specs.Sound.{Sound}
use Rattle.key_ciphers.specs.Ciphers.{ciphers}
use Rattle.key_store.proofs.OpenedLemmas.{AreOpened, created_opened}
use Rattle.key_store.proofs.UseLemmas.{created_counted}
use Rattle.key_store.specs.State.{plain_of, AreCounted}
use Rattle.key_machine.proofs.CreateLawsStep.{free}
use Rattle.key_store.proofs.RoomLemmas.{one_more_row}
use Rattle.key_store.proofs.CreateLemmas.{given_id, plain_sound}
use Rattle.key_store.proofs.state.KeyState.create_plain.Goals as goal

pub add_free-requires : goal.add_free-requires
add_free-requires c =
    let before : Plain = plain_of c.self.inside in
    let accepted : refusal_of before (commands.Create c.args.name.now c.args.opts.now) ≡ None = subst (λ (p : Plain). refusal_of p (commands.Create c.args.name.now c.args.opts.now) ≡ None) (sym c.self.view_is) c.requires.accepted in
    given_id before c.args.name.now c.args.opts.now (free before c.args.name.now c.args.opts.now accepted)

pub invariant_of-self-2 : goal.invariant_of-self-2
invariant_of-self-2 c =
    let before : Plain = plain_of c.self.inside in
    let accepted : refusal_of before (commands.Create c.args.name.now c.args.opts.now) ≡ None = subst (λ (p : Plain). refusal_of p (commands.Create c.args.name.now c.args.opts.now) ≡ None) (sym c.self.view_is) c.requires.accepted in
    let alone : is_below_encrypted before c.args.name.now ≡ false = subst (λ (p : Plain). is_below_encrypted p c.args.name.now ≡ false) (sym c.self.view_is) c.requires.no_heir in
    let sound : Sound ciphers (record before { tree = with_row before.tree c.args.name.now PlainKind 0 }) = plain_sound before c.args.name.now c.args.opts.now accepted c.requires.no_root alone c.args.kit.now c.self.invariant.sound in
    record {
      sound = subst (λ (t : Datasets). Sound ciphers (record before { tree = t })) (sym c.in_ok-id.ensures.added) sound;
      records = c.self.invariant.records;
      sizes = c.self.invariant.sizes;
      props = c.self.invariant.props;
      by_family = c.self.invariant.by_family;
      opened = subst (λ (t : Datasets). AreOpened ciphers (record before { tree = t }) c.self.inside.opened.items) (sym c.in_ok-id.ensures.added)
          (created_opened ciphers before c.args.name.now c.args.opts.now nothing_told false false c.self.inside.opened.items c.self.invariant.sound accepted c.self.invariant.opened);
      mkeys = subst (λ (t : Datasets). AreCounted (record before { tree = t }) c.self.inside.mkey_counts.items) (sym c.in_ok-id.ensures.added)
          (created_counted ciphers before c.args.name.now c.args.opts.now nothing_told false false c.self.inside.mkey_counts.items c.self.inside.mkey_counts.items c.self.invariant.sound accepted c.self.invariant.mkeys refl);
      room = record {
        datasets = one_more_row before.tree c.add_free.new.tree c.args.name.now PlainKind c.in_ok-id.ensures.added (free before c.args.name.now c.args.opts.now accepted).rows;
        records = c.self.invariant.room.records;
        loaded = c.self.invariant.room.loaded;
        mapped = c.self.invariant.room.mapped;
        mounted = c.self.invariant.room.mounted;
        opened = c.self.invariant.room.opened;
        mkeys = c.self.invariant.room.mkeys;
      };
    }
