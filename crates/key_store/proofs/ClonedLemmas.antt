-- A clone that the state doesn't refuse.
use Rattle.std.proofs.Common.{◌≡◌, inr, ℕ, ◌+◌, ◌<◌, ◌≤◌, Bool, true, false, cond, nat_le, List, length, Some, None, Option, Ok, Err, is_some, refl, ap, sym, ◌∙◌, subst, arith}
use Rattle.std.proofs.lemmas.Bool.Decides.{nat_tests}
use Rattle.std.proofs.lemmas.List.{length_push}
use Rattle.dataset_tree.specs.declared.kinds.Kind.TheVariants.{Crypt}
use Rattle.dataset_tree.specs.declared.refusal.Refusal.TheVariants.{Exists}
use Rattle.dataset_tree.specs.SetName.{parent_name}
use Rattle.dataset_tree.specs.Tree.{Datasets, IsDatasetOrNone, id_named, id_below, new_id, parent_in, with_row}
use Rattle.encryption_roots.specs.declared.command.KeyCmd.TheVariants as commands
use Rattle.mapping_words.specs.Told.{Told as Slots}
use Rattle.wrapped_keys.specs.Values.{MasterValue}
use Rattle.key_machine.specs.Clone.{clone_cases, cloned}
use Rattle.key_machine.specs.Plain.{Plain}
use Rattle.key_machine.specs.Reply.{Stepped, Made}
use Rattle.key_machine.specs.Sound.{Sound}
use Rattle.key_machine.specs.Step.{refusal_of, key_step}
use Rattle.key_machine.specs.Told.{nothing_told}
use Rattle.key_machine.specs.Users.{mkey_users}
use Rattle.key_machine.proofs.CloneLaws.{IsClonable, clonable, row, clone_grows, cloned_sound}
use Rattle.key_machine.proofs.CloneSteps.{clone_step}
use Rattle.key_machine.proofs.CreateLawsGrown.{Grows}
use Rattle.key_machine.proofs.CreateLawsStep.{NoneHolds, none_holds}
use Rattle.key_ciphers.specs.Ciphers.{ciphers}
use Rattle.key_store.specs.Agrees.{Agrees}
use Rattle.key_store.specs.State.{plain_of, AreCounted, IsKept}
use Rattle.key_store.specs.declared.state.KeyState.TheInside.{Inside}
use Rattle.key_store.proofs.CreateLemmas.{given_below}
use Rattle.key_store.proofs.OpenedLemmas.{AreOpened, grown_opened}
use Rattle.key_store.proofs.UseLemmas.{counted_alike, users_stay}

module _ (s : Inside) (now : Plain) (view_is : plain_of s ≡ now) (kept : IsKept s) (from name : List ℕ) (origin : ℕ) (accepted_now : refusal_of now (commands.Clone from name) ≡ None)
    (named_now : id_named from now.tree.rows ≡ Some origin) where
  abbrev p : Plain
  p = plain_of s

  accepted : refusal_of p (commands.Clone from name) ≡ None
  accepted = ap (λ (q : Plain). refusal_of q (commands.Clone from name)) view_is ∙ accepted_now

  named : id_named from p.tree.rows ≡ Some origin
  named = ap (λ (q : Plain). id_named from q.tree.rows) view_is ∙ named_now

  none : NoneHolds (clone_cases p from name)
  none = none_holds (clone_cases p from name) accepted

  is : IsClonable p origin name
  is = clonable p from name origin kept.sound.tree.tree accepted named

  rows : length p.tree.rows < 256
  rows = let test : nat_le 256 (length p.tree.rows) ≡ false = none.1.1.1.1.0 in grind (arith, nat_tests)

  ids : p.tree.last < 4294967295
  ids = let test : nat_le 4294967295 p.tree.last ≡ false = none.1.1.1.1.1.0 in grind (arith, nat_tests)

  pub new_is : new_id s.tree name ≡ Ok (s.tree.last + 1)
  new_is = ap (λ b. cond b (Err Exists) (id_below p.tree (parent_in p.tree.rows (parent_name name)))) is.absent ∙ given_below p.tree (parent_in p.tree.rows (parent_name name)) is.parent rows ids

  pub origin_there : IsDatasetOrNone s.tree origin
  origin_there = inr (ap (λ found. is_some found) is.encrypted.1)

  grows : Grows p (row p origin name kept.sound.tree.tree is) p.roots p.wrapped p.loaded
  grows = clone_grows p origin name kept.sound.tree.tree is

  opened : AreOpened ciphers (cloned p origin name) s.opened.items
  opened = grown_opened ciphers p (row p origin name kept.sound.tree.tree is) p.roots p.wrapped p.loaded grows kept.sound s.opened.items kept.opened

  counted : AreCounted (cloned p origin name) s.mkey_counts.items
  counted = kept.mkeys ∙ counted_alike (mkey_users p) (mkey_users (cloned p origin name)) p.wrapped
      (λ first. sym (users_stay ciphers p (row p origin name kept.sound.tree.tree is) p.roots p.wrapped p.loaded grows kept.sound first))

  pub clone_reply : (key_step now (commands.Clone from name) nothing_told).reply ≡ Made (now.tree.last + 1)
  clone_reply = ap (λ (stepped : Stepped). stepped.reply) (clone_step now from name nothing_told origin named_now (record { state = accepted_now; material = refl }))

  module _ (made : Inside) (same : made ≡ record s { tree = made.tree }) (tree_is : made.tree ≡ with_row s.tree name Crypt origin) where
    made_is : plain_of made ≡ cloned p origin name
    made_is = ap plain_of same ∙ ap (λ (t : Datasets). let q : Plain = record p { tree = t } in q) tree_is

    pub clone_is : plain_of made ≡ (key_step now (commands.Clone from name) nothing_told).state
    clone_is =
        made_is ∙ ap (λ (q : Plain). cloned q origin name) view_is
        ∙ sym (ap (λ (stepped : Stepped). stepped.state) (clone_step now from name nothing_told origin named_now (record { state = accepted_now; material = refl })))

    pub clone_agrees : (t : Slots) → Agrees t now → Agrees t (plain_of made)
    clone_agrees t agrees =
        let still : Agrees t (cloned now origin name) = record { slots = agrees.slots; each = agrees.each } in
        subst (λ (q : Plain). Agrees t q) (sym (made_is ∙ ap (λ (q : Plain). cloned q origin name) view_is)) still

    pub clone_kept : IsKept made
    clone_kept =
        let more : length made.tree.rows ≡ length s.tree.rows + 1 = ap (λ (t : Datasets). length t.rows) tree_is ∙ length_push s.tree.rows _ in
        subst IsKept (sym same) (record {
          sound = subst (λ (t : Datasets). Sound ciphers (record p { tree = t })) (sym tree_is) (cloned_sound p origin name kept.sound.tree.tree is ciphers kept.sound);
          records = kept.records;
          sizes = kept.sizes;
          props = kept.props;
          by_family = kept.by_family;
          opened = subst (λ (t : Datasets). AreOpened ciphers (record p { tree = t }) s.opened.items) (sym tree_is) opened;
          mkeys = subst (λ (t : Datasets). AreCounted (record p { tree = t }) s.mkey_counts.items) (sym tree_is) counted;
          room = record {
            datasets = omega (arith, more, rows);
            records = kept.room.records;
            loaded = kept.room.loaded;
            mapped = kept.room.mapped;
            mounted = kept.room.mounted;
            opened = kept.room.opened;
            mkeys = kept.room.mkeys;
          };
        })
