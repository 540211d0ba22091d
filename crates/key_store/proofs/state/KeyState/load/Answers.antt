use Rattle.std.proofs.Common.{◌≡◌, false, true, is_some, Option, Some, Ok, Err, List, ℕ, sym, ap, ◌∙◌, subst, arith}
use Rattle.std.specs.List.{All}
use Rattle.encryption_roots.specs.declared.props.Location.{Location}
use Rattle.encryption_roots.specs.declared.command.KeyCmd.{KeyCmd}
use Rattle.encryption_roots.specs.declared.command.KeyCmd.TheVariants as commands
use Rattle.encryption_roots.specs.ById.{at_id, with_id}
use Rattle.key_machine.specs.Plain.{Plain, is_root, is_loaded, owned}
use Rattle.key_machine.specs.Load.{told_load, told_load_of}
use Rattle.key_machine.specs.Reply.{Stepped, refused}
use Rattle.key_machine.specs.Sound.{Sound}
use Rattle.key_machine.specs.Step.{told}
use Rattle.key_machine.specs.Told.{key_of}
use Rattle.key_machine.proofs.LoadLaws.{none_wrong, with_key_sound}
use Rattle.key_machine.proofs.SoundLemmas.{refused_by_material}
use Rattle.key_ciphers.specs.Ciphers.{ciphers}
use Rattle.key_store.proofs.OpenedLemmas.{AreOpened, loaded_opened, load_absent}
use Rattle.key_store.specs.State.{plain_of}
use Rattle.key_store.specs.Calls.{key_told, stepped}
use Rattle.key_store.proofs.LoadLemmas.{material_refuses, told_key_opens}
use Rattle.key_store.proofs.state.KeyState.load.Goals as goal

pub invariant_of-self : goal.invariant_of-self
invariant_of-self c =
    let before : Plain = plain_of c.self.inside in
    let root : ℕ = c.in-Ok.root in
    let there : is_root before root ≡ true = ap (λ found. is_some found) (sym c.in-Some.ensures) in
    let material : key_told (told_load_of ciphers before c.args.kit.now root (Some c.in-Some.props.now)) ≡ Ok c.in-Ok-root_key.key =
    ap (λ (p : Plain). key_told (told_load_of ciphers p c.args.kit.now root (Some c.in-Some.props.now))) c.self.view_is ∙ sym c.root_key.ensures ∙ c.in-Ok-root_key.is in
    let opens : All (λ entry. is_some (ciphers.opens entry.1.wrapped c.in-Ok-root_key.key) ≡ true) (owned before root) =
    (none_wrong ciphers c.in-Ok-root_key.key (owned before root)).0 (told_key_opens before root (key_of ciphers c.in-Some.props.now.format c.in-Some.props.now.iters c.in-Some.props.now.salt c.args.kit.now.new_key) c.in-Ok-root_key.key material) in
    let step_sound : Sound ciphers (record before { loaded = with_id root c.in-Ok-root_key.key before.loaded }) = with_key_sound ciphers before c.self.invariant.sound root c.in-Ok-root_key.key there opens in
    let keys_sound : Sound ciphers (record before { loaded = c.put_at_id.new.entries.items }) =
    subst (λ (keys : List (ℕ × List ℕ)). Sound ciphers (record before { loaded = keys })) (sym c.in_ok-put_at_id.ensures.ok) step_sound in
    let loads : c.args.check_only ≡ false = c.if-not-check_only.true in
    let absent : is_loaded before root ≡ false =
    ap (λ (p : Plain). is_loaded p root) c.self.view_is ∙ load_absent c.args.self.now c.args.name.now root c.args.check_only c.in-Ok.ensures.0 c.in-Ok.ensures.1 loads in
    record {
      sound = keys_sound;
      records = c.self.invariant.records;
      sizes = c.self.invariant.sizes;
      props = c.self.invariant.props;
      by_family = c.self.invariant.by_family;
      opened = subst (λ (keys : List (ℕ × List ℕ)). AreOpened ciphers (record before { loaded = keys }) c.self.inside.opened.items) (sym c.in_ok-put_at_id.ensures.ok)
          (loaded_opened ciphers before root c.in-Ok-root_key.key c.self.inside.opened.items c.self.invariant.sound absent c.self.invariant.opened);
      mkeys = c.self.invariant.mkeys;
      room = record { datasets = c.self.invariant.room.datasets; records = c.self.invariant.room.records; loaded = omega (arith, c.self.invariant.room.loaded, c.in_ok-put_at_id.ensures.room); mapped = c.self.invariant.room.mapped; mounted = c.self.invariant.room.mounted; opened = c.self.invariant.room.opened; mkeys = c.self.invariant.room.mkeys };
    }

-- the step at the state that is seen
refused_step : (c : goal.In-Err-root_key) (place : Option Location) → stepped c.args.self.now (commands.Load c.args.name.now c.args.check_only place) c.args.kit.now ≡ refused c.args.self.now c.in-Err-root_key.why
refused_step c place =
    let p : Plain = c.args.self.now in
    let root : ℕ = c.in-Ok.root in
    let command : KeyCmd = commands.Load c.args.name.now c.args.check_only place in
    let facts : told ciphers p command c.args.kit.now ≡ told_load_of ciphers p c.args.kit.now root (Some c.in-Some.props.now) =
    ap (λ found. told_load ciphers p c.args.kit.now found) c.in-Ok.ensures.1
    ∙ ap (λ found. told_load_of ciphers p c.args.kit.now root found) (ap (λ (q : Plain). at_id root q.roots) (sym c.self.view_is) ∙ sym c.in-Some.ensures) in
    let material : key_told (told_load_of ciphers p c.args.kit.now root (Some c.in-Some.props.now)) ≡ Err c.in-Err-root_key.why = sym c.root_key.ensures ∙ c.in-Err-root_key.is in
    refused_by_material p command (told ciphers p command c.args.kit.now) c.in-Err-root_key.why c.in-Ok.ensures.0 (material_refuses (told ciphers p command c.args.kit.now) c.in-Err-root_key.why (ap key_told facts ∙ material))

pub returns-in-Err-root_key-clause-reply : goal.returns-in-Err-root_key-clause-reply
returns-in-Err-root_key-clause-reply c = λ place. ap (λ (s : Stepped). s.reply) (refused_step c place)

pub returns-in-Err-root_key-clause-state : goal.returns-in-Err-root_key-clause-state
returns-in-Err-root_key-clause-state c = λ place. sym (ap (λ (s : Stepped). s.state) (refused_step c place))
