use Rattle.std.proofs.Common.{◌≡◌, ◌+◌, Option, Some, ap, ◌∙◌, subst, sym}
use Rattle.std.specs.Option.{option_map}
use Rattle.std.specs.Prelude.{unwrap_or}
use Rattle.encryption_roots.specs.declared.props.Location.{Location}
use Rattle.encryption_roots.specs.declared.props.Location.TheVariants.{Prompt}
use Rattle.encryption_roots.specs.declared.props.Props.{Props}
use Rattle.encryption_roots.specs.declared.command.KeyCmd.TheVariants as commands
use Rattle.encryption_roots.specs.ById.{at_id}
use Rattle.encryption_roots.proofs.ByIdLemmas.{at_id-with_id}
use Rattle.key_machine.specs.Create.{new_props}
use Rattle.key_machine.specs.Reply.{Stepped}
use Rattle.key_machine.proofs.SoundLemmas.{accepted_step}
use Rattle.key_machine.proofs.create_laws.a_new_root_has_its_key.Goals as goal

pub returns-clause-key : goal.returns-clause-key
returns-clause-key c = λ p name opts told root accepted.
    let HasKey : Stepped → Type 0 = λ stepped. at_id (p.tree.last + 1) stepped.state.loaded ≡ Some told.key in
    subst HasKey (sym (accepted_step p (commands.Create name opts) told accepted)) (rw root (at_id-with_id (p.tree.last + 1) told.key p.loaded))

pub returns-clause-root : goal.returns-clause-root
returns-clause-root c = λ p name opts told root accepted.
    let HasProps : Stepped → Type 0 = λ stepped. at_id (p.tree.last + 1) stepped.state.roots ≡ Some (new_props opts told) in
    subst HasProps (sym (accepted_step p (commands.Create name opts) told accepted)) (rw root (at_id-with_id (p.tree.last + 1) (new_props opts told) p.roots))

pub returns-clause-place : goal.returns-clause-place
returns-clause-place c = λ p name opts told place root given accepted.
    let of_root = returns-clause-root c p name opts told root accepted in
    ap (λ (found : Option Props). option_map (λ (props : Props). props.place) found) of_root ∙ ap (λ (at : Option Location). Some (unwrap_or at Prompt)) given
