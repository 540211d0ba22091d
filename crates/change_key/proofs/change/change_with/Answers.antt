use Rattle.std.proofs.Common.{◌≡◌, ℕ, List, Option, Some, None, Ok, refl, ap, sym, ◌∙◌, subst}
use Rattle.std.specs.Option.{option_copied}
use Rattle.encryption_roots.specs.declared.props.Props.{Props}
use Rattle.encryption_roots.specs.ById.{at_id, with_id}
use Rattle.key_machine.specs.Plain.{Plain}
use Rattle.key_machine.specs.Told.{seed_of}
use Rattle.key_ciphers.specs.Ciphers.{ciphers}
use Rattle.change_key.specs.Keys.{StopsAt, first_fault, new_key_of, IsNewKey}
use Rattle.change_key.proofs.ChangeLemmas.{told_plan}
use Rattle.change_key.proofs.FamilyRecords.{families_rise, families_open, owned_once_root}
use Rattle.change_key.proofs.PlanLemmas.{stops_alike}
use Rattle.change_key.proofs.change.change_with.Goals as goal

pub rewrapped-requires-clause-rising : goal.rewrapped-requires-clause-rising
rewrapped-requires-clause-rising g c =
    let p : Plain = g.V.KeyView.shows c.args.state.now in
    let props : Props = c.in-Ok.new.props in
    families_rise ciphers p c.requires.sound c.args.id c.args.old.now c.requires.opens (with_id c.args.id props p.roots) c.args.id (owned_once_root ciphers p c.requires.sound c.args.id props) c.as_slice.result.now
    (c.as_slice.ensures.value ∙ c.in_ok-families.ensures)

pub rewrapped-requires-clause-opened : goal.rewrapped-requires-clause-opened
rewrapped-requires-clause-opened g c =
    let p : Plain = g.V.KeyView.shows c.args.state.now in
    let props : Props = c.in-Ok.new.props in
    families_open ciphers p c.requires.sound c.args.id c.args.old.now c.requires.opens (with_id c.args.id props p.roots) c.args.id (owned_once_root ciphers p c.requires.sound c.args.id props) c.as_slice.result.now
    (c.as_slice.ensures.value ∙ c.in_ok-families.ensures)

own_is : (id : ℕ) (p : Plain) (roots : List (ℕ × Props)) (found : Option Props) → roots ≡ p.roots → found ≡ at_id id roots → found ≡ at_id id p.roots
own_is id p roots found roots_are found_is = found_is ∙ ap (λ (r : List (ℕ × Props)). at_id id r) roots_are

pub returns-clause-plan : goal.returns-clause-plan
returns-clause-plan g c =
    let p : Plain = g.V.KeyView.shows c.args.state.now in
    let own = own_is c.args.id p c.roots.result.now (option_copied c.get.result) c.roots.ensures c.get.ensures in
    told_plan ciphers p c.requires.sound c.args.id c.args.opts.now c.args.kit.now c.args.old.now c.requires.opens (option_copied c.get.result) own c.in-Ok.new c.in-Ok.ensures.key
    c.as_slice.result.now (c.as_slice.ensures.value ∙ c.in_ok-families.ensures) c.new-seed.result c.new-seed.ensures
    (record { root = c.args.id; props = Some c.in-Ok.new.props; key = Some c.in-Ok.new.key; wrapped = c.in_ok-wrapped.wrapped }) refl refl refl c.in_ok-wrapped.ensures
