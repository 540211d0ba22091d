use Rattle.std.proofs.Common.{◌≡◌, ◌∙◌, ap, is_some, sym, Some}
use Rattle.dataset_tree.specs.Tree.{id_named}
use Rattle.key_machine.specs.Plain.{Plain}
use Rattle.key_machine.proofs.NamedLaws.{IsNamed, named, row_of_named}
use Rattle.host_state.proofs.lone_keys.LoneKeys.destroy.Goals as goal

pub destroy-requires-clause-there : goal.destroy-requires-clause-there
destroy-requires-clause-there c =
    let p : Plain = c.self.inside.keys in
    let at : id_named c.args.name.now p.tree.rows ≡ Some c.in-Some.id = ap (λ t. id_named c.args.name.now t.rows) (sym c.tree.ensures) ∙ sym c.in-Some.ensures in
    let is : IsNamed p c.args.name.now c.in-Some.id = named p c.args.name.now c.in-Some.id at in
    ap (λ row. is_some row) (row_of_named p c.args.name.now c.in-Some.id is c.states_are_sound.ensures.tree.tree)
