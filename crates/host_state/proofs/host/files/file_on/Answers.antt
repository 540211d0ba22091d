use Rattle.std.proofs.Common.{Option, None, Some, ap, refl, ◌∙◌}
use Rattle.encryption_roots.specs.Owners.{family}
use Rattle.key_ciphers.specs.Ciphers.{master_of}
use Rattle.key_machine.specs.Plain.{Master}
use Rattle.host_state.proofs.FileLemmas.{family_guid, under_key}
use Rattle.host_state.proofs.host.files.file_on.Goals as goal

pub serve_at-requires-clause-guid : goal.serve_at-requires-clause-guid
serve_at-requires-clause-guid g c =
    family_guid c.args.keys.now c.family_of-family.result c.in-Some.key.now c.args.families.now.items c.requires.paired c.in-Some.ensures.key

pub returns-in-Some : goal.returns-in-Some
returns-in-Some g c =
    let key : Option Master = Some (master_of c.in-Some.key.now) in
    under_key c.args.keys.now c.args.families.now.items c.serve_at.new.families.items c.serve_at.result c.family_of-family.result c.args.id c.args.command.now key
    (c.family_of-family.ensures ∙ ap (λ t. family t.rows c.args.id) c.tree.ensures) c.in-Some.ensures.key c.serve_at.ensures

pub returns-in-None : goal.returns-in-None
returns-in-None g c =
    let key : Option Master = None in
    under_key c.args.keys.now c.args.families.now.items c.args.families.now.items _ c.family_of-family.result c.args.id c.args.command.now key
    (c.family_of-family.ensures ∙ ap (λ t. family t.rows c.args.id) c.tree.ensures) c.in-None.ensures.key (refl, refl)
