use Rattle.std.proofs.Common.{rules, ℕ, List, Some, refl, sym, ap, ◌∙◌}
use Rattle.gcm_seal.specs.Gcm.{gctr}
use Rattle.gcm_seal.proofs.Opening.{gcm_open_good, gcm_open_bad}
use Rattle.gcm_seal.proofs.unseal_with.Goals as goal

pub returns-then-ne-clause-bad_tag : goal.returns-then-ne-clause-bad_tag
returns-then-ne-clause-bad_tag g c =
    (λ _. gcm_open_bad c.args.cipher.now c.args.iv.now c.args.aad.now c.args.text.now c.args.tag.now c.tag_of-computed.result c.tag_of-computed.ensures (search rules), λ _. refl)

pub returns-clause-opened : goal.returns-clause-opened
returns-clause-opened g c =
    gcm_open_good c.args.cipher.now c.args.iv.now c.args.aad.now c.args.text.now c.args.tag.now c.tag_of-computed.result c.tag_of-computed.ensures (search rules)
    ∙ ap Some (sym (c.apply.ensures ∙ ap (λ (b : List ℕ). gctr c.args.cipher.now b c.args.text.now) c.first_counter_block.ensures))

pub returns-clause-bad_tag : goal.returns-clause-bad_tag
returns-clause-bad_tag g c =
    let opened = returns-clause-opened g c in
    (λ e. cc, λ e. cc)
