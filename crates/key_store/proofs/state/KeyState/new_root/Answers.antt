use Rattle.std.proofs.Common.{◌≡◌, ℕ, List, Result, Ok, is_some, refl, ap, sym, ◌∙◌, subst}
use Rattle.std.specs.Prelude.{unwrap_or}
use Rattle.dataset_tree.specs.declared.kinds.Format.{Format}
use Rattle.dataset_tree.specs.declared.refusal.Refusal.{Refusal}
use Rattle.encryption_roots.specs.declared.kit.Fetched.{Fetched}
use Rattle.encryption_roots.specs.declared.props.Location.{Location}
use Rattle.encryption_roots.specs.declared.props.Location.TheVariants.{Prompt}
use Rattle.encryption_roots.specs.declared.props.Options.{Options}
use Rattle.encryption_roots.specs.declared.props.Props.{Props}
use Rattle.encryption_roots.specs.RecordSize.{IsRecordSize}
use Rattle.key_machine.specs.Create.{new_iters, new_salt, new_suite, seeded_record}
use Rattle.key_machine.specs.Told.{key_of}
use Rattle.key_ciphers.specs.Ciphers.{ciphers}
use Rattle.key_store.proofs.CreateLemmas.{size_in_form, stopped, key_stopped, is_told}
use Rattle.key_store.proofs.state.KeyState.new_root.Goals as goal

pub returns-in-Err-clause-fault : goal.returns-in-Err-clause-fault
returns-in-Err-clause-fault c =
    stopped c.args.self.now c.args.name.now c.args.opts.now c.args.kit.now c.args.format c.requires.root c.new_iters.result c.new_iters.ensures.iters c.seed_behind_key.result c.seed_behind_key.ensures c.in-Err.why c.in-Err.is

-- the key is derived with the new root's own iterations and salt
by_props : (format : Format) (opts : Options) (place : Location) (props : Props) (seed words : List ℕ) (iters : ℕ) (fetched : Fetched) (answer : Result (List ℕ) Refusal) → iters ≡ new_iters opts → words ≡ seed
    → props ≡ (let own : Props = record { format = format; place = place; iters = new_iters opts; salt = new_salt ciphers opts (Ok words) } in own)
    → answer ≡ key_of ciphers format props.iters props.salt fetched → key_of ciphers format iters (new_salt ciphers opts (Ok seed)) fetched ≡ answer
by_props format opts place props seed words iters fetched answer iters_are words_are props_are answer_is =
    let same_iters : iters ≡ props.iters = iters_are ∙ sym (ap (λ (own : Props). own.iters) props_are) in
    let same_salt : new_salt ciphers opts (Ok seed) ≡ props.salt = ap (λ (s : List ℕ). new_salt ciphers opts (Ok s)) (sym words_are) ∙ sym (ap (λ (own : Props). own.salt) props_are) in
    ap (λ n. key_of ciphers format n (new_salt ciphers opts (Ok seed)) fetched) same_iters ∙ ap (λ n. key_of ciphers format props.iters n fetched) same_salt ∙ sym answer_is

pub returns-in-Err-fetched_key-clause-fault : goal.returns-in-Err-fetched_key-clause-fault
returns-in-Err-fetched_key-clause-fault c =
    key_stopped c.args.self.now c.args.name.now c.args.opts.now c.args.kit.now c.args.format c.requires.root c.new_iters.result c.new_iters.ensures.iters c.seed_behind_key.result c.seed_behind_key.ensures c.in-Ok.seed c.in-Err-fetched_key.why c.in-Ok.is
    (by_props c.args.format c.args.opts.now (unwrap_or c.args.opts.now.place Prompt) c.in_ok-props.props c.in-Ok.seed c.new-seed.result c.new_iters.result c.args.kit.now.new_key c.fetched_key.result c.new_iters.ensures.iters
    c.new-seed.ensures c.in_ok-props.ensures.props c.fetched_key.ensures
    ∙ c.in-Err-fetched_key.is)

pub returns-clause-root : goal.returns-clause-root
returns-clause-root c =
    let seed : c.new-seed.result ≡ c.in-Ok.seed = c.new-seed.ensures in
    let key = c.in-Ok-fetched_key.key in
    let props = c.in_ok-props.ensures.props
    ∙ ap (λ (s : List ℕ). let made : Props = record { format = c.args.format; place = unwrap_or c.args.opts.now.place Prompt; iters = new_iters c.args.opts.now; salt = new_salt ciphers c.args.opts.now (Ok s) } in made) seed in
    let sealed = c.seeded_record-wrapped.ensures.sealed ∙ ap (λ suite. seeded_record ciphers suite c.new-seed.result key) c.new_suite.ensures
    ∙ ap (λ (s : List ℕ). seeded_record ciphers (new_suite c.args.self.now c.args.name.now c.args.opts.now) s key) seed in
    let derived = by_props c.args.format c.args.opts.now (unwrap_or c.args.opts.now.place Prompt) c.in_ok-props.props c.in-Ok.seed c.new-seed.result c.new_iters.result c.args.kit.now.new_key c.fetched_key.result c.new_iters.ensures.iters
    c.new-seed.ensures c.in_ok-props.ensures.props c.fetched_key.ensures in
    is_told c.args.self.now c.args.name.now c.args.opts.now c.args.kit.now c.args.format c.requires.root c.new_iters.result c.new_iters.ensures.iters c.seed_behind_key.result c.seed_behind_key.ensures key c.in-Ok.seed
    (record { props = c.in_ok-props.props; family = record { wrapped = c.seeded_record-wrapped.result; block = c.unwrap_or-block.result }; key = key })
    (derived ∙ c.in-Ok-fetched_key.is) c.in-Ok.is props sealed c.unwrap_or-block.ensures refl (ap (λ found. is_some found) c.seeded_record-wrapped.ensures.opens) c.seeded_record-wrapped.ensures.in_form
    (subst IsRecordSize (sym c.unwrap_or-block.ensures) (size_in_form c.args.opts.now.block c.requires.record_size)) c.in_ok-props.ensures.kept
