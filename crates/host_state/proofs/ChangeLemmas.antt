-- A new wrapping key that is refused changes nothing.
use Rattle.std.proofs.Common.{◌≡◌, ℕ, Bool, List, Option, Some, None, Result, Err, refl, sym}
use Rattle.dataset_tree.specs.declared.refusal.Refusal.{Refusal}
use Rattle.dataset_tree.specs.declared.refusal.Stop.{Stop}
use Rattle.dataset_tree.specs.declared.refusal.Stop.TheVariants as stops
use Rattle.encryption_roots.specs.declared.command.KeyCmd.{KeyCmd}
use Rattle.encryption_roots.specs.declared.command.KeyCmd.TheVariants as commands
use Rattle.encryption_roots.specs.declared.kit.LineKit.{LineKit}
use Rattle.encryption_roots.specs.declared.props.Options.{Options}
use Rattle.key_ciphers.specs.Ciphers.{ciphers}
use Rattle.key_machine.specs.Change.{change_done}
use Rattle.key_machine.specs.Inherit.{inherit_done}
use Rattle.key_machine.specs.Plain.{Plain}
use Rattle.key_machine.specs.Reply.{Done, Refused, Stepped, unless_refused}
use Rattle.key_machine.specs.Step.{refusal_of, material_refusal, target, told}
use Rattle.key_machine.specs.Told.{Told}
use Rattle.key_store.specs.Calls.{AnswersDone, state_after, stepped}

stays_by : (p : Plain) (why : Refusal) (refusal : Option Refusal) (done : Stepped) → (done.reply ≡ Refused why → done.state ≡ p) → (unless_refused p refusal done).reply ≡ Refused why → (unless_refused p refusal done).state ≡ p
stays_by p why (Some first) done stays refused = refl
stays_by p why None done stays refused = stays refused

change_at : (p : Plain) (why : Refusal) (opts : Options) (facts : Told) (at : Option ℕ) → (change_done p opts facts at).reply ≡ Refused why → (change_done p opts facts at).state ≡ p
change_at p why opts facts None refused = refl
change_at p why opts facts (Some id) refused = absurd (let other : Done ≡ Refused why = refused in cc)

inherit_at : (p : Plain) (why : Refusal) (facts : Told) (at : Option ℕ) → (inherit_done p facts at).reply ≡ Refused why → (inherit_done p facts at).state ≡ p
inherit_at p why facts None refused = refl
inherit_at p why facts (Some id) refused = absurd (let other : Done ≡ Refused why = refused in cc)

change_stays : (p : Plain) (why : Refusal) (name : List ℕ) (opts : Options) (load_first : Bool) (kit : LineKit)
    → (stepped p (commands.Change name opts load_first) kit).reply ≡ Refused why → (stepped p (commands.Change name opts load_first) kit).state ≡ p
change_stays p why name opts load_first kit refused =
    let command : KeyCmd = commands.Change name opts load_first in
    let facts : Told = told ciphers p command kit in
    let done : Stepped = change_done p opts facts (target p command) in
    stays_by p why (refusal_of p command) (unless_refused p (material_refusal p command facts) done)
    (λ later. stays_by p why (material_refusal p command facts) done (λ last. change_at p why opts facts (target p command) last) later) refused

inherit_stays : (p : Plain) (why : Refusal) (name : List ℕ) (load_first : Bool) (kit : LineKit)
    → (stepped p (commands.Inherit name load_first) kit).reply ≡ Refused why → (stepped p (commands.Inherit name load_first) kit).state ≡ p
inherit_stays p why name load_first kit refused =
    let command : KeyCmd = commands.Inherit name load_first in
    let facts : Told = told ciphers p command kit in
    let done : Stepped = inherit_done p facts (target p command) in
    stays_by p why (refusal_of p command) (unless_refused p (material_refusal p command facts) done)
    (λ later. stays_by p why (material_refusal p command facts) done (λ last. inherit_at p why facts (target p command) last) later) refused

stopped : (T : Type 0) (stop : Stop) (p : Plain) (step : Stepped) → ((why : Refusal) → step.reply ≡ Refused why → step.state ≡ p) → AnswersDone (let ended : Result T Stop = Err stop in ended) step.reply
    → p ≡ state_after (let ended : Result (Unit {0}) Stop = Err stop in ended) p step.state
stopped T (stops.Refused why) p step stays answers = sym (stays why answers)
stopped T stops.NoMemory p step stays answers = refl

pub change_stopped : (T : Type 0) (stop : Stop) (p : Plain) (name : List ℕ) (opts : Options) (load_first : Bool) (kit : LineKit) → AnswersDone (let ended : Result T Stop = Err stop in ended) (stepped p (commands.Change name opts load_first) kit).reply
    → p ≡ state_after (let ended : Result (Unit {0}) Stop = Err stop in ended) p (stepped p (commands.Change name opts load_first) kit).state
change_stopped T stop p name opts load_first kit answers =
    stopped T stop p (stepped p (commands.Change name opts load_first) kit) (λ why. change_stays p why name opts load_first kit) answers

pub inherit_stopped : (T : Type 0) (stop : Stop) (p : Plain) (name : List ℕ) (load_first : Bool) (kit : LineKit) → AnswersDone (let ended : Result T Stop = Err stop in ended) (stepped p (commands.Inherit name load_first) kit).reply
    → p ≡ state_after (let ended : Result (Unit {0}) Stop = Err stop in ended) p (stepped p (commands.Inherit name load_first) kit).state
inherit_stopped T stop p name load_first kit answers =
    stopped T stop p (stepped p (commands.Inherit name load_first) kit) (λ why. inherit_stays p why name load_first kit) answers
