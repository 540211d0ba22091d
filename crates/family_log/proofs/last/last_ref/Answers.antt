use Rattle.std.proofs.Common.{◌≡◌, ◌-◌, Option, Some, ap, sym, ◌∙◌, reverse, take, arith}
use Rattle.std.specs.Option.{option_flatten, option_or}
use Rattle.indirect_macs.specs.declared.refs.BlockRef.{BlockRef}
use Rattle.family_log.specs.Log.{head_spot, newest, ref_in, stood}
use Rattle.family_log.specs.Reading.{spot_of}
use Rattle.family_log.proofs.LogLemmas.{newest-step, newest-start}
use Rattle.family_log.proofs.last.last_ref.Goals as goal

pub returns-in-Some : goal.returns-in-Some
returns-in-Some c =
    let said_in = ref_in c.args.block c.args.object c.args.index in
    let older = newest said_in (stood (spot_of c.entries.spot) c.index-log-at.result) (reverse (take (c.entries.at - 1) c.args.log.now)) in
    let found : newest said_in (head_spot c.args.head) (reverse c.args.log.now) ≡ Some c.in-Some.to =
    sym c.entries.invariant.1
    ∙ newest-step said_in (spot_of c.entries.spot) c.args.log.now c.entries.at c.index-log-at.result c.entries-test.true c.entries.invariant.0 c.index-log-at.is
    ∙ ap (λ (said_now : Option (Option BlockRef)). option_or said_now older) (sym c.said_of.ensures ∙ c.in-Some.is) in
    sym (ap option_flatten found)

pub entries-preserved : goal.entries-preserved
entries-preserved c =
    let said_in = ref_in c.args.block c.args.object c.args.index in
    let before = reverse (take (c.entries.at - 1) c.args.log.now) in
    let older = newest said_in (stood (spot_of c.entries.spot) c.index-log-at.result) before in
    let step = newest-step said_in (spot_of c.entries.spot) c.args.log.now c.entries.at c.index-log-at.result c.entries-test.true c.entries.invariant.0 c.index-log-at.is
    ∙ ap (λ (said_now : Option (Option BlockRef)). option_or said_now older) (sym c.said_of.ensures ∙ c.in_default.is) in
    (omega (arith, c.entries.invariant.0), ap (λ spot. newest said_in spot before) c.stood-spot.ensures ∙ sym step ∙ c.entries.invariant.1)

pub returns : goal.returns
returns c =
    ap option_flatten (sym (newest-start (ref_in c.args.block c.args.object c.args.index) (spot_of c.entries.spot) c.args.log.now c.entries.at c.entries-test.false) ∙ c.entries.invariant.1)
