use Rattle.std.proofs.Common.{◌<◌, ◌≤◌, ◌+◌, length, refl, sym, ◌∙◌, subst}
use Rattle.mapping_words.specs.Words.{count_in}
use Rattle.key_machine.specs.Plain.{Plain}
use Rattle.key_store.proofs.UnloadLemmas.{IsClosedBelow, none_closed, there_before, there_now, own_now, fewer_left, one_more, closed_up_to, used_first, all_closed, none_used, same_since, refused_since}
use Rattle.key_store.proofs.state.KeyState.close_owned.Goals as goal

pub loop-id-init : goal.loop-id-init
loop-id-init g c = record {
  rising = c.rises_unheld.ensures.rising;
  unheld = c.rises_unheld.ensures.unheld;
  so_far = (0, none_closed c.args.self.now c.args.root c.rises_unheld.ensures.rising);
  refusals = record { refused = refl; last = refl };
  agrees = c.requires.agrees;
  fits = c.requires.fits;
}

pub close-requires-clause-mapped : goal.close-requires-clause-mapped
close-requires-clause-mapped g c =
    there_now c.args.self.now c.args.root c.loop-id.invariant.rising c.loop-id.self c.loop-id.invariant.so_far.0 c.loop-id.invariant.so_far.1 c.in-Some.id c.in-Some.slot (sym c.first_owned.ensures ∙ c.in-Some.is)

pub returns-in-Err-clause-below : goal.returns-in-Err-clause-below
returns-in-Err-clause-below g c =
    c.in-Err.ensures.kept ∙ closed_up_to c.args.self.now c.args.root c.loop-id.invariant.rising c.loop-id.self c.loop-id.invariant.so_far.0 c.loop-id.invariant.so_far.1 c.in-Some.id c.in-Some.slot (sym c.first_owned.ensures ∙ c.in-Some.is)

pub returns-in-Err-clause-owned : goal.returns-in-Err-clause-owned
returns-in-Err-clause-owned g c =
    own_now c.args.self.now c.args.root c.loop-id.invariant.rising c.loop-id.self c.loop-id.invariant.so_far.0 c.loop-id.invariant.so_far.1 c.in-Some.id c.in-Some.slot (sym c.first_owned.ensures ∙ c.in-Some.is)

pub returns-in-Err-clause-busy : goal.returns-in-Err-clause-busy
returns-in-Err-clause-busy g c = (
  c.in-Some.slot,
  there_before c.args.self.now c.args.root c.loop-id.invariant.rising c.loop-id.self c.loop-id.invariant.so_far.0 c.loop-id.invariant.so_far.1 c.in-Some.id c.in-Some.slot (sym c.first_owned.ensures ∙ c.in-Some.is),
  subst (λ n. 1 ≤ n) (sym c.count.ensures) c.in-Err.ensures.refused.0,
  refused_since (g.K.SlotKeeper.told c.args.keeper.now) (g.K.SlotKeeper.told c.loop-id.keeper) (g.K.SlotKeeper.told c.close.new.keeper) c.in-Some.slot c.count.result (count_in c.in-Err.found.word) c.loop-id.invariant.refusals c.count.ensures
      c.in-Err.ensures.refused.1,
)

pub returns-in-Err-clause-first : goal.returns-in-Err-clause-first
returns-in-Err-clause-first g c = λ tells.
    used_first c.args.self.now c.args.root c.loop-id.invariant.rising c.loop-id.self c.loop-id.invariant.so_far.0 c.loop-id.invariant.so_far.1 c.in-Some.id c.in-Some.slot (sym c.first_owned.ensures ∙ c.in-Some.is)
    c.loop-id.invariant.unheld (sym (c.in-Err.ensures.exact tells)) c.count.result (c.count.ensures ∙ c.in-Err.ensures.count tells)

pub loop-id-smaller : goal.loop-id-smaller
loop-id-smaller g c =
    subst (λ (q : Plain). length q.mapped < length c.loop-id.self.mapped) (sym c.in_default-close.ensures.closed) (fewer_left c.args.self.now c.args.root c.loop-id.invariant.rising c.loop-id.self c.loop-id.invariant.so_far.0 c.loop-id.invariant.so_far.1 c.in-Some.id c.in-Some.slot (sym c.first_owned.ensures ∙ c.in-Some.is))

pub loop-id-preserved : goal.loop-id-preserved
loop-id-preserved g c = record {
  rising = c.loop-id.invariant.rising;
  unheld = c.loop-id.invariant.unheld;
  so_far = (
    c.in-Some.id + 1,
    subst (λ (q : Plain). IsClosedBelow c.args.self.now q c.args.root (c.in-Some.id + 1)) (sym c.in_default-close.ensures.closed)
        (one_more c.args.self.now c.args.root c.loop-id.invariant.rising c.loop-id.self c.loop-id.invariant.so_far.0 c.loop-id.invariant.so_far.1 c.in-Some.id c.in-Some.slot (sym c.first_owned.ensures ∙ c.in-Some.is) c.in_default-close.ensures.unmounted),
  );
  refusals = same_since (g.K.SlotKeeper.told c.args.keeper.now) (g.K.SlotKeeper.told c.loop-id.keeper) (g.K.SlotKeeper.told c.close.new.keeper) c.loop-id.invariant.refusals c.in_default-close.ensures.refusals;
  agrees = c.in_default-close.ensures.agrees;
  fits = c.in_default-close.ensures.fits;
}

pub returns-clause-closed : goal.returns-clause-closed
returns-clause-closed g c =
    all_closed c.args.self.now c.args.root c.loop-id.invariant.rising c.loop-id.self c.loop-id.invariant.so_far.0 c.loop-id.invariant.so_far.1 (sym c.first_owned.ensures ∙ c.in_default.is)

pub returns-clause-idle : goal.returns-clause-idle
returns-clause-idle g c = λ tells.
    none_used c.args.self.now c.args.root c.loop-id.invariant.rising c.loop-id.self c.loop-id.invariant.so_far.0 c.loop-id.invariant.so_far.1 (sym c.first_owned.ensures ∙ c.in_default.is) c.loop-id.invariant.unheld
