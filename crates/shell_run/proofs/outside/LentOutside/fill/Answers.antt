use Rattle.std.proofs.Common.{◌≡◌, refl}
use Rattle.shell_run.proofs.KitLemmas.{fill_acts, fill_not, takes_listless}
use Rattle.shell_run.proofs.outside.LentOutside.fill.Goals as goal

pub returns-in_err-push-clause-takes : goal.returns-in_err-push-clause-takes
returns-in_err-push-clause-takes g c =
    fill_not c.args.entry c.args.is_wanted _ _ c.from_residual.result c.from_residual.ensures.0
    (takes_listless (λ line. line ≡ c.args.entry.line) _ _ _ _ c.args.self.now.found.now c.push.new.self c.in_err-push.ensures.err)

pub returns-clause-takes : goal.returns-clause-takes
returns-clause-takes g c =
    rw c.if-not-is_wanted.false
    (fill_acts c.args.entry c.requires c.fill_seed-seed.result _ _ c.fill_seed-seed.ensures.call refl c.fill_seed-seed.ensures.seed refl
    (rw c.is_seed_fault.ensures at (c.settle.ensures c.args.self.now.found.now c.args.entry c.in_ok-push.ensures.ok)))
