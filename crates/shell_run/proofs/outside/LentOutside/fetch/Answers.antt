use Rattle.std.proofs.Common.{◌≡◌, Some, refl}
use Rattle.edge_io.specs.Told.{unread}
use Rattle.shell_run.specs.Script.{script_of}
use Rattle.shell_run.proofs.KitLemmas.{fetch_acts, fetch_not, fetch_stopped, prompt_acts, prompt_stops, takes_listless}
use Rattle.shell_run.proofs.outside.LentOutside.fetch.Goals as goal

pub returns-in_err-push-in-File-clause-takes : goal.returns-in_err-push-in-File-clause-takes
returns-in_err-push-in-File-clause-takes g c =
    fetch_not c.args.entry (Some c.args.place.now) _ _ (script_of c.args.self.now.next (unread c.args.self.now.reader.now (g.S.Source.left c.args.self.now.source.now))) c.from_residual.result
    c.from_residual.ensures.0 c.from_residual.ensures.1
    (takes_listless (λ line. line ≡ c.args.entry.line) _ _ _ _ c.args.self.now.found.now c.push.new.self c.in_err-push-in-File.ensures.err)

pub returns-in-Ok-clause-takes : goal.returns-in-Ok-clause-takes
returns-in-Ok-clause-takes g c =
    rw (c.in-Prompt.is, c.new.ensures)
    (prompt_acts c.args.entry c.in-Ok.material.items _ (script_of c.args.self.now.next (unread c.args.self.now.reader.now (g.S.Source.left c.args.self.now.source.now)))
    (script_of c.take_prompt.new.next (unread c.take_prompt.new.reader (g.S.Source.left c.take_prompt.new.source))) c.in-Ok.ensures.given)

pub returns-in-Err-clause-takes : goal.returns-in-Err-clause-takes
returns-in-Err-clause-takes g c =
    rw c.in-Prompt.is
    (prompt_stops c.args.entry c.in-Err.halt _ (script_of c.args.self.now.next (unread c.args.self.now.reader.now (g.S.Source.left c.args.self.now.source.now)))
    (script_of c.take_prompt.new.next (unread c.take_prompt.new.reader (g.S.Source.left c.take_prompt.new.source))) c.in-Err.ensures.stops)

pub returns-in-Ok-fetched-clause-takes : goal.returns-in-Ok-fetched-clause-takes
returns-in-Ok-fetched-clause-takes g c =
    rw c.in-File.is
    (fetch_acts c.args.entry c.requires c.in-File.path c.in-Ok-fetched.fetched _ _ (script_of c.args.self.now.next (unread c.args.self.now.reader.now (g.S.Source.left c.args.self.now.source.now)))
    (rw c.in-Ok-fetched.is at c.fetch_file-fetched.ensures.call) c.fetch_file-fetched.ensures.files refl refl
    (rw (c.has_failed.ensures, c.in-Ok-fetched.is) at (c.settle.ensures c.args.self.now.found.now c.args.entry c.in_ok-push-in-File.ensures.ok)) (rw c.in-Ok-fetched.is at c.fetch_file-fetched.ensures.material))

pub returns-in-Err-fetched-clause-takes : goal.returns-in-Err-fetched-clause-takes
returns-in-Err-fetched-clause-takes g c =
    rw c.in-File.is
    (fetch_stopped c.args.entry c.requires c.in-File.path _ _ (script_of c.args.self.now.next (unread c.args.self.now.reader.now (g.S.Source.left c.args.self.now.source.now)))
    (rw c.in-Err-fetched.is at c.fetch_file-fetched.ensures.call) c.fetch_file-fetched.ensures.files refl refl
    (rw (c.has_failed.ensures, c.in-Err-fetched.is) at (c.settle.ensures c.args.self.now.found.now c.args.entry c.in_ok-push-in-File.ensures.ok)))
