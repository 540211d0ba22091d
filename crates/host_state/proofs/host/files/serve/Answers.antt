use Rattle.std.proofs.Common.{sym}
use Rattle.host_state.proofs.host.files.serve.Goals as goal

pub returns-in-Touch : goal.returns-in-Touch
returns-in-Touch g c = rw c.in-Touch.is c.touch.ensures

pub returns-in-Remove : goal.returns-in-Remove
returns-in-Remove g c = rw c.in-Remove.is c.remove.ensures

pub returns-in-Write : goal.returns-in-Write
returns-in-Write g c = rw (c.in-Write.is, sym c.as_bytes.ensures) c.write.ensures

pub returns-in-Cut : goal.returns-in-Cut
returns-in-Cut g c = rw c.in-Cut.is c.shorten.ensures

pub returns-in-Read : goal.returns-in-Read
returns-in-Read g c = rw c.in-Read.is c.read.ensures

pub returns-in-Names : goal.returns-in-Names
returns-in-Names g c = rw c.in-Names.is c.list.ensures

pub returns-in-Verify : goal.returns-in-Verify
returns-in-Verify g c = rw c.in-Verify.is c.verify.ensures
