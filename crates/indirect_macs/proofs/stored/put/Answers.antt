use Rattle.std.proofs.Common.{sym, ap, Err}
use Rattle.indirect_macs.specs.declared.refs.MacError.TheVariants.{ShelfFault, Full, NoMemory}
use Rattle.indirect_macs.proofs.Putting.{not_due, put_one, put_none}
use Rattle.indirect_macs.proofs.stored.put.Goals as goal

pub returns-in-Ok-clause-puts : goal.returns-in-Ok-clause-puts
returns-in-Ok-clause-puts g c = λ reads before start had.
    put_one reads before c.args.block.now c.in-Ok.addr start _ _ had
    (not_due _ (λ due. let e = c.in-Ok.ensures.fault.1 due in cc)) c.in-Ok.ensures.ok

pub returns-in-Err-Fault-clause-puts : goal.returns-in-Err-Fault-clause-puts
returns-in-Err-Fault-clause-puts g c = λ reads before start had.
    put_none reads before c.args.block.now ShelfFault start _ _ had c.in-Err-Fault.ensures.err
    (sym (c.in-Err-Fault.ensures.fault.0 (ap Err c.in-Err-Fault.field-0-is))) tt

pub returns-in-Err-Full-clause-puts : goal.returns-in-Err-Full-clause-puts
returns-in-Err-Full-clause-puts g c = λ reads before start had.
    let full = c.in-Err-Full.ensures.full.0 (ap Err c.in-Err-Full.field-0-is) in
    put_none reads before c.args.block.now Full start _ _ had c.in-Err-Full.ensures.err
    (sym full.0) (rw c.in-Err-Full.ensures.err full.1)

pub returns-in-Err-NoMemory-clause-puts : goal.returns-in-Err-NoMemory-clause-puts
returns-in-Err-NoMemory-clause-puts g c = λ reads before start had.
    put_none reads before c.args.block.now NoMemory start _ _ had c.in-Err-NoMemory.ensures.err
    (sym (not_due _ (λ due. let e = c.in-Err-NoMemory.ensures.fault.1 due in cc))) tt
