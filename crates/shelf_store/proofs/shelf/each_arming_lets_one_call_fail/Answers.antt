use Rattle.shelf_store.proofs.ArmingLaws.{due_once, kept_before, raised_behind}
use Rattle.shelf_store.proofs.shelf.each_arming_lets_one_call_fail.Goals as goal

pub returns-clause-due : goal.returns-clause-due
returns-clause-due c = due_once

pub returns-clause-before : goal.returns-clause-before
returns-clause-before c = kept_before

pub returns-clause-behind : goal.returns-clause-behind
returns-clause-behind c = raised_behind
