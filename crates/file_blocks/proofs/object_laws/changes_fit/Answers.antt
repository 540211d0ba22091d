use Rattle.std.proofs.Common.{ℕ, ◌<◌, List, inl, inr, arith}
use Rattle.block_crypt.specs.Blocks.{KeyValue}
use Rattle.file_blocks.specs.declared.object.Object.{Object}
use Rattle.file_blocks.specs.Changes.{Change}
use Rattle.file_blocks.specs.Objects.{IsObject}
use Rattle.file_blocks.specs.Wholes.{GivesChange}
use Rattle.file_blocks.proofs.FittingRuns.{Shape, change_fits, cut_shape, puts_bytes, write_shape}
use Rattle.file_blocks.proofs.Leading.{levels_some}
use Rattle.file_blocks.proofs.object_laws.changes_fit.Goals as goal

shape_of : (key : KeyValue) (held : List (List ℕ)) (record_size : ℕ) (object : Object) (c : Change) → GivesChange key held record_size object c → 0 < record_size
    → IsObject record_size object → Shape record_size object c
shape_of key held record_size object c made wide is = elim made [
  | inl write ↦ write_shape key held record_size object write.0 write.1 c wide (levels_some object is) write.2
  | inr cut ↦ cut_shape key held record_size object cut.0 c wide cut.1
]

pub returns-clause-fits : goal.returns-clause-fits
returns-clause-fits c = λ key salts held record_size object refs change made fair wide narrow is few holds has room.
    change_fits key salts held record_size object refs change is (shape_of key held record_size object change made (omega (arith, wide)) is) fair holds has wide narrow few room

pub returns-clause-bytes : goal.returns-clause-bytes
returns-clause-bytes c = λ key salts held record_size object refs change made fair wide is holds has.
    puts_bytes key salts held record_size object refs change is (shape_of key held record_size object change made wide is) fair holds has
