use Rattle.std.proofs.Common.{ℕ, ◌<◌, List, Option, inl, inr, arith}
use Rattle.block_crypt.specs.Blocks.{KeyValue}
use Rattle.salt_rotation.specs.SaltState.{SaltState}
use Rattle.indirect_macs.specs.declared.refs.BlockRef.{BlockRef}
use Rattle.file_blocks.specs.declared.object.Object.{Object}
use Rattle.file_blocks.specs.Changes.{Change}
use Rattle.file_blocks.specs.Wholes.{ChangeFits, GivesChange, HasRefs}
use Rattle.file_blocks.proofs.Leading.{IsBehind, cut_behind, write_behind}
use Rattle.file_blocks.proofs.object_laws.changes_lead_to_their_references.Goals as goal

some : {record_size : ℕ} (key : KeyValue) (salts : SaltState) (held : List (List ℕ)) (object : Object) (c : Change) → ChangeFits key salts held record_size object c → 0 < record_size
some key salts held object c fits = let wide = fits.wide in omega (arith, wide)

behind : (key : KeyValue) (salts : SaltState) (held : List (List ℕ)) (record_size : ℕ) (object : Object) (refs : ℕ → Option BlockRef) (c : Change)
    → GivesChange key held record_size object c → (fits : ChangeFits key salts held record_size object c) (has : HasRefs held record_size object refs)
    → IsBehind key salts held record_size object refs (some key salts held object c fits) has c
behind key salts held record_size object refs c made fits has = elim made [
  | inl write ↦ write_behind key salts held record_size object refs (some key salts held object c fits) has write.0 write.1 c write.2 fits
  | inr cut ↦ cut_behind key salts held record_size object refs (some key salts held object c fits) has cut.0 c cut.1 fits
]

pub returns-clause-refs : goal.returns-clause-refs
returns-clause-refs c = λ key salts held record_size object refs change made fits has. (behind key salts held record_size object refs change made fits has).has_refs

pub returns-clause-object : goal.returns-clause-object
returns-clause-object c = λ key salts held record_size object refs change made fits has. (behind key salts held record_size object refs change made fits has).is_object
