use Rattle.std.proofs.Common.{arith}
use Rattle.file_blocks.proofs.WholeBytes.{given_parts, parts_give, refs_grown}
use Rattle.file_blocks.proofs.WholeRanges.{no_refs, parts_end, parts_range, range_parts}
use Rattle.file_blocks.proofs.object_laws.objects_have_the_bytes_of_their_references.Goals as goal

pub returns-clause-whole : goal.returns-clause-whole
returns-clause-whole c = λ key held record_size object refs bytes wide is has given.
    let parts = given_parts key held record_size object.length refs (omega (arith, wide)) bytes given in (
      parts_range key held record_size object refs wide is has bytes parts.0 (λ index within. (parts.1 index within).1),
      parts_end key held record_size object refs wide is has (λ index within. (parts.1 index within).0),
    )

pub returns-clause-parts : goal.returns-clause-parts
returns-clause-parts c = λ key held record_size object refs bytes wide is has ends read.
    let parts = range_parts key held record_size object refs wide is has bytes read ends in
    parts_give key held record_size object.length refs (omega (arith, wide)) bytes parts.0 parts.1

pub returns-clause-grown : goal.returns-clause-grown
returns-clause-grown c = λ key held more record_size size refs bytes. refs_grown key held more record_size size refs bytes

pub returns-clause-empty : goal.returns-clause-empty
returns-clause-empty c = λ held record_size. no_refs held record_size
