use Rattle.key_formats.proofs.MaterialLemmas.{decodes}
use Rattle.key_formats.proofs.decoded.Goals as goal

pub unreachable-requires : goal.unreachable-requires
unreachable-requires c =
    let written = rw (decodes c.args.digits.now c.requires) at c.decode_to_slice.ensures.value in
    cc written.0

pub returns : goal.returns
returns c =
    let written = rw (decodes c.args.digits.now c.requires) at c.decode_to_slice.ensures.value in
    written.1
