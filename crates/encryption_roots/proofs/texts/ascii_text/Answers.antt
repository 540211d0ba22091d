use Rattle.encryption_roots.proofs.PathLemmas.{path_is_utf8}
use Rattle.encryption_roots.proofs.texts.ascii_text.Goals as goal

pub unreachable-requires : goal.unreachable-requires
unreachable-requires c = c.in-Err.ensures.cases.0 (path_is_utf8 c.args.bytes.now c.requires)
