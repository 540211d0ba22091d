use Rattle.std.proofs.Common.{refl}
use Rattle.file_blocks.specs.Changes.{refs_to}
use Rattle.file_blocks.specs.Objects.{count_touched, filled, spliced}
use Rattle.file_blocks.specs.Wholes.{bytes_of_refs}
use Rattle.file_blocks.specs.Writes.{change_of_write, new_text, new_texts, opened_as, taken_at, taken_from}
use Rattle.file_blocks.proofs.object_laws.objects_by_hand.Goals as goal

pub returns-clause-bytes : goal.returns-clause-bytes
unfolding bytes_of_refs filled
returns-clause-bytes c = λ key held addr salt iv mac opened. (rw opened refl, refl)

pub returns-clause-text : goal.returns-clause-text
unfolding change_of_write new_texts new_text taken_at taken_from opened_as spliced filled count_touched
returns-clause-text c = λ key held tree addr salt iv mac walked opened. rw (walked, opened) refl

pub returns-clause-refs : goal.returns-clause-refs
unfolding refs_to
returns-clause-refs c = λ key salts tree text refs. (refl, refl, refl, refl)
