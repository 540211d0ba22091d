-- The encryption roots: a finite map from ids to the properties of the roots' keys.
use Rattle.std.specs.Prelude.{ℕ, List}
use Rattle.std.specs.declared.option.Option.{Option}
use Rattle.encryption_roots.specs.declared.props.Props.{Props}
use Rattle.encryption_roots.specs.ById.{at_id, with_id, without_id}

-- the properties of a root, none where the dataset is no root
abbrev pub props_of : ℕ → List (ℕ × Props) → Option Props
props_of id roots = at_id id roots

-- the roots with one more, or with new properties of one
abbrev pub with_root : ℕ → Props → List (ℕ × Props) → List (ℕ × Props)
with_root id props roots = with_id id props roots

-- the roots but for this one
abbrev pub without_root : ℕ → List (ℕ × Props) → List (ℕ × Props)
without_root id roots = without_id id roots
