-- A tree for worked values: `tank` (1), a root, with `tank/a` (2), which inherits its key, and `tank/b` (3),
-- a root with the heir `tank/b/x` (4); `copy` (5), a clone of `tank/a`, with `copy/r` (6), a root; `tank/b/y`
-- (7), a clone of `tank/a`; and `lake` (8), which is plain.
use Rattle.std.specs.Prelude.{ℕ, List, [], ◌∷◌, codes}
use Rattle.dataset_tree.specs.declared.kinds.Format.TheVariants.{Raw}
use Rattle.dataset_tree.specs.declared.kinds.Kind.TheVariants.{Plain, Crypt}
use Rattle.dataset_tree.specs.declared.tree.Row.{Row}
use Rattle.encryption_roots.specs.declared.props.Location.TheVariants.{Prompt}
use Rattle.encryption_roots.specs.declared.props.Props.{Props}

abbrev pub sample_rows : List Row
sample_rows =
    record { id = 1; parent = 0; name = codes "tank"; kind = Crypt; origin = 0 }
    ∷ record { id = 2; parent = 1; name = codes "tank/a"; kind = Crypt; origin = 0 }
    ∷ record { id = 3; parent = 1; name = codes "tank/b"; kind = Crypt; origin = 0 }
    ∷ record { id = 4; parent = 3; name = codes "tank/b/x"; kind = Crypt; origin = 0 }
    ∷ record { id = 5; parent = 0; name = codes "copy"; kind = Crypt; origin = 2 }
    ∷ record { id = 6; parent = 5; name = codes "copy/r"; kind = Crypt; origin = 0 }
    ∷ record { id = 7; parent = 3; name = codes "tank/b/y"; kind = Crypt; origin = 2 }
    ∷ record { id = 8; parent = 0; name = codes "lake"; kind = Plain; origin = 0 }
    ∷ []

abbrev pub sample_props : Props
sample_props = record { format = Raw; place = Prompt; iters = 0; salt = 0 }

abbrev pub sample_roots : List (ℕ × Props)
sample_roots = (1, sample_props) ∷ (3, sample_props) ∷ (6, sample_props) ∷ []
