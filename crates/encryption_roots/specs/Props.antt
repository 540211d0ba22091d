-- The properties of an encryption root's key.
use Rattle.std.specs.Prelude.{◌≡◌, ℕ, ◌≤◌}
use Rattle.dataset_tree.specs.declared.kinds.Format.{Format}
use Rattle.dataset_tree.specs.declared.kinds.Format.TheVariants.{Raw, Hex, Passphrase}
use Rattle.encryption_roots.specs.declared.props.Props.{Props}

-- The iterations and the salt of PBKDF2 go with a passphrase alone: 100000 to 10000000 iterations there, else
-- none, and a salt of 0.
abbrev pub KeepsIterationsOf : Format → ℕ → ℕ → Type 0
KeepsIterationsOf Raw iters salt = (iters ≡ 0) × (salt ≡ 0)
KeepsIterationsOf Hex iters salt = (iters ≡ 0) × (salt ≡ 0)
KeepsIterationsOf Passphrase iters salt = (100000 ≤ iters) × (iters ≤ 10000000)

abbrev pub KeepsIterations : Props → Type 0
KeepsIterations props = KeepsIterationsOf props.format props.iters props.salt
