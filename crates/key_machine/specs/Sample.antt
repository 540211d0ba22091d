-- A host for worked values: `tank` (1), a root, with `tank/a` (2) and `tank/b` (3), which inherit its key,
-- `copy` (4), a clone of `tank/a`, and `lake` (5), which is plain. `tank/a` is mounted on slot 0, and `copy`
-- is mapped on slot 1, where rider 7 holds it twice; slot 2 was used before.
use Rattle.std.specs.declared.option.Option.TheVariants.{Some}
use Rattle.std.specs.Prelude.{ℕ, List, Result, Ok, [], ◌∷◌, ◌++◌, replicate, codes}
use Rattle.dataset_tree.specs.declared.kinds.Kind.TheVariants.{Plain as PlainKind, Crypt}
use Rattle.dataset_tree.specs.declared.refusal.Refusal.{Refusal}
use Rattle.dataset_tree.specs.declared.kinds.Format.{Format}
use Rattle.dataset_tree.specs.declared.tree.Row.{Row}
use Rattle.dataset_tree.specs.declared.kinds.Format.TheVariants.{Raw, Hex, Passphrase}
use Rattle.encryption_roots.specs.declared.props.Location.TheVariants.{Prompt, File}
use Rattle.encryption_roots.specs.Options.{no_options}
use Rattle.encryption_roots.specs.declared.props.Options.{Options}
use Rattle.encryption_roots.specs.declared.kit.Fetched.{Fetched}
use Rattle.encryption_roots.specs.declared.kit.Fetched.TheVariants as fetches
use Rattle.encryption_roots.specs.declared.kit.SeedGot.TheVariants as seeds
use Rattle.encryption_roots.specs.declared.kit.LineKit.{LineKit}
use Rattle.encryption_roots.specs.declared.props.Props.{Props}
use Rattle.key_machine.specs.Plain.{Plain, Ciphers}

abbrev pub sample_rows : List Row
sample_rows =
    record { id = 1; parent = 0; name = codes "tank"; kind = Crypt; origin = 0 }
    ∷ record { id = 2; parent = 1; name = codes "tank/a"; kind = Crypt; origin = 0 }
    ∷ record { id = 3; parent = 1; name = codes "tank/b"; kind = Crypt; origin = 0 }
    ∷ record { id = 4; parent = 0; name = codes "copy"; kind = Crypt; origin = 2 }
    ∷ record { id = 5; parent = 0; name = codes "lake"; kind = PlainKind; origin = 0 }
    ∷ []

abbrev pub sample : Plain
sample = record {
  tree = record { rows = sample_rows; last = 5 };
  roots = (1, record { format = Raw; place = File (codes "/t"); iters = 0; salt = 0 }) ∷ [];
  wrapped = (1, record { wrapped = 11 ∷ []; block = 512 }) ∷ (2, record { wrapped = 22 ∷ []; block = 512 })
      ∷ (3, record { wrapped = 33 ∷ []; block = 512 }) ∷ [];
  loaded = (1, codes "the key of tank") ∷ [];
  gens = (1 ∷ 1 ∷ 5 ∷ []) ++ replicate 253 0;
  mapped = (2, 0) ∷ (4, 1) ∷ [];
  mounted = 2 ∷ [];
  users = record { rider = 7; slot = 1; generation = 1 } ∷ record { rider = 7; slot = 1; generation = 1 } ∷ [];
}

-- the host whose rider 7 holds the mapping of `copy` so often
abbrev pub held_by_one : ℕ → Plain
held_by_one times = record sample { users = replicate times (record { rider = 7; slot = 1; generation = 1 }) }

-- the host with no key loaded
abbrev pub unloaded : Plain
unloaded = record sample { loaded = [] }

-- the keys of `tank`, and of `tank/b` where it is a root
abbrev pub tank_key : ℕ × List ℕ
tank_key = (1, codes "the key of tank")

abbrev pub child_key : ℕ × List ℕ
child_key = (3, codes "the key of tank/b")

abbrev pub raw_props : List ℕ → Props
raw_props path = record { format = Raw; place = File path; iters = 0; salt = 0 }

-- the host where `tank/b` is a root too, and only these keys are loaded
abbrev pub with_child_root : List (ℕ × List ℕ) → Plain
with_child_root loaded = record sample {
  roots = (1, raw_props (codes "/t")) ∷ (3, raw_props (codes "/b")) ∷ [];
  loaded = loaded;
}

-- a passphrase's properties
abbrev pub passphrase_props : Props
passphrase_props = record { format = Passphrase; place = File (codes "/p"); iters = 500000; salt = 9 }

abbrev pub hex_props : Props
hex_props = record { format = Hex; place = Prompt; iters = 0; salt = 0 }

-- the options with a key format alone
abbrev pub raw : Options
raw = record no_options { format = Some Raw }

abbrev pub passphrase : Options
passphrase = record no_options { format = Some Passphrase }

-- what a line has that takes a seed alone, two keys and a seed, or two keys and a seed's fault
abbrev pub seed_kit : List ℕ → LineKit
seed_kit seed = record { old_key = fetches.NotAsked; new_key = fetches.NotAsked; seed = seeds.Got seed }

abbrev pub new_key_kit : List ℕ → LineKit
new_key_kit seed =
    record { old_key = fetches.Got (codes "old"); new_key = fetches.Got (codes "new"); seed = seeds.Got seed }

abbrev pub faulty_kit : (old new : Fetched) → LineKit
faulty_kit old new = record { old_key = old; new_key = new; seed = seeds.Fault }

-- material that is its own key, but for a passphrase, whose key is its salt and its iterations
abbrev pub plain_key : Format → (material : List ℕ) (iters salt : ℕ) → Result (List ℕ) Refusal
plain_key Raw material iters salt = Ok material
plain_key Hex material iters salt = Ok material
plain_key Passphrase material iters salt = Ok (salt ∷ iters ∷ [])

abbrev pub with_plain_keys : Ciphers → Ciphers
with_plain_keys c = record c { wkey = plain_key }

-- the host where slot 2 has no generation left, and the one where no slot has
abbrev pub used_up : Plain
used_up = record sample { gens = (1 ∷ 1 ∷ 1073741823 ∷ []) ++ replicate 253 0 }

abbrev pub all_used_up : Plain
all_used_up = record sample { gens = replicate 256 1073741823 }

-- the host with as many datasets as there may be
abbrev pub more : Row
more = record { id = 6; parent = 0; name = codes "more"; kind = PlainKind; origin = 0 }

abbrev pub full : Plain
full = record sample { tree = record { rows = sample_rows ++ replicate 251 more; last = 6 } }
