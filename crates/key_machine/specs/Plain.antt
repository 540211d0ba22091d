-- The plain state of a keystore, without counts.
use Rattle.std.specs.Prelude.{ℕ, Bool, true, false, ◌==◌, List, [], replicate, is_some}
use Rattle.std.specs.declared.option.Option.{Option}
use Rattle.std.specs.declared.option.Option.TheVariants.{Some, None}
use Rattle.std.specs.Option.{option_and_then}
use Rattle.std.specs.List.{filter}
use Rattle.std.specs.Prelude.{Result}
use Rattle.dataset_tree.specs.declared.kinds.Format.{Format}
use Rattle.dataset_tree.specs.declared.kinds.Kind.{Kind}
use Rattle.dataset_tree.specs.declared.kinds.Kind.TheVariants.{Plain as PlainKind, Crypt}
use Rattle.dataset_tree.specs.declared.kinds.Suite.{Suite}
use Rattle.dataset_tree.specs.declared.refusal.Refusal.{Refusal}
use Rattle.dataset_tree.specs.declared.tree.Row.{Row}
use Rattle.dataset_tree.specs.Tree.{Datasets, no_datasets}
use Rattle.encryption_roots.specs.declared.props.Props.{Props}
use Rattle.encryption_roots.specs.ById.{at_id}
use Rattle.encryption_roots.specs.Owners.{owner}
use Rattle.key_machine.specs.Limits.{slot_count}

-- a family's key record as it is stored, and its record size in bytes
pub record Stored : Type 0 where
  pub wrapped : List ℕ
  pub block : ℕ

-- one hold of a rider on a mapping
pub record Hold : Type 0 where
  pub rider : ℕ
  pub slot : ℕ
  pub generation : ℕ

-- The tree; the roots; the records by family; the wrapping keys that are loaded, by root; the last generation
-- of each slot; the slot of each mapped dataset; the mounted datasets; and the holds of the riders. Lists by
-- id are in rising order of it.
pub record Plain : Type 0 where
  pub tree : Datasets
  pub roots : List (ℕ × Props)
  pub wrapped : List (ℕ × Stored)
  pub loaded : List (ℕ × List ℕ)
  pub gens : List ℕ
  pub mapped : List (ℕ × ℕ)
  pub mounted : List ℕ
  pub users : List Hold

-- a host that holds nothing
abbrev pub no_keys : Plain
no_keys =
    record {
      tree = no_datasets;
      roots = [];
      wrapped = [];
      loaded = [];
      gens = replicate slot_count 0;
      mapped = [];
      mounted = [];
      users = [];
    }

-- a family's master key: its guid and suite, the suite's key bytes, and the 64 bytes of its HMAC key
pub record Master : Type 0 where
  pub guid : ℕ
  pub suite : Suite
  pub master : List ℕ
  pub hmac : List ℕ

-- What the definitions take from outside, since they know no cipher: the master key to which a stored record
-- opens under a wrapping key; the stored record of a master key under a wrapping key and an initialization
-- vector; the wrapping key of material in a format with iterations and salt, or what is wrong with the
-- material; and so many bytes of a seed's words from a place on.
pub record Ciphers : Type 0 where
  pub opens : (stored key : List ℕ) → Option Master
  pub record_of : Master → (key vector : List ℕ) → List ℕ
  pub wkey : Format → (material : List ℕ) (iters salt : ℕ) → Result (List ℕ) Refusal
  pub seed_bytes : (seed : List ℕ) (place count : ℕ) → List ℕ

-- ---- looking things up

abbrev pub is_encrypted_kind : Kind → Bool
is_encrypted_kind PlainKind = false
is_encrypted_kind Crypt = true

abbrev pub is_encrypted_row : Option Row → Bool
is_encrypted_row None = false
is_encrypted_row (Some row) = is_encrypted_kind row.kind

abbrev pub owner_of : Plain → ℕ → Option ℕ
owner_of p id = owner p.tree.rows p.roots id

abbrev pub is_root : Plain → ℕ → Bool
is_root p id = is_some (at_id id p.roots)

abbrev pub is_loaded : Plain → ℕ → Bool
is_loaded p root = is_some (at_id root p.loaded)

-- whether the key that this dataset uses is loaded
abbrev pub has_key_of : Plain → Option ℕ → Bool
has_key_of p None = false
has_key_of p (Some root) = is_loaded p root

abbrev pub has_key : Plain → ℕ → Bool
has_key p id = has_key_of p (owner_of p id)

abbrev pub is_same : ℕ → Option ℕ → Bool
is_same id None = false
is_same id (Some found) = found == id

-- the families whose records a root's key wraps, in order of id
abbrev pub owned : Plain → ℕ → List (ℕ × Stored)
owned p root = filter (λ entry. is_same root (owner_of p entry.0)) p.wrapped

-- the master key of a family, where its owner's key is loaded and opens its record
abbrev pub mkey : Ciphers → Plain → ℕ → Option Master
mkey c p family =
    option_and_then (λ stored. option_and_then
    (λ root. option_and_then (λ key. c.opens stored.wrapped key) (at_id root p.loaded)) (owner_of p family))
    (at_id family p.wrapped)
