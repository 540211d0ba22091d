-- The keys of a line: the present one, which it may have fetched, and the new one.
use Rattle.std.specs.Prelude.{◌≡◌, ℕ, List, if◌then◌else◌, Result, Ok, Err}
use Rattle.std.specs.declared.option.Option.{Option}
use Rattle.std.specs.declared.option.Option.TheVariants.{Some, None}
use Rattle.std.specs.Option.{option_and_then}
use Rattle.byte_fields.specs.LittleEndian.{little_endian_value}
use Rattle.dataset_tree.specs.declared.kinds.Format.{Format}
use Rattle.dataset_tree.specs.Tree.{row_of}
use Rattle.dataset_tree.specs.declared.refusal.Refusal.{Refusal as Why}
use Rattle.dataset_tree.specs.declared.refusal.Refusal.TheVariants.{WrongKey}
use Rattle.dataset_tree.specs.declared.refusal.Stop.{Stop}
use Rattle.dataset_tree.specs.declared.refusal.Stop.TheVariants as stops
use Rattle.encryption_roots.specs.declared.kit.Fetched.{Fetched}
use Rattle.encryption_roots.specs.declared.kit.LineKit.{LineKit}
use Rattle.encryption_roots.specs.declared.props.Options.{Options}
use Rattle.encryption_roots.specs.declared.props.Props.{Props}
use Rattle.encryption_roots.specs.ById.{at_id}
use Rattle.key_machine.specs.Change.{changed_format, changed_iters, changed_salt, changed_props}
use Rattle.salt_rotation.specs.Places.{salt_place}
use Rattle.key_machine.specs.Create.{is_passphrase}
use Rattle.key_machine.specs.Inherit.{row_above}
use Rattle.key_machine.specs.Load.{first_wrong}
use Rattle.key_machine.specs.Plain.{Plain, Ciphers, owner_of, owned}
use Rattle.key_machine.specs.Rekey.{fetched_old}
use Rattle.key_machine.specs.Told.{no_key, key_of, seed_of}
use Rattle.change_key.specs.declared.new_key.NewKey.{NewKey}

-- ---- the present key

-- a key, where no record is wrong under it
abbrev pub unless_wrong : List ℕ → Option ℕ → Result (List ℕ) Why
unless_wrong key None = Ok key
unless_wrong key (Some family) = Err (WrongKey family)

-- a fetched key of a root, where it opens each record that the root owns
abbrev pub tested_key : Ciphers → Plain → (root : ℕ) → Result (List ℕ) Why → Result (List ℕ) Why
tested_key c p root (Ok key) = unless_wrong key (first_wrong c key (owned p root))
tested_key c p root (Err why) = Err why

-- the loaded key of a root, else the fetched one
abbrev pub root_key_by : Ciphers → Plain → (root : ℕ) → Fetched → (loaded : Option (List ℕ)) → Result (List ℕ) Why
root_key_by c p root fetched (Some key) = Ok key
root_key_by c p root fetched None = tested_key c p root (fetched_old c (at_id root p.roots) fetched)

abbrev pub root_key : Ciphers → Plain → (root : ℕ) → Fetched → Result (List ℕ) Why
root_key c p root fetched = root_key_by c p root fetched (at_id root p.loaded)

-- the key of a dataset's present owner
abbrev pub key_of_owner : Ciphers → Plain → Option ℕ → Fetched → Result (List ℕ) Why
key_of_owner c p None fetched = Ok no_key
key_of_owner c p (Some root) fetched = root_key c p root fetched

abbrev pub present_key : Ciphers → Plain → ℕ → Fetched → Result (List ℕ) Why
present_key c p id fetched = key_of_owner c p (owner_of p id) fetched

-- a present key, where no record is told wrong under it
abbrev pub unless_told_wrong : Result (List ℕ) Why → (wrong : List ℕ → Option ℕ) → Result (List ℕ) Why
unless_told_wrong (Ok key) wrong = unless_wrong key (wrong key)
unless_told_wrong (Err why) wrong = Err why

-- ---- the key of a parent's owner, where it is loaded

abbrev pub loaded_above : Plain → ℕ → Option (List ℕ)
loaded_above p id =
    option_and_then (λ root. at_id root p.loaded)
    (option_and_then (λ parent. owner_of p parent.id) (row_above p (row_of id p.tree.rows)))

-- ---- the new key

-- the new key of a dataset with these properties, and the seed; the salt comes of the seed
abbrev pub new_key_of : Ciphers → Option Props → Options → LineKit → Result (List ℕ) Why
new_key_of c own opts kit =
    key_of c (changed_format own opts) (changed_iters own opts) (changed_salt c own opts (seed_of kit.seed)) kit.new_key

-- the salt of a key in this format
abbrev pub salt_for : Ciphers → Format → (seed : List ℕ) → ℕ
salt_for c format seed = if is_passphrase (Some format) then little_endian_value (c.seed_bytes seed salt_place 8) else 0

abbrev pub first_fault : (key seed : Result (List ℕ) Why) → Option Why
first_fault (Err why) seed = Some why
first_fault (Ok key) (Err why) = Some why
first_fault (Ok key) (Ok seed) = None

pub record IsNewKey (c : Ciphers) (own : Option Props) (opts : Options) (kit : LineKit) (new : NewKey) : Type 0 where
  pub seed : seed_of kit.seed ≡ Ok new.seed
  pub key : new_key_of c own opts kit ≡ Ok new.key
  pub props : new.props ≡ changed_props own opts (changed_salt c own opts (seed_of kit.seed))

-- A call is refused by this fault.
abbrev pub StopsAt : {T : Type 0} → Result T Stop → Option Why → Type 0
StopsAt (Ok _) fault = fault ≡ None
StopsAt (Err (stops.Refused why)) fault = fault ≡ Some why
StopsAt (Err stops.NoMemory) fault = Unit {0}
