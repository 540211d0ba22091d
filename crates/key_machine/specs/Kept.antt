-- What a mapping keeps from one state to another.
use Rattle.std.specs.Prelude.{◌≡◌, ℕ, true}
use Rattle.std.specs.declared.option.Option.TheVariants.{Some}
use Rattle.encryption_roots.specs.ById.{at_id}
use Rattle.encryption_roots.specs.Owners.{family}
use Rattle.key_machine.specs.Plain.{Plain, Ciphers, owner_of, has_key, mkey}
use Rattle.key_machine.specs.Users.{generation_of}

-- The dataset stays mapped on the slot, under the same generation; its owner and its family stay, and so does
-- the master key that is read by them.
pub record KeepsKey (c : Ciphers) (p q : Plain) (id slot : ℕ) : Type 0 where
  pub mapped : at_id id q.mapped ≡ Some slot
  pub generation : generation_of q slot ≡ generation_of p slot
  pub owner : owner_of q id ≡ owner_of p id
  pub key : has_key q id ≡ has_key p id
  pub of_family : family q.tree.rows id ≡ family p.tree.rows id
  pub master : mkey c q (family q.tree.rows id) ≡ mkey c p (family p.tree.rows id)

-- The dataset stays mapped on the slot, under the same generation; its family stays, its owner, which may be
-- another one, has its key loaded, and the family's master key is the same.
pub record KeepsMaster (c : Ciphers) (p q : Plain) (id slot : ℕ) : Type 0 where
  pub mapped : at_id id q.mapped ≡ Some slot
  pub generation : generation_of q slot ≡ generation_of p slot
  pub of_family : family q.tree.rows id ≡ family p.tree.rows id
  pub key : has_key q id ≡ true
  pub master : mkey c q (family q.tree.rows id) ≡ mkey c p (family p.tree.rows id)
