-- What is said of a change or an inherit: what it leaves, and which record it names.
use Rattle.std.specs.Prelude.{◌≡◌, ◌≢◌, ℕ, Bool, true, List, ◌∷◌, ◌++◌, is_some, Ok}
use Rattle.std.specs.declared.option.Option.{Option}
use Rattle.std.specs.declared.option.Option.TheVariants.{Some, None}
use Rattle.std.specs.Option.{option_map}
use Rattle.std.specs.List.{All}
use Rattle.encryption_roots.specs.declared.kit.LineKit.{LineKit}
use Rattle.encryption_roots.specs.declared.props.Props.{Props}
use Rattle.encryption_roots.specs.ById.{at_id}
use Rattle.key_machine.specs.Plain.{Plain, Stored, Ciphers, owner_of, owned}
use Rattle.key_machine.specs.Rekey.{fetches_old, old_key}

-- The dataset has these properties as a root, or is none, and has this key loaded, or none. Of the
-- rest of the state only records differ: those of the families that this owner owns are the told
-- ones, where there are such, and keep their record sizes.
pub record IsRekeyed (p after : Plain) (id : ℕ) (props : Option Props) (key : Option (List ℕ))
    (owner : ℕ → Option ℕ) (records : List (ℕ × List ℕ)) : Type 0 where
  pub root : at_id id after.roots ≡ props
  pub roots : (other : ℕ) → other ≢ id → at_id other after.roots ≡ at_id other p.roots
  pub loaded : at_id id after.loaded ≡ key
  pub loaded_others : (other : ℕ) → other ≢ id → at_id other after.loaded ≡ at_id other p.loaded
  pub written : (of : ℕ) (stored : Stored) (wrapped : List ℕ) → owner of ≡ Some id
      → at_id of p.wrapped ≡ Some stored → at_id of records ≡ Some wrapped
      → at_id of after.wrapped ≡ Some (record { wrapped = wrapped; block = stored.block })
  pub unwritten : (of : ℕ) → (owner of ≡ Some id → ⊥) → at_id of after.wrapped ≡ at_id of p.wrapped
  pub sizes : (of : ℕ) → option_map (λ stored. stored.block) (at_id of after.wrapped)
      ≡ option_map (λ stored. stored.block) (at_id of p.wrapped)
  pub rest : after ≡ record p { roots = after.roots; wrapped = after.wrapped; loaded = after.loaded }

-- The present owner's key was fetched. Of the records of the owner's families, in order of id, those
-- before this family's open under it, and this one doesn't.
pub record IsFirstWrong (c : Ciphers) (p : Plain) (found : Option ℕ) (load_first : Bool) (kit : LineKit)
    (family : ℕ) : Type 0 where
  pub id : ℕ
  pub root : ℕ
  pub key : List ℕ
  pub target : found ≡ Some id
  pub fetches : fetches_old p id load_first ≡ true
  pub owner : owner_of p id ≡ Some root
  pub fetched : old_key c p id load_first kit.old_key ≡ Ok key
  pub before : List (ℕ × Stored)
  pub stored : Stored
  pub behind : List (ℕ × Stored)
  pub families : owned p root ≡ before ++ (family, stored) ∷ behind
  pub opened : All (λ entry. is_some (c.opens entry.1.wrapped key) ≡ true) before
  pub wrong : c.opens stored.wrapped key ≡ None
