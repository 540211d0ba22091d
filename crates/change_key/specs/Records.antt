-- Records of families, by the families' ids.
use Rattle.std.specs.Prelude.{ℕ, ◌+◌, Bool, List, [], ◌∷◌, is_some}
use Rattle.std.specs.declared.option.Option.{Option}
use Rattle.std.specs.declared.option.Option.TheVariants.{Some, None}
use Rattle.std.specs.Option.{option_and_then, option_map}
use Rattle.encryption_roots.specs.ById.{at_id}
use Rattle.salt_rotation.specs.Places.{vector_place}
use Rattle.key_machine.specs.Plain.{Plain, Master, Ciphers}

-- the master key to which a family's record opens
abbrev pub opened_in : Ciphers → Plain → (key : List ℕ) → ℕ → Option Master
opened_in c p key family =
    option_and_then (λ wrapped. c.opens wrapped key) (option_map (λ stored. stored.wrapped) (at_id family p.wrapped))

abbrev pub opens_in : Ciphers → Plain → (key : List ℕ) → ℕ → Bool
opens_in c p key family = is_some (opened_in c p key family)

-- its record under another key
abbrev pub sealed_from : Ciphers → (new vector : List ℕ) → Option Master → List ℕ
sealed_from c new vector None = []
sealed_from c new vector (Some master) = c.record_of master new vector

abbrev pub sealed_in : Ciphers → Plain → (old new vector : List ℕ) → ℕ → List ℕ
sealed_in c p old new vector family = sealed_from c new vector (opened_in c p old family)

-- that with the vector of a number
abbrev pub anew : Ciphers → Plain → (seed old new : List ℕ) → (number family : ℕ) → ℕ × List ℕ
anew c p seed old new number family =
    (family, sealed_in c p old new (c.seed_bytes seed (vector_place number) 12) family)

-- what is made of each of these ids and its number, from this one on
abbrev pub numbered : {X : Type 0} → (ℕ → ℕ → X) → ℕ → List ℕ → List X
numbered make number [] = []
numbered make number (id ∷ ids) = make number id ∷ numbered make (number + 1) ids
