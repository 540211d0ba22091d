-- What `counts` shows: live users, by id.
use Rattle.std.specs.Prelude.{ℕ, Bool, not, ◌==◌, List, map}
use Rattle.std.specs.List.{filter}
use Rattle.key_machine.specs.Plain.{Plain}
use Rattle.key_machine.specs.Users.{generation_of, users_of, mkey_users, wkey_users}

-- the families' master keys that are opened are those with a live user
abbrev pub is_opened : Plain → ℕ → Bool
is_opened p family = not (mkey_users p family == 0)

-- Loaded roots with the users of their wrapping keys, families whose master key is opened with its users, and
-- mapped datasets with the users and the generation of their mapping.
pub record Counted : Type 0 where
  pub wkeys : List (ℕ × ℕ)
  pub mkeys : List (ℕ × ℕ)
  pub maps : List (ℕ × ℕ × ℕ)

-- each list in rising order of id, as those of the state are
abbrev pub counts : Plain → Counted
counts p = record {
  wkeys = map (λ entry. (entry.0, wkey_users p entry.0)) p.loaded;
  mkeys = map (λ entry. (entry.0, mkey_users p entry.0)) (filter (λ entry. is_opened p entry.0) p.wrapped);
  maps = map (λ mapping. (mapping.0, users_of p mapping, generation_of p mapping.1)) p.mapped;
}
