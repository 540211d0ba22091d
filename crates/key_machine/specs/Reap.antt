-- A reap: a dataset's mapping goes where it has no live user. It is no command; one who gave up a use of the
-- mapping reaps it.
use Rattle.std.specs.Prelude.{ℕ, true, false, if◌then◌else◌}
use Rattle.std.specs.declared.option.Option.{Option}
use Rattle.std.specs.declared.option.Option.TheVariants.{Some, None}
use Rattle.std.specs.Option.{option_and_then}
use Rattle.encryption_roots.specs.ById.{at_id, without_id}
use Rattle.key_machine.specs.Plain.{Plain}
use Rattle.key_machine.specs.Reply.{Stepped, Reaped}
use Rattle.key_machine.specs.Unload.{InUse}
use Rattle.key_machine.specs.Users.{users_of, is_used}

-- what the close of a dataset's own mapping finds by the plain state's own users
abbrev pub mapping_in_use : Plain → ℕ → ℕ → Option InUse
mapping_in_use p dataset slot =
    if is_used p (dataset, slot) then Some (record { dataset = dataset; count = users_of p (dataset, slot) }) else None

abbrev pub own_in_use : Plain → ℕ → Option InUse
own_in_use p dataset = option_and_then (mapping_in_use p dataset) (at_id dataset p.mapped)

-- the state in which the dataset isn't mapped
abbrev pub without_mapping : Plain → ℕ → Plain
without_mapping p dataset = record p { mapped = without_id dataset p.mapped }

-- Where the dataset is mapped its mapping is closed, which fails where that is found in use.
abbrev pub reaped : Plain → ℕ → Option ℕ → Option InUse → Stepped
reaped p dataset None found = record { state = p; reply = Reaped dataset false }
reaped p dataset (Some slot) None = record { state = without_mapping p dataset; reply = Reaped dataset true }
reaped p dataset (Some slot) (Some busy) = record { state = p; reply = Reaped dataset false }

-- the reap of a dataset whose close found this, or nothing, in use
abbrev pub reap_found : Option InUse → Plain → ℕ → Stepped
reap_found found p dataset = reaped p dataset (at_id dataset p.mapped) found

-- the reap of a plain state's dataset
abbrev pub reap_step : Plain → ℕ → Stepped
reap_step p dataset = reap_found (own_in_use p dataset) p dataset
