-- What a host keeps, but for the heads of its families.
use Rattle.std.proofs.Common.{◌≡◌, ℕ, ◌≤◌, Bool, true, List, IfSome}
use Rattle.dataset_tree.specs.declared.tree.Row.{Row as Dataset}
use Rattle.encryption_roots.specs.ById.{IsRisingById, at_id}
use Rattle.family_log.specs.Model.{FamilyState}
use Rattle.file_dataset.specs.Steady.{IsSteady}
use Rattle.key_machine.specs.Plain.{Plain}
use Rattle.snap_clone.specs.Ids.{IsUpTo}
use Rattle.host_state.specs.Hosts.{HasDatasets, IsHost, by_id, facts_of_family, facts_of_record}

pub record Pairs (tells : Bool) (keys : Plain) (families : List (ℕ × FamilyState)) (limit : ℕ) : Type 0 where
  pub rising : IsRisingById families
  pub paired : by_id facts_of_family families ≡ by_id facts_of_record keys.wrapped
  pub steady : tells ≡ true → (id : ℕ) → IfSome (at_id id families) IsSteady
  pub up_to : (id : ℕ) → IfSome (at_id id families) (IsUpTo keys.tree.last)
  pub least : 1 ≤ limit
  pub most : limit ≤ 400000000

abbrev pub Heads : List Dataset → List (ℕ × FamilyState) → Type 0
Heads rows families = (of : ℕ) → IfSome (at_id of families) (HasDatasets rows of)

pub pairs : {tells : Bool} {keys : Plain} {families : List (ℕ × FamilyState)} {limit : ℕ} → IsHost tells keys families limit → Pairs tells keys families limit
pairs host = record { rising = host.rising; paired = host.paired; steady = host.steady; up_to = host.up_to; least = host.least; most = host.most }

pub whole : {tells : Bool} {keys : Plain} {families : List (ℕ × FamilyState)} {limit : ℕ} → Pairs tells keys families limit → Heads keys.tree.rows families → IsHost tells keys families limit
whole part heads = record { rising = part.rising; paired = part.paired; steady = part.steady; up_to = part.up_to; datasets = heads; least = part.least; most = part.most }
