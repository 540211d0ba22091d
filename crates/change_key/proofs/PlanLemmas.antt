-- What plans and refusals have in common.
use Rattle.std.proofs.Common.{◌≡◌, ℕ, ◌+◌, Bool, true, false, List, [], ◌∷◌, map, Option, Some, None, Result, Ok, Err, is_some, option_map, refl, ap, sym, ◌∙◌, subst}
use Rattle.dataset_tree.specs.declared.refusal.Refusal.{Refusal}
use Rattle.dataset_tree.specs.declared.refusal.Refusal.TheVariants.{WrongKey}
use Rattle.dataset_tree.specs.declared.refusal.Stop.{Stop}
use Rattle.dataset_tree.specs.declared.refusal.Stop.TheVariants as stops
use Rattle.dataset_tree.specs.Refusal.{Gives}
use Rattle.dataset_tree.specs.Tree.{Datasets, id_named}
use Rattle.encryption_roots.specs.declared.props.Props.{Props}
use Rattle.encryption_roots.specs.ById.{at_id}
use Rattle.std.specs.List.{filter}
use Rattle.key_machine.specs.declared.view.ChangePlan.{ChangePlan}
use Rattle.key_machine.specs.Plain.{Plain, Stored, is_same}
use Rattle.key_machine.specs.Plan.{set_id, planned}
use Rattle.key_machine.specs.Refusals.{first_refusal}
use Rattle.key_machine.specs.Rekey.{with_record}
use Rattle.key_machine.specs.Reply.{Reply, Refused}
use Rattle.key_machine.proofs.KeyLists.{at_id-dropped}
use Rattle.key_machine.proofs.RekeyRecords.{there_alike}
use Rattle.change_key.specs.declared.new_key.NewKey.{NewKey}
use Rattle.change_key.specs.Keys.{unless_wrong, unless_told_wrong, StopsAt}
use Rattle.key_ciphers.specs.Calls.{AnswersDone}

-- ---- the planned state by a plan's parts

abbrev pub plan_state : Plain → ℕ → Option Props → Option (List ℕ) → List (ℕ × List ℕ) → Plain
plan_state p root props key records = record p {
  roots = set_id root props p.roots;
  wrapped = map (λ entry. (entry.0, with_record records entry)) p.wrapped;
  loaded = set_id root key p.loaded;
}

pub planned_is : (p : Plain) (plan : ChangePlan) (root : ℕ) (props : Option Props) (key : Option (List ℕ)) (records : List (ℕ × List ℕ)) → plan.root ≡ root → plan.props ≡ props → plan.key ≡ key
    → plan.wrapped.items ≡ records → planned p plan ≡ plan_state p root props key records
planned_is p plan root props key records root_is props_is key_is records_are =
    ap (λ (r : ℕ). plan_state p r plan.props plan.key plan.wrapped.items) root_is
    ∙ ap (λ (o : Option Props). plan_state p root o plan.key plan.wrapped.items) props_is
    ∙ ap (λ (k : Option (List ℕ)). plan_state p root props k plan.wrapped.items) key_is
    ∙ ap (λ (w : List (ℕ × List ℕ)). plan_state p root props key w) records_are

none_there : {X : Type 0} (found : Option X) → is_some found ≡ false → found ≡ None
none_there None h = refl
none_there (Some x) h = absurd (cc)

-- a plan has no record of a family that the root doesn't own
pub no_record : (owns : ℕ → Bool) (records : List (ℕ × List ℕ)) (stored : List (ℕ × Stored)) → map (λ entry. entry.0) records ≡ map (λ entry. entry.0) (filter (λ entry. owns entry.0) stored)
    → (at : ℕ) → owns at ≡ false → at_id at records ≡ None
no_record owns records stored same at other =
    none_there (at_id at records) (there_alike at records (filter (λ entry. owns entry.0) stored) same ∙ ap (λ (o : Option Stored). is_some o) (at_id-dropped owns at stored other))

-- ---- answers

pub answers_gives : (stop : Stop) (outcome : Result (List ℕ) Refusal) (reply : Reply) → Gives {T = List ℕ} (Err stop) outcome → ((why : Refusal) → outcome ≡ Err why → reply ≡ Refused why) → AnswersDone {T = ChangePlan} (Err stop) reply
answers_gives (stops.Refused why) outcome reply gives each = each why gives
answers_gives stops.NoMemory outcome reply gives each = tt

pub answers_fault : (stop : Stop) (fault : Option Refusal) (reply : Reply) → StopsAt {T = ChangePlan} (Err stop) fault → ((why : Refusal) → fault ≡ Some why → reply ≡ Refused why) → AnswersDone {T = ChangePlan} (Err stop) reply
answers_fault (stops.Refused why) fault reply stopped each = each why stopped
answers_fault stops.NoMemory fault reply stopped each = tt

pub stops_alike : (stop : Stop) (fault : Option Refusal) → StopsAt {T = NewKey} (Err stop) fault → StopsAt {T = ChangePlan} (Err stop) fault
stops_alike (stops.Refused why) fault stopped = stopped
stops_alike stops.NoMemory fault stopped = tt

-- ---- the first refusal

pub wrong_first : (key : List ℕ) (found : Option ℕ) (rest : List (Option Refusal)) (why : Refusal) → unless_wrong key found ≡ Err why → first_refusal (option_map (λ dataset. WrongKey dataset) found ∷ rest) ≡ Some why
wrong_first key None rest why told = absurd (cc)
wrong_first key (Some family) rest why told = let same : WrongKey family ≡ why = cc in ap (λ w. Some w) same

-- a key that was had and has no wrong record
pub key_had : (had : Result (List ℕ) Refusal) (wrong : List ℕ → Option ℕ) (old : List ℕ) → unless_told_wrong had wrong ≡ Ok old → (had ≡ Ok old) × (wrong old ≡ None)
key_had (Err why) wrong old told = absurd (cc)
key_had (Ok key) wrong old told = let both = by (wrong key) refl told in (ap (λ (k : List ℕ). Ok k) both.0, both.1) where
  by : (found : Option ℕ) → wrong key ≡ found → unless_wrong key found ≡ Ok old → (key ≡ old) × (wrong old ≡ None)
  by None is told = let same : key ≡ old = cc in (same, ap wrong (sym same) ∙ is)
  by (Some family) is told = absurd (cc)

-- ---- the dataset of a name

pub named : (p : Plain) (name : List ℕ) (tree : Datasets) (found : Option ℕ) (id : ℕ) → tree ≡ p.tree → found ≡ id_named name tree.rows → found ≡ Some id → id_named name p.tree.rows ≡ Some id
named p name tree found id tree_is found_is is = sym (found_is ∙ ap (λ (t : Datasets). id_named name t.rows) tree_is) ∙ is
