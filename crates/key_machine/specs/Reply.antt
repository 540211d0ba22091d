-- What a step answers.
use Rattle.std.specs.Prelude.{ℕ, Bool, List}
use Rattle.std.specs.declared.option.Option.{Option}
use Rattle.std.specs.declared.option.Option.TheVariants.{Some, None}
use Rattle.dataset_tree.specs.declared.refusal.Refusal.{Refusal}
use Rattle.key_machine.specs.Plain.{Plain}

-- The last two are no replies of a command: `Reaped` is that of a reap, and `Skipped` that of a rider's step.
pub data Reply : Type 0 where
  Done : Reply
  Made : (id : ℕ) → Reply
  Text : (text : List ℕ) → Reply
  Refused : (why : Refusal) → Reply
  Reaped : (dataset : ℕ) (dropped : Bool) → Reply
  Skipped : Reply

-- the state after a step, and the reply
pub record Stepped : Type 0 where
  pub state : Plain
  pub reply : Reply

abbrev pub refused : Plain → Refusal → Stepped
refused p why = record { state = p; reply = Refused why }

-- what is done, unless there is a refusal
abbrev pub unless_refused : Plain → Option Refusal → Stepped → Stepped
unless_refused p (Some why) done = refused p why
unless_refused p None done = done
