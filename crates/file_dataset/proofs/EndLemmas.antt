-- The entry of a call that ended without its answer, over plain variables.
use Rattle.std.proofs.Common.{◌≡◌, ℕ, ◌-◌, min, length, refl, ap, ◌∙◌, inl, inr, Some, Err}
use Rattle.std.specs.Prelude.{◌⊎◌}
use Rattle.dataset_tree.specs.declared.refusal.Refusal.TheVariants as refusals
use Rattle.dataset_tree.specs.declared.refusal.Stop.{Stop}
use Rattle.dataset_tree.specs.declared.refusal.Stop.TheVariants as stops
use Rattle.family_log.specs.declared.entry.Spot.{Spot}
use Rattle.family_log.specs.declared.entry.LogEntry.TheVariants as entries
use Rattle.family_log.specs.declared.entry.ReadNote.{ReadNote}
use Rattle.family_log.specs.declared.entry.ReadNote.TheVariants as notes
use Rattle.family_log.specs.Log.{head_spot}
use Rattle.family_log.specs.Model.{FamilyState}
use Rattle.family_log.specs.Calls.{with_entry}
use Rattle.family_log.specs.Noted.{noted}
use Rattle.file_dataset.specs.declared.halt.Halt.{Halt}
use Rattle.file_dataset.specs.declared.halt.Halt.TheVariants as halts
use Rattle.file_dataset.specs.declared.limits.TheConstants.{MAX_PUTS}
use Rattle.file_dataset.specs.ChangeSteps.{IsEnded, change_note}
use Rattle.file_dataset.specs.Steps.{stop_of}

pub halt_ended : (spot : Spot) (before : ℕ × ℕ) (halt : Halt) (note : ReadNote) (draws puts : ℕ) (stop result : Stop)
    (old new : FamilyState) → spot ≡ head_spot spot.head → draws ≡ old.salts.made - before.0
    → puts ≡ length old.shelf.sizes - before.1 → Some note ≡ change_note halt draws puts → stop ≡ stop_of halt
    → ((result ≡ stop) × (new ≡ with_entry (noted spot note) old)) ⊎ ((result ≡ stops.NoMemory) × (new ≡ old))
    → IsEnded spot.head before (Err halt) (Err result) old new
halt_ended spot before halt note draws puts stop result old new own drawn put is stops_so (inr none) = inr (rw none.0 refl, none.1)
halt_ended spot before (halts.Refused why) note draws puts stop result old new own drawn put is stops_so (inl entry) =
    let e : note ≡ notes.Refused why 0 0 = cc in
    let r : result ≡ stops.Refused why = entry.0 ∙ stops_so in
    inl (rw r refl, entry.1 ∙ rw e (ap (λ (s : Spot). with_entry (entries.Refused s why 0 0) old) own))
halt_ended spot before halts.ShelfFault note draws puts stop result old new own drawn put is stops_so (inl entry) =
    let e : note ≡ notes.Refused refusals.ShelfFault draws (min puts MAX_PUTS) = cc in
    let r : result ≡ stops.Refused refusals.ShelfFault = entry.0 ∙ stops_so in
    inl (
      rw r refl,
      entry.1 ∙ rw (e, drawn, put)
          (ap
          (λ (s : Spot).
          with_entry (entries.Refused s refusals.ShelfFault (old.salts.made - before.0) (min (length old.shelf.sizes - before.1) MAX_PUTS)) old)
          own),
    )
halt_ended spot before halts.NoMemory note draws puts stop result old new own drawn put is stops_so (inl entry) = absurd (cc)
