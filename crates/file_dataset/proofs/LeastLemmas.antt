-- The first place that fails in a range, over plain variables.
use Rattle.std.proofs.Common.{◌≡◌, ℕ, ◌+◌, ◌<◌, ◌≤◌, List, refl, ap, ◌∙◌, Option, Result, Ok, Err}
use Rattle.std.specs.Prelude.{min}
use Rattle.std.specs.Result.{result_map_both}
use Rattle.dataset_tree.specs.declared.refusal.Refusal.{Refusal}
use Rattle.dataset_tree.specs.declared.refusal.Refusal.TheVariants as refusals
use Rattle.block_crypt.specs.Blocks.{KeyValue}
use Rattle.indirect_macs.specs.declared.refs.MacError.{MacError}
use Rattle.indirect_macs.specs.Walk.{place_of}
use Rattle.family_log.specs.declared.table.TableRow.{TableRow}
use Rattle.file_blocks.specs.Objects.{count_touched, first_touched, object_range, part_of, texts_at}
use Rattle.file_blocks.specs.Places.{FailsFirst}
use Rattle.file_blocks.proofs.Least.{found_first, text_stops, least_place, some_fails}
use Rattle.file_dataset.specs.Least.{IsFirstFailing}
use Rattle.file_dataset.specs.Reads.{in_object, refused_in, row_range}

module _ (key : KeyValue) (held : List (List ℕ)) (record_size : ℕ) (row : TableRow) (from len : ℕ) where
  abbrev start : ℕ
  start = min from row.length

  abbrev end : ℕ
  end = min (from + len) row.length

  abbrev Refused : Refusal → Type 0
  Refused why =
      (level : ℕ) × (place : ℕ) × (why ≡ refusals.MacFailed row.object level place)
      × IsFirstFailing key held record_size row.tree (first_touched record_size start) (count_touched record_size start end) level place

  pub range_refused : (why : Refusal) → row_range key held record_size row from len ≡ Err why → Refused why
  unfolding object_range
  range_refused why is =
      by_texts (texts_at key held record_size row.tree (first_touched record_size start) (count_touched record_size start end)) refl is
    where
      by_texts : (texts : Result (List (Option (List ℕ))) MacError)
          → texts_at key held record_size row.tree (first_touched record_size start) (count_touched record_size start end) ≡ texts
          → in_object row.object (result_map_both (part_of record_size start end) (λ failed. failed) texts) ≡ Err why → Refused why
      by_texts (Ok texts) same is = absurd (cc)
      by_texts (Err failed) same is =
          let one = found_first key held record_size row.tree (first_touched record_size start) (count_touched record_size start end) failed same in
          let own = text_stops key held record_size row.tree one.index failed one.stops in
          let told : why ≡ refused_in row.object failed = cc in (
            own.level,
            place_of own.level one.index,
            told ∙ ap (refused_in row.object) own.is,
            record {
              index = one.index;
              low = one.low;
              high = one.high;
              covers = refl;
              fails = own.fails;
              least = λ other below low high fails.
                  least_place key held record_size row.tree (first_touched record_size start) (count_touched record_size start end) own.level
                  (place_of own.level one.index) other below (same ∙ ap (λ (f : MacError). let r : Result (List (Option (List ℕ))) MacError = Err f in r) own.is) low high fails;
            },
          )

  pub range_fails : (index level : ℕ) → first_touched record_size start ≤ index
      → index < first_touched record_size start + count_touched record_size start end → FailsFirst key held record_size row.tree index level
      → (why : Refusal) × (row_range key held record_size row from len ≡ Err why)
  unfolding object_range
  range_fails index level low high fails =
      let one = some_fails key held record_size row.tree (first_touched record_size start) (count_touched record_size start end) index level low high fails in
      (refused_in row.object one.0, rw one.1 refl)
