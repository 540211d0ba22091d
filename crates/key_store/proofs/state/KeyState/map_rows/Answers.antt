use Rattle.std.proofs.Common.{◌<◌, ◌+◌, ℕ, List, [], ◌∷◌, ◌++◌, length, take, get_or, sym, ◌∙◌, subst, arith}
use Rattle.std.proofs.lemmas.List.{take_more}
use Rattle.mapping_words.specs.Told.{Told}
use Rattle.key_machine.specs.Plain.{Plain}
use Rattle.key_store.specs.Agrees.{Agrees}
use Rattle.key_store.specs.Counts.{ShowsMapping, ShowsMappings}
use Rattle.key_store.proofs.CountLemmas.{more_shown}
use Rattle.key_store.proofs.state.KeyState.map_rows.Goals as goal

pub map_row-row-requires-clause-agrees : goal.map_row-row-requires-clause-agrees
map_row-row-requires-clause-agrees g c = subst (λ (t : Told). Agrees t c.args.self.now) (sym c.loop-mapping.invariant.1) c.requires.agrees

pub map_row-row-requires-clause-fits : goal.map_row-row-requires-clause-fits
map_row-row-requires-clause-fits g c = c.loop-mapping.invariant.2

pub loop-mapping-preserved : goal.loop-mapping-preserved
loop-mapping-preserved g c =
    let now : Plain = c.args.self.now in
    let i : ℕ = c.loop-mapping.mapping-index in
    let all : List (ℕ × ℕ) = c.args.mapped.now in
    let within : i < length all = omega arith in
    let mapping : ℕ × ℕ = get_or all i (0, 0) in
    let row : ℕ × ℕ × ℕ = c.map_row-row.result in
    let shown : ShowsMapping g.K.SlotKeeper.tells now mapping row = c.map_row-row.ensures.shown in
    let front : List (ℕ × ℕ) = take i all in (
      subst (λ (rows : List (ℕ × ℕ × ℕ)). ShowsMappings g.K.SlotKeeper.tells now (take (i + 1) all) rows) (sym c.in_ok-push.ensures.items)
          (subst (λ (m : List (ℕ × ℕ)). ShowsMappings g.K.SlotKeeper.tells now m (c.loop-mapping.maps.items ++ row ∷ [])) (sym (take_more all i (0, 0) within))
          (more_shown g.K.SlotKeeper.tells now front c.loop-mapping.maps.items mapping row c.loop-mapping.invariant.0 shown)),
      c.map_row-row.ensures.told ∙ c.loop-mapping.invariant.1,
      c.map_row-row.ensures.fits,
    )
