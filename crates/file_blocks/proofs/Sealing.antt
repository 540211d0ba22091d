-- What sealing and putting texts one after another leaves, over plain variables.
use Rattle.std.proofs.Common.{◌≡◌, ℕ, suc, ◌+◌, ◌-◌, ◌<◌, ◌≤◌, false, List, [], ◌∷◌, ◌++◌, length, map, take, drop, ◌==◌, get_or, refl, sym, ap, subst, ◌∙◌, arith, Option, Some, None, Ok, Err}
use Rattle.std.specs.Prelude.{min}
use Rattle.std.proofs.lemmas.Bool.{ne_eqb}
use Rattle.std.proofs.lemmas.List.{append_assoc, append-nil, length-append, length-map, length-take-le, take-append-drop, take_all}
use lib.Seq.{take-suc}
use Rattle.block_crypt.specs.Blocks.{KeyValue, sealed_block}
use Rattle.salt_rotation.specs.declared.salts.Drawn.{Drawn}
use Rattle.salt_rotation.specs.SaltState.{SaltState}
use Rattle.shelf_store.specs.ShelfState.{ShelfState, counted, after_calls}
use Rattle.indirect_macs.specs.declared.refs.BlockRef.{BlockRef}
use Rattle.indirect_macs.specs.declared.refs.MacError.{MacError}
use Rattle.indirect_macs.specs.declared.refs.MacError.TheVariants.{MacFailed, ShelfFault, Full, NoMemory}
use Rattle.indirect_macs.specs.Replaced.{with_blocks, IsTooMuch}
use Rattle.indirect_macs.specs.Steps.{Puts, PutEnded}
use Rattle.indirect_macs.proofs.Putting.{IsPut, put_all, put_front_of, next_address, sizes_kept, same_fault, too_much_front}
use Rattle.indirect_macs.proofs.RunMade.{whole_front}
use Rattle.indirect_macs.proofs.RunReading.{reads_none}
use Rattle.indirect_macs.proofs.RunLevels.{blocks_nothing, reads_put}
use Rattle.file_blocks.specs.Changes.{DrawnFor, HasSealed, Seals, after_draws, last_number, next_draw, ref_under, refs_to, sealed_texts, sealed_under}

-- ---- draws

pub no_draws : (salts : SaltState) → after_draws 0 salts ≡ salts
no_draws salts =
    let made : salts.made + 0 ≡ salts.made = omega arith in λ i. record salts { made = made i }

pub draws_twice : (n m : ℕ) (salts : SaltState) → after_draws m (after_draws n salts) ≡ after_draws (n + m) salts
draws_twice n m salts =
    let made : salts.made + n + m ≡ salts.made + (n + m) = omega arith in λ i. record salts { made = made i }

-- ---- sealed texts

pub length-sealed : (key : KeyValue) (salts : SaltState) (texts : List (List ℕ)) → length (sealed_texts key salts texts) ≡ length texts
unfolding sealed_texts
length-sealed key salts [] = refl
length-sealed key salts (text ∷ texts) = ap suc (length-sealed key (after_draws 1 salts) texts)

pub length-refs : (key : KeyValue) (salts : SaltState) (addr : ℕ) (texts : List (List ℕ)) → length (refs_to key salts addr texts) ≡ length texts
unfolding refs_to
length-refs key salts addr [] = refl
length-refs key salts addr (text ∷ texts) = ap suc (length-refs key (after_draws 1 salts) (addr + 1) texts)

pub sealed-append : (key : KeyValue) (salts : SaltState) (texts more : List (List ℕ))
    → sealed_texts key salts (texts ++ more) ≡ sealed_texts key salts texts ++ sealed_texts key (after_draws (length texts) salts) more
unfolding sealed_texts
sealed-append key salts [] more = ap (λ (s : SaltState). sealed_texts key s more) (sym (no_draws salts))
sealed-append key salts (text ∷ texts) more =
    let later : 1 + length texts ≡ suc (length texts) = omega arith in
    ap (λ (rest : List (List ℕ)). sealed_under key (next_draw salts) text ∷ rest)
    (sealed-append key (after_draws 1 salts) texts more
    ∙ ap (λ (s : SaltState). sealed_texts key (after_draws 1 salts) texts ++ sealed_texts key s more)
    (draws_twice 1 (length texts) salts ∙ ap (λ (n : ℕ). after_draws n salts) later))

pub sealed_last : (key : KeyValue) (salts : SaltState) (texts : List (List ℕ)) (text : List ℕ)
    → sealed_texts key salts (texts ++ text ∷ [])
    ≡ sealed_texts key salts texts ++ sealed_under key (next_draw (after_draws (length texts) salts)) text ∷ []
unfolding sealed_texts
sealed_last key salts texts text = sealed-append key salts texts (text ∷ [])

pub refs_last : (key : KeyValue) (salts : SaltState) (addr : ℕ) (texts : List (List ℕ)) (text : List ℕ)
    → refs_to key salts addr (texts ++ text ∷ [])
    ≡ refs_to key salts addr texts ++ Some (ref_under key (next_draw (after_draws (length texts) salts)) (addr + length texts) text) ∷ []
unfolding refs_to
refs_last key salts addr [] text =
    let at : addr + 0 ≡ addr = omega arith in
    sym (ap (λ (s : SaltState). Some (ref_under key (next_draw s) (addr + 0) text) ∷ []) (no_draws salts)
    ∙ ap (λ (a : ℕ). Some (ref_under key (next_draw salts) a text) ∷ []) at)
refs_last key salts addr (first ∷ texts) text =
    let later : 1 + length texts ≡ suc (length texts) = omega arith in
    let at : addr + 1 + length texts ≡ addr + suc (length texts) = omega arith in
    ap (λ (rest : List (Option BlockRef)). Some (ref_under key (next_draw salts) addr first) ∷ rest)
    (refs_last key (after_draws 1 salts) (addr + 1) texts text
    ∙ ap (λ (s : SaltState). refs_to key (after_draws 1 salts) (addr + 1) texts
    ++ Some (ref_under key (next_draw s) (addr + 1 + length texts) text) ∷ [])
    (draws_twice 1 (length texts) salts ∙ ap (λ (n : ℕ). after_draws n salts) later)
    ∙ ap (λ (a : ℕ). refs_to key (after_draws 1 salts) (addr + 1) texts
    ++ Some (ref_under key (next_draw (after_draws (suc (length texts)) salts)) a text) ∷ []) at)

pub sealed_size : (key : KeyValue) (salts : SaltState) (texts more : List (List ℕ))
    → length (sealed_texts key salts texts ++ more) ≡ length texts + length more
sealed_size key salts texts more =
    length-append (sealed_texts key salts texts) more ∙ ap (λ (n : ℕ). n + length more) (length-sealed key salts texts)

-- ---- one text

sealed_put : (key : KeyValue) (before : List (List ℕ)) (start old : ShelfState) (first salts : SaltState)
    → HasSealed key before start old first salts → IsPut 0 (sealed_texts key first before) start old
sealed_put key before start old first salts had = put_all 0 (sealed_texts key first before) start old had.puts

more_draws : (n draws : ℕ) (first salts left : SaltState) → salts ≡ after_draws n first → left ≡ after_draws draws salts
    → left ≡ after_draws (n + draws) first
more_draws n draws first salts left had drawn =
    drawn ∙ ap (after_draws draws) had ∙ draws_twice n draws first

-- where it comes to stand
pub sealed_address : (key : KeyValue) (before : List (List ℕ)) (start old : ShelfState) (first salts : SaltState)
    → HasSealed key before start old first salts → length old.sizes ≡ length start.sizes + length before
sealed_address key before start old first salts had =
    next_address 0 (sealed_texts key first before) start old (sealed_put key before start old first salts had)
    ∙ ap (λ (n : ℕ). length start.sizes + n) (length-sealed key first before)

-- of another type
pub puts_err : (X Y : Type 0) (whole : List (List ℕ)) (stop : MacError) (start new : ShelfState)
    → Puts {X = X} 0 whole (Err stop) start new → Puts {X = Y} 0 whole (Err stop) start new
puts_err X Y whole stop start new had = put_front_of {X = X} {Y = Y} 0 whole whole stop start new (whole_front whole) had

pub sealed_text : (key : KeyValue) (d next : Drawn) (text new mac : List ℕ) → sealed_block key d.salt d.iv text ≡ (new, mac) → d ≡ next
    → new ≡ sealed_under key next text
sealed_text key d next text new mac sealed same =
    sym (ap (λ (both : List ℕ × List ℕ). both.0) sealed) ∙ ap (λ (one : Drawn). sealed_under key one text) same

-- it wasn't drawn for
pub sealed_none : {X : Type 0} (key : KeyValue) (before : List (List ℕ)) (text : List ℕ) (stop : MacError) (start old : ShelfState) (first salts : SaltState)
    → stop ≡ NoMemory → HasSealed key before start old first salts
    → Seals {X = X} 0 (sealed_texts key first (before ++ text ∷ [])) (Err stop) start old first salts
sealed_none {X = X} key before text stop start old first salts is had =
    let put = sealed_put key before start old first salts had in
    let size : length (sealed_texts key first (before ++ text ∷ [])) ≡ length before + 1 =
    length-sealed key first (before ++ text ∷ []) ∙ length-append before (text ∷ []) in
    let front = length-sealed key first before in
    rw is (record {
      puts = record {
        calls = put.calls;
        put = sealed_texts key first before;
        rest = sealed_under key (next_draw (after_draws (length before) first)) text ∷ [];
        parts = sym (sealed_last key first before text);
        bound = omega (arith, put.bound, size, front);
        after = put.after;
        fault = sym put.quiet;
        ended = tt;
      };
      draws = length before;
      drawn = had.drawn;
      counted = record { low = omega (arith, size, front); high = omega (arith, size, front) };
      full = tt;
    })

-- it was drawn for, and not put
count_put : (calls : ℕ) (put : List (List ℕ)) (start new : ShelfState) → new ≡ after_calls calls (with_blocks put start)
    → length new.sizes ≡ length start.sizes + length put
count_put calls put start new after =
    ap (λ (s : ShelfState). length s.sizes) after ∙ ap length (sizes_kept calls (with_blocks put start))
    ∙ length-append start.sizes (map length put) ∙ ap (λ (n : ℕ). length start.sizes + n) (length-map put length)

pub drawn_full : (X : Type 0) (count put draws : ℕ) (stop : MacError) → draws ≡ min count (put + 1) → DrawnFor {X = X} count put draws (Err stop)
drawn_full X count put draws (MacFailed level place) is = tt
drawn_full X count put draws ShelfFault is = tt
drawn_full X count put draws Full is = is
drawn_full X count put draws NoMemory is = tt

ended_as : (X Y : Type 0) (rest : List (List ℕ)) (stop : MacError) (s : ShelfState) → PutEnded {X = X} rest (Err stop) s → PutEnded {X = Y} rest (Err stop) s
ended_as X Y rest (MacFailed level place) s ended = ended
ended_as X Y rest ShelfFault s ended = tt
ended_as X Y rest Full s ended = ended
ended_as X Y rest NoMemory s ended = tt

pub sealed_not : {X Y : Type 0} (key : KeyValue) (before : List (List ℕ)) (text : List ℕ) (stop : MacError) (start old new : ShelfState) (first salts left : SaltState)
    → HasSealed key before start old first salts → left ≡ after_draws 1 salts → new ≡ counted old
    → Puts {X = X} 0 (sealed_texts key first before ++ sealed_under key (next_draw salts) text ∷ []) (Err stop) start new
    → Seals {X = Y} 0 (sealed_texts key first (before ++ text ∷ [])) (Err stop) start new first left
sealed_not {X = X} {Y = Y} key before text stop start old new first salts left had drawn stays puts =
    let whole : sealed_texts key first before ++ sealed_under key (next_draw salts) text ∷ [] ≡ sealed_texts key first (before ++ text ∷ []) =
    ap (λ (s : SaltState). sealed_texts key first before ++ sealed_under key (next_draw s) text ∷ []) had.drawn ∙ sym (sealed_last key first before text) in
    let size : length (sealed_texts key first (before ++ text ∷ [])) ≡ length before + 1 =
    length-sealed key first (before ++ text ∷ []) ∙ length-append before (text ∷ []) in
    let same : length new.sizes ≡ length old.sizes = ap (λ (s : ShelfState). length s.sizes) stays in
    let count : length puts.put ≡ length before =
    omega (arith, count_put puts.calls puts.put start new puts.after, same, sealed_address key before start old first salts had) in
    let made : length before + 1 ≡ min (length (sealed_texts key first (before ++ text ∷ []))) (length puts.put + 1) = omega (arith, size, count) in
    record {
      puts = record {
        calls = puts.calls;
        put = puts.put;
        rest = puts.rest;
        parts = puts.parts ∙ whole;
        bound = subst (λ (w : List (List ℕ)). puts.calls ≤ 0 + length w) whole puts.bound;
        after = puts.after;
        fault = same_fault Y X stop ∙ puts.fault;
        ended = ended_as X Y puts.rest stop new puts.ended;
      };
      draws = length before + 1;
      drawn = more_draws (length before) 1 first salts left had.drawn drawn;
      counted = record { low = omega (arith, size, count); high = omega (arith, size, count) };
      full = drawn_full Y (length (sealed_texts key first (before ++ text ∷ []))) (length puts.put) (length before + 1) stop made;
    }

-- it was put
pub record IsSealed (key : KeyValue) (texts : List (List ℕ)) (start new : ShelfState) (first left : SaltState) : Type 0 where
  pub put : IsPut 0 (sealed_texts key first texts) start new
  pub drawn : left ≡ after_draws (length texts) first

no_blocks_left : (put rest whole : List (List ℕ)) → put ++ rest ≡ whole → rest ≡ [] → put ≡ whole
no_blocks_left put rest whole parts none = sym (append-nil put) ∙ ap (λ (r : List (List ℕ)). put ++ r) (sym none) ∙ parts

put_of : {X : Type 0} (whole : List (List ℕ)) (x : X) (start new : ShelfState) → Puts {X = X} 0 whole (Ok x) start new → IsPut 0 whole start new
put_of whole x start new had =
    record {
      calls = had.calls;
      bound = had.bound;
      after = had.after ∙ ap (λ (p : List (List ℕ)). after_calls had.calls (with_blocks p start)) (no_blocks_left had.put had.rest whole had.parts had.ended);
      quiet = sym had.fault;
    }

pub sealed_one : {X : Type 0} (key : KeyValue) (before : List (List ℕ)) (text : List ℕ) (x : X) (start old new : ShelfState) (first salts left : SaltState)
    → HasSealed key before start old first salts → left ≡ after_draws 1 salts
    → Puts {X = X} 0 (sealed_texts key first before ++ sealed_under key (next_draw salts) text ∷ []) (Ok x) start new
    → IsSealed key (before ++ text ∷ []) start new first left
sealed_one key before text x start old new first salts left had drawn puts =
    let whole : sealed_texts key first before ++ sealed_under key (next_draw salts) text ∷ [] ≡ sealed_texts key first (before ++ text ∷ []) =
    ap (λ (s : SaltState). sealed_texts key first before ++ sealed_under key (next_draw s) text ∷ []) had.drawn ∙ sym (sealed_last key first before text) in
    let size : length (before ++ text ∷ []) ≡ length before + 1 = length-append before (text ∷ []) in
    record {
      put = subst (λ (w : List (List ℕ)). IsPut 0 w start new) whole (put_of _ x start new puts);
      drawn = more_draws (length before) 1 first salts left had.drawn drawn ∙ ap (λ (n : ℕ). after_draws n first) (sym size);
    }

-- all texts are sealed and put, and it says so
pub seals_ok : {X : Type 0} (key : KeyValue) (texts : List (List ℕ)) (x : X) (start new : ShelfState) (first left : SaltState)
    → IsSealed key texts start new first left → Seals {X = X} 0 (sealed_texts key first texts) (Ok x) start new first left
seals_ok key texts x start new first left all =
    let size = length-sealed key first texts in
    record {
      puts = record {
        calls = all.put.calls;
        put = sealed_texts key first texts;
        rest = [];
        parts = append-nil (sealed_texts key first texts);
        bound = all.put.bound;
        after = all.put.after;
        fault = sym all.put.quiet;
        ended = refl;
      };
      draws = length texts;
      drawn = all.drawn;
      counted = record { low = omega (arith, size); high = omega (arith, size) };
      full = tt;
    }

-- or memory ran out behind
pub seals_no_memory : {X : Type 0} (key : KeyValue) (texts : List (List ℕ)) (stop : MacError) (start new : ShelfState) (first left : SaltState)
    → stop ≡ NoMemory → IsSealed key texts start new first left → Seals {X = X} 0 (sealed_texts key first texts) (Err stop) start new first left
seals_no_memory key texts stop start new first left is all =
    let size = length-sealed key first texts in
    rw is (record {
      puts = record {
        calls = all.put.calls;
        put = sealed_texts key first texts;
        rest = [];
        parts = append-nil (sealed_texts key first texts);
        bound = all.put.bound;
        after = all.put.after;
        fault = sym all.put.quiet;
        ended = tt;
      };
      draws = length texts;
      drawn = all.drawn;
      counted = record { low = omega (arith, size); high = omega (arith, size) };
      full = tt;
    })

-- ---- the texts so far

pub sealed_all : {X : Type 0} (key : KeyValue) (texts : List (List ℕ)) (x : X) (start new : ShelfState) (first left : SaltState)
    → Seals {X = X} 0 (sealed_texts key first texts) (Ok x) start new first left → IsSealed key texts start new first left
sealed_all key texts x start new first left seals =
    let size = length-sealed key first texts in
    let all = no_blocks_left seals.puts.put seals.puts.rest (sealed_texts key first texts) seals.puts.parts seals.puts.ended in
    let put : length seals.puts.put ≡ length texts = ap length all ∙ size in
    let draws : seals.draws ≡ length texts = omega (arith, put, size, seals.counted.low, seals.counted.high) in
    record {
      put = put_of (sealed_texts key first texts) x start new seals.puts;
      drawn = seals.drawn ∙ ap (λ (n : ℕ). after_draws n first) draws;
    }

pub has_sealed : (key : KeyValue) (texts : List (List ℕ)) (start new : ShelfState) (first left : SaltState)
    → IsSealed key texts start new first left → HasSealed key texts start new first left
has_sealed key texts start new first left all =
    record { puts = (seals_ok {X = Unit {0}} key texts tt start new first left all).puts; drawn = all.drawn }

pub is_sealed : (key : KeyValue) (texts : List (List ℕ)) (start new : ShelfState) (first left : SaltState)
    → HasSealed key texts start new first left → IsSealed key texts start new first left
is_sealed key texts start new first left had =
    record { put = sealed_put key texts start new first left had; drawn = had.drawn }

pub sealed_base : (key : KeyValue) (texts : List (List ℕ)) (start new : ShelfState) (first left : SaltState)
    → IsSealed key texts start new first left → length new.sizes ≡ length start.sizes + length texts
sealed_base key texts start new first left all = sealed_address key texts start new first left (has_sealed key texts start new first left all)

-- the first texts, so many
pub record SealedSoFar (key : KeyValue) (texts : List (List ℕ)) (at : ℕ) (refs : List (Option BlockRef)) (last : Option ℕ)
    (start now : ShelfState) (first salts : SaltState) : Type 0 where
  pub sealed : HasSealed key (take at texts) start now first salts
  pub to : refs ≡ refs_to key first (length start.sizes) (take at texts)
  pub number : last ≡ last_number first at

pub so_far_none : (key : KeyValue) (texts : List (List ℕ)) (refs : List (Option BlockRef)) (last : Option ℕ) (start : ShelfState) (first : SaltState)
    → refs ≡ [] → last ≡ None → SealedSoFar key texts 0 refs last start start first first
unfolding sealed_texts refs_to
so_far_none key texts refs last start first none no_last =
    record {
      sealed = record { puts = reads_put 0 start start (reads_none 0 start); drawn = sym (no_draws first) };
      to = none;
      number = no_last;
    }

one_further : (texts : List (List ℕ)) (at : ℕ) → at < length texts → take (at + 1) texts ≡ take at texts ++ get_or texts at [] ∷ []
one_further texts at within =
    let further : at + 1 ≡ suc at = omega arith in ap (λ (n : ℕ). take n texts) further ∙ take-suc texts at [] within

-- where the next comes to stand, and under which draw
pub so_far_address : (key : KeyValue) (texts : List (List ℕ)) (at : ℕ) (refs : List (Option BlockRef)) (last : Option ℕ) (start now : ShelfState) (first salts : SaltState)
    → SealedSoFar key texts at refs last start now first salts → at < length texts → length now.sizes ≡ length start.sizes + at
so_far_address key texts at refs last start now first salts so_far within =
    sealed_address key (take at texts) start now first salts so_far.sealed ∙ ap (λ (n : ℕ). length start.sizes + n) (length-take-le at texts (omega arith))

pub so_far_draws : (key : KeyValue) (texts : List (List ℕ)) (at : ℕ) (refs : List (Option BlockRef)) (last : Option ℕ) (start now : ShelfState) (first salts : SaltState)
    → SealedSoFar key texts at refs last start now first salts → at ≤ length texts → salts ≡ after_draws at first
so_far_draws key texts at refs last start now first salts so_far within =
    so_far.sealed.drawn ∙ ap (λ (n : ℕ). after_draws n first) (length-take-le at texts within)

last_of : (first salts : SaltState) (at : ℕ) → salts ≡ after_draws at first → Some (next_draw salts).number ≡ last_number first (at + 1)
last_of first salts at drawn =
    let some : (at + 1 == 0) ≡ false = ne_eqb (at + 1) 0 (λ e. omega (arith, e)) in
    let before : at + 1 - 1 ≡ at = omega arith in
    rw (some, before, drawn) refl

pub so_far_more : (key : KeyValue) (texts : List (List ℕ)) (at : ℕ) (refs more : List (Option BlockRef)) (last next : Option ℕ) (start now later : ShelfState) (first salts left : SaltState)
    → at < length texts → SealedSoFar key texts at refs last start now first salts
    → more ≡ refs ++ Some (ref_under key (next_draw salts) (length now.sizes) (get_or texts at [])) ∷ []
    → next ≡ Some (next_draw salts).number
    → Seals {X = Unit {0}} 0 (sealed_texts key first (take at texts ++ get_or texts at [] ∷ [])) (Ok tt) start later first left
    → SealedSoFar key texts (at + 1) more next start later first left
so_far_more key texts at refs more last next start now later first salts left within so_far added number seals =
    let drawn : salts ≡ after_draws at first = so_far_draws key texts at refs last start now first salts so_far (omega arith) in
    let size : length (take at texts) ≡ at = length-take-le at texts (omega arith) in
    let further = one_further texts at within in
    let here : refs_to key first (length start.sizes) (take at texts ++ get_or texts at [] ∷ [])
    ≡ refs_to key first (length start.sizes) (take at texts)
    ++ Some (ref_under key (next_draw (after_draws (length (take at texts)) first)) (length start.sizes + length (take at texts)) (get_or texts at [])) ∷ [] =
    refs_last key first (length start.sizes) (take at texts) (get_or texts at []) in
    let address = so_far_address key texts at refs last start now first salts so_far within in
    record {
      sealed = subst (λ (done : List (List ℕ)). HasSealed key done start later first left) (sym further)
          (has_sealed key _ start later first left (sealed_all key _ tt start later first left seals));
      to = added ∙ rw (further, here, size, so_far.to, drawn, address) refl;
      number = number ∙ last_of first salts at drawn;
    }

too_much_some : (rest : List (List ℕ)) (s : ShelfState) → IsTooMuch rest s → 1 ≤ length rest
too_much_some [] s much = absurd much
too_much_some (block ∷ rest) s much = omega arith

front_full : (X Y : Type 0) (few many put draws : ℕ) (rest : List (List ℕ)) (stop : MacError) (s : ShelfState) → few ≤ many → put + length rest ≡ few
    → PutEnded {X = X} rest (Err stop) s → DrawnFor {X = X} few put draws (Err stop) → DrawnFor {X = Y} many put draws (Err stop)
front_full X Y few many put draws rest (MacFailed level place) s less parts ended full = tt
front_full X Y few many put draws rest ShelfFault s less parts ended full = tt
front_full X Y few many put draws rest Full s less parts ended full =
    let some = too_much_some rest s ended in omega (arith, less, parts, some, full)
front_full X Y few many put draws rest NoMemory s less parts ended full = tt

pub ended_front : (X Y : Type 0) (rest more : List (List ℕ)) (stop : MacError) (s : ShelfState) → PutEnded {X = X} rest (Err stop) s → PutEnded {X = Y} (rest ++ more) (Err stop) s
ended_front X Y rest more (MacFailed level place) s ended = ended
ended_front X Y rest more ShelfFault s ended = tt
ended_front X Y rest more Full s ended = too_much_front rest more s ended
ended_front X Y rest more NoMemory s ended = tt

-- more would have been put behind
seals_front : {X Y : Type 0} (key : KeyValue) (front more : List (List ℕ)) (stop : MacError) (start new : ShelfState) (first left : SaltState)
    → Seals {X = X} 0 (sealed_texts key first front) (Err stop) start new first left
    → Seals {X = Y} 0 (sealed_texts key first (front ++ more)) (Err stop) start new first left
seals_front {X = X} {Y = Y} key front more stop start new first left had =
    let behind : List (List ℕ) = sealed_texts key (after_draws (length front) first) more in
    let whole : sealed_texts key first (front ++ more) ≡ sealed_texts key first front ++ behind = sealed-append key first front more in
    let size : length (sealed_texts key first (front ++ more)) ≡ length (sealed_texts key first front) + length behind =
    ap length whole ∙ length-append (sealed_texts key first front) behind in
    let parts : length had.puts.put + length had.puts.rest ≡ length (sealed_texts key first front) =
    sym (length-append had.puts.put had.puts.rest) ∙ ap length had.puts.parts in
    record {
      puts = record {
        calls = had.puts.calls;
        put = had.puts.put;
        rest = had.puts.rest ++ behind;
        parts = sym (append_assoc had.puts.put had.puts.rest behind) ∙ ap (λ (w : List (List ℕ)). w ++ behind) had.puts.parts ∙ sym whole;
        bound = omega (arith, had.puts.bound, size);
        after = had.puts.after;
        fault = same_fault Y X stop ∙ had.puts.fault;
        ended = ended_front X Y had.puts.rest behind stop new had.puts.ended;
      };
      draws = had.draws;
      drawn = had.drawn;
      counted = record { low = omega (arith, had.counted.low, size, parts); high = omega (arith, had.counted.high, size) };
      full = front_full X Y (length (sealed_texts key first front)) (length (sealed_texts key first (front ++ more))) (length had.puts.put) had.draws
          had.puts.rest stop new (omega (arith, size)) parts had.puts.ended had.full;
    }

pub so_far_stop : {X Y : Type 0} (key : KeyValue) (texts : List (List ℕ)) (at : ℕ) (stop : MacError) (start new : ShelfState) (first left : SaltState)
    → at < length texts
    → Seals {X = X} 0 (sealed_texts key first (take at texts ++ get_or texts at [] ∷ [])) (Err stop) start new first left
    → Seals {X = Y} 0 (sealed_texts key first texts) (Err stop) start new first left
so_far_stop {X = X} {Y = Y} key texts at stop start new first left within seals =
    let whole : take (at + 1) texts ++ drop (at + 1) texts ≡ texts = take-append-drop (at + 1) texts in
    subst (λ (w : List (List ℕ)). Seals {X = Y} 0 (sealed_texts key first w) (Err stop) start new first left)
    (ap (λ (front : List (List ℕ)). front ++ drop (at + 1) texts) (sym (one_further texts at within)) ∙ whole)
    (seals_front {X = X} {Y = Y} key (take at texts ++ get_or texts at [] ∷ []) (drop (at + 1) texts) stop start new first left seals)

-- all of them
pub so_far_all : {X : Type 0} (key : KeyValue) (texts : List (List ℕ)) (at : ℕ) (refs : List (Option BlockRef)) (last : Option ℕ) (x : X) (start now : ShelfState) (first salts : SaltState)
    → at ≡ length texts → SealedSoFar key texts at refs last start now first salts
    → Seals {X = X} 0 (sealed_texts key first texts) (Ok x) start now first salts
so_far_all {X = X} key texts at refs last x start now first salts done so_far =
    subst (λ (w : List (List ℕ)). Seals {X = X} 0 (sealed_texts key first w) (Ok x) start now first salts) (take_all at texts (omega (arith, done)))
    (seals_ok key (take at texts) x start now first salts (is_sealed key (take at texts) start now first salts so_far.sealed))

pub so_far_refs : (key : KeyValue) (texts : List (List ℕ)) (at : ℕ) (refs : List (Option BlockRef)) (last : Option ℕ) (start now : ShelfState) (first salts : SaltState)
    → at ≡ length texts → SealedSoFar key texts at refs last start now first salts → refs ≡ refs_to key first (length start.sizes) texts
so_far_refs key texts at refs last start now first salts done so_far =
    so_far.to ∙ ap (refs_to key first (length start.sizes)) (take_all at texts (omega (arith, done)))

pub so_far_number : (key : KeyValue) (texts : List (List ℕ)) (at : ℕ) (refs : List (Option BlockRef)) (last : Option ℕ) (start now : ShelfState) (first salts : SaltState)
    → at ≡ length texts → SealedSoFar key texts at refs last start now first salts → last ≡ last_number first (length texts)
so_far_number key texts at refs last start now first salts done so_far = so_far.number ∙ ap (last_number first) done

-- nothing was begun
pub seals_nothing : {X : Type 0} (key : KeyValue) (texts : List (List ℕ)) (stop : MacError) (start : ShelfState) (first : SaltState)
    → stop ≡ NoMemory → Seals {X = X} 0 (sealed_texts key first texts) (Err stop) start start first first
seals_nothing {X = X} key texts stop start first is =
    rw is (record {
      puts = record {
        calls = 0;
        put = [];
        rest = sealed_texts key first texts;
        parts = refl;
        bound = omega arith;
        after = sym (blocks_nothing start);
        fault = refl;
        ended = tt;
      };
      draws = 0;
      drawn = sym (no_draws first);
      counted = record { low = omega arith; high = omega arith };
      full = tt;
    })
