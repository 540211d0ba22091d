-- Options in any order, each kind at most once, are read as the table has them.
use Rattle.std.proofs.Common.{◌≡◌, ◌≢◌, ◌||◌, ◌&&◌, not, ℕ, Option, Some, None, inl, inr, Bool, true, false, List, [], ◌∷◌, ◌++◌, get_or, Err, refl, sym, ◌∙◌, ap, subst, arith}
use Rattle.std.specs.List.{All}
use Rattle.std.specs.Str.{bytes_eq}
use Rattle.std.proofs.lemmas.List.{append_assoc, append-nil}
use Rattle.std.proofs.lemmas.List.Elements.{All-head, All-tail, All-cons}
use Rattle.std.proofs.lemmas.List.Folds.{list_any_none, list_any_at, list_any-append, Any-from_list_any}
use Rattle.std.proofs.lemmas.Slice.Eq.{bytes_eq-Decides}
use Rattle.shell_lines.specs.declared.line.Line.{Line}
use Rattle.shell_lines.specs.declared.setting.OptionKind.{OptionKind}
use Rattle.shell_lines.specs.declared.setting.Setting.{Setting}
use Rattle.shell_lines.specs.Settings.{dash, kind_of, setting_of}
use Rattle.shell_lines.specs.Words.{WordAt}
use Rattle.shell_lines.specs.Reading.{is_same, has_kind, is_set, begins_option, if_left, new_setting, set_then, options_from}
use Rattle.shell_lines.specs.Forms.{made_at, reading_then}
use Rattle.shell_lines.specs.Language.{Spelled, IsSpelled, words_in, option_words, settings_of, AreNew, NoneNext, HasOptions, Begins, texts_of}
use Rattle.shell_lines.proofs.SettingLemmas.{setting_given, IsTold, setting_is, none_alone, Sample, sample, same_kind, same_itself}
use Rattle.shell_lines.proofs.ReadLemmas.{by_bool, Reader, Has, Stops, IsRead, onto, stops_here, Front, front_of}

-- ---- one option

pub record IsNew (kinds : List OptionKind) (settings : List Setting) (first : List ℕ) (word : Option (List ℕ)) (setting : Setting) : Type 0 where
  pub spelled : IsSpelled word setting
  pub begins : dash (kind_of setting) ≡ first
  pub one_of : has_kind kinds (kind_of setting) ≡ true
  pub unset : is_set settings (kind_of setting) ≡ false

new_by : (kinds : List OptionKind) (settings : List Setting) (first : List ℕ) (word : Option (List ℕ)) (given : Option Setting) (setting : Setting)
    → IsTold first word given → if_left kinds settings given ≡ Some setting → IsNew kinds settings first word setting
new_by kinds settings first word None setting told e = cc
new_by kinds settings first word (Some made) setting told e =
    by_bool (has_kind kinds (kind_of made))
    (λ one_of. by_bool (is_set settings (kind_of made))
    (λ set. let none : None ≡ Some setting = rw (one_of, set) at e in cc)
    (λ unset. let taken : Some made ≡ Some setting = rw (one_of, unset) at e in
    let same : made ≡ setting = cc in
    subst (IsNew kinds settings first word) same (record { spelled = told.0; begins = told.1; one_of = one_of; unset = unset })))
    (λ other. let none : None ≡ Some setting = rw other at e in cc)

new_is : (kinds : List OptionKind) (settings : List Setting) (first : List ℕ) (word : Option (List ℕ)) (setting : Setting)
    → new_setting kinds settings first word ≡ Some setting → IsNew kinds settings first word setting
new_is kinds settings first word setting e = new_by kinds settings first word (setting_of first word) setting (setting_is first word) e

new_given : (kinds : List OptionKind) (settings : List Setting) (word : Option (List ℕ)) (setting : Setting)
    → IsSpelled word setting → has_kind kinds (kind_of setting) ≡ true → is_set settings (kind_of setting) ≡ false → new_setting kinds settings (dash (kind_of setting)) word ≡ Some setting
new_given kinds settings word setting spelled one_of unset = rw (setting_given word setting spelled, one_of, unset) refl

-- an option with a word behind its first one isn't taken for that word alone
new_alone : (kinds : List OptionKind) (settings : List Setting) (text : List ℕ) (setting : Setting) → IsSpelled (Some text) setting → new_setting kinds settings (dash (kind_of setting)) None ≡ None
new_alone kinds settings text setting spelled = rw (none_alone (dash (kind_of setting)) text setting (setting_given (Some text) setting spelled)) refl

-- ---- the kinds of a set

each_of_them : (kinds : List OptionKind) → All (λ kind. has_kind kinds kind ≡ true) kinds
each_of_them kinds k d within = list_any_at (λ other. is_same other (get_or kinds k d)) kinds k d within (same_itself (get_or kinds k d))

or_true : (b : Bool) → (b || true) ≡ true
or_true true = refl
or_true false = refl

and_false : (b : Bool) → (b && false) ≡ false
and_false true = refl
and_false false = refl

-- a kind of the set that isn't set begins an option
begun : (kinds : List OptionKind) (settings : List Setting) (kind : OptionKind) → has_kind kinds kind ≡ true → is_set settings kind ≡ false → begins_option kinds settings (dash kind) ≡ true
begun kinds settings kind one_of unset =
    let found = Any-from_list_any (λ other. is_same other kind) kinds one_of in
    let is : get_or kinds found.0 found.1 ≡ kind = found.3 ∙ same_kind found.1 kind found.4 in
    let first : bytes_eq (dash kind) (dash kind) ≡ true = (bytes_eq-Decides (dash kind) (dash kind)).1 refl in
    list_any_at (λ other. bytes_eq (dash kind) (dash other) && not (is_set settings other)) kinds found.0 found.1 found.2 (rw (is, first, unset) refl)

set_before : (settings later : List Setting) (kind : OptionKind) → is_set settings kind ≡ true → is_set (settings ++ later) kind ≡ true
set_before settings later kind set = list_any-append (λ setting. is_same (kind_of setting) kind) settings later ∙ rw set refl

set_by : (settings later : List Setting) (setting : Setting) (kind : OptionKind) → kind_of setting ≡ kind → is_set (settings ++ (setting ∷ later)) kind ≡ true
set_by settings later setting kind same =
    let found : is_same (kind_of setting) kind ≡ true = rw same (same_itself kind) in
    list_any-append (λ setting. is_same (kind_of setting) kind) settings (setting ∷ later) ∙ rw found (or_true (is_set settings kind))

abbrev AreSet : List Setting → List OptionKind → Type 0
AreSet settings kinds = All (λ kind. is_set settings kind ≡ true) kinds

none_begins : (kinds : List OptionKind) (settings : List Setting) (word : List ℕ) → AreSet settings kinds → begins_option kinds settings word ≡ false
none_begins kinds settings word set =
    list_any_none (λ kind. bytes_eq word (dash kind) && not (is_set settings kind)) kinds (λ k d within. rw (set k d within) (and_false (bytes_eq word (dash (get_or kinds k d)))))

none_next : (kinds : List OptionKind) (settings : List Setting) (words : List (List ℕ)) → AreSet settings kinds → NoneNext kinds settings words
none_next kinds settings [] set = tt
none_next kinds settings (word ∷ words) set = none_begins kinds settings word set

-- ---- options of the table

leave : (kinds : List OptionKind) (settings : List Setting) (Behind : List Setting → List (List ℕ) → Type 0) (words : List (List ℕ)) → NoneNext kinds settings words → Behind settings words
    → HasOptions kinds settings Behind words
leave kinds settings Behind words none behind = record {
  spelled = [];
  rest = words;
  stand = refl;
  new = tt;
  none_next = subst (λ now. NoneNext kinds now words) (sym (append-nil settings)) none;
  behind = subst (λ now. Behind now words) (sym (append-nil settings)) behind;
}

one_before : (kinds : List OptionKind) (settings : List Setting) (Behind : List Setting → List (List ℕ) → Type 0) (first : List ℕ) (word : Option (List ℕ)) (setting : Setting) (words : List (List ℕ))
    → IsNew kinds settings first word setting → HasOptions kinds (settings ++ (setting ∷ [])) Behind words → HasOptions kinds settings Behind (first ∷ (words_in word ++ words))
one_before kinds settings Behind first word setting words new h =
    let joined : (settings ++ (setting ∷ [])) ++ settings_of h.spelled ≡ settings ++ (setting ∷ settings_of h.spelled) = append_assoc settings (setting ∷ []) (settings_of h.spelled) in
    let stand : words_in word ++ words ≡ (words_in word ++ option_words h.spelled) ++ h.rest = ap (λ (more : List (List ℕ)). words_in word ++ more) h.stand ∙ sym (append_assoc (words_in word) (option_words h.spelled) h.rest) in
    subst (λ (begins : List ℕ). HasOptions kinds settings Behind (begins ∷ (words_in word ++ words))) new.begins (record {
      spelled = (word, setting) ∷ h.spelled;
      rest = h.rest;
      stand = ap (λ (more : List (List ℕ)). dash (kind_of setting) ∷ more) stand;
      new = (new.spelled, new.one_of, new.unset, h.new);
      none_next = subst (λ now. NoneNext kinds now h.rest) joined h.none_next;
      behind = subst (λ now. Behind now h.rest) joined h.behind;
    })

-- the same where the word behind the first one is due
pub record Due (kinds : List OptionKind) (first : List ℕ) (settings : List Setting) (Behind : List Setting → List (List ℕ) → Type 0) (words : List (List ℕ)) : Type 0 where
  pub text : List ℕ
  pub setting : Setting
  pub rest : List (List ℕ)
  pub stand : words ≡ text ∷ rest
  pub new : IsNew kinds settings first (Some text) setting
  pub more : HasOptions kinds (settings ++ (setting ∷ [])) Behind rest

due_before : (kinds : List OptionKind) (settings : List Setting) (Behind : List Setting → List (List ℕ) → Type 0) (first : List ℕ) (words : List (List ℕ))
    → Due kinds first settings Behind words → HasOptions kinds settings Behind (first ∷ words)
due_before kinds settings Behind first words due =
    subst (λ (more : List (List ℕ)). HasOptions kinds settings Behind (first ∷ more)) (sym due.stand) (one_before kinds settings Behind first (Some due.text) due.setting due.rest due.new due.more)

-- ---- what stands behind options

abbrev pub OptionsMake : List OptionKind → (List Setting → Option Line → List (List ℕ) → Type 0) → List Setting → Option Line → List (List ℕ) → Type 0
OptionsMake kinds Next settings made words = HasOptions kinds settings (λ now rest. Next now made rest) words

abbrev DueMake : List OptionKind → List ℕ → (List Setting → Option Line → List (List ℕ) → Type 0) → List Setting → Option Line → List (List ℕ) → Type 0
DueMake kinds first Next settings made words = Due kinds first settings (λ now rest. Next now made rest) words

abbrev pub CanFollow : (List Setting → Option Line → List (List ℕ) → Type 0) → Type 0
CanFollow Next = (settings : List Setting) → Begins (Has (Next settings)) []

-- Each kind that isn't set is, with the words of a sample: then none is left, and what stands behind the options can.
fill_up : (kinds : List OptionKind) (Next : List Setting → Option Line → List (List ℕ) → Type 0) → CanFollow Next → (todo : List OptionKind) (settings : List Setting)
    → All (λ kind. has_kind kinds kind ≡ true) todo → ((later : List Setting) → AreSet (settings ++ later) todo → AreSet (settings ++ later) kinds) → Begins (Has (OptionsMake kinds Next settings)) []
fill_up kinds Next follow [] settings known all =
    let set : AreSet settings kinds = subst (λ now. AreSet now kinds) (append-nil settings) (all [] (λ k d within. absurd (omega arith))) in
    let behind : Begins (Has (Next settings)) [] = follow settings in
    (behind.0, (behind.1.0, leave kinds settings (λ now rest. Next now behind.1.0 rest) behind.0 (none_next kinds settings behind.0 set) behind.1.1))
fill_up kinds Next follow (kind ∷ todo) settings known all =
    let others : All (λ kind. has_kind kinds kind ≡ true) todo = All-tail (λ kind. has_kind kinds kind ≡ true) kind todo known in
    by_bool (is_set settings kind)
    (λ set. fill_up kinds Next follow todo settings others
    (λ later more. all later (All-cons (λ other. is_set (settings ++ later) other ≡ true) kind todo (set_before settings later kind set) more)))
    (λ unset.
    let s : Sample kind = sample kind in
    let one_of : has_kind kinds kind ≡ true = All-head (λ kind. has_kind kinds kind ≡ true) kind todo known in
    let new : IsNew kinds settings (dash (kind_of s.setting)) s.word s.setting =
    record { spelled = s.spelled; begins = refl; one_of = rw s.kind_is one_of; unset = rw s.kind_is unset } in
    let rest : Begins (Has (OptionsMake kinds Next (settings ++ (s.setting ∷ [])))) [] =
    fill_up kinds Next follow todo (settings ++ (s.setting ∷ [])) others
    (λ later more.
    let joined : (settings ++ (s.setting ∷ [])) ++ later ≡ settings ++ (s.setting ∷ later) = append_assoc settings (s.setting ∷ []) later in
    subst (λ now. AreSet now kinds) (sym joined)
    (all (s.setting ∷ later) (All-cons (λ other. is_set (settings ++ (s.setting ∷ later)) other ≡ true) kind todo (set_by settings later s.setting kind s.kind_is)
    (subst (λ now. AreSet now todo) joined more)))) in (
      dash (kind_of s.setting) ∷ (words_in s.word ++ rest.0),
      (rest.1.0, one_before kinds settings (λ now more. Next now rest.1.0 more) (dash (kind_of s.setting)) s.word s.setting rest.0 new rest.1.1),
    ))

pub can_stand : (kinds : List OptionKind) (Next : List Setting → Option Line → List (List ℕ) → Type 0) (settings : List Setting) → CanFollow Next → Begins (Has (OptionsMake kinds Next settings)) []
can_stand kinds Next settings follow = fill_up kinds Next follow kinds settings (each_of_them kinds) (λ later all. all)

due_by : (kinds : List OptionKind) (Next : List Setting → Option Line → List (List ℕ) → Type 0) (settings : List Setting) (first : List ℕ) (word : Option (List ℕ)) (setting : Setting) → CanFollow Next
    → new_setting kinds settings first None ≡ None → IsNew kinds settings first word setting → Begins (Has (DueMake kinds first Next settings)) []
due_by kinds Next settings first None setting follow alone new =
    let given : new_setting kinds settings (dash (kind_of setting)) None ≡ Some setting = new_given kinds settings None setting new.spelled new.one_of new.unset in
    let both : None ≡ Some setting = sym alone ∙ ap (λ (begins : List ℕ). new_setting kinds settings begins None) (sym new.begins) ∙ given in
    cc
due_by kinds Next settings first (Some text) setting follow alone new =
    let rest : Begins (Has (OptionsMake kinds Next (settings ++ (setting ∷ [])))) [] = can_stand kinds Next (settings ++ (setting ∷ [])) follow in
    (text ∷ rest.0, (rest.1.0, record { text = text; setting = setting; rest = rest.0; stand = refl; new = new; more = rest.1.1 }))

both_true : (a b : Bool) → (a && b) ≡ true → (a ≡ true) × (b ≡ true)
both_true true b e = (refl, e)
both_true false b e = cc

was_false : (b : Bool) → not b ≡ true → b ≡ false
was_false true e = cc
was_false false e = refl

due_can_stand : (kinds : List OptionKind) (Next : List Setting → Option Line → List (List ℕ) → Type 0) (settings : List Setting) (first : List ℕ) → CanFollow Next
    → begins_option kinds settings first ≡ true → new_setting kinds settings first None ≡ None → Begins (Has (DueMake kinds first Next settings)) []
due_can_stand kinds Next settings first follow begins alone =
    let found = Any-from_list_any (λ kind. bytes_eq first (dash kind) && not (is_set settings kind)) kinds begins in
    let kind : OptionKind = found.1 in
    let passes : (bytes_eq first (dash kind) ≡ true) × (not (is_set settings kind) ≡ true) = both_true (bytes_eq first (dash kind)) (not (is_set settings kind)) found.4 in
    let one_of : has_kind kinds kind ≡ true = subst (λ (of_them : OptionKind). has_kind kinds of_them ≡ true) found.3 (each_of_them kinds found.0 kind found.2) in
    let s : Sample kind = sample kind in
    due_by kinds Next settings first s.word s.setting follow alone (record {
      spelled = s.spelled;
      begins = ap dash s.kind_is ∙ sym ((bytes_eq-Decides first (dash kind)).0 passes.0);
      one_of = rw s.kind_is one_of;
      unset = rw s.kind_is (was_false (is_set settings kind) passes.1);
    })

-- ---- the reading

by_setting : {P : Type 0} (given : Option Setting) → ((setting : Setting) → given ≡ Some setting → P) → (given ≡ None → P) → P
by_setting {P} given some none = elim given as (λ v. given ≡ v → P) [ None ↦ none | Some setting ↦ some setting ] refl

set_some : {A : Type 0} (given : Option Setting) (none : A) (some : Setting → A) (setting : Setting) → given ≡ Some setting → set_then given none some ≡ some setting
set_some None none some setting e = cc
set_some (Some made) none some setting e = let same : made ≡ setting = cc in ap some same

set_none : {A : Type 0} (given : Option Setting) (none : A) (some : Setting → A) → given ≡ None → set_then given none some ≡ none
set_none None none some e = refl
set_none (Some made) none some e = cc

abbrev pub options_go : List OptionKind → (List Setting → Reader) → Option (List ℕ) → List Setting → Reader
options_go kinds go due settings = λ end words. reading_then (options_from end kinds due settings words) (λ now rest. go now end rest)

no_front : (before : List WordAt) (word : WordAt) (behind : List WordAt) → [] ≢ before ++ (word ∷ behind)
no_front [] word behind e = cc
no_front (first ∷ before) word behind e = cc

at_end : (kinds : List OptionKind) (Next : List Setting → Option Line → List (List ℕ) → Type 0) (go : List Setting → Reader) (settings : List Setting) → CanFollow Next
    → IsRead (Next settings) (go settings) [] → IsRead (OptionsMake kinds Next settings) (options_go kinds go None settings) []
at_end kinds Next go settings follow (inl through) = inl (through.0, leave kinds settings (λ now rest. Next now through.0 rest) [] tt through.1, through.2)
at_end kinds Next go settings follow (inr (inl stop)) = absurd (no_front stop.before stop.word stop.behind stop.stand)
at_end kinds Next go settings follow (inr (inr lack)) = inr (inr (record { begin = can_stand kinds Next settings follow; missing = lack.missing }))

stop_on : (kinds : List OptionKind) (Next : List Setting → Option Line → List (List ℕ) → Type 0) (go : List Setting → Reader) (settings : List Setting) → CanFollow Next
    → (word : WordAt) (words : List WordAt) → begins_option kinds settings word.text ≡ false → (before : List WordAt) (here : WordAt) (behind : List WordAt) → word ∷ words ≡ before ++ (here ∷ behind)
    → Begins (Has (Next settings)) (texts_of before) → ((end : ℕ) (more : List WordAt) → go settings end (before ++ (here ∷ more)) ≡ Err here.at)
    → Stops (OptionsMake kinds Next settings) (options_go kinds go None settings) (word ∷ words)
stop_on kinds Next go settings follow word words none [] here behind stand begin stops =
    let same : word ≡ here = cc in
    let none_here : begins_option kinds settings here.text ≡ false = subst (λ (w : WordAt). begins_option kinds settings w.text ≡ false) same none in
    record { before = []; word = here; behind = behind; stand = stand; begin = can_stand kinds Next settings follow; stops = λ end more. rw none_here (stops end more) }
stop_on kinds Next go settings follow word words none (first ∷ before) here behind stand begin stops =
    let same : word ≡ first = cc in
    let none_first : begins_option kinds settings first.text ≡ false = subst (λ (w : WordAt). begins_option kinds settings w.text ≡ false) same none in
    record {
      before = first ∷ before;
      word = here;
      behind = behind;
      stand = stand;
      begin = (begin.0, (begin.1.0, leave kinds settings (λ now rest. Next now begin.1.0 rest) (first.text ∷ (texts_of before ++ begin.0)) none_first begin.1.1));
      stops = λ end more. rw none_first (stops end more);
    }

pass_on : (kinds : List OptionKind) (Next : List Setting → Option Line → List (List ℕ) → Type 0) (go : List Setting → Reader) (settings : List Setting) → CanFollow Next
    → (word : WordAt) (words : List WordAt) → begins_option kinds settings word.text ≡ false
    → IsRead (Next settings) (go settings) (word ∷ words) → IsRead (OptionsMake kinds Next settings) (options_go kinds go None settings) (word ∷ words)
pass_on kinds Next go settings follow word words none (inl through) =
    inl (through.0, leave kinds settings (λ now rest. Next now through.0 rest) (word.text ∷ texts_of words) none through.1, λ end. rw none (through.2 end))
pass_on kinds Next go settings follow word words none (inr (inl stop)) =
    inr (inl (stop_on kinds Next go settings follow word words none stop.before stop.word stop.behind stop.stand stop.begin stop.stops))
pass_on kinds Next go settings follow word words none (inr (inr lack)) = inr (inr (record {
  begin = (lack.begin.0, (lack.begin.1.0, leave kinds settings (λ now rest. Next now lack.begin.1.0 rest) (word.text ∷ (texts_of words ++ lack.begin.0)) none lack.begin.1.1));
  missing = λ end. rw none (lack.missing end);
}))

abbrev Awaits : List OptionKind → List Setting → Option (List ℕ) → Type 0
Awaits kinds settings None = Unit {0}
Awaits kinds settings (Some first) = (begins_option kinds settings first ≡ true) × (new_setting kinds settings first None ≡ None)

abbrev MakeFrom : List OptionKind → (List Setting → Option Line → List (List ℕ) → Type 0) → Option (List ℕ) → List Setting → Option Line → List (List ℕ) → Type 0
MakeFrom kinds Next None settings = OptionsMake kinds Next settings
MakeFrom kinds Next (Some first) settings = DueMake kinds first Next settings

-- what the reading of an option goes on with, which is that word alone or has another behind it
alone_leads : (kinds : List OptionKind) (go : List Setting → Reader) (settings : List Setting) (first : List ℕ) (end : ℕ) (words : List WordAt) (setting : Setting) → new_setting kinds settings first None ≡ Some setting
    → reading_then (set_then (new_setting kinds settings first None) (options_from end kinds (Some first) settings words) (λ new. options_from end kinds None (settings ++ (new ∷ [])) words)) (λ now rest. go now end rest)
    ≡ options_go kinds go None (settings ++ (setting ∷ [])) end words
alone_leads kinds go settings first end words setting e =
    ap (λ reading. reading_then reading (λ now rest. go now end rest))
    (set_some (new_setting kinds settings first None) (options_from end kinds (Some first) settings words) (λ new. options_from end kinds None (settings ++ (new ∷ [])) words) setting e)

due_leads : (kinds : List OptionKind) (go : List Setting → Reader) (settings : List Setting) (first : List ℕ) (end : ℕ) (words : List WordAt) → new_setting kinds settings first None ≡ None
    → reading_then (set_then (new_setting kinds settings first None) (options_from end kinds (Some first) settings words) (λ new. options_from end kinds None (settings ++ (new ∷ [])) words)) (λ now rest. go now end rest)
    ≡ options_go kinds go (Some first) settings end words
due_leads kinds go settings first end words e =
    ap (λ reading. reading_then reading (λ now rest. go now end rest))
    (set_none (new_setting kinds settings first None) (options_from end kinds (Some first) settings words) (λ new. options_from end kinds None (settings ++ (new ∷ [])) words) e)

pub options_read : (kinds : List OptionKind) (Next : List Setting → Option Line → List (List ℕ) → Type 0) (go : List Setting → Reader) → CanFollow Next
    → ((settings : List Setting) (words : List WordAt) → IsRead (Next settings) (go settings) words)
    → (due : Option (List ℕ)) (settings : List Setting) (words : List WordAt) → Awaits kinds settings due → IsRead (MakeFrom kinds Next due settings) (options_go kinds go due settings) words
options_read kinds Next go follow next None settings [] awaits = at_end kinds Next go settings follow (next settings [])
options_read kinds Next go follow next (Some first) settings [] awaits =
    inr (inr (record { begin = due_can_stand kinds Next settings first follow awaits.0 awaits.1; missing = λ end. refl }))
options_read kinds Next go follow next None settings (word ∷ words) awaits =
    by_bool (begins_option kinds settings word.text)
    (λ begins. by_setting (new_setting kinds settings word.text None)
    (λ setting e. onto (OptionsMake kinds Next settings) (OptionsMake kinds Next (settings ++ (setting ∷ []))) (options_go kinds go None settings) (options_go kinds go None (settings ++ (setting ∷ []))) word words
    (λ end at more. rw begins (alone_leads kinds go settings word.text end more setting e))
    (λ made more h. one_before kinds settings (λ now rest. Next now made rest) word.text None setting more (new_is kinds settings word.text None setting e) h)
    (options_read kinds Next go follow next None (settings ++ (setting ∷ [])) words tt))
    (λ e. onto (OptionsMake kinds Next settings) (DueMake kinds word.text Next settings) (options_go kinds go None settings) (options_go kinds go (Some word.text) settings) word words
    (λ end at more. rw begins (due_leads kinds go settings word.text end more e))
    (λ made more h. due_before kinds settings (λ now rest. Next now made rest) word.text more h)
    (options_read kinds Next go follow next (Some word.text) settings words (begins, e))))
    (λ none. pass_on kinds Next go settings follow word words none (next settings (word ∷ words)))
options_read kinds Next go follow next (Some first) settings (word ∷ words) awaits =
    by_setting (new_setting kinds settings first (Some word.text))
    (λ setting e. onto (DueMake kinds first Next settings) (OptionsMake kinds Next (settings ++ (setting ∷ []))) (options_go kinds go (Some first) settings) (options_go kinds go None (settings ++ (setting ∷ []))) word words
    (λ end at more. rw e refl)
    (λ made more h. record { text = word.text; setting = setting; rest = more; stand = refl; new = new_is kinds settings first (Some word.text) setting e; more = h })
    (options_read kinds Next go follow next None (settings ++ (setting ∷ [])) words tt))
    (λ e. stops_here (DueMake kinds first Next settings) (options_go kinds go (Some first) settings) word words (due_can_stand kinds Next settings first follow awaits.0 awaits.1) (λ end more. rw e refl))

-- ---- what stands in the table is given

left_all : (kinds : List OptionKind) (go : List Setting → Reader) (settings : List Setting) (end : ℕ) (words : List WordAt) → NoneNext kinds settings (texts_of words) → options_go kinds go None settings end words ≡ go settings end words
left_all kinds go settings end [] none = refl
left_all kinds go settings end (word ∷ words) none = rw none refl

pub options_given : (kinds : List OptionKind) (Next : List Setting → Option Line → List (List ℕ) → Type 0) (go : List Setting → Reader) (end : ℕ) (made : Option Line)
    → ((settings : List Setting) (words : List WordAt) → Next settings made (texts_of words) → go settings end words ≡ made_at end made)
    → (spelled : List Spelled) (settings : List Setting) (words : List WordAt) (rest : List (List ℕ)) → texts_of words ≡ option_words spelled ++ rest → AreNew kinds settings spelled
    → NoneNext kinds (settings ++ settings_of spelled) rest → Next (settings ++ settings_of spelled) made rest → options_go kinds go None settings end words ≡ made_at end made
options_given kinds Next go end made next [] settings words rest stand new none behind =
    let none_here : NoneNext kinds settings (texts_of words) = rw (stand, ← append-nil settings) none in
    let behind_here : Next settings made (texts_of words) = rw (stand, ← append-nil settings) behind in
    left_all kinds go settings end words none_here ∙ next settings words behind_here
options_given kinds Next go end made next ((None, setting) ∷ more) settings words rest stand new none behind =
    let joined : (settings ++ (setting ∷ [])) ++ settings_of more ≡ settings ++ (setting ∷ settings_of more) = append_assoc settings (setting ∷ []) (settings_of more) in
    let f : Front words (dash (kind_of setting)) (option_words more ++ rest) = front_of words (dash (kind_of setting)) (option_words more ++ rest) stand in
    rw (f.stand, begun kinds settings (kind_of setting) new.1 new.2)
    (alone_leads kinds go settings (dash (kind_of setting)) end f.rest setting (new_given kinds settings None setting new.0 new.1 new.2)
    ∙ options_given kinds Next go end made next more (settings ++ (setting ∷ [])) f.rest rest f.behind_is new.3
    (subst (λ now. NoneNext kinds now rest) (sym joined) none) (subst (λ now. Next now made rest) (sym joined) behind))
options_given kinds Next go end made next ((Some text, setting) ∷ more) settings words rest stand new none behind =
    let joined : (settings ++ (setting ∷ [])) ++ settings_of more ≡ settings ++ (setting ∷ settings_of more) = append_assoc settings (setting ∷ []) (settings_of more) in
    let f : Front words (dash (kind_of setting)) (text ∷ (option_words more ++ rest)) = front_of words (dash (kind_of setting)) (text ∷ (option_words more ++ rest)) stand in
    let t : Front f.rest text (option_words more ++ rest) = front_of f.rest text (option_words more ++ rest) f.behind_is in
    rw (f.stand, begun kinds settings (kind_of setting) new.1 new.2)
    (due_leads kinds go settings (dash (kind_of setting)) end f.rest (new_alone kinds settings text setting new.0)
    ∙ rw (t.stand, new_given kinds settings (Some text) setting new.0 new.1 new.2)
    (options_given kinds Next go end made next more (settings ++ (setting ∷ [])) t.rest rest t.behind_is new.3
    (subst (λ now. NoneNext kinds now rest) (sym joined) none) (subst (λ now. Next now made rest) (sym joined) behind)))
