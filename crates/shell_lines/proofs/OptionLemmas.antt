-- One option more.
use Rattle.std.proofs.Common.{◌≡◌, ℕ, ◌≤◌, Option, Some, None, true, List, [], ◌∷◌, ◌++◌, length, Err, arith}
use Rattle.shell_lines.specs.declared.setting.OptionKind.{OptionKind}
use Rattle.shell_lines.specs.declared.setting.Setting.{Setting}
use Rattle.shell_lines.specs.declared.line.LineStop.{LineStop}
use Rattle.shell_lines.specs.declared.line.LineStop.TheVariants as stops
use Rattle.shell_lines.specs.Words.{WordAt}
use Rattle.shell_lines.specs.Left.{Reads}
use Rattle.shell_lines.specs.Reading.{Reading, Taken, Wrong, told_by, set_then, begins_option, new_setting, value_from, option_from, options_from}

with_value : (end at : ℕ) (kinds : List OptionKind) (settings : List Setting) (words : List WordAt) (value : Option Setting) (setting : Setting) (left : List WordAt)
    → told_by at words value ≡ Taken setting left
    → set_then value (Wrong at) (λ new. options_from end kinds None (settings ++ (new ∷ [])) words) ≡ options_from end kinds None (settings ++ (setting ∷ [])) left
with_value end at kinds settings words None setting left e = cc
with_value end at kinds settings words (Some new) setting left e = cc

behind_first : (end : ℕ) (kinds : List OptionKind) (settings : List Setting) (first : List ℕ) (words : List WordAt) (alone : Option Setting) (setting : Setting) (left : List WordAt)
    → set_then alone (value_from end kinds settings first words) (λ new. Taken new words) ≡ Taken setting left
    → set_then alone (options_from end kinds (Some first) settings words) (λ new. options_from end kinds None (settings ++ (new ∷ [])) words)
    ≡ options_from end kinds None (settings ++ (setting ∷ [])) left
behind_first end kinds settings first words (Some new) setting left e = cc
behind_first end kinds settings first [] None setting left e = cc
behind_first end kinds settings first (word ∷ words) None setting left e = with_value end word.at kinds settings words (new_setting kinds settings first (Some word.text)) setting left e

pub one_more : (end : ℕ) (kinds : List OptionKind) (settings : List Setting) (word : WordAt) (words : List WordAt) (setting : Setting) (left : List WordAt)
    → begins_option kinds settings word.text ≡ true → option_from end kinds settings word.text words ≡ Taken setting left
    → options_from end kinds None settings (word ∷ words) ≡ options_from end kinds None (settings ++ (setting ∷ [])) left
one_more end kinds settings word words setting left begins e =
    rw begins (behind_first end kinds settings word.text words (new_setting kinds settings word.text None) setting left e)

stopped_value : (end at place : ℕ) (kinds : List OptionKind) (settings : List Setting) (words : List WordAt) (value : Option Setting)
    → told_by at words value ≡ Wrong place → set_then value (Wrong at) (λ new. options_from end kinds None (settings ++ (new ∷ [])) words) ≡ Wrong place
stopped_value end at place kinds settings words None e = cc
stopped_value end at place kinds settings words (Some new) e = cc

stopped_first : (end place : ℕ) (kinds : List OptionKind) (settings : List Setting) (first : List ℕ) (words : List WordAt) (alone : Option Setting)
    → set_then alone (value_from end kinds settings first words) (λ new. Taken new words) ≡ Wrong place
    → set_then alone (options_from end kinds (Some first) settings words) (λ new. options_from end kinds None (settings ++ (new ∷ [])) words) ≡ Wrong place
stopped_first end place kinds settings first words (Some new) e = cc
stopped_first end place kinds settings first [] None e = cc
stopped_first end place kinds settings first (word ∷ words) None e = stopped_value end word.at place kinds settings words (new_setting kinds settings first (Some word.text)) e

pub no_more : (end place : ℕ) (kinds : List OptionKind) (settings : List Setting) (word : WordAt) (words : List WordAt)
    → begins_option kinds settings word.text ≡ true → option_from end kinds settings word.text words ≡ Wrong place → options_from end kinds None settings (word ∷ words) ≡ Wrong place
no_more end place kinds settings word words begins e = rw begins (stopped_first end place kinds settings word.text words (new_setting kinds settings word.text None) e)

fewer_by : (at : ℕ) (words : List WordAt) (value : Option Setting) (setting : Setting) (left : List WordAt) → told_by at words value ≡ Taken setting left → length left ≤ length words
fewer_by at words None setting left e = absurd (cc)
fewer_by at words (Some new) setting left e = let same : words ≡ left = cc in rw same (omega arith)

fewer_first : (end : ℕ) (kinds : List OptionKind) (settings : List Setting) (first : List ℕ) (words : List WordAt) (alone : Option Setting) (setting : Setting) (left : List WordAt)
    → set_then alone (value_from end kinds settings first words) (λ new. Taken new words) ≡ Taken setting left → length left ≤ length words
fewer_first end kinds settings first words (Some new) setting left e = let same : words ≡ left = cc in rw same (omega arith)
fewer_first end kinds settings first [] None setting left e = absurd (cc)
fewer_first end kinds settings first (word ∷ words) None setting left e =
    let fewer : length left ≤ length words = fewer_by word.at words (new_setting kinds settings first (Some word.text)) setting left e in omega arith

pub fewer_left : (end : ℕ) (kinds : List OptionKind) (settings : List Setting) (first : List ℕ) (words : List WordAt) (setting : Setting) (left : List WordAt)
    → option_from end kinds settings first words ≡ Taken setting left → length left ≤ length words
fewer_left end kinds settings first words setting left e = fewer_first end kinds settings first words (new_setting kinds settings first None) setting left e

pub stop_passes : (stop : LineStop) (left words : List WordAt) (one : Reading Setting) (all : Reading (List Setting)) → Reads {A = Setting} (Err stop) left one → ((place : ℕ) → one ≡ Wrong place → all ≡ Wrong place)
    → Reads {A = List Setting} (Err stop) words all
stop_passes (stops.Bad at) left words one all e further = further at e
stop_passes stops.NoMemory left words one all e further = tt
