use Rattle.std.proofs.Common.{◌≡◌, ℕ, ◌≤◌, true, List, ◌∷◌, ◌++◌, [], length, refl, sym, ◌∙◌, ap, rules, arith}
use Rattle.std.specs.declared.option.Option.TheVariants.{None}
use Rattle.shell_lines.specs.declared.setting.Setting.{Setting}
use Rattle.shell_lines.specs.Words.{WordAt}
use Rattle.shell_lines.specs.Left.{words_left, end_of, placed}
use Rattle.shell_lines.specs.Reading.{begins_option, option_from, options_from}
use Rattle.shell_lines.proofs.OptionLemmas.{one_more, no_more, fewer_left, stop_passes}
use Rattle.shell_lines.proofs.option.parse_options.Goals as goal

pub returns-in-Err-clause-reads : goal.returns-in-Err-clause-reads
returns-in-Err-clause-reads c =
    let settings : List Setting = c.loop-word.settings.items in
    let word : WordAt = placed c.in-Some.word in
    let rest : List WordAt = words_left c.next.new.self in
    let end : ℕ = end_of c.args.words.now in
    let shown : begins_option c.args.kinds.now settings word.text ≡ c.begins_option.result = sym (rw c.deref.ensures.value at c.begins_option.ensures) in
    let begins : begins_option c.args.kinds.now settings word.text ≡ true = shown ∙ c.if-not-begins_option.false in
    let here : end_of c.next.new.self ≡ end = c.in-Some.ensures.end ∙ c.loop-word.invariant.3 in
    let stand : words_left c.loop-word.words ≡ word ∷ rest = sym c.loop-word.invariant.1 ∙ c.in-Some.ensures.next in
    stop_passes c.in-Err.stop (words_left c.parse_option.new.words) (words_left c.loop-word.words)
    (option_from (end_of c.next.new.self) c.args.kinds.now c.deref-in-Some.result.now word.text rest)
    (options_from end c.args.kinds.now None [] (words_left c.args.words.now))
    c.in-Err.ensures.reads
    (λ place stop. c.loop-word.invariant.0 ∙ ap (options_from end c.args.kinds.now None settings) stand
    ∙ no_more end place c.args.kinds.now settings word rest begins (rw (here, c.deref-in-Some.ensures.value) at stop))

pub loop-word-smaller : goal.loop-word-smaller
loop-word-smaller c =
    let rest : List WordAt = words_left c.next.new.self in
    let fewer : length (words_left c.parse_option.new.words) ≤ length rest =
    fewer_left (end_of c.next.new.self) c.args.kinds.now c.deref-in-Some.result.now c.in-Some.word.text.now rest c.in-Ok.setting (words_left c.parse_option.new.words) c.in-Ok.ensures.reads in
    let stand : length (words_left c.loop-word.ahead) ≡ length (placed c.in-Some.word ∷ rest) = ap length c.in-Some.ensures.next in
    omega arith

pub loop-word-preserved : goal.loop-word-preserved
loop-word-preserved c =
    let settings : List Setting = c.loop-word.settings.items in
    let word : WordAt = placed c.in-Some.word in
    let rest : List WordAt = words_left c.next.new.self in
    let end : ℕ = end_of c.args.words.now in
    let left : List WordAt = words_left c.parse_option.new.words in
    let shown : begins_option c.args.kinds.now settings word.text ≡ c.begins_option.result = sym (rw c.deref.ensures.value at c.begins_option.ensures) in
    let begins : begins_option c.args.kinds.now settings word.text ≡ true = shown ∙ c.if-not-begins_option.false in
    let here : end_of c.next.new.self ≡ end = c.in-Some.ensures.end ∙ c.loop-word.invariant.3 in
    let stand : words_left c.loop-word.words ≡ word ∷ rest = sym c.loop-word.invariant.1 ∙ c.in-Some.ensures.next in
    let pushed : c.push.new.self.items ≡ settings ++ (c.in-Ok.setting ∷ []) = search rules in
    let same : end_of c.parse_option.new.words ≡ end = c.in-Ok.ensures.end ∙ here in (
      c.loop-word.invariant.0 ∙ ap (options_from end c.args.kinds.now None settings) stand
          ∙ one_more end c.args.kinds.now settings word rest c.in-Ok.setting left begins (rw (here, c.deref-in-Some.ensures.value) at c.in-Ok.ensures.reads)
          ∙ ap (λ (now : List Setting). options_from end c.args.kinds.now None now left) (sym pushed),
      refl,
      same,
      same,
    )
