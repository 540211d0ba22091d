use Rattle.std.proofs.Common.{Ok, length, take, ap, ◌∙◌, sym, arith}
use Rattle.std.proofs.lemmas.Result.{IfErr-at_err, IfOk-weaker, on_ok_weaker}
use Rattle.std.specs.Option.{option_map}
use Rattle.edge_io.specs.LineEnds.{strip_return}
use Rattle.edge_io.specs.Lines.{is_prompt}
use Rattle.edge_io.specs.Told.{unread}
use Rattle.edge_io.proofs.ReaderLemmas.{SpansLine-feed, SpansLine-input, length-strip_return_take}
use Rattle.edge_io.proofs.PromptLemmas.{StartsWith-prompt, is_prompt-some, prompt_told, rest_of_prompt_told, prompt_long_told, prompt_long_here, prompt_one_line, far_prompt_told, far_prompt_here}
use Rattle.edge_io.proofs.line_reader.LineReader.next_prompt.Goals as goal

pub give-requires-clause-in_taken : goal.give-requires-clause-in_taken
give-requires-clause-in_taken g c = omega (arith, ap length c.without_return-len.ensures, length-strip_return_take c.in-Feed.at c.pending-in-Feed.result.now)

pub returns-in-Feed-clause-line : goal.returns-in-Feed-clause-line
returns-in-Feed-clause-line g c =
    let marked = sym (c.if-not-starts_with.ensures.value ∙ ap is_prompt c.pending.ensures) in
    let spans = SpansLine-feed (g.S.Source.left c.hold_some.new.src) (g.S.Source.left c.find_end.new.src) (rw c.in-Feed.is at c.in_ok-at.ensures.end) (c.without_return-len.ensures ∙ ap (λ b. strip_return (take c.in-Feed.at b)) c.pending-in-Feed.ensures) in
    IfOk-weaker c.give.result _ _ (λ given is. prompt_told (unread c.args.self.now (g.S.Source.left c.args.src.now)) c.hold_some.new.self c.find_end.new.self (g.S.Source.left c.hold_some.new.src) (g.S.Source.left c.find_end.new.src) c.in_ok-hold_some.ensures.unread c.in_ok-at.ensures.unread c.in_ok-at.ensures.kept marked _ _ spans (option_map (λ l. l.items) given) is) c.give.ensures.line

pub returns-in-Feed-clause-rest : goal.returns-in-Feed-clause-rest
returns-in-Feed-clause-rest g c =
    let marked = sym (c.if-not-starts_with.ensures.value ∙ ap is_prompt c.pending.ensures) in
    let spans = SpansLine-feed (g.S.Source.left c.hold_some.new.src) (g.S.Source.left c.find_end.new.src) (rw c.in-Feed.is at c.in_ok-at.ensures.end) (c.without_return-len.ensures ∙ ap (λ b. strip_return (take c.in-Feed.at b)) c.pending-in-Feed.ensures) in
    on_ok_weaker c.give.result (rest_of_prompt_told (unread c.args.self.now (g.S.Source.left c.args.src.now)) c.hold_some.new.self c.find_end.new.self (g.S.Source.left c.hold_some.new.src) (g.S.Source.left c.find_end.new.src) c.in_ok-hold_some.ensures.unread c.in_ok-at.ensures.unread c.in_ok-at.ensures.kept marked _ _ spans c.give.new.self) c.give.ensures.rest

pub returns-in-Feed-clause-long : goal.returns-in-Feed-clause-long
returns-in-Feed-clause-long g c is =
    let marked = sym (c.if-not-starts_with.ensures.value ∙ ap is_prompt c.pending.ensures) in
    let spans = SpansLine-feed (g.S.Source.left c.hold_some.new.src) (g.S.Source.left c.find_end.new.src) (rw c.in-Feed.is at c.in_ok-at.ensures.end) (c.without_return-len.ensures ∙ ap (λ b. strip_return (take c.in-Feed.at b)) c.pending-in-Feed.ensures) in
    prompt_long_told (unread c.args.self.now (g.S.Source.left c.args.src.now)) c.hold_some.new.self c.find_end.new.self (g.S.Source.left c.hold_some.new.src) (g.S.Source.left c.find_end.new.src) c.in_ok-hold_some.ensures.unread c.in_ok-at.ensures.unread c.in_ok-at.ensures.kept marked _ _ spans 65536 (c.give.ensures.long is)

pub returns-in-Feed-clause-held_long : goal.returns-in-Feed-clause-held_long
returns-in-Feed-clause-held_long g c is =
    let marked = sym (c.if-not-starts_with.ensures.value ∙ ap is_prompt c.pending.ensures) in
    let spans = SpansLine-feed (g.S.Source.left c.hold_some.new.src) (g.S.Source.left c.find_end.new.src) (rw c.in-Feed.is at c.in_ok-at.ensures.end) (c.without_return-len.ensures ∙ ap (λ b. strip_return (take c.in-Feed.at b)) c.pending-in-Feed.ensures) in
    prompt_long_here (unread c.args.self.now (g.S.Source.left c.args.src.now)) c.hold_some.new.self c.find_end.new.self (g.S.Source.left c.hold_some.new.src) (g.S.Source.left c.find_end.new.src) c.in_ok-hold_some.ensures.unread c.in_ok-at.ensures.unread c.in_ok-at.ensures.kept marked _ _ spans c.give.new.self 65536 (IfErr-at_err _ is c.give.ensures.err) (c.give.ensures.long is)

pub returns-in-Feed-clause-one_line : goal.returns-in-Feed-clause-one_line
returns-in-Feed-clause-one_line g c =
    let marked = sym (c.if-not-starts_with.ensures.value ∙ ap is_prompt c.pending.ensures) in
    let spans = SpansLine-feed (g.S.Source.left c.hold_some.new.src) (g.S.Source.left c.find_end.new.src) (rw c.in-Feed.is at c.in_ok-at.ensures.end) (c.without_return-len.ensures ∙ ap (λ b. strip_return (take c.in-Feed.at b)) c.pending-in-Feed.ensures) in
    IfOk-weaker c.give.result _ _ (λ given is. prompt_one_line (unread c.args.self.now (g.S.Source.left c.args.src.now)) c.hold_some.new.self c.find_end.new.self (g.S.Source.left c.hold_some.new.src) (g.S.Source.left c.find_end.new.src) c.in_ok-hold_some.ensures.unread c.in_ok-at.ensures.unread c.in_ok-at.ensures.kept marked _ _ spans (λ l. l.items) given is) c.give.ensures.line

pub returns-in-Input-clause-line : goal.returns-in-Input-clause-line
returns-in-Input-clause-line g c =
    let marked = sym (c.if-not-starts_with.ensures.value ∙ ap is_prompt c.pending.ensures) in
    let spans = SpansLine-input (g.S.Source.left c.hold_some.new.src) (g.S.Source.left c.find_end.new.src) (rw c.in-Input.is at c.in_ok-at.ensures.end) c.pending-len.ensures (λ none. omega (arith, ap length c.pending-len.ensures, is_prompt-some c.find_end.new.self (StartsWith-prompt c.find_end.new.self c.hold_some.new.self c.in_ok-at.ensures.kept marked), none)) (c.find_end.ensures.input (c.in_ok-at.was ∙ ap Ok c.in-Input.is)) in
    IfOk-weaker c.give-in-Input.result _ _ (λ given is. prompt_told (unread c.args.self.now (g.S.Source.left c.args.src.now)) c.hold_some.new.self c.find_end.new.self (g.S.Source.left c.hold_some.new.src) (g.S.Source.left c.find_end.new.src) c.in_ok-hold_some.ensures.unread c.in_ok-at.ensures.unread c.in_ok-at.ensures.kept marked _ _ spans (option_map (λ l. l.items) given) is) c.give-in-Input.ensures.line

pub returns-in-Input-clause-rest : goal.returns-in-Input-clause-rest
returns-in-Input-clause-rest g c =
    let marked = sym (c.if-not-starts_with.ensures.value ∙ ap is_prompt c.pending.ensures) in
    let spans = SpansLine-input (g.S.Source.left c.hold_some.new.src) (g.S.Source.left c.find_end.new.src) (rw c.in-Input.is at c.in_ok-at.ensures.end) c.pending-len.ensures (λ none. omega (arith, ap length c.pending-len.ensures, is_prompt-some c.find_end.new.self (StartsWith-prompt c.find_end.new.self c.hold_some.new.self c.in_ok-at.ensures.kept marked), none)) (c.find_end.ensures.input (c.in_ok-at.was ∙ ap Ok c.in-Input.is)) in
    on_ok_weaker c.give-in-Input.result (rest_of_prompt_told (unread c.args.self.now (g.S.Source.left c.args.src.now)) c.hold_some.new.self c.find_end.new.self (g.S.Source.left c.hold_some.new.src) (g.S.Source.left c.find_end.new.src) c.in_ok-hold_some.ensures.unread c.in_ok-at.ensures.unread c.in_ok-at.ensures.kept marked _ _ spans c.give-in-Input.new.self) c.give-in-Input.ensures.rest

pub returns-in-Input-clause-long : goal.returns-in-Input-clause-long
returns-in-Input-clause-long g c is =
    let marked = sym (c.if-not-starts_with.ensures.value ∙ ap is_prompt c.pending.ensures) in
    let spans = SpansLine-input (g.S.Source.left c.hold_some.new.src) (g.S.Source.left c.find_end.new.src) (rw c.in-Input.is at c.in_ok-at.ensures.end) c.pending-len.ensures (λ none. omega (arith, ap length c.pending-len.ensures, is_prompt-some c.find_end.new.self (StartsWith-prompt c.find_end.new.self c.hold_some.new.self c.in_ok-at.ensures.kept marked), none)) (c.find_end.ensures.input (c.in_ok-at.was ∙ ap Ok c.in-Input.is)) in
    prompt_long_told (unread c.args.self.now (g.S.Source.left c.args.src.now)) c.hold_some.new.self c.find_end.new.self (g.S.Source.left c.hold_some.new.src) (g.S.Source.left c.find_end.new.src) c.in_ok-hold_some.ensures.unread c.in_ok-at.ensures.unread c.in_ok-at.ensures.kept marked _ _ spans 65536 (c.give-in-Input.ensures.long is)

pub returns-in-Input-clause-held_long : goal.returns-in-Input-clause-held_long
returns-in-Input-clause-held_long g c is =
    let marked = sym (c.if-not-starts_with.ensures.value ∙ ap is_prompt c.pending.ensures) in
    let spans = SpansLine-input (g.S.Source.left c.hold_some.new.src) (g.S.Source.left c.find_end.new.src) (rw c.in-Input.is at c.in_ok-at.ensures.end) c.pending-len.ensures (λ none. omega (arith, ap length c.pending-len.ensures, is_prompt-some c.find_end.new.self (StartsWith-prompt c.find_end.new.self c.hold_some.new.self c.in_ok-at.ensures.kept marked), none)) (c.find_end.ensures.input (c.in_ok-at.was ∙ ap Ok c.in-Input.is)) in
    prompt_long_here (unread c.args.self.now (g.S.Source.left c.args.src.now)) c.hold_some.new.self c.find_end.new.self (g.S.Source.left c.hold_some.new.src) (g.S.Source.left c.find_end.new.src) c.in_ok-hold_some.ensures.unread c.in_ok-at.ensures.unread c.in_ok-at.ensures.kept marked _ _ spans c.give-in-Input.new.self 65536 (IfErr-at_err _ is c.give-in-Input.ensures.err) (c.give-in-Input.ensures.long is)

pub returns-in-Input-clause-one_line : goal.returns-in-Input-clause-one_line
returns-in-Input-clause-one_line g c =
    let marked = sym (c.if-not-starts_with.ensures.value ∙ ap is_prompt c.pending.ensures) in
    let spans = SpansLine-input (g.S.Source.left c.hold_some.new.src) (g.S.Source.left c.find_end.new.src) (rw c.in-Input.is at c.in_ok-at.ensures.end) c.pending-len.ensures (λ none. omega (arith, ap length c.pending-len.ensures, is_prompt-some c.find_end.new.self (StartsWith-prompt c.find_end.new.self c.hold_some.new.self c.in_ok-at.ensures.kept marked), none)) (c.find_end.ensures.input (c.in_ok-at.was ∙ ap Ok c.in-Input.is)) in
    IfOk-weaker c.give-in-Input.result _ _ (λ given is. prompt_one_line (unread c.args.self.now (g.S.Source.left c.args.src.now)) c.hold_some.new.self c.find_end.new.self (g.S.Source.left c.hold_some.new.src) (g.S.Source.left c.find_end.new.src) c.in_ok-hold_some.ensures.unread c.in_ok-at.ensures.unread c.in_ok-at.ensures.kept marked _ _ spans (λ l. l.items) given is) c.give-in-Input.ensures.line

pub returns-in-TooFar-clause-long : goal.returns-in-TooFar-clause-long
returns-in-TooFar-clause-long g c _ =
    let marked = sym (c.if-not-starts_with.ensures.value ∙ ap is_prompt c.pending.ensures) in
    let far = rw c.in-TooFar.is at c.in_ok-at.ensures.end in
    far_prompt_told (unread c.args.self.now (g.S.Source.left c.args.src.now)) c.hold_some.new.self c.find_end.new.self (g.S.Source.left c.hold_some.new.src) (g.S.Source.left c.find_end.new.src) c.in_ok-hold_some.ensures.unread c.in_ok-at.ensures.unread c.in_ok-at.ensures.kept marked far.0 far.1

pub returns-in-TooFar-clause-held_long : goal.returns-in-TooFar-clause-held_long
returns-in-TooFar-clause-held_long g c _ =
    let marked = sym (c.if-not-starts_with.ensures.value ∙ ap is_prompt c.pending.ensures) in
    let far = rw c.in-TooFar.is at c.in_ok-at.ensures.end in
    far_prompt_here (unread c.args.self.now (g.S.Source.left c.args.src.now)) c.hold_some.new.self c.find_end.new.self (g.S.Source.left c.hold_some.new.src) (g.S.Source.left c.find_end.new.src) c.in_ok-hold_some.ensures.unread c.in_ok-at.ensures.unread c.in_ok-at.ensures.kept marked far.0 far.1
