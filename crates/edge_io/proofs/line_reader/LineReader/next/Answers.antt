use Rattle.std.proofs.Common.{Ok, length, take, ap, ◌∙◌, arith}
use Rattle.std.proofs.lemmas.Result.{IfErr-at_err, IfOk-weaker, on_ok_weaker}
use Rattle.std.specs.Option.{option_map}
use Rattle.edge_io.specs.LineEnds.{strip_return}
use Rattle.edge_io.proofs.LinesLemmas.{first_line-whole}
use Rattle.edge_io.proofs.ReaderLemmas.{SpansLine-feed, SpansLine-input, length-strip_return_take, line_told, rest_told, long_told, long_here, one_line, far_told}
use Rattle.edge_io.proofs.line_reader.LineReader.next.Goals as goal

pub give-requires-clause-in_taken : goal.give-requires-clause-in_taken
give-requires-clause-in_taken g c = omega (arith, ap length c.without_return-len.ensures, length-strip_return_take c.in-Feed.at c.pending.result.now)

pub returns-in-Feed-clause-line : goal.returns-in-Feed-clause-line
returns-in-Feed-clause-line g c =
    let spans = SpansLine-feed (g.S.Source.left c.args.src.now) (g.S.Source.left c.find_end.new.src) (rw c.in-Feed.is at c.in_ok-at.ensures.end) (c.without_return-len.ensures ∙ ap (λ b. strip_return (take c.in-Feed.at b)) c.pending.ensures) in
    IfOk-weaker c.give.result _ _ (λ given is. line_told c.args.self.now c.in_ok-at.ensures.unread spans (option_map (λ l. l.items) given) is) c.give.ensures.line

pub returns-in-Feed-clause-rest : goal.returns-in-Feed-clause-rest
returns-in-Feed-clause-rest g c =
    let spans = SpansLine-feed (g.S.Source.left c.args.src.now) (g.S.Source.left c.find_end.new.src) (rw c.in-Feed.is at c.in_ok-at.ensures.end) (c.without_return-len.ensures ∙ ap (λ b. strip_return (take c.in-Feed.at b)) c.pending.ensures) in
    on_ok_weaker c.give.result (rest_told c.args.self.now c.in_ok-at.ensures.unread spans c.give.new.self) c.give.ensures.rest

pub returns-in-Feed-clause-long : goal.returns-in-Feed-clause-long
returns-in-Feed-clause-long g c is =
    let spans = SpansLine-feed (g.S.Source.left c.args.src.now) (g.S.Source.left c.find_end.new.src) (rw c.in-Feed.is at c.in_ok-at.ensures.end) (c.without_return-len.ensures ∙ ap (λ b. strip_return (take c.in-Feed.at b)) c.pending.ensures) in
    long_told c.args.self.now c.in_ok-at.ensures.unread spans 65536 (c.give.ensures.long is)

pub returns-in-Feed-clause-held_long : goal.returns-in-Feed-clause-held_long
returns-in-Feed-clause-held_long g c is =
    let spans = SpansLine-feed (g.S.Source.left c.args.src.now) (g.S.Source.left c.find_end.new.src) (rw c.in-Feed.is at c.in_ok-at.ensures.end) (c.without_return-len.ensures ∙ ap (λ b. strip_return (take c.in-Feed.at b)) c.pending.ensures) in
    long_here c.args.self.now c.in_ok-at.ensures.unread spans c.give.new.self 65536 (IfErr-at_err _ is c.give.ensures.err) (c.give.ensures.long is)

pub returns-in-Feed-clause-one_line : goal.returns-in-Feed-clause-one_line
returns-in-Feed-clause-one_line g c =
    let spans = SpansLine-feed (g.S.Source.left c.args.src.now) (g.S.Source.left c.find_end.new.src) (rw c.in-Feed.is at c.in_ok-at.ensures.end) (c.without_return-len.ensures ∙ ap (λ b. strip_return (take c.in-Feed.at b)) c.pending.ensures) in
    IfOk-weaker c.give.result _ _ (λ given is. one_line c.args.self.now c.in_ok-at.ensures.unread spans (λ l. l.items) given is) c.give.ensures.line

pub returns-else-len-eq0-clause-line : goal.returns-else-len-eq0-clause-line
returns-else-len-eq0-clause-line g c =
    let spans = SpansLine-input (g.S.Source.left c.args.src.now) (g.S.Source.left c.find_end.new.src) (rw c.in-Input.is at c.in_ok-at.ensures.end) c.pending-len.ensures c.if-len-eq0.false (c.find_end.ensures.input (c.in_ok-at.was ∙ ap Ok c.in-Input.is)) in
    IfOk-weaker c.give-in-Input.result _ _ (λ given is. line_told c.args.self.now c.in_ok-at.ensures.unread spans (option_map (λ l. l.items) given) is) c.give-in-Input.ensures.line

pub returns-else-len-eq0-clause-rest : goal.returns-else-len-eq0-clause-rest
returns-else-len-eq0-clause-rest g c =
    let spans = SpansLine-input (g.S.Source.left c.args.src.now) (g.S.Source.left c.find_end.new.src) (rw c.in-Input.is at c.in_ok-at.ensures.end) c.pending-len.ensures c.if-len-eq0.false (c.find_end.ensures.input (c.in_ok-at.was ∙ ap Ok c.in-Input.is)) in
    on_ok_weaker c.give-in-Input.result (rest_told c.args.self.now c.in_ok-at.ensures.unread spans c.give-in-Input.new.self) c.give-in-Input.ensures.rest

pub returns-else-len-eq0-clause-long : goal.returns-else-len-eq0-clause-long
returns-else-len-eq0-clause-long g c is =
    let spans = SpansLine-input (g.S.Source.left c.args.src.now) (g.S.Source.left c.find_end.new.src) (rw c.in-Input.is at c.in_ok-at.ensures.end) c.pending-len.ensures c.if-len-eq0.false (c.find_end.ensures.input (c.in_ok-at.was ∙ ap Ok c.in-Input.is)) in
    long_told c.args.self.now c.in_ok-at.ensures.unread spans 65536 (c.give-in-Input.ensures.long is)

pub returns-else-len-eq0-clause-held_long : goal.returns-else-len-eq0-clause-held_long
returns-else-len-eq0-clause-held_long g c is =
    let spans = SpansLine-input (g.S.Source.left c.args.src.now) (g.S.Source.left c.find_end.new.src) (rw c.in-Input.is at c.in_ok-at.ensures.end) c.pending-len.ensures c.if-len-eq0.false (c.find_end.ensures.input (c.in_ok-at.was ∙ ap Ok c.in-Input.is)) in
    long_here c.args.self.now c.in_ok-at.ensures.unread spans c.give-in-Input.new.self 65536 (IfErr-at_err _ is c.give-in-Input.ensures.err) (c.give-in-Input.ensures.long is)

pub returns-else-len-eq0-clause-one_line : goal.returns-else-len-eq0-clause-one_line
returns-else-len-eq0-clause-one_line g c =
    let spans = SpansLine-input (g.S.Source.left c.args.src.now) (g.S.Source.left c.find_end.new.src) (rw c.in-Input.is at c.in_ok-at.ensures.end) c.pending-len.ensures c.if-len-eq0.false (c.find_end.ensures.input (c.in_ok-at.was ∙ ap Ok c.in-Input.is)) in
    IfOk-weaker c.give-in-Input.result _ _ (λ given is. one_line c.args.self.now c.in_ok-at.ensures.unread spans (λ l. l.items) given is) c.give-in-Input.ensures.line

pub returns-in-TooFar-clause-long : goal.returns-in-TooFar-clause-long
returns-in-TooFar-clause-long g c _ =
    let far = rw c.in-TooFar.is at c.in_ok-at.ensures.end in
    far_told c.args.self.now c.find_end.new.self (g.S.Source.left c.args.src.now) (g.S.Source.left c.find_end.new.src) c.in_ok-at.ensures.unread far.0 far.1

pub returns-in-TooFar-clause-held_long : goal.returns-in-TooFar-clause-held_long
returns-in-TooFar-clause-held_long g c _ =
    let far = rw c.in-TooFar.is at c.in_ok-at.ensures.end in
    omega (arith, ap length (first_line-whole c.find_end.new.self far.0), far.1)
