use Rattle.std.proofs.Common.{◌≡◌, ◌∙◌, ◌++◌, List, ap, subst, ℕ}
use Rattle.mg_transcript.specs.Transcript.{turn_of}
use Rattle.mg_scripts.specs.FaultLines.{fault_said}
use Rattle.mg_scripts.specs.Printing.{PrintsLine}
use Rattle.mg_scripts.proofs.printing.print_turn.Goals as goal

pub returns-in-Ok : goal.returns-in-Ok
returns-in-Ok g c =
    let said = turn_of c.args.line.now c.args.turn.now.reply c.args.turn.now.released.items in
    let least = fault_said c.args.line.now c.args.turn.now.reply c.args.turn.now.released.items in
    let is : c.deref.result.now ≡ said = c.deref.ensures.value
    ∙ (c.in-Ok.ensures.ok ∙ ap (λ (before : List ℕ). before ++ said) c.new-text.ensures.items) in
    subst (λ (bytes : List ℕ). PrintsLine g.K.Sink.meaning c.args.sink.now c.put_text.new.sink bytes least
    c.put_text.result) is (c.put_text.ensures least)
