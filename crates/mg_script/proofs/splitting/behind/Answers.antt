use Rattle.mg_script.proofs.SplittingLemmas.{front_stands, front_differs}
use Rattle.mg_script.proofs.splitting.behind.Goals as goal

pub returns-in_default : goal.returns-in_default
returns-in_default c = λ rest is.
    front_differs c.args.text.now c.args.word.now rest c.in_default.ensures.cases is

pub returns : goal.returns
returns c =
    front_stands c.args.text.now c.args.word.now c.in-Some.rest.now c.in-Some.ensures.cases.0 c.in-Some.ensures.cases.1
