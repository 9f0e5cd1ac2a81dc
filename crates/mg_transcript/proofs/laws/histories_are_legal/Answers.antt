use Rattle.mg_transcript.specs.LegalLaws.{obeyed_legal, cut_legal}
use Rattle.mg_transcript.proofs.laws.histories_are_legal.Goals as goal

pub returns-clause-whole : goal.returns-clause-whole
returns-clause-whole c = λ o size turns h pending lines. obeyed_legal lines

pub returns-clause-cut : goal.returns-clause-cut
returns-clause-cut c = λ o size turns h pending lines. cut_legal lines
