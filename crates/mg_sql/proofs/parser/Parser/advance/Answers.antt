use Rattle.std.proofs.Common.{refl}
use Rattle.mg_sql.specs.Lexing.{one, none}
use Rattle.mg_sql.proofs.Onward.{onward}
use Rattle.mg_sql.proofs.parser.Parser.advance.Goals as goal

pub returns-clause-keeps : goal.returns-clause-keeps
returns-clause-keeps c = record {
  text = refl;
  ready = record { stands = c.scan-at.ensures.token; inside = c.scan-at.ensures.blanks.inside };
  forward = onward c.requires.ready.stands c.scan-at.ensures.blanks.order;
}

pub returns-clause-token : goal.returns-clause-token
returns-clause-token c = one c.requires.ready.stands c.scan-at.ensures.blanks none

pub returns-clause-behind : goal.returns-clause-behind
returns-clause-behind c = c.scan-at.ensures.blanks.order
