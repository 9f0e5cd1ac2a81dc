use Rattle.std.proofs.Common.{rules, ◌≡◌, Bool, true, false, sym}
use denote.Enum.Bare.{same_true, same_false, sameb}
use Rattle.mg_sql.specs.contracts.token.Kind.{the_type}
use Rattle.mg_sql.specs.declared.token.Kind.{Kind}
use Rattle.mg_sql.specs.Reading.{Decides}
use Rattle.mg_sql.proofs.parser.Parser.is.Goals as goal

decides : (a b : Kind) (r : Bool) → r ≡ sameb the_type a b → Decides (a ≡ b) r
decides a b true e = same_true the_type (search rules) a b (sym e)
decides a b false e = same_false the_type a b (sym e)

pub returns : goal.returns
returns c = decides c.args.self.now.kind c.args.kind c.eq.result c.eq.ensures
