use Rattle.std.proofs.Common.{◌≡◌, ℕ, List, Result, Ok, Err, sym, subst}
use Rattle.mg_sql.specs.declared.token.Kind.TheVariants as kinds
use Rattle.mg_statements.specs.declared.fault.SqlFault.{SqlFault}
use Rattle.mg_sql.specs.declared.parser.Parser.{Parser}
use Rattle.mg_sql.specs.Statements as g
use Rattle.mg_sql.specs.Statements.{Rest}
use Rattle.mg_sql.specs.Reading.{Keeps, TellsName}
use Rattle.mg_sql.specs.Going.{Goes}
use Rattle.mg_sql.proofs.Moves.{wrong, never_name, name_read, name_long}
use Rattle.mg_sql.proofs.parts.name.Goals as goal

pub returns-then-not-is-clause-told : goal.returns-then-not-is-clause-told
returns-then-not-is-clause-told c then_ = wrong c.args.p.now _ (never_name c.if-not-is.ensures) c.syntax.ensures

told_name : (then_ : List ℕ → Rest) (old new : Parser) → Keeps old new → old.kind ≡ kinds.Name → (result : Result (List ℕ) SqlFault) → TellsName old new result
    → Goes (λ name. name) (g.name then_) then_ old new result
told_name then_ old new keeps same (Ok w) told = name_read old new w keeps same told.0 told.1 told.2
told_name then_ old new keeps same (Err e) told = name_long then_ old new e same told

pub returns-clause-keeps : goal.returns-clause-keeps
returns-clause-keeps c = c.name.ensures.keeps

pub returns-clause-told : goal.returns-clause-told
returns-clause-told c then_ = told_name then_ c.args.p.now c.name.new.self c.name.ensures.keeps c.if-not-is.ensures c.name.result c.name.ensures.told
