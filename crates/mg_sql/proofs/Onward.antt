-- A token ends where it begins, or behind that place.
use Rattle.std.proofs.Common.{ℕ, ◌≤◌, List, arith}
use Rattle.mg_sql.specs.declared.token.Kind.{Kind}
use Rattle.mg_sql.specs.Lexing.{Stands, spelled, ended, past, stray}

-- what comes behind a token does not come before it
pub onward : {text : List ℕ} {at to next : ℕ} {k : Kind} → Stands text at to k → to ≤ next → at ≤ next
onward (spelled early some inside is least) h = omega arith
onward (ended early is) h = h
onward (past late) h = h
onward (stray early some bare none) h = h
