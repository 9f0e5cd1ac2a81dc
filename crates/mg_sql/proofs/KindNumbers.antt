-- Kinds of tokens told apart by numbers, so that no tactic is asked where much is known.
use Rattle.std.proofs.Common.{◌≡◌, ◌≢◌, ℕ, Bool, false, ap}
use Rattle.std.proofs.Math.Dec.{eqb}
use Rattle.std.proofs.lemmas.Bool.{eqb-false}
use Rattle.mg_sql.specs.declared.token.Kind.{Kind}
use Rattle.mg_sql.specs.declared.token.Kind.TheVariants as kinds

-- each kind has a number of its own
abbrev pub number_of : Kind → ℕ
number_of kinds.Set = 0
number_of kinds.Transaction = 1
number_of kinds.Read = 2
number_of kinds.Write = 3
number_of kinds.Only = 4
number_of kinds.Wait = 5
number_of kinds.No = 6
number_of kinds.Isolation = 7
number_of kinds.Level = 8
number_of kinds.Snapshot = 9
number_of kinds.Committed = 10
number_of kinds.Commit = 11
number_of kinds.Work = 12
number_of kinds.Rollback = 13
number_of kinds.To = 14
number_of kinds.Savepoint = 15
number_of kinds.Create = 16
number_of kinds.Table = 17
number_of kinds.Bigint = 18
number_of kinds.Varchar = 19
number_of kinds.Not = 20
number_of kinds.Null = 21
number_of kinds.Primary = 22
number_of kinds.Key = 23
number_of kinds.Index = 24
number_of kinds.On = 25
number_of kinds.Insert = 26
number_of kinds.Into = 27
number_of kinds.Values = 28
number_of kinds.Update = 29
number_of kinds.Where = 30
number_of kinds.Delete = 31
number_of kinds.From = 32
number_of kinds.Select = 33
number_of kinds.Order = 34
number_of kinds.By = 35
number_of kinds.Asc = 36
number_of kinds.Desc = 37
number_of kinds.Count = 38
number_of kinds.Sum = 39
number_of kinds.Or = 40
number_of kinds.And = 41
number_of kinds.Is = 42
number_of kinds.Open = 43
number_of kinds.Close = 44
number_of kinds.Comma = 45
number_of kinds.Semicolon = 46
number_of kinds.Star = 47
number_of kinds.Plus = 48
number_of kinds.Minus = 49
number_of kinds.Slash = 50
number_of kinds.Equal = 51
number_of kinds.Unequal = 52
number_of kinds.Less = 53
number_of kinds.AtMost = 54
number_of kinds.Greater = 55
number_of kinds.AtLeast = 56
number_of kinds.Name = 57
number_of kinds.Integer = 58
number_of kinds.Text = 59
number_of kinds.End = 60
number_of kinds.Stray = 61

pub apart : {j k : Kind} → eqb (number_of j) (number_of k) ≡ false → j ≢ k
apart {j = j} {k = k} different same = eqb-false (number_of j) (number_of k) different (ap number_of same)
