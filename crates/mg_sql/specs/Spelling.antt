-- How tokens are spelled, and what they stand for.
use Rattle.std.specs.Prelude.{◌≡◌, ℕ, ◌+◌, ◌-◌, ◌*◌, ◌<◌, nat_le, Bool, ◌||◌, ◌&&◌, ◌==◌, if◌then◌else◌, List, [], ◌∷◌, ◌++◌, length, map, IsTrue, codes}
use Rattle.std.specs.List.{list_all}
use Rattle.mg_sql.specs.declared.token.Kind.{Kind}
use Rattle.mg_sql.specs.declared.token.Kind.TheVariants as kinds

-- blanks are space and tab
abbrev pub is_blank : ℕ → Bool
is_blank byte = byte == 32 || byte == 9

abbrev pub is_letter : ℕ → Bool
is_letter byte = nat_le 65 byte && nat_le byte 90 || nat_le 97 byte && nat_le byte 122

abbrev pub is_digit : ℕ → Bool
is_digit byte = nat_le 48 byte && nat_le byte 57

abbrev pub is_word_byte : ℕ → Bool
is_word_byte byte = is_letter byte || is_digit byte || byte == 95 || byte == 36

-- a byte as words fold it
abbrev pub capital : ℕ → ℕ
capital byte = if nat_le 97 byte && nat_le byte 122 then byte - 32 else byte

abbrev pub capitals : List ℕ → List ℕ
capitals word = map capital word

-- the number that digits spell
abbrev pub number_from : ℕ → List ℕ → ℕ
number_from n [] = n
number_from n (digit ∷ digits) = number_from (10 * n + (digit - 48)) digits

abbrev pub number : List ℕ → ℕ
number digits = number_from 0 digits

-- a text in single quotes, a quote in it doubled
abbrev pub doubled : List ℕ → List ℕ
doubled [] = []
doubled (byte ∷ bytes) = if byte == 39 then 39 ∷ 39 ∷ doubled bytes else byte ∷ doubled bytes

abbrev pub quoted : List ℕ → List ℕ
quoted value = 39 ∷ (doubled value ++ 39 ∷ [])

-- how a word of the grammar, or a symbol, is written in capitals
abbrev pub spelling : Kind → List ℕ
spelling kinds.Set = codes "SET"
spelling kinds.Transaction = codes "TRANSACTION"
spelling kinds.Read = codes "READ"
spelling kinds.Write = codes "WRITE"
spelling kinds.Only = codes "ONLY"
spelling kinds.Wait = codes "WAIT"
spelling kinds.No = codes "NO"
spelling kinds.Isolation = codes "ISOLATION"
spelling kinds.Level = codes "LEVEL"
spelling kinds.Snapshot = codes "SNAPSHOT"
spelling kinds.Committed = codes "COMMITTED"
spelling kinds.Commit = codes "COMMIT"
spelling kinds.Work = codes "WORK"
spelling kinds.Rollback = codes "ROLLBACK"
spelling kinds.To = codes "TO"
spelling kinds.Savepoint = codes "SAVEPOINT"
spelling kinds.Create = codes "CREATE"
spelling kinds.Table = codes "TABLE"
spelling kinds.Bigint = codes "BIGINT"
spelling kinds.Varchar = codes "VARCHAR"
spelling kinds.Not = codes "NOT"
spelling kinds.Null = codes "NULL"
spelling kinds.Primary = codes "PRIMARY"
spelling kinds.Key = codes "KEY"
spelling kinds.Index = codes "INDEX"
spelling kinds.On = codes "ON"
spelling kinds.Insert = codes "INSERT"
spelling kinds.Into = codes "INTO"
spelling kinds.Values = codes "VALUES"
spelling kinds.Update = codes "UPDATE"
spelling kinds.Where = codes "WHERE"
spelling kinds.Delete = codes "DELETE"
spelling kinds.From = codes "FROM"
spelling kinds.Select = codes "SELECT"
spelling kinds.Order = codes "ORDER"
spelling kinds.By = codes "BY"
spelling kinds.Asc = codes "ASC"
spelling kinds.Desc = codes "DESC"
spelling kinds.Count = codes "COUNT"
spelling kinds.Sum = codes "SUM"
spelling kinds.Or = codes "OR"
spelling kinds.And = codes "AND"
spelling kinds.Is = codes "IS"
spelling kinds.Open = codes "("
spelling kinds.Close = codes ")"
spelling kinds.Comma = codes ","
spelling kinds.Semicolon = codes ";"
spelling kinds.Star = codes "*"
spelling kinds.Plus = codes "+"
spelling kinds.Minus = codes "-"
spelling kinds.Slash = codes "/"
spelling kinds.Equal = codes "="
spelling kinds.Unequal = codes "<>"
spelling kinds.Less = codes "<"
spelling kinds.AtMost = codes "<="
spelling kinds.Greater = codes ">"
spelling kinds.AtLeast = codes ">="
spelling kinds.Name = []
spelling kinds.Integer = []
spelling kinds.Text = []
spelling kinds.End = []
spelling kinds.Stray = []

-- a word: it begins with a letter
pub record IsWord (bytes : List ℕ) : Type 0 where
  pub first : ℕ
  pub rest : List ℕ
  pub parts : bytes ≡ first ∷ rest
  pub letter : IsTrue (is_letter first)
  pub others : IsTrue (list_all is_word_byte rest)

-- The bytes spell a token of this kind. A word that no word of the grammar is spelled as is a name.
abbrev pub IsSpelled : Kind → List ℕ → Type 0
IsSpelled kinds.Name bytes = IsWord bytes × ((kind : Kind) → capitals bytes ≡ spelling kind → ⊥)
IsSpelled kinds.Integer bytes = (0 < length bytes) × IsTrue (list_all is_digit bytes)
IsSpelled kinds.Text bytes = (value : List ℕ) × (bytes ≡ quoted value)
IsSpelled kinds.End bytes = ⊥
IsSpelled kinds.Stray bytes = ⊥
IsSpelled kind bytes = capitals bytes ≡ spelling kind
