-- A dirty page: its number, its marks and its content.
use Rattle.std.specs.Prelude.{ℕ, List, Bool}

pub record DirtyPage : Type 0 where
  pub page : ℕ
  pub marks : List Bool
  pub bytes : List ℕ
