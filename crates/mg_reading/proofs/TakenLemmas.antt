-- A record whose key is taken has a version.
use Rattle.std.proofs.Common.{◌≡◌, ◌<◌, inl, inr, ℕ, List, [], ◌∷◌, length, Option, Some, None, arith}
use Rattle.mg_image.specs.declared.entry.Entry.{Entry}
use Rattle.mg_image.specs.RecordRules.{Facts, TakesKey}

none_some : {A : Type 0} (x : A) → None ≡ Some x → ⊥
none_some x is = absurd cc

pub some_entry : (f : Facts) (es : List Entry) → TakesKey f es → 0 < length es
some_entry f [] (inl (row, is)) = absurd (none_some row is)
some_entry f [] (inr limbo) = absurd limbo
some_entry f (e ∷ es) takes = omega arith
