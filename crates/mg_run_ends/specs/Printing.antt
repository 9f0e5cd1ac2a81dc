-- What the sink takes.
use Rattle.std.specs.Prelude.{◌≡◌, ℕ, List, ◌++◌, take, Some}
use Rattle.mg_base.specs.Disk.{Rose}
use Rattle.mg_base.specs.Streams.{SinkMeaning}

-- The sink took these bytes, or a part of them from the first on where its count of faults rose.
pub record IsPrinted {K : Type 0} (n : SinkMeaning K) (old new : K) (bytes : List ℕ) : Type 0 where
  pub prefix : (before : List ℕ) → n.taken old ≡ Some before
      → (count : ℕ) × (n.taken new ≡ Some (before ++ take count bytes))
  pub whole : (Rose (n.faults old) (n.faults new) → ⊥) → (before : List ℕ) → n.taken old ≡ Some before
      → n.taken new ≡ Some (before ++ bytes)
