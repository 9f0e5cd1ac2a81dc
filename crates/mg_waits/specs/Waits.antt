-- Who waits for whom, and what a transaction is told of another one that is in its way.
use Rattle.std.specs.Prelude.{◌≡◌, ◌≢◌, ◌⊎◌, ℕ, Bool, true, false, List, Option, Some, None}
use Rattle.std.specs.Map.{lookup}
use Rattle.std.specs.Ordering.{nat_cmp}
use Rattle.std.specs.BTreeMap.{is_at}
use Rattle.mg_base.specs.declared.transaction.TxState.{TxState}
use Rattle.mg_base.specs.declared.transaction.TxState.TheVariants as states
use Rattle.mg_model.specs.WaitLaws.{Leads}
use Rattle.mg_waits.specs.declared.verdict.Verdict.{Verdict}
use Rattle.mg_waits.specs.declared.verdict.Verdict.TheVariants as verdicts

-- for each transaction the one that it waits for, if it waits
abbrev pub Edges : Type 0
Edges = ℕ → Option ℕ

-- the waits that are listed, each transaction that waits beside the one that it waits for
abbrev pub edges_in : List (ℕ × ℕ) → Edges
edges_in waits t = lookup (is_at (nat_cmp t)) waits

-- the transaction waits for that one alone now, or for nobody; the others wait as they did
pub record NowWaits (old new : Edges) (t : ℕ) (on : Option ℕ) : Type 0 where
  pub its : new t ≡ on
  pub others : (u : ℕ) → u ≢ t → new u ≡ old u

-- where to wait for it comes back to t, that is a deadlock, and else t waits
abbrev pub WaitsUnlessClosed : Edges → ℕ → ℕ → Option Verdict → Type 0
WaitsUnlessClosed waits t by verdict =
    ((verdict ≡ Some verdicts.Deadlock) × Leads waits t by)
    ⊎ ((verdict ≡ Some verdicts.Wait) × (Leads waits t by → ⊥))

-- what t is told of `by`, by what has become of that one, and by whether t would wait
abbrev pub IsVerdict : Edges → ℕ → ℕ → TxState → Bool → Option Verdict → Type 0
IsVerdict waits t by states.Committed wait verdict = verdict ≡ Some verdicts.Update
IsVerdict waits t by states.Limbo wait verdict = verdict ≡ Some verdicts.Limbo
IsVerdict waits t by states.Active false verdict = verdict ≡ Some verdicts.Lock
IsVerdict waits t by states.Active true verdict = WaitsUnlessClosed waits t by verdict
IsVerdict waits t by states.Dead wait verdict = verdict ≡ None
