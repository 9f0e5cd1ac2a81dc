-- The records of a table one by one, and the rows found in its indexes.
use Rattle.std.proofs.Common.{◌≡◌, ◌≢◌, ◌⊎◌, ◌↔◌, IsTrue, Bool, inl, inr, true, false, subst, List, [], ◌∷◌, None, Some, Result, Ok, Err}
use Rattle.std.specs.Prelude.{IfOk}
use Rattle.mg_base.specs.declared.numbers.RecId.{RecId}
use Rattle.mg_base.specs.declared.memory.Memory.{Memory}
use Rattle.mg_model.specs.declared.table.Table.{Table}
use Rattle.mg_image.specs.declared.entry.Entry.{Entry}
use Rattle.mg_image.specs.Records.{Reading}
use Rattle.mg_image.specs.StepLaws.{cases_place, same_place}
use Rattle.mg_image.specs.Tables.{Stand}
use Rattle.mg_reading.specs.declared.found.Found.{Found}
use Rattle.mg_reading.specs.declared.image.Image.{Image}
use Rattle.mg_reading.specs.Found.{AreOf, reading_of}
use Rattle.mg_soundness.specs.IndexRule.{EachAt, IsRecordIndexed, IsTableIndexed}
use Rattle.mg_soundness.specs.Joined.{AreSettled}

-- what each record that was read has, each that is read has
each_read : (P : RecId → List Entry → Type 0) → ((p : RecId) → P p []) → (found : List Found)
    → EachAt P found → (p : RecId) → P p (reading_of found p)
each_read P none [] each p = none p
each_read P none (f ∷ fs) each p = at (cases_place f.at p) (each_read P none fs each.1 p)
  where
    at : ((f.at ≡ p) × (same_place f.at p ≡ true)) ⊎ ((f.at ≢ p) × (same_place f.at p ≡ false))
        → P p (reading_of fs p) → P p (reading_of (f ∷ fs) p)
    at (inl (same, is)) later =
        rw is (subst (λ (x : RecId). P x f.entries.items) same each.0)
    at (inr (other, is)) later = rw is later

-- and the other way
each_found : (P : RecId → List Entry → Type 0) (r : Reading) (found : List Found)
    → AreOf r found → ((p : RecId) → P p (r p)) → EachAt P found
each_found P r [] of_ each = tt
each_found P r (f ∷ fs) of_ each =
    (rw of_.0 at (each f.at), each_found P r fs of_.1 each)

pub none_indexed : (image : Image) (t : Table) (p : RecId) → IsRecordIndexed image t p []
none_indexed image t p = record {
  committed = λ row shows. let no_ : None ≡ Some row = shows in absurd cc;
  limbo = λ e older newest limbo live. absurd cc;
}

pub table_indexed : (image : Image) (s : Stand) (found : List Found) → AreSettled found
    → (r : Result Bool Memory)
    → IfOk r (λ all. IsTrue all ↔ EachAt (IsRecordIndexed image s.table) found)
    → IfOk r (λ all. IsTrue all ↔ IsTableIndexed image s found)
unfolding IsTableIndexed
table_indexed image s found settled (Err fault) same = tt
table_indexed image s found settled (Ok all) same = (
  λ passed. each_read (IsRecordIndexed image s.table) (none_indexed image s.table) found
      (same.0 passed),
  λ each. same.1 (each_found (IsRecordIndexed image s.table) (reading_of found) found settled
      each),
)
