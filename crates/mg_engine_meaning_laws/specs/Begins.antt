-- A transaction begins, as a keeper of records owes it.
use Rattle.std.specs.Prelude.{◌≡◌, ◌<◌, ℕ, false, None, Result, IfOk}
use Rattle.mg_base.specs.Disk.{Meaning}
use Rattle.mg_base.specs.declared.numbers.TxNo.{TxNo}
use Rattle.mg_model.specs.declared.event.Event.TheVariants.{Begin}
use Rattle.mg_model.specs.declared.event.Mode.{Mode}
use Rattle.mg_model.specs.declared.refusal.Refusal.{Refusal}
use Rattle.mg_records.specs.Adding.{drawn_in, number_or}
use Rattle.mg_records.specs.Keeping.{refusal_in}
use Rattle.mg_records.specs.Sessions.{begun_in}
use Rattle.mg_works.specs.Works.{has_session}
use Rattle.mg_core.specs.declared.parts.Core.{Core}
use Rattle.mg_core.specs.Beginning.{BeginsFor}
use Rattle.mg_core.specs.Cores.{IsCore}
use Rattle.mg_engine_meaning_laws.specs.Counts.{HasCounts}
use Rattle.mg_engine_meaning_laws.specs.Frames.{GivesEvent}
use Rattle.mg_engine_meaning_laws.specs.Meaning.{Places, WorksFor}

-- the entry comes to the history; where the transaction begins, it is its session's from then on, and what is known
-- of tables and walks is that of the others
abbrev pub BeginsGive : (D P : Type 0) → Meaning D → Type 0
BeginsGive D P m = (places : Places P) (old new : Core D) (session : ℕ) (mode : Mode)
    (result : Result TxNo Refusal) → IsCore m old → IsCore m new → HasCounts old → session < 32
    → has_session old.works session ≡ false → BeginsFor m old new session mode result
    → GivesEvent m places old new (Begin session mode) (number_or result) (refusal_in result)
    (drawn_in result) (drawn_in result) (begun_in session result) None
    × IfOk result (λ t. WorksFor new t.0 session)
