-- A statement begins, as a keeper of records owes it.
use Rattle.std.specs.Prelude.{None, Some, Result, MatchResult}
use Rattle.mg_base.specs.Disk.{Meaning}
use Rattle.mg_base.specs.declared.numbers.TxNo.{TxNo}
use Rattle.mg_model.specs.declared.event.Event.TheVariants.{Look}
use Rattle.mg_model.specs.declared.refusal.Refusal.{Refusal}
use Rattle.mg_records.specs.Adding.{fine_or}
use Rattle.mg_records.specs.Keeping.{refusal_in}
use Rattle.mg_core.specs.declared.parts.Core.{Core}
use Rattle.mg_core.specs.Events.{IsRefused, Looks}
use Rattle.mg_engine_meaning_laws.specs.Frames.{GivesEvent}
use Rattle.mg_engine_meaning_laws.specs.Meaning.{Places}

-- the entry comes to the history; the tables that were given to the transaction may be others then, and its walks
abbrev pub LooksGoOn : (D P : Type 0) → Meaning D → Type 0
LooksGoOn D P m = (places : Places P) (old new : Core D) (t : TxNo) (result : Result (Unit {0}) Refusal)
    → MatchResult result (λ _. Looks old new t.0) (IsRefused old new t.0)
    → GivesEvent m places old new (Look t) (fine_or result) (refusal_in result) (Some t.0) (Some t.0) None
    None
