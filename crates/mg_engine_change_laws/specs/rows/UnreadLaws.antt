-- A reading that a write wants before it begins has failed: the write gives its event with the refusal.
use Rattle.std.proofs.Common.{inr, None, Some, refl, sym, ap, subst}
use Rattle.mg_base.specs.Disk.{Meaning}
use Rattle.mg_base.specs.declared.numbers.TxNo.{TxNo}
use Rattle.mg_core.specs.Cores.{IsCore}
use Rattle.mg_core.specs.Reading.{FailsReading}
use Rattle.mg_core.specs.declared.parts.Core.{Core}
use Rattle.mg_engine_step_laws.specs.writes.Batches.{ReadsLast}
use Rattle.mg_engine_step_laws.specs.standing.Following.{StandsOn}
use Rattle.mg_engine_step_laws.specs.commits.Idle.{IdleGoesOn}
use Rattle.mg_image.specs.Form.{Pages, packed_form}
use Rattle.mg_lasting_laws.specs.Changing.{QuietHolds}
use Rattle.mg_model.specs.Laws.{OpeningsBegin}
use Rattle.mg_model.specs.declared.refusal.Refusal.{Refusal}
use Rattle.mg_model.specs.declared.table.Table.{Table}
use Rattle.mg_pool.specs.declared.pool.Pool.{Pool}
use Rattle.mg_records.specs.Writing.{event_of}
use Rattle.mg_records.specs.declared.write.Write.{Write}
use Rattle.mg_space.specs.ViewLaws.{CountsNow, keeps_itself}
use Rattle.mg_space.specs.declared.fault.SpaceFault.{SpaceFault}
use Rattle.mg_space.specs.declared.links.FireLinks.{FireLinks}
use Rattle.mg_waits.specs.Waits.{NowWaits, edges_in}
use Rattle.mg_engine_change_laws.specs.memory.NoteLaws.{notes_give}
use Rattle.mg_engine_change_laws.specs.memory.Notes.{AreCounts, HasRead}
use Rattle.mg_engine_change_laws.specs.rows.RefusalLaws.{passing_event, whose_event}
use Rattle.mg_engine_change_laws.specs.rows.Refusals.{RefusesStill}
use Rattle.mg_engine_change_laws.specs.rows.StopLaws.{fault_outer, unread_stops}
use Rattle.mg_engine_change_laws.specs.rows.Stops.{IsStopped}
use Rattle.mg_engine_change_laws.specs.rows.Unread.{LeavesUnread}
use Rattle.mg_engine_meaning_laws.specs.Meaning.{Places}

module _ {D P : Type 0} (m : Meaning D) (places : Places P) (counts_now : CountsNow m) (idle : IdleGoesOn D FireLinks m packed_form)
    (on : StandsOn packed_form) (quiet : QuietHolds packed_form) (begin : OpeningsBegin)
    (last : ReadsLast D FireLinks m packed_form) (old new : Core D) (t : TxNo) (refusal : Refusal)
    (why : Pool D FireLinks → Pages → SpaceFault → Type 0) (core : IsCore m old) (fits : AreCounts old)
    (is : LeavesUnread m old new t.0 why refusal) where
  -- as if the wait had ended first
  abbrev mid : Core D
  mid = record old { waits = new.waits }

  waited : HasRead m old mid t.0
  waited = record {
    keeps = keeps_itself m old.store core.pool;
    over = subst (λ (c : Core D). NowWaits (edges_in c.waits) (edges_in new.waits) t.0 None) is.fails.same is.ends.over;
    same = refl;
  }

  failed : FailsReading m mid new why refusal
  failed = subst (λ (c : Core D). FailsReading m mid c why refusal) (sym is.ends.same) (record {
    fault = is.fails.fault;
    is = is.fails.is;
    own = is.fails.own;
    told = is.fails.told;
    keeps = is.fails.keeps;
    caused = is.fails.caused;
    counts = is.fails.counts;
    same = ap (λ (c : Core D). record c { waits = new.waits; works = c.works; live = c.live }) is.fails.same;
  })

  stopped : IsStopped m places old new t.0 refusal
  stopped = unread_stops m places counts_now old mid new t.0 is.continues.0 fits waited refusal why failed

  pub unread_gives : (table : Table) (write : Write)
      → RefusesStill m places old new (event_of t table.name write) refusal t.0
  unread_gives table write = record {
    gives = notes_give m places idle on quiet begin last old new t.0 (event_of t table.name write) refusal None
        (Some t.0) stopped.notes (whose_event t table.name write) (passing_event t table.name write)
        (λ o h stands. inr (fault_outer is.fails.fault refusal is.fails.is)) stopped.may;
    works = ap (λ (c : Core D). c.works) stopped.notes.same;
  }
