-- A reading for a transaction that failed: nothing else comes of the call.
use Rattle.std.proofs.Common.{◌≡◌, ◌∙◌, true, None, Some, sym, ap, subst}
use Rattle.mg_base.specs.Disk.{Meaning}
use Rattle.mg_base.specs.declared.numbers.TxNo.{TxNo}
use Rattle.mg_core.specs.Cores.{Continues}
use Rattle.mg_core.specs.Reading.{FailsReading}
use Rattle.mg_core.specs.declared.parts.Core.{Core}
use Rattle.mg_core.specs.declared.scanning.Place.{Place}
use Rattle.mg_engine.specs.Noting.{OnlyLooks}
use Rattle.mg_engine_change_laws.specs.faults.FaultCoreLaws.{not_read}
use Rattle.mg_engine_meaning_laws.specs.Counts.{HasCounts}
use Rattle.mg_engine_meaning_laws.specs.FaultLaws.{IsOuter, fault_outer}
use Rattle.mg_engine_meaning_laws.specs.FrameLaws.{sessions_of, works_same}
use Rattle.mg_engine_meaning_laws.specs.Meaning.{Places, means}
use Rattle.mg_engine_meaning_laws.specs.Standings.{StandsFor}
use Rattle.mg_engine_meaning_laws.specs.Steps.{ReadsGoOn}
use Rattle.mg_image.specs.Form.{Pages}
use Rattle.mg_model.specs.History.{Entries}
use Rattle.mg_model.specs.declared.opening.Opening.{Opening}
use Rattle.mg_model.specs.declared.refusal.Refusal.{Refusal}
use Rattle.mg_no_damage_laws.specs.CoreSpendingLaws.{unread_other}
use Rattle.mg_no_damage_laws.specs.FewPagesLaws.{room_alike}
use Rattle.mg_no_damage_laws.specs.StageLaws.{unread_stands}
use Rattle.mg_no_damage_laws.specs.Stands.{TellsNone}
use Rattle.mg_pool.specs.Dirty.{DirtyPages}
use Rattle.mg_pool.specs.Pool.{shown}
use Rattle.mg_pool.specs.declared.pool.Pool.{Pool}
use Rattle.mg_records.specs.Adding.{IsRefused}
use Rattle.mg_records.specs.Crashing.{LeavesQuietly}
use Rattle.mg_records.specs.Keeping.{Reads}
use Rattle.mg_records.specs.Sessions.{SessionsStay}
use Rattle.mg_space.specs.declared.fault.SpaceFault.{SpaceFault}
use Rattle.mg_space.specs.declared.links.FireLinks.{FireLinks}

module _ {D : Type 0} (m : Meaning D) (reads : ReadsGoOn D Place m) (places : Places Place) (old new : Core D) (t : TxNo)
    (why : Pool D FireLinks → Pages → SpaceFault → Type 0) (refusal : Refusal) (continues : Continues old t.0)
    (counts : HasCounts old) (is : FailsReading m old new why refusal)
    (whole : (o : Opening) (h : Entries) → StandsFor m old o h → m.tells old.store.disk ≡ true → TellsNone refusal) where
  outer : IsOuter m places old
      (record old { store = new.store; damage = new.damage; shortages = new.shortages }) refusal
  outer = fault_outer m places old new.store new.damage new.shortages continues.0 is.keeps counts.damage
      counts.shortages is.fault refusal is.is is.own is.told is.counts

  both : Reads (means m places) old
      (record old { store = new.store; damage = new.damage; shortages = new.shortages }) (Some refusal) None
      × LeavesQuietly (means m places) old
      (record old { store = new.store; damage = new.damage; shortages = new.shortages })
  both = reads places old new.store new.damage new.shortages (Some refusal) None is.keeps outer.damage
      outer.shortages outer.may

  pub unread_looks : OnlyLooks m places old new (Some refusal)
  unread_looks = record {
    reads = subst (λ (c : Core D). Reads (means m places) old c (Some refusal) None) (sym is.same) both.0;
    crash = subst (λ (c : Core D). LeavesQuietly (means m places) old c) (sym is.same) both.1;
    sessions = subst (λ (c : Core D). SessionsStay (means m places) old c None None) (sym is.same)
        (sessions_of m places old (record old {
          store = new.store;
          damage = new.damage;
          shortages = new.shortages;
        }) t.0 (works_same old.works t.0));
    told = λ k. not_read m k old new why refusal is;
    undamaged = λ o h stands told. unread_stands m old new why refusal is (whole o h stands told);
    room = λ o h stands told. room_alike m old new (Some refusal)
        (λ i tells. record {
          told = sym is.keeps.disk.tells ∙ tells.told;
          held = sym is.keeps.disk.held ∙ tells.held;
        }) is.keeps.geometry
        (λ i n. ap (λ (d : DirtyPages). shown d i n) is.keeps.dirty)
        (unread_other m old new why refusal is);
    unwritten = is.keeps.disk.asked;
  }

  pub unread_refused : (o : Opening) (h : Entries) → IsRefused o h t.0 refusal
  unread_refused o h = outer.refused o h t.0
