-- A begin and a page write over the core of an engine, which is its value.
use Rattle.std.proofs.Common.{◌≡◌, ◌⊎◌, inl, inr, ◌<◌, ℕ, false, Option, None, Some, Result, Ok, Err, sym, ap, subst}
use Rattle.std.specs.Prelude.{IfOk}
use Rattle.mg_base.specs.Disk.{Meaning}
use Rattle.mg_base.specs.declared.numbers.PageNo.{PageNo}
use Rattle.mg_base.specs.declared.numbers.TxNo.{TxNo}
use Rattle.mg_model.specs.declared.event.Event.TheVariants.{Begin}
use Rattle.mg_model.specs.declared.event.Mode.{Mode}
use Rattle.mg_model.specs.declared.refusal.Refusal.{Refusal}
use Rattle.mg_model.specs.declared.refusal.Refusal.TheVariants.{DiskWrite, Memory, Offline, TransactionLimit}
use Rattle.mg_records.specs.Adding.{drawn_in, number_or}
use Rattle.mg_records.specs.Keeping.{refusal_in}
use Rattle.mg_records.specs.Sessions.{begun_in}
use Rattle.mg_works.specs.Works.{AreApart, begun, has_session}
use Rattle.mg_works.specs.WorksLaws.{more_apart}
use Rattle.mg_core.specs.declared.parts.Core.{Core}
use Rattle.mg_core.specs.Beginning.{BeginsFor, FailsBegin}
use Rattle.mg_core.specs.Committing.{WritesPage}
use Rattle.mg_core.specs.Cores.{IsCore}
use Rattle.mg_engine_meaning_laws.specs.Begins.{BeginsGive}
use Rattle.mg_engine_meaning_laws.specs.Counts.{HasCounts}
use Rattle.mg_engine_meaning_laws.specs.NewWorks.{next_none}
use Rattle.mg_engine_meaning_laws.specs.NextPages.{NextPagesGoOn, WritesPages}
use Rattle.mg_engine_meaning_laws.specs.Frames.{GivesEvent}
use Rattle.mg_engine_meaning_laws.specs.Meaning.{Places, WorksFor}
use Rattle.mg_engine.specs.Engines.{IsEngine}

-- ---- each session has one active transaction at most

pub begins_apart : {D : Type 0} (m : Meaning D) (old new : Core D) (session : ℕ) (mode : Mode)
    (result : Result TxNo Refusal) → IsCore m old → session < 32 → has_session old.works session ≡ false
    → BeginsFor m old new session mode result → AreApart old.works → AreApart new.works
begins_apart {D} m old new session mode (Ok t) core low free begins apart =
    subst AreApart (sym (ap (λ (c : Core D). c.works) begins.same)) (more_apart old.works (begun t.0 session mode) apart
    (next_none m old t.0 core begins.number) free (record { session_below = low; lawful = tt; written_lawful = tt }))
begins_apart {D} m old new session mode (Err (Offline faults)) core low free (offline, same) apart =
    subst AreApart (sym (ap (λ (c : Core D). c.works) same)) apart
begins_apart {D} m old new session mode (Err TransactionLimit) core low free (online, past, same) apart =
    subst AreApart (sym (ap (λ (c : Core D). c.works) same)) apart
begins_apart {D} m old new session mode (Err refusal) core low free fails apart = at fails
  where
    at : FailsBegin m old new refusal ⊎ ((refusal ≡ Memory) × (old.store.offline ≡ None) × (new ≡ old))
        → AreApart new.works
    at (inl failed) = subst AreApart (sym (ap (λ (c : Core D). c.works) failed.same)) apart
    at (inr (is, online, same)) = subst AreApart (sym (ap (λ (c : Core D). c.works) same)) apart

pub pages_apart : {D : Type 0} (m : Meaning D) (old new : Core D) (result : Result (Option PageNo) Refusal)
    → WritesPage m old new result → AreApart old.works → AreApart new.works
pages_apart {D} m old new (Ok None) wrote apart = subst AreApart (sym (ap (λ (c : Core D). c.works) wrote.0)) apart
pages_apart {D} m old new (Ok (Some page)) (goal, online, least, wrote) apart =
    subst AreApart (sym (ap (λ (c : Core D). c.works) wrote.others)) apart
pages_apart {D} m old new (Err (DiskWrite count)) fails apart =
    subst AreApart (sym (ap (λ (c : Core D). c.works) fails.others)) apart
pages_apart {D} m old new (Err (Offline count)) wrote apart =
    subst AreApart (sym (ap (λ (c : Core D). c.works) wrote.0)) apart
pages_apart m old new (Err refusal) wrong apart = absurd wrong

-- ---- the laws

module _ {D P : Type 0} (m : Meaning D) (places : Places P) (inside old new : Core D) (same : inside ≡ old)
    (is : IsEngine m inside) where
  pub begins_as : BeginsGive D P m → (session : ℕ) (mode : Mode) (result : Result TxNo Refusal) → IsCore m new
      → HasCounts inside → session < 32 → has_session old.works session ≡ false
      → BeginsFor m inside new session mode result
      → GivesEvent m places old new (Begin session mode) (number_or result) (refusal_in result) (drawn_in result)
      (drawn_in result) (begun_in session result) None × IfOk result (λ t. WorksFor new t.0 session)
  begins_as law session mode result new_core counts low free begins = subst
      (λ (c : Core D). GivesEvent m places c new (Begin session mode) (number_or result) (refusal_in result)
      (drawn_in result) (drawn_in result) (begun_in session result) None
      × IfOk result (λ t. WorksFor new t.0 session)) same
      (law places inside new session mode result is.lawful new_core counts low
      (subst (λ (c : Core D). has_session c.works session ≡ false) (sym same) free) begins)

  pub pages_as : NextPagesGoOn D P m → (result : Result (Option PageNo) Refusal) → WritesPage m inside new result
      → WritesPages m places old new result
  pages_as law result wrote = subst (λ (c : Core D). WritesPages m places c new result) same
      (law places inside new result is.lawful wrote)
