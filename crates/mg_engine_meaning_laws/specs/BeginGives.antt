-- A begin, whatever it answers.
use Rattle.std.proofs.Common.{◌≡◌, ◌⊎◌, inl, inr, ◌==◌, ◌<◌, ◌≤◌, ℕ, false, None, Some, Result, Ok, Err, refl, sym, subst, arith}
use Rattle.std.specs.Prelude.{IfOk, if◌then◌else◌}
use Rattle.std.proofs.lemmas.Bool.{eq-eqb}
use Rattle.mg_base.specs.Disk.{Meaning}
use Rattle.mg_base.specs.declared.numbers.TxNo.{TxNo}
use Rattle.mg_header.specs.declared.header.TheConstants.{GREATEST_NEXT}
use Rattle.mg_model.specs.declared.answer.Answer.{Answer}
use Rattle.mg_model.specs.declared.answer.Answer.TheVariants.{No, Tx}
use Rattle.mg_model.specs.declared.event.Event.TheVariants.{Begin}
use Rattle.mg_model.specs.declared.event.Mode.{Mode}
use Rattle.mg_model.specs.declared.opening.Opening.{Opening}
use Rattle.mg_model.specs.declared.refusal.Refusal.{Refusal}
use Rattle.mg_model.specs.declared.refusal.Refusal.TheVariants.{Memory, Offline, TransactionLimit}
use Rattle.mg_model.specs.History.{Entries, entry}
use Rattle.mg_model.specs.Legal.{IsLawful}
use Rattle.mg_model.specs.Machine.{next_number}
use Rattle.mg_engine_step_laws.specs.commits.PageWrites.{PageWritesFail}
use Rattle.mg_engine_step_laws.specs.commits.Idle.{IdleGoesOn}
use Rattle.mg_engine_step_laws.specs.writes.Batches.{ReadsLast}
use Rattle.mg_image.specs.Form.{packed_form}
use Rattle.mg_lasting_laws.specs.Changing.{QuietHolds}
use Rattle.mg_records.specs.Adding.{drawn_in, number_or}
use Rattle.mg_records.specs.Keeping.{refusal_in}
use Rattle.mg_records.specs.Sessions.{begun_in}
use Rattle.mg_space.specs.declared.links.FireLinks.{FireLinks}
use Rattle.mg_engine_step_laws.specs.standing.Following.{StandsOn}
use Rattle.mg_txlist.specs.TxList.{next_said}
use Rattle.mg_works.specs.Works.{has_session}
use Rattle.mg_core.specs.declared.parts.Core.{Core}
use Rattle.mg_core.specs.Beginning.{BeginsFor, FailsBegin}
use Rattle.mg_core.specs.Cores.{IsCore}
use Rattle.mg_engine_meaning_laws.specs.Frames.{GivesEvent, MayAnswer}
use Rattle.mg_engine_meaning_laws.specs.LawfulLaws.{memory_of}
use Rattle.mg_engine_meaning_laws.specs.Meaning.{Places, WorksFor}
use Rattle.mg_engine_meaning_laws.specs.Standings.{StandsFor}
use Rattle.mg_engine_meaning_laws.specs.Counts.{HasCounts}
use Rattle.mg_engine_meaning_laws.specs.BegunLaws.{KnownOfDraws, begun_gives, begun_works}
use Rattle.mg_engine_meaning_laws.specs.FailedDraws.{failed_gives}
use Rattle.mg_engine_meaning_laws.specs.CallsRefusedLaws.{refused_gives}
use Rattle.mg_engine_meaning_laws.specs.StillLaws.{still_quiet, still_reads, still_sessions}

-- The laws below on which a refused begin stands.
pub record KnownOfRefusals {D : Type 0} (m : Meaning D) : Type 0 where
  pub idle : IdleGoesOn D FireLinks m packed_form
  pub on : StandsOn packed_form
  pub quiet : QuietHolds packed_form
  pub reads : ReadsLast D FireLinks m packed_form
  pub failing : PageWritesFail D FireLinks m packed_form

-- once all numbers are drawn the machine refuses
limit_answer : (next limit : ℕ) → next ≡ limit
    → ◌≡◌ {A = Answer} (if next == limit then No TransactionLimit else Tx (record { 0 = next })) (No TransactionLimit)
limit_answer next limit same = rw (eq-eqb next limit same) refl

module _ {D P : Type 0} (m : Meaning D) (places : Places P) (known : KnownOfDraws m) (refusals : KnownOfRefusals m)
    (old : Core D) (session : ℕ) (mode : Mode) (core : IsCore m old) where
  -- a begin that was refused before anything was changed
  refused_still : (refusal : Refusal)
      → ((o : Opening) (h : Entries) → StandsFor m old o h → IsLawful o h (entry (Begin session mode) (No refusal)))
      → MayAnswer m places old old (Some refusal)
      → GivesEvent m places old old (Begin session mode) (No refusal) (Some refusal) None None None None
  refused_still refusal lawful may = refused_gives m places refusals.idle refusals.on refusals.quiet old old session mode
      refusal lawful (still_reads m places old (Some refusal) may) (still_quiet m places old)
      (still_sessions m places old)

  all_drawn : GREATEST_NEXT ≤ next_said old.list → (o : Opening) (h : Entries) → StandsFor m old o h
      → IsLawful o h (entry (Begin session mode) (No TransactionLimit))
  all_drawn past o h stands = inl (sym (limit_answer (next_number o h) o.limit.0 (
      let next : next_said old.list ≡ next_number o h = (memory_of m old o h stands).next in
      let limit : GREATEST_NEXT ≡ o.limit.0 = (memory_of m old o h stands).limit in
      let most = core.list.most in omega (arith, past, next, limit, most))))

  short : (new : Core D) (refusal : Refusal) → HasCounts old → FailsBegin m old new refusal
      ⊎ ((refusal ≡ Memory) × (old.store.offline ≡ None) × (new ≡ old))
      → GivesEvent m places old new (Begin session mode) (No refusal) (Some refusal) None None None None
  short new refusal counts (inl fails) = failed_gives m places refusals.idle refusals.on refusals.quiet known.openings
      refusals.reads refusals.failing old new session mode refusal counts fails
  short new refusal counts (inr (is, online, same)) = subst (λ (r : Refusal). GivesEvent m places old new
      (Begin session mode) (No r) (Some r) None None None None) (sym is) (subst (λ (c : Core D). GivesEvent m places old c
      (Begin session mode) (No Memory) (Some Memory) None None None None) (sym same)
      (refused_still Memory (λ o h stands. inr refl) (record { cause = tt; offline = rw online tt; down = refl })))

  pub begin_gives : (new : Core D) (result : Result TxNo Refusal) → IsCore m new → HasCounts old → session < 32
      → has_session old.works session ≡ false → BeginsFor m old new session mode result
      → GivesEvent m places old new (Begin session mode) (number_or result) (refusal_in result) (drawn_in result)
      (drawn_in result) (begun_in session result) None × IfOk result (λ t. WorksFor new t.0 session)
  begin_gives new (Ok t) new_core counts low free begins =
      subst (λ (c : Core D). GivesEvent m places old c (Begin session mode) (Tx t) None (Some t.0) (Some t.0)
      (Some session) None × WorksFor c t.0 session) (sym begins.same) (
        begun_gives m places known old new.store new.list session mode t core new_core.list low free begins.online.0
            begins.number begins.below begins.adds begins.draws,
        begun_works m places known old new.store new.list session mode t core new_core.list low free begins.online.0
            begins.number begins.below begins.adds begins.draws,
      )
  begin_gives new (Err (Offline faults)) new_core counts low free (offline, same) = (
    subst (λ (c : Core D). GivesEvent m places old c (Begin session mode) (No (Offline faults)) (Some (Offline faults))
        None None None None) (sym same) (refused_still (Offline faults) (λ o h stands. inr refl)
        (record { cause = offline; offline = rw offline refl; down = refl })),
    tt,
  )
  begin_gives new (Err TransactionLimit) new_core counts low free (online, past, same) = (
    subst (λ (c : Core D). GivesEvent m places old c (Begin session mode) (No TransactionLimit) (Some TransactionLimit)
        None None None None) (sym same) (refused_still TransactionLimit (all_drawn past)
        (record { cause = tt; offline = rw online tt; down = refl })),
    tt,
  )
  begin_gives new (Err refusal) new_core counts low free fails = (short new refusal counts fails, tt)
