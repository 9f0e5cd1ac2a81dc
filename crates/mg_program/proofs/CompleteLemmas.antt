-- A run on which nothing fails comes to its end.
use Rattle.std.proofs.Common.{◌≡◌, ◌⊎◌, ℕ, true, false, List, inl, inr, refl, ap, ◌∙◌, subst, arith}
use Rattle.mg_base.specs.Disk.{Meaning, Rose}
use Rattle.mg_base.specs.Streams.{SinkMeaning, SourceMeaning}
use Rattle.mg_engine_meaning_laws.specs.Openings.{IsNoJudgement}
use Rattle.mg_model.specs.declared.opening.Opening.{Opening}
use Rattle.mg_model.specs.declared.refusal.Refusal.{Refusal}
use Rattle.mg_model.specs.declared.refusal.Refusal.TheVariants as refusals
use Rattle.mg_run_ends.specs.declared.ending.RunEnd.{RunEnd}
use Rattle.mg_run_ends.specs.declared.ending.RunEnd.TheVariants.{InLine, Outside, ScriptTooLong, Stream, Whole}
use Rattle.mg_run_ends.specs.Ends.{EndsWith, FailsWith, refused_status, status, status_of}
use Rattle.mg_runs.specs.Entry.{limit_on}
use Rattle.mg_runs.specs.Headline.{AreServed, AreUnserved, EndsBehind, Headline, IsOpeningFault, IsUnjudged}
use Rattle.mg_runs.specs.Promise.{IsReadingEnd, Promise}
use Rattle.mg_runs.specs.UnjudgedLaws.{stops_so}
use Rattle.mg_script.specs.Lines.{IsScript}
use Rattle.mg_script.specs.declared.line.Line.{Line}
use Rattle.mg_scripts.specs.Ending.{fine_at}
use Rattle.mg_scripts.specs.Runs.{AreRun}
use Rattle.mg_scripts.specs.declared.lines.LinesEnd.{LinesEnd}
use Rattle.mg_scripts.specs.declared.lines.LinesEnd.TheVariants as lines_ends
use Rattle.mg_transcript.specs.Lines.{last_reply}
use Rattle.mg_transcript.specs.Shorthand.{stops_run}
use Rattle.mg_program.specs.Complete.{IsComplete, IsShort, RunsAreComplete}

module _ {D : Type 0} (m : Meaning D) (old new : D) (ok : Rose (m.faults old) (m.faults new) → ⊥) where
  -- the status of a refusal that is none of the disk's faults, and no judgement of what the disk holds
  by_refusal : (refusal : Refusal) → FailsWith m old new refusal → IsNoJudgement refusal
      → (refused_status refusal ≡ status 1) ⊎ (refusal ≡ refusals.Memory)
  by_refusal (refusals.DiskRead faults) fails judged = absurd (ok fails.0)
  by_refusal (refusals.DiskWrite faults) fails judged = absurd (ok fails.0)
  by_refusal (refusals.Offline faults) fails judged = absurd (ok fails.0)
  by_refusal (refusals.NotADatabase field found) fails judged = absurd judged
  by_refusal (refusals.Damaged page field found wanted) fails judged = absurd judged
  by_refusal refusals.Memory fails judged = inr refl
  by_refusal refusal fails judged = inl refl

  -- and of one by which a run stops within its lines,
  in_line : (refusal : Refusal) → stops_run refusal ≡ true → FailsWith m old new refusal → IsNoJudgement refusal
      → refusal ≡ refusals.Memory
  in_line (refusals.DiskRead faults) stops fails judged = absurd (ok fails.0)
  in_line (refusals.DiskWrite faults) stops fails judged = absurd (ok fails.0)
  in_line (refusals.Offline faults) stops fails judged = absurd (ok fails.0)
  in_line (refusals.Damaged page field found wanted) stops fails judged = absurd judged
  in_line refusals.Memory stops fails judged = refl
  in_line refusal stops fails judged = absurd cc

  -- or at the opening
  at_opening : (refusal : Refusal) → IsOpeningFault refusal → FailsWith m old new refusal
      → refusal ≡ refusals.Memory
  at_opening (refusals.DiskRead faults) cause fails = absurd (ok fails.0)
  at_opening (refusals.DiskWrite faults) cause fails = absurd (ok fails.0)
  at_opening refusals.Memory cause fails = refl
  at_opening refusal cause fails = absurd cause

  -- the status of an end that no stream and no length has brought about
  by_end : (end : RunEnd) → EndsWith m old new end → IsUnjudged end → (end ≡ Stream → ⊥) → (end ≡ ScriptTooLong → ⊥)
      → (status_of end ≡ status 0) ⊎ ((status_of end ≡ status 1) ⊎ IsShort end)
  by_end (Whole true) ends judged streams long = inl refl
  by_end (Whole false) ends judged streams long = inr (inl refl)
  by_end (InLine refusal) ends judged streams long = at (by_refusal refusal ends judged)
    where
      at : (refused_status refusal ≡ status 1) ⊎ (refusal ≡ refusals.Memory)
          → (refused_status refusal ≡ status 0) ⊎ ((refused_status refusal ≡ status 1) ⊎ IsShort (InLine refusal))
      at (inl one) = inr (inl one)
      at (inr short) = inr (inr (inl (ap InLine short)))
  by_end (Outside refusal) ends judged streams long = at (by_refusal refusal ends judged)
    where
      at : (refused_status refusal ≡ status 1) ⊎ (refusal ≡ refusals.Memory)
          → (refused_status refusal ≡ status 0) ⊎ ((refused_status refusal ≡ status 1) ⊎ IsShort (Outside refusal))
      at (inl one) = inr (inl one)
      at (inr short) = inr (inr (inr (ap Outside short)))
  by_end Stream ends judged streams long = absurd (streams refl)
  by_end ScriptTooLong ends judged streams long = absurd (long refl)

  module _ {K : Type 0} (n : SinkMeaning K) (before after : K) (size limit : ℕ) (o : Opening) (script : List ℕ) (end : RunEnd)
      (ends : EndsWith m old new end) (streams : end ≡ Stream → ⊥) (long : end ≡ ScriptTooLong → ⊥) where
    unread : IsReadingEnd end → IsComplete n before after size o script end
    unread (inl is) = absurd (streams is)
    unread (inr (inl is)) = absurd (long is)
    unread (inr (inr is)) = inr (inr is)

    module _ (lines : List Line) (is_script : IsScript script lines)
        (line : Headline m n size limit o lines old new before after end) where
      unserved : AreUnserved n before after end line.entries → IsComplete n before after size o script end
      unserved none = inr (inr (none.ends
          ∙ ap Outside (at_opening none.refusal none.cause (subst (EndsWith m old new) none.ends ends))))

      served : AreServed n before after size o lines end line.entries → IsComplete n before after size o script end
      served are = by are.lines_end refl
        where
          behind : (e : LinesEnd) → are.lines_end ≡ e
              → EndsBehind e are.refusals (fine_at are.lines_end are.turns are.unfinished) end
          behind e is = subst (λ (x : LinesEnd). EndsBehind x are.refusals
              (fine_at are.lines_end are.turns are.unfinished) end) is are.ends

          whole : are.lines_end ≡ lines_ends.Whole
              → (status_of end ≡ status 0) ⊎ ((status_of end ≡ status 1) ⊎ IsShort end)
              → IsComplete n before after size o script end
          whole is (inr (inr short)) = inr short
          whole is (inr (inl one)) = inl (
            record {
              lines = lines;
              is_script = is_script;
              entries = line.entries;
              legal = line.legal;
              served = are;
              whole = is;
            },
            inr one,
          )
          whole is (inl zero) = inl (
            record {
              lines = lines;
              is_script = is_script;
              entries = line.entries;
              legal = line.legal;
              served = are;
              whole = is;
            },
            inl zero,
          )

          stopped : (refusal : Refusal) → are.lines_end ≡ lines_ends.Stopped refusal
              → AreRun o size (lines_ends.Stopped refusal) are.turns are.obeyed_to are.unfinished
              → end ≡ InLine refusal → IsComplete n before after size o script end
          stopped refusal is run same = inr (inl (same
              ∙ ap InLine (in_line refusal
              (stops_so (last_reply run.1.last.reply run.1.last.released) refusal run.1.stops)
              (subst (EndsWith m old new) same ends) (subst IsUnjudged same line.unjudged))))

          by : (e : LinesEnd) → are.lines_end ≡ e → IsComplete n before after size o script end
          by lines_ends.Whole is = whole is (by_end end ends line.unjudged streams long)
          by (lines_ends.Stopped refusal) is = stopped refusal is
              (subst (λ (x : LinesEnd). AreRun o size x are.turns are.obeyed_to are.unfinished) is are.run)
              (behind (lines_ends.Stopped refusal) is)
          by lines_ends.NoMemory is = inr (inr (behind lines_ends.NoMemory is))
          by lines_ends.SinkFailed is = absurd (streams (behind lines_ends.SinkFailed is))

      obeyed : AreServed n before after size o lines end line.entries ⊎ AreUnserved n before after end line.entries
          → IsComplete n before after size o script end
      obeyed (inl are) = served are
      obeyed (inr none) = unserved none

    promised : Promise m n size limit o script old new before after end → IsComplete n before after size o script end
    promised (inl none) = unread none.ends
    promised (inr (lines, is, line)) = obeyed lines is line line.served

pub complete : {D S K : Type 0} (m : Meaning D) (s : SourceMeaning S) (n : SinkMeaning K) → RunsAreComplete m s n
complete {D} {S} {K} m s n counts_to limit source source' old new sink sink' end size image o script runs entry left
    short disk_ok source_ok sink_ok = promised m old new disk_ok n sink sink' size (limit_on limit image) o script end runs.disk streams long
    (runs.headline size image o script entry left)
  where
    streams : end ≡ Stream → ⊥
    streams is = at (runs.streams.failed is)
      where
        at : Rose (s.faults source) (s.faults source') ⊎ Rose (n.faults sink) (n.faults sink') → ⊥
        at (inl rose) = source_ok rose
        at (inr rose) = sink_ok rose

    long : end ≡ ScriptTooLong → ⊥
    long is = let more = runs.script.too_long is script left in absurd (omega (arith, more, short))
