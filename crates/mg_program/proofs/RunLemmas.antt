-- A script is read, and its lines are obeyed.
use Rattle.std.proofs.Common.{◌≡◌, ℕ, Bool, List, Some, inl, inr, refl, sym, subst}
use Rattle.std.specs.Prelude.{◌≢◌, ◌≤◌, ◌<◌, length}
use Rattle.mg_base.specs.Disk.{Meaning, Rose}
use Rattle.mg_base.specs.Image.{Image}
use Rattle.mg_base.specs.Streams.{SinkMeaning, SourceMeaning}
use Rattle.mg_model.specs.declared.opening.Opening.{Opening}
use Rattle.mg_model.specs.declared.refusal.Refusal.TheVariants.{Memory}
use Rattle.mg_script.specs.declared.line.Line.{Line}
use Rattle.mg_script.specs.Lines.{IsScript}
use Rattle.mg_run_ends.specs.declared.ending.RunEnd.{RunEnd}
use Rattle.mg_run_ends.specs.declared.ending.RunEnd.TheVariants.{Outside, ScriptTooLong, Stream, Whole}
use Rattle.mg_run_ends.specs.declared.ending.TheConstants.{SCRIPT_MOST}
use Rattle.mg_run_ends.specs.Ends.{EndsWith}
use Rattle.mg_runs.specs.Entry.{IsEntry, limit_on}
use Rattle.mg_runs.specs.OtherFiles.{HoldsNoDatabase}
use Rattle.mg_runs.specs.Promise.{IsReadingEnd, LeavesFile, Promise, ScriptCauses, StreamCauses}
use Rattle.mg_run_ends.specs.Reading.{FailsToRead, IsWholeScript}
use Rattle.mg_run_ends.specs.Saying.{IsTold, SaysEnd}
use Rattle.mg_program.specs.Serving.{Serves}

-- ---- a script that was read

module _ {D S K : Type 0} (m : Meaning D) (s : SourceMeaning S) (n : SinkMeaning K) (source source' : S) (limit : ℕ)
    (lines : List Line) (old new : D) (before after : K) (end : RunEnd) (whole : IsWholeScript s source lines)
    (steady : s.faults source' ≡ s.faults source) (serves : Serves m n limit lines old new before after end) where
  pub served_streams : StreamCauses s n source source' before after end
  served_streams = record {
    failed = λ is. inr (serves.stream is);
    source_steady = λ other. steady;
    sink_steady = serves.sink_steady;
  }

  pub served_script : ScriptCauses s source old new end
  served_script = record {
    too_long = λ is script left. absurd (serves.read is);
    not_asked = λ is. absurd (serves.read is);
    short = λ a b c script left. subst (λ (bytes : List ℕ). length bytes ≤ SCRIPT_MOST)
        (sym (whole.whole script left)) whole.short;
  }

  pub served_promise : (size : ℕ) (image : Image) (o : Opening) (script : List ℕ) → IsEntry m old limit size image o
      → s.left source ≡ Some script → Promise m n size (limit_on limit image) o script old new before after end
  served_promise size image o script entry left = inr (
    lines,
    subst (λ (bytes : List ℕ). IsScript bytes lines) (sym (whole.whole script left)) whole.is_script,
    serves.headline size image o entry,
  )

  pub served_files : (size : ℕ) (image : Image) → HoldsNoDatabase m old size image
      → LeavesFile m n size image old new before after end
  served_files size image other = inr (serves.other_files size image other)

-- ---- a script that was not read to its end

told_reading : {S : Type 0} (s : SourceMeaning S) (source source' : S) (end told : RunEnd)
    → FailsToRead s source source' end → IsTold end told → told ≡ end
told_reading s source source' Stream told fails is = is
told_reading s source source' ScriptTooLong told fails is = is
told_reading s source source' (Outside Memory) told fails (inl is) = is
told_reading s source source' (Outside Memory) told fails (inr both) = both.1
told_reading s source source' end told fails is = absurd fails

-- how such a run ends, and why
record IsStillUnread {S : Type 0} (s : SourceMeaning S) (source source' : S) (end : RunEnd) : Type 0 where
  ends : IsReadingEnd end
  stream : end ≡ Stream → Rose (s.faults source) (s.faults source')
  source_steady : end ≢ Stream → s.faults source' ≡ s.faults source
  whole : (fine : Bool) → end ≡ Whole fine → ⊥
  too_long : end ≡ ScriptTooLong → (script : List ℕ) → s.left source ≡ Some script → SCRIPT_MOST < length script

still_unread : {S : Type 0} (s : SourceMeaning S) (source source' : S) (end : RunEnd)
    → FailsToRead s source source' end → IsStillUnread s source source' end
still_unread s source source' Stream fails = record {
  ends = inl refl;
  stream = λ is. fails;
  source_steady = λ other. absurd (other refl);
  whole = λ fine is. absurd cc;
  too_long = λ is. absurd cc;
}
still_unread s source source' ScriptTooLong fails = record {
  ends = inr (inl refl);
  stream = λ is. absurd cc;
  source_steady = λ other. fails.0;
  whole = λ fine is. absurd cc;
  too_long = λ is. fails.1;
}
still_unread s source source' (Outside Memory) fails = record {
  ends = inr (inr refl);
  stream = λ is. absurd cc;
  source_steady = λ other. fails;
  whole = λ fine is. absurd cc;
  too_long = λ is. absurd cc;
}
still_unread s source source' end fails = absurd fails

-- the disk has no part in it
unread_fails : {D S : Type 0} (m : Meaning D) (disk : D) (s : SourceMeaning S) (source source' : S) (end : RunEnd)
    → FailsToRead s source source' end → EndsWith m disk disk end
unread_fails m disk s source source' Stream fails = refl
unread_fails m disk s source source' ScriptTooLong fails = refl
unread_fails m disk s source source' (Outside Memory) fails = refl
unread_fails m disk s source source' end fails = absurd fails

module _ {D S K : Type 0} (m : Meaning D) (s : SourceMeaning S) (n : SinkMeaning K) (source source' : S) (disk : D)
    (before after : K) (end told : RunEnd) (fails : FailsToRead s source source' end)
    (says : SaysEnd n before after end told) where
  is_end : told ≡ end
  is_end = told_reading s source source' end told fails says.is_told

  still : IsStillUnread s source source' told
  still = subst (IsStillUnread s source source') (sym is_end) (still_unread s source source' end fails)

  pub unread_disk : EndsWith m disk disk told
  unread_disk = subst (EndsWith m disk disk) (sym is_end) (unread_fails m disk s source source' end fails)

  pub unread_streams : StreamCauses s n source source' before after told
  unread_streams = record {
    failed = λ is. inl (still.stream is);
    source_steady = still.source_steady;
    sink_steady = λ fine is. absurd (still.whole fine is);
  }

  pub unread_script : ScriptCauses s source disk disk told
  unread_script = record {
    too_long = still.too_long;
    not_asked = λ is. refl;
    short = λ a b c script left. absurd (by still.ends a b c);
  }
    where
      by : IsReadingEnd told → told ≢ ScriptTooLong → told ≢ Stream → told ≢ Outside Memory → ⊥
      by (inl is) a b c = b is
      by (inr (inl is)) a b c = a is
      by (inr (inr is)) a b c = c is

  pub unread_promise : (size limit : ℕ) (o : Opening) (script : List ℕ)
      → Promise m n size limit o script disk disk before after told
  unread_promise size limit o script = inl (record { ends = still.ends; disk = refl; last = says.printed })

  pub unread_files : (size : ℕ) (image : Image) → LeavesFile m n size image disk disk before after told
  unread_files size image = inl (record { ends = still.ends; disk = refl; last = says.printed })
