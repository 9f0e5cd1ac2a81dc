-- What a run with `--stop` leaves holds what was durable behind each of its lines.
use Rattle.std.proofs.Common.{◌⊎◌, ℕ, List, [], inl, inr, subst}
use Rattle.mg_base.specs.Disk.{Meaning}
use Rattle.mg_base.specs.Streams.{SinkMeaning, SourceMeaning}
use Rattle.mg_model.specs.History.{Entries}
use Rattle.mg_model.specs.declared.opening.Opening.{Opening}
use Rattle.mg_run_ends.specs.declared.ending.RunEnd.{RunEnd}
use Rattle.mg_runs.specs.Entry.{limit_on}
use Rattle.mg_runs.specs.Acknowledged.{LinesAreHeld}
use Rattle.mg_runs.specs.Headline.{AreServed, AreUnserved, Headline}
use Rattle.mg_runs.specs.Promise.{IsUnread, Promise}
use Rattle.mg_script.specs.Lines.{IsScript}
use Rattle.mg_script.specs.declared.line.Line.{Line}
use Rattle.mg_program.specs.Acknowledged.{AcknowledgedIsHeld, HoldsLines}

module _ {D K : Type 0} (m : Meaning D) (n : SinkMeaning K) (held : LinesAreHeld m n) (size limit : ℕ) (o : Opening)
    (script : List ℕ) (old new : D) (before after : K) (end : RunEnd) where
  obeyed : (lines : List Line) → IsScript script lines → (line : Headline m n size limit o lines old new before after end)
      → AreServed n before after size o lines end line.entries ⊎ AreUnserved n before after end line.entries
      → AreUnserved n before after end [] ⊎ HoldsLines m n size o script new before after end
  obeyed lines is line (inl are) = inr (record {
    lines = lines;
    is_script = is;
    entries = line.entries;
    served = are;
    held = held size limit o lines old new before after end line are;
  })
  obeyed lines is line (inr none) =
      inl (subst (λ (h : Entries). AreUnserved n before after end h) none.none none)

  promised : Promise m n size limit o script old new before after end
      → IsUnread n old new before after end
      ⊎ (AreUnserved n before after end [] ⊎ HoldsLines m n size o script new before after end)
  promised (inl none) = inl none
  promised (inr (lines, is, line)) = inr (obeyed lines is line line.served)

pub acknowledged : {D S K : Type 0} (m : Meaning D) (s : SourceMeaning S) (n : SinkMeaning K) → LinesAreHeld m n
    → AcknowledgedIsHeld m s n
acknowledged m s n held counts_to limit most source source' old new sink sink' end size image o script runs entry left =
    promised m n held size (limit_on limit image) o script old new sink sink' end (runs.headline size image o script entry left)
