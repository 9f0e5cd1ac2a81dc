-- A run on a disk of which a number of page writes pass is one on the disk itself.
use Rattle.std.proofs.Common.{◌≡◌, ◌≢◌, ◌<◌, ◌≤◌, ◌+◌, ◌∙◌, inl, inr, ℕ, Bool, true, false, List, Option, Some, sym, ap, subst, arith}
use Rattle.std.specs.Prelude.{◌⊎◌}
use Rattle.std.proofs.lemmas.Bool.{cases_eq}
use Rattle.mg_base.specs.Disk.{MayLeave, Meaning, Rose}
use Rattle.mg_base.specs.Image.{Image}
use Rattle.mg_base.specs.Moments.{LeavesOnly}
use Rattle.mg_base.specs.Streams.{SinkMeaning, SourceMeaning}
use Rattle.mg_engine_meaning_laws.specs.Openings.{IsSettledOn}
use Rattle.mg_fuse.specs.Counting.{AsksExactly}
use Rattle.mg_fuse.specs.Stopped.{IsNewlyStopped, StoppedDisksAreAskedForNoMore, StopsWithin, blown_of, inner_of, stopped_meaning}
use Rattle.mg_fuse.specs.declared.stopped.Stopped.{Stopped}
use Rattle.mg_image.specs.Form.{packed_form}
use Rattle.mg_lasting_laws.specs.Crashes.{HoldsFrom, asked}
use Rattle.mg_model.specs.declared.opening.Opening.{Opening}
use Rattle.mg_model.specs.declared.refusal.Refusal.{Refusal}
use Rattle.mg_model.specs.declared.refusal.Refusal.TheVariants as refusals
use Rattle.mg_model.specs.History.{Entries}
use Rattle.mg_script.specs.declared.line.Line.{Line}
use Rattle.mg_run_ends.specs.declared.ending.RunEnd.{RunEnd}
use Rattle.mg_run_ends.specs.declared.ending.RunEnd.TheVariants.{InLine, Outside, ScriptTooLong, Stream, Whole}
use Rattle.mg_run_ends.specs.declared.status.Status.{Status}
use Rattle.mg_run_ends.specs.Ends.{EndsWith, FailsWith, refused_status, status_of}
use Rattle.mg_runs.specs.Entry.{IsEntry, TellsWholePages, limit_on}
use Rattle.mg_runs.specs.Headline.{Headline, IsSettledAt}
use Rattle.mg_runs.specs.OtherFiles.{HoldsNoDatabase}
use Rattle.mg_runs.specs.Promise.{LeavesFile, Promise, ScriptCauses, StreamCauses}
use Rattle.mg_program.specs.Top.{EndsOrStops, FailsOrStops, Runs}

-- ---- statuses

pub refused_below : (refusal : Refusal) → ((refused_status refusal).0 < 8) × ((refused_status refusal).0 ≢ 2)
refused_below (refusals.DiskRead faults) = (omega arith, λ is. omega (arith, is))
refused_below (refusals.DiskWrite faults) = (omega arith, λ is. omega (arith, is))
refused_below (refusals.Offline faults) = (omega arith, λ is. omega (arith, is))
refused_below (refusals.NotADatabase field found) = (omega arith, λ is. omega (arith, is))
refused_below (refusals.Damaged page field found wanted) = (omega arith, λ is. omega (arith, is))
refused_below refusals.Memory = (omega arith, λ is. omega (arith, is))
refused_below refusal = (omega arith, λ is. omega (arith, is))

status_below : (end : RunEnd) → ((status_of end).0 < 8) × ((status_of end).0 ≢ 2)
status_below (Whole fine) = at fine
  where
    at : (fine : Bool) → ((status_of (Whole fine)).0 < 8) × ((status_of (Whole fine)).0 ≢ 2)
    at true = (omega arith, λ is. omega (arith, is))
    at false = (omega arith, λ is. omega (arith, is))
status_below (InLine refusal) = refused_below refusal
status_below (Outside refusal) = refused_below refusal
status_below Stream = (omega arith, λ is. omega (arith, is))
status_below ScriptTooLong = (omega arith, λ is. omega (arith, is))

pub range_of : (end : RunEnd) (status : Status) → status ≡ status_of end → status.0 < 8
range_of end status is = subst (λ (s : Status). s.0 < 8) (sym is) (status_below end).0

-- a run never ends with the status of words that are no command line
pub never_usage : (end : RunEnd) (status : Status) → status ≡ status_of end → status.0 ≡ 2 → ⊥
never_usage end status is two = (status_below end).1 (ap (λ (s : Status). s.0) (sym is) ∙ two)

-- ---- the words

-- a run has the page limit and the stop that the words ask for
pub runs_asked : {D S K : Type 0} (m : Meaning D) (counts_to : ℕ) (s : SourceMeaning S) (n : SinkMeaning K)
    (limit limit' : ℕ) (stop stop' : Option ℕ) (source source' : S) (old new : D) (sink sink' : K) (end : RunEnd)
    → limit ≡ limit' → stop' ≡ stop → Runs m counts_to s n limit stop source source' old new sink sink' end
    → Runs m counts_to s n limit' stop' source source' old new sink sink' end
runs_asked m counts_to s n limit limit' stop stop' source source' old new sink sink' end same is runs =
    subst (λ (pages : ℕ). Runs m counts_to s n pages stop' source source' old new sink sink' end) same
    (subst (λ (most : Option ℕ). Runs m counts_to s n limit most source source' old new sink sink' end) (sym is) runs)

-- ---- a fuse

module _ {D : Type 0} (m : Meaning D) (counts_to : ℕ) where
  entered : (old : Stopped D) (limit size : ℕ) (image : Image) (o : Opening)
      → IsEntry m (inner_of old) limit size image o → IsEntry (stopped_meaning m counts_to) old limit size image o
  entered old limit size image o entry = record {
    sized = entry.sized;
    lawful = entry.lawful;
    whole = record {
      held = λ disk held sized tells. entry.whole.held (inner_of disk) held sized
          (record { told = tells.told; held = tells.held });
      left = λ disk t c sized left. entry.whole.left (inner_of disk) t c sized left;
    };
    settled = record {
      tells = record { told = entry.settled.tells.told; held = entry.settled.tells.held };
      only = entry.settled.only;
    };
    opening = entry.opening;
  }

  leaves : (old new : Stopped D) (P : Image → Type 0) → LeavesOnly (stopped_meaning m counts_to) old new P
      → LeavesOnly m (inner_of old) (inner_of new) P
  leaves old new P run = record { later = run.later; each = run.each; before = run.before }

  settled_on : (disk : Stopped D) (image : Image) → IsSettledOn (stopped_meaning m counts_to) disk image
      → IsSettledOn m (inner_of disk) image
  settled_on disk image on = record {
    tells = record { told = on.tells.told; held = on.tells.held };
    only = on.only;
  }

  -- that each page has the page size is known of the disk itself
  settled_at : (new : Stopped D) (size : ℕ) (o : Opening) (h : Entries) (end : RunEnd) → TellsWholePages m size
      → IsSettledAt (stopped_meaning m counts_to) new size o h end → IsSettledAt m (inner_of new) size o h end
  settled_at new size o h (Whole fine) whole ended = record {
    left = record {
      image = ended.left.image;
      settled = settled_on new ended.left.image ended.left.settled;
      holds = ended.left.holds;
      sound = ended.left.sound;
      plain = ended.left.plain;
      next = ended.left.next;
    };
    later = ended.later;
    goes_on = ended.goes_on;
    next = ended.next;
    free = ended.free;
    entry = λ limit free has. record {
      sized = (ended.entry limit free has).sized;
      lawful = (ended.entry limit free has).lawful;
      whole = whole;
      settled = settled_on new ended.left.image (ended.entry limit free has).settled;
      opening = (ended.entry limit free has).opening;
    };
  }
  settled_at new size o h (InLine refusal) whole ended = tt
  settled_at new size o h (Outside refusal) whole ended = tt
  settled_at new size o h Stream whole ended = tt
  settled_at new size o h ScriptTooLong whole ended = tt

  -- ---- faults

  module _ (most : ℕ) (old new : Stopped D) (none : blown_of old ≡ 0) (within : StopsWithin m counts_to most (inner_of old) new)
    where
      rises_so : (before now : ℕ) → blown_of new ≡ 0 → Rose (before + blown_of old) (now + blown_of new) → Rose before now
      rises_so before now zero (inl rises) = inl (omega (arith, none, zero, rises))
      rises_so before now zero (inr end) = inr (omega (arith, zero, end))

      -- a page write that the fuse refused counts as failed: so it is no read fault, which is the disk's own,
      by_read : FailsWith (stopped_meaning m counts_to) old new (refusals.DiskRead 0)
          → FailsWith m (inner_of old) (inner_of new) (refusals.DiskRead 0)
          ⊎ (m.failed_writes (inner_of new) < m.failed_writes (inner_of old))
      by_read rose = at (cases_eq (blown_of new) 0)
        where
          at : (blown_of new ≡ 0) ⊎ (blown_of new ≢ 0) → FailsWith m (inner_of old) (inner_of new) (refusals.DiskRead 0)
              ⊎ (m.failed_writes (inner_of new) < m.failed_writes (inner_of old))
          at (inl zero) = inl (
            rises_so (m.faults (inner_of old)) (m.faults (inner_of new)) zero rose.0,
            (let same : m.failed_writes (inner_of new) + blown_of new ≡ m.failed_writes (inner_of old) + blown_of old = rose.1 in
                omega (arith, none, zero, same)),
          )
          at (inr some) = inr (let same : m.failed_writes (inner_of new) + blown_of new
              ≡ m.failed_writes (inner_of old) + blown_of old = rose.1 in omega (arith, none, some, same))

      -- where the fuse refused no page write, it was the disk that failed in one
      by_write : FailsWith (stopped_meaning m counts_to) old new (refusals.DiskWrite 0)
          → FailsWith m (inner_of old) (inner_of new) (refusals.DiskWrite 0)
          ⊎ AsksExactly m counts_to most (inner_of old) (inner_of new)
      by_write rose = at (cases_eq (blown_of new) 0)
        where
          at : (blown_of new ≡ 0) ⊎ (blown_of new ≢ 0) → FailsWith m (inner_of old) (inner_of new) (refusals.DiskWrite 0)
              ⊎ AsksExactly m counts_to most (inner_of old) (inner_of new)
          at (inl zero) = inl (
            rises_so (m.faults (inner_of old)) (m.faults (inner_of new)) zero rose.0,
            rises_so (m.failed_writes (inner_of old)) (m.failed_writes (inner_of new)) zero rose.1,
          )
          at (inr some) = inr (within.all (omega (arith, some)))

      not_risen : m.faults (inner_of new) + blown_of new ≡ m.faults (inner_of old) + blown_of old
          → m.faults (inner_of new) ≤ m.faults (inner_of old)
      not_risen same = omega (arith, none, same)

      fails_or_stops : (refusal : Refusal) → FailsWith (stopped_meaning m counts_to) old new refusal
          → FailsOrStops m (AsksExactly m counts_to most (inner_of old) (inner_of new)) (inner_of old) (inner_of new) refusal
      fails_or_stops (refusals.DiskRead faults) fails = by_read fails
      fails_or_stops (refusals.DiskWrite faults) fails = by_write fails
      fails_or_stops (refusals.Offline faults) fails = by_write fails
      fails_or_stops refusal fails = not_risen fails

      ends_or_stops : (end : RunEnd) → EndsWith (stopped_meaning m counts_to) old new end
          → EndsOrStops m (AsksExactly m counts_to most (inner_of old) (inner_of new)) (inner_of old) (inner_of new) end
      ends_or_stops (Whole fine) ends = not_risen ends
      ends_or_stops (InLine refusal) ends = fails_or_stops refusal ends
      ends_or_stops (Outside refusal) ends = fails_or_stops refusal ends
      ends_or_stops Stream ends = not_risen ends
      ends_or_stops ScriptTooLong ends = not_risen ends

  module _ {K : Type 0} (n : SinkMeaning K) where
    headline_of : (size limit : ℕ) (o : Opening) (lines : List Line) (old new : Stopped D) (before after : K) (end : RunEnd)
        → TellsWholePages m size → Headline (stopped_meaning m counts_to) n size limit o lines old new before after end
        → Headline m n size limit o lines (inner_of old) (inner_of new) before after end
    headline_of size limit o lines old new before after end whole line = record {
      entries = line.entries;
      served = line.served;
      unjudged = line.unjudged;
      legal = line.legal;
      room = line.room;
      crash = leaves old new (HoldsFrom packed_form size o (asked line.entries) 0) line.crash;
      exit = line.exit;
      goes_on = line.goes_on;
      settled = settled_at new size o line.entries end whole line.settled;
      tells = line.tells;
      sized = line.sized;
      within = line.within;
    }

    promise_of : (size limit : ℕ) (o : Opening) (script : List ℕ) (old new : Stopped D) (before after : K) (end : RunEnd)
        → TellsWholePages m size → Promise (stopped_meaning m counts_to) n size limit o script old new before after end
        → Promise m n size limit o script (inner_of old) (inner_of new) before after end
    promise_of size limit o script old new before after end whole (inl unread) = inl (record {
      ends = unread.ends;
      disk = ap inner_of unread.disk;
      last = unread.last;
    })
    promise_of size limit o script old new before after end whole (inr (lines, is, line)) =
        inr (lines, is, headline_of size limit o lines old new before after end whole line)

    other_file : (old : Stopped D) (size : ℕ) (image : Image) → HoldsNoDatabase m (inner_of old) size image
        → HoldsNoDatabase (stopped_meaning m counts_to) old size image
    other_file old size image other = record {
      sized = other.sized;
      tells = record { told = other.tells.told; held = other.tells.held };
      unpassed = other.unpassed;
      unmakeable = other.unmakeable;
    }

    file_of : (size : ℕ) (image : Image) (old new : Stopped D) (before after : K) (end : RunEnd)
        → LeavesFile (stopped_meaning m counts_to) n size image old new before after end
        → LeavesFile m n size image (inner_of old) (inner_of new) before after end
    file_of size image old new before after end (inl unread) = inl (record {
      ends = unread.ends;
      disk = ap inner_of unread.disk;
      last = unread.last;
    })
    file_of size image old new before after end (inr refused) = inr (record {
      unwritten = record {
        held = refused.unwritten.held;
        crash = leaves old new (MayLeave m (inner_of old)) refused.unwritten.crash;
      };
      refusal = refused.refusal;
      opening = refused.opening;
      ends = refused.ends;
      last = refused.last;
    })

    module _ {S : Type 0} (s : SourceMeaning S) where
      -- with `--stop`, of a disk of which so many page writes pass
      pub runs_of_stopped : (limit most : ℕ) (source source' : S) (first result : D) (old new : Stopped D)
          (sink sink' : K) (end : RunEnd) → IsNewlyStopped first most old → result ≡ inner_of new
          → StoppedDisksAreAskedForNoMore m counts_to
          → (stopped_meaning m counts_to).most_writes new ≡ (stopped_meaning m counts_to).most_writes old
          → EndsWith (stopped_meaning m counts_to) old new end
          → StreamCauses s n source source' sink sink' end → ScriptCauses s source old new end
          → ((size : ℕ) (image : Image) (o : Opening) (script : List ℕ)
          → IsEntry (stopped_meaning m counts_to) old limit size image o → s.left source ≡ Some script
          → Promise (stopped_meaning m counts_to) n size (limit_on limit image) o script old new sink sink' end)
          → ((size : ℕ) (image : Image) → HoldsNoDatabase (stopped_meaning m counts_to) old size image
          → LeavesFile (stopped_meaning m counts_to) n size image old new sink sink' end)
          → Runs m counts_to s n limit (Some most) source source' first result sink sink' end
      runs_of_stopped limit most source source' first result old new sink sink' end newly is law same ends streams script
          headline files = subst (λ (d : D). Runs m counts_to s n limit (Some most) source source' first d sink sink' end)
          (sym is) (subst
          (λ (d : D). Runs m counts_to s n limit (Some most) source source' d (inner_of new) sink sink' end)
          newly.its_inner its_run)
        where
          within : StopsWithin m counts_to most (inner_of old) new
          within = subst (λ (d : D). StopsWithin m counts_to most d new) (sym newly.its_inner)
              (law first most old new newly same)

          its_run : Runs m counts_to s n limit (Some most) source source' (inner_of old) (inner_of new) sink sink' end
          its_run = record {
            disk = record {
              at_most = within.at_most;
              ends = ends_or_stops most old new newly.none_blown within end ends;
            };
            streams = streams;
            script = record {
              too_long = script.too_long;
              not_asked = λ asked_none. ap inner_of (script.not_asked asked_none);
              short = script.short;
            };
            headline = λ size image o bytes entry left. promise_of size (limit_on limit image) o bytes old new sink sink' end entry.whole
                (headline size image o bytes (entered old limit size image o entry) left);
            other_files = λ size image other. file_of size image old new sink sink' end
                (files size image (other_file old size image other));
          }
