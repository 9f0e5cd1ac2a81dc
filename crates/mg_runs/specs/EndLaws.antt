-- What the lines of a run and its end give of its promise.
use Rattle.std.proofs.Common.{◌≡◌, inl, inr, ◌==◌, ◌≤◌, ◌+◌, ℕ, Bool, true, List, [], ◌∷◌, Some, Result, Ok, Err, refl, sym, ap, ◌∙◌, subst, arith}
use Rattle.std.proofs.lemmas.Bool.{eq-eqb, eqb-true}
use Rattle.mg_base.specs.Disk.{MayLeave, Meaning}
use Rattle.mg_base.specs.Image.{Image, page_at}
use Rattle.mg_base.specs.declared.geometry.TheConstants.{GREATEST_LIMIT}
use Rattle.mg_base.specs.Moments.{LeavesOnly, joined, leaves_as}
use Rattle.mg_base.specs.Streams.{SinkMeaning}
use Rattle.mg_core.specs.Cores.{IsCore}
use Rattle.mg_core.specs.declared.parts.Core.{Core}
use Rattle.mg_engine_meaning_laws.specs.Closings.{ClosesEngine, HasLeft, LeavesAll, RefusesClose}
use Rattle.mg_engine_meaning_laws.specs.NewBegins.{NewBegin}
use Rattle.mg_engine_meaning_laws.specs.Openings.{IsOpenedOver}
use Rattle.mg_engine_meaning_laws.specs.LawfulLaws.{left_of, opening_of}
use Rattle.mg_engine_meaning_laws.specs.Meaning.{Places, means_with_room}
use Rattle.mg_engine_meaning_laws.specs.Standings.{StandsFor}
use Rattle.mg_grown_catalog_laws.specs.Grown.{OwnRowsAreNew}
use Rattle.mg_image.specs.Form.{packed_form}
use Rattle.mg_lasting_laws.specs.Crashes.{HoldsAcknowledged, HoldsFrom, LeavesSince, asked}
use Rattle.mg_model.specs.History.{Entries}
use Rattle.mg_model.specs.Laws.{OpeningsBegin}
use Rattle.mg_model.specs.Legal.{durable_count}
use Rattle.mg_model.specs.declared.opening.Opening.{Opening}
use Rattle.mg_model.specs.declared.refusal.Refusal.{Refusal}
use Rattle.mg_model.specs.declared.refusal.Refusal.TheVariants as refusals
use Rattle.mg_records.specs.Needed.{AreFullForCause, pages_needed}
use Rattle.mg_script.specs.declared.line.Line.{Line}
use Rattle.mg_script_ends.specs.Ends.{told_first}
use Rattle.mg_scripts.specs.declared.lines.LinesEnd.{LinesEnd}
use Rattle.mg_scripts.specs.declared.lines.LinesEnd.TheVariants as lines_ends
use Rattle.mg_scripts.specs.Ending.{IsUnbegun, ScriptDone, ScriptRan, reason_at}
use Rattle.mg_sessions.specs.Accounts.{Accounts}
use Rattle.mg_pool.specs.Pool.{HasAtMost}
use Rattle.mg_space.specs.FreePages.{HasFree}
use Rattle.mg_space.specs.ViewLaws.{CountsNow}
use Rattle.mg_run_ends.specs.declared.ending.RunEnd.{RunEnd}
use Rattle.mg_run_ends.specs.declared.ending.RunEnd.TheVariants.{Outside, Whole}
use Rattle.mg_run_ends.specs.Ends.{last_line}
use Rattle.mg_runs.specs.BegunLaws.{stands_over}
use Rattle.mg_runs.specs.Entry.{IsEntry, limit_on}
use Rattle.mg_runs.specs.EntryLaws.{has_ended}
use Rattle.mg_runs.specs.GoingOn.{GoesOnAt}
use Rattle.mg_runs.specs.GoingOnLaws.{asked_grows, free_stays, goes_on_at}
use Rattle.mg_runs.specs.Headline.{AreServed, EndsBehind, HasEnded, Headline, IsClosingRefusal, IsSettledAt, IsUnjudged}
use Rattle.mg_runs.specs.Laws.{IsCutOff, RunsClose, RunsStop, closed_end}
use Rattle.mg_runs.specs.OpeningLaws.{crash_over, kept_over, nothing_settled, opening_leaves, size_over, sized_over}
use Rattle.mg_runs.specs.WithinLaws.{LeavesWithin}
use Rattle.mg_run_ends.specs.Printing.{IsPrinted}
use Rattle.mg_runs.specs.UnjudgedLaws.{unjudged}

-- ---- page sizes

-- two page sizes are one that pass the same tests
alike : (a b : ℕ) → ((size : ℕ) → (a == size) ≡ (b == size)) → a ≡ b
alike a b same = eqb-true a b (same b ∙ eq-eqb b b refl)

-- ---- what a crash leaves

-- what has all events that were acknowledged has some
some_held : (size : ℕ) (o : Opening) (entries : Entries) (c : Image) → HoldsAcknowledged packed_form size o entries c
    → HoldsFrom packed_form size o (asked entries) 0 c
some_held size o entries c holds = record {
  k = holds.k;
  at_least = omega arith;
  at_most = holds.at_most;
  holds = holds.holds;
  legal = holds.legal;
}

-- ---- lines that were obeyed

module _ {D P K : Type 0} (m : Meaning D) (places : Places P) (n : SinkMeaning K) (counts : CountsNow m)
    (new_begin : NewBegin) (begin : OpeningsBegin) (own_new : OwnRowsAreNew) (few : LeavesWithin m) (disk : D) (limit : ℕ) (core now : Core D) (size : ℕ) (image : Image) (o : Opening)
    (lines : List Line) (lines_refusals : List Refusal) (lines_end : LinesEnd) (fine : Bool) (before mid : K)
    (entry : IsEntry m disk limit size image o) (opened : IsOpenedOver m disk limit core) where
  opening_crash : LeavesOnly m disk core.store.disk (HoldsFrom packed_form size o [] 0)
  opening_crash = opening_leaves new_begin m counts disk core.store.disk size image entry.whole entry.lawful
      (sized_over m disk limit core size image opened entry.sized) entry.settled
      (kept_over m disk limit core size image opened entry.sized entry.settled)
      (crash_over m disk limit core size image opened entry.sized entry.settled) limit o entry.opening

  size_is : core.store.geometry.size ≡ size
  size_is = size_over m disk limit core size image opened entry.sized

  core_size : core.store.dirty.size ≡ size
  core_size = opened.core_is.pool.page_size ∙ size_is

  opened_stands : StandsFor m core o []
  opened_stands = stands_over m disk limit core size image opened entry.sized counts entry.settled entry.whole o
      entry.opening

  -- memory was short before the first line
  pub unbegun : (after : K) (end : RunEnd) → IsUnbegun core now before mid lines_refusals lines_end
      → EndsBehind lines_end lines_refusals fine end → IsPrinted n mid after (last_line end)
      → Headline m n size (limit_on limit image) o lines disk now.store.disk before after end
  unbegun after end none ends last = record {
    entries = [];
    served = inr (record {
      refusal = refusals.Memory;
      cause = tt;
      ends = end_is;
      none = refl;
      last = subst (λ (k : K). IsPrinted n k after (last_line end)) none.sink last;
    });
    legal = tt;
    room = tt;
    crash = subst (λ (c : Core D). LeavesOnly m disk c.store.disk (HoldsFrom packed_form size o [] 0)) (sym none.keeper)
        opening_crash;
    exit = λ c may. subst (λ (s : ℕ). HoldsAcknowledged packed_form s o [] c) core_size
        (left_of m core o [] opened_stands c (subst (λ (k : Core D). MayLeave m k.store.disk c) none.keeper may));
    goes_on = λ least c from. goes_on_at begin own_new size o [] least c (begin o (opening_of m core o [] opened_stands))
        opened_stands.grows from;
    settled = subst (IsSettledAt m now.store.disk size o []) (sym end_is) tt;
    unjudged = subst IsUnjudged (sym end_is) tt;
    tells = ap (λ (c : Core D). m.tells c.store.disk) none.keeper ∙ opened.same.tells;
    sized = ap (λ (c : Core D). m.size c.store.disk) none.keeper
        ∙ sized_over m disk limit core size image opened entry.sized;
    within = λ t c left. few core.store.disk (limit_on limit image)
        (opened.same.tells ∙ entry.settled.tells.told)
        (subst (HasAtMost m core.store.disk) (opened.limit_is image entry.settled.tells.held) opened.core_is.pool.within)
        t c (subst (λ (k : Core D). m.left k.store.disk t c) none.keeper left);
  }
    where
      end_is : end ≡ Outside refusals.Memory
      end_is = subst (λ (e : LinesEnd). EndsBehind e lines_refusals fine end) none.short ends

  module _ (ran : ScriptRan (means_with_room m places) n core now before mid o size lines lines_refusals lines_end fine)
      (now_is : IsCore m now)
      (accounts : Accounts (means_with_room m places) core now (reason_at lines_end lines_refusals)) where
    geometry_now : now.store.geometry.size ≡ size
    geometry_now = alike now.store.geometry.size core.store.geometry.size accounts.sizes ∙ size_is

    limit_now : now.store.geometry.limit ≡ limit_on limit image
    limit_now = accounts.page_limit ∙ opened.limit_is image entry.settled.tells.held

    now_size : now.store.dirty.size ≡ size
    now_size = now_is.pool.page_size ∙ geometry_now

    sized_now : m.size now.store.disk ≡ Some size
    sized_now = now_is.pool.size ∙ ap Some geometry_now

    tells_now : m.tells now.store.disk ≡ m.tells disk
    tells_now = ran.carries.tells ∙ opened.same.tells

    told : m.tells core.store.disk ≡ true
    told = opened.same.tells ∙ entry.settled.tells.told

    end_unjudged : (end : RunEnd) → EndsBehind lines_end lines_refusals fine end → IsUnjudged end
    end_unjudged end ends = unjudged m places core now opened.undamaged (ran.carries.undamaged told) o size fine
        ran.turns ran.obeyed_to ran.entries ran.unfinished lines_end lines_refusals end ran.run ran.ended accounts ends

    lines_leave : LeavesOnly m core.store.disk now.store.disk
        (HoldsFrom packed_form size o (asked ran.entries) 0)
    lines_leave = subst (λ (s : ℕ). LeavesOnly m core.store.disk now.store.disk
        (HoldsFrom packed_form s o (asked ran.entries) 0)) now_size (record {
          later = ran.carries.later told;
          each = (ran.carries.leaves told).each;
          before = (ran.carries.leaves told).before;
        })

    grown : (c : Image) → HoldsFrom packed_form size o [] 0 c → HoldsFrom packed_form size o (asked ran.entries) 0 c
    grown c holds = subst (λ (s : ℕ). HoldsFrom packed_form s o (asked ran.entries) 0 c) now_size
        (ran.carries.holds 0 c (subst (λ (s : ℕ). HoldsFrom packed_form s o [] 0 c) (sym core_size) holds))

    so_far : LeavesOnly m disk now.store.disk (HoldsFrom packed_form size o (asked ran.entries) 0)
    so_far = joined m disk core.store.disk now.store.disk (HoldsFrom packed_form size o (asked ran.entries) 0)
        (leaves_as m disk core.store.disk (HoldsFrom packed_form size o [] 0)
        (HoldsFrom packed_form size o (asked ran.entries) 0) grown opening_crash) lines_leave

    left_now : (c : Image) → MayLeave m now.store.disk c → HoldsAcknowledged packed_form size o ran.entries c
    left_now c may = subst (λ (s : ℕ). HoldsAcknowledged packed_form s o ran.entries c) now_size
        (left_of m now o ran.entries ran.stands.stands c may)

    all_go_on : (least : ℕ) (c : Image) (from : HoldsFrom packed_form size o (asked ran.entries) least c)
        → GoesOnAt size o (asked ran.entries) from.k c
    all_go_on least c from = goes_on_at begin own_new size o (asked ran.entries) least c
        (begin o (opening_of m now o ran.entries ran.stands.stands))
        (asked_grows o ran.entries ran.stands.stands.grows) from

    are_served : (after : K) (end : RunEnd) → EndsBehind lines_end lines_refusals fine end
        → IsPrinted n mid after (last_line end) → AreServed n before after size o lines end ran.entries
    are_served after end ends last = record {
      turns = ran.turns;
      obeyed_to = ran.obeyed_to;
      unfinished = ran.unfinished;
      lines_end = lines_end;
      run = ran.run;
      are_lines = ran.are_lines;
      refusals = lines_refusals;
      ended = ran.ended;
      ends = subst (λ (b : Bool). EndsBehind lines_end lines_refusals b end) ran.are_fine ends;
      durable = ran.durable;
      mid = mid;
      transcript = ran.printed;
      last = last;
    }

    pub stopped : (after : K) (end : RunEnd) → EndsBehind lines_end lines_refusals fine end
        → IsPrinted n mid after (last_line end) → IsSettledAt m now.store.disk size o ran.entries end
        → Headline m n size (limit_on limit image) o lines disk now.store.disk before after end
    stopped after end ends last settled = record {
      entries = ran.entries;
      served = inl (are_served after end ends last);
      legal = ran.legal;
      room = subst (λ (most : ℕ). AreFullForCause most o ran.entries) limit_now ran.stands.full;
      crash = so_far;
      exit = left_now;
      goes_on = all_go_on;
      settled = settled;
      unjudged = end_unjudged end ends;
      tells = tells_now;
      sized = sized_now;
      within = few now.store.disk (limit_on limit image) (tells_now ∙ entry.settled.tells.told)
          (subst (HasAtMost m now.store.disk) limit_now now_is.pool.within);
    }

    -- what a database leaves that is closed, or not
    module _ (new : D) (result : Result (Unit {0}) Refusal) (closes : ClosesEngine m now new result) where
      its_crash : LeavesSince m now.store.disk new (HoldsAcknowledged packed_form size o ran.entries)
      its_crash = subst (λ (s : ℕ). LeavesSince m now.store.disk new (HoldsAcknowledged packed_form s o ran.entries))
          geometry_now (closes.crash o ran.entries ran.stands.stands)

      all_crash : LeavesOnly m disk new (HoldsFrom packed_form size o (asked ran.entries) 0)
      all_crash = joined m disk now.store.disk new (HoldsFrom packed_form size o (asked ran.entries) 0) so_far
          (leaves_as m now.store.disk new (HoldsAcknowledged packed_form size o ran.entries)
          (HoldsFrom packed_form size o (asked ran.entries) 0) (some_held size o ran.entries)
          its_crash.since)

      pub closed : (after : K) (end : RunEnd) → EndsBehind lines_end lines_refusals fine end
          → IsPrinted n mid after (last_line end) → IsSettledAt m new size o ran.entries end
          → Headline m n size (limit_on limit image) o lines disk new before after end
      closed after end ends last settled = record {
        entries = ran.entries;
        served = inl (are_served after end ends last);
        legal = ran.legal;
        room = subst (λ (most : ℕ). AreFullForCause most o ran.entries) limit_now ran.stands.full;
        crash = all_crash;
        exit = its_crash.left;
        goes_on = all_go_on;
        settled = settled;
        unjudged = end_unjudged end ends;
        tells = closes.same.tells ∙ tells_now;
        sized = closes.same.size size sized_now;
        within = few new (limit_on limit image) (closes.same.tells ∙ (tells_now ∙ entry.settled.tells.told))
            (subst (HasAtMost m new) limit_now closes.within);
      }

      -- what is left of the pages that were promised is free by the greatest page limit, too
      abbrev LeftWithRoom : ℕ → Type 0
      LeftWithRoom s = (left : HasLeft m new s o ran.entries (durable_count ran.entries))
          × ((count : ℕ) → pages_needed o ran.entries + count ≤ o.free
          → HasFree (record { size = s; limit = GREATEST_LIMIT }) (page_at s left.image) count)

      left_with_room : LeavesAll m now new o ran.entries → LeftWithRoom size
      left_with_room all = subst LeftWithRoom geometry_now (
        all.left,
        λ count within. free_stays now.store.geometry.size now.store.geometry.limit GREATEST_LIMIT
            (page_at now.store.geometry.size all.left.image) count (omega arith)
            (all.free count (ran.stands.left count within)),
      )

      pub ended : (x : Unit {0}) → ClosesEngine m now new (Ok x) → HasEnded m new size o ran.entries
      ended x closed_so =
          let left = left_with_room (closed_so.ended.2 o ran.entries ran.stands.stands) in
          has_ended begin own_new m new size o ran.entries
          (begin o (opening_of m now o ran.entries ran.stands.stands)) ran.legal ran.stands.stands.grows
          (closes.same.size size sized_now) entry.lawful entry.whole left.0 left.1

-- ---- a run that is cut off

-- it does not end whole, so nothing is said of what is settled
cut_settled : {D : Type 0} (m : Meaning D) (new : D) (size : ℕ) (o : Opening) (entries : Entries)
    (lines_end : LinesEnd) (lines_refusals : List Refusal) (fine : Bool) (end : RunEnd)
    → IsCutOff lines_end lines_refusals → EndsBehind lines_end lines_refusals fine end
    → IsSettledAt m new size o entries end
cut_settled m new size o entries lines_ends.Whole [] fine end cut ends = absurd cut
cut_settled m new size o entries lines_ends.Whole (first ∷ more) fine end cut ends =
    nothing_settled m new size o entries (told_first first more) end ends
cut_settled m new size o entries (lines_ends.Stopped refusal) lines_refusals fine end cut ends =
    subst (IsSettledAt m new size o entries) (sym ends) tt
cut_settled m new size o entries lines_ends.NoMemory lines_refusals fine end cut ends =
    subst (IsSettledAt m new size o entries) (sym ends) tt
cut_settled m new size o entries lines_ends.SinkFailed lines_refusals fine end cut ends =
    subst (IsSettledAt m new size o entries) (sym ends) tt

pub runs_stop : {D P K : Type 0} (m : Meaning D) (places : Places P) (n : SinkMeaning K) → CountsNow m
    → NewBegin → OpeningsBegin → OwnRowsAreNew → LeavesWithin m → RunsStop m places n
runs_stop {D} {P} {K} m places n counts new_begin begin own_new few disk limit core now size image o lines lines_refusals lines_end
    fine end before mid after entry opened now_is accounts done cut ends last = at done
  where
    at : ScriptDone (means_with_room m places) n core now before mid o size lines lines_refusals lines_end fine
        → Headline m n size (limit_on limit image) o lines disk now.store.disk before after end
    at (inl ran) = stopped m places n counts new_begin begin own_new few disk limit core now size image o lines lines_refusals
        lines_end fine before mid entry opened ran now_is accounts after end ends last
        (cut_settled m now.store.disk size o ran.entries lines_end lines_refusals fine end cut ends)
    at (inr none) = unbegun m places n counts new_begin begin own_new few disk limit core now size image o lines lines_refusals
        lines_end fine before mid entry opened after end none ends last

-- ---- a run whose database is closed

closing_refusal : {D : Type 0} (m : Meaning D) (old : Core D) (new : D) (refusal : Refusal)
    → RefusesClose m old new refusal → IsClosingRefusal refusal
closing_refusal m old new (refusals.Offline count) why = tt
closing_refusal m old new (refusals.DiskWrite count) why = tt
closing_refusal m old new (refusals.DiskRead count) why = absurd why
closing_refusal m old new (refusals.UpdateConflict by) why = absurd why
closing_refusal m old new (refusals.LockConflict by) why = absurd why
closing_refusal m old new (refusals.Waits on) why = absurd why
closing_refusal m old new (refusals.Deadlock by) why = absurd why
closing_refusal m old new (refusals.InLimbo by) why = absurd why
closing_refusal m old new refusals.DuplicateKey why = absurd why
closing_refusal m old new refusals.NoRow why = absurd why
closing_refusal m old new refusals.ReadOnly why = absurd why
closing_refusal m old new refusals.NoTransaction why = absurd why
closing_refusal m old new (refusals.NotActive state) why = absurd why
closing_refusal m old new refusals.NoTable why = absurd why
closing_refusal m old new refusals.TableExists why = absurd why
closing_refusal m old new (refusals.RowTooLong len limit) why = absurd why
closing_refusal m old new (refusals.DatabaseFull limit) why = absurd why
closing_refusal m old new refusals.TransactionLimit why = absurd why
closing_refusal m old new (refusals.NotADatabase field found) why = absurd why
closing_refusal m old new (refusals.Damaged page field found wanted) why = absurd why
closing_refusal m old new refusals.Memory why = absurd why

pub runs_close : {D P K : Type 0} (m : Meaning D) (places : Places P) (n : SinkMeaning K) → CountsNow m
    → NewBegin → OpeningsBegin → OwnRowsAreNew → LeavesWithin m → RunsClose m places n
runs_close {D} {P} {K} m places n counts new_begin begin own_new few disk new limit core now size image o lines fine
    result before mid after entry opened now_is accounts done closes last = at done
  where
    with_ran : (ran : ScriptRan (means_with_room m places) n core now before mid o size lines [] lines_ends.Whole fine)
        → (it : Result (Unit {0}) Refusal) → ClosesEngine m now new it
        → IsPrinted n mid after (last_line (closed_end fine it))
        → Headline m n size (limit_on limit image) o lines disk new before after (closed_end fine it)
    with_ran ran (Ok x) ends printed = closed m places n counts new_begin begin own_new few disk limit core now size image o
        lines [] lines_ends.Whole fine before mid entry opened ran now_is accounts new (Ok x) ends after (Whole fine) refl
        printed (ended m places n counts new_begin begin own_new few disk limit core now size image o lines []
        lines_ends.Whole fine before mid entry opened ran now_is accounts new (Ok x) ends x ends)
    with_ran ran (Err refusal) ends printed = closed m places n counts new_begin begin own_new few disk limit core now size
        image o lines [] lines_ends.Whole fine before mid entry opened ran now_is accounts new (Err refusal) ends after (Outside refusal)
        (closing_refusal m now new refusal ends.ended) printed tt

    at : ScriptDone (means_with_room m places) n core now before mid o size lines [] lines_ends.Whole fine
        → Headline m n size (limit_on limit image) o lines disk new before after (closed_end fine result)
    at (inl ran) = with_ran ran result closes last
    at (inr none) = let short = none.short in absurd cc
