-- How a run ends on an engine.
use Rattle.std.proofs.Common.{◌≡◌, ◌∙◌, ◌≤◌, ◌+◌, ℕ, Bool, true, false, List, [], ◌∷◌, None, Some, inl, inr, refl, sym, ap, subst, arith}
use Rattle.std.specs.Prelude.{Result, Ok, Err}
use Rattle.mg_base.specs.Disk.{Meaning, Rose}
use Rattle.mg_base.specs.Streams.{SinkMeaning}
use Rattle.mg_core.specs.Cores.{IsCore}
use Rattle.mg_core.specs.declared.parts.Core.{Core}
use Rattle.mg_engine_meaning_laws.specs.Closings.{ClosesEngine, RefusesClose}
use Rattle.mg_engine_meaning_laws.specs.Openings.{IsOpenedOver, RefusesOpening}
use Rattle.mg_engine_meaning_laws.specs.Meaning.{Places, means, means_with_room}
use Rattle.mg_model.specs.Answers.{is_active}
use Rattle.mg_model.specs.Machine.{state_of}
use Rattle.mg_model.specs.declared.opening.Opening.{Opening}
use Rattle.mg_model.specs.declared.refusal.Refusal.{Refusal}
use Rattle.mg_model.specs.declared.refusal.Refusal.TheVariants as refusals
use Rattle.mg_records.specs.Needed.{StandsWithRoom}
use Rattle.mg_script.specs.declared.line.Line.{Line}
use Rattle.mg_script_ends.specs.Ends.{told_first}
use Rattle.mg_sessions.specs.AccountLaws.{no_account}
use Rattle.mg_sessions.specs.Accounts.{Accounts}
use Rattle.mg_scripts.specs.declared.lines.LinesEnd.{LinesEnd}
use Rattle.mg_scripts.specs.declared.lines.LinesEnd.TheVariants as lines_ends
use Rattle.mg_scripts.specs.Ending.{ScriptDone, reason_at}
use Rattle.mg_scripts.specs.Printing.{SinkSays}
use Rattle.mg_run_ends.specs.declared.ending.RunEnd.{RunEnd}
use Rattle.mg_run_ends.specs.declared.ending.RunEnd.TheVariants.{InLine, Outside, ScriptTooLong, Stream, Whole}
use Rattle.mg_run_ends.specs.Ends.{EndsWith, FailsWith, IsOutside, has_fixed_line, last_line}
use Rattle.mg_runs.specs.Entry.{limit_on}
use Rattle.mg_runs.specs.Headline.{EndsBehind, Headline}
use Rattle.mg_runs.specs.Laws.{BeginsRun, ClosingsFail, IsCutOff, LinesFail, OpeningsAreJudged, OpeningsFail, OtherFilesAreRefused, OtherFilesAreUnopened, RunsBegin, RunsClose, RunsStop, closed_end}
use Rattle.mg_run_ends.specs.Printing.{IsPrinted}
use Rattle.mg_run_ends.specs.Saying.{IsTold, SaysEnd}
use Rattle.mg_program.specs.Serving.{HasObeyed, Serves, cut_end}

-- ---- an end by a refusal outside the lines

outside_read : (refusal : Refusal) (told : RunEnd) → IsOutside refusal told → told ≡ ScriptTooLong → ⊥
outside_read refusal told (inl is) same = absurd cc
outside_read refusal told (inr both) same = let is : told ≡ Outside refusals.Memory = both.1 in absurd cc

outside_stream : (refusal : Refusal) (told : RunEnd) → IsOutside refusal told → told ≡ Stream → ⊥
outside_stream refusal told (inl is) same = absurd cc
outside_stream refusal told (inr both) same = let is : told ≡ Outside refusals.Memory = both.1 in absurd cc

outside_whole : (refusal : Refusal) (told : RunEnd) → IsOutside refusal told → (fine : Bool) → told ≡ Whole fine → ⊥
outside_whole refusal told (inl is) fine same = absurd cc
outside_whole refusal told (inr both) fine same = let is : told ≡ Outside refusals.Memory = both.1 in absurd cc

-- a refusal whose line is not fixed is none by the disk
unfixed : {D : Type 0} (m : Meaning D) (old new : D) (refusal : Refusal) → has_fixed_line refusal ≡ false
    → FailsWith m old new refusal → m.faults new ≡ m.faults old
unfixed m old new (refusals.DiskRead count) fixed fails = absurd cc
unfixed m old new (refusals.DiskWrite count) fixed fails = absurd cc
unfixed m old new (refusals.Offline count) fixed fails = absurd cc
unfixed m old new refusal fixed fails = fails

outside_fails : {D : Type 0} (m : Meaning D) (old new : D) (refusal : Refusal) (told : RunEnd)
    → IsOutside refusal told → FailsWith m old new refusal → EndsWith m old new told
outside_fails m old new refusal told (inl is) fails = subst (EndsWith m old new) (sym is) fails
outside_fails m old new refusal told (inr both) fails = subst (EndsWith m old new) (sym both.1)
    (unfixed m old new refusal both.0 fails)

-- ---- a disk that was not opened

pub refused : {D K : Type 0} (m : Meaning D) (n : SinkMeaning K) (lines : List Line) (disk new : D) (limit : ℕ)
    (refusal : Refusal) (told : RunEnd) (before after : K) → OpeningsAreJudged m n → OtherFilesAreRefused m n
    → OpeningsFail m → RefusesOpening m disk new limit refusal → SaysEnd n before after (Outside refusal) told
    → Serves m n limit lines disk new before after told
refused m n lines disk new limit refusal told before after judged others fails refuses says = record {
  read = λ is. outside_read refusal told says.is_told is;
  disk = outside_fails m disk new refusal told says.is_told (fails disk new limit refusal refuses);
  most_writes = refuses.same.most_writes;
  stream = λ is. absurd (outside_stream refusal told says.is_told is);
  sink_steady = λ fine is. absurd (outside_whole refusal told says.is_told fine is);
  headline = λ size image o entry. judged disk new limit refusal size image o lines told before after entry refuses
      says.is_told says.printed;
  other_files = λ size image other. others disk new limit refusal size image told before after other refuses says.is_told
      says.printed;
}

-- ---- a database that is not closed

module _ {D P K : Type 0} (m : Meaning D) (places : Places P) (n : SinkMeaning K) (limit : ℕ) (lines : List Line)
    (disk : D) (now : Core D) (before mid after : K) where
  -- what there is to say of such an end
  record IsCut (refusals : List Refusal) (lines_end : LinesEnd) (fine : Bool) (told : RunEnd) : Type 0 where
    cut : IsCutOff lines_end refusals
    behind : EndsBehind lines_end refusals fine told
    read : told ≡ ScriptTooLong → ⊥
    disk_fails : EndsWith m disk now.store.disk told
    stream : told ≡ Stream → Rose (n.faults before) (n.faults after)
    whole : (f : Bool) → told ≡ Whole f → ⊥

  cut_by_refusal : (first : Refusal) (more : List Refusal) (fine : Bool) (told : RunEnd)
      → HasObeyed m places n limit lines disk now before mid (first ∷ more) lines_ends.Whole fine → LinesFail m places
      → IsOutside (told_first first more) told → IsCut (first ∷ more) lines_ends.Whole fine told
  cut_by_refusal first more fine told did fails is = record {
    cut = tt;
    behind = is;
    read = outside_read (told_first first more) told is;
    disk_fails = outside_fails m disk now.store.disk (told_first first more) told is
        (fails disk limit did.core now (Some (told_first first more)) did.opened did.accounts);
    stream = λ same. absurd (outside_stream (told_first first more) told is same);
    whole = outside_whole (told_first first more) told is;
  }

  cut_in_line : (refusal : Refusal) (refused_at : List Refusal) (fine : Bool) (told : RunEnd)
      → HasObeyed m places n limit lines disk now before mid refused_at (lines_ends.Stopped refusal) fine
      → LinesFail m places → told ≡ InLine refusal → IsCut refused_at (lines_ends.Stopped refusal) fine told
  cut_in_line refusal refused_at fine told did fails is = record {
    cut = tt;
    behind = is;
    read = λ same. absurd cc;
    disk_fails = subst (EndsWith m disk now.store.disk) (sym is)
        (fails disk limit did.core now (Some refusal) did.opened did.accounts);
    stream = λ same. absurd cc;
    whole = λ f same. absurd cc;
  }

  memory_told : (told : RunEnd) → IsOutside refusals.Memory told → told ≡ Outside refusals.Memory
  memory_told told (inl is) = is
  memory_told told (inr both) = both.1

  cut_for_memory : (refused_at : List Refusal) (fine : Bool) (told : RunEnd)
      → HasObeyed m places n limit lines disk now before mid refused_at lines_ends.NoMemory fine → LinesFail m places
      → told ≡ Outside refusals.Memory → IsCut refused_at lines_ends.NoMemory fine told
  cut_for_memory refused_at fine told did fails is = record {
    cut = tt;
    behind = is;
    read = λ same. absurd cc;
    disk_fails = subst (EndsWith m disk now.store.disk) (sym is)
        (fails disk limit did.core now None did.opened did.accounts);
    stream = λ same. absurd cc;
    whole = λ f same. absurd cc;
  }

  cut_by_sink : (refused_at : List Refusal) (fine : Bool) (told : RunEnd)
      → HasObeyed m places n limit lines disk now before mid refused_at lines_ends.SinkFailed fine → LinesFail m places
      → after ≡ mid → told ≡ Stream → IsCut refused_at lines_ends.SinkFailed fine told
  cut_by_sink refused_at fine told did fails same is = record {
    cut = tt;
    behind = is;
    read = λ long. absurd cc;
    disk_fails = subst (EndsWith m disk now.store.disk) (sym is)
        (fails disk limit did.core now None did.opened did.accounts);
    stream = λ stream. subst (λ (k : K). Rose (n.faults before) (n.faults k)) (sym same) (did.sinks.failed refl);
    whole = λ f whole. absurd cc;
  }

  is_cut : (refused_at : List Refusal) (lines_end : LinesEnd) (fine : Bool) (end told : RunEnd)
      → HasObeyed m places n limit lines disk now before mid refused_at lines_end fine → LinesFail m places
      → cut_end lines_end refused_at ≡ Some end → SaysEnd n mid after end told → IsCut refused_at lines_end fine told
  is_cut [] lines_ends.Whole fine end told did fails is says = absurd cc
  is_cut (first ∷ more) lines_ends.Whole fine end told did fails is says =
      let same : Outside (told_first first more) ≡ end = cc in
      cut_by_refusal first more fine told did fails (subst (λ (e : RunEnd). IsTold e told) (sym same) says.is_told)
  is_cut refused_at (lines_ends.Stopped refusal) fine end told did fails is says =
      let same : InLine refusal ≡ end = cc in
      cut_in_line refusal refused_at fine told did fails (subst (λ (e : RunEnd). IsTold e told) (sym same) says.is_told)
  is_cut refused_at lines_ends.NoMemory fine end told did fails is says =
      let same : Outside refusals.Memory ≡ end = cc in
      cut_for_memory refused_at fine told did fails
      (memory_told told (subst (λ (e : RunEnd). IsTold e told) (sym same) says.is_told))
  is_cut refused_at lines_ends.SinkFailed fine end told did fails is says =
      let same : Stream ≡ end = cc in
      cut_by_sink refused_at fine told did fails (says.silent (ap last_line (sym same)))
      (subst (λ (e : RunEnd). IsTold e told) (sym same) says.is_told)

  left_there : (refused_at : List Refusal) (lines_end : LinesEnd) (fine : Bool) (end told : RunEnd)
      → HasObeyed m places n limit lines disk now before mid refused_at lines_end fine → OtherFilesAreUnopened m
      → LinesFail m places → RunsStop m places n → IsCore m now → cut_end lines_end refused_at ≡ Some end → SaysEnd n mid after end told
      → Serves m n limit lines disk now.store.disk before after told
  left_there refused_at lines_end fine end told did unopened fails stops core is says =
      let cut = is_cut refused_at lines_end fine end told did fails is says in record {
        read = cut.read;
        disk = cut.disk_fails;
        most_writes = did.accounts.most_writes ∙ did.opened.same.most_writes;
        stream = cut.stream;
        sink_steady = λ f whole. absurd (cut.whole f whole);
        headline = λ size image o entry. stops disk limit did.core now size image o lines refused_at lines_end fine
            told before mid after entry did.opened core did.accounts (did.done size image o entry) cut.cut cut.behind
            says.printed;
        other_files = λ size image other. absurd (unopened disk limit did.core size image other did.opened);
      }

  pub left : (new : D) (refused_at : List Refusal) (lines_end : LinesEnd) (fine : Bool) (end told : RunEnd)
      → new ≡ now.store.disk → HasObeyed m places n limit lines disk now before mid refused_at lines_end fine
      → OtherFilesAreUnopened m → LinesFail m places → RunsStop m places n → IsCore m now
      → cut_end lines_end refused_at ≡ Some end → SaysEnd n mid after end told
      → Serves m n limit lines disk new before after told
  left new refused_at lines_end fine end told same did unopened fails stops core is says =
      subst (λ (d : D). Serves m n limit lines disk d before after told) (sym same)
      (left_there refused_at lines_end fine end told did unopened fails stops core is says)

  -- ---- a database that is closed

  none_cut : (refused_at : List Refusal) (lines_end : LinesEnd) → cut_end lines_end refused_at ≡ None
      → (refused_at ≡ []) × (lines_end ≡ lines_ends.Whole)
  none_cut [] lines_ends.Whole is = (refl, refl)
  none_cut (first ∷ more) lines_ends.Whole is = absurd cc
  none_cut refused_at (lines_ends.Stopped refusal) is = absurd cc
  none_cut refused_at lines_ends.NoMemory is = absurd cc
  none_cut refused_at lines_ends.SinkFailed is = absurd cc

  closing_told : (new : D) (refusal : Refusal) (told : RunEnd) → RefusesClose m now new refusal
      → IsOutside refusal told → told ≡ Outside refusal
  closing_told new refusal told refuses (inl is) = is
  closing_told new (refusals.Offline count) told refuses (inr both) = let fixed = both.0 in absurd cc
  closing_told new (refusals.DiskWrite count) told refuses (inr both) = let fixed = both.0 in absurd cc
  closing_told new refusal told refuses (inr both) = absurd refuses

  closed_as : (new : D) (fine : Bool) (closed : Result (Unit {0}) Refusal) (told : RunEnd)
      → HasObeyed m places n limit lines disk now before mid [] lines_ends.Whole fine → OtherFilesAreUnopened m
      → ClosingsFail m places → RunsClose m places n → IsCore m now → ClosesEngine m now new closed
      → SaysEnd n mid after (closed_end fine closed) told → Serves m n limit lines disk new before after told
  closed_as new fine (Ok x) told did unopened fails closes core closing says =
      let is : told ≡ Whole fine = says.is_told in
      let same : after ≡ mid = says.silent refl in record {
        read = λ long. absurd cc;
        disk = subst (EndsWith m disk new) (sym is)
            (fails disk new limit did.core now (Ok x) did.opened did.accounts closing);
        most_writes = closing.same.most_writes ∙ (did.accounts.most_writes ∙ did.opened.same.most_writes);
        stream = λ stream. absurd cc;
        sink_steady = λ f whole. ap n.faults same ∙ did.sinks.steady refl;
        headline = λ size image o entry. subst (Headline m n size (limit_on limit image) o lines disk new before after) (sym is)
            (closes disk new limit did.core now size image o lines fine (Ok x) before mid after entry did.opened
            core did.accounts (did.done size image o entry) closing
            (subst (λ (e : RunEnd). IsPrinted n mid after (last_line e)) is says.printed));
        other_files = λ size image other. absurd (unopened disk limit did.core size image other did.opened);
      }
  closed_as new fine (Err refusal) told did unopened fails closes core closing says =
      let is : told ≡ Outside refusal = closing_told new refusal told closing.ended says.is_told in record {
        read = λ long. absurd cc;
        disk = subst (EndsWith m disk new) (sym is)
            (fails disk new limit did.core now (Err refusal) did.opened did.accounts closing);
        most_writes = closing.same.most_writes ∙ (did.accounts.most_writes ∙ did.opened.same.most_writes);
        stream = λ stream. absurd cc;
        sink_steady = λ f whole. absurd cc;
        headline = λ size image o entry. subst (Headline m n size (limit_on limit image) o lines disk new before after) (sym is)
            (closes disk new limit did.core now size image o lines fine (Err refusal) before mid after entry did.opened
            core did.accounts (did.done size image o entry) closing
            (subst (λ (e : RunEnd). IsPrinted n mid after (last_line e)) is says.printed));
        other_files = λ size image other. absurd (unopened disk limit did.core size image other did.opened);
      }

  pub closed : (new : D) (refused_at : List Refusal) (lines_end : LinesEnd) (fine : Bool)
      (result : Result (Unit {0}) Refusal) (end told : RunEnd)
      → HasObeyed m places n limit lines disk now before mid refused_at lines_end fine → OtherFilesAreUnopened m
      → ClosingsFail m places → RunsClose m places n → IsCore m now → ClosesEngine m now new result → cut_end lines_end refused_at ≡ None
      → end ≡ closed_end fine result → SaysEnd n mid after end told → Serves m n limit lines disk new before after told
  closed new refused_at lines_end fine result end told did unopened fails closes core closing none is says =
      let both = none_cut refused_at lines_end none in
      closed_as new fine result told
      (subst (λ (e : LinesEnd). HasObeyed m places n limit lines disk now before mid [] e fine) both.1
      (subst (λ (xs : List Refusal). HasObeyed m places n limit lines disk now before mid xs lines_end fine) both.0
      did)) unopened fails closes core closing (subst (λ (e : RunEnd). SaysEnd n mid after e told) is says)

-- ---- what was obeyed

-- there was no room for what is refused at the end, and no line was obeyed
pub unbegun : {D P K : Type 0} (m : Meaning D) (places : Places P) (n : SinkMeaning K) (lines : List Line) (disk : D)
    (limit : ℕ) (core : Core D) (sink : K) → IsOpenedOver m disk limit core
    → HasObeyed m places n limit lines disk core sink sink [] lines_ends.NoMemory true
unbegun m places n lines disk limit core sink opened = record {
  core = core;
  opened = opened;
  accounts = no_account (means_with_room m places) core None tt;
  sinks = record { never_falls = omega arith; steady = λ is. absurd cc; failed = λ is. absurd cc };
  done = λ size image o entry. inr (record { short = refl; keeper = refl; sink = refl; none = refl });
}

-- no entry has needed any of the pages that are promised
with_promise : {D P : Type 0} (m : Meaning D) (places : Places P) (core : Core D) (size : ℕ) (o : Opening)
    → BeginsRun m core size o → StandsWithRoom (means m places) core o []
with_promise m places core size o begun = record {
  stands = begun.stands;
  left = λ count within. let fits : 0 + count ≤ o.free = within in begun.room count (omega (arith, fits));
  full = tt;
}

-- the page size that the engine tells is the one of the history
obeyed_as : {D P K : Type 0} (m : Meaning D) (places : Places P) (n : SinkMeaning K) (lines : List Line) (disk : D)
    (limit : ℕ) (core now : Core D) (before mid : K) (refused_at : List Refusal) (lines_end : LinesEnd) (fine : Bool)
    (page : ℕ) → page ≡ core.store.geometry.size → RunsBegin m → IsOpenedOver m disk limit core
    → Accounts (means_with_room m places) core now (reason_at lines_end refused_at) → SinkSays n before mid lines_end
    → ((o : Opening) → (means_with_room m places).stands core o [] → ((t : ℕ) → is_active (state_of o [] t) ≡ false)
    → ScriptDone (means_with_room m places) n core now before mid o page lines refused_at lines_end fine)
    → HasObeyed m places n limit lines disk now before mid refused_at lines_end fine
obeyed_as m places n lines disk limit core now before mid refused_at lines_end fine page is begins opened accounts
    sinks done = record {
      core = core;
      opened = opened;
      accounts = accounts;
      sinks = sinks;
      done = λ size image o entry.
          let begun = begins disk limit core size image o opened entry in
          subst (λ (s : ℕ). ScriptDone (means_with_room m places) n core now before mid o s lines refused_at lines_end
          fine) (is ∙ begun.size_is) (done o (with_promise m places core size o begun) begun.idle);
    }

pub obeyed : {D P K : Type 0} (m : Meaning D) (places : Places P) (n : SinkMeaning K) (lines : List Line) (disk : D)
    (limit : ℕ) (core now : Core D) (before mid : K) (given refused_at : List Refusal) (lines_end : LinesEnd)
    (fine : Bool) (page : ℕ) → given ≡ refused_at → page ≡ core.store.geometry.size → RunsBegin m
    → IsOpenedOver m disk limit core → Accounts (means_with_room m places) core now (reason_at lines_end refused_at)
    → SinkSays n before mid lines_end
    → ((o : Opening) → (means_with_room m places).stands core o [] → ((t : ℕ) → is_active (state_of o [] t) ≡ false)
    → ScriptDone (means_with_room m places) n core now before mid o page lines refused_at lines_end fine)
    → HasObeyed m places n limit lines disk now before mid given lines_end fine
obeyed m places n lines disk limit core now before mid given refused_at lines_end fine page same is begins opened
    accounts sinks done =
    subst (λ (xs : List Refusal). HasObeyed m places n limit lines disk now before mid xs lines_end fine) (sym same)
    (obeyed_as m places n lines disk limit core now before mid refused_at lines_end fine page is begins opened accounts
    sinks done)
