-- The laws of a keeper, and what its calls add, hold of what is seen through it.
use Rattle.std.proofs.Common.{◌≡◌, inl, inr, ℕ, Bool, true, false, List, [], ◌∷◌, Option, Some, None, Result, Ok, Err, subst, sym}
use Rattle.std.proofs.lemmas.Option.{none-some}
use Rattle.mg_base.specs.declared.numbers.TxNo.{TxNo}
use Rattle.mg_value.specs.declared.shape.Shape.{Shape}
use Rattle.mg_expr.specs.declared.expr.Expr.{Expr}
use Rattle.mg_model.specs.declared.answer.Answer.{Answer}
use Rattle.mg_model.specs.declared.answer.Answer.TheVariants.{Fine, No, Rows}
use Rattle.mg_model.specs.declared.event.Event.{Event}
use Rattle.mg_model.specs.declared.event.Event.TheVariants as events
use Rattle.mg_model.specs.declared.event.Mode.{Mode}
use Rattle.mg_model.specs.declared.opening.Opening.{Opening}
use Rattle.mg_model.specs.declared.refusal.Refusal.{Refusal}
use Rattle.mg_model.specs.Catalog.{catalog_name}
use Rattle.mg_model.specs.Changes.{Cells}
use Rattle.mg_model.specs.History.{Entries, effect_with, entry}
use Rattle.mg_records.specs.Adding.{Adds, fine_or, number_or}
use Rattle.mg_records.specs.Committing.{PagesAreFew}
use Rattle.mg_records.specs.Crashing.{CrashesHold, HoldsOn}
use Rattle.mg_records.specs.Keeping.{refusal_in}
use Rattle.mg_records.specs.Meaning.{Means}
use Rattle.mg_records.specs.Reading.{FindAdds, TablesAreSeen, WalksAreWhole}
use Rattle.mg_records.specs.Sessions.{SessionsAreOne}
use Rattle.mg_records.specs.TakingBack.{GivesUp, GoesBack, Undoes}
use Rattle.mg_records.specs.Writing.{InsertsEach, MakesTable, rows_made}
use Rattle.mg_trace.specs.declared.trace.Trace.{Trace}
use Rattle.mg_trace.specs.Putting.{AddsLine, IsBeginning}
use Rattle.mg_recording.specs.Active.{AreActive}
use Rattle.mg_recording.specs.ActiveLaws.{active_kept, keeps_states}
use Rattle.mg_recording.specs.Backs.{NotesGoneBack, NotesRefused, NotesUndone}
use Rattle.mg_recording.specs.Knowing.{Knows, NotesBegun, after_end}
use Rattle.mg_recording.specs.KnowingLaws.{begun_step, commit_step, knows_back, knows_one, rollback_step, rows_active, stopped, stopped_knows}
use Rattle.mg_recording.specs.Making.{NotesMade, with_rows}
use Rattle.mg_recording.specs.Via.{NotesFound, via}

-- ---- the laws of a keeper

module _ {R P T : Type 0} (m : Means R P) (keeper : T → R) (knows : T → Opening → Entries → Type 0) where
  pub seen_via : TablesAreSeen m → TablesAreSeen (via m keeper knows)
  seen_via law = λ t o h u name table s. law (keeper t) o h u name table s.0

  pub whole_via : WalksAreWhole m → WalksAreWhole (via m keeper knows)
  whole_via law = λ t o h u table s. law (keeper t) o h u table s.0

  pub few_via : PagesAreFew m → PagesAreFew (via m keeper knows)
  few_via law = λ t. law (keeper t)

  pub crashes_via : CrashesHold m → CrashesHold (via m keeper knows)
  crashes_via law = λ t o h s. law (keeper t) o h s.0

  pub lasts_via : HoldsOn m → HoldsOn (via m keeper knows)
  lasts_via law = record {
    more = λ t. law.more (keeper t);
    fewer = λ t. law.fewer (keeper t);
    longer = λ t o h e least c s. law.longer (keeper t) o h e least c s.0;
    least = λ t. law.least (keeper t);
  }

  pub one_via : SessionsAreOne m → SessionsAreOne (via m keeper knows)
  one_via law = λ t. law (keeper t)

-- ---- what calls add

module _ {R P T : Type 0} (m : Means R P) (keeper : T → R) (trace : T → Trace) (active : T → List ℕ) where
  -- what is known through it
  abbrev pub recorded : Means T P
  recorded = via m keeper (λ t o h. Knows (trace t) (active t) o h)

  -- it stands for a history, since the keeper does and this is known of it
  stands_with : (new : T) (o : Opening) (h : Entries) → m.stands (keeper new) o h → Knows (trace new) (active new) o h
      → recorded.stands new o h
  stands_with new o h stands knows = (stands, knows)

  -- an event is added and noted
  pub adds_noted : (old new : T) (event : Event) (told answer : Answer) → told ≡ answer
      → Adds m (keeper old) (keeper new) event answer → AddsLine (trace old) (trace new) event told
      → ((o : Opening) (h : Entries) → (trace new).whole ≡ true → AreActive (active old) o h
      → AreActive (active new) o (entry event answer ∷ h))
      → Adds recorded old new event answer
  adds_noted old new event told answer is adds line step = λ o h s. let a = adds o h s.0 in (
    a.0,
    stands_with new o (entry event answer ∷ h) a.1
        (knows_one (trace old) (trace new) (active old) (active new) o h event answer
        (subst (λ (x : Answer). AddsLine (trace old) (trace new) event x) is line) (step o h) s.1),
  )

  -- one that begins and ends no transaction
  pub adds_quiet : (old new : T) (event : Event) (told answer : Answer) → told ≡ answer
      → active new ≡ active old → keeps_states (effect_with event answer) ≡ true
      → Adds m (keeper old) (keeper new) event answer → AddsLine (trace old) (trace new) event told
      → Adds recorded old new event answer
  adds_quiet old new event told answer is same keeps adds line =
      adds_noted old new event told answer is adds line (λ o h w are.
      subst (λ (us : List ℕ). AreActive us o (entry event answer ∷ h)) (sym same)
      (active_kept (active old) o h event answer keeps are))

  pub adds_begun : (old new : T) (session : ℕ) (mode : Mode) (drawn : Result TxNo Refusal)
      → Adds m (keeper old) (keeper new) (events.Begin session mode) (number_or drawn)
      → NotesBegun (trace old) (trace new) (active old) (active new) (events.Begin session mode) drawn
      → Adds recorded old new (events.Begin session mode) (number_or drawn)
  adds_begun old new session mode drawn adds noted =
      adds_noted old new (events.Begin session mode) (number_or drawn) (number_or drawn) (λ i. number_or drawn) adds
      noted.line
      (λ o h w are. begun_step (active old) (active new) o h session mode drawn (noted.number w) are)

  pub adds_commit : (old new : T) (t : TxNo) (done : Result (Unit {0}) Refusal) (told : Answer) → told ≡ fine_or done
      → active new ≡ after_end (active old) t done
      → Adds m (keeper old) (keeper new) (events.Commit t) (fine_or done)
      → AddsLine (trace old) (trace new) (events.Commit t) told
      → Adds recorded old new (events.Commit t) (fine_or done)
  adds_commit old new t done told is ends adds line =
      adds_noted old new (events.Commit t) told (fine_or done) is adds line
      (λ o h w are. commit_step (active old) (active new) o h t done ends are)

  pub adds_rollback : (old new : T) (t : TxNo) (done : Result (Unit {0}) Refusal) (told : Answer)
      → told ≡ fine_or done → active new ≡ after_end (active old) t done
      → Adds m (keeper old) (keeper new) (events.Rollback t) (fine_or done)
      → AddsLine (trace old) (trace new) (events.Rollback t) told
      → Adds recorded old new (events.Rollback t) (fine_or done)
  adds_rollback old new t done told is ends adds line =
      adds_noted old new (events.Rollback t) told (fine_or done) is adds line
      (λ o h w are. rollback_step (active old) (active new) o h t done ends are)

  -- new rows come one after another, and the trace has stopped
  each_stopped : (new : T) (o : Opening) (t : TxNo) (rows : List Cells) (h : Entries) (refusal : Option Refusal)
      → (trace new).whole ≡ false → IsBeginning (trace new).text.items h
      → InsertsEach m (keeper new) o t rows h refusal → InsertsEach recorded new o t rows h refusal
  each_stopped new o t [] h None whole begins is =
      stands_with new o h is (stopped_knows (trace new) (active new) o h whole begins)
  each_stopped new o t [] h (Some refusal) whole begins is = is
  each_stopped new o t (row ∷ rows) h refusal whole begins (inl is) = inl (
    is.0,
    each_stopped new o t rows (entry (events.Insert t catalog_name row) Fine ∷ h) refusal whole (inr begins) is.1,
  )
  each_stopped new o t (row ∷ rows) h refusal whole begins (inr is) =
      inr (
        is.0,
        is.1,
        is.2,
        stands_with new o _ is.3
            (stopped_knows (trace new) (active new) o _ whole (inr begins)),
      )

  -- new rows come one after another, and each has its line
  each_noted : (new : T) (o : Opening) (t : TxNo) (rows : List Cells) (h : Entries)
      → Knows (trace new) (active new) o (with_rows t catalog_name rows h)
      → InsertsEach m (keeper new) o t rows h None → InsertsEach recorded new o t rows h None
  each_noted new o t [] h knows is = stands_with new o h is knows
  each_noted new o t (row ∷ rows) h knows (inl is) =
      inl (is.0, each_noted new o t rows (entry (events.Insert t catalog_name row) Fine ∷ h) knows is.1)
  each_noted new o t (row ∷ rows) h knows (inr is) = absurd (none-some is.0 is.1)

  -- a table is made, and noted
  pub made_noted : (old new : T) (t : TxNo) (name : List ℕ) (shape : Shape) (made : Result (Unit {0}) Refusal)
      → active new ≡ active old
      → MakesTable m (keeper old) (keeper new) t name shape (refusal_in made)
      → NotesMade (trace old) (trace new) t name shape made
      → MakesTable recorded old new t name shape (refusal_in made)
  made_noted old new t name shape (Ok x) same makes noted = λ o h s.
      each_noted new o t (rows_made name shape) h
      (record {
        has = noted.rows h s.1.has;
        are = λ w. subst (λ (us : List ℕ). AreActive us o (with_rows t catalog_name (rows_made name shape) h)) (sym same)
            (rows_active (active old) o t catalog_name (rows_made name shape) h (s.1.are (noted.whole w)));
      }) (makes o h s.0)
  made_noted old new t name shape (Err refusal) same makes stops = λ o h s.
      each_stopped new o t (rows_made name shape) h (Some refusal) stops.whole
      (stopped (trace old) (trace new) h stops s.1.has) (makes o h s.0)

  -- a finding is told, and noted
  pub found_noted : (old new : T) (t : TxNo) (name : List ℕ) (filter : Option Expr) (rows : List Cells)
      (found : Result (Unit {0}) Refusal) → active new ≡ active old
      → FindAdds m (keeper old) (keeper new) t name filter rows found
      → NotesFound (trace old) (trace new) t name filter rows found
      → FindAdds recorded old new t name filter rows found
  found_noted old new t name filter rows (Ok x) same adds line = λ o h s is.
      stands_with new o _ (adds o h s.0 is)
      (knows_one (trace old) (trace new) (active old) (active new) o h (events.Find t name filter) (Rows rows) line
      (λ w are. subst (λ (us : List ℕ). AreActive us o h) (sym same) are) s.1)
  found_noted old new t name filter rows (Err refusal) same adds line = λ o h s. let a = adds o h s.0 in (
    a.0,
    stands_with new o _ a.1
        (knows_one (trace old) (trace new) (active old) (active new) o h (events.Find t name filter) (No refusal) line
        (λ w are. subst (λ (us : List ℕ). AreActive us o h) (sym same) are) s.1),
  )

  -- a taking back was refused, and noted
  gives_up_noted : (old new : T) (t : TxNo) (event : Event) (refusal : Refusal)
      → GivesUp m (keeper old) (keeper new) t event refusal
      → NotesRefused (trace old) (trace new) (active old) (active new) t event refusal
      → GivesUp recorded old new t event refusal
  gives_up_noted old new t event refusal gives noted = λ o h s. let a = gives o h s.0 in (
    a.0,
    stands_with new o _ a.1
        (knows_back (trace old) (trace new) (active old) (active new) o h t event refusal noted s.1),
  )

  pub undoes_noted : (old new : T) (t : TxNo) (done : Result (Unit {0}) Refusal)
      → Undoes m (keeper old) (keeper new) t done
      → NotesUndone (trace old) (trace new) (active old) (active new) t done
      → Undoes recorded old new t done
  undoes_noted old new t (Ok x) undoes noted =
      adds_quiet old new (events.UndoMark t) Fine Fine (λ i. Fine) noted.1 (λ i. true) undoes noted.0
  undoes_noted old new t (Err refusal) gives noted = gives_up_noted old new t (events.UndoMark t) refusal gives noted

  pub goes_back_noted : (old new : T) (t : TxNo) (name : List ℕ) (done : Result Bool Refusal)
      → GoesBack m (keeper old) (keeper new) t name done
      → NotesGoneBack (trace old) (trace new) (active old) (active new) t name done
      → GoesBack recorded old new t name done
  goes_back_noted old new t name (Ok true) goes noted = λ o h s. let a = goes o h s.0 in (
    a.0,
    a.1,
    stands_with new o _ a.2
        (knows_one (trace old) (trace new) (active old) (active new) o h (events.BackTo t name) Fine noted.0
        (λ w are. subst (λ (us : List ℕ). AreActive us o h) (sym noted.1) are) s.1),
  )
  goes_back_noted old new t name (Ok false) goes noted = λ o h s. let a = goes o h s.0 in (
    a.0,
    a.1,
    stands_with new o h a.2
        (subst (λ (us : List ℕ). Knows (trace new) us o h) (sym noted.1)
        (subst (λ (x : Trace). Knows x (active old) o h) (sym noted.0) s.1)),
  )
  goes_back_noted old new t name (Err refusal) gives noted =
      gives_up_noted old new t (events.BackTo t name) refusal gives noted
