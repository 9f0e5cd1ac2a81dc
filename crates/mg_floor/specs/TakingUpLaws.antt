-- What the calls of mg_sessions come to at the beginning of a line is what a session takes up.
use Rattle.std.proofs.Common.{◌≡◌, ℕ, true, false, List, Option, ap, sym, ◌∙◌}
use Rattle.std.proofs.lemmas.Bool.{true≢false}
use Rattle.mg_model.specs.declared.opening.Opening.{Opening}
use Rattle.mg_model.specs.declared.refusal.Refusal.TheVariants as refusals
use Rattle.mg_model.specs.History.{Entries}
use Rattle.mg_records.specs.Meaning.{Means}
use Rattle.mg_rows.specs.declared.outcome.Outcome.TheVariants as outcomes
use Rattle.mg_rows.specs.declared.statement_fault.StatementFault.TheVariants.{Engine}
use Rattle.mg_script.specs.declared.line.LineKind.{LineKind}
use Rattle.mg_script.specs.declared.line.LineKind.TheVariants as kinds
use Rattle.mg_script.specs.declared.line.Session.{Session}
use Rattle.mg_script.specs.declared.reply.Reply.{Reply}
use Rattle.mg_script.specs.declared.reply.Reply.TheVariants as replies
use Rattle.mg_sql.specs.Answers.{Parses}
use Rattle.mg_sql.specs.Laws.{TextsAreOneStatement}
use Rattle.mg_statements.specs.Plain.{Plain}
use Rattle.mg_transcript.specs.Lines.{Does, begins, tends_pages}
use Rattle.mg_transcript.specs.Lines as lines
use Rattle.mg_transcript.specs.Sessions.{Unfinished}
use Rattle.mg_courses.specs.Running.{RunMeans}
use Rattle.mg_pending.specs.declared.pending.Pending.{Pending}
use Rattle.mg_pending.specs.declared.transactions.Transaction.{Transaction}
use Rattle.mg_sessions.specs.Coming.{ComesTo}
use Rattle.mg_floor.specs.TakingUp.{TakesUp, wants_memory, declines, begins_one, starts}

module _ (o : Opening) (h : Entries) (size : ℕ) (us : List Unfinished) where
  -- what a line of a kind comes to where it is one of these: `A: sql` with a text that begins a transaction, `A~ sql`
  abbrev AsTaken : LineKind → Reply → Entries → List Unfinished → Type 0
  AsTaken (kinds.Sql session text) reply after then_ = (s : Plain) → Parses text s → begins s ≡ true
      → TakesUp o h size us session text reply after then_
  AsTaken (kinds.Held session text) reply after then_ = TakesUp o h size us session text reply after then_
  AsTaken kind reply after then_ = Unit {0}

  no_memory : (kind : LineKind) → AsTaken kind (replies.No (Engine refusals.Memory)) h us
  no_memory (kinds.Sql session text) = λ s parses is. wants_memory
  no_memory (kinds.Held session text) = wants_memory
  no_memory (kinds.Step session most) = tt
  no_memory (kinds.Go session) = tt
  no_memory (kinds.Write most) = tt
  no_memory kinds.Collect = tt
  no_memory (kinds.Sweep most) = tt
  no_memory (kinds.Prepare session) = tt
  no_memory (kinds.Put key value) = tt
  no_memory (kinds.Get key) = tt
  no_memory kinds.Silent = tt
  no_memory kinds.Bad = tt

  tending : (kind : LineKind) (reply : Reply) → tends_pages kind ≡ true → AsTaken kind reply h us
  tending (kinds.Sql session text) reply is = absurd cc
  tending (kinds.Held session text) reply is = absurd cc
  tending (kinds.Step session most) reply is = tt
  tending (kinds.Go session) reply is = tt
  tending (kinds.Write most) reply is = tt
  tending kinds.Collect reply is = tt
  tending (kinds.Sweep most) reply is = tt
  tending (kinds.Prepare session) reply is = tt
  tending (kinds.Put key value) reply is = tt
  tending (kinds.Get key) reply is = tt
  tending kinds.Silent reply is = tt
  tending kinds.Bad reply is = tt

  -- a text that begins a transaction is no other statement
  apart : TextsAreOneStatement → (text : List ℕ) (s t : Plain) → Parses text s → Parses text t → begins s ≡ true
      → begins t ≡ false → ⊥
  apart one text s t first second is not =
      absurd (true≢false (sym is ∙ ap begins (one text s t first second) ∙ not))

  taken_as : TextsAreOneStatement → {kind : LineKind} {reply : Reply} {after : Entries} {then_ : List Unfinished}
      → Does o h size us kind reply after then_ → AsTaken kind reply after then_
  taken_as one (lines.wants_memory kind) = no_memory kind
  taken_as one lines.silent = tt
  taken_as one lines.bad = tt
  taken_as one (lines.declines session text fault why) = λ s parses is. declines fault why
  taken_as one (lines.begins_one session text read_only wait snapshot answer free parses none lawful) =
      λ s again is. begins_one read_only wait snapshot answer free parses none lawful
  taken_as one (lines.runs session text t s mid after begun comes its start runs) =
      λ other parses is. absurd (apart one text other s parses its.parses is its.of_transaction)
  taken_as one (lines.declines_held session text fault why) = declines fault why
  taken_as one (lines.holds session text t s after comes its start) = starts t s after comes its start
  taken_as one (lines.steps_none session most none) = tt
  taken_as one (lines.goes_none session none) = tt
  taken_as one (lines.steps_on session most u others after comes holds takes) = tt
  taken_as one (lines.goes_on session u others after comes holds runs) = tt
  taken_as one (lines.puts key value after reply its) = tt
  taken_as one (lines.gets key after reply its) = tt
  taken_as one (lines.prepares_busy session busy) = tt
  taken_as one (lines.prepares_none session free none) = tt
  taken_as one (lines.prepares session t free its lawful) = tt
  taken_as one (lines.prepares_not session t refusal free its lawful) = tt
  taken_as one (lines.prepares_no_page session t refusal free its outside) = tt
  taken_as one (lines.tends kind is) = tending kind (replies.Ok outcomes.Fine) is
  taken_as one (lines.tends_not kind refusal is outside) = tending kind (replies.No (Engine refusal)) is

-- ---- of calls

module _ {R P Run : Type 0} (m : Means R P) (runs : RunMeans R Run) (old new : R) (o : Opening) (h : Entries)
    (all : List (Option Transaction)) (ps : List (Pending Run)) (us : List Unfinished) (size : ℕ) (session : Session)
    (text : List ℕ) (reply : Reply) (one : TextsAreOneStatement) where
  pub begins_taken : (s : Plain) → Parses text s → begins s ≡ true
      → ComesTo m runs old new o h all ps (Does o h size us (kinds.Sql session text) reply)
      → ComesTo m runs old new o h all ps (TakesUp o h size us session text reply)
  begins_taken s parses is comes = record {
    after = comes.after;
    then_ = comes.then_;
    does = taken_as o h size us one comes.does s parses is;
    stand = comes.stand;
    carries = comes.carries;
  }

  pub holds_taken : ComesTo m runs old new o h all ps (Does o h size us (kinds.Held session text) reply)
      → ComesTo m runs old new o h all ps (TakesUp o h size us session text reply)
  holds_taken comes = record {
    after = comes.after;
    then_ = comes.then_;
    does = taken_as o h size us one comes.does;
    stand = comes.stand;
    carries = comes.carries;
  }
