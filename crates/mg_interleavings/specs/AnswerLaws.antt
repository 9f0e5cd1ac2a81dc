-- Each session was answered once for each of its statements that it has passed.
use Rattle.std.specs.Prelude.{◌≡◌, ℕ, length}
use Rattle.std.proofs.Common.{ap}
use Rattle.mg_model.specs.declared.opening.Opening.{Opening}
use Rattle.mg_model.specs.History.{Entries}
use Rattle.mg_interleavings.specs.Interleavings.{Interleaves, begins, begins_one, declines, goes_on, passes, starts, steps, times_out, tries_again}
use Rattle.mg_interleavings.specs.Keeping.{AreBegun, Keeps, said_of, speaks}
use Rattle.mg_interleavings.specs.KeepingLaws.{keeps_answered, keeps_come, keeps_passed, keeps_start, taken_among}
use Rattle.mg_interleavings.specs.Standings.{Scripts, Standing, answers_of, place_of, script_of}

-- what always holds does so of sessions that have come so far
pub interleaved_keeps : {o : Opening} {size : ℕ} {scripts : Scripts} {standing : Standing} {h : Entries}
    → Interleaves o size scripts standing h → Keeps scripts standing
interleaved_keeps {scripts = scripts} begins = keeps_start scripts
interleaved_keeps {scripts = scripts} (passes standing h session all flows at free) =
    keeps_passed scripts standing (interleaved_keeps all) session at.line at.next (ap speaks at.asks) free
interleaved_keeps {scripts = scripts} (declines standing h session text fault all flows at free why) =
    let keeps = interleaved_keeps all in
    keeps_answered scripts standing keeps session at.line at.next standing.pending _ (ap speaks at.asks) free keeps.begun
interleaved_keeps {scripts = scripts} (begins_one standing h session text read_only wait snapshot answer all flows at free parses none lawful) =
    let keeps = interleaved_keeps all in
    keeps_answered scripts standing keeps session at.line at.next standing.pending _ (ap speaks at.asks) free keeps.begun
interleaved_keeps {scripts = scripts} (starts standing h after session text t s comes all flows at its start) =
    let keeps = interleaved_keeps all in
    keeps_come scripts standing standing.pending session t comes keeps
    (record { line = at.line; next = at.next; said = ap speaks at.asks }) its.free keeps.begun
interleaved_keeps {scripts = scripts} (steps standing h after u others comes all flows among free step) =
    let keeps = interleaved_keeps all in
    let taken = taken_among scripts standing.places standing.pending u others among keeps.begun in
    keeps_come scripts standing others u.session u.transaction comes keeps taken.says taken.free taken.rest
interleaved_keeps {scripts = scripts} (goes_on standing h after u others comes all flows among over step) =
    let keeps = interleaved_keeps all in
    let taken = taken_among scripts standing.places standing.pending u others among keeps.begun in
    keeps_come scripts standing others u.session u.transaction comes keeps taken.says taken.free taken.rest
interleaved_keeps {scripts = scripts} (tries_again standing h after u others on comes all flows among waits live step other) =
    let keeps = interleaved_keeps all in
    let taken = taken_among scripts standing.places standing.pending u others among keeps.begun in
    keeps_come scripts standing others u.session u.transaction comes keeps taken.says taken.free taken.rest
interleaved_keeps {scripts = scripts} (times_out standing h mid after u others on comes answer all flows among waits live step same out) =
    let keeps = interleaved_keeps all in
    let taken = taken_among scripts standing.places standing.pending u others among keeps.begun in
    keeps_answered scripts standing keeps u.session taken.says.line taken.says.next others answer taken.says.said
    taken.free taken.rest

abbrev pub AnswersAreEach : Type 0
AnswersAreEach = (o : Opening) (size : ℕ) (scripts : Scripts) (standing : Standing) (h : Entries)
    → Interleaves o size scripts standing h → (s : ℕ)
    → length (answers_of standing s) ≡ said_of (script_of scripts s) (place_of standing s)

-- statements that have begun are those of next lines, one of a session at most
abbrev pub BegunAreNext : Type 0
BegunAreNext = (o : Opening) (size : ℕ) (scripts : Scripts) (standing : Standing) (h : Entries)
    → Interleaves o size scripts standing h → AreBegun scripts standing.places standing.pending
