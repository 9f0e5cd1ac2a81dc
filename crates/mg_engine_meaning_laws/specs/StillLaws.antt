-- A call in which nothing has happened, and calls one after another.
use Rattle.std.proofs.Common.{◌≡◌, ◌⊎◌, inl, inr, ◌≤◌, ℕ, true, None, Option, refl, sym, ◌∙◌, subst, arith}
use Rattle.mg_base.specs.Disk.{Meaning}
use Rattle.mg_base.specs.Image.{Image}
use Rattle.mg_base.specs.Moments.{started}
use Rattle.mg_model.specs.declared.opening.Opening.{Opening}
use Rattle.mg_model.specs.declared.refusal.Refusal.{Refusal}
use Rattle.mg_model.specs.History.{Entries}
use Rattle.mg_model.specs.Legal.{durable_count}
use Rattle.mg_image.specs.Form.{packed_form}
use Rattle.mg_lasting_laws.specs.Crashes.{HoldsAcknowledged, HoldsFrom, asked}
use Rattle.mg_records.specs.Crashing.{LeavesOnly, LeavesQuietly}
use Rattle.mg_records.specs.Keeping.{Reads}
use Rattle.mg_records.specs.Sessions.{SessionsStay}
use Rattle.mg_core.specs.declared.parts.Core.{Core}
use Rattle.mg_engine_meaning_laws.specs.FrameLaws.{commits_of, keeps_of, quiet_of, sessions_of, store_stands, tables_of, works_same}
use Rattle.mg_engine_meaning_laws.specs.Frames.{MayAnswer}
use Rattle.mg_engine_meaning_laws.specs.LawfulLaws.{left_of}
use Rattle.mg_engine_meaning_laws.specs.Meaning.{Places, means}
use Rattle.mg_engine_meaning_laws.specs.Standings.{StandsFor}

module _ {D P : Type 0} (m : Meaning D) (places : Places P) (old : Core D) where
  pub still_reads : (refusal : Option Refusal) → MayAnswer m places old old refusal
      → Reads (means m places) old old refusal None
  still_reads refusal may = record {
    stays = λ o h stands. stands;
    keeps = keeps_of m places old old refusal (store_stands m old.store) (omega arith) (omega arith) may;
    tables = tables_of m places old old None (λ u name not_. refl);
    walks_stay = λ u table after rows not_ comes. comes;
    commits = commits_of m places old old None (λ u not_. refl) (λ u not_. refl) (λ u page not_ was none. none);
  }

  pub still_quiet : LeavesQuietly (means m places) old old
  still_quiet = quiet_of m places old old (λ o h stands told. record {
    since = started m old.store.disk (HoldsAcknowledged packed_form old.store.dirty.size o h)
        (left_of m old o h stands);
    left = left_of m old o h stands;
  }) refl

  pub still_sessions : SessionsStay (means m places) old old None None
  still_sessions = sessions_of m places old old 0 (works_same old.works 0)

-- ---- two calls one after another

-- where neither adds an entry, each crash leaves the history
pub quiet_then : {D P : Type 0} (m : Meaning D) (places : Places P) (old mid new : Core D)
    → (m.tells old.store.disk ≡ true → m.moment old.store.disk ≤ m.moment mid.store.disk)
    → m.tells mid.store.disk ≡ m.tells old.store.disk
    → new.store.dirty.size ≡ mid.store.dirty.size
    → ((o : Opening) (h : Entries) → StandsFor m old o h → StandsFor m mid o h)
    → LeavesQuietly (means m places) old mid → LeavesQuietly (means m places) mid new
    → LeavesQuietly (means m places) old new
quiet_then {D} {P} m places old mid new later tells size on first second o h stands told = record {
  each = λ c left. at c (rest.before (m.moment old.store.disk) c (later told) left);
  before = λ t c early left. earlier t c early
      (rest.before t c (let more = later told in omega (arith, early, more)) left);
}
  where
    front : LeavesOnly (means m places) old mid ((means m places).holds mid o h (durable_count h))
    front = first o h stands told

    rest : LeavesOnly (means m places) mid new ((means m places).holds new o h (durable_count h))
    rest = second o h (on o h stands) (tells ∙ told)

    turn : (c : Image) → HoldsFrom packed_form mid.store.dirty.size o (asked h) (durable_count h) c
        → HoldsFrom packed_form new.store.dirty.size o (asked h) (durable_count h) c
    turn c holds = subst (λ (n : ℕ). HoldsFrom packed_form n o (asked h) (durable_count h) c) (sym size) holds

    at : (c : Image) → m.left mid.store.disk (m.moment old.store.disk) c
        ⊎ HoldsFrom packed_form new.store.dirty.size o (asked h) (durable_count h) c
        → HoldsFrom packed_form new.store.dirty.size o (asked h) (durable_count h) c
    at c (inl was) = turn c (front.each c was)
    at c (inr holds) = holds

    earlier : (t : ℕ) (c : Image) → t ≤ m.moment old.store.disk → m.left mid.store.disk t c
        ⊎ HoldsFrom packed_form new.store.dirty.size o (asked h) (durable_count h) c
        → m.left old.store.disk t c
        ⊎ HoldsFrom packed_form new.store.dirty.size o (asked h) (durable_count h) c
    earlier t c early (inr holds) = inr holds
    earlier t c early (inl was) = by (front.before t c early was)
      where
        by : m.left old.store.disk t c
            ⊎ HoldsFrom packed_form mid.store.dirty.size o (asked h) (durable_count h) c
            → m.left old.store.disk t c
            ⊎ HoldsFrom packed_form new.store.dirty.size o (asked h) (durable_count h) c
        by (inl before) = inl before
        by (inr holds) = inr (turn c holds)
