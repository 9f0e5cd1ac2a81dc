-- A begin that is refused: nothing comes of it, and all goes on as it was.
use Rattle.std.proofs.Common.{◌≡◌, ℕ, List, ◌∷◌, Option, None, Some, refl, sym, ap, ◌∙◌, subst}
use Rattle.std.specs.Prelude.{slice_index_or}
use Rattle.std.proofs.Math.Path.{fun_ext}
use Rattle.std.proofs.lemmas.Bool.{false≢true}
use Rattle.mg_base.specs.Disk.{Meaning}
use Rattle.mg_base.specs.declared.transaction.TxState.{TxState}
use Rattle.mg_model.specs.declared.answer.Answer.TheVariants.{No}
use Rattle.mg_model.specs.declared.event.Event.TheVariants.{Begin}
use Rattle.mg_model.specs.declared.event.Mode.{Mode}
use Rattle.mg_model.specs.declared.opening.Opening.{Opening}
use Rattle.mg_model.specs.declared.refusal.Refusal.{Refusal}
use Rattle.mg_model.specs.declared.table.Table.{Table}
use Rattle.mg_model.specs.Changes.{KeyedRows}
use Rattle.mg_model.specs.History.{Entries, Entry, entry}
use Rattle.mg_model.specs.Legal.{IsLawful}
use Rattle.mg_engine_step_laws.specs.commits.Idle.{IdleGoesOn}
use Rattle.mg_image.specs.Form.{Pages, packed_form}
use Rattle.mg_lasting_laws.specs.Changing.{QuietHolds}
use Rattle.mg_pool.specs.Pool.{shown}
use Rattle.mg_records.specs.Crashing.{LeavesQuietly}
use Rattle.mg_records.specs.Keeping.{Reads}
use Rattle.mg_records.specs.Sessions.{SessionsStay}
use Rattle.mg_space.specs.declared.links.FireLinks.{FireLinks}
use Rattle.mg_engine_step_laws.specs.standing.Following.{FollowsEntry, StandsOn}
use Rattle.mg_engine_step_laws.specs.standing.Standing.{Standing, Stands}
use Rattle.mg_txlist.specs.Drawing.{SaysSame}
use Rattle.mg_txlist.specs.TxList.{next_said, no_page, said, tip_in}
use Rattle.mg_txlist.specs.declared.list.TipPage.{TipPage}
use Rattle.mg_txlist.specs.declared.list.TxList.{TxList}
use Rattle.mg_tie_laws.specs.CommitTies.{ShowsTip}
use Rattle.mg_core.specs.declared.parts.Core.{Core}
use Rattle.mg_engine_meaning_laws.specs.KnownRecords.{KnowsIts}
use Rattle.mg_engine_meaning_laws.specs.Frames.{GivesEvent}
use Rattle.mg_engine_meaning_laws.specs.PlainTables.{HasPlainTables}
use Rattle.mg_engine_meaning_laws.specs.Meaning.{AreNext, ComesTo, Places, means, place_at}
use Rattle.mg_engine_meaning_laws.specs.MemoryCallLaws.{idle_finds, memory_stands}
use Rattle.mg_engine_meaning_laws.specs.Standings.{HasTips, Numbers, StandsFor, StandsWhile, Tables, standing_of}
use Rattle.mg_engine_meaning_laws.specs.StepLaws.{as_standing}

-- ---- the entry

abbrev pub refused : ℕ → Mode → Refusal → Entry
refused session mode refusal = entry (Begin session mode) (No refusal)

-- memory follows it by staying as it is
nothing_follows : {D : Type 0} (core : Core D) (o : Opening) (h : Entries) (session : ℕ) (mode : Mode)
    (refusal : Refusal) (numbers : Numbers) (tables : Tables)
    → FollowsEntry o h (refused session mode refusal) (standing_of core numbers tables)
    (standing_of core numbers tables)
nothing_follows core o h session mode refusal numbers tables = record {
  limit = refl;
  next = refl;
  state = λ u. refl;
  live = refl;
  waits = λ u. refl;
  others = λ u not_ active. record {
    mode = refl;
    session = refl;
    undo = refl;
    number = refl;
    table = λ name. refl;
  };
  its = λ u its active. absurd (false≢true its);
  apart = λ u v its not_ active also same. false≢true its;
}

module _ {D P : Type 0} (m : Meaning D) (places : Places P) (idle_goes : IdleGoesOn D FireLinks m packed_form)
    (on : StandsOn packed_form) (quiet : QuietHolds packed_form) where
  -- an engine stands for the history with it
  pub refused_stands : (core : Core D) (o : Opening) (h : Entries) (session : ℕ) (mode : Mode)
      (refusal : Refusal) → IsLawful o h (refused session mode refusal) → StandsFor m core o h
      → StandsFor m core o (refused session mode refusal ∷ h)
  refused_stands core o h session mode refusal lawful stands =
      memory_stands m places core core.waits core.works core.live idle_goes on quiet refl refl o h
      (refused session mode refusal) stands stands.tables stands.given stands.kept stands.bases lawful refl refl
      refl
      (nothing_follows core o h session mode refusal stands.numbers stands.tables)
      (λ shows. idle_finds core.store.geometry.size o h (refused session mode refusal)
      (standing_of core stands.numbers stands.tables) (standing_of core stands.numbers stands.tables)
      (shown core.store.dirty shows.image) refl (λ u. refl) (λ u. refl) (λ u name. refl))

  -- a call that adds no entry of its own, and is refused
  pub refused_gives : (old new : Core D) (session : ℕ) (mode : Mode) (refusal : Refusal)
      → ((o : Opening) (h : Entries) → StandsFor m old o h → IsLawful o h (refused session mode refusal))
      → Reads (means m places) old new (Some refusal) None → LeavesQuietly (means m places) old new
      → SessionsStay (means m places) old new None None
      → GivesEvent m places old new (Begin session mode) (No refusal) (Some refusal) None None None None
  refused_gives old new session mode refusal lawful reads crash sessions = record {
    adds = λ o h stands. (
      lawful o h stands,
      refused_stands new o h session mode refusal (lawful o h stands)
          (reads.stays o h stands),
    );
    leaves = record {
      keeps = reads.keeps;
      tables_stay = reads.tables;
      walks_stay = reads.walks_stay;
      commits = reads.commits;
    };
    crash = crash;
    sessions = sessions;
  }

-- ---- the list says what it said

said_same : (old list : TxList) → SaysSame old list → (u : ℕ) → said list u ≡ said old u
unfolding said
said_same old list same u = rw (same.pages, same.own, same.first, same.size) refl

next_same : (old list : TxList) → SaysSame old list → next_said list ≡ next_said old
next_same old list same = rw (same.own, same.first) refl

tip_same : (old list : TxList) → SaysSame old list → (q : ℕ) → tip_in list q ≡ tip_in old q
tip_same old list same q = ap (λ (items : List TipPage). slice_index_or items q no_page) same.pages

tips_same : (old list : TxList) (size : ℕ) (pages : Pages) → SaysSame old list → HasTips old size pages
    → HasTips list size pages
tips_same old list size pages same tips t below =
    let was : ShowsTip old size pages t = tips t below in record {
      sized = same.size ∙ was.sized;
      page = ap (λ (x : TipPage). x.page) (tip_same old list same _) ∙ was.page;
      bytes = ap (λ (x : TipPage). x.bytes) (tip_same old list same _) ∙ was.bytes;
    }

module _ {D P : Type 0} (m : Meaning D) (places : Places P) (core : Core D) (list : TxList)
    (same : SaysSame core.list list) where
  state_same : said core.list ≡ said list
  state_same = fun_ext (λ u. sym (said_same core.list list same u))

  standing_same : (numbers : Numbers) (tables : Tables)
      → standing_of core numbers tables ≡ standing_of (record core { list = list }) numbers tables
  standing_same numbers tables = ap (λ (n : ℕ). record (standing_of core numbers tables) { next = n })
      (sym (next_same core.list list same))
      ∙ ap (λ (state : ℕ → TxState). record (standing_of core numbers tables) {
        next = next_said list;
        state = state;
      }) state_same

  pub list_stands : (o : Opening) (h : Entries) → StandsFor m core o h
      → StandsFor m (record core { list = list }) o h
  list_stands o h stands = record {
    tells = stands.tells;
    grows = stands.grows;
    bases = stands.bases;
    numbers = stands.numbers;
    tables = stands.tables;
    given = stands.given;
    kept = stands.kept;
    stands = by core.store.offline stands.stands;
  }
    where
      by : (off : Option ℕ)
          → StandsWhile m core o h (standing_of core stands.numbers stands.tables) off
          → StandsWhile m (record core { list = list }) o h
          (standing_of (record core { list = list }) stands.numbers stands.tables) off
      by None shows = record {
        image = shows.image;
        held = shows.held;
        stands = subst (λ (s : Standing). Stands packed_form core.store.geometry.size o h s
            (Some (shown core.store.dirty shows.image))) (standing_same stands.numbers stands.tables) shows.stands;
        lasts = shows.lasts;
        tips = tips_same core.list list core.store.geometry.size (shown core.store.dirty shows.image) same shows.tips;
        catalog = shows.catalog;
        plain_tables = subst (λ (state : ℕ → TxState). HasPlainTables core.store.geometry.size state
            (shown core.store.dirty shows.image)) state_same shows.plain_tables;
        no_directory = shows.no_directory;
        known = subst (λ (state : ℕ → TxState). KnowsIts o.next.0 core.store.geometry.size state
            (shown core.store.dirty shows.image) core.directories) state_same shows.known;
      }
      by (Some faults) keeps = record {
        stands = subst (λ (s : Standing). Stands packed_form core.store.geometry.size o h s None)
            (standing_same stands.numbers stands.tables) keeps.stands;
        left = keeps.left;
      }

  pub list_walks : (u : ℕ) (table : Table) (after : Option P) (rows : KeyedRows)
      → ComesTo m core u table (place_at places after) rows
      → ComesTo m (record core { list = list }) u table (place_at places after) rows
  list_walks u table after rows comes =
      let stands_now : StandsFor m (record core { list = list }) comes.opening comes.entries =
      list_stands comes.opening comes.entries comes.stands in record {
        opening = comes.opening;
        entries = comes.entries;
        stands = stands_now;
        active = comes.active;
        seen = comes.seen;
        next = by (standing_of core comes.stands.numbers comes.stands.tables)
            (standing_of (record core { list = list }) stands_now.numbers stands_now.tables) state_same refl
            core.store.offline comes.next;
      }
    where
      by : (s s_now : Standing) → s.state ≡ s_now.state → s.live ≡ s_now.live → (off : Option ℕ)
          → AreNext m core s u table (place_at places after) rows off
          → AreNext m (record core { list = list }) s_now u table (place_at places after) rows off
      by s s_now state bases None (image, held, next) = (
        image,
        held,
        as_standing core.store.geometry.size s s_now (shown core.store.dirty image) u table (place_at places after) rows
            state bases next,
      )
      by s s_now state bases (Some faults) next = tt
