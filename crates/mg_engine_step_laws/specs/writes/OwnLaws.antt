-- A transaction's own version that is replaced takes the engine on to the longer history.
use Rattle.mg_base.specs.Disk.{Meaning}
use Rattle.mg_tie_laws.specs.PushTies.{written}
use Rattle.mg_engine_step_laws.specs.writes.GoesOn.{WritesGoOn}
use Rattle.mg_engine_step_laws.specs.writes.Writes.{replaced}
use Rattle.mg_engine_step_laws.specs.writes.Caches.{kept_now, row_changed}
use Rattle.mg_engine_step_laws.specs.writes.OwnKept.{IsRewritten, found, its_own, rewritten}
use Rattle.mg_engine_step_laws.specs.writes.Rows.{ReplacementsGoOn}
use Rattle.mg_engine_step_laws.specs.writes.Spoken.{spoken_key, spoken_of, was_drawn}
use Rattle.mg_image.specs.Form.{Form}
use Rattle.mg_image.specs.Inventory.{next_of}
use Rattle.mg_image.specs.ReadingLaws.{RowsAreOne}
use Rattle.mg_image.specs.Records.{record_key}
use Rattle.mg_image.specs.Sound.{facts_by}
use Rattle.mg_image.specs.Tables.{stands_of, table_at}
use Rattle.mg_image.specs.declared.entry.Entry.{Entry}
use Rattle.mg_image_overlay_laws.specs.pages.Kinds.{HasNoSequences}
use Rattle.mg_model.specs.Laws.{OpeningsBegin}
use Rattle.mg_model.specs.Openings.{everyone}
use Rattle.mg_overlay_laws.specs.Overlays.{left_state}
use Rattle.mg_image_overlay_laws.specs.records.OwnVersion.{FindsNewest}
use Rattle.mg_pool.specs.Pool.{shown}
use Rattle.mg_tie_laws.specs.Changed.{KeptIn}
use Rattle.std.proofs.Common.{List, Some, false, ◌<◌, ◌∙◌, ◌∷◌, ◌≡◌}

pub replacements_go_on : (form : Form) (D L : Type 0) (m : Meaning D) → RowsAreOne form.coding
    → HasNoSequences form → form.in_primary ≡ false → OpeningsBegin → WritesGoOn D L m form
    → ReplacementsGoOn form D L m
replacements_go_on form D L m one none no_primary begins go o h e s new before after i j batch asked session
    stands t name key row rec v stored table lasts was replaces enters may codes laid spoken =
    go o h e s new before after i j batch asked session stands t name key row rec
    (written its.at v replaces.was.back stored) older table lasts
    (row_changed m form o h s before after i j batch asked session stands.memory was lasts (e ∷ h) its.bits its.kept)
    enters.lawful enters.passing enters.no_failure enters.follows (record {
      entry = enters.writes;
      active = enters.active;
      reads = its.reads;
      behind = replaced found_there.newest older spoken found_there.first
          (its_own D L m form one none no_primary o h e s.state before after i j batch asked session stands.shows.layout
          stands.shows.reading stands.shows.sound t name key row rec v stored table was.changes replaces enters.writes
          enters.active enters.not_asked number enters.named may codes laid of keyed every);
      of_table = of;
      named = enters.named;
      its = codes.its;
      keyed = codes.keyed;
      given = codes.given;
      next = its.bits.next ∙ stands.shows.next;
      number = enters.number;
      other_numbers = enters.other_numbers;
      seen = enters.seen;
    })
  where
    number : t < next_of (shown before.dirty i)
    number = was_drawn form before.geometry.size o h s (shown before.dirty i) (begins o stands.opening) stands.legal
        stands.memory stands.shows t enters.active

    of : table_at (stands_of stands.shows.layout) rec.page.0 ≡ Some table
    of = spoken_of form before.geometry.size o h s (shown before.dirty i) stands.shows name key rec table may.stands
        enters.named spoken

    keyed : record_key table (stands.shows.reading rec) ≡ key
    keyed = spoken_key form before.geometry.size o h s (shown before.dirty i) stands.shows name key rec table may.stands
        enters.named spoken

    every : KeptIn form before.geometry.size o h s.state asked session before i
    every = kept_now m form o h s before after i j batch asked session stands.memory was lasts

    found_there : FindsNewest (facts_by (left_state everyone s.state) (shown before.dirty i) stands.shows.layout)
        stands.shows.reading rec table replaces.newest.rec replaces.was
    found_there = found D L m form one none no_primary o h e s.state before after i j batch asked session
        stands.shows.layout stands.shows.reading stands.shows.sound t name key row rec v stored table was.changes replaces enters.writes
        enters.active enters.not_asked number enters.named may codes laid of keyed every

    older : List Entry
    older = found_there.older

    its : IsRewritten form before.geometry.size o (e ∷ h) s.state before after i j asked session stands.shows.layout
        stands.shows.reading rec v replaces.was.back stored older
    its = rewritten D L m form one none no_primary o h e s.state before after i j batch asked session stands.shows.layout
        stands.shows.reading stands.shows.sound t name key row rec v stored table was.changes replaces enters.writes enters.active
        enters.not_asked number enters.named may codes laid of keyed every
