-- What a step of the core tells of a key makes a step of the laws.
use Rattle.std.proofs.Common.{◌≡◌, ◌≢◌, ◌⊎◌, inl, inr, ◌<◌, ◌≤◌, ap, refl, sym, subst, ◌∙◌, arith, ℕ, Bool, true, false, List, ◌∷◌, Option, None, Some}
use Rattle.std.proofs.lemmas.Bool.{cases_lt, false≢true}
use Rattle.mg_base.specs.Disk.{Meaning}
use Rattle.mg_base.specs.Image.{Image}
use Rattle.mg_base.specs.declared.geometry.Geometry.{Geometry}
use Rattle.mg_base.specs.declared.numbers.RecId.{RecId}
use Rattle.mg_base.specs.declared.transaction.TxState.TheVariants.{Active, Dead}
use Rattle.mg_chain.specs.Chains.{Meets, newest_link}
use Rattle.mg_chain.specs.Writing.{TakesOut}
use Rattle.mg_engine_change_laws.specs.keys.KeySteps.{FindsIts, IsTableOfIts, KeyStepsAreTaken, PutsFormer, TakesItOut, TakesKeyAt}
use Rattle.mg_engine_step_laws.specs.backs.Midway.{IsBackAt}
use Rattle.mg_engine_change_laws.specs.keys.Found.{ChangesAreThere, HasNewest as HasNewestChange, IsItsRecord}
use Rattle.mg_engine_change_laws.specs.keys.TakingSteps.{ComesBack, GoesOut, StandsMidway, TakesKeyOf}
use Rattle.mg_engine_change_laws.specs.backs.ToTake.{WasIsTold, was_of}
use Rattle.mg_engine_step_laws.specs.writes.Knowing.{WasChanged}
use Rattle.mg_image.specs.Form.{Pages, packed_form}
use Rattle.mg_image.specs.Histories.{newest_at, row_change}
use Rattle.mg_image.specs.Inventory.{next_of}
use Rattle.mg_image.specs.Records as records
use Rattle.mg_image.specs.Records.{Cells as PageCells, cells_of, newest_of}
use Rattle.mg_model.specs.Changes.{Cells, has_change}
use Rattle.mg_model.specs.History.{Entries, Entry}
use Rattle.mg_model.specs.Legal.{IsLegal, MayBegin}
use Rattle.mg_model.specs.Machine.{next_number, own, state_of}
use Rattle.mg_model.specs.NumberLaws.{undrawn_is_dead}
use Rattle.mg_model.specs.declared.change.Change.{Change}
use Rattle.mg_model.specs.declared.opening.Opening.{Opening}
use Rattle.mg_model.specs.declared.table.Table.{Table}
use Rattle.mg_pool.specs.Batch.{Changed}
use Rattle.mg_pool.specs.Dirty.{DirtyPages}
use Rattle.mg_pool.specs.Pool.{IsPool, shown}
use Rattle.mg_pool.specs.declared.pool.Pool.{Pool}
use Rattle.mg_pool_overlay_laws.specs.Needs.{Asked, Sessions}
use Rattle.mg_batches.specs.Batches.{ChangesOwn}
use Rattle.mg_seek.specs.Versions.{FirstAt, is_it, is_older}
use Rattle.mg_seek.specs.declared.walk.Placed.{Placed}
use Rattle.mg_space.specs.Taking.{IsGeometry}
use Rattle.mg_space.specs.View.{Tells}
use Rattle.mg_space.specs.declared.links.FireLinks.{FireLinks}
use Rattle.mg_tie_laws.specs.Changed.{fresh}
use Rattle.mg_engine_step_laws.specs.standing.Standing.{Remembers, ShowsHistory, Standing}
use Rattle.mg_undo.specs.Machine.{was_given, was_in}
use Rattle.mg_undo.specs.declared.changes.Was.TheVariants.{Untouched}
use Rattle.mg_value.specs.declared.value.Value.{Value}
use Rattle.mg_version.specs.declared.cell.Cell.TheVariants as cells
use Rattle.mg_version.specs.declared.cell.Link.{Link}
use Rattle.mg_version.specs.declared.cell.Version.{Version}

-- ---- what was, and the newest change

none_was : (x : Option records.Change) → was_of x ≡ Untouched → x ≡ None
none_was None is = refl
none_was (Some (records.Puts row)) is = absurd cc
none_was (Some records.Erases) is = absurd cc

row_was : (x : Option records.Change) (row : Option Cells) → was_of x ≡ was_given row → x ≡ Some (row_change row)
row_was None None is = absurd cc
row_was None (Some row) is = absurd cc
row_was (Some (records.Puts r)) None is = absurd cc
row_was (Some (records.Puts r)) (Some row) is = cc
row_was (Some records.Erases) None is = refl
row_was (Some records.Erases) (Some row) is = absurd cc

-- ---- the newest version, of whomever

first_of_all : (h : PageCells) (takes : ℕ → Bool) → ((v : ℕ) → takes v ≡ true) → (link : Option Link)
    (p : Placed) → FirstAt h takes link (Some p) → (l : Link) → link ≡ Some l → Meets h l p.version
first_of_all h takes all link p (is_it l v meets on) k same =
    let is : l ≡ k = cc in subst (λ (x : Link). Meets h x v) is meets
first_of_all h takes all link p (is_older l v found meets off later) k same =
    absurd (false≢true (sym off ∙ all v.tx.0))

one_cell : (h : PageCells) (at : RecId) (v w : Version) → h at ≡ Some (cells.Version v) → h at ≡ Some (cells.Version w)
    → v ≡ w
one_cell h at v w is also = let both : Some (cells.Version v) ≡ Some (cells.Version w) = sym is ∙ also in cc

-- ---- a batch of its own

pub was_changed : {D : Type 0} (m : Meaning D) (before after : Pool D FireLinks) (fills : Image → Changed → Type 0)
    (i j : Image) (changes : ChangesOwn m before after fills) → IsPool m before → IsGeometry before.geometry
    → Tells m before.disk i → m.held after.disk ≡ Some j → m.tells after.disk ≡ true
    → WasChanged m before after i j changes.batch
was_changed m before after fills i j changes pool geometry tells held told = record {
  pool = pool;
  changes = record {
    ready = changes.ready;
    geometry = geometry;
    keeps = changes.keeps;
    frame = changes.changed.frame;
    tells = tells;
    held = held;
  };
  crash = changes.changed.crash;
  tells = told;
}

module _ {D : Type 0} (m : Meaning D) (was_told : WasIsTold) (there : ChangesAreThere) (size : ℕ) (o : Opening) (h : Entries) (e : Entry) (t : ℕ) (whole left : List Change) (s : Standing)
    (start before after : Pool D FireLinks) (begun : Pages) (first : ShowsHistory packed_form size o h s begun)
    (i j : Image) (asked : Asked) (session : Sessions)
    (midway : StandsMidway m size o h e t whole left s start before begun first i asked session) (opening : MayBegin o)
    (legal : IsLegal o h) (memory : Remembers o h s) (active : s.state t ≡ Active) (name : List ℕ) (key : Value)
    (its : Table) (to_take : has_change left name key ≡ true)
    (of_table : IsTableOfIts size s (shown before.dirty i) midway.pages.layout midway.pages.reading t name its)
    (step : TakesKeyAt m size o h e s t before after i j its key)
    (record_is : IsItsRecord size o h e t whole left s begun (shown before.dirty i) first midway.pages its key step.rec)
  where
    abbrev pages : Pages
    pages = shown before.dirty i

    abbrev ready : Pool D FireLinks
    ready = step.ready

    -- its number was drawn
    drawn : t < next_of (shown before.dirty i)
    drawn = at (cases_lt t (next_of (shown before.dirty i)))
      where
        at : (t < next_of (shown before.dirty i)) ⊎ (next_of (shown before.dirty i) ≤ t)
            → t < next_of (shown before.dirty i)
        at (inl below) = below
        at (inr past) =
            let next_is : next_of (shown before.dirty i) ≡ next_number o h = midway.pages.next ∙ memory.next in
            let dead : state_of o h t ≡ Dead = undrawn_is_dead o opening h legal t (omega (arith, past, next_is)) in
            let both : Active ≡ Dead = sym active ∙ (memory.state t ∙ dead) in absurd cc

    newest_change : HasNewestChange left name key
    newest_change = there left name key to_take

    at_before : IsBackAt packed_form size s (shown before.dirty i) t its name key left step.rec
    at_before = record {
      layout = midway.pages.layout;
      reading = midway.pages.reading;
      sound = midway.pages.sound;
      drawn = drawn;
      may = of_table.may;
      named = of_table.named;
      of_table = record_is.of_table;
      keyed = record_is.keyed;
      change = newest_change.row;
      to_take = newest_change.is_;
    }

    at_ready : IsBackAt packed_form size s (shown step.ready.dirty i) t its name key left step.rec
    at_ready = subst (λ (d : DirtyPages). IsBackAt packed_form size s (shown d i) t its name key left step.rec)
        (sym step.keeps.dirty) at_before

    spoken : first.versions.speaker name key ≡ Some step.rec
    spoken = ap (λ (n : List ℕ). first.versions.speaker n key) (sym of_table.named) ∙ record_is.spoken

    ready_geometry : IsGeometry step.ready.geometry
    ready_geometry = subst IsGeometry (sym step.keeps.geometry) step.geometry

    ready_tells : Tells m step.ready.disk i
    ready_tells = record {
      told = step.keeps.disk.tells ∙ step.tells.told;
      held = step.keeps.disk.held ∙ step.tells.held;
    }

    ready_size : step.ready.geometry.size ≡ size
    ready_size = ap (λ (g : Geometry). g.size) step.keeps.geometry ∙ step.size_is

    whole_step : (batch : Changed) → WasChanged m step.ready after i j batch
        → GoesOut step.ready i batch o h e t name key step.rec ⊎ ComesBack step.ready i batch o h e t name key step.rec its
        → TakesKeyOf m size o h e t s first.versions.speaker left before after i j name key
    whole_step batch was how = record {
      ready = step.ready;
      keeps = step.keeps;
      size_is = ready_size;
      page_size = step.pool.page_size ∙ step.size_is;
      tells = step.tells.told;
      batch = batch;
      was = was;
      rec = step.rec;
      table = its;
      at_key = at_ready;
      spoken = spoken;
      how = how;
    }

    -- ---- taken out

    -- the version that is taken out is the one that was found
    own_out : FindsIts s (shown step.ready.dirty i) t its key step.rec → (batch : Changed)
        (takes : TakesOut step.ready i fresh batch step.rec) → takes.was.tx.0 ≡ t
    own_out finds batch takes =
        let link_is : newest_link (shown step.ready.dirty i) step.rec ≡ Some takes.newest =
        ap (newest_of step.rec) takes.its.head.slot in
        let meets : Meets (cells_of (shown step.ready.dirty i)) takes.newest finds.newest.version =
        first_of_all (cells_of (shown step.ready.dirty i)) (λ v. true) (λ v. refl)
        (newest_link (shown step.ready.dirty i) step.rec) finds.newest finds.is_first takes.newest link_is in
        ap (λ (v : Version). v.tx.0) (one_cell (cells_of (shown step.ready.dirty i)) takes.newest.rec takes.was
        finds.newest.version takes.its.meets.cell meets.cell) ∙ finds.own

    goes_out : TakesItOut m s step.ready after i t its key step.rec (own o (e ∷ h) t)
        → TakesKeyOf m size o h e t s first.versions.speaker left before after i j name key
    goes_out out = whole_step out.takes.batch
        (was_changed m step.ready after _ i j out.takes step.keeps.pool ready_geometry ready_tells step.held step.told)
        (inl (record {
          takes = out.takes.filled i ready_tells;
          its = own_out out.finds out.takes.batch (out.takes.filled i ready_tells);
          none = none_was (newest_at (own o (e ∷ h) t) name key) (sym (was_told (own o (e ∷ h) t) name key)
              ∙ (ap (λ (n : List ℕ). was_in (own o (e ∷ h) t) n key) (sym of_table.named) ∙ out.was));
        }))

    -- ---- put back

    comes_back : PutsFormer m step.ready after i t its key step.rec (own o (e ∷ h) t)
        → TakesKeyOf m size o h e t s first.versions.speaker left before after i j name key
    comes_back puts = whole_step puts.replaces.batch
        (was_changed m step.ready after _ i j puts.replaces step.keeps.pool ready_geometry ready_tells step.held step.told)
        (inr (record {
          row = puts.row;
          version = puts.version;
          stored = puts.stored;
          replaces = puts.replaces.filled i ready_tells;
          codes = puts.codes;
          entries = puts.entries;
          former = row_was (newest_at (own o (e ∷ h) t) name key) puts.row
              (sym (was_told (own o (e ∷ h) t) name key)
              ∙ (ap (λ (n : List ℕ). was_in (own o (e ∷ h) t) n key) (sym of_table.named) ∙ puts.was));
        }))

    pub key_taken : TakesKeyOf m size o h e t s first.versions.speaker left before after i j name key
    key_taken = at step.puts
      where
        at : TakesItOut m s step.ready after i t its key step.rec (own o (e ∷ h) t)
            ⊎ PutsFormer m step.ready after i t its key step.rec (own o (e ∷ h) t)
            → TakesKeyOf m size o h e t s first.versions.speaker left before after i j name key
        at (inl out) = goes_out out
        at (inr puts) = comes_back puts

pub key_steps_are_taken : (D : Type 0) (m : Meaning D) → WasIsTold → ChangesAreThere → KeyStepsAreTaken D m
key_steps_are_taken D m was_told there size o h e t whole left s start before after begun first i j asked session
    midway opening legal memory active name key its to_take of_table step record_is = key_taken m was_told there size o
    h e t whole left s start before after begun first i j asked session midway opening legal memory active name key its
    to_take of_table step record_is
