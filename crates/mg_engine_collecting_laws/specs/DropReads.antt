-- What is read of a record where a version is dropped right behind a committed one: all but that, and the tables stand as
-- they did.
use Rattle.std.proofs.Common.{◌≡◌, ◌≢◌, ◌⊎◌, ◌∙◌, inl, inr, refl, sym, ap, subst, ℕ, Bool, true, false, List, [], ◌∷◌, ◌++◌, Option, None, Some}
use Rattle.std.specs.Prelude.{if◌then◌else◌}
use Rattle.mg_base.specs.declared.numbers.RecId.{RecId}
use Rattle.mg_base.specs.declared.transaction.TxState.{TxState}
use Rattle.mg_base.specs.declared.transaction.TxState.TheVariants.{Committed}
use Rattle.mg_collect_tie_laws.specs.Chains.{IsNext, next_before, next_leads}
use Rattle.mg_collect_tie_laws.specs.DropTies.{DropsPages}
use Rattle.mg_engine_step_laws.specs.writes.Writes.{ReadsAfter}
use Rattle.mg_image.specs.Form.{Form, Pages}
use Rattle.mg_image.specs.ReadingLaws.{Opens, chain_opens}
use Rattle.mg_image.specs.RecordRules.{AreOnce, AreRecords, Facts}
use Rattle.mg_image.specs.Records.{Cells, Chain, Reading, Stands, cells_of, ended, goes, writer}
use Rattle.mg_image.specs.Sound.{IsSoundBy, facts_by}
use Rattle.mg_image.specs.StepLaws.{cases_place, put_cases, put_reading, same_place}
use Rattle.mg_image.specs.Tables.{Layout, stands_of, table_at}
use Rattle.mg_image.specs.declared.entry.Entry.{Entry}
use Rattle.mg_image_overlay_laws.specs.pages.DataKept.{IsDataChanged, data_more, data_self}
use Rattle.mg_image_overlay_laws.specs.pages.DataSound.{data_sound}
use Rattle.mg_image_overlay_laws.specs.records.Fronts.{HasFronts, living}
use Rattle.mg_image_overlay_laws.specs.tables.GrowingLaws.{grown_self}
use Rattle.mg_image_overlay_laws.specs.pages.Kinds.{HasNoSequences}
use Rattle.mg_image_overlay_laws.specs.records.QuietVersions.{AreQuiet, indexed_still, owns_still, shows_with}
use Rattle.mg_image_overlay_laws.specs.kept.Rest.{LeavesRest}
use Rattle.mg_image_overlay_laws.specs.records.SkipFronts.{unread as skip_unread}
use Rattle.mg_image_overlay_laws.specs.records.SkipShown.{skip_indexed, skip_owns, skip_shows_with}
use Rattle.mg_image_overlay_laws.specs.records.Skips.{IsCommittedAt, LeadsInto, behind, from, skip_at, skip_sound, stands_of_committed, with_back}
use Rattle.mg_image_overlay_laws.specs.records.TakeOut.{free_sound}
use Rattle.mg_image_overlay_laws.specs.records.Thins.{front_self}
use Rattle.mg_image_overlay_laws.specs.pages.Trees.{data_leaves, trees_stay}
use Rattle.mg_model.specs.declared.table.Table.{Table}
use Rattle.mg_version.specs.declared.cell.Cell.TheVariants as cells
use Rattle.mg_version.specs.declared.cell.Link.{Link}
use Rattle.mg_version.specs.declared.cell.Version.{Version}

-- ---- the pages

module _ (form : Form) (none : HasNoSequences form) (size : ℕ) (state : ℕ → TxState) (pool mid changed : Pages)
    (layout : Layout) (r : Reading) (sound : IsSoundBy form size state pool layout r) (p x y : RecId) (table : Table)
    (v w : Version) (drops : DropsPages form.in_primary pool mid changed x y v w)
    (of : table_at (stands_of layout) p.page.0 ≡ Some table)
    (is : IsCommittedAt (facts_by state pool layout) x (r p)) (next : IsNext (cells_of pool) x y w (r p)) where
  abbrev f : Facts
  f = facts_by state pool layout

  once : AreOnce (r p)
  once = (sound.records.each p table of).once

  leads : LeadsInto w.back (behind x (r p))
  leads = next_leads (cells_of pool) x y w (r p) next

  abbrev skipped : Reading
  skipped = put_reading r p (skip_at x w.back (r p))

  rest_put : LeavesRest form size pool mid layout
  rest_put = data_leaves form size x.page.0 none (trees_stay form size) state pool mid layout r sound drops.put.page

  put_sound : IsSoundBy form size state mid layout skipped
  put_sound = data_sound form size state pool mid x.page.0 layout r skipped sound drops.put.page rest_put.trees
      (skip_sound form.coding f (cells_of pool) (cells_of mid) r p x v w.back table sound.records of drops.put.cut is
      leads)
      (skip_shows_with f r p x w.back once is)
      (skip_owns f r p x w.back once is layout.catalog.table sound.own_tables)
      (skip_indexed f r p x w.back once is mid pool rest_put.trees.found sound.indexed) rest_put.sequences

  abbrev g : Facts
  g = facts_by state mid layout

  fronts : HasFronts f f r r
  fronts = record { state = λ t. refl; fronts = λ q. front_self f.state (living f.state (r q)) }

  unread : (q : RecId) → Stands (skipped q) y → ⊥
  unread = skip_unread form.coding f f (cells_of pool) r r p x w.back table (cells_of pool) sound.records sound.records
      fronts of is leads y (next_before (cells_of pool) x y w (r p) next)

  rest_free : LeavesRest form size mid changed layout
  rest_free = data_leaves form size y.page.0 none (trees_stay form size) state mid changed layout skipped put_sound
      drops.frees.page

  free_records : AreRecords form.coding g (cells_of changed) skipped
  free_records = free_sound form.coding g (cells_of mid) (cells_of changed) skipped y w put_sound.records
      drops.frees.cell drops.frees.apart drops.frees.freed unread

  quiet : AreQuiet g skipped skipped
  quiet q = inl refl

  pub after_sound : IsSoundBy form size state changed layout skipped
  after_sound = data_sound form size state mid changed y.page.0 layout skipped skipped put_sound drops.frees.page
      rest_free.trees free_records
      (shows_with form.coding g (cells_of mid) (cells_of changed) skipped skipped put_sound.records free_records quiet)
      (owns_still form.coding g (cells_of mid) (cells_of changed) skipped skipped put_sound.records free_records quiet
      layout.catalog.table put_sound.own_tables)
      (indexed_still form.coding g (cells_of mid) (cells_of changed) skipped skipped put_sound.records free_records
      quiet mid changed rest_free.trees.found put_sound.indexed) rest_free.sequences

  abbrev pub drop_reads : ReadsAfter form size state pool changed layout r p (skip_at x w.back (r p))
  drop_reads = record {
    layout = layout;
    reading = skipped;
    sound = after_sound;
    grown = grown_self layout r;
    here = put_cases r p (skip_at x w.back (r p)) (λ q fs. q ≡ p → fs ≡ skip_at x w.back (r p)) (λ same. refl)
        (λ q ne same. absurd (ne same)) p refl;
    others = put_cases r p (skip_at x w.back (r p)) (λ q fs. q ≢ p → fs ≡ r q) (λ ne. absurd (ne refl))
        (λ q ne off. refl);
  }

  pub drop_data : IsDataChanged form size pool changed layout
  drop_data = data_more form size state pool layout r sound mid changed y.page.0
      (data_more form size state pool layout r sound pool mid x.page.0
      (data_self form size state pool layout r sound) drops.put.page) drops.frees.page

-- ---- the versions

-- Of these versions the one behind the version at a place is left out, and that one leads on.
pub record IsDropped (f : Facts) (h : Cells) (x y : RecId) (w : Version) (es : List Entry) : Type 0 where
  pub front : List Entry
  pub kept : Entry
  pub gone : Entry
  pub rest : List Entry
  pub are : es ≡ front ++ kept ∷ gone ∷ rest
  pub at : kept.at ≡ x
  pub cell : h kept.at ≡ Some (cells.Version kept.version)
  pub committed : f.state (writer kept) ≡ Committed
  pub gone_at : gone.at ≡ y
  pub version : gone.version ≡ w
  pub left : skip_at x w.back es ≡ front ++ with_back w.back kept ∷ rest

-- from where the dropped one led on come those behind it
from_rest : (h : Cells) (back : Option Link) (e : Entry) (rest : List Entry) → Opens h back rest
    → (Stands rest e.at → ⊥) → from back (e ∷ rest) ≡ rest
from_rest h None e [] opens out = refl
from_rest h None e (d ∷ rest) opens out = absurd opens
from_rest h (Some l) e [] opens out = absurd opens
from_rest h (Some l) e (d ∷ rest) opens out = by (cases_place e.at l.rec) (cases_place d.at l.rec)
  where
    by : ((e.at ≡ l.rec) × (same_place e.at l.rec ≡ true)) ⊎ ((e.at ≢ l.rec) × (same_place e.at l.rec ≡ false))
        → ((d.at ≡ l.rec) × (same_place d.at l.rec ≡ true)) ⊎ ((d.at ≢ l.rec) × (same_place d.at l.rec ≡ false))
        → from (Some l) (e ∷ d ∷ rest) ≡ d ∷ rest
    by (inl (same, yes_)) there = absurd (out (inl (opens.0 ∙ sym same)))
    by (inr (ne, no_)) (inl (at, here)) = rw (no_, here) refl
    by (inr (ne, no_)) (inr (off, none)) = absurd (off opens.0)

module _ (f : Facts) (h : Cells) (x y : RecId) (w : Version) where
  pub dropped_of : (l : Option Link) (es : List Entry) → Chain h l es → AreOnce es → IsCommittedAt f x es → IsNext h x y w es → IsDropped f h x y w es
  dropped_of l all ended alone is next = absurd is
  dropped_of l all (goes m e es at_ cell tx chain) alone is next =
      by (cases_place e.at x) is (λ more further. dropped_of e.version.back es chain alone.1 more further)
    where
      here : e.at ≡ x → same_place e.at x ≡ true → f.state (writer e) ≡ Committed → IsDropped f h x y w (e ∷ es)
      here at same committed =
          let behind_is : es ≡ next.next ∷ next.rest =
          subst (λ (b : Bool). (if b then es else behind x es) ≡ next.next ∷ next.rest) same next.is in record {
            front = [];
            kept = e;
            gone = next.next;
            rest = next.rest;
            are = ap (λ (fs : List Entry). e ∷ fs) behind_is;
            at = at;
            cell = cell;
            committed = committed;
            gone_at = next.at;
            version = next.version;
            left = rw same (ap (λ (fs : List Entry). with_back w.back e ∷ fs)
                (ap (from w.back) behind_is
                ∙ from_rest h w.back next.next next.rest (chain_opens h w.back next.rest next.chain) next.once));
          }

      by : ((e.at ≡ x) × (same_place e.at x ≡ true)) ⊎ ((e.at ≢ x) × (same_place e.at x ≡ false))
          → ((e.at ≡ x) × (f.state (writer e) ≡ Committed)) ⊎ IsCommittedAt f x es
          → (IsCommittedAt f x es → IsNext h x y w es → IsDropped f h x y w es) → IsDropped f h x y w (e ∷ es)
      by (inl (at, same)) (inl (_, committed)) later = here at same committed
      by (inl (at, same)) (inr more) later =
          absurd (alone.0 (subst (Stands es) (sym at) (stands_of_committed f x es more)))
      by (inr (ne, other)) (inl (at, committed)) later = absurd (ne at)
      by (inr (ne, other)) (inr more) later =
          let it = later more (record {
            next = next.next;
            rest = next.rest;
            is = subst (λ (b : Bool). (if b then es else behind x es) ≡ next.next ∷ next.rest) other next.is;
            at = next.at;
            version = next.version;
            chain = next.chain;
            apart = next.apart;
            once = next.once;
          }) in record {
            front = e ∷ it.front;
            kept = it.kept;
            gone = it.gone;
            rest = it.rest;
            are = ap (λ (fs : List Entry). e ∷ fs) it.are;
            at = it.at;
            cell = it.cell;
            committed = it.committed;
            gone_at = it.gone_at;
            version = it.version;
            left = subst (λ (b : Bool). (if b then with_back w.back e ∷ from w.back es else e ∷ skip_at x w.back es)
                ≡ e ∷ (it.front ++ with_back w.back it.kept ∷ it.rest)) (sym other)
                (ap (λ (fs : List Entry). e ∷ fs) it.left);
          }
