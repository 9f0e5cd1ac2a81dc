-- Walks go on over tables that stand as they did.
use Rattle.std.proofs.Common.{◌≡◌, inl, inr, refl, sym, ap, ◌∙◌, subst, ℕ, suc, Bool, true, List, [], ◌∷◌}
use Rattle.std.proofs.Math.Path.{fun_ext}
use Rattle.mg_base.specs.Fields.{byte}
use Rattle.mg_base.specs.declared.transaction.TxState.{TxState}
use Rattle.mg_chain.specs.Chains.{takes_version}
use Rattle.mg_image_overlay_laws.specs.tables.Growing.{IsTableOf}
use Rattle.mg_image_overlay_laws.specs.kept.Knowing.{its_pages}
use Rattle.mg_image.specs.Form.{Form, Pages, packed_form}
use Rattle.mg_image.specs.Inventory.{is_used}
use Rattle.mg_image.specs.Records.{Reading, shown}
use Rattle.mg_image.specs.Sound.{IsSoundBy, IsTableData}
use Rattle.mg_image.specs.Tables.{EachFrom, Has, Layout}
use Rattle.mg_image_overlay_laws.specs.pages.DataPages.{all_passes, kind_of}
use Rattle.mg_base.specs.Checks.{common_checks}
use Rattle.mg_model.specs.declared.table.Table.{Table}
use Rattle.mg_model.specs.Openings.{everyone}
use Rattle.mg_overlay_laws.specs.Overlays.{left_state}
use Rattle.mg_engine_step_laws.specs.reads.WalkPlaces.{stands_at}
use Rattle.mg_engine_step_laws.specs.reads.Walking.{StandsInTurn, rec_of}
use Rattle.mg_seek.specs.Walks.{records_behind, rows_shown}
use Rattle.mg_slots.specs.declared.page.TheConstants.{DATA_KIND}
use Rattle.mg_engine_step_laws.specs.reads.Alike.{GoesAlike, WalksGoAlike, WalksStayOver}
use Rattle.mg_engine_step_laws.specs.standing.RowsLaws.{behind_same, each_behind, rows_same}

-- ---- the data pages of tables

-- A page is used, and a data page by its kind.
pub record IsUsedData (size : ℕ) (pages : Pages) (n : ℕ) : Type 0 where
  pub used : is_used size pages n ≡ true
  pub kind : byte (pages n) 0 ≡ DATA_KIND

each_used : (in_primary : Bool) (size : ℕ) (pages : Pages) (owner at : ℕ) (ns : List ℕ)
    → EachFrom (IsTableData in_primary size pages owner) at ns → (n : ℕ) → Has ns n → IsUsedData size pages n
each_used in_primary size pages owner at [] each n has = absurd has
each_used in_primary size pages owner at (m ∷ ms) each n (inl is) = subst (IsUsedData size pages) (sym is) (record {
  used = each.0.wanted.used;
  kind = kind_of (pages m) m DATA_KIND owner at []
      (all_passes (common_checks (pages m) m DATA_KIND owner at) each.0.wanted.fields);
})
each_used in_primary size pages owner at (m ∷ ms) each n (inr more) =
    each_used in_primary size pages owner (suc at) ms each.1 n more

pub data_used : (form : Form) (size : ℕ) (state : ℕ → TxState) (pages : Pages) (layout : Layout) (r : Reading)
    → IsSoundBy form size state pages layout r → (its : Table) (stands : IsTableOf layout its) (n : ℕ)
    → Has stands.stand.data_pages n → IsUsedData size pages n
data_used form size state pages layout r sound its stands n has =
    let pages_of = its_pages form size state pages layout r sound its stands in
    each_used form.in_primary size pages stands.stand.table.pointer.0 0 stands.stand.data_pages pages_of.data_pages n
    has

-- ---- walks

pub walks_go_alike : WalksGoAlike
walks_go_alike size s new pages later u table after rows goes come = record {
  layout = to.layout;
  reading = to.reading;
  sound = to.sound;
  shown = to.is_;
  stands = subst (λ (ns : List ℕ). StandsInTurn ns after) (sym to.alike.data_pages) come.stands;
  are = come.are ∙ (sym (rows_same counted counts table come.reading to.reading (records_behind pages ns (rec_of after))
      (each_behind (λ p. shown counts (to.reading p) ≡ shown counted (come.reading p)) pages ns (rec_of after)
      (stands_at ns after come.stands) to.alike.rows))
      ∙ (sym (ap (rows_shown counts table to.reading) (behind_same pages later ns (rec_of after)
      (stands_at ns after come.stands) to.alike.contents))
      ∙ ap (λ (ms : List ℕ). rows_shown counts table to.reading (records_behind later ms (rec_of after)))
      (sym to.alike.data_pages)));
}
  where
    to : GoesAlike size s new pages later u table come.layout come.reading come.shown
    to = goes come.layout come.reading come.sound come.shown

    counted : ℕ → Bool
    counted = takes_version s.state s.live u

    counts : ℕ → Bool
    counts = takes_version new.state new.live u

    ns : List ℕ
    ns = come.shown.stands.stand.data_pages

pub walks_stay_over : WalksStayOver
walks_stay_over size s new pages later u table after rows takes stay sound_on come =
    walks_go_alike size s new pages later u table after rows (λ layout r sound was. record {
      layout = layout;
      reading = r;
      sound = sound_on layout r sound;
      is_ = was;
      alike = record {
        data_pages = refl;
        contents = λ n has.
            let is = data_used packed_form size (left_state everyone s.state) pages layout r sound was.its was.stands
            n has in stay n is.used is.kind;
        rows = λ p has. ap (λ (counts : ℕ → Bool). shown counts (r p)) (fun_ext takes);
      };
    }) come
