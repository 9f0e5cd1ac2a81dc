-- Versions are skipped in the pool: what an overlay has of the record with it and without.
use Rattle.mg_base.specs.declared.numbers.RecId.{RecId}
use Rattle.mg_base.specs.declared.transaction.TxState.{TxState}
use Rattle.mg_image.specs.Form.{Coding}
use Rattle.mg_image.specs.RecordRules.{AreOnce, AreRecords, Each, Facts, IsVersion, table_in}
use Rattle.mg_image.specs.Records.{Cells, Chain, Reading, Stands, newest_of, record_key, writer}
use Rattle.mg_image.specs.StepLaws.{cases_place, put_cases, put_reading, same_place, unread_sound}
use Rattle.mg_image.specs.declared.entry.Entry.{Entry}
use Rattle.mg_image_overlay_laws.specs.records.Skips.{IsCommittedAt, LeadsInto, RelinksCell, before, before_stands, begins_there, behind, behind_stands, chain_cell, committed_of_living, first_is_left, front_skip, living_behind, living_committed, living_skip, reads_none, skip_at, skip_front, skip_sound, skipped_off, stands_of_committed, thin_before, thin_behind, thin_committed, thin_leads}
use Rattle.mg_image_overlay_laws.specs.records.Thins.{front_thin, front_trans, thin_once}
use Rattle.mg_image_overlay_laws.specs.records.Fronts.{HasFronts, IsFront, IsThin, is_dead, living}
use Rattle.mg_model.specs.declared.table.Table.{Table}
use Rattle.mg_version.specs.declared.cell.Link.{Link}
use Rattle.mg_version.specs.declared.cell.Version.{Version}
use Rattle.std.proofs.Common.{Bool, List, None, Option, Some, [], ap, false, inl, inr, refl, subst, sym, true, ◌∙◌, ◌∷◌, ◌≡◌, ◌≢◌, ◌⊎◌, ℕ}
use Rattle.std.specs.Prelude.{if◌then◌else◌}
use Rattle.mg_version.specs.declared.cell.Cell.TheVariants as cells

living_are_once : (state : ℕ → TxState) (es : List Entry) → AreOnce es → AreOnce (living state es)
living_are_once state [] once = once
living_are_once state (e ∷ es) once = by (is_dead (state (writer e)))
  where
    by : (b : Bool) → AreOnce (if b then es else e ∷ es)
    by true = once.1
    by false = once

behind_are_once : (x : RecId) (es : List Entry) → AreOnce es → AreOnce (behind x es)
behind_are_once x [] once = once
behind_are_once x (e ∷ es) once = by (same_place e.at x) (behind_are_once x es once.1)
  where
    by : (b : Bool) → AreOnce (behind x es) → AreOnce (if b then es else behind x es)
    by true older = once.1
    by false older = older

module _ (coding : Coding) (f g : Facts) (pool : Cells) (r s : Reading) (p x : RecId)
    (back : Option Link) (table : Table) where
  -- the pool's record, and the overlay's
  abbrev pub pool_skip : Reading
  pool_skip = put_reading r p (skip_at x back (r p))

  abbrev pub image_skip : Reading
  image_skip = put_reading s p (skip_at x back (s p))

  module _ (image : Cells) (in_pool : AreRecords coding f pool r)
      (in_image : AreRecords coding g image s) (fronts : HasFronts f g r s)
      (of : table_in f p ≡ Some table) (is : IsCommittedAt f x (r p))
      (leads : LeadsInto back (behind x (r p))) where
    pool_once : AreOnce (r p)
    pool_once = (in_pool.each p table of).once

    -- what counts in the pool is among what counts in the overlay
    thin : IsThin (living f.state (r p)) (living g.state (s p))
    thin = front_thin f.state (living f.state (r p)) (living g.state (s p)) (fronts.fronts p)

    -- the overlay has the version
    pub is_there : IsCommittedAt g x (s p)
    is_there = committed_of_living g x (s p) (thin_committed f g x (living f.state (r p))
        (living g.state (s p)) fronts.state thin (living_committed f x (r p) is))

    -- and its slot is one of a table
    pub has_table : (other : Table) × (table_in g p ≡ Some other)
    has_table = by (table_in g p) refl
      where
        by : (t : Option Table) → table_in g p ≡ t → (other : Table) × (table_in g p ≡ Some other)
        by (Some other) of_p = (other, of_p)
        by None none = absurd (subst (λ (es : List Entry). Stands es x) (in_image.outside p none)
            (stands_of_committed g x (s p) is_there))

    pub image_once : AreOnce (s p)
    image_once = by has_table
      where
        by : (other : Table) × (table_in g p ≡ Some other) → AreOnce (s p)
        by (other, of_p) = (in_image.each p other of_p).once

    living_once : AreOnce (living g.state (s p))
    living_once = living_are_once g.state (s p) image_once

    -- the same lie behind it, and the link names one of them
    behind_there : IsThin (behind x (r p)) (behind x (s p))
    behind_there = subst (λ (ds : List Entry). IsThin ds (behind x (s p))) (living_behind f x (r p) pool_once is)
        (subst (IsThin (behind x (living f.state (r p)))) (living_behind g x (s p) image_once is_there)
        (thin_behind x (living f.state (r p)) (living g.state (s p)) thin living_once
        (stands_of_committed f x (living f.state (r p)) (living_committed f x (r p) is))))

    pub leads_there : LeadsInto back (behind x (s p))
    leads_there = thin_leads back (behind x (r p)) (behind x (s p)) behind_there leads

    -- with the page of the version
    pub skip_records : (new : Cells) (v : Version) → RelinksCell image new x v back
        → AreRecords coding g new image_skip
    skip_records new v cut = by has_table
      where
        by : (other : Table) × (table_in g p ≡ Some other) → AreRecords coding g new image_skip
        by (other, of_p) = skip_sound coding g image new s p x v back other in_image of_p cut is_there leads_there

    -- the fronts stay, without the page and with it
    pub skip_fronts_out : HasFronts f g pool_skip s
    skip_fronts_out = record {
      state = fronts.state;
      fronts = put_cases r p (skip_at x back (r p))
          (λ q es. IsFront f.state (living f.state es) (living g.state (s q)))
          (rw (living_skip f x back (r p) pool_once is)
          (front_trans f.state (skip_at x back (living f.state (r p))) (living f.state (r p)) (living g.state (s p))
          (skip_front f x back (living f.state (r p)) (living_committed f x (r p) is)
          (living_are_once f.state (r p) pool_once))
          (fronts.fronts p)))
          (λ q ne. fronts.fronts q);
    }

    pub skip_fronts_in : HasFronts f g pool_skip image_skip
    skip_fronts_in = record { state = fronts.state; fronts = λ q. by q (cases_place q p) }
      where
        by : (q : RecId) → ((q ≡ p) × (same_place q p ≡ true)) ⊎ ((q ≢ p) × (same_place q p ≡ false))
            → IsFront f.state (living f.state (pool_skip q)) (living g.state (image_skip q))
        by q (inl (_, yes_)) = rw (
          yes_,
          living_skip f x back (r p) pool_once is,
          living_skip g x back (s p) image_once is_there,
        )
            (front_skip x f back (living f.state (r p)) (living g.state (s p)) (fronts.fronts p)
            (living_are_once f.state (r p) pool_once) living_once (living_committed f x (r p) is)
            (subst (LeadsInto back) (sym (living_behind f x (r p) pool_once is)) leads))
        by q (inr (_, no_)) = rw no_ (fronts.fronts q)

    -- ---- a cell that is skipped

    -- what the pool skips, the overlay skips
    pub is_behind : (y : RecId) → Stands (before back (behind x (r p))) y
        → Stands (before back (behind x (s p))) y
    is_behind y stands = thin_before x back y (behind x (r p)) (behind x (s p)) behind_there behind_once leads stands
      where
        behind_once : AreOnce (behind x (s p))
        behind_once = behind_are_once x (s p) image_once

    -- no record of the overlay comes to it once the version has none behind it
    pub unread : (y : RecId) → Stands (before back (behind x (r p))) y → (q : RecId) → Stands (image_skip q) y → ⊥
    unread y stands = put_cases s p (skip_at x back (s p)) (λ q es. Stands es y → ⊥)
        (λ there. skipped_off x back y (s p) image_once (is_behind y stands) there)
        (λ q ne there. ne (in_image.apart q p y there
        (behind_stands x y (s p) (before_stands back y (behind x (s p)) (is_behind y stands)))))

    -- its own slot begins no record
    each_at : (P : Entry → Type 0) (es : List Entry) (y : RecId) → Each P es → Stands es y
        → (e : Entry) × P e × (e.at ≡ y)
    each_at P [] y each there = absurd there
    each_at P (e ∷ es) y each (inl at) = (e, each.0, at)
    each_at P (e ∷ es) y each (inr more) = each_at P es y each.1 more

    begins_none : (y : RecId) → Stands (before back (behind x (r p))) y → s y ≡ []
    begins_none y stands = by has_table
      where
        after : Stands (before back (behind x (s p))) y
        after = is_behind y stands

        there : Stands (s p) y
        there = behind_stands x y (s p) (before_stands back y (behind x (s p)) after)

        by : (other : Table) × (table_in g p ≡ Some other) → s y ≡ []
        by (other, of_p) = by_cell (chain_cell image (newest_of p (image p)) (s p) y
            (in_image.reads p other of_p) there)
            (each_at (IsVersion coding g other (record_key other (s p))) (s p) y
            (in_image.each p other of_p).each there)
          where
            by_cell : (w : Version) × (image y ≡ Some (cells.Version w))
                → (e : Entry) × IsVersion coding g other (record_key other (s p)) e × (e.at ≡ y)
                → s y ≡ []
            by_cell (w, cell) (e, version, at) = by_primary w.primary refl
                (subst (λ (l : Option Link). Chain image l (s y)) (ap (newest_of y) cell)
                (in_image.reads y other (ap (table_in g) (sym at) ∙ version.placed)))
              where
                by_primary : (b : Bool) → w.primary ≡ b
                    → Chain image (if b then Some (record { rec = y; tx = w.tx }) else None) (s y)
                    → s y ≡ []
                by_primary false is_ chain = reads_none image (s y) chain
                by_primary true is_ chain =
                    let same : y ≡ p = in_image.apart y p y
                    (begins_there image (record { rec = y; tx = w.tx }) (s y) chain) there in
                    absurd (skipped_off x back y (s p) image_once after
                    (subst (λ (q : RecId). Stands (skip_at x back (s q)) y) same
                    (first_is_left image (record { rec = y; tx = w.tx }) x back (s y) chain)))

    skip_none : (y : RecId) → Stands (before back (behind x (r p))) y → image_skip y ≡ []
    skip_none y stands = put_cases s p (skip_at x back (s p)) (λ q es. q ≡ y → es ≡ [])
        (λ same. subst (λ (es : List Entry). skip_at x back es ≡ []) (sym (ap s same ∙ begins_none y stands)) refl)
        (λ q ne same. ap s same ∙ begins_none y stands) y refl
