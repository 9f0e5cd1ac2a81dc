-- A history may begin with what a new database holds.
use Rattle.std.proofs.Common.{◌≡◌, ◌≢◌, ◌⊎◌, inl, inr, ◌<◌, ◌+◌, ◌++◌, refl, sym, ap, subst, ◌∙◌, arith, lit≤, length, ℕ, zero, suc, Bool, true, false, List, [], ◌∷◌}
use Rattle.std.proofs.Math.Path.{fun_ext}
use Rattle.std.proofs.lemmas.Bool.{cases_eq}
use Rattle.std.proofs.lemmas.List.{length-append}
use Rattle.mg_base.specs.Geometry.{is_page_size}
use Rattle.mg_base.specs.Image.{Image, page_at}
use Rattle.mg_base.specs.declared.transaction.TxState.{TxState}
use Rattle.mg_base.specs.declared.transaction.TxState.TheVariants.{Committed, Dead}
use Rattle.mg_engine_meaning_laws.specs.NewBegins.{NewBegin}
use Rattle.mg_engine_meaning_laws.specs.Openings.{BeginsWith, new_history}
use Rattle.mg_engine_meaning_laws.specs.PlainTables.{EachIsPlain, IsPlainTable}
use Rattle.mg_format.specs.Format.{IsMade}
use Rattle.mg_header.specs.declared.header.TheConstants.{GREATEST_NEXT}
use Rattle.mg_image.specs.Form.{packed_form}
use Rattle.mg_image.specs.Histories.{Begins}
use Rattle.mg_image.specs.Inventory.{state_at}
use Rattle.mg_image.specs.Opening.{IsNew, IsOpened, Opened}
use Rattle.mg_image.specs.Sound.{IsSoundBy}
use Rattle.mg_image.specs.Tables.{Layout, Stand, stands_of}
use Rattle.mg_model.specs.Machine.{opening_state}
use Rattle.mg_model.specs.NewDatabase.{kv_name}
use Rattle.mg_model.specs.NewOpeningLaws.{new_is_opening}
use Rattle.mg_model.specs.declared.table.Table.{Table}
use Rattle.mg_new_database_laws.specs.Data.{stand_on}
use Rattle.mg_new_database_laws.specs.NewDatabase.{kv_shape, new_layout, new_reading}
use Rattle.mg_new_database_laws.specs.PageLaws.{others_dead, system_committed}
use Rattle.mg_new_database_laws.specs.Soundness.{IsNewSound, NewAreOpened, NewAreSound}
use Rattle.mg_overlay_laws.specs.Overlays.{left_by, left_state}
use Rattle.mg_image_overlay_laws.specs.tables.Growing.{IsTableOf}
use Rattle.mg_image_overlay_laws.specs.tables.OneLayout.{StandsOneWay}

begins_by : (free : ℕ) (opened : Opened) → IsNew opened → Begins opened (new_history free)
begins_by free opened new = record {
  rows = new.rows;
  limbo = new.limbo;
  next = new.next;
  state = λ t below. at t (subst (λ (n : ℕ). t < n) new.next below);
}
  where
    at : (t : ℕ) → t < 1 → opened.state t ≡ opening_state (new_history free) t
    at zero below = new.state
    at (suc t) below = absurd (omega (arith, below))

-- ---- its tables are plain

module _ (size : ℕ) (image : Image) (lawful : is_page_size size ≡ true) (made : IsMade size image) where
  -- nobody is active
  left_is : (chosen : ℕ → Bool) → left_state chosen (state_at size (page_at size image)) ≡ state_at size (page_at size image)
  left_is chosen = fun_ext (λ t. at t (cases_eq t 0))
    where
      committed : (c : Bool) (s : TxState) → s ≡ Committed → left_by c s ≡ s
      committed true s is = rw is refl
      committed false s is = rw is refl

      dead : (c : Bool) (s : TxState) → s ≡ Dead → left_by c s ≡ s
      dead true s is = rw is refl
      dead false s is = rw is refl

      at : (t : ℕ) → (t ≡ 0) ⊎ (t ≢ 0)
          → left_by (chosen t) (state_at size (page_at size image) t) ≡ state_at size (page_at size image) t
      at t (inl e) = committed (chosen t) (state_at size (page_at size image) t)
          (ap (state_at size (page_at size image)) e ∙ system_committed size image lawful made)
      at t (inr ne) = dead (chosen t) (state_at size (page_at size image) t) (others_dead size image lawful made t ne)

  plain_at : (first last : Stand) (its : Table) → IsPlainTable first.table → IsPlainTable last.table
      → (before : List Stand) (stand : Stand) (after : List Stand)
      → first ∷ last ∷ [] ≡ before ++ (stand ∷ after) → stand.table ≡ its → IsPlainTable its
  plain_at first last its is also [] stand after all named =
      let same : first ≡ stand = cc in
      subst IsPlainTable (ap (λ (s : Stand). s.table) same ∙ named) is
  plain_at first last its is also (x ∷ []) stand after all named =
      let same : last ≡ stand = cc in
      subst IsPlainTable (ap (λ (s : Stand). s.table) same ∙ named) also
  plain_at first last its is also (x ∷ y ∷ before) stand after all named =
      let two : length (first ∷ last ∷ []) ≡ length (x ∷ y ∷ (before ++ (stand ∷ after))) = ap length all in
      let more : length (before ++ (stand ∷ after)) ≡ length before + length (stand ∷ after) =
      length-append before (stand ∷ after) in absurd (omega (arith, two, more))

  pub new_plain : (layout : Layout) → layout ≡ new_layout → (its : Table) → IsTableOf layout its → IsPlainTable its
  new_plain layout same its of = plain_at new_layout.catalog (stand_on kv_name kv_shape 5 6) its
      (record { no_index = refl; first = (refl, (refl, (refl, (refl, (refl, (refl, tt)))))) })
      (record { no_index = refl; first = (refl, (refl, tt)) })
      of.before of.stand of.after (sym (ap stands_of same) ∙ of.is_) of.table_is

-- ---- all together

pub new_begin : NewAreSound → NewAreOpened → StandsOneWay packed_form → NewBegin
new_begin sound opened once free size image lawful made whole = by (opened size image lawful made whole)
  where
    plain : IsNewSound size image → EachIsPlain size (state_at size (page_at size image)) (page_at size image)
    plain is chosen layout r so its of = new_plain size image lawful made layout
        (once size (state_at size (page_at size image)) (page_at size image) layout new_layout r
        (new_reading is.bodies) (subst (λ (s : ℕ → TxState). IsSoundBy packed_form size s (page_at size image) layout r)
        (left_is size image lawful made chosen) so) is.sound).0 its of

    by : (opened : Opened) × IsOpened packed_form size (page_at size image) opened × IsNew opened
        → BeginsWith size image (new_history free)
    by (opened, is, new) = record {
      opened = opened;
      sound = is;
      begins = begins_by free opened new;
      whole = new_is_opening GREATEST_NEXT free (lit≤ tt) (lit≤ tt);
      limit = refl;
      grows = record { limbo = tt; entries = tt };
      plain_tables = plain (sound size image lawful made whole);
    }
