-- A data page is changed in the pool, and in an overlay: it is behind the pool still.
use Rattle.mg_base.specs.Fields.{byte}
use Rattle.mg_pointer.specs.PointerPage.{next_in}
use Rattle.mg_image_overlay_laws.specs.pages.Kinds.{pointers_four, pointers_of}
use Rattle.mg_base.specs.declared.transaction.TxState.{TxState}
use Rattle.mg_header.specs.declared.header.Header.{Header}
use Rattle.mg_image.specs.Form.{Form, Pages}
use Rattle.mg_image.specs.Inventory.{header_of, last_sequence, next_of, tip_page}
use Rattle.mg_image.specs.Records.{Reading}
use Rattle.mg_image.specs.Sound.{IsSoundBy}
use Rattle.mg_image.specs.Tables.{Has, Layout, stands_of}
use Rattle.mg_image_overlay_laws.specs.pages.DataPages.{ChangesData, header_same, last_same, tip_content, tip_same, used_kept}
use Rattle.mg_image_overlay_laws.specs.kept.Rest.{div_grows}
use Rattle.mg_image_overlay_laws.specs.pages.BehindTrees.{behind_stays}
use Rattle.mg_image_overlay_laws.specs.kept.KeptImages.{IsBehind, StandsBehind}
use Rattle.mg_tip.specs.TipPage.{places}
use Rattle.std.proofs.Common.{Bool, List, ap, arith, subst, sym, ℕ, ◌-◌, ◌∙◌, ◌≡◌, ◌≢◌, ◌≤◌}

-- ---- what stands of the other pages, of two images of which each has one data page changed

module _ (in_primary : Bool) (size : ℕ) (state : ℕ → TxState) (form : Form)
    (pool changed : Pages) (b : ℕ) (of_pool : Layout) (in_pool : Reading)
    (pool_sound : IsSoundBy form size state pool of_pool in_pool)
    (pool_change : ChangesData form.in_primary pool changed b)
    (image laid : Pages) (layout : Layout) (reading : Reading)
    (sound : IsSoundBy form size state image layout reading)
    (behind : IsBehind size pool image of_pool layout) where
  -- the changed page is none of an index
  trees : (last : Pages) → StandsBehind changed last (stands_of of_pool) (stands_of layout)
  trees last = behind_stays pool changed image last form.in_primary size (stands_of of_pool)
      (stands_of layout) pool_sound.tables
      (λ m is seven. pool_change.others m (λ e.
      let five : byte (pool m) 0 ≡ 5 = ap (λ (k : ℕ). byte (pool k) 0) e ∙ pool_change.kind in
      omega (arith, five, seven))) behind.trees

  -- the pool alone
  pub behind_out : IsBehind size changed image of_pool layout
  behind_out = record {
    next = subst (λ (h : Header). next_of image ≤ h.next.0) (sym pool_header) behind.next;
    used = λ n used. used_kept form.in_primary size pool changed b pool_change pool_sound.header
        pool_sound.inventory pool_sound.transactions n ∙ behind.used n used;
    stands = behind.stands;
    chained = λ m is some_. chained m is (behind.chained m is some_);
    tips = λ sequence within. tips sequence within (behind.tips sequence within);
    trees = trees image;
  }
    where
      chained : (m : ℕ) → Has (pointers_of (stands_of layout)) m → image m ≡ pool m
          → image m ≡ changed m
      chained m is same = same ∙ sym (pool_change.others m (λ e.
          let four : byte (image m) 0 ≡ 4 = pointers_four form.in_primary size image (stands_of layout)
          sound.tables m is in
          let five : byte (pool m) 0 ≡ 5 = ap (λ (k : ℕ). byte (pool k) 0) e ∙ pool_change.kind in
          let both : byte (image m) 0 ≡ 5 = ap (λ (page : List ℕ). byte page 0) same ∙ five in
          omega (arith, four, both)))

      pool_header : header_of changed ≡ header_of pool
      pool_header = header_same form.in_primary size pool changed b pool_change pool_sound.header
          pool_sound.inventory pool_sound.transactions

      -- the image's last sequence is not above the pool's
      last_within : last_sequence size image ≤ last_sequence size pool
      last_within = div_grows (next_of image - 1) (next_of pool - 1) (places size)
          (let next = behind.next in omega arith)

      tips : (sequence : ℕ) → sequence ≤ last_sequence size image
          → (tip_page size image sequence ≡ tip_page size pool sequence)
          × (image (tip_page size image sequence) ≡ pool (tip_page size pool sequence))
          → (tip_page size image sequence ≡ tip_page size changed sequence)
          × (image (tip_page size image sequence) ≡ changed (tip_page size changed sequence))
      tips sequence within both = (
        both.0 ∙ sym (tip_same form.in_primary size pool changed b pool_change pool_sound.header
            pool_sound.inventory pool_sound.transactions sequence (omega (arith, within, last_within))),
        both.1 ∙ sym (tip_content form.in_primary size pool changed b pool_change pool_sound.header
            pool_sound.inventory pool_sound.transactions sequence (omega (arith, within, last_within))),
      )

  -- both
  pub behind_in : ChangesData form.in_primary image laid b → IsBehind size changed laid of_pool layout
  behind_in change = record {
    next = subst (λ (h : Header). h.next.0 ≤ next_of changed) (sym image_header) behind_out.next;
    used = λ n used. behind_out.used n (sym (used_kept form.in_primary size image laid b change
        sound.header sound.inventory sound.transactions n) ∙ used);
    stands = behind.stands;
    chained = λ m is some_. chained_in m is some_;
    tips = λ sequence within. tips sequence (subst (λ (m : ℕ). sequence ≤ m)
        (last_same form.in_primary size image laid b change sound.header sound.inventory
        sound.transactions) within);
    trees = trees laid;
  }
    where
      chained_in : (m : ℕ) → Has (pointers_of (stands_of layout)) m → next_in (laid m) ≢ 0
          → laid m ≡ changed m
      chained_in m is some_ = stays ∙ behind_out.chained m is
          (subst (λ (page : List ℕ). next_in page ≢ 0) stays some_)
        where
          stays : laid m ≡ image m
          stays = change.others m (λ e.
              let four : byte (image m) 0 ≡ 4 = pointers_four form.in_primary size image
              (stands_of layout) sound.tables m is in
              let five : byte (image m) 0 ≡ 5 = ap (λ (k : ℕ). byte (image k) 0) e ∙ change.kind in
              omega (arith, four, five))

      image_header : header_of laid ≡ header_of image
      image_header = header_same form.in_primary size image laid b change sound.header
          sound.inventory sound.transactions

      tips : (sequence : ℕ) → sequence ≤ last_sequence size image
          → (tip_page size laid sequence ≡ tip_page size changed sequence)
          × (laid (tip_page size laid sequence) ≡ changed (tip_page size changed sequence))
      tips sequence within = (
        tip_same form.in_primary size image laid b change sound.header sound.inventory
            sound.transactions sequence within ∙ (behind_out.tips sequence within).0,
        tip_content form.in_primary size image laid b change sound.header sound.inventory
            sound.transactions sequence within ∙ (behind_out.tips sequence within).1,
      )
