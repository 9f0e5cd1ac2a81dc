-- A list that was loaded has the transaction inventory pages that the cache shows.
use Rattle.std.proofs.Common.{◌≡◌, ◌<◌, ◌≤◌, ◌⊎◌, inl, inr, ◌+◌, ◌-◌, ◌/◌, ◌++◌, ℕ, zero, suc, List, [], ◌∷◌, length, get_or, refl, sym, ap, ◌∙◌, arith}
use Rattle.std.proofs.Math.ListN.{get_or-append}
use Rattle.std.proofs.Math.Seq.{get_or-append_seam}
use Rattle.std.proofs.lemmas.Bool.{cases_lt}
use Rattle.std.proofs.lemmas.List.{length-append}
use Rattle.mg_engine_meaning_laws.specs.Standings.{HasTips}
use Rattle.mg_image.specs.Form.{Pages}
use Rattle.mg_image.specs.Inventory.{header_of, last_sequence, next_of, tip_before, tip_page}
use Rattle.mg_image_overlay_laws.specs.kept.Rest.{div_grows}
use Rattle.mg_tip.specs.TipPage.{places, prev_in}
use Rattle.mg_txlist.specs.Chain.{HasHead, tip_at, tips_below}
use Rattle.mg_txlist.specs.TxList.{no_page, tip_in}
use Rattle.mg_txlist.specs.declared.list.TipPage.{TipPage}
use Rattle.mg_txlist.specs.declared.list.TxList.{TxList}

-- one step back first, or last
step_back : (pages : Pages) (at n : ℕ)
    → tip_before pages (prev_in (pages at)) n ≡ tip_before pages at (suc n)
step_back pages at zero = refl
step_back pages at (suc n) = ap (λ (p : ℕ). prev_in (pages p)) (step_back pages at n)

count_below : (pages : Pages) (at n : ℕ) → length (tips_below pages at n) ≡ n
count_below pages at zero = refl
count_below pages at (suc n) =
    let front : length (tips_below pages (prev_in (pages at)) n) ≡ n =
    count_below pages (prev_in (pages at)) n in
    let all : length (tips_below pages (prev_in (pages at)) n ++ tip_at pages at ∷ [])
    ≡ length (tips_below pages (prev_in (pages at)) n) + 1 =
    length-append (tips_below pages (prev_in (pages at)) n) (tip_at pages at ∷ []) in
    omega (arith, front, all)

-- the page of a sequence below the last one, and the last one
tip_front : (pages : Pages) (at n k : ℕ) → k < n
    → get_or (tips_below pages at (suc n)) k no_page
    ≡ get_or (tips_below pages (prev_in (pages at)) n) k no_page
tip_front pages at n k below =
    let count : length (tips_below pages (prev_in (pages at)) n) ≡ n =
    count_below pages (prev_in (pages at)) n in
    get_or-append (tips_below pages (prev_in (pages at)) n) (tip_at pages at ∷ []) no_page k
    (omega (arith, below, count))

tip_last : (pages : Pages) (at n : ℕ) → get_or (tips_below pages at (suc n)) n no_page ≡ tip_at pages at
tip_last pages at n =
    ap (λ (k : ℕ). get_or (tips_below pages at (suc n)) k no_page)
    (sym (count_below pages (prev_in (pages at)) n))
    ∙ get_or-append_seam (tips_below pages (prev_in (pages at)) n) (tip_at pages at) [] no_page

-- the page of each sequence
tips_read : (pages : Pages) (at n k : ℕ) → k < n
    → get_or (tips_below pages at n) k no_page ≡ tip_at pages (tip_before pages at ((n - 1) - k))
tips_read pages at zero k below = absurd (omega (arith, below))
tips_read pages at (suc n) k below =
    by (cases_lt k n) (λ front. tips_read pages (prev_in (pages at)) n k front)
  where
    none : suc n ≡ suc n → (suc n - 1) - n ≡ 0
    none same = omega arith

    by : (k < n) ⊎ (n ≤ k)
        → (k < n → get_or (tips_below pages (prev_in (pages at)) n) k no_page
        ≡ tip_at pages (tip_before pages (prev_in (pages at)) ((n - 1) - k)))
        → get_or (tips_below pages at (suc n)) k no_page
        ≡ tip_at pages (tip_before pages at ((suc n - 1) - k))
    by (inl front) rest =
        let back : suc ((n - 1) - k) ≡ (suc n - 1) - k = omega (arith, front) in
        tip_front pages at n k front
        ∙ (rest front
        ∙ (ap (tip_at pages) (step_back pages at ((n - 1) - k))
        ∙ ap (λ (m : ℕ). tip_at pages (tip_before pages at m)) back))
    by (inr last) rest =
        let same : k ≡ n = omega (arith, below, last) in
        ap (λ (m : ℕ). get_or (tips_below pages at (suc n)) m no_page) same
        ∙ (tip_last pages at n
        ∙ (ap (λ (m : ℕ). tip_at pages (tip_before pages at m)) (sym (none refl))
        ∙ ap (λ (m : ℕ). tip_at pages (tip_before pages at ((suc n - 1) - m))) (sym same)))

module _ (size : ℕ) (pages : Pages) (list : TxList) (size_is : list.size ≡ size)
    (head : HasHead size pages list.first list.pages.items) where
  -- the page of a number that was drawn
  tip_is : (t : ℕ) → t < next_of pages
      → tip_in list (t / places size) ≡ tip_at pages (tip_page size pages (t / places size))
  tip_is t below =
      let within : t / places size ≤ last_sequence size pages =
      div_grows t (next_of pages - 1) (places size) (omega (arith, below)) in
      let there : t / places size < last_sequence size pages + 1 = omega (arith, within) in
      let less : (last_sequence size pages + 1) - 1 ≡ last_sequence size pages = omega arith in
      ap (λ (items : List TipPage). get_or items (t / places size) no_page) head.tips_are
      ∙ (tips_read pages (header_of pages).last_tip.0 (last_sequence size pages + 1)
      (t / places size) there
      ∙ ap (λ (m : ℕ). tip_at pages (tip_before pages (header_of pages).last_tip.0
      (m - t / places size))) less)

  pub tips_shown : HasTips list size pages
  tips_shown t below = record {
    sized = size_is;
    page = ap (λ (p : TipPage). p.page) (tip_is t below);
    bytes = ap (λ (p : TipPage). p.bytes) (tip_is t below);
  }
