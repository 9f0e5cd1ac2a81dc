-- A loaded list says what the image says.
use Rattle.std.proofs.Common.{◌≡◌, ◌≢◌, ◌<◌, ◌≤◌, ◌⊎◌, ◌+◌, ◌-◌, ◌/◌, ◌%◌, ◌==◌, ◌++◌, ℕ, zero, suc, Bool, true, false, List, [], ◌∷◌, length, get_or, nat_lt, refl, sym, ap, subst, ◌∙◌, arith, inl, inr, if◌then◌else◌}
use Rattle.std.proofs.Math.ListN.{get_or-append}
use Rattle.std.proofs.Math.Seq.{get_or-append_seam}
use Rattle.std.proofs.lemmas.Bool.{cases_eq, cases_lt, ne_eqb}
use Rattle.std.proofs.lemmas.Bool.Decides.{nat_tests}
use Rattle.std.proofs.lemmas.List.{length-append}
use Rattle.mg_base.specs.Geometry.{is_page_size}
use Rattle.mg_base.specs.declared.transaction.TxState.{TxState}
use Rattle.mg_base.specs.declared.transaction.TxState.TheVariants.{Committed, Dead}
use Rattle.mg_image.specs.Form.{Pages}
use Rattle.mg_image.specs.Inventory.{bits_state, header_of, last_sequence, next_of, settled, state_at, tip_before, tip_page}
use Rattle.mg_space.specs.TakingLaws.{page_sizes}
use Rattle.mg_tip.specs.TipPage.{places, prev_in, state_in}
use Rattle.mg_txlist.specs.declared.list.TipPage.{TipPage}
use Rattle.mg_txlist.specs.declared.list.TxList.{TxList}
use Rattle.mg_txlist.specs.Chain.{HasHead, tip_at, tips_below}
use Rattle.mg_txlist.specs.TxList.{IsTxList, bits_said, next_said, no_page, said, tip_in}
use Rattle.mg_txlist.proofs.ListLemmas.{page_there, said_old, said_own, said_zero}

-- ---- the pages of the chain

-- one step back first, or last
step_back : (pages : Pages) (at n : ℕ)
    → tip_before pages (prev_in (pages at)) n ≡ tip_before pages at (suc n)
step_back pages at zero = refl
step_back pages at (suc n) = ap (λ (p : ℕ). prev_in (pages p)) (step_back pages at n)

count_below : (pages : Pages) (at n : ℕ) → length (tips_below pages at n) ≡ n
count_below pages at zero = refl
count_below pages at (suc n) =
    let front : length (tips_below pages (prev_in (pages at)) n) ≡ n =
    count_below pages (prev_in (pages at)) n in
    let all : length (tips_below pages (prev_in (pages at)) n ++ tip_at pages at ∷ [])
    ≡ length (tips_below pages (prev_in (pages at)) n) + 1 =
    length-append (tips_below pages (prev_in (pages at)) n) (tip_at pages at ∷ []) in
    omega (arith, front, all)

-- the page of a sequence below the last one, and the last one
tip_front : (pages : Pages) (at n k : ℕ) → k < n
    → get_or (tips_below pages at (suc n)) k no_page
    ≡ get_or (tips_below pages (prev_in (pages at)) n) k no_page
tip_front pages at n k below =
    let count : length (tips_below pages (prev_in (pages at)) n) ≡ n =
    count_below pages (prev_in (pages at)) n in
    get_or-append (tips_below pages (prev_in (pages at)) n) (tip_at pages at ∷ []) no_page k
    (omega (arith, below, count))

tip_last : (pages : Pages) (at n : ℕ) → get_or (tips_below pages at (suc n)) n no_page ≡ tip_at pages at
tip_last pages at n =
    ap (λ (k : ℕ). get_or (tips_below pages at (suc n)) k no_page)
    (sym (count_below pages (prev_in (pages at)) n))
    ∙ get_or-append_seam (tips_below pages (prev_in (pages at)) n) (tip_at pages at) [] no_page

-- the page of each sequence
tips_read : (pages : Pages) (at n k : ℕ) → k < n
    → get_or (tips_below pages at n) k no_page ≡ tip_at pages (tip_before pages at ((n - 1) - k))
tips_read pages at zero k below = absurd (omega (arith, below))
tips_read pages at (suc n) k below =
    by (cases_lt k n) (λ front. tips_read pages (prev_in (pages at)) n k front)
  where
    none : suc n ≡ suc n → (suc n - 1) - n ≡ 0
    none same = omega arith

    by : (k < n) ⊎ (n ≤ k)
        → (k < n → get_or (tips_below pages (prev_in (pages at)) n) k no_page
        ≡ tip_at pages (tip_before pages (prev_in (pages at)) ((n - 1) - k)))
        → get_or (tips_below pages at (suc n)) k no_page
        ≡ tip_at pages (tip_before pages at ((suc n - 1) - k))
    by (inl front) rest =
        let back : suc ((n - 1) - k) ≡ (suc n - 1) - k = omega (arith, front) in
        tip_front pages at n k front
        ∙ (rest front
        ∙ (ap (tip_at pages) (step_back pages at ((n - 1) - k))
        ∙ ap (λ (m : ℕ). tip_at pages (tip_before pages at m)) back))
    by (inr last) rest =
        let same : k ≡ n = omega (arith, below, last) in
        ap (λ (m : ℕ). get_or (tips_below pages at (suc n)) m no_page) same
        ∙ (tip_last pages at n
        ∙ (ap (λ (m : ℕ). tip_at pages (tip_before pages at m)) (sym (none refl))
        ∙ ap (λ (m : ℕ). tip_at pages (tip_before pages at ((suc n - 1) - m))) (sym same)))

-- ---- the states

pick : (p q : Bool) (a b : TxState) → a ≡ b
    → (if p then Committed else (if q then settled a else Dead))
    ≡ (if p then Committed else (if q then settled b else Dead))
pick p q a b same = ap (λ (s : TxState). if p then Committed else (if q then settled s else Dead)) same

old_state : (size : ℕ) (pages : Pages) (t : ℕ) → t ≢ 0 → t < next_of pages
    → state_at size pages t ≡ settled (bits_state size pages t)
unfolding state_at
old_state size pages t some below = at (t == 0) (ne_eqb t 0 some) (nat_lt t (next_of pages)) less
  where
    less : nat_lt t (next_of pages) ≡ true
    less = grind (arith, nat_tests)

    at : (p : Bool) → p ≡ false → (q : Bool) → q ≡ true
        → (if p then Committed else (if q then settled (bits_state size pages t) else Dead))
        ≡ settled (bits_state size pages t)
    at false off true on = refl
    at true off q on = absurd cc
    at false off false on = absurd cc

new_state : (size : ℕ) (pages : Pages) (t : ℕ) → t ≢ 0 → next_of pages ≤ t
    → state_at size pages t ≡ Dead
unfolding state_at
new_state size pages t some from = at (t == 0) (ne_eqb t 0 some) (nat_lt t (next_of pages)) more
  where
    more : nat_lt t (next_of pages) ≡ false
    more = grind (arith, nat_tests)

    at : (p : Bool) → p ≡ false → (q : Bool) → q ≡ false
        → (if p then Committed else (if q then settled (bits_state size pages t) else Dead)) ≡ Dead
    at false off false out = refl
    at true off q out = absurd cc
    at false off true out = absurd cc

zero_state : (size : ℕ) (pages : Pages) → state_at size pages 0 ≡ Committed
unfolding state_at
zero_state size pages = refl

module _ (size : ℕ) (pages : Pages) (list : TxList) (is : IsTxList list) (size_is : list.size ≡ size)
    (own : list.own.items ≡ []) (head : HasHead size pages list.first list.pages.items) where
  first_is : list.first ≡ next_of pages
  first_is = sym head.next_is

  some_places : 0 < places size
  some_places = let sizes = page_sizes size (subst (λ (n : ℕ). is_page_size n ≡ true) size_is is.lawful) in
      omega (arith, sizes)

  -- the page of a number that was drawn
  page_is : (t : ℕ) → t < next_of pages → tip_in list (t / places size)
      ≡ tip_at pages (tip_page size pages (t / places size))
  page_is t below =
      let there : t / places size < last_sequence size pages + 1 =
      page_there t (next_of pages) (places size) some_places below in
      let less : (last_sequence size pages + 1) - 1 ≡ last_sequence size pages = omega arith in
      ap (λ (items : List TipPage). get_or items (t / places size) no_page) head.tips_are
      ∙ (tips_read pages (header_of pages).last_tip.0 (last_sequence size pages + 1)
      (t / places size) there
      ∙ ap (λ (m : ℕ). tip_at pages (tip_before pages (header_of pages).last_tip.0
      (m - t / places size))) less)

  bits_are : (t : ℕ) → t < next_of pages → bits_said list t ≡ bits_state size pages t
  bits_are t below =
      ap (λ (n : ℕ). state_in (tip_in list (t / places n)).bytes (t % places n)) size_is
      ∙ ap (λ (p : TipPage). state_in p.bytes (t % places size)) (page_is t below)

  says : (t : ℕ) → said list t ≡ state_at size pages t
  says t = by_zero (cases_eq t 0)
    where
      by_next : t ≢ 0 → (t < next_of pages) ⊎ (next_of pages ≤ t) → said list t ≡ state_at size pages t
      by_next some (inl below) =
          said_old list t some (subst (λ (n : ℕ). t < n) (sym first_is) below)
          ∙ (ap settled (bits_are t below) ∙ sym (old_state size pages t some below))
      by_next some (inr from) =
          said_own list t some (subst (λ (n : ℕ). n ≤ t) (sym first_is) from)
          ∙ (ap (λ (items : List TxState). get_or items (t - list.first) Dead) own
          ∙ sym (new_state size pages t some from))

      by_zero : (t ≡ 0) ⊎ (t ≢ 0) → said list t ≡ state_at size pages t
      by_zero (inl none) = ap (said list) none
          ∙ (said_zero list ∙ (sym (zero_state size pages) ∙ ap (state_at size pages) (sym none)))
      by_zero (inr some) = by_next some (cases_lt t (next_of pages))

  next_is : next_said list ≡ next_of pages
  next_is =
      let none : length list.own.items ≡ 0 = ap (λ (items : List TxState). length items) own in
      let first : list.first ≡ next_of pages = first_is in omega (arith, none, first)

  pub loaded_says_of : (next_said list ≡ next_of pages)
      × ((t : ℕ) → said list t ≡ state_at size pages t)
  loaded_says_of = (next_is, says)

pub loaded_says : (size : ℕ) (pages : Pages) (list : TxList) → IsTxList list → list.size ≡ size
    → list.own.items ≡ [] → HasHead size pages list.first list.pages.items
    → (next_said list ≡ next_of pages) × ((t : ℕ) → said list t ≡ state_at size pages t)
loaded_says size pages list is size_is own head = loaded_says_of size pages list is size_is own head
