-- Steps back along the transaction inventory pages, and how far these were looked at.
use Rattle.std.proofs.Common.{◌≡◌, ◌∙◌, ◌+◌, ◌-◌, ◌<◌, ◌≤◌, ◌↔◌, ◌⊎◌, inl, inr, ℕ, List, IsTrue, true, false, add-one, ap, arith, refl, sym, subst}
use Rattle.std.proofs.lemmas.Bool.{cases_lt}
use Rattle.mg_base.specs.Fields.{u32_at}
use Rattle.mg_header.specs.declared.header.TheConstants.{LAST_TIP_AT}
use Rattle.mg_tip.specs.TipPage.{prev_in, tip_checks}
use Rattle.mg_image.specs.Form.{Pages}
use Rattle.mg_image.specs.Inventory.{header_of, last_sequence, tip_before, tip_page}
use Rattle.mg_image.specs.Reached.{IsAsWanted}
use Rattle.mg_image.specs.Sound.{HasTips}

-- the header names the last page
pub last_is : (pages : Pages) (header : List ℕ) (n : ℕ) → n ≡ u32_at header LAST_TIP_AT
    → header ≡ pages 0 → n ≡ (header_of pages).last_tip.0
last_is pages header n is same = is ∙ ap (λ (page : List ℕ). u32_at page LAST_TIP_AT) same

-- one step more back
pub one_back : (pages : Pages) (last steps n before : ℕ) (page : List ℕ)
    → n ≡ tip_before pages last steps → page ≡ pages n → before ≡ prev_in page
    → before ≡ tip_before pages last (steps + 1)
one_back pages last steps n before page at same is =
    rw (add-one steps) (is ∙ ap prev_in (same ∙ ap pages at))

-- behind all steps the page of the sequence is reached
pub at_sequence : (pages : Pages) (last n steps back whole all sequence : ℕ)
    → n ≡ tip_before pages last steps → steps ≤ back → back ≤ steps → back ≡ whole - sequence
    → whole ≡ all → n ≡ tip_before pages last (all - sequence)
at_sequence pages last n steps back whole all sequence at most least is same =
    at ∙ ap (tip_before pages last) reached
  where
    reached : steps ≡ all - sequence
    reached = omega arith

-- the page of a sequence is as wanted
abbrev pub IsTip : ℕ → Pages → ℕ → Type 0
IsTip size pages sequence = IsAsWanted size pages (tip_page size pages sequence)
    (tip_checks (pages (tip_page size pages sequence)) (tip_page size pages sequence) sequence)

-- one page more is as wanted
pub tips_more : (size : ℕ) (pages : Pages) (count n : ℕ)
    → ((k : ℕ) → k < count → IsTip size pages k) → n ≡ tip_page size pages count
    → IsAsWanted size pages n (tip_checks (pages n) n count)
    → (k : ℕ) → k < count + 1 → IsTip size pages k
tips_more size pages count n all is wanted k below = at (cases_lt k count)
  where
    here : (k : ℕ) → count ≡ k → IsTip size pages k
    here k same = subst (λ (s : ℕ). IsTip size pages s) same
        (subst (λ (m : ℕ). IsAsWanted size pages m (tip_checks (pages m) m count)) is wanted)

    last : (k count : ℕ) → k < count + 1 → count ≤ k → count ≡ k
    last k count below past = omega arith

    at : (k < count) ⊎ (count ≤ k) → IsTip size pages k
    at (inl less) = all k less
    at (inr past) = here k (last k count below past)

-- all pages are as wanted
pub all_tips : (size : ℕ) (pages : Pages) (count end : ℕ)
    → ((k : ℕ) → k < count → IsTip size pages k) → end + 1 ≤ count
    → end ≡ last_sequence size pages → IsTrue true ↔ HasTips size pages
all_tips size pages count end all whole is =
    (λ passed. λ k on. all k (below k (last_sequence size pages) is on), λ has. refl)
  where
    below : (k last : ℕ) → end ≡ last → k ≤ last → k < count
    below k last is on = omega arith

-- one page is not as wanted
pub no_tips : (size : ℕ) (pages : Pages) (k end n : ℕ) → n ≡ tip_page size pages k
    → k < end + 1 → end ≡ last_sequence size pages
    → (IsAsWanted size pages n (tip_checks (pages n) n k) → IsTrue false)
    → IsTrue false ↔ HasTips size pages
no_tips size pages k end n at below is fails = (
  λ passed. absurd cc,
  λ has. fails (subst (λ (m : ℕ). IsAsWanted size pages m (tip_checks (pages m) m k)) (sym at)
      (has k (on (last_sequence size pages) is))),
)
  where
    on : (last : ℕ) → end ≡ last → k ≤ last
    on last is = omega arith
