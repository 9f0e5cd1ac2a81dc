-- The transaction inventory pages of an image, and what has become of a transaction.
use Rattle.std.specs.Prelude.{get_or, ◌≡◌, ◌≢◌, ◌<◌, ◌≤◌, ◌⊎◌, ◌+◌, ◌-◌, ◌/◌, ◌%◌, ◌++◌, ℕ, zero, suc, List, [], ◌∷◌, length}
use Rattle.std.proofs.Common.{refl, sym, ap, ◌∙◌, inl, inr, arith, subst, add-one, length-append}
use Rattle.std.proofs.lemmas.Bool.{cases_lt, le-ltb, lt-ltb, ne_eqb}
use Rattle.std.proofs.lemmas.List.{get_or_append_left, get_or_past, get_or_push, get_or_read}
use Rattle.mg_base.specs.Fields.{byte, u32_at}
use Rattle.mg_base.specs.Image.{Image, blank, page_at}
use Rattle.mg_base.specs.declared.transaction.TxState.{TxState}
use Rattle.mg_base.specs.declared.transaction.TxState.TheVariants.{Active, Committed, Dead}
use Rattle.mg_image.specs.Form.{Pages}
use Rattle.mg_image.specs.Inventory.{bits_state, header_of, last_sequence, next_of, settled, state_at, tip_before, tip_page}
use Rattle.mg_tip.specs.TipPage.{places, prev_in, state_in, two_bits}
use Rattle.mg_tip.specs.declared.page.TheConstants.{STATES_AT}
use Rattle.mg_limbo_list.specs.Limbo.{HasTipsBelow}

-- ---- an absent page reads as zeros

-- a byte of a blank page
pub blank_byte : (size at : ℕ) → byte (blank size) at ≡ 0
blank_byte zero at = refl
blank_byte (suc size) zero = refl
blank_byte (suc size) (suc at) = blank_byte size at

-- a number on one
pub blank_number : (size at : ℕ) → u32_at (blank size) at ≡ 0
blank_number size at =
    rw (blank_byte size at, blank_byte size (at + 1), blank_byte size (at + 2), blank_byte size (at + 3)) refl

pub number_absent : (size : ℕ) (image : Image) (n at : ℕ) → length image ≤ n
    → 0 ≡ u32_at (page_at size image n) at
number_absent size image n at past =
    sym (ap (λ (b : List ℕ). u32_at b at) (get_or_past image n (blank size) past)
    ∙ blank_number size at)

-- two bits of a byte that is 0
no_bits : (k : ℕ) → two_bits 0 k ≡ 0
no_bits zero = refl
no_bits (suc zero) = refl
no_bits (suc (suc zero)) = refl
no_bits (suc (suc (suc k))) = refl

blank_state : (size place : ℕ) → state_in (blank size) place ≡ Active
unfolding state_in
blank_state size place =
    rw (blank_byte size (STATES_AT + place / 4), no_bits (place % 4)) refl

pub state_absent : (size : ℕ) (image : Image) (n place : ℕ) → length image ≤ n
    → Active ≡ state_in (page_at size image n) place
state_absent size image n place past =
    sym (ap (λ (b : List ℕ). state_in b place) (get_or_past image n (blank size) past)
    ∙ blank_state size place)

-- ---- the pages, from the last one back

pub tips_none : (size : ℕ) (pages : Pages) (last : ℕ) → last ≡ (header_of pages).last_tip.0
    → HasTipsBelow size pages 0 last []
tips_none size pages last is = record {
  count = refl;
  each = λ back below. absurd (omega (arith, below));
  here = is;
}

pub tips_more : (size : ℕ) (pages : Pages) (back n prev : ℕ) (numbers : List ℕ)
    → HasTipsBelow size pages back n numbers → prev ≡ prev_in (pages n)
    → HasTipsBelow size pages (back + 1) prev (numbers ++ n ∷ [])
tips_more size pages back n prev numbers before is = record {
  count = grind (arith, length-append, before.count);
  each = λ k below. at k (cases_lt k back) below;
  here = is ∙ (ap (λ (m : ℕ). prev_in (pages m)) before.here
      ∙ ap (tip_before pages (header_of pages).last_tip.0) (sym (add-one back)));
}
  where
    last : (k : ℕ) → back ≤ k → k < back + 1 → back ≡ k
    last k past below = omega (arith, past, below)

    at : (k : ℕ) → (k < back) ⊎ (back ≤ k) → k < back + 1
        → get_or (numbers ++ n ∷ []) k 0 ≡ tip_before pages (header_of pages).last_tip.0 k
    at k (inl less) below =
        get_or_append_left numbers (n ∷ []) 0 k (omega (arith, less, before.count)) ∙ before.each k less
    at k (inr past) below = get_or_push numbers n 0 k (before.count ∙ last k past below)
        ∙ (before.here ∙ ap (tip_before pages (header_of pages).last_tip.0) (last k past below))

-- ---- what has become of a transaction

pub state_zero : (size : ℕ) (pages : Pages) → Committed ≡ state_at size pages 0
unfolding state_at
state_zero size pages = refl

pub state_system : (size : ℕ) (pages : Pages) (t : ℕ) → t ≡ 0 → Committed ≡ state_at size pages t
state_system size pages t is = state_zero size pages ∙ ap (state_at size pages) (sym is)

pub state_past : (size : ℕ) (pages : Pages) (t : ℕ) → t ≢ 0 → next_of pages ≤ t
    → Dead ≡ state_at size pages t
unfolding state_at
state_past size pages t some past = rw (ne_eqb t 0 some, le-ltb t (next_of pages) past) refl

pub state_drawn : (size : ℕ) (pages : Pages) (t : ℕ) → t ≢ 0 → t < next_of pages
    → state_at size pages t ≡ settled (bits_state size pages t)
unfolding state_at
state_drawn size pages t some below = rw (ne_eqb t 0 some, lt-ltb t (next_of pages) below) refl

-- by the number of its page
pub state_found : (size : ℕ) (pages : Pages) (t on back n next : ℕ) (numbers : List ℕ) (state : TxState)
    → t ≢ 0 → next ≡ next_of pages → t < next → on ≡ places size
    → back ≡ (next - 1) / on - t / on → n ≡ get_or numbers back n → back < length numbers
    → ((k : ℕ) → k ≤ last_sequence size pages
    → get_or numbers k 0 ≡ tip_before pages (header_of pages).last_tip.0 k)
    → state ≡ state_in (pages n) (t % on) → settled state ≡ state_at size pages t
state_found size pages t on back n next numbers state some drawn below is at named inside each told =
    sym (state_drawn size pages t some (subst (λ (m : ℕ). t < m) drawn below)
    ∙ ap settled (sym (told ∙ (ap (λ (k : ℕ). state_in (pages n) (t % k)) is
    ∙ ap (λ (m : ℕ). state_in (pages m) (t % places size)) page))))
  where
    before : back ≡ last_sequence size pages - t / places size
    before = at ∙ (ap (λ (m : ℕ). (m - 1) / on - t / on) drawn
        ∙ ap (λ (k : ℕ). (next_of pages - 1) / k - t / k) is)

    page : n ≡ tip_page size pages (t / places size)
    page = get_or_read numbers back n inside named 0
        ∙ (each back (omega (arith, before))
        ∙ ap (tip_before pages (header_of pages).last_tip.0) before)

-- the place of its page among their numbers
pub back_inside : (size : ℕ) (pages : Pages) (t on next : ℕ) (numbers : List ℕ)
    → next ≡ next_of pages → on ≡ places size
    → length numbers ≡ last_sequence size pages + 1 → (next - 1) / on - t / on < length numbers
back_inside size pages t on next numbers drawn is count =
    let last : (next - 1) / on ≡ last_sequence size pages =
    ap (λ (m : ℕ). (m - 1) / on) drawn ∙ ap (λ (k : ℕ). (next_of pages - 1) / k) is in
    omega (arith, last, count)
