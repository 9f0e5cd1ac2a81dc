-- Sums over what slots have.
use Rattle.std.proofs.Common.{◌≡◌, ◌≢◌, ℕ, zero, suc, ◌+◌, ◌<◌, ◌≤◌, ◌⊎◌, inl, inr, None, refl, arith, add-one}
use Rattle.std.proofs.lemmas.Bool.{cases_eq}
use Rattle.mg_slots.specs.DataPage.{Cells, taken_by, taken_below}

pub taken_below_mono : (cells : Cells) (m n : ℕ) → m ≤ n → taken_below cells m ≤ taken_below cells n
taken_below_mono cells m zero le = let e : m ≡ 0 = omega arith in rw e (omega arith)
taken_below_mono cells m (suc n) le = at (cases_eq m (suc n)) (taken_below_mono cells m n)
  where
    at : (m ≡ suc n) ⊎ (m ≢ suc n) → (m ≤ n → taken_below cells m ≤ taken_below cells n)
        → taken_below cells m ≤ taken_below cells n + taken_by (cells n)
    at (inl e) ih = rw e (omega arith)
    at (inr ne) ih = let below : m ≤ n = omega arith in omega (arith, ih below)

pub taken_below_same : (f g : Cells) (n : ℕ) → ((s : ℕ) → s < n → f s ≡ g s)
    → taken_below f n ≡ taken_below g n
taken_below_same f g zero same = refl
taken_below_same f g (suc n) same =
    let here : f n ≡ g n = same n (omega arith) in
    let rest : taken_below f n ≡ taken_below g n =
    taken_below_same f g n (λ s lt. same s (omega arith)) in
    rw (here, rest) refl

-- slots without cells take nothing
pub taken_below_beyond : (cells : Cells) (n m : ℕ) → n ≤ m → ((s : ℕ) → n ≤ s → cells s ≡ None)
    → taken_below cells m ≡ taken_below cells n
taken_below_beyond cells n zero le none = let e : n ≡ 0 = omega arith in rw e refl
taken_below_beyond cells n (suc m) le none = at (cases_eq n (suc m)) (taken_below_beyond cells n m)
  where
    at : (n ≡ suc m) ⊎ (n ≢ suc m) → (n ≤ m → ((s : ℕ) → n ≤ s → cells s ≡ None)
        → taken_below cells m ≡ taken_below cells n)
        → taken_below cells m + taken_by (cells m) ≡ taken_below cells n
    at (inl e) ih = rw e refl
    at (inr ne) ih =
        let below : n ≤ m = omega arith in
        let free : cells m ≡ None = none m below in
        rw free (omega (arith, ih below none))

-- one slot has another cell
pub taken_below_changed : (f g : Cells) (slot n : ℕ) → slot < n → ((s : ℕ) → s ≢ slot → g s ≡ f s)
    → taken_below g n + taken_by (f slot) ≡ taken_below f n + taken_by (g slot)
taken_below_changed f g slot zero lt others = absurd (omega arith)
taken_below_changed f g slot (suc n) lt others = at (cases_eq n slot)
    (taken_below_changed f g slot n)
  where
    at : (n ≡ slot) ⊎ (n ≢ slot) → (slot < n → ((s : ℕ) → s ≢ slot → g s ≡ f s)
        → taken_below g n + taken_by (f slot) ≡ taken_below f n + taken_by (g slot))
        → (taken_below g n + taken_by (g n)) + taken_by (f slot) ≡ (taken_below f n + taken_by
        (f n)) + taken_by (g slot)
    at (inl e) ih =
        let rest : taken_below g n ≡ taken_below f n =
        taken_below_same g f n (λ s below. others s (omega arith)) in
        rw (rest, e) (omega arith)
    at (inr ne) ih =
        let below : slot < n = omega arith in
        let same : g n ≡ f n = others n ne in
        rw same (omega (arith, ih below others))

pub taken_below_more : (cells : Cells) (n : ℕ) → taken_below cells
    (n + 1) ≡ taken_below cells n + taken_by (cells n)
taken_below_more cells n = rw (add-one n) refl
