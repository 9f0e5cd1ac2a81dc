-- The transaction inventory pages as they are followed.
use Rattle.std.proofs.Common.{◌≡◌, ◌<◌, ◌-◌, ◌∙◌, ℕ, zero, suc, refl, sym, ap, List, [], ◌∷◌, ◌++◌, append_assoc, arith}
use Rattle.mg_image.specs.Form.{Pages}
use Rattle.mg_image.specs.Inventory.{tip_page}
use Rattle.mg_image.specs.Reached.{tips_below}

tips_open : (size : ℕ) (pages : Pages) (count : ℕ) → 0 < count → tips_below size pages count
    ≡ tip_page size pages (count - 1) ∷ tips_below size pages (count - 1)
tips_open size pages zero some = absurd (omega arith)
tips_open size pages (suc n) some = let e : suc n - 1 ≡ n = omega arith in rw e refl

-- one page more is followed
pub tips_push : (size : ℕ) (pages : Pages) (count tip : ℕ) (ns ms all : List ℕ) → 0 < count
    → ns ++ tips_below size pages count ≡ all → tip ≡ tip_page size pages (count - 1)
    → ms ≡ ns ++ tip ∷ [] → ms ++ tips_below size pages (count - 1) ≡ all
tips_push size pages count tip ns ms all some before is pushed = rw (pushed, is)
    (append_assoc ns (tip_page size pages (count - 1) ∷ []) (tips_below size pages (count - 1))
    ∙ (ap (λ (x : List ℕ). ns ++ x) (sym (tips_open size pages count some)) ∙ before))
