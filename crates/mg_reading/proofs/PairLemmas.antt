-- A loop over the rest of a list, that asks something of each of its members.
use Rattle.std.proofs.Common.{◌≡◌, ◌↔◌, ◌⊎◌, inl, inr, [], ◌∷◌, List, length, IsTrue, true, false, arith, refl, sym, subst}
use Rattle.mg_base.specs.declared.numbers.RecId.{RecId}
use Rattle.mg_image.specs.Records.{Stands}
use Rattle.mg_image.specs.declared.entry.Entry.{Entry}
use Rattle.mg_reading.specs.Found.{SharesCell}

-- the rest has a first member
pub opened : {A : Type 0} (F : List A → Type 0) (All : Type 0) (rest now : List A) → rest ≡ now
    → All ↔ F rest → All ↔ F now
opened F All rest now same is = subst (λ xs. All ↔ F xs) same is

-- the rest has none
pub emptied : {A : Type 0} (F : List A → Type 0) (All : Type 0) (rest : List A)
    → length rest ≡ 0 → All ↔ F rest → All ↔ F []
emptied F All [] none is = is
emptied F All (x ∷ xs) none is = absurd (omega (arith, none))

-- where it holds of the first one, the others are left
pub rest_left : (All Here More : Type 0) → All ↔ (Here × More) → Here → All ↔ More
rest_left All Here More is here = (λ all. (is.0 all).1, λ more. is.1 (here, more))

-- where it fails at the first one, it does not hold of all
pub one_fails : (All Here More : Type 0) → All ↔ (Here × More) → (Here → IsTrue false)
    → IsTrue false ↔ All
one_fails All Here More is fails = (λ passed. absurd cc, λ all. fails (is.0 all).0)

-- where none is left, it holds of all
pub none_left : (All : Type 0) → All ↔ Unit {0} → IsTrue true ↔ All
none_left All is = (λ passed. is.1 tt, λ all. refl)

-- where the first cell is none of the other record, the older ones are left
pub cells_left : (a b older : List Entry) (entry : Entry)
    → SharesCell a b ↔ SharesCell (entry ∷ older) b → (Stands b entry.at → IsTrue false)
    → SharesCell a b ↔ SharesCell older b
cells_left a b older entry is fails = (λ shares. among (is.0 shares), λ shares. is.1 (older_in shares))
  where
    among : SharesCell (entry ∷ older) b → SharesCell older b
    among (x, inl same, there) = absurd (let passed = fails
        (subst (λ (y : RecId). Stands b y) (sym same) there) in cc)
    among (x, inr stands, there) = (x, stands, there)

    older_in : SharesCell older b → SharesCell (entry ∷ older) b
    older_in (x, stands, there) = (x, inr stands, there)

-- the first cell is one of the other record
pub cell_here : (a b older : List Entry) (entry : Entry)
    → SharesCell a b ↔ SharesCell (entry ∷ older) b → Stands b entry.at
    → IsTrue true ↔ SharesCell a b
cell_here a b older entry is stands =
    (λ passed. is.1 (entry.at, inl refl, stands), λ shares. refl)

-- no cell is left
pub no_cell : (a b : List Entry) → SharesCell a b ↔ SharesCell [] b
    → IsTrue false ↔ SharesCell a b
no_cell a b is = (λ passed. absurd cc, λ shares. absurd (nowhere (is.0 shares)))
  where
    nowhere : SharesCell [] b → ⊥
    nowhere (x, stands, there) = stands
