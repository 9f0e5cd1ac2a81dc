-- Laws of precedence, for callers.
use Rattle.std.specs.Prelude.{◌≡◌, ℕ, Bool, true}
use Rattle.mg_careful.specs.Precedence.{Orders, Precedes, directly, through}

-- what precedes by some orders precedes by more orders
pub precedes_in : (ordered more : Orders) → ((a b : ℕ) → ordered a b ≡ true → more a b ≡ true)
    → (a b : ℕ) → Precedes ordered a b → Precedes more a b
precedes_in ordered more grows a b (directly o) = directly (grows a b o)
precedes_in ordered more grows a c (through {b = b} p q) =
    through (precedes_in ordered more grows a b p) (precedes_in ordered more grows b c q)

-- what holds of the first page of every order holds of a page that precedes another
pub precedes_first : (ordered : Orders) (holds : ℕ → Bool)
    → ((a b : ℕ) → ordered a b ≡ true → holds a ≡ true)
    → (a b : ℕ) → Precedes ordered a b → holds a ≡ true
precedes_first ordered holds each a b (directly o) = each a b o
precedes_first ordered holds each a c (through {b = b} p q) = precedes_first ordered holds each a b p

-- what holds of the later page of every order holds of a page that another one precedes
pub precedes_later : (ordered : Orders) (holds : ℕ → Bool)
    → ((a b : ℕ) → ordered a b ≡ true → holds b ≡ true)
    → (a b : ℕ) → Precedes ordered a b → holds b ≡ true
precedes_later ordered holds each a b (directly o) = each a b o
precedes_later ordered holds each a c (through {b = b} p q) = precedes_later ordered holds each b c q
