-- Laws of lists of versions: what they show, and who wrote them.
use Rattle.std.specs.Prelude.{◌≡◌, ℕ, ◌==◌, Bool, true, false, List, [], ◌∷◌, Option, Some, None, cond, refl}
use Rattle.std.proofs.Common.{◌∙◌, ap}
use Rattle.std.proofs.lemmas.Bool.{false≢true, eqb-true}
use Rattle.mg_model.specs.Changes.{Cells}
use Rattle.mg_generation_laws.specs.Generations.{Generation, shown_by, first_writer, EachGeneration, EachOlder, is_newest_by, newest_row, without_newest_by, put, AreSeenInOrder}

-- ---- each of them

pub each_as : (P Q : Generation → Type 0) (gs : List Generation) → ((g : Generation) → P g → Q g)
    → EachGeneration P gs → EachGeneration Q gs
each_as P Q [] from each = tt
each_as P Q (g ∷ gs) from each = (from g each.0, each_as P Q gs from each.1)

pub each_with : (P Q R : Generation → Type 0) (gs : List Generation)
    → ((g : Generation) → P g → Q g → R g) → EachGeneration P gs → EachGeneration Q gs
    → EachGeneration R gs
each_with P Q R [] from one other = tt
each_with P Q R (g ∷ gs) from one other =
    (from g one.0 other.0, each_with P Q R gs from one.1 other.1)

pub older_as : (P Q : Generation → Type 0) (gs : List Generation) → ((g : Generation) → P g → Q g)
    → EachOlder P gs → EachOlder Q gs
older_as P Q [] from each = tt
older_as P Q (g ∷ gs) from each = each_as P Q gs from each

pub older_of_each : (P : Generation → Type 0) (gs : List Generation) → EachGeneration P gs
    → EachOlder P gs
older_of_each P [] each = tt
older_of_each P (g ∷ gs) each = each.1

-- ---- the tests matter at the writers alone

pub shown_as : (a b : ℕ → Bool) (gs : List Generation)
    → EachGeneration (λ g. a g.writer ≡ b g.writer) gs → shown_by a gs ≡ shown_by b gs
shown_as a b [] same = refl
shown_as a b (g ∷ gs) same = rw same.0 (ap (cond (b g.writer) g.row) (shown_as a b gs same.1))

pub first_as : (a b : ℕ → Bool) (gs : List Generation)
    → EachGeneration (λ g. a g.writer ≡ b g.writer) gs → first_writer a gs ≡ first_writer b gs
first_as a b [] same = refl
first_as a b (g ∷ gs) same =
    rw same.0 (ap (cond (b g.writer) (Some g.writer)) (first_as a b gs same.1))

-- where nobody of them passes, there is no first
pub nobody_first : (who : ℕ → Bool) (gs : List Generation)
    → EachGeneration (λ g. who g.writer ≡ false) gs → first_writer who gs ≡ None
nobody_first who [] none = refl
nobody_first who (g ∷ gs) none = rw none.0 (nobody_first who gs none.1)

pub none_passes : (who : ℕ → Bool) (gs : List Generation) → first_writer who gs ≡ None
    → EachGeneration (λ g. who g.writer ≡ false) gs
none_passes who [] none = tt
none_passes who (g ∷ gs) none = at (who g.writer) refl (none_passes who gs) none
  where
    at : (b : Bool) → who g.writer ≡ b
        → (first_writer who gs ≡ None → EachGeneration (λ g. who g.writer ≡ false) gs)
        → cond b (Some g.writer) (first_writer who gs) ≡ None
        → EachGeneration (λ g. who g.writer ≡ false) (g ∷ gs)
    at true passes more none = absurd cc
    at false off more none = (off, more none)

-- ---- without the newest of a transaction

pub without_other : (t : ℕ) (gs : List Generation) → is_newest_by t gs ≡ false
    → without_newest_by t gs ≡ gs
without_other t [] other = refl
without_other t (g ∷ gs) other = rw other refl

same_test : (who : ℕ → Bool) (n t : ℕ) → (n == t) ≡ true → who t ≡ false → who n ≡ false
same_test who n t its off = ap who (eqb-true n t its) ∙ off

pub shown_without : (counts : ℕ → Bool) (t : ℕ) (gs : List Generation) → counts t ≡ false
    → shown_by counts (without_newest_by t gs) ≡ shown_by counts gs
shown_without counts t [] off = refl
shown_without counts t (g ∷ gs) off = at (g.writer == t) refl
  where
    at : (b : Bool) → (g.writer == t) ≡ b
        → shown_by counts (cond b gs (g ∷ gs)) ≡ shown_by counts (g ∷ gs)
    at true its =
        let none : counts g.writer ≡ false = same_test counts g.writer t its off in rw none refl
    at false other = refl

pub first_without : (who : ℕ → Bool) (t : ℕ) (gs : List Generation) → who t ≡ false
    → first_writer who (without_newest_by t gs) ≡ first_writer who gs
first_without who t [] off = refl
first_without who t (g ∷ gs) off = at (g.writer == t) refl
  where
    at : (b : Bool) → (g.writer == t) ≡ b
        → first_writer who (cond b gs (g ∷ gs)) ≡ first_writer who (g ∷ gs)
    at true its =
        let none : who g.writer ≡ false = same_test who g.writer t its off in rw none refl
    at false other = refl

pub each_without : (P : Generation → Type 0) (t : ℕ) (gs : List Generation) → EachGeneration P gs
    → EachGeneration P (without_newest_by t gs)
each_without P t [] each = tt
each_without P t (g ∷ gs) each = at (g.writer == t)
  where
    at : (b : Bool) → EachGeneration P (cond b gs (g ∷ gs))
    at true = each.1
    at false = each

pub older_without : (P : Generation → Type 0) (t : ℕ) (gs : List Generation) → EachOlder P gs
    → EachOlder P (without_newest_by t gs)
older_without P t [] each = tt
older_without P t (g ∷ gs) each = at (g.writer == t)
  where
    at : (b : Bool) → EachOlder P (cond b gs (g ∷ gs))
    at true = older_of_each P gs each
    at false = each

-- ---- after a write

pub shown_put : (counts : ℕ → Bool) (t : ℕ) (row : Option Cells) (gs : List Generation)
    → counts t ≡ false → shown_by counts (put t row gs) ≡ shown_by counts gs
shown_put counts t row gs off = rw off (shown_without counts t gs off)

-- ---- the newest of them

-- where the newest counts, it is shown
pub newest_is_shown : (counts : ℕ → Bool) (t : ℕ) (gs : List Generation)
    → is_newest_by t gs ≡ true → counts t ≡ true → shown_by counts gs ≡ newest_row gs
newest_is_shown counts t [] its is = absurd (false≢true its)
newest_is_shown counts t (g ∷ gs) its is =
    let here : counts g.writer ≡ true = ap counts (eqb-true g.writer t its) ∙ is in rw here refl

-- a transaction wrote none of them, where it is not the newest's nor an older one's
pub wrote_none : (t : ℕ) (gs : List Generation) → is_newest_by t gs ≡ false
    → EachOlder (λ g. (g.writer == t) ≡ false) gs
    → EachGeneration (λ g. (g.writer == t) ≡ false) gs
wrote_none t [] other older = tt
wrote_none t (g ∷ gs) other older = (other, older)

-- ---- who saw whom

pub order_as : (saw now : ℕ → ℕ → Bool) (gs : List Generation)
    → ((t u : ℕ) → saw t u ≡ true → now t u ≡ true) → AreSeenInOrder saw gs
    → AreSeenInOrder now gs
order_as saw now [] from order = tt
order_as saw now (g ∷ gs) from order = (
  each_as (λ older. saw g.writer older.writer ≡ true)
      (λ older. now g.writer older.writer ≡ true) gs
      (λ older. from g.writer older.writer) order.0,
  order_as saw now gs from order.1,
)

pub order_without : (saw : ℕ → ℕ → Bool) (t : ℕ) (gs : List Generation) → AreSeenInOrder saw gs
    → AreSeenInOrder saw (without_newest_by t gs)
order_without saw t [] order = tt
order_without saw t (g ∷ gs) order = at (g.writer == t)
  where
    at : (b : Bool) → AreSeenInOrder saw (cond b gs (g ∷ gs))
    at true = order.1
    at false = order

-- what each saw is in order
pub order_of_seen : (saw : ℕ → ℕ → Bool) (gs : List Generation)
    → EachGeneration (λ g. (t : ℕ) → saw t g.writer ≡ true) gs → AreSeenInOrder saw gs
order_of_seen saw [] seen = tt
order_of_seen saw (g ∷ gs) seen = (
  each_as (λ older. (t : ℕ) → saw t older.writer ≡ true)
      (λ older. saw g.writer older.writer ≡ true) gs (λ older all. all g.writer) seen.1,
  order_of_seen saw gs seen.1,
)

pub order_of_older : (saw : ℕ → ℕ → Bool) (gs : List Generation)
    → EachOlder (λ g. (t : ℕ) → saw t g.writer ≡ true) gs → AreSeenInOrder saw gs
order_of_older saw [] seen = tt
order_of_older saw (g ∷ gs) seen = (
  each_as (λ older. (t : ℕ) → saw t older.writer ≡ true)
      (λ older. saw g.writer older.writer ≡ true) gs (λ older all. all g.writer) seen,
  order_of_seen saw gs seen,
)
