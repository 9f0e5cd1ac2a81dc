-- What the list says, and what is said once one of its numbers has ended.
use Rattle.std.proofs.Common.{◌≡◌, ◌≢◌, ◌<◌, ◌≤◌, ◌⊎◌, ◌+◌, ◌-◌, ◌/◌, ◌%◌, ◌==◌, ℕ, Bool, true, false, length, get_or, nat_lt, refl, sym, ap, subst, ◌∙◌, arith, inl, inr, if◌then◌else◌, slice_set}
use Rattle.std.proofs.Math.Nat.{div-mul-le_self}
use Rattle.std.proofs.lemmas.Nat.{le-div}
use Rattle.std.proofs.Math.ListN.{set}
use Rattle.std.proofs.lemmas.Bool.{cases_eq, cases_lt, ne_eqb}
use Rattle.std.proofs.lemmas.Bool.Decides.{nat_tests}
use Rattle.std.proofs.lemmas.List.{get_or-set_other, get_or-set_same, get_or_past, length-set}
use Rattle.mg_base.specs.declared.transaction.TxState.{TxState}
use Rattle.mg_base.specs.declared.transaction.TxState.TheVariants.{Active, Committed, Dead, Limbo}
use Rattle.mg_image.specs.Inventory.{settled}
use Rattle.mg_tip.specs.TipPage.{places, state_in}
use Rattle.mg_txlist.specs.declared.list.TipPage.{TipPage}
use Rattle.mg_txlist.specs.declared.list.TxList.{TxList}
use Rattle.mg_txlist.specs.TxList.{EndsIn, bits_said, next_said, own_said, said, tip_in}

-- a lesser number has no later page
pub div_le : (a b k : ℕ) → 0 < k → a ≤ b → a / k ≤ b / k
div_le a b k some le =
    let low = div-mul-le_self a k in le-div (a / k) b k some (omega (arith, low))

-- the page of a number that was drawn is there
pub page_there : (t next k : ℕ) → 0 < k → t < next → t / k < (next - 1) / k + 1
page_there t next k some below =
    let le = div_le t (next - 1) k some (omega arith) in omega (arith, le)

-- ---- what is said, by cases

pick_zero : (p q : Bool) (b c : TxState) → p ≡ true
    → (if p then Committed else (if q then settled b else c)) ≡ Committed
pick_zero true q b c is = refl
pick_zero false q b c is = absurd cc

pick_old : (p q : Bool) (b c : TxState) → p ≡ false → q ≡ true
    → (if p then Committed else (if q then settled b else c)) ≡ settled b
pick_old false true b c off on = refl
pick_old true q b c off on = absurd cc
pick_old false false b c off on = absurd cc

pick_own : (p q : Bool) (b c : TxState) → p ≡ false → q ≡ false
    → (if p then Committed else (if q then settled b else c)) ≡ c
pick_own false false b c off out = refl
pick_own true q b c off out = absurd cc
pick_own false true b c off out = absurd cc

lt_true : (a b : ℕ) → a < b → nat_lt a b ≡ true
lt_true a b less = grind (arith, nat_tests)

lt_false : (a b : ℕ) → b ≤ a → nat_lt a b ≡ false
lt_false a b le = grind (arith, nat_tests)

pub said_zero : (list : TxList) → said list 0 ≡ Committed
unfolding said
said_zero list = refl

pub said_old : (list : TxList) (t : ℕ) → t ≢ 0 → t < list.first
    → said list t ≡ settled (bits_said list t)
unfolding said
said_old list t some before =
    pick_old (t == 0) (nat_lt t list.first) (bits_said list t) (own_said list (t - list.first))
    (ne_eqb t 0 some) (lt_true t list.first before)

pub said_own : (list : TxList) (t : ℕ) → t ≢ 0 → list.first ≤ t
    → said list t ≡ own_said list (t - list.first)
unfolding said
said_own list t some from =
    pick_own (t == 0) (nat_lt t list.first) (bits_said list t) (own_said list (t - list.first))
    (ne_eqb t 0 some) (lt_false t list.first from)

never_active : (s : TxState) → settled s ≡ Active → ⊥
never_active Active is = absurd cc
never_active Limbo is = absurd cc
never_active Dead is = absurd cc
never_active Committed is = absurd cc

-- an active transaction is one of this run
pub active_own : (list : TxList) (t : ℕ) → said list t ≡ Active
    → (list.first ≤ t) × (t < next_said list)
active_own list t is = by (cases_eq t 0)
  where
    inside : t ≢ 0 → list.first ≤ t → (t - list.first < length list.own.items)
        ⊎ (length list.own.items ≤ t - list.first) → (list.first ≤ t) × (t < next_said list)
    inside some from (inl less) = (from, omega arith)
    inside some from (inr past) =
        let none : own_said list (t - list.first) ≡ Dead =
        get_or_past list.own.items (t - list.first) Dead past in
        let same : Dead ≡ Active = sym none ∙ (sym (said_own list t some from) ∙ is) in absurd cc

    off : t ≢ 0 → (t < list.first) ⊎ (list.first ≤ t) → (list.first ≤ t) × (t < next_said list)
    off some (inl before) =
        absurd (never_active (bits_said list t) (sym (said_old list t some before) ∙ is))
    off some (inr from) = inside some from (cases_lt (t - list.first) (length list.own.items))

    by : (t ≡ 0) ⊎ (t ≢ 0) → (list.first ≤ t) × (t < next_said list)
    by (inl none) =
        let same : Committed ≡ Active = sym (said_zero list)
        ∙ (ap (said list) (sym none) ∙ is) in absurd cc
    by (inr some) = off some (cases_lt t list.first)

-- ---- one number has ended

-- in the list of this run's numbers
pub own_ends : (old new : TxList) (t : ℕ) (state : TxState) → 1 ≤ old.first → old.first ≤ t
    → t < next_said old → new.first ≡ old.first → new.size ≡ old.size
    → ((s : ℕ) → tip_in new s ≡ tip_in old s)
    → new.own.items ≡ slice_set old.own.items (t - old.first) state → EndsIn old new t state
own_ends old new t state some from below first size pages own = record {
  here = said_own new t (λ e. absurd (omega arith)) (subst (λ (n : ℕ). n ≤ t) (sym first) from)
      ∙ (ap (λ (n : ℕ). own_said new (t - n)) first
      ∙ (ap (λ xs. get_or xs (t - old.first) Dead) own
      ∙ get_or-set_same old.own.items (t - old.first) state Dead (omega arith)));
  others = λ u ne. other u ne (cases_eq u 0) (cases_lt u old.first);
  next = ap (λ (n : ℕ). n + length new.own.items) first
      ∙ ap (λ (n : ℕ). old.first + n) (ap (λ xs. length xs) own
      ∙ length-set old.own.items (t - old.first) state);
  first = first;
  size = size;
}
  where
    bits_same : (u : ℕ) → bits_said new u ≡ bits_said old u
    bits_same u = ap (λ (n : ℕ). state_in (tip_in new (u / places n)).bytes (u % places n)) size
        ∙ ap (λ (page : TipPage). state_in page.bytes (u % places old.size)) (pages (u / places old.size))

    other : (u : ℕ) → u ≢ t → (u ≡ 0) ⊎ (u ≢ 0) → (u < old.first) ⊎ (old.first ≤ u)
        → said new u ≡ said old u
    other u ne (inl none) by = ap (said new) none ∙ (said_zero new
        ∙ (sym (said_zero old) ∙ ap (said old) (sym none)))
    other u ne (inr off) (inl before) =
        said_old new u off (subst (λ (n : ℕ). u < n) (sym first) before)
        ∙ (ap settled (bits_same u) ∙ sym (said_old old u off before))
    other u ne (inr off) (inr later) =
        said_own new u off (subst (λ (n : ℕ). n ≤ u) (sym first) later)
        ∙ (ap (λ (n : ℕ). own_said new (u - n)) first
        ∙ (ap (λ xs. get_or xs (u - old.first) Dead) own
        ∙ (get_or-set_other old.own.items (t - old.first) (u - old.first) state Dead
        (λ e. ne (omega (arith, e))) ∙ sym (said_own old u off later))))
