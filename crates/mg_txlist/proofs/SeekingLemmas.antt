-- Four numbers are passed at one look.
use Rattle.std.proofs.Common.{◌≡◌, ◌≢◌, ◌<◌, ◌≤◌, ◌⊎◌, inl, inr, ◌+◌, ◌*◌, ◌-◌, ◌/◌, ◌%◌, ◌∙◌, ℕ, Bool, true, false, List, refl, sym, ap, subst, arith, get_or}
use Rattle.std.specs.Bool.{OnTrue}
use Rattle.std.proofs.Math.Nat.{mod-lt}
use Rattle.std.proofs.lemmas.Bool.{cases_lt}
use Rattle.std.proofs.lemmas.Nat.{div-add-mod', div-mul-add, mod-mul-add}
use Rattle.mg_base.specs.Fields.{byte}
use Rattle.mg_base.specs.declared.transaction.TxState.{TxState}
use Rattle.mg_base.specs.declared.transaction.TxState.TheVariants.{Active, Committed, Dead, Limbo}
use Rattle.mg_image.specs.Inventory.{settled}
use Rattle.mg_tip.specs.TipPage.{places, state_in, state_of, two_bits}
use Rattle.mg_txlist.specs.declared.list.TipPage.{TipPage}
use Rattle.mg_txlist.specs.declared.list.TxList.{TxList}
use Rattle.mg_txlist.specs.Seeking.{AreFourSettled, AreSettled}
use Rattle.mg_txlist.specs.TxList.{IsTxList, bits_said, next_said, said, tip_in}
use Rattle.mg_txlist.proofs.ListLemmas.{said_old}
use Rattle.mg_txlist.proofs.TipLemmas.{page_read}

-- a byte that shows nobody in limbo shows it of the four places that it holds
pub settled_four : (page : List ℕ) (place shown : ℕ) (result : Bool) → place % 4 ≡ 0
    → shown ≡ byte page (20 + place / 4)
    → OnTrue result ((k : ℕ) → k < 4 → state_of (two_bits shown k) ≢ Limbo)
    → OnTrue result (AreSettled page place)
unfolding state_in
settled_four page place shown false first is closed = tt
settled_four page place shown true first is closed = (
  first,
  λ k low same.
      let at : (place + k) / 4 ≡ place / 4 = omega (arith, first, low) in
      let bits : (place + k) % 4 ≡ k = omega (arith, first, low) in
      closed k low (ap (λ (b : ℕ). state_of (two_bits b k)) (is ∙ ap (λ (n : ℕ). byte page (20 + n)) (sym at))
      ∙ (ap (λ (j : ℕ). state_of (two_bits (byte page (20 + (place + k) / 4)) j)) (sym bits) ∙ same)),
)

-- A row of places of four keeps four numbers on one page.
module _ (t k n quarter : ℕ) (whole : n ≡ 4 * quarter) (some : 0 < n) (first : t % n % 4 ≡ 0) (low : k < 4) where
  fits : t % n + k < n
  fits = let under = mod-lt t some in omega (arith, under, whole, first, low)

  split : t + k ≡ t / n * n + (t % n + k)
  split = let parts = div-add-mod' t n in omega (arith, parts)

  same_page : (t + k) / n ≡ t / n
  same_page = ap (λ (m : ℕ). m / n) split ∙ div-mul-add (t / n) n (t % n + k) fits

  same_place : (t + k) % n ≡ t % n + k
  same_place = ap (λ (m : ℕ). m % n) split ∙ mod-mul-add (t / n) n (t % n + k) fits

-- what one byte shows of four places it shows of four numbers
pub four_settled : (list : TxList) (t count : ℕ) (is : IsTxList list) → t < next_said list
    → count ≡ places list.size → 0 < count → (x : TipPage) (seen : List ℕ) → x ≡ get_or list.pages.items (t / count) x
    → seen ≡ x.bytes → (result : Bool) → OnTrue result (AreSettled seen (t % count))
    → OnTrue result (AreFourSettled list t)
four_settled list t count is below count_is some x seen read same false shows = tt
four_settled list t count is below count_is some x seen read same true shows =
    λ k low limbo. shows.1 k low
    (ap (λ (b : List ℕ). state_in b (t % count + k)) (same ∙ ap (λ (p : TipPage). p.bytes) (page_read list t count is below count_is x read))
    ∙ (ap (λ (n : ℕ). state_in (tip_in list n).bytes (t % count + k))
    (ap (λ (n : ℕ). t / n) (sym count_is) ∙ sym (same_page t k count (list.size - 20) count_is some shows.0 low))
    ∙ (ap (λ (n : ℕ). state_in (tip_in list ((t + k) / count)).bytes n)
    (sym (same_place t k count (list.size - 20) count_is some shows.0 low))
    ∙ (ap (λ (n : ℕ). state_in (tip_in list ((t + k) / n)).bytes ((t + k) % n)) count_is ∙ limbo))))

-- ---- the walk

-- who is said to be in limbo of those drawn before has the bits of it
bits_limbo : (list : TxList) (t : ℕ) → t ≢ 0 → t < list.first → bits_said list t ≢ Limbo → said list t ≢ Limbo
bits_limbo list t some before other is = by (bits_said list t) other (sym (said_old list t some before) ∙ is)
  where
    by : (x : TxState) → x ≢ Limbo → settled x ≢ Limbo
    by Active other is = absurd cc
    by Limbo other is = absurd (other refl)
    by Dead other is = absurd cc
    by Committed other is = absurd cc

-- nobody from a number up to another one, of those drawn before, is in limbo
abbrev pub HasNone : TxList → ℕ → ℕ → Type 0
HasNone list from t = (from ≤ t) × ((u : ℕ) → from ≤ u → u < t → u < list.first → said list u ≢ Limbo)

pub none_first : (list : TxList) (from : ℕ) → HasNone list from from
none_first list from = (omega arith, λ u at below. absurd (omega (arith, at, below)))

pub none_four : (list : TxList) (from t : ℕ) → 1 ≤ from → HasNone list from t → AreFourSettled list t
    → HasNone list from (t + 4)
none_four list from t some none four = (let low = none.0 in omega (arith, low), at)
  where
    by : (u : ℕ) → from ≤ u → u < t + 4 → u < list.first → (u < t) ⊎ (t ≤ u) → said list u ≢ Limbo
    by u least under before (inl early) = none.1 u least early before
    by u least under before (inr late) = bits_limbo list u (λ zero. omega (arith, zero, least, some)) before
        (subst (λ (n : ℕ). bits_said list n ≢ Limbo) (omega (arith, late)) (four (u - t) (omega (arith, late, under))))

    at : (u : ℕ) → from ≤ u → u < t + 4 → u < list.first → said list u ≢ Limbo
    at u least under before = by u least under before (cases_lt u t)

pub none_one : (list : TxList) (from t : ℕ) → HasNone list from t → said list t ≢ Limbo → HasNone list from (t + 1)
none_one list from t none other = (let low = none.0 in omega (arith, low), at)
  where
    by : (u : ℕ) → from ≤ u → u < t + 1 → u < list.first → (u < t) ⊎ (t ≤ u) → said list u ≢ Limbo
    by u least under before (inl early) = none.1 u least early before
    by u least under before (inr late) =
        subst (λ (n : ℕ). said list n ≢ Limbo) (let e : t ≡ u = omega (arith, late, under) in e) other

    at : (u : ℕ) → from ≤ u → u < t + 1 → u < list.first → said list u ≢ Limbo
    at u least under before = by u least under before (cases_lt u t)
