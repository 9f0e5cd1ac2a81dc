-- What the steps of the test of a page answer.
use Rattle.std.proofs.Common.{◌≡◌, ◌≢◌, ℕ, ◌+◌, ◌-◌, ◌≤◌, ◌⊎◌, inl, inr, List, arith, ap, ◌∙◌, sym, subst, Result, Ok, Err, ◌↔◌}
use Rattle.std.specs.Prelude.{◌==◌, if◌then◌else◌, IsOk, IsErr, IfErr, IsErrAnd}
use Rattle.std.proofs.lemmas.Bool.{cases_eq, eq-eqb, ne_eqb}
use Rattle.mg_base.specs.declared.damage.Damaged.{Damaged}
use Rattle.mg_base.specs.declared.damage.Field.{Field}
use Rattle.mg_base.specs.declared.damage.Field.TheVariants.{Count, Offset}
use Rattle.mg_base.specs.declared.numbers.PageNo.{PageNo}
use Rattle.mg_slots.specs.declared.page.TheConstants.{DATA_KIND}
use Rattle.mg_slots.specs.Damage.{IsFirstDamage, IsSlotDamage, IsNearest, MayHaveOffset, lawful_count, distance, count, low, offset, len}
use Rattle.mg_slots.specs.DamageLaws.{damaged_is_not_lawful}
use Rattle.mg_slots.specs.DataPage.{IsDataPage, MayHaveLength, slot_count, low_of, least_offset, offset_at, length_at}
use Rattle.mg_slots.specs.Verdict.{common_verdict, damage}

-- an error that is handed on
pub if_err : (P : Damaged → Type 0) (r : Result (Unit {0}) Damaged) (e : Damaged)
    → IsErrAnd r (λ x. x ≡ e) → P e → IfErr r P
if_err P (Ok x) e handed_on p = tt
if_err P (Err x) e handed_on p = subst P (sym handed_on) p

pub when_err : (b : List ℕ) (page : PageNo) (owner seq : ℕ) (r : Result (Unit {0}) Damaged)
    (e : Damaged) → IsErr r → IsFirstDamage b page owner seq e
    → IsOk r ↔ ((common_verdict b page DATA_KIND owner seq ≡ Ok tt) × IsDataPage b)
when_err b page owner seq (Ok x) e is_err damaged = absurd cc
when_err b page owner seq (Err x) e is_err damaged = (
  λ is_ok. absurd cc,
  λ (same, lawful). absurd
      (damaged_is_not_lawful b page owner seq e damaged same lawful),
)

-- a field that is as wanted, and one that isn't
pub same_ok : (page : PageNo) (field : Field) (found wanted : ℕ) (x : Unit {0})
    → ◌≡◌ {A = Result (Unit {0}) Damaged} (Ok x) (if found == wanted then Ok tt else Err
    (damage page field found wanted)) → found ≡ wanted
same_ok page field found wanted x is = at (cases_eq found wanted)
  where
    at : (found ≡ wanted) ⊎ (found ≢ wanted) → found ≡ wanted
    at (inl e) = e
    at (inr ne) = let other : ◌≡◌ {A = Result (Unit {0}) Damaged} (Ok x) (Err
        (damage page field found wanted)) = rw (ne_eqb found wanted ne) at is in absurd cc

same_err : (page : PageNo) (field : Field) (found wanted : ℕ) (e : Damaged)
    → ◌≡◌ {A = Result (Unit {0}) Damaged} (Err e) (if found == wanted then Ok tt else Err
    (damage page field found wanted)) → (found ≢ wanted) × (e ≡ damage page field found wanted)
same_err page field found wanted e is = at (cases_eq found wanted)
  where
    at : (found ≡ wanted) ⊎ (found ≢ wanted) → (found ≢ wanted)
        × (e ≡ damage page field found wanted)
    at (inl eq) = let other : ◌≡◌ {A = Result (Unit {0}) Damaged} (Err e) (Ok tt) =
        rw (eq-eqb found wanted eq) at is in absurd cc
    at (inr ne) = let other : ◌≡◌ {A = Result (Unit {0}) Damaged} (Err e) (Err
        (damage page field found wanted)) = rw (ne_eqb found wanted ne) at is in (ne, cc)

pub count_damage : (b : List ℕ) (page : PageNo) (owner seq found wanted : ℕ) (e : Damaged)
    → common_verdict b page DATA_KIND owner seq ≡ Ok tt → found ≡ slot_count b
    → wanted ≡ lawful_count b
    → ◌≡◌ {A = Result (Unit {0}) Damaged} (Err e) (if found == wanted then Ok tt else Err
    (damage page Count found wanted)) → IsFirstDamage b page owner seq e
count_damage b page owner seq found wanted e same is_found is_wanted is =
    let both : (found ≢ wanted) × (e ≡ damage page Count found wanted) =
    same_err page Count found wanted e is in
    let it : e ≡ damage page Count (slot_count b) (lawful_count b) = both.1
    ∙ (ap (λ n. damage page Count n wanted) is_found
    ∙ ap (λ n. damage page Count (slot_count b) n) is_wanted) in
    subst (IsFirstDamage b page owner seq) (sym it) (count same (λ eq. both.0 (is_found ∙ (eq
    ∙ sym is_wanted))))

pub low_damage : (b : List ℕ) (page : PageNo) (owner seq found wanted : ℕ) (r : Result
    (Unit {0}) Damaged) → common_verdict b page DATA_KIND owner seq ≡ Ok tt
    → slot_count b ≡ lawful_count b
    → found ≡ low_of b → wanted ≡ least_offset b (slot_count b)
    → r ≡ (if found == wanted then Ok tt else Err (damage page Offset found wanted))
    → IfErr r (IsFirstDamage b page owner seq)
low_damage b page owner seq found wanted (Ok x) same counted is_found is_wanted is = tt
low_damage b page owner seq found wanted (Err e) same counted is_found is_wanted is =
    let both : (found ≢ wanted) × (e ≡ damage page Offset found wanted) =
    same_err page Offset found wanted e is in
    let it : e ≡ damage page Offset (low_of b) (least_offset b (slot_count b)) = both.1
    ∙ (ap (λ n. damage page Offset n wanted) is_found
    ∙ ap (λ n. damage page Offset (low_of b) n) is_wanted) in
    subst (IsFirstDamage b page owner seq) (sym it) (low same counted (λ eq. both.0 (is_found
    ∙ (eq ∙ sym is_wanted))))

pub offset_damage : (b : List ℕ) (page : PageNo) (slot found wanted : ℕ) (e : Damaged)
    → found ≡ offset_at b slot → (MayHaveOffset b slot found → ⊥)
    → IsNearest (MayHaveOffset b slot) found wanted
    → e ≡ damage page Offset found wanted → IsSlotDamage b page slot e
offset_damage b page slot found wanted e is_found other near is =
    let it : e ≡ damage page Offset (offset_at b slot) wanted = is
    ∙ ap (λ n. damage page Offset n wanted) is_found in
    let P : ℕ → Type 0 = λ n. MayHaveOffset b slot n → ⊥ in
    let Q : ℕ → Type 0 = λ n. IsNearest (MayHaveOffset b slot) n wanted in
    subst (IsSlotDamage b page slot) (sym it) (offset wanted (subst P is_found other)
    (subst Q is_found near))

pub len_damage : (b : List ℕ) (page : PageNo) (slot found wanted : ℕ) (e : Damaged)
    → found ≡ length_at b slot → MayHaveOffset b slot (offset_at b slot)
    → (MayHaveLength b slot found → ⊥)
    → IsNearest (MayHaveLength b slot) found wanted → e ≡ damage page Offset found wanted
    → IsSlotDamage b page slot e
len_damage b page slot found wanted e is_found first other near is =
    let it : e ≡ damage page Offset (length_at b slot) wanted = is
    ∙ ap (λ n. damage page Offset n wanted) is_found in
    let P : ℕ → Type 0 = λ n. MayHaveLength b slot n → ⊥ in
    let Q : ℕ → Type 0 = λ n. IsNearest (MayHaveLength b slot) n wanted in
    subst (IsSlotDamage b page slot) (sym it) (len wanted first (subst P is_found other)
    (subst Q is_found near))

-- what isn't at a distance is farther
pub farther : (P : ℕ → Type 0) (found far other : ℕ) → far ≤ distance found other
    → (P (found - far) → ⊥) → (P (found + far) → ⊥) → P other → far + 1 ≤ distance found other
farther P found far other least before behind is =
    at (cases_eq other (found - far)) (cases_eq other (found + far))
  where
    at : (other ≡ found - far) ⊎ (other ≢ found - far) → (other ≡ found + far)
        ⊎ (other ≢ found + far) → far + 1 ≤ distance found other
    at (inl e) second = absurd (before (subst P e is))
    at (inr ne) (inl e) = absurd (behind (subst P e is))
    at (inr ne) (inr ne2) = omega arith
