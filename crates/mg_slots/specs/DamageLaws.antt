-- A data page is lawful exactly where no field of it differs.
use Rattle.std.proofs.Common.{◌≡◌, ◌≢◌, ℕ, ◌+◌, ◌*◌, ◌<◌, ◌≤◌, ◌⊎◌, inl, inr, true, false, not, List, length, refl, arith, ap, subst, ◌∙◌, sym, Ok}
use Rattle.std.proofs.lemmas.Bool.{cases_lt, cases_eq, cases_order, eq-eqb, ne_eqb, lt-ltb, le-ltb}
use Rattle.mg_base.specs.declared.damage.Damaged.{Damaged}
use Rattle.mg_base.specs.declared.damage.Field.TheVariants.{Offset}
use Rattle.mg_base.specs.declared.numbers.PageNo.{PageNo}
use Rattle.mg_slots.specs.declared.page.TheConstants.{DATA_KIND, SLOTS_AT, SLOT_LEN, LEAST_SIZE, GREATEST_SIZE}
use Rattle.mg_slots.specs.Damage.{HasFront, IsFirstDamage, IsNearest, IsSlotDamage, MayHaveOffset, distance, is_free, lawful_count, most_slots}
use Rattle.mg_slots.specs.Damage.{common, count, low, slot, offset, len}
use Rattle.mg_slots.specs.DataPage.{IsDataPage, IsSlot, HasPlace, MayHaveLength, slot_count, offset_at, length_at, taken}
use Rattle.mg_slots.specs.Room.{last_end}
use Rattle.mg_slots.specs.RoomLaws.{last_end_last, last_end_whole}
use Rattle.mg_slots.specs.Verdict.{common_verdict, damage}

-- a number of slots that is as wanted fits the page
pub wanted_count_fits : (b : List ℕ) → SLOTS_AT ≤ length b → slot_count b ≡ lawful_count b
    → SLOTS_AT + SLOT_LEN * slot_count b ≤ length b
unfolding lawful_count
wanted_count_fits b long wanted = at (cases_lt (most_slots b) (slot_count b))
  where
    at : (most_slots b < slot_count b) ⊎ (slot_count b ≤ most_slots b)
        → SLOTS_AT + SLOT_LEN * slot_count b ≤ length b
    at (inl more) = let e : slot_count b ≡ most_slots b =
        rw (lt-ltb (most_slots b) (slot_count b) more) at wanted in absurd (omega arith)
    at (inr within) = omega arith

-- and its last slot isn't free
pub wanted_count_last : (b : List ℕ) (s : ℕ) → slot_count b ≡ lawful_count b
    → slot_count b ≡ s + 1 → not (is_free b s) ≡ true
unfolding lawful_count
wanted_count_last b s wanted last = at (cases_lt (most_slots b) (slot_count b))
  where
    at : (most_slots b < slot_count b) ⊎ (slot_count b ≤ most_slots b) → not (is_free b s) ≡ true
    at (inl more) = let e : slot_count b ≡ most_slots b =
        rw (lt-ltb (most_slots b) (slot_count b) more) at wanted in absurd (omega arith)
    at (inr within) =
        let e : slot_count b ≡ last_end (λ slot. not (is_free b slot)) (slot_count b) =
        rw (le-ltb (most_slots b) (slot_count b) within) at wanted in
        last_end_last (λ slot. not (is_free b slot)) (slot_count b) s (sym e ∙ last)

-- the number of slots of a lawful page is as wanted
pub count_is_wanted : (b : List ℕ) → IsDataPage b → slot_count b ≡ lawful_count b
unfolding lawful_count
count_is_wanted b page =
    let within : slot_count b ≤ most_slots b = omega (arith, page.slots_fit) in
    rw (le-ltb (most_slots b) (slot_count b) within) (sym (last_end_whole (λ slot. not
    (is_free b slot)) (slot_count b) (λ s last.
    let used : offset_at b s ≢ 0 = omega (arith, page.last_used s last) in
    rw (ne_eqb (offset_at b s) 0 used) refl)))

-- a slot that is lawful has a lawful offset
pub offset_of_slot : (b : List ℕ) (s : ℕ) → IsSlot b s → MayHaveOffset b s (offset_at b s)
offset_of_slot b s lawful = λ used.
    let placed : HasPlace b s (offset_at b s) (taken (length_at b s)) = lawful.placed used in
    record {
      after_slots = placed.after_slots;
      in_page = omega (arith, placed.in_page);
      apart =
          λ e lt has meets. omega (arith, placed.apart e lt has meets);
    }

-- a page whose fields are as wanted is lawful
pub lawful_of_fields : (b : List ℕ) (page : PageNo) (owner seq : ℕ) → LEAST_SIZE ≤ length b
    → length b ≤ GREATEST_SIZE → HasFront b page owner seq → ((s : ℕ) → s < slot_count b
    → IsSlot b s) → IsDataPage b
lawful_of_fields b page owner seq least greatest front each = record {
  least_size = least;
  greatest_size = greatest;
  slots_fit = wanted_count_fits b (omega arith) front.count;
  last_used = λ s last. at s (each s (omega arith)) (wanted_count_last b s front.count last)
      (cases_eq (offset_at b s) 0);
  low = front.low;
  slots = each;
}
  where
    at : (s : ℕ) → IsSlot b s → not (is_free b s) ≡ true → (offset_at b s ≡ 0)
        ⊎ (offset_at b s ≢ 0) → 0 < offset_at b s
    at s lawful used (inr ne) = omega arith
    at s lawful used (inl e) = let is : not (is_free b s) ≡ false =
        rw (eq-eqb (offset_at b s) 0 e, eq-eqb (length_at b s) 0 (lawful.free e)) refl in absurd cc

-- a slot with a field that isn't lawful is no lawful slot
pub slot_damage_is_no_slot : (b : List ℕ) (page : PageNo) (at : ℕ) (e : Damaged)
    → IsSlotDamage b page at e → IsSlot b at → ⊥
slot_damage_is_no_slot b page at _ (offset wanted other near) lawful =
    other (offset_of_slot b at lawful)
slot_damage_is_no_slot b page at _ (len wanted first other near) lawful = other lawful

-- a page with a field that differs isn't lawful, or its common part is another
pub damaged_is_not_lawful : (b : List ℕ) (page : PageNo) (owner seq : ℕ) (e : Damaged)
    → IsFirstDamage b page owner seq e → common_verdict b page DATA_KIND owner seq ≡ Ok tt
    → IsDataPage b → ⊥
damaged_is_not_lawful b page owner seq _ (common e other) same lawful = cc
damaged_is_not_lawful b page owner seq _ (count same_ other) same lawful =
    other (count_is_wanted b lawful)
damaged_is_not_lawful b page owner seq _ (low same_ counted other) same lawful = other lawful.low
damaged_is_not_lawful b page owner seq _ (slot e at front below earlier damage) same lawful =
    slot_damage_is_no_slot b page at e damage (lawful.slots at below)

-- there is one nearest number at most
pub nearest_is_one : (IsLawful : ℕ → Type 0) (found v w : ℕ) → IsNearest IsLawful found v
    → IsNearest IsLawful found w → v ≡ w
nearest_is_one IsLawful found v w near_v near_w =
    let to_w : distance found v ≤ distance found w = near_v.nearest w near_w.lawful in
    let to_v : distance found w ≤ distance found v = near_w.nearest v near_v.lawful in
    let same : distance found v ≡ distance found w = omega arith in
    omega (arith, near_v.lower w near_w.lawful (sym same), near_w.lower v near_v.lawful same)

slot_damage_is_one : (b : List ℕ) (page : PageNo) (at : ℕ) (e f : Damaged)
    → IsSlotDamage b page at e → IsSlotDamage b page at f → e ≡ f
slot_damage_is_one b page at _ _ (offset v other near) (offset w other_ near_) =
    ap (damage page Offset (offset_at b at)) (nearest_is_one (MayHaveOffset b at)
    (offset_at b at) v w near near_)
slot_damage_is_one b page at _ _ (offset v other near) (len w first other_ near_) =
    absurd (other first)
slot_damage_is_one b page at _ _ (len v first other near) (offset w other_ near_) =
    absurd (other_ first)
slot_damage_is_one b page at _ _ (len v first other near) (len w first_ other_ near_) =
    ap (damage page Offset (length_at b at)) (nearest_is_one (MayHaveLength b at)
    (length_at b at) v w near near_)

-- there is one first field that differs at most
pub first_damage_is_one : (b : List ℕ) (page : PageNo) (owner seq : ℕ) (e f : Damaged)
    → IsFirstDamage b page owner seq e → IsFirstDamage b page owner seq f → e ≡ f
first_damage_is_one b page owner seq _ _ (common e is_e) (common f is_f) = cc
first_damage_is_one b page owner seq _ _ (common e is_e) (count same other) = absurd cc
first_damage_is_one b page owner seq _ _ (common e is_e) (low same counted other) = absurd cc
first_damage_is_one b page owner seq _ _ (common e is_e) (slot f at front below earlier damaged) =
    let same : common_verdict b page DATA_KIND owner seq ≡ Ok tt = front.common in absurd cc
first_damage_is_one b page owner seq _ _ (count same other) (common f is_f) = absurd cc
first_damage_is_one b page owner seq _ _ (count same other) (count same_ other_) = refl
first_damage_is_one b page owner seq _ _ (count same other) (low same_ counted other_) =
    absurd (other counted)
first_damage_is_one b page owner seq _ _ (count same other)
    (slot f at front below earlier damaged) = absurd (other front.count)
first_damage_is_one b page owner seq _ _ (low same counted other) (common f is_f) = absurd cc
first_damage_is_one b page owner seq _ _ (low same counted other) (count same_ other_) =
    absurd (other_ counted)
first_damage_is_one b page owner seq _ _ (low same counted other) (low same_ counted_ other_) = refl
first_damage_is_one b page owner seq _ _ (low same counted other)
    (slot f at front below earlier damaged) = absurd (other front.low)
first_damage_is_one b page owner seq _ _ (slot e at front below earlier damaged) (common f is_f) =
    let same : common_verdict b page DATA_KIND owner seq ≡ Ok tt = front.common in absurd cc
first_damage_is_one b page owner seq _ _ (slot e at front below earlier damaged)
    (count same other) = absurd (other front.count)
first_damage_is_one b page owner seq _ _ (slot e at front below earlier damaged)
    (low same counted other) = absurd (other front.low)
first_damage_is_one b page owner seq _ _ (slot e at front below earlier damaged)
    (slot f at_ front_ below_ earlier_ damaged_) = one (cases_order at at_)
  where
    one : (at ≡ at_) ⊎ ((at < at_) ⊎ (at_ < at)) → e ≡ f
    one (inl same) = let P : ℕ → Type 0 = λ n. IsSlotDamage b page n e in
        slot_damage_is_one b page at_ e f (subst P same damaged) damaged_
    one (inr (inl before)) = absurd (slot_damage_is_no_slot b page at e damaged
        (earlier_ at before))
    one (inr (inr before)) = absurd (slot_damage_is_no_slot b page at_ f damaged_
        (earlier at_ before))
