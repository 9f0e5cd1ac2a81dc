-- A page is put: what the pool keeps.
use Rattle.std.proofs.Common.{◌≡◌, ◌≢◌, ◌<◌, ◌≤◌, ℕ, ◌+◌, Bool, true, false, ◌||◌, ◌==◌, inl, inr, List, length, Option, Some, None, is_some, sym, ◌∙◌, ap, refl, arith, subst}
use Rattle.std.proofs.lemmas.Bool.{cases_Bool, cases_eq, eq-eqb, ne_eqb}
use Rattle.mg_careful.specs.Graph.{PageGraph, EntersPage}
use Rattle.mg_pool.specs.Dirty.{DirtyPages, content_of, is_dirty, PutsContent}
use Rattle.mg_base.specs.Image.{Image, page_at}
use Rattle.mg_pool.specs.Pool.{IsTied, shown}
use Rattle.mg_pool.specs.Rooms.{noted_in}
use Rattle.mg_slots.specs.Room.{room_of}

none_from : {X : Type 0} (o : Option X) → is_some o ≡ false → o ≡ None
none_from None out = refl
none_from (Some x) out = absurd cc

-- what a map that lost one page has, it had
pub without_get : (was now : ℕ → Option (List ℕ)) (page : ℕ) → now page ≡ None → ((p : ℕ) → p ≢ page → now p ≡ was p) → (p : ℕ) (bytes : List ℕ) → now p ≡ Some bytes → (p ≢ page) × (was p ≡ Some bytes)
without_get was now page here others p bytes there = elim (cases_eq p page) [
  | inl e ↦ absurd (let f : None ≡ Some bytes = sym here ∙ (ap now (sym e) ∙ there) in cc)
  | inr apart ↦ (apart, sym (others p apart) ∙ there)
]

module _ (old new : DirtyPages) (page : ℕ) (bytes : List ℕ) (put : PutsContent old new page bytes) where
  pub dirty_put : (p : ℕ) → is_dirty new p ≡ (is_dirty old p || p == page)
  dirty_put p = elim (cases_eq p page) [
    | inl e ↦ rw (e, put.here, eq-eqb page page refl) (sym (or_true (is_dirty old page)))
    | inr apart ↦ rw (ne_eqb p page apart, put.others p apart) (sym (or_false (is_dirty old p)))
  ]
    where
      or_true : (b : Bool) → (b || true) ≡ true
      or_true true = refl
      or_true false = refl

      or_false : (b : Bool) → (b || false) ≡ b
      or_false true = refl
      or_false false = refl

  pub few_put : length old.pages ≤ 512 → (content_of old page ≡ None → length old.pages < 512) → length new.pages ≤ 512
  few_put few room = elim (cases_Bool (is_dirty old page)) [
    | inl there ↦ let e : length new.pages ≡ length old.pages = rw there at put.count in omega arith
    | inr out ↦
        let e : length new.pages ≡ length old.pages + 1 = rw out at put.count in
        let low = room (none_from (content_of old page) out) in
        omega arith
  ]

  pub tied_put : (graph more : PageGraph) → EntersPage graph more page → IsTied old graph → IsTied new more
  tied_put graph more enters tied = record {
    entered = λ p. enters.entered p ∙ (ap (λ (b : Bool). b || p == page) (tied.entered p) ∙ sym (dirty_put p));
    count = enters.count ∙ (rw (tied.entered page, tied.count) (sym put.count));
  }

  pub apart_put : (was now : ℕ → Option (List ℕ)) → now page ≡ None → ((p : ℕ) → p ≢ page → now p ≡ was p) → ((p : ℕ) → is_dirty old p ≡ true → was p ≡ None) → (p : ℕ) → is_dirty new p ≡ true → now p ≡ None
  apart_put was now here others kept p dirty = elim (cases_eq p page) [
    | inl e ↦ ap now e ∙ here
    | inr apart ↦ others p apart ∙ kept p (sym (ap is_some (put.others p apart)) ∙ dirty)
  ]

  -- each dirty page lies below a limit, if the page that was put does
  pub below_put : (limit : ℕ) → page < limit → ((p : ℕ) → is_dirty old p ≡ true → p < limit) → (p : ℕ) → is_dirty new p ≡ true → p < limit
  below_put limit below old_below p dirty = elim (cases_eq p page) [
    | inl e ↦ subst (λ (q : ℕ). q < limit) (sym e) below
    | inr apart ↦ old_below p (sym (ap is_some (put.others p apart)) ∙ dirty)
  ]

  same_shown : (image : Image) (p : ℕ) → p ≢ page → shown new image p ≡ shown old image p
  same_shown image p apart = rw (put.others p apart, put.size) refl

  -- what is noted of the others is so still
  pub noted_put : (image : Image) (was now : List ℕ) → noted_in now page ≡ None → ((p : ℕ) → p ≢ page → noted_in now p ≡ noted_in was p)
      → ((p room : ℕ) → noted_in was p ≡ Some room → room ≡ room_of (shown old image p)) → (p room : ℕ) → noted_in now p ≡ Some room → room ≡ room_of (shown new image p)
  noted_put image was now here others noted p room there = elim (cases_eq p page) [
    | inl e ↦ absurd (let f : None ≡ Some room = sym here ∙ (ap (noted_in now) (sym e) ∙ there) in cc)
    | inr apart ↦ noted p room (sym (others p apart) ∙ there) ∙ sym (ap room_of (same_shown image p apart))
  ]
