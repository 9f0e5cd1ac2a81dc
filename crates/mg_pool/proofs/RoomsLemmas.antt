-- Notes of the room of pages: what is there after one was put.
use Rattle.std.proofs.Common.{◌≡◌, ◌≢◌, ◌<◌, ◌≤◌, ◌⊎◌, ◌∙◌, ℕ, zero, suc, min, true, false, Bool, List, [], ◌∷◌, length, Option, Some, None, is_some, get_or, set, cond, refl, sym, ap, subst, inl, inr, arith}
use Rattle.std.proofs.lemmas.Bool.{cases_eq, cases_lt, eq-eqb, ne_eqb}
use Rattle.std.proofs.lemmas.List.{get_or-set_other, get_or-set_same, length-set}
use Rattle.std.specs.Prelude.{IfSome}
use Rattle.mg_base.specs.Disk.{Meaning}
use Rattle.mg_base.specs.Image.{Image, page_at}
use Rattle.mg_pool.specs.Clean.{kept_in}
use Rattle.mg_pool.specs.Dirty.{content_of, is_dirty}
use Rattle.mg_pool.specs.Pool.{IsPool, resident, shown}
use Rattle.mg_pool.specs.declared.pool.Pool.{Pool}
use Rattle.mg_pool.specs.Rooms.{HasRoom, NotesRoom, noted_in, told}
use Rattle.mg_slots.specs.Room.{room_of}

told_nothing : (note : ℕ) → note ≡ 65535 → told note ≡ None
told_nothing note is = rw is refl

-- the note that stands for nothing
forgotten : (notes : List ℕ) (i : ℕ) → get_or (set notes i 65535) i 65535 ≡ 65535
forgotten [] i = refl
forgotten (x ∷ xs) zero = refl
forgotten (x ∷ xs) (suc i) = forgotten xs i

unnoted : (notes : List ℕ) (i note : ℕ) → length notes ≤ i → get_or (set notes i note) i 65535 ≡ 65535
unnoted [] i note past = refl
unnoted (x ∷ xs) zero note past = absurd (omega (arith, past))
unnoted (x ∷ xs) (suc i) note past = unnoted xs i note (omega (arith, past))

told_some : (note : ℕ) → note ≢ 65535 → told note ≡ Some note
told_some note some = rw (ne_eqb note 65535 some) refl

module _ (old new : List ℕ) (page : ℕ) where
  pub forgot_here : new ≡ set old page 65535 → noted_in new page ≡ None
  forgot_here is = told_nothing (get_or new page 65535)
      (ap (λ (ns : List ℕ). get_or ns page 65535) is ∙ forgotten old page)

  pub put_others : (note : ℕ) → new ≡ set old page note → (p : ℕ) → p ≢ page
      → noted_in new p ≡ noted_in old p
  put_others note is p apart = ap told (ap (λ (ns : List ℕ). get_or ns p 65535) is
      ∙ get_or-set_other old page p note 65535 apart)

  pub put_length : (note : ℕ) → new ≡ set old page note → length new ≡ length old
  put_length note is = ap (length {A = ℕ}) is ∙ length-set old page note

  pub notes_room : (room : ℕ) → new ≡ set old page (min room 65535) → NotesRoom old new page room
  notes_room room is = record {
    noted = λ inside small.
        let least : min room 65535 ≡ room = omega (arith, small) in
        ap told (ap (λ (ns : List ℕ). get_or ns page 65535) is
        ∙ (get_or-set_same old page (min room 65535) 65535 inside ∙ least))
        ∙ told_some room (λ e. absurd (omega (arith, small, e)));
    none = λ never. told_nothing (get_or new page 65535)
        (ap (λ (ns : List ℕ). get_or ns page 65535) is ∙ at never (cases_lt page (length old)) (cases_lt room 65535));
    others = λ p apart. put_others (min room 65535) is p apart;
    len = put_length (min room 65535) is;
  }
    where
      at : (page < length old → room < 65535 → ⊥) → (page < length old) ⊎ (length old ≤ page)
          → (room < 65535) ⊎ (65535 ≤ room) → get_or (set old page (min room 65535)) page 65535 ≡ 65535
      at never (inl inside) (inl small) = absurd (never inside small)
      at never (inr past) either = unnoted old page (min room 65535) past
      at never (inl inside) (inr great) =
          let e : min room 65535 ≡ 65535 = omega (arith, great) in
          get_or-set_same old page (min room 65535) 65535 inside ∙ e

  -- what is noted then was noted before, or is this
  pub noted_then : (room : ℕ) → NotesRoom old new page room → (p n : ℕ) → noted_in new p ≡ Some n
      → (noted_in old p ≡ Some n) ⊎ ((p ≡ page) × (n ≡ room))
  noted_then room notes p n there = elim (cases_eq p page) [
    | inl same ↦ inr (same, at (cases_lt page (length old)) (cases_lt room 65535) (ap (noted_in new) (sym same) ∙ there))
    | inr apart ↦ inl (sym (notes.others p apart) ∙ there)
  ]
    where
      nothing : (page < length old → room < 65535 → ⊥) → noted_in new page ≡ Some n → n ≡ room
      nothing never here = let e : None ≡ Some n = sym (notes.none never) ∙ here in absurd cc

      at : (page < length old) ⊎ (length old ≤ page) → (room < 65535) ⊎ (65535 ≤ room)
          → noted_in new page ≡ Some n → n ≡ room
      at (inl inside) (inl small) here =
          let e : Some room ≡ Some n = sym (notes.noted inside small) ∙ here in
          let f : room ≡ n = cc in sym f
      at (inr past) either here = nothing (λ inside small. absurd (omega (arith, past, inside))) here
      at (inl inside) (inr great) here = nothing (λ inside small. absurd (omega (arith, great, small))) here

-- a page is there with its content
pub room_here : (content : Option (List ℕ)) (room : ℕ) → HasRoom content room
    → (bytes : List ℕ) × (content ≡ Some bytes) × (room ≡ room_of bytes)
room_here None room has = absurd has
room_here (Some bytes) room has = (bytes, refl, has)

-- what is said of each note there may be
pub each_noted : (o : Option ℕ) (P : ℕ → Type 0) → ((n : ℕ) → o ≡ Some n → P n) → IfSome o P
each_noted None P each = tt
each_noted (Some n) P each = each n refl

none_of : (o : Option (List ℕ)) → is_some o ≡ false → o ≡ None
none_of None out = refl
none_of (Some x) out = absurd cc

-- a resident page is shown with its content
module _ {D L : Type 0} (m : Meaning D) (pool : Pool D L) (is_pool : IsPool m pool)
    (told_so : m.tells pool.disk ≡ true) (image : Image) (held : m.held pool.disk ≡ Some image) (page : ℕ)
  where
    pub resident_shown : (bytes : List ℕ) → resident pool page ≡ Some bytes
        → shown pool.dirty image page ≡ bytes
    resident_shown bytes there = at (is_dirty pool.dirty page) refl there
      where
        at : (b : Bool) → is_dirty pool.dirty page ≡ b
            → cond b (content_of pool.dirty page) (kept_in pool.clean page) ≡ Some bytes
            → shown pool.dirty image page ≡ bytes
        at true dirty is = rw is refl
        at false clean is = rw (none_of (content_of pool.dirty page) clean, is_pool.page_size)
            (sym (is_pool.clean told_so image held page bytes is))

    -- so the room that is noted of it is that of the page as it is shown
    pub room_shown : (room : ℕ) → HasRoom (resident pool page) room
        → room ≡ room_of (shown pool.dirty image page)
    room_shown room has =
        let here = room_here (resident pool page) room has in
        here.2 ∙ ap room_of (sym (resident_shown here.0 here.1))
