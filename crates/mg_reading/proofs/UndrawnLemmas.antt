-- Places of transactions on the last transaction inventory page.
use Rattle.std.proofs.Common.{◌≡◌, ◌+◌, ◌*◌, ◌/◌, ◌%◌, ◌<◌, ◌≤◌, ℕ, sym, subst, arith}
use Rattle.std.proofs.lemmas.Nat.{div-mul-add, mod-mul-add}
use Rattle.mg_tip.specs.TipPage.{places, state_in}
use Rattle.mg_image.specs.Form.{Pages}
use Rattle.mg_image.specs.Inventory.{last_sequence, next_of, tip_page}
use Rattle.mg_image.specs.Sound.{HasNoneUndrawn, IsUndrawn}

-- the places below a number have become nothing
abbrev pub PlacesUndrawn : ℕ → Pages → ℕ → Type 0
PlacesUndrawn size pages count = (place : ℕ) → place < count
    → next_of pages ≤ last_sequence size pages * places size + place
    → IsUndrawn (state_in (pages (tip_page size pages (last_sequence size pages))) place)

pub none_undrawn : (size : ℕ) (pages : Pages) → 0 < places size
    → PlacesUndrawn size pages (places size) → HasNoneUndrawn size pages
none_undrawn size pages some all = λ t past on.
    let whole : places size * (t / places size) + t % places size ≡ t = omega arith in
    let same : last_sequence size pages * places size + t % places size ≡ t =
    placed t (places size) (last_sequence size pages) some on in
    rw on (all (t % places size) (below t (places size) some) (rw same past))
  where
    below : (t p : ℕ) → 0 < p → t % p < p
    below t p some = omega arith

    placed : (t p last : ℕ) → 0 < p → t / p ≡ last → last * p + t % p ≡ t
    placed t p last some on = rw (sym on) (omega arith)

-- what is undrawn on an image is so at each place of the last page
pub undrawn_at : (size : ℕ) (pages : Pages) (place : ℕ) → place < places size
    → HasNoneUndrawn size pages → next_of pages ≤ last_sequence size pages * places size + place
    → IsUndrawn (state_in (pages (tip_page size pages (last_sequence size pages))) place)
undrawn_at size pages place inside none past =
    let on = div-mul-add (last_sequence size pages) (places size) place inside in
    let here = mod-mul-add (last_sequence size pages) (places size) place inside in
    subst (λ (k : ℕ). IsUndrawn (state_in (pages (tip_page size pages (last_sequence size pages))) k))
    here
    (subst (λ (s : ℕ). IsUndrawn (state_in (pages (tip_page size pages s))
    ((last_sequence size pages * places size + place) % places size))) on
    (none (last_sequence size pages * places size + place) past on))
