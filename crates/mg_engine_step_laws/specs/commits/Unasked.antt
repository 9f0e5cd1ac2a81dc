-- A transaction that has asked for its commit, and then writes on, counts as one that has not: its cache lasts.
use Rattle.mg_base.specs.Disk.{Meaning}
use Rattle.mg_image.specs.Form.{Form}
use Rattle.mg_lasting_laws.specs.Lasting.{LastsOn}
use Rattle.mg_lasting_laws.specs.Laws.{AskingLasts}
use Rattle.mg_lasting_laws.specs.PoolLaws.{needs_are}
use Rattle.mg_model.specs.History.{Entries}
use Rattle.mg_model.specs.declared.opening.Opening.{Opening}
use Rattle.mg_pool.specs.Dirty.{is_dirty, is_marked}
use Rattle.mg_pool.specs.Pool.{cache_of}
use Rattle.mg_pool.specs.declared.pool.Pool.{Pool}
use Rattle.mg_pool_overlay_laws.specs.Needs.{Asked, Sessions, needs_by}
use Rattle.std.proofs.Common.{Bool, ap, false, inl, inr, not, refl, subst, sym, true, ℕ, ◌&&◌, ◌||◌, ◌∙◌, ◌≡◌, ◌≢◌, ◌⊎◌}
use Rattle.std.proofs.lemmas.Bool.{cases_eq, false≢true}

-- a transaction takes back that it asked for its commit, and all others' asking stays
abbrev pub UnaskingLasts : Form → (D L : Type 0) → Meaning D → Type 0
UnaskingLasts form D L m = (o : Opening) (h : Entries) (pool : Pool D L) (has_asked now_asked : Asked)
    (session : Sessions) (t : ℕ) → now_asked t ≡ false → ((u : ℕ) → u ≢ t → now_asked u ≡ has_asked u)
    → LastsOn m form o h pool has_asked session → LastsOn m form o h pool now_asked session

both_on : (a b : Bool) → (a && b) ≡ true → a ≡ true
both_on true b is = refl
both_on false b is = absurd (false≢true is)

pub unasking_lasts : (form : Form) (D L : Type 0) (m : Meaning D) → AskingLasts form → UnaskingLasts form D L m
unasking_lasts form D L m asking o h pool has_asked now_asked session t now_not others lasts = record {
  image = lasts.image;
  held = lasts.held;
  lasts = asking pool.dirty.size o h (cache_of pool.dirty pool.graph lasts.image) has_asked now_asked
      (needs_by has_asked session pool.dirty) (needs_by now_asked session pool.dirty)
      (needs_are pool.dirty pool.graph lasts.image now_asked session) (λ u p active needed. at u p needed (cases_eq u t))
      lasts.lasts;
  settled = lasts.settled;
  left = lasts.left;
}
  where
    at : (u p : ℕ) → needs_by has_asked session pool.dirty u p ≡ true → (u ≡ t) ⊎ (u ≢ t)
        → needs_by now_asked session pool.dirty u p ≡ true
    at u p needed (inl same) =
        let dirty : is_dirty pool.dirty p ≡ true = both_on (is_dirty pool.dirty p)
        (not (has_asked u) || is_marked pool.dirty p (session u)) needed in
        rw (dirty, ap now_asked same ∙ now_not) refl
    at u p needed (inr ne) = subst (λ (b : Bool). (is_dirty pool.dirty p
        && (not b || is_marked pool.dirty p (session u))) ≡ true) (sym (others u ne)) needed
