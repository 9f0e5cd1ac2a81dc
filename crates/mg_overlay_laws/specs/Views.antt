-- A batch of several pages as a row of views, each of which has one page changed; an image that has a
-- set of the pages goes along.
use Rattle.std.proofs.Common.{◌≡◌, ◌≢◌, ◌⊎◌, inl, inr, refl, sym, ap, ◌∙◌, subst, ℕ, Bool, true, false, List, Option, None, Some}
use Rattle.std.specs.Prelude.{if◌then◌else◌}
use Rattle.std.proofs.Math.Path.{fun_ext}
use Rattle.std.proofs.lemmas.Bool.{cases_eq}
use Rattle.mg_careful.specs.Precedence.{Orders}
use Rattle.mg_careful.specs.CarefulWrite.{Pages, PageSet}
use Rattle.mg_overlay_laws.specs.Overlays.{LaysBatch, laid}

-- One page of an image is changed: it was as in the pool, and it is as in the pool then.
pub record LaysPage (pool changed image laid : Pages) (b : ℕ) : Type 0 where
  pub was : image b ≡ pool b
  pub is : laid b ≡ changed b
  pub others : (n : ℕ) → n ≢ b → laid n ≡ image n

-- the pages of a set as a view has them, and the others as in an image
abbrev pub partly : PageSet → Pages → Pages → Pages
partly set_ view image n = if set_ n then view n else image n

-- a step changes one page of the image, or nothing of it
pub step_in : (set_ : PageSet) (view next image : Pages) (b : ℕ)
    → ((n : ℕ) → n ≢ b → next n ≡ view n) → set_ b ≡ true
    → LaysPage view next (partly set_ view image) (partly set_ next image) b
step_in set_ view next image b only in_set = record {
  was = rw in_set refl;
  is = rw in_set refl;
  others = λ n ne. at n ne (set_ n);
}
  where
    at : (n : ℕ) → n ≢ b → (c : Bool)
        → (if c then next n else image n) ≡ (if c then view n else image n)
    at n ne true = only n ne
    at n ne false = refl

pub step_out : (set_ : PageSet) (view next image : Pages) (b : ℕ)
    → ((n : ℕ) → n ≢ b → next n ≡ view n) → set_ b ≡ false
    → partly set_ next image ≡ partly set_ view image
step_out set_ view next image b only out = fun_ext (λ n. at n (cases_eq n b))
  where
    at : (n : ℕ) → (n ≡ b) ⊎ (n ≢ b) → partly set_ next image n ≡ partly set_ view image n
    at n (inl e) =
        let off : set_ n ≡ false = ap set_ e ∙ out in rw off refl
    at n (inr ne) = by (set_ n)
      where
        by : (c : Bool) → (if c then next n else image n) ≡ (if c then view n else image n)
        by true = only n ne
        by false = refl

-- the first view leaves the image, and the last one gives what the batch does
pub first_view : (pool changed : Pages) (batch : ℕ → Option (List ℕ)) (orders : Orders)
    (set_ : PageSet) (image : Pages) → LaysBatch pool changed batch orders set_ image
    → partly set_ pool image ≡ image
first_view pool changed batch orders set_ image lays = fun_ext (λ n. by n (set_ n) refl)
  where
    by : (n : ℕ) (c : Bool) → set_ n ≡ c → (if set_ n then pool n else image n) ≡ image n
    by n true in_set = rw in_set (sym (lays.was n in_set))
    by n false out = rw out refl

pub last_view : (pool changed : Pages) (batch : ℕ → Option (List ℕ)) (orders : Orders)
    (set_ : PageSet) (image : Pages) → LaysBatch pool changed batch orders set_ image
    → partly set_ changed image ≡ laid batch set_ image
last_view pool changed batch orders set_ image lays = fun_ext (λ n. by n (set_ n) refl)
  where
    by : (n : ℕ) (c : Bool) → set_ n ≡ c
        → (if set_ n then changed n else image n) ≡ laid batch set_ image n
    by n true in_set = subst (λ (c : Bool). (if c then changed n else image n)
        ≡ laid batch set_ image n) (sym in_set) (sym (lays.is n in_set))
    by n false out = rw out refl

-- what an order puts before a page of the set is as a view has it, where the view has each page that
-- the batch leaves as it is left
pub ordered_same : (pool changed : Pages) (batch : ℕ → Option (List ℕ)) (orders : Orders)
    (set_ : PageSet) (image view : Pages) → LaysBatch pool changed batch orders set_ image
    → ((m : ℕ) → batch m ≡ None → view m ≡ changed m) → (m b : ℕ) → orders m b ≡ true → set_ b ≡ true
    → partly set_ view image m ≡ view m
ordered_same pool changed batch orders set_ image view lays left m b ordered in_set =
    by (set_ m) (batch m) refl refl
  where
    by : (c : Bool) (bytes : Option (List ℕ)) → set_ m ≡ c → batch m ≡ bytes
        → partly set_ view image m ≡ view m
    by true bytes there is = rw there refl
    by false None out is =
        let as_was : image m ≡ laid batch set_ image m = rw out refl in
        let now : image m ≡ view m = as_was ∙ (lays.first m b ordered in_set ∙ sym (left m is)) in
        rw out now
    by false (Some bytes) out is =
        let there : set_ m ≡ true = lays.together m b ordered (some bytes is) in_set in absurd cc
      where
        some : (bytes : List ℕ) → batch m ≡ Some bytes → batch m ≢ None
        some bytes is none = let both = sym is ∙ none in absurd cc

-- ---- a batch as its steps
