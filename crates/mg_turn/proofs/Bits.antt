-- The bits of ends in a word.
use Rattle.std.proofs.Common.{◌≡◌, ◌⊎◌, ℕ, ◌/◌, ◌%◌, ◌<◌, true, false, Bool, max, if◌then◌else◌, ◌==◌, bit_or, sym, refl, ap, ◌∙◌, subst, inl, inr, ⊎_elim, Option, Some, None, eq-eqb, eqb-true, arith}
use Rattle.std.specs.Int.{bit_at}
use Rattle.std.proofs.lemmas.Nat.Bits.{bit_at_or, bit_at-lt, bit_at_lowest}
use Rattle.mg_turn.specs.declared.served.End.{End}
use Rattle.mg_turn.specs.declared.served.End.TheVariants.{Committed, Dead, Limbo}
use Rattle.mg_turn.specs.Tells.{bit_of, mask_of, end_in}

pub mask_injective : (a b : End) → mask_of a ≡ mask_of b → a ≡ b
mask_injective Committed Committed e = refl
mask_injective Committed Dead e = absurd (omega arith)
mask_injective Committed Limbo e = absurd (omega arith)
mask_injective Dead Committed e = absurd (omega arith)
mask_injective Dead Dead e = refl
mask_injective Dead Limbo e = absurd (omega arith)
mask_injective Limbo Committed e = absurd (omega arith)
mask_injective Limbo Dead e = absurd (omega arith)
mask_injective Limbo Limbo e = refl

-- the bits of a mask
pub mask_bit : (a b : End) → (a ≡ b) ⊎ (bit_at (mask_of a) (bit_of b) ≡ 0)
mask_bit Committed Committed = inl refl
mask_bit Committed Dead = inr refl
mask_bit Committed Limbo = inr refl
mask_bit Dead Committed = inr refl
mask_bit Dead Dead = inl refl
mask_bit Dead Limbo = inr refl
mask_bit Limbo Committed = inr refl
mask_bit Limbo Dead = inr refl
mask_bit Limbo Limbo = inl refl

pub mask_here : (a : End) → bit_at (mask_of a) (bit_of a) ≡ 1
mask_here Committed = refl
mask_here Dead = refl
mask_here Limbo = refl

or_zero : (x y z : ℕ) → z ≡ max x y → y ≡ 0 → z ≡ x
or_zero x y z e q = omega arith

or_kept : (x y z : ℕ) → z ≡ max x y → x ≡ 1 → y < 2 → z ≡ 1
or_kept x y z e q l = omega arith

or_set : (x y z : ℕ) → z ≡ max x y → y ≡ 1 → x < 2 → z ≡ 1
or_set x y z e q l = omega arith

pub posted_bits : (n : ℕ) (end other : End) → bit_at (bit_or n (mask_of end)) (bit_of other) ≡ 1 → (end ≡ other) ⊎ (bit_at n (bit_of other) ≡ 1)
posted_bits n end other h = ⊎_elim (λ (t : end ≡ other). inl t)
    (λ (t : bit_at (mask_of end) (bit_of other) ≡ 0). inr (sym (or_zero (bit_at n (bit_of other)) (bit_at (mask_of end) (bit_of other)) (bit_at (bit_or n (mask_of end)) (bit_of other)) (bit_at_or n (mask_of end) (bit_of other)) t) ∙ h))
    (mask_bit end other)

pub posted_stays : (n : ℕ) (end other : End) → bit_at n (bit_of other) ≡ 1 → bit_at (bit_or n (mask_of end)) (bit_of other) ≡ 1
posted_stays n end other h = or_kept (bit_at n (bit_of other)) (bit_at (mask_of end) (bit_of other)) (bit_at (bit_or n (mask_of end)) (bit_of other)) (bit_at_or n (mask_of end) (bit_of other)) h (bit_at-lt (mask_of end) (bit_of other))

pub posted_here : (n : ℕ) (end : End) → bit_at (bit_or n (mask_of end)) (bit_of end) ≡ 1
posted_here n end = or_set (bit_at n (bit_of end)) (bit_at (mask_of end) (bit_of end)) (bit_at (bit_or n (mask_of end)) (bit_of end)) (bit_at_or n (mask_of end) (bit_of end)) (mask_here end) (bit_at-lt n (bit_of end))

abbrev or_else : Option End → End → End
or_else None d = d
or_else (Some z) d = z

some_is : (x y : End) → Some x ≡ Some y → x ≡ y
some_is x y e = ap (λ (o : Option End). or_else o x) e

first_bit : (n : ℕ) → bit_at n 0 ≡ n % 2
first_bit n = bit_at_lowest n

module _ (n : ℕ) where
  -- what a word tells stands in it
  told_by : (a b c : Bool) (end : End) → (a ≡ true → bit_at n 0 ≡ 1) → (b ≡ true → bit_at n 1 ≡ 1) → (c ≡ true → bit_at n 2 ≡ 1)
      → (if a then (Some Committed) else (if b then (Some Dead) else (if c then (Some Limbo) else None))) ≡ Some end → bit_at n (bit_of end) ≡ 1
  told_by true b c end p q r e = subst (λ (x : End). bit_at n (bit_of x) ≡ 1) (some_is Committed end e) (p refl)
  told_by false true c end p q r e = subst (λ (x : End). bit_at n (bit_of x) ≡ 1) (some_is Dead end e) (q refl)
  told_by false false true end p q r e = subst (λ (x : End). bit_at n (bit_of x) ≡ 1) (some_is Limbo end e) (r refl)
  told_by false false false end p q r e = absurd cc

  pub told_shows : (end : End) → end_in n ≡ Some end → bit_at n (bit_of end) ≡ 1
  told_shows end e = told_by (n % 2 == 1) (n / 2 % 2 == 1) (n / 4 % 2 == 1) end (λ h. first_bit n ∙ eqb-true (n % 2) 1 h) (λ h. eqb-true (n / 2 % 2) 1 h) (λ h. eqb-true (n / 4 % 2) 1 h) e

  none_by : (a b c : Bool) (end : End) → (bit_at n 0 ≡ 1 → a ≡ true) → (bit_at n 1 ≡ 1 → b ≡ true) → (bit_at n 2 ≡ 1 → c ≡ true)
      → (if a then (Some Committed) else (if b then (Some Dead) else (if c then (Some Limbo) else None))) ≡ None → bit_at n (bit_of end) ≡ 1 → ⊥
  none_by true b c end p q r e h = cc
  none_by false true c end p q r e h = cc
  none_by false false true end p q r e h = cc
  none_by false false false Committed p q r e h = let t = p h in cc
  none_by false false false Dead p q r e h = let t = q h in cc
  none_by false false false Limbo p q r e h = let t = r h in cc

  pub none_shows : (end : End) → end_in n ≡ None → bit_at n (bit_of end) ≡ 1 → ⊥
  none_shows end e h = none_by (n % 2 == 1) (n / 2 % 2 == 1) (n / 4 % 2 == 1) end (λ t. eq-eqb (n % 2) 1 (sym (first_bit n) ∙ t)) (λ t. eq-eqb (n / 2 % 2) 1 t) (λ t. eq-eqb (n / 4 % 2) 1 t) e h
