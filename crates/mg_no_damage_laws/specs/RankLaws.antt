-- Ranks of pages: of the pages that a batch changes some stand above others, and all others have the rank 0.
use Rattle.std.proofs.Common.{◌≡◌, ◌≢◌, ◌∙◌, ◌≤◌, ℕ, Bool, true, false, refl, arith}
use Rattle.std.specs.Prelude.{◌==◌, if◌then◌else◌}
use Rattle.std.proofs.lemmas.Bool.{eq-eqb, ne_eqb}

-- one page has a rank, and the others have those that they have
abbrev pub ranked : ℕ → ℕ → (ℕ → ℕ) → ℕ → ℕ
ranked page height under n = if n == page then height else under n

ranked_here : (page height : ℕ) (under : ℕ → ℕ) → ranked page height under page ≡ height
ranked_here page height under = let e : (page == page) ≡ true = eq-eqb page page refl in rw e refl

ranked_else : (page height : ℕ) (under : ℕ → ℕ) (n : ℕ) → n ≢ page → ranked page height under n ≡ under n
ranked_else page height under n ne = let e : (n == page) ≡ false = ne_eqb n page ne in rw e refl

ranked_most : (page height k : ℕ) (under : ℕ → ℕ) (n : ℕ) → height ≤ k → under n ≤ k → ranked page height under n ≤ k
ranked_most page height k under n here else_ = at (n == page)
  where
    at : (b : Bool) → (if b then height else under n) ≤ k
    at true = here
    at false = else_

ranked_least : (page height k : ℕ) (under : ℕ → ℕ) (n : ℕ) → k ≤ height → k ≤ under n → k ≤ ranked page height under n
ranked_least page height k under n here else_ = at (n == page)
  where
    at : (b : Bool) → k ≤ (if b then height else under n)
    at true = here
    at false = else_

-- The pages of a batch: f of a cell that is freed, s of a record's slot, q the table's last pointer page, p a new
-- one behind it, a of the cell that is put.
module _ (f s q p a : ℕ) where
  abbrev pub rank_of : ℕ → ℕ
  rank_of n = ranked f 5 (ranked s 4 (ranked q 3 (ranked p 2 (ranked a 1 (λ k. 0))))) n

  abbrev under_f : ℕ → ℕ
  under_f n = ranked s 4 (ranked q 3 (ranked p 2 (ranked a 1 (λ k. 0)))) n

  abbrev under_s : ℕ → ℕ
  under_s n = ranked q 3 (ranked p 2 (ranked a 1 (λ k. 0))) n

  abbrev under_q : ℕ → ℕ
  under_q n = ranked p 2 (ranked a 1 (λ k. 0)) n

  abbrev under_p : ℕ → ℕ
  under_p n = ranked a 1 (λ k. 0) n

  pub rank_f : rank_of f ≡ 5
  rank_f = ranked_here f 5 under_f

  pub rank_s : 4 ≤ rank_of s
  rank_s = ranked_least f 5 4 under_f s (omega arith)
      (let here = ranked_here s 4 under_s in omega (arith, here))

  pub rank_s_most : s ≢ f → rank_of s ≤ 4
  rank_s_most off_f =
      let e : rank_of s ≡ under_f s = ranked_else f 5 under_f s off_f in
      let here : under_f s ≡ 4 = ranked_here s 4 under_s in omega (arith, e, here)

  pub rank_low : (n : ℕ) → n ≢ f → n ≢ s → rank_of n ≤ 3
  rank_low n off_f off_s =
      let low : under_s n ≤ 3 = ranked_most q 3 3 under_q n (omega arith) (ranked_most p 2 3 under_p n (omega arith)
      (ranked_most a 1 3 (λ k. 0) n (omega arith) (omega arith))) in
      let e : rank_of n ≡ under_s n = ranked_else f 5 under_f n off_f ∙ ranked_else s 4 under_s n off_s in
      omega (arith, low, e)

  pub rank_q : q ≢ f → q ≢ s → rank_of q ≡ 3
  rank_q off_f off_s = ranked_else f 5 under_f q off_f ∙ (ranked_else s 4 under_s q off_s ∙ ranked_here q 3 under_q)

  pub rank_p : p ≢ f → p ≢ s → p ≢ q → rank_of p ≡ 2
  rank_p off_f off_s off_q = ranked_else f 5 under_f p off_f ∙ (ranked_else s 4 under_s p off_s
      ∙ (ranked_else q 3 under_q p off_q ∙ ranked_here p 2 under_p))

  -- the page of the cell has a rank, and where it is none of those above it is the least
  pub rank_some : 1 ≤ rank_of a
  rank_some = ranked_least f 5 1 under_f a (omega arith) (ranked_least s 4 1 under_s a (omega arith)
      (ranked_least q 3 1 under_q a (omega arith) (ranked_least p 2 1 under_p a (omega arith)
      (let here = ranked_here a 1 (λ k. 0) in omega (arith, here)))))

  pub rank_a : a ≢ f → a ≢ s → a ≢ q → a ≢ p → rank_of a ≡ 1
  rank_a off_f off_s off_q off_p = ranked_else f 5 under_f a off_f ∙ (ranked_else s 4 under_s a off_s
      ∙ (ranked_else q 3 under_q a off_q ∙ (ranked_else p 2 under_p a off_p ∙ ranked_here a 1 (λ k. 0))))

  pub rank_none : (n : ℕ) → n ≢ f → n ≢ s → n ≢ q → n ≢ p → n ≢ a → rank_of n ≡ 0
  rank_none n off_f off_s off_q off_p off_a = ranked_else f 5 under_f n off_f ∙ (ranked_else s 4 under_s n off_s
      ∙ (ranked_else q 3 under_q n off_q ∙ (ranked_else p 2 under_p n off_p
      ∙ ranked_else a 1 (λ k. 0) n off_a)))
