-- Which pages are read while a list is loaded, call by call.
use Rattle.std.proofs.Common.{◌≡◌, ◌+◌, ◌==◌, ◌||◌, ℕ, Bool, suc, true, false, List, ◌∷◌, length, refl, sym, subst, arith}
use Rattle.std.proofs.lemmas.Bool.{eq-eqb}
use Rattle.mg_base.specs.Disk.{Meaning}
use Rattle.mg_pool.specs.Reading.{Fetches, ReadsPages}
use Rattle.mg_pool.specs.declared.pool.Pool.{Pool}
use Rattle.mg_txlist.specs.declared.list.TipPage.{TipPage}
use Rattle.mg_txlist.specs.Reading.{ReadsList, is_among_tips, is_head_or_tip}
use Rattle.mg_txlist.specs.ReadingLaws.{all_more, head_first, held_more, none_yet, of_more, one_more}

or_right : (a b : Bool) → b ≡ true → (a || b) ≡ true
or_right true b is = refl
or_right false b is = is

-- one page more was read, in front of the others
pub read_front : {D L : Type 0} (m : Meaning D) (start mid new : Pool D L) (at : ℕ) (page : TipPage)
    (items more : List TipPage) → ReadsPages m start mid (length items) (is_among_tips items)
    → Fetches m mid new at → page.page ≡ at → more ≡ page ∷ items
    → ReadsPages m start new (length more) (is_among_tips more)
read_front m start mid new at page items more run one number is =
    subst (λ (xs : List TipPage). ReadsPages m start new (length xs) (is_among_tips xs)) (sym is)
    (subst (λ (n : ℕ). ReadsPages m start new n (is_among_tips (page ∷ items))) count
    (one_more m start mid new at (length items) (is_among_tips (page ∷ items)) wide one here))
  where
    count : length items + 1 ≡ suc (length items)
    count = omega arith

    wide : ReadsPages m start mid (length items) (is_among_tips (page ∷ items))
    wide = record {
      asks = of_more m start.disk mid.disk (length items) (is_among_tips items)
          (is_among_tips (page ∷ items))
          (λ n among. or_right (page.page == n) (is_among_tips items n) among) run.asks;
      stay = run.stay;
    }

    here : is_among_tips (page ∷ items) at ≡ true
    here = rw (eq-eqb page.page at number) refl

-- page 0 was read, and then the pages of a list
pub read_list : {D L : Type 0} (m : Meaning D) (start mid new : Pool D L) (items : List TipPage)
    → Fetches m start mid 0 → ReadsPages m mid new (length items) (is_among_tips items)
    → ReadsList m start new items
read_list m start mid new items one run = record {
  each_once = head_first m start mid new (length items) (is_among_tips items) (is_head_or_tip items) one
      refl run within;
  head_held = λ held. subst (λ (most : ℕ). ReadsPages m start new most (is_head_or_tip items)) none
      (all_more m start mid new 0 (length items) (is_among_tips items) (is_head_or_tip items)
      (held_more m start start mid 0 0 (is_head_or_tip items) (none_yet m start (is_head_or_tip items)) one
      held) run within);
}
  where
    none : 0 + length items ≡ length items
    none = omega arith

    within : (n : ℕ) → is_among_tips items n ≡ true → is_head_or_tip items n ≡ true
    within n among = or_right (n == 0) (is_among_tips items n) among
