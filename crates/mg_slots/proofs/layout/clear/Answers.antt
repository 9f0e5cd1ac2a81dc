use Rattle.std.proofs.Common.{◌≡◌, ℕ, ◌-◌, ◌<◌, ◌≤◌, ◌⊎◌, inl, inr, List, length, take, drop, replicate, ◌++◌, get_or, arith, ◌∙◌}
use borrow.Rule.Slice.PartMut.{put_mid, post_of}
use Rattle.std.proofs.lemmas.Bool.{cases_lt}
use Rattle.std.proofs.lemmas.List.{get_or-append_right, get_or_append_left, get_or-replicate, get_or-take, get_or_past, length-append, length-drop, length-replicate, length-take, length-take-le}
use Rattle.mg_base.specs.declared.fields.TheConstants.{COMMON}
use Rattle.mg_slots.specs.Layout.{Clears}
use Rattle.mg_slots.proofs.layout.clear.Goals as goal

cleared : (xs : List ℕ) (n : ℕ) → COMMON ≤ length xs → n ≡ length xs - COMMON
    → Clears xs (put_mid COMMON (length xs - COMMON) xs (replicate n 0))
cleared xs n long is_n = record {
  len = simp (length-append, length-replicate, length-take, length-drop) (omega arith);
  common = λ k lt. get_or_append_left (take COMMON xs) (replicate n 0 ++ post_of COMMON
      (length xs - COMMON) xs) 0 k (omega (arith, front)) ∙ get_or-take COMMON xs k 0 lt;
  blank = λ k le. get_or-append_right (take COMMON xs) (replicate n 0 ++ post_of COMMON
      (length xs - COMMON) xs) COMMON k 0 front le ∙ zero_at (k - COMMON) (cases_lt (k - COMMON) n);
}
  where
    front : length (take COMMON xs) ≡ COMMON
    front = length-take-le COMMON xs long

    zero_at : (k : ℕ) → (k < n) ⊎ (n ≤ k) → get_or (replicate n 0 ++ post_of COMMON
        (length xs - COMMON) xs) k 0 ≡ 0
    zero_at k (inl lt) = get_or_append_left (replicate n 0) (post_of COMMON
        (length xs - COMMON) xs) 0 k (omega (arith, length-replicate {A = ℕ} n 0))
        ∙ get_or-replicate n k 0 0 lt
    zero_at k (inr past) = get_or_past (replicate n 0 ++ post_of COMMON (length xs - COMMON) xs) k 0
        (simp (length-append, length-replicate, length-drop) (omega arith))

pub returns : goal.returns
returns c =
    let filled : c.fill.new.self ≡ replicate (length (take (length c.args.b.now - COMMON)
    (drop COMMON c.args.b.now))) 0 = c.fill.ensures.after (λ y e. e) in
    rw filled (cleared c.args.b.now (length (take (length c.args.b.now - COMMON)
    (drop COMMON c.args.b.now))) c.requires
    (simp (length-take, length-drop) (omega arith)))
