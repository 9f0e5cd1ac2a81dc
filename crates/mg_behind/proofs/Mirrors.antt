-- A page is put into a mirror.
use Rattle.std.proofs.Common.{◌≡◌, ℕ, ◌+◌, ◌-◌, ◌<◌, ◌≤◌, List, [], ◌∷◌, ◌++◌, length, take, drop, replicate, max, true, false, All, Option, Some, None, Result, Ok, Err, is_err, OnOk, refl, sym, ap, ◌∙◌, subst, arith, append_assoc}
use Rattle.std.proofs.Math.ListN.{set}
use Rattle.std.proofs.lemmas.List.{set-append_left, length-set, length-append, length-replicate, length-take, replicate-append-replicate, take_more, append-nil}
use Rattle.std.proofs.lemmas.List.Elements.{All-set, All-replicate}
use Rattle.mg_base.specs.Image.{Image, blank, page_at, written, length-written}
use Rattle.mg_base.specs.Geometry.{is_page_size}
use Rattle.mg_base.specs.Disk.{Stays}
use Rattle.mg_behind.specs.Kept.{IsMirror}

written_rest : (size : ℕ) (image : Image) (n total : ℕ) (bytes : List ℕ) → n < total → length image ≤ total
    → set (image ++ replicate (total - length image) (blank size)) n bytes ≡ written size image n bytes ++ replicate (total - max (length image) (n + 1)) (blank size)
unfolding written
written_rest size image n total bytes below fits =
    let front : List (List ℕ) = image ++ replicate (n + 1 - length image) (blank size) in
    let rest : ℕ = total - max (length image) (n + 1) in
    let long : n < length front = grind (arith, length-append, length-replicate) in
    let sum : (n + 1 - length image) + rest ≡ total - length image = omega arith in
    let joined : image ++ replicate (total - length image) (blank size) ≡ front ++ replicate rest (blank size) =
    ap (λ k. image ++ replicate k (blank size)) (sym sum) ∙ ap (λ xs. image ++ xs) (sym (replicate-append-replicate (n + 1 - length image) rest (blank size))) ∙ sym (append_assoc image _ _) in
    ap (λ xs. set xs n bytes) joined ∙ set-append_left front _ n bytes long

take_all_front : {A : Type 0} (xs ys : List A) → take (length xs) (xs ++ ys) ≡ xs
take_all_front [] ys = refl
take_all_front (x ∷ xs) ys = ap (λ zs. x ∷ zs) (take_all_front xs ys)

pub blank_kept : (size : ℕ) (pages : List (List ℕ)) (room : ℕ) → room ≡ 16384 → is_page_size size ≡ true → pages ≡ replicate room (blank size) → IsMirror size pages 0
blank_kept size pages room is lawful e =
    let n : length pages ≡ room = ap length e ∙ length-replicate room (blank size) in record {
      lawful = lawful;
      room = n ∙ is;
      fits = omega arith;
      blanks = e ∙ ap (λ k. replicate k (blank size)) (sym (let z : length pages - 0 ≡ length pages = omega arith in z ∙ n));
      whole = subst (All (λ page. length page ≡ size)) (sym e) (All-replicate (λ page. length page ≡ size) room (blank size) (length-replicate size 0));
    }

-- the front of the pages, once a page was put
module _ (size : ℕ) (pages : List (List ℕ)) (used n : ℕ) (bytes : List ℕ) (kept : IsMirror size pages used) (below : n < 16384) where
  long : length (take used pages) ≡ used
  long = let r = kept.room in let f = kept.fits in grind (arith, length-take)

  whole_put : set pages n bytes ≡ written size (take used pages) n bytes ++ replicate (length pages - max used (n + 1)) (blank size)
  whole_put =
      ap (λ xs. set xs n bytes) (kept.blanks ∙ ap (λ k. take used pages ++ replicate (length pages - k) (blank size)) (sym long))
      ∙ written_rest size (take used pages) n (length pages) bytes (let r = kept.room in omega arith) (let r = kept.room in let f = kept.fits in let l = long in omega arith)
      ∙ ap (λ k. written size (take used pages) n bytes ++ replicate (length pages - max k (n + 1)) (blank size)) long

  pub front_put : take (max used (n + 1)) (set pages n bytes) ≡ written size (take used pages) n bytes
  front_put =
      let l : length (written size (take used pages) n bytes) ≡ max used (n + 1) = length-written size (take used pages) n bytes ∙ ap (λ k. max k (n + 1)) long in
      ap (λ xs. take (max used (n + 1)) xs) whole_put
      ∙ ap (λ k. take k (written size (take used pages) n bytes ++ replicate (length pages - max used (n + 1)) (blank size))) (sym l)
      ∙ take_all_front (written size (take used pages) n bytes) _

  pub kept_put : length bytes ≡ size → IsMirror size (set pages n bytes) (max used (n + 1))
  kept_put whole = record {
    lawful = kept.lawful;
    room = length-set pages n bytes ∙ kept.room;
    fits = let f = kept.fits in omega arith;
    blanks = whole_put ∙ ap (λ xs. xs ++ replicate (length pages - max used (n + 1)) (blank size)) (sym front_put) ∙ ap (λ k. take (max used (n + 1)) (set pages n bytes) ++ replicate (k - max used (n + 1)) (blank size)) (sym (length-set pages n bytes));
    whole = All-set (λ page. length page ≡ size) pages n bytes whole kept.whole;
  }

set_end : {A : Type 0} (xs : List A) (a b : A) → set (xs ++ a ∷ []) (length xs) b ≡ xs ++ b ∷ []
set_end [] a b = refl
set_end (x ∷ xs) a b = ap (λ ys. x ∷ ys) (set_end xs a b)

written_end : (size : ℕ) (xs : Image) (bytes : List ℕ) → written size xs (length xs) bytes ≡ xs ++ bytes ∷ []
unfolding written
written_end size xs bytes = let n : length xs + 1 - length xs ≡ 1 = omega arith in ap (λ k. set (xs ++ replicate k (blank size)) (length xs) bytes) n ∙ set_end xs (blank size) bytes

-- one page more was read
pub read_more : (size : ℕ) (image xs : Image) (page : ℕ) (bytes : List ℕ) → xs ≡ take page image → page < length image → bytes ≡ page_at size image page → written size xs page bytes ≡ take (page + 1) image
read_more size image xs page bytes front below is =
    let n : length xs ≡ page = ap length front ∙ grind (arith, length-take) in
    ap (λ k. written size xs k bytes) (sym n) ∙ (written_end size xs bytes ∙ (ap (λ ys. ys ++ bytes ∷ []) front ∙ (ap (λ b. take page image ++ b ∷ []) is ∙ sym (take_more image page (blank size) below))))

pub stays_some : (a b : Option ℕ) (n : ℕ) → Stays a b → a ≡ Some n → b ≡ Some n
stays_some None b n s e = absurd (cc (e))
stays_some (Some k) b n s e = s ∙ e

pub ok_gives : {T E : Type 0} (P : Type 0) (r : Result T E) → is_err r ≡ false → OnOk r P → P
ok_gives P (Ok x) e p = p
ok_gives P (Err x) e p = absurd (cc (e))

pub take_whole : (image : Image) (n : ℕ) → length image ≡ n → take n image ≡ image
take_whole image n e = ap (λ k. take k image) (sym e) ∙ own image
  where
    own : (xs : Image) → take (length xs) xs ≡ xs
    own xs = ap (λ ys. take (length xs) ys) (sym (append-nil xs)) ∙ take_all_front xs []

pub slice_read : (len : ℕ) (new items : List ℕ) → length new ≡ len → take len (new ++ drop (length new) items) ≡ new
slice_read len new items e = ap (λ k. take k (new ++ drop (length new) items)) (sym e) ∙ take_all_front new (drop (length new) items)
