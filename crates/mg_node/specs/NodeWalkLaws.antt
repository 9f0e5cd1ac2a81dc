-- Laws of going along the entries of an index page.
use Rattle.std.specs.Prelude.{◌≡◌, ℕ, zero, suc, ◌+◌, ◌*◌, ◌<◌, ◌≤◌, Bool, true, false, List, [], ◌∷◌, ◌++◌, length, slice_get, Some, None}
use Rattle.std.proofs.Common.{refl, sym, ap, ◌∙◌, append_assoc, append-nil, arith}
use Rattle.mg_node.specs.declared.entry.Entry.{Entry}
use Rattle.mg_node.specs.NodePage.{count_in, end_of, entries_of, entry_at, first_at, first_entries, is_inner, key_len, place_of}
use Rattle.mg_node.specs.NodeWalk.{entries_from, least_len, place_from}

-- an entry more at the end of a walk
pub place_from-suc : (w : Bool) (page : List ℕ) (at n : ℕ)
    → place_from w page at (suc n) ≡ end_of w page (place_from w page at n)
place_from-suc w page at zero = refl
place_from-suc w page at (suc n) = place_from-suc w page (end_of w page at) n

-- two walks one behind the other are one
pub place_from-add : (w : Bool) (page : List ℕ) (at m n : ℕ)
    → place_from w page (place_from w page at m) n ≡ place_from w page at (m + n)
place_from-add w page at zero n = let same : 0 + n ≡ n = omega arith in rw same refl
place_from-add w page at (suc m) n =
    let same : suc m + n ≡ suc (m + n) = omega arith in
    rw same (place_from-add w page (end_of w page at) m n)

pub entries_from-add : (w : Bool) (page : List ℕ) (at m n : ℕ)
    → entries_from w page at m ++ entries_from w page (place_from w page at m) n
    ≡ entries_from w page at (m + n)
entries_from-add w page at zero n = let same : 0 + n ≡ n = omega arith in rw same refl
entries_from-add w page at (suc m) n =
    let same : suc m + n ≡ suc (m + n) = omega arith in
    rw same (ap (λ (es : List Entry). entry_at w page at ∷ es)
    (entries_from-add w page (end_of w page at) m n))

pub length-entries_from : (w : Bool) (page : List ℕ) (at n : ℕ)
    → length (entries_from w page at n) ≡ n
length-entries_from w page at zero = refl
length-entries_from w page at (suc n) = ap suc (length-entries_from w page (end_of w page at) n)

-- the place of an entry is the walk's to it
pub place_of-walk : (page : List ℕ) (n : ℕ)
    → place_of page n ≡ place_from (is_inner page) page (first_at page) n
place_of-walk page zero = refl
place_of-walk page (suc n) = ap (end_of (is_inner page) page) (place_of-walk page n) ∙
    sym (place_from-suc (is_inner page) page (first_at page) n)

first_then : (page : List ℕ) (m n : ℕ)
    → first_entries page m ++ entries_from (is_inner page) page (place_of page m) n
    ≡ first_entries page (m + n)
first_then page m zero = let same : m + 0 ≡ m = omega arith in rw same (append-nil (first_entries page m))
first_then page m (suc n) =
    let same : m + suc n ≡ suc m + n = omega arith in
    rw same (sym (append_assoc (first_entries page m) (entry_at (is_inner page) page (place_of page m) ∷ [])
    (entries_from (is_inner page) page (place_of page (suc m)) n)) ∙ first_then page (suc m) n)

-- the entries of a page are the walk's
pub entries_of-walk : (page : List ℕ)
    → entries_of page ≡ entries_from (is_inner page) page (first_at page) (count_in page)
unfolding entries_of
entries_of-walk page =
    let same : 0 + count_in page ≡ count_in page = omega arith in
    sym (ap (first_entries page) same) ∙ sym (first_then page 0 (count_in page))

pub length-entries_of : (page : List ℕ) → length (entries_of page) ≡ count_in page
length-entries_of page = ap length (entries_of-walk page) ∙
    length-entries_from (is_inner page) page (first_at page) (count_in page)

-- each entry takes at least the bytes of one with an empty key
pub end_of-least : (w : Bool) (page : List ℕ) (at : ℕ)
    → end_of w page at ≡ at + least_len w + key_len page at
end_of-least true page at = omega arith
end_of-least false page at = omega arith

pub place_from-least : (w : Bool) (page : List ℕ) (at n : ℕ)
    → at + n * least_len w ≤ place_from w page at n
place_from-least true page at zero = omega arith
place_from-least true page at (suc n) =
    let behind = place_from-least true page (end_of true page at) n in omega arith
place_from-least false page at zero = omega arith
place_from-least false page at (suc n) =
    let behind = place_from-least false page (end_of false page at) n in omega arith

pub place_from-ascends : (w : Bool) (page : List ℕ) (at m n : ℕ) → m ≤ n
    → place_from w page at m ≤ place_from w page at n
place_from-ascends w page at zero n le =
    let up = place_from-least w page at n in omega arith
place_from-ascends w page at (suc m) zero le = omega arith
place_from-ascends w page at (suc m) (suc n) le =
    place_from-ascends w page (end_of w page at) m n (omega arith)

-- an entry by its place among the entries
pub entry-get : (w : Bool) (page : List ℕ) (at n i : ℕ) → i < n
    → slice_get (entries_from w page at n) i ≡ Some (entry_at w page (place_from w page at i))
entry-get w page at zero i below = absurd (omega arith)
entry-get w page at (suc n) zero below = refl
entry-get w page at (suc n) (suc i) below =
    entry-get w page (end_of w page at) n i (omega arith)

pub entry-get_past : (w : Bool) (page : List ℕ) (at n i : ℕ) → n ≤ i
    → slice_get (entries_from w page at n) i ≡ None
entry-get_past w page at zero i past = refl
entry-get_past w page at (suc n) zero past = absurd (omega arith)
entry-get_past w page at (suc n) (suc i) past =
    entry-get_past w page (end_of w page at) n i (omega arith)
