-- Entries put into a list in order, and taken out of it.
use Rattle.std.specs.Prelude.{◌≡◌, ℕ, ◌⊎◌, List, [], ◌∷◌, ◌++◌, Option, Some, None, IfSome}
use Rattle.std.specs.Cmp.Lexicographic.{slice_cmp}
use Rattle.std.specs.Ordering.{nat_cmp, ordering_reverse, ordering_then}
use Rattle.std.specs.declared.cmp.Ordering.{Ordering}
use Rattle.std.specs.declared.cmp.Ordering.TheVariants.{Less, Equal, Greater}
use Rattle.std.proofs.Common.{refl, sym, ap, ◌∙◌, arith, inl, inr, subst}
use Rattle.std.proofs.lemmas.Cmp.{alike_right, ranked, tied_itself}
use Rattle.mg_node.specs.declared.entry.Entry.{Entry}
use Rattle.mg_node.specs.EntryOrderLaws.{cmp_from_same_place, entry_cmp_total}
use Rattle.mg_node.specs.NodePage.{AreAscending, AreBetween, BeginsAsInner, IsAtLeast, IsBelow, IsFirstEntry, IsLeast, entry_cmp}
use Rattle.mg_node.specs.NodeReading.{IsBeforeFirst}
use Rattle.mg_node_writing.specs.Splices.{EachBelow, HasEntry, ShortKeys}

pub below_trans : (a b c : Entry) → IsBelow a b → IsBelow b c → IsBelow a c
below_trans a b c ab bc = entry_cmp_total.trans a b c ab bc

pub never_below_itself : (a : Entry) → IsBelow a a → ⊥
never_below_itself a less = let tied = tied_itself entry_cmp_total a in absurd cc

-- of two entries one comes before the other, or they stand at one place
pub not_below : (a b : Entry) → (IsBelow a b → ⊥) → (entry_cmp a b ≡ Equal) ⊎ IsBelow b a
not_below a b not_less = by (entry_cmp a b) refl
  where
    by : (o : Ordering) → entry_cmp a b ≡ o → (entry_cmp a b ≡ Equal) ⊎ IsBelow b a
    by Less is = absurd (not_less is)
    by Equal is = inl is
    by Greater is = inr (entry_cmp_total.antisymm b a ∙ ap ordering_reverse is)

-- Ascending lists.

pub ascending_insert : (front back : List Entry) (e : Entry) → AreAscending (front ++ back)
    → EachBelow front e → IsBeforeFirst e back → AreAscending (front ++ e ∷ back)
ascending_insert [] [] e ascending below before = tt
ascending_insert [] (g ∷ gs) e ascending below before = (before, ascending)
ascending_insert (f ∷ []) [] e ascending below before = (below.0, tt)
ascending_insert (f ∷ []) (g ∷ gs) e ascending below before = (below.0, (before, ascending.1))
ascending_insert (f ∷ h ∷ hs) back e ascending below before =
    (ascending.0, ascending_insert (h ∷ hs) back e ascending.1 below.1 before)

pub ascending_remove : (front back : List Entry) (e : Entry) → AreAscending (front ++ e ∷ back)
    → AreAscending (front ++ back)
ascending_remove [] [] e ascending = tt
ascending_remove [] (g ∷ gs) e ascending = ascending.1
ascending_remove (f ∷ []) [] e ascending = tt
ascending_remove (f ∷ []) (g ∷ gs) e ascending =
    (below_trans f e g ascending.0 ascending.1.0, ascending.1.1)
ascending_remove (f ∷ h ∷ hs) back e ascending =
    (ascending.0, ascending_remove (h ∷ hs) back e ascending.1)

pub ascending_front : (front back : List Entry) → AreAscending (front ++ back) → AreAscending front
ascending_front [] back ascending = tt
ascending_front (f ∷ []) back ascending = tt
ascending_front (f ∷ h ∷ hs) back ascending =
    (ascending.0, ascending_front (h ∷ hs) back ascending.1)

pub ascending_back : (front back : List Entry) → AreAscending (front ++ back) → AreAscending back
ascending_back [] back ascending = ascending
ascending_back (f ∷ []) [] ascending = tt
ascending_back (f ∷ []) (g ∷ gs) ascending = ascending.1
ascending_back (f ∷ h ∷ hs) back ascending = ascending_back (h ∷ hs) back ascending.1

-- the first entries all come before the one that follows them
pub front_below : (front back : List Entry) (e : Entry) → AreAscending (front ++ e ∷ back)
    → EachBelow front e
front_below [] back e ascending = tt
front_below (f ∷ []) back e ascending = (ascending.0, tt)
front_below (f ∷ h ∷ hs) back e ascending =
    let rest = front_below (h ∷ hs) back e ascending.1 in
    (below_trans f h e ascending.0 rest.0, rest)

-- and it comes before those behind it
pub before_back : (e : Entry) (back : List Entry) → AreAscending (e ∷ back) → (f : Entry)
    → HasEntry back f → IsBelow e f
before_back e [] ascending f has = absurd has
before_back e (g ∷ gs) ascending f (inl is) =
    let P : Entry → Type 0 = λ x. IsBelow e x in subst P (sym is) ascending.0
before_back e (g ∷ gs) ascending f (inr has) =
    below_trans e g f ascending.0 (before_back g gs ascending.1 f has)

-- Lists between fences.

pub between_insert : (low high : Option Entry) (front back : List Entry) (e : Entry)
    → AreBetween low high (front ++ back) → IfSome low (λ fence. IsAtLeast e fence)
    → IfSome high (λ fence. IsBelow e fence) → AreBetween low high (front ++ e ∷ back)
between_insert low high [] back e between from below = (from, below, between)
between_insert low high (f ∷ fs) back e between from below =
    (between.0, between.1, between_insert low high fs back e between.2 from below)

pub between_remove : (low high : Option Entry) (front back : List Entry) (e : Entry)
    → AreBetween low high (front ++ e ∷ back) → AreBetween low high (front ++ back)
between_remove low high [] back e between = between.2
between_remove low high (f ∷ fs) back e between =
    (between.0, between.1, between_remove low high fs back e between.2)

-- Short keys.

pub short_append : (most : ℕ) (front back : List Entry) → ShortKeys most front
    → ShortKeys most back → ShortKeys most (front ++ back)
short_append most [] back short also = also
short_append most (f ∷ fs) back short also = (short.0, short_append most fs back short.1 also)

pub short_front : (most : ℕ) (front back : List Entry) → ShortKeys most (front ++ back)
    → ShortKeys most front
short_front most [] back short = tt
short_front most (f ∷ fs) back short = (short.0, short_front most fs back short.1)

pub short_back : (most : ℕ) (front back : List Entry) → ShortKeys most (front ++ back)
    → ShortKeys most back
short_back most [] back short = short
short_back most (f ∷ fs) back short = short_back most fs back short.1

-- What an inner page begins with.

-- nothing comes before the least entry
nothing_below_least : (e f : Entry) → IsLeast f → IsBelow e f → ⊥
nothing_below_least e f least less = no e.key e.rec.page.0 e.rec.slot
    (rw (least.key, least.page, least.slot) at less)
  where
    no : (k : List ℕ) (p s : ℕ)
        → ordering_then (slice_cmp nat_cmp k []) (ordering_then (nat_cmp p 0) (nat_cmp s 0)) ≡ Less → ⊥
    no (x ∷ xs) p s is = absurd cc
    no [] p s is = by (nat_cmp p 0) (nat_cmp s 0) refl refl is
      where
        by : (o q : Ordering) → nat_cmp p 0 ≡ o → nat_cmp s 0 ≡ q → ordering_then o q ≡ Less → ⊥
        by Less q a b both = let r = ranked p 0 Less (sym a) in absurd (omega arith)
        by Equal Less a b both = let r = ranked s 0 Less (sym b) in absurd (omega arith)
        by Equal Equal a b both = absurd cc
        by Equal Greater a b both = absurd cc
        by Greater q a b both = absurd cc

-- no entry that lies above the low fence comes before the first entry of an inner page
pub first_stays : (low : Option Entry) (e f : Entry) → IsFirstEntry low f
    → IfSome low (λ fence. IsAtLeast e fence) → IsBelow e f → ⊥
first_stays None e f first from less = nothing_below_least e f first less
first_stays (Some fence) e f first from less =
    let tied = cmp_from_same_place f fence first in
    from (sym (alike_right entry_cmp_total f fence e tied) ∙ less)

pub begins_insert : (low : Option Entry) (front back : List Entry) (e : Entry)
    → BeginsAsInner low (front ++ back) → IsBeforeFirst e back
    → IfSome low (λ fence. IsAtLeast e fence)
    → (front ++ back ≡ [] → IsFirstEntry low e)
    → BeginsAsInner low (front ++ e ∷ back)
begins_insert low [] [] e begins before from first = first refl
begins_insert low [] (g ∷ gs) e begins before from first =
    absurd (first_stays low e g begins from before)
begins_insert low (f ∷ fs) back e begins before from first = begins

-- Entries of a list.

pub has_append : (front back : List Entry) (e : Entry) → HasEntry (front ++ e ∷ back) e
has_append [] back e = inl refl
has_append (f ∷ fs) back e = inr (has_append fs back e)

-- an entry of a list stands in its front or behind it
pub has_parts : (front back : List Entry) (e : Entry) → HasEntry (front ++ back) e
    → HasEntry front e ⊎ HasEntry back e
has_parts [] back e has = inr has
has_parts (f ∷ fs) back e (inl is) = inl (inl is)
has_parts (f ∷ fs) back e (inr has) = by (has_parts fs back e has)
  where
    by : HasEntry fs e ⊎ HasEntry back e → HasEntry (f ∷ fs) e ⊎ HasEntry back e
    by (inl here) = inl (inr here)
    by (inr there) = inr there

pub has_below : (front : List Entry) (e f : Entry) → EachBelow front e → HasEntry front f → IsBelow f e
has_below [] e f below has = absurd has
has_below (g ∷ gs) e f below (inl is) =
    let P : Entry → Type 0 = λ x. IsBelow x e in subst P (sym is) below.0
has_below (g ∷ gs) e f below (inr has) = has_below gs e f below.1 has

-- an entry that does not stand at its seat is none of the list
pub absent : (front back : List Entry) (e : Entry) → AreAscending (front ++ back) → EachBelow front e
    → IsBeforeFirst e back → HasEntry (front ++ back) e → ⊥
absent front back e ascending below before has = by (has_parts front back e has)
  where
    behind : (l : List Entry) → AreAscending l → IsBeforeFirst e l → HasEntry l e → ⊥
    behind [] asc first is = absurd is
    behind (g ∷ gs) asc first (inl is) =
        let P : Entry → Type 0 = λ x. IsBelow e x in
        never_below_itself e (subst P (sym is) first)
    behind (g ∷ gs) asc first (inr there) =
        never_below_itself e (below_trans e g e first (before_back g gs asc e there))

    by : HasEntry front e ⊎ HasEntry back e → ⊥
    by (inl here) = never_below_itself e (has_below front e e below here)
    by (inr there) = behind back (ascending_back front back ascending) before there
