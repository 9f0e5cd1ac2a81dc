-- How high an index tree is: each level has at least twice as many pages as the one above, so no tree of a file has more
-- than 17 levels.
use Rattle.std.proofs.Common.{◌≡◌, ◌≢◌, ◌⊎◌, inl, inr, refl, ◌∙◌, ap, sym, subst, arith, ◌<◌, ◌≤◌, ◌+◌, ◌*◌, ◌==◌, ℕ, zero, suc, Bool, true, false, List, [], ◌∷◌, ◌++◌, length, Option, None, Some}
use Rattle.std.specs.Prelude.{IfSome, not, if◌then◌else◌}
use Rattle.std.proofs.lemmas.Bool.{cases_lt, eq-eqb, eqb-true, lt-ltb}
use Rattle.mg_base.specs.declared.geometry.TheConstants.{GREATEST_LIMIT}
use Rattle.mg_node.specs.declared.entry.Entry.{Entry}
use Rattle.mg_node.specs.EntryOrderLaws.{entry_cmp_total}
use Rattle.mg_node.specs.NodePage.{AreAscending, AreBetween, BeginsAsInner, IsBelow, IsFirstEntry, entries_of, entry_at, has_high, high_at, high_of, level_in, low_of, right_in}
use Rattle.mg_node.specs.NodeWalkLaws.{length-entries_of}
use Rattle.mg_image.specs.Form.{Pages}
use Rattle.mg_image.specs.Indexes.{AreChildren, AreNodes, EachPage, HasChildren, IsNode, IsTree, LevelChain, Levels, above, as_fence, first_child, first_level, lowest}
use Rattle.mg_image.specs.Tables.{Has, IsOnce, LinkChain, ended, goes}
use Rattle.mg_tree_overlay_laws.specs.DescentLaws.{not_below_itself}
use Rattle.mg_tree_overlay_laws.specs.TreeOnceLaws.{tree_once}
use Rattle.mg_tree_overlay_laws.specs.TreePages.{TreesAreLow, all_of}

-- ---- lists

pub length_both : (ms ns : List ℕ) → length (ms ++ ns) ≡ length ms + length ns
length_both [] ns = omega arith
length_both (m ∷ ms) ns = let more = length_both ms ns in omega (arith, more)

pub each_both : (P : ℕ → Type 0) (ms ns : List ℕ) → EachPage P ms → EachPage P ns → EachPage P (ms ++ ns)
each_both P [] ns first second = second
each_both P (m ∷ ms) ns first second = (first.0, each_both P ms ns first.1 second)

pub each_of : (P Q : ℕ → Type 0) → ((m : ℕ) → P m → Q m) → (ms : List ℕ) → EachPage P ms → EachPage Q ms
each_of P Q by [] each = tt
each_of P Q by (m ∷ ms) each = (by m each.0, each_of P Q by ms each.1)

-- a list without a number, once
abbrev less : ℕ → List ℕ → List ℕ
less x [] = []
less x (m ∷ ms) = if m == x then ms else m ∷ less x ms

differ : (m x : ℕ) → m ≢ x → (m == x) ≡ false
differ m x apart = at (m == x) refl
  where
    at : (b : Bool) → (m == x) ≡ b → (m == x) ≡ false
    at false is = is
    at true is = absurd (apart (eqb-true m x is))

length_less : (x : ℕ) (ms : List ℕ) → Has ms x → length ms ≡ suc (length (less x ms))
length_less x [] has = absurd has
length_less x (m ∷ ms) has = at (m == x) refl has (length_less x ms)
  where
    at : (b : Bool) → (m == x) ≡ b → (x ≡ m) ⊎ Has ms x → (Has ms x → length ms ≡ suc (length (less x ms)))
        → length (m ∷ ms) ≡ suc (length (less x (m ∷ ms)))
    at true is has_ more = rw is omega arith
    at false is (inl same) more = let both_ : true ≡ false = sym (eq-eqb m x (sym same)) ∙ is in absurd cc
    at false is (inr later) more = let rest = more later in rw is omega (arith, rest)

has_less : (x y : ℕ) (ms : List ℕ) → x ≢ y → Has ms y → Has (less x ms) y
has_less x y [] apart has = has
has_less x y (m ∷ ms) apart has = at (m == x) refl has (has_less x y ms apart)
  where
    at : (b : Bool) → (m == x) ≡ b → (y ≡ m) ⊎ Has ms y → (Has ms y → Has (less x ms) y) → Has (less x (m ∷ ms)) y
    at true is (inl same) more = absurd (apart (sym (eqb-true m x is) ∙ sym same))
    at true is (inr later) more = rw is later
    at false is (inl same) more = rw is (inl same)
    at false is (inr later) more = rw is (inr (more later))

each_less : (x : ℕ) (xs ys : List ℕ) → (Has xs x → ⊥) → EachPage (Has ys) xs → EachPage (Has (less x ys)) xs
each_less x [] ys apart each = tt
each_less x (m ∷ xs) ys apart each = (
  has_less x m ys (λ same. apart (inl same)) each.0,
  each_less x xs ys (λ has. apart (inr has)) each.1,
)

-- numbers that are none twice and are all of a list are no more than those of the list
pub once_few : (xs ys : List ℕ) → IsOnce xs → EachPage (Has ys) xs → length xs ≤ length ys
once_few [] ys once each = omega arith
once_few (x ∷ xs) ys once each =
    let rest = once_few xs (less x ys) once.1 (each_less x xs ys once.0 each.1) in
    let long = length_less x ys each.0 in omega (arith, rest, long)

abbrev below : ℕ → List ℕ
below zero = []
below (suc n) = n ∷ below n

length_below : (n : ℕ) → length (below n) ≡ n
length_below zero = omega arith
length_below (suc n) = let more = length_below n in omega (arith, more)

has_below : (n m : ℕ) → m < n → Has (below n) m
has_below zero m within = absurd omega (arith, within)
has_below (suc n) m within = at (m == n) refl (has_below n m)
  where
    at : (b : Bool) → (m == n) ≡ b → (m < n → Has (below n) m) → Has (below (suc n)) m
    at true is more = inl (eqb-true m n is)
    at false is more = inr (more (let other = other is in omega (arith, other, within)))
      where
        other : (m == n) ≡ false → m ≢ n
        other is same = let both_ : true ≡ false = sym (eq-eqb m n same) ∙ is in absurd cc

-- ---- the children of a level

abbrev children : List Entry → List ℕ
children [] = []
children (e ∷ es) = e.child.0 ∷ children es

abbrev children_on : Pages → List ℕ → List ℕ
children_on pages [] = []
children_on pages (n ∷ ns) = children (entries_of (pages n)) ++ children_on pages ns

length_children : (es : List Entry) → length (children es) ≡ length es
length_children [] = refl
length_children (e ∷ es) = ap suc (length_children es)

children_are : (pages : Pages) (level : List ℕ) (es : List Entry) → AreChildren pages level es
    → EachPage (Has level) (children es)
children_are pages level [] are = tt
children_are pages level (e ∷ es) are = (are.0, children_are pages level es are.2)

children_have : (pages : Pages) (level : List ℕ) (low : Option Entry) (es : List Entry) → HasChildren pages level low es
    → EachPage (Has level) (children es)
children_have pages level low [] have = tt
children_have pages level low (e ∷ es) have = (have.0, children_are pages level es have.2)

-- a low fence comes before another
abbrev LowBelow : Option Entry → Option Entry → Type 0
LowBelow a None = ⊥
LowBelow None (Some f) = Unit {0}
LowBelow (Some e) (Some f) = IsBelow e f

abbrev LowFrom : Option Entry → Option Entry → Type 0
LowFrom a b = (a ≡ b) ⊎ LowBelow a b

low_trans : (a b c : Option Entry) → LowBelow a b → LowBelow b c → LowBelow a c
low_trans a b None one two = absurd two
low_trans a None (Some h) one two = absurd one
low_trans None (Some f) (Some h) one two = tt
low_trans (Some e) (Some f) (Some h) one two = entry_cmp_total.trans e f h one two

low_from : (a b c : Option Entry) → LowBelow a b → LowFrom b c → LowBelow a c
low_from a b c one (inl same) = subst (LowBelow a) same one
low_from a b c one (inr two) = low_trans a b c one two

not_low_itself : (a : Option Entry) → LowBelow a a → ⊥
not_low_itself None less = less
not_low_itself (Some e) less = not_below_itself e less

abbrev IsOver : Pages → Option Entry → ℕ → Type 0
IsOver pages low c = LowBelow low (low_of (pages c))

abbrev Climb : Pages → List ℕ → Type 0
Climb pages [] = Unit {0}
Climb pages (c ∷ cs) = EachPage (IsOver pages (low_of (pages c))) cs × Climb pages cs

none_over : (pages : Pages) (c : ℕ) (cs : List ℕ) → EachPage (IsOver pages (low_of (pages c))) cs → Has cs c → ⊥
none_over pages c [] each has = has
none_over pages c (d ∷ cs) each (inl same) =
    not_low_itself (low_of (pages c)) (subst (IsOver pages (low_of (pages c))) (sym same) each.0)
none_over pages c (d ∷ cs) each (inr later) = none_over pages c cs each.1 later

climb_once : (pages : Pages) (cs : List ℕ) → Climb pages cs → IsOnce cs
climb_once pages [] climb = tt
climb_once pages (c ∷ cs) climb = (none_over pages c cs climb.0, climb_once pages cs climb.1)

climb_both : (pages : Pages) (cs ds : List ℕ) → Climb pages cs → Climb pages ds
    → EachPage (λ c. EachPage (IsOver pages (low_of (pages c))) ds) cs → Climb pages (cs ++ ds)
climb_both pages [] ds one two over = two
climb_both pages (c ∷ cs) ds one two over =
    (each_both (IsOver pages (low_of (pages c))) cs ds one.0 over.0, climb_both pages cs ds one.1 two over.1)

-- the children of entries that ascend
climb_entries : (pages : Pages) (level : List ℕ) (low : Option Entry) (es : List Entry) → AreChildren pages level es
    → AreAscending es → (first : (f : Entry) (fs : List Entry) → es ≡ f ∷ fs → LowBelow low (Some (as_fence f)))
    → EachPage (IsOver pages low) (children es) × Climb pages (children es)
climb_entries pages level low [] are ascending first = (tt, tt)
climb_entries pages level low (e ∷ []) are ascending first =
    ((subst (LowBelow low) (sym are.1) (first e [] refl), tt), (tt, tt))
climb_entries pages level low (e ∷ f ∷ es) are ascending first =
    let its : LowBelow low (low_of (pages e.child.0)) = subst (LowBelow low) (sym are.1) (first e (f ∷ es) refl) in
    let more = climb_entries pages level (low_of (pages e.child.0)) (f ∷ es) are.2 ascending.1
    (λ g gs is. subst (λ (a : Option Entry). LowBelow a (Some (as_fence g))) (sym are.1)
    (subst (λ (x : Entry). IsBelow (as_fence e) (as_fence x)) (head_same f g es gs is) ascending.0)) in (
      (
        its,
        each_of (IsOver pages (low_of (pages e.child.0))) (IsOver pages low)
            (λ c over. low_trans low (low_of (pages e.child.0)) (low_of (pages c)) its over) (children (f ∷ es)) more.0,
      ),
      (more.0, more.1),
    )
  where
    head_same : (f g : Entry) (es gs : List Entry) → f ∷ es ≡ g ∷ gs → f ≡ g
    head_same f g es gs is = cc

-- the children of a page: their low fences ascend from its own on, up to its high one
record PageClimb (pages : Pages) (n : ℕ) : Type 0 where
  pub climb : Climb pages (children (entries_of (pages n)))
  pub from : EachPage (λ c. LowFrom (low_of (pages n)) (low_of (pages c))) (children (entries_of (pages n)))
  pub to : IfSome (high_of (pages n)) (λ high. EachPage (λ c. LowBelow (low_of (pages c)) (Some high))
      (children (entries_of (pages n))))
  pub apart : IfSome (high_of (pages n)) (λ high. LowBelow (low_of (pages n)) (Some high))

first_below : (low : Option Entry) (e f : Entry) → IsFirstEntry low e → IsBelow e f → LowBelow low (Some (as_fence f))
first_below None e f first less = tt
first_below (Some fence) e f first less = by fence first.key first.rec
  where
    by : (fence : Entry) → e.key ≡ fence.key → e.rec ≡ fence.rec → IsBelow fence f
    by fence keys recs = rw (sym keys, sym recs) less

high_over : (pages : Pages) (level : List ℕ) (low : Option Entry) (high : Entry) (es : List Entry)
    → AreChildren pages level es → AreBetween low (Some high) es
    → EachPage (λ c. LowBelow (low_of (pages c)) (Some high)) (children es)
high_over pages level low high [] are between = tt
high_over pages level low high (e ∷ es) are between = (
  subst (λ (a : Option Entry). LowBelow a (Some high)) (sym are.1) between.1,
  high_over pages level low high es are.2 between.2,
)

apart_in : (pages : Pages) (n : ℕ) (low high : Option Entry) → low_of (pages n) ≡ low → high_of (pages n) ≡ high
    → IfSome low (λ a. IfSome high (λ b. IsBelow a b)) → IfSome (high_of (pages n)) (λ high. LowBelow (low_of (pages n)) (Some high))
apart_in pages n low None in_low in_high apart = rw in_high tt
apart_in pages n None (Some h) in_low in_high apart = rw in_high (rw in_low tt)
apart_in pages n (Some a) (Some h) in_low in_high apart = rw in_high (rw in_low apart)

page_climbs : (pages : Pages) (level : List ℕ) (n : ℕ) (low high : Option Entry) (es : List Entry)
    → low_of (pages n) ≡ low → high_of (pages n) ≡ high → entries_of (pages n) ≡ es
    → HasChildren pages level low es → AreAscending es → AreBetween low high es → BeginsAsInner low es
    → IfSome low (λ a. IfSome high (λ b. IsBelow a b)) → PageClimb pages n
page_climbs pages level n low high [] in_low in_high in_es have ascending between begins apart = record {
  apart = apart_in pages n low high in_low in_high apart;
  climb = rw in_es tt;
  from = rw in_es tt;
  to = rw in_es (none high in_high);
}
  where
    none : (high : Option Entry) → high_of (pages n) ≡ high → IfSome (high_of (pages n)) (λ h. Unit {0})
    none None is = rw is tt
    none (Some h) is = rw is tt
page_climbs pages level n low high (e ∷ es) in_low in_high in_es have ascending between begins apart = record {
  apart = apart_in pages n low high in_low in_high apart;
  climb = subst (λ (x : List Entry). Climb pages (children x)) (sym in_es) (over.0, over.1);
  from = subst (λ (x : List Entry). EachPage (λ c. LowFrom (low_of (pages n)) (low_of (pages c))) (children x)) (sym in_es) (
    inl (in_low ∙ sym have.1),
    each_of (IsOver pages (low_of (pages e.child.0)))
        (λ c. LowFrom (low_of (pages n)) (low_of (pages c)))
        (λ c it. inr (subst (λ (a : Option Entry). LowBelow a (low_of (pages c))) (have.1 ∙ sym in_low) it)) (children es) over.0,
  );
  to = subst (λ (x : List Entry). IfSome (high_of (pages n)) (λ h. EachPage (λ c. LowBelow (low_of (pages c)) (Some h))
      (children x))) (sym in_es) (subst (λ (x : Option Entry). IfSome x (λ h. EachPage (λ c. LowBelow (low_of (pages c)) (Some h))
      (children (e ∷ es)))) (sym in_high) (up high between apart));
}
  where
    over : EachPage (IsOver pages (low_of (pages e.child.0))) (children es) × Climb pages (children es)
    over = climb_entries pages level (low_of (pages e.child.0)) es have.2 (tail es ascending)
        (λ f fs is. subst (λ (a : Option Entry). LowBelow a (Some (as_fence f))) (sym have.1)
        (first_below low e f begins (head es f fs is ascending)))
      where
        tail : (es : List Entry) → AreAscending (e ∷ es) → AreAscending es
        tail [] ascending = tt
        tail (f ∷ es) ascending = ascending.1

        head : (es : List Entry) (f : Entry) (fs : List Entry) → es ≡ f ∷ fs → AreAscending (e ∷ es) → IsBelow e f
        head [] f fs is ascending = absurd cc
        head (g ∷ es) f fs is ascending = let same : g ≡ f = cc in subst (IsBelow e) same ascending.0

    up : (high : Option Entry) → AreBetween low high (e ∷ es) → IfSome low (λ a. IfSome high (λ b. IsBelow a b))
        → IfSome high (λ h. EachPage (λ c. LowBelow (low_of (pages c)) (Some h)) (children (e ∷ es)))
    up None between apart = tt
    up (Some h) between apart = (
      subst (λ (a : Option Entry). LowBelow a (Some h)) (sym have.1) (low_high low apart),
      high_over pages level low h es have.2 between.2,
    )
      where
        low_high : (low : Option Entry) → IfSome low (λ a. IsBelow a h) → LowBelow low (Some h)
        low_high None apart = tt
        low_high (Some a) apart = apart

-- the children of a level: their low fences ascend from that of its first page on
record LevelClimb (pages : Pages) (first : ℕ) (ns : List ℕ) : Type 0 where
  pub climb : Climb pages (children_on pages ns)
  pub from : EachPage (λ c. LowFrom (low_of (pages first)) (low_of (pages c))) (children_on pages ns)

page_of : (size : ℕ) (pages : Pages) (owner level : ℕ) (under : List ℕ) (n : ℕ)
    → IsNode size pages owner (suc level) under n → PageClimb pages n
page_of size pages owner level under n node = page_climbs pages under n (low_of (pages n)) (high_of (pages n))
    (entries_of (pages n)) refl refl refl (node.children omega arith) node.lawful.ascending node.lawful.between
    (node.lawful.first (lt-ltb 0 (level_in (pages n)) (let its = node.on_level in omega (arith, its)))) node.apart

some_there : (A : Type 0) (a : A) (b : Bool) → b ≡ true → (if b then Some a else None) ≡ None → ⊥
some_there A a true is none = absurd cc
some_there A a false is none = absurd cc

high_there : (page : List ℕ) → has_high page ≡ true → high_of page ≡ None → ⊥
high_there page has_ none = some_there Entry (entry_at false page (high_at page)) (has_high page) has_ none

begins : (next : ℕ → ℕ) (first m : ℕ) (ms : List ℕ) → LinkChain next first (m ∷ ms) → first ≢ 0
begins next first m ms (goes k ks some more) = some

level_climbs : (size : ℕ) (pages : Pages) (owner level : ℕ) (under : List ℕ) (first : ℕ) (ns : List ℕ)
    → LevelChain pages first ns → EachPage (IsNode size pages owner (suc level) under) ns → LevelClimb pages first ns
level_climbs size pages owner level under first ns ended nodes = record { climb = tt; from = tt }
level_climbs size pages owner level under first ns (goes k ks some more) nodes =
    let rest = level_climbs size pages owner level under (right_in (pages k)) ks more nodes.1 in
    joined ks (page_of size pages owner level under k nodes.0) (λ right. nodes.0.fence right) nodes.0.high
    (λ m ms is. begins (λ i. right_in (pages i)) (right_in (pages k)) m ms
    (subst (LevelChain pages (right_in (pages k))) is more)) rest
  where
    joined : (ks : List ℕ) → PageClimb pages k → (right_in (pages k) ≢ 0 → low_of (pages (right_in (pages k))) ≡ high_of (pages k))
        → has_high (pages k) ≡ not (right_in (pages k) == 0) → ((m : ℕ) (ms : List ℕ) → ks ≡ m ∷ ms → right_in (pages k) ≢ 0)
        → LevelClimb pages (right_in (pages k)) ks → LevelClimb pages k (k ∷ ks)
    joined [] page fence high right rest = record {
      climb = climb_both pages (children (entries_of (pages k))) [] page.climb tt
          (each_of (λ c. LowFrom (low_of (pages k)) (low_of (pages c))) (λ c. Unit {0}) (λ c from. tt)
          (children (entries_of (pages k))) page.from);
      from = each_both (λ c. LowFrom (low_of (pages k)) (low_of (pages c))) (children (entries_of (pages k))) [] page.from tt;
    }
    joined (m ∷ ms) page fence high right rest = record {
      climb = climb_both pages (children (entries_of (pages k))) (children_on pages (m ∷ ms)) page.climb rest.climb over;
      from = each_both (λ c. LowFrom (low_of (pages k)) (low_of (pages c))) (children (entries_of (pages k)))
          (children_on pages (m ∷ ms)) page.from (each_of (λ d. LowFrom (low_of (pages (right_in (pages k)))) (low_of (pages d)))
          (λ d. LowFrom (low_of (pages k)) (low_of (pages d)))
          (λ d from. inr (low_from (low_of (pages k)) (low_of (pages (right_in (pages k)))) (low_of (pages d))
          (low_over (high_of (pages k)) refl has_high_ page.apart) from)) (children_on pages (m ∷ ms)) rest.from);
    }
      where
        goes_on : right_in (pages k) ≢ 0
        goes_on = right m ms refl

        has_high_ : has_high (pages k) ≡ true
        has_high_ = high ∙ by (right_in (pages k) == 0) refl
          where
            by : (b : Bool) → (right_in (pages k) == 0) ≡ b → not (right_in (pages k) == 0) ≡ true
            by true is = absurd (goes_on (eqb-true (right_in (pages k)) 0 is))
            by false is = rw is refl

        bare : high_of (pages k) ≡ None → has_high (pages k) ≡ true → ⊥
        bare is has_ = high_there (pages k) has_ is

        over_ : (h : Option Entry) → high_of (pages k) ≡ h → has_high (pages k) ≡ true
            → IfSome h (λ high. EachPage (λ c. LowBelow (low_of (pages c)) (Some high)) (children (entries_of (pages k))))
            → EachPage (λ c. LowBelow (low_of (pages c)) (low_of (pages (right_in (pages k))))) (children (entries_of (pages k)))
        over_ None is has_ to = absurd (bare is has_)
        over_ (Some h) is has_ to = subst (λ (a : Option Entry). EachPage (λ c. LowBelow (low_of (pages c)) a)
            (children (entries_of (pages k)))) (sym (fence goes_on ∙ is)) to

        low_over : (h : Option Entry) → high_of (pages k) ≡ h → has_high (pages k) ≡ true
            → IfSome h (λ high. LowBelow (low_of (pages k)) (Some high))
            → LowBelow (low_of (pages k)) (low_of (pages (right_in (pages k))))
        low_over None is has_ to = absurd (bare is has_)
        low_over (Some h) is has_ to = subst (LowBelow (low_of (pages k))) (sym (fence goes_on ∙ is)) to

        under_right : EachPage (λ c. LowBelow (low_of (pages c)) (low_of (pages (right_in (pages k)))))
            (children (entries_of (pages k)))
        under_right = over_ (high_of (pages k)) refl has_high_ page.to

        over : EachPage (λ c. EachPage (IsOver pages (low_of (pages c))) (children_on pages (m ∷ ms)))
            (children (entries_of (pages k)))
        over = each_of (λ c. LowBelow (low_of (pages c)) (low_of (pages (right_in (pages k)))))
            (λ c. EachPage (IsOver pages (low_of (pages c))) (children_on pages (m ∷ ms)))
            (λ c less_. each_of (λ d. LowFrom (low_of (pages (right_in (pages k)))) (low_of (pages d)))
            (IsOver pages (low_of (pages c)))
            (λ d from. low_from (low_of (pages c)) (low_of (pages (right_in (pages k)))) (low_of (pages d)) less_ from)
            (children_on pages (m ∷ ms)) rest.from) (children (entries_of (pages k))) under_right

-- ---- how many pages, and how high

-- so many, doubled so often
abbrev pub doubled : ℕ → ℕ → ℕ
doubled c zero = c
doubled c (suc n) = doubled (2 * c) n

-- the level under one has at least twice as many pages
level_doubles : (size : ℕ) (pages : Pages) (owner level : ℕ) (under : List ℕ) (first : ℕ) (ns : List ℕ)
    → LevelChain pages first ns → EachPage (IsNode size pages owner (suc level) under) ns → 2 * length ns ≤ length under
level_doubles size pages owner level under first ns chain nodes =
    let once = climb_once pages (children_on pages ns) (level_climbs size pages owner level under first ns chain nodes).climb in
    let few = once_few (children_on pages ns) under once (each_child ns nodes) in
    let many = long ns nodes in omega (arith, few, many)
  where
    each_child : (ns : List ℕ) → EachPage (IsNode size pages owner (suc level) under) ns
        → EachPage (Has under) (children_on pages ns)
    each_child [] nodes = tt
    each_child (n ∷ ns) nodes = each_both (Has under) (children (entries_of (pages n))) (children_on pages ns)
        (children_have pages under (low_of (pages n)) (entries_of (pages n)) (nodes.0.children omega arith))
        (each_child ns nodes.1)

    long : (ns : List ℕ) → EachPage (IsNode size pages owner (suc level) under) ns
        → 2 * length ns ≤ length (children_on pages ns)
    long [] nodes = omega arith
    long (n ∷ ns) nodes =
        let two = nodes.0.two omega arith in
        let count = length-entries_of (pages n) in
        let its = length_children (entries_of (pages n)) in
        let more = long ns nodes.1 in
        let both_ = length_both (children (entries_of (pages n))) (children_on pages ns) in
        omega (arith, two, count, its, more, both_)

many_pages : (size : ℕ) (pages : Pages) (owner n : ℕ) (levels : List (List ℕ)) (c : ℕ) → Levels pages n levels
    → AreNodes size pages owner levels → c ≤ length (first_level levels)
    → doubled c (length levels) ≤ length (all_of levels) + c
many_pages size pages owner n levels c (lowest k level chain) nodes least =
    let all_ = length_both level [] in omega (arith, least, all_)
many_pages size pages owner n levels c (above k level next under chain more) nodes least =
    let twice = level_doubles size pages owner (length under) next k level chain nodes.0 in
    let rest = many_pages size pages owner (first_child (entries_of (pages k))) (next ∷ under) (2 * c) more nodes.1
    omega (arith, twice, least) in
    let all_ = length_both level (all_of (next ∷ under)) in
    omega (arith, rest, all_, least)

doubled_grows : (c d n : ℕ) → d ≤ n → doubled c d ≤ doubled c n
doubled_grows c zero zero within = omega arith
doubled_grows c zero (suc n) within = let more = doubled_grows (2 * c) zero n omega arith in omega (arith, more)
doubled_grows c (suc d) zero within = absurd omega (arith, within)
doubled_grows c (suc d) (suc n) within = doubled_grows (2 * c) d n omega (arith, within)

few_below : (N : ℕ) (ms : List ℕ) → IsOnce ms → EachPage (λ n. n < N) ms → length ms ≤ N
few_below N ms once within =
    let all_ = once_few ms (below N) once (each_of (λ n. n < N) (Has (below N)) (λ n less_. has_below N n less_) ms within) in
    let long = length_below N in omega (arith, all_, long)

first_some : (pages : Pages) (root : ℕ) (level : List ℕ) → root ≢ 0 → LevelChain pages root level → 1 ≤ length level
first_some pages root [] some ended = absurd (some omega arith)
first_some pages root (m ∷ ms) some chain = omega arith

first_on : (size : ℕ) (pages : Pages) (owner root : ℕ) (level : List ℕ) (under : List (List ℕ)) → root ≢ 0
    → LevelChain pages root level → EachPage (IsNode size pages owner (length under) (first_level under)) level
    → level_in (pages root) ≡ length under
first_on size pages owner root level under some ended nodes = absurd (some refl)
first_on size pages owner root level under some (goes n ns other more) nodes = nodes.0.on_level

pub root_level : (pages : Pages) (root : ℕ) (levels : List (List ℕ)) → root ≢ 0 → Levels pages root levels
    → 1 ≤ length (first_level levels)
root_level pages root levels some (lowest k level chain) = first_some pages k level some chain
root_level pages root levels some (above k level next under chain more) = first_some pages k level some chain

-- the pages of a tree lie below the greatest limit
each_below : (size : ℕ) (pages : Pages) (owner : ℕ) (levels : List (List ℕ)) → AreNodes size pages owner levels
    → EachPage (λ n. n < GREATEST_LIMIT) (all_of levels)
each_below size pages owner [] nodes = tt
each_below size pages owner (level ∷ under) nodes = each_both (λ n. n < GREATEST_LIMIT) level (all_of under)
    (each_of (IsNode size pages owner (length under) (first_level under)) (λ n. n < GREATEST_LIMIT)
    (λ n node. node.wanted.below) level nodes.0) (each_below size pages owner under nodes.1)

-- so there are few levels
few_levels : (size : ℕ) (pages : Pages) (owner root : ℕ) (levels : List (List ℕ))
    → IsTree size pages owner root levels → length levels ≤ 17
few_levels size pages owner root levels tree =
    let few = few_below GREATEST_LIMIT (all_of levels) (tree_once size pages owner root levels tree)
    (each_below size pages owner levels tree.nodes) in
    let many = many_pages size pages owner root levels 1 tree.levels_from tree.nodes
    (root_level pages root levels tree.rooted tree.levels_from) in
    at few many (cases_lt 17 (length levels))
  where
    at : length (all_of levels) ≤ GREATEST_LIMIT → doubled 1 (length levels) ≤ length (all_of levels) + 1
        → (17 < length levels) ⊎ (length levels ≤ 17) → length levels ≤ 17
    at few many (inl high) =
        let big = doubled_grows 1 18 (length levels) omega (arith, high) in absurd omega (arith, few, many, big)
    at few many (inr low) = low

-- the root stands on the first level
root_on : (size : ℕ) (pages : Pages) (owner root : ℕ) (levels : List (List ℕ)) → root ≢ 0 → Levels pages root levels
    → AreNodes size pages owner levels → suc (level_in (pages root)) ≡ length levels
root_on size pages owner root levels some (lowest k level chain) nodes =
    ap suc (first_on size pages owner k level [] some chain nodes.0)
root_on size pages owner root levels some (above k level next under chain more) nodes =
    ap suc (first_on size pages owner k level (next ∷ under) some chain nodes.0)

pub trees_are_low : TreesAreLow
trees_are_low size pages owner root levels tree =
    let few = few_levels size pages owner root levels tree in
    let on = root_on size pages owner root levels tree.rooted tree.levels_from tree.nodes in
    (few, omega (arith, few, on))
