-- Lists of demands that grow in a loop.
use Rattle.std.proofs.Common.{◌≡◌, ◌≢◌, ◌-◌, ◌/◌, ◌==◌, ℕ, suc, Bool, true, List, [], ◌++◌, ap, subst, sym, ◌∙◌, append-nil, append_assoc, if◌then◌else◌, Result, Ok, Err, OnErr, OnOk}
use Rattle.std.proofs.lemmas.Bool.{eq-eqb, ne_eqb}
use Rattle.mg_careful.specs.declared.links.Demand.{Demand}
use Rattle.mg_header.specs.HeaderPage.{header_in}
use Rattle.mg_node.specs.NodePage.{end_of, is_inner, place_of}
use Rattle.mg_space.specs.Demands.{Begins, header_demands, linked}
use Rattle.mg_space.specs.declared.links.TheConstants.{POINTER, TRANSACTIONS}
use Rattle.mg_tip.specs.TipPage.{places}

pub grown : (old mid new list more : List Demand) → mid ≡ old ++ list → new ≡ mid ++ more
    → new ≡ old ++ (list ++ more)
grown old mid new list more first second =
    second ∙ (ap (λ (x : List Demand). x ++ more) first ∙ append_assoc old list more)

pub begins : {T E : Type 0} (old mid new list : List Demand) (result : Result T E)
    → mid ≡ old ++ list → Begins mid new → OnErr result (Begins old new)
begins old mid new list (Ok x) first more = tt
begins old mid new list (Err e) first more = record {
  more = list ++ more.more;
  is = grown old mid new list more.more first more.is;
}

-- the demands of a call that came after one that answered
pub grown_up : {T E : Type 0} (old mid new list more : List Demand) (result : Result T E)
    → mid ≡ old ++ list → OnOk result (new ≡ mid ++ more)
    → OnOk result (new ≡ old ++ (list ++ more))
grown_up old mid new list more (Ok x) first second = grown old mid new list more first second
grown_up old mid new list more (Err e) first second = tt

-- a call that was refused after one that answered
pub begins_up : {T E : Type 0} (old mid new list : List Demand) (result : Result T E)
    → mid ≡ old ++ list → OnErr result (Begins mid new) → OnErr result (Begins old new)
begins_up old mid new list (Ok x) first more = tt
begins_up old mid new list (Err e) first more = record {
  more = list ++ more.more;
  is = grown old mid new list more.more first more.is;
}

-- a refusal that is handed on
pub begins_here : {T E : Type 0} (old new : List Demand) (result : Result T E) → Begins old new
    → OnErr result (Begins old new)
begins_here old new (Ok x) more = tt
begins_here old new (Err e) more = more

-- a link by the numbers that the program has
linked_same : (size t u what a e b : ℕ) → t ≡ u → a ≡ e → linked size t what a b ≡ linked size u what e b
linked_same size t u what a e b target number =
    ap (λ (n : ℕ). linked size n what a b) target
    ∙ ap (λ (n : ℕ). linked size u what n b) number

-- the two links of a header
pub header_linked : {T E : Type 0} (size : ℕ) (b : List ℕ) (old mid new : List Demand)
    (result : Result T E) (tip sequence catalog key : ℕ) → tip ≡ (header_in b).last_tip.0
    → sequence ≡ ((header_in b).next.0 - 1) / places size → catalog ≡ (header_in b).catalog.0
    → key ≡ catalog
    → mid ≡ old ++ linked size tip TRANSACTIONS sequence 0
    → OnOk result (new ≡ mid ++ linked size catalog POINTER key 0)
    → OnOk result (new ≡ old ++ header_demands size b)
header_linked size b old mid new result tip sequence catalog key tip_is sequence_is catalog_is key_is first second =
    grown_up old mid new
    (linked size (header_in b).last_tip.0 TRANSACTIONS (((header_in b).next.0 - 1) / places size) 0)
    (linked size (header_in b).catalog.0 POINTER (header_in b).catalog.0 0) result
    (first ∙ ap (λ (x : List Demand). old ++ x)
    (linked_same size tip (header_in b).last_tip.0 TRANSACTIONS sequence
    (((header_in b).next.0 - 1) / places size) 0 tip_is sequence_is))
    (subst (λ (x : List Demand). OnOk result (new ≡ mid ++ x))
    (linked_same size catalog (header_in b).catalog.0 POINTER key (header_in b).catalog.0 0
    catalog_is (key_is ∙ catalog_is)) second)

-- a list that goes on where a number is not 0 ends where it is
pub ends_here : (old new list more : List Demand) (n m : ℕ) → n ≡ m → n ≡ 0 → new ≡ old ++ list
    → new ≡ old ++ (list ++ (if m == 0 then [] else more))
ends_here old new list more n m is zero_ first = first
    ∙ ap (λ (x : List Demand). old ++ x) (sym (append-nil list)
    ∙ ap (λ (end : Bool). list ++ (if end then [] else more)) (sym (eq-eqb m 0 (sym is ∙ zero_))))

-- and goes on where it is not
goes_on : {T E : Type 0} (old mid new list more : List Demand) (k : ℕ) (result : Result T E)
    → k ≢ 0 → mid ≡ old ++ list → OnOk result (new ≡ mid ++ more)
    → OnOk result (new ≡ old ++ (list ++ (if k == 0 then [] else more)))
goes_on old mid new list more k result some first second =
    subst (λ (end : Bool). OnOk result (new ≡ old ++ (list ++ (if end then [] else more))))
    (sym (ne_eqb k 0 some)) (grown_up old mid new list more result first second)

-- by the numbers that the program has
pub goes_on_linked : {T E : Type 0} (size : ℕ) (old mid new list : List Demand)
    (k n m what a e b d : ℕ) (result : Result T E) → k ≢ 0 → n ≡ m → a ≡ e → b ≡ d → mid ≡ old ++ list
    → OnOk result (new ≡ mid ++ linked size n what a b)
    → OnOk result (new ≡ old ++ (list ++ (if k == 0 then [] else linked size m what e d)))
goes_on_linked size old mid new list k n m what a e b d result some is first_is second_is first second =
    goes_on old mid new list (linked size m what e d) k result some first
    (subst (λ (x : List Demand). OnOk result (new ≡ mid ++ x))
    (linked_same size n m what a e b is first_is
    ∙ ap (λ (k : ℕ). linked size m what e k) second_is) second)

-- the next entry of an inner index page stands where one ends
pub next_place : (page : List ℕ) (at n end : ℕ) → is_inner page ≡ true → at ≡ place_of page n
    → end ≡ end_of true page at → end ≡ place_of page (suc n)
next_place page at n end inner here end_is = end_is ∙ (ap (end_of true page) here
    ∙ ap (λ (with_child : Bool). end_of with_child page (place_of page n)) (sym inner))
