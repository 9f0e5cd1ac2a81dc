-- What a page is that meets a demand, case by case; and lists of demands.
use Rattle.std.specs.Prelude.{◌≡◌, ◌⊎◌, ◌/◌, ◌%◌, ◌==◌, ◌&&◌, ◌++◌, ℕ, Bool, true, false, nat_lt, List, [], ◌∷◌, length, Ok, Err, Result, is_ok, if◌then◌else◌}
use Rattle.std.proofs.Common.{inl, inr, refl, sym, subst, ap, ◌∙◌}
use Rattle.std.proofs.lemmas.Bool.{and_from, and_parts, both_ways, eq-eqb, eqb-true, or_cases, or_left, or_right}
use Rattle.mg_base.specs.CheckLaws.{passes_from_verdict, verdict_from_passes}
use Rattle.mg_base.specs.Checks.{Check, PassesAll, common_checks, verdict}
use Rattle.mg_base.specs.Geometry.{is_page_size}
use Rattle.mg_base.specs.declared.damage.Damaged.{Damaged}
use Rattle.mg_base.specs.declared.numbers.PageNo.{PageNo}
use Rattle.mg_careful.specs.declared.links.Demand.{Demand}
use Rattle.mg_careful.specs.CarefulWrite.{Has, IsIn, is_same, listed}
use Rattle.mg_header.specs.HeaderPage.{header_in}
use Rattle.mg_image.specs.Records.{slot_cell}
use Rattle.mg_node.specs.NodePage.{level_in, node_checks}
use Rattle.mg_pip.specs.PipPage.{bits, pip_checks, used_in}
use Rattle.mg_pointer.specs.PointerPage.{pointer_checks}
use Rattle.mg_slots.specs.DataPage.{cell_of}
use Rattle.mg_slots.specs.declared.page.TheConstants.{DATA_KIND}
use Rattle.mg_space.specs.Demands.{demand, demands_by, demands_of, is_header, is_version_of, meets_by, meets_of}
use Rattle.mg_space.specs.declared.links.TheConstants.{BIT, DATA, HEADER, NEXT, NODE, POINTER, TRANSACTIONS, TREE, VERSION}
use Rattle.mg_tip.specs.TipPage.{tip_checks}
use Rattle.mg_demand_laws.specs.Wanting.{want_of}

-- a page of a size meets a demand: by what is wanted, it is that
pub data IsMet (size : ℕ) (page : List ℕ) : Demand → Type 0 where
  of_header : {d : Demand} → d ≡ want_of 0 HEADER d.a d.b → is_header size page ≡ true → IsMet size page d
  of_next : {d : Demand} → d ≡ want_of 0 NEXT d.a d.b → is_header size page ≡ true
      → nat_lt d.a (header_in page).next.0 ≡ true → IsMet size page d
  of_tip : {d : Demand} → d ≡ want_of d.target TRANSACTIONS d.a d.b
      → PassesAll (tip_checks page d.target d.a) → IsMet size page d
  of_pointer : {d : Demand} → d ≡ want_of d.target POINTER d.a d.b
      → PassesAll (pointer_checks page d.target d.a d.b) → IsMet size page d
  of_data : {d : Demand} → d ≡ want_of d.target DATA d.a d.b
      → PassesAll (common_checks page d.target DATA_KIND d.a d.b) → IsMet size page d
  of_version : {d : Demand} → d ≡ want_of d.target VERSION d.a d.b
      → is_version_of d.b (slot_cell (cell_of page d.a)) ≡ true → IsMet size page d
  of_tree : {d : Demand} → d ≡ want_of d.target TREE d.a d.b
      → PassesAll (node_checks page d.target d.a) → IsMet size page d
  of_node : {d : Demand} → d ≡ want_of d.target NODE d.a d.b
      → PassesAll (node_checks page d.target d.a) → level_in page ≡ d.b → IsMet size page d
  of_bit : {d : Demand} → d ≡ want_of d.target BIT d.a d.b
      → PassesAll (pip_checks page d.target (d.a / bits size)) → used_in page (d.a % bits size) ≡ true
      → IsMet size page d

-- ---- lists of demands

pub has_either : (ds es : List Demand) (e : Demand) → Has (ds ++ es) e → Has ds e ⊎ Has es e
has_either [] es e h = inr h
has_either (d ∷ ds) es e (inl same) = inl (inl same)
has_either (d ∷ ds) es e (inr h) = elim (has_either ds es e h) [
  | inl x ↦ inl (inr x)
  | inr y ↦ inr y
]

pub has_front : (ds es : List Demand) (e : Demand) → Has ds e → Has (ds ++ es) e
has_front [] es e h = absurd h
has_front (d ∷ ds) es e (inl same) = inl same
has_front (d ∷ ds) es e (inr h) = inr (has_front ds es e h)

pub has_back : (ds es : List Demand) (e : Demand) → Has es e → Has (ds ++ es) e
has_back [] es e h = h
has_back (d ∷ ds) es e h = inr (has_back ds es e h)

where_true : (c : Bool) (x e : Demand) → Has (if c then x ∷ [] else []) e → e ≡ x
where_true true x e (inl same) = same
where_true true x e (inr h) = absurd h
where_true false x e h = absurd h

pub is_demand : (target what a b : ℕ) (e : Demand) → Has (demand target what a b) e
    → e ≡ want_of target what a b
unfolding demand
is_demand target what a b e h =
    where_true (nat_lt target 4294967296 && nat_lt a 4294967296 && nat_lt b 4294967296)
    (want_of target what a b) e h

same_itself : (d : Demand) → is_same d d ≡ true
same_itself d = and_from _ _ (eq-eqb d.target d.target refl)
    (and_from _ _ (eq-eqb d.what d.what refl)
    (and_from _ _ (eq-eqb d.a d.a refl) (eq-eqb d.b d.b refl)))

same_demand : (d e : Demand) → is_same d e ≡ true → d ≡ e
same_demand d e same =
    let one = and_parts (d.target == e.target) _ same in
    let two = and_parts (d.what == e.what) _ one.1 in
    let three = and_parts (d.a == e.a) _ two.1 in
    ap (λ (x : ℕ). want_of x d.what d.a d.b) (eqb-true d.target e.target one.0)
    ∙ (ap (λ (x : ℕ). want_of e.target x d.a d.b) (eqb-true d.what e.what two.0)
    ∙ (ap (λ (x : ℕ). want_of e.target e.what x d.b) (eqb-true d.a e.a three.0)
    ∙ ap (λ (x : ℕ). want_of e.target e.what e.a x) (eqb-true d.b e.b three.1)))

listed_so : (list : List Demand) (d : Demand) → Has list d → (w : List ℕ) → listed list d w ≡ true
listed_so [] d h w = absurd h
listed_so (x ∷ xs) d (inl e) w = or_left _ _ (ap (is_same d) (sym e) ∙ same_itself d)
listed_so (x ∷ xs) d (inr h) w = or_right (is_same d x) _ (listed_so xs d h w)

listed_is : (list : List Demand) (d : Demand) (w : List ℕ) → listed list d w ≡ true → Has list d
listed_is [] d w h = absurd cc
listed_is (x ∷ xs) d w h = elim (or_cases (is_same d x) _ h) [
  | inl same ↦ inl (same_demand d x same)
  | inr more ↦ inr (listed_is xs d w more)
]

-- what is in a list is in the set of its members, and nothing else
pub in_listed : (list : List Demand) (d : Demand) → Has list d → IsIn (listed list) d
in_listed list d h = ([], listed_so list d h [])

pub of_listed : (list : List Demand) (d : Demand) → IsIn (listed list) d → Has list d
of_listed list d h = listed_is list d h.0 h.1

-- ---- met

pub ok_passes : (page : PageNo) (checks : List Check) → is_ok (verdict page checks) ≡ true
    → PassesAll checks
ok_passes page checks ok = at (verdict page checks) refl
  where
    at : (v : Result (Unit {0}) Damaged) → verdict page checks ≡ v → PassesAll checks
    at (Ok x) is = passes_from_verdict page checks is
    at (Err damage) is = absurd (both_ways _ (ap is_ok is) ok)

pub passes_ok : (page : PageNo) (checks : List Check) → PassesAll checks
    → is_ok (verdict page checks) ≡ true
passes_ok page checks all = ap is_ok (verdict_from_passes page checks all)

pub opened : (size : ℕ) (page : List ℕ) (want : Demand) → is_page_size size ≡ true
    → length page ≡ size → demands_of page want ≡ demands_by size page want
unfolding demands_of
opened size page want lawful len = subst (λ (k : ℕ). (if is_page_size k then demands_by k page want else [])
    ≡ demands_by size page want) (sym len) (rw lawful refl)

pub met_so : (size : ℕ) (page : List ℕ) (want : Demand) → is_page_size size ≡ true
    → length page ≡ size → meets_by size page want ≡ true → meets_of page want ≡ true
unfolding meets_of
met_so size page want lawful len is =
    subst (λ (k : ℕ). (is_page_size k && meets_by k page want) ≡ true) (sym len) (and_from _ _ lawful is)

met_by : (size : ℕ) (page : List ℕ) (want : Demand) → length page ≡ size
    → meets_of page want ≡ true → meets_by size page want ≡ true
unfolding meets_of
met_by size page want len is = subst (λ (k : ℕ). meets_by k page want ≡ true) len
    (and_parts (is_page_size (length page)) _ is).1

-- a page that is what is wanted meets the demand
pub met_is : (size : ℕ) (page : List ℕ) (d : Demand) → is_page_size size ≡ true
    → length page ≡ size → IsMet size page d → meets_of page d ≡ true
met_is size page d lawful len met = so met
  where
    as_want : (want : Demand) → d ≡ want → meets_by size page want ≡ true → meets_of page d ≡ true
    as_want want is ok = subst (λ (x : Demand). meets_of page x ≡ true) (sym is)
        (met_so size page want lawful len ok)

    so : IsMet size page d → meets_of page d ≡ true
    so (of_header is head) = as_want (want_of 0 HEADER d.a d.b) is head
    so (of_next is head below) = as_want (want_of 0 NEXT d.a d.b) is (and_from _ _ head below)
    so (of_tip is passes) = as_want (want_of d.target TRANSACTIONS d.a d.b) is (passes_ok _ _ passes)
    so (of_pointer is passes) = as_want (want_of d.target POINTER d.a d.b) is (passes_ok _ _ passes)
    so (of_data is passes) = as_want (want_of d.target DATA d.a d.b) is (passes_ok _ _ passes)
    so (of_version is there) = as_want (want_of d.target VERSION d.a d.b) is there
    so (of_tree is passes) = as_want (want_of d.target TREE d.a d.b) is (passes_ok _ _ passes)
    so (of_node is passes level) = as_want (want_of d.target NODE d.a d.b) is
        (and_from _ _ (passes_ok _ _ passes) (eq-eqb (level_in page) d.b level))
    so (of_bit is passes used) = as_want (want_of d.target BIT d.a d.b) is
        (and_from _ _ (passes_ok _ _ passes) used)

-- and a page that meets a demand is what is wanted
pub is_met : (size : ℕ) (page : List ℕ) (d : Demand) → length page ≡ size
    → meets_of page d ≡ true → IsMet size page d
is_met size page d len met = one (d.what == HEADER) refl
  where
    all : meets_by size page d ≡ true
    all = met_by size page d len met

    page_is : PageNo
    page_is = record { 0 = d.target }

    kind : (k : ℕ) → (d.what == k) ≡ true → d ≡ want_of d.target k d.a d.b
    kind k yes_ = ap (λ (x : ℕ). want_of d.target x d.a d.b) (eqb-true d.what k yes_)

    nine : (b : Bool) → (d.what == BIT) ≡ b → (d.what == HEADER) ≡ false → (d.what == NEXT) ≡ false
        → (d.what == TRANSACTIONS) ≡ false → (d.what == POINTER) ≡ false → (d.what == DATA) ≡ false
        → (d.what == VERSION) ≡ false → (d.what == TREE) ≡ false → (d.what == NODE) ≡ false
        → IsMet size page d
    nine true is n1 n2 n3 n4 n5 n6 n7 n8 =
        let on = rw (n1, n2, n3, n4, n5, n6, n7, n8, is) at all in
        let parts = and_parts _ _ on in
        of_bit (kind BIT is) (ok_passes page_is _ parts.0) parts.1
    nine false is n1 n2 n3 n4 n5 n6 n7 n8 =
        absurd (let on : false ≡ true = rw (n1, n2, n3, n4, n5, n6, n7, n8, is) at all in cc)

    eight : (b : Bool) → (d.what == NODE) ≡ b → (d.what == HEADER) ≡ false → (d.what == NEXT) ≡ false
        → (d.what == TRANSACTIONS) ≡ false → (d.what == POINTER) ≡ false → (d.what == DATA) ≡ false
        → (d.what == VERSION) ≡ false → (d.what == TREE) ≡ false → IsMet size page d
    eight true is n1 n2 n3 n4 n5 n6 n7 =
        let on = rw (n1, n2, n3, n4, n5, n6, n7, is) at all in
        let parts = and_parts _ _ on in
        of_node (kind NODE is) (ok_passes page_is _ parts.0) (eqb-true (level_in page) d.b parts.1)
    eight false is n1 n2 n3 n4 n5 n6 n7 = nine (d.what == BIT) refl n1 n2 n3 n4 n5 n6 n7 is

    seven : (b : Bool) → (d.what == TREE) ≡ b → (d.what == HEADER) ≡ false → (d.what == NEXT) ≡ false
        → (d.what == TRANSACTIONS) ≡ false → (d.what == POINTER) ≡ false → (d.what == DATA) ≡ false
        → (d.what == VERSION) ≡ false → IsMet size page d
    seven true is n1 n2 n3 n4 n5 n6 =
        let on = rw (n1, n2, n3, n4, n5, n6, is) at all in
        of_tree (kind TREE is) (ok_passes page_is _ on)
    seven false is n1 n2 n3 n4 n5 n6 = eight (d.what == NODE) refl n1 n2 n3 n4 n5 n6 is

    six : (b : Bool) → (d.what == VERSION) ≡ b → (d.what == HEADER) ≡ false → (d.what == NEXT) ≡ false
        → (d.what == TRANSACTIONS) ≡ false → (d.what == POINTER) ≡ false → (d.what == DATA) ≡ false
        → IsMet size page d
    six true is n1 n2 n3 n4 n5 =
        let on = rw (n1, n2, n3, n4, n5, is) at all in of_version (kind VERSION is) on
    six false is n1 n2 n3 n4 n5 = seven (d.what == TREE) refl n1 n2 n3 n4 n5 is

    five : (b : Bool) → (d.what == DATA) ≡ b → (d.what == HEADER) ≡ false → (d.what == NEXT) ≡ false
        → (d.what == TRANSACTIONS) ≡ false → (d.what == POINTER) ≡ false → IsMet size page d
    five true is n1 n2 n3 n4 =
        let on = rw (n1, n2, n3, n4, is) at all in of_data (kind DATA is) (ok_passes page_is _ on)
    five false is n1 n2 n3 n4 = six (d.what == VERSION) refl n1 n2 n3 n4 is

    four : (b : Bool) → (d.what == POINTER) ≡ b → (d.what == HEADER) ≡ false → (d.what == NEXT) ≡ false
        → (d.what == TRANSACTIONS) ≡ false → IsMet size page d
    four true is n1 n2 n3 =
        let on = rw (n1, n2, n3, is) at all in of_pointer (kind POINTER is) (ok_passes page_is _ on)
    four false is n1 n2 n3 = five (d.what == DATA) refl n1 n2 n3 is

    three : (b : Bool) → (d.what == TRANSACTIONS) ≡ b → (d.what == HEADER) ≡ false
        → (d.what == NEXT) ≡ false → IsMet size page d
    three true is n1 n2 =
        let on = rw (n1, n2, is) at all in of_tip (kind TRANSACTIONS is) (ok_passes page_is _ on)
    three false is n1 n2 = four (d.what == POINTER) refl n1 n2 is

    two : (b : Bool) → (d.what == NEXT) ≡ b → (d.what == HEADER) ≡ false → IsMet size page d
    two true is n1 =
        let on = rw (n1, is) at all in
        let parts = and_parts (d.target == 0) _ on in
        let more = and_parts (is_header size page) _ parts.1 in
        of_next (kind NEXT is ∙ ap (λ (n : ℕ). want_of n NEXT d.a d.b) (eqb-true d.target 0 parts.0)) more.0 more.1
    two false is n1 = three (d.what == TRANSACTIONS) refl n1 is

    one : (b : Bool) → (d.what == HEADER) ≡ b → IsMet size page d
    one true is =
        let on = rw is at all in
        let parts = and_parts (d.target == 0) _ on in
        of_header (kind HEADER is ∙ ap (λ (n : ℕ). want_of n HEADER d.a d.b) (eqb-true d.target 0 parts.0)) parts.1
    one false is = two (d.what == NEXT) refl is
