-- Versions in their order: each stands in one cell, and they are as many as they are, whoever reads them.
use Rattle.std.proofs.Common.{◌≡◌, ◌∙◌, inl, inr, refl, sym, ap, arith, ◌<◌, List, [], ◌∷◌, ◌++◌, Option, Some}
use Rattle.std.specs.Prelude.{length}
use Rattle.mg_base.specs.declared.numbers.RecId.{RecId}
use Rattle.mg_chain.specs.Writing.{leading_to, link_to}
use Rattle.mg_image.specs.RecordRules.{AreOnce}
use Rattle.mg_image.specs.Records.{Cells, Chain, Changes, Stands, ended, goes}
use Rattle.mg_image.specs.declared.entry.Entry.{Entry}
use Rattle.mg_version.specs.declared.cell.Cell.{Cell}
use Rattle.mg_version.specs.declared.cell.Cell.TheVariants as cells
use Rattle.mg_version.specs.declared.cell.Link.{Link}
use Rattle.mg_version.specs.declared.cell.Version.{Version}
use Rattle.mg_collecting.specs.Leaving.{AreLinked, first_link}

-- ---- chains

-- versions, each of which leads to the next
abbrev pub relinked : List Entry → List Entry
relinked [] = []
relinked (e ∷ es) = record e { version = leading_to e.version (first_link es) } ∷ relinked es

-- the versions of a chain are in order
pub chain_linked : (h : Cells) (l : Option Link) (es : List Entry) → Chain h l es
    → (l ≡ first_link es) × AreLinked h es
chain_linked h l es ended = (refl, tt)
chain_linked h l es (goes m e fs at is tx more) =
    let rest = chain_linked h e.version.back fs more in (
      λ i. Some (link_to (sym at i) (sym tx i)),
      (is ∙ ap (λ (b : Option Link). Some (cells.Version (leading_to e.version b))) rest.0, rest.1),
    )

-- versions in order are a chain
pub linked_chain : (h : Cells) (es : List Entry) → AreLinked h es → Chain h (first_link es) (relinked es)
linked_chain h [] linked = ended
linked_chain h (e ∷ es) linked = goes (link_to e.at e.version.tx)
    (record e { version = leading_to e.version (first_link es) }) (relinked es) refl linked.0 refl
    (linked_chain h es linked.1)

-- ---- one list

first_at : (l m : Link) → Some l ≡ Some m → l ≡ m
first_at l m same = cc

one_cell : (v w : Version) → Some (cells.Version v) ≡ Some (cells.Version w) → v ≡ w
one_cell v w same = cc

-- two lists that begin with one link are as long
pub as_long : (h : Cells) (es fs : List Entry) → first_link es ≡ first_link fs → AreLinked h es → AreLinked h fs
    → length es ≡ length fs
as_long h [] [] same linked also = refl
as_long h [] (f ∷ fs) same linked also = absurd cc
as_long h (e ∷ es) [] same linked also = absurd cc
as_long h (e ∷ es) (f ∷ fs) same linked also =
    let link = first_at (link_to e.at e.version.tx) (link_to f.at f.version.tx) same in
    let version = one_cell (leading_to e.version (first_link es)) (leading_to f.version (first_link fs))
    (sym linked.0 ∙ (ap (λ (l : Link). h l.rec) link ∙ also.0)) in
    let rest = as_long h es fs (ap (λ (v : Version). v.back) version) linked.1 also.1 in omega (arith, rest)

-- and they stand in the same cells
pub stand_alike : (h : Cells) (es fs : List Entry) → first_link es ≡ first_link fs → AreLinked h es → AreLinked h fs
    → (x : RecId) → Stands es x → Stands fs x
stand_alike h [] fs same linked also x there = absurd there
stand_alike h (e ∷ es) [] same linked also x there = absurd cc
stand_alike h (e ∷ es) (f ∷ fs) same linked also x there =
    let link = first_at (link_to e.at e.version.tx) (link_to f.at f.version.tx) same in
    let version = one_cell (leading_to e.version (first_link es)) (leading_to f.version (first_link fs))
    (sym linked.0 ∙ (ap (λ (l : Link). h l.rec) link ∙ also.0)) in
    by (ap (λ (l : Link). l.rec) link)
    (stand_alike h es fs (ap (λ (v : Version). v.back) version) linked.1 also.1 x) there
  where
    by : e.at ≡ f.at → (Stands es x → Stands fs x) → Stands (e ∷ es) x → Stands (f ∷ fs) x
    by at rest (inl here) = inl (sym at ∙ here)
    by at rest (inr more) = inr (rest more)

-- versions from the one on that stands in a cell
record StandsIn (h : Cells) (es : List Entry) (x : RecId) : Type 0 where
  first : Entry
  rest : List Entry
  at : first.at ≡ x
  linked : AreLinked h (first ∷ rest)
  fewer : length rest < length es

stands_in : (h : Cells) (es : List Entry) (x : RecId) → AreLinked h es → Stands es x → StandsIn h es x
stands_in h [] x linked there = absurd there
stands_in h (e ∷ es) x linked (inl at) =
    record { first = e; rest = es; at = at; linked = linked; fewer = omega arith }
stands_in h (e ∷ es) x linked (inr more) =
    let it = stands_in h es x linked.1 more in
    let less = it.fewer in
    record { first = it.first; rest = it.rest; at = it.at; linked = it.linked; fewer = omega (arith, less) }

-- no cell stands twice among versions in order: they would go on without end
pub linked_once : (h : Cells) (es : List Entry) → AreLinked h es → AreOnce es
linked_once h [] linked = tt
linked_once h (e ∷ es) linked = (apart, linked_once h es linked.1)
  where
    apart : Stands es e.at → ⊥
    apart there =
        let it = stands_in h es e.at linked.1 there in
        let version = one_cell (leading_to e.version (first_link es)) (leading_to it.first.version (first_link it.rest))
        (sym linked.0 ∙ (ap h (sym it.at) ∙ it.linked.0)) in
        let same = as_long h es it.rest (ap (λ (v : Version). v.back) version) linked.1 it.linked.1 in
        let less = it.fewer in omega (arith, same, less)

-- a version's cell has it
pub linked_cell : (h : Cells) (es : List Entry) (x : RecId) → AreLinked h es → Stands es x
    → (v : Version) × (h x ≡ Some (cells.Version v))
linked_cell h [] x linked there = absurd there
linked_cell h (e ∷ es) x linked (inl at) =
    (leading_to e.version (first_link es), ap h (sym at) ∙ linked.0)
linked_cell h (e ∷ es) x linked (inr more) = linked_cell h es x linked.1 more

-- where one cell is changed in which none of them stands, they are in order still
pub linked_stays : (old new : Cells) (x : RecId) (cell : Option Cell) → Changes old new x cell
    → (es : List Entry) → (Stands es x → ⊥) → AreLinked old es → AreLinked new es
linked_stays old new x cell change [] out linked = tt
linked_stays old new x cell change (e ∷ es) out linked = (
  change.others e.at (λ same. out (inl same)) ∙ linked.0,
  linked_stays old new x cell change es (λ there. out (inr there)) linked.1,
)

-- those behind some of them
pub linked_behind : (h : Cells) (front es : List Entry) → AreLinked h (front ++ es) → AreLinked h es
linked_behind h [] es linked = linked
linked_behind h (e ∷ front) es linked = linked_behind h front es linked.1

-- the first of some, with others behind them that begin alike
pub first_alike : (front es fs : List Entry) → first_link es ≡ first_link fs
    → first_link (front ++ es) ≡ first_link (front ++ fs)
first_alike [] es fs same = same
first_alike (e ∷ front) es fs same = refl
