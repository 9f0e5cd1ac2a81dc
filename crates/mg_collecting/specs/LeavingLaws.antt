-- What is left where the version behind another one is dropped, or the newest one is taken out; and where one such step
-- comes after another.
use Rattle.std.proofs.Common.{◌≡◌, ◌≢◌, ◌⊎◌, ◌∙◌, inl, inr, refl, sym, ap, subst, arith, ℕ, ◌<◌, ◌||◌, Bool, true, false, List, [], ◌∷◌, ◌++◌, Option, None, Some}
use Rattle.std.specs.Prelude.{length, if◌then◌else◌}
use Rattle.mg_base.specs.declared.numbers.RecId.{RecId}
use Rattle.mg_chain.specs.Lists.{slot_cell_to}
use Rattle.mg_chain.specs.Writing.{leading_to, link_to}
use Rattle.mg_image.specs.Form.{Pages}
use Rattle.mg_image.specs.RecordRules.{AreOnce}
use Rattle.mg_image.specs.Records.{Cells, Changes, Stands, cells_of, newest_of}
use Rattle.mg_image.specs.StepLaws.{cases_place, same_place}
use Rattle.mg_image.specs.declared.entry.Entry.{Entry}
use Rattle.mg_version.specs.declared.cell.Cell.TheVariants as cells
use Rattle.mg_version.specs.declared.cell.Link.{Link}
use Rattle.mg_version.specs.declared.cell.Version.{Version}
use Rattle.mg_collecting.specs.Leaving.{AreLinked, HasInOrder, IsOn, LeavesAtLeast, LeavesTold, first_link}
use Rattle.mg_collecting.specs.LinkedLaws.{first_alike, linked_behind, linked_cell, linked_once, linked_stays}
use Rattle.mg_collecting.specs.Remaining.{AreSomeOf, IsToldOf}
use Rattle.mg_collecting.specs.RemainingLaws.{some_behind, some_more, some_on, some_same, some_stands, told_on}

-- ---- where versions stand

stands_cases : (es : List Entry) (x : RecId) → Stands es x ⊎ (Stands es x → ⊥)
stands_cases [] x = inr (λ none. none)
stands_cases (e ∷ es) x = by (cases_place e.at x) (stands_cases es x)
  where
    by : ((e.at ≡ x) × (same_place e.at x ≡ true)) ⊎ ((e.at ≢ x) × (same_place e.at x ≡ false))
        → Stands es x ⊎ (Stands es x → ⊥) → Stands (e ∷ es) x ⊎ (Stands (e ∷ es) x → ⊥)
    by (inl (same, yes_)) rest = inl (inl same)
    by (inr (ne, no_)) (inl there) = inl (inr there)
    by (inr (ne, no_)) (inr out) = inr apart
      where
        apart : (e.at ≡ x) ⊎ Stands es x → ⊥
        apart (inl same) = ne same
        apart (inr there) = out there

some_on_page : (ds es : List Entry) (n : ℕ) → AreSomeOf ds es → IsOn n ds → IsOn n es
some_on_page [] es n some on = absurd on
some_on_page (d ∷ ds) [] n some on = absurd some
some_on_page (d ∷ ds) (e ∷ es) n (inl (same, rest)) (inl at) = inl (ap (λ (k : Entry). k.at.page.0) (sym same) ∙ at)
some_on_page (d ∷ ds) (e ∷ es) n (inl (same, rest)) (inr more) = inr (some_on_page ds es n rest more)
some_on_page (d ∷ ds) (e ∷ es) n (inr later) on = inr (some_on_page (d ∷ ds) es n later on)

stands_at : (front : List Entry) (a : Entry) (es : List Entry) → Stands (front ++ a ∷ es) a.at
stands_at [] a es = inl refl
stands_at (e ∷ front) a es = inr (stands_at front a es)

stands_next : (front : List Entry) (a y : Entry) (es : List Entry) → Stands (front ++ a ∷ y ∷ es) y.at
stands_next [] a y es = inr (inl refl)
stands_next (e ∷ front) a y es = inr (stands_next front a y es)

on_at : (front : List Entry) (a : Entry) (es : List Entry) → IsOn a.at.page.0 (front ++ a ∷ es)
on_at [] a es = inl refl
on_at (e ∷ front) a es = inr (on_at front a es)

on_next : (front : List Entry) (a y : Entry) (es : List Entry) → IsOn y.at.page.0 (front ++ a ∷ y ∷ es)
on_next [] a y es = inr (inl refl)
on_next (e ∷ front) a y es = inr (on_next front a y es)

-- all but the dropped one are left
left_or_dropped : (front : List Entry) (a y : Entry) (rest : List Entry) (x : RecId)
    → Stands (front ++ a ∷ y ∷ rest) x → Stands (front ++ a ∷ rest) x ⊎ (x ≡ y.at)
left_or_dropped [] a y rest x (inl at) = inl (inl at)
left_or_dropped [] a y rest x (inr (inl at)) = inr (sym at)
left_or_dropped [] a y rest x (inr (inr there)) = inl (inr there)
left_or_dropped (e ∷ front) a y rest x (inl at) = inl (inl at)
left_or_dropped (e ∷ front) a y rest x (inr there) = by (left_or_dropped front a y rest x there)
  where
    by : Stands (front ++ a ∷ rest) x ⊎ (x ≡ y.at) → Stands (e ∷ front ++ a ∷ rest) x ⊎ (x ≡ y.at)
    by (inl left) = inl (inr left)
    by (inr gone) = inr gone

one_fewer : (front : List Entry) (a y : Entry) (rest : List Entry)
    → length (front ++ a ∷ rest) < length (front ++ a ∷ y ∷ rest)
one_fewer [] a y rest = omega arith
one_fewer (e ∷ front) a y rest = let less = one_fewer front a y rest in omega (arith, less)

never_empty : (front : List Entry) (a : Entry) (rest : List Entry) → front ++ a ∷ rest ≡ [] → ⊥
never_empty [] a rest none = absurd cc
never_empty (e ∷ front) a rest none = absurd cc

-- ---- the slot of a record

-- the link that a version in its primary slot is met by is one to that slot
leads_to_itself : (p : RecId) (w : Version) (b : Bool) (f : Entry)
    → (if b then Some (link_to p w.tx) else None) ≡ Some (link_to f.at f.version.tx) → p ≡ f.at
leads_to_itself p w true f same = by (link_to p w.tx) (link_to f.at f.version.tx) same
  where
    by : (l m : Link) → Some l ≡ Some m → l.rec ≡ m.rec
    by l m is = cc
leads_to_itself p w false f same = absurd cc

-- the slot of a record is the cell of none but its first version
slot_apart : (h : Cells) (p : RecId) (f : Entry) (fs : List Entry) (x : RecId) → HasInOrder h p (f ∷ fs)
    → Stands fs x → p ≢ x
slot_apart h p f fs x has there same = by (linked_cell h fs x has.linked.1 there)
  where
    by : (w : Version) × (h x ≡ Some (cells.Version w)) → ⊥
    by (w, is) =
        let first : p ≡ f.at = leads_to_itself p w w.primary f
        (sym (ap (newest_of p) (ap h same ∙ is)) ∙ has.slot) in
        (linked_once h (f ∷ fs) has.linked).0 (subst (Stands fs) (sym same ∙ first) there)

-- ---- a version is dropped

drop_linked : (h put new : Cells) (front : List Entry) (a y : Entry) (rest : List Entry)
    → AreLinked h (front ++ a ∷ y ∷ rest) → AreOnce (front ++ a ∷ y ∷ rest)
    → Changes h put a.at (Some (cells.Version (leading_to a.version (first_link rest))))
    → Changes put new y.at None → AreLinked new (front ++ a ∷ rest)
drop_linked h put new [] a y rest linked once change freed = (
  freed.others a.at (λ same. once.0 (inl (sym same))) ∙ change.here,
  linked_stays put new y.at None freed rest once.1.0
      (linked_stays h put a.at (Some (cells.Version (leading_to a.version (first_link rest)))) change rest
      (λ there. once.0 (inr there)) linked.1.1),
)
drop_linked h put new (e ∷ front) a y rest linked once change freed = (
  freed.others e.at (λ same. once.0 (subst (Stands (front ++ a ∷ y ∷ rest)) (sym same) (stands_next front a y rest)))
      ∙ (change.others e.at
      (λ same. once.0 (subst (Stands (front ++ a ∷ y ∷ rest)) (sym same) (stands_at front a (y ∷ rest))))
      ∙ (linked.0 ∙ ap (λ (l : Option Link). Some (cells.Version (leading_to e.version l)))
      (first_alike front (a ∷ y ∷ rest) (a ∷ rest) refl))),
  drop_linked h put new front a y rest linked.1 once.1 change freed,
)

module _ (old put new : Pages) (p : RecId) (front : List Entry) (a y : Entry) (rest : List Entry)
    (has : HasInOrder (cells_of old) p (front ++ a ∷ y ∷ rest))
    (change : Changes (cells_of old) (cells_of put) a.at
    (Some (cells.Version (leading_to a.version (first_link rest)))))
    (freed : Changes (cells_of put) (cells_of new) y.at None)
    (put_page : (n : ℕ) → n ≢ a.at.page.0 → put n ≡ old n)
    (freed_page : (n : ℕ) → n ≢ y.at.page.0 → new n ≡ put n) where
  abbrev es : List Entry
  es = front ++ a ∷ y ∷ rest

  abbrev left : List Entry
  left = front ++ a ∷ rest

  slot_is_not_it : p ≢ y.at
  slot_is_not_it = by front has
    where
      by : (fs : List Entry) → HasInOrder (cells_of old) p (fs ++ a ∷ y ∷ rest) → p ≢ y.at
      by [] it = slot_apart (cells_of old) p a (y ∷ rest) y.at it (inl refl)
      by (e ∷ fs) it = slot_apart (cells_of old) p e (fs ++ a ∷ y ∷ rest) y.at it (stands_next fs a y rest)

  slot_stays : newest_of p (cells_of new p) ≡ first_link left
  slot_stays = ap (newest_of p) (freed.others p slot_is_not_it) ∙ (turn (cases_place p a.at)
      ∙ (has.slot ∙ first_alike front (a ∷ y ∷ rest) (a ∷ rest) refl))
    where
      turn : ((p ≡ a.at) × (same_place p a.at ≡ true)) ⊎ ((p ≢ a.at) × (same_place p a.at ≡ false))
          → newest_of p (cells_of put p) ≡ newest_of p (cells_of old p)
      turn (inl (same, yes_)) =
          ap (newest_of p) (ap (cells_of put) same ∙ change.here)
          ∙ sym (ap (newest_of p) (ap (cells_of old) same
          ∙ (linked_behind (cells_of old) front (a ∷ y ∷ rest) has.linked).0))
      turn (inr (ne, no_)) = ap (newest_of p) (change.others p ne)

  pub drop_leaves : LeavesTold old new p es left true
  drop_leaves = record {
    leaves = record {
      its = record {
        slot = slot_stays;
        linked = drop_linked (cells_of old) (cells_of put) (cells_of new) front a y rest has.linked
            (linked_once (cells_of old) es has.linked) change freed;
      };
      some = some_behind front (a ∷ rest) (a ∷ y ∷ rest) (inl (refl, some_more rest y rest (some_same rest)));
      freed = λ x there out. at x out (left_or_dropped front a y rest x there);
      emptied = λ none more. absurd (never_empty front a rest none);
      others = λ x ne out. freed.others x (λ same. out (subst (Stands es) (sym same) (stands_next front a y rest)))
          ∙ change.others x (λ same. out (subst (Stands es) (sym same) (stands_at front a (y ∷ rest))));
      pages = λ n ne off. freed_page n (λ same. off (subst (λ (k : ℕ). IsOn k es) (sym same) (on_next front a y rest)))
          ∙ put_page n (λ same. off (subst (λ (k : ℕ). IsOn k es) (sym same) (on_at front a (y ∷ rest))));
    };
    told = one_fewer front a y rest;
    same = λ not_. absurd cc;
  }
    where
      at : (x : RecId) → (Stands left x → ⊥) → Stands left x ⊎ (x ≡ y.at) → cells_of new x ≡ None
      at x out (inl there) = absurd (out there)
      at x out (inr is) = ap (cells_of new) is ∙ freed.here

-- ---- the newest version is taken out

module _ (old turned new : Pages) (p : RecId) (l : Link) (e : Entry) (fs : List Entry)
    (has : HasInOrder (cells_of old) p (e ∷ fs)) (anchor : cells_of old p ≡ Some (cells.Anchor l))
    (turn : Changes (cells_of old) (cells_of turned) p (slot_cell_to (first_link fs)))
    (freed : Changes (cells_of turned) (cells_of new) e.at None)
    (turned_page : (n : ℕ) → n ≢ p.page.0 → turned n ≡ old n)
    (freed_page : (n : ℕ) → n ≢ e.at.page.0 → new n ≡ turned n) where
  no_version : (x : RecId) → Stands (e ∷ fs) x → x ≢ p
  no_version x there same = by (linked_cell (cells_of old) (e ∷ fs) x has.linked there)
    where
      by : (w : Version) × (cells_of old x ≡ Some (cells.Version w)) → ⊥
      by (w, is) = let both : Some (cells.Anchor l) ≡ Some (cells.Version w) =
          sym anchor ∙ (ap (cells_of old) (sym same) ∙ is) in absurd cc

  once : AreOnce (e ∷ fs)
  once = linked_once (cells_of old) (e ∷ fs) has.linked

  slot_now : cells_of new p ≡ slot_cell_to (first_link fs)
  slot_now = freed.others p (λ same. no_version e.at (inl refl) (sym same)) ∙ turn.here

  leads : (link : Option Link) → newest_of p (slot_cell_to link) ≡ link
  leads None = refl
  leads (Some m) = refl

  pub out_leaves : LeavesTold old new p (e ∷ fs) fs true
  out_leaves = record {
    leaves = record {
      its = record {
        slot = ap (newest_of p) slot_now ∙ leads (first_link fs);
        linked = linked_stays (cells_of turned) (cells_of new) e.at None freed fs once.0
            (linked_stays (cells_of old) (cells_of turned) p (slot_cell_to (first_link fs)) turn fs
            (λ there. no_version p (inr there) refl) has.linked.1);
      };
      some = some_more fs e fs (some_same fs);
      freed = gone;
      emptied = λ none more. slot_now ∙ ap (λ (ds : List Entry). slot_cell_to (first_link ds)) none;
      others = λ x ne out. freed.others x (λ same. out (inl (sym same))) ∙ turn.others x ne;
      pages = λ n ne off. freed_page n (λ same. off (inl (sym same))) ∙ turned_page n ne;
    };
    told = omega arith;
    same = λ not_. absurd cc;
  }
    where
      gone : (x : RecId) → (e.at ≡ x) ⊎ Stands fs x → (Stands fs x → ⊥) → cells_of new x ≡ None
      gone x (inl at) out = ap (cells_of new) (sym at) ∙ freed.here
      gone x (inr there) out = absurd (out there)

-- ---- one after another

-- where nothing has changed all are left
pub same_leaves : (old new : Pages) (p : RecId) (es : List Entry) → new ≡ old → HasInOrder (cells_of old) p es
    → LeavesTold old new p es es false
same_leaves old new p es same has = record {
  leaves = record {
    its = subst (λ (pages : Pages). HasInOrder (cells_of pages) p es) (sym same) has;
    some = some_same es;
    freed = λ x there out. absurd (out there);
    emptied = λ none more. absurd (more none);
    others = λ x ne out. ap (λ (pages : Pages). cells_of pages x) same;
    pages = λ n ne off. ap (λ (pages : Pages). pages n) same;
  };
  told = refl;
  same = λ not_. same;
}

neither : (a b : Bool) → (a || b) ≡ false → (a ≡ false) × (b ≡ false)
neither false false is = (refl, refl)
neither false true is = absurd cc
neither true b is = absurd cc

module _ (old mid new : Pages) (p : RecId) (es xs ys : List Entry) (a b : Bool)
    (first : LeavesTold old mid p es xs a) (second : LeavesTold mid new p xs ys b) where
  -- a record without versions stays as it is
  none_left : xs ≡ [] → new ≡ mid
  none_left none = by b second.told second.same
    where
      by : (c : Bool) → IsToldOf c xs ys → (c ≡ false → new ≡ mid) → new ≡ mid
      by false told same = same refl
      by true told same =
          let fewer : length ys < length {A = Entry} [] = subst (λ (zs : List Entry). length ys < length zs) none told in
          absurd (omega (arith, fewer))

  first_none : (zs : List Entry) → None ≡ first_link zs → zs ≡ []
  first_none [] is = refl
  first_none (z ∷ zs) is = absurd cc

  freed_on : (x : RecId) → Stands es x → (Stands ys x → ⊥) → cells_of new x ≡ None
  freed_on x there out = by (stands_cases xs x)
    where
      from : cells_of mid x ≡ None → (Stands xs x → ⊥)
          → ((x ≡ p) × (same_place x p ≡ true)) ⊎ ((x ≢ p) × (same_place x p ≡ false)) → cells_of new x ≡ None
      from none off (inl (same, yes_)) =
          let empty : xs ≡ [] = first_none xs
          (sym (ap (newest_of p) (ap (cells_of mid) (sym same) ∙ none)) ∙ first.leaves.its.slot) in
          ap (λ (pages : Pages). cells_of pages x) (none_left empty) ∙ none
      from none off (inr (ne, no_)) = second.leaves.others x ne off ∙ none

      by : Stands xs x ⊎ (Stands xs x → ⊥) → cells_of new x ≡ None
      by (inl inside) = second.leaves.freed x inside out
      by (inr off) = from (first.leaves.freed x there off) off (cases_place x p)

  emptied_on : ys ≡ [] → es ≢ [] → cells_of new p ≡ None
  emptied_on none more = by xs refl
    where
      by : (zs : List Entry) → xs ≡ zs → cells_of new p ≡ None
      by [] is = ap (λ (pages : Pages). cells_of pages p) (none_left is) ∙ first.leaves.emptied is more
      by (z ∷ zs) is = second.leaves.emptied none (λ empty.
          let both : z ∷ zs ≡ [] = sym is ∙ empty in never_empty [] z zs both)

  pub leaves_on : LeavesTold old new p es ys (a || b)
  leaves_on = record {
    leaves = record {
      its = second.leaves.its;
      some = some_on ys xs es second.leaves.some first.leaves.some;
      freed = freed_on;
      emptied = emptied_on;
      others = λ x ne out. second.leaves.others x ne (λ there. out (some_stands xs es x first.leaves.some there))
          ∙ first.leaves.others x ne out;
      pages = λ n ne off. second.leaves.pages n ne (λ on. off (some_on_page xs es n first.leaves.some on))
          ∙ first.leaves.pages n ne off;
    };
    told = told_on a b es xs ys first.leaves.some second.leaves.some first.told second.told;
    same = λ none. let both = neither a b none in second.same both.1 ∙ first.same both.0;
  }

pub least_on : (old mid new : Pages) (p : RecId) (es xs least : List Entry) (a : Bool)
    → LeavesTold old mid p es xs a → LeavesAtLeast mid new p xs least → LeavesAtLeast old new p es least
least_on old mid new p es xs least a first second = record {
  left = second.left;
  gone = a || second.gone;
  leaves = leaves_on old mid new p es xs second.left a second.gone first second.leaves;
  least_left = second.least_left;
}

pub fewer_least : (old new : Pages) (p : RecId) (versions least fewer : List Entry) → AreSomeOf fewer least
    → LeavesAtLeast old new p versions least → LeavesAtLeast old new p versions fewer
fewer_least old new p versions least fewer some it = record {
  left = it.left;
  gone = it.gone;
  leaves = it.leaves;
  least_left = some_on fewer least it.left some it.least_left;
}
