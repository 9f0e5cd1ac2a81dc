-- Where a pass stands among a record's versions: where it starts, and one version on.
use Rattle.std.proofs.Common.{◌≡◌, ◌∙◌, inl, refl, sym, ap, subst, arith, ℕ, ◌+◌, ◌≤◌, true, false, List, [], ◌∷◌, ◌++◌, Option, None, Some}
use Rattle.std.specs.Prelude.{length}
use Rattle.mg_base.specs.declared.numbers.PageNo.{PageNo}
use Rattle.mg_base.specs.declared.numbers.RecId.{RecId}
use Rattle.mg_base.specs.declared.numbers.TxNo.{TxNo}
use Rattle.mg_base.specs.declared.transaction.TxState.{TxState}
use Rattle.mg_chain.specs.Chains.{LeadsTo, Meets, goes_on, newest_link, starts as leads_starts}
use Rattle.mg_chain.specs.Writing.{leading_to, link_to}
use Rattle.mg_image.specs.Form.{Pages}
use Rattle.mg_image.specs.Records.{Cells, cells_of, writer}
use Rattle.mg_image.specs.declared.entry.Entry.{Entry}
use Rattle.mg_model.specs.Answers.{is_committed}
use Rattle.mg_snap.specs.Live.{State, needed}
use Rattle.mg_version.specs.declared.cell.Link.{Link}
use Rattle.mg_version.specs.declared.cell.Version.{Version}
use Rattle.mg_collecting.specs.Leaving.{AreLinked, HasInOrder, first_link}
use Rattle.mg_collecting.specs.LinkedLaws.{linked_behind}
use Rattle.mg_collecting.specs.Passing.{StandsAt, StartsAt, holder_of}
use Rattle.mg_collecting.specs.Remaining.{AreSomeOf, needed_behind, without_unneeded}
use Rattle.mg_collecting.specs.RemainingLaws.{behind_some, some_behind}
use Rattle.mg_collecting.specs.Steps.{IsFollowed}
use Rattle.mg_collecting.specs.declared.passing.Stand.{Stand}
use Rattle.mg_collecting.specs.NeededLaws.{unneeded_itself, unneeded_on}
use Rattle.mg_collecting.proofs.ShownLemmas.{one_link, one_version}

-- a stand, by its parts
abbrev pub stand : PageNo → Link → TxNo → Option Link → Stand
stand holder kept newer next = record { holder = holder; kept = kept; newer = newer; next = next }

-- ---- versions and links in order

no_first : (es : List Entry) → first_link es ≡ None → es ≡ []
no_first [] is = refl
no_first (e ∷ es) is = absurd cc

-- the first of versions to which a link leads
pub record Begins (es : List Entry) (l : Link) : Type 0 where
  pub first : Entry
  pub rest : List Entry
  pub is : es ≡ first ∷ rest
  pub link : l ≡ link_to first.at first.version.tx

pub begins : (es : List Entry) (l : Link) → first_link es ≡ Some l → Begins es l
begins [] l is = absurd cc
begins (e ∷ es) l is = record {
  first = e;
  rest = es;
  is = refl;
  link = sym (one_link (link_to e.at e.version.tx) l is);
}

-- the version that the link meets leads to the next one
pub leads_on : (h : Cells) (e : Entry) (es : List Entry) (l : Link) (v : Version) → AreLinked h (e ∷ es)
    → l ≡ link_to e.at e.version.tx → Meets h l v → v.back ≡ first_link es
leads_on h e es l v linked link meets = ap (λ (w : Version). w.back)
    (one_version v (leading_to e.version (first_link es))
    (sym meets.cell ∙ (ap (λ (m : Link). h m.rec) link ∙ linked.0)))

-- it stands there, with so many at most behind it
pub record StandsFew (state : ℕ → TxState) (live : State) (rec : RecId) (all now : List Entry) (at : Stand) (most : ℕ)
    : Type 0 where
  pub stands : StandsAt state live rec all now at
  pub few : length stands.rest ≤ most

module _ (state : ℕ → TxState) (live : State) (rec : RecId) where
  -- ---- where it starts

  pub starts_none : (view : Pages) (es : List Entry) → HasInOrder (cells_of view) rec es
      → newest_link view rec ≡ None → StartsAt state live rec es None
  starts_none view es has none =
      subst (λ (xs : List Entry). without_unneeded state live xs ≡ xs)
      (sym (no_first es (sym has.slot ∙ none))) refl

  first_stands : (e : Entry) (fs : List Entry) (first : Link) (next : Option Link)
      → first ≡ link_to e.at e.version.tx → next ≡ first_link fs → is_committed (state first.tx.0) ≡ true
      → StandsAt state live rec (e ∷ fs) (e ∷ fs) (stand rec.page first first.tx next)
  first_stands e fs first next link next_is committed =
      subst (λ (l : Link). StandsAt state live rec (e ∷ fs) (e ∷ fs) (stand rec.page l l.tx next)) (sym link)
      (by (subst (λ (l : Link). is_committed (state l.tx.0) ≡ true) link committed))
    where
      by : is_committed (state (writer e)) ≡ true → StandsAt state live rec (e ∷ fs) (e ∷ fs)
          (stand rec.page (link_to e.at e.version.tx) e.version.tx next)
      by is = record {
        front = [];
        kept = e;
        rest = fs;
        now_is = refl;
        goal = rw is refl;
        holder = refl;
        link = refl;
        next = next_is;
        committed = is;
        covered = unneeded_itself live (writer e);
      }

  pub starts_first : (view : Pages) (es : List Entry) (first : Link) (met : Version)
      → HasInOrder (cells_of view) rec es → newest_link view rec ≡ Some first → Meets (cells_of view) first met
      → is_committed (state first.tx.0) ≡ true
      → StartsAt state live rec es (Some (stand rec.page first first.tx met.back))
  starts_first view es first met has some meets committed =
      by (begins es first (sym has.slot ∙ some))
    where
      by : Begins es first → StandsAt state live rec es es (stand rec.page first first.tx met.back)
      by it = subst (λ (xs : List Entry). StandsAt state live rec xs xs (stand rec.page first first.tx met.back))
          (sym it.is) (first_stands it.first it.rest first met.back it.link
          (leads_on (cells_of view) it.first it.rest first met
          (subst (AreLinked (cells_of view)) it.is has.linked) it.link meets) committed)

  alone_stays : (e : Entry) (fs : List Entry) → is_committed (state (writer e)) ≡ false → first_link fs ≡ None
      → without_unneeded state live (e ∷ fs) ≡ e ∷ fs
  alone_stays e fs other none = subst (λ (xs : List Entry). without_unneeded state live (e ∷ xs) ≡ e ∷ xs)
      (sym (no_first fs none)) (rw other refl)

  open_stays : (e d : Entry) (ds : List Entry) → is_committed (state (writer e)) ≡ false
      → is_committed (state (writer d)) ≡ false → without_unneeded state live (e ∷ d ∷ ds) ≡ e ∷ d ∷ ds
  open_stays e d ds other also = rw other (rw also refl)

  -- the newest one is not committed, and has none behind it, or one that is not committed
  pub starts_alone : (view : Pages) (es : List Entry) (first : Link) (met : Version)
      → HasInOrder (cells_of view) rec es → newest_link view rec ≡ Some first → Meets (cells_of view) first met
      → is_committed (state first.tx.0) ≡ false → met.back ≡ None → StartsAt state live rec es None
  starts_alone view es first met has some meets other none = by (begins es first (sym has.slot ∙ some))
    where
      by : Begins es first → without_unneeded state live es ≡ es
      by it = subst (λ (xs : List Entry). without_unneeded state live xs ≡ xs) (sym it.is)
          (alone_stays it.first it.rest (subst (λ (l : Link). is_committed (state l.tx.0) ≡ false) it.link other)
          (sym (leads_on (cells_of view) it.first it.rest first met
          (subst (AreLinked (cells_of view)) it.is has.linked) it.link meets) ∙ none))

  pub starts_open : (view : Pages) (es : List Entry) (first second : Link) (met : Version)
      → HasInOrder (cells_of view) rec es → newest_link view rec ≡ Some first → Meets (cells_of view) first met
      → is_committed (state first.tx.0) ≡ false → met.back ≡ Some second → is_committed (state second.tx.0) ≡ false
      → StartsAt state live rec es None
  starts_open view es first second met has some meets other back also = by (begins es first (sym has.slot ∙ some))
    where
      by : Begins es first → without_unneeded state live es ≡ es
      by it = more (begins it.rest second (sym (leads_on (cells_of view) it.first it.rest first met
          (subst (AreLinked (cells_of view)) it.is has.linked) it.link meets) ∙ back))
        where
          more : Begins it.rest second → without_unneeded state live es ≡ es
          more two = subst (λ (xs : List Entry). without_unneeded state live xs ≡ xs)
              (sym (it.is ∙ ap (λ (xs : List Entry). it.first ∷ xs) two.is))
              (open_stays it.first two.first two.rest
              (subst (λ (l : Link). is_committed (state l.tx.0) ≡ false) it.link other)
              (subst (λ (l : Link). is_committed (state l.tx.0) ≡ false) two.link also))

  second_stands : (e d : Entry) (ds : List Entry) (first second : Link) (next : Option Link)
      → first ≡ link_to e.at e.version.tx → second ≡ link_to d.at d.version.tx
      → is_committed (state first.tx.0) ≡ false → next ≡ first_link ds → is_committed (state second.tx.0) ≡ true
      → StandsAt state live rec (e ∷ d ∷ ds) (e ∷ d ∷ ds) (stand first.rec.page second second.tx next)
  second_stands e d ds first second next link second_link other next_is committed =
      subst (λ (l : Link). StandsAt state live rec (e ∷ d ∷ ds) (e ∷ d ∷ ds) (stand l.rec.page second second.tx next))
      (sym link)
      (subst (λ (l : Link). StandsAt state live rec (e ∷ d ∷ ds) (e ∷ d ∷ ds) (stand e.at.page l l.tx next))
      (sym second_link)
      (by (subst (λ (l : Link). is_committed (state l.tx.0) ≡ false) link other)
      (subst (λ (l : Link). is_committed (state l.tx.0) ≡ true) second_link committed)))
    where
      by : is_committed (state (writer e)) ≡ false → is_committed (state (writer d)) ≡ true
          → StandsAt state live rec (e ∷ d ∷ ds) (e ∷ d ∷ ds)
          (stand e.at.page (link_to d.at d.version.tx) d.version.tx next)
      by not_ is = record {
        front = e ∷ [];
        kept = d;
        rest = ds;
        now_is = refl;
        goal = rw not_ (rw is refl);
        holder = refl;
        link = refl;
        next = next_is;
        committed = is;
        covered = unneeded_itself live (writer d);
      }

  pub starts_second : (view : Pages) (es : List Entry) (first second : Link) (met behind : Version)
      → HasInOrder (cells_of view) rec es → newest_link view rec ≡ Some first → Meets (cells_of view) first met
      → is_committed (state first.tx.0) ≡ false → met.back ≡ Some second → is_committed (state second.tx.0) ≡ true
      → Meets (cells_of view) second behind
      → StartsAt state live rec es (Some (stand first.rec.page second second.tx behind.back))
  starts_second view es first second met behind has some meets other back committed met_behind =
      by (begins es first (sym has.slot ∙ some))
    where
      by : Begins es first → StandsAt state live rec es es (stand first.rec.page second second.tx behind.back)
      by it = more (begins it.rest second (sym (leads_on (cells_of view) it.first it.rest first met
          (subst (AreLinked (cells_of view)) it.is has.linked) it.link meets) ∙ back))
        where
          more : Begins it.rest second
              → StandsAt state live rec es es (stand first.rec.page second second.tx behind.back)
          more two =
              let all : es ≡ it.first ∷ two.first ∷ two.rest =
              it.is ∙ ap (λ (xs : List Entry). it.first ∷ xs) two.is in
              subst (λ (xs : List Entry). StandsAt state live rec xs xs
              (stand first.rec.page second second.tx behind.back)) (sym all)
              (second_stands it.first two.first two.rest first second behind.back it.link two.link other
              (leads_on (cells_of view) two.first two.rest second behind
              (subst (AreLinked (cells_of view)) all has.linked).1 two.link met_behind) committed)

  -- ---- one version on

  move_on : (front : List Entry) (a : Entry) (es : List Entry) → front ++ a ∷ es ≡ (front ++ a ∷ []) ++ es
  move_on [] a es = refl
  move_on (e ∷ front) a es = ap (λ (xs : List Entry). e ∷ xs) (move_on front a es)

  holder_on : (page : ℕ) (front : List Entry) (a : Entry) → holder_of page (front ++ a ∷ []) ≡ a.at.page.0
  holder_on page [] a = refl
  holder_on page (e ∷ front) a = holder_on e.at.page.0 front a

  needed_on : (newer : ℕ) (y : Entry) (rest : List Entry) → is_committed (state (writer y)) ≡ true
      → needed live newer (writer y) ≡ true
      → needed_behind state live newer (y ∷ rest) ≡ y ∷ needed_behind state live (writer y) rest
  needed_on newer y rest committed is = rw committed (rw is refl)

  unneeded_past : (newer : ℕ) (y : Entry) (rest : List Entry) → is_committed (state (writer y)) ≡ true
      → needed live newer (writer y) ≡ false
      → needed_behind state live newer (y ∷ rest) ≡ needed_behind state live (writer y) rest
  unneeded_past newer y rest committed is = rw committed (rw is refl)

  pub open_behind : (newer : ℕ) (y : Entry) (rest : List Entry) → is_committed (state (writer y)) ≡ false
      → needed_behind state live newer (y ∷ rest) ≡ y ∷ rest
  open_behind newer y rest other = rw other refl

  module _ (all now : List Entry) (at : Stand) (stands : StandsAt state live rec all now at) (older : Link)
      (some : at.next ≡ Some older) (committed : is_committed (state older.tx.0) ≡ true) where
    pub next_begins : Begins stands.rest older
    next_begins = begins stands.rest older (sym stands.next ∙ some)

    abbrev pub passed : Entry
    passed = next_begins.first

    abbrev pub behind : List Entry
    behind = next_begins.rest

    pub passed_is : older ≡ link_to passed.at passed.version.tx
    passed_is = next_begins.link

    pub now_with : now ≡ stands.front ++ stands.kept ∷ passed ∷ behind
    now_with = stands.now_is ∙ ap (λ (xs : List Entry). stands.front ++ stands.kept ∷ xs) next_begins.is

    pub one_less : length stands.rest ≡ length behind + 1
    one_less = ap (λ (xs : List Entry). length xs) next_begins.is ∙ omega arith

    committed_it : is_committed (state (writer passed)) ≡ true
    committed_it = subst (λ (l : Link). is_committed (state l.tx.0) ≡ true) passed_is committed

    goal_with : without_unneeded state live all
        ≡ stands.front ++ stands.kept ∷ needed_behind state live at.newer.0 (passed ∷ behind)
    goal_with = stands.goal ∙ ap (λ (xs : List Entry). stands.front ++ stands.kept
        ∷ needed_behind state live at.newer.0 xs) next_begins.is

    pub kept_on : (next : Option Link) (most : ℕ) → length behind ≤ most → needed live at.newer.0 older.tx.0 ≡ true
        → next ≡ first_link behind → StandsFew state live rec all now (stand at.kept.rec.page older older.tx next) most
    kept_on next most less is next_is =
        subst (λ (l : Link). StandsFew state live rec all now (stand at.kept.rec.page l l.tx next) most) (sym passed_is)
        (by (subst (λ (l : Link). needed live at.newer.0 l.tx.0 ≡ true) passed_is is))
      where
        by : needed live at.newer.0 (writer passed) ≡ true → StandsFew state live rec all now
            (stand at.kept.rec.page (link_to passed.at passed.version.tx) passed.version.tx next) most
        by need = record {
          few = less;
          stands = record {
            front = stands.front ++ stands.kept ∷ [];
            kept = passed;
            rest = behind;
            now_is = now_with ∙ move_on stands.front stands.kept (passed ∷ behind);
            goal = goal_with ∙ (ap (λ (xs : List Entry). stands.front ++ stands.kept ∷ xs)
                (needed_on at.newer.0 passed behind committed_it need)
                ∙ move_on stands.front stands.kept (passed ∷ needed_behind state live (writer passed) behind));
            holder = holder_on rec.page.0 stands.front stands.kept
                ∙ ap (λ (l : Link). l.rec.page.0) (sym stands.link);
            link = refl;
            next = next_is;
            committed = committed_it;
            covered = unneeded_itself live (writer passed);
          };
        }

    -- nobody needs it for the one that was kept last
    pub covered_on : needed live at.newer.0 older.tx.0 ≡ false
        → needed live stands.kept.version.tx.0 (writer passed) ≡ false
    covered_on none = unneeded_on live stands.kept.version.tx.0 at.newer.0 (writer passed) stands.covered
        (subst (λ (l : Link). needed live at.newer.0 l.tx.0 ≡ false) passed_is none)

    pub dropped_on : (next : Option Link) (most : ℕ) → length behind ≤ most
        → needed live at.newer.0 older.tx.0 ≡ false → next ≡ first_link behind
        → StandsFew state live rec all (stands.front ++ stands.kept ∷ behind)
        (stand at.holder at.kept older.tx next) most
    dropped_on next most less is next_is =
        subst (λ (l : Link). StandsFew state live rec all (stands.front ++ stands.kept ∷ behind)
        (stand at.holder at.kept l.tx next) most) (sym passed_is)
        (by (subst (λ (l : Link). needed live at.newer.0 l.tx.0 ≡ false) passed_is is))
      where
        by : needed live at.newer.0 (writer passed) ≡ false
            → StandsFew state live rec all (stands.front ++ stands.kept ∷ behind)
            (stand at.holder at.kept passed.version.tx next) most
        by none = record {
          few = less;
          stands = record {
            front = stands.front;
            kept = stands.kept;
            rest = behind;
            now_is = refl;
            goal = goal_with ∙ ap (λ (xs : List Entry). stands.front ++ stands.kept ∷ xs)
                (unneeded_past at.newer.0 passed behind committed_it none);
            holder = stands.holder;
            link = stands.link;
            next = next_is;
            committed = stands.committed;
            covered = covered_on is;
          };
        }

  -- ---- where it ends

  pub stays_at_end : (all now : List Entry) (at : Stand) (stands : StandsAt state live rec all now at)
      → stands.rest ≡ [] → now ≡ without_unneeded state live all
  stays_at_end all now at stands none =
      stands.now_is ∙ (ap (λ (xs : List Entry). stands.front ++ stands.kept ∷ xs) none
      ∙ sym (stands.goal ∙ ap (λ (xs : List Entry). stands.front ++ stands.kept
      ∷ needed_behind state live at.newer.0 xs) none))

  pub none_behind : (all now : List Entry) (at : Stand) (stands : StandsAt state live rec all now at)
      → at.next ≡ None → now ≡ without_unneeded state live all
  none_behind all now at stands none =
      stays_at_end all now at stands (no_first stands.rest (sym stands.next ∙ none))

  empty : (es : List Entry) → length es ≤ 0 → es ≡ []
  empty [] less = refl
  empty (e ∷ es) less = absurd (omega (arith, less))

  pub all_passed : (all now : List Entry) (at : Stand) (stands : StandsAt state live rec all now at)
      → length stands.rest ≤ 0 → now ≡ without_unneeded state live all
  all_passed all now at stands less = stays_at_end all now at stands (empty stands.rest less)

  pub open_next : (all now : List Entry) (at : Stand) (stands : StandsAt state live rec all now at) (older : Link)
      → at.next ≡ Some older → is_committed (state older.tx.0) ≡ false → now ≡ without_unneeded state live all
  open_next all now at stands older some other = by (begins stands.rest older (sym stands.next ∙ some))
    where
      by : Begins stands.rest older → now ≡ without_unneeded state live all
      by it =
          let same : needed_behind state live at.newer.0 stands.rest ≡ stands.rest =
          subst (λ (xs : List Entry). needed_behind state live at.newer.0 xs ≡ xs) (sym it.is)
          (open_behind at.newer.0 it.first it.rest
          (subst (λ (l : Link). is_committed (state l.tx.0) ≡ false) it.link other)) in
          stands.now_is ∙ sym (stands.goal ∙ ap (λ (xs : List Entry). stands.front ++ stands.kept ∷ xs) same)

  -- what would be left at the end is among what is left now
  pub least_there : (all now : List Entry) (at : Stand) (stands : StandsAt state live rec all now at)
      → AreSomeOf (without_unneeded state live all) now
  least_there all now at stands =
      subst (λ (xs : List Entry). AreSomeOf xs now) (sym stands.goal)
      (subst (λ (xs : List Entry). AreSomeOf (stands.front ++ stands.kept
      ∷ needed_behind state live at.newer.0 stands.rest) xs) (sym stands.now_is)
      (some_behind stands.front (stands.kept ∷ needed_behind state live at.newer.0 stands.rest)
      (stands.kept ∷ stands.rest) (inl (refl, behind_some state live at.newer.0 stands.rest))))

  rest_fewer : (front : List Entry) (kept : Entry) (rest : List Entry)
      → length rest ≤ length (front ++ kept ∷ rest)
  rest_fewer [] kept rest = omega arith
  rest_fewer (e ∷ front) kept rest = let less = rest_fewer front kept rest in omega (arith, less)

  pub few_behind : (all now : List Entry) (at : Stand) (stands : StandsAt state live rec all now at)
      → length stands.rest ≤ length now
  few_behind all now at stands = subst (λ (xs : List Entry). length stands.rest ≤ length xs) (sym stands.now_is)
      (rest_fewer stands.front stands.kept stands.rest)

  -- ---- following

  -- following on from a link to the first of these versions comes to the one behind those in front
  abbrev FollowsOn : Cells → Option Link → ℕ → List Entry → Entry → List Entry → Type 0
  FollowsOn h start first front a rest = (n holder : ℕ) (l : Link) → LeadsTo h start first n holder l
      → first_link (front ++ a ∷ rest) ≡ Some l → AreLinked h (front ++ a ∷ rest)
      → (k : ℕ) × LeadsTo h start first k (holder_of holder front) (link_to a.at a.version.tx)

  follows_behind : (h : Cells) (start : Option Link) (first : ℕ) (front : List Entry) (a : Entry)
      (rest : List Entry) → FollowsOn h start first front a rest
  follows_behind h start first [] a rest n holder l leads is linked = (
    n,
    subst (λ (m : Link). LeadsTo h start first n holder m)
        (sym (one_link (link_to a.at a.version.tx) l is)) leads,
  )
  follows_behind h start first (e ∷ front) a rest n holder l leads is linked =
      by (front ++ a ∷ rest) refl (follows_behind h start first front a rest)
    where
      here : LeadsTo h start first n holder (link_to e.at e.version.tx)
      here = subst (λ (m : Link). LeadsTo h start first n holder m)
          (sym (one_link (link_to e.at e.version.tx) l is)) leads

      never : (fs : List Entry) → fs ++ a ∷ rest ≡ [] → ⊥
      never [] is_ = absurd cc
      never (f ∷ fs) is_ = absurd cc

      by : (xs : List Entry) → front ++ a ∷ rest ≡ xs → FollowsOn h start first front a rest
          → (k : ℕ) × LeadsTo h start first k (holder_of e.at.page.0 front) (link_to a.at a.version.tx)
      by [] none onward = absurd (never front none)
      by (x ∷ xs) same onward =
          let first_is : first_link (front ++ a ∷ rest) ≡ Some (link_to x.at x.version.tx) =
          ap first_link same in
          onward (n + 1) e.at.page.0 (link_to x.at x.version.tx)
          (goes_on n holder (link_to e.at e.version.tx) (link_to x.at x.version.tx)
          (leading_to e.version (first_link (front ++ a ∷ rest))) here
          (record { cell = linked.0; by = refl }) first_is) first_is linked.1

  -- the link to the version that was kept last is come to
  pub kept_followed : (view : Pages) (all now : List Entry) (at : Stand) (stands : StandsAt state live rec all now at)
      → HasInOrder (cells_of view) rec now → IsFollowed view rec at.holder.0 at.kept
  kept_followed view all now at stands has_ = by (stands.front ++ stands.kept ∷ stands.rest) refl
    where
      has : HasInOrder (cells_of view) rec (stands.front ++ stands.kept ∷ stands.rest)
      has = subst (HasInOrder (cells_of view) rec) stands.now_is has_

      got : (k : ℕ) × LeadsTo (cells_of view) (newest_link view rec) rec.page.0 k (holder_of rec.page.0 stands.front)
          (link_to stands.kept.at stands.kept.version.tx) → IsFollowed view rec at.holder.0 at.kept
      got (k, leads) = record {
        count = k;
        follows = subst (λ (l : Link). LeadsTo (cells_of view) (newest_link view rec) rec.page.0 k at.holder.0 l)
            (sym stands.link) (subst (λ (n : ℕ). LeadsTo (cells_of view) (newest_link view rec) rec.page.0 k n
            (link_to stands.kept.at stands.kept.version.tx)) stands.holder leads);
      }

      never : (fs : List Entry) → fs ++ stands.kept ∷ stands.rest ≡ [] → ⊥
      never [] is_ = absurd cc
      never (f ∷ fs) is_ = absurd cc

      by : (xs : List Entry) → stands.front ++ stands.kept ∷ stands.rest ≡ xs
          → IsFollowed view rec at.holder.0 at.kept
      by [] none = absurd (never stands.front none)
      by (x ∷ xs) same =
          let first_is : first_link (stands.front ++ stands.kept ∷ stands.rest) ≡ Some (link_to x.at x.version.tx) =
          ap first_link same in
          got (follows_behind (cells_of view) (newest_link view rec) rec.page.0 stands.front stands.kept stands.rest 0
          rec.page.0 (link_to x.at x.version.tx) (leads_starts (link_to x.at x.version.tx) (has.slot ∙ first_is))
          first_is has.linked)

  -- and so is the next one
  pub next_followed : (view : Pages) (all now : List Entry) (at : Stand) (stands : StandsAt state live rec all now at)
      (older : Link) → HasInOrder (cells_of view) rec now → at.next ≡ Some older
      → IsFollowed view rec at.kept.rec.page.0 older
  next_followed view all now at stands older has some =
      let it = kept_followed view all now at stands has in
      let linked = linked_behind (cells_of view) stands.front (stands.kept ∷ stands.rest)
      (subst (AreLinked (cells_of view)) stands.now_is has.linked) in record {
        count = it.count + 1;
        follows = goes_on it.count at.holder.0 at.kept older (leading_to stands.kept.version (first_link stands.rest))
            it.follows
            (record {
              cell = ap (λ (l : Link). cells_of view l.rec) stands.link ∙ linked.0;
              by = ap (λ (l : Link). l.tx) (sym stands.link);
            }) (sym stands.next ∙ some);
      }
