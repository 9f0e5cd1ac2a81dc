-- A committed version comes to lead past some that lie behind it, or nowhere: those are no longer read.
use Rattle.mg_base.specs.declared.numbers.RecId.{RecId}
use Rattle.mg_base.specs.declared.transaction.TxState.{TxState}
use Rattle.mg_base.specs.declared.transaction.TxState.TheVariants.{Active, Committed, Dead, Limbo}
use Rattle.mg_image.specs.Form.{Coding, Row}
use Rattle.mg_image.specs.RecordRules.{AreOnce, AreRecords, Each, EachBack, Facts, IsInLimbo, IsRecord, IsVersion, TakesKey, committed_in, table_in}
use Rattle.mg_image.specs.Records.{Cells, Chain, Changes, Reading, Stands, ended, goes, key_of, newest_of, record_key, shown, writer}
use Rattle.mg_image.specs.StepLaws.{cases_place, chain_stays, put_reading, same_place, step_sound}
use Rattle.mg_image.specs.declared.entry.Entry.{Entry}
use Rattle.mg_image_overlay_laws.specs.records.Fronts.{IsFront, IsLike, IsThin, is_dead, living}
use Rattle.mg_image_overlay_laws.specs.records.Thins.{HasSettled, front_back, front_limbo, front_self, front_shown, front_thin, like_self, thin_each, thin_once, thin_self, thin_stands}
use Rattle.mg_model.specs.Answers.{is_committed}
use Rattle.mg_model.specs.declared.table.Table.{Table}
use Rattle.mg_value.specs.declared.value.Value.{Value}
use Rattle.mg_version.specs.declared.cell.Link.{Link}
use Rattle.mg_version.specs.declared.cell.Version.{Version}
use Rattle.std.proofs.Common.{Bool, List, None, Option, Some, [], ap, false, inl, inr, refl, subst, sym, true, ℕ, ◌∙◌, ◌∷◌, ◌≡◌, ◌≢◌, ◌⊎◌}
use Rattle.std.specs.Prelude.{if◌then◌else◌}
use Rattle.mg_version.specs.declared.cell.Cell.TheVariants as cells

-- ---- what is skipped

-- a version that leads elsewhere
abbrev pub with_back : Option Link → Entry → Entry
with_back back e = record e { version = record e.version { back = back } }

-- versions from the one on that a link names; none where there is no link
abbrev pub from : Option Link → List Entry → List Entry
from None es = []
from (Some l) [] = []
from (Some l) (e ∷ es) = if same_place e.at l.rec then e ∷ es else from (Some l) es

-- those before it
abbrev pub before : Option Link → List Entry → List Entry
before None es = es
before (Some l) [] = []
before (Some l) (e ∷ es) = if same_place e.at l.rec then [] else e ∷ before (Some l) es

-- a link names one of these versions, or there is no link
abbrev pub LeadsInto : Option Link → List Entry → Type 0
LeadsInto None es = Unit {0}
LeadsInto (Some l) [] = ⊥
LeadsInto (Some l) (e ∷ es) = ((e.at ≡ l.rec) × (e.version.tx ≡ l.tx)) ⊎ LeadsInto (Some l) es

-- versions, of which the one at a place leads on by this link
abbrev pub skip_at : RecId → Option Link → List Entry → List Entry
skip_at x back [] = []
skip_at x back (e ∷ es) = if same_place e.at x then with_back back e ∷ from back es else e ∷ skip_at x back es

-- those behind the one at a place
abbrev pub behind : RecId → List Entry → List Entry
behind x [] = []
behind x (e ∷ es) = if same_place e.at x then es else behind x es

-- it is there, and committed
abbrev pub IsCommittedAt : Facts → RecId → List Entry → Type 0
IsCommittedAt f x [] = ⊥
IsCommittedAt f x (e ∷ es) = ((e.at ≡ x) × (f.state (writer e) ≡ Committed)) ⊎ IsCommittedAt f x es

-- ---- lemmas on lists

pub stands_of_committed : (f : Facts) (x : RecId) (es : List Entry) → IsCommittedAt f x es
    → Stands es x
stands_of_committed f x [] is = absurd is
stands_of_committed f x (e ∷ es) (inl (at, is)) = inl at
stands_of_committed f x (e ∷ es) (inr is) = inr (stands_of_committed f x es is)

pub behind_stands : (x y : RecId) (es : List Entry) → Stands (behind x es) y → Stands es y
behind_stands x y [] is = is
behind_stands x y (e ∷ es) is = by (same_place e.at x) (behind_stands x y es) is
  where
    by : (b : Bool) → (Stands (behind x es) y → Stands es y)
        → Stands (if b then es else behind x es) y → (e.at ≡ y) ⊎ Stands es y
    by true older more = inr more
    by false older more = inr (older more)

pub from_thin : (back : Option Link) (es : List Entry) → IsThin (from back es) es
from_thin None es = tt
from_thin (Some l) [] = tt
from_thin (Some l) (e ∷ es) = by (same_place e.at l.rec) (from_thin (Some l) es)
  where
    more : (ds : List Entry) → IsThin ds es → IsThin ds (e ∷ es)
    more [] thin = tt
    more (d ∷ ds) thin = inr thin

    by : (b : Bool) → IsThin (from (Some l) es) es → IsThin (if b then e ∷ es else from (Some l) es) (e ∷ es)
    by true older = thin_self (e ∷ es)
    by false older = more (from (Some l) es) older

pub from_stands : (back : Option Link) (y : RecId) (es : List Entry) → Stands (from back es) y → Stands es y
from_stands back y es = thin_stands y (from back es) es (from_thin back es)

pub before_stands : (back : Option Link) (y : RecId) (es : List Entry) → Stands (before back es) y → Stands es y
before_stands None y es there = there
before_stands (Some l) y [] there = there
before_stands (Some l) y (e ∷ es) there = by (same_place e.at l.rec) (before_stands (Some l) y es) there
  where
    by : (b : Bool) → (Stands (before (Some l) es) y → Stands es y)
        → Stands (if b then [] else e ∷ before (Some l) es) y → Stands (e ∷ es) y
    by true older none = absurd none
    by false older (inl at) = inl at
    by false older (inr more) = inr (older more)

-- what lies before it does not lie behind it
pub before_off : (back : Option Link) (y : RecId) (es : List Entry) → AreOnce es → Stands (before back es) y
    → Stands (from back es) y → ⊥
before_off None y es once there also = also
before_off (Some l) y [] once there also = there
before_off (Some l) y (e ∷ es) once there also =
    by (same_place e.at l.rec) (before_off (Some l) y es once.1) there also
  where
    by : (b : Bool) → (Stands (before (Some l) es) y → Stands (from (Some l) es) y → ⊥)
        → Stands (if b then [] else e ∷ before (Some l) es) y
        → Stands (if b then e ∷ es else from (Some l) es) y → ⊥
    by true older none also = none
    by false older (inl at) also = once.0 (subst (Stands es) (sym at) (from_stands (Some l) y es also))
    by false older (inr more) also = older more also

pub skip_stands : (x : RecId) (back : Option Link) (y : RecId) (es : List Entry) → Stands (skip_at x back es) y
    → Stands es y
skip_stands x back y [] is = is
skip_stands x back y (e ∷ es) is = by (same_place e.at x) (skip_stands x back y es) is
  where
    by : (b : Bool) → (Stands (skip_at x back es) y → Stands es y)
        → Stands (if b then with_back back e ∷ from back es else e ∷ skip_at x back es) y
        → (e.at ≡ y) ⊎ Stands es y
    by true older (inl at) = inl at
    by true older (inr more) = inr (from_stands back y es more)
    by false older (inl at) = inl at
    by false older (inr more) = inr (older more)

-- what is skipped is not left
pub skipped_off : (x : RecId) (back : Option Link) (y : RecId) (es : List Entry) → AreOnce es
    → Stands (before back (behind x es)) y → Stands (skip_at x back es) y → ⊥
skipped_off x back y [] once is also = also
skipped_off x back y (e ∷ es) once is also = by (same_place e.at x) (skipped_off x back y es once.1) is also
  where
    by : (b : Bool)
        → (Stands (before back (behind x es)) y → Stands (skip_at x back es) y → ⊥)
        → Stands (before back (if b then es else behind x es)) y
        → Stands (if b then with_back back e ∷ from back es else e ∷ skip_at x back es) y → ⊥
    by true older there (inl at) = once.0 (subst (Stands es) (sym at) (before_stands back y es there))
    by true older there (inr more) = before_off back y es once.1 there more
    by false older there (inl at) = once.0 (subst (Stands es) (sym at)
        (behind_stands x y es (before_stands back y (behind x es) there)))
    by false older there (inr more) = older there more

-- what is left are the first of those that were, and one of them is committed
pub skip_front : (f : Facts) (x : RecId) (back : Option Link) (es : List Entry) → IsCommittedAt f x es
    → AreOnce es → IsFront f.state (skip_at x back es) es
skip_front f x back [] is once = tt
skip_front f x back (e ∷ es) is once = by (skip_front f x back es) (cases_place e.at x) is
  where
    like : IsLike (with_back back e) e
    like = record { at = refl; version = refl; row = refl }

    by : (IsCommittedAt f x es → AreOnce es → IsFront f.state (skip_at x back es) es)
        → ((e.at ≡ x) × (same_place e.at x ≡ true)) ⊎ ((e.at ≢ x) × (same_place e.at x ≡ false))
        → ((e.at ≡ x) × (f.state (writer e) ≡ Committed)) ⊎ IsCommittedAt f x es
        → IsFront f.state (skip_at x back (e ∷ es)) (e ∷ es)
    by older (inl (at, yes_)) (inl (_, committed)) = rw yes_ (like, inr (committed, from_thin back es))
    by older (inl (at, yes_)) (inr more) =
        absurd (once.0 (subst (Stands es) (sym at) (stands_of_committed f x es more)))
    by older (inr (ne, no_)) (inl (at, _)) = absurd (ne at)
    by older (inr (ne, no_)) (inr more) = rw no_ (like_self e, inl (older more once.1))

pub skip_settled : (f : Facts) (x : RecId) (back : Option Link) (es : List Entry) → IsCommittedAt f x es
    → AreOnce es → HasSettled f.state (skip_at x back es)
skip_settled f x back [] is once = is
skip_settled f x back (e ∷ es) is once = by (skip_settled f x back es) (cases_place e.at x) is
  where
    by : (IsCommittedAt f x es → AreOnce es → HasSettled f.state (skip_at x back es))
        → ((e.at ≡ x) × (same_place e.at x ≡ true)) ⊎ ((e.at ≢ x) × (same_place e.at x ≡ false))
        → ((e.at ≡ x) × (f.state (writer e) ≡ Committed)) ⊎ IsCommittedAt f x es
        → HasSettled f.state (skip_at x back (e ∷ es))
    by older (inl (at, yes_)) (inl (_, committed)) = rw yes_ (inl committed)
    by older (inl (at, yes_)) (inr more) =
        absurd (once.0 (subst (Stands es) (sym at) (stands_of_committed f x es more)))
    by older (inr (ne, no_)) (inl (at, _)) = absurd (ne at)
    by older (inr (ne, no_)) (inr more) = rw no_ (inr (older more once.1))

pub skip_key : (table : Table) (x : RecId) (back : Option Link) (es : List Entry)
    → record_key table (skip_at x back es) ≡ record_key table es
skip_key table x back [] = refl
skip_key table x back (e ∷ es) = by (same_place e.at x)
  where
    by : (b : Bool) → record_key table (if b then with_back back e ∷ from back es else e ∷ skip_at x back es)
        ≡ record_key table (e ∷ es)
    by true = refl
    by false = refl

-- ---- the chain

same_version : (v w : Version) → Some (cells.Version v) ≡ Some (cells.Version w) → v ≡ w
same_version v w same = cc

-- a cell that is a version comes to be the same version, which leads elsewhere
pub record RelinksCell (old new : Cells) (x : RecId) (v : Version) (back : Option Link) : Type 0 where
  pub was : old x ≡ Some (cells.Version v)
  pub change : Changes old new x (Some (cells.Version (record v { back = back })))

-- a link that names one of the versions of a chain leads to those from there on
from_chain : (h : Cells) (back l : Option Link) (es : List Entry) → Chain h l es → AreOnce es → LeadsInto back es
    → Chain h back (from back es)
from_chain h None l es chain once leads = ended
from_chain h (Some m) l es ended once leads = absurd leads
from_chain h (Some m) l es (goes n e fs at is tx more) once leads =
    by (from_chain h (Some m) e.version.back fs more) (cases_place e.at m.rec) leads
  where
    stands_there : (gs : List Entry) → LeadsInto (Some m) gs → Stands gs m.rec
    stands_there [] none = absurd none
    stands_there (g ∷ gs) (inl here) = inl here.0
    stands_there (g ∷ gs) (inr there) = inr (stands_there gs there)

    by : (AreOnce fs → LeadsInto (Some m) fs → Chain h (Some m) (from (Some m) fs))
        → ((e.at ≡ m.rec) × (same_place e.at m.rec ≡ true)) ⊎ ((e.at ≢ m.rec) × (same_place e.at m.rec ≡ false))
        → ((e.at ≡ m.rec) × (e.version.tx ≡ m.tx)) ⊎ LeadsInto (Some m) fs
        → Chain h (Some m) (from (Some m) (e ∷ fs))
    by older (inl (same, yes_)) (inl (_, by_)) = rw yes_ (goes m e fs same is by_ more)
    by older (inl (same, yes_)) (inr there) =
        absurd (once.0 (subst (Stands fs) (sym same) (stands_there fs there)))
    by older (inr (ne, no_)) (inl (same, _)) = absurd (ne same)
    by older (inr (ne, no_)) (inr there) = rw no_ (older once.1 there)

pub chain_skip : (old new : Cells) (x : RecId) (v : Version) (back : Option Link) → RelinksCell old new x v back
    → (l : Option Link) (es : List Entry) → Chain old l es → AreOnce es → LeadsInto back (behind x es)
    → Chain new l (skip_at x back es)
chain_skip old new x v back cut l es ended once leads = ended
chain_skip old new x v back cut l es (goes m e fs at is tx more) once leads =
    by (cases_place e.at x) (chain_skip old new x v back cut e.version.back fs more once.1) leads
  where
    by : ((e.at ≡ x) × (same_place e.at x ≡ true)) ⊎ ((e.at ≢ x) × (same_place e.at x ≡ false))
        → (LeadsInto back (behind x fs) → Chain new e.version.back (skip_at x back fs))
        → LeadsInto back (behind x (e ∷ fs)) → Chain new (Some m) (skip_at x back (e ∷ fs))
    by (inl (same, yes_)) rest leads_ =
        let version : v ≡ e.version =
        same_version v e.version (sym cut.was ∙ (ap old (sym same) ∙ is)) in
        let into : LeadsInto back fs = subst (λ (b : Bool). LeadsInto back (if b then fs else behind x fs)) yes_ leads_ in
        rw yes_ (goes m (with_back back e) (from back fs) at
        (ap new same ∙ (cut.change.here ∙ ap (λ (w : Version). Some (cells.Version (record w { back = back }))) version))
        tx (chain_stays old new x (Some (cells.Version (record v { back = back }))) cut.change back (from back fs)
        (from_chain old back e.version.back fs more once.1 into)
        (λ there. once.0 (subst (Stands fs) (sym same) (from_stands back x fs there)))))
    by (inr (ne, no_)) rest leads_ =
        let into : LeadsInto back (behind x fs) =
        subst (λ (b : Bool). LeadsInto back (if b then fs else behind x fs)) no_ leads_ in
        rw no_ (goes m e (skip_at x back fs) at (cut.change.others e.at ne ∙ is) tx (rest into))

-- ---- one image

same_link : (l m : Link) → Some l ≡ Some m → l ≡ m
same_link l m same = cc

pub reads_none : (h : Cells) (es : List Entry) → Chain h None es → es ≡ []
reads_none h es ended = refl

-- a chain that begins has its first link's cell
pub begins_there : (h : Cells) (m : Link) (es : List Entry) → Chain h (Some m) es → Stands es m.rec
begins_there h m es (goes n e fs at is tx more) = inl at

-- the record in a slot begins where it did
newest_is : (old new : Cells) (x : RecId) (v : Version) (back : Option Link) → RelinksCell old new x v back
    → (p : RecId) → newest_of p (new p) ≡ newest_of p (old p)
newest_is old new x v back cut p = by (cases_place p x)
  where
    by : ((p ≡ x) × (same_place p x ≡ true)) ⊎ ((p ≢ x) × (same_place p x ≡ false))
        → newest_of p (new p) ≡ newest_of p (old p)
    by (inl (same, _)) = rw (same, cut.change.here, cut.was) refl
    by (inr (ne, _)) = rw (cut.change.others p ne) refl

pub version_like : (coding : Coding) (f : Facts) (table : Table) (key : Value) (d e : Entry) → IsLike d e
    → IsVersion coding f table key e → IsVersion coding f table key d
version_like coding f table key d e like is = subst (IsVersion coding f table key) same (record {
  placed = is.placed;
  drawn = is.drawn;
  dead = is.dead;
  format = is.format;
  spelled = is.spelled;
  storable = is.storable;
  erased = is.erased;
  keyed = is.keyed;
})
  where
    mine : Entry
    mine = record e { version = record e.version { back = d.version.back } }

    version : record e.version { back = d.version.back } ≡ d.version
    version = ap (λ (w : Version). record w { back = d.version.back }) like.version

    parts : e.at ≡ d.at → record e.version { back = d.version.back } ≡ d.version → e.row ≡ d.row → mine ≡ d
    parts a b c = λ i. record { at = a i; version = b i; row = c i }

    same : mine ≡ d
    same = parts (sym like.at) version (sym like.row)

takes_skip : (f : Facts) (x : RecId) (back : Option Link) (es : List Entry) → AreOnce es → IsCommittedAt f x es
    → TakesKey f (skip_at x back es) → TakesKey f es
takes_skip f x back es once is (inl (row, shows)) = inl (
  row,
  sym (front_shown f.state (committed_in f) (λ u at. ap is_committed at) (skip_at x back es) es
      (skip_front f x back es is once) (skip_settled f x back es is once)) ∙ shows,
)
takes_skip f x back es once is (inr limbo) =
    inr (front_limbo f (skip_at x back es) es (skip_front f x back es is once) limbo)

-- the records are lawful once a committed version of one of them leads on elsewhere in it
pub skip_sound : (coding : Coding) (f : Facts) (old new : Cells) (r : Reading) (p x : RecId)
    (v : Version) (back : Option Link) (table : Table) → AreRecords coding f old r → table_in f p ≡ Some table
    → RelinksCell old new x v back → IsCommittedAt f x (r p) → LeadsInto back (behind x (r p))
    → AreRecords coding f new (put_reading r p (skip_at x back (r p)))
skip_sound coding f old new r p x v back table s of cut is leads =
    step_sound coding f old new r x (Some (cells.Version (record v { back = back }))) p table
    (skip_at x back (r p)) s cut.change (record {
      of_table = of;
      reads = rw (newest_is old new x v back cut p)
          (chain_skip old new x v back cut (newest_of p (old p)) (r p) (s.reads p table of) lawful.once leads);
      slot = slot;
      out = λ q ne stands. ne (s.apart q p x stands there);
      lawful = record {
        once = thin_once (skip_at x back (r p)) (r p) (front_thin f.state (skip_at x back (r p)) (r p) front)
            lawful.once;
        each = rw (skip_key table x back (r p)) (thin_each (IsVersion coding f table (record_key table (r p)))
            (version_like coding f table (record_key table (r p))) (skip_at x back (r p)) (r p)
            (front_thin f.state (skip_at x back (r p)) (r p) front) lawful.each);
        backs = front_back f.state (λ e. f.state (writer e) ≡ Committed)
            (λ d e like committed. ap (λ (w : Version). f.state w.tx.0) (sym like.version) ∙ committed)
            (skip_at x back (r p)) (r p) front lawful.backs;
      };
      apart = λ q y ne stands also. ne (s.apart q p y also (skip_stands x back y (r p) stands));
      keys = λ q ne of_q takes takes_q same. ne (s.keys q p table of_q of takes_q
          (takes_skip f x back (r p) lawful.once is takes) (sym same ∙ skip_key table x back (r p)));
    })
  where
    there : Stands (r p) x
    there = stands_of_committed f x (r p) is

    lawful : IsRecord coding f table (r p)
    lawful = s.each p table of

    front : IsFront f.state (skip_at x back (r p)) (r p)
    front = skip_front f x back (r p) is lawful.once

    -- the slot of the version begins no other record
    slot : x ≢ p → (other : Table) → table_in f x ≡ Some other
        → Chain new (newest_of x (new x)) (r x)
    slot ne other of_x = by (newest_of x (old x)) refl (s.reads x other of_x)
      where
        by : (l : Option Link) → newest_of x (old x) ≡ l → Chain old l (r x)
            → Chain new (newest_of x (new x)) (r x)
        by None is_ chain = rw (newest_is old new x v back cut x, is_, reads_none old (r x) chain) ended
        by (Some m) is_ chain =
            let at : m.rec ≡ x = names_it v.primary
            (ap (newest_of x) (sym cut.was) ∙ is_) in
            absurd (ne (s.apart x p x (subst (Stands (r x)) at (begins_there old m (r x) chain)) there))
          where
            names_it : (b : Bool) → (if b then Some (record { rec = x; tx = v.tx }) else None)
                ≡ Some m → m.rec ≡ x
            names_it true names =
                let same : m ≡ record { rec = x; tx = v.tx } = same_link m _ (sym names) in
                ap (λ (l : Link). l.rec) same
            names_it false names = absurd cc

-- ---- what counts

-- a version of one that isn't dead counts
pub living_committed : (f : Facts) (x : RecId) (es : List Entry) → IsCommittedAt f x es
    → IsCommittedAt f x (living f.state es)
living_committed f x [] is = is
living_committed f x (e ∷ es) is = by (f.state (writer e)) refl is
  where
    by : (s : TxState) → f.state (writer e) ≡ s
        → ((e.at ≡ x) × (f.state (writer e) ≡ Committed)) ⊎ IsCommittedAt f x es
        → IsCommittedAt f x (if is_dead s then es else e ∷ es)
    by Active s_is is = is
    by Limbo s_is is = is
    by Committed s_is is = is
    by Dead s_is (inl (at, committed)) = let both = sym s_is ∙ committed in absurd cc
    by Dead s_is (inr more) = more

pub committed_of_living : (f : Facts) (x : RecId) (es : List Entry)
    → IsCommittedAt f x (living f.state es) → IsCommittedAt f x es
committed_of_living f x [] is = is
committed_of_living f x (e ∷ es) is = by (is_dead (f.state (writer e))) is
  where
    by : (b : Bool) → IsCommittedAt f x (if b then es else e ∷ es) → IsCommittedAt f x (e ∷ es)
    by true more = inr more
    by false is = is

-- to skip behind a committed version is to skip of what counts
pub living_skip : (f : Facts) (x : RecId) (back : Option Link) (es : List Entry) → AreOnce es → IsCommittedAt f x es
    → living f.state (skip_at x back es) ≡ skip_at x back (living f.state es)
living_skip f x back [] once is = refl
living_skip f x back (e ∷ es) once is = by (f.state (writer e)) refl (cases_place e.at x) is
  where
    by : (s : TxState) → f.state (writer e) ≡ s
        → ((e.at ≡ x) × (same_place e.at x ≡ true)) ⊎ ((e.at ≢ x) × (same_place e.at x ≡ false))
        → ((e.at ≡ x) × (f.state (writer e) ≡ Committed)) ⊎ IsCommittedAt f x es
        → living f.state (skip_at x back (e ∷ es)) ≡ skip_at x back (living f.state (e ∷ es))
    by Active s_is (inl (at, yes_)) is = rw (yes_, s_is, yes_) refl
    by Limbo s_is (inl (at, yes_)) is = rw (yes_, s_is, yes_) refl
    by Committed s_is (inl (at, yes_)) is = rw (yes_, s_is, yes_) refl
    by Dead s_is (inl (at, yes_)) (inl (_, committed)) =
        let both = sym s_is ∙ committed in absurd cc
    by Dead s_is (inl (at, yes_)) (inr more) =
        absurd (once.0 (subst (Stands es) (sym at) (stands_of_committed f x es more)))
    by Active s_is (inr (ne, no_)) is = rw (no_, s_is, no_) refl
    by Limbo s_is (inr (ne, no_)) is = rw (no_, s_is, no_) refl
    by Committed s_is (inr (ne, no_)) is = rw (no_, s_is, no_) refl
    by Dead s_is (inr (ne, no_)) is = rw (no_, s_is) refl

-- what lies behind it counts: these are the same versions
pub living_behind : (f : Facts) (x : RecId) (es : List Entry) → AreOnce es → IsCommittedAt f x es
    → behind x (living f.state es) ≡ behind x es
living_behind f x [] once is = refl
living_behind f x (e ∷ es) once is = by (f.state (writer e)) refl (cases_place e.at x) is
  where
    by : (s : TxState) → f.state (writer e) ≡ s
        → ((e.at ≡ x) × (same_place e.at x ≡ true)) ⊎ ((e.at ≢ x) × (same_place e.at x ≡ false))
        → ((e.at ≡ x) × (f.state (writer e) ≡ Committed)) ⊎ IsCommittedAt f x es
        → behind x (living f.state (e ∷ es)) ≡ behind x (e ∷ es)
    by Active s_is at is = rw s_is refl
    by Limbo s_is at is = rw s_is refl
    by Committed s_is at is = rw s_is refl
    by Dead s_is (inl (at, yes_)) (inl (_, committed)) =
        let both = sym s_is ∙ committed in absurd cc
    by Dead s_is (inl (at, yes_)) (inr more) =
        absurd (once.0 (subst (Stands es) (sym at) (stands_of_committed f x es more)))
    by Dead s_is (inr (ne, no_)) is = rw (s_is, no_) refl

-- a cell of a chain is a version
pub chain_cell : (h : Cells) (l : Option Link) (es : List Entry) (y : RecId) → Chain h l es
    → Stands es y → (w : Version) × (h y ≡ Some (cells.Version w))
chain_cell h l es y ended there = absurd there
chain_cell h l es y (goes m e fs at is tx more) (inl same) = (e.version, ap h (sym same) ∙ is)
chain_cell h l es y (goes m e fs at is tx more) (inr there) =
    chain_cell h e.version.back fs y more there

-- the first version is not skipped
pub first_is_left : (h : Cells) (m : Link) (x : RecId) (back : Option Link) (es : List Entry) → Chain h (Some m) es
    → Stands (skip_at x back es) m.rec
first_is_left h m x back es (goes n e fs at is tx more) = by (same_place e.at x)
  where
    by : (b : Bool) → Stands (if b then with_back back e ∷ from back fs else e ∷ skip_at x back fs) n.rec
    by true = inl at
    by false = inl at

-- ---- what the fronts say

-- a committed version that counts in the pool is there in the overlay
pub thin_committed : (f g : Facts) (x : RecId) (ds es : List Entry)
    → ((t : ℕ) → g.state t ≡ f.state t) → IsThin ds es → IsCommittedAt f x ds
    → IsCommittedAt g x es
thin_committed f g x [] es states thin is = absurd is
thin_committed f g x (d ∷ ds) [] states thin is = absurd thin
thin_committed f g x (d ∷ ds) (e ∷ es) states (inr more) is =
    inr (thin_committed f g x (d ∷ ds) es states more is)
thin_committed f g x (d ∷ ds) (e ∷ es) states (inl both) (inl (at, is)) = inl (
  sym both.0.at ∙ at,
  states (writer e) ∙ (ap f.state (ap (λ (w : Version). w.tx.0) both.0.version) ∙ is),
)
thin_committed f g x (d ∷ ds) (e ∷ es) states (inl both) (inr is) =
    inr (thin_committed f g x ds es states both.1 is)

-- what a link names there it names here
pub thin_leads : (back : Option Link) (ds es : List Entry) → IsThin ds es → LeadsInto back ds → LeadsInto back es
thin_leads None ds es thin leads = tt
thin_leads (Some l) [] es thin leads = absurd leads
thin_leads (Some l) (d ∷ ds) [] thin leads = absurd thin
thin_leads (Some l) (d ∷ ds) (e ∷ es) (inr more) leads = inr (thin_leads (Some l) (d ∷ ds) es more leads)
thin_leads (Some l) (d ∷ ds) (e ∷ es) (inl both) (inl here) =
    inl (sym both.0.at ∙ here.0, ap (λ (w : Version). w.tx) both.0.version ∙ here.1)
thin_leads (Some l) (d ∷ ds) (e ∷ es) (inl both) (inr there) = inr (thin_leads (Some l) ds es both.1 there)

pub leads_stands : (l : Link) (es : List Entry) → LeadsInto (Some l) es → Stands es l.rec
leads_stands l [] leads = absurd leads
leads_stands l (e ∷ es) (inl here) = inl here.0
leads_stands l (e ∷ es) (inr there) = inr (leads_stands l es there)

module _ (x : RecId) where
  -- what lies behind a version there lies behind it here
  pub thin_behind : (ds es : List Entry) → IsThin ds es → AreOnce es → Stands ds x
      → IsThin (behind x ds) (behind x es)
  thin_behind [] es thin once there = absurd there
  thin_behind (d ∷ ds) [] thin once there = absurd thin
  thin_behind (d ∷ ds) (e ∷ es) (inr more) once there =
      by (thin_behind (d ∷ ds) es more once.1 there) (cases_place e.at x)
    where
      by : IsThin (behind x (d ∷ ds)) (behind x es)
          → ((e.at ≡ x) × (same_place e.at x ≡ true)) ⊎ ((e.at ≢ x) × (same_place e.at x ≡ false))
          → IsThin (behind x (d ∷ ds)) (behind x (e ∷ es))
      by older (inl (at, yes_)) = absurd (once.0 (subst (Stands es) (sym at) (thin_stands x (d ∷ ds) es more there)))
      by older (inr (ne, no_)) = rw no_ older
  thin_behind (d ∷ ds) (e ∷ es) (inl both) once there =
      by (thin_behind ds es both.1 once.1) (cases_place d.at x) there
    where
      by : (Stands ds x → IsThin (behind x ds) (behind x es))
          → ((d.at ≡ x) × (same_place d.at x ≡ true)) ⊎ ((d.at ≢ x) × (same_place d.at x ≡ false))
          → (d.at ≡ x) ⊎ Stands ds x → IsThin (behind x (d ∷ ds)) (behind x (e ∷ es))
      by older (inl (at, yes_)) there =
          let also : same_place e.at x ≡ true = ap (λ (a : RecId). same_place a x) (sym both.0.at) ∙ yes_ in
          rw (yes_, also) both.1
      by older (inr (ne, no_)) (inl at) = absurd (ne at)
      by older (inr (ne, no_)) (inr more) =
          let also : same_place e.at x ≡ false = ap (λ (a : RecId). same_place a x) (sym both.0.at) ∙ no_ in
          rw (no_, also) (older more)

  -- from a link on, and before it
  pub thin_from : (back : Option Link) (ds es : List Entry) → IsThin ds es → AreOnce es → LeadsInto back ds
      → IsThin (from back ds) (from back es)
  thin_from None ds es thin once leads = tt
  thin_from (Some l) [] es thin once leads = absurd leads
  thin_from (Some l) (d ∷ ds) [] thin once leads = absurd thin
  thin_from (Some l) (d ∷ ds) (e ∷ es) (inr more) once leads =
      by (thin_from (Some l) (d ∷ ds) es more once.1 leads) (cases_place e.at l.rec)
    where
      by : IsThin (from (Some l) (d ∷ ds)) (from (Some l) es)
          → ((e.at ≡ l.rec) × (same_place e.at l.rec ≡ true)) ⊎ ((e.at ≢ l.rec) × (same_place e.at l.rec ≡ false))
          → IsThin (from (Some l) (d ∷ ds)) (from (Some l) (e ∷ es))
      by older (inl (at, yes_)) = absurd (once.0 (subst (Stands es) (sym at)
          (thin_stands l.rec (d ∷ ds) es more (leads_stands l (d ∷ ds) leads))))
      by older (inr (ne, no_)) = rw no_ older
  thin_from (Some l) (d ∷ ds) (e ∷ es) (inl both) once leads =
      by (thin_from (Some l) ds es both.1 once.1) (cases_place d.at l.rec) leads
    where
      by : (LeadsInto (Some l) ds → IsThin (from (Some l) ds) (from (Some l) es))
          → ((d.at ≡ l.rec) × (same_place d.at l.rec ≡ true)) ⊎ ((d.at ≢ l.rec) × (same_place d.at l.rec ≡ false))
          → ((d.at ≡ l.rec) × (d.version.tx ≡ l.tx)) ⊎ LeadsInto (Some l) ds
          → IsThin (from (Some l) (d ∷ ds)) (from (Some l) (e ∷ es))
      by older (inl (at, yes_)) there =
          let also : same_place e.at l.rec ≡ true =
          ap (λ (a : RecId). same_place a l.rec) (sym both.0.at) ∙ yes_ in
          rw (yes_, also) (inl both)
      by older (inr (ne, no_)) (inl at) = absurd (ne at.0)
      by older (inr (ne, no_)) (inr more) =
          let also : same_place e.at l.rec ≡ false =
          ap (λ (a : RecId). same_place a l.rec) (sym both.0.at) ∙ no_ in
          rw (no_, also) (older more)

  pub thin_before : (back : Option Link) (y : RecId) (ds es : List Entry) → IsThin ds es → AreOnce es
      → LeadsInto back ds → Stands (before back ds) y → Stands (before back es) y
  thin_before None y ds es thin once leads there = thin_stands y ds es thin there
  thin_before (Some l) y [] es thin once leads there = absurd there
  thin_before (Some l) y (d ∷ ds) [] thin once leads there = absurd thin
  thin_before (Some l) y (d ∷ ds) (e ∷ es) (inr more) once leads there =
      by (thin_before (Some l) y (d ∷ ds) es more once.1 leads there) (cases_place e.at l.rec)
    where
      by : Stands (before (Some l) es) y
          → ((e.at ≡ l.rec) × (same_place e.at l.rec ≡ true)) ⊎ ((e.at ≢ l.rec) × (same_place e.at l.rec ≡ false))
          → Stands (before (Some l) (e ∷ es)) y
      by older (inl (at, yes_)) = absurd (once.0 (subst (Stands es) (sym at)
          (thin_stands l.rec (d ∷ ds) es more (leads_stands l (d ∷ ds) leads))))
      by older (inr (ne, no_)) = rw no_ (inr older)
  thin_before (Some l) y (d ∷ ds) (e ∷ es) (inl both) once leads there =
      by (thin_before (Some l) y ds es both.1 once.1) (cases_place d.at l.rec) leads there
    where
      by : (LeadsInto (Some l) ds → Stands (before (Some l) ds) y → Stands (before (Some l) es) y)
          → ((d.at ≡ l.rec) × (same_place d.at l.rec ≡ true)) ⊎ ((d.at ≢ l.rec) × (same_place d.at l.rec ≡ false))
          → ((d.at ≡ l.rec) × (d.version.tx ≡ l.tx)) ⊎ LeadsInto (Some l) ds
          → Stands (before (Some l) (d ∷ ds)) y → Stands (before (Some l) (e ∷ es)) y
      by older (inl (at, yes_)) leads_ there_ =
          absurd (subst (λ (b : Bool). Stands (if b then [] else d ∷ before (Some l) ds) y) yes_ there_)
      by older (inr (ne, no_)) (inl at) there_ = absurd (ne at.0)
      by older (inr (ne, no_)) (inr more) there_ =
          let also : same_place e.at l.rec ≡ false =
          ap (λ (a : RecId). same_place a l.rec) (sym both.0.at) ∙ no_ in
          rw also (on (subst (λ (b : Bool). Stands (if b then [] else d ∷ before (Some l) ds) y) no_ there_))
        where
          on : (d.at ≡ y) ⊎ Stands (before (Some l) ds) y → Stands (e ∷ before (Some l) es) y
          on (inl here) = inl (sym both.0.at ∙ here)
          on (inr behind_) = inr (older more behind_)

  -- skipped in both
  pub thin_skip : (back : Option Link) (ds es : List Entry) → IsThin ds es → AreOnce es → Stands ds x
      → LeadsInto back (behind x ds) → IsThin (skip_at x back ds) (skip_at x back es)
  thin_skip back [] es thin once there leads = absurd there
  thin_skip back (d ∷ ds) [] thin once there leads = absurd thin
  thin_skip back (d ∷ ds) (e ∷ es) (inr more) once there leads =
      by (thin_skip back (d ∷ ds) es more once.1 there leads) (cases_place e.at x)
    where
      add : (cs bs : List Entry) → IsThin cs bs → IsThin cs (e ∷ bs)
      add [] bs thin = tt
      add (c ∷ cs) bs thin = inr thin

      by : IsThin (skip_at x back (d ∷ ds)) (skip_at x back es)
          → ((e.at ≡ x) × (same_place e.at x ≡ true)) ⊎ ((e.at ≢ x) × (same_place e.at x ≡ false))
          → IsThin (skip_at x back (d ∷ ds)) (skip_at x back (e ∷ es))
      by older (inl (at, yes_)) = absurd (once.0 (subst (Stands es) (sym at) (thin_stands x (d ∷ ds) es more there)))
      by older (inr (ne, no_)) = rw no_ (add (skip_at x back (d ∷ ds)) (skip_at x back es) older)
  thin_skip back (d ∷ ds) (e ∷ es) (inl both) once there leads =
      by (thin_skip back ds es both.1 once.1) (cases_place d.at x) there leads
    where
      by : (Stands ds x → LeadsInto back (behind x ds) → IsThin (skip_at x back ds) (skip_at x back es))
          → ((d.at ≡ x) × (same_place d.at x ≡ true)) ⊎ ((d.at ≢ x) × (same_place d.at x ≡ false))
          → (d.at ≡ x) ⊎ Stands ds x → LeadsInto back (behind x (d ∷ ds))
          → IsThin (skip_at x back (d ∷ ds)) (skip_at x back (e ∷ es))
      by older (inl (at, yes_)) there_ leads_ =
          let also : same_place e.at x ≡ true = ap (λ (a : RecId). same_place a x) (sym both.0.at) ∙ yes_ in
          let into : LeadsInto back ds =
          subst (λ (b : Bool). LeadsInto back (if b then ds else behind x ds)) yes_ leads_ in
          rw (yes_, also) (inl (
            record {
              at = both.0.at;
              version = ap (λ (w : Version). record w { back = back }) both.0.version;
              row = both.0.row;
            },
            thin_from back ds es both.1 once.1 into,
          ))
      by older (inr (ne, no_)) (inl at) leads_ = absurd (ne at)
      by older (inr (ne, no_)) (inr more) leads_ =
          let also : same_place e.at x ≡ false = ap (λ (a : RecId). same_place a x) (sym both.0.at) ∙ no_ in
          let into : LeadsInto back (behind x ds) =
          subst (λ (b : Bool). LeadsInto back (if b then ds else behind x ds)) no_ leads_ in
          rw (no_, also) (inl (both.0, older more into))

  pub front_skip : (f : Facts) (back : Option Link) (ds es : List Entry) → IsFront f.state ds es → AreOnce ds
      → AreOnce es → IsCommittedAt f x ds → LeadsInto back (behind x ds)
      → IsFront f.state (skip_at x back ds) (skip_at x back es)
  front_skip f back [] es front mine once is leads = absurd is
  front_skip f back (d ∷ ds) [] front mine once is leads = absurd front
  front_skip f back (d ∷ ds) (e ∷ es) front mine once is leads =
      by (λ front_ more. front_skip f back ds es front_ mine.1 once.1 more) (cases_place d.at x) is leads
    where
      by : (IsFront f.state ds es → IsCommittedAt f x ds → LeadsInto back (behind x ds)
          → IsFront f.state (skip_at x back ds) (skip_at x back es))
          → ((d.at ≡ x) × (same_place d.at x ≡ true)) ⊎ ((d.at ≢ x) × (same_place d.at x ≡ false))
          → ((d.at ≡ x) × (f.state (writer d) ≡ Committed)) ⊎ IsCommittedAt f x ds
          → LeadsInto back (behind x (d ∷ ds))
          → IsFront f.state (skip_at x back (d ∷ ds)) (skip_at x back (e ∷ es))
      by older (inl (at, yes_)) (inr more) leads_ =
          absurd (mine.0 (subst (Stands ds) (sym at) (stands_of_committed f x ds more)))
      by older (inl (at, yes_)) (inl (_, committed)) leads_ =
          let also : same_place e.at x ≡ true = ap (λ (a : RecId). same_place a x) (sym front.0.at) ∙ yes_ in
          let into : LeadsInto back ds =
          subst (λ (b : Bool). LeadsInto back (if b then ds else behind x ds)) yes_ leads_ in
          rw (yes_, also) (
            record {
              at = front.0.at;
              version = ap (λ (w : Version). record w { back = back }) front.0.version;
              row = front.0.row;
            },
            inr (committed, thin_from back ds es (tails front.1) once.1 into),
          )
        where
          tails : IsFront f.state ds es ⊎ ((f.state (writer d) ≡ Committed) × IsThin ds es) → IsThin ds es
          tails (inl more) = front_thin f.state ds es more
          tails (inr more) = more.1
      by older (inr (ne, no_)) (inl (at, _)) leads_ = absurd (ne at)
      by older (inr (ne, no_)) (inr more) leads_ =
          let also : same_place e.at x ≡ false = ap (λ (a : RecId). same_place a x) (sym front.0.at) ∙ no_ in
          let into : LeadsInto back (behind x ds) =
          subst (λ (b : Bool). LeadsInto back (if b then ds else behind x ds)) no_ leads_ in
          rw (no_, also) (front.0, tails front.1 into)
        where
          tails : IsFront f.state ds es ⊎ ((f.state (writer d) ≡ Committed) × IsThin ds es)
              → LeadsInto back (behind x ds)
              → IsFront f.state (skip_at x back ds) (skip_at x back es)
              ⊎ ((f.state (writer d) ≡ Committed) × IsThin (skip_at x back ds) (skip_at x back es))
          tails (inl front_) into = inl (older front_ more into)
          tails (inr both) into = inr (
            both.0,
            thin_skip back ds es both.1 once.1 (stands_of_committed f x ds more) into,
          )
