-- Lists of versions: what stands behind so many others, and how many there can be.
use Rattle.std.proofs.Common.{◌≡◌, ◌∙◌, inl, inr, ◌<◌, ◌≤◌, ◌+◌, ◌*◌, ℕ, zero, suc, List, [], ◌∷◌, Option, Some, length, map, refl, sym, ap, subst, arith}
use Rattle.std.proofs.lemmas.List.{length-map}
use Rattle.mg_base.specs.declared.geometry.TheConstants.{GREATEST_LIMIT}
use Rattle.mg_base.specs.declared.numbers.RecId.{RecId}
use Rattle.mg_chain.specs.Chains.{LeadsTo, goes_on, starts}
use Rattle.mg_heap.specs.TableLaws.{once_short}
use Rattle.mg_image.specs.RecordRules.{AreOnce, Each}
use Rattle.mg_image.specs.ReadingLaws.{chain_opens}
use Rattle.mg_image.specs.Records.{Cells, Chain, Stands}
use Rattle.mg_image.specs.Tables.{Has, IsOnce}
use Rattle.mg_image.specs.declared.entry.Entry.{Entry}
use Rattle.mg_version.specs.declared.cell.Cell.TheVariants as cells
use Rattle.mg_version.specs.declared.cell.Link.{Link}
use Rattle.mg_version.specs.declared.cell.Version.{Version}

-- what stands behind so many versions
abbrev pub IsRest : List Entry → ℕ → List Entry → Type 0
IsRest es zero rest = es ≡ rest
IsRest [] (suc n) rest = ⊥
IsRest (x ∷ xs) (suc n) rest = IsRest xs n rest

-- The chain of a link begins with the version that it meets.
pub record Begins (h : Cells) (l : Link) (es : List Entry) : Type 0 where
  pub first : Entry
  pub later : List Entry
  pub is : es ≡ first ∷ later
  pub place : first.at ≡ l.rec
  pub cell : h l.rec ≡ Some (cells.Version first.version)
  pub by : first.version.tx ≡ l.tx
  pub on : Chain h first.version.back later

pub opens : (h : Cells) (l : Link) (es : List Entry) → Chain h (Some l) es → Begins h l es
opens h l [] chain = absurd (chain_opens h (Some l) [] chain)
opens h l (e ∷ later) chain =
    let met = chain_opens h (Some l) (e ∷ later) chain in record {
      first = e;
      later = later;
      is = refl;
      place = met.0;
      cell = ap h (sym met.0) ∙ met.1;
      by = met.2;
      on = met.3;
    }

rest_next : (es : List Entry) (n : ℕ) (rest : List Entry) (e : Entry) (later : List Entry)
    → IsRest es n rest → rest ≡ e ∷ later → IsRest es (suc n) later
rest_next [] zero rest e later is begins = let none : [] ≡ e ∷ later = is ∙ begins in absurd cc
rest_next (x ∷ xs) zero rest e later is begins =
    let both : x ∷ xs ≡ e ∷ later = is ∙ begins in let same : xs ≡ later = cc in same
rest_next [] (suc n) rest e later is begins = absurd is
rest_next (x ∷ xs) (suc n) rest e later is begins = rest_next xs n rest e later is begins

-- Links lead to one behind so many versions.
pub record IsLed (h : Cells) (es : List Entry) (n : ℕ) (l : Link) : Type 0 where
  pub rest : List Entry
  pub is : IsRest es n rest
  pub chain : Chain h (Some l) rest

pub led : (h : Cells) (start : Option Link) (begin : ℕ) (es : List Entry) → Chain h start es → (n holder : ℕ)
    (l : Link) → LeadsTo h start begin n holder l → IsLed h es n l
led h start begin es chain n holder l (starts k same) =
    record { rest = es; is = refl; chain = subst (λ (o : Option Link). Chain h o es) same chain }
led h start begin es chain n holder l (goes_on k above was next v leads meets back) =
    on (led h start begin es chain k above was leads)
  where
    on : IsLed h es k was → IsLed h es (k + 1) next
    on it = by (opens h was it.rest it.chain)
      where
        by : Begins h was it.rest → IsLed h es (k + 1) next
        by o = record {
          rest = o.later;
          is = subst (λ (j : ℕ). IsRest es j o.later) one (rest_next es k it.rest o.first o.later it.is o.is);
          chain = subst (λ (link : Option Link). Chain h link o.later) behind o.on;
        }
          where
            one : suc k ≡ k + 1
            one = omega arith

            behind : o.first.version.back ≡ Some next
            behind =
                let both : Some (cells.Version o.first.version) ≡ Some (cells.Version v) =
                sym o.cell ∙ meets.cell in
                let same : o.first.version ≡ v = cc in
                ap (λ (x : Version). x.back) same ∙ back

-- ---- no place twice

stands_there : (es : List Entry) (n : ℕ) (e : Entry) (later : List Entry) → IsRest es n (e ∷ later)
    → Stands es e.at
stands_there [] zero e later is = absurd cc
stands_there (x ∷ xs) zero e later is = let same : x ≡ e = cc in inl (ap (λ (y : Entry). y.at) same)
stands_there [] (suc n) e later is = absurd is
stands_there (x ∷ xs) (suc n) e later is = inr (stands_there xs n e later is)

pub never_back : (es : List Entry) (k n : ℕ) (a e : Entry) (before later : List Entry) → AreOnce es
    → IsRest es k (a ∷ before) → IsRest es n (e ∷ later) → k < n → e.at ≡ a.at → ⊥
never_back es k zero a e before later once first second less same = omega (arith, less)
never_back [] k (suc n) a e before later once first second less same = second
never_back (x ∷ xs) zero (suc n) a e before later once first second less same =
    let its : x ≡ a = cc in
    once.0 (subst (Stands xs) (same ∙ ap (λ (y : Entry). y.at) (sym its)) (stands_there xs n e later second))
never_back (x ∷ xs) (suc k) (suc n) a e before later once first second less same =
    never_back xs k n a e before later once.1 first second (omega (arith, less)) same

pub rest_inside : (es : List Entry) (n : ℕ) (e : Entry) (later : List Entry) → IsRest es n (e ∷ later)
    → n < length es
rest_inside [] zero e later is = absurd cc
rest_inside (x ∷ xs) zero e later is = omega arith
rest_inside [] (suc n) e later is = absurd is
rest_inside (x ∷ xs) (suc n) e later is =
    let inside : n < length xs = rest_inside xs n e later is in omega (arith, inside)

pub each_there : (P : Entry → Type 0) (es : List Entry) (n : ℕ) (e : Entry) (later : List Entry) → Each P es
    → IsRest es n (e ∷ later) → P e
each_there P [] zero e later each is = absurd cc
each_there P (x ∷ xs) zero e later each is = let same : x ≡ e = cc in subst P same each.0
each_there P [] (suc n) e later each is = absurd is
each_there P (x ∷ xs) (suc n) e later each is = each_there P xs n e later each.1 is

-- ---- as many as there are places

-- the page and the slot of a version are those of a data page
abbrev pub IsSmall : Entry → Type 0
IsSmall e = (e.at.page.0 < GREATEST_LIMIT) × (e.at.slot < 4096)

abbrev code : Entry → ℕ
code e = e.at.page.0 * 4096 + e.at.slot

one_place : (a b : RecId) → a.slot < 4096 → b.slot < 4096
    → a.page.0 * 4096 + a.slot ≡ b.page.0 * 4096 + b.slot → a ≡ b
one_place a b first second same =
    let page : a.page.0 ≡ b.page.0 = omega (arith, first, second, same) in
    let slot : a.slot ≡ b.slot = omega (arith, page, same) in
    ap (λ (n : ℕ). record { page = record { 0 = n }; slot = a.slot }) page
    ∙ ap (λ (n : ℕ). record { page = record { 0 = b.page.0 }; slot = n }) slot

has_code : (e : Entry) (es : List Entry) → IsSmall e → Each IsSmall es → Has (map code es) (code e)
    → Stands es e.at
has_code e [] small all is = absurd is
has_code e (x ∷ xs) small all (inl same) = inl (one_place x.at e.at all.0.1 small.1 (sym same))
has_code e (x ∷ xs) small all (inr later) = inr (has_code e xs small all.1 later)

codes_once : (es : List Entry) → AreOnce es → Each IsSmall es → IsOnce (map code es)
codes_once [] once small = tt
codes_once (e ∷ es) once small = (
  (λ is. once.0 (has_code e es small.0 small.1 is)),
  codes_once es once.1 small.1,
)

codes_below : (es : List Entry) → Each IsSmall es → (n : ℕ) → Has (map code es) n
    → n < 4096 * GREATEST_LIMIT
codes_below [] small n is = absurd is
codes_below (e ∷ es) small n (inl same) =
    let page = small.0.0 in let slot = small.0.1 in omega (arith, same, page, slot)
codes_below (e ∷ es) small n (inr later) = codes_below es small.1 n later

pub few_versions : (es : List Entry) → AreOnce es → Each IsSmall es → length es ≤ 4096 * GREATEST_LIMIT
few_versions es once small =
    let most : length (map code es) ≤ 4096 * GREATEST_LIMIT =
    once_short (map code es) (4096 * GREATEST_LIMIT) (codes_once es once small) (codes_below es small) in
    omega (arith, most, length-map es code)
