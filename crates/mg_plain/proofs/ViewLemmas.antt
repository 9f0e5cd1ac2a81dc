-- What a transaction sees of what is kept stays where an event of another one takes effect.
use Rattle.std.proofs.Common.{◌≡◌, ◌≢◌, ℕ, ◌+◌, ◌-◌, ◌≤◌, ◌==◌, Bool, true, false, List, zero, suc, [], ◌∷◌, ◌++◌, length, map, drop, Option, inl, inr, refl, sym, ◌∙◌, ap, subst, cond, get_or, arith, length-append}
use Rattle.std.proofs.lemmas.Bool.{cases_eq, cases_lt, false≢true}
use Rattle.std.proofs.Math.Seq.{drop-append-add}
use Rattle.std.proofs.lemmas.List.{get_or-set_same, get_or-set_other}
use Rattle.mg_base.specs.declared.numbers.TxNo.{TxNo}
use Rattle.std.proofs.Math.ListN.{set}
use Rattle.mg_base.specs.declared.transaction.TxState.{TxState}
use Rattle.mg_base.specs.declared.transaction.TxState.TheVariants.{Active, Limbo, Dead, Committed}
use Rattle.mg_model.specs.declared.answer.Answer.{Answer}
use Rattle.mg_model.specs.declared.answer.Answer.TheVariants.{Fine, Tx, Rows, No}
use Rattle.mg_model.specs.declared.change.Change.{Change}
use Rattle.mg_model.specs.declared.event.Event.{Event}
use Rattle.mg_plain.specs.declared.known.Known.{Known}
use Rattle.mg_model.specs.History.{entry, transaction_of, effect_with, Effect, Begins, Looks, Makes, Gives, Marks, Saves, TakesBack, Ends, Nothing}
use Rattle.mg_model.specs.Effects.{doer, drawn}
use Rattle.mg_model.specs.EntryLaws.{deeds_by-taken_back_other, others_by_event}
use Rattle.mg_model.specs.Machine.{changes_by, changes_in, deeds_by, is_of}
use Rattle.mg_plain.specs.Keeping.{Keeping, LieWithin, unknown, known_of, known_at_opening, base_in, told_in, with_known, begun, rebased, noted_in, waits_by, kept_by, kept_after}
use Rattle.mg_plain.specs.Beginning.{known_all}
use Rattle.mg_plain.specs.Obeying.{IsAnswer}
use Rattle.mg_plain.proofs.StandsLemmas.{IsAllowed, known_begun, same_test}
use Rattle.mg_plain.proofs.AnsweredLemmas.{allowed, noted_same, noted_rest, set_past}

-- ---- bases

-- two numbers of which a test tells that they differ
differ : (u t : ℕ) → (u == t) ≡ false → t ≢ u
differ u t apart e = false≢true (sym apart ∙ same_test u t e)

-- where another transaction is known otherwise, or one by the same base
other_base : (k : Keeping) (u t : ℕ) (x : Known) → t ≢ u
    → (known_of (with_known k u x) t).base ≡ (known_of k t).base
other_base k u t x apart =
    ap (λ (y : Known). y.base) (get_or-set_other k.known u t x (unknown k.opened) apart)

same_base : (k : Keeping) (u t : ℕ) (x : Known) → x.base ≡ (known_of k u).base
    → (known_of (with_known k u x) t).base ≡ (known_of k t).base
same_base k u t x same = elim (cases_lt u (length k.known)) [
  | inl inside ↦ elim (cases_eq t u) [
    | inl e ↦ rw e (ap (λ (y : Known). y.base) (get_or-set_same k.known u x (unknown k.opened) inside) ∙ same)
    | inr apart ↦ other_base k u t x apart
  ]
  | inr past ↦ ap (λ (z : List Known). (get_or z t (unknown k.opened)).base) (set_past k.known u x past)
]

base_by : (k k' : Keeping) (t : ℕ) → k'.database ≡ k.database
    → (known_of k' t).base ≡ (known_of k t).base → base_in k' t ≡ base_in k t
base_by k k' t rows base = λ i. drop (length (rows i) - base i) (rows i)

-- changes that come in front of the database are behind no base
longer_base : (k k' : Keeping) (t : ℕ) (own : List Change) → LieWithin (length k.database) k.opened k.known
    → k'.database ≡ own ++ k.database → (known_of k' t).base ≡ (known_of k t).base
    → base_in k' t ≡ base_in k t
longer_base k k' t own within rows base =
    let old = within t in
    let more : length k'.database ≡ length own + length k.database =
    ap length rows ∙ length-append own k.database in
    let behind : length k'.database - (known_of k' t).base ≡ length own + (length k.database - (known_of k t).base) =
    ap (λ (n : ℕ). length k'.database - n) base ∙ omega (arith, more) in
    (λ i. drop (behind i) (rows i))
    ∙ drop-append-add own k.database (length k.database - (known_of k t).base)

ended_base : (k : Keeping) (u t : ℕ) (x : Known) → x.base ≡ (known_of k u).base
    → base_in (with_known k u x) t ≡ base_in k t
ended_base k u t x same = base_by k (with_known k u x) t refl (same_base k u t x same)

-- an effect leaves the bases of others
base_kept : (k : Keeping) (eff : Effect) (t : ℕ) → LieWithin (length k.database) k.opened k.known
    → IsAllowed k eff → is_of t (doer eff) ≡ false → base_in (kept_by eff k) t ≡ base_in k t
base_kept k (Begins u mode) t within is apart =
    base_by k (begun mode k) t refl
    (ap (λ (y : Known). y.base) ((known_begun k mode).others t (differ (length k.known) t (ap (λ (n : ℕ). n == t) (sym is) ∙ apart))))
base_kept k (Looks u) t within is apart = at (known_of k u).mode.snapshot
  where
    at : (b : Bool) → base_in (cond b k (rebased u k)) t ≡ base_in k t
    at true = refl
    at false = base_by k (rebased u k) t refl (other_base k u t (record (known_of k u) { base = length k.database; saw = length k.committed }) (differ u t apart))
base_kept k (Makes u table row) t within is apart = refl
base_kept k (Gives u table key row) t within is apart = refl
base_kept k (Marks u) t within is apart = refl
base_kept k (Saves u name) t within is apart = refl
base_kept k (TakesBack u point) t within is apart = refl
base_kept k (Ends u Active) t within is apart = ended_base k u t (record (known_of k u) { state = Active }) refl
base_kept k (Ends u Limbo) t within is apart = ended_base k u t (record (known_of k u) { state = Limbo }) refl
base_kept k (Ends u Dead) t within is apart = ended_base k u t (record (known_of k u) { state = Dead }) refl
base_kept k (Ends u Committed) t within is apart =
    longer_base k (kept_by (Ends u Committed) k) t (changes_by u k.steps) within refl
    (same_base k u t (record (known_of k u) { state = Committed; place = length k.committed + 1 }) refl)
base_kept k Nothing t within is apart = refl

-- an effect leaves the deeds of others
deeds_kept : (k : Keeping) (eff : Effect) (t : ℕ) → is_of t (doer eff) ≡ false
    → deeds_by t (kept_by eff k).steps ≡ deeds_by t k.steps
deeds_kept k (Begins u mode) t apart = refl
deeds_kept k (Looks u) t apart = at (known_of k u).mode.snapshot
  where
    at : (b : Bool) → deeds_by t (cond b k (rebased u k)).steps ≡ deeds_by t k.steps
    at true = refl
    at false = refl
deeds_kept k (Makes u table row) t apart = rw apart refl
deeds_kept k (Gives u table key row) t apart = rw apart refl
deeds_kept k (Marks u) t apart = rw apart refl
deeds_kept k (Saves u name) t apart = rw apart refl
deeds_kept k (TakesBack u point) t apart = deeds_by-taken_back_other t u point k.steps apart
deeds_kept k (Ends u Active) t apart = refl
deeds_kept k (Ends u Limbo) t apart = refl
deeds_kept k (Ends u Dead) t apart = refl
deeds_kept k (Ends u Committed) t apart = refl
deeds_kept k Nothing t apart = refl

-- ---- views

-- noting what a transaction waits on changes no view
pub noted_view : (k : Keeping) (of : Option ℕ) (on : Option TxNo) (t : ℕ)
    → (told_in (noted_in of on k)).view t ≡ (told_in k).view t
noted_view k of on t =
    let rest = noted_rest k of on in
    λ i. changes_by t (rest.3 i) ++ base_by k (noted_in of on k) t rest.4 (noted_same k of on t).base i

-- an answer allows its effect, also where memory is short
answer_allowed : (k : Keeping) (e : Event) (a : Answer) → IsAnswer k e a → IsAllowed k (effect_with e a)
answer_allowed k e Fine is = allowed k e Fine is
answer_allowed k e (Tx t) is = allowed k e (Tx t) is
answer_allowed k e (Rows rows) is = tt
answer_allowed k e (No refusal) is = tt

-- an event of another transaction, which draws no number of this one, leaves its view
pub view_kept : (k : Keeping) (e : Event) (a : Answer) (t : ℕ)
    → LieWithin (length k.database) k.opened k.known → IsAnswer k e a
    → is_of t (transaction_of e) ≡ false → is_of t (drawn (effect_with e a)) ≡ false
    → (told_in (kept_after e a k)).view t ≡ (told_in k).view t
view_kept k e a t within is apart undrawn =
    let other = others_by_event t (entry e a) apart undrawn in
    noted_view (kept_by (effect_with e a) k) (transaction_of e) (waits_by a) t
    ∙ (λ i. changes_in (deeds_kept k (effect_with e a) t other i)
    ++ base_kept k (effect_with e a) t within (answer_allowed k e a is) other i)

-- ---- what lies within stays so

pub within_more : (count more opened : ℕ) (known : List Known) → count ≤ more
    → LieWithin count opened known → LieWithin more opened known
within_more count more opened known le within t = let old = within t in omega (arith, le)

pub within_set : (count opened : ℕ) (known : List Known) (u : ℕ) (x : Known) → x.base ≤ count
    → LieWithin count opened known → LieWithin count opened (set known u x)
within_set count opened known u x le within t = elim (cases_lt u (length known)) [
  | inl inside ↦ elim (cases_eq t u) [
    | inl e ↦ rw (e, get_or-set_same known u x (unknown opened) inside) le
    | inr apart ↦ rw (get_or-set_other known u t x (unknown opened) apart) (within t)
  ]
  | inr past ↦ rw (set_past known u x past) (within t)
]

pub within_pushed : (count opened : ℕ) (known : List Known) (x : Known) → x.base ≤ count
    → LieWithin count opened known → LieWithin count opened (known ++ x ∷ [])
within_pushed count opened [] x le within zero = le
within_pushed count opened [] x le within (suc t) = within t
within_pushed count opened (y ∷ known) x le within zero = within 0
within_pushed count opened (y ∷ known) x le within (suc t) =
    within_pushed count opened known x le (λ n. within (suc n)) t

-- after a push, whether or not memory was short
pub within_tried : (count opened : ℕ) (known now : List Known) (x : Known) (done : Bool)
    → now ≡ cond done (known ++ x ∷ []) known → x.base ≤ count → LieWithin count opened known
    → LieWithin count opened now
within_tried count opened known now x true is le within =
    subst (LieWithin count opened) (sym is) (within_pushed count opened known x le within)
within_tried count opened known now x false is le within =
    subst (LieWithin count opened) (sym is) within

-- what is known at an opening has one base
pub within_first : (count opened : ℕ) (states : List TxState) → opened ≤ count
    → LieWithin count opened (known_all opened states)
within_first count opened states le t =
    first (known_at_opening opened Committed) states t le
  where
    first : (x : Known) (states : List TxState) (t : ℕ) → x.base ≤ count
        → (get_or (x ∷ map (λ s. known_at_opening opened s) states) t (unknown opened)).base ≤ count
    first x states zero within = within
    first x [] (suc t) within = le
    first x (s ∷ states) (suc t) within = first (known_at_opening opened s) states t le

pub within_made : (count opened : ℕ) (known : List Known) (states : List TxState)
    → known ≡ known_all opened states → opened ≡ count → LieWithin count opened known
within_made count opened known states is all =
    subst (LieWithin count opened) (sym is) (within_first count opened states (omega (arith, all)))
