-- An option is spelled in one way, and a command line asks for one thing.
use Rattle.std.specs.declared.alloc.Global.{Global}
use Rattle.std.specs.Option.{MatchOption}
use Rattle.mg_base.specs.Geometry.{is_page_size}
use Rattle.std.proofs.Common.{Option, None, Some, drop, length, get_or, ◌≡◌, ◌∙◌, ◌≤◌, ℕ, true, false, List, [], ◌∷◌, refl, sym, ap, subst, arith}
use Rattle.std.proofs.lemmas.Bool.{false≢true}
use Rattle.std.proofs.lemmas.Fmt.{decimal_injective}
use Rattle.std.specs.Prelude.{slice_index, string_bytes, String, unwrap_or}
use Rattle.mg_words.specs.Words.{Adds, Follow, IsRun, Spells, end, may_have, nothing, option, spelled, texts, with_number}
use Rattle.mg_words.specs.declared.asked.Asked.{Asked}
use Rattle.mg_words.specs.declared.reading.TheConstants.{USUAL_PAGE}
use Rattle.mg_words.specs.declared.switch.Switch.{Switch}
use Rattle.mg_words.specs.declared.switch.Switch.TheVariants.{Page, Limit, Stop}

-- the third letter tells them
third : (ws vs : List ℕ) → ws ≡ vs → slice_index ws 2 ≡ slice_index vs 2
third ws vs is = ap (λ (x : List ℕ). slice_index x 2) is

pub spelled_once : (a b : Switch) → spelled a ≡ spelled b → a ≡ b
spelled_once Page Page is = refl
spelled_once Page Limit is = let e : 112 ≡ 108 = third (spelled Page) (spelled Limit) is in absurd (omega (arith, e))
spelled_once Page Stop is = let e : 112 ≡ 115 = third (spelled Page) (spelled Stop) is in absurd (omega (arith, e))
spelled_once Limit Page is = let e : 108 ≡ 112 = third (spelled Limit) (spelled Page) is in absurd (omega (arith, e))
spelled_once Limit Limit is = refl
spelled_once Limit Stop is = let e : 108 ≡ 115 = third (spelled Limit) (spelled Stop) is in absurd (omega (arith, e))
spelled_once Stop Page is = let e : 115 ≡ 112 = third (spelled Stop) (spelled Page) is in absurd (omega (arith, e))
spelled_once Stop Limit is = let e : 115 ≡ 108 = third (spelled Stop) (spelled Limit) is in absurd (omega (arith, e))
spelled_once Stop Stop is = refl

pub spells_once : (word : List ℕ) (m n : ℕ) → Spells word m → Spells word n → m ≡ n
spells_once word m n a b =
    let below_m = a.0 in
    let below_n = b.0 in
    decimal_injective m n (omega (arith, below_m)) (omega (arith, below_n)) (a.1 ∙ sym b.1)

-- a number that the option may not have is not added
pub not_lawful : (asked : Asked) (name word : List ℕ) (switch : Switch) (n : ℕ) → name ≡ spelled switch
    → Spells word n → may_have switch n ≡ false → (all : Asked) → Adds asked name word all → ⊥
not_lawful asked name word switch n named spells off all adds =
    let same : adds.switch ≡ switch = spelled_once adds.switch switch (sym adds.named ∙ named) in
    let number : adds.number ≡ n = spells_once word adds.number n adds.spells spells in
    false≢true (sym off ∙ subst (λ (s : Switch). may_have s n ≡ true) same
    (subst (λ (k : ℕ). may_have adds.switch k ≡ true) number adds.lawful))

-- what an option adds is one thing
pub adds_once : (asked : Asked) (name word : List ℕ) (a b : Asked) → Adds asked name word a
    → Adds asked name word b → a ≡ b
adds_once asked name word a b one other =
    let same : one.switch ≡ other.switch = spelled_once one.switch other.switch (sym one.named ∙ other.named) in
    let number : one.number ≡ other.number = spells_once word one.number other.number one.spells other.spells in
    one.more ∙ (ap (λ (s : Switch). with_number s one.number asked) same
    ∙ (ap (λ (k : ℕ). with_number other.switch k asked) number ∙ sym other.more))

pub follow_once : (asked : Asked) (words : List (List ℕ)) (a b : Asked) → Follow asked words a
    → Follow asked words b → a ≡ b
follow_once asked words a b (end x) (end y) = refl
follow_once asked words a b (option x mid all name word rest adds follow) (option y now most n w ws adds_ follow_) =
    let same : mid ≡ now = adds_once asked name word mid now adds adds_ in
    follow_once mid rest a b follow (subst (λ (m : Asked). Follow m rest b) (sym same) follow_)

pub run_once : (words : List (List ℕ)) (a b : Asked) → IsRun words a → IsRun words b → a ≡ b
run_once (p ∷ c ∷ path ∷ options) a b one other = follow_once nothing options a b one.2 other.2
run_once [] a b one other = absurd one
run_once (p ∷ []) a b one other = absurd one
run_once (p ∷ c ∷ []) a b one other = absurd one

-- ---- options behind one another

pub none_left : (asked : Asked) (words : List (String Global)) → length words ≡ 0
    → Follow asked (texts words) asked
none_left asked [] is = end asked
none_left asked (w ∷ ws) is = absurd (omega (arith, is))

-- the first two words, where there are two
pub none_adds : (asked : Asked) (words : List (String Global)) (name word : String Global) → 2 ≤ length words
    → name ≡ get_or words 0 name → word ≡ get_or words 1 word
    → ((all : Asked) → Adds asked (string_bytes name) (string_bytes word) all → ⊥) → (all : Asked)
    → Follow asked (texts words) all → ⊥
none_adds asked [] name word two n w none all follow = absurd (omega (arith, two))
none_adds asked (a ∷ []) name word two n w none all follow = absurd (omega (arith, two))
none_adds asked (a ∷ b ∷ rest) name word two n w none all (option x mid y first second more adds follow) =
    none mid (subst (λ (s : String Global). Adds asked (string_bytes s) (string_bytes word) mid) (sym n)
    (subst (λ (s : String Global). Adds asked (string_bytes a) (string_bytes s) mid) (sym w) adds))

-- what follows the first two words
pub behind_two : (asked more : Asked) (words : List (String Global)) (name word : String Global)
    (result : Option Asked) (rest : List (String Global)) → 2 ≤ length words → name ≡ get_or words 0 name
    → word ≡ get_or words 1 word → rest ≡ drop 2 words
    → Adds asked (string_bytes name) (string_bytes word) more
    → MatchOption result ((all : Asked) → Follow more (texts rest) all → ⊥)
    (λ all. Follow more (texts rest) all)
    → MatchOption result ((all : Asked) → Follow asked (texts words) all → ⊥)
    (λ all. Follow asked (texts words) all)
behind_two asked more [] name word result rest two n w is adds told = absurd (omega (arith, two))
behind_two asked more (a ∷ []) name word result rest two n w is adds told = absurd (omega (arith, two))
behind_two asked more (a ∷ b ∷ ws) name word result rest two n w is adds told = at result told
  where
    here : Adds asked (string_bytes a) (string_bytes b) more
    here = subst (λ (s : String Global). Adds asked (string_bytes s) (string_bytes b) more) n
        (subst (λ (s : String Global). Adds asked (string_bytes name) (string_bytes s) more) w adds)

    none : ((all : Asked) → Follow more (texts rest) all → ⊥) → (all : Asked)
        → Follow asked (texts (a ∷ b ∷ ws)) all → ⊥
    none no_rest all (option x mid y first second later adds_ follow) =
        let same : mid ≡ more = adds_once asked (string_bytes a) (string_bytes b) mid more adds_ here in
        no_rest all (subst (λ (l : List (String Global)). Follow more (texts l) all) (sym is)
        (subst (λ (m : Asked). Follow m (texts ws) all) same follow))

    at : (r : Option Asked) → MatchOption r ((all : Asked) → Follow more (texts rest) all → ⊥)
        (λ all. Follow more (texts rest) all)
        → MatchOption r ((all : Asked) → Follow asked (texts (a ∷ b ∷ ws)) all → ⊥)
        (λ all. Follow asked (texts (a ∷ b ∷ ws)) all)
    at None no_rest = none no_rest
    at (Some all) follow = option asked more all (string_bytes a) (string_bytes b) (texts ws) here
        (subst (λ (l : List (String Global)). Follow more (texts l) all) is follow)

-- ---- the page size

-- a page size that is asked for is one
abbrev IsSize : Option ℕ → Type 0
IsSize None = Unit {0}
IsSize (Some n) = is_page_size n ≡ true

size_added : (asked all : Asked) (name word : List ℕ) → IsSize asked.page → Adds asked name word all
    → IsSize all.page
size_added asked all name word is adds = subst (λ (a : Asked). IsSize a.page) (sym adds.more)
    (at adds.switch adds.lawful)
  where
    at : (s : Switch) → may_have s adds.number ≡ true → IsSize (with_number s adds.number asked).page
    at Page lawful = lawful
    at Limit lawful = is
    at Stop lawful = is

size_follows : (asked : Asked) (words : List (List ℕ)) (all : Asked) → IsSize asked.page
    → Follow asked words all → IsSize all.page
size_follows asked words all is (end x) = is
size_follows asked words all is (option x mid y name word rest adds follow) =
    size_follows mid rest all (size_added asked mid name word is adds) follow

pub size_is : (words : List (List ℕ)) (asked : Asked) → IsRun words asked
    → is_page_size (unwrap_or asked.page USUAL_PAGE) ≡ true
size_is (p ∷ c ∷ path ∷ options) asked run = at asked.page (size_follows nothing options asked tt run.2)
  where
    at : (page : Option ℕ) → IsSize page → is_page_size (unwrap_or page USUAL_PAGE) ≡ true
    at None is = refl
    at (Some n) is = is
size_is [] asked run = absurd run
size_is (p ∷ []) asked run = absurd run
size_is (p ∷ c ∷ []) asked run = absurd run
