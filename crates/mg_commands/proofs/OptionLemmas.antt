-- Options behind one another, and whether words are such.
use Rattle.std.specs.declared.alloc.Global.{Global}
use Rattle.std.proofs.Common.{◌≡◌, ◌∙◌, ◌≤◌, ℕ, List, Option, None, [], ◌∷◌, drop, get_or, length, refl, sym, ap, subst, arith, true, false}
use Rattle.std.proofs.lemmas.Bool.{false≢true}
use Rattle.std.specs.Prelude.{◌↔◌, Bool, IsTrue, String, string_bytes}
use Rattle.mg_words.specs.Words.{texts}
use Rattle.mg_commands.specs.CommandLine.{Follow, FollowStop, Gives, is_left, nothing, number_of, stop_alone, storm_options, with_number, without}
use Rattle.mg_commands.specs.declared.command.Options.{Options}
use Rattle.mg_commands.specs.declared.switch.Switch.{Switch}
use Rattle.mg_commands.specs.declared.switch.Switch.TheVariants.{Page, Limit, Stop}
use Rattle.mg_commands.specs.declared.switch.Switches.{Switches}
use Rattle.mg_commands.specs.SpellingLaws.{spelled_once}

-- there are options that follow
abbrev pub AreOptions : Switches → List (String Global) → Type 0
AreOptions left words = (options : Options) × Follow left (texts words) options

pub none_follow : (left : Switches) (words : List (String Global)) → length words ≡ 0 → AreOptions left words
none_follow left [] is = (nothing, refl)
none_follow left (w ∷ ws) is = absurd (omega (arith, is))

-- the first two words give nothing
pub none_given : (left : Switches) (words : List (String Global)) (name word : String Global) → 2 ≤ length words
    → name ≡ get_or words 0 name → word ≡ get_or words 1 word
    → ((switch : Switch) (number : ℕ) → Gives left (string_bytes name) (string_bytes word) switch number → ⊥)
    → AreOptions left words → ⊥
none_given left [] name word two n w none are = absurd (omega (arith, two))
none_given left (a ∷ []) name word two n w none are = absurd (omega (arith, two))
none_given left (a ∷ b ∷ rest) name word two n w none are =
    gives_not are.1
  where
    gives_not : Follow left (string_bytes a ∷ string_bytes b ∷ texts rest) are.0 → ⊥
    gives_not follow = none follow.0 follow.1
        (subst (λ (s : String Global). Gives left (string_bytes s) (string_bytes word) follow.0 follow.1) (sym n)
        (subst (λ (s : String Global). Gives left (string_bytes a) (string_bytes s) follow.0 follow.1) (sym w)
        follow.3))

-- whether options stand behind the first two words, which give one
pub behind_two : (left : Switches) (words rest : List (String Global)) (name word : String Global)
    (switch : Switch) (result : Bool) → 2 ≤ length words → name ≡ get_or words 0 name
    → word ≡ get_or words 1 word → rest ≡ drop 2 words
    → ((number : ℕ) × Gives left (string_bytes name) (string_bytes word) switch number)
    → (IsTrue result ↔ AreOptions (without switch left) rest) → (IsTrue result ↔ AreOptions left words)
behind_two left [] rest name word switch result two n w is given told = absurd (omega (arith, two))
behind_two left (a ∷ []) rest name word switch result two n w is given told = absurd (omega (arith, two))
behind_two left (a ∷ b ∷ ws) rest name word switch result two n w is given told = (to, from)
  where
    here : Gives left (string_bytes a) (string_bytes b) switch given.0
    here = subst (λ (s : String Global). Gives left (string_bytes s) (string_bytes b) switch given.0) n
        (subst (λ (s : String Global). Gives left (string_bytes name) (string_bytes s) switch given.0) w given.1)

    to : IsTrue result → AreOptions left (a ∷ b ∷ ws)
    to holds =
        let later = told.0 holds in (
          with_number switch given.0 later.0,
          (
            switch,
            given.0,
            later.0,
            here,
            subst (λ (l : List (String Global)). Follow (without switch left) (texts l) later.0) is later.1,
            refl,
          ),
        )

    follows : (options : Options) → Follow left (texts (a ∷ b ∷ ws)) options → IsTrue result
    follows options follow =
        let same : follow.0 ≡ switch = spelled_once follow.0 switch (sym follow.3.named ∙ here.named) in
        told.1 (
          follow.2,
          subst (λ (l : List (String Global)). Follow (without switch left) (texts l) follow.2) (sym is)
              (subst (λ (s : Switch). Follow (without s left) (texts ws) follow.2) same follow.4),
        )

    from : AreOptions left (a ∷ b ∷ ws) → IsTrue result
    from are = follows are.0 are.1

-- ---- options that may not come

not_given : (s : Switch) → number_of s nothing ≡ None
not_given Page = refl
not_given Limit = refl
not_given Stop = refl

-- an option that may not come does not come by another one
stays_closed : (s q : Switch) (left : Switches) → is_left s left ≡ false → is_left s (without q left) ≡ false
stays_closed Page Page left closed = refl
stays_closed Page Limit left closed = closed
stays_closed Page Stop left closed = closed
stays_closed Limit Page left closed = closed
stays_closed Limit Limit left closed = refl
stays_closed Limit Stop left closed = closed
stays_closed Stop Page left closed = closed
stays_closed Stop Limit left closed = closed
stays_closed Stop Stop left closed = refl

other_number : (s q : Switch) (left : Switches) (n : ℕ) (later : Options) → is_left s left ≡ false
    → is_left q left ≡ true → number_of s (with_number q n later) ≡ number_of s later
other_number Page Page left n later closed fresh = absurd (false≢true (sym closed ∙ fresh))
other_number Page Limit left n later closed fresh = refl
other_number Page Stop left n later closed fresh = refl
other_number Limit Page left n later closed fresh = refl
other_number Limit Limit left n later closed fresh = absurd (false≢true (sym closed ∙ fresh))
other_number Limit Stop left n later closed fresh = refl
other_number Stop Page left n later closed fresh = refl
other_number Stop Limit left n later closed fresh = refl
other_number Stop Stop left n later closed fresh = absurd (false≢true (sym closed ∙ fresh))

pub closed_none : (left : Switches) (words : List (List ℕ)) (options : Options) (s : Switch)
    → Follow left words options → is_left s left ≡ false → number_of s options ≡ None
closed_none left [] options s follow closed = ap (number_of s) follow ∙ not_given s
closed_none left (name ∷ []) options s follow closed = absurd follow
closed_none left (name ∷ word ∷ words) options s follow closed =
    ap (number_of s) follow.5
    ∙ (other_number s follow.0 left follow.1 follow.2 closed follow.3.fresh
    ∙ closed_none (without follow.0 left) words follow.2 s follow.4 (stays_closed s follow.0 left closed))

-- the options of `storm` have no number of page writes
pub storm_follows : (words : List (List ℕ)) (options : Options) → Follow storm_options words options
    → Follow storm_options words (record { page = options.page; limit = options.limit; stop = None })
storm_follows words options follow =
    subst (λ (stop : Option ℕ). Follow storm_options words
    (record { page = options.page; limit = options.limit; stop = stop }))
    (closed_none storm_options words options Stop follow refl) follow

-- those of `gfix` have nothing else
pub stop_follows : (words : List (List ℕ)) (options : Options) → Follow stop_alone words options
    → FollowStop words options.stop
stop_follows words options follow =
    subst (λ (page : Option ℕ). Follow stop_alone words
    (record { page = page; limit = None; stop = options.stop }))
    (closed_none stop_alone words options Page follow refl)
    (subst (λ (limit : Option ℕ). Follow stop_alone words
    (record { page = options.page; limit = limit; stop = options.stop }))
    (closed_none stop_alone words options Limit follow refl) follow)
