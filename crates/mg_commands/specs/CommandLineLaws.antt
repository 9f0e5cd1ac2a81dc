-- A command line asks for one command.
use Rattle.std.proofs.Common.{◌≡◌, ◌∙◌, ℕ, List, [], ◌∷◌, Option, None, refl, sym, ap, ap₂, subst}
use Rattle.mg_commands.specs.CommandLine.{Asks, Follow, FollowStop, IsCommandLine, Tends, care_word, command_word, every_option, stop_alone, storm_options, with_number, without}
use Rattle.mg_commands.specs.SpellingLaws.{care_once, command_once, spelled_once, spells_once}
use Rattle.mg_commands.specs.declared.command.Care.{Care}
use Rattle.mg_commands.specs.declared.command.Care.TheVariants.{Validate, ListLimbo, Commit, Rollback, Sweep}
use Rattle.mg_commands.specs.declared.command.Command.{Command}
use Rattle.mg_commands.specs.declared.command.Command.TheVariants.{Run, Storm, Load, Stat, Fix}
use Rattle.mg_commands.specs.declared.command.Options.{Options}
use Rattle.mg_commands.specs.declared.switch.Switch.{Switch}
use Rattle.mg_commands.specs.declared.switch.Switches.{Switches}

pub follow_once : (left : Switches) (words : List (List ℕ)) (a b : Options) → Follow left words a
    → Follow left words b → a ≡ b
follow_once left [] a b one other = one ∙ sym other
follow_once left (name ∷ []) a b one other = absurd one
follow_once left (name ∷ word ∷ words) a b one other =
    let switch : one.0 ≡ other.0 = spelled_once one.0 other.0 (sym one.3.named ∙ other.3.named) in
    let number : one.1 ≡ other.1 = spells_once word one.1 other.1 one.3.spells other.3.spells in
    let later : one.2 ≡ other.2 = follow_once (without one.0 left) words one.2 other.2 one.4
    (subst (λ (s : Switch). Follow (without s left) words other.2) (sym switch) other.4) in
    one.5 ∙ (ap (λ (s : Switch). with_number s one.1 one.2) switch
    ∙ (ap₂ (λ (n : ℕ) (o : Options). with_number other.0 n o) number later ∙ sym other.5))

stop_once : (words : List (List ℕ)) (s t : Option ℕ) → FollowStop words s → FollowStop words t → s ≡ t
stop_once words s t one other = ap (λ (o : Options). o.stop)
    (follow_once stop_alone words (record { page = None; limit = None; stop = s })
    (record { page = None; limit = None; stop = t }) one other)

tends_once : (a b : Care) (words : List (List ℕ)) (s t : Option ℕ) → care_word a ≡ care_word b
    → Tends a words s → Tends b words t → Fix a s ≡ Fix b t
tends_once Validate Validate words s t same one other = ap (Fix Validate) (stop_once words s t one other)
tends_once Validate ListLimbo words s t same one other = absurd cc
tends_once Validate (Commit y) words s t same one other = absurd cc
tends_once Validate (Rollback y) words s t same one other = absurd cc
tends_once Validate Sweep words s t same one other = absurd cc
tends_once ListLimbo Validate words s t same one other = absurd cc
tends_once ListLimbo ListLimbo words s t same one other = ap (Fix ListLimbo) (stop_once words s t one other)
tends_once ListLimbo (Commit y) words s t same one other = absurd cc
tends_once ListLimbo (Rollback y) words s t same one other = absurd cc
tends_once ListLimbo Sweep words s t same one other = absurd cc
tends_once (Commit x) Validate words s t same one other = absurd cc
tends_once (Commit x) ListLimbo words s t same one other = absurd cc
tends_once (Commit x) (Commit y) [] s t same one other = absurd one
tends_once (Commit x) (Commit y) (number ∷ words) s t same one other =
    ap₂ (λ (n : ℕ) (stop : Option ℕ). Fix (Commit (record { 0 = n })) stop)
    (spells_once number x.0 y.0 one.0 other.0) (stop_once words s t one.1 other.1)
tends_once (Commit x) (Rollback y) words s t same one other = absurd cc
tends_once (Commit x) Sweep words s t same one other = absurd cc
tends_once (Rollback x) Validate words s t same one other = absurd cc
tends_once (Rollback x) ListLimbo words s t same one other = absurd cc
tends_once (Rollback x) (Commit y) words s t same one other = absurd cc
tends_once (Rollback x) (Rollback y) [] s t same one other = absurd one
tends_once (Rollback x) (Rollback y) (number ∷ words) s t same one other =
    ap₂ (λ (n : ℕ) (stop : Option ℕ). Fix (Rollback (record { 0 = n })) stop)
    (spells_once number x.0 y.0 one.0 other.0) (stop_once words s t one.1 other.1)
tends_once (Rollback x) Sweep words s t same one other = absurd cc
tends_once Sweep Validate words s t same one other = absurd cc
tends_once Sweep ListLimbo words s t same one other = absurd cc
tends_once Sweep (Commit y) words s t same one other = absurd cc
tends_once Sweep (Rollback y) words s t same one other = absurd cc
tends_once Sweep Sweep words s t same one other = ap (Fix Sweep) (stop_once words s t one other)

asks_once : (a b : Command) (words : List (List ℕ)) → command_word a ≡ command_word b → Asks a words
    → Asks b words → a ≡ b
asks_once (Run o) (Run q) words same one other = ap Run (follow_once every_option words o q one other)
asks_once (Run o) (Storm page limit) words same one other = absurd cc
asks_once (Run o) (Load rows q) words same one other = absurd cc
asks_once (Run o) Stat words same one other = absurd cc
asks_once (Run o) (Fix care stop) words same one other = absurd cc
asks_once (Storm p l) (Run q) words same one other = absurd cc
asks_once (Storm p l) (Storm page limit) words same one other =
    ap (λ (o : Options). Storm o.page o.limit)
    (follow_once storm_options words (record { page = p; limit = l; stop = None })
    (record { page = page; limit = limit; stop = None }) one other)
asks_once (Storm p l) (Load rows q) words same one other = absurd cc
asks_once (Storm p l) Stat words same one other = absurd cc
asks_once (Storm p l) (Fix care stop) words same one other = absurd cc
asks_once (Load n o) (Run q) words same one other = absurd cc
asks_once (Load n o) (Storm page limit) words same one other = absurd cc
asks_once (Load n o) (Load m q) [] same one other = absurd one
asks_once (Load n o) (Load m q) (number ∷ words) same one other =
    ap₂ Load (spells_once number n m one.0 other.0) (follow_once every_option words o q one.2 other.2)
asks_once (Load n o) Stat words same one other = absurd cc
asks_once (Load n o) (Fix care stop) words same one other = absurd cc
asks_once Stat (Run q) words same one other = absurd cc
asks_once Stat (Storm page limit) words same one other = absurd cc
asks_once Stat (Load rows q) words same one other = absurd cc
asks_once Stat Stat words same one other = refl
asks_once Stat (Fix care stop) words same one other = absurd cc
asks_once (Fix c s) (Run q) words same one other = absurd cc
asks_once (Fix c s) (Storm page limit) words same one other = absurd cc
asks_once (Fix c s) (Load rows q) words same one other = absurd cc
asks_once (Fix c s) Stat words same one other = absurd cc
asks_once (Fix c s) (Fix care stop) [] same one other = absurd one
asks_once (Fix c s) (Fix care stop) (word ∷ words) same one other =
    tends_once c care words s stop
    (care_once (care_word c) (care_word care) (sym one.0 ∙ other.0)) one.1 other.1

pub line_once : (words : List (List ℕ)) (a b : Command) → IsCommandLine words a → IsCommandLine words b → a ≡ b
line_once [] a b one other = absurd one
line_once (program ∷ []) a b one other = absurd one
line_once (program ∷ word ∷ []) a b one other = absurd one
line_once (program ∷ word ∷ path ∷ words) a b one other = asks_once a b words
    (command_once (command_word a) (command_word b) (sym one.0 ∙ other.0)) one.2 other.2
