-- The command `run` is taken with its options in any order, and what its rows are.
use Rattle.std.proofs.Common.{◌≡◌, ◌&&◌, ◌||◌, Bool, true, false, refl, sym, ap, subst, ◌∙◌, codes, List, [], ◌∷◌, ◌++◌, Option, Some, None, fold}
use Rattle.std.specs.Prelude.{unwrap_or, find, if◌then◌else◌}
use Rattle.std.specs.Str.{bytes_eq}
use Rattle.clap.specs.Words.{Row, Rule, Text, first_of, subcommand_of, takes}
use Rattle.clap.specs.Walk.{Names, Walk, arg_by_id, at_row, finished, has_row, idle, more_values, nothing_held, option, reading_by, settled, used, walk, walk_from, walked, with_default, without}
use Rattle.clap.specs.Simple.{Shape, built, entered, names_of}
use Rattle.clap.specs.Takes.{entered_passes, level_passes, settle_passes, turn_passes, walk_passes}
use Rattle.clap.specs.declared.parser.ValueSource.TheVariants.{CommandLine}
use Rattle.mg_command_line.specs.Commands.{main_app, run_app}
use Rattle.mg_command_line.specs.Options.{AreOptions, HasRun, IsPlainWord, Switch, given, limit, name_of, option_words, page, run_words, spelled, stop}
use Rattle.mg_command_line.proofs.PlainWords.{IsPlain, path_rule, plain_of}

-- ---- the command

-- the command `run` as it is built
abbrev pub shape : Shape
shape = unwrap_or (find (λ s. bytes_eq s.name (codes "run")) (built main_app).subs) run_app.top

abbrev rules : List Rule
rules = shape.rules

-- ---- states between two options

-- the path, or an option
abbrev id_of : Option Switch → Text
id_of None = codes "path"
id_of (Some s) = name_of s

abbrev rule : Option Switch → Rule
rule w = unwrap_or (arg_by_id rules (id_of w)) path_rule

abbrev row : Option Switch → Text → Row
row w value = record {
  id = id_of w;
  values = value ∷ [];
  count = None;
  source = Some CommandLine;
  reading = reading_by (rule w);
}

-- all but the last one is used, which is pending
abbrev between : List Row → Option Switch → Text → Walk
between rs w value = record {
  held = record { rows = rs; pending = Some (id_of w, value ∷ []); skip = 0 };
  waiting = idle;
  position = 2;
  is_trailing = false;
  stopped = None;
}

-- the word of an option was met, and its value is to come
abbrev within : List Row → Switch → Walk
within rs s = record {
  held = record { rows = rs; pending = Some (name_of s, []); skip = 0 };
  waiting = option (name_of s);
  position = 2;
  is_trailing = false;
  stopped = None;
}

module _ (path : Text) (plain : IsPlain path) where
  first_walked : walked rules [] (walk_from nothing_held) path ≡ between [] None path
  unfolding walked
  first_walked = rw (plain.dashes, plain.long, plain.short) refl

  first_passes : turn_passes shape [] (walk_from nothing_held) path ≡ true
  first_passes = rw (plain.dashes, plain.long, plain.short) refl

module _ (rs : List Row) (value : Text) where
  met : (w : Option Switch) (s : Switch)
      → walked rules [] (between rs w value) (spelled s) ≡ within (used (rule w) (value ∷ []) rs) s
  unfolding walked
  met None page = refl
  met None limit = refl
  met None stop = refl
  met (Some page) page = refl
  met (Some page) limit = refl
  met (Some page) stop = refl
  met (Some limit) page = refl
  met (Some limit) limit = refl
  met (Some limit) stop = refl
  met (Some stop) page = refl
  met (Some stop) limit = refl
  met (Some stop) stop = refl

  passes_met : (w : Option Switch) (s : Switch) → has_row (id_of w) rs ≡ false
      → turn_passes shape [] (between rs w value) (spelled s) ≡ true
  passes_met None page fresh = rw fresh refl
  passes_met None limit fresh = rw fresh refl
  passes_met None stop fresh = rw fresh refl
  passes_met (Some page) page fresh = rw fresh refl
  passes_met (Some page) limit fresh = rw fresh refl
  passes_met (Some page) stop fresh = rw fresh refl
  passes_met (Some limit) page fresh = rw fresh refl
  passes_met (Some limit) limit fresh = rw fresh refl
  passes_met (Some limit) stop fresh = rw fresh refl
  passes_met (Some stop) page fresh = rw fresh refl
  passes_met (Some stop) limit fresh = rw fresh refl
  passes_met (Some stop) stop fresh = rw fresh refl

  settles : (w : Option Switch) → has_row (id_of w) rs ≡ false
      → settle_passes rules shape.args_override_self (between rs w value).held ≡ true
  settles None fresh = rw fresh refl
  settles (Some page) fresh = rw fresh refl
  settles (Some limit) fresh = rw fresh refl
  settles (Some stop) fresh = rw fresh refl

module _ (rs : List Row) (value : Text) (plain : IsPlain value) where
  valued : (s : Switch) → walked rules [] (within rs s) value ≡ between rs (Some s) value
  unfolding walked
  valued page = rw (plain.dashes, plain.long, plain.short) refl
  valued limit = rw (plain.dashes, plain.long, plain.short) refl
  valued stop = rw (plain.dashes, plain.long, plain.short) refl

  passes_valued : (s : Switch) → turn_passes shape [] (within rs s) value ≡ true
  passes_valued page = rw (plain.dashes, plain.long, plain.short) refl
  passes_valued limit = rw (plain.dashes, plain.long, plain.short) refl
  passes_valued stop = rw (plain.dashes, plain.long, plain.short) refl

-- ---- rows

at_absent : (id : Text) (change : Row → List Row) (missing rs : List Row) → has_row id rs ≡ false
    → at_row id change missing rs ≡ rs ++ missing
at_absent id change missing [] none = refl
at_absent id change missing (r ∷ rs) none = at (bytes_eq r.id id) (at_absent id change missing rs) none
  where
    at : (b : Bool) → (has_row id rs ≡ false → at_row id change missing rs ≡ rs ++ missing)
        → (b || has_row id rs) ≡ false
        → (if b then change r ++ rs else r ∷ at_row id change missing rs) ≡ r ∷ (rs ++ missing)
    at true rest is = absurd cc
    at false rest is = ap (λ (l : List Row). r ∷ l) (rest is)

append_none : (rs : List Row) → rs ++ [] ≡ rs
append_none [] = refl
append_none (r ∷ rs) = ap (λ (l : List Row). r ∷ l) (append_none rs)

is_used : (w : Option Switch) (value : Text) (rs : List Row) → has_row (id_of w) rs ≡ false
    → used (rule w) (value ∷ []) rs ≡ rs ++ row w value ∷ []
is_used w value rs fresh = by w fresh
  where
    whole : (id : Text) (change : Row → List Row) (r : Row) → has_row id rs ≡ false
        → at_row id change (r ∷ []) (without id rs) ≡ rs ++ r ∷ []
    whole id change r none =
        let same : without id rs ≡ rs = at_absent id (λ _. []) [] rs none ∙ append_none rs in
        ap (at_row id change (r ∷ [])) same ∙ at_absent id change (r ∷ []) rs none

    by : (w : Option Switch) → has_row (id_of w) rs ≡ false
        → used (rule w) (value ∷ []) rs ≡ rs ++ row w value ∷ []
    by None none = whole (id_of None) (more_values CommandLine (value ∷ [])) (row None value) none
    by (Some page) none = whole (name_of page) (more_values CommandLine (value ∷ [])) (row (Some page) value) none
    by (Some limit) none = whole (name_of limit) (more_values CommandLine (value ∷ [])) (row (Some limit) value) none
    by (Some stop) none = whole (name_of stop) (more_values CommandLine (value ∷ [])) (row (Some stop) value) none

-- ---- options in any order

-- of each option there is no row yet
abbrev AreFresh : List Row → List (Switch × Text) → Type 0
AreFresh rs [] = Unit {0}
AreFresh rs (o ∷ os) = (has_row (name_of o.0) rs ≡ false) × AreFresh rs os

-- each option is another one than this
abbrev AreOther : Text → List (Switch × Text) → Type 0
AreOther id [] = Unit {0}
AreOther id (o ∷ os) = (bytes_eq id (name_of o.0) ≡ false) × AreOther id os

same_both_ways : (a b : Switch) → bytes_eq (name_of a) (name_of b) ≡ bytes_eq (name_of b) (name_of a)
same_both_ways page page = refl
same_both_ways page limit = refl
same_both_ways page stop = refl
same_both_ways limit page = refl
same_both_ways limit limit = refl
same_both_ways limit stop = refl
same_both_ways stop page = refl
same_both_ways stop limit = refl
same_both_ways stop stop = refl

once_other : (s : Switch) (os : List (Switch × Text)) → given s os ≡ None → AreOther (name_of s) os
once_other s [] none = tt
once_other s (o ∷ os) none = at (bytes_eq (name_of o.0) (name_of s)) refl (once_other s os) none
  where
    at : (b : Bool) → bytes_eq (name_of o.0) (name_of s) ≡ b → (given s os ≡ None → AreOther (name_of s) os)
        → (if b then Some o.1 else given s os) ≡ None
        → (bytes_eq (name_of s) (name_of o.0) ≡ false) × AreOther (name_of s) os
    at true is rest none_ = absurd cc
    at false is rest none_ = (same_both_ways s o.0 ∙ is, rest none_)

path_other : (os : List (Switch × Text)) → AreOther (codes "path") os
path_other [] = tt
path_other (o ∷ os) = (by o.0, path_other os)
  where
    by : (s : Switch) → bytes_eq (codes "path") (name_of s) ≡ false
    by page = refl
    by limit = refl
    by stop = refl

has_more : (id : Text) (r : Row) (rs : List Row) → has_row id rs ≡ false → bytes_eq r.id id ≡ false
    → has_row id (rs ++ r ∷ []) ≡ false
has_more id r [] none other = rw other refl
has_more id r (x ∷ xs) none other = at (bytes_eq x.id id) (λ less. has_more id r xs less other) none
  where
    at : (b : Bool) → (has_row id xs ≡ false → has_row id (xs ++ r ∷ []) ≡ false) → (b || has_row id xs) ≡ false
        → (b || has_row id (xs ++ r ∷ [])) ≡ false
    at true rest is = absurd cc
    at false rest is = rest is

grows : (rs : List Row) (w : Option Switch) (value : Text) (os : List (Switch × Text)) → AreFresh rs os
    → AreOther (id_of w) os → AreFresh (rs ++ row w value ∷ []) os
grows rs w value [] fresh other = tt
grows rs w value (o ∷ os) fresh other = (
  has_more (name_of o.0) (row w value) rs fresh.0 other.0,
  grows rs w value os fresh.1 other.1,
)

-- where the walk ends
abbrev at_end : List Row → Option Switch → Text → List (Switch × Text) → Walk
at_end rs w value [] = between rs w value
at_end rs w value (o ∷ os) = at_end (rs ++ row w value ∷ []) (Some o.0) o.1 os

ends : (os : List (Switch × Text)) (rs : List Row) (w : Option Switch) (value : Text) → AreOptions os
    → has_row (id_of w) rs ≡ false → AreFresh rs os → AreOther (id_of w) os
    → fold (walked rules []) (between rs w value) (option_words os) ≡ at_end rs w value os
ends [] rs w value are here fresh other = refl
ends (o ∷ os) rs w value are here fresh other =
    ap (λ (x : Walk). fold (walked rules []) (walked rules [] x o.1) (option_words os)) (met rs value w o.0)
    ∙ (ap (λ (x : Walk). fold (walked rules []) x (option_words os))
    (valued (used (rule w) (value ∷ []) rs) o.1 (plain_of o.1 are.1) o.0)
    ∙ (ap (λ (x : List Row). fold (walked rules []) (between x (Some o.0) o.1) (option_words os))
    (is_used w value rs here)
    ∙ ends os (rs ++ row w value ∷ []) (Some o.0) o.1 are.2 (has_more (name_of o.0) (row w value) rs fresh.0 other.0)
    (grows rs w value os fresh.1 other.1) (once_other o.0 os are.0)))

both : (a b : Bool) → a ≡ true → b ≡ true → (a && b) ≡ true
both a b one also = rw (one, also) refl

all_pass : (os : List (Switch × Text)) (rs : List Row) (w : Option Switch) (value : Text) → AreOptions os
    → has_row (id_of w) rs ≡ false → AreFresh rs os → AreOther (id_of w) os
    → walk_passes shape [] (between rs w value) (option_words os) ≡ true
unfolding walk_passes
all_pass [] rs w value are here fresh other = refl
all_pass (o ∷ os) rs w value are here fresh other =
    both (turn_passes shape [] (between rs w value) (spelled o.0)) _ (passes_met rs value w o.0 here)
    (subst (λ (x : Walk). walk_passes shape [] x (o.1 ∷ option_words os) ≡ true) (sym (met rs value w o.0))
    (both (turn_passes shape [] (within (used (rule w) (value ∷ []) rs) o.0) o.1) _
    (passes_valued (used (rule w) (value ∷ []) rs) o.1 (plain_of o.1 are.1) o.0)
    (subst (λ (x : Walk). walk_passes shape [] x (option_words os) ≡ true)
    (sym (valued (used (rule w) (value ∷ []) rs) o.1 (plain_of o.1 are.1) o.0
    ∙ ap (λ (x : List Row). between x (Some o.0) o.1) (is_used w value rs here)))
    (all_pass os (rs ++ row w value ∷ []) (Some o.0) o.1 are.2
    (has_more (name_of o.0) (row w value) rs fresh.0 other.0) (grows rs w value os fresh.1 other.1)
    (once_other o.0 os are.0)))))

-- ---- the end of the words

append_one : (rs : List Row) (r : Row) (xs : List Row) → (rs ++ r ∷ []) ++ xs ≡ rs ++ r ∷ xs
append_one [] r xs = refl
append_one (x ∷ rs) r xs = ap (λ (l : List Row). x ∷ l) (append_one rs r xs)

abbrev option_rows : List (Switch × Text) → List Row
option_rows [] = []
option_rows (o ∷ os) = row (Some o.0) o.1 ∷ option_rows os

settled_is : (rs : List Row) (w : Option Switch) (value : Text)
    → (settled rules (between rs w value).held).rows ≡ used (rule w) (value ∷ []) rs
settled_is rs None value = refl
settled_is rs (Some page) value = refl
settled_is rs (Some limit) value = refl
settled_is rs (Some stop) value = refl

end_settles : (os : List (Switch × Text)) (rs : List Row) (w : Option Switch) (value : Text) → AreOptions os
    → has_row (id_of w) rs ≡ false → AreFresh rs os → AreOther (id_of w) os
    → settle_passes rules shape.args_override_self (at_end rs w value os).held ≡ true
end_settles [] rs w value are here fresh other = settles rs value w here
end_settles (o ∷ os) rs w value are here fresh other =
    end_settles os (rs ++ row w value ∷ []) (Some o.0) o.1 are.2
    (has_more (name_of o.0) (row w value) rs fresh.0 other.0) (grows rs w value os fresh.1 other.1)
    (once_other o.0 os are.0)

end_rows : (os : List (Switch × Text)) (rs : List Row) (w : Option Switch) (value : Text) → AreOptions os
    → has_row (id_of w) rs ≡ false → AreFresh rs os → AreOther (id_of w) os
    → (settled rules (at_end rs w value os).held).rows ≡ rs ++ row w value ∷ option_rows os
end_rows [] rs w value are here fresh other = settled_is rs w value ∙ is_used w value rs here
end_rows (o ∷ os) rs w value are here fresh other =
    end_rows os (rs ++ row w value ∷ []) (Some o.0) o.1 are.2
    (has_more (name_of o.0) (row w value) rs fresh.0 other.0) (grows rs w value os fresh.1 other.1)
    (once_other o.0 os are.0) ∙ append_one rs (row w value) (option_rows (o ∷ os))

abbrev HaveNoDefaults : List Rule → Type 0
HaveNoDefaults [] = Unit {0}
HaveNoDefaults (a ∷ more) = (a.defaults ≡ []) × HaveNoDefaults more

with_none : (rs : List Row) (a : Rule) → a.defaults ≡ [] → with_default rs a ≡ rs
with_none rs a none = rw none (at (has_row a.id rs))
  where
    at : (b : Bool) → (if b then rs else rs) ≡ rs
    at true = refl
    at false = refl

no_defaults : (as_ : List Rule) (rs : List Row) → HaveNoDefaults as_ → fold with_default rs as_ ≡ rs
no_defaults [] rs none = refl
no_defaults (a ∷ more) rs none = ap (λ (l : List Row). fold with_default l more) (with_none rs a none.0)
    ∙ no_defaults more rs none.1

module _ (path : Text) (os : List (Switch × Text)) (plain : IsPlainWord path) (are : AreOptions os) where
  fresh_ : (l : List (Switch × Text)) → AreFresh [] l
  fresh_ [] = tt
  fresh_ (o ∷ more) = (refl, fresh_ more)

  walk_is : walk rules [] nothing_held (path ∷ option_words os) ≡ at_end [] None path os
  walk_is = ap (λ (x : Walk). fold (walked rules []) x (option_words os)) (first_walked path (plain_of path plain))
      ∙ ends os [] None path are refl (fresh_ os) (path_other os)

  words_pass : walk_passes shape [] (walk_from nothing_held) (path ∷ option_words os) ≡ true
  unfolding walk_passes
  words_pass = both (turn_passes shape [] (walk_from nothing_held) path) _ (first_passes path (plain_of path plain))
      (subst (λ (x : Walk). walk_passes shape [] x (option_words os) ≡ true)
      (sym (first_walked path (plain_of path plain))) (all_pass os [] None path are refl (fresh_ os) (path_other os)))

  pub level : level_passes shape [] nothing_held (path ∷ option_words os) false ≡ true
  level = both (walk_passes shape [] (walk_from nothing_held) (path ∷ option_words os)) _ words_pass
      (subst (λ (x : Walk). (settle_passes rules shape.args_override_self x.held && true) ≡ true) (sym walk_is)
      (both (settle_passes rules shape.args_override_self (at_end [] None path os).held) true
      (end_settles os [] None path are refl (fresh_ os) (path_other os)) refl))

  pub rows : finished rules (walk rules [] nothing_held (path ∷ option_words os)).held
      ≡ row None path ∷ option_rows os
  rows = ap (λ (x : Walk). finished rules x.held) walk_is
      ∙ (no_defaults rules (settled rules (at_end [] None path os).held).rows (refl, (refl, (refl, (refl, tt))))
      ∙ end_rows os [] None path are refl (fresh_ os) (path_other os))

-- ---- the program's own level

abbrev top : Shape
top = (built main_app).top

abbrev names : Names
names = names_of (built main_app)

append_list : (ws : List Text) (w : Text) (more : List Text) → (ws ++ w ∷ []) ++ more ≡ ws ++ w ∷ more
append_list [] w more = refl
append_list (x ∷ ws) w more = ap (λ (l : List Text). x ∷ l) (append_list ws w more)

-- the words after a subcommand's name are its own
stopped_walk : (words ws : List Text) (name : Text)
    → fold (walked top.rules names) (record (walk_from nothing_held) { stopped = Some (name, ws) }) words
    ≡ record (walk_from nothing_held) { stopped = Some (name, ws ++ words) }
unfolding walked
stopped_walk [] ws name = ap (λ (l : List Text). record (walk_from nothing_held) { stopped = Some (name, l) })
    (sym (none_more ws))
  where
    none_more : (l : List Text) → l ++ [] ≡ l
    none_more [] = refl
    none_more (x ∷ l) = ap (λ (m : List Text). x ∷ m) (none_more l)
stopped_walk (word ∷ words) ws name = stopped_walk words (ws ++ word ∷ []) name
    ∙ ap (λ (l : List Text). record (walk_from nothing_held) { stopped = Some (name, l) }) (append_list ws word words)

stopped_passes : (words ws : List Text) (name : Text)
    → walk_passes top names (record (walk_from nothing_held) { stopped = Some (name, ws) }) words ≡ true
unfolding walk_passes walked
stopped_passes [] ws name = refl
stopped_passes (word ∷ words) ws name = stopped_passes words (ws ++ word ∷ []) name

module _ (rest : List Text) where
  abbrev stopped_at : Walk
  stopped_at = record (walk_from nothing_held) { stopped = Some (codes "run", rest) }

  enters : walked top.rules names (walk_from nothing_held) (codes "run")
      ≡ record (walk_from nothing_held) { stopped = Some (codes "run", []) }
  unfolding walked
  enters = refl

  top_walk : walk top.rules names nothing_held (codes "run" ∷ rest) ≡ stopped_at
  top_walk = ap (λ (x : Walk). fold (walked top.rules names) x rest) enters ∙ stopped_walk rest [] (codes "run")

  top_passes : walk_passes top names (walk_from nothing_held) (codes "run" ∷ rest) ≡ true
  unfolding walk_passes
  top_passes = both (turn_passes top names (walk_from nothing_held) (codes "run")) _ refl
      (subst (λ (x : Walk). walk_passes top names x rest ≡ true) (sym enters) (stopped_passes rest [] (codes "run")))

pub runs_taken : (program path : Text) (os : List (Switch × Text)) → IsPlainWord path → AreOptions os
    → takes main_app (run_words program path os) ≡ true
runs_taken program path os plain are =
    subst (λ (x : Walk). (entered_passes (built main_app) x.stopped
    && (walk_passes top names (walk_from nothing_held) (codes "run" ∷ path ∷ option_words os)
    && (settle_passes top.rules top.args_override_self x.held && true))) ≡ true) (sym (top_walk (path ∷ option_words os)))
    (both (level_passes shape [] nothing_held (path ∷ option_words os) false) _ (level path os plain are)
    (both (walk_passes top names (walk_from nothing_held) (codes "run" ∷ path ∷ option_words os)) true
    (top_passes (path ∷ option_words os)) refl))

-- ---- values

first_path : (path : Text) (more : List Row) → first_of (codes "path") (row None path ∷ more) ≡ Some path
first_path path more = refl

first_given : (s : Switch) (os : List (Switch × Text)) → first_of (name_of s) (option_rows os) ≡ given s os
first_given s [] = refl
first_given s (o ∷ os) = at o.0 s (first_given s os)
  where
    at : (q s_ : Switch) → first_of (name_of s_) (option_rows os) ≡ given s_ os
        → first_of (name_of s_) (row (Some q) o.1 ∷ option_rows os)
        ≡ (if bytes_eq (name_of q) (name_of s_) then Some o.1 else given s_ os)
    at page page rest = refl
    at page limit rest = rest
    at page stop rest = rest
    at limit page rest = rest
    at limit limit rest = refl
    at limit stop rest = rest
    at stop page rest = rest
    at stop limit rest = rest
    at stop stop rest = refl

behind_path : (s : Switch) (path : Text) (more : List Row)
    → first_of (name_of s) (row None path ∷ more) ≡ first_of (name_of s) more
behind_path page path more = refl
behind_path limit path more = refl
behind_path stop path more = refl

pub runs_read : (program path : Text) (os : List (Switch × Text)) → IsPlainWord path → AreOptions os
    → HasRun (subcommand_of main_app (run_words program path os)) path os
runs_read program path os plain are = (
  row None path ∷ option_rows os,
  ap (λ (x : Walk). entered (built main_app) x.stopped) (top_walk (path ∷ option_words os))
      ∙ ap (λ (l : List Row). Some (codes "run", l)) (rows path os plain are),
  refl,
  λ s. behind_path s path (option_rows os) ∙ first_given s os,
)
