-- The printed findings of a validation.
use Rattle.std.specs.Prelude.{◌++◌, ◌||◌, ℕ, Bool, true, false, not, List, [], ◌∷◌, codes, decimal, length}
use Rattle.mg_findings.specs.declared.finding.Finding.{Finding}
use Rattle.mg_findings.specs.declared.finding.Rule.{Rule}
use Rattle.mg_findings.specs.declared.finding.Rule.TheVariants.{Orphan, Unreached, Dead, Without, Damage}
use Rattle.mg_model.specs.declared.refusal.Refusal.TheVariants as refusals
use Rattle.mg_script.specs.Texts.{refusal_text}

-- what is found is a damage
abbrev pub is_damage : Rule → Bool
is_damage Orphan = false
is_damage Unreached = false
is_damage Dead = false
is_damage Without = false
is_damage (Damage field) = true

-- one of these findings is a damage
abbrev pub has_damage : List Finding → Bool
has_damage [] = false
has_damage (f ∷ fs) = is_damage f.what || has_damage fs

-- a page, and a place on it
abbrev pub page_text : ℕ → List ℕ
page_text n = codes "PAGE " ++ decimal n

abbrev pub place_text : ℕ → List ℕ → ℕ → List ℕ
place_text n word slot = page_text n ++ (word ++ decimal slot)

-- what is told of an orphan page: whether it is released, too
abbrev pub orphan_word : Bool → List ℕ
orphan_word true = codes " ORPHAN RELEASED"
orphan_word false = codes " ORPHAN"

-- the text of a finding, where orphan pages are released or not
abbrev pub text_by : Bool → Finding → Rule → List ℕ
text_by released f Orphan = page_text f.page.0 ++ orphan_word released
text_by released f Unreached =
    place_text f.page.0 (codes " SLOT ") f.slot ++ codes " UNREACHED VERSION"
text_by released f Dead = place_text f.page.0 (codes " SLOT ") f.slot ++ codes " DEAD VERSION"
text_by released f Without = place_text f.page.0 (codes " ENTRY ") f.slot ++ codes " WITHOUT VERSION"
text_by released f (Damage field) = refusal_text (refusals.Damaged f.page field f.found f.wanted)

-- its line
abbrev pub finding_line : Bool → Finding → List ℕ
finding_line released f = text_by released f f.what ++ (10 ∷ [])

-- the lines of several findings
abbrev pub lines_text : Bool → List Finding → List ℕ
lines_text released [] = []
lines_text released (f ∷ fs) = finding_line released f ++ lines_text released fs

-- how many there are
abbrev pub count_line : List Finding → List ℕ
count_line fs = codes "FINDINGS " ++ (decimal (length fs) ++ (10 ∷ []))

-- the whole: a line for each finding, and their number; orphan pages are released where there is no
-- damage
abbrev pub report_text : List Finding → List ℕ
report_text fs = lines_text (not (has_damage fs)) fs ++ count_line fs
