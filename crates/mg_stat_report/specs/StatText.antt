-- The printed figures of a file.
use Rattle.std.specs.Prelude.{◌++◌, ℕ, Bool, true, false, List, [], ◌∷◌, codes, decimal}
use Rattle.mg_base.specs.declared.numbers.TxNo.{TxNo}
use Rattle.mg_file_figures.specs.declared.figures.FileFigures.{FileFigures}
use Rattle.mg_file_figures.specs.declared.figures.TableFigures.{TableFigures}
use Rattle.mg_stat.specs.declared.figures.Figures.{Figures}

-- a line of a word and a number
abbrev pub number_line : List ℕ → ℕ → List ℕ
number_line word number = word ++ (decimal number ++ (10 ∷ []))

-- the word for whether a sweep is due
abbrev pub due_word : Bool → List ℕ
due_word true = codes "YES"
due_word false = codes "NO"

-- a word and a number
abbrev pub count_text : List ℕ → ℕ → List ℕ
count_text word number = word ++ decimal number

-- the markers of transactions
abbrev pub markers_text : Figures → List ℕ
markers_text it = number_line (codes "NEXT ") it.next ++ (number_line (codes "OIT ") it.oit
    ++ (number_line (codes "OAT ") it.oat ++ number_line (codes "OST ") it.ost))

-- what the header page says, its major version being 1
abbrev pub header_text : Figures → List ℕ
header_text it = number_line (codes "PAGE SIZE ") it.size
    ++ (number_line (codes "VERSION 1.") it.minor ++ markers_text it)

-- the line on the sweep
abbrev pub due_line : Bool → List ℕ
due_line is_due = codes "SWEEP DUE " ++ (due_word is_due ++ (10 ∷ []))

-- the sweep
abbrev pub sweep_text : Figures → List ℕ
sweep_text it = number_line (codes "SWEEP INTERVAL ") it.interval ++ due_line it.is_due

-- the pages
abbrev pub used_text : Figures → List ℕ
used_text it = number_line (codes "PAGES ") it.used ++ number_line (codes "TIP PAGES ") it.tips

-- the sweep and the pages
abbrev pub pages_text : Figures → List ℕ
pages_text it = sweep_text it ++ used_text it

-- the figures of a table
abbrev pub counts_text : TableFigures → List ℕ
counts_text it = count_text (codes " RECORDS ") it.records
    ++ (count_text (codes " VERSIONS ") it.versions ++ number_line (codes " PAGES ") it.pages)

-- the line of a table
abbrev pub table_line : TableFigures → List ℕ
table_line it = codes "TABLE " ++ (it.name ++ counts_text it)

-- the lines of several tables
abbrev pub tables_text : List TableFigures → List ℕ
tables_text [] = []
tables_text (it ∷ its) = table_line it ++ tables_text its

-- the lines of transactions in limbo
abbrev pub limbo_text : List TxNo → List ℕ
limbo_text [] = []
limbo_text (t ∷ ts) = number_line (codes "LIMBO ") t.0 ++ limbo_text ts

-- the whole: the file, its tables, its transactions in limbo
abbrev pub stat_text : FileFigures → List ℕ
stat_text it = header_text it.file
    ++ (pages_text it.file ++ (tables_text it.tables.items ++ limbo_text it.limbo.items))
