-- What is found has a field.
use Rattle.std.specs.Prelude.{◌≡◌, ◌++◌, ℕ, zero, suc, Bool, List, [], ◌∷◌, Option, None, Some, Result, Ok, Err, length}
use Rattle.std.proofs.Common.{refl, sym, ap, ◌∙◌, inl, inr, subst}
use Rattle.mg_base.specs.Image.{Image, page_at}
use Rattle.mg_base.specs.declared.damage.Damaged.{Damaged}
use Rattle.mg_base.specs.declared.damage.Field.{Field}
use Rattle.mg_base.specs.declared.numbers.RecId.{RecId}
use Rattle.mg_check_catalog.specs.CatalogRung.{IsRungFinding}
use Rattle.mg_check_data.specs.DataRung.{IsDataFinding}
use Rattle.mg_check_data.specs.declared.data.DataSeat.{DataSeat}
use Rattle.mg_check_front.specs.Front.{IsFirstFinding}
use Rattle.mg_check_inventory.specs.TransactionRung as tips
use Rattle.mg_check_records.specs.Records.{AreWalked, end_list}
use Rattle.mg_check_records.specs.Records as walks
use Rattle.mg_check_records.specs.Walks.{IsBodyFinding, IsMissed, IsStop, IsWalk, Met}
use Rattle.mg_check_records.specs.Walks as stops
use Rattle.mg_check_tables.specs.TableRung.{IsChainFinding, IsTableFinding}
use Rattle.mg_check_tables.specs.TableRung as chains
use Rattle.mg_file_figures.specs.CatalogRows.{IsCatalogStop, IsStopped}
use Rattle.mg_file_figures.specs.Stating.{HasField}
use Rattle.mg_file_figures.specs.Tables.{IsFoundAmong, IsFoundIn, IsPagesFinding}
use Rattle.mg_file_figures.specs.Tables as found_
use Rattle.mg_findings.specs.declared.finding.Finding.{Finding}
use Rattle.mg_findings.specs.declared.finding.Rule.{Rule}
use Rattle.mg_findings.specs.declared.finding.Rule.TheVariants.{Damage}
use Rattle.mg_findings.specs.Findings.{Has, IsListOf, Tells}
use Rattle.mg_image.specs.Form.{Pages}
use Rattle.mg_image.specs.Records.{Cells}
use Rattle.mg_image.specs.declared.entry.Entry.{Entry}
use Rattle.mg_model.specs.declared.table.Table.{Table}
use Rattle.mg_version.specs.declared.cell.Link.{Link}
use Rattle.mg_version.specs.declared.cell.Version.{Version}

-- ---- tests

same_field : (f g : Finding) → f ≡ g → HasField g → HasField f
same_field f g is field = subst HasField (sym is) field

-- what a test tells of
told_field : (test : Result (Unit {0}) Damaged) (f : Finding) → Tells test f → HasField f
told_field (Ok _) f told = absurd told
told_field (Err damage) f told = same_field f _ told (damage.field, refl)

-- ---- rungs

tips_field : (size : ℕ) (pages : Pages) (count holder n left : ℕ) (f : Finding)
    → tips.IsChainFinding size pages count holder n left f → HasField f
tips_field size pages count holder n zero f found = absurd found
tips_field size pages count holder n (suc left) f (inl (inl told)) = told_field _ f told
tips_field size pages count holder n (suc left) f (inl (inr (_, inl told))) = told_field _ f told
tips_field size pages count holder n (suc left) f (inl (inr (_, inr (_, inl told)))) =
    told_field _ f told
tips_field size pages count holder n (suc left) f
    (inl (inr (_, inr (_, inr (_, inl first))))) = told_field _ f first.told
tips_field size pages count holder n (suc left) f
    (inl (inr (_, inr (_, inr (_, inr later))))) = told_field _ f later.1
tips_field size pages count holder n (suc left) f (inr later) =
    tips_field size pages count n _ left f later.1

front_field : (size : ℕ) (image : Image) (f : Finding) → IsFirstFinding size image f → HasField f
front_field size image f (inl told) = told_field _ f told
front_field size image f (inr (_, inl region)) = told_field _ f region.1.told
front_field size image f (inr (_, inr (_, inl told))) = told_field _ f told
front_field size image f (inr (_, inr (_, inr chain))) = tips_field _ _ _ _ _ _ f chain

-- ---- tables

data_field : (size : ℕ) (pages : Pages) (count : ℕ) (seat : DataSeat) (f : Finding)
    → IsDataFinding size pages count seat f → HasField f
data_field size pages count seat f (inl (inl told)) = told_field _ f told
data_field size pages count seat f (inl (inr (_, inl told))) = told_field _ f told
data_field size pages count seat f (inl (inr (_, inr (_, inl field)))) =
    same_field f _ field.2 (field.0.field, refl)
data_field size pages count seat f (inl (inr (_, inr (_, inr later)))) = told_field _ f later.1
data_field size pages count seat f (inr (_, cell)) = same_field f _ cell.1.is (_, refl)

chain_field : (size : ℕ) (pages : Pages) (count owner holder n at place : ℕ) (f : Finding)
    → IsChainFinding size pages count owner holder n at place f → HasField f
chain_field size pages count owner holder n at place f (chains.of_page _ _ _ _ _ some (inl told)) =
    told_field _ f told
chain_field size pages count owner holder n at place f
    (chains.of_page _ _ _ _ _ some (inr (_, inl told))) = told_field _ f told
chain_field size pages count owner holder n at place f
    (chains.of_page _ _ _ _ _ some (inr (_, inr later))) = told_field _ f later.1
chain_field size pages count owner holder n at place f (chains.of_entry _ _ _ _ _ some none entry) =
    data_field size pages count _ f entry.2
chain_field size pages count owner holder n at place f (chains.of_next _ _ _ _ _ some none later) =
    chain_field size pages count owner _ _ _ _ f later

table_field : (size : ℕ) (pages : Pages) (count holder first : ℕ) (f : Finding)
    → IsTableFinding size pages count holder first f → HasField f
table_field size pages count holder first f (inl told) = told_field _ f told.1
table_field size pages count holder first f (inr chain) = chain_field size pages count first _ _ _ _ f chain

pub rung_field : (size : ℕ) (image : Image) (f : Finding) → IsRungFinding size image f → HasField f
rung_field size image f (inl front) = front_field size image f front
rung_field size image f (inr (_, catalog)) = table_field _ _ _ _ _ f catalog

-- ---- records

missed_field : (h : Cells) (ns : List ℕ) (holder : RecId) (l : Link) (f : Finding)
    → IsMissed h ns holder l f → HasField f
missed_field h ns holder l f (stops.outside none is) = same_field f _ is (_, refl)
missed_field h ns holder l f (stops.strange has none is) = same_field f _ is (_, refl)

body_field : (table : Table) (x : RecId) (v : Version) (f : Finding) → IsBodyFinding table x v f → HasField f
body_field table x v f (stops.of_format other is) = same_field f _ is (_, refl)
body_field table x v f (stops.of_run at first breaks is) = same_field f _ is (_, refl)
body_field table x v f (stops.of_row at first refuses is) = same_field f _ is (_, refl)
body_field table x v f (stops.of_rest i row first deleted decodes kept is) = same_field f _ is (_, refl)

stop_field : (h : Cells) (table : Table) (ns : List ℕ) (met : Met) (holder : RecId) (l : Link)
    (f : Finding) → IsStop h table ns met holder l f → HasField f
stop_field h table ns met holder l f (stops.missed it) = missed_field h ns holder l f it
stop_field h table ns met holder l f (stops.again v meets was is) = same_field f _ is (_, refl)
stop_field h table ns met holder l f (stops.unread v meets was body) = body_field table l.rec v f body

-- where the end of a walk tells of something, it has a field
abbrev EndField : Option Finding → Type 0
EndField end = (f : Finding) → end ≡ Some f → HasField f

some_once : (f g : Finding) → ◌≡◌ {A = Option Finding} (Some f) (Some g) → f ≡ g
some_once f g is = cc

walk_field : (h : Cells) (table : Table) (ns : List ℕ) (met : Met) (holder : RecId)
    (next : Option Link) (es : List Entry) (end : Option Finding)
    → IsWalk h table ns met holder next es end → EndField end
walk_field h table ns met holder next es end (stops.ended _ _) = λ f is. absurd cc
walk_field h table ns met holder next es end (stops.stopped _ _ l g stop) =
    λ f is. same_field f g (sym (some_once g f is)) (stop_field h table ns _ _ l g stop)
walk_field h table ns met holder next es end (stops.goes _ _ l e later _ at meets fresh stored walk) =
    walk_field h table ns _ e.at e.version.back later end walk

pub stopped_field : (h : Cells) (table : Table) (ns : List ℕ) (committed : ℕ → Bool)
    (ps : List RecId) (f : Finding) → IsStopped h table ns committed ps f → HasField f
stopped_field h table ns committed ps f is =
    walk_field h table ns is.met is.at _ is.versions (Some f) is.stop f refl

pub catalog_field : (size : ℕ) (pages : Pages) (f : Finding) → IsCatalogStop size pages f → HasField f
catalog_field size pages f is = stopped_field _ _ _ _ _ f is.stopped

-- what was found on walks over a table
abbrev all_fields : List Finding → Type 0
all_fields found = (f : Finding) → Has found f → HasField f

append_fields : (found : List Finding) (end : Option Finding) → all_fields found → EndField end
    → all_fields (found ++ end_list end)
append_fields [] None all one f has = absurd has
append_fields [] (Some g) all one f (inl is) = same_field f g is (one g refl)
append_fields [] (Some g) all one f (inr none) = absurd none
append_fields (g ∷ gs) end all one f (inl is) = all f (inl is)
append_fields (g ∷ gs) end all one f (inr later) =
    append_fields gs end (λ h has. all h (inr has)) one f later

walked_fields : (h : Cells) (table : Table) (ns : List ℕ) (ps : List RecId) (met : Met)
    (found : List Finding) → AreWalked h table ns ps met found → all_fields found
walked_fields h table ns ps met found walks.begun = λ f has. absurd has
walked_fields h table ns ps met found (walks.more qs before old p es end walked walk) =
    append_fields old end (walked_fields h table ns qs before old walked)
    (walk_field h table ns before p _ es end walk)

found_in_field : (size : ℕ) (image : Image) (holder : ℕ) (table : Table) (f : Finding)
    → IsFoundIn size image holder table f → HasField f
found_in_field size image holder table f (found_.in_pages rest list) =
    table_field _ _ _ _ _ f ((list.members f).0 (inl refl))
found_in_field size image holder table f (found_.in_records ns marks rest none over) =
    walked_fields _ table ns _ over.walked.met (f ∷ rest) over.walked.walked f (inl refl)

pub among_field : (size : ℕ) (image : Image) (holder : ℕ) (tables : List Table) (f : Finding)
    → IsFoundAmong size image holder tables f → HasField f
among_field size image holder tables f is = found_in_field size image holder is.table f is.found
