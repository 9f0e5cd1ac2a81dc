use Rattle.mg_image.specs.Form.{packed_form}
use Rattle.mg_image_overlay_laws.specs.records.Chains.{read_beside}
use Rattle.mg_image_overlay_laws.specs.pages.DataKept.{data_more, data_self}
use Rattle.mg_image_overlay_laws.specs.tables.LayoutStays.{layout_stays}
use Rattle.mg_image_overlay_laws.proofs.stands.data_pages_leave.Goals as goal

pub returns-clause-pages : goal.returns-clause-pages
returns-clause-pages c size state old mid new layout r b sound = (
  data_self packed_form size state old layout r sound,
  λ was change. data_more packed_form size state old layout r sound mid new b was change,
)

pub returns-clause-layout : goal.returns-clause-layout
returns-clause-layout c size state old new a b r s first second change others =
    layout_stays packed_form c.one_reading.ensures.packed_rows (λ page n is. is) size state old new a b r s
    first second change others

pub returns-clause-records : goal.returns-clause-records
returns-clause-records c size state old new layout r s q first second leads same =
    read_beside packed_form c.one_reading.ensures.packed_rows size state old new layout r s first second q leads
    same
