-- Which rule of all is the first that is broken, from the rules of the records of a layout.
use Rattle.std.proofs.Common.{◌≡◌, subst}
use Rattle.mg_image.specs.Records.{Reading}
use Rattle.mg_image.specs.Sound.{HasHeader, HasTransactions}
use Rattle.mg_image.specs.Tables.{Layout}
use Rattle.mg_layout.specs.HasPages.{HasPages}
use Rattle.mg_reading.specs.declared.image.Image.{Image}
use Rattle.mg_reading.specs.declared.point.ReadFault.{ReadFault}
use Rattle.mg_reading.specs.declared.point.ReadFault.TheVariants.{Broken, Memory}
use Rattle.mg_reading.specs.declared.point.Rule.TheVariants.{Header, Transactions, Pages as RulePages, Once, Links, Drawn, Backs, Keys, Indexed}
use Rattle.mg_reading.specs.declared.rows.RowCoding.{RowCoding}
use Rattle.mg_reading.specs.ImageView.{pages_in}
use Rattle.mg_soundness.specs.Ladder.{IsFirstBroken, IsOnceLinked, IsStanding, MeetsPages, MeetsRecords}
use Rattle.mg_soundness.specs.Rungs.{HasReadingOf, IsFirstBrokenOf, MeetsBacks, MeetsDrawn, MeetsIndexed, MeetsKeys, MeetsLinks}

-- what the records of the layout meet, the image meets
pub some_records : (P : RowCoding → Image → Layout → Reading → Type 0) (coding : RowCoding)
    (image : Image) (layout : Layout) → IsStanding coding image layout
    → HasReadingOf P coding image layout → MeetsRecords coding image P
some_records P coding image layout is reads =
    ((is.header, is.transactions), (layout, is.pages, (is.once, reads)))

-- what they do not meet, the image does not, since it has no other layout
no_records : (P : RowCoding → Image → Layout → Reading → Type 0) (coding : RowCoding)
    (image : Image) (layout : Layout) → IsStanding coding image layout
    → (HasReadingOf P coding image layout → ⊥) → MeetsRecords coding image P → ⊥
no_records P coding image layout is none (rules, (other, pages, (once, reads))) =
    none (subst (λ (l : Layout). HasReadingOf P coding image l) (is.only other pages) reads)

pub first_of_records : (coding : RowCoding) (image : Image) (layout : Layout)
    → IsStanding coding image layout → (fault : ReadFault)
    → IsFirstBrokenOf coding image layout fault → IsFirstBroken coding image fault
first_of_records coding image layout is (Broken Header) first = absurd first
first_of_records coding image layout is (Broken Transactions) first = absurd first
first_of_records coding image layout is (Broken RulePages) first = absurd first
first_of_records coding image layout is (Broken Once) first = absurd first
first_of_records coding image layout is (Broken Links) none = (
  ((is.header, is.transactions), (layout, is.pages, is.once)),
  no_records MeetsLinks coding image layout is none,
)
first_of_records coding image layout is (Broken Drawn) first = (
  some_records MeetsLinks coding image layout is first.0,
  no_records MeetsDrawn coding image layout is first.1,
)
first_of_records coding image layout is (Broken Backs) first = (
  some_records MeetsDrawn coding image layout is first.0,
  no_records MeetsBacks coding image layout is first.1,
)
first_of_records coding image layout is (Broken Keys) first = (
  some_records MeetsBacks coding image layout is first.0,
  no_records MeetsKeys coding image layout is first.1,
)
first_of_records coding image layout is (Broken Indexed) first = (
  some_records MeetsKeys coding image layout is first.0,
  no_records MeetsIndexed coding image layout is first.1,
)
first_of_records coding image layout is Memory first = tt

-- where a page is reached twice, that rule is the first broken
pub once_first : (coding : RowCoding) (image : Image) (layout : Layout)
    → HasHeader image.size (pages_in image) → HasTransactions image.size (pages_in image)
    → HasPages coding image layout
    → ((other : Layout) → HasPages coding image other → other ≡ layout)
    → (IsOnceLinked image layout → ⊥) → IsFirstBroken coding image (Broken Once)
once_first coding image layout header transactions pages only none = (
  ((header, transactions), (layout, pages, tt)),
  λ met. twice met,
)
  where
    twice : MeetsPages coding image (IsOnceLinked image) → ⊥
    twice (rules, (other, also, once)) =
        none (subst (λ (l : Layout). IsOnceLinked image l) (only other also) once)
