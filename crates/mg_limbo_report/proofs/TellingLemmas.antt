-- How the command ends, and what the sink took.
use Rattle.std.specs.Prelude.{◌≡◌, List}
use Rattle.std.proofs.Common.{sym, subst}
use Rattle.mg_base.specs.Streams.{SinkMeaning}
use Rattle.mg_base.specs.declared.numbers.TxNo.{TxNo}
use Rattle.mg_model.specs.declared.refusal.Refusal.{Refusal}
use Rattle.mg_model.specs.declared.refusal.Refusal.TheVariants as refusals
use Rattle.mg_limbo_report.specs.declared.ending.LookEnd.{LookEnd}
use Rattle.mg_limbo_report.specs.declared.ending.LookEnd.TheVariants.{Told, Stream, Refused}
use Rattle.mg_limbo_report.specs.Report.{SaysList, Tells}

-- ---- how it ends

-- more is known of what was told
pub tells_on : {K : Type 0} (P Q : List TxNo → Type 0) (R S : Refusal → Type 0) (n : SinkMeaning K)
    (old new : K) (end : LookEnd) → ((list : List TxNo) → P list → Q list)
    → ((refusal : Refusal) → R refusal → S refusal) → Tells P R n old new end
    → Tells Q S n old new end
tells_on P Q R S n old new Told lists refusals_ tells = (
  record { list = tells.0.list; told = lists tells.0.list tells.0.told; printed = tells.0.printed },
  tells.1,
)
tells_on P Q R S n old new Stream lists refusals_ tells = (
  record { list = tells.0.list; told = lists tells.0.list tells.0.told; printed = tells.0.printed },
  tells.1,
)
tells_on P Q R S n old new (Refused refusal) lists refusals_ tells =
    (refusals_ refusal tells.0, tells.1)

-- a list is told
pub list_tells : {K : Type 0} (P : List TxNo → Type 0) (R : Refusal → Type 0) (n : SinkMeaning K)
    (old new : K) (list : List TxNo) (end : LookEnd) → SaysList n old new list end → P list
    → R refusals.Memory → Tells P R n old new end
list_tells P R n old new list end says told memory = tells_on (λ it. it ≡ list) P
    (λ it. it ≡ refusals.Memory) R n old new end (λ it is. subst P (sym is) told)
    (λ it is. subst R (sym is) memory) says
