-- What the program promises of the command line that asks for the transactions in limbo.
use Rattle.std.specs.Prelude.{◌≡◌, Some, nat_lt}
use Rattle.mg_base.specs.Asking.{AsksReads}
use Rattle.mg_base.specs.Disk.{Meaning}
use Rattle.mg_base.specs.Image.{Image}
use Rattle.mg_base.specs.Streams.{SinkMeaning}
use Rattle.mg_base.specs.declared.geometry.TheConstants.{GREATEST_LIMIT}
use Rattle.mg_limbo_list.specs.Limbo.{AscendFrom}
use Rattle.mg_limbo_report.specs.Report.{EndsWith, IsCareRefusal, IsCause, IsToldOf, Tells, status_of}
use Rattle.mg_limbo_report.specs.declared.ending.LookEnd.{LookEnd}
use Rattle.mg_pool.specs.Pool.{KeepsContent}
use Rattle.mg_run_ends.specs.declared.status.Status.{Status}

-- The transactions in limbo of a disk were listed, with this end: nothing is written, no page is read past the greatest
-- limit, the end is by the disk exactly where its count of faults rose, and the sink took the lines of a list, or the line
-- of a refusal; where the disk tells what it holds, of the list of that, or of the least thing that is found there.
pub record ListsLimbo {D K : Type 0} (m : Meaning D) (n : SinkMeaning K) (old new : D) (sink sink' : K) (end : LookEnd)
    : Type 0 where
  pub content : KeepsContent m old new
  pub reads : AsksReads m old new GREATEST_LIMIT (λ page. nat_lt page GREATEST_LIMIT)
  pub fault : EndsWith m old new end
  pub printed : Tells (AscendFrom 0) IsCareRefusal n sink sink' end
  pub told : (image : Image) → m.held old ≡ Some image
      → Tells (IsToldOf m new image) (IsCause m new image) n sink sink' end

-- The words ask for that list; no script is read, and the status tells how the command has ended.
pub record HasListed {D S K : Type 0} (m : Meaning D) (n : SinkMeaning K) (source source' : S) (old new : D)
    (sink sink' : K) (status : Status) : Type 0 where
  pub source_stays : source' ≡ source
  pub end : LookEnd
  pub status_is : status ≡ status_of end
  pub lists : ListsLimbo m n old new sink sink' end
