-- A call behind one that only looked, and was not refused: what both leave together is what the second one does.
use Rattle.std.proofs.Common.{◌≡◌, ◌⊎◌, inl, inr, ◌≤◌, ◌+◌, ℕ, Option, None, Some, refl, sym, ap, ◌∙◌, subst, arith}
use Rattle.mg_base.specs.Disk.{Meaning, Rose}
use Rattle.mg_base.specs.Image.{Image}
use Rattle.mg_core.specs.declared.parts.Core.{Core}
use Rattle.mg_core.specs.declared.scanning.Place.{Place}
use Rattle.mg_engine.specs.Noting.{OnlyLooks}
use Rattle.mg_engine_change_laws.specs.faults.Told.{TellsFaults}
use Rattle.mg_engine_meaning_laws.specs.Frames.{GivesEvent}
use Rattle.mg_engine_meaning_laws.specs.FreePages.{CoreHasFree}
use Rattle.mg_engine_meaning_laws.specs.Meaning.{Places, means}
use Rattle.mg_model.specs.declared.answer.Answer.{Answer}
use Rattle.mg_model.specs.declared.event.Event.{Event}
use Rattle.mg_model.specs.declared.refusal.Refusal.{Refusal}
use Rattle.mg_model.specs.declared.refusal.Refusal.TheVariants.{DatabaseFull, DiskRead, DiskWrite, Offline, Damaged}
use Rattle.mg_model.specs.Legal.{durable_count}
use Rattle.mg_no_damage_laws.specs.FewPages.{CoreTakes, RoomStands}
use Rattle.mg_no_damage_laws.specs.Stands.{DamageStands}
use Rattle.mg_records.specs.Crashing.{LeavesOnly, LeavesQuietly}
use Rattle.mg_records.specs.Keeping.{Causes, CommitsStay, Elapses, IsOffline, Keeps, Leaves, Reads, TablesStay, WalksStay, down_after}
use Rattle.mg_records.specs.Meaning.{Means}
use Rattle.mg_records.specs.Sessions.{SessionsStay}

-- ---- any keeper of records

rose_behind : (a b c : ℕ) → a ≤ b → Rose b c → Rose a c
rose_behind a b c less (inl more) = inl (omega (arith, less, more))
rose_behind a b c less (inr end) = inr end

at_most : (a b c : ℕ) → a ≤ b → b ≤ c → a ≤ c
at_most a b c less more = omega (arith, less, more)

module _ {R P : Type 0} (m : Means R P) (old mid new : R) (first : Reads m old mid None None) where
  causes_behind : (refusal : Option Refusal) → Causes m mid new refusal → Causes m old new refusal
  causes_behind None cause = tt
  causes_behind (Some (DiskRead count)) cause =
      rose_behind (m.faults old) (m.faults mid) (m.faults new) first.keeps.faults.0 cause
  causes_behind (Some (DiskWrite count)) cause = (
    rose_behind (m.faults old) (m.faults mid) (m.faults new) first.keeps.faults.0 cause.0,
    rose_behind (m.failed_writes old) (m.failed_writes mid) (m.failed_writes new) first.keeps.faults.1 cause.1,
  )
  causes_behind (Some (Damaged page field found wanted)) cause =
      rose_behind (m.damage old) (m.damage mid) (m.damage new) first.keeps.damage cause
  causes_behind (Some (DatabaseFull limit)) cause = (
    rose_behind (m.shortages old) (m.shortages mid) (m.shortages new) first.keeps.shortages cause.0,
    cause.1 ∙ first.keeps.page_limit,
  )
  causes_behind (Some (Offline count)) cause = sym first.keeps.down ∙ cause
  causes_behind (Some refusal) cause = tt

  elapses_behind : Elapses m old mid → Elapses m mid new → Elapses m old new
  elapses_behind one two = record {
    later = at_most (m.moment old) (m.moment mid) (m.moment new) one.later two.later;
    keeps = λ t c within was. two.keeps t c (at_most t (m.moment old) (m.moment mid) within one.later)
        (one.keeps t c within was);
  }

  keeps_behind : (refusal : Option Refusal) → Keeps m mid new refusal → Keeps m old new refusal
  keeps_behind refusal second = record {
    faults = (
      at_most (m.faults old) (m.faults mid) (m.faults new) first.keeps.faults.0 second.faults.0,
      at_most (m.failed_writes old) (m.failed_writes mid) (m.failed_writes new) first.keeps.faults.1 second.faults.1,
    );
    damage = at_most (m.damage old) (m.damage mid) (m.damage new) first.keeps.damage second.damage;
    shortages = at_most (m.shortages old) (m.shortages mid) (m.shortages new) first.keeps.shortages second.shortages;
    cause = causes_behind refusal second.cause;
    offline = subst (λ (down : Option ℕ). IsOffline down refusal) first.keeps.down second.offline;
    down = second.down ∙ ap (λ (down : Option ℕ). down_after down refusal) first.keeps.down;
    tells = second.tells ∙ first.keeps.tells;
    most_writes = second.most_writes ∙ first.keeps.most_writes;
    page_limit = second.page_limit ∙ first.keeps.page_limit;
    time = λ told. elapses_behind (first.keeps.time told) (second.time (first.keeps.tells ∙ told));
    sizes = λ size. second.sizes size ∙ first.keeps.sizes size;
    holds = λ o h least c holds. second.holds o h least c (first.keeps.holds o h least c holds);
    given = λ table was. second.given table (first.keeps.given table was);
    places = λ table place was. second.places table place (first.keeps.places table place was);
  }

  tables_behind : (who : Option ℕ) → TablesStay m mid new who → TablesStay m old new who
  tables_behind who second u name table other was = second u name table other (first.tables u name table refl was)

  walks_behind : (who : Option ℕ) → WalksStay m mid new who → WalksStay m old new who
  walks_behind who second u table after rows other comes =
      second u table after rows other (first.walks_stay u table after rows refl comes)

  commits_behind : (who : Option ℕ) → CommitsStay m mid new who → CommitsStay m old new who
  commits_behind who second = record {
    asked = λ u other was. second.asked u other (first.commits.asked u refl was);
    written = λ u other was. second.written u other (first.commits.written u refl was);
  }

  pub reads_behind : (refusal : Option Refusal) (walks : Option ℕ) → Reads m mid new refusal walks
      → Reads m old new refusal walks
  reads_behind refusal walks second = record {
    stays = λ o h stands. second.stays o h (first.stays o h stands);
    keeps = keeps_behind refusal second.keeps;
    tables = tables_behind None second.tables;
    walks_stay = walks_behind walks second.walks_stay;
    commits = commits_behind walks second.commits;
  }

  leaves_behind : (refusal : Option Refusal) (tables walks : Option ℕ) → Leaves m mid new refusal tables walks
      → Leaves m old new refusal tables walks
  leaves_behind refusal tables walks second = record {
    keeps = keeps_behind refusal second.keeps;
    tables_stay = tables_behind tables second.tables_stay;
    walks_stay = walks_behind walks second.walks_stay;
    commits = commits_behind walks second.commits;
  }

  -- of what a crash might have left since an earlier moment the second call leaves what the first one did
  pub quiet_behind : (refusal : Option Refusal) → Keeps m mid new refusal → LeavesQuietly m old mid
      → LeavesQuietly m mid new → LeavesQuietly m old new
  quiet_behind refusal keeps one two o h stands told = record {
    each = λ c left. at c (behind.before (m.moment old) c ((first.keeps.time told).later) left);
    before = λ t c early left. by t c early (behind.before t c
        (at_most t (m.moment old) (m.moment mid) early (first.keeps.time told).later) left);
  }
    where
      behind : LeavesOnly m mid new (m.holds new o h (durable_count h))
      behind = two o h (first.stays o h stands) (first.keeps.tells ∙ told)

      at : (c : Image) → m.left mid (m.moment old) c ⊎ m.holds new o h (durable_count h) c
          → m.holds new o h (durable_count h) c
      at c (inl was) = keeps.holds o h (durable_count h) c ((one o h stands told).each c was)
      at c (inr holds) = holds

      by : (t : ℕ) (c : Image) → t ≤ m.moment old → m.left mid t c ⊎ m.holds new o h (durable_count h) c
          → m.left old t c ⊎ m.holds new o h (durable_count h) c
      by t c early (inr holds) = inr holds
      by t c early (inl was) = on ((one o h stands told).before t c early was)
        where
          on : m.left old t c ⊎ m.holds mid o h (durable_count h) c
              → m.left old t c ⊎ m.holds new o h (durable_count h) c
          on (inl left) = inl left
          on (inr holds) = inr (keeps.holds o h (durable_count h) c holds)

  pub sessions_behind : (begins ends : Option ℕ) → SessionsStay m old mid None None → SessionsStay m mid new begins ends
      → SessionsStay m old new begins ends
  sessions_behind begins ends one two = record {
    free = λ session other was. two.free session other (one.free session refl was);
    works = λ t session other was. two.works t session other (one.works t session refl was);
    ended = λ t session is was. two.ended t session is (one.works t session refl was);
  }

-- ---- the engine

module _ {D : Type 0} (m : Meaning D) (places : Places Place) (old mid new : Core D)
    (first : OnlyLooks m places old mid None) where
  pub told_behind : (refusal : Option Refusal) → TellsFaults m mid new refusal → TellsFaults m old new refusal
  told_behind refusal second k quiet = second k quiet ∙ first.told k refl

  pub undamaged_behind : DamageStands m mid new → DamageStands m old new
  undamaged_behind second o h stands told =
      second o h (first.reads.stays o h stands) (first.reads.keeps.tells ∙ told) ∙ first.undamaged o h stands told

  pub room_behind : (refusal : Option Refusal) (most : ℕ) → RoomStands m mid new refusal most
      → RoomStands m old new refusal most
  room_behind refusal most second o h stands told = record {
    left = λ count has. last.left count (on (count + most) has);
    enough = λ has. last.enough (on most has);
  }
    where
      last : CoreTakes m mid new refusal most
      last = second o h (first.reads.stays o h stands) (first.reads.keeps.tells ∙ told)

      same : (count : ℕ) → count ≡ count + 0
      same count = omega arith

      on : (count : ℕ) → CoreHasFree m old count → CoreHasFree m mid count
      on count has = (first.room o h stands told).left count (subst (CoreHasFree m old) (same count) has)

  -- another one that only looks
  pub looks_behind : (refusal : Option Refusal) → OnlyLooks m places mid new refusal
      → OnlyLooks m places old new refusal
  looks_behind refusal second = record {
    reads = reads_behind (means m places) old mid new first.reads refusal None second.reads;
    crash = quiet_behind (means m places) old mid new first.reads refusal second.reads.keeps first.crash second.crash;
    sessions = sessions_behind (means m places) old mid new first.reads None None first.sessions second.sessions;
    told = told_behind refusal second.told;
    undamaged = undamaged_behind second.undamaged;
    room = room_behind refusal 0 second.room;
    unwritten = second.unwritten ∙ first.unwritten;
  }

  -- one that gives an event
  pub gives_behind : (event : Event) (answer : Answer) (refusal : Option Refusal) (tables walks begins ends : Option ℕ)
      → GivesEvent m places mid new event answer refusal tables walks begins ends
      → GivesEvent m places old new event answer refusal tables walks begins ends
  gives_behind event answer refusal tables walks begins ends second = record {
    adds = λ o h stands. second.adds o h (first.reads.stays o h stands);
    leaves = leaves_behind (means m places) old mid new first.reads refusal tables walks second.leaves;
    crash = quiet_behind (means m places) old mid new first.reads refusal second.leaves.keeps first.crash second.crash;
    sessions = sessions_behind (means m places) old mid new first.reads begins ends first.sessions second.sessions;
  }
