-- Taking back stops after some keys.
use Rattle.std.proofs.Common.{◌≡◌, ap, refl, sym, subst, ◌∙◌, ℕ, true, false, List, [], ◌∷◌, None, Some}
use Rattle.std.proofs.lemmas.Bool.{eq-eqb}
use Rattle.mg_base.specs.Disk.{MayLeave, Meaning}
use Rattle.mg_base.specs.Image.{Image}
use Rattle.mg_base.specs.Moments.{joined, leaves_as}
use Rattle.mg_engine_meaning_laws.specs.PlainTables.{HasPlainTables}
use Rattle.mg_engine_change_laws.specs.given_up.BackStops.{StopsAreGivenUp, StopsReading, WritesFailMidway}
use Rattle.mg_base.specs.declared.transaction.TxState.{TxState}
use Rattle.mg_engine_change_laws.specs.given_up.EngineGivenUp.{dead_now, states_now}
use Rattle.mg_engine_change_laws.specs.tables_back.RowsLost.{LoseRows}
use Rattle.mg_engine_meaning_laws.specs.Falling.{all_but}
use Rattle.mg_engine_step_laws.specs.backs.Again.{AreTaken, rolling}
use Rattle.mg_engine_step_laws.specs.backs.DeadMidway.{dead_pool, every_from}
use Rattle.mg_engine_step_laws.specs.backs.DeadRowsLaws.{dead_rows_go}
use Rattle.mg_engine_step_laws.specs.backs.Midway.{IsMidway, LastsDead, MidwaysAreGivenUp, MidwaysBegin}
use Rattle.mg_engine_step_laws.specs.tables_back.Outs.{GoOrStay}
use Rattle.mg_engine_step_laws.specs.commits.PageWrites.{AsksOtherwise}
use Rattle.mg_image.specs.Inventory.{next_of}
use Rattle.mg_image.specs.Sound.{IsSoundBy}
use Rattle.mg_image_overlay_laws.specs.kept.KeptImages.{IsKept}
use Rattle.mg_lasting_laws.specs.Entries.{is_idle}
use Rattle.mg_model.specs.Openings.{everyone}
use Rattle.mg_overlay_laws.specs.Overlays.{left_state}
use Rattle.mg_pool.specs.Dirty.{DirtyPages}
use Rattle.mg_engine_step_laws.specs.backs.MidwayLaws.{holds_back}
use Rattle.mg_engine_step_laws.specs.backs.Shown.{ShowsFirst, ShowsMidway}
use Rattle.mg_engine_step_laws.specs.commits.PageWrites.{KeepAsking}
use Rattle.mg_engine_change_laws.specs.given_up.GivenUp.{EnginesGiveUp, GivesUp}
use Rattle.mg_engine_step_laws.specs.writes.Batches.{ReadsLast}
use Rattle.mg_engine_change_laws.specs.backs.Backs.{BeginsBack, EndsOver}
use Rattle.mg_engine_change_laws.specs.keys.TakingStepLaws.{read_lasts}
use Rattle.mg_engine_change_laws.specs.keys.TakingSteps.{KeysGoOn, StandsMidway}
use Rattle.mg_engine_change_laws.specs.backs.ToTake.{SinceAreTaken, since_point}
use Rattle.mg_grown_catalog_laws.specs.Grown.{CatalogGrows}
use Rattle.mg_image.specs.Form.{packed_form}
use Rattle.mg_lasting_laws.specs.Changing.{QuietHolds}
use Rattle.mg_lasting_laws.specs.CrashStatements.{PoolLeaves}
use Rattle.mg_lasting_laws.specs.Crashes.{HoldsAcknowledged, LeavesSince, may_last}
use Rattle.mg_lasting_laws.specs.Lasting.{LastsOn, LeftOn}
use Rattle.mg_model.specs.History.{Entries, Entry}
use Rattle.mg_model.specs.Laws.{OpeningsBegin}
use Rattle.mg_model.specs.Legal.{IsLawful, is_durable}
use Rattle.mg_model.specs.Machine.{deeds_by, state_of, steps}
use Rattle.mg_tie_laws.specs.Changed.{KeptIn}
use Rattle.mg_model.specs.declared.change.Change.{Change}
use Rattle.mg_model.specs.declared.change.Point.{Point}
use Rattle.mg_model.specs.declared.opening.Opening.{Opening}
use Rattle.mg_pool.specs.Pool.{LeavesOverlays, shown}
use Rattle.mg_pool.specs.declared.pool.Pool.{Pool}
use Rattle.mg_pool_overlay_laws.specs.Needs.{Asked, Sessions}
use Rattle.mg_engine_step_laws.specs.standing.Following.{FollowsEntry, StandsOn}
use Rattle.mg_engine_step_laws.specs.standing.Standing.{ShowsHistory, Standing, Stands}

module _ {D L : Type 0} (m : Meaning D) (since : SinceAreTaken) (begin : MidwaysBegin packed_form D L m)
    (first_shows : ShowsFirst packed_form) (go_on : KeysGoOn D L m) (reads : ReadsLast D L m packed_form)
    (openings : OpeningsBegin) (o : Opening) (h : Entries) (e : Entry) (point : Point) (t : ℕ) (s : Standing)
    (start stopped : Pool D L) (k j : Image) (asked : Asked) (session : Sessions)
    (begins : BeginsBack m o h e point t s start k asked session)
    (stops : StopsReading m o h e point t s start stopped k j asked session begins)
    (ends : EndsOver m start stopped j) where
  abbrev whole : List Change
  whole = since_point point (deeds_by t (steps o h))

  taken : AreTaken o h e t (since_point point (deeds_by t (steps o h)))
  taken = since o h e t point begins.goes.back

  at_mid : StandsMidway m start.geometry.size o h e t whole stops.rest s start stops.mid (shown start.dirty k)
      begins.stands.shows stops.between asked session
  at_mid = go_on start.geometry.size o h e point s start start stops.mid (shown start.dirty k) begins.stands.shows k
      stops.between asked session t whole whole stops.rest stops.keys (openings o begins.stands.opening)
      begins.stands.legal begins.stands.memory begins.goes stops.takes (record {
        cache = begin o h e point s start k asked session t (since_point point (deeds_by t (steps o h))) begins.stands
            begins.lasts begins.pool begins.held begins.tells begins.goes taken;
        pages = first_shows start.geometry.size o h e t (since_point point (deeds_by t (steps o h))) s
            (shown start.dirty k) begins.stands.shows;
      })

  pub midway : LastsDead m packed_form start.geometry.size o h t start stopped asked session
  midway = read_lasts m reads start.geometry.size o h t start stops.at stopped asked session
      (openings o begins.stands.opening) (begins.goes.ends, begins.stands.legal) stops.keeps stops.tells
      (stops.ends.pool.page_size ∙ stops.ends.size) stops.cache

  loses_now : LoseRows start.geometry.size s.state t (shown stops.mid.dirty stops.between) (shown stopped.dirty j)
  loses_now = subst (λ (d : DirtyPages). LoseRows start.geometry.size s.state t (shown stops.mid.dirty stops.between)
      (shown d j)) (sym stops.keeps.dirty) stops.loses

  next_now : next_of (shown stopped.dirty j) ≡ next_of (shown stops.mid.dirty stops.between)
  next_now = ap (λ (d : DirtyPages). next_of (shown d j)) stops.keeps.dirty ∙ stops.next

  module _ (give_up : EnginesGiveUp D L m) (midways_given : MidwaysAreGivenUp packed_form D L m)
      (otherwise : AsksOtherwise D L m packed_form) (refused : Entry) (mid new : Standing) (now_asked : Asked)
      (now_session : Sessions) (grows : CatalogGrows o h) (lawful : IsLawful o h refused)
      (ends_lawful : IsLawful o (refused ∷ h) (rolling t)) (passing : is_durable refused ≡ false)
      (no_failure : may_last refused ≡ false) (gives : GivesUp o h refused (rolling t) t s mid new)
      (keep_asking : KeepAsking o (rolling t ∷ refused ∷ h) asked now_asked session now_session)
      (plain : HasPlainTables start.geometry.size s.state (shown stops.mid.dirty stops.between)) where
    -- between the keys and the rows
    given_mid : Stands packed_form start.geometry.size o (rolling t ∷ refused ∷ h) new
        (Some (shown stops.mid.dirty stops.between))
    given_mid = subst (λ (n : ℕ). (stands : Stands packed_form n o h s (Some (shown start.dirty k)))
        → IsMidway m packed_form n o h e t stops.rest s start stops.mid stops.between asked session
        → ShowsMidway packed_form n o h e t whole stops.rest s (shown start.dirty k) stands.shows
        (shown stops.mid.dirty stops.between) → HasPlainTables n s.state (shown stops.mid.dirty stops.between)
        → Stands packed_form n o (rolling t ∷ refused ∷ h) new (Some (shown stops.mid.dirty stops.between)))
        stops.mid_ends.size
        (λ stands cache pages same. (give_up o h e refused t whole stops.rest s mid new start stops.mid k stops.between
        asked now_asked session now_session stands stops.mid_ends.pool stops.mid_ends.held grows same taken lawful ends_lawful passing
        no_failure gives keep_asking cache pages).0)
        begins.stands at_mid.cache at_mid.pages plain

    states : left_state (all_but t) s.state ≡ left_state everyone new.state
    states = states_now o h refused (rolling t) t s mid new gives

    every : KeptIn packed_form start.geometry.size o (rolling t ∷ h) (state_of o (rolling t ∷ h)) asked session stopped j
    every = subst (λ (n : ℕ). KeptIn packed_form n o (rolling t ∷ h) (state_of o (rolling t ∷ h)) asked session stopped j)
        ends.size (every_from m packed_form o (rolling t ∷ h) stopped j asked session ends.pool ends.held midway.lasts)

    off : all_but t t ≡ false
    off = rw (eq-eqb t t refl) refl

    kept : IsKept packed_form start.geometry.size o (e ∷ h) (left_state (all_but t) s.state) (shown stopped.dirty j)
        (shown stopped.dirty j)
    kept = dead_pool o h e point s asked t begins.stands.memory begins.goes packed_form start.geometry.size stopped j session
        [] every (all_but t) off

    lost : (given_mid.shows.layout ≡ kept.layout) × GoOrStay t given_mid.shows.reading kept.reading
    lost = loses_now given_mid.shows.layout kept.layout given_mid.shows.reading kept.reading
        (subst (λ (x : ℕ → TxState). IsSoundBy packed_form start.geometry.size x (shown stops.mid.dirty stops.between)
        given_mid.shows.layout given_mid.shows.reading) (sym states) given_mid.shows.sound) kept.sound

    -- the rows have gone of a dead transaction
    shows_then : ShowsHistory packed_form start.geometry.size o (rolling t ∷ refused ∷ h) new (shown stopped.dirty j)
    shows_then = dead_rows_go packed_form start.geometry.size o (rolling t ∷ refused ∷ h) new t
        (shown stops.mid.dirty stops.between) (shown stopped.dirty j) given_mid.shows kept.layout kept.reading
        (dead_now o h refused (rolling t) t s mid new gives)
        (subst (λ (x : ℕ → TxState). IsSoundBy packed_form start.geometry.size x (shown stopped.dirty j) kept.layout
        kept.reading) states kept.sound) lost.0 next_now lost.1

    lasting : LastsOn m packed_form o (rolling t ∷ refused ∷ h) stopped asked session
        × LeavesSince m start.disk stopped.disk (HoldsAcknowledged packed_form start.geometry.size o h)
    lasting = subst (λ (n : ℕ). LastsDead m packed_form n o h t start stopped asked session
        → LastsOn m packed_form o (rolling t ∷ refused ∷ h) stopped asked session
        × LeavesSince m start.disk stopped.disk (HoldsAcknowledged packed_form n o h)) ends.size
        (λ cache. midways_given o h refused start stopped asked session t (ap is_idle gives.nothing) passing no_failure
        cache) midway

    pub given_up : Stands packed_form start.geometry.size o (rolling t ∷ refused ∷ h) new
        (Some (shown stopped.dirty j))
        × LastsOn m packed_form o (rolling t ∷ refused ∷ h) stopped now_asked now_session
        × LeavesSince m start.disk stopped.disk (HoldsAcknowledged packed_form start.geometry.size o h)
    given_up = (
      record {
        opening = given_mid.opening;
        legal = given_mid.legal;
        memory = given_mid.memory;
        shows = shows_then;
      },
      otherwise o (rolling t ∷ refused ∷ h) stopped asked now_asked session now_session keep_asking lasting.0,
      lasting.1,
    )

  -- ---- a page write failed

  module _ (leaves : PoolLeaves D L m packed_form) (quiet : QuietHolds packed_form) (on : StandsOn packed_form)
      (refused : Entry) (new : Standing) (after : Pool D L) (lawful : IsLawful o h refused)
      (passing : is_durable refused ≡ false) (no_failure : may_last refused ≡ false)
      (follows : FollowsEntry o h refused s new) (told : m.tells stopped.disk ≡ true)
      (crash : LeavesOverlays m stopped after) (tells : m.tells after.disk ≡ true)
      (size_is : after.dirty.size ≡ stopped.dirty.size) where
    page_size : stopped.dirty.size ≡ start.geometry.size
    page_size = ends.pool.page_size ∙ ends.size

    as_was : (c : Image) → HoldsAcknowledged packed_form stopped.dirty.size o (rolling t ∷ h) c
        → HoldsAcknowledged packed_form start.geometry.size o h c
    as_was c holds = subst (λ (n : ℕ). HoldsAcknowledged packed_form n o h c) page_size
        (holds_back packed_form stopped.dirty.size o h t c holds)

    since_stop : LeavesSince m stopped.disk after.disk
        (HoldsAcknowledged packed_form stopped.dirty.size o (rolling t ∷ h))
    since_stop = leaves o (rolling t ∷ h) stopped after asked session (openings o begins.stands.opening)
        (begins.goes.ends, begins.stands.legal) told tells midway.lasts crash

    left_now : (c : Image) → MayLeave m after.disk c → HoldsAcknowledged packed_form start.geometry.size o h c
    left_now c may = as_was c (since_stop.left c may)

    pub fails : Stands packed_form start.geometry.size o (refused ∷ h) new None
        × LeftOn m packed_form o (refused ∷ h) after
        × LeavesSince m start.disk after.disk (HoldsAcknowledged packed_form start.geometry.size o h)
    fails = (
      on start.geometry.size o h refused s new (Some (shown start.dirty k)) None begins.stands lawful follows tt,
      λ c may. subst (λ (n : ℕ). HoldsAcknowledged packed_form n o (refused ∷ h) c) (sym (size_is ∙ page_size))
          (quiet start.geometry.size o h refused c passing no_failure (left_now c may)),
      record {
        since = joined m start.disk stopped.disk after.disk (HoldsAcknowledged packed_form start.geometry.size o h)
            midway.leaves.since
            (leaves_as m stopped.disk after.disk
            (HoldsAcknowledged packed_form stopped.dirty.size o (rolling t ∷ h))
            (HoldsAcknowledged packed_form start.geometry.size o h) as_was since_stop.since);
        left = left_now;
      },
    )

pub stops_are_given_up : (D L : Type 0) (m : Meaning D) → SinceAreTaken → MidwaysBegin packed_form D L m
    → ShowsFirst packed_form → KeysGoOn D L m → ReadsLast D L m packed_form → OpeningsBegin → EnginesGiveUp D L m
    → MidwaysAreGivenUp packed_form D L m → AsksOtherwise D L m packed_form → StopsAreGivenUp D L m
stops_are_given_up D L m since begin first_shows go_on reads openings give_up midways_given otherwise o h e refused point t s mid new start
    stopped k j asked now_asked session now_session begins grows lawful ends_lawful passing no_failure gives keep_asking
    stops ends plain = given_up m since begin first_shows go_on reads openings o h e point t s start stopped k j asked session
    begins stops ends give_up midways_given otherwise refused mid new now_asked now_session grows lawful ends_lawful passing no_failure gives
    keep_asking plain

pub writes_fail_midway : (D L : Type 0) (m : Meaning D) → SinceAreTaken → MidwaysBegin packed_form D L m
    → ShowsFirst packed_form → KeysGoOn D L m → ReadsLast D L m packed_form → OpeningsBegin
    → PoolLeaves D L m packed_form → QuietHolds packed_form → StandsOn packed_form → WritesFailMidway D L m
writes_fail_midway D L m since begin first_shows go_on reads openings leaves quiet on o h e refused point t s new start
    stopped after k j asked session begins lawful passing no_failure follows stops ends told crash tells size_is =
    fails m since begin first_shows go_on reads openings o h e point t s start stopped k j asked session begins stops
    ends leaves quiet on refused new after lawful passing no_failure follows told crash tells size_is
