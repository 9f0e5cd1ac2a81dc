use Rattle.std.proofs.Common.{refl, sym}
use Rattle.mg_image.specs.Tables.{stands_of}
use Rattle.mg_layout.specs.Standing.{layout_in}
use Rattle.mg_soundness.specs.Joined.{founds_in}
use Rattle.mg_image.specs.Inventory.{header_of}
use Rattle.mg_reading.specs.ImageView.{pages_in}
use Rattle.mg_soundness.proofs.OwnLemmas.{own_all, own_must, owned_as}
use Rattle.mg_soundness.proofs.StepLemmas.{are_settled, backs_all, backs_must, drawn_all, drawn_must, indexed_all, indexed_must, keys_all, keys_must, meets_links, reading_in}
use Rattle.mg_soundness.proofs.check.check_records.Goals as goal

pub are_all_drawn-requires : goal.are_all_drawn-requires
are_all_drawn-requires c = rw c.deref.ensures.value (are_settled c.args.coding c.args.image.now
    (stands_of (layout_in c.args.standing.now)) (founds_in c.in_ok-records.records.items)
    c.in_ok-records.ensures.read)

pub are_all_backs_committed-requires : goal.are_all_backs_committed-requires
are_all_backs_committed-requires c = rw c.deref-3.ensures.value (are_settled c.args.coding c.args.image.now
    (stands_of (layout_in c.args.standing.now)) (founds_in c.in_ok-records.records.items)
    c.in_ok-records.ensures.read)

pub have_all_own_keys-requires : goal.have_all_own_keys-requires
have_all_own_keys-requires c = rw c.deref-4.ensures.value (are_settled c.args.coding c.args.image.now
    (stands_of (layout_in c.args.standing.now)) (founds_in c.in_ok-records.records.items)
    c.in_ok-records.ensures.read)

pub are_all_indexed-requires-clause-settled : goal.are_all_indexed-requires-clause-settled
are_all_indexed-requires-clause-settled c = rw c.deref-5.ensures.value (are_settled c.args.coding c.args.image.now
    (stands_of (layout_in c.args.standing.now)) (founds_in c.in_ok-records.records.items)
    c.in_ok-records.ensures.read)

pub returns-then-not-are_all_drawn-clause-broken : goal.returns-then-not-are_all_drawn-clause-broken
returns-then-not-are_all_drawn-clause-broken c = (
  (
    reading_in (layout_in c.args.standing.now)
        (founds_in c.in_ok-records.records.items),
    meets_links c.args.coding c.args.image.now (layout_in c.args.standing.now)
        (founds_in c.in_ok-records.records.items) (record {
          tested = c.requires.tested;
          each = c.in_ok-records.ensures.read;
        }),
  ),
  λ met. absurd (let passed = c.if-not-are_all_drawn.ensures.1 (rw c.deref.ensures.value (drawn_must c.args.coding c.args.image.now (layout_in c.args.standing.now)
      (founds_in c.in_ok-records.records.items) (record {
        tested = c.requires.tested;
        each = c.in_ok-records.ensures.read;
      }) met).0) in cc),
)

pub returns-then-not-has_no_old_limbo-clause-broken : goal.returns-then-not-has_no_old_limbo-clause-broken
returns-then-not-has_no_old_limbo-clause-broken c = (
  (
    reading_in (layout_in c.args.standing.now)
        (founds_in c.in_ok-records.records.items),
    meets_links c.args.coding c.args.image.now (layout_in c.args.standing.now)
        (founds_in c.in_ok-records.records.items) (record {
          tested = c.requires.tested;
          each = c.in_ok-records.ensures.read;
        }),
  ),
  λ met. absurd (let passed = c.if-not-has_no_old_limbo.ensures.1 ((drawn_must c.args.coding c.args.image.now (layout_in c.args.standing.now)
      (founds_in c.in_ok-records.records.items) (record {
        tested = c.requires.tested;
        each = c.in_ok-records.ensures.read;
      }) met).1) in cc),
)

pub returns-then-not-have_own_tables-clause-broken : goal.returns-then-not-have_own_tables-clause-broken
returns-then-not-have_own_tables-clause-broken c = (
  (
    reading_in (layout_in c.args.standing.now)
        (founds_in c.in_ok-records.records.items),
    meets_links c.args.coding c.args.image.now (layout_in c.args.standing.now)
        (founds_in c.in_ok-records.records.items) (record {
          tested = c.requires.tested;
          each = c.in_ok-records.ensures.read;
        }),
  ),
  λ met. absurd (let passed = c.if-not-have_own_tables.ensures.1 (owned_as c.args.image.now (stands_of (layout_in c.args.standing.now)) c.in_ok-records.records.items c.deref-2.result.now (sym c.deref-2.ensures.value) (own_must c.args.coding c.args.image.now (layout_in c.args.standing.now)
      (founds_in c.in_ok-records.records.items) (header_of (pages_in c.args.image.now)).catalog.0
      c.requires.catalog (record {
        tested = c.requires.tested;
        each = c.in_ok-records.ensures.read;
      }) met)) in cc),
)

pub returns-then-not-are_all_backs_committed-clause-broken : goal.returns-then-not-are_all_backs_committed-clause-broken
returns-then-not-are_all_backs_committed-clause-broken c = (
  (
    reading_in (layout_in c.args.standing.now)
        (founds_in c.in_ok-records.records.items),
    (
      meets_links c.args.coding c.args.image.now (layout_in c.args.standing.now)
          (founds_in c.in_ok-records.records.items) (record {
            tested = c.requires.tested;
            each = c.in_ok-records.ensures.read;
          }),
      drawn_all c.args.coding c.args.image.now (layout_in c.args.standing.now)
          (founds_in c.in_ok-records.records.items) (record {
            tested = c.requires.tested;
            each = c.in_ok-records.ensures.read;
          })
          (rw c.deref.ensures.value at (c.if-not-are_all_drawn.ensures.0 refl)),
      c.if-not-has_no_old_limbo.ensures.0 refl,
      own_all c.args.coding c.args.image.now (layout_in c.args.standing.now)
          (founds_in c.in_ok-records.records.items)
          (header_of (pages_in c.args.image.now)).catalog.0 c.requires.catalog (record {
            tested = c.requires.tested;
            each = c.in_ok-records.ensures.read;
          })
          (owned_as c.args.image.now (stands_of (layout_in c.args.standing.now))
          c.deref-2.result.now c.in_ok-records.records.items c.deref-2.ensures.value
          (c.if-not-have_own_tables.ensures.0 refl)),
    ),
  ),
  λ met. absurd (let passed = c.if-not-are_all_backs_committed.ensures.1 (rw c.deref-3.ensures.value (backs_must c.args.coding c.args.image.now (layout_in c.args.standing.now)
      (founds_in c.in_ok-records.records.items) (record {
        tested = c.requires.tested;
        each = c.in_ok-records.ensures.read;
      }) met)) in cc),
)

pub returns-then-not-have_all_own_keys-clause-broken : goal.returns-then-not-have_all_own_keys-clause-broken
returns-then-not-have_all_own_keys-clause-broken c = (
  (
    reading_in (layout_in c.args.standing.now)
        (founds_in c.in_ok-records.records.items),
    (
      (
        meets_links c.args.coding c.args.image.now (layout_in c.args.standing.now)
            (founds_in c.in_ok-records.records.items) (record {
              tested = c.requires.tested;
              each = c.in_ok-records.ensures.read;
            }),
        drawn_all c.args.coding c.args.image.now (layout_in c.args.standing.now)
            (founds_in c.in_ok-records.records.items) (record {
              tested = c.requires.tested;
              each = c.in_ok-records.ensures.read;
            })
            (rw c.deref.ensures.value at (c.if-not-are_all_drawn.ensures.0 refl)),
        c.if-not-has_no_old_limbo.ensures.0 refl,
        own_all c.args.coding c.args.image.now (layout_in c.args.standing.now)
            (founds_in c.in_ok-records.records.items)
            (header_of (pages_in c.args.image.now)).catalog.0 c.requires.catalog (record {
              tested = c.requires.tested;
              each = c.in_ok-records.ensures.read;
            })
            (owned_as c.args.image.now (stands_of (layout_in c.args.standing.now))
            c.deref-2.result.now c.in_ok-records.records.items c.deref-2.ensures.value
            (c.if-not-have_own_tables.ensures.0 refl)),
      ),
      backs_all c.args.coding c.args.image.now (layout_in c.args.standing.now)
          (founds_in c.in_ok-records.records.items) (record {
            tested = c.requires.tested;
            each = c.in_ok-records.ensures.read;
          })
          (rw c.deref-3.ensures.value at (c.if-not-are_all_backs_committed.ensures.0 refl)),
    ),
  ),
  λ met. absurd (let passed = c.if-not-have_all_own_keys.ensures.1 (rw c.deref-4.ensures.value (keys_must c.args.coding c.args.image.now (layout_in c.args.standing.now)
      (founds_in c.in_ok-records.records.items) (record {
        tested = c.requires.tested;
        each = c.in_ok-records.ensures.read;
      }) met)) in cc),
)

pub returns-then-not-branch-clause-broken : goal.returns-then-not-branch-clause-broken
returns-then-not-branch-clause-broken c = (
  (
    reading_in (layout_in c.args.standing.now)
        (founds_in c.in_ok-records.records.items),
    (
      (
        (
          meets_links c.args.coding c.args.image.now (layout_in c.args.standing.now)
              (founds_in c.in_ok-records.records.items) (record {
                tested = c.requires.tested;
                each = c.in_ok-records.ensures.read;
              }),
          drawn_all c.args.coding c.args.image.now (layout_in c.args.standing.now)
              (founds_in c.in_ok-records.records.items) (record {
                tested = c.requires.tested;
                each = c.in_ok-records.ensures.read;
              })
              (rw c.deref.ensures.value at (c.if-not-are_all_drawn.ensures.0 refl)),
          c.if-not-has_no_old_limbo.ensures.0 refl,
          own_all c.args.coding c.args.image.now (layout_in c.args.standing.now)
              (founds_in c.in_ok-records.records.items)
              (header_of (pages_in c.args.image.now)).catalog.0 c.requires.catalog (record {
                tested = c.requires.tested;
                each = c.in_ok-records.ensures.read;
              })
              (owned_as c.args.image.now (stands_of (layout_in c.args.standing.now))
              c.deref-2.result.now c.in_ok-records.records.items c.deref-2.ensures.value
              (c.if-not-have_own_tables.ensures.0 refl)),
        ),
        backs_all c.args.coding c.args.image.now (layout_in c.args.standing.now)
            (founds_in c.in_ok-records.records.items) (record {
              tested = c.requires.tested;
              each = c.in_ok-records.ensures.read;
            })
            (rw c.deref-3.ensures.value at (c.if-not-are_all_backs_committed.ensures.0 refl)),
      ),
      keys_all c.args.coding c.args.image.now (layout_in c.args.standing.now)
          (founds_in c.in_ok-records.records.items) (record {
            tested = c.requires.tested;
            each = c.in_ok-records.ensures.read;
          })
          (rw c.deref-4.ensures.value at (c.if-not-have_all_own_keys.ensures.0 refl)),
    ),
  ),
  λ met. absurd (let passed = c.in_ok-are_all_indexed.ensures.1 (rw c.deref-5.ensures.value (indexed_must c.args.coding c.args.image.now (layout_in c.args.standing.now)
      (founds_in c.in_ok-records.records.items) (record {
        tested = c.requires.tested;
        each = c.in_ok-records.ensures.read;
      }) met)) in cc),
)

pub returns-clause-met : goal.returns-clause-met
returns-clause-met c = (
  reading_in (layout_in c.args.standing.now)
      (founds_in c.in_ok-records.records.items),
  (
    (
      (
        (
          meets_links c.args.coding c.args.image.now (layout_in c.args.standing.now)
              (founds_in c.in_ok-records.records.items) (record {
                tested = c.requires.tested;
                each = c.in_ok-records.ensures.read;
              }),
          drawn_all c.args.coding c.args.image.now (layout_in c.args.standing.now)
              (founds_in c.in_ok-records.records.items) (record {
                tested = c.requires.tested;
                each = c.in_ok-records.ensures.read;
              })
              (rw c.deref.ensures.value at (c.if-not-are_all_drawn.ensures.0 refl)),
          c.if-not-has_no_old_limbo.ensures.0 refl,
          own_all c.args.coding c.args.image.now (layout_in c.args.standing.now)
              (founds_in c.in_ok-records.records.items)
              (header_of (pages_in c.args.image.now)).catalog.0 c.requires.catalog (record {
                tested = c.requires.tested;
                each = c.in_ok-records.ensures.read;
              })
              (owned_as c.args.image.now (stands_of (layout_in c.args.standing.now))
              c.deref-2.result.now c.in_ok-records.records.items c.deref-2.ensures.value
              (c.if-not-have_own_tables.ensures.0 refl)),
        ),
        backs_all c.args.coding c.args.image.now (layout_in c.args.standing.now)
            (founds_in c.in_ok-records.records.items) (record {
              tested = c.requires.tested;
              each = c.in_ok-records.ensures.read;
            })
            (rw c.deref-3.ensures.value at (c.if-not-are_all_backs_committed.ensures.0 refl)),
      ),
      keys_all c.args.coding c.args.image.now (layout_in c.args.standing.now)
          (founds_in c.in_ok-records.records.items) (record {
            tested = c.requires.tested;
            each = c.in_ok-records.ensures.read;
          })
          (rw c.deref-4.ensures.value at (c.if-not-have_all_own_keys.ensures.0 refl)),
    ),
    indexed_all c.args.coding c.args.image.now (layout_in c.args.standing.now)
        (founds_in c.in_ok-records.records.items) (record {
          tested = c.requires.tested;
          each = c.in_ok-records.ensures.read;
        })
        (rw c.deref-5.ensures.value at (c.in_ok-are_all_indexed.ensures.0 c.if-not-branch.false)),
  ),
)
