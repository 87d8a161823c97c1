-- The event of a zero check.
use Rattle.std.proofs.Common.{◌≡◌, ◌≢◌, ◌⊎◌, inl, inr, ⊎_elim, ℕ, ◌+◌, ◌*◌, ◌<◌, ◌≤◌, Bool, List, [], length, refl, sym, ◌∙◌, ap, subst, arith}
use Rattle.std.specs.Prelude.{slice_get, Option, Some, None, Contains, if◌then◌else◌}
use Rattle.std.proofs.lemmas.Bool.{cases_eq}
use Rattle.pm_device.specs.Past.{Left, moment}
use Rattle.pm_device.specs.State.{State, Agree}
use Rattle.pm_device.specs.Settled.{LeavesOnly, StoresOnly, KeepsFlushed, Others, SettlesAll}
use Rattle.pm_device.specs.Reading.{Stands}
use Rattle.pm_device.proofs.Only.{stores_only-none, stores_only-weaken}
use Rattle.pm_layout.specs.Geometry.{directs, slot_word}
use Rattle.fingerprint.specs.Count.{count_word}
use Rattle.dn_model.specs.Table.{Row, at_direct_page, at_direct_next, at_row, prefix_of}
use Rattle.dn_model.specs.Disk.{Disk, TableSays, rows}
use Rattle.dn_model.specs.Own.{Print}
use Rattle.law_table.specs.Changes.{removed, slot_before}
use Rattle.law_table.specs.Words.{IsTableWord}
use Rattle.law_table.proofs.Rows.{same_test, other_test, distinct_same}
use Rattle.law_table.proofs.TableRows.{good_of, stands_in_chain, of_chain, is_row}
use Rattle.law_table_on_disk.specs.TableLaws.{IsNextDisk}
use Rattle.law_table_on_disk.proofs.Frame.{files_same, named_same, maps_same, mappings_same}
use Rattle.law_table_on_disk.proofs.NextDisk.{said_within, standing_table, image_of_table}
use Rattle.fact_table.specs.Table.{IsTable, IsAtSlot, HasRow}
use Rattle.fact_changes.specs.Removal.{MayRemoveAt, deciding_word, IsRemoveWord}
use Rattle.fact_rows.specs.Put.{HoldsOneOf}
use Rattle.fact_rows.specs.Gone.{cleared}
use Rattle.dn_volume.specs.declared.volume.InodeState.{InodeState}
use Rattle.dn_volume.specs.declared.volume.Parts.{Parts}
use Rattle.dn_volume.specs.Inodes.{AreInodesOf}
use Rattle.dn_volume.specs.Agrees.{HasNoStale, IsVolume}
use Rattle.dn_volume.specs.Events.{IsBetween}
use Rattle.dn_volume.specs.Rely.{IsWordOf, of_table, LeavesRest}
use Rattle.dn_volume.proofs.Stills.{still_same, still_settles}
use Rattle.dn_volume.proofs.Hands.{inodes_stay, dying_same, table_stays}
use Rattle.dn_volume.proofs.InHand.{raised_stays}
use Rattle.dn_volume.proofs.Kept.{quiet_accounts, quiet_alone}
use Rattle.dn_volume.proofs.MappingsMoved.{going_counted}
use Rattle.dn_volume.proofs.Tables.{is_table}
use Rattle.reclaim.specs.Worked.{Gives, Checks}
use Rattle.reclaim.proofs.WorkEvent.{WorkEvent, WorkShown, flies_on, others_same}
use Rattle.reclaim.proofs.NodesChanged.{nodes_same}
use Rattle.reclaim.proofs.SpaceGained.{space_gained, slots_stay, gives_none}
use Rattle.reclaim.proofs.RoomWorked.{room_worked}
use Rattle.reclaim.proofs.ZeroDisk.{
  gone,
  gone_next,
  removed_next,
  removed_own,
  gone_own,
  gone_then,
  gone_before,
  gone_used,
  gone_rest,
  gone_accounts,
  gone_alone,
  gone_words,
}
use Rattle.reclaim.proofs.Zeroed.{
  under_way,
  one_was,
  none_now,
  raised_one,
  long_same,
  few_still,
  zero_moves,
  counts_again,
  images_now,
  before_at,
  without_kept,
  next_told,
}

module _ (d : Disk) (b b' : Parts) (s : State) (v : IsVolume d b s) (slot : ℕ) (pending : b.reclaiming.zero_check ≡ Some slot) (checks : Checks b b')
  where
    zero_inodes : b'.inodes.items ≡ b.inodes.items
    zero_inodes = ap (λ (ns : _). ns.items) checks.inodes

    -- the row is counted again: nothing is stored
    module _ (agree : Agree s.now s.past) (free : b'.free ≡ b.free) (fact : b'.fact ≡ b.fact) (counted : (row : Row) → IsAtSlot d slot row → row.rfc ≡ 0
        → row.uc ≡ 0 → ⊥) where
      pub stays_event : WorkEvent [] d d b b' s s
      stays_event = record {
        fast = v.fast;
        dying = λ i has. absurd (omega (arith, has.1));
        leaves = record {
          rest = record {
            geometry = refl;
            inode = λ i out. refl;
            named_so = λ i name some out. ((λ x. x), (λ x. x));
            word = λ page k read. refl;
            unused = λ page out unused. unused;
            slots = λ i idx m lt out mapped. refl;
            counting = λ row has some. record { still = row; there = has; slot = refl; page = refl; print = refl };
          };
          only = stores_only-none (IsWordOf [] [] d) s agree;
          others = λ q a ne out inside flushed. flushed;
        };
        names = λ name. refl;
        live = λ ino idx m place. place;
        kept = checks.kept;
        nodes = nodes_same b.inodes.items b'.inodes.items zero_inodes;
        inodes_are = subst (λ (ns : List InodeState). AreInodesOf d ns) (sym zero_inodes) v.inodes;
        space = space_gained d d b b' checks.kept (λ page. ⊥) refl (gives_none (λ page. ⊥) b.free b'.free free v.space.in_order (λ page none. none))
            (λ page is. ⊎_elim (λ was. was) (λ none. absurd none) is) (λ page is. inl is) (λ page none unused. none) v.space;
        table = slots_stay d d b.fact b'.fact refl refl fact v.table;
        counts = counts_again b b' slot pending checks d s s v counted;
        reclaiming = record {
          waiting = omega (
            arith,
            v.reclaiming.waiting,
            checks.waiting,
            one_was b b' slot pending checks,
            none_now b b' slot pending checks,
            raised_one b b' slot pending checks,
            long_same b b' slot pending checks,
          );
          zero_check = λ x is. absurd (no_check x b'.reclaiming.zero_check checks.zero_check is);
          raised = λ p is. v.reclaiming.raised p (sym checks.raised ∙ is);
        };
        pointers = v.pointers;
        room = room_worked b b' s s checks.kept (zero_moves b b' slot pending checks d s s v (omega arith)) v.room
            (λ who f c y flies is at. v.room.places who f c y flies is (ap (λ (ns : List InodeState). slice_get ns f.ino) (sym zero_inodes) ∙ at));
        still = still_same b b' s s (record { now = refl; past = refl; faults = refl }) (flies_on b b' checks.kept) v.still;
      }
        where
          no_check : (x : ℕ) (o : Option ℕ) → o ≡ None → o ≡ Some x → ⊥
          no_check x o none some = cc

      pub stays_shown : (print : Print) → WorkShown print d d s s
      stays_shown print = record {
        images = images_now print d s b.geometry v.fast agree;
        quiet = λ name. refl;
        own = λ own. own;
        accounts = quiet_accounts print d;
        alone = quiet_alone d;
        words = λ x. refl;
        faults = omega arith;
      }

-- the row goes
module _ (d : Disk) (b : Parts) (s u : State) (v : IsVolume d b s) (slot : ℕ) (row : Row) (at_slot : IsAtSlot d slot row) (no_reference : row.rfc ≡ 0)
    (no_update : row.uc ≡ 0) where
  abbrev e : Disk
  e = cleared d row

  pub may_remove : MayRemoveAt d row s.now b.fact slot
  may_remove = record { table = is_table d b s v; at_slot = at_slot; no_reference = no_reference; no_update = no_update }

  abbrev prefix : ℕ
  prefix = prefix_of d.geometry row.print

  direct : prefix < directs d.geometry
  direct = (stands_in_chain d (good_of d v.fast.valid) row at_slot.there).direct

  gate_told : (w : ℕ) × TableSays e (deciding_word d row) w
  gate_told = elim (cases_eq row.slot prefix) [
    | inl same ↦ (
      _,
      inl (record {
        prefix = prefix;
        direct = direct;
        says = at_direct_page (ap (λ (t : Bool). if t then slot_word d.geometry row.slot 0 else slot_word d.geometry
            (slot_before prefix (d.chain prefix) row.slot) 5) (same_test row.slot prefix same)
            ∙ ap (λ (x : ℕ). slot_word d.geometry x 0) same) refl;
      }),
    )
    | inr other ↦ behind (ap (λ (t : Bool). if t then slot_word d.geometry row.slot 0 else slot_word d.geometry
        (slot_before prefix (d.chain prefix) row.slot) 5) (other_test row.slot prefix other))
        (before_at row.slot prefix (d.chain prefix))
  ]
    where
      behind : deciding_word d row ≡ slot_word d.geometry (slot_before prefix (d.chain prefix) row.slot) 5
          → (slot_before prefix (d.chain prefix) row.slot ≡ prefix)
          ⊎ ((r : Row) × Contains (d.chain prefix) r × (r.slot ≡ slot_before prefix (d.chain prefix) row.slot) × (r.slot ≢ row.slot))
          → (w : ℕ) × TableSays e (deciding_word d row) w
      behind gate (inl first) =
          (_, inl (record { prefix = prefix; direct = direct; says = at_direct_next (gate ∙ ap (λ (x : ℕ). slot_word d.geometry x 5) first) refl }))
      behind gate (inr found) =
          let told = next_told d.geometry (e.chain prefix) found.0 (without_kept row.slot (d.chain prefix) found.0 found.1 found.3) in (
            told.0,
            subst (λ (a : ℕ). TableSays e a told.0) (ap (λ (x : ℕ). slot_word d.geometry x 5) found.2 ∙ sym gate)
                (inl (record { prefix = prefix; direct = direct; says = at_row told.1 })),
          )

  in_image : row.page < d.geometry.pages
  in_image = let found = of_chain d row at_slot.there in (is_row d (good_of d v.fast.valid) found.0 row found.1 found.2).data_page.high

  word_told : (a : ℕ) → IsRemoveWord d row a → (w : ℕ) × TableSays e a w
  word_told a (inl gate) = (gate_told.0, subst (λ (x : ℕ). TableSays e x gate_told.0) (sym gate) gate_told.1)
  word_told a (inr pointer) = (_, inr (record { page = row.page; in_image = in_image; place = pointer; value = refl }))

  abbrev next : IsNextDisk d e
  next = gone_next d row v.fast.valid at_slot.there no_reference no_update

  within : (a : ℕ) → IsRemoveWord d row a → IsTableWord d.geometry a
  within a is = let told = word_told a is in said_within e (good_of e next.valid) a told.0 told.1

  -- none of these words is the head's
  pub remove_high : (a : ℕ) → a < 4 → IsRemoveWord d row a → ⊥
  remove_high a low is = let word = within a is in omega (arith, low, word.0)

  -- no pointer is stale: that of its page is cleared
  pub none_stale : HasNoStale e
  none_stale = record {
    none = λ page lt some none. elim (cases_eq page row.page) [
      | inl same ↦ some (ap (λ (t : Bool). if t then 0 else d.pointer page) (same_test page row.page same))
      | inr ne ↦ v.pointers.none page lt (λ zero'. some (ap (λ (t : Bool). if t then 0 else d.pointer page) (other_test page row.page ne) ∙ zero'))
          (λ r has is. ⊎_elim (λ (here : r ≡ row). ne (sym is ∙ ap (λ (x : Row). x.page) here)) (λ (still : Contains (rows e) r). none r still is)
          ((gone d row v.fast.valid at_slot.there no_reference no_update).kept r has))
    ];
  }

  -- its page lies in the image, and isn't free
  pub page_in : row.page < b.free.pages
  page_in = omega (arith, in_image, v.space.pages)

  pub page_taken : Contains b.free.free row.page → ⊥
  page_taken free = gone_used d row v.fast.valid at_slot.there no_reference no_update row.page refl ((v.space.free row.page).0 free).0

  module _ (only : StoresOnly (IsRemoveWord d row) s u) where
    table_only : StoresOnly (IsTableWord d.geometry) s u
    table_only = stores_only-weaken _ _ s u within only

    pub gone_shown : (print : Print) → Agree u.now u.past → s.faults ≤ u.faults → LeavesOnly s u (λ c. HoldsOneOf c d (removed d row.slot) e)
        → WorkShown print d e s u
    gone_shown print agree faults leaves = record {
      images = record { extends = leaves.extends; each = λ m c late left. image m c late left (leaves.each m c late left) };
      quiet = λ name. sym (files_same d e.chain e.pointer name);
      own = gone_own d row v.fast.valid at_slot.there no_reference no_update print;
      accounts = gone_accounts d row v.fast.valid at_slot.there no_reference no_update print;
      alone = gone_alone d row v.fast.valid at_slot.there no_reference no_update;
      words = gone_words d row (λ r has same.
          let is : r ≡ row = distinct_same (λ (x : Row). x.slot) (rows d) v.fast.valid.rows_apart.slot r row has at_slot.there same in
          ap (λ (x : Row). count_word x.rfc x.uc) is ∙ ap (λ (n : ℕ). count_word n row.uc) no_reference ∙ ap (λ (n : ℕ). count_word 0 n) no_update);
      faults = faults;
    }
      where
        size : length u.now ≡ 512 * d.geometry.pages
        size = only.words ∙ v.fast.long

        image : (m : ℕ) (c : List ℕ) → moment s.past ≤ m → Left u.past m c → HoldsOneOf c d (removed d row.slot) e → IsBetween print d e c
        image m c late left (inl old) = record {
          disk = d;
          stands_for = image_of_table d v.fast.valid s u v.fast.stands table_only d
              (record { same = refl; valid = v.fast.valid; read = λ page some. inr some }) agree size m c late left old;
          own = λ own. own;
          same = inl (λ name. refl);
        }
        image m c late left (inr (inl middle)) = record {
          disk = removed d row.slot;
          stands_for = image_of_table d v.fast.valid s u v.fast.stands table_only (removed d row.slot) (removed_next d row v.fast.valid at_slot.there
              no_reference no_update) agree size m c late left middle;
          own = removed_own d row v.fast.valid at_slot.there no_reference no_update print;
          same = inl (λ name. sym (files_same d (removed d row.slot).chain (removed d row.slot).pointer name));
        }
        image m c late left (inr (inr new)) = record {
          disk = e;
          stands_for = image_of_table d v.fast.valid s u v.fast.stands table_only e next agree size m c late left new;
          own = gone_own d row v.fast.valid at_slot.there no_reference no_update print;
          same = inr (λ name. refl);
        }

    module _ (b' : Parts) (pending : b.reclaiming.zero_check ≡ Some slot) (checks : Checks b b')
        (others : KeepsFlushed (Others 16) (IsRemoveWord d row) s u) (settles : Stands (TableSays e) u)
        (table : IsTable e u.now b'.fact) (gives : Gives (λ p. p ≡ row.page) b.free b'.free) (spare : s.spare ≤ u.spare + 6) (own : SettlesAll 16 s u)
      where
        leaves_rest : LeavesRest 16 [] [] d e s u
        leaves_rest = record {
          rest = gone_rest d row v.fast.valid at_slot.there no_reference no_update;
          only = stores_only-weaken _ _ s u (λ a is. of_table (within a is)) only;
          others = λ q a ne out inside flushed. others.flushed q a ne (λ is. out (of_table (within a is))) inside flushed;
        }

        row_left : (x : ℕ) → b'.reclaiming.zero_check ≡ Some x → HasRow e x
        row_left x is = absurd (no_check b'.reclaiming.zero_check checks.zero_check is)
          where
            no_check : (o : Option ℕ) → o ≡ None → o ≡ Some x → ⊥
            no_check o none some = cc

        pub gone_event : WorkEvent [] d e b b' s u
        gone_event = record {
          fast = record {
            geometry = v.fast.geometry;
            long = only.words ∙ v.fast.long;
            valid = next.valid;
            stands = standing_table d v.fast.valid s u
                v.fast.stands table_only e next settles;
          };
          dying = λ i has. absurd (omega (arith, has.1));
          leaves = leaves_rest;
          names = λ name. named_same d e.chain e.pointer name;
          live = λ ino idx m place. record {
            in_table = place.in_table;
            live = place.live;
            maps = sym (maps_same d e.chain e.pointer ino idx) ∙
                place.maps;
          };
          kept = checks.kept;
          nodes = nodes_same b.inodes.items b'.inodes.items (ap (λ (ns : _). ns.items) checks.inodes);
          inodes_are = subst (λ (ns : _). AreInodesOf e ns.items) (sym checks.inodes) (inodes_stay d e.chain e.pointer b.inodes.items v.inodes);
          space = space_gained d e b b' checks.kept (λ p. p ≡ row.page) refl gives (gone_then d row v.fast.valid at_slot.there no_reference no_update)
              (gone_before d row v.fast.valid at_slot.there no_reference no_update)
              (gone_used d row v.fast.valid at_slot.there no_reference no_update) v.space;
          table = table_stays e u.now b'.fact table;
          counts = going_counted d e b b' row (record {
            takes = gone d row v.fast.valid at_slot.there no_reference no_update;
            has = at_slot.there;
            mappings_same = mappings_same d e.chain e.pointer;
            no_reference = no_reference;
            no_update = no_update;
            same = under_way b b' slot pending checks;
            few = few_still b b' slot pending checks d s u v;
          }) v.counts;
          reclaiming = record {
            waiting = let units = dying_same d e.chain e.pointer in
                omega (
                  arith,
                  units,
                  v.reclaiming.waiting,
                  checks.waiting,
                  one_was b b' slot pending checks,
                  none_now b b' slot pending checks,
                  raised_one b b' slot pending checks,
                  long_same b b' slot pending checks,
                );
            zero_check = row_left;
            raised = λ p is. raised_stays [] [] d e v.fast.valid leaves_rest.rest b v.counts p (sym checks.raised ∙ is) (λ has. omega (arith, has.1))
                (v.reclaiming.raised p (sym checks.raised ∙ is));
          };
          pointers = none_stale;
          room = room_worked b b' s u checks.kept (zero_moves b b' slot pending checks d s u v spare) v.room
              (λ who f c y flies is at. v.room.places who f c y flies is (ap (λ (ns : _). slice_get ns.items f.ino) (sym checks.inodes) ∙ at));
          still = still_settles 16 b b' s u own (others_same b b' checks.kept 16) v.still;
        }
