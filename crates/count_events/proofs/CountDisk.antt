-- A row's counts become others: the disk of after, where the table's clauses are met.
use Rattle.std.proofs.Common.{◌≡◌, ◌⊎◌, inl, inr, ⊎_elim, ℕ, ◌*◌, ◌<◌, [], length, refl, sym, ◌∙◌, ap, subst, arith}
use Rattle.std.specs.Prelude.{Option, Some, None, Contains, IsSome, option_map}
use Rattle.pm_device.specs.State.{State, Agree}
use Rattle.pm_device.specs.Settled.{LeavesOnly, StoresOnly, KeepsFlushed, Others}
use Rattle.pm_device.specs.Reading.{Stands}
use Rattle.pm_device.proofs.Only.{stores_only-weaken}
use Rattle.pm_layout.specs.declared.Geometry.{Geometry}
use Rattle.pm_layout.specs.Geometry.{slot_word, slots}
use Rattle.fingerprint.specs.declared.count.CountWord.{CountWord}
use Rattle.dn_model.specs.Table.{Row, row_of}
use Rattle.dn_model.specs.Disk.{Disk, TableSays, rows}
use Rattle.dn_model.specs.Files.{files, IsSameFiles}
use Rattle.dn_model.specs.Own.{Print, page_bytes}
use Rattle.dn_model.specs.Valid.{IsValid}
use Rattle.law_write.specs.Events.{IsReadPage, IsUnused}
use Rattle.law_write.proofs.Unread.{slot_word_low}
use Rattle.law_table.specs.Changes.{recount, recounted}
use Rattle.law_table.specs.Words.{IsTableWord, HoldsTable}
use Rattle.law_table.specs.Rows.{RecountsRows}
use Rattle.law_table.proofs.Rows.{row_listed, row_found, none_found, none_listed}
use Rattle.law_table.proofs.Counted.{recounts_rows}
use Rattle.law_table_on_disk.specs.CountLaws.{MayRecount}
use Rattle.law_table_on_disk.specs.TableLaws.{IsNextDisk}
use Rattle.law_table_on_disk.proofs.Frame.{files_same, maps_same, free_kept, free_only, named_same}
use Rattle.law_table_on_disk.proofs.NextDisk.{table_said, standing_table, image_of_table}
use Rattle.law_table_on_disk.proofs.Recounted.{recount_one_word, recount_own}
use Rattle.fact_table.specs.Table.{Table, IsTable, IsSettledTable, IsAtSlot}
use Rattle.fact_counts.specs.Counted.{LeavesTables, SettlesTable}
use Rattle.fact_counts.proofs.Counting.{row_small}
use Rattle.dn_volume.specs.Accounts.{AccountsFor, KeepsAlone}
use Rattle.dn_volume.specs.Planned.{slot_of_row}
use Rattle.dn_volume.specs.Agrees.{StandsFast, HasNoStale}
use Rattle.dn_volume.proofs.Heads.{none_stale_kept}
use Rattle.dn_volume.specs.Events.{IsBetween}
use Rattle.dn_volume.specs.Rely.{KeepsRow, KeepsRest, of_table, LeavesRest}

module _ (f : Row → CountWord) (who : ℕ) (d : Disk) (t : Table) (row : Row) (slot : ℕ) (s u : State) (g : Geometry) (at_slot : IsAtSlot d slot row)
    (fast : StandsFast d g s) (table : IsTable d s.now t) (may : MayRecount d row (f row).rfc (f row).uc)
    (only : StoresOnly (λ a. a ≡ slot_word t.geometry slot 4) s u) where
  abbrev rfc : ℕ
  rfc = (f row).rfc

  abbrev uc : ℕ
  uc = (f row).uc

  abbrev e : Disk
  e = recounted d slot rfc uc

  abbrev set : Row → Row
  set = recount slot rfc uc

  moved : RecountsRows slot rfc uc (rows d) (rows e)
  moved = recounts_rows d slot rfc uc

  pub valid_after : IsValid e
  valid_after = subst (λ (x : ℕ). IsValid (recounted d x rfc uc)) at_slot.slot_is (recount_one_word d row rfc uc may).new_valid

  was_read : (page : ℕ) → IsSome (row_of (rows e) page) → IsReadPage d page
  was_read page some =
      let found = row_listed (rows e) page some in
      let old = moved.only found.0 found.1 in
      inr (subst (λ (p : ℕ). IsSome (row_of (rows d) p)) (ap (λ (x : Row). x.page) old.2 ∙ found.2) (row_found (rows d) old.0 old.1))

  next : IsNextDisk d e
  next = record { same = refl; valid = valid_after; read = was_read }

  same_next : IsNextDisk d d
  same_next = record { same = refl; valid = fast.valid; read = λ page some. inr some }

  small : slot < slots t.geometry
  small = row_small d s.now t table slot row at_slot

  pub word_within : (a : ℕ) → a ≡ slot_word t.geometry slot 4 → IsTableWord d.geometry a
  word_within a is = subst (λ (k : Geometry). IsTableWord k a) (sym table.geometry)
      (subst (IsTableWord t.geometry) (sym is) (omega arith, slot_word_low t.geometry slot 4 small (omega arith)))

  table_only : StoresOnly (IsTableWord d.geometry) s u
  table_only = stores_only-weaken _ _ s u word_within only

  table_stands : Stands (TableSays d) s
  table_stands = record {
    within = λ a v told. fast.stands.within a v (table_said d a v told);
    reads = λ a v told. fast.stands.reads a v (table_said d a v told);
    settled = λ a v told. fast.stands.settled a v (table_said d a v told);
  }

  settled_table : IsSettledTable d s t
  settled_table = record { table = table; stands = table_stands }

  long_after : length u.now ≡ 512 * d.geometry.pages
  long_after = only.words ∙ fast.long

  -- once it is done
  pub fast_after : SettlesTable f t slot s u → StandsFast e g u
  fast_after settles = record {
    geometry = fast.geometry;
    long = long_after;
    valid = valid_after;
    stands = standing_table d fast.valid s u fast.stands table_only e next (settles d row settled_table at_slot).stands;
  }

  pub table_after : SettlesTable f t slot s u → IsTable e u.now t
  table_after settles = (settles d row settled_table at_slot).table

  -- on the way
  module _ (print : Print) (agree : Agree u.now u.past) (leaves : LeavesTables f t slot s u) where
    pub between : LeavesOnly s u (IsBetween print d e)
    between =
        let held : LeavesOnly s u (λ c. HoldsTable c d ⊎ HoldsTable c e) = leaves d row settled_table at_slot in
        record {
          extends = held.extends;
          each = λ m c late left. ⊎_elim
              (λ (old : HoldsTable c d). record {
                disk = d;
                stands_for = image_of_table d fast.valid s u fast.stands table_only d same_next agree
                    long_after m c late left old;
                own = λ own. own;
                same = inl (λ name. refl);
              })
              (λ (new : HoldsTable c e). record {
                disk = e;
                stands_for = image_of_table d fast.valid s u fast.stands table_only e next agree
                    long_after m c late left new;
                own = recount_own d slot rfc uc print;
                same = inr (λ name. refl);
              })
              (held.each m c late left);
        }

  pub quiet : IsSameFiles (files e) (files d)
  quiet name = sym (files_same d e.chain e.pointer name)

  -- what others have
  pub unused_after : (page : ℕ) → IsUnused d page → IsUnused e page
  unused_after page unused = record {
    free = free_kept d e.chain e.pointer page unused.free;
    no_row = none_found (rows e) page (λ r has at. let old = moved.only r has in none_listed (rows d) page unused.no_row old.0 old.1
        (ap (λ (x : Row). x.page) old.2 ∙ at));
  }

  pub unused_before : (page : ℕ) → IsUnused e page → IsUnused d page
  unused_before page unused = record {
    free = free_only d e.chain e.pointer page unused.free;
    no_row = none_found (rows d) page (λ r has at. none_listed (rows e) page unused.no_row (set r) (moved.kept r has) at);
  }

  slots_map : (x : Option Row) → slot_of_row (option_map set x) ≡ slot_of_row x
  slots_map None = refl
  slots_map (Some r) = refl

  row_still : (r : Row) → Contains (rows d) r → KeepsRow e r
  row_still r has = record { still = set r; there = moved.kept r has; slot = refl; page = refl; print = refl }

  pub no_stale_after : HasNoStale d → HasNoStale e
  no_stale_after = none_stale_kept d e refl (λ page. refl)
      (λ r has. record { row = set r; there = moved.kept r has; page_is = refl })

  pub rest_after : KeepsRest [] [] d e
  rest_after = record {
    geometry = refl;
    inode = λ i out. refl;
    named_so = λ i name some out. (λ is. sym (named_same d e.chain e.pointer name) ∙ is, λ is. named_same d e.chain e.pointer name ∙ is);
    word = λ page k read. refl;
    unused = λ page out is. unused_after page is;
    slots = λ i idx m in_table out is. ap slot_of_row (moved.found m.block) ∙ slots_map (row_of (rows d) m.block);
    counting = λ r has some. row_still r has;
  }

  pub leaves_after : KeepsFlushed (Others who) (λ a. a ≡ slot_word t.geometry slot 4) s u → LeavesRest who [] [] d e s u
  leaves_after kept = record {
    rest = rest_after;
    only = stores_only-weaken _ _ s u (λ a is. of_table (word_within a is)) only;
    others = λ q a other out inside flushed. kept.flushed q a other (λ is. out (of_table (word_within a is))) inside flushed;
  }

bytes_still : (d : Disk) (slot rfc uc page : ℕ) → page_bytes (recounted d slot rfc uc) page ≡ page_bytes d page
unfolding page_bytes
bytes_still d slot rfc uc page = refl

-- all that is left alone was so, and all pages of rows had one
pub recount_alone : (d : Disk) (slot rfc uc : ℕ) → KeepsAlone d (recounted d slot rfc uc)
recount_alone d slot rfc uc ino idx m place alone = record {
  mapping = m;
  place = record {
    in_table = place.in_table;
    live = place.live;
    maps = sym (maps_same d (recounted d slot rfc uc).chain (recounted d slot rfc uc).pointer ino idx) ∙ place.maps;
  };
  alone = alone;
  page_is = refl;
  bytes_are = bytes_still d slot rfc uc m.block;
}

pub recount_accounts : (d : Disk) (slot rfc uc : ℕ) (print : Print) → AccountsFor print d (recounted d slot rfc uc)
recount_accounts d slot rfc uc print = record {
  alone = λ ino idx m place alone. inl (recount_alone d slot rfc uc ino idx m place alone);
  row_pages = λ row has. let was = (recounts_rows d slot rfc uc).only row has in
      inl (record { was = was.0; there = was.1; page_is = ap (λ (r : Row). r.page) was.2; bytes_are = bytes_still d slot rfc uc row.page });
}
