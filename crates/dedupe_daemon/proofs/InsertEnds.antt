-- The event of a row that comes in, from what its calls give.
use Rattle.std.proofs.Common.{◌≡◌, inl, inr, ⊎_elim, ℕ, ◌+◌, ◌*◌, ◌^◌, ◌<◌, ◌≤◌, true, false, List, [], ◌∷◌, length, refl, sym, ◌∙◌, ap, subst, arith}
use Rattle.std.specs.Prelude.{Some, None, Contains, slice_index, vec_len, vec_capacity}
use Rattle.std.proofs.lemmas.List.Elements.{All-from_get_or}
use Rattle.pm_device.specs.Past.{Left, moment}
use Rattle.pm_device.specs.State.{State, Agree, Rose}
use Rattle.pm_device.specs.Settled.{LeavesOnly, StoresOnly, KeepsFlushed, Others, SettlesAll}
use Rattle.pm_device.specs.Reading.{Stands}
use Rattle.pm_layout.specs.declared.Geometry.{Geometry}
use Rattle.fingerprint.specs.Print.{IsPrint}
use Rattle.dn_model.specs.Table.{Row, prefix_of}
use Rattle.dn_model.specs.Disk.{Disk, TableSays, rows}
use Rattle.dn_model.specs.Files.{files, IsSameFiles}
use Rattle.dn_model.specs.Own.{Print, IsOwn, page_bytes}
use Rattle.law_table.specs.Changes.{with_table}
use Rattle.law_table.specs.Words.{IsTableWord, HoldsTable}
use Rattle.law_table_on_disk.specs.TableLaws.{IsNextDisk}
use Rattle.law_table_on_disk.proofs.Frame.{maps_same, files_same}
use Rattle.law_table_on_disk.proofs.NextDisk.{table_said, image_of_table}
use Rattle.fact_table.specs.Table.{Table, IsTable}
use Rattle.fact_rows.specs.Put.{new_row, pointed}
use Rattle.fact_changes.specs.Insertion.{MayInsert, CanInsert, Inserts, IsInserting, HasInserted, IsInsertWord, LeavesInserted, MakesInserted}
use Rattle.fact_changes.proofs.Slotted.{prefix_lt}
use Rattle.law_write.proofs.Unread.{slot_word_low, pointer_word_low}
use Rattle.pm_device.specs.Words.{IsIn}
use Rattle.pm_layout.specs.Geometry.{slot_word, pointer_word, slots}
use Rattle.pm_device.proofs.Only.{stores_only-weaken}
use Rattle.pm_device.proofs.Flushed.{keeps-weaken}
use Rattle.dn_volume.specs.declared.units.TheConstants.{LOOK_UNITS, REMAP_UNITS}
use Rattle.dn_volume.specs.declared.background.Sharing.{Sharing}
use Rattle.dn_volume.specs.declared.background.SharingStep.TheVariants.{Settle}
use Rattle.dn_volume.specs.declared.volume.Parts.{Parts}
use Rattle.dn_volume.specs.declared.volume.Volume.{Volume}
use Rattle.dn_volume.specs.Accounts.{HasPage, AccountsFor}
use Rattle.dn_volume.specs.Shares.{IsBegun}
use Rattle.dedupe_daemon.proofs.Broken.{stopped_after, breaks_at}
use Rattle.dn_volume.specs.Agrees.{IsVolume, Agrees, agrees_with, is_stopped}
use Rattle.dn_volume.specs.Events.{IsBetween, MovesOn, Breaks}
use Rattle.dn_volume.specs.Works.{DaemonLowers, sharing_events}
use Rattle.dn_volume.proofs.Tables.{is_table, running_disk}
use Rattle.dn_volume.proofs.Kept.{ops_same}
use Rattle.count_events.specs.Released.{Stops}
use Rattle.dedupe_daemon.proofs.AtPlace.{IsAtLook, IsAtPlace, IsToInsert}
use Rattle.dedupe_daemon.specs.Stepped.{Looks}
use Rattle.dedupe_daemon.proofs.FilePages.{has_page}
use Rattle.dedupe_daemon.proofs.InsertDisk.{HasPut, may_insert, has_put, put_words}
use Rattle.dedupe_daemon.proofs.InsertEvent.{item_begun, place_mapped, insert_volume, insert_others}
use Rattle.dedupe_daemon.proofs.ItemFew.{item_few}
use Rattle.dedupe_daemon.proofs.LookedParts.{look_owes_units, look_owes_change, look_has_trace, look_has_units, now_is, look_lowers}

-- an array of bytes is a print
pub twenty_bytes : (fp : List ℕ) → length fp ≡ 20 → ((i : ℕ) → slice_index fp i < 256) → IsPrint fp
twenty_bytes fp twenty fits = record { twenty = twenty; bytes = All-from_get_or (λ b. b < 256) fp 0 (λ i lt. fits i) }

-- the words of an insertion are words of the table
module _ (d : Disk) (words : List ℕ) (t t' : Table) (fp : List ℕ) (page : ℕ) (may : MayInsert d words t fp page) where
  run_in : (g : Geometry) (slot a : ℕ) → slot < slots g → IsIn (slot_word g slot 0) 8 a → IsTableWord g a
  run_in g slot a small inside = let high = slot_word_low g slot 7 small (omega arith) in
      (omega (arith, inside.0), omega (arith, inside.1, high))

  pointer_in : (g : Geometry) (p : ℕ) → p < g.pages → IsTableWord g (pointer_word g p)
  unfolding pointer_word
  pointer_in g p lt = (omega arith, pointer_word_low g p lt)

  pub insert_within : (a : ℕ) → IsInsertWord t t' fp page a → IsTableWord d.geometry a
  insert_within a word = subst (λ (g : Geometry). IsTableWord g a) (sym may.table.geometry) (⊎_elim
      (λ (direct : IsIn (slot_word t.geometry (prefix_of t.geometry fp) 0) 8 a). run_in t.geometry (prefix_of t.geometry fp) a
      (omega (arith, prefix_lt d words t fp page may)) direct)
      (λ rest. ⊎_elim (λ (e : a ≡ pointer_word t.geometry page). subst (IsTableWord t.geometry) (sym e)
      (pointer_in t.geometry page may.data_page.high))
      (λ taken. run_in t.geometry taken.slot a taken.takes.small taken.inside) rest) word)

bytes_still : (d : Disk) (chain : ℕ → List Row) (pointer : ℕ → ℕ) (page : ℕ) → page_bytes (with_table d chain pointer) page ≡ page_bytes d page
unfolding page_bytes
bytes_still d chain pointer page = refl

module _ {D F : Type 0} (state : D → State) (print : Print) (w : Volume D F) (fp : List ℕ) (page : ℕ) (twenty : IsPrint fp)
    (to : (d : Disk) → IsVolume d w.parts (state w.device) → IsToInsert print d w.parts fp page) where
  module _ (d : Disk) (v : IsVolume d w.parts (state w.device)) where
    abbrev at : IsAtPlace d w.parts page
    at = (to d v).place

    may : MayInsert d (state w.device).now w.parts.fact fp page
    may = may_insert d (state w.device) w.parts.fact fp page v.fast.valid (is_table d w.parts (state w.device) v) twenty
        (place_mapped d w.parts (state w.device) v page at) (to d v).new_print at.no_row

    putting : (slot : ℕ) (e : Disk) (t' : Table) → Inserts d w.parts.fact fp page slot e t' → HasPut d (new_row slot fp page) e
    putting = has_put d (state w.device) w.parts.fact fp page v.fast.valid (is_table d w.parts (state w.device) v) twenty
        (place_mapped d w.parts (state w.device) v page at) (to d v).new_print at.no_row

    table_stands : Stands (TableSays d) (state w.device)
    table_stands = record {
      within = λ a x told. v.fast.stands.within a x (table_said d a x told);
      reads = λ a x told. v.fast.stands.reads a x (table_said d a x told);
      settled = λ a x told. v.fast.stands.settled a x (table_said d a x told);
    }

    pub insert_here : CanInsert (state w.device).now w.parts.fact fp page
    insert_here = record { disk = d; may = may }

  module _ (agrees : Agrees state w) (running : w.parts.stopped ≡ false) where
    abbrev found : (d : Disk) × IsVolume d w.parts (state w.device)
    found = running_disk state w running agrees

    abbrev looks : IsAtLook w.parts
    looks = (to found.0 found.1).place.looks

    pub insert_can : CanInsert (state w.device).now w.parts.fact fp page
    insert_can = insert_here found.0 found.1

    pub insert_looks : IsAtLook w.parts
    insert_looks = looks

    pub insert_spare : LOOK_UNITS ≤ (state w.device).spare
    insert_spare = omega (arith, look_has_units w.parts looks found.0 (state w.device) found.1)

    pub insert_trace : vec_len w.parts.trace < vec_capacity w.parts.trace
    insert_trace = look_has_trace w.parts looks found.0 (state w.device) found.1

    pub insert_units : LOOK_UNITS + REMAP_UNITS ≤ w.parts.owed.units
    insert_units = omega (arith, look_owes_units w.parts looks found.0 (state w.device) found.1)

    pub insert_change : 1 ≤ w.parts.owed.trace
    insert_change = look_owes_change w.parts looks found.0 (state w.device) found.1

    pub insert_few : (b' : Parts) (slot word units : ℕ) → Looks (Settle slot true) slot word units w.parts b'
        → (x : Sharing) × ((b'.sharing ≡ Some x) × (x.count < 2 ^ 32))
    insert_few b' slot word units change = (
      _,
      (
        now_is w.parts looks b' (Settle slot true) slot word units change,
        item_few found.0 found.1.fast.valid looks.sharing (found.1.sharing looks.sharing looks.begun).begun,
      ),
    )

  module _ (w' : Volume D F) (t' : Table) (only : StoresOnly (IsInsertWord w.parts.fact t' fp page) (state w.device) (state w'.device))
      (leaves : LeavesInserted w.parts.fact t' fp page (state w.device) (state w'.device))
      (agree : Agree (state w'.device).now (state w'.device).past) (faults : (state w.device).faults ≤ (state w'.device).faults) (d : Disk)
      (v : IsVolume d w.parts (state w.device)) where
    stores : StoresOnly (IsTableWord d.geometry) (state w.device) (state w'.device)
    stores = stores_only-weaken _ _ (state w.device) (state w'.device) (insert_within d (state w.device).now w.parts.fact t' fp page (may d v)) only

    long : length (state w'.device).now ≡ 512 * d.geometry.pages
    long = stores.words ∙ v.fast.long

    -- each image stands for a disk with the same files
    files_kept : (e : Disk) → e ≡ with_table d e.chain e.pointer → IsSameFiles (files e) (files d)
    files_kept e same name = ap (λ (x : Disk). files x name) same ∙ sym (files_same d e.chain e.pointer name)

    module _ (x : Disk) where
      one_between : (e : Disk) → IsNextDisk d e → (IsOwn print d → IsOwn print e) → (m : ℕ) (c : List ℕ) → moment (state w.device).past ≤ m
          → Left (state w'.device).past m c → HoldsTable c e → IsBetween print d x c
      one_between e next own m c late left holds = record {
        disk = e;
        stands_for = image_of_table d v.fast.valid (state w.device) (state w'.device) v.fast.stands stores e next agree long m c late left holds;
        own = own;
        same = inl (files_kept e next.same);
      }

      pub insert_images : LeavesOnly (state w.device) (state w'.device) (IsBetween print d x)
      insert_images =
          let is : IsInserting d w.parts.fact t' fp page (state w.device) (state w'.device) = leaves d (may d v) (table_stands d v) in
          let put : HasPut d (new_row is.slot fp page) is.disk = putting d v is.slot is.disk t' is.inserts in
          record {
            extends = is.leaves.extends;
            each = λ m c late left. ⊎_elim
                (λ (old : HoldsTable c d). one_between d (record { same = refl; valid = v.fast.valid; read = λ p some. inr some }) (λ own. own) m c
                late left old)
                (λ rest. ⊎_elim (λ (middle : HoldsTable c (pointed d (new_row is.slot fp page))). one_between (pointed d (new_row is.slot fp page))
                put.middle (put.middle_own print) m c late left middle)
                (λ (new : HoldsTable c is.disk). one_between is.disk put.next (put.own print (to d v).print_is) m c late left new) rest)
                (is.leaves.each m c late left);
          }

    module _ (stops : Stops w.parts w'.parts) where
      high : (a : ℕ) → a < 4 → IsTableWord d.geometry a → ⊥
      high a low within = omega (arith, low, within.0)

      pub insert_breaks : Rose (state w.device).faults (state w'.device).faults → Breaks state print 15 None w w' d
      insert_breaks rose = breaks_at state w w' d v stops (IsTableWord d.geometry) stores high print 15 d (insert_images d) (λ name. refl) faults
          rose

      pub insert_stops : Agrees state w'
      insert_stops = is_stopped (stopped_after state w w' d v stops (IsTableWord d.geometry) stores high)

    module _ (slot : ℕ) (made : MakesInserted w.parts.fact t' fp page (state w.device) (state w'.device) slot)
        (others : KeepsFlushed (Others 15) (IsInsertWord w.parts.fact t' fp page) (state w.device) (state w'.device))
        (own : SettlesAll 15 (state w.device) (state w'.device)) (spare : (state w.device).spare ≤ (state w'.device).spare + LOOK_UNITS)
        (change : Looks (Settle slot true) slot 1 (LOOK_UNITS + REMAP_UNITS) w.parts w'.parts) (fact : w'.parts.fact ≡ t') where
      is : HasInserted d w.parts.fact t' fp page slot (state w.device) (state w'.device)
      is = made d (may d v)

      abbrev row : Row
      row = new_row slot fp page

      put_first : HasPut d row is.disk
      put_first = putting d v slot is.disk t' is.inserts

      abbrev e : Disk
      e = with_table d is.disk.chain is.disk.pointer

      put : HasPut d row e
      put = subst (HasPut d row) put_first.same put_first

      table : IsTable e (state w'.device).now t'
      table = subst (λ (x : Disk). IsTable x (state w'.device).now t') put_first.same is.table

      settled : Stands (TableSays e) (state w'.device)
      settled = subst (λ (x : Disk). Stands (TableSays x) (state w'.device)) put_first.same (is.settled (table_stands d v))

      abbrev item : Sharing
      item = (at d v).looks.sharing

      begun : IsBegun d item
      begun = item_begun d w.parts (state w.device) v page (at d v)

      at_page : (at d v).by.block ≡ page
      at_page = (at d v).on_page

      accounts : IsOwn print d → AccountsFor print d e
      accounts has = record {
        alone = λ ino idx m place alone. inl (record {
          mapping = m;
          place = record {
            in_table = place.in_table;
            live = place.live;
            maps = sym (maps_same d is.disk.chain is.disk.pointer ino idx) ∙ place.maps;
          };
          alone = alone;
          page_is = refl;
          bytes_are = bytes_still d is.disk.chain is.disk.pointer m.block;
        });
        row_pages = λ r listed. ⊎_elim
            (λ (new : r ≡ row). inr (subst (λ (bytes : List ℕ). HasPage (files d) bytes)
            (ap (page_bytes d) (at_page ∙ ap (λ (x : Row). x.page) (sym new)) ∙ sym (bytes_still d is.disk.chain is.disk.pointer r.page))
            (has_page d v.fast.valid print has item.work.ino (item.first + item.done) (at d v).by (record {
              in_table = begun.in_table;
              live = begun.live;
              maps = (at d v).mapped;
            }) begun.file)))
            (λ (old : Contains (rows d) r). inl (record {
              was = r;
              there = old;
              page_is = refl;
              bytes_are = bytes_still d is.disk.chain is.disk.pointer r.page;
            })) (put.puts.only r listed);
      }

      volume : IsVolume e w'.parts (state w'.device)
      volume = insert_volume d w.parts (state w.device) v fp page (at d v) slot is.disk.chain is.disk.pointer put w'.parts (state w'.device) t'
          change fact stores (keeps-weaken (Others 15) (Others 15) _ _ (state w.device) (state w'.device) (λ q other. other)
          (insert_within d (state w.device).now w.parts.fact t' fp page (may d v)) others)
          own settled table spare

      pub insert_moves : MovesOn state print 15 w w' d
      insert_moves = record {
        after = e;
        moves = record {
          volume = volume;
          images = insert_images e;
          own = put.own print (to d v).print_is;
          accounts = accounts;
          alone = λ me. absurd (omega (arith, me));
          traces = record {
            more = record { slot = slot; word = 1 } ∷ [];
            trace = change.trace;
            words = put_words d e row put v.fast.valid 1 refl;
          };
          others = insert_others d w.parts (state w.device) v fp page (at d v) slot is.disk.chain is.disk.pointer put w'.parts (state w'.device) t'
              change fact stores (keeps-weaken (Others 15) (Others 15) _ _ (state w.device) (state w'.device) (λ q other. other)
              (insert_within d (state w.device).now w.parts.fact t' fp page (may d v)) others)
              own settled table spare;
          counts = change.made;
          geometry = change.geometry;
          faults = faults;
        };
        quiet = files_kept e refl;
        ops = ops_same w.parts w'.parts change.flights;
        history = change.history;
      }

      pub insert_lowers : DaemonLowers w.parts w'.parts (sharing_events w'.parts.sharing)
      insert_lowers = look_lowers w.parts (at d v).looks w'.parts (Settle slot true) slot 1 (LOOK_UNITS + REMAP_UNITS) change (omega arith)

      pub insert_agrees : Agrees state w'
      insert_agrees = agrees_with e volume
