-- A place of the daemon's item is left alone: the volume of after.
use Rattle.std.proofs.Common.{◌≡◌, ◌≢◌, ◌⊎◌, inl, inr, ⊎_elim, ℕ, ◌+◌, ◌*◌, ◌^◌, ◌<◌, ◌≤◌, List, [], ◌∷◌, refl, sym, ◌∙◌, ap, subst, arith}
use Rattle.std.specs.Prelude.{slice_get, slice_index, Some, Contains, IsBitSet, IsSome, bit_or}
use Rattle.std.proofs.lemmas.Bool.{cases_eq, cases_lt}
use Rattle.std.proofs.lemmas.List.Elements.{All-contains}
use Rattle.pm_device.specs.State.{State}
use Rattle.pm_device.specs.Settled.{StoresOnly, KeepsFlushed, Others, SettlesAll}
use Rattle.pm_device.specs.Commit.{IsDone}
use Rattle.log_entry.specs.declared.item.Flag.TheVariants.{InProcess}
use Rattle.log_entry.specs.declared.item.LogItem.TheVariants.{Write}
use Rattle.inode_log.specs.Reflags.{with_mask, mask_word}
use Rattle.file_index.specs.declared.page_map.Mapping.{Mapping as KeptMapping}
use Rattle.dn_model.specs.Log.{Log, placed}
use Rattle.dn_model.specs.Maps.{Mapping}
use Rattle.dn_model.specs.Table.{Row, row_of}
use Rattle.dn_model.specs.Disk.{Disk, maps, rows}
use Rattle.dn_model.specs.Own.{Print, IsOwn, LivePlace, IsAlone, HasRow, page_bytes}
use Rattle.law_log_swap.specs.Relogged.{relogged}
use Rattle.law_log_swap.proofs.Relogged.{log_here, use_same}
use Rattle.law_flags.specs.FlagLaws.{KeepsAlone, masked}
use Rattle.law_flags.proofs.Tags.{mask_own}
use Rattle.dn_volume.specs.declared.background.Cleaning.{Cleaning}
use Rattle.dn_volume.specs.declared.background.Sharing.{Sharing}
use Rattle.dn_volume.specs.declared.flight.Flight.{Flight}
use Rattle.dn_volume.specs.declared.volume.InodeState.{InodeState}
use Rattle.dn_volume.specs.declared.volume.Parts.{Parts}
use Rattle.dn_volume.specs.Parties.{Flies, by_client, by_daemon, by_cleaning}
use Rattle.dn_volume.specs.Inodes.{AreInodesOf}
use Rattle.dn_volume.specs.Shares.{IsWaiting, IsBegun}
use Rattle.dn_volume.specs.Accounts.{WasAloneOn, HasTwinRow, AccountsFor}
use Rattle.dn_volume.specs.Agrees.{IsVolume}
use Rattle.dn_volume.proofs.Stills.{still_settles}
use Rattle.count_events.proofs.Settled.{no_client}
use Rattle.dedupe_daemon.specs.Daemon.{PassesPlace, after_place}
use Rattle.dedupe_daemon.specs.Looked.{IsLooking, IsToMask}
use Rattle.dedupe_daemon.proofs.Bits.{bit_set, bits_kept, bits_only, bits_below}
use Rattle.dedupe_daemon.proofs.DaemonEvent.{DaemonEvent, others_kept}
use Rattle.dedupe_daemon.proofs.Holding.{held_once}
use Rattle.dedupe_daemon.proofs.ItemAt.{IsOfItem, item_spelled, places_of, placed_change, word_is}
use Rattle.dedupe_daemon.proofs.RelogDisk.{
  IsRetagged,
  some_of,
  bytes_still,
  disk_kept,
  it_lives,
  only_it,
  place_was,
  inodes_kept,
  tag_leaves,
  tag_fast,
}
use Rattle.dedupe_daemon.proofs.FlagDisk.{mask_log, may_mask, mask_retags, mask_bits, mask_here, mask_there}
use Rattle.dedupe_daemon.proofs.Passed.{nodes_same, holds_on, holds_back, waits_on, pass_room, raises_none, adds_none, sharing_next}
use Rattle.dedupe_daemon.proofs.PassEnds.{begun_write}

module _ (d : Disk) (b : Parts) (s : State) (v : IsVolume d b s) (sharing : Sharing) (looking : IsLooking b sharing) where
  abbrev pub begun : IsBegun d sharing
  begun = (v.sharing sharing looking.begun).begun

  abbrev ino : ℕ
  ino = sharing.work.ino

  abbrev slot : ℕ
  slot = sharing.work.slot

  -- the mask of after
  abbrev pub new_mask : ℕ
  new_mask = bit_or begun.mask (2 ^ sharing.done)

  pub mask_small : new_mask < 2 ^ sharing.count
  mask_small =
      let spelled = item_spelled d v.fast.valid ino slot sharing.first sharing.count begun.block begun.size InProcess begun.mask
      (begun_write d sharing begun) in
      bits_below begun.mask sharing.done sharing.count looking.some spelled.4

  pub mask_read : slice_index s.now (8 * slot + 6) ≡ begun.mask
  mask_read = word_is d v.fast.valid ino slot sharing.first sharing.count begun.block begun.size InProcess begun.mask (begun_write d sharing begun)
      b.geometry s v.fast 6 (omega arith)

  abbrev pub log : Log
  log = mask_log d v.fast.valid ino slot sharing.first sharing.count begun.block begun.size InProcess begun.mask (begun_write d sharing begun)
      new_mask

  abbrev e : Disk
  e = relogged d ino log

  pub retags : IsRetagged d ino log (mask_word slot) new_mask (masked slot new_mask)
  retags = mask_retags d v.fast.valid ino slot sharing.first sharing.count begun.block begun.size InProcess begun.mask (begun_write d sharing begun)
      new_mask mask_small

  -- a place of the item
  module _ (idx : ℕ) (n : Mapping) (mapped : maps d ino idx ≡ Some n) (by : n.slot ≡ slot) where
    of : IsOfItem idx n sharing.first sharing.count InProcess begun.mask
    of = places_of d v.fast.valid ino slot sharing.first sharing.count begun.block begun.size InProcess begun.mask (begun_write d sharing begun) idx n
        mapped by

    mask_at : (masked slot new_mask n).mask ≡ new_mask
    mask_at = mask_here slot new_mask n by

    bit_at : (masked slot new_mask n).bit ≡ n.bit
    bit_at = ap (λ (k : KeptMapping). k.bit) (mask_bits slot new_mask n).0

    -- it is left alone if it was, and if it is the one that is looked at
    alone_then : IsBitSet new_mask n.bit → IsAlone (masked slot new_mask n)
    alone_then set = subst (λ (k : ℕ). IsBitSet k (masked slot new_mask n).bit) (sym mask_at) (subst (IsBitSet new_mask) (sym bit_at) set)

    alone_back : IsAlone (masked slot new_mask n) → IsBitSet new_mask n.bit
    alone_back alone = subst (IsBitSet new_mask) bit_at (subst (λ (k : ℕ). IsBitSet k (masked slot new_mask n).bit) mask_at alone)

    was_set : IsAlone n → IsBitSet begun.mask n.bit
    was_set alone = subst (λ (k : ℕ). IsBitSet k n.bit) of.mask_is alone

    set_was : IsBitSet begun.mask n.bit → IsAlone n
    set_was set = subst (λ (k : ℕ). IsBitSet k n.bit) (sym of.mask_is) set

    alone_kept_so : IsAlone n → IsAlone (masked slot new_mask n)
    alone_kept_so alone = alone_then (bits_kept begun.mask sharing.done n.bit (was_set alone))

    alone_now : idx ≡ sharing.first + sharing.done → IsAlone (masked slot new_mask n)
    alone_now here = alone_then (subst (IsBitSet new_mask) (omega (arith, of.bit_is, here)) (bit_set begun.mask sharing.done))

    alone_why : IsAlone (masked slot new_mask n) → (idx ≡ sharing.first + sharing.done) ⊎ IsAlone n
    alone_why alone = ⊎_elim (λ here. inl (omega (arith, here, of.bit_is, of.low))) (λ was. inr (set_was was))
        (bits_only begun.mask sharing.done n.bit (alone_back alone))

  keeps_alone : KeepsAlone d ino slot new_mask
  keeps_alone idx n mapped alone = elim (cases_eq n.slot slot) [
    | inl by ↦ alone_kept_so idx n mapped by alone
    | inr ne ↦ subst IsAlone (sym (mask_there slot new_mask n ne)) alone
  ]

  pub own_then : (print : Print) → IsOwn print d → IsOwn print e
  own_then print = mask_own d ino new_mask slot log (may_mask d v.fast.valid ino slot sharing.first sharing.count begun.block begun.size InProcess
      begun.mask (begun_write d sharing begun) new_mask mask_small) print keeps_alone

  -- why a place is left alone then
  pub twins : (print : Print) (page : ℕ) → IsToMask print d sharing page → IsOwn print d → (i idx : ℕ) (m : Mapping) → LivePlace e i idx m → IsAlone m
      → WasAloneOn d e i idx m ⊎ HasTwinRow print d (page_bytes e m.block)
  twins print page to own i idx m place alone =
      let was = place_was d ino log (mask_word slot) new_mask (masked slot new_mask) retags i idx m place in
      ⊎_elim (λ here. at_item was.0 was.1 here.0 here.1 (cases_eq was.0.slot slot))
      (λ there. inl (record {
        mapping = was.0;
        place = was.1;
        alone = subst IsAlone there.1 alone;
        page_is = ap (λ (x : Mapping). x.block) (sym there.1);
        bytes_are = bytes_still d ino log m.block;
      })) was.2
    where
      block_same : (n : Mapping) → m ≡ masked slot new_mask n → m.block ≡ n.block
      block_same n same = ap (λ (x : Mapping). x.block) same ∙ ap (λ (k : KeptMapping). k.block) (mask_bits slot new_mask n).0

      at_item : (n : Mapping) → LivePlace d i idx n → i ≡ ino → m ≡ masked slot new_mask n → (n.slot ≡ slot) ⊎ (n.slot ≢ slot)
          → WasAloneOn d e i idx m ⊎ HasTwinRow print d (page_bytes e m.block)
      at_item n was here same (inr ne) = inl (record {
        mapping = n;
        place = was;
        alone = subst IsAlone (same ∙ mask_there slot new_mask n ne) alone;
        page_is = sym (block_same n same);
        bytes_are = bytes_still d ino log m.block;
      })
      at_item n was here same (inl by) = ⊎_elim
          (λ (at : idx ≡ sharing.first + sharing.done).
          let one : n ≡ to.place.by = one_mapping n to.place.by (sym (ap (maps d ino) at) ∙ mapped) to.place.mapped in
          let page_is : m.block ≡ page = block_same n same ∙ ap (λ (x : Mapping). x.block) one ∙ to.place.on_page in
          let bytes : page_bytes e m.block ≡ page_bytes d page = bytes_still d ino log m.block ∙ ap (page_bytes d) page_is in
          inr (record {
            row = to.row;
            there = to.there;
            other = λ equal. to.other (equal ∙ bytes);
            same = sym (All-contains (λ (r : Row). r.print ≡ print (page_bytes d r.page)) (rows d) to.row own.prints to.there) ∙ to.print_is ∙ ap
                print
                (sym bytes);
          }))
          (λ old. inl (record {
            mapping = n;
            place = was;
            alone = old;
            page_is = sym (block_same n same);
            bytes_are = bytes_still d ino log m.block;
          })) (alone_why idx n mapped by (subst IsAlone same alone))
        where
          mapped : maps d ino idx ≡ Some n
          mapped = ap (λ (j : ℕ). maps d j idx) (sym here) ∙ was.maps

          one_mapping : (x y : Mapping) → maps d ino (sharing.first + sharing.done) ≡ Some x → maps d ino (sharing.first + sharing.done) ≡ Some y → x
              ≡ y
          one_mapping x y there now = cc

  pub mask_accounts : (print : Print) (page : ℕ) → IsToMask print d sharing page → IsOwn print d → AccountsFor print d e
  mask_accounts print page to own = record {
    alone = twins print page to own;
    row_pages = λ row has. inl (record {
      was = row;
      there = subst (λ (rs : List Row). Contains rs row) retags.pages.places.rows_same has;
      page_is = refl;
      bytes_are = bytes_still d ino log row.page;
    });
  }

  module _ (b' : Parts) (change : PassesPlace sharing b b') where
    begun_next : IsBegun e (after_place sharing)
    begun_next = record {
      file = begun.file;
      in_table = subst (λ g. ino < g.inodes) (sym retags.one.geometry) begun.in_table;
      live = use_same d ino log ino ∙ begun.live;
      block = begun.block;
      size = begun.size;
      mask = new_mask;
      item = subst (λ (l : Log). Contains (placed l) (record {
        slot = slot;
        item = Write sharing.first sharing.count begun.block begun.size InProcess
            new_mask;
      })) (sym (log_here d ino log))
          (placed_change d v.fast.valid ino slot sharing.first sharing.count begun.block begun.size InProcess begun.mask (begun_write d sharing begun)
          (with_mask new_mask));
      done_few = omega (arith, looking.some);
      done_so = λ i m lt mapped by.
          let was = some_of (masked slot new_mask) (maps d ino (sharing.first + i)) m (sym (retags.now_maps (sharing.first + i)) ∙ mapped) in
          let by_item : was.0.slot ≡ slot = sym (ap (λ (x : Mapping). x.slot) was.2 ∙ (mask_bits slot new_mask was.0).2) ∙ by in
          done_at i was.0 m was.2 was.1 by_item (cases_lt i sharing.done) lt;
    }
      where
        row_still : (page other : ℕ) → other ≡ page → HasRow d page → HasRow e other
        row_still page other same has = subst (λ (rs : List Row). IsSome (row_of rs other)) (sym retags.pages.places.rows_same)
            (subst (HasRow d) (sym same) has)

        done_at : (i : ℕ) (n m : Mapping) → m ≡ masked slot new_mask n → maps d ino (sharing.first + i) ≡ Some n → n.slot ≡ slot
            → (i < sharing.done) ⊎ (sharing.done ≤ i) → i < sharing.done + 1 → IsAlone m ⊎ HasRow e m.block
        done_at i n m same mapped by (inl before) lt = ⊎_elim
            (λ alone. inl (subst IsAlone (sym same) (alone_kept_so (sharing.first + i) n mapped by alone)))
            (λ has. inr (row_still n.block m.block
            (ap (λ (x : Mapping). x.block) same ∙ ap (λ (k : KeptMapping). k.block) (mask_bits slot new_mask n).0) has))
            (begun.done_so i n before mapped by)
        done_at i n m same mapped by (inr past) lt =
            inl (subst IsAlone (sym same) (alone_now (sharing.first + i) n mapped by (omega (arith, past, lt))))

    not_client : (q : ℕ) (f : Flight) → Flies b q f → Contains f.held.items ino → ⊥
    not_client q f flies held = no_client b q f v.flights.clients
        (omega (
          arith,
          held_once d b v.holders ino (omega (arith, begun.in_table, v.inodes.all)) q 15 (by_client f flies held)
              (by_daemon sharing refl looking.begun refl),
        )) flies

    not_cleaned : (c : Cleaning) → b.reclaiming.cleaning ≡ Some c → c.ino ≢ ino
    not_cleaned c at same =
        let one = held_once d b v.holders ino (omega (arith, begun.in_table, v.inodes.all)) 16 15 (by_cleaning c refl at same)
        (by_daemon sharing refl looking.begun refl) in
        omega (arith, one)

    module _ (u : State) (only : StoresOnly (λ a. a ≡ mask_word slot) s u) (others : KeepsFlushed (Others 15) (λ a. a ≡ mask_word slot) s u)
        (done : IsDone 15 (mask_word slot) new_mask s u) (settles : SettlesAll 15 s u) (spare : s.spare ≤ u.spare + 3) where
      pub mask_event : DaemonEvent (ino ∷ []) d e b b' s u
      mask_event = record {
        fast = tag_fast d ino log (mask_word slot) new_mask (masked slot new_mask) retags s u b.geometry v.fast only done;
        leaves = tag_leaves d ino log (mask_word slot) new_mask (masked slot new_mask) retags s u b.geometry v.fast only others;
        live = it_lives d ino log (mask_word slot) new_mask (masked slot new_mask) retags;
        loose = λ q f flies i held has. not_client q f flies
            (subst (Contains f.held.items) (only_it d ino log (mask_word slot) new_mask (masked slot new_mask) retags i has) held);
        apart = λ c at has. not_cleaned c at (only_it d ino log (mask_word slot) new_mask (masked slot new_mask) retags c.ino has);
        disk = disk_kept d ino log (mask_word slot) new_mask (masked slot new_mask) retags;
        kept = change.kept;
        inodes_are = inodes_kept d ino log (mask_word slot) new_mask (masked slot new_mask) retags b'.inodes.items
            (subst (λ (ns : List InodeState). AreInodesOf d ns) (sym (nodes_same b sharing looking b' change)) v.inodes);
        holders = record {
          told = λ i who n at.
              let was = v.holders.told i who n (ap (λ (ns : List InodeState). slice_get ns i) (sym (nodes_same b sharing looking b'
              change)) ∙ at) in (
                (λ holder. holds_on b sharing looking b' change who i (was.0 holder)),
                (λ holds. was.1 (holds_back b sharing looking b' change who i
                    holds)),
              );
          in_table = λ i who holds. subst (λ g. i < g.inodes) (sym retags.one.geometry) (v.holders.in_table i who (holds_back b sharing looking b'
              change
              who i holds));
        };
        queue = record {
          waits = λ i idx m place undone.
              let was = place_was d ino log (mask_word slot) new_mask (masked slot new_mask) retags i idx m place in
              let both : (m.slot ≡ was.0.slot) × (m.flag ≡ was.0.flag) = ⊎_elim
              (λ here.
              let bits = mask_bits slot new_mask was.0 in
              (ap (λ (x : Mapping). x.slot) here.1 ∙ bits.2, ap (λ (x : Mapping). x.flag) here.1 ∙ bits.1))
              (λ there. (ap (λ (x : Mapping). x.slot) there.1, ap (λ (x : Mapping). x.flag) there.1)) was.2 in
              subst (IsWaiting b' i) (sym both.0) (waits_on b sharing looking b' change i was.0.slot
              (v.queue.waits i idx was.0 was.1 (λ complete. undone (both.1 ∙ complete))));
        };
        sharing = sharing_next b sharing looking b' change d e begun begun_next;
        raises = raises_none b sharing looking b' change;
        adds = adds_none b sharing looking b' change;
        room = pass_room b sharing looking b' change s u v.room (omega (arith, v.room.units, change.units, spare));
        still = still_settles 15 b b' s u settles (others_kept b b' change.kept) v.still;
      }
