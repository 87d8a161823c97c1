-- What a change of the table leaves of a volume.
use Rattle.std.proofs.Common.{◌≡◌, ℕ, List, sym, ◌∙◌, ap, subst}
use Rattle.std.specs.Prelude.{◌↔◌, ◌≤◌, length, slice_get, Contains, if◌then◌else◌, is_some, Option}
use Rattle.std.specs.Option.{option_map}
use Rattle.std.specs.FinMap.{FinMap}
use Rattle.std.specs.Ordering.{nat_cmp}
use Rattle.std.specs.Cmp.Lexicographic.{slice_cmp}
use Rattle.page_alloc.specs.Free.{FreePages, IsInOrder}
use Rattle.file_content.specs.Content.{kept}
use Rattle.law_write.specs.Events.{IsUnused}
use Rattle.law_write.proofs.Counting.{total-same}
use Rattle.dn_model.specs.Maps.{Mapping}
use Rattle.dn_model.specs.Table.{Row}
use Rattle.dn_model.specs.Disk.{Disk, maps}
use Rattle.dn_model.specs.Counts.{total}
use Rattle.law_table.specs.Changes.{with_table}
use Rattle.law_table_on_disk.proofs.Frame.{maps_same, named_same}
use Rattle.fact_table.specs.Table.{Table, IsTable}
use Rattle.dn_volume.specs.declared.volume.InodeState.{InodeState}
use Rattle.dn_volume.specs.declared.volume.Parts.{Parts}
use Rattle.dn_volume.specs.Parties.{Holds, Takes}
use Rattle.dn_volume.specs.Inodes.{AreNamesOf, AreInodesOf, AreHolders}
use Rattle.dn_volume.specs.Space.{HasSpace, AreSlotsOf}
use Rattle.dn_volume.specs.Shares.{IsWaiting, IsQueued}
use Rattle.dn_volume.proofs.Lefts.{left_still}
use Rattle.dn_volume.specs.Reclaims.{units_by_use, mapped_places, dying_units}

-- everybody holds and has taken what he had, and the same items wait
pub record SameHands (b b' : Parts) : Type 0 where
  pub holds : (who ino : ℕ) → Holds b who ino → Holds b' who ino
  pub held : (who ino : ℕ) → Holds b' who ino → Holds b who ino
  pub takes : (who page : ℕ) → Takes b who page → Takes b' who page
  pub taken : (who page : ℕ) → Takes b' who page → Takes b who page
  pub waits : (ino slot : ℕ) → IsWaiting b ino slot → IsWaiting b' ino slot

module _ (d : Disk) (chain : ℕ → List Row) (pointer : ℕ → ℕ) where
  abbrev new : Disk
  new = with_table d chain pointer

  pub names_stay : (names : FinMap (slice_cmp nat_cmp) ℕ) → AreNamesOf d names → AreNamesOf new names
  names_stay names is = record { leads = λ name. is.leads name ∙ sym (named_same d chain pointer name) }

  pub inodes_stay : (inodes : List InodeState) → AreInodesOf d inodes → AreInodesOf new inodes
  inodes_stay inodes is = record {
    all = is.all;
    each = λ ino n at. let one = is.each ino n at in record {
      use_is = one.use_is;
      size_is = one.size_is;
      small = one.small;
      log_pages = one.log_pages;
      places = λ idx. one.places idx ∙ ap (option_map kept) (sym (maps_same d chain pointer ino idx));
    };
  }

  module _ (b b' : Parts) (hands : SameHands b b') where
    pub holders_stay : b'.inodes.items ≡ b.inodes.items → AreHolders d b → AreHolders new b'
    holders_stay same is = record {
      told = λ ino who n at.
          let one = is.told ino who n (ap (λ (ns : List InodeState). slice_get ns ino) (sym same) ∙ at) in
          (λ holder. hands.holds who ino (one.0 holder), λ holds. one.1 (hands.held who ino holds));
      in_table = λ ino who holds. is.in_table ino who (hands.held who ino holds);
    }

    pub space_stays : b'.free ≡ b.free → ((page : ℕ) → IsUnused d page → IsUnused new page) → ((page : ℕ) → IsUnused new page → IsUnused d page)
        → HasSpace d b → HasSpace new b'
    space_stays same kept only is = record {
      pages = ap (λ (x : FreePages). x.pages) same ∙ is.pages;
      in_order = subst IsInOrder (sym same) is.in_order;
      taker = is.taker;
      free = λ page.
          let one = subst (λ (x : FreePages). Contains x.free page ↔ (IsUnused d page × (is.taker page ≡ 0))) (sym same) (is.free page) in
          (λ has. let found = one.0 has in (kept page found.0, found.1), λ found. one.1 (only page found.0, found.1));
      takes = λ who page takes. is.takes who page (hands.taken who page takes);
      taken = λ page some. hands.takes (is.taker page) page (is.taken page some);
      unused = λ page some. kept page (is.unused page some);
      some = subst (λ (x : FreePages). 1 ≤ length x.free) (sym same) is.some;
      left = left_still b b' same (hands.takes 16) is.left;
    }

    pub queue_stays : IsQueued d b → IsQueued new b'
    queue_stays is = record {
      waits = λ ino idx m place undone. hands.waits ino m.slot
          (is.waits ino idx m (record { in_table = place.in_table; live = place.live; maps = sym (maps_same d chain pointer ino idx) ∙ place.maps })
          undone);
    }

  -- the places of dying inodes
  places_same : (ino : ℕ) → mapped_places new ino ≡ mapped_places d ino
  unfolding mapped_places
  places_same ino = total-same (λ idx. if is_some (maps d ino idx) then 1 else 0) (λ idx. if is_some (maps new ino idx) then 1 else 0) 4096
      (λ idx lt. ap (λ (m : Option Mapping). if is_some m then 1 else 0) (maps_same d chain pointer ino idx))

  pub dying_same : total new.geometry.inodes (dying_units new) ≡ total d.geometry.inodes (dying_units d)
  dying_same = total-same (dying_units d) (dying_units new) d.geometry.inodes (λ ino lt. ap (units_by_use (d.inode ino).use_of) (places_same ino))

-- the table that is kept in memory
pub table_stays : (e : Disk) (words : List ℕ) (t : Table) → IsTable e words t → AreSlotsOf e t
table_stays e words t is = record { geometry = is.geometry; set = is.set; free = is.free; taken = is.taken }
