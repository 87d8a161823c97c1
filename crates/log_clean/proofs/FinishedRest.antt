-- A cleaned log has replaced the old one: rows, their counts, the work of reclaim and what is left alone are what they were.
use Rattle.std.proofs.Common.{◌≡◌, ◌≢◌, inl, inr, ℕ, ◌<◌, List, length, refl, sym, ◌∙◌, ap, subst, arith}
use Rattle.std.specs.Prelude.{Option, Some, None, Contains}
use Rattle.std.specs.FinMap.{get}
use Rattle.std.proofs.lemmas.Bool.{cases_eq}
use Rattle.pm_layout.specs.declared.Geometry.{Geometry}
use Rattle.fact_table.specs.Table.{HasRow}
use Rattle.dn_model.specs.Log.{Log}
use Rattle.dn_model.specs.Maps.{Mapping, mapping}
use Rattle.dn_model.specs.Table.{Row}
use Rattle.dn_model.specs.Disk.{Disk, Use, Live, Dying, maps, rows}
use Rattle.dn_model.specs.Counts.{total}
use Rattle.dn_model.specs.Own.{Print, LivePlace, page_bytes}
use Rattle.law_write.specs.WithLog.{with_log}
use Rattle.law_write.proofs.Counting.{total-same}
use Rattle.law_log_swap.specs.Relogged.{relogged}
use Rattle.law_log_swap.specs.Replaced.{AreAlike, IsAlike}
use Rattle.law_log_swap.proofs.Relogged.{use_same, same_geometry, maps_others, maps_here, maps_before}
use Rattle.law_clean.specs.Cleaned.{cleaned_log}
use Rattle.log_replace.specs.CleanedLaws.{MayClean, cleaned_disk}
use Rattle.log_replace.proofs.CleanedDisk.{clean_replaces}
use Rattle.dn_volume.specs.declared.background.DyingPlace.{DyingPlace}
use Rattle.dn_volume.specs.declared.volume.Parts.{Parts}
use Rattle.dn_volume.specs.Accounts.{AccountsFor, KeepsAlone}
use Rattle.dn_volume.specs.Balance.{times, added_to_share, added, dropped, AreCounted}
use Rattle.dn_volume.specs.Reclaims.{one_if, units_by_use, mapped_places, dying_units, IsRaised, IsReclaiming}
use Rattle.dn_volume.specs.Events.{word_in, word_at}
use Rattle.dn_volume.specs.Inodes.{AreNamesOf}
use Rattle.dn_volume.proofs.HandsKept.{owed_same, raised_same}
use Rattle.dn_volume.proofs.MappingsMoved.{mappings_counted}
use Rattle.reclaim.proofs.UnitsLost.{places_same}
use Rattle.log_clean.proofs.FinishedDisk.{keeps}

-- what of the parts counts and reclaim speak of stays
pub record KeepsCounted (b b' : Parts) : Type 0 where
  pub flights : b'.flights ≡ b.flights
  pub sharing : b'.sharing ≡ b.sharing
  pub zero_check : b'.reclaiming.zero_check ≡ b.reclaiming.zero_check
  pub raised : b'.reclaiming.raised ≡ b.reclaiming.raised
  pub releases : b'.reclaiming.releases ≡ b.reclaiming.releases
  pub waiting : b'.reclaiming.waiting ≡ b.reclaiming.waiting

-- places that are mapped alike
alike_back : (was now : Option Mapping) (m : Mapping) → AreAlike was now → now ≡ Some m → (n : Mapping) × (was ≡ Some n) × IsAlike n m
alike_back None None m alike is = cc
alike_back None (Some x) m alike is = absurd alike
alike_back (Some n) None m alike is = absurd alike
alike_back (Some n) (Some x) m alike is = (n, refl, subst (IsAlike n) (some_is x m is) alike)
  where
    some_is : (x m : Mapping) → Some x ≡ Some m → x ≡ m
    some_is x m is = cc

live_or_dying : (u : Use) (cut : ℕ) → u ≡ Live → u ≡ Dying cut → ⊥
live_or_dying u cut live dying = cc

module _ (d : Disk) (ino : ℕ) (log : Log) where
  bytes_still : (page : ℕ) → page_bytes (relogged d ino log) page ≡ page_bytes d page
  unfolding page_bytes with_log
  bytes_still page = refl

module _ (d : Disk) (ino : ℕ) (pages : List ℕ) (may : MayClean d ino pages) where
  abbrev e : Disk
  e = cleaned_disk d ino pages

  abbrev log : Log
  log = cleaned_log ino (d.inode ino).log pages

  geometry_same : e.geometry ≡ d.geometry
  geometry_same = same_geometry d ino log

  rows_same : rows e ≡ rows d
  rows_same = (keeps d ino pages may).rows_same

  live_units : (x : Disk) (i : ℕ) → (x.inode i).use_of ≡ Live → dying_units x i ≡ 0
  live_units x i live = ap (λ (u : Use). units_by_use u (mapped_places x i)) live

  units_each : (i : ℕ) → dying_units e i ≡ dying_units d i
  units_each i = elim (cases_eq i ino) [
    | inl here ↦
        let was : (d.inode i).use_of ≡ Live = ap (λ (j : ℕ). (d.inode j).use_of) here ∙ may.live in
        live_units e i (use_same d ino log i ∙ was) ∙ sym (live_units d i was)
    | inr ne ↦ ap (λ (u : Use). units_by_use u (mapped_places e i)) (use_same d ino log i) ∙ ap (units_by_use (d.inode i).use_of)
        (places_same d e i (λ idx. maps_others d ino log i idx ne))
  ]

  units_same : total e.geometry.inodes (dying_units e) ≡ total d.geometry.inodes (dying_units d)
  units_same = ap (λ (n : ℕ). total n (dying_units e)) (ap (λ (g : Geometry). g.inodes) geometry_same) ∙ total-same (dying_units d) (dying_units e)
      d.geometry.inodes (λ i lt. units_each i)

  row_kept : (row : Row) → Contains (rows d) row → Contains (rows e) row
  row_kept row = subst (λ (rs : List Row). Contains rs row) (sym rows_same)

  row_was : (row : Row) → Contains (rows e) row → Contains (rows d) row
  row_was row = subst (λ (rs : List Row). Contains rs row) rows_same

  -- a dying inode's place stays raised
  raised_still : (p : DyingPlace) → IsRaised d p → IsRaised e p
  raised_still p was = record {
    in_table = subst (λ (g : Geometry). p.ino < g.inodes) (sym geometry_same) was.in_table;
    before = was.before;
    dying = use_same d ino log p.ino ∙ was.dying;
    by = was.by;
    mapped = maps_others d ino log p.ino p.place other ∙ was.mapped;
    greatest = λ idx low high. maps_others d ino log p.ino idx other ∙ was.greatest idx low high;
    row = was.row;
    at_slot = record { there = row_kept was.row was.at_slot.there; slot_is = was.at_slot.slot_is };
    page = was.page;
  }
    where
      other : p.ino ≢ ino
      other same = live_or_dying (d.inode ino).use_of was.before may.live (subst (λ (i : ℕ). (d.inode i).use_of ≡ Dying was.before) same was.dying)

  pub names_then : (b b' : Parts) → b'.names ≡ b.names → AreNamesOf d b.names.map → AreNamesOf e b'.names.map
  names_then b b' same was = record {
    leads = λ name. ap (λ (ns : _). get ns.map name) same ∙ was.leads name ∙ sym ((keeps d ino pages may).names name);
  }

  module _ (b b' : Parts) (kept : KeepsCounted b b') where
    pub counts_then : AreCounted d b → AreCounted e b'
    counts_then was = mappings_counted d e b b' (λ slot. 0) (λ slot. 0) (record {
      rows_same = rows_same;
      mappings_move = λ row has. let same = (keeps d ino pages may).mappings_same row.page in omega (arith, same);
      raised_move = λ slot. let same = raised_same b b' (ap (λ (fs : _). fs.items) kept.flights) kept.sharing kept.raised slot in omega (arith, same);
      added_move = λ slot. let same : added b' slot ≡ added b slot = ap (λ (x : _). times slot (added_to_share x)) kept.sharing in
          omega (arith, same);
      dropped_move = λ slot. let same : dropped b' slot ≡ dropped b slot = ap (λ (r : _). times slot r.items) kept.releases in omega (arith, same);
      zero_same = kept.zero_check;
      few =
          let sum = owed_same b b' (ap (λ (fs : _). fs.items) kept.flights) (λ room. room.releases) in
          let long = ap (λ (r : _). length r.items) kept.releases in
          let one = ap (λ (r : Option DyingPlace). one_if r) kept.raised in
          omega (arith, was.few, sum, long, one);
    }) was

    pub reclaiming_then : IsReclaiming d b → IsReclaiming e b'
    reclaiming_then was = record {
      waiting =
          let long = ap (λ (r : _). length r.items) kept.releases in
          let one = ap (λ (r : Option DyingPlace). one_if r) kept.raised in
          let zero_one = ap (λ (r : Option ℕ). one_if r) kept.zero_check in
          let units = units_same in
          omega (arith, was.waiting, kept.waiting, long, one, zero_one, units);
      zero_check = λ slot is. row_at slot (was.zero_check slot (sym kept.zero_check ∙ is));
      raised = λ p is. raised_still p (was.raised p (sym kept.raised ∙ is));
    }
      where
        row_at : (slot : ℕ) → HasRow d slot → HasRow e slot
        row_at slot has = record { row = has.row; is = record { there = row_kept has.row has.is.there; slot_is = has.is.slot_is } }

  -- each place of a live file has the page that it had, and is left alone where it was
  alone_here : (idx : ℕ) (m : Mapping) → maps e ino idx ≡ Some m → (n : Mapping) × (maps d ino idx ≡ Some n) × IsAlike n m
  alone_here idx m is =
      let found = alike_back (mapping (d.inode ino).log idx) (mapping log idx) m ((clean_replaces d ino pages may).alike idx)
      (sym (maps_here d ino log may.live idx) ∙ is) in
      (found.0, maps_before d ino log may.live idx ∙ found.1, found.2)

  live_was : (i : ℕ) (idx : ℕ) (m n : Mapping) → LivePlace e i idx m → maps d i idx ≡ Some n → LivePlace d i idx n
  live_was i idx m n place is = record {
    in_table = subst (λ (g : Geometry). i < g.inodes) geometry_same place.in_table;
    live = sym (use_same d ino log i) ∙ place.live;
    maps = is;
  }

  pub alone_then : KeepsAlone d e
  alone_then i idx m place alone = elim (cases_eq i ino) [
    | inl here ↦
        let found = alone_here idx m (ap (λ (j : ℕ). maps e j idx) (sym here) ∙ place.maps) in
        record {
          mapping = found.0;
          place = live_was i idx m found.0 place (ap (λ (j : ℕ). maps d j idx) here ∙ found.1);
          alone = found.2.not_more alone;
          page_is = sym found.2.block;
          bytes_are = bytes_still d ino log m.block;
        }
    | inr ne ↦ record {
      mapping = m;
      place = live_was i idx m m place (sym (maps_others d ino log i idx ne) ∙ place.maps);
      alone = alone;
      page_is = refl;
      bytes_are = bytes_still d ino log m.block;
    }
  ]

  pub accounts_then : (print : Print) → AccountsFor print d e
  accounts_then print = record {
    alone = λ i idx m place alone. inl (alone_then i idx m place alone);
    row_pages = λ row has. inl (record {
      was = row;
      there = row_was row has;
      page_is = refl;
      bytes_are = bytes_still d ino log row.page;
    });
  }

  pub words_then : (slot : ℕ) → word_at e slot ≡ word_at d slot
  words_then slot = ap (λ (rs : List Row). word_in rs slot) rows_same

  -- a place of another live file was so before
  pub live_other : (i idx : ℕ) (m : Mapping) → i ≢ ino → LivePlace e i idx m → LivePlace d i idx m
  live_other i idx m ne place = live_was i idx m m place (sym (maps_others d ino log i idx ne) ∙ place.maps)

  -- and of this one by an item of the new log
  pub live_here : (i idx : ℕ) (m : Mapping) → i ≡ ino → LivePlace e i idx m → mapping log idx ≡ Some m
  live_here i idx m here place = sym (maps_here d ino log may.live idx) ∙ ap (λ (j : ℕ). maps e j idx) (sym here) ∙ place.maps
