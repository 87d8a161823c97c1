-- A cleaning ends: fewer pages are in use, which outweighs what waits anew for the daemon.
use Rattle.std.proofs.Common.{◌≡◌, ℕ, [], ◌+◌, ◌<◌, ◌≤◌, length, ap, arith}
use Rattle.std.specs.Prelude.{Some, None}
use Rattle.dn_volume.specs.declared.background.Cleaning.{Cleaning}
use Rattle.dn_volume.specs.declared.volume.Parts.{Parts}
use Rattle.dn_volume.specs.Works.{CleanLowers, DaemonRests, cleaning_events, clean_work, taken_to_clean, sharing_events}

-- how the parts differ that the measure of work speaks of
pub record EndsWork (c : Cleaning) (old : ℕ) (b b' : Parts) : Type 0 where
  pub cleans : b.reclaiming.cleaning ≡ Some c
  pub ended : b'.reclaiming.cleaning ≡ None
  pub none_waited : b.reclaiming.waiting ≡ 0
  pub none_waits : b'.reclaiming.waiting ≡ 0
  pub sharing : b'.sharing ≡ b.sharing
  pub queue : length b'.queue.items ≡ length b.queue.items + length c.due.items
  pub due_few : length c.due.items ≤ 4096
  pub pages : b'.free.pages ≡ b.free.pages
  pub free : length b'.free.free ≡ length b.free.free + old
  pub fewer : length c.pages.items < old
  pub some : length b.free.free + length c.pages.items < b.free.pages
  pub rests : DaemonRests b → b'.queue.items ≡ []
  pub trace : b'.trace.items ≡ b.trace.items

pub ends_less : (c : Cleaning) (old : ℕ) (b b' : Parts) → EndsWork c old b b' → CleanLowers b b' 0
ends_less c old b b' is = record {
  left_is = none_events (ap cleaning_events is.ended);
  less =
      let work = ap clean_work is.cleans in
      let work' = ap clean_work is.ended in
      let pages = ap taken_to_clean is.cleans in
      let pages' = ap taken_to_clean is.ended in
      let events = ap sharing_events is.sharing in
      omega (
        arith,
        work,
        work',
        pages,
        pages',
        events,
        is.none_waited,
        is.none_waits,
        is.queue,
        is.due_few,
        is.pages,
        is.free,
        is.fewer,
        is.some,
      );
  none_waits = is.none_waits;
  sharing = is.sharing;
  rests = is.rests;
  trace = is.trace;
}
  where
    none_events : cleaning_events b'.reclaiming.cleaning ≡ 0 → 0 ≡ cleaning_events b'.reclaiming.cleaning
    none_events none = omega (arith, none)
