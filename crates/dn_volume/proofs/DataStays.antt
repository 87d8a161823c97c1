-- A write or a cut in flight stays as far as it is through an event of another actor.
use Rattle.std.proofs.Common.{◌≡◌, ◌≢◌, ℕ, ◌+◌, ◌*◌, ◌/◌, ◌%◌, ◌<◌, List, ◌++◌, length, sym, ◌∙◌, ap, subst, arith}
use Rattle.std.specs.Prelude.{slice_index, Contains}
use Rattle.pm_device.specs.State.{State}
use Rattle.pm_device.specs.Pages.{IsInPage}
use Rattle.page_bytes.specs.Bytes.{word_byte}
use Rattle.dn_model.specs.Log.{Log, count}
use Rattle.dn_model.specs.Disk.{Disk, Inode}
use Rattle.dn_model.specs.History.{needed}
use Rattle.dn_model.specs.Valid.{IsValid}
use Rattle.law_write.specs.Events.{IsUnused}
use Rattle.file_content.specs.Content.{IsFilledBy}
use Rattle.dn_volume.specs.declared.flight.Flight.{Flight}
use Rattle.dn_volume.specs.declared.flight.DataChange.{DataChange}
use Rattle.dn_volume.specs.Parties.{taken_by}
use Rattle.dn_volume.specs.Planned.{new_byte}
use Rattle.dn_volume.specs.Flights.{GrowsBy, IsDataFlight}
use Rattle.dn_volume.specs.Rely.{LeavesRest, IsWordOf}
use Rattle.dn_volume.proofs.Owned.{page_out}
use Rattle.dn_volume.proofs.Stays.{log_same, node_same, bytes_same, plans_same, needed_same}

module _ (who q : ℕ) (inodes pages : List ℕ) (d e : Disk) (s t : State) (f : Flight) (other : q ≢ who) (valid : IsValid d)
    (long : length s.now ≡ 512 * d.geometry.pages) (leaves : LeavesRest who inodes pages d e s t)
    (out : (i : ℕ) → Contains f.held.items i → Contains inodes i → ⊥) (out_pages : (page : ℕ) → Contains (taken_by f) page → Contains pages page → ⊥)
    (unused : (page : ℕ) → Contains (taken_by f) page → IsUnused d page) where
  -- a page that it has taken keeps its words, flushed as they are
  pub filled_same : (page : ℕ) (byte : ℕ → ℕ) → Contains (taken_by f) page → IsFilledBy q s page byte → IsFilledBy q t page byte
  filled_same page byte taken is = record {
    bytes_are = λ k lt. ap (λ (v : ℕ). word_byte v (k % 8))
        (leaves.only.read (512 * page + k / 8) (kept (512 * page + k / 8) (omega arith, omega (arith, lt)))) ∙ is.bytes_are k lt;
    flushed = λ k lt. leaves.others q (512 * page + k) other (kept (512 * page + k) (omega arith, omega (arith, lt)))
        (omega (arith, long, lt, (unused page taken).free.data_page.high)) (is.flushed k lt);
  }
    where
      kept : (a : ℕ) → IsInPage page a → IsWordOf inodes pages d a → ⊥
      kept a here w = page_out inodes pages d valid page a (unused page taken) (out_pages page taken) here w

  -- and the log that it grows
  pub grows_same : needed e f.op ≡ needed d f.op → GrowsBy d f → GrowsBy e f
  grows_same same is =
      let here = out f.ino is.holds in
      record {
        in_table = subst (λ (n : ℕ). f.ino < n) (sym (ap (λ g. g.inodes) leaves.rest.geometry)) is.in_table;
        live = ap (λ (n : Inode). n.use_of) (node_same inodes pages d e valid leaves.rest f.ino is.in_table here) ∙ is.live;
        holds = is.holds;
        room =
            subst (λ (log : Log). length (log.pages ++ f.fresh.items) ≡ (count log + length f.slots.items + 62) / 63)
            (sym (log_same inodes pages d e valid leaves.rest f.ino is.in_table here)) is.room;
        apart = is.apart;
        takes = is.takes ∙ sym same;
        undying = λ i cut held dying. is.undying i cut held (sym (ap (λ (n : Inode). n.use_of) (leaves.rest.inode i (out i held))) ∙ dying);
      }

  pub data_stays : (c : DataChange) → ((i : ℕ) → i < length c.blocks.items → Contains (taken_by f) (slice_index c.blocks.items i))
      → IsDataFlight d q f c s → IsDataFlight e q f c t
  data_stays c among is =
      let here = out f.ino is.grows.holds in
      let in_table = is.grows.in_table in
      record {
        file = is.file;
        grows = grows_same (needed_same inodes pages d e valid leaves.rest f c is.file in_table here f.op is.plans) is.grows;
        plans = plans_same inodes pages d e valid leaves.rest f c is.file in_table here f.op is.plans;
        chained = is.chained;
        covers = is.covers;
        blocks = is.blocks;
        few = is.few;
        slots = is.slots;
        filled_few = is.filled_few;
        filled = λ i lt.
            subst (λ (bs : List ℕ). IsFilledBy q t (slice_index c.blocks.items i) (λ k. new_byte f.op bs (4096 * (c.first + i) + k)))
            (sym (bytes_same inodes pages d e valid leaves.rest f.ino in_table here))
            (filled_same (slice_index c.blocks.items i) _ (among i (omega (arith, lt, is.filled_few))) (is.filled i lt));
        raised_few = is.raised_few;
        in_turn = is.in_turn;
      }
