-- The daemon's item and a raised place stay through an event of another actor.
use Rattle.std.proofs.Common.{◌≡◌, inl, inr, ⊎_elim, ℕ, ◌+◌, ◌/◌, ◌%◌, ◌^◌, ◌<◌, ◌≤◌, List, [], ◌∷◌, refl, sym, ◌∙◌, ap, subst, arith}
use Rattle.std.specs.Prelude.{Option, Some, None, Contains, IsNone, IsSome}
use Rattle.std.specs.List.{range_with_len}
use Rattle.std.proofs.lemmas.Bool.Decides.{nat_tests}
use Rattle.std.proofs.lemmas.List.Elements.{All-contains}
use Rattle.log_entry.specs.declared.item.Flag.TheVariants.{InProcess}
use Rattle.log_entry.specs.declared.item.LogItem.TheVariants.{Write}
use Rattle.dn_model.specs.Log.{Log, placed}
use Rattle.dn_model.specs.Table.{Row, row_of}
use Rattle.dn_model.specs.Disk.{Disk, Inode, maps, rows}
use Rattle.dn_model.specs.Files.{byte_of}
use Rattle.dn_model.specs.Valid.{IsValid}
use Rattle.dn_model.specs.Own.{page_bytes}
use Rattle.law_table_on_disk.specs.BalanceLaws.{IsBalanced}
use Rattle.law_table.proofs.Rows.{row_found}
use Rattle.law_write.specs.Events.{IsReadPage}
use Rattle.law_write.proofs.MappedPlaces.{maps-in_file}
use Rattle.dn_volume.specs.declared.background.Sharing.{Sharing}
use Rattle.dn_volume.specs.declared.background.SharingStep.{SharingStep}
use Rattle.dn_volume.specs.declared.background.SharingStep.TheVariants.{Look, Remap, Settle}
use Rattle.dn_volume.specs.declared.volume.Parts.{Parts}
use Rattle.dn_volume.specs.Planned.{slot_of_row}
use Rattle.dn_volume.specs.Balance.{times, raised_at, added_at, raised_to_share, added_to_share, raised_to_die, raised, added, dropped, AreCounted}
use Rattle.dn_volume.specs.Shares.{IsBegun, IsAtStep, IsSharing}
use Rattle.dn_volume.specs.Reclaims.{IsRaised}
use Rattle.dn_volume.specs.declared.background.DyingPlace.{DyingPlace}
use Rattle.dn_volume.specs.Rely.{KeepsRest, KeepsRow}
use Rattle.dn_volume.proofs.Stays.{map-same, maps_same}

has_row : (x y : Option Row) → slot_of_row x ≡ slot_of_row y → IsSome y → IsSome x
has_row None None e has = has
has_row None (Some r) e has = cc
has_row (Some r) y e has = refl

has_none : (x y : Option Row) → slot_of_row x ≡ slot_of_row y → IsNone y → IsNone x
has_none None y e none = refl
has_none (Some r) None e none = cc
has_none (Some r) (Some q) e none = none

once : (slot : ℕ) → times slot (slot ∷ []) ≡ 1
once slot = grind (arith, nat_tests)

module _ (inodes pages : List ℕ) (d e : Disk) (valid : IsValid d) (rest : KeepsRest inodes pages d e) (b : Parts) (counts : AreCounted d b) where
  bytes_of : (page : ℕ) → IsReadPage d page → page_bytes e page ≡ page_bytes d page
  unfolding page_bytes
  bytes_of page read = map-same (byte_of e page) (byte_of d page) (range_with_len 0 4096) (λ k. ap (λ (v : ℕ). v / 256 ^ (k % 8) % 256)
      (rest.word page (k / 8) read))

  -- a row with an update under way is there still
  row_kept : (row : Row) → Contains (rows d) row → 1 ≤ raised b row.slot + added b row.slot + dropped b row.slot → KeepsRow e row
  row_kept row has some =
      let balance = All-contains (λ (r : Row). IsBalanced d r (raised b r.slot) (added b r.slot) (dropped b r.slot)) (rows d) row counts.balanced has
      in
      rest.counting row has (omega (arith, balance.updates, some))

  raised_once : (slot named : ℕ) → named ≡ slot → raised_to_share b.sharing ≡ slot ∷ [] → 1 ≤ raised b named + added b named + dropped b named
  raised_once slot named same is =
      let one : times named (raised_to_share b.sharing) ≡ 1 = ap (times named) is ∙ subst (λ (x : ℕ). times named (x ∷ []) ≡ 1) same (once named) in
      omega (arith, one)

  added_once : (slot named : ℕ) → named ≡ slot → added_to_share b.sharing ≡ slot ∷ [] → 1 ≤ raised b named + added b named + dropped b named
  added_once slot named same is =
      let one : times named (added_to_share b.sharing) ≡ 1 = ap (times named) is ∙ subst (λ (x : ℕ). times named (x ∷ []) ≡ 1) same (once named) in
      omega (arith, one)

  module _ (sharing : Sharing) (is : IsSharing d sharing) (begun_is : b.sharing ≡ Some sharing) (out : Contains inodes sharing.work.ino → ⊥) where
    place : (idx : ℕ) → maps e sharing.work.ino idx ≡ maps d sharing.work.ino idx
    place idx = maps_same inodes pages d e valid rest sharing.work.ino is.begun.in_table out idx

    begun_same : IsBegun e sharing
    begun_same = record {
      file = is.begun.file;
      in_table = subst (λ (n : ℕ). sharing.work.ino < n) (sym (ap (λ g. g.inodes) rest.geometry)) is.begun.in_table;
      live = ap (λ (n : Inode). n.use_of) (rest.inode sharing.work.ino out) ∙ is.begun.live;
      block = is.begun.block;
      size = is.begun.size;
      mask = is.begun.mask;
      item = subst (λ (log : Log). Contains (placed log) (record {
        slot = sharing.work.slot;
        item = Write sharing.first sharing.count is.begun.block
            is.begun.size InProcess is.begun.mask;
      }))
          (sym (ap (λ (n : Inode). n.log) (rest.inode sharing.work.ino out))) is.begun.item;
      done_few = is.begun.done_few;
      done_so = λ i m lt mapped by_item.
          let was = sym (place (sharing.first + i)) ∙ mapped in
          ⊎_elim (λ alone. inl alone)
          (λ has. inr (has_row (row_of (rows e) m.block) (row_of (rows d) m.block) (rest.slots sharing.work.ino (sharing.first + i) m
          is.begun.in_table out was)
          has)) (is.begun.done_so i m lt was by_item);
    }

    step_same : (step : SharingStep) → sharing.step ≡ step → IsAtStep d sharing step → IsAtStep e sharing step
    step_same Look at st = st
    step_same (Remap slot) at st =
        let still = row_kept st.row st.at_slot.there (raised_once slot st.row.slot st.at_slot.slot_is (ap raised_to_share begun_is ∙ ap raised_at at))
        in
        record {
          some = st.some;
          by = st.by;
          mapped = place (sharing.first + sharing.done) ∙ st.mapped;
          by_item = st.by_item;
          no_row = has_none (row_of (rows e) st.by.block) (row_of (rows d) st.by.block) (rest.slots sharing.work.ino (sharing.first + sharing.done)
              st.by is.begun.in_table out st.mapped) st.no_row;
          row = still.still;
          at_slot = record { there = still.there; slot_is = still.slot ∙ st.at_slot.slot_is };
          equal = ap (page_bytes e) still.page ∙ bytes_of st.row.page (inr (row_found (rows d) st.row st.at_slot.there)) ∙ st.equal ∙ sym
              (bytes_of st.by.block (inl (record {
                ino = sharing.work.ino;
                idx = sharing.first + sharing.done;
                maps_to = record {
                  in_table = is.begun.in_table;
                  in_file = maps-in_file d valid sharing.work.ino (sharing.first + sharing.done) st.by
                      is.begun.in_table st.mapped;
                  by = st.by;
                  is = st.mapped;
                  block = refl;
                };
              })));
        }
    step_same (Settle slot inserted) at st =
        let still = row_kept st.row st.at_slot.there (added_once slot st.row.slot st.at_slot.slot_is (ap added_to_share begun_is ∙ ap added_at at)) in
        record {
          some = st.some;
          by = st.by;
          mapped = place (sharing.first + sharing.done) ∙ st.mapped;
          row = still.still;
          at_slot = record { there = still.there; slot_is = still.slot ∙ st.at_slot.slot_is };
          on_page = st.on_page ∙ sym still.page;
        }

    pub sharing_stays : IsSharing e sharing
    sharing_stays = record { begun = begun_same; step = step_same sharing.step refl is.step }

  -- a raised place of a dying inode
  pub raised_stays : (p : DyingPlace) → b.reclaiming.raised ≡ Some p → (Contains inodes p.ino → ⊥) → IsRaised d p → IsRaised e p
  raised_stays p raised_is out is =
      let one : times is.row.slot (raised_to_die b.reclaiming.raised) ≡ 1 = ap (λ r. times is.row.slot (raised_to_die r)) raised_is ∙ subst
      (λ (x : ℕ). times is.row.slot (x ∷ []) ≡ 1) is.at_slot.slot_is (once is.row.slot) in
      let still = row_kept is.row is.at_slot.there (omega (arith, one)) in
      record {
        in_table = subst (λ (n : ℕ). p.ino < n) (sym (ap (λ g. g.inodes) rest.geometry)) is.in_table;
        before = is.before;
        dying = ap (λ (n : Inode). n.use_of) (rest.inode p.ino out) ∙ is.dying;
        by = is.by;
        mapped = maps_same inodes pages d e valid rest p.ino is.in_table out p.place ∙ is.mapped;
        greatest = λ idx lt below. maps_same inodes pages d e valid rest p.ino is.in_table out idx ∙ is.greatest idx lt below;
        row = still.still;
        at_slot = record { there = still.there; slot_is = still.slot ∙ is.at_slot.slot_is };
        page = is.page ∙ sym still.page;
      }
