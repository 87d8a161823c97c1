-- A place's page is looked up: what the daemon finds.
use Rattle.std.proofs.Common.{◌≡◌, inr, ℕ, Bool, false, List, refl, sym, ◌∙◌, subst}
use Rattle.std.specs.Prelude.{IsTrue, ◌↔◌}
use Rattle.std.proofs.lemmas.Bool.{false≢true}
use Rattle.pm_device.specs.State.{State}
use Rattle.dn_model.specs.Table.{Row}
use Rattle.dn_model.specs.Disk.{Disk, rows}
use Rattle.dn_model.specs.Own.{Print, page_bytes}
use Rattle.law_table.proofs.Rows.{row_found}
use Rattle.law_write.specs.Events.{IsReadPage}
use Rattle.fact_table.specs.Table.{IsTable}
use Rattle.fact_table.specs.Chained.{IsFound, HasNoRow}
use Rattle.dn_volume.specs.declared.background.Sharing.{Sharing}
use Rattle.dn_volume.specs.declared.volume.Parts.{Parts}
use Rattle.dn_volume.specs.Agrees.{IsVolume}
use Rattle.dn_volume.proofs.Tables.{is_table}
use Rattle.dedupe_daemon.specs.Looked.{IsLooking, IsAtPlace, IsToInsert, IsToShare, IsToMask}
use Rattle.dedupe_daemon.proofs.PlaceNext.{mapped_read}

module _ (d : Disk) (b : Parts) (s : State) (v : IsVolume d b s) (sharing : Sharing) (looking : IsLooking b sharing) (page : ℕ)
    (place : IsAtPlace d sharing page) where
  pub place_read : IsReadPage d page
  place_read = subst (IsReadPage d) place.on_page (mapped_read d b s v sharing looking place.by place.mapped)

  pub to_insert : (make : Print) (print : List ℕ) → print ≡ make (page_bytes d page) → ((e : Disk) → IsTable e s.now b.fact → HasNoRow (rows e) print)
      → IsToInsert make d sharing page print
  to_insert make print print_is none = record { place = place; print_is = print_is; new_print = none d (is_table d b s v) }

  module _ (row : Row) (print : List ℕ) (found : (e : Disk) → IsTable e s.now b.fact → IsFound (rows e) print row) where
    there : IsFound (rows d) print row
    there = found d (is_table d b s v)

    pub row_read : IsReadPage d row.page
    row_read = inr (row_found (rows d) row there.there)

    pub to_share : page_bytes d row.page ≡ page_bytes d page → IsToShare d sharing page row.slot
    to_share equal = record { place = place; row = row; at_slot = record { there = there.there; slot_is = refl }; equal = equal }

    pub to_mask : (make : Print) → print ≡ make (page_bytes d page) → (same : Bool) → same ≡ false
        → (IsTrue same ↔ (page_bytes d row.page ≡ page_bytes d page)) → IsToMask make d sharing page
    to_mask make print_is same isnt both = record {
      place = place;
      row = row;
      there = there.there;
      print_is = there.print_is ∙ print_is;
      other = λ equal. false≢true (sym isnt ∙ both.1 equal);
    }
