-- The counts of rows, once a flight is ended: what it raised has dropped mappings.
use Rattle.std.proofs.Common.{◌≡◌, ℕ, zero, suc, ◌+◌, ◌-◌, ◌≤◌, List, length, length-append, refl, sym, ◌∙◌, ap, subst, arith}
use Rattle.std.specs.Prelude.{Option, Some, None, IsSome, Contains}
use Rattle.std.proofs.lemmas.List.{take_all}
use Rattle.dn_model.specs.Table.{Row, row_of}
use Rattle.dn_model.specs.Disk.{Disk, maps, rows}
use Rattle.dn_model.specs.Counts.{total, hit, mappings}
use Rattle.dn_model.specs.Valid.{IsValid}
use Rattle.law_write.proofs.Counting.{total-same}
use Rattle.law_table.proofs.Rows.{row_found, none_or_some}
use Rattle.law_cut.specs.DropLaws.{dropped_from}
use Rattle.law_cut.proofs.Dropped.{drop_mappings}
use Rattle.dn_volume.specs.declared.flight.Flight.{Flight}
use Rattle.dn_volume.specs.declared.flight.DataChange.{DataChange}
use Rattle.dn_volume.specs.declared.volume.Parts.{Parts}
use Rattle.dn_volume.specs.Parties.{Flies}
use Rattle.dn_volume.specs.Planned.{slot_of, row_slots}
use Rattle.dn_volume.specs.Balance.{times, raised_by, added_to_share, raised, added, dropped, AreCounted}
use Rattle.dn_volume.proofs.Raises.{times-append}
use Rattle.dn_volume.proofs.PlacesLost.{slot_hits}
use Rattle.dn_volume.proofs.MappingsMoved.{mappings_counted}
use Rattle.dn_volume.specs.Replaces.{Replaces}
use Rattle.dn_volume.proofs.Replaced.{owed_moved, raised_moved}
use Rattle.file_ops.specs.Ends.{ChangesData, KeepsParts, Releases}
use Rattle.file_ops.proofs.Freed.{rows_same}
use Rattle.dn_volume.specs.declared.background.DyingPlace.{DyingPlace}
use Rattle.dn_volume.specs.Reclaims.{one_if}
use Rattle.dn_volume.specs.Reserve.{owed_sum}

total-front : (g : ℕ → ℕ) (n : ℕ) → total (suc n) g ≡ g 0 + total n (λ i. g (suc i))
unfolding total
total-front g zero = omega arith
total-front g (suc n) = omega (arith, total-front g n)

module _ (d : Disk) (valid : IsValid d) (row : Row) (has : Contains (rows d) row) where
  -- the row's slot stands among those of n places as often as these are on its page
  pub times-slots : (ino from n : ℕ) → times row.slot (row_slots d ino from n) ≡ dropped_from d ino from n row.page
  unfolding row_slots total
  times-slots ino from zero = refl
  times-slots ino from (suc n) =
      let here = slot_hits d valid row has (maps d ino from) in
      let later = times-slots ino (from + 1) n in
      let both = times-append row.slot (slot_of d (maps d ino from)) (row_slots d ino (from + 1) n) in
      let split = total-front (λ i. hit row.page (maps d ino (from + i))) n in
      let zero_in : from + 0 ≡ from = omega arith in
      let first = ap (λ (i : ℕ). hit row.page (maps d ino i)) zero_in in
      let rest = total-same (λ i. hit row.page (maps d ino (from + 1 + i))) (λ i. hit row.page (maps d ino (from + suc i))) n
      (λ j lt. let e : from + suc j ≡ from + 1 + j = omega arith in ap (λ (i : ℕ). hit row.page (maps d ino i)) e) in
      joined _ _ _ _ _ _ _ _ both here later split first rest
    where
      joined : (all head tail a b whole h0 r : ℕ) → all ≡ head + tail → head ≡ a → tail ≡ b → whole ≡ h0 + r → h0 ≡ a → r ≡ b → all ≡ whole
      joined all head tail a b whole h0 r e1 e2 e3 e4 e5 e6 = omega arith

module _ (d e : Disk) (b b' : Parts) (who : ℕ) (f : Flight) (c : DataChange) (from n : ℕ) (valid : IsValid d) (counts : AreCounted d b)
    (flies : Flies b who f)
    (all_raised : f.raised ≡ length f.rows.items) (disk : ChangesData d e f c from n) (keeps : KeepsParts b b')
    (ended : Replaces (who - 1) (Some f) None b b') (releases : Releases f b b') where
  -- its raises are those of nobody
  pub raised_less : (slot : ℕ) → raised b' slot + times slot f.rows.items ≡ raised b slot
  raised_less slot =
      let moved = raised_moved who flies.client (Some f) None b b' ended keeps.raised slot in
      let all : times slot (raised_by (Some f)) ≡ times slot f.rows.items = ap (λ (xs : List ℕ). times slot xs)
      (take_all f.raised f.rows.items (omega (arith, all_raised))) in
      omega (arith, moved, all)

  pub added_same : (slot : ℕ) → added b' slot ≡ added b slot
  added_same slot = ap (λ r. times slot (added_to_share r)) ended.sharing

  -- they have dropped mappings
  pub dropped_more : (slot : ℕ) → dropped b' slot ≡ dropped b slot + times slot f.rows.items
  dropped_more slot = ap (times slot) releases.items ∙ times-append slot b.reclaiming.releases.items f.rows.items

  -- the mappings of a row's page fell as often
  pub mappings_fell : (row : Row) → Contains (rows d) row → mappings e row.page + times row.slot f.rows.items ≡ mappings d row.page
  mappings_fell row has =
      let fell = drop_mappings f.ino d e disk.event from n disk.drops row.page
      (λ i lt same. none_or_some (row_of (rows d) (disk.event.blocks i)) (disk.well.blocks i lt).no_row (subst (λ (p : ℕ). IsSome (row_of (rows d) p))
      (sym same) (row_found (rows d) row has))) in
      let as_often : times row.slot f.rows.items ≡ dropped_from d f.ino from n row.page = ap (times row.slot) disk.rows_are ∙ times-slots d valid row
      has f.ino from n in
      omega (arith, fell, as_often)

  pub counted_after : AreCounted e b'
  counted_after = mappings_counted d e b b' (λ slot. times slot f.rows.items) (λ slot. 0) (record {
    rows_same = rows_same f.ino d e disk.event disk.well from n disk.drops;
    mappings_move = λ row has. let fell = mappings_fell row has in omega (arith, fell);
    raised_move = λ slot. let less = raised_less slot in omega (arith, less);
    added_move = λ slot. let same = added_same slot in omega (arith, same);
    dropped_move = dropped_more;
    zero_same = keeps.zero_check;
    few = few;
  }) counts
    where
      few : length b'.reclaiming.releases.items + owed_sum b' (λ room. room.releases) + one_if b'.reclaiming.raised ≤ 1105920
      few =
          let sum = owed_moved who flies.client (Some f) None b b' ended (λ room. room.releases) in
          let up : one_if b'.reclaiming.raised ≡ one_if b.reclaiming.raised = ap (λ (r : Option DyingPlace). one_if r) keeps.raised in
          omega (arith, counts.few, sum, up, ap length releases.items, length-append b.reclaiming.releases.items f.rows.items)
