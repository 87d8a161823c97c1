-- Files, live places and what every image of this program has stay while a dying inode goes.
use Rattle.std.proofs.Common.{◌≡◌, ◌≢◌, ◌⊎◌, inl, inr, ⊎_elim, ℕ, ◌+◌, ◌*◌, ◌/◌, ◌%◌, ◌^◌, ◌<◌, ◌≤◌, List, refl, sym, ◌∙◌, ap, subst, arith}
use Rattle.std.specs.Prelude.{slice_index, Option, Some, None, IsSome, All}
use Rattle.std.specs.Option.{option_map}
use Rattle.std.proofs.lemmas.Grind.{same_number_lists}
use Rattle.std.proofs.lemmas.List.Elements.{All-weaker}
use Rattle.dn_model.specs.Maps.{Mapping, size_of}
use Rattle.dn_model.specs.Table.{Row, row_of}
use Rattle.dn_model.specs.Disk.{Disk, Inode, Free, Live, Dying, maps, rows}
use Rattle.dn_model.specs.Files.{bytes, byte_of, mapped_byte, named, files, IsSameFiles}
use Rattle.dn_model.specs.Own.{Print, page_bytes, LivePlace, IsAlone, HasRow, IsOwn, Settled}
use Rattle.law_write.proofs.WriteBytes.{length-bytes, byte_at}
use Rattle.law_dying.specs.Dying.{Step, Falls, Ends, use_after, stepped, KeepsLiving}
use Rattle.law_dying.proofs.Stepped.{at_ino, at_other, same_rows, same_word}
use Rattle.law_dying.proofs.Dropped.{MayStep, below, above, maps_others, maps_only, mapped_only, log_page_only, free_kept}
use Rattle.law_dying.proofs.SteppedValid.{named_same, nameless}

dying_live : (c : ℕ) → Dying c ≡ Live → ⊥
dying_live c e = cc

not_live : (step : Step) → use_after step ≡ Live → ⊥
not_live (Falls cut) e = dying_live cut e
not_live Ends e = free_live e
  where
    free_live : Free ≡ Live → ⊥
    free_live e = cc

module _ (d : Disk) (ino : ℕ) (step : Step) (may : MayStep d ino step) where
  abbrev new : Disk
  new = stepped d ino step

  size_same : (i : ℕ) → i ≢ ino → size_of (new.inode i).log ≡ size_of (d.inode i).log
  size_same i ne = ap (λ (n : Inode). size_of n.log) (at_other d ino step i ne)

  mapped_byte_same : (k : ℕ) (m : Option Mapping) → mapped_byte new k m ≡ mapped_byte d k m
  mapped_byte_same k None = refl
  mapped_byte_same k (Some m) = ap (λ (v : ℕ). v / 256 ^ (k % 8) % 256) (same_word d ino step m.block (k / 8))

  pub bytes_same : (i : ℕ) → i ≢ ino → bytes new i ≡ bytes d i
  bytes_same i ne = same_number_lists (bytes new i) (bytes d i) (length-bytes new i ∙ size_same i ne ∙ sym (length-bytes d i))
      (λ j lt. byte j (omega (arith, lt, length-bytes new i)))
    where
      byte : (j : ℕ) → j < size_of (new.inode i).log → slice_index (bytes new i) j ≡ slice_index (bytes d i) j
      byte j lt =
          byte_at new i j lt ∙ ap (mapped_byte new (j % 4096)) (maps_others d ino step may i (j / 4096) ne) ∙ mapped_byte_same (j % 4096)
          (maps d i (j / 4096))
          ∙ sym (byte_at d i j (omega (arith, lt, size_same i ne)))

  pub files_same : IsSameFiles (files new) (files d)
  files_same name = ap (option_map (bytes new)) (named_same d ino step may name) ∙ by_found (named d name) refl
    where
      by_found : (r : Option ℕ) → named d name ≡ r → option_map (bytes new) r ≡ option_map (bytes d) r
      by_found None e = refl
      by_found (Some i) e = ap Some (bytes_same i (λ same. nameless d ino step may name (e ∙ ap Some same)))

  -- a live file isn't the one that goes
  live_other : (i : ℕ) → (new.inode i).use_of ≡ Live → i ≢ ino
  live_other i live e = not_live step (ap (λ (n : Inode). n.use_of) (sym (ap new.inode e ∙ at_ino d ino step)) ∙ live)

  was_other : (i : ℕ) → (d.inode i).use_of ≡ Live → i ≢ ino
  was_other i live e = dying_live may.before (sym may.dying ∙ ap (λ (j : ℕ). (d.inode j).use_of) (sym e) ∙ live)

  pub live_kept : (i idx : ℕ) (m : Mapping) → LivePlace d i idx m → LivePlace new i idx m
  live_kept i idx m place =
      let ne = was_other i place.live in
      record {
        in_table = above d ino step may i place.in_table;
        live = ap (λ (n : Inode). n.use_of) (at_other d ino step i ne) ∙ place.live;
        maps = maps_others d ino step may i idx ne ∙ place.maps;
      }

  pub live_only : (i idx : ℕ) (m : Mapping) → LivePlace new i idx m → LivePlace d i idx m
  live_only i idx m place =
      let ne = live_other i place.live in
      record {
        in_table = below d ino step may i place.in_table;
        live = ap (λ (n : Inode). n.use_of) (sym (at_other d ino step i ne)) ∙ place.live;
        maps = sym (maps_others d ino step may i idx ne) ∙ place.maps;
      }

  page_bytes_same : (page : ℕ) → page_bytes new page ≡ page_bytes d page
  unfolding page_bytes stepped
  page_bytes_same page = refl

  byte_same : (page k : ℕ) → byte_of new page k ≡ byte_of d page k
  unfolding stepped
  byte_same page k = refl

  alone_or_row : (m : Mapping) → IsAlone m ⊎ HasRow d m.block → IsAlone m ⊎ HasRow new m.block
  alone_or_row m is = ⊎_elim (λ alone. inl alone)
      (λ (row : HasRow d m.block). inr (subst (λ (rs : List Row). IsSome (row_of rs m.block)) (sym (same_rows d ino step)) row)) is

  pub own_kept : (print : Print) → IsOwn print d → IsOwn print new
  own_kept print own = record {
    zeros = λ i idx k m place past small.
        byte_same m.block k ∙ own.zeros i idx k m (live_only i idx m place)
        (subst (λ (n : ℕ). n ≤ 4096 * idx + k) (size_same i (live_other i place.live)) past) small;
    prints = subst (All (λ row. row.print ≡ print (page_bytes new row.page))) (sym (same_rows d ino step))
        (All-weaker (λ (row : Row). row.print ≡ print (page_bytes d row.page)) (λ (row : Row). row.print ≡ print (page_bytes new row.page))
        (λ row is. is ∙ ap print (sym (page_bytes_same row.page))) (rows d) own.prints);
    complete = λ i idx m place done. alone_or_row m (own.complete i idx m (live_only i idx m place) done);
  }

  settled_kept : Settled d → Settled new
  settled_kept settled = record {
    complete = λ i idx m place. settled.complete i idx m (live_only i idx m place);
    done = λ i idx m place. alone_or_row m (settled.done i idx m (live_only i idx m place));
    shared = λ i j idx jdx m n at_i at_j same.
        settled.shared i j idx jdx m n (live_only i idx m at_i) (live_only j jdx n at_j) (sym (page_bytes_same m.block) ∙ same ∙ page_bytes_same
        n.block);
  }

  pub living_kept : KeepsLiving d new ino
  living_kept = record {
    names = named_same d ino step may;
    bytes_same = bytes_same;
    files_same = files_same;
    maps_others = maps_others d ino step may;
    maps_only = maps_only d ino step may;
    live_kept = live_kept;
    live_only = live_only;
    settled = settled_kept;
    rows_same = same_rows d ino step;
    mapped_only = mapped_only d ino step may;
    log_pages_only = log_page_only d ino step may;
    free_kept = free_kept d ino step may;
  }
