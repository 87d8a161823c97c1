-- After a change of names the image has what every image of this program has, and what the daemon did.
use Rattle.std.proofs.Common.{◌≡◌, ◌⊎◌, inl, inr, ⊎_elim, ℕ, ◌+◌, ◌*◌, ◌≤◌, List, refl, sym, ◌∙◌, ap, subst, arith}
use Rattle.std.specs.Prelude.{Option, Some, None, IsSome, All}
use Rattle.std.proofs.lemmas.Bool.{cases_eq}
use Rattle.std.proofs.lemmas.List.Elements.{All-weaker}
use Rattle.dn_model.specs.Maps.{Mapping}
use Rattle.dn_model.specs.Table.{Row, row_of}
use Rattle.dn_model.specs.Disk.{Disk, Inode, Use, Free, Live, Dying, IsUsed, maps, maps_by_use, rows}
use Rattle.dn_model.specs.Files.{byte_of}
use Rattle.dn_model.specs.Own.{Print, page_bytes, LivePlace, IsAlone, HasRow, IsOwn, Settled}
use Rattle.law_names.specs.NameChange.{NameChange, Turn, Stays, Comes, Goes, MayTurn, turned, names_changed, MayChange}
use Rattle.law_names.proofs.Changed.{at_ino, at_other, same_rows, Where, is_root, is_here, elsewhere, where_is}
use Rattle.law_names.proofs.Kept.{use_of_root, root_maps, maps_same, below}
use Rattle.law_names.proofs.ChangedFiles.{size_same}

some_none : (m : Option Mapping) (x : Mapping) → m ≡ Some x → m ≡ None → ⊥
some_none m x some none = cc

dying_live : (cut : ℕ) → Dying cut ≡ Live → ⊥
dying_live cut e = cc

free_maps : (d : Disk) (i idx : ℕ) → (d.inode i).use_of ≡ Free → maps d i idx ≡ None
unfolding maps
free_maps d i idx free = ap (λ (u : Use). maps_by_use u (d.inode i).log idx) free

module _ (d : Disk) (change : NameChange) (may : MayChange d change) where
  abbrev new : Disk
  new = names_changed d change

  turned_live : (turn : Turn) (idx : ℕ) (m : Mapping) → MayTurn turn (d.inode change.ino).use_of → (turned turn (d.inode change.ino)).use_of ≡ Live
      → maps d change.ino idx ≡ Some m → (d.inode change.ino).use_of ≡ Live
  turned_live Stays idx m turns live is = live
  turned_live Comes idx m turns live is = absurd (some_none (maps d change.ino idx) m is (free_maps d change.ino idx turns))
  turned_live Goes idx m turns live is = turns

  live_at : (i idx : ℕ) (m : Mapping) → (new.inode i).use_of ≡ Live → maps d i idx ≡ Some m → Where d change i → (d.inode i).use_of ≡ Live
  live_at i idx m live is (is_root e) = ap (λ (j : ℕ). (d.inode j).use_of) e ∙ sym (use_of_root d change may) ∙ ap (λ (j : ℕ). (new.inode j).use_of)
      (sym e) ∙ live
  live_at i idx m live is (is_here e) = ap (λ (j : ℕ). (d.inode j).use_of) e
      ∙ turned_live change.turn idx m may.may_turn (ap (λ (n : Inode). n.use_of) (sym (at_ino d change may.file)) ∙ ap
      (λ (j : ℕ). (new.inode j).use_of) (sym e) ∙ live) (ap (λ (j : ℕ). maps d j idx) (sym e) ∙ is)
  live_at i idx m live is (elsewhere some ne) = ap (λ (n : Inode). n.use_of) (sym (at_other d change i some ne)) ∙ live

  -- a place of a live file was one
  pub live_was : (i idx : ℕ) (m : Mapping) → LivePlace new i idx m → LivePlace d i idx m
  live_was i idx m place =
      let is : maps d i idx ≡ Some m = sym (maps_same d change may i idx) ∙ place.maps in
      record { in_table = below d change may i place.in_table; live = live_at i idx m place.live is (where_is d change i); maps = is }

  page_bytes_same : (page : ℕ) → page_bytes new page ≡ page_bytes d page
  unfolding page_bytes names_changed
  page_bytes_same page = refl

  byte_same : (page k : ℕ) → byte_of new page k ≡ byte_of d page k
  unfolding names_changed
  byte_same page k = refl

  -- it isn't the root's
  file_of : (i idx : ℕ) (m : Mapping) → LivePlace d i idx m → 1 ≤ i
  file_of i idx m place = elim (cases_eq i 0) [
    | inl e ↦ absurd (some_none (maps d i idx) m place.maps (ap (λ (j : ℕ). maps d j idx) e ∙ root_maps d change may idx))
    | inr some ↦ omega (arith, some)
  ]

  row_same : (page : ℕ) → HasRow d page → HasRow new page
  row_same page row = subst (λ (rs : List Row). IsSome (row_of rs page)) (sym (same_rows d change)) row

  alone_or_row : (m : Mapping) → IsAlone m ⊎ HasRow d m.block → IsAlone m ⊎ HasRow new m.block
  alone_or_row m is = ⊎_elim (λ alone. inl alone) (λ (row : HasRow d m.block). inr (row_same m.block row)) is

  pub own_kept : (print : Print) → IsOwn print d → IsOwn print new
  own_kept print own = record {
    zeros = λ i idx k m place past small.
        let was : LivePlace d i idx m = live_was i idx m place in
        byte_same m.block k ∙ own.zeros i idx k m was
        (subst (λ (n : ℕ). n ≤ 4096 * idx + k) (size_same d change may i (file_of i idx m was) (subst IsUsed (sym was.live) tt)) past) small;
    prints = subst (All (λ row. row.print ≡ print (page_bytes new row.page))) (sym (same_rows d change))
        (All-weaker (λ (row : Row). row.print ≡ print (page_bytes d row.page)) (λ (row : Row). row.print ≡ print (page_bytes new row.page))
        (λ row is. is ∙ ap print (sym (page_bytes_same row.page))) (rows d) own.prints);
    complete = λ i idx m place done. alone_or_row m (own.complete i idx m (live_was i idx m place) done);
  }

  pub settled_kept : Settled d → Settled new
  settled_kept settled = record {
    complete = λ i idx m place. settled.complete i idx m (live_was i idx m place);
    done = λ i idx m place. alone_or_row m (settled.done i idx m (live_was i idx m place));
    shared = λ i j idx jdx m n at_i at_j same.
        settled.shared i j idx jdx m n (live_was i idx m at_i) (live_was j jdx n at_j) (sym (page_bytes_same m.block) ∙ same ∙ page_bytes_same
        n.block);
  }
