-- A disk makes sense after a change of names, if it did before.
use Rattle.std.proofs.Common.{◌≡◌, ◌≢◌, ⊎_elim, ℕ, ◌+◌, ◌/◌, ◌<◌, ◌≤◌, List, length, refl, sym, ◌∙◌, ap, subst, arith}
use Rattle.std.specs.Prelude.{slice_get, slice_index, Some, IsNone, All, Contains}
use Rattle.std.proofs.lemmas.List.Elements.{All-append, All-nil, Contains-get_or, Contains-append_cases}
use Rattle.pm_layout.specs.declared.Geometry.{Geometry}
use Rattle.pm_layout.specs.Geometry.{IsAccepted, directs, slots}
use Rattle.log_entry.specs.Spelling.{IsSpelled, pages_of}
use Rattle.dn_model.specs.Log.{IsPaged, count, no_log}
use Rattle.dn_model.specs.Maps.{size_of}
use Rattle.dn_model.specs.Table.{Row, row_of}
use Rattle.dn_model.specs.Disk.{Disk, Inode, IsUsed, IsMapped, rows}
use Rattle.dn_model.specs.Counts.{IsLogPage, IsFree}
use Rattle.dn_model.specs.Valid.{MayStand, IsCut, IsLog, IsRow, AreApart, IsValid}
use Rattle.dn_model.proofs.Append.{count-grown}
use Rattle.law_write.specs.Events.{IsUnused}
use Rattle.law_write.proofs.MappedPlaces.{size-small}
use Rattle.law_write.proofs.WriteValid.{not_mapped}
use Rattle.law_write.proofs.WrittenDisk.{append-apart, append-in_data}
use Rattle.law_names.specs.NameChange.{NameChange, Turn, Stays, Comes, Goes, MayTurn, turned, root_after, names_changed, IsSpared, MayChange}
use Rattle.law_names.proofs.Changed.{
  at_root,
  at_ino,
  at_other,
  same_geometry,
  same_chain,
  same_pointer,
  same_rows,
  Where,
  is_root,
  is_here,
  elsewhere,
  where_is,
}
use Rattle.law_names.proofs.Kept.{
  root_in_table,
  root_used,
  root_standing_after,
  below,
  mapped_only,
  log_page_cases,
  free_kept,
  near_kept,
  unshared_kept,
  turned_pages,
}

-- an empty log has no fault
no_log-is : (g : Geometry) (ino : ℕ) → IsLog g ino no_log
unfolding count
no_log-is g ino = record {
  paged = record { fits = refl; in_data = λ k lt. absurd (omega (arith, lt)); apart = λ j k lt. absurd (omega (arith, lt)) };
  spelled = All-nil IsSpelled;
  standing = All-nil (MayStand g ino);
}

turned_log : (g : Geometry) (ino : ℕ) (turn : Turn) (node : Inode) → MayTurn turn node.use_of → (IsUsed node.use_of → IsLog g ino node.log)
    → IsUsed (turned turn node).use_of → IsLog g ino (turned turn node).log
turned_log g ino Stays node may is used = is used
turned_log g ino Comes node may is used = no_log-is g ino
turned_log g ino Goes node may is used = is (subst IsUsed (sym may) tt)

turned_cut : (g : Geometry) (ino : ℕ) (turn : Turn) (node : Inode) → MayTurn turn node.use_of → (IsUsed node.use_of → IsLog g ino node.log)
    → IsCut node.use_of → IsCut (turned turn node).use_of
turned_cut g ino Stays node may is cut = cut
turned_cut g ino Comes node may is cut = tt
turned_cut g ino Goes node may is cut = small (size_of node.log) (size-small node.log (is (subst IsUsed (sym may) tt)).spelled)
  where
    small : (size : ℕ) → size ≤ 16777216 → pages_of size ≤ 4096
    small size le = omega arith

module _ (d : Disk) (change : NameChange) (may : MayChange d change) where
  abbrev new : Disk
  new = names_changed d change

  abbrev valid : IsValid d
  valid = may.root.valid

  fresh_page : (k : ℕ) → k < length change.fresh → IsUnused d (slice_index change.fresh k)
  fresh_page k lt = may.root.fresh_unused (slice_index change.fresh k) (Contains-get_or change.fresh k 0 lt)

  log_or_fresh : (j k : ℕ) → j < length (d.inode 0).log.pages → k < length change.fresh → slice_index (d.inode 0).log.pages j ≢ slice_index
      change.fresh k
  log_or_fresh j k jl kl same = (fresh_page k kl).free.in_no_log (record {
    ino = 0;
    in_table = root_in_table d change may;
    used = root_used d change may;
    listed = subst (Contains (d.inode 0).log.pages) same (Contains-get_or (d.inode 0).log.pages j 0 jl);
  })

  log_before : IsLog d.geometry 0 (d.inode 0).log
  log_before = valid.logs 0 (root_in_table d change may) (root_used d change may)

  pub root_paged : IsPaged d.geometry (root_after d change)
  root_paged = record {
    fits = may.root.room ∙ ap (λ (n : ℕ). (n + 62) / 63)
        (sym (count-grown (d.inode 0).log (root_after d change) (record { fresh = change.fresh; more = change.more; pages = refl; items = refl })));
    in_data = append-in_data (d.inode 0).log.pages change.fresh log_before.paged.apart may.root.fresh_apart log_or_fresh d.geometry
        log_before.paged.in_data (λ k lt. (fresh_page k lt).free.data_page);
    apart = append-apart (d.inode 0).log.pages change.fresh log_before.paged.apart may.root.fresh_apart log_or_fresh;
  }

  root_log : IsLog d.geometry 0 (root_after d change)
  root_log = record {
    paged = root_paged;
    spelled = All-append IsSpelled (d.inode 0).log.items change.more log_before.spelled may.spelled;
    standing = root_standing_after d change may;
  }

  log_at : (i : ℕ) → i < d.geometry.inodes → IsUsed (new.inode i).use_of → Where d change i → IsLog d.geometry i (new.inode i).log
  log_at i lt used (is_root e) = subst (λ (j : ℕ). IsLog d.geometry j (new.inode j).log) (sym e) (subst (λ (n : Inode). IsLog d.geometry 0 n.log)
      (sym (at_root d change)) root_log)
  log_at i lt used (is_here e) =
      let node : new.inode i ≡ turned change.turn (d.inode change.ino) = ap new.inode e ∙ at_ino d change may.file in
      subst (λ (n : Inode). IsLog d.geometry i n.log) (sym node)
      (turned_log d.geometry i change.turn (d.inode change.ino) may.may_turn (λ u. subst (λ (j : ℕ). IsLog d.geometry j (d.inode change.ino).log)
      (sym e) (valid.logs change.ino may.in_table u))
      (subst (λ (n : Inode). IsUsed n.use_of) node used))
  log_at i lt used (elsewhere some ne) =
      subst (λ (n : Inode). IsLog d.geometry i n.log) (sym (at_other d change i some ne))
      (valid.logs i lt (subst (λ (n : Inode). IsUsed n.use_of) (at_other d change i some ne) used))

  cut_at : (i : ℕ) → i < d.geometry.inodes → Where d change i → IsCut (new.inode i).use_of
  cut_at i lt (is_root e) = subst (λ (j : ℕ). IsCut (new.inode j).use_of) (sym e) (subst (λ (n : Inode). IsCut n.use_of) (sym (at_root d change))
      (valid.cuts 0 (root_in_table d change may)))
  cut_at i lt (is_here e) =
      let node : new.inode i ≡ turned change.turn (d.inode change.ino) = ap new.inode e ∙ at_ino d change may.file in
      subst (λ (n : Inode). IsCut n.use_of) (sym node)
      (turned_cut d.geometry change.ino change.turn (d.inode change.ino) may.may_turn (valid.logs change.ino may.in_table)
      (valid.cuts change.ino may.in_table))
  cut_at i lt (elsewhere some ne) = subst (λ (n : Inode). IsCut n.use_of) (sym (at_other d change i some ne)) (valid.cuts i lt)

  -- a log page of an inode was one of the same inode, or is a fresh one of the root's
  pub data OfLog (i page : ℕ) : Type 0 where
    was_log : IsUsed (d.inode i).use_of → Contains (d.inode i).log.pages page → OfLog i page
    is_fresh : i ≡ 0 → Contains change.fresh page → OfLog i page

  of_log_at : (i page : ℕ) → IsUsed (new.inode i).use_of → Contains (new.inode i).log.pages page → Where d change i → OfLog i page
  of_log_at i page used listed (is_root e) = ⊎_elim
      (λ (was : Contains (d.inode 0).log.pages page). was_log (subst (λ (j : ℕ). IsUsed (d.inode j).use_of) (sym e) (root_used d change may))
      (subst (λ (j : ℕ). Contains (d.inode j).log.pages page) (sym e) was))
      (λ (fresh : Contains change.fresh page). is_fresh e fresh)
      (Contains-append_cases (d.inode 0).log.pages change.fresh page (subst (λ (n : Inode). Contains n.log.pages page)
      (ap new.inode e ∙ at_root d change) listed))
  of_log_at i page used listed (is_here e) =
      let node : new.inode i ≡ turned change.turn (d.inode change.ino) = ap new.inode e ∙ at_ino d change may.file in
      let there : Contains (turned change.turn (d.inode change.ino)).log.pages page = subst (λ (n : Inode). Contains n.log.pages page) node listed in
      let both = turned_pages change.turn (d.inode change.ino) may.may_turn page there (subst (λ (n : Inode). IsUsed n.use_of) node used) in
      was_log (subst (λ (j : ℕ). IsUsed (d.inode j).use_of) (sym e) both.0) (subst (λ (j : ℕ). Contains (d.inode j).log.pages page) (sym e) both.1)
  of_log_at i page used listed (elsewhere some ne) =
      was_log (subst (λ (n : Inode). IsUsed n.use_of) (at_other d change i some ne) used) (subst (λ (n : Inode). Contains n.log.pages page)
      (at_other d change i some ne) listed)

  -- one page, two logs
  one_log_by : (i j page : ℕ) → i < d.geometry.inodes → j < d.geometry.inodes → OfLog i page → OfLog j page → i ≡ j
  one_log_by i j page il jl (was_log ui ci) (was_log uj cj) = valid.single.one_log i j page il jl ui uj ci cj
  one_log_by i j page il jl (was_log ui ci) (is_fresh e fresh) = absurd ((may.root.fresh_unused page fresh).free.in_no_log
      (record { ino = i; in_table = il; used = ui; listed = ci }))
  one_log_by i j page il jl (is_fresh e fresh) (was_log uj cj) = absurd ((may.root.fresh_unused page fresh).free.in_no_log
      (record { ino = j; in_table = jl; used = uj; listed = cj }))
  one_log_by i j page il jl (is_fresh e fresh) (is_fresh f fresh') = e ∙ sym f

  one_log : (i j page : ℕ) → i < new.geometry.inodes → j < new.geometry.inodes → IsUsed (new.inode i).use_of → IsUsed (new.inode j).use_of
      → Contains (new.inode i).log.pages page → Contains (new.inode j).log.pages page → i ≡ j
  one_log i j page il jl ui uj ci cj =
      one_log_by i j page (below d change may i il) (below d change may j jl) (of_log_at i page ui ci (where_is d change i))
      (of_log_at j page uj cj (where_is d change j))

  log_unmapped : (page : ℕ) → IsLogPage new page → IsMapped new page → ⊥
  log_unmapped page p m = ⊎_elim
      (λ (was : IsLogPage d page). valid.single.log_unmapped page was (mapped_only d change may page m))
      (λ (fresh : Contains change.fresh page). not_mapped d page (may.root.fresh_unused page fresh) (mapped_only d change may page m))
      (log_page_cases d change may page p)

  no_row : (page : ℕ) → IsLogPage new page → IsNone (row_of (rows new) page)
  no_row page p = subst (λ (rs : List Row). IsNone (row_of rs page)) (sym (same_rows d change))
      (⊎_elim (λ (was : IsLogPage d page). valid.single.log_no_row page was)
      (λ (fresh : Contains change.fresh page). (may.root.fresh_unused page fresh).no_row) (log_page_cases d change may page p))

  at_old_geometry : (P : Geometry → Type 0) → P d.geometry → P new.geometry
  at_old_geometry P = subst P (sym (same_geometry d change))

  spared : (page : ℕ) → IsSpared d change.fresh page → IsFree new page
  spared page is = free_kept d change may page is.free is.not_fresh

  pub changed_valid : IsValid new
  changed_valid = record {
    accepted = at_old_geometry IsAccepted valid.accepted;
    root = ap (λ (n : Inode). n.use_of) (at_root d change) ∙ valid.root;
    cuts = λ i lt. cut_at i (below d change may i lt) (where_is d change i);
    logs = λ i lt u. at_old_geometry (λ g. IsLog g i (new.inode i).log) (log_at i (below d change may i lt) u (where_is d change i));
    links = λ i some lt. may.links i some (below d change may i lt);
    table = λ p k row lt is. at_old_geometry (λ g. IsRow g p k row)
        (valid.table p k row (subst (λ (g : Geometry). p < directs g) (same_geometry d change) lt)
        (subst (λ (rs : List Row). slice_get rs k ≡ Some row) (same_chain d change p) is));
    rows_apart = subst AreApart (sym (same_rows d change)) valid.rows_apart;
    pointers = λ page lt. at_old_geometry (λ g. new.pointer page ≤ slots g)
        (subst (λ (n : ℕ). n ≤ slots d.geometry) (sym (same_pointer d change page))
        (valid.pointers page (subst (λ (g : Geometry). page < g.pages) (same_geometry d change) lt)));
    leads = subst (All (λ row. new.pointer row.page ≡ row.slot + 1)) (sym (same_rows d change)) (λ k e lt. same_pointer d change _ ∙ valid.leads k e
        lt);
    single = record {
      one_log = one_log;
      log_unmapped = log_unmapped;
      log_no_row = no_row;
      unshared = unshared_kept d change may valid.single.unshared;
    };
    near = near_kept d change may valid.near;
    roomy = let two = may.root.left in (two.0, two.1, two.2, spared two.0 two.3, spared two.1 two.4);
  }
