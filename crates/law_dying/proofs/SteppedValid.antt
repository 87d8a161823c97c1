-- A disk makes sense when a dying inode maps less, or has ended.
use Rattle.std.proofs.Common.{◌≡◌, ◌≢◌, inl, inr, ℕ, ◌+◌, ◌<◌, ◌≤◌, List, sym, ◌∙◌, ap, subst, arith}
use Rattle.std.specs.Prelude.{slice_get, Some, None, IsNone, All, Contains}
use Rattle.std.proofs.lemmas.Bool.{cases_eq}
use Rattle.pm_layout.specs.declared.Geometry.{Geometry}
use Rattle.pm_layout.specs.Geometry.{IsAccepted, directs, slots}
use Rattle.dn_model.specs.Table.{Row, row_of}
use Rattle.dn_model.specs.Disk.{Disk, Inode, Use, Free, Live, Dying, IsUsed}
use Rattle.dn_model.specs.Files.{named, named_after}
use Rattle.dn_model.specs.Valid.{IsCut, IsLog, IsLinked, IsRow, AreApart, IsValid}
use Rattle.law_dying.specs.Dying.{Step, Falls, Ends, use_after, stepped}
use Rattle.law_dying.proofs.Stepped.{at_ino, at_other, same_geometry, same_chain, same_pointer, same_rows}
use Rattle.law_dying.proofs.Dropped.{MayStep, was_used, file, below, mapped_only, mappings-le, log_page_only, free_kept}

module _ (d : Disk) (ino : ℕ) (step : Step) (may : MayStep d ino step) where
  abbrev new : Disk
  new = stepped d ino step

  abbrev valid : IsValid d
  valid = may.valid

  pub named_same : (name : List ℕ) → named new name ≡ named d name
  unfolding named
  named_same name = ap (λ (n : Inode). named_after name None n.log.items) (at_other d ino step 0 (λ e. omega (arith, e, file d ino step may)))

  -- no name leads to it
  pub nameless : (name : List ℕ) → named d name ≢ Some ino
  nameless = subst (IsLinked d ino) may.dying (valid.links ino (file d ino step may) may.in_table)

  linked : (i : ℕ) (u : Use) → IsLinked d i u → IsLinked new i u
  linked i Live one = record {
    name = one.name;
    leads = named_same one.name ∙ one.leads;
    alone = λ other e. one.alone other
        (sym (named_same other) ∙ e);
  }
  linked i Free none = λ name e. none name (sym (named_same name) ∙ e)
  linked i (Dying c) none = λ name e. none name (sym (named_same name) ∙ e)

  linked_here : (s : Step) → IsLinked new ino (use_after s)
  linked_here (Falls cut) = λ name e. nameless name (sym (named_same name) ∙ e)
  linked_here Ends = λ name e. nameless name (sym (named_same name) ∙ e)

  -- a fact of inodes that holds of the one that stepped and of the others
  by_inode : (P : ℕ → Inode → Type 0) → P ino (record { use_of = use_after step; log = (d.inode ino).log }) → ((i : ℕ) → i ≢ ino → P i (d.inode i))
      → (i : ℕ) → P i (new.inode i)
  by_inode P here others i = elim (cases_eq i ino) [
    | inl e ↦ subst (P i) (sym (ap new.inode e ∙ at_ino d ino step))
        (subst (λ (j : ℕ). P j (record { use_of = use_after step; log = (d.inode ino).log })) (sym e) here)
    | inr ne ↦ subst (P i) (sym (at_other d ino step i ne)) (others i ne)
  ]

  at_old_geometry : (P : Geometry → Type 0) → P d.geometry → P new.geometry
  at_old_geometry P = subst P (sym (same_geometry d ino step))

  -- a log page of an inode was one of the same inode
  of_log : (i page : ℕ) → IsUsed (new.inode i).use_of → Contains (new.inode i).log.pages page → IsUsed (d.inode i).use_of × Contains
      (d.inode i).log.pages page
  of_log = by_inode (λ i n. (page : ℕ) → IsUsed n.use_of → Contains n.log.pages page → IsUsed (d.inode i).use_of × Contains (d.inode i).log.pages
      page)
      (λ page used listed. (was_used d ino step may, listed)) (λ i ne page used listed. (used, listed))

  one_log : (i j page : ℕ) → i < new.geometry.inodes → j < new.geometry.inodes → IsUsed (new.inode i).use_of → IsUsed (new.inode j).use_of
      → Contains (new.inode i).log.pages page → Contains (new.inode j).log.pages page → i ≡ j
  one_log i j page il jl ui uj ci cj =
      let a = of_log i page ui ci in let b = of_log j page uj cj in
      valid.single.one_log i j page (below d ino step may i il) (below d ino step may j jl) a.0 b.0 a.1 b.1

  logs : (i : ℕ) → i < d.geometry.inodes → IsUsed (new.inode i).use_of → IsLog d.geometry i (new.inode i).log
  logs = by_inode (λ i n. i < d.geometry.inodes → IsUsed n.use_of → IsLog d.geometry i n.log)
      (λ lt used. valid.logs ino may.in_table (was_used d ino step may)) (λ i ne lt used. valid.logs i lt used)

  pub stepped_valid : IsValid new
  stepped_valid = record {
    accepted = at_old_geometry IsAccepted valid.accepted;
    root = ap (λ (n : Inode). n.use_of) (at_other d ino step 0 (λ e. omega (arith, e, file d ino step may))) ∙ valid.root;
    cuts = λ i lt. by_inode (λ j n. j < d.geometry.inodes → IsCut n.use_of) (λ below. may.small) (λ j ne below. valid.cuts j below) i
        (below d ino step may i lt);
    logs = λ i lt u. at_old_geometry (λ g. IsLog g i (new.inode i).log) (logs i (below d ino step may i lt) u);
    links = λ i some lt. by_inode (λ j n. 1 ≤ j → j < d.geometry.inodes → IsLinked new j n.use_of) (λ first low. linked_here step)
        (λ j ne first low. linked j (d.inode j).use_of (valid.links j first low)) i some (below d ino step may i lt);
    table = λ p k row lt is. at_old_geometry (λ g. IsRow g p k row)
        (valid.table p k row (subst (λ (g : Geometry). p < directs g) (same_geometry d ino step) lt)
        (subst (λ (rs : List Row). slice_get rs k ≡ Some row) (same_chain d ino step p) is));
    rows_apart = subst AreApart (sym (same_rows d ino step)) valid.rows_apart;
    pointers = λ page lt. at_old_geometry (λ g. new.pointer page ≤ slots g)
        (subst (λ (n : ℕ). n ≤ slots d.geometry) (sym (same_pointer d ino step page))
        (valid.pointers page (subst (λ (g : Geometry). page < g.pages) (same_geometry d ino step) lt)));
    leads = subst (All (λ row. new.pointer row.page ≡ row.slot + 1)) (sym (same_rows d ino step)) (λ k e lt. same_pointer d ino step _ ∙ valid.leads k
        e lt);
    single = record {
      one_log = one_log;
      log_unmapped = λ page p m. valid.single.log_unmapped page (log_page_only d ino step may page p) (mapped_only d ino step may page m);
      log_no_row = λ page p. subst (λ (rs : List Row). IsNone (row_of rs page)) (sym (same_rows d ino step))
          (valid.single.log_no_row page (log_page_only d ino step may page p));
      unshared = λ page none. omega (
        arith,
        mappings-le d ino step may page,
        valid.single.unshared page
            (subst (λ (rs : List Row). IsNone (row_of rs page)) (same_rows d ino step) none),
      );
    };
    near = may.near;
    roomy = let two = valid.roomy in (two.0, two.1, two.2, free_kept d ino step may two.0 two.3, free_kept d ino step may two.1 two.4);
  }
