-- A disk that is the same where it is read is valid too, and each image that stands for the one stands for the other.
use Rattle.std.proofs.Common.{◌≡◌, ⊎_elim, ℕ, zero, suc, ◌+◌, ◌*◌, ◌<◌, ◌≤◌, List, length, get_or, refl, sym, ◌∙◌, ap, subst, arith}
use Rattle.std.specs.Prelude.{slice_get, Some, IsNone, All, Contains}
use Rattle.std.proofs.lemmas.Option.{slice_get_read}
use Rattle.std.proofs.lemmas.List.Elements.{Contains-append_cases, Contains-get_or}
use Rattle.pm_layout.specs.declared.Geometry.{Geometry}
use Rattle.pm_layout.specs.Geometry.{IsAccepted, directs, slots, pointer_word}
use Rattle.dn_model.specs.Rolled.{IsGate}
use Rattle.dn_model.specs.Log.{Log, LogSays}
use Rattle.dn_model.specs.Table.{Row, row_of, ChainSays, rows_from}
use Rattle.dn_model.specs.Disk.{
  Disk,
  IsUsed,
  state_number,
  rows,
  DiskSays,
  of_head,
  of_inodes,
  of_logs,
  of_chains,
  of_pointers,
  of_pages,
  HeadSays,
  at_magic,
  at_version,
  at_pages,
  at_inodes,
  at_gate,
  InodesSay,
  at_state,
  at_cut,
}
use Rattle.dn_model.specs.Counts.{IsNear}
use Rattle.dn_model.specs.Valid.{IsCut, IsLog, IsLinked, IsRow, AreApart, IsSingle, IsValid}
use Rattle.law_unique.specs.SameDisk.{IsRead, HasSameLogs, IsSameDisk}
use Rattle.law_unique.specs.Images.{IsSameBothWays, SameDisksAreValid, StandsForTheSame}
use Rattle.law_unique.proofs.Ranges.{root_in_table, root_used}
use Rattle.law_unique.proofs.SameParts.{back, mapped-same, rows-same}
use Rattle.law_unique.proofs.SameMeaning.{mappings-same, names-same, log_page-same, free-same, linked-same}
use Rattle.law_unique.proofs.OneImage.{read-same}

-- a row stands in the chain of a prefix
chain_listed : (chain : ℕ → List Row) (d n : ℕ) (row : Row) → Contains (rows_from chain d n) row → (p : ℕ) × (p < d + n) × Contains (chain p) row
chain_listed chain d zero row listed = absurd (omega (arith, listed.1))
chain_listed chain d (suc n) row listed = ⊎_elim
    (λ (here : Contains (chain d) row). (d, omega arith, here))
    (λ (later : Contains (rows_from chain (d + 1) n) row). let found = chain_listed chain (d + 1) n row later in
    (found.0, omega (arith, found.1), found.2))
    (Contains-append_cases (chain d) (rows_from chain (d + 1) n) row listed)

row_in_image : (d : Disk) → IsValid d → (row : Row) → Contains (rows d) row → row.page < d.geometry.pages
unfolding rows
row_in_image d valid row listed =
    let found = chain_listed d.chain 0 (directs d.geometry) row listed in
    let at = slice_get_read (d.chain found.0) (length (d.chain found.0)) found.2.0 row refl found.2.1 (sym found.2.2) in
    (valid.table found.0 found.2.0 row (omega (arith, found.1)) at).data_page.high

module _ (d e : Disk) (valid : IsValid d) (same : IsSameDisk d e) where
  logs : HasSameLogs d e
  logs = same.inodes

  same_rows : rows d ≡ rows e
  same_rows = rows-same d e same.inodes.geometry same.chains

  inode_from : (ino : ℕ) → ino < e.geometry.inodes → ino < d.geometry.inodes
  inode_from ino lt = subst (λ (g : Geometry). ino < g.inodes) (sym same.inodes.geometry) lt

  used_from : (ino : ℕ) → ino < d.geometry.inodes → IsUsed (e.inode ino).use_of → IsUsed (d.inode ino).use_of
  used_from ino lt used = subst IsUsed (sym (same.inodes.uses ino lt)) used

  single : IsSingle e
  single =
      let from = back d e same.inodes in
      record {
        one_log = λ i j page il jl iu ju ic jc.
            let il' = inode_from i il in let jl' = inode_from j jl in
            let iu' = used_from i il' iu in let ju' = used_from j jl' ju in
            valid.single.one_log i j page il' jl' iu' ju' (subst (λ (log : Log). Contains log.pages page) (sym (same.inodes.logs i il' iu')) ic)
            (subst (λ (log : Log). Contains log.pages page) (sym (same.inodes.logs j jl' ju')) jc);
        log_unmapped = λ page at mapped. valid.single.log_unmapped page (log_page-same e d from page at) (mapped-same e d from page mapped);
        log_no_row = λ page at. subst (λ (rs : List Row). IsNone (row_of rs page)) same_rows
            (valid.single.log_no_row page (log_page-same e d from page at));
        unshared = λ page none.
            subst (λ (n : ℕ). n ≤ 1) (mappings-same d e same.inodes page)
            (valid.single.unshared page (subst (λ (rs : List Row). IsNone (row_of rs page)) (sym same_rows) none));
      }

  links : (ino : ℕ) → 1 ≤ ino → ino < e.geometry.inodes → IsLinked e ino (e.inode ino).use_of
  links ino some lt =
      let lt' = inode_from ino lt in
      subst (IsLinked e ino) (same.inodes.uses ino lt') (linked-same d e (names-same d e same.inodes (root_in_table d valid) (root_used d valid)) ino
      (d.inode ino).use_of (valid.links ino some lt'))

  table : (prefix k : ℕ) (row : Row) → prefix < directs e.geometry → slice_get (e.chain prefix) k ≡ Some row → IsRow e.geometry prefix k row
  table prefix k row lt at =
      let lt' : prefix < directs d.geometry = subst (λ (g : Geometry). prefix < directs g) (sym same.inodes.geometry) lt in
      subst (λ (g : Geometry). IsRow g prefix k row) same.inodes.geometry
      (valid.table prefix k row lt' (ap (λ (rs : List Row). slice_get rs k) (same.chains prefix lt') ∙ at))

  pointers : (page : ℕ) → page < e.geometry.pages → e.pointer page ≤ slots e.geometry
  pointers page lt =
      let lt' : page < d.geometry.pages = subst (λ (g : Geometry). page < g.pages) (sym same.inodes.geometry) lt in
      subst (λ (g : Geometry). e.pointer page ≤ slots g) same.inodes.geometry (subst (λ (v : ℕ). v ≤ slots d.geometry) (same.pointers page lt')
      (valid.pointers page lt'))

  leads : All (λ row. e.pointer row.page ≡ row.slot + 1) (rows e)
  leads = subst (All (λ row. e.pointer row.page ≡ row.slot + 1)) same_rows (λ k row lt.
      sym (same.pointers (get_or (rows d) k row).page (row_in_image d valid (get_or (rows d) k row) (Contains-get_or (rows d) k row lt))) ∙
      valid.leads k row lt)

  near : All (IsNear e) (rows e)
  near = subst (All (IsNear e)) same_rows (λ k row lt.
      subst (λ (n : ℕ). (n ≤ (get_or (rows d) k row).rfc + (get_or (rows d) k row).uc) ×
      ((get_or (rows d) k row).rfc ≤ n + (get_or (rows d) k row).uc))
      (mappings-same d e same.inodes (get_or (rows d) k row).page) (valid.near k row lt))

  pub valid_too : IsValid e
  valid_too = record {
    accepted = subst IsAccepted same.inodes.geometry valid.accepted;
    root = sym (same.inodes.uses 0 (root_in_table d valid)) ∙ valid.root;
    cuts = λ ino lt. let lt' = inode_from ino lt in subst IsCut (same.inodes.uses ino lt') (valid.cuts ino lt');
    logs = λ ino lt used.
        let lt' = inode_from ino lt in let used' = used_from ino lt' used in
        subst (λ (g : Geometry). IsLog g ino (e.inode ino).log) same.inodes.geometry (subst (IsLog d.geometry ino) (same.inodes.logs ino lt' used')
        (valid.logs ino lt' used'));
    links = links;
    table = table;
    rows_apart = subst AreApart same_rows valid.rows_apart;
    pointers = pointers;
    leads = leads;
    single = single;
    near = near;
    roomy = let room = valid.roomy in (room.0, room.1, room.2, free-same d e same.inodes room.0 room.3, free-same d e same.inodes room.1 room.4);
  }

  -- what the other says, this one says too
  head_too : (a v : ℕ) → HeadSays e a v → HeadSays d a v
  head_too a v (at_magic place value) = at_magic place value
  head_too a v (at_version place value) = at_version place value
  head_too a v (at_pages place value) = at_pages place (value ∙ ap (λ (g : Geometry). g.pages) (sym same.inodes.geometry))
  head_too a v (at_inodes place value) = at_inodes place (value ∙ ap (λ (g : Geometry). g.inodes) (sym same.inodes.geometry))
  head_too a v (at_gate place value) = at_gate place value

  inodes_too : (a v : ℕ) → InodesSay e a v → InodesSay d a v
  inodes_too a v (at_state ino lt place value) = let lt' = inode_from ino lt in at_state ino lt' place
      (value ∙ ap state_number (sym (same.inodes.uses ino lt')))
  inodes_too a v (at_cut ino cut lt dying place value) = let lt' = inode_from ino lt in at_cut ino cut lt' (same.inodes.uses ino lt' ∙ dying) place
      value

  pub says_too : (a v : ℕ) → DiskSays e a v → DiskSays d a v
  says_too a v (of_head told) = of_head (head_too a v told)
  says_too a v (of_inodes told) = of_inodes (inodes_too a v told)
  says_too a v (of_logs told) =
      let lt' = inode_from told.ino told.in_table in let used' = used_from told.ino lt' told.used in
      of_logs (record {
        ino = told.ino;
        in_table = lt';
        used = used';
        says = subst (λ (log : Log). LogSays told.ino log a v)
            (sym (same.inodes.logs told.ino lt' used')) told.says;
      })
  says_too a v (of_chains told) =
      let lt' : told.prefix < directs d.geometry = subst (λ (g : Geometry). told.prefix < directs g) (sym same.inodes.geometry) told.direct in
      of_chains (record {
        prefix = told.prefix;
        direct = lt';
        says = subst (λ (rs : List Row). ChainSays d.geometry told.prefix rs a v) (sym (same.chains told.prefix lt'))
            (subst (λ (g : Geometry). ChainSays g told.prefix (e.chain told.prefix) a v) (sym same.inodes.geometry) told.says);
      })
  says_too a v (of_pointers told) =
      let lt' : told.page < d.geometry.pages = subst (λ (g : Geometry). told.page < g.pages) (sym same.inodes.geometry) told.in_image in
      of_pointers (record {
        page = told.page;
        in_image = lt';
        place = told.place ∙ ap (λ (g : Geometry). pointer_word g told.page) (sym same.inodes.geometry);
        value = told.value ∙ sym (same.pointers told.page lt');
      })
  says_too a v (of_pages told) =
      let read : IsRead d told.page = read-same e d (back d e same.inodes) (sym same_rows) told.page told.read in
      of_pages (record {
        page = told.page;
        k = told.k;
        in_page = told.in_page;
        read = read;
        place = told.place;
        value = told.value ∙ sym
            (same.words told.page told.k told.in_page read);
      })

pub same_valid : SameDisksAreValid
same_valid d e valid same = valid_too d e valid same

pub stands_same : StandsForTheSame
stands_same c d e stands same = record {
  size = stands.size ∙ ap (λ (g : Geometry). 512 * g.pages) same.inodes.geometry;
  gate = subst (λ (g : Geometry). IsGate g.inodes c) same.inodes.geometry stands.gate;
  reads = λ a v says. stands.reads a v (says_too d e stands.valid same a v says);
  valid = valid_too d e stands.valid same;
}

pub same_both_ways : IsSameBothWays
same_both_ways d e same =
    let from = back d e same.inodes in
    let same_rows : rows d ≡ rows e = rows-same d e same.inodes.geometry same.chains in
    record {
      inodes = from;
      chains = λ prefix lt. sym (same.chains prefix (subst (λ (g : Geometry). prefix < directs g) (sym same.inodes.geometry) lt));
      pointers = λ page lt. sym (same.pointers page (subst (λ (g : Geometry). page < g.pages) (sym same.inodes.geometry) lt));
      words = λ page k lt read. sym (same.words page k lt (read-same e d from (sym same_rows) page read));
    }
