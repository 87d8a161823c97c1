-- A disk whose file got Write items more makes sense, if it did before.
use Rattle.std.proofs.Common.{◌≡◌, ◌≢◌, ◌⊎◌, inl, inr, ⊎_elim, ℕ, zero, suc, ◌+◌, ◌<◌, ◌≤◌, List, ◌++◌, sym, ◌∙◌, ap, subst, arith}
use Rattle.std.specs.Prelude.{slice_get, Some, None, IsNone, All, Contains}
use Rattle.std.proofs.lemmas.Bool.{cases_eq}
use Rattle.std.proofs.lemmas.List.Elements.{All-append, Contains-append_cases}
use Rattle.pm_layout.specs.declared.Geometry.{Geometry}
use Rattle.pm_layout.specs.Geometry.{IsAccepted, directs, slots}
use Rattle.log_entry.specs.Spelling.{IsSpelled}
use Rattle.dn_model.specs.Maps.{Mapping}
use Rattle.dn_model.specs.Table.{Row, row_of}
use Rattle.dn_model.specs.Disk.{Disk, Inode, Use, Free, Live, Dying, IsUsed, IsMapped, maps, rows}
use Rattle.dn_model.specs.Counts.{hit, mappings, IsLogPage}
use Rattle.dn_model.specs.Files.{named, named_after}
use Rattle.dn_model.specs.Valid.{MayStand, IsCut, IsLog, IsLinked, IsRow, AreApart, IsValid}
use Rattle.law_write.specs.Events.{IsUnused}
use Rattle.law_write.specs.Writing.{Writes, WritesWell}
use Rattle.law_write.proofs.Relog.{same_use_of, same_rows}
use Rattle.law_write.proofs.MappedPlaces.{cut_some}
use Rattle.law_write.proofs.WriteCounts.{hit_here, place-le, own_or_other, maps_others, mappings-written_own, mappings-written_other}

-- a mapped place counts
pub mapped_counts : (d : Disk) (page : ℕ) → IsMapped d page → 1 ≤ mappings d page
mapped_counts d page m =
    let to = m.maps_to in
    let one : hit page (maps d m.ino m.idx) ≡ 1 = ap (hit page) to.is ∙ hit_here page to.by to.block in
    omega (arith, one, place-le d page m.ino m.idx to.in_table to.in_file)

-- one of the first n blocks is the page, or none is
pub block_or_not : (blocks : ℕ → ℕ) (page n : ℕ) → ((i : ℕ) × (i < n) × (page ≡ blocks i)) ⊎ ((i : ℕ) → i < n → blocks i ≢ page)
block_or_not blocks page zero = inr (λ i lt. absurd (omega arith))
block_or_not blocks page (suc n) = elim (cases_eq page (blocks n)) [
  | inl e ↦ inl (n, omega arith, e)
  | inr ne ↦ ⊎_elim (λ found. inl (found.0, omega (arith, found.1), found.2))
      (λ none. inr (λ i lt. ⊎_elim (λ (e : i ≡ n). subst (λ (k : ℕ). blocks k ≢ page) (sym e) (λ same. ne (sym same)))
      (λ (other : i ≢ n). none i (omega arith)) (cases_eq i n)))
      (block_or_not blocks page n)
]

-- an unused page isn't mapped
pub not_mapped : (d : Disk) (page : ℕ) → IsUnused d page → IsMapped d page → ⊥
not_mapped d page unused m = omega (arith, mapped_counts d page m, unused.free.unmapped)

module _ (ino : ℕ) (old new : Disk) (w : Writes ino old new) where
  pub use_kept : (i : ℕ) → (new.inode i).use_of ≡ (old.inode i).use_of
  use_kept = same_use_of ino old new w.relogs w.grown w.in_table

  pub rows_kept : rows new ≡ rows old
  rows_kept = same_rows ino old new w.relogs w.grown w.in_table

  pub below_old : (i : ℕ) → i < new.geometry.inodes → i < old.geometry.inodes
  below_old i lt = omega (arith, lt, ap (λ (g : Geometry). g.inodes) w.relogs.geometry)

  pub was_used : IsUsed (old.inode ino).use_of
  was_used = subst IsUsed (sym w.live) tt

  -- a mapping of this file is new, or was one before
  own_cases : (idx : ℕ) (x : Mapping) → maps new ino idx ≡ Some x → ((i : ℕ) × (i < w.n) × (x.block ≡ w.blocks i)) ⊎ (maps old ino idx ≡ Some x)
  own_cases idx x e = elim (own_or_other w.first w.n idx) [
    | inl own ↦
        let here = w.own own.0 own.1 in
        let same : here.by ≡ x = one_mapping here.by x (sym here.is ∙ ap (maps new ino) (sym own.2) ∙ e) in
        inl (own.0, own.1, ap (λ (m : Mapping). m.block) (sym same) ∙ here.page)
    | inr out ↦ inr (cut_some w.size idx (maps old ino idx) x (sym (w.other idx out) ∙ e))
  ]
    where
      one_mapping : (x y : Mapping) → Some x ≡ Some y → x ≡ y
      one_mapping x y e = cc

  -- a mapped page was mapped before, or is the event's
  pub mapped_cases : (page : ℕ) → IsMapped new page → ((i : ℕ) × (i < w.n) × (page ≡ w.blocks i)) ⊎ IsMapped old page
  mapped_cases page m =
      let to = m.maps_to in elim (cases_eq m.ino ino) [
        | inl e ↦
            ⊎_elim (λ own. inl (own.0, own.1, sym to.block ∙ own.2))
            (λ was. inr (record {
              ino = ino;
              idx = m.idx;
              maps_to = record {
                in_table = w.in_table;
                in_file = to.in_file;
                by = to.by;
                is = was;
                block = to.block;
              };
            }))
            (own_cases m.idx to.by (ap (λ (i : ℕ). maps new i m.idx) (sym e) ∙ to.is))
        | inr ne ↦ inr (record {
          ino = m.ino;
          idx = m.idx;
          maps_to = record {
            in_table = below_old m.ino to.in_table;
            in_file = to.in_file;
            by = to.by;
            is = sym (maps_others ino old new w m.ino m.idx ne) ∙ to.is;
            block = to.block;
          };
        })
      ]

  -- a log page was one before, or is fresh
  pub log_page_cases : (page : ℕ) → IsLogPage new page → IsLogPage old page ⊎ Contains w.grown.fresh page
  log_page_cases page p = elim (cases_eq p.ino ino) [
    | inl e ↦
        let there : Contains ((old.inode ino).log.pages ++ w.grown.fresh) page =
        subst (λ (ps : List ℕ). Contains ps page) w.grown.pages (subst (λ (i : ℕ). Contains (new.inode i).log.pages page) e p.listed) in
        ⊎_elim (λ was. inl (record { ino = ino; in_table = w.in_table; used = was_used; listed = was })) (λ fresh. inr fresh)
        (Contains-append_cases (old.inode ino).log.pages w.grown.fresh page there)
    | inr ne ↦ inl (record {
      ino = p.ino;
      in_table = below_old p.ino p.in_table;
      used = subst IsUsed (use_kept p.ino) p.used;
      listed = subst (λ (n : Inode). Contains n.log.pages page) (w.relogs.others p.ino ne) p.listed;
    })
  ]

module _ (ino : ℕ) (old new : Disk) (w : Writes ino old new) (ok : WritesWell ino old new w) where
  use_same : (i : ℕ) → (new.inode i).use_of ≡ (old.inode i).use_of
  use_same = use_kept ino old new w

  rows_same : rows new ≡ rows old
  rows_same = rows_kept ino old new w

  below : (i : ℕ) → i < new.geometry.inodes → i < old.geometry.inodes
  below = below_old ino old new w

  used : IsUsed (old.inode ino).use_of
  used = was_used ino old new w

  log_unmapped : (page : ℕ) → IsLogPage new page → IsMapped new page → ⊥
  log_unmapped page p m = ⊎_elim
      (λ (was : IsLogPage old page). ⊎_elim
      (λ (own : (i : ℕ) × (i < w.n) × (page ≡ w.blocks i)). (ok.blocks own.0 own.1).free.in_no_log (subst (IsLogPage old) own.2 was))
      (λ (mapped : IsMapped old page). ok.valid.single.log_unmapped page was mapped) (mapped_cases ino old new w page m))
      (λ (fresh : Contains w.grown.fresh page). ⊎_elim
      (λ (own : (i : ℕ) × (i < w.n) × (page ≡ w.blocks i)). ok.apart own.0 own.1 (subst (Contains w.grown.fresh) own.2 fresh))
      (λ (mapped : IsMapped old page). not_mapped old page (ok.fresh page fresh) mapped) (mapped_cases ino old new w page m))
      (log_page_cases ino old new w page p)

  no_row : (page : ℕ) → IsLogPage new page → IsNone (row_of (rows new) page)
  no_row page p = subst (λ (rs : List Row). IsNone (row_of rs page)) (sym rows_same)
      (⊎_elim (λ (was : IsLogPage old page). ok.valid.single.log_no_row page was)
      (λ (fresh : Contains w.grown.fresh page). (ok.fresh page fresh).no_row) (log_page_cases ino old new w page p))

  unshared : (page : ℕ) → IsNone (row_of (rows new) page) → mappings new page ≤ 1
  unshared page none = elim (block_or_not w.blocks page w.n) [
    | inl found ↦ mappings-written_own ino old new w page found.0 found.1 found.2 (subst (λ (p : ℕ). mappings old p ≡ 0) (sym found.2)
        (ok.blocks found.0 found.1).free.unmapped)
    | inr other ↦ omega (
      arith,
      mappings-written_other ino old new w page other,
      ok.valid.single.unshared page
          (subst (λ (rs : List Row). IsNone (row_of rs page)) rows_same none),
    )
  ]

  -- a page of this inode's log that another log has is no page of two logs before, nor fresh
  one_log_here : (j page : ℕ) → j ≢ ino → j < old.geometry.inodes → IsUsed (old.inode j).use_of → Contains (new.inode ino).log.pages page
      → Contains (old.inode j).log.pages page → ⊥
  one_log_here j page ne lt use_j here there = ⊎_elim
      (λ (was : Contains (old.inode ino).log.pages page). ne (sym (ok.valid.single.one_log ino j page w.in_table lt used use_j was there)))
      (λ (fresh : Contains w.grown.fresh page). (ok.fresh page fresh).free.in_no_log
      (record { ino = j; in_table = lt; used = use_j; listed = there }))
      (Contains-append_cases (old.inode ino).log.pages w.grown.fresh page (subst (λ (ps : List ℕ). Contains ps page) w.grown.pages here))

  one_log : (i j page : ℕ) → i < new.geometry.inodes → j < new.geometry.inodes → IsUsed (new.inode i).use_of → IsUsed (new.inode j).use_of
      → Contains (new.inode i).log.pages page → Contains (new.inode j).log.pages page → i ≡ j
  one_log i j page il jl ui uj ci cj = elim (cases_eq i ino) [
    | inl ei ↦ elim (cases_eq j ino) [
      | inl ej ↦ ei ∙ sym ej
      | inr nj ↦ absurd (one_log_here j page nj (below j jl) (subst IsUsed (use_same j) uj) (subst (λ (k : ℕ). Contains (new.inode k).log.pages page)
          ei ci) (moved j nj cj))
    ]
    | inr ni ↦ elim (cases_eq j ino) [
      | inl ej ↦ absurd (one_log_here i page ni (below i il) (subst IsUsed (use_same i) ui) (subst (λ (k : ℕ). Contains (new.inode k).log.pages page)
          ej cj) (moved i ni ci))
      | inr nj ↦ ok.valid.single.one_log i j page (below i il) (below j jl) (subst IsUsed (use_same i) ui) (subst IsUsed (use_same j) uj)
          (moved i ni ci) (moved j nj cj)
    ]
  ]
    where
      moved : (k : ℕ) → k ≢ ino → Contains (new.inode k).log.pages page → Contains (old.inode k).log.pages page
      moved k ne listed = subst (λ (n : Inode). Contains n.log.pages page) (w.relogs.others k ne) listed

  here_log : IsLog old.geometry ino (new.inode ino).log
  here_log =
      let before = ok.valid.logs ino w.in_table used in
      record {
        paged = ok.paged';
        spelled = subst (All IsSpelled) (sym w.grown.items) (All-append IsSpelled (old.inode ino).log.items w.grown.more before.spelled ok.spelled);
        standing = subst (All (MayStand old.geometry ino)) (sym w.grown.items) (All-append (MayStand old.geometry ino) (old.inode ino).log.items
            w.grown.more before.standing ok.standing);
      }

  logs : (i : ℕ) → i < old.geometry.inodes → IsUsed (old.inode i).use_of → IsLog old.geometry i (new.inode i).log
  logs i lt use_i = elim (cases_eq i ino) [
    | inl e ↦ subst (λ (k : ℕ). IsLog old.geometry k (new.inode k).log) (sym e) here_log
    | inr ne ↦ subst (λ (n : Inode). IsLog old.geometry i n.log) (sym (w.relogs.others i ne)) (ok.valid.logs i lt use_i)
  ]

  -- no name changes
  pub named_same : (name : List ℕ) → named new name ≡ named old name
  unfolding named
  named_same name = ap (λ (n : Inode). named_after name None n.log.items) (w.relogs.others 0 (λ e. omega (arith, e, ok.file)))

  linked : (i : ℕ) (u : Use) → IsLinked old i u → IsLinked new i u
  linked i Live one = record {
    name = one.name;
    leads = named_same one.name ∙ one.leads;
    alone = λ other e. one.alone other
        (sym (named_same other) ∙ e);
  }
  linked i Free none = λ name e. none name (sym (named_same name) ∙ e)
  linked i (Dying c) none = λ name e. none name (sym (named_same name) ∙ e)

  at_old_geometry : (P : Geometry → Type 0) → P old.geometry → P new.geometry
  at_old_geometry P = subst P (sym w.relogs.geometry)

  pub written_valid : IsValid new
  written_valid = record {
    accepted = at_old_geometry IsAccepted ok.valid.accepted;
    root = use_same 0 ∙ ok.valid.root;
    cuts = λ i lt. subst IsCut (sym (use_same i)) (ok.valid.cuts i (below i lt));
    logs = λ i lt u. at_old_geometry (λ g. IsLog g i (new.inode i).log) (logs i (below i lt) (subst IsUsed (use_same i) u));
    links = λ i some lt. subst (IsLinked new i) (sym (use_same i)) (linked i (old.inode i).use_of (ok.valid.links i some (below i lt)));
    table = λ p k row lt is. at_old_geometry (λ g. IsRow g p k row)
        (ok.valid.table p k row (subst (λ (g : Geometry). p < directs g) w.relogs.geometry lt) (subst (λ (rs : List Row). slice_get rs k ≡ Some row)
        (w.relogs.chain p) is));
    rows_apart = subst AreApart (sym rows_same) ok.valid.rows_apart;
    pointers = λ page lt. at_old_geometry (λ g. new.pointer page ≤ slots g) (subst (λ (n : ℕ). n ≤ slots old.geometry) (sym (w.relogs.pointer page))
        (ok.valid.pointers page (subst (λ (g : Geometry). page < g.pages) w.relogs.geometry lt)));
    leads = subst (All (λ row. new.pointer row.page ≡ row.slot + 1)) (sym rows_same) (λ k d lt. w.relogs.pointer _ ∙ ok.valid.leads k d lt);
    single = record { one_log = one_log; log_unmapped = log_unmapped; log_no_row = no_row; unshared = unshared };
    near = ok.near;
    roomy = ok.roomy;
  }
