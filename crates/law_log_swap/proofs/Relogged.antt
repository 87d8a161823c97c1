-- A disk on which one live inode has another log, of which no page comes to be read: its parts, and that it is valid.
use Rattle.std.proofs.Common.{◌≡◌, ◌≢◌, ◌⊎◌, inl, inr, ⊎_elim, ℕ, ◌+◌, ◌<◌, ◌≤◌, List, refl, sym, ◌∙◌, ap, subst, arith}
use Rattle.std.specs.Prelude.{slice_get, Some, IsSome, IsNone, All, Contains}
use Rattle.std.proofs.lemmas.Bool.{cases_eq}
use Rattle.pm_layout.specs.declared.Geometry.{Geometry}
use Rattle.pm_layout.specs.Geometry.{IsAccepted, directs, slots}
use Rattle.dn_model.specs.Log.{Log, LogSays}
use Rattle.dn_model.specs.Maps.{Mapping, mapping}
use Rattle.dn_model.specs.Table.{Row, row_of}
use Rattle.dn_model.specs.Disk.{
  Disk,
  Inode,
  Use,
  Free,
  Live,
  Dying,
  IsUsed,
  IsMapped,
  maps,
  maps_by_use,
  rows,
  state_number,
  DiskSays,
  of_head,
  of_inodes,
  of_logs,
  of_chains,
  of_pointers,
  of_pages,
  HeadSays,
  at_magic,
  at_version,
  at_pages,
  at_inodes,
  at_gate,
  InodesSay,
  at_state,
  at_cut,
  LogsSay,
  ChainsSay,
  PointersSay,
}
use Rattle.dn_model.specs.Counts.{mappings, IsLogPage, IsFree, Near}
use Rattle.dn_model.specs.Files.{named}
use Rattle.dn_model.specs.Valid.{IsCut, IsLog, IsLinked, IsRow, AreApart, IsValid}
use Rattle.law_write.specs.WithLog.{with_log}
use Rattle.law_write.specs.Events.{Relogs, IsReadPage, IsUnused}
use Rattle.law_write.proofs.Unread.{unused_unread}
use Rattle.law_write.proofs.WithLog.{with_log-inode, with_log-log, with_log-other, with_log-relogs}
use Rattle.law_table.proofs.Rows.{none_or_some}
use Rattle.law_log_swap.specs.Relogged.{relogged}

module _ (d : Disk) (ino : ℕ) (log : Log) where
  abbrev after : Disk
  after = relogged d ino log

  pub relogs : Relogs ino d after
  relogs = with_log-relogs d ino log d.word (λ page k read. refl)

  pub at_ino : after.inode ino ≡ record { use_of = (d.inode ino).use_of; log = log }
  at_ino = with_log-inode d ino log d.word

  pub log_here : (after.inode ino).log ≡ log
  log_here = with_log-log d ino log d.word

  pub at_other : (i : ℕ) → i ≢ ino → after.inode i ≡ d.inode i
  at_other = with_log-other d ino log d.word

  pub use_same : (i : ℕ) → (after.inode i).use_of ≡ (d.inode i).use_of
  use_same i = elim (cases_eq i ino) [
    | inl e ↦ subst (λ (j : ℕ). (after.inode j).use_of ≡ (d.inode j).use_of) (sym e) relogs.same_use
    | inr ne ↦ ap (λ (n : Inode). n.use_of) (at_other i ne)
  ]

  pub same_geometry : after.geometry ≡ d.geometry
  same_geometry = relogs.geometry

  pub same_word : (page k : ℕ) → after.word page k ≡ d.word page k
  unfolding with_log
  same_word page k = refl

  pub same_rows : rows after ≡ rows d
  unfolding rows with_log
  same_rows = refl

  pub below : (i : ℕ) → i < after.geometry.inodes → i < d.geometry.inodes
  below i lt = omega (arith, lt, ap (λ (g : Geometry). g.inodes) same_geometry)

  pub above : (i : ℕ) → i < d.geometry.inodes → i < after.geometry.inodes
  above i lt = omega (arith, lt, ap (λ (g : Geometry). g.inodes) same_geometry)

  pub maps_others : (i idx : ℕ) → i ≢ ino → maps after i idx ≡ maps d i idx
  unfolding maps
  maps_others i idx ne = ap (λ (n : Inode). maps_by_use n.use_of n.log idx) (at_other i ne)

  pub maps_here : (d.inode ino).use_of ≡ Live → (idx : ℕ) → maps after ino idx ≡ mapping log idx
  unfolding maps
  maps_here live idx = ap (λ (n : Inode). maps_by_use n.use_of n.log idx) at_ino ∙ ap (λ (u : Use). maps_by_use u log idx) live

  pub maps_before : (d.inode ino).use_of ≡ Live → (idx : ℕ) → maps d ino idx ≡ mapping (d.inode ino).log idx
  unfolding maps
  maps_before live idx = ap (λ (u : Use). maps_by_use u (d.inode ino).log idx) live

-- what the change stands on
pub record IsRelog (d : Disk) (ino : ℕ) (log : Log) : Type 0 where
  pub valid : IsValid d
  pub in_table : ino < d.geometry.inodes
  pub live : (d.inode ino).use_of ≡ Live
  pub good : IsLog d.geometry ino log
  pub pages : (page : ℕ) → Contains log.pages page → Contains (d.inode ino).log.pages page ⊎ IsUnused d page
  pub reads : (idx : ℕ) (m : Mapping) → mapping log idx ≡ Some m → IsReadPage d m.block
  pub names : (name : List ℕ) → named (relogged d ino log) name ≡ named d name
  pub few : (page : ℕ) → IsNone (row_of (rows d) page) → mappings (relogged d ino log) page ≤ 1
  pub near : Near (relogged d ino log)
  pub roomy : (p : ℕ) × (q : ℕ) × (p ≢ q) × IsFree (relogged d ino log) p × IsFree (relogged d ino log) q

module _ (d : Disk) (ino : ℕ) (log : Log) (may : IsRelog d ino log) where
  abbrev new : Disk
  new = relogged d ino log

  abbrev valid : IsValid d
  valid = may.valid

  pub was_used : IsUsed (d.inode ino).use_of
  was_used = subst IsUsed (sym may.live) tt

  pub now_used : IsUsed (new.inode ino).use_of
  now_used = subst IsUsed (sym (use_same d ino log ino)) was_used

  -- a page that is mapped was read
  pub mapped_read : (page : ℕ) → IsMapped new page → IsReadPage d page
  mapped_read page m =
      let to = m.maps_to in
      elim (cases_eq m.ino ino) [
        | inl e ↦ subst (IsReadPage d) to.block (may.reads m.idx to.by (sym (maps_here d ino log may.live m.idx) ∙ ap (λ (i : ℕ). maps new i m.idx)
            (sym e) ∙ to.is))
        | inr ne ↦ inl (record {
          ino = m.ino;
          idx = m.idx;
          maps_to = record {
            in_table = below d ino log m.ino to.in_table;
            in_file = to.in_file;
            by = to.by;
            is = sym (maps_others d ino log m.ino m.idx ne) ∙ to.is;
            block = to.block;
          };
        })
      ]

  pub read_before : (page : ℕ) → IsReadPage new page → IsReadPage d page
  read_before page read = ⊎_elim (λ (mapped : IsMapped new page). mapped_read page mapped)
      (λ (row : IsSome (row_of (rows new) page)). inr (subst (λ (rs : List Row). IsSome (row_of rs page)) (same_rows d ino log) row)) read

  -- a log page is one of the new log, or another inode's as before
  pub log_page_cases : (page : ℕ) → IsLogPage new page → Contains log.pages page ⊎ ((p : IsLogPage d page) × (p.ino ≢ ino))
  log_page_cases page p = elim (cases_eq p.ino ino) [
    | inl e ↦ inl (subst (λ (l : Log). Contains l.pages page) (log_here d ino log) (subst (λ (i : ℕ). Contains (new.inode i).log.pages page) e
        p.listed))
    | inr ne ↦ inr (
      record {
        ino = p.ino;
        in_table = below d ino log p.ino p.in_table;
        used = subst IsUsed (use_same d ino log p.ino) p.used;
        listed = subst (λ (n : Inode). Contains n.log.pages page) (at_other d ino log p.ino ne) p.listed;
      },
      ne,
    )
  ]

  pub was_log_page : (page : ℕ) → Contains (d.inode ino).log.pages page → IsLogPage d page
  was_log_page page listed = record { ino = ino; in_table = may.in_table; used = was_used; listed = listed }

  -- it was one, or it was unused
  pub log_page_before : (page : ℕ) → IsLogPage new page → IsLogPage d page ⊎ IsUnused d page
  log_page_before page p = ⊎_elim
      (λ (here : Contains log.pages page). ⊎_elim (λ (was : Contains (d.inode ino).log.pages page). inl (was_log_page page was))
      (λ (unused : IsUnused d page). inr unused) (may.pages page here))
      (λ (other : (q : IsLogPage d page) × (q.ino ≢ ino)). inl other.0) (log_page_cases page p)

  -- no page of the new log is another inode's
  other_not_here : (page : ℕ) → Contains log.pages page → (p : IsLogPage d page) → p.ino ≢ ino → ⊥
  other_not_here page here p ne = ⊎_elim
      (λ (was : Contains (d.inode ino).log.pages page). ne (valid.single.one_log p.ino ino page p.in_table may.in_table p.used was_used p.listed was))
      (λ (unused : IsUnused d page). unused.free.in_no_log p) (may.pages page here)

  log_unmapped : (page : ℕ) → IsLogPage new page → IsMapped new page → ⊥
  log_unmapped page p m = ⊎_elim
      (λ (was : IsLogPage d page). ⊎_elim
      (λ (mapped : IsMapped d page). valid.single.log_unmapped page was mapped)
      (λ (row : IsSome (row_of (rows d) page)). none_or_some (row_of (rows d) page) (valid.single.log_no_row page was) row) (mapped_read page m))
      (λ (unused : IsUnused d page). unused_unread d page unused (mapped_read page m)) (log_page_before page p)

  no_row : (page : ℕ) → IsLogPage new page → IsNone (row_of (rows new) page)
  no_row page p = subst (λ (rs : List Row). IsNone (row_of rs page)) (sym (same_rows d ino log))
      (⊎_elim (λ (was : IsLogPage d page). valid.single.log_no_row page was) (λ (unused : IsUnused d page). unused.no_row) (log_page_before page p))

  -- a page of another inode's log
  abbrev other_log_page : (page k : ℕ) → k < new.geometry.inodes → IsUsed (new.inode k).use_of → Contains (new.inode k).log.pages page → k ≢ ino
      → IsLogPage d page
  other_log_page page k lt used has ne = record {
    ino = k;
    in_table = below d ino log k lt;
    used = subst IsUsed (use_same d ino log k) used;
    listed = subst (λ (n : Inode). Contains n.log.pages page) (at_other d ino log k ne) has;
  }

  -- a page of two logs, by where the two are
  one_log : (i j page : ℕ) → i < new.geometry.inodes → j < new.geometry.inodes → IsUsed (new.inode i).use_of → IsUsed (new.inode j).use_of
      → Contains (new.inode i).log.pages page → Contains (new.inode j).log.pages page → i ≡ j
  one_log i j page il jl ui uj ci cj = elim (cases_eq i ino) [
    | inl ei ↦ elim (cases_eq j ino) [
      | inl ej ↦ ei ∙ sym ej
      | inr nj ↦ absurd (other_not_here page (here i ci ei) (other_log_page page j jl uj cj nj) nj)
    ]
    | inr ni ↦ elim (cases_eq j ino) [
      | inl ej ↦ absurd (other_not_here page (here j cj ej) (other_log_page page i il ui ci ni) ni)
      | inr nj ↦ let p = other_log_page page i il ui ci ni in let q = other_log_page page j jl uj cj nj in valid.single.one_log i j page p.in_table
          q.in_table p.used q.used p.listed q.listed
    ]
  ]
    where
      here : (k : ℕ) → Contains (new.inode k).log.pages page → k ≡ ino → Contains log.pages page
      here k has e = subst (λ (l : Log). Contains l.pages page) (log_here d ino log) (subst (λ (n : ℕ). Contains (new.inode n).log.pages page) e has)

  logs : (i : ℕ) → i < d.geometry.inodes → IsUsed (d.inode i).use_of → IsLog d.geometry i (new.inode i).log
  logs i lt used = elim (cases_eq i ino) [
    | inl e ↦ subst (λ (k : ℕ). IsLog d.geometry k (new.inode k).log) (sym e) (subst (IsLog d.geometry ino) (sym (log_here d ino log)) may.good)
    | inr ne ↦ subst (λ (n : Inode). IsLog d.geometry i n.log) (sym (at_other d ino log i ne)) (valid.logs i lt used)
  ]

  linked : (i : ℕ) (u : Use) → IsLinked d i u → IsLinked new i u
  linked i Live one = record {
    name = one.name;
    leads = may.names one.name ∙ one.leads;
    alone = λ other e. one.alone other (sym (may.names other) ∙ e);
  }
  linked i Free none = λ name e. none name (sym (may.names name) ∙ e)
  linked i (Dying c) none = λ name e. none name (sym (may.names name) ∙ e)

  at_old_geometry : (P : Geometry → Type 0) → P d.geometry → P new.geometry
  at_old_geometry P = subst P (sym (same_geometry d ino log))

  pub relogged_valid : IsValid new
  relogged_valid = record {
    accepted = at_old_geometry IsAccepted valid.accepted;
    root = use_same d ino log 0 ∙ valid.root;
    cuts = λ i lt. subst IsCut (sym (use_same d ino log i)) (valid.cuts i (below d ino log i lt));
    logs = λ i lt u. at_old_geometry (λ g. IsLog g i (new.inode i).log) (logs i (below d ino log i lt) (subst IsUsed (use_same d ino log i) u));
    links = λ i some lt. subst (IsLinked new i) (sym (use_same d ino log i))
        (linked i (d.inode i).use_of (valid.links i some (below d ino log i lt)));
    table = λ p k row lt is. at_old_geometry (λ g. IsRow g p k row)
        (valid.table p k row (subst (λ (g : Geometry). p < directs g) (same_geometry d ino log) lt)
        (subst (λ (rs : List Row). slice_get rs k ≡ Some row) ((relogs d ino log).chain p) is));
    rows_apart = subst AreApart (sym (same_rows d ino log)) valid.rows_apart;
    pointers = λ page lt. at_old_geometry (λ g. new.pointer page ≤ slots g)
        (subst (λ (n : ℕ). n ≤ slots d.geometry) (sym ((relogs d ino log).pointer page))
        (valid.pointers page (subst (λ (g : Geometry). page < g.pages) (same_geometry d ino log) lt)));
    leads = subst (All (λ row. new.pointer row.page ≡ row.slot + 1)) (sym (same_rows d ino log)) (λ k e lt. (relogs d ino log).pointer _ ∙ valid.leads
        k e lt);
    single = record {
      one_log = one_log;
      log_unmapped = log_unmapped;
      log_no_row = no_row;
      unshared = λ page none. may.few page (subst (λ (rs : List Row). IsNone (row_of rs page)) (same_rows d ino log) none);
    };
    near = may.near;
    roomy = may.roomy;
  }

  -- what the disk says
  head_same : (a v : ℕ) → HeadSays new a v → HeadSays d a v
  unfolding with_log
  head_same a v (at_magic place value) = at_magic place value
  head_same a v (at_version place value) = at_version place value
  head_same a v (at_pages place value) = at_pages place value
  head_same a v (at_inodes place value) = at_inodes place value
  head_same a v (at_gate place value) = at_gate place value

  inodes_same : (a v : ℕ) → InodesSay new a v → InodesSay d a v
  inodes_same a v (at_state i lt place value) = at_state i (below d ino log i lt) place (value ∙ ap state_number (use_same d ino log i))
  inodes_same a v (at_cut i c lt dying place value) = at_cut i c (below d ino log i lt) (sym (use_same d ino log i) ∙ dying) place value

  chains_same : (a v : ℕ) → ChainsSay new a v → ChainsSay d a v
  unfolding with_log
  chains_same a v told = record { prefix = told.prefix; direct = told.direct; says = told.says }

  pointers_same : (a v : ℕ) → PointersSay new a v → PointersSay d a v
  unfolding with_log
  pointers_same a v told = record { page = told.page; in_image = told.in_image; place = told.place; value = told.value }

  logs_said : (a v : ℕ) → LogsSay new a v → DiskSays d a v ⊎ LogSays ino log a v
  logs_said a v told = elim (cases_eq told.ino ino) [
    | inl e ↦ inr (subst (λ (l : Log). LogSays ino l a v) (log_here d ino log) (subst (λ (i : ℕ). LogSays i (new.inode i).log a v) e told.says))
    | inr ne ↦ inl (of_logs (record {
      ino = told.ino;
      in_table = below d ino log told.ino told.in_table;
      used = subst IsUsed (use_same d ino log told.ino) told.used;
      says = subst (λ (n : Inode). LogSays told.ino n.log a v) (at_other d ino log told.ino ne) told.says;
    }))
  ]

  -- the new log's words, and what was said before of other inodes' logs and of the rest
  pub relogged_says : (a v : ℕ) → DiskSays new a v → DiskSays d a v ⊎ LogSays ino log a v
  relogged_says a v (of_head told) = inl (of_head (head_same a v told))
  relogged_says a v (of_inodes told) = inl (of_inodes (inodes_same a v told))
  relogged_says a v (of_logs told) = logs_said a v told
  relogged_says a v (of_chains told) = inl (of_chains (chains_same a v told))
  relogged_says a v (of_pointers told) = inl (of_pointers (pointers_same a v told))
  relogged_says a v (of_pages told) = inl (of_pages (record {
    page = told.page;
    k = told.k;
    in_page = told.in_page;
    read = read_before told.page told.read;
    place = told.place;
    value = told.value ∙ same_word d ino log told.page told.k;
  }))
