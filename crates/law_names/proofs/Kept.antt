-- Mappings, counts and free pages after a change of names are what they were, but for the root's fresh pages.
use Rattle.std.proofs.Common.{◌≡◌, ◌≢◌, ◌⊎◌, inl, inr, ⊎_elim, ℕ, ◌+◌, ◌<◌, ◌≤◌, Bool, true, false, List, ◌++◌, refl, sym, ◌∙◌, ap, subst, arith}
use Rattle.std.specs.Prelude.{if◌then◌else◌, nat_lt, All, Contains, Option, Some, None, IsNone}
use Rattle.std.proofs.lemmas.Bool.Decides.{nat_tests}
use Rattle.std.proofs.lemmas.List.Elements.{All-append, All-contains, All-weaker, Contains-append_left, Contains-append_right, Contains-append_cases}
use Rattle.pm_layout.specs.declared.Geometry.{Geometry}
use Rattle.pm_layout.specs.Geometry.{InData}
use Rattle.log_entry.specs.Spelling.{pages_of}
use Rattle.log_entry.specs.declared.item.LogItem.TheVariants.{Write}
use Rattle.dn_model.specs.Log.{Log, no_log}
use Rattle.dn_model.specs.Maps.{Mapping, mapping, size_of}
use Rattle.dn_model.specs.Table.{Row, row_of}
use Rattle.dn_model.specs.Disk.{Disk, Inode, Use, Free, Live, Dying, IsUsed, IsMapped, maps, maps_by_use, rows}
use Rattle.dn_model.specs.Counts.{total, hit, mappings, IsLogPage, IsFree, IsNear, Near, Exact}
use Rattle.dn_model.specs.Valid.{MayStand, IsValid}
use Rattle.law_write.proofs.Counting.{total-same}
use Rattle.law_write.proofs.MappedPlaces.{mapping-below}
use Rattle.law_write.proofs.Unread.{IsSetBy, mapping_set_by}
use Rattle.law_names.specs.NameChange.{NameChange, Turn, Stays, Comes, Goes, MayTurn, turned, root_after, names_changed, MayChange}
use Rattle.law_names.proofs.Changed.{at_root, at_ino, at_other, same_geometry, same_rows, Where, is_root, is_here, elsewhere, where_is}

-- a log of names maps nothing
pub names_map_nothing : (g : Geometry) (log : Log) (idx : ℕ) → All (MayStand g 0) log.items → mapping log idx ≡ None
names_map_nothing g log idx standing = by_mapping (mapping log idx) refl
  where
    by_mapping : (m : Option Mapping) → mapping log idx ≡ m → mapping log idx ≡ None
    by_mapping None e = e
    by_mapping (Some x) e =
        let by : IsSetBy log.items idx x = mapping_set_by log idx x e in
        absurd (All-contains (MayStand g 0) log.items (Write by.first by.n by.block by.size by.flag by.mask) standing by.listed)

-- an empty log maps nothing
nothing_mapped : (idx : ℕ) → mapping no_log idx ≡ None
unfolding mapping
nothing_mapped idx = refl

-- the pages of a size hold all that a log maps
uncut_mapping : (log : Log) (idx : ℕ) → (if nat_lt idx (pages_of (size_of log)) then mapping log idx else None) ≡ mapping log idx
uncut_mapping log idx = by_mapping (mapping log idx) refl
  where
    below : (a b : ℕ) → a < b → nat_lt a b ≡ true
    below a b lt = grind (arith, nat_tests)

    nothing : (b : Bool) (m : Option Mapping) → m ≡ None → (if b then m else None) ≡ m
    nothing true m none = refl
    nothing false m none = sym none

    by_mapping : (m : Option Mapping) → mapping log idx ≡ m → (if nat_lt idx (pages_of (size_of log)) then mapping log idx else None) ≡ mapping log
        idx
    by_mapping None e = nothing (nat_lt idx (pages_of (size_of log))) (mapping log idx) e
    by_mapping (Some x) e = ap (λ (b : Bool). if b then mapping log idx else None) (below idx (pages_of (size_of log)) (mapping-below log idx x e))

turned_maps : (turn : Turn) (node : Inode) → MayTurn turn node.use_of → (idx : ℕ)
    → maps_by_use (turned turn node).use_of (turned turn node).log idx ≡ maps_by_use node.use_of node.log idx
turned_maps Stays node may idx = refl
turned_maps Comes node may idx = nothing_mapped idx ∙ ap (λ (u : Use). maps_by_use u node.log idx) (sym may)
turned_maps Goes node may idx = uncut_mapping node.log idx ∙ ap (λ (u : Use). maps_by_use u node.log idx) (sym may)

-- an inode that turns has the pages that it had, where it is used before and after
pub turned_pages : (turn : Turn) (node : Inode) → MayTurn turn node.use_of → (page : ℕ) → Contains (turned turn node).log.pages page
    → IsUsed (turned turn node).use_of → IsUsed node.use_of × Contains node.log.pages page
turned_pages Stays node may page listed used = (used, listed)
turned_pages Comes node may page listed used = absurd (omega (arith, listed.1))
turned_pages Goes node may page listed used = (subst IsUsed (sym may) tt, listed)

turned_kept : (turn : Turn) (node : Inode) → (page : ℕ) → MayTurn turn node.use_of → IsUsed node.use_of → Contains node.log.pages page
    → IsUsed (turned turn node).use_of × Contains (turned turn node).log.pages page
turned_kept Stays node page may used listed = (used, listed)
turned_kept Comes node page may used listed = absurd (subst IsUsed may used)
turned_kept Goes node page may used listed = (tt, listed)

module _ (d : Disk) (change : NameChange) (may : MayChange d change) where
  abbrev new : Disk
  new = names_changed d change

  abbrev valid : IsValid d
  valid = may.root.valid

  pub root_in_table : 0 < d.geometry.inodes
  root_in_table = omega (arith, valid.accepted.inodes)

  pub root_used : IsUsed (d.inode 0).use_of
  root_used = subst IsUsed (sym valid.root) tt

  pub use_of_root : (new.inode 0).use_of ≡ (d.inode 0).use_of
  use_of_root = ap (λ (n : Inode). n.use_of) (at_root d change)

  root_standing : All (MayStand d.geometry 0) (d.inode 0).log.items
  root_standing = (valid.logs 0 root_in_table root_used).standing

  pub root_standing_after : All (MayStand d.geometry 0) (root_after d change).items
  root_standing_after = All-append (MayStand d.geometry 0) (d.inode 0).log.items change.more root_standing may.standing

  nothing_by_use : (u : Use) (log : Log) (idx : ℕ) → All (MayStand d.geometry 0) log.items → maps_by_use u log idx ≡ None
  nothing_by_use Free log idx standing = refl
  nothing_by_use Live log idx standing = names_map_nothing d.geometry log idx standing
  nothing_by_use (Dying cut) log idx standing = by_test (nat_lt idx cut)
    where
      by_test : (b : Bool) → (if b then mapping log idx else None) ≡ None
      by_test true = names_map_nothing d.geometry log idx standing
      by_test false = refl

  -- the root maps nothing
  pub root_maps : (idx : ℕ) → maps d 0 idx ≡ None
  unfolding maps
  root_maps idx = nothing_by_use (d.inode 0).use_of (d.inode 0).log idx root_standing

  maps_at : (i idx : ℕ) → Where d change i → maps_by_use (new.inode i).use_of (new.inode i).log idx ≡ maps_by_use (d.inode i).use_of (d.inode i).log
      idx
  maps_at i idx (is_root e) = subst (λ (j : ℕ). maps_by_use (new.inode j).use_of (new.inode j).log idx ≡ maps_by_use (d.inode j).use_of
      (d.inode j).log idx) (sym e)
      (ap (λ (n : Inode). maps_by_use n.use_of n.log idx) (at_root d change)
      ∙ nothing_by_use (d.inode 0).use_of (root_after d change) idx root_standing_after ∙ sym (nothing_by_use (d.inode 0).use_of (d.inode 0).log idx
      root_standing))
  maps_at i idx (is_here e) = subst (λ (j : ℕ). maps_by_use (new.inode j).use_of (new.inode j).log idx ≡ maps_by_use (d.inode j).use_of
      (d.inode j).log idx) (sym e)
      (ap (λ (n : Inode). maps_by_use n.use_of n.log idx) (at_ino d change may.file) ∙ turned_maps change.turn (d.inode change.ino) may.may_turn idx)
  maps_at i idx (elsewhere some ne) = ap (λ (n : Inode). maps_by_use n.use_of n.log idx) (at_other d change i some ne)

  pub maps_same : (i idx : ℕ) → maps new i idx ≡ maps d i idx
  unfolding maps
  maps_same i idx = maps_at i idx (where_is d change i)

  pub mappings_same : (page : ℕ) → mappings new page ≡ mappings d page
  unfolding mappings
  mappings_same page =
      ap (λ (g : Geometry). total g.inodes (λ i. total 4096 (λ idx. hit page (maps new i idx)))) (same_geometry d change)
      ∙ total-same (λ i. total 4096 (λ idx. hit page (maps d i idx))) (λ i. total 4096 (λ idx. hit page (maps new i idx))) d.geometry.inodes
      (λ i lt. total-same (λ idx. hit page (maps d i idx)) (λ idx. hit page (maps new i idx)) 4096 (λ idx small. ap (hit page) (maps_same i idx)))

  pub below : (i : ℕ) → i < new.geometry.inodes → i < d.geometry.inodes
  below i lt = omega (arith, lt, ap (λ (g : Geometry). g.inodes) (same_geometry d change))

  pub above : (i : ℕ) → i < d.geometry.inodes → i < new.geometry.inodes
  above i lt = omega (arith, lt, ap (λ (g : Geometry). g.inodes) (same_geometry d change))

  pub mapped_kept : (page : ℕ) → IsMapped d page → IsMapped new page
  mapped_kept page m =
      let to = m.maps_to in
      record {
        ino = m.ino;
        idx = m.idx;
        maps_to = record {
          in_table = above m.ino to.in_table;
          in_file = to.in_file;
          by = to.by;
          is = maps_same m.ino
              m.idx ∙ to.is;
          block = to.block;
        };
      }

  pub mapped_only : (page : ℕ) → IsMapped new page → IsMapped d page
  mapped_only page m =
      let to = m.maps_to in
      record {
        ino = m.ino;
        idx = m.idx;
        maps_to = record {
          in_table = below m.ino to.in_table;
          in_file = to.in_file;
          by = to.by;
          is = sym (maps_same m.ino m.idx) ∙ to.is;
          block = to.block;
        };
      }

  -- a log page was one before, or the root's log took it
  log_page_at : (page : ℕ) (p : IsLogPage new page) → Where d change p.ino → IsLogPage d page ⊎ Contains change.fresh page
  log_page_at page p (is_root e) =
      let there : Contains ((d.inode 0).log.pages ++ change.fresh) page =
      subst (λ (n : Inode). Contains n.log.pages page) (at_root d change) (subst (λ (i : ℕ). Contains (new.inode i).log.pages page) e p.listed) in
      ⊎_elim (λ was. inl (record { ino = 0; in_table = root_in_table; used = root_used; listed = was })) (λ fresh. inr fresh)
      (Contains-append_cases (d.inode 0).log.pages change.fresh page there)
  log_page_at page p (is_here e) =
      let there : Inode = turned change.turn (d.inode change.ino) in
      let node : new.inode p.ino ≡ turned change.turn (d.inode change.ino) = ap new.inode e ∙ at_ino d change may.file in
      let both = turned_pages change.turn (d.inode change.ino) may.may_turn page (subst (λ (n : Inode). Contains n.log.pages page) node p.listed)
      (subst (λ (n : Inode). IsUsed n.use_of) node p.used) in
      inl (record { ino = change.ino; in_table = may.in_table; used = both.0; listed = both.1 })
  log_page_at page p (elsewhere some ne) = inl (record {
    ino = p.ino;
    in_table = below p.ino p.in_table;
    used = subst (λ (n : Inode). IsUsed n.use_of) (at_other d change p.ino some ne) p.used;
    listed = subst (λ (n : Inode). Contains n.log.pages page) (at_other d change p.ino some ne) p.listed;
  })

  pub log_page_cases : (page : ℕ) → IsLogPage new page → IsLogPage d page ⊎ Contains change.fresh page
  log_page_cases page p = log_page_at page p (where_is d change p.ino)

  pub fresh_log_page : (page : ℕ) → Contains change.fresh page → IsLogPage new page
  fresh_log_page page fresh = record {
    ino = 0;
    in_table = above 0 root_in_table;
    used = subst IsUsed (sym use_of_root) root_used;
    listed = subst (λ (n : Inode). Contains n.log.pages page) (sym (at_root d change)) (Contains-append_right (d.inode 0).log.pages change.fresh page
        fresh);
  }

  log_page_kept_at : (page : ℕ) (p : IsLogPage d page) → Where d change p.ino → IsLogPage new page
  log_page_kept_at page p (is_root e) = record {
    ino = 0;
    in_table = above 0 root_in_table;
    used = subst IsUsed (sym use_of_root) root_used;
    listed = subst (λ (n : Inode). Contains n.log.pages page) (sym (at_root d change))
        (Contains-append_left (d.inode 0).log.pages change.fresh page (subst (λ (i : ℕ). Contains (d.inode i).log.pages page) e p.listed));
  }
  log_page_kept_at page p (is_here e) =
      let node : d.inode p.ino ≡ d.inode change.ino = ap d.inode e in
      let both = turned_kept change.turn (d.inode change.ino) page may.may_turn (subst (λ (n : Inode). IsUsed n.use_of) node p.used)
      (subst (λ (n : Inode). Contains n.log.pages page) node p.listed) in
      record {
        ino = change.ino;
        in_table = above change.ino may.in_table;
        used = subst (λ (n : Inode). IsUsed n.use_of) (sym (at_ino d change may.file)) both.0;
        listed = subst (λ (n : Inode). Contains n.log.pages page) (sym (at_ino d change may.file)) both.1;
      }
  log_page_kept_at page p (elsewhere some ne) = record {
    ino = p.ino;
    in_table = above p.ino p.in_table;
    used = subst (λ (n : Inode). IsUsed n.use_of) (sym (at_other d change p.ino some ne)) p.used;
    listed = subst (λ (n : Inode). Contains n.log.pages page) (sym (at_other d change p.ino some ne)) p.listed;
  }

  pub log_page_kept : (page : ℕ) → IsLogPage d page → IsLogPage new page
  log_page_kept page p = log_page_kept_at page p (where_is d change p.ino)

  pub free_kept : (page : ℕ) → IsFree d page → (Contains change.fresh page → ⊥) → IsFree new page
  free_kept page free not_fresh = record {
    data_page = subst (λ (g : Geometry). InData g page) (sym (same_geometry d change)) free.data_page;
    in_no_log = λ p. ⊎_elim (λ (was : IsLogPage d page). free.in_no_log was) not_fresh (log_page_cases page p);
    unmapped = mappings_same page ∙ free.unmapped;
  }

  pub free_only : (page : ℕ) → IsFree new page → IsFree d page
  free_only page free = record {
    data_page = subst (λ (g : Geometry). InData g page) (same_geometry d change) free.data_page;
    in_no_log = λ p. free.in_no_log (log_page_kept page p);
    unmapped = sym (mappings_same page) ∙ free.unmapped;
  }

  pub fresh_taken : (page : ℕ) → Contains change.fresh page → IsFree new page → ⊥
  fresh_taken page fresh free = free.in_no_log (fresh_log_page page fresh)

  near_row : (row : Row) → IsNear d row → IsNear new row
  near_row row near = subst (λ (n : ℕ). (n ≤ row.rfc + row.uc) × (row.rfc ≤ n + row.uc)) (sym (mappings_same row.page)) near

  pub near_kept : Near d → Near new
  near_kept near = subst (All (IsNear new)) (sym (same_rows d change)) (All-weaker (IsNear d) (IsNear new) near_row (rows d) near)

  abbrev IsExact : Disk → Row → Type 0
  IsExact e row = (row.uc ≡ 0) × (row.rfc ≡ mappings e row.page) × (row.rfc ≢ 0)

  exact_row : (row : Row) → IsExact d row → IsExact new row
  exact_row row is = (is.0, is.1 ∙ sym (mappings_same row.page), is.2)

  pub unshared_kept : ((page : ℕ) → IsNone (row_of (rows d) page) → mappings d page ≤ 1) → (page : ℕ) → IsNone (row_of (rows new) page)
      → mappings new page ≤ 1
  unshared_kept few page none = subst (λ (n : ℕ). n ≤ 1) (sym (mappings_same page))
      (few page (subst (λ (rs : List Row). IsNone (row_of rs page)) (same_rows d change) none))

  pub exact_kept : Exact d → Exact new
  exact_kept exact = record {
    counts = subst (All (IsExact new)) (sym (same_rows d change)) (All-weaker (IsExact d) (IsExact new) exact_row (rows d) exact.counts);
    unshared = unshared_kept exact.unshared;
  }
