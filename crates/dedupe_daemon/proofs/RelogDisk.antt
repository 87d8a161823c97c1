-- One word of an item of a live file's log changes its flag or its mask: what is so of the disk afterwards.
use Rattle.std.proofs.Common.{◌≡◌, ◌≢◌, ◌⊎◌, inl, inr, ⊎_elim, ℕ, ◌*◌, ◌<◌, ◌≤◌, List, [], ◌∷◌, length, refl, sym, ◌∙◌, ap, subst, arith}
use Rattle.std.specs.Prelude.{Option, None, Some, Contains, IsNone}
use Rattle.std.specs.Option.{option_map}
use Rattle.std.proofs.lemmas.Bool.{cases_eq}
use Rattle.pm_device.specs.State.{State, Agree}
use Rattle.pm_device.specs.Settled.{IsSettled, LeavesOnly, StoresOnly, KeepsFlushed, Others}
use Rattle.pm_device.specs.Commit.{IsDone, LeavesOneWord}
use Rattle.pm_device.specs.Pages.{IsInPage}
use Rattle.pm_device.proofs.Only.{stores_only-weaken}
use Rattle.pm_layout.specs.declared.Geometry.{Geometry}
use Rattle.file_content.specs.Content.{kept}
use Rattle.dn_model.specs.Log.{Log}
use Rattle.dn_model.specs.Maps.{Mapping}
use Rattle.dn_model.specs.Table.{Row, row_of}
use Rattle.dn_model.specs.Disk.{Disk, Use, Live, IsUsed, maps, rows}
use Rattle.dn_model.specs.Counts.{total}
use Rattle.dn_model.specs.Files.{files}
use Rattle.dn_model.specs.Own.{Print, IsOwn, IsAlone, LivePlace, page_bytes}
use Rattle.law_write.specs.WithLog.{with_log}
use Rattle.law_write.proofs.Counting.{total-same}
use Rattle.law_table.proofs.Rows.{listed_here, listed_cases}
use Rattle.law_table.proofs.Words.{nothing_ready}
use Rattle.law_table_on_disk.specs.OneWord.{IsOneWord}
use Rattle.law_table_on_disk.proofs.OneWord.{one_word_stands, one_word_any_order, one_word_may_commit}
use Rattle.law_log_swap.specs.Relogged.{relogged}
use Rattle.law_log_swap.proofs.Relogged.{log_here, at_other, use_same, same_word, maps_others}
use Rattle.law_flags.specs.FlagLaws.{KeepsPages}
use Rattle.dn_volume.specs.declared.volume.InodeState.{InodeState}
use Rattle.dn_volume.specs.Inodes.{IsInodeOf, AreInodesOf}
use Rattle.dn_volume.specs.Reclaims.{units_by_use, mapped_places, dying_units}
use Rattle.dn_volume.specs.Planned.{slot_of_row}
use Rattle.dn_volume.specs.Accounts.{AccountsFor, WasAloneOn, HadRow, HasPage}
use Rattle.dn_volume.specs.Agrees.{StandsFast}
use Rattle.dn_volume.specs.Rely.{KeepsRest, IsWordOf, of_log, LeavesRest}
use Rattle.dn_volume.proofs.Between.{old_or_new}
use Rattle.reclaim.proofs.UnitsLost.{places_same}
use Rattle.dedupe_daemon.proofs.DaemonEvent.{KeepsDisk, DaemonShown}

-- the change of the log, by one word
pub record IsRetagged (d : Disk) (ino : ℕ) (log : Log) (at value : ℕ) (r : Mapping → Mapping) : Type 0 where
  pub in_table : ino < d.geometry.inodes
  pub live : (d.inode ino).use_of ≡ Live
  pub one : IsOneWord d (relogged d ino log) 0 [] at value
  pub pages : KeepsPages d (relogged d ino log) ino
  pub same_pages : log.pages ≡ (d.inode ino).log.pages
  pub now_maps : (idx : ℕ) → maps (relogged d ino log) ino idx ≡ option_map r (maps d ino idx)
  pub same_kept : (m : Mapping) → kept (r m) ≡ kept m
  pub page : ℕ
  pub log_page : Contains (d.inode ino).log.pages page
  pub in_page : IsInPage page at
  pub high : 4 ≤ at

pub some_of : {X Y : Type 0} (f : X → Y) (o : Option X) (y : Y) → option_map f o ≡ Some y → (x : X) × (o ≡ Some x) × (y ≡ f x)
some_of f None y e = cc
some_of f (Some x) y e = let same : f x ≡ y = cc in (x, refl, sym same)

module _ (d : Disk) (ino : ℕ) (log : Log) where
  pub bytes_still : (page : ℕ) → page_bytes (relogged d ino log) page ≡ page_bytes d page
  unfolding page_bytes with_log
  bytes_still page = refl

  pointer_still : (page : ℕ) → (relogged d ino log).pointer page ≡ d.pointer page
  unfolding with_log
  pointer_still page = refl

module _ (d : Disk) (ino : ℕ) (log : Log) (at value : ℕ) (r : Mapping → Mapping) (is : IsRetagged d ino log at value r) where
  abbrev e : Disk
  e = relogged d ino log

  live_units : (x : Disk) (i : ℕ) → (x.inode i).use_of ≡ Live → dying_units x i ≡ 0
  live_units x i live = ap (λ (u : Use). units_by_use u (mapped_places x i)) live

  units_each : (i : ℕ) → dying_units e i ≡ dying_units d i
  units_each i = elim (cases_eq i ino) [
    | inl here ↦
        let now : (e.inode i).use_of ≡ Live = use_same d ino log i ∙ ap (λ (j : ℕ). (d.inode j).use_of) here ∙ is.live in
        let was : (d.inode i).use_of ≡ Live = ap (λ (j : ℕ). (d.inode j).use_of) here ∙ is.live in
        live_units e i now ∙ sym (live_units d i was)
    | inr ne ↦ ap (λ (u : Use). units_by_use u (mapped_places e i)) (use_same d ino log i) ∙ ap (units_by_use (d.inode i).use_of)
        (places_same d e i (λ idx. maps_others d ino log i idx ne))
  ]

  pub disk_kept : KeepsDisk d e
  disk_kept = record {
    geometry = is.one.geometry;
    names = is.pages.places.names;
    rows_same = is.pages.places.rows_same;
    mappings_same = is.pages.places.mappings_same;
    free_kept = is.pages.free.kept;
    free_only = is.pages.free.only;
    pointer = pointer_still d ino log;
    units = ap (λ (n : ℕ). total n (dying_units e)) (ap (λ (g : Geometry). g.inodes) is.one.geometry) ∙ total-same (dying_units d) (dying_units e)
        d.geometry.inodes (λ i lt. units_each i);
    files_same = is.pages.places.files_same;
  }

  not_in : (i : ℕ) → (Contains (ino ∷ []) i → ⊥) → i ≢ ino
  not_in i out same = out (subst (Contains (ino ∷ [])) (sym same) (listed_here ino []))

  pub only_it : (i : ℕ) → Contains (ino ∷ []) i → i ≡ ino
  only_it i has = ⊎_elim (λ (same : ino ≡ i). sym same) (λ later. absurd (omega (arith, later.1))) (listed_cases ino [] i has)

  pub it_lives : (i : ℕ) → Contains (ino ∷ []) i → (d.inode i).use_of ≡ Live
  it_lives i has = ap (λ (j : ℕ). (d.inode j).use_of) (only_it i has) ∙ is.live

  keeps_rest : KeepsRest (ino ∷ []) [] d e
  keeps_rest = record {
    geometry = is.one.geometry;
    inode = λ i out. at_other d ino log i (not_in i out);
    named_so = λ i name some out. ((λ leads. sym (is.pages.places.names name) ∙ leads), (λ leads. is.pages.places.names name ∙ leads));
    word = λ page k read. same_word d ino log page k;
    unused = λ page out unused. record {
      free = is.pages.free.kept page unused.free;
      no_row = subst (λ (rs : List Row). IsNone (row_of rs page)) (sym is.pages.places.rows_same) unused.no_row;
    };
    slots = λ i idx m lt out mapped. ap (λ (rs : List Row). slot_of_row (row_of rs m.block)) is.pages.places.rows_same;
    counting = λ row has some. record {
      still = row;
      there = subst (λ (rs : List Row). Contains rs row) (sym is.pages.places.rows_same) has;
      slot = refl;
      page = refl;
      print = refl;
    };
  }

  -- a place of a live file, before and after
  pub place_was : (i idx : ℕ) (m : Mapping) → LivePlace e i idx m → (n : Mapping) × LivePlace d i idx n × (((i ≡ ino) × (m ≡ r n)) ⊎ ((i ≢ ino) × (m ≡
      n)))
  place_was i idx m place = elim (cases_eq i ino) [
    | inl here ↦
        let now : maps e ino idx ≡ Some m = ap (λ (j : ℕ). maps e j idx) (sym here) ∙ place.maps in
        let was = some_of r (maps d ino idx) m (sym (is.now_maps idx) ∙ now) in
        (was.0, lives was.0 (ap (λ (j : ℕ). maps d j idx) here ∙ was.1), inl (here, was.2))
    | inr ne ↦ (m, lives m (sym (maps_others d ino log i idx ne) ∙ place.maps), inr (ne, refl))
  ]
    where
      lives : (n : Mapping) → maps d i idx ≡ Some n → LivePlace d i idx n
      lives n mapped = record {
        in_table = subst (λ (g : Geometry). i < g.inodes) is.one.geometry place.in_table;
        live = sym (use_same d ino log i) ∙ place.live;
        maps = mapped;
      }

  pub alone_kept : ((i idx : ℕ) (m : Mapping) → LivePlace e i idx m → IsAlone m → WasAloneOn d e i idx m) → (print : Print) → AccountsFor print d e
  alone_kept kept_so print = record { alone = λ i idx m place alone. inl (kept_so i idx m place alone); row_pages = pages_kept }
    where
      pages_kept : (row : Row) → Contains (rows e) row → HadRow d e row ⊎ HasPage (files d) (page_bytes e row.page)
      pages_kept row has = inl (record {
        was = row;
        there = subst (λ (rs : List Row). Contains rs row) is.pages.places.rows_same has;
        page_is = refl;
        bytes_are = bytes_still d ino log row.page;
      })

  -- it is kept in memory as it was
  kept_each : (i idx : ℕ) → option_map kept (maps e i idx) ≡ option_map kept (maps d i idx)
  kept_each i idx = elim (cases_eq i ino) [
    | inl here ↦
        subst (λ (j : ℕ). option_map kept (maps e j idx) ≡ option_map kept (maps d j idx)) (sym here)
        (ap (option_map kept) (is.now_maps idx) ∙ both (maps d ino idx))
    | inr ne ↦ ap (option_map kept) (maps_others d ino log i idx ne)
  ]
    where
      both : (o : Option Mapping) → option_map kept (option_map r o) ≡ option_map kept o
      both None = refl
      both (Some m) = ap Some (is.same_kept m)

  log_long : (i : ℕ) → length (e.inode i).log.pages ≡ length (d.inode i).log.pages
  log_long i = elim (cases_eq i ino) [
    | inl here ↦ subst (λ (j : ℕ). length (e.inode j).log.pages ≡ length (d.inode j).log.pages) (sym here)
        (ap (λ (l : Log). length l.pages) (log_here d ino log) ∙ ap (λ (ps : List ℕ). length ps) is.same_pages)
    | inr ne ↦ ap (λ (n : _). length n.log.pages) (at_other d ino log i ne)
  ]

  pub inode_kept : (i : ℕ) (n : InodeState) → IsInodeOf d i n → IsInodeOf e i n
  inode_kept i n was = record {
    use_is = use_same d ino log i ∙ was.use_is;
    size_is = λ used. is.pages.places.sizes i ∙ was.size_is (subst IsUsed (use_same d ino log i) used);
    small = was.small;
    log_pages = λ used. log_long i ∙ was.log_pages (subst IsUsed (use_same d ino log i) used);
    places = λ idx. was.places idx ∙ sym (kept_each i idx);
  }

  pub inodes_kept : (inodes : List InodeState) → AreInodesOf d inodes → AreInodesOf e inodes
  inodes_kept inodes are = record {
    all = are.all ∙ sym (ap (λ (g : Geometry). g.inodes) is.one.geometry);
    each = λ i n at. inode_kept i n (are.each i n at);
  }

  word_of : (a : ℕ) → a ≡ at → IsWordOf (ino ∷ []) [] d a
  word_of a same = of_log ino is.page (listed_here ino []) is.in_table (subst IsUsed (sym is.live) tt) is.log_page
      (subst (IsInPage is.page) (sym same) is.in_page)

  module _ (s u : State) (g : Geometry) (fast : StandsFast d g s) (only : StoresOnly (λ a. a ≡ at) s u) where
    long : length u.now ≡ 512 * d.geometry.pages
    long = only.words ∙ fast.long

    pub word_settled : IsSettled s at
    word_settled = (one_word_may_commit d e 0 [] at value is.one s fast.long fast.stands).settled

    pub tag_shown : (print : Print) → (IsOwn print d → IsOwn print e) → (IsOwn print d → AccountsFor print d e) → Agree u.now u.past
        → s.faults ≤ u.faults → (IsSettled s at → LeavesOnly s u (LeavesOneWord at value s)) → DaemonShown print d e s u
    tag_shown print own accounts agree faults any_moment = record {
      images = old_or_new print d e s u own (one_word_any_order d e 0 at value is.one s u agree long fast.stands (any_moment word_settled));
      own = own;
      accounts = accounts;
      faults = faults;
    }

    pub tag_leaves : KeepsFlushed (Others 15) (λ a. a ≡ at) s u → LeavesRest 15 (ino ∷ []) [] d e s u
    tag_leaves others = record {
      rest = keeps_rest;
      only = stores_only-weaken _ _ s u word_of only;
      others = λ q a ne out inside flushed. others.flushed q a ne (λ same. out (word_of a same)) inside flushed;
    }

    pub tag_fast : IsDone 15 at value s u → StandsFast e g u
    tag_fast done = record {
      geometry = is.one.geometry ∙ fast.geometry;
      long = long ∙ ap (λ (k : Geometry). 512 * k.pages) (sym is.one.geometry);
      valid = is.one.new_valid;
      stands = one_word_stands d e 0 [] at value is.one 15 s u fast.long fast.stands (nothing_ready 15 0 s) done only;
    }
