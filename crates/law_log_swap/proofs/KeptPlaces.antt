-- A log that keeps its places: mappings, files and counts stay, and pages move with the log alone.
use Rattle.std.proofs.Common.{◌≡◌, ◌≢◌, ◌⊎◌, inl, inr, ⊎_elim, ℕ, ◌+◌, ◌*◌, ◌/◌, ◌%◌, ◌^◌, ◌<◌, ◌≤◌, List, [], ◌∷◌, refl, sym, ◌∙◌, ap, subst, arith}
use Rattle.std.specs.Prelude.{slice_index, Contains, Option, Some, None, IsSome, IsNone, All, option_map}
use Rattle.std.proofs.lemmas.Bool.{cases_eq}
use Rattle.std.proofs.lemmas.Grind.{same_number_lists}
use Rattle.std.proofs.lemmas.List.{get_or_default}
use Rattle.std.proofs.lemmas.List.Elements.{All-contains, All-weaker}
use Rattle.pm_layout.specs.declared.Geometry.{Geometry}
use Rattle.pm_layout.specs.Geometry.{InData}
use Rattle.log_entry.specs.declared.item.Flag.TheVariants.{Complete}
use Rattle.dn_model.specs.Log.{Log}
use Rattle.dn_model.specs.Maps.{Mapping, mapping, size_of}
use Rattle.dn_model.specs.Table.{Row, row_of}
use Rattle.dn_model.specs.Disk.{Disk, Inode, IsUsed, IsMapped, maps, rows}
use Rattle.dn_model.specs.Counts.{mappings, IsLogPage, IsFree, Near, Exact}
use Rattle.dn_model.specs.Files.{bytes, byte_of, mapped_byte, named, named_after, files, IsSameFiles}
use Rattle.dn_model.specs.Own.{Print, page_bytes, LivePlace, IsAlone, HasRow, IsOwn, Settled}
use Rattle.dn_model.specs.Valid.{IsValid}
use Rattle.law_write.specs.WithLog.{with_log}
use Rattle.law_write.specs.Events.{IsReadPage}
use Rattle.law_write.proofs.MappedPlaces.{maps-in_file}
use Rattle.law_write.proofs.WriteBytes.{length-bytes, byte_at}
use Rattle.law_table_on_disk.proofs.Mappings.{blocks_tell, counted_mapped, near_stays}
use Rattle.law_table.proofs.Rows.{all_listed, listed_here, listed_later, listed_cases}
use Rattle.law_log_swap.specs.Relogged.{relogged, block_of, IsSpared, was_free, was_log, MayRelog, KeepsData, MovesLog, TellsDone, KeepsDone}
use Rattle.law_log_swap.proofs.Relogged.{
  IsRelog,
  at_other,
  log_here,
  use_same,
  same_geometry,
  same_word,
  same_rows,
  below,
  above,
  maps_here,
  maps_before,
  maps_others,
}

-- a mapping on the same page
same_block : (m : Mapping) (o : Option Mapping) → block_of (Some m) ≡ block_of o → (n : Mapping) × (o ≡ Some n) × (n.block ≡ m.block)
same_block m None e = cc
same_block m (Some n) e = (n, refl, cc)

-- a page is in a list, or it isn't
listed_or_not : (xs : List ℕ) (x : ℕ) → Contains xs x ⊎ (Contains xs x → ⊥)
listed_or_not [] x = inr (λ has. omega (arith, has.1))
listed_or_not (y ∷ xs) x = elim (cases_eq y x) [
  | inl e ↦ inl (subst (Contains (y ∷ xs)) e (listed_here y xs))
  | inr ne ↦ ⊎_elim (λ (has : Contains xs x). inl (listed_later y xs x has))
      (λ not. inr (λ has. ⊎_elim (λ (e : y ≡ x). ne e) not (listed_cases y xs x has))) (listed_or_not xs x)
]

module _ (d : Disk) (ino : ℕ) (log : Log) (may : MayRelog d ino log) where
  abbrev new : Disk
  new = relogged d ino log

  abbrev valid : IsValid d
  valid = may.valid

  pub blocks : (i idx : ℕ) → block_of (maps new i idx) ≡ block_of (maps d i idx)
  blocks i idx = elim (cases_eq i ino) [
    | inl e ↦ subst (λ (j : ℕ). block_of (maps new j idx) ≡ block_of (maps d j idx)) (sym e)
        (ap block_of (maps_here d ino log may.live idx) ∙ may.keeps.blocks idx ∙ ap block_of (sym (maps_before d ino log may.live idx)))
    | inr ne ↦ ap block_of (maps_others d ino log i idx ne)
  ]

  pub mappings_same : (page : ℕ) → mappings new page ≡ mappings d page
  mappings_same = blocks_tell d new (ap (λ (g : Geometry). g.inodes) (same_geometry d ino log)) (λ i idx lt. blocks i idx)

  pub mapped_only : (page : ℕ) → IsMapped new page → IsMapped d page
  mapped_only page m =
      let to = m.maps_to in
      let was = same_block to.by (maps d m.ino m.idx) (ap block_of (sym to.is) ∙ blocks m.ino m.idx) in
      record {
        ino = m.ino;
        idx = m.idx;
        maps_to = record {
          in_table = below d ino log m.ino to.in_table;
          in_file = to.in_file;
          by = was.0;
          is = was.1;
          block = was.2 ∙ to.block;
        };
      }

  pub mapped_kept : (page : ℕ) → IsMapped d page → IsMapped new page
  mapped_kept page m =
      let to = m.maps_to in
      let now = same_block to.by (maps new m.ino m.idx) (ap block_of (sym to.is) ∙ sym (blocks m.ino m.idx)) in
      record {
        ino = m.ino;
        idx = m.idx;
        maps_to = record {
          in_table = above d ino log m.ino to.in_table;
          in_file = to.in_file;
          by = now.0;
          is = now.1;
          block = now.2 ∙ to.block;
        };
      }

  reads : (idx : ℕ) (m : Mapping) → mapping log idx ≡ Some m → IsReadPage d m.block
  reads idx m is =
      let was = same_block m (maps d ino idx) (ap block_of (sym (maps_here d ino log may.live idx ∙ is)) ∙ blocks ino idx) in
      inl (record {
        ino = ino;
        idx = idx;
        maps_to = record {
          in_table = may.in_table;
          in_file = maps-in_file d valid ino idx was.0 may.in_table was.1;
          by = was.0;
          is = was.1;
          block = was.2;
        };
      })

  pub names : (name : List ℕ) → named new name ≡ named d name
  unfolding named
  names name = elim (cases_eq 0 ino) [
    | inl e ↦ ap (λ (i : ℕ). named_after name None (new.inode i).log.items) e ∙ ap (λ (l : Log). named_after name None l.items) (log_here d ino log)
        ∙ may.keeps.names (sym e) name ∙ ap (λ (i : ℕ). named_after name None (d.inode i).log.items) (sym e)
    | inr ne ↦ ap (λ (n : Inode). named_after name None n.log.items) (at_other d ino log 0 ne)
  ]

  pub near_kept : Near d → Near new
  near_kept near = near_stays d new (same_rows d ino log) near (λ row has. inl (mappings_same row.page))

  pub few_kept : ((page : ℕ) → IsNone (row_of (rows d) page) → mappings d page ≤ 1) → (page : ℕ) → IsNone (row_of (rows d) page)
      → mappings new page ≤ 1
  few_kept few page none = omega (arith, mappings_same page, few page none)

  was_used : IsUsed (d.inode ino).use_of
  was_used = subst IsUsed (sym may.live) tt

  listed_in_data : (page : ℕ) → Contains (d.inode ino).log.pages page → InData d.geometry page
  listed_in_data page has =
      let paged = (valid.logs ino may.in_table was_used).paged in
      subst (InData d.geometry) has.2 (subst (InData d.geometry) (get_or_default (d.inode ino).log.pages has.0 0 page has.1)
      (paged.in_data has.0 has.1))

  abbrev old_log_page : (page : ℕ) → Contains (d.inode ino).log.pages page → IsLogPage d page
  old_log_page page listed = record { ino = ino; in_table = may.in_table; used = was_used; listed = listed }

  to_new : (page : ℕ) → InData d.geometry page → InData new.geometry page
  to_new page = subst (λ (g : Geometry). InData g page) (sym (same_geometry d ino log))

  -- a log page of the new disk, as IsRelog's lemma says it without its premises
  log_page_at : (page : ℕ) (p : IsLogPage new page) → (p.ino ≡ ino) ⊎ (p.ino ≢ ino)
      → Contains log.pages page ⊎ ((q : IsLogPage d page) × (q.ino ≢ ino))
  log_page_at page p (inl e) = inl (subst (λ (l : Log). Contains l.pages page) (log_here d ino log)
      (subst (λ (i : ℕ). Contains (new.inode i).log.pages page) e p.listed))
  log_page_at page p (inr ne) = inr (
    record {
      ino = p.ino;
      in_table = below d ino log p.ino p.in_table;
      used = subst IsUsed (use_same d ino log p.ino) p.used;
      listed = subst (λ (n : Inode). Contains n.log.pages page) (at_other d ino log p.ino ne) p.listed;
    },
    ne,
  )

  log_page_of : (page : ℕ) → IsLogPage new page → Contains log.pages page ⊎ ((q : IsLogPage d page) × (q.ino ≢ ino))
  log_page_of page p = log_page_at page p (cases_eq p.ino ino)

  free_kept : (page : ℕ) → IsFree d page → (Contains log.pages page → ⊥) → IsFree new page
  free_kept page free not = record {
    data_page = to_new page free.data_page;
    in_no_log = λ p. ⊎_elim not (λ (other : (q : IsLogPage d page) × (q.ino ≢ ino)). free.in_no_log other.0) (log_page_of page p);
    unmapped = mappings_same page ∙ free.unmapped;
  }

  unmapped_log : (page : ℕ) → IsLogPage d page → mappings d page ≡ 0
  unmapped_log page p = elim (cases_eq (mappings d page) 0) [
    | inl none ↦ none
    | inr some ↦ absurd (valid.single.log_unmapped page p (counted_mapped d page (omega (arith, some))))
  ]

  freed : (page : ℕ) → Contains (d.inode ino).log.pages page → (Contains log.pages page → ⊥) → IsFree new page
  freed page listed not = record {
    data_page = to_new page (listed_in_data page listed);
    in_no_log = λ p. ⊎_elim not
        (λ (other : (q : IsLogPage d page) × (q.ino ≢ ino)). other.1 (valid.single.one_log other.0.ino ino page other.0.in_table may.in_table
        other.0.used was_used other.0.listed listed)) (log_page_of page p);
    unmapped = mappings_same page ∙ unmapped_log page (old_log_page page listed);
  }

  spared : (page : ℕ) → IsSpared d ino log page → IsFree new page
  spared page (was_free free not) = free_kept page free not
  spared page (was_log listed not) = freed page listed not

  pub is_relog : IsRelog d ino log
  is_relog = record {
    valid = may.valid;
    in_table = may.in_table;
    live = may.live;
    good = may.good;
    pages = may.pages;
    reads = reads;
    names = names;
    few = few_kept valid.single.unshared;
    near = near_kept valid.near;
    roomy = let two = may.left in (two.0, two.1, two.2, spared two.0 two.3, spared two.1 two.4);
  }

  taken : (page : ℕ) → Contains log.pages page → IsFree new page → ⊥
  taken page listed free = free.in_no_log (record {
    ino = ino;
    in_table = above d ino log ino may.in_table;
    used = subst IsUsed (sym (use_same d ino log ino)) was_used;
    listed = subst (λ (l : Log). Contains l.pages page) (sym (log_here d ino log)) listed;
  })

  -- another inode's log page stays
  other_kept : (page : ℕ) (p : IsLogPage d page) → p.ino ≢ ino → IsLogPage new page
  other_kept page p ne = record {
    ino = p.ino;
    in_table = above d ino log p.ino p.in_table;
    used = subst IsUsed (sym (use_same d ino log p.ino)) p.used;
    listed = subst (λ (n : Inode). Contains n.log.pages page) (sym (at_other d ino log p.ino ne)) p.listed;
  }

  free_only : (page : ℕ) → IsFree new page → IsFree d page ⊎ Contains (d.inode ino).log.pages page
  free_only page free = elim (listed_or_not (d.inode ino).log.pages page) [
    | inl listed ↦ inr listed
    | inr not ↦ inl (record {
      data_page = subst (λ (g : Geometry). InData g page) (same_geometry d ino log) free.data_page;
      in_no_log = λ p. elim (cases_eq p.ino ino) [
        | inl e ↦ not (subst (λ (i : ℕ). Contains (d.inode i).log.pages page) e p.listed)
        | inr ne ↦ free.in_no_log (other_kept page p ne)
      ];
      unmapped = sym (mappings_same page) ∙ free.unmapped;
    })
  ]

  pub moves_log : MovesLog d new ino log
  moves_log = record {
    taken = taken;
    freed = freed;
    free_kept = free_kept;
    free_only = free_only;
    log_pages_only = λ page p. ⊎_elim (λ (here : Contains log.pages page). inr here) (λ (other : (q : IsLogPage d page) × (q.ino ≢ ino)). inl other.0)
        (log_page_of page p);
  }

  pub sizes : (i : ℕ) → size_of (new.inode i).log ≡ size_of (d.inode i).log
  sizes i = elim (cases_eq i ino) [
    | inl e ↦ subst (λ (j : ℕ). size_of (new.inode j).log ≡ size_of (d.inode j).log) (sym e) (ap size_of (log_here d ino log) ∙ may.keeps.size)
    | inr ne ↦ ap (λ (n : Inode). size_of n.log) (at_other d ino log i ne)
  ]

  byte_same : (page k : ℕ) → byte_of new page k ≡ byte_of d page k
  byte_same page k = ap (λ (v : ℕ). v / 256 ^ (k % 8) % 256) (same_word d ino log page (k / 8))

  mapped_byte_same : (k : ℕ) (m n : Option Mapping) → block_of m ≡ block_of n → mapped_byte new k m ≡ mapped_byte d k n
  mapped_byte_same k None None e = refl
  mapped_byte_same k None (Some n) e = cc
  mapped_byte_same k (Some m) None e = cc
  mapped_byte_same k (Some m) (Some n) e = let same : m.block ≡ n.block = cc in byte_same m.block k ∙ ap (λ (page : ℕ). byte_of d page k) same

  pub bytes_same : (i : ℕ) → bytes new i ≡ bytes d i
  bytes_same i = same_number_lists (bytes new i) (bytes d i) (length-bytes new i ∙ sizes i ∙ sym (length-bytes d i))
      (λ j lt. byte j (omega (arith, lt, length-bytes new i)))
    where
      byte : (j : ℕ) → j < size_of (new.inode i).log → slice_index (bytes new i) j ≡ slice_index (bytes d i) j
      byte j lt =
          byte_at new i j lt ∙ mapped_byte_same (j % 4096) (maps new i (j / 4096)) (maps d i (j / 4096)) (blocks i (j / 4096))
          ∙ sym (byte_at d i j (omega (arith, lt, sizes i)))

  files_same : IsSameFiles (files new) (files d)
  files_same name = ap (option_map (bytes new)) (names name) ∙ by_found (named d name)
    where
      by_found : (r : Option ℕ) → option_map (bytes new) r ≡ option_map (bytes d) r
      by_found None = refl
      by_found (Some i) = ap Some (bytes_same i)

  abbrev IsExactRow : Disk → Row → Type 0
  IsExactRow e row = (row.uc ≡ 0) × (row.rfc ≡ mappings e row.page) × (row.rfc ≢ 0)

  exact_kept : Exact d → Exact new
  exact_kept exact = record {
    counts = subst (All (IsExactRow new)) (sym (same_rows d ino log)) (all_listed (IsExactRow new) (rows d) (λ row has.
        let was = All-contains (IsExactRow d) (rows d) row exact.counts has in (was.0, was.1 ∙ sym (mappings_same row.page), was.2)));
    unshared = λ page no_row. few_kept exact.unshared page (subst (λ (rs : List Row). IsNone (row_of rs page)) (same_rows d ino log) no_row);
  }

  pub keeps_data : KeepsData d new ino
  keeps_data = record {
    blocks = blocks;
    maps_others = maps_others d ino log;
    mappings_same = mappings_same;
    mapped_kept = mapped_kept;
    mapped_only = mapped_only;
    rows_same = same_rows d ino log;
    names = names;
    sizes = sizes;
    bytes_same = bytes_same;
    files_same = files_same;
    near = near_kept;
    exact = exact_kept;
  }

  -- a live place was one on the same page; another inode's, or one of this log
  record WasPlace (i idx : ℕ) (m : Mapping) : Type 0 where
    by : Mapping
    place : LivePlace d i idx by
    block : by.block ≡ m.block
    same : ((i ≢ ino) × (by ≡ m)) ⊎ ((i ≡ ino) × (mapping (d.inode ino).log idx ≡ Some by) × (mapping log idx ≡ Some m))

  was_place : (i idx : ℕ) (m : Mapping) → LivePlace new i idx m → WasPlace i idx m
  was_place i idx m place = elim (cases_eq i ino) [
    | inl e ↦
        let was = same_block m (maps d i idx) (ap block_of (sym place.maps) ∙ blocks i idx) in
        record {
          by = was.0;
          place = record { in_table = below d ino log i place.in_table; live = sym (use_same d ino log i) ∙ place.live; maps = was.1 };
          block = was.2;
          same = inr (
            e,
            sym (maps_before d ino log may.live idx) ∙ ap (λ (j : ℕ). maps d j idx) (sym e) ∙ was.1,
            sym (maps_here d ino log may.live idx) ∙ ap (λ (j : ℕ). maps new j idx) (sym e) ∙ place.maps,
          );
        }
    | inr ne ↦ record {
      by = m;
      place = record {
        in_table = below d ino log i place.in_table;
        live = sym (use_same d ino log i) ∙ place.live;
        maps = sym (maps_others d ino log i idx ne) ∙ place.maps;
      };
      block = refl;
      same = inl (ne, refl);
    }
  ]

  page_bytes_same : (page : ℕ) → page_bytes new page ≡ page_bytes d page
  unfolding page_bytes with_log
  page_bytes_same page = refl

  row_kept : (page : ℕ) → HasRow d page → HasRow new page
  row_kept page row = subst (λ (rs : List Row). IsSome (row_of rs page)) (sym (same_rows d ino log)) row

  now_done : (m : Mapping) → IsAlone m ⊎ HasRow d m.block → IsAlone m ⊎ HasRow new m.block
  now_done m is = ⊎_elim (λ alone. inl alone) (λ (row : HasRow d m.block). inr (row_kept m.block row)) is

  pub own_kept : (print : Print) → TellsDone d log → IsOwn print d → IsOwn print new
  own_kept print tells own = record {
    zeros = λ i idx k m place past small.
        let was = was_place i idx m place in
        byte_same m.block k ∙ ap (λ (page : ℕ). byte_of d page k) (sym was.block) ∙ own.zeros i idx k was.by was.place
        (subst (λ (n : ℕ). n ≤ 4096 * idx + k) (sizes i) past) small;
    prints = subst (All (λ row. row.print ≡ print (page_bytes new row.page))) (sym (same_rows d ino log))
        (All-weaker (λ (row : Row). row.print ≡ print (page_bytes d row.page)) (λ (row : Row). row.print ≡ print (page_bytes new row.page))
        (λ row is. is ∙ ap print (sym (page_bytes_same row.page))) (rows d) own.prints);
    complete = λ i idx m place done. now_done m (complete i idx m place done);
  }
    where
      complete : (i idx : ℕ) (m : Mapping) → LivePlace new i idx m → m.flag ≡ Complete → IsAlone m ⊎ HasRow d m.block
      complete i idx m place done =
          let was = was_place i idx m place in ⊎_elim
          (λ (other : (i ≢ ino) × (was.by ≡ m)). own.complete i idx m (subst (LivePlace d i idx) other.1 was.place) done)
          (λ (here : (i ≡ ino) × (mapping (d.inode ino).log idx ≡ Some was.by) × (mapping log idx ≡ Some m)). tells idx m here.2 done) was.same

  pub settled_kept : KeepsDone (d.inode ino).log log → Settled d → Settled new
  settled_kept keeps settled = record {
    complete = λ i idx m place. let was = was_place i idx m place in (like i idx m was).0 (settled.complete i idx was.by was.place);
    done = λ i idx m place.
        let was = was_place i idx m place in ⊎_elim (λ (alone : IsAlone was.by). inl ((like i idx m was).1 alone))
        (λ (row : HasRow d was.by.block). inr (row_kept m.block (subst (HasRow d) was.block row))) (settled.done i idx was.by was.place);
    shared = λ i j idx jdx m n at_i at_j same.
        let one = was_place i idx m at_i in let two = was_place j jdx n at_j in
        joined i j idx jdx m n one two (settled.shared i j idx jdx one.by two.by one.place two.place
        (ap (page_bytes d) one.block ∙ sym (page_bytes_same m.block) ∙ same ∙ page_bytes_same n.block ∙ ap (page_bytes d) (sym two.block)));
  }
    where
      like : (i idx : ℕ) (m : Mapping) (was : WasPlace i idx m) → (was.by.flag ≡ Complete → m.flag ≡ Complete) × (IsAlone was.by → IsAlone m)
      like i idx m was = ⊎_elim
          (λ (other : (i ≢ ino) × (was.by ≡ m)). (
            (λ e. subst (λ (x : Mapping). x.flag ≡ Complete) other.1 e),
            (λ alone. subst IsAlone other.1 alone),
          ))
          (λ (here : (i ≡ ino) × (mapping (d.inode ino).log idx ≡ Some was.by) × (mapping log idx ≡ Some m)). keeps idx was.by m here.1 here.2)
          was.same

      joined : (i j idx jdx : ℕ) (m n : Mapping) (one : WasPlace i idx m) (two : WasPlace j jdx n) → (one.by.block ≡ two.by.block) ⊎ IsAlone one.by
          ⊎ IsAlone two.by → (m.block ≡ n.block) ⊎ IsAlone m ⊎ IsAlone n
      joined i j idx jdx m n one two (inl same) = inl (sym one.block ∙ same ∙ two.block)
      joined i j idx jdx m n one two (inr (inl alone)) = inr (inl ((like i idx m one).1 alone))
      joined i j idx jdx m n one two (inr (inr alone)) = inr (inr ((like j jdx n two).1 alone))
