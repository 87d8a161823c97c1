-- What a disk says of data pages: log pages by their log, and pages that are read; nothing of an unused page.
use Rattle.std.proofs.Common.{
  ◌≡◌,
  ◌⊎◌,
  inl,
  inr,
  ⊎_elim,
  ℕ,
  zero,
  suc,
  ◌+◌,
  ◌-◌,
  ◌*◌,
  ◌/◌,
  ◌%◌,
  ◌^◌,
  ◌<◌,
  ◌≤◌,
  Bool,
  true,
  false,
  List,
  [],
  ◌∷◌,
  length,
  get_or,
  refl,
  sym,
  ◌∙◌,
  ap,
  subst,
  arith,
}
use Rattle.std.specs.Prelude.{slice_index, slice_get, if◌then◌else◌, nat_le, nat_lt, ◌&&◌, ◌==◌, Option, Some, None, IsSome, IsNone, All, Contains}
use Rattle.std.proofs.lemmas.Nat.{pow-add}
use Rattle.std.proofs.lemmas.Bool.Decides.{nat_tests}
use Rattle.std.proofs.lemmas.List.{get_or_default}
use Rattle.std.proofs.lemmas.Option.{slice_get_read}
use Rattle.std.proofs.lemmas.List.Elements.{All-contains, Contains-get_or, Contains-append_cases}
use Rattle.pm_device.specs.Pages.{IsInPage}
use Rattle.pm_layout.specs.declared.Geometry.{Geometry}
use Rattle.pm_layout.specs.Geometry.{InData, first_data, prefix_bits, direct_page, directs, slots, inode_word, slot_word, pointer_word}
use Rattle.pm_layout.proofs.Bits.{bits_of_within}
use Rattle.log_entry.specs.Spelling.{spelling, pages_of}
use Rattle.log_entry.specs.declared.item.Flag.{Flag}
use Rattle.log_entry.specs.declared.item.LogItem.{LogItem}
use Rattle.log_entry.specs.declared.item.LogItem.TheVariants.{Write, Size, Add, Forget}
use Rattle.dn_model.specs.Log.{Log, LogSays, at_tail, at_head, at_footer, at_slot, IsPaged, slot_name, placed_from}
use Rattle.dn_model.specs.Maps.{Mapping, mapping, mapped_after, remapped}
use Rattle.dn_model.specs.Table.{Row, RowsSay, at_field, at_next, at_later, ChainSays, at_direct_page, at_direct_next, at_row, row_of, rows_from}
use Rattle.dn_model.specs.Disk.{
  Disk,
  Use,
  Free,
  Live,
  Dying,
  IsUsed,
  IsMapped,
  maps,
  maps_by_use,
  rows,
  DiskSays,
  of_head,
  of_inodes,
  of_logs,
  of_chains,
  of_pointers,
  of_pages,
  HeadSays,
  at_magic,
  at_version,
  at_pages,
  at_inodes,
  at_gate,
  InodesSay,
  at_state,
  at_cut,
  LogsSay,
  ChainsSay,
}
use Rattle.dn_model.specs.Counts.{hit, mappings, total, IsLogPage}
use Rattle.dn_model.specs.Valid.{MayStand, IsRow, IsValid}
use Rattle.dn_model.specs.Growth.{IsGrown, Prepared, new_head, new_footer, new_slot}
use Rattle.dn_model.proofs.Append.{log_word_in_data, prepared_apart}
use Rattle.dn_model.proofs.Regions.{inode_word_low, inode_not_data}
use Rattle.law_write.specs.Events.{IsReadPage, IsUnused}
use Rattle.law_write.proofs.Counting.{term-le}

-- a Write of these items that maps place idx so
pub record IsSetBy (items : List LogItem) (idx : ℕ) (x : Mapping) : Type 0 where
  pub first : ℕ
  pub n : ℕ
  pub block : ℕ
  pub size : ℕ
  pub flag : Flag
  pub mask : ℕ
  pub listed : Contains items (Write first n block size flag mask)
  pub low : first ≤ idx
  pub high : idx < first + n
  pub is : x.block ≡ block + (idx - first)

set_later : (item : LogItem) (items : List LogItem) (idx : ℕ) (x : Mapping) → IsSetBy items idx x → IsSetBy (item ∷ items) idx x
set_later item items idx x s = record {
  first = s.first;
  n = s.n;
  block = s.block;
  size = s.size;
  flag = s.flag;
  mask = s.mask;
  listed = (suc s.listed.0, omega (arith, s.listed.1), s.listed.2);
  low = s.low;
  high = s.high;
  is = s.is;
}

cut_keeps : (b : Bool) (m : Option Mapping) (x : Mapping) → (if b then m else None) ≡ Some x → m ≡ Some x
cut_keeps true m x e = e
cut_keeps false m x e = cc

-- what a place is mapped to after a Write: a page of the Write, or what it was
module _ (idx first n block size mask slot : ℕ) (flag : Flag) (items : List LogItem) (m : Option Mapping) (x : Mapping) where
  abbrev set_here : Mapping
  set_here = record { block = block + (idx - first); slot = slot; bit = idx - first; flag = flag; mask = mask }

  by_range : (b : Bool) → (nat_le first idx && nat_lt idx (first + n)) ≡ b → (if b then Some set_here else m) ≡ Some x
      → IsSetBy (Write first n block size flag mask ∷ items) idx x ⊎ (m ≡ Some x)
  by_range true t e =
      let same : set_here ≡ x = cc in
      inl (record {
        first = first;
        n = n;
        block = block;
        size = size;
        flag = flag;
        mask = mask;
        listed = (0, omega arith, refl);
        low = grind (arith, nat_tests);
        high = grind (arith, nat_tests);
        is = ap (λ (y : Mapping). y.block) (sym same);
      })
  by_range false t e = inr e

  set_or_kept : remapped idx m (record { slot = slot; item = Write first n block size flag mask }) ≡ Some x
      → IsSetBy (Write first n block size flag mask ∷ items) idx x ⊎ (m ≡ Some x)
  set_or_kept e = by_range (nat_le first idx && nat_lt idx (first + n)) refl (cut_keeps (nat_lt idx (pages_of size)) _ x e)

-- a mapped place was set by an item, or mapped before them all
set_by_items : (idx : ℕ) (pages : List ℕ) (k : ℕ) (m : Option Mapping) (items : List LogItem) (x : Mapping)
    → mapped_after idx m (placed_from pages k items) ≡ Some x → IsSetBy items idx x ⊎ (m ≡ Some x)
set_by_items idx pages k m [] x e = inr e
set_by_items idx pages k m (Write first n block size flag mask ∷ items) x e = ⊎_elim
    (λ (s : IsSetBy items idx x). inl (set_later (Write first n block size flag mask) items idx x s))
    (set_or_kept idx first n block size mask (slot_name pages k) flag items m x)
    (set_by_items idx pages (k + length (spelling (Write first n block size flag mask)))
    (remapped idx m (record { slot = slot_name pages k; item = Write first n block size flag mask })) items x e)
set_by_items idx pages k m (Size size ∷ items) x e = ⊎_elim
    (λ (s : IsSetBy items idx x). inl (set_later (Size size) items idx x s))
    (λ kept. inr (cut_keeps (nat_lt idx (pages_of size)) m x kept))
    (set_by_items idx pages (k + length (spelling (Size size))) (remapped idx m (record { slot = slot_name pages k; item = Size size })) items x e)
set_by_items idx pages k m (Add ino name ∷ items) x e = ⊎_elim
    (λ (s : IsSetBy items idx x). inl (set_later (Add ino name) items idx x s))
    (λ kept. inr kept)
    (set_by_items idx pages (k + length (spelling (Add ino name))) m items x e)
set_by_items idx pages k m (Forget name ∷ items) x e = ⊎_elim
    (λ (s : IsSetBy items idx x). inl (set_later (Forget name) items idx x s))
    (λ kept. inr kept)
    (set_by_items idx pages (k + length (spelling (Forget name))) m items x e)

-- the Write that maps a place of a log
pub mapping_set_by : (log : Log) (idx : ℕ) (x : Mapping) → mapping log idx ≡ Some x → IsSetBy log.items idx x
unfolding mapping
mapping_set_by log idx x e = ⊎_elim (λ (s : IsSetBy log.items idx x). s) (λ (none : None ≡ Some x). cc) (set_by_items idx log.pages 0 None log.items x
    e)

-- only inodes that are used map anything, each by its log
mapped_in_log : (u : Use) (log : Log) (idx : ℕ) (x : Mapping) → maps_by_use u log idx ≡ Some x → IsUsed u × (mapping log idx ≡ Some x)
mapped_in_log Free log idx x e = cc
mapped_in_log Live log idx x e = (tt, e)
mapped_in_log (Dying c) log idx x e = (tt, cut_keeps (nat_lt idx c) (mapping log idx) x e)

-- a page that an item maps lies in the data area
set_in_data : (g : Geometry) (ino : ℕ) (items : List LogItem) (idx : ℕ) (x : Mapping) → All (MayStand g ino) items → IsSetBy items idx x
    → InData g x.block
set_in_data g ino items idx x standing s = by_inode ino (All-contains (MayStand g ino) items (Write s.first s.n s.block s.size s.flag s.mask) standing
    s.listed)
  where
    by_inode : (i : ℕ) → MayStand g i (Write s.first s.n s.block s.size s.flag s.mask) → InData g x.block
    by_inode zero may = absurd may
    by_inode (suc i) may = record { low = omega (arith, s.is, may.0.low); high = omega (arith, s.is, s.low, s.high, may.1.high) }

-- the row that is found for a page
row_listed : (rs : List Row) (page : ℕ) → IsSome (row_of rs page) → (row : Row) × Contains rs row × (row.page ≡ page)
row_listed [] page some = cc
row_listed (row ∷ rs) page some = by_test (row.page == page) refl (row_listed rs page) some
  where
    by_test : (b : Bool) → (row.page == page) ≡ b → (IsSome (row_of rs page) → (r : Row) × Contains rs r × (r.page ≡ page))
        → IsSome (if b then Some row else row_of rs page)
        → (r : Row) × Contains (row ∷ rs) r × (r.page ≡ page)
    by_test true t later some = (row, (0, omega arith, refl), grind (arith, nat_tests))
    by_test false t later some = let found = later some in (found.0, (suc found.1.0, omega (arith, found.1.1), found.1.2), found.2)

-- a row stands in the chain of a prefix
chain_listed : (chain : ℕ → List Row) (d n : ℕ) (row : Row) → Contains (rows_from chain d n) row → (p : ℕ) × (p < d + n) × Contains (chain p) row
chain_listed chain d zero row listed = absurd (omega (arith, listed.1))
chain_listed chain d (suc n) row listed = ⊎_elim
    (λ (here : Contains (chain d) row). (d, omega arith, here))
    (λ (later : Contains (rows_from chain (d + 1) n) row). let found = chain_listed chain (d + 1) n row later in
    (found.0, omega (arith, found.1), found.2))
    (Contains-append_cases (chain d) (rows_from chain (d + 1) n) row listed)

module _ (d : Disk) (valid : IsValid d) where
  -- a row of the table may stand where it stands
  is_row : (row : Row) → Contains (rows d) row → (p : ℕ) × (k : ℕ) × (p < directs d.geometry) × IsRow d.geometry p k row
  unfolding rows
  is_row row listed =
      let found = chain_listed d.chain 0 (directs d.geometry) row listed in
      let direct : found.0 < directs d.geometry = omega (arith, found.1) in (
        found.0,
        found.2.0,
        direct,
        valid.table found.0 found.2.0 row direct (slice_get_read (d.chain found.0) (length (d.chain found.0)) found.2.0 row
            refl found.2.1 (sym found.2.2)),
      )

  -- the slots of a chain are slots of the table
  chain_slots : (p : ℕ) → p < directs d.geometry → All (λ row. row.slot < slots d.geometry) (d.chain p)
  chain_slots p direct k x lt = below (slice_get_read (d.chain p) (length (d.chain p)) k (get_or (d.chain p) k x) refl lt
      (get_or_default (d.chain p) k x (get_or (d.chain p) k x) lt))
    where
      by_place : (row : Row) → (row.slot ≡ p × (k ≡ 0)) ⊎ ((directs d.geometry ≤ row.slot) × (row.slot < slots d.geometry))
          → row.slot < slots d.geometry
      by_place row (inl own) = omega (arith, own.0, direct)
      by_place row (inr indirect) = indirect.1

      below : slice_get (d.chain p) k ≡ Some (get_or (d.chain p) k x) → (get_or (d.chain p) k x).slot < slots d.geometry
      below is = by_place (get_or (d.chain p) k x) (valid.table p k (get_or (d.chain p) k x) direct is).place

  mapped_in_data : (page : ℕ) → IsMapped d page → InData d.geometry page
  unfolding maps
  mapped_in_data page m =
      let to = m.maps_to in
      let by = mapped_in_log (d.inode m.ino).use_of (d.inode m.ino).log m.idx to.by to.is in
      subst (InData d.geometry) to.block
      (set_in_data d.geometry m.ino (d.inode m.ino).log.items m.idx to.by (valid.logs m.ino to.in_table by.0).standing
      (mapping_set_by (d.inode m.ino).log m.idx to.by by.1))

  -- the pages that are read lie in the data area
  pub read_in_data : (page : ℕ) → IsReadPage d page → InData d.geometry page
  read_in_data page (inl mapped) = mapped_in_data page mapped
  read_in_data page (inr some) =
      let found = row_listed (rows d) page some in
      subst (InData d.geometry) found.2 (is_row found.0 found.1).3.data_page

-- the regions end where the data begins
module _ (g : Geometry) where
  directs_fill : directs g ≡ 64 * 2 ^ (prefix_bits g - 6)
  directs_fill =
      let some = (bits_of_within g.pages).0 in
      let split : prefix_bits g ≡ 6 + (prefix_bits g - 6) = omega arith in
      ap (λ (n : ℕ). 2 ^ n) split ∙ pow-add 2 6 (prefix_bits g - 6)

  pub slot_word_low : (slot field : ℕ) → slot < slots g → field < 8 → slot_word g slot field < 512 * first_data g
  unfolding first_data
  slot_word_low slot field lt small = omega (arith, directs_fill)

  pub pointer_word_low : (page : ℕ) → page < g.pages → pointer_word g page < 512 * first_data g
  unfolding first_data pointer_word
  pointer_word_low page lt = omega arith

  pointer_above : (page : ℕ) → 512 * direct_page g ≤ pointer_word g page
  unfolding pointer_word
  pointer_above page = omega arith

  head_low : 512 < 512 * first_data g
  unfolding first_data
  head_low = omega arith

  rows_low : (rs : List Row) (a v : ℕ) → All (λ row. row.slot < slots g) rs → RowsSay g rs a v → a < 512 * first_data g
  rows_low [] a v below says = elim says [ ]
  rows_low (row ∷ rs) a v below (at_field j lt place value) = omega (arith, slot_word_low row.slot j (below 0 row (omega arith)) (omega arith), place)
  rows_low (row ∷ rs) a v below (at_next place value) = omega (arith, slot_word_low row.slot 5 (below 0 row (omega arith)) (omega arith), place)
  rows_low (row ∷ rs) a v below (at_later later) = rows_low rs a v (λ k x lt. below (suc k) x (omega arith)) later

  chain_low : (p : ℕ) (rs : List Row) (a v : ℕ) → p < directs g → All (λ row. row.slot < slots g) rs → ChainSays g p rs a v → a < 512 * first_data g
  chain_low p rs a v direct below (at_direct_page place value) = omega (arith, slot_word_low p 0 (omega arith) (omega arith), place)
  chain_low p rs a v direct below (at_direct_next place value) = omega (arith, slot_word_low p 5 (omega arith) (omega arith), place)
  chain_low p rs a v direct below (at_row says) = rows_low rs a v below says

page_one : (p q r a : ℕ) → r < 512 → IsInPage q a → a ≡ 512 * p + r → p ≡ q
page_one p q r a rl here place = omega arith

same_page : (p q a : ℕ) → IsInPage p a → IsInPage q a → p ≡ q
same_page p q a in_p in_q = omega arith

listed_at : (pages : List ℕ) (k page : ℕ) → k < length pages → slice_index pages k ≡ page → Contains pages page
listed_at pages k page lt e = subst (Contains pages) e (Contains-get_or pages k 0 lt)

-- a log that speaks of a word of a data page has that page
log_listed : (g : Geometry) (ino : ℕ) (log : Log) (page a v : ℕ) → ino < g.inodes → IsPaged g log → InData g page → IsInPage page a
    → LogSays ino log a v → Contains log.pages page
log_listed g ino log page a v in_table paged in_data here (at_tail place value) = absurd
    (omega (arith, inode_word_low g ino 2 in_table (omega arith), in_data.low))
log_listed g ino log page a v in_table paged in_data here (at_head some place value) = absurd
    (omega (arith, inode_word_low g ino 1 in_table (omega arith), in_data.low))
log_listed g ino log page a v in_table paged in_data here (at_footer k lt place value) =
    listed_at log.pages k page (omega arith) (page_one (slice_index log.pages k) page 504 a (omega arith) here place)
log_listed g ino log page a v in_table paged in_data here (at_slot k j lt word place value) =
    listed_at log.pages (k / 63) page (omega (arith, paged.fits)) (page_one (slice_index log.pages (k / 63)) page (8 * (k % 63) + j) a (omega arith)
    here (omega arith))

-- what a disk says of a word of a data page: a log with that page says it, or the page is read
pub data SaidOfPage (d : Disk) (page a v : ℕ) : Type 0 where
  by_log : (told : LogsSay d a v) → Contains (d.inode told.ino).log.pages page → SaidOfPage d page a v
  by_page : IsReadPage d page → SaidOfPage d page a v

module _ (d : Disk) (valid : IsValid d) (page a v : ℕ) (in_data : InData d.geometry page) (here : IsInPage page a) where
  not_low : a < 512 * first_data d.geometry → ⊥
  not_low low = omega (arith, in_data.low)

  head_unsaid : HeadSays d a v → ⊥
  head_unsaid (at_magic place value) = not_low (omega (arith, head_low d.geometry, place))
  head_unsaid (at_version place value) = not_low (omega (arith, head_low d.geometry, place))
  head_unsaid (at_pages place value) = not_low (omega (arith, head_low d.geometry, place))
  head_unsaid (at_inodes place value) = not_low (omega (arith, head_low d.geometry, place))
  head_unsaid (at_gate place value) = not_low (omega (arith, head_low d.geometry, place))

  inodes_unsaid : InodesSay d a v → ⊥
  inodes_unsaid (at_state ino lt place value) = not_low (omega (arith, inode_word_low d.geometry ino 0 lt (omega arith), place))
  inodes_unsaid (at_cut ino c lt dying place value) = not_low (omega (arith, inode_word_low d.geometry ino 3 lt (omega arith), place))

  chains_unsaid : ChainsSay d a v → ⊥
  chains_unsaid told = not_low (chain_low d.geometry told.prefix (d.chain told.prefix) a v told.direct (chain_slots d valid told.prefix told.direct)
      told.says)

  pub said_of_page : DiskSays d a v → SaidOfPage d page a v
  said_of_page (of_head told) = absurd (head_unsaid told)
  said_of_page (of_inodes told) = absurd (inodes_unsaid told)
  said_of_page (of_logs told) = by_log told (log_listed d.geometry told.ino (d.inode told.ino).log page a v told.in_table
      (valid.logs told.ino told.in_table told.used).paged in_data here told.says)
  said_of_page (of_chains told) = absurd (chains_unsaid told)
  said_of_page (of_pointers told) = absurd (not_low (omega (arith, pointer_word_low d.geometry told.page told.in_image, told.place)))
  said_of_page (of_pages told) = by_page (subst (IsReadPage d) (page_one told.page page told.k a told.in_page here told.place) told.read)

-- a mapped place counts
mapped_counts : (d : Disk) (page : ℕ) → IsMapped d page → 1 ≤ mappings d page
unfolding mappings
mapped_counts d page m =
    let to = m.maps_to in
    let one : hit page (maps d m.ino m.idx) ≡ 1 = ap (hit page) to.is ∙ hit_here to.by to.block in
    chain _ _ _ one (term-le (λ j. hit page (maps d m.ino j)) 4096 m.idx to.in_file) (term-le (λ i. total 4096 (λ idx. hit page (maps d i idx)))
    d.geometry.inodes m.ino to.in_table)
  where
    hit_here : (x : Mapping) → x.block ≡ page → hit page (Some x) ≡ 1
    hit_here x e = grind (arith, nat_tests)

    chain : (a b c : ℕ) → a ≡ 1 → a ≤ b → b ≤ c → 1 ≤ c
    chain a b c e ab bc = omega arith

none_some : (r : Option Row) → IsNone r → IsSome r → ⊥
none_some r none some = cc

-- the words of an unused page are not read
pub unused_unread : (d : Disk) (page : ℕ) → IsUnused d page → IsReadPage d page → ⊥
unused_unread d page unused (inl mapped) = omega (arith, mapped_counts d page mapped, unused.free.unmapped)
unused_unread d page unused (inr row) = none_some (row_of (rows d) page) unused.no_row row

-- nothing is said of the words of an unused page
pub unused_unsaid : (d : Disk) → IsValid d → (page : ℕ) → IsUnused d page → (a v : ℕ) → IsInPage page a → DiskSays d a v → ⊥
unused_unsaid d valid page unused a v here says = elim (said_of_page d valid page a v unused.free.data_page here says) [
  | by_log told listed ↦ unused.free.in_no_log (record { ino = told.ino; in_table = told.in_table; used = told.used; listed = listed })
  | by_page read ↦ unused_unread d page unused read
]

-- what is said of a word of a log page is said by that log
pub log_page_said : (d : Disk) → IsValid d → (ino page a v : ℕ) → ino < d.geometry.inodes → IsUsed (d.inode ino).use_of
    → Contains (d.inode ino).log.pages page → IsInPage page a → DiskSays d a v → LogSays ino (d.inode ino).log a v
log_page_said d valid ino page a v in_table used listed here says = elim (said_of_page d valid page a v in_data here says) [
  | by_log told there ↦ subst (λ (i : ℕ). LogSays i (d.inode i).log a v) (valid.single.one_log told.ino ino page told.in_table in_table told.used used
      there listed) told.says
  | by_page read ↦ absurd (unread read)
]
  where
    log_page : IsLogPage d page
    log_page = record { ino = ino; in_table = in_table; used = used; listed = listed }

    in_data : InData d.geometry page
    in_data = let paged = (valid.logs ino in_table used).paged in subst (InData d.geometry) listed.2
        (subst (InData d.geometry) (get_or_default (d.inode ino).log.pages listed.0 0 page listed.1) (paged.in_data listed.0 listed.1))

    unread : IsReadPage d page → ⊥
    unread (inl mapped) = valid.single.log_unmapped page log_page mapped
    unread (inr row) = none_some (row_of (rows d) page) (valid.single.log_no_row page log_page) row

-- what is said of an inode's head is said by its log
head_said : (d : Disk) → IsValid d → (ino a v : ℕ) → ino < d.geometry.inodes → IsUsed (d.inode ino).use_of → a ≡ inode_word ino 1 → DiskSays d a v
    → LogSays ino (d.inode ino).log a v
head_said d valid ino a v in_table used is says = by_part says
  where
    low : a < 512 * direct_page d.geometry
    low = omega arith

    by_head : HeadSays d a v → ⊥
    by_head (at_magic place value) = omega arith
    by_head (at_version place value) = omega arith
    by_head (at_pages place value) = omega arith
    by_head (at_inodes place value) = omega arith
    by_head (at_gate place value) = omega arith

    by_inodes : InodesSay d a v → ⊥
    by_inodes (at_state i lt place value) = omega arith
    by_inodes (at_cut i c lt dying place value) = omega arith

    by_rows : (rs : List Row) → RowsSay d.geometry rs a v → ⊥
    by_rows [] told = elim told [ ]
    by_rows (row ∷ rs) (at_field j lt place value) = omega (arith, low, place)
    by_rows (row ∷ rs) (at_next place value) = omega (arith, low, place)
    by_rows (row ∷ rs) (at_later later) = by_rows rs later

    by_chain : (p : ℕ) (rs : List Row) → ChainSays d.geometry p rs a v → ⊥
    by_chain p rs (at_direct_page place value) = omega (arith, low, place)
    by_chain p rs (at_direct_next place value) = omega (arith, low, place)
    by_chain p rs (at_row told) = by_rows rs told

    by_log : (i : ℕ) → i < d.geometry.inodes → IsPaged d.geometry (d.inode i).log → LogSays i (d.inode i).log a v → i ≡ ino
    by_log i lt paged (at_tail place value) = absurd (omega arith)
    by_log i lt paged (at_head some place value) = omega arith
    by_log i lt paged (at_footer k kl place value) =
        absurd (inode_not_data d.geometry ino 1 (slice_index (d.inode i).log.pages k) 504 in_table (omega arith) (paged.in_data k (omega arith))
        (sym is ∙ place))
    by_log i lt paged (at_slot k j kl word place value) =
        absurd (inode_not_data d.geometry ino 1 (slice_index (d.inode i).log.pages (k / 63)) (8 * (k % 63) + j) in_table (omega arith)
        (log_word_in_data d.geometry (d.inode i).log k paged kl) (omega (arith, is, place)))

    by_part : DiskSays d a v → LogSays ino (d.inode ino).log a v
    by_part (of_head told) = absurd (by_head told)
    by_part (of_inodes told) = absurd (by_inodes told)
    by_part (of_logs told) =
        subst (λ (i : ℕ). LogSays i (d.inode i).log a v) (by_log told.ino told.in_table (valid.logs told.ino told.in_table told.used).paged told.says)
        told.says
    by_part (of_chains told) = absurd (by_chain told.prefix (d.chain told.prefix) told.says)
    by_part (of_pointers told) = absurd (omega (arith, low, told.place, pointer_above d.geometry told.page))
    by_part (of_pages told) = absurd (inode_not_data d.geometry ino 1 told.page told.k in_table (omega arith)
        (read_in_data d valid told.page told.read) (sym is ∙ told.place))

-- what is prepared stands in the inode's head, or in a page of the new log
prepared_page : (g : Geometry) (ino : ℕ) (old new : Log) (a v : ℕ) → IsPaged g new → Prepared ino old new a v
    → (a ≡ inode_word ino 1) ⊎ ((page : ℕ) × Contains new.pages page × IsInPage page a)
prepared_page g ino old new a v paged (new_head none some place value) = inl place
prepared_page g ino old new a v paged (new_footer k late lt place value) =
    inr (slice_index new.pages k, listed_at new.pages k (slice_index new.pages k) (omega arith) refl, (omega arith, omega arith))
prepared_page g ino old new a v paged (new_slot k j late lt word place value) =
    inr (
      slice_index new.pages (k / 63),
      listed_at new.pages (k / 63) (slice_index new.pages (k / 63)) (omega (arith, paged.fits)) refl,
      (omega arith, omega arith),
    )

-- nothing is said of the words that are prepared for the log of a live inode, where its fresh pages are unused
pub prepared_unsaid : (d : Disk) → IsValid d → (ino : ℕ) → ino < d.geometry.inodes → (d.inode ino).use_of ≡ Live → (new : Log)
    → (grown : IsGrown (d.inode ino).log new) → IsPaged d.geometry new
    → ((page : ℕ) → Contains grown.fresh page → IsUnused d page) → (a v v' : ℕ) → Prepared ino (d.inode ino).log new a v → DiskSays d a v' → ⊥
prepared_unsaid d valid ino in_table live new grown paged' unused a v v' prepared says =
    by_place (prepared_page d.geometry ino (d.inode ino).log new a v paged' prepared)
  where
    used : IsUsed (d.inode ino).use_of
    used = subst IsUsed (sym live) tt

    by_log : LogSays ino (d.inode ino).log a v' → ⊥
    by_log = prepared_apart d.geometry ino (d.inode ino).log new grown (valid.logs ino in_table used).paged paged' in_table a v v' prepared

    by_place : (a ≡ inode_word ino 1) ⊎ ((page : ℕ) × Contains new.pages page × IsInPage page a) → ⊥
    by_place (inl head) = by_log (head_said d valid ino a v' in_table used head says)
    by_place (inr in_page) = ⊎_elim
        (λ (old : Contains (d.inode ino).log.pages in_page.0). by_log (log_page_said d valid ino in_page.0 a v' in_table used old in_page.2 says))
        (λ (fresh : Contains grown.fresh in_page.0). unused_unsaid d valid in_page.0 (unused in_page.0 fresh) a v' in_page.2 says)
        (Contains-append_cases (d.inode ino).log.pages grown.fresh in_page.0 (subst (λ (ps : List ℕ). Contains ps in_page.0) grown.pages in_page.1))

-- what is prepared touches no data page but those of the new log
pub prepared_not_in : (g : Geometry) (ino : ℕ) (old new : Log) → ino < g.inodes → IsPaged g new → (page : ℕ) → InData g page
    → (Contains new.pages page → ⊥) → (a v : ℕ) → Prepared ino old new a v → IsInPage page a → ⊥
prepared_not_in g ino old new in_table paged page in_data apart a v prepared here = ⊎_elim
    (λ (head : a ≡ inode_word ino 1). omega (arith, inode_word_low g ino 1 in_table (omega arith), in_data.low, head))
    (λ (in_page : (p : ℕ) × Contains new.pages p × IsInPage p a). apart (subst (Contains new.pages) (same_page in_page.0 page a in_page.2 here)
    in_page.1))
    (prepared_page g ino old new a v paged prepared)
