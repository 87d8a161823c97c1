-- A write of one page at the start of a file, by the laws of writes.
use Rattle.std.proofs.Common.{
  ◌≡◌,
  ◌≢◌,
  inl,
  inr,
  ℕ,
  zero,
  suc,
  ◌+◌,
  ◌-◌,
  ◌*◌,
  ◌/◌,
  ◌%◌,
  ◌^◌,
  ◌<◌,
  ◌≤◌,
  max,
  Bool,
  true,
  false,
  List,
  [],
  ◌∷◌,
  ◌++◌,
  length,
  refl,
  sym,
  ◌∙◌,
  ap,
  subst,
  arith,
  zero-add,
}
use Rattle.std.specs.Prelude.{if◌then◌else◌, nat_le, nat_lt, ◌&&◌, slice_index, Contains, Some, None, IsNone}
use Rattle.std.proofs.lemmas.Bool.{cases_lt}
use Rattle.std.proofs.lemmas.Bool.Decides.{nat_tests}
use Rattle.std.proofs.lemmas.List.{get_or_past}
use Rattle.std.proofs.lemmas.List.FromFn.{length-map-range_with_len, get_or-map-range_with_len}
use Rattle.log_entry.specs.Spelling.{pages_of}
use Rattle.dn_model.specs.Log.{count}
use Rattle.dn_model.specs.Maps.{Mapping, size_of}
use Rattle.dn_model.specs.Table.{row_of}
use Rattle.dn_model.specs.Disk.{Disk, Inode, Live, maps, rows}
use Rattle.dn_model.specs.Counts.{IsFree}
use Rattle.dn_model.specs.Files.{bytes, byte_of, named, named_after, files, IsSameFiles}
use Rattle.dn_model.specs.Apply.{written, after_op}
use Rattle.dn_model.specs.Valid.{IsValid}
use Rattle.dn_model.specs.Own.{Print, IsOwn}
use Rattle.dn_model.specs.declared.op.Op.TheVariants.{Write}
use Rattle.law_write.specs.Events.{IsReadPage, IsUnused}
use Rattle.law_write.specs.Writing.{Writes, WritesBytes}
use Rattle.law_write.specs.Runs.{block_at}
use Rattle.law_write.specs.MayWrite.{written_disk, IsLeft, MayWrite}
use Rattle.law_write.specs.WriteLaws.{TakesAndFrees, IsWriteOf}
use Rattle.law_write.proofs.Unread.{unused_unread}
use Rattle.law_write.proofs.WithLog.{with_log-other, with_log-word}
use Rattle.law_write.proofs.WriteBytes.{length-bytes}
use Rattle.law_example.specs.Life.{on_page, HoldsBytes}
use Rattle.law_example.proofs.Laws.{Laws}

-- a byte of a text that was written at the start
written_in : (old text : List ℕ) (k : ℕ) → k < length text → slice_index (written old 0 text) k ≡ slice_index text k
unfolding written
written_in old text k lt =
    get_or-map-range_with_len (λ j. if nat_le 0 j && nat_lt j (0 + length text) then slice_index text (j - 0) else slice_index old j) 0
    (max (length old) (0 + length text)) k k 0 (long (length old) (length text) lt) (zero-add k)
    ∙ ap (λ (b : Bool). if b then slice_index text (k - 0) else slice_index old k) (inside k (length text) lt) ∙ ap (slice_index text) (same k)
  where
    same : (j : ℕ) → j - 0 ≡ j
    same j = omega arith

    long : (a n : ℕ) → k < n → k < max a (0 + n)
    long a n lt = omega arith

    inside : (j n : ℕ) → j < n → (nat_le 0 j && nat_lt j (0 + n)) ≡ true
    inside j n lt = grind (arith, nat_tests)

written_past : (old text : List ℕ) (k : ℕ) → length text ≤ k → slice_index (written old 0 text) k ≡ slice_index old k
unfolding written
written_past old text k past = elim (cases_lt k (max (length old) (0 + length text))) [
  | inl low ↦
      get_or-map-range_with_len (λ j. if nat_le 0 j && nat_lt j (0 + length text) then slice_index text (j - 0) else slice_index old j) 0
      (max (length old) (0 + length text)) k k 0 low (zero-add k)
      ∙ ap (λ (b : Bool). if b then slice_index text (k - 0) else slice_index old k) (outside k (length text) past)
  | inr high ↦ get_or_past (written old 0 text) k 0
      (omega (
        arith,
        high,
        length-map-range_with_len (λ j. if nat_le 0 j && nat_lt j (0 + length text) then slice_index text (j - 0) else slice_index
            old j) 0 (max (length old) (0 + length text)),
      ))
      ∙ sym (get_or_past old k 0 (small (length old) (length text) high))
]
  where
    outside : (j n : ℕ) → n ≤ j → (nat_le 0 j && nat_lt j (0 + n)) ≡ false
    outside j n past = grind (arith, nat_tests)

    small : (a n : ℕ) → max a (0 + n) ≤ k → a ≤ k
    small a n le = omega arith

-- The premises of a write of one page at the start of a file, where no row stands.
pub record MayPutPage (d : Disk) (ino : ℕ) (fresh : List ℕ) (size : ℕ) (text : List ℕ) (page : ℕ) (word : ℕ → ℕ → ℕ) : Type 0 where
  pub valid : IsValid d
  pub no_rows : (p : ℕ) → d.chain p ≡ []
  pub file : 1 ≤ ino
  pub in_table : ino < d.geometry.inodes
  pub live : (d.inode ino).use_of ≡ Live
  pub size_is : size ≡ max (length (bytes d ino)) (length text)
  pub some : 1 ≤ length text
  pub short : length text ≤ 4096
  pub short_before : length (bytes d ino) ≤ 4096
  pub unused : IsUnused d page
  pub fresh_unused : (p : ℕ) → Contains fresh p → IsUnused d p
  pub fresh_apart : (j k : ℕ) → j < length fresh → k < length fresh → slice_index fresh j ≡ slice_index fresh k → j ≡ k
  pub not_fresh : Contains fresh page → ⊥
  pub room : length ((d.inode ino).log.pages ++ fresh) ≡ (count (d.inode ino).log + 1 + 62) / 63
  pub elsewhere : (p k : ℕ) → p ≢ page → word p k ≡ d.word p k
  pub holds : HoldsBytes word page (written (bytes d ino) 0 text)
  pub zeros : (idx k : ℕ) (m : Mapping) → maps d ino idx ≡ Some m → k < 4096 → size_of (d.inode ino).log ≤ 4096 * idx + k → byte_of d m.block k ≡ 0
  pub spare : ℕ
  pub other : ℕ
  pub two : spare ≢ other
  pub spare_free : IsFree d spare
  pub other_free : IsFree d other
  pub spare_left : (spare ≢ page) × (Contains fresh spare → ⊥)
  pub other_left : (other ≢ page) × (Contains fresh other → ⊥)

module _ (laws : Laws) (d : Disk) (ino : ℕ) (fresh : List ℕ) (size byte : ℕ) (rest : List ℕ) (page : ℕ) (word : ℕ → ℕ → ℕ)
    (may : MayPutPage d ino fresh size (byte ∷ rest) page word) where
  abbrev text : List ℕ
  text = byte ∷ rest

  abbrev new : Disk
  new = written_disk d ino fresh size (on_page page) word

  same_page : (i : ℕ) → i < 1 → block_at (on_page page) i ≡ page
  same_page zero lt = omega arith
  same_page (suc i) lt = absurd (omega (arith, lt))

  read_other : (p : ℕ) → IsReadPage d p → p ≢ page
  read_other p read e = unused_unread d page may.unused (subst (IsReadPage d) e read)

  left : (p : ℕ) → IsFree d p → (p ≢ page) × (Contains fresh p → ⊥) → IsLeft d fresh (on_page page) p
  left p free apart = record { free = free; no_block = λ i lt e. apart.0 (sym e ∙ same_page i (omega (arith, lt))); not_fresh = apart.1 }

  may_write : MayWrite d ino fresh 0 size (on_page page) word
  may_write = record {
    valid = may.valid;
    file = may.file;
    in_table = may.in_table;
    live = may.live;
    some = omega arith;
    chained = (refl, omega arith, omega arith, tt);
    in_size = in_pages (length (bytes d ino)) (length text) may.size_is may.some;
    small = bound (length (bytes d ino)) (length text) may.size_is may.short_before may.short;
    blocks = λ i lt. subst (IsUnused d) (sym (same_page i (omega (arith, lt)))) may.unused;
    blocks_apart = λ i j il jl e. omega (arith, il, jl);
    fresh_unused = may.fresh_unused;
    fresh_apart = may.fresh_apart;
    apart = λ i lt has. may.not_fresh (subst (Contains fresh) (same_page i (omega (arith, lt))) has);
    room = may.room;
    words = λ p k read. may.elsewhere p k (read_other p read);
    left = (may.spare, may.other, may.two, left may.spare may.spare_free may.spare_left, left may.other may.other_free may.other_left);
  }
    where
      in_pages : (a n : ℕ) → size ≡ max a n → 1 ≤ n → 0 + (1 + 0) ≤ pages_of size
      in_pages a n e some = omega arith

      bound : (a n : ℕ) → size ≡ max a n → a ≤ 4096 → n ≤ 4096 → size ≤ 16777216
      bound a n e al nl = omega arith

  pub is_write : IsWriteOf d ino fresh 0 size (on_page page) word
  is_write = laws.runs d ino fresh 0 size (on_page page) word may_write may.no_rows

  abbrev event : Writes ino d new
  event = is_write.event

  new_byte : (k : ℕ) → byte_of new page k ≡ word page (k / 8) / 256 ^ (k % 8) % 256
  new_byte k = ap (λ (v : ℕ). v / 256 ^ (k % 8) % 256) (with_log-word d ino _ word page (k / 8))

  one_place : (k : ℕ) → k < event.n → (k ≡ 0) × (event.blocks k ≡ page)
  one_place k lt = let few : k < 1 = omega (arith, lt, is_write.places) in (omega (arith, few), is_write.blocks k ∙ same_page k few)

  writes_bytes : WritesBytes ino d new event 0 text
  writes_bytes = record {
    size = is_write.ends ∙ may.size_is ∙ ap (max (length (bytes d ino))) (sym (zero-add (length text)));
    covers = λ j low high. (omega (arith, is_write.starts), omega (arith, is_write.starts, is_write.places, high, may.short));
    inside = λ k i lt small low high.
        let one = one_place k lt in
        let place : 4096 * (event.first + k) + i ≡ i = omega (arith, is_write.starts, one.0) in
        ap (λ (p : ℕ). byte_of new p i) one.1 ∙ new_byte i ∙ may.holds i small ∙ written_in (bytes d ino) text i (omega (arith, high, place)) ∙ ap
        (slice_index text) (omega (arith, place));
    outside = λ k i lt small out.
        let one = one_place k lt in
        let place : 4096 * (event.first + k) + i ≡ i = omega (arith, is_write.starts, one.0) in
        ap (λ (p : ℕ). byte_of new p i) one.1 ∙ new_byte i ∙ may.holds i small ∙ written_past (bytes d ino) text i (past place out) ∙ ap
        (slice_index (bytes d ino)) (sym place);
    zeros = may.zeros;
  }
    where
      past : {a i : ℕ} → a ≡ i → (0 ≤ a → a < 0 + length text → ⊥) → length text ≤ i
      past {a} {i} place out = elim (cases_lt i (length text)) [
        | inl low ↦ absurd (out (omega arith) (omega (arith, low, place)))
        | inr high ↦ high
      ]

  pub put_valid : IsValid new
  put_valid = laws.valid ino d new event is_write.well

  pub put_own : (print : Print) → IsOwn print d → IsOwn print new
  put_own print own = laws.own print ino d new event is_write.well 0 text writes_bytes own

  pub put_bytes : bytes new ino ≡ written (bytes d ino) 0 text
  put_bytes = (laws.put ino d new event is_write.well 0 text writes_bytes).here

  pub put_files : (name : List ℕ) → named d name ≡ Some ino → IsSameFiles (files new) (after_op (files d) (Write name 0 (byte ∷ rest)))
  put_files name leads = laws.writes ino d new event is_write.well name leads 0 byte rest writes_bytes

  takes : TakesAndFrees ino d new event
  takes = laws.take ino d new event is_write.well

  pub put_free : (p : ℕ) → IsFree d p → p ≢ page → (Contains fresh p → ⊥) → IsFree new p
  put_free p free ne not = takes.kept p free (λ i lt e. ne (sym e ∙ (one_place i lt).1))
      (λ has. not (subst (λ (xs : List ℕ). Contains xs p) is_write.takes has))

  pub put_frees : (by : Mapping) → maps d ino 0 ≡ Some by → IsNone (row_of (rows d) by.block) → IsFree new by.block
  put_frees by is none = takes.freed by.block (record {
    i = 0;
    below = omega (arith, is_write.places);
    by = by;
    was = ap (maps d ino) (omega (arith, is_write.starts)) ∙ is;
    block = refl;
  }) none

  pub put_length : length (bytes new ino) ≡ size
  put_length = length-bytes new ino ∙ event.last_size ∙ is_write.ends

  -- the place is on the page
  pub put_maps : (by : Mapping) × (maps new ino 0 ≡ Some by) × (by.block ≡ page)
  put_maps =
      let own = event.own 0 (omega (arith, is_write.places)) in
      (own.by, ap (maps new ino) (omega (arith, is_write.starts)) ∙ own.is, own.page ∙ (one_place 0 (omega (arith, is_write.places))).1)

  -- the parts that stay
  pub put_named : (name : List ℕ) → named new name ≡ named d name
  unfolding named
  put_named name = ap (λ (n : Inode). named_after name None n.log.items) (with_log-other d ino _ word 0 (λ e. omega (arith, e, may.file)))
