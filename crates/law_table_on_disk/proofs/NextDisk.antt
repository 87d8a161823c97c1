-- A disk with another table says other things in its table alone.
use Rattle.std.proofs.Common.{◌≡◌, ◌≢◌, ◌⊎◌, inl, inr, ⊎_elim, ℕ, ◌*◌, ◌<◌, ◌≤◌, List, length, refl, sym, ◌∙◌, ap, subst, arith}
use Rattle.std.specs.Prelude.{IsSome}
use Rattle.pm_device.specs.Past.{Left, moment}
use Rattle.pm_device.specs.State.{State, Agree}
use Rattle.pm_device.specs.Settled.{LeavesOnly, StoresOnly}
use Rattle.pm_device.specs.Reading.{Stands}
use Rattle.pm_device.specs.Pages.{SaysRun}
use Rattle.pm_device.proofs.OneWord.{stands-stores}
use Rattle.pm_device.proofs.Layers.{leaves_only-stores}
use Rattle.pm_layout.specs.declared.Geometry.{Geometry}
use Rattle.pm_layout.specs.Geometry.{slot_word, pointer_word, slots}
use Rattle.dn_model.specs.Log.{Log, LogSays, IsPaged, at_tail, at_head, at_footer, at_slot}
use Rattle.dn_model.specs.Table.{Row, row_of}
use Rattle.dn_model.specs.Disk.{
  Disk,
  DiskSays,
  of_head,
  of_inodes,
  of_logs,
  of_chains,
  of_pointers,
  of_pages,
  HeadSays,
  at_magic,
  at_version,
  at_pages,
  at_inodes,
  at_gate,
  InodesSay,
  at_state,
  at_cut,
  LogsSay,
  PagesSay,
  TableSays,
  IsMapped,
  rows,
}
use Rattle.dn_model.specs.Valid.{HasGoodRows, IsValid}
use Rattle.dn_model.specs.Image.{StandsFor}
use Rattle.dn_model.proofs.Append.{log_word_in_data}
use Rattle.law_write.specs.Events.{IsReadPage}
use Rattle.law_write.proofs.Unread.{read_in_data, slot_word_low, pointer_word_low}
use Rattle.law_write.proofs.WriteEvent.{length-left, stands_for_read}
use Rattle.law_table.specs.Changes.{with_table}
use Rattle.law_table.specs.Words.{IsTableWord, HoldsTable, IsOneTableWord}
use Rattle.law_table.proofs.TableRows.{in_table, row_slot_small, good_of}
use Rattle.law_table.proofs.Slots.{HasSlot, chain_word}
use Rattle.law_table_on_disk.specs.OneWord.{IsOneWord}
use Rattle.law_table_on_disk.specs.TableLaws.{IsNextDisk}
use Rattle.law_table_on_disk.proofs.Frame.{mapped_only}

-- what a table says is said of its words
module _ (g : Geometry) where
  slot_within : (slot field : ℕ) → slot < slots g → field < 8 → IsTableWord g (slot_word g slot field)
  slot_within slot field lt small = (omega arith, slot_word_low g slot field lt small)

  pointer_within : (page : ℕ) → page < g.pages → IsTableWord g (pointer_word g page)
  unfolding pointer_word
  pointer_within page lt = (omega arith, pointer_word_low g page lt)

pub said_within : (d : Disk) → HasGoodRows d → (a v : ℕ) → TableSays d a v → IsTableWord d.geometry a
said_within d good a v (inl told) =
    let word = chain_word d.geometry told.prefix (d.chain told.prefix) a v told.says in
    subst (IsTableWord d.geometry) (sym word.place) (slot_within d.geometry word.slot word.field
    (⊎_elim (λ (own : word.slot ≡ told.prefix). omega (arith, own, told.direct))
    (λ (has : HasSlot (d.chain told.prefix) word.slot). omega (
      arith,
      row_slot_small d good has.0 (in_table d told.prefix has.0 told.direct has.1),
      has.2,
    )) word.owned) word.small)
said_within d good a v (inr told) = subst (IsTableWord d.geometry) (sym told.place) (pointer_within d.geometry told.page told.in_image)

pub table_said : (d : Disk) (a v : ℕ) → TableSays d a v → DiskSays d a v
table_said d a v (inl told) = of_chains told
table_said d a v (inr told) = of_pointers told

-- a log says nothing of the words of the table
log_apart : (g : Geometry) (ino : ℕ) (log : Log) (a v : ℕ) → ino < g.inodes → IsPaged g log → LogSays ino log a v → IsTableWord g a → ⊥
log_apart g ino log a v in_table paged (at_tail place value) within = omega (arith, within.0)
log_apart g ino log a v in_table paged (at_head some place value) within = omega (arith, within.0)
log_apart g ino log a v in_table paged (at_footer k lt place value) within = let page = paged.in_data k (omega arith) in
    omega (arith, page.low, within.1)
log_apart g ino log a v in_table paged (at_slot k j lt word place value) within = let page = log_word_in_data g log k paged lt in
    omega (arith, page.low, within.1)

-- the disk says it, and not of a word of the table
abbrev pub SaysBeside : Disk → ℕ → ℕ → Type 0
SaysBeside d a v = (IsTableWord d.geometry a → ⊥) × DiskSays d a v

module _ (d : Disk) (valid : IsValid d) (chain : ℕ → List Row) (pointer : ℕ → ℕ) where
  abbrev new : Disk
  new = with_table d chain pointer

  head_beside : (a v : ℕ) → HeadSays new a v → SaysBeside d a v
  head_beside a v (at_magic place is) = (λ within. omega (arith, within.0), of_head (at_magic place is))
  head_beside a v (at_version place is) = (λ within. omega (arith, within.0), of_head (at_version place is))
  head_beside a v (at_pages place is) = (λ within. omega (arith, within.0), of_head (at_pages place is))
  head_beside a v (at_inodes place is) = (λ within. omega (arith, within.0), of_head (at_inodes place is))
  head_beside a v (at_gate place is) = (λ within. omega (arith, within.0), of_head (at_gate place is))

  inodes_beside : (a v : ℕ) → InodesSay new a v → SaysBeside d a v
  inodes_beside a v (at_state i lt place is) = (λ within. omega (arith, within.0), of_inodes (at_state i lt place is))
  inodes_beside a v (at_cut i c lt dying place is) = (λ within. omega (arith, within.0), of_inodes (at_cut i c lt dying place is))

  logs_beside : (a v : ℕ) → LogsSay new a v → SaysBeside d a v
  logs_beside a v told = (
    log_apart d.geometry told.ino (d.inode told.ino).log a v told.in_table (valid.logs told.ino told.in_table told.used).paged told.says,
    of_logs (record { ino = told.ino; in_table = told.in_table; used = told.used; says = told.says }),
  )

  module _ (read : (page : ℕ) → IsSome (row_of (rows new) page) → IsReadPage d page) where
    pages_beside : (a v : ℕ) → PagesSay new a v → SaysBeside d a v
    pages_beside a v told =
        let was : IsReadPage d told.page = ⊎_elim (λ (mapped : IsMapped new told.page). inl (mapped_only d chain pointer told.page mapped))
        (λ (row : IsSome (row_of (rows new) told.page)). read told.page row) told.read in
        let page = read_in_data d valid told.page was in (
          λ within. omega (arith, told.place, page.low, within.1),
          of_pages (record { page = told.page; k = told.k; in_page = told.in_page; read = was; place = told.place; value = told.value }),
        )

    with_table_says : (a v : ℕ) → DiskSays new a v → TableSays new a v ⊎ SaysBeside d a v
    with_table_says a v (of_head told) = inr (head_beside a v told)
    with_table_says a v (of_inodes told) = inr (inodes_beside a v told)
    with_table_says a v (of_logs told) = inr (logs_beside a v told)
    with_table_says a v (of_chains told) = inl (inl told)
    with_table_says a v (of_pointers told) = inl (inr told)
    with_table_says a v (of_pages told) = inr (pages_beside a v told)

-- what the next disk says, its table says, or was said before and not of a word of the table
pub next_says : (d e : Disk) → IsNextDisk d e → IsValid d → (a v : ℕ) → DiskSays e a v → TableSays e a v ⊎ SaysBeside d a v
next_says d e next valid =
    subst (λ (x : Disk). ((page : ℕ) → IsSome (row_of (rows x) page) → IsReadPage d page) → (a v : ℕ) → DiskSays x a v → TableSays x a v ⊎ SaysBeside
    d a v) (sym next.same)
    (with_table_says d valid e.chain e.pointer) next.read

-- so of a word of the table only the table speaks
pub said_of_table : (d : Disk) → IsValid d → (a v : ℕ) → IsTableWord d.geometry a → DiskSays d a v → TableSays d a v
said_of_table d valid a v within says = ⊎_elim (λ told. told) (λ (beside : SaysBeside d a v). absurd (beside.0 within))
    (next_says d d (record { same = refl; valid = valid; read = λ page some. inr some }) valid a v says)

-- a word that decides between two tables decides between their disks
pub disk_word : (d e : Disk) → IsNextDisk d e → IsValid d → (first : ℕ) (fresh : List ℕ) (at value : ℕ) → IsOneTableWord d e first fresh at value
    → IsOneWord d e first fresh at value
disk_word d e next valid first fresh at value is = record {
  geometry = is.geometry;
  old_valid = valid;
  new_valid = next.valid;
  inside = is.inside;
  said = record { value = is.said.value; told = table_said d at is.said.value is.said.told };
  differs = λ a v says. ⊎_elim (λ (told : TableSays e a v). by_table a v (is.differs a v told)) (λ (beside : SaysBeside d a v). by_disk a v beside)
      (next_says d e next valid a v says);
}
  where
    by_table : (a v : ℕ) → ((a ≡ at) × (v ≡ value)) ⊎ ((a ≢ at) × (TableSays d a v ⊎ SaysRun first fresh a v))
        → ((a ≡ at) × (v ≡ value)) ⊎ ((a ≢ at) × (DiskSays d a v ⊎ SaysRun first fresh a v))
    by_table a v (inl here) = inl here
    by_table a v (inr there) = inr (
      there.0,
      ⊎_elim (λ (was : TableSays d a v). inl (table_said d a v was))
          (λ (run : SaysRun first fresh a v). inr run) there.1,
    )

    by_disk : (a v : ℕ) → SaysBeside d a v → ((a ≡ at) × (v ≡ value)) ⊎ ((a ≢ at) × (DiskSays d a v ⊎ SaysRun first fresh a v))
    by_disk a v beside = inr (
      λ e. beside.0 (subst (IsTableWord d.geometry) (sym e) (said_within d (good_of d valid) at is.said.value is.said.told)),
      inl beside.1,
    )

-- stores to words of the table leave the rest standing
module _ (d : Disk) (valid : IsValid d) (s t : State) (stands : Stands (DiskSays d) s) (only : StoresOnly (IsTableWord d.geometry) s t) where
  beside_before : Stands (SaysBeside d) s
  beside_before = record {
    within = λ a v beside. stands.within a v beside.1;
    reads = λ a v beside. stands.reads a v beside.1;
    settled = λ a v beside.
        stands.settled a v beside.1;
  }

  apart : (a v : ℕ) → SaysBeside d a v → IsTableWord d.geometry a → ⊥
  apart a v beside = beside.0

  after : Stands (SaysBeside d) t
  after = stands-stores (IsTableWord d.geometry) s t only (SaysBeside d) apart beside_before

  module _ (e : Disk) (next : IsNextDisk d e) where
    pub standing_table : Stands (TableSays e) t → Stands (DiskSays e) t
    standing_table table = record {
      within = λ a v says. ⊎_elim (λ (told : TableSays e a v). table.within a v told) (λ (beside : SaysBeside d a v). after.within a v beside)
          (next_says d e next valid a v says);
      reads = λ a v says. ⊎_elim (λ (told : TableSays e a v). table.reads a v told) (λ (beside : SaysBeside d a v). after.reads a v beside)
          (next_says d e next valid a v says);
      settled = λ a v says. ⊎_elim (λ (told : TableSays e a v). table.settled a v told) (λ (beside : SaysBeside d a v). after.settled a v beside)
          (next_says d e next valid a v says);
    }

    pub image_of_table : Agree t.now t.past → length t.now ≡ 512 * d.geometry.pages → (m : ℕ) (c : List ℕ) → moment s.past ≤ m → Left t.past m c
        → HoldsTable c e → StandsFor c e
    image_of_table agree size m c late left table =
        let beside = (leaves_only-stores (IsTableWord d.geometry) s t (SaysBeside d) only apart beside_before).each m c late left in
        stands_for_read e c next.valid
        (λ a v says. ⊎_elim (λ (told : TableSays e a v). table a v told) (λ (kept : SaysBeside d a v). beside a v kept)
        (next_says d e next valid a v says))
        (length-left t.past t.now m c agree left ∙ size ∙ ap (λ (x : Disk). 512 * x.geometry.pages) (sym next.same))

  -- where each image has the table of one of these disks, it stands for one of them
  pub table_images : (P : Disk → Type 0) → ((e : Disk) → P e → IsNextDisk d e) → Agree t.now t.past → length t.now ≡ 512 * d.geometry.pages
      → LeavesOnly s t (λ c. (e : Disk) × P e × HoldsTable c e) → LeavesOnly s t (λ c. (e : Disk) × P e × StandsFor c e)
  table_images P next agree size leaves = record {
    extends = leaves.extends;
    each = λ m c late left. let one = leaves.each m c late left in (
      one.0,
      one.1,
      image_of_table one.0 (next one.0 one.1) agree size m c late left
          one.2,
    );
  }
