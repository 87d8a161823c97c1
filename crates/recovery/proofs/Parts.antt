-- Words that were made are all that is read of a file system without files.
use Rattle.std.proofs.Common.{
  ◌≡◌,
  ◌≢◌,
  ◌⊎◌,
  inl,
  inr,
  ⊎_elim,
  ℕ,
  zero,
  suc,
  ◌+◌,
  ◌-◌,
  ◌*◌,
  ◌/◌,
  ◌%◌,
  ◌<◌,
  ◌≤◌,
  Bool,
  true,
  false,
  List,
  [],
  refl,
  sym,
  ◌∙◌,
  ap,
  arith,
}
use Rattle.std.specs.Prelude.{slice_index, ◌||◌}
use Rattle.std.proofs.lemmas.Bool.{cases_lt, cases_eq}
use Rattle.std.proofs.lemmas.Bool.Decides.{nat_tests}
use Rattle.pm_device.specs.Reading.{Said}
use Rattle.pm_layout.specs.declared.Geometry.{Geometry}
use Rattle.pm_layout.specs.Geometry.{IsAccepted, first_data, directs, inode_word, slot_word, pointer_word, gate_word}
use Rattle.dn_model.specs.Log.{no_log, LogSays, at_tail, at_head, at_footer, at_slot, count, tail_at}
use Rattle.dn_model.specs.Table.{ChainSays, at_direct_page, at_direct_next, at_row}
use Rattle.dn_model.specs.Disk.{
  DiskSays,
  IsUsed,
  Dying,
  state_number,
  of_head,
  of_inodes,
  of_logs,
  of_chains,
  of_pointers,
  of_pages,
  HeadSays,
  at_magic,
  at_version,
  at_pages,
  at_inodes,
  at_gate,
  at_state,
  at_cut,
}
use Rattle.dn_model.proofs.Regions.{inode_word_low}
use Rattle.law_write.proofs.Unread.{slot_word_low, pointer_word_low}
use Rattle.dn_model.specs.Empty.{empty_inode, empty_disk}
use Rattle.recovery.specs.Tables.{is_inode_part, is_direct_part, is_pointer, is_table_part, HasParts}
use Rattle.recovery.proofs.EmptyDisk.{count-none, unread}
use Rattle.recovery.proofs.Making.{table_word-out, table_word-root, table_word-zero}

-- tests of numbers
or_first : (a b c : Bool) → a ≡ true → (a || (b || c)) ≡ true
or_first a b c e = ap (λ (x : Bool). x || (b || c)) e

or_second : (a b c : Bool) → b ≡ true → (a || (b || c)) ≡ true
or_second true b c e = refl
or_second false b c e = ap (λ (x : Bool). x || c) e

or_third : (a b c : Bool) → c ≡ true → (a || (b || c)) ≡ true
or_third true b c e = refl
or_third false true c e = refl
or_third false false c e = e

or_cases : (a b c : Bool) → (a || (b || c)) ≡ true → (a ≡ true) ⊎ (b ≡ true) ⊎ (c ≡ true)
or_cases true b c e = inl refl
or_cases false true c e = inr (inl refl)
or_cases false false c e = inr (inr e)

module _ (g : Geometry) (a : ℕ) where
  inode_part : 1024 ≤ a → a < 1024 + 16 * g.inodes → (a % 16 ≡ 0) ⊎ (a ≡ 1026) → is_table_part g a ≡ true
  inode_part low high place = or_first (is_inode_part g a) (is_direct_part g a) (is_pointer g a) (told low high place)
    where
      told : 1024 ≤ a → a < 1024 + 16 * g.inodes → (a % 16 ≡ 0) ⊎ (a ≡ 1026) → is_inode_part g a ≡ true
      told low high place = grind (arith, nat_tests)

  direct_part : slot_word g 0 0 ≤ a → a < slot_word g 0 0 + 8 * directs g → (a % 8 ≡ 0) ⊎ (a % 8 ≡ 5) → is_table_part g a ≡ true
  direct_part low high place = or_second (is_inode_part g a) (is_direct_part g a) (is_pointer g a) (told low high place)
    where
      told : slot_word g 0 0 ≤ a → a < slot_word g 0 0 + 8 * directs g → (a % 8 ≡ 0) ⊎ (a % 8 ≡ 5) → is_direct_part g a ≡ true
      told low high place = grind (arith, nat_tests)

  pointer_part : pointer_word g 0 ≤ a → a < pointer_word g 0 + g.pages → is_table_part g a ≡ true
  pointer_part low high = or_third (is_inode_part g a) (is_direct_part g a) (is_pointer g a) (told low high)
    where
      told : pointer_word g 0 ≤ a → a < pointer_word g 0 + g.pages → is_pointer g a ≡ true
      told low high = grind (arith, nat_tests)

  of_inode_part : is_inode_part g a ≡ true → (1024 ≤ a) × (a < 1024 + 16 * g.inodes) × ((a % 16 ≡ 0) ⊎ (a ≡ 1026))
  of_inode_part part = grind (arith, nat_tests)

  of_direct_part : is_direct_part g a ≡ true → (slot_word g 0 0 ≤ a) × (a < slot_word g 0 0 + 8 * directs g) × ((a % 8 ≡ 0) ⊎ (a % 8 ≡ 5))
  of_direct_part part = grind (arith, nat_tests)

  of_pointer : is_pointer g a ≡ true → (pointer_word g 0 ≤ a) × (a < pointer_word g 0 + g.pages)
  of_pointer part = grind (arith, nat_tests)

pointer_at : (g : Geometry) (page : ℕ) → pointer_word g page ≡ pointer_word g 0 + page
unfolding pointer_word
pointer_at g page = omega arith

pointer_high : (g : Geometry) → 8 ≤ g.inodes → 1536 ≤ pointer_word g 0
unfolding pointer_word
pointer_high g some = omega arith

-- the magic
abbrev pub IsMagic : ℕ → ℕ → Type 0
IsMagic a v = (a ≡ 0) × (v ≡ 0x313041564F4E4544)

-- a word behind it, below the data area, is this
pub record Made (g : Geometry) (u : List ℕ) (a v : ℕ) : Type 0 where
  pub low : a < 512 * first_data g
  pub behind : a ≢ 0
  pub is : slice_index u a ≡ v

module _ (g : Geometry) (w u : List ℕ) (accepted : IsAccepted g) (has : HasParts g w u) where
  at_word : (a b v x : ℕ) → a ≡ b → v ≡ x → b < 1024 → b ≢ 0 → slice_index u b ≡ x → 2 ≤ first_data g → Made g u a v
  at_word a b v x place value small behind is some = record {
    low = omega arith;
    behind = λ e. behind (sym place ∙ e);
    is = ap (slice_index u)
        place ∙ is ∙ sym value;
  }

  made_zero : (a v : ℕ) → 1024 < a → a < 512 * first_data g → is_table_part g a ≡ true → v ≡ 0 → Made g u a v
  made_zero a v high low part value = record {
    low = low;
    behind = λ e. omega arith;
    is = has.tables a (omega arith) low ∙ table_word-zero g a
        (slice_index w a) part (λ e. omega arith) ∙ sym value;
  }

  made_head : (a v : ℕ) → HeadSays (empty_disk g) a v → 2 ≤ first_data g → IsMagic a v ⊎ Made g u a v
  made_head a v (at_magic place value) some = inl (place, value)
  made_head a v (at_version place value) some = inr (at_word a 1 v 1 place value (omega arith) (λ e. omega arith) has.version some)
  made_head a v (at_pages place value) some = inr (at_word a 2 v g.pages place value (omega arith) (λ e. omega arith) has.pages some)
  made_head a v (at_inodes place value) some = inr (at_word a 3 v g.inodes place value (omega arith) (λ e. omega arith) has.inodes some)
  made_head a v (at_gate place value) some = inr (at_word a gate_word v 0 place value (omega arith) (λ e. omega arith) has.gate some)

  made_state : (ino a v : ℕ) → ino < g.inodes → a ≡ inode_word ino 0 → v ≡ state_number (empty_inode ino).use_of → Made g u a v
  made_state zero a v lt place value =
      let low : a < 512 * first_data g = omega (arith, place, inode_word_low g 0 0 lt (omega arith)) in
      record {
        low = low;
        behind = λ e. omega (arith, place, e);
        is = has.tables a (omega (arith, place)) low
            ∙ table_word-root g a (slice_index w a) (inode_part g a (omega (arith, place)) (omega (arith, place, lt)) (inl (omega (arith, place))))
            (omega (arith, place)) ∙ sym value;
      }
  made_state (suc k) a v lt place value =
      made_zero a v (omega (arith, place)) (omega (arith, place, inode_word_low g (suc k) 0 lt (omega arith)))
      (inode_part g a (omega (arith, place)) (omega (arith, place, lt)) (inl (omega (arith, place)))) value

  not_dying : (ino c : ℕ) → (empty_inode ino).use_of ≡ Dying c → ⊥
  not_dying zero c e = cc
  not_dying (suc k) c e = cc

  made_log : (ino a v : ℕ) → ino < g.inodes → IsUsed (empty_inode ino).use_of → LogSays ino (empty_inode ino).log a v → Made g u a v
  made_log zero a v lt used (at_tail place value) =
      made_zero a v (omega (arith, place)) (omega (arith, place, inode_word_low g 0 2 lt (omega arith)))
      (inode_part g a (omega (arith, place)) (omega (arith, place, lt)) (inr place)) (value ∙ ap (tail_at []) count-none)
  made_log zero a v lt used (at_head some place value) = absurd (omega (arith, some, count-none))
  made_log zero a v lt used (at_footer k more place value) = absurd (omega arith)
  made_log zero a v lt used (at_slot k j below word place value) = absurd (omega (arith, below, count-none))
  made_log (suc k) a v lt used says = absurd used

  made_chain : (p a v : ℕ) → p < directs g → ChainSays g p [] a v → Made g u a v
  made_chain p a v lt (at_direct_page place value) =
      made_zero a v (omega (arith, place, accepted.inodes)) (omega (arith, place, slot_word_low g p 0 (omega (arith, lt)) (omega arith)))
      (direct_part g a (omega (arith, place)) (omega (arith, place, lt)) (inl (omega (arith, place)))) value
  made_chain p a v lt (at_direct_next place value) =
      made_zero a v (omega (arith, place, accepted.inodes)) (omega (arith, place, slot_word_low g p 5 (omega (arith, lt)) (omega arith)))
      (direct_part g a (omega (arith, place)) (omega (arith, place, lt)) (inr (omega (arith, place)))) value
  made_chain p a v lt (at_row row) = elim row [ ]

  made_pointer : (page a v : ℕ) → page < g.pages → a ≡ pointer_word g page → v ≡ 0 → Made g u a v
  made_pointer page a v lt place value =
      let at = pointer_at g page in let high = pointer_high g accepted.inodes in
      made_zero a v (omega (arith, place, at, high)) (omega (arith, place, pointer_word_low g page lt)) (pointer_part g a (omega (arith, place, at))
      (omega (arith, place, at, lt))) value

  pub made : (a v : ℕ) → 2 ≤ first_data g → DiskSays (empty_disk g) a v → IsMagic a v ⊎ Made g u a v
  made a v some (of_head says) = made_head a v says some
  made a v some (of_inodes (at_state ino lt place value)) = inr (made_state ino a v lt place value)
  made a v some (of_inodes (at_cut ino c lt dying place value)) = absurd (not_dying ino c dying)
  made a v some (of_logs told) = inr (made_log told.ino a v told.in_table told.used told.says)
  made a v some (of_chains told) = inr (made_chain told.prefix a v told.direct told.says)
  made a v some (of_pointers told) = inr (made_pointer told.page a v told.in_image told.place told.value)
  made a v some (of_pages told) = absurd (unread g told.page told.read)

  -- a word of the tables that is made is read
  said_inode : (a : ℕ) → is_inode_part g a ≡ true → Said (DiskSays (empty_disk g)) a
  said_inode a part =
      let is = of_inode_part g a part in
      ⊎_elim
      (λ (whole : a % 16 ≡ 0). record {
        value = state_number (empty_inode ((a - 1024) / 16)).use_of;
        told = of_inodes (at_state ((a - 1024) / 16) (omega (arith, is.0, is.1, whole)) (omega (arith, is.0, whole)) refl);
      })
      (λ (tail : a ≡ 1026). record {
        value = tail_at [] (count no_log);
        told = of_logs (record { ino = 0; in_table = omega (arith, accepted.inodes); used = tt; says = at_tail tail refl });
      })
      is.2

  said_direct : (a : ℕ) → is_direct_part g a ≡ true → Said (DiskSays (empty_disk g)) a
  said_direct a part =
      let is = of_direct_part g a part in
      let slot : ℕ = (a - slot_word g 0 0) / 8 in
      let lt : slot < directs g = omega (arith, is.0, is.1) in
      ⊎_elim
      (λ (page : a % 8 ≡ 0). record
      { value = 0; told = of_chains (record { prefix = slot; direct = lt; says = at_direct_page (omega (arith, is.0, page)) refl }) })
      (λ (next : a % 8 ≡ 5). record
      { value = 0; told = of_chains (record { prefix = slot; direct = lt; says = at_direct_next (omega (arith, is.0, next)) refl }) })
      is.2

  said_pointer : (a : ℕ) → is_pointer g a ≡ true → Said (DiskSays (empty_disk g)) a
  said_pointer a part =
      let is = of_pointer g a part in
      record {
        value = 0;
        told = of_pointers (record {
          page = a - pointer_word g 0;
          in_image = omega (arith, is.0, is.1);
          place = omega (arith, is.0, pointer_at g (a - pointer_word g 0));
          value = refl;
        });
      }

  said_part : (a : ℕ) → is_table_part g a ≡ true → Said (DiskSays (empty_disk g)) a
  said_part a part = elim (or_cases (is_inode_part g a) (is_direct_part g a) (is_pointer g a) part) [
    | inl inode ↦ said_inode a inode
    | inr (inl direct) ↦ said_direct a direct
    | inr (inr pointer) ↦ said_pointer a pointer
  ]

  kept_part : (a : ℕ) → (Said (DiskSays (empty_disk g)) a → ⊥) → (b : Bool) → is_table_part g a ≡ b → 1024 ≤ a → a < 512 * first_data g
      → slice_index u a ≡ slice_index w a
  kept_part a none true part high low = absurd (none (said_part a part))
  kept_part a none false part high low = has.tables a high low ∙ table_word-out g a (slice_index w a) part

  -- a word that isn't read is kept
  pub kept : (a : ℕ) → (Said (DiskSays (empty_disk g)) a → ⊥) → slice_index u a ≡ slice_index w a
  kept a none = elim (cases_lt a 1024) [
    | inl small ↦ has.others a (outside a none) (λ e. none (record { value = 0; told = of_head (at_gate e refl) })) (inl small)
    | inr high ↦ elim (cases_lt a (512 * first_data g)) [
      | inl low ↦ kept_part a none (is_table_part g a) refl high low
      | inr past ↦ has.others a (inr (omega arith)) (λ e. omega arith) (inr past)
    ]
  ]
    where
      outside : (a : ℕ) → (Said (DiskSays (empty_disk g)) a → ⊥) → (a < 1) ⊎ (3 < a)
      outside a none = elim (cases_lt 3 a) [
        | inl lt ↦ inr lt
        | inr le ↦ elim (cases_eq a 1) [
          | inl e ↦ absurd (none (record { value = 1; told = of_head (at_version e refl) }))
          | inr ne ↦ elim (cases_eq a 2) [
            | inl e ↦ absurd (none (record { value = g.pages; told = of_head (at_pages e refl) }))
            | inr ne' ↦ elim (cases_eq a 3) [
              | inl e ↦ absurd (none (record { value = g.inodes; told = of_head (at_inodes e refl) }))
              | inr ne'' ↦ inl (omega arith)
            ]
          ]
        ]
      ]
