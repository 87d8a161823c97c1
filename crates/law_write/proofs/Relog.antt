-- A disk whose one log grows: what it says differs at the tail and at fresh words alone.
use Rattle.std.proofs.Common.{
  ◌≡◌,
  ◌≢◌,
  ◌⊎◌,
  inl,
  inr,
  ⊎_elim,
  ℕ,
  zero,
  suc,
  ◌+◌,
  ◌*◌,
  ◌/◌,
  ◌%◌,
  ◌<◌,
  ◌≤◌,
  List,
  [],
  ◌∷◌,
  ◌++◌,
  refl,
  sym,
  ◌∙◌,
  ap,
  subst,
  arith,
}
use Rattle.std.specs.Prelude.{slice_index, IsSome}
use Rattle.std.proofs.lemmas.Bool.{cases_eq}
use Rattle.pm_device.specs.Reading.{DiffersAt}
use Rattle.pm_layout.specs.declared.Geometry.{Geometry}
use Rattle.pm_layout.specs.Geometry.{InData, inode_word, slot_word, pointer_word, direct_page, directs}
use Rattle.dn_model.specs.Log.{Log, LogSays, IsPaged, count, tail_at, at_tail, at_head, at_footer, at_slot}
use Rattle.dn_model.specs.Growth.{IsGrown, Prepared}
use Rattle.dn_model.specs.Table.{Row, RowsSay, at_field, at_next, at_later, ChainSays, at_direct_page, at_direct_next, at_row, row_of, rows_from}
use Rattle.dn_model.specs.Disk.{
  Disk,
  Inode,
  DiskSays,
  of_head,
  of_inodes,
  of_logs,
  of_chains,
  of_pointers,
  of_pages,
  HeadSays,
  at_magic,
  at_version,
  at_pages,
  at_inodes,
  at_gate,
  InodesSay,
  at_state,
  at_cut,
  LogsSay,
  ChainsSay,
  PointersSay,
  PagesSay,
  IsMapped,
  IsUsed,
  rows,
  state_number,
}
use Rattle.law_write.specs.Events.{Relogs, Fresh, in_log, in_page, IsReadPage}
use Rattle.dn_model.proofs.Regions.{inode_not_data}
use Rattle.dn_model.proofs.Append.{log_word_in_data}
use Rattle.dn_model.proofs.Append.{grown_differs}

inode_below_direct : (g : Geometry) (ino field : ℕ) → ino < g.inodes → field < 16 → inode_word ino field < 512 * direct_page g
inode_below_direct g ino field in_table small = omega arith

slot_above : (g : Geometry) (slot field : ℕ) → 512 * direct_page g ≤ slot_word g slot field
slot_above g slot field = omega arith

pointer_above : (g : Geometry) (page : ℕ) → 512 * direct_page g ≤ pointer_word g page
unfolding pointer_word
pointer_above g page = omega arith

rows_above : (g : Geometry) (rs : List Row) (a v : ℕ) → RowsSay g rs a v → 512 * direct_page g ≤ a
rows_above g [] a v says = elim says [ ]
rows_above g (row ∷ rs) a v (at_field j lt place value) = omega (arith, slot_above g row.slot j)
rows_above g (row ∷ rs) a v (at_next place value) = omega (arith, slot_above g row.slot 5)
rows_above g (row ∷ rs) a v (at_later later) = rows_above g rs a v later

chain_above : (g : Geometry) (d : ℕ) (rs : List Row) (a v : ℕ) → ChainSays g d rs a v → 512 * direct_page g ≤ a
chain_above g d rs a v (at_direct_page place value) = omega (arith, slot_above g d 0)
chain_above g d rs a v (at_direct_next place value) = omega (arith, slot_above g d 5)
chain_above g d rs a v (at_row row) = rows_above g rs a v row

-- the words of another log than this inode's are not its tail
other_log_not_tail : (g : Geometry) (i ino : ℕ) (log : Log) (a v : ℕ) → i ≢ ino → ino < g.inodes → IsPaged g log → LogSays i log a v
    → a ≢ inode_word ino 2
other_log_not_tail g i ino log a v ne in_table paged (at_tail place value) = λ e. ne (omega arith)
other_log_not_tail g i ino log a v ne in_table paged (at_head some place value) = λ e. omega arith
other_log_not_tail g i ino log a v ne in_table paged (at_footer k lt place value) =
    λ e. inode_not_data g ino 2 (slice_index log.pages k) 504 in_table (omega arith) (paged.in_data k (omega arith)) (sym e ∙ place)
other_log_not_tail g i ino log a v ne in_table paged (at_slot k j lt word place value) =
    λ e. inode_not_data g ino 2 (slice_index log.pages (k / 63)) (8 * (k % 63) + j) in_table (omega arith) (log_word_in_data g log k paged lt)
    (omega (arith, e, place))

pub rows-same : (f g : ℕ → List Row) (d n : ℕ) → ((p : ℕ) → g p ≡ f p) → rows_from g d n ≡ rows_from f d n
rows-same f g d zero same = refl
rows-same f g d (suc n) same = (λ i. same d i ++ rows-same f g (d + 1) n same i)

module _ (ino : ℕ) (old new : Disk) (is : Relogs ino old new) (grown : IsGrown (old.inode ino).log (new.inode ino).log)
    (in_table : ino < old.geometry.inodes) where
  pub same_use_of : (i : ℕ) → (new.inode i).use_of ≡ (old.inode i).use_of
  same_use_of i = elim (cases_eq i ino) [
    | inl e ↦ subst (λ (j : ℕ). (new.inode j).use_of ≡ (old.inode j).use_of) (sym e) is.same_use
    | inr ne ↦ ap (λ (n : Inode). n.use_of) (is.others i ne)
  ]

  pub same_rows : rows new ≡ rows old
  unfolding rows
  same_rows = ap (λ (g : Geometry). rows_from new.chain 0 (directs g)) is.geometry ∙ rows-same old.chain new.chain 0 (directs old.geometry) is.chain

  abbrev Differs : ℕ → ℕ → Type 0
  Differs a v = ((a ≡ inode_word ino 2) × (v ≡ tail_at (new.inode ino).log.pages (count (new.inode ino).log)))
      ⊎ ((a ≢ inode_word ino 2) × (DiskSays old a v ⊎ Fresh ino old new a v))

  head_differs : (a v : ℕ) → HeadSays new a v → Differs a v
  head_differs a v (at_magic place value) = inr (λ e. omega arith, inl (of_head (at_magic place value)))
  head_differs a v (at_version place value) = inr (λ e. omega arith, inl (of_head (at_version place value)))
  head_differs a v (at_pages place value) = inr
      (λ e. omega arith, inl (of_head (at_pages place (value ∙ ap (λ (g : Geometry). g.pages) is.geometry))))
  head_differs a v (at_inodes place value) = inr
      (λ e. omega arith, inl (of_head (at_inodes place (value ∙ ap (λ (g : Geometry). g.inodes) is.geometry))))
  head_differs a v (at_gate place value) = inr (λ e. omega arith, inl (of_head (at_gate place value)))

  below : (i : ℕ) → i < new.geometry.inodes → i < old.geometry.inodes
  below i lt = omega (arith, lt, ap (λ (g : Geometry). g.inodes) is.geometry)

  inodes_differ : (a v : ℕ) → InodesSay new a v → Differs a v
  inodes_differ a v (at_state i lt place value) = inr
      (λ e. omega arith, inl (of_inodes (at_state i (below i lt) place (value ∙ ap state_number (same_use_of i)))))
  inodes_differ a v (at_cut i c lt dying place value) = inr
      (λ e. omega arith, inl (of_inodes (at_cut i c (below i lt) (sym (same_use_of i) ∙ dying) place value)))

  logs_differ : ((i : ℕ) → i < old.geometry.inodes → IsUsed (old.inode i).use_of → IsPaged old.geometry (old.inode i).log)
      → IsPaged old.geometry (new.inode ino).log
      → IsUsed (old.inode ino).use_of → (a v : ℕ) → LogsSay new a v → Differs a v
  logs_differ paged paged' used a v told = elim (cases_eq told.ino ino) [
    | inl e ↦ ⊎_elim (λ tail. inl tail)
        (λ rest. inr (
          rest.0,
          ⊎_elim
              (λ (before : LogSays ino (old.inode ino).log a v). inl
              (of_logs (record { ino = ino; in_table = in_table; used = used; says = before })))
              (λ (fresh : Prepared ino (old.inode ino).log (new.inode ino).log a v). inr (in_log fresh)) rest.1,
        ))
        (grown_differs old.geometry ino (old.inode ino).log (new.inode ino).log grown (paged ino in_table used) paged' in_table a v
        (subst (λ (i : ℕ). LogSays i (new.inode i).log a v) e told.says))
    | inr ne ↦
        let here : told.ino < old.geometry.inodes = below told.ino told.in_table in
        let was_used : IsUsed (old.inode told.ino).use_of = subst IsUsed (same_use_of told.ino) told.used in
        let says : LogSays told.ino (old.inode told.ino).log a v = subst (λ (n : Inode). LogSays told.ino n.log a v) (is.others told.ino ne) told.says
        in
        inr (
          other_log_not_tail old.geometry told.ino ino (old.inode told.ino).log a v ne in_table (paged told.ino here was_used) says,
          inl (of_logs (record { ino = told.ino; in_table = here; used = was_used; says = says })),
        )
  ]

  tail_low : inode_word ino 2 < 512 * direct_page old.geometry
  tail_low = inode_below_direct old.geometry ino 2 in_table (omega arith)

  chains_differ : (a v : ℕ) → ChainsSay new a v → Differs a v
  chains_differ a v told =
      let says : ChainSays old.geometry told.prefix (old.chain told.prefix) a v =
      subst (λ (g : Geometry). ChainSays g told.prefix (old.chain told.prefix) a v) is.geometry
      (subst (λ (rs : List Row). ChainSays new.geometry told.prefix rs a v) (is.chain told.prefix) told.says) in
      inr (
        λ e. omega (arith, tail_low, chain_above old.geometry told.prefix (old.chain told.prefix) a v says),
        inl (of_chains (record {
          prefix = told.prefix;
          direct = subst (λ (g : Geometry). told.prefix < directs g) is.geometry told.direct;
          says = says;
        })),
      )

  pointers_differ : (a v : ℕ) → PointersSay new a v → Differs a v
  pointers_differ a v told =
      let place : a ≡ pointer_word old.geometry told.page = told.place ∙ ap (λ (g : Geometry). pointer_word g told.page) is.geometry in
      inr (
        λ e. omega (arith, tail_low, place, pointer_above old.geometry told.page),
        inl (of_pointers (record {
          page = told.page;
          in_image = subst (λ (g : Geometry). told.page < g.pages) is.geometry told.in_image;
          place = place;
          value = told.value ∙ is.pointer told.page;
        })),
      )

  pages_differ : ((page : ℕ) → IsReadPage new page → InData old.geometry page)
      → ((page : ℕ) → IsMapped new page → IsReadPage old page ⊎ (IsReadPage old page → ⊥)) → (a v : ℕ) → PagesSay new a v → Differs a v
  pages_differ in_data decide a v told = inr (
    (λ e. inode_not_data old.geometry ino 2 told.page told.k in_table (omega arith) (in_data told.page told.read) (sym e ∙ told.place)),
    ⊎_elim
        (λ (mapped : IsMapped new told.page). ⊎_elim
        (λ (before : IsReadPage old told.page). inl (was before))
        (λ (not : IsReadPage old told.page → ⊥). inr (in_page told.page told.k told.in_page mapped not told.place told.value))
        (decide told.page mapped))
        (λ (row : IsSome (row_of (rows new) told.page)). inl (was (inr (subst (λ (rs : List Row). IsSome (row_of rs told.page)) same_rows row))))
        told.read,
  )
    where
      was : IsReadPage old told.page → DiskSays old a v
      was before = of_pages (record {
        page = told.page;
        k = told.k;
        in_page = told.in_page;
        read = before;
        place = told.place;
        value = told.value ∙ is.word told.page told.k before;
      })

  -- all that the new disk says: the tail, what the old one says, and fresh words
  pub relogged_differs : ((i : ℕ) → i < old.geometry.inodes → IsUsed (old.inode i).use_of → IsPaged old.geometry (old.inode i).log)
      → IsPaged old.geometry (new.inode ino).log
      → IsUsed (old.inode ino).use_of → ((page : ℕ) → IsReadPage new page → InData old.geometry page)
      → ((page : ℕ) → IsMapped new page → IsReadPage old page ⊎ (IsReadPage old page → ⊥))
      → DiffersAt (DiskSays old) (DiskSays new) (Fresh ino old new) (inode_word ino 2) (tail_at (new.inode ino).log.pages (count (new.inode ino).log))
  relogged_differs paged paged' used in_data decide a v (of_head told) = head_differs a v told
  relogged_differs paged paged' used in_data decide a v (of_inodes told) = inodes_differ a v told
  relogged_differs paged paged' used in_data decide a v (of_logs told) = logs_differ paged paged' used a v told
  relogged_differs paged paged' used in_data decide a v (of_chains told) = chains_differ a v told
  relogged_differs paged paged' used in_data decide a v (of_pointers told) = pointers_differ a v told
  relogged_differs paged paged' used in_data decide a v (of_pages told) = pages_differ in_data decide a v told
