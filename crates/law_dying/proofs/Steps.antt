-- The two steps of a dying inode: its cut falls to its greatest mapped place; and without places it ends.
use Rattle.std.proofs.Common.{◌≡◌, ◌≢◌, ◌⊎◌, inl, inr, ⊎_elim, ℕ, ◌<◌, ◌≤◌, Bool, true, false, List, [], ◌∷◌, refl, sym, ◌∙◌, ap, subst, arith}
use Rattle.std.specs.Prelude.{if◌then◌else◌, nat_lt, Some, None, IsNone, All, Contains}
use Rattle.std.specs.Option.{option_map}
use Rattle.std.proofs.lemmas.List.{get_or_default}
use Rattle.std.proofs.lemmas.Bool.{cases_eq, cases_lt}
use Rattle.std.proofs.lemmas.Bool.Decides.{nat_tests}
use Rattle.std.proofs.lemmas.List.Elements.{All-contains}
use Rattle.pm_layout.specs.declared.Geometry.{Geometry}
use Rattle.pm_layout.specs.Geometry.{InData}
use Rattle.dn_model.specs.Log.{Log}
use Rattle.dn_model.specs.Maps.{Mapping, mapping}
use Rattle.dn_model.specs.Table.{Row, row_of}
use Rattle.dn_model.specs.Disk.{Disk, Inode, Use, Free, Dying, IsUsed, IsMapped, maps, maps_by_use, rows}
use Rattle.dn_model.specs.Counts.{mappings, IsLogPage, IsFree, IsNear, Near, Exact}
use Rattle.dn_model.specs.Valid.{IsCut}
use Rattle.law_write.proofs.Unread.{read_in_data}
use Rattle.law_table_on_disk.specs.MappingLaws.{LowersCut, UnmapsPlace, AddsMapping}
use Rattle.law_table_on_disk.proofs.Mappings.{counted_mapped, place_unmapped, blocks_tell, near_stays}
use Rattle.law_table_on_disk.proofs.Remaps.{lowered_cut_unmaps}
use Rattle.law_table.proofs.Rows.{all_listed, listed_here, listed_later, listed_cases, none_listed}
use Rattle.law_dying.specs.Dying.{Falls, Ends, stepped, MayFall, MayEnd, DropsPlace, DropsLog}
use Rattle.law_dying.proofs.Stepped.{at_ino, at_other, same_geometry, same_rows}
use Rattle.law_dying.proofs.Dropped.{MayStep, below, above, to_new, log_page_only, log_page_other}

test_below : (a b : ℕ) → a < b → nat_lt a b ≡ true
test_below a b lt = grind (arith, nat_tests)

test_past : (a b : ℕ) → b ≤ a → nat_lt a b ≡ false
test_past a b le = grind (arith, nat_tests)

-- what a dying inode maps lies below its cut
dying_maps : (cut idx : ℕ) (log : Log) (m : Mapping) → maps_by_use (Dying cut) log idx ≡ Some m → (idx < cut) × (mapping log idx ≡ Some m)
dying_maps cut idx log m is = by_test (nat_lt idx cut) refl is
  where
    below_cut : (a b : ℕ) → nat_lt a b ≡ true → a < b
    below_cut a b t = grind (arith, nat_tests)

    by_test : (b : Bool) → nat_lt idx cut ≡ b → (if b then mapping log idx else None) ≡ Some m → (idx < cut) × (mapping log idx ≡ Some m)
    by_test true t e = (below_cut idx cut t, e)
    by_test false t e = cc

-- a page is in a list, or it isn't
listed_or_not : (xs : List ℕ) (x : ℕ) → Contains xs x ⊎ (Contains xs x → ⊥)
listed_or_not [] x = inr (λ has. omega (arith, has.1))
listed_or_not (y ∷ xs) x = elim (cases_eq y x) [
  | inl e ↦ inl (subst (Contains (y ∷ xs)) e (listed_here y xs))
  | inr ne ↦ ⊎_elim (λ (has : Contains xs x). inl (listed_later y xs x has))
      (λ not. inr (λ has. ⊎_elim (λ (e : y ≡ x). ne e) not (listed_cases y xs x has))) (listed_or_not xs x)
]

maps_dying : (d : Disk) (ino before : ℕ) → (d.inode ino).use_of ≡ Dying before → (idx : ℕ) → maps d ino idx ≡ maps_by_use (Dying before)
    (d.inode ino).log idx
unfolding maps
maps_dying d ino before dying idx = ap (λ (u : Use). maps_by_use u (d.inode ino).log idx) dying

module _ (d : Disk) (ino cut : ℕ) (may : MayFall d ino cut) where
  abbrev new : Disk
  new = stepped d ino (Falls cut)

  here_before : (cut < may.before) × (mapping (d.inode ino).log cut ≡ Some may.by)
  here_before = dying_maps may.before cut (d.inode ino).log may.by (sym (maps_dying d ino may.before may.dying cut) ∙ may.mapped)

  cut_small : may.before ≤ 4096
  cut_small = subst IsCut may.dying (may.valid.cuts ino may.in_table)

  greatest : (j : ℕ) → cut < j → maps d ino j ≡ None
  greatest j above_cut = elim (cases_lt j may.before) [
    | inl lt ↦ may.greatest j above_cut lt
    | inr past ↦ maps_dying d ino may.before may.dying j ∙ ap (λ (b : Bool). if b then mapping (d.inode ino).log j else None)
        (test_past j may.before past)
  ]

  pub fall_lowers : LowersCut ino cut may.before d new
  fall_lowers = record {
    inodes = ap (λ (g : Geometry). g.inodes) (same_geometry d ino (Falls cut));
    in_table = may.in_table;
    others = at_other d ino (Falls cut);
    same_log = ap (λ (n : Inode). n.log) (at_ino d ino (Falls cut));
    was = may.dying;
    now = ap (λ (n : Inode). n.use_of) (at_ino d ino (Falls cut));
    below = here_before.0;
    in_file = omega (arith, here_before.0, cut_small);
    greatest = greatest;
  }

  abbrev unmaps : UnmapsPlace ino cut d new
  unmaps = lowered_cut_unmaps ino cut may.before d new fall_lowers

  adds : AddsMapping may.by.block new d
  adds = place_unmapped ino cut d new unmaps.remaps may.by may.mapped unmaps.gone

  near_row : (row : Row) → Contains (rows d) row → (row.page ≡ may.by.block) ⊎ (row.page ≢ may.by.block)
      → (mappings new row.page ≡ mappings d row.page) ⊎ IsNear new row
  near_row row has (inr ne) = inl (sym (adds.others row.page ne))
  near_row row has (inl e) =
      let was = All-contains (IsNear d) (rows d) row may.valid.near has in
      let new_here : mappings new row.page ≡ mappings new may.by.block = ap (mappings new) e in
      let old_here : mappings d row.page ≡ mappings d may.by.block = ap (mappings d) e in
      inr (omega (arith, was.0, adds.more, new_here, old_here), omega (arith, may.counted row has e, adds.more, new_here))

  less : (idx : ℕ) (m : Mapping) → maps_by_use (Dying cut) (d.inode ino).log idx ≡ Some m → maps d ino idx ≡ Some m
  less idx m is =
      let both = dying_maps cut idx (d.inode ino).log m is in
      maps_dying d ino may.before may.dying idx ∙ ap (λ (b : Bool). if b then mapping (d.inode ino).log idx else None)
      (test_below idx may.before (omega (arith, both.0, here_before.0))) ∙ both.1

  pub fall_steps : MayStep d ino (Falls cut)
  fall_steps = record {
    valid = may.valid;
    in_table = may.in_table;
    before = may.before;
    dying = may.dying;
    small = omega (arith, here_before.0, cut_small);
    less = less;
    near = near_stays d new (same_rows d ino (Falls cut)) may.valid.near (λ row has. near_row row has (cases_eq row.page may.by.block));
  }

  block_mapped : IsMapped d may.by.block
  block_mapped = record {
    ino = ino;
    idx = cut;
    maps_to = record {
      in_table = may.in_table;
      in_file = omega (arith, here_before.0, cut_small);
      by = may.by;
      is = may.mapped;
      block = refl;
    };
  }

  freed : IsNone (row_of (rows d) may.by.block) → IsFree new may.by.block
  freed none = record {
    data_page = to_new d ino (Falls cut) fall_steps may.by.block (read_in_data d may.valid may.by.block (inl block_mapped));
    in_no_log = λ p. may.valid.single.log_unmapped may.by.block (log_page_only d ino (Falls cut) fall_steps may.by.block p) block_mapped;
    unmapped = omega (arith, adds.more, may.valid.single.unshared may.by.block none);
  }

  -- its log pages stay
  log_page_kept : (page : ℕ) (p : IsLogPage d page) → (p.ino ≡ ino) ⊎ (p.ino ≢ ino) → IsLogPage new page
  log_page_kept page p (inl e) = record {
    ino = ino;
    in_table = above d ino (Falls cut) fall_steps ino may.in_table;
    used = subst (λ (n : Inode). IsUsed n.use_of) (sym (at_ino d ino (Falls cut))) tt;
    listed = subst (λ (n : Inode). Contains n.log.pages page) (sym (at_ino d ino (Falls cut))) (subst (λ (i : ℕ). Contains (d.inode i).log.pages page)
        e p.listed);
  }
  log_page_kept page p (inr ne) = log_page_other d ino (Falls cut) fall_steps page p ne

  free_only : (other : ℕ) → IsFree new other → IsFree d other ⊎ (other ≡ may.by.block)
  free_only other free = elim (cases_eq other may.by.block) [
    | inl e ↦ inr e
    | inr ne ↦ inl (record {
      data_page = subst (λ (g : Geometry). InData g other) (same_geometry d ino (Falls cut)) free.data_page;
      in_no_log = λ p. free.in_no_log (log_page_kept other p (cases_eq p.ino ino));
      unmapped = adds.others other ne ∙ free.unmapped;
    })
  ]

  abbrev IsExactRow : Disk → Row → Type 0
  IsExactRow e row = (row.uc ≡ 0) × (row.rfc ≡ mappings e row.page) × (row.rfc ≢ 0)

  exact_kept : IsNone (row_of (rows d) may.by.block) → Exact d → Exact new
  exact_kept none exact = record {
    counts = subst (All (IsExactRow new)) (sym (same_rows d ino (Falls cut))) (all_listed (IsExactRow new) (rows d) (λ row has.
        let was = All-contains (IsExactRow d) (rows d) row exact.counts has in
        (was.0, was.1 ∙ adds.others row.page (none_listed (rows d) may.by.block none row has), was.2)));
    unshared = λ page no_row. elim (cases_eq page may.by.block) [
      | inl e ↦ let here : mappings new page ≡ mappings new may.by.block = ap (mappings new) e in
          omega (arith, here, adds.more, exact.unshared may.by.block none)
      | inr ne ↦ omega (
        arith,
        adds.others page ne,
        exact.unshared page (subst (λ (rs : List Row). IsNone (row_of rs page))
            (same_rows d ino (Falls cut)) no_row),
      )
    ];
  }

  pub fall_drops : DropsPlace d new may.by.block
  fall_drops = record {
    one_less = sym adds.more;
    others = λ other ne. sym (adds.others other ne);
    freed = freed;
    free_only = free_only;
    exact = exact_kept;
  }

module _ (d : Disk) (ino : ℕ) (may : MayEnd d ino) where
  abbrev ended : Disk
  ended = stepped d ino Ends

  no_less : (idx : ℕ) (m : Mapping) → maps_by_use Free (d.inode ino).log idx ≡ Some m → maps d ino idx ≡ Some m
  no_less idx m is = cc

  maps_ended : (i idx : ℕ) → maps ended i idx ≡ maps d i idx
  unfolding maps
  maps_ended i idx = elim (cases_eq i ino) [
    | inl e ↦ ap (λ (n : Inode). maps_by_use n.use_of n.log idx) (ap ended.inode e ∙ at_ino d ino Ends) ∙ sym (may.unmapped idx) ∙ ap
        (λ (j : ℕ). maps d j idx) (sym e)
    | inr ne ↦ ap (λ (n : Inode). maps_by_use n.use_of n.log idx) (at_other d ino Ends i ne)
  ]

  mappings_ended : (page : ℕ) → mappings ended page ≡ mappings d page
  mappings_ended = blocks_tell d ended (ap (λ (g : Geometry). g.inodes) (same_geometry d ino Ends))
      (λ i idx lt. ap (option_map (λ (m : Mapping). m.block)) (maps_ended i idx))

  near_ended : Near d → Near ended
  near_ended near = near_stays d ended (same_rows d ino Ends) near (λ row has. inl (mappings_ended row.page))

  pub end_steps : MayStep d ino Ends
  end_steps = record {
    valid = may.valid;
    in_table = may.in_table;
    before = may.before;
    dying = may.dying;
    small = tt;
    less = no_less;
    near = near_ended may.valid.near;
  }

  was_log_page : (page : ℕ) → Contains (d.inode ino).log.pages page → IsLogPage d page
  was_log_page page listed = record { ino = ino; in_table = may.in_table; used = subst IsUsed (sym may.dying) tt; listed = listed }

  -- a log page that is left is another inode's
  log_page_left : (page : ℕ) → Contains (d.inode ino).log.pages page → IsLogPage ended page → ⊥
  log_page_left page listed p = elim (cases_eq p.ino ino) [
    | inl e ↦ subst (λ (n : Inode). IsUsed n.use_of) (ap ended.inode e ∙ at_ino d ino Ends) p.used
    | inr ne ↦ ne (may.valid.single.one_log p.ino ino page (below d ino Ends end_steps p.ino p.in_table) may.in_table
        (subst (λ (n : Inode). IsUsed n.use_of) (at_other d ino Ends p.ino ne) p.used) (subst IsUsed (sym may.dying) tt)
        (subst (λ (n : Inode). Contains n.log.pages page) (at_other d ino Ends p.ino ne) p.listed) listed)
  ]

  unmapped_log : (page : ℕ) → IsLogPage d page → mappings d page ≡ 0
  unmapped_log page p = elim (cases_eq (mappings d page) 0) [
    | inl none ↦ none
    | inr some ↦ absurd (may.valid.single.log_unmapped page p (counted_mapped d page (omega (arith, some))))
  ]

  log_freed : (page : ℕ) → Contains (d.inode ino).log.pages page → IsFree ended page
  log_freed page listed = record {
    data_page = to_new d ino Ends end_steps page (in_data listed);
    in_no_log = log_page_left page listed;
    unmapped = mappings_ended page ∙ unmapped_log page (was_log_page page listed);
  }
    where
      in_data : Contains (d.inode ino).log.pages page → InData d.geometry page
      in_data has =
          let paged = (may.valid.logs ino may.in_table (subst IsUsed (sym may.dying) tt)).paged in
          subst (InData d.geometry) has.2 (subst (InData d.geometry) (get_or_default (d.inode ino).log.pages has.0 0 page has.1)
          (paged.in_data has.0 has.1))

  free_ended : (page : ℕ) → IsFree ended page → IsFree d page ⊎ Contains (d.inode ino).log.pages page
  free_ended page free = elim (listed_or_not (d.inode ino).log.pages page) [
    | inl listed ↦ inr listed
    | inr not ↦ inl (record {
      data_page = subst (λ (g : Geometry). InData g page) (same_geometry d ino Ends) free.data_page;
      in_no_log = λ p. elim (cases_eq p.ino ino) [
        | inl e ↦ not (subst (λ (i : ℕ). Contains (d.inode i).log.pages page) e p.listed)
        | inr ne ↦ free.in_no_log (log_page_other d ino Ends end_steps page p ne)
      ];
      unmapped = sym (mappings_ended page) ∙ free.unmapped;
    })
  ]

  abbrev IsExactIn : Disk → Row → Type 0
  IsExactIn e row = (row.uc ≡ 0) × (row.rfc ≡ mappings e row.page) × (row.rfc ≢ 0)

  exact_ended : Exact d → Exact ended
  exact_ended exact = record {
    counts = subst (All (IsExactIn ended)) (sym (same_rows d ino Ends)) (all_listed (IsExactIn ended) (rows d) (λ row has.
        let was = All-contains (IsExactIn d) (rows d) row exact.counts has in (was.0, was.1 ∙ sym (mappings_ended row.page), was.2)));
    unshared = λ page no_row. omega (
      arith,
      mappings_ended page,
      exact.unshared page (subst (λ (rs : List Row). IsNone (row_of rs page))
          (same_rows d ino Ends) no_row),
    );
  }

  pub end_drops : DropsLog d ended ino
  end_drops = record {
    maps_same = maps_ended;
    mappings_same = mappings_ended;
    freed = log_freed;
    free_only = free_ended;
    near = near_ended;
    exact = exact_ended;
  }
