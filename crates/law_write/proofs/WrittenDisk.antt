-- A commit of runs to a file makes a valid disk: the event of its premises.
use Rattle.std.proofs.Common.{
  ◌≡◌,
  ◌≢◌,
  inl,
  inr,
  ℕ,
  zero,
  suc,
  ◌+◌,
  ◌-◌,
  ◌/◌,
  ◌<◌,
  ◌≤◌,
  List,
  [],
  ◌++◌,
  length,
  refl,
  sym,
  ◌∙◌,
  ap,
  subst,
  arith,
  length-append,
}
use Rattle.std.specs.Prelude.{slice_index, Contains, All}
use Rattle.std.proofs.lemmas.Bool.{cases_lt}
use Rattle.std.proofs.lemmas.List.{get_or_append_left, get_or-append_right}
use Rattle.std.proofs.lemmas.List.Elements.{All-nil, Contains-get_or}
use Rattle.pm_layout.specs.declared.Geometry.{Geometry}
use Rattle.pm_layout.specs.Geometry.{InData, directs}
use Rattle.dn_model.specs.Log.{IsPaged, count}
use Rattle.dn_model.specs.Table.{rows_from}
use Rattle.dn_model.specs.Disk.{Disk, IsUsed, rows}
use Rattle.dn_model.specs.Counts.{IsFree, Near, IsNear}
use Rattle.dn_model.specs.Growth.{IsGrown}
use Rattle.dn_model.specs.Valid.{IsLog, MayStand}
use Rattle.dn_model.proofs.Append.{count-grown}
use Rattle.law_write.specs.Events.{Relogs, IsUnused}
use Rattle.law_write.specs.Writing.{Writes, WritesWell}
use Rattle.law_write.specs.Runs.{Run, run_items}
use Rattle.law_write.specs.WithLog.{grown_log}
use Rattle.law_write.specs.MayWrite.{written_disk, IsLeft, MayWrite}
use Rattle.law_write.proofs.Relog.{rows-same}
use Rattle.law_write.proofs.RunItems.{runs-spelled, runs-standing, length-spelled-runs}
use Rattle.law_write.proofs.WithLog.{with_log-log, with_log-relogs, with_log-grown}
use Rattle.law_write.proofs.WriteRuns.{writes_runs}
use Rattle.law_write.proofs.WriteFree.{free-kept}

-- different pages, and different other pages behind them, are different
module _ (pages fresh : List ℕ) (apart : (j k : ℕ) → j < length pages → k < length pages → slice_index pages j ≡ slice_index pages k → j ≡ k)
    (fresh_apart : (j k : ℕ) → j < length fresh → k < length fresh → slice_index fresh j ≡ slice_index fresh k → j ≡ k)
    (between : (j k : ℕ) → j < length pages → k < length fresh → slice_index pages j ≢ slice_index fresh k) where
  first_part : (k : ℕ) → k < length pages → slice_index (pages ++ fresh) k ≡ slice_index pages k
  first_part k lt = get_or_append_left pages fresh 0 k lt

  second_part : (k : ℕ) → length pages ≤ k → slice_index (pages ++ fresh) k ≡ slice_index fresh (k - length pages)
  second_part k le = get_or-append_right pages fresh (length pages) k 0 refl le

  within : (k : ℕ) → length pages ≤ k → k < length (pages ++ fresh) → k - length pages < length fresh
  within k le lt = omega (arith, length-append pages fresh)

  pub append-apart : (j k : ℕ) → j < length (pages ++ fresh) → k < length (pages ++ fresh) → slice_index (pages ++ fresh) j ≡ slice_index
      (pages ++ fresh) k → j ≡ k
  append-apart j k jl kl e = elim (cases_lt j (length pages)) [
    | inl jp ↦ elim (cases_lt k (length pages)) [
      | inl kp ↦ apart j k jp kp (sym (first_part j jp) ∙ e ∙ first_part k kp)
      | inr kf ↦ absurd (between j (k - length pages) jp (within k kf kl) (sym (first_part j jp) ∙ e ∙ second_part k kf))
    ]
    | inr jf ↦ elim (cases_lt k (length pages)) [
      | inl kp ↦ absurd (between k (j - length pages) kp (within j jf jl) (sym (first_part k kp) ∙ sym e ∙ second_part j jf))
      | inr kf ↦
          let same = fresh_apart (j - length pages) (k - length pages) (within j jf jl) (within k kf kl)
          (sym (second_part j jf) ∙ e ∙ second_part k kf) in
          omega (arith, same)
    ]
  ]

  pub append-in_data : (g : Geometry) → ((k : ℕ) → k < length pages → InData g (slice_index pages k))
      → ((k : ℕ) → k < length fresh → InData g (slice_index fresh k))
      → (k : ℕ) → k < length (pages ++ fresh) → InData g (slice_index (pages ++ fresh) k)
  append-in_data g old new k lt = elim (cases_lt k (length pages)) [
    | inl kp ↦ subst (InData g) (sym (first_part k kp)) (old k kp)
    | inr kf ↦ subst (InData g) (sym (second_part k kf)) (new (k - length pages) (within k kf lt))
  ]

-- without rows, all counts are right
pub near_without_rows : (d : Disk) → ((p : ℕ) → d.chain p ≡ []) → Near d
unfolding rows
near_without_rows d none = subst (All (IsNear d)) (sym (rows-same (λ p. []) d.chain 0 (directs d.geometry) none ∙ no_rows 0 (directs d.geometry)))
    (All-nil (IsNear d))
  where
    no_rows : (p n : ℕ) → rows_from (λ q. []) p n ≡ []
    no_rows p zero = refl
    no_rows p (suc n) = no_rows (p + 1) n

module _ (d : Disk) (ino : ℕ) (fresh : List ℕ) (first size : ℕ) (runs : List Run) (word : ℕ → ℕ → ℕ) (may : MayWrite d ino fresh first size runs word)
  where
    abbrev new : Disk
    new = written_disk d ino fresh size runs word

    used : IsUsed (d.inode ino).use_of
    used = subst IsUsed (sym may.live) tt

    pub log_before : IsLog d.geometry ino (d.inode ino).log
    log_before = may.valid.logs ino may.in_table used

    abbrev grown : IsGrown (d.inode ino).log (new.inode ino).log
    grown = with_log-grown d ino fresh (run_items runs size) word

    pub written-relogs : Relogs ino d new
    written-relogs = with_log-relogs d ino (grown_log (d.inode ino).log fresh (run_items runs size)) word may.words

    abbrev pub written-writes : Writes ino d new
    written-writes = writes_runs ino d new written-relogs grown log_before.paged may.live first size runs refl may.some may.chained may.in_table
        may.in_size may.blocks_apart

    fresh_page : (k : ℕ) → k < length fresh → IsUnused d (slice_index fresh k)
    fresh_page k lt = may.fresh_unused (slice_index fresh k) (Contains-get_or fresh k 0 lt)

    -- a page of the log isn't fresh
    log_or_fresh : (j k : ℕ) → j < length (d.inode ino).log.pages → k < length fresh → slice_index (d.inode ino).log.pages j ≢ slice_index fresh k
    log_or_fresh j k jl kl same =
        (fresh_page k kl).free.in_no_log (record {
          ino = ino;
          in_table = may.in_table;
          used = used;
          listed = subst (Contains (d.inode ino).log.pages)
              same (Contains-get_or (d.inode ino).log.pages j 0 jl);
        })

    grown_paged : IsPaged d.geometry (grown_log (d.inode ino).log fresh (run_items runs size))
    grown_paged = record {
      fits = may.room ∙ ap (λ (n : ℕ). (n + 62) / 63) (sym slots_now);
      in_data = append-in_data (d.inode ino).log.pages fresh log_before.paged.apart may.fresh_apart log_or_fresh d.geometry log_before.paged.in_data
          (λ k lt. (fresh_page k lt).free.data_page);
      apart = append-apart (d.inode ino).log.pages fresh log_before.paged.apart may.fresh_apart log_or_fresh;
    }
      where
        slots_now : count (grown_log (d.inode ino).log fresh (run_items runs size)) ≡ count (d.inode ino).log + length runs
        slots_now =
            count-grown (d.inode ino).log (grown_log (d.inode ino).log fresh (run_items runs size))
            (record { fresh = fresh; more = run_items runs size; pages = refl; items = refl })
            ∙ ap (λ (n : ℕ). count (d.inode ino).log + n) (length-spelled-runs size runs)

    stays_free : (page : ℕ) → IsLeft d fresh runs page → IsFree new page
    stays_free page left = free-kept ino d new written-writes page left.free left.no_block left.not_fresh

    pub written-well : Near new → WritesWell ino d new written-writes
    written-well near = record {
      valid = may.valid;
      k = ino - 1;
      file = omega (arith, may.file);
      paged' = subst (IsPaged d.geometry) (sym (with_log-log d ino (grown_log (d.inode ino).log fresh (run_items runs size)) word)) grown_paged;
      spelled = runs-spelled size runs first may.chained may.in_size may.small;
      standing = subst (λ (i : ℕ). All (MayStand d.geometry i) (run_items runs size)) (pred ino may.file) (runs-standing d.geometry (ino - 1) size runs
          first may.chained (λ i lt. (may.blocks i lt).free.data_page));
      fresh = may.fresh_unused;
      blocks = may.blocks;
      apart = may.apart;
      near = near;
      roomy = (may.left.0, may.left.1, may.left.2, stays_free may.left.0 may.left.3, stays_free may.left.1 may.left.4);
    }
      where
        pred : (n : ℕ) → 1 ≤ n → suc (n - 1) ≡ n
        pred n some = omega arith

    -- where no row stands yet
    pub written-well_without_rows : ((p : ℕ) → d.chain p ≡ []) → WritesWell ino d new written-writes
    written-well_without_rows none = written-well (near_without_rows new (λ p. written-relogs.chain p ∙ none p))
