-- The pages of the root's log, and the room of its last, as its tail tells it.
use Rattle.std.proofs.Common.{◌≡◌, ◌≢◌, ℕ, ◌<◌, ◌≤◌, true, length, get_or, refl, sym, ◌∙◌, subst, arith}
use Rattle.std.specs.Prelude.{◌==◌, slice_index, nat_lt, Any}
use Rattle.std.proofs.lemmas.Bool.{eqb-true}
use Rattle.std.proofs.lemmas.Bool.Decides.{Decides-eqb}
use Rattle.std.proofs.lemmas.List.Folds.{Any-from_list_any}
use Rattle.std.proofs.lemmas.Grind.{get_or_default_zero}
use Rattle.std.proofs.lemmas.Map.Steps.{length-le_from_distinct_below}
use Rattle.std.proofs.lemmas.Map.Made.{IsDistinct-from_AllPairs}
use Rattle.std.proofs.lemmas.Bool.{cond-true, cond-false, lt-ltb, le-ltb}
use Rattle.pm_device.specs.State.{State}
use Rattle.pm_layout.specs.declared.Geometry.{Geometry}
use Rattle.pm_layout.specs.Geometry.{inode_word}
use Rattle.dn_model.specs.Log.{Log, IsPaged, count, tail_at, at_tail}
use Rattle.dn_model.specs.Disk.{Disk, IsUsed, of_logs}
use Rattle.dn_model.specs.History.{room, extra}
use Rattle.dn_volume.specs.declared.volume.Parts.{Parts}
use Rattle.dn_volume.specs.Agrees.{IsVolume}

-- a log has no more pages than the image
pub paged_few : (g : Geometry) (log : Log) → IsPaged g log → length log.pages ≤ g.pages
paged_few g log paged = length-le_from_distinct_below log.pages g.pages (IsDistinct-from_AllPairs Decides-eqb log.pages pairs)
    (λ q any. small q (Any-from_list_any (λ (x : ℕ). q == x) log.pages any))
  where
    pairs : (i j d : ℕ) → i < j → j < length log.pages → get_or log.pages i d ≢ get_or log.pages j d
    pairs i j d lt inside e =
        let same : slice_index log.pages i ≡ slice_index log.pages j = sym (get_or_default_zero log.pages i d (omega (arith, lt, inside))) ∙ e
        ∙ get_or_default_zero log.pages j d inside in
        let one = paged.apart i j (omega (arith, lt, inside)) inside same in
        omega (arith, one, lt)

    small : (q : ℕ) → Any (λ (x : ℕ). (q == x) ≡ true) log.pages → q < g.pages
    small q found =
        let at : slice_index log.pages found.0 ≡ found.1 = sym (get_or_default_zero log.pages found.0 found.1 found.2) ∙ found.3 in
        let same : q ≡ found.1 = eqb-true q found.1 found.4 in
        let high = (paged.in_data found.0 found.2).high in
        omega (arith, at, same, high)

module _ (d : Disk) (b : Parts) (s : State) (v : IsVolume d b s) where
  pub root_used : IsUsed (d.inode 0).use_of
  root_used = subst IsUsed (sym v.fast.valid.root) tt

  root_small : 0 < d.geometry.inodes
  root_small = let many = v.fast.valid.accepted.inodes in omega (arith, many)

  root_read : slice_index s.now (inode_word 0 2) ≡ tail_at (d.inode 0).log.pages (count (d.inode 0).log)
  root_read = v.fast.stands.reads (inode_word 0 2) (tail_at (d.inode 0).log.pages (count (d.inode 0).log))
      (of_logs (record { ino = 0; in_table = root_small; used = root_used; says = at_tail refl refl }))

  -- the room that its tail tells is that of the log
  module _ (tail left : ℕ) (read : tail ≡ slice_index s.now (inode_word 0 2))
      (tells : (g : Geometry) (log : Log) → IsPaged g log → tail ≡ tail_at log.pages (count log) → left ≡ room log) (slots : ℕ) where
    left_is : left ≡ room (d.inode 0).log
    left_is = tells d.geometry (d.inode 0).log (v.fast.valid.logs 0 root_small root_used).paged (read ∙ root_read)

    pub one_page : left < slots → 1 ≡ extra slots (d.inode 0).log
    one_page less = sym (cond-true (nat_lt (room (d.inode 0).log) slots) 1 0 (lt-ltb (room (d.inode 0).log) slots
        (subst (λ (n : ℕ). n < slots) left_is less)))

    pub no_page : slots ≤ left → 0 ≡ extra slots (d.inode 0).log
    no_page enough = sym (cond-false (nat_lt (room (d.inode 0).log) slots) 1 0 (le-ltb (room (d.inode 0).log) slots
        (subst (λ (n : ℕ). slots ≤ n) left_is enough)))
