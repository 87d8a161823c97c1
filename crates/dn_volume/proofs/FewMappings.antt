-- A page has few mappings.
use Rattle.std.proofs.Common.{ℕ, zero, suc, ◌*◌, ◌≤◌, Bool, true, false, arith}
use Rattle.std.specs.Prelude.{Option, Some, None, if◌then◌else◌, ◌==◌}
use Rattle.dn_model.specs.Maps.{Mapping}
use Rattle.dn_model.specs.Disk.{Disk, maps}
use Rattle.dn_model.specs.Counts.{total, hit, mappings}

total_by : (f : ℕ → ℕ) (n : ℕ) → ((j : ℕ) → f j ≤ 1) → total n f ≤ n
unfolding total
total_by f zero le = omega arith
total_by f (suc n) le = omega (arith, total_by f n le, le n)

pub total_of : (f : ℕ → ℕ) (n : ℕ) → ((j : ℕ) → f j ≤ 4096) → total n f ≤ n * 4096
unfolding total
total_of f zero le = omega arith
total_of f (suc n) le = omega (arith, total_of f n le, le n)

hit_one : (page : ℕ) (m : Option Mapping) → hit page m ≤ 1
hit_one page None = omega arith
hit_one page (Some m) = by_test (m.block == page)
  where
    by_test : (b : Bool) → (if b then 1 else 0) ≤ 1
    by_test true = omega arith
    by_test false = omega arith

pub mappings_few : (d : Disk) (page : ℕ) → mappings d page ≤ d.geometry.inodes * 4096
unfolding mappings
mappings_few d page = total_of (λ ino. total 4096 (λ idx. hit page (maps d ino idx))) d.geometry.inodes
    (λ ino. total_by (λ idx. hit page (maps d ino idx)) 4096 (λ idx. hit_one page (maps d ino idx)))
