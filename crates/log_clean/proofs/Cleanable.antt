-- Which log may be cleaned, part by part.
use Rattle.std.proofs.Common.{◌≡◌, ⊎_elim, ℕ, zero, suc, ◌+◌, ◌*◌, ◌<◌, ◌≤◌, Bool, true, false, length, refl, sym, ◌∙◌, ap, arith}
use Rattle.std.specs.Prelude.{◌&&◌, not, nat_lt, Option, Some, None, is_none, slice_get}
use Rattle.std.specs.List.{list_all, range_with_len}
use Rattle.std.proofs.lemmas.Bool.{false≢true, cases_eq}
use Rattle.dedupe_queue.specs.Queue.{Waiting}
use Rattle.std.proofs.lemmas.Bool.Decides.{nat_tests}
use Rattle.file_index.specs.Runs.{runs_of}
use Rattle.file_index.specs.Slots.{add_slots_of}
use Rattle.law_clean.specs.Cleaned.{pages_for}
use Rattle.law_clean_count.specs.CountLaws.{or_size_slots}
use Rattle.dn_volume.specs.declared.volume.InodeState.{InodeState}
use Rattle.dn_volume.specs.declared.volume.InodeUse.{InodeUse}
use Rattle.dn_volume.specs.declared.volume.InodeUse.TheVariants as used
use Rattle.dn_volume.specs.declared.volume.Parts.{Parts}
use Rattle.dn_volume.specs.Cleans.{live_slots, is_live, may_clean_as, may_clean_opt, may_clean, none_may_clean}

-- the slots of the root, and of a file
pub slots_at_root : (b : Parts) (ino : ℕ) (n : InodeState) (r : ℕ) → ino ≡ 0 → r ≡ add_slots_of b.names.map → r ≡ live_slots b ino n
slots_at_root b zero n r e is = is
slots_at_root b (suc k) n r e is = absurd (omega arith)

pub slots_of_file : (b : Parts) (ino : ℕ) (n : InodeState) (r : ℕ) → (ino ≡ 0 → ⊥) → r ≡ or_size_slots n.size (runs_of n.map.map)
    → r ≡ live_slots b ino n
slots_of_file b zero n r ne is = absurd (ne refl)
slots_of_file b (suc k) n r ne is = is

-- what a test of two tells
pub both : (a b : Bool) → (a && b) ≡ true → (a ≡ true) × (b ≡ true)
both true b e = (refl, e)
both false b e = absurd (false≢true e)

pub joined : (a b : Bool) → a ≡ true → b ≡ true → (a && b) ≡ true
joined true b e f = f
joined false b e f = absurd (false≢true e)

lt_from : (a b : ℕ) → nat_lt a b ≡ true → a < b
lt_from a b e = grind (arith, nat_tests)

-- what the test of an inode tells
pub record IsCleanable (b : Parts) (ino : ℕ) (n : InodeState) : Type 0 where
  pub live : n.used ≡ used.Live
  pub loose : n.holder ≡ None
  pub round : n.round < 18446744073709551615
  pub two : 2 ≤ n.log_pages
  pub half : 2 * pages_for (live_slots b ino n) ≤ n.log_pages
  pub fits : pages_for (live_slots b ino n) < length b.free.free

is_live_then : (u : InodeUse) → is_live u ≡ true → u ≡ used.Live
is_live_then used.Free e = absurd (false≢true e)
is_live_then used.Live e = refl
is_live_then (used.Dying cut) e = absurd (false≢true e)

is_none_then : (o : Option ℕ) → is_none o ≡ true → o ≡ None
is_none_then None e = refl
is_none_then (Some x) e = absurd (false≢true e)

pub cleanable : (b : Parts) (ino : ℕ) (n : InodeState) → may_clean_as b ino n ≡ true → IsCleanable b ino n
unfolding may_clean_as
cleanable b ino n e =
    let p0 = both _ (nat_lt (pages_for (live_slots b ino n)) (length b.free.free)) e in
    let p1 = both _ (nat_lt (2 * pages_for (live_slots b ino n)) (n.log_pages + 1)) p0.0 in
    let p2 = both _ (nat_lt 1 n.log_pages) p1.0 in
    let p3 = both _ (nat_lt n.round 18446744073709551615) p2.0 in
    let p4 = both (is_live n.used) (is_none n.holder) p3.0 in
    record {
      live = is_live_then n.used p4.0;
      loose = is_none_then n.holder p4.1;
      round = lt_from _ _ p3.1;
      two = (let lt = lt_from _ _ p2.1 in omega (arith, lt));
      half = (let lt = lt_from _ _ p1.1 in omega (arith, lt));
      fits = lt_from _ _ p0.1;
    }

-- the inode that passed
pub opt_at : (b : Parts) (ino : ℕ) (n : InodeState) → slice_get b.inodes.items ino ≡ Some n → may_clean b ino ≡ may_clean_as b ino n
opt_at b ino n at = ap (may_clean_opt b ino) at

none_from : (test : ℕ → Bool) (a n : ℕ) → ((k : ℕ) → a ≤ k → k < a + n → test k ≡ false) → list_all (λ k. not (test k)) (range_with_len a n) ≡ true
none_from test a zero none = refl
none_from test a (suc n) none = joined (not (test a)) (list_all (λ k. not (test k)) (range_with_len (a + 1) n))
    (ap not (none a (omega arith) (omega arith)))
    (none_from test (a + 1) n (λ k low high. none k (omega (arith, low)) (omega (arith, high))))

pub none_passes : (b : Parts) (n : ℕ) → n ≡ length b.inodes.items → ((k : ℕ) → k < n → may_clean b k ≡ false) → none_may_clean b ≡ true
none_passes b n all none = none_from (may_clean b) 0 (length b.inodes.items) (λ k low high. none k (omega (arith, high, all)))

-- none of those that pass none
none_at_all : (test : ℕ → Bool) (a n k : ℕ) → list_all (λ j. not (test j)) (range_with_len a n) ≡ true → a ≤ k → k < a + n → not (test k) ≡ true
none_at_all test a zero k all low high = absurd (omega (arith, low, high))
none_at_all test a (suc n) k all low high =
    let two = both (not (test a)) (list_all (λ j. not (test j)) (range_with_len (a + 1) n)) all in
    ⊎_elim (λ same. ap (λ (j : ℕ). not (test j)) same ∙ two.0)
    (λ other. none_at_all test (a + 1) n k two.1 (omega (arith, low, other)) (omega (arith, high))) (cases_eq k a)

pub one_may : (b : Parts) (ino : ℕ) → ino < length b.inodes.items → may_clean b ino ≡ true → none_may_clean b ≡ true → ⊥
one_may b ino lt may none =
    let no = none_at_all (may_clean b) 0 (length b.inodes.items) ino none (omega arith) (omega (arith, lt)) in
    false≢true (sym (ap not may) ∙ no)

-- the queue is no part of it
slots_beside : (b : Parts) (q : Waiting) (ino : ℕ) (n : InodeState) → live_slots (record b { queue = q }) ino n ≡ live_slots b ino n
slots_beside b q zero n = refl
slots_beside b q (suc k) n = refl

may_beside_as : (b : Parts) (q : Waiting) (ino : ℕ) (n : InodeState) → may_clean_as (record b { queue = q }) ino n ≡ may_clean_as b ino n
unfolding may_clean_as
may_beside_as b q ino n = ap (λ (m : ℕ). is_live n.used && is_none n.holder && nat_lt n.round 18446744073709551615
    && nat_lt 1 n.log_pages
    && nat_lt (2 * pages_for m) (n.log_pages + 1)
    && nat_lt (pages_for m) (length b.free.free)) (slots_beside b q ino n)

may_beside_opt : (b : Parts) (q : Waiting) (ino : ℕ) (o : Option InodeState) → may_clean_opt (record b { queue = q }) ino o ≡ may_clean_opt b ino o
may_beside_opt b q ino None = refl
may_beside_opt b q ino (Some n) = may_beside_as b q ino n

pub may_beside : (b : Parts) (q : Waiting) (ino : ℕ) → may_clean b ino ≡ true → may_clean (record b { queue = q }) ino ≡ true
may_beside b q ino may = may_beside_opt b q ino (slice_get b.inodes.items ino) ∙ may
