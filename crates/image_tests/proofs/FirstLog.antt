-- A log without items gets one, on page 6 of an image of 64 pages and 8 inodes.
use Rattle.std.proofs.Common.{◌≡◌, ℕ, zero, suc, ◌<◌, ◌≤◌, [], ◌∷◌, length, refl, sym, subst, arith, lit≤}
use Rattle.std.specs.Prelude.{slice_index}
use Rattle.pm_device.specs.State.{State}
use Rattle.pm_device.specs.Settled.{IsSettled}
use Rattle.pm_device.specs.Reading.{Said}
use Rattle.pm_device.proofs.Layers.{settled-stores}
use Rattle.pm_layout.specs.declared.Geometry.{Geometry}
use Rattle.pm_layout.specs.Geometry.{InData, inode_word, first_data, bits_of}
use Rattle.log_entry.specs.Spelling.{spelling}
use Rattle.log_entry.specs.declared.item.LogItem.TheVariants.{Size}
use Rattle.dn_model.specs.Log.{Log, count, tail_at, at_tail, no_log}
use Rattle.dn_model.specs.Growth.{Prepared}
use Rattle.dn_model.proofs.Append.{prepared_apart}
use Rattle.inode_log.specs.Prepare.{IsToPrepare, CanPrepare, Prepares}

abbrev pub first_log : Log
first_log = record { pages = 6 ∷ []; items = Size 7 ∷ [] }

pub data_6 : (g : Geometry) → g.pages ≡ 64 → g.inodes ≡ 8 → InData g 6
unfolding first_data bits_of
data_6 g pages inodes = record {
  low = subst (λ (p : ℕ). first_data (record { pages = p; inodes = g.inodes }) ≤ 6) (sym pages)
      (subst (λ (n : ℕ). first_data (record { pages = 64; inodes = n }) ≤ 6) (sym inodes) (lit≤ tt));
  high = omega (arith, pages);
}

module _ (g : Geometry) (s : State) (pages : g.pages ≡ 64) (inodes : g.inodes ≡ 8) (none : slice_index s.now 1042 ≡ 0) where
  pub gets_first : IsToPrepare g 1 ((2 ∷ 7 ∷ 0 ∷ 0 ∷ 0 ∷ 0 ∷ 0 ∷ 0 ∷ []) ∷ []) (6 ∷ []) no_log first_log s
  unfolding count spelling
  gets_first = record {
    grown = record { fresh = 6 ∷ []; more = Size 7 ∷ []; pages = refl; items = refl };
    paged = record { fits = refl; in_data = λ k lt. absurd (omega arith); apart = λ j k jl. absurd (omega arith) };
    paged' = record { fits = refl; in_data = in_data; apart = λ j k jl kl e. omega arith };
    slots_are = refl;
    fresh_are = refl;
    tail = none;
  }
    where
      in_data : (k : ℕ) → k < 1 → InData g (slice_index (6 ∷ []) k)
      in_data zero lt = data_6 g pages inodes
      in_data (suc k) lt = absurd (omega arith)

  pub can_first : CanPrepare g 1 ((2 ∷ 7 ∷ 0 ∷ 0 ∷ 0 ∷ 0 ∷ 0 ∷ 0 ∷ []) ∷ []) (6 ∷ []) s
  can_first = record { old = no_log; new = first_log; is = gets_first }

  -- its tail is as settled as it was
  pub tail_settled : (who : ℕ) (t : State) → Prepares g who 1 ((2 ∷ 7 ∷ 0 ∷ 0 ∷ 0 ∷ 0 ∷ 0 ∷ 0 ∷ []) ∷ []) (6 ∷ []) s t → IsSettled s (inode_word 1 2)
      → IsSettled t (inode_word 1 2)
  tail_settled who t prepares settled =
      let done = prepares no_log first_log gets_first in
      settled-stores (Said (Prepared 1 no_log first_log)) s t (inode_word 1 2) done.only
      (λ said. prepared_apart g 1 no_log first_log gets_first.grown gets_first.paged gets_first.paged' (omega (arith, inodes)) (inode_word 1 2)
      said.value (tail_at no_log.pages (count no_log)) said.told (at_tail refl refl)) settled

  -- the device is as long as it was
  pub same_words : (who : ℕ) (t : State) → Prepares g who 1 ((2 ∷ 7 ∷ 0 ∷ 0 ∷ 0 ∷ 0 ∷ 0 ∷ 0 ∷ []) ∷ []) (6 ∷ []) s t → length t.now ≡ length s.now
  same_words who t prepares = (prepares no_log first_log gets_first).only.words
