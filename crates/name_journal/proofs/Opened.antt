-- The pairs of a journal that is let through.
use Rattle.std.proofs.Common.{
  ◌≡◌,
  ◌⊎◌,
  inl,
  inr,
  ⊎_elim,
  ℕ,
  ◌+◌,
  ◌*◌,
  ◌/◌,
  ◌<◌,
  ◌≤◌,
  List,
  length,
  take,
  refl,
  sym,
  ◌∙◌,
  ap,
  subst,
  arith,
  length-take,
  get_or-take,
}
use Rattle.std.specs.Prelude.{slice_index}
use Rattle.std.proofs.lemmas.Bool.{cases_eq}
use Rattle.std.proofs.lemmas.Grind.{same_number_lists}
use Rattle.pm_device.specs.State.{State, Agree}
use Rattle.pm_device.specs.Settled.{Still, LeavesOnly, StoresOnly, KeepsFlushed, IsOldBut, Nowhere}
use Rattle.pm_device.proofs.Only.{stores_only-none, stores_only-weaken}
use Rattle.pm_device.proofs.Flushed.{keeps-weaken}
use Rattle.pm_layout.specs.declared.Geometry.{Geometry}
use Rattle.pm_layout.specs.Geometry.{IsAccepted, gate_word}
use Rattle.dn_model.specs.Rolled.{rolled, IsGate, IsJournaled}
use Rattle.dn_model.proofs.Regions.{inode_word_low}
use Rattle.name_journal.specs.declared.change.Change.{Change}
use Rattle.name_journal.specs.Changes.{address, AreChanges, AreInside, IsNamed}
use Rattle.name_journal.specs.Pairs.{ArePairs, AreOpen, IsRolledAt, HasGateOf}
use Rattle.name_journal.proofs.Told.{leaves_only-image, stores_leave, settled_value_is}
use Rattle.name_journal.proofs.Rolling.{length-rolled, rolled_gate, rolled_other, can_roll}

-- the line of such a word ends before the data area
pub journaled_inside : (g : Geometry) (a size : ℕ) → IsAccepted g → size ≡ 512 * g.pages → IsJournaled g.inodes a → a / 8 * 8 + 8 ≤ size
journaled_inside g a size accepted whole is =
    let low = inode_word_low g is.ino 15 is.in_table (omega arith) in omega (arith, low, accepted.room, whole, is.is, is.first_three)

pub changes_inside : (g : Geometry) (changes : List Change) (size : ℕ) → IsAccepted g → size ≡ 512 * g.pages → AreChanges g.inodes changes
    → AreInside changes size
changes_inside g changes size accepted whole are i lt = journaled_inside g (address changes i) size accepted whole (are.journaled i lt)

module _ (g : Geometry) (w : List ℕ) (accepted : IsAccepted g) (whole : length w ≡ 512 * g.pages) (is : IsGate g.inodes w) where
  pub open_pairs : (n : ℕ) (pairs : List Change) → n ≡ slice_index w gate_word → ArePairs w pairs → AreOpen w (take n pairs)
  open_pairs n pairs n_is are = record {
    can = can_roll g.inodes w is (λ a here. omega (arith, journaled_inside g a (length w) accepted whole here));
    count = omega (arith, long, n_is);
    addresses = λ i lt. ap (λ (c : Change). c.at) (get_or-take n pairs i (record { at = 0; value = 0 }) (omega (arith, lt, long))) ∙ are.addresses i
        (omega (arith, lt, long, n_is, is.few));
    values = λ i lt. ap (λ (c : Change). c.value) (get_or-take n pairs i (record { at = 0; value = 0 }) (omega (arith, lt, long))) ∙ are.values i
        (omega (arith, lt, long, n_is, is.few));
  }
    where
      long : length (take n pairs) ≡ n
      long = omega (arith, length-take n pairs, are.four, n_is, is.few)

  module _ (pairs : List Change) (are : AreOpen w pairs) where
    open_journaled : (i : ℕ) → i < length pairs → IsJournaled g.inodes (address pairs i)
    open_journaled i lt = subst (IsJournaled g.inodes) (sym (are.addresses i lt)) (is.addresses i (omega (arith, lt, are.count)))

    pub open_inside : AreInside pairs (length w)
    open_inside i lt = journaled_inside g (address pairs i) (length w) accepted whole (open_journaled i lt)

    pub open_wider : (a : ℕ) → IsRolledAt pairs a → IsJournaled g.inodes a ⊎ (a ≡ gate_word)
    open_wider a at = ⊎_elim (λ (named : IsNamed pairs a). inl (subst (IsJournaled g.inodes) (sym named.is) (open_journaled named.i named.lt)))
        (λ (e : a ≡ gate_word). inr e) at

  -- the words that a roll back stores to
  module _ (n : ℕ) (pairs : List Change) (n_is : n ≡ slice_index w gate_word) (are : ArePairs w pairs) (s t : State) where
    abbrev Wide : ℕ → Type 0
    Wide a = IsJournaled g.inodes a ⊎ (a ≡ gate_word)

    pub open_only : StoresOnly (IsRolledAt (take n pairs)) s t → StoresOnly Wide s t
    open_only = stores_only-weaken (IsRolledAt (take n pairs)) Wide s t (open_wider (take n pairs) (open_pairs n pairs n_is are))

    pub open_others : (Q : ℕ → Type 0) → KeepsFlushed Q (IsRolledAt (take n pairs)) s t → KeepsFlushed Q Wide s t
    open_others Q = keeps-weaken Q Q (IsRolledAt (take n pairs)) Wide s t (λ q is_kept. is_kept)
        (open_wider (take n pairs) (open_pairs n pairs n_is are))

-- a closed journal's words are the rolled ones
pub shut_is_rolled : (w : List ℕ) → 513 ≤ length w → slice_index w gate_word ≡ 0 → w ≡ rolled w
shut_is_rolled w long shut = same_number_lists w (rolled w) (sym (length-rolled w)) (λ a lt. elim (cases_eq a gate_word) [
  | inl e ↦ subst (λ (b : ℕ). slice_index w b ≡ slice_index (rolled w) b) (sym e) (shut ∙ sym (rolled_gate w long))
  | inr ne ↦ sym (rolled_other w a ne (λ i few. absurd (omega (arith, few, shut))))
])

-- a still device leaves one image, that of its words
pub still_has : (s : State) → Agree s.now s.past → Still s → (P : List ℕ → Type 0) → P s.now → LeavesOnly s s P
still_has s agree still P here =
    leaves_only-image s s (IsOldBut Nowhere s) P agree
    (λ c image old. subst P (sym (same_number_lists c s.now image.size (λ a lt. settled_value_is s a (slice_index c a) image.told
    (old a (λ h. h) (omega (arith, lt, image.size))) (still a (omega (arith, lt, image.size)))))) here)
    (stores_leave Nowhere s s (stores_only-none Nowhere s agree))

pub still_gates : (s : State) → Agree s.now s.past → Still s → LeavesOnly s s (HasGateOf s.now)
still_gates s agree still = still_has s agree still (HasGateOf s.now) (record { gate = inl refl; pairs = λ a low high. refl })

pub still_leaves : (s : State) → Agree s.now s.past → Still s → LeavesOnly s s (λ c. rolled c ≡ rolled s.now)
still_leaves s agree still =
    leaves_only-image s s (IsOldBut Nowhere s) (λ c. rolled c ≡ rolled s.now) agree
    (λ c image old. ap rolled (same_number_lists c s.now image.size (λ a lt. settled_value_is s a (slice_index c a) image.told
    (old a (λ h. h) (omega (arith, lt, image.size))) (still a (omega (arith, lt, image.size))))))
    (stores_leave Nowhere s s (stores_only-none Nowhere s agree))
