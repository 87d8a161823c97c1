-- What stands on the device once no operation is in flight, the daemon has begun nothing and nothing waits for reclaim.
use Rattle.std.proofs.Common.{◌≡◌, ◌≢◌, inl, inr, ℕ, ◌+◌, List, [], ◌∷◌, length, get_or, refl, sym, ◌∙◌, ap, subst, arith}
use Rattle.std.specs.Prelude.{Option, Some, None, IsSome, IsNone, Contains, All, slice_index, ◌↔◌}
use Rattle.std.proofs.lemmas.Bool.{cases_eq}
use Rattle.pm_device.specs.State.{State}
use Rattle.pm_layout.specs.Geometry.{gate_word}
use Rattle.dn_model.specs.Table.{Row, row_of}
use Rattle.dn_model.specs.Disk.{Disk, rows, of_head, at_gate}
use Rattle.dn_model.specs.Counts.{mappings, Exact, IsFree}
use Rattle.fact_scan.proofs.Listed.{listed, get_at}
use Rattle.law_write.proofs.Counting.{total-zero}
use Rattle.law_table.proofs.Rows.{row_listed}
use Rattle.law_table_on_disk.specs.BalanceLaws.{IsBalanced}
use Rattle.dn_volume.specs.declared.background.Sharing.{Sharing}
use Rattle.dn_volume.specs.declared.flight.Flight.{Flight}
use Rattle.dn_volume.specs.declared.volume.Parts.{Parts}
use Rattle.dn_volume.specs.Parties.{Takes, for_client, for_cleaning, flight_at}
use Rattle.dn_volume.specs.Agrees.{IsVolume}
use Rattle.dn_volume.specs.Balance.{raised, added, dropped, times, raised_by, raised_to_share, raised_to_die, added_to_share}
use Rattle.dn_volume.specs.Reclaims.{one_if}
use Rattle.dn_volume.proofs.Stills.{still_without}
use Rattle.dn_volume.proofs.SoundStays.{stands_now}
use Rattle.dn_volume.proofs.Wants.{none_raised, none_dying, none_released}
use Rattle.dn_volume.specs.Resting.{AllLanded, IsAtRest, RestingVolumesAreAtRest}

no_list : (xs : List ℕ) → length xs ≡ 0 → xs ≡ []
no_list [] is = refl
no_list (x ∷ xs) is = absurd (omega (arith, is))

module _ (d : Disk) (b : Parts) (s : State) (volume : IsVolume d b s) (landed : AllLanded b) (none_begun : b.sharing ≡ None)
    (none_waits : b.reclaiming.waiting ≡ 0) (none_cleaned : b.reclaiming.cleaning ≡ None) where
  no_flight : (k : ℕ) → flight_at b.flights.items k ≡ None
  no_flight k = by (flight_at b.flights.items k) refl
    where
      by : (o : Option Flight) → flight_at b.flights.items k ≡ o → o ≡ None
      by None is = refl
      by (Some f) is = absurd (landed (k + 1) f (record { client = omega arith; is = ap (flight_at b.flights.items) (omega arith) ∙ is }))

  no_zero_check : b.reclaiming.zero_check ≡ None
  no_zero_check = by b.reclaiming.zero_check refl
    where
      by : (x : Option ℕ) → b.reclaiming.zero_check ≡ x → x ≡ None
      by None is = refl
      by (Some slot) is =
          let one : one_if b.reclaiming.zero_check ≡ 1 = ap one_if is in
          let none : one_if b.reclaiming.raised ≡ 0 = ap one_if (none_raised d b s volume none_waits) in
          let waits = volume.reclaiming.waiting in
          let quiet = none_waits in
          absurd (omega (arith, one, none, waits, quiet))

  none_up : (slot : ℕ) → raised b slot ≡ 0
  none_up slot =
      let flying = total-zero (λ k. times slot (raised_by (flight_at b.flights.items k))) 14
      (λ k lt. ap (λ (o : Option Flight). times slot (raised_by o)) (no_flight k)) in
      let shared : times slot (raised_to_share b.sharing) ≡ 0 = ap (λ (x : Option Sharing). times slot (raised_to_share x)) none_begun in
      let dying : times slot (raised_to_die b.reclaiming.raised) ≡ 0 = ap (λ x. times slot (raised_to_die x)) (none_raised d b s volume none_waits) in
      omega (arith, flying, shared, dying)

  none_added : (slot : ℕ) → added b slot ≡ 0
  none_added slot = ap (λ (x : Option Sharing). times slot (added_to_share x)) none_begun

  none_dropped : (slot : ℕ) → dropped b slot ≡ 0
  none_dropped slot = ap (times slot) (no_list b.reclaiming.releases.items (none_released d b s volume none_waits))

  pub exact_row : (row : Row) → Contains (rows d) row → (row.uc ≡ 0) × (row.rfc ≡ mappings d row.page) × (row.rfc ≢ 0)
  exact_row row has =
      let balanced = of_all (rows d) row volume.counts.balanced has in
      let up = none_up row.slot in
      let add = none_added row.slot in
      let drop = none_dropped row.slot in
      let updates = balanced.updates in
      let references = balanced.references in
      let quiet : row.uc ≡ 0 = omega (arith, updates, up, add, drop) in (
        quiet,
        omega (arith, references, add, drop),
        λ zero_now. no_check row.slot (sym no_zero_check ∙ volume.counts.zero_checked row has zero_now quiet),
      )
    where
      of_all : (rs : List Row) (r : Row)
          → All (λ (x : Row). IsBalanced d x (raised b x.slot) (added b x.slot) (dropped b x.slot)) rs → Contains rs r
          → IsBalanced d r (raised b r.slot) (added b r.slot) (dropped b r.slot)
      of_all rs r all (k, lt, is) = subst (λ (x : Row). IsBalanced d x (raised b x.slot) (added b x.slot) (dropped b x.slot)) is (all k r lt)

      no_check : (slot : ℕ) → None ≡ Some slot → ⊥
      no_check slot e = cc

  exact : Exact d
  exact = record {
    counts = λ k default lt. exact_row (get_or (rows d) k default) (listed (rows d) k (get_or (rows d) k default) (get_at (rows d) k default lt));
    unshared = volume.fast.valid.single.unshared;
  }

  closed : slice_index s.now gate_word ≡ 0
  closed = volume.fast.stands.reads gate_word 0 (of_head (at_gate refl refl))

  pub at_rest : IsAtRest d s
  at_rest = record {
    stands_for = stands_now d b s volume.fast;
    closed = closed;
    exact = exact;
    no_dying = none_dying d b s volume none_waits;
    pointers = volume.pointers;
    still = still_without b s volume.still landed;
  }

  -- nobody has taken a page, and the page of a row is mapped
  none_taken : (page : ℕ) → volume.space.taker page ≡ 0
  none_taken page = elim (cases_eq (volume.space.taker page) 0) [
    | inl e ↦ e
    | inr ne ↦ absurd (by (volume.space.taken page ne))
  ]
    where
      by : Takes b (volume.space.taker page) page → ⊥
      by (for_client f flies has) = landed (volume.space.taker page) f flies
      by (for_cleaning c him is has) = let none = none_cleaned in cc

  row_mapped : (page : ℕ) → IsSome (row_of (rows d) page) → mappings d page ≢ 0
  row_mapped page some none =
      let row = row_listed (rows d) page some in
      let is = exact_row row.0 row.1 in
      is.2 (is.1 ∙ ap (mappings d) row.2 ∙ none)

  no_row_of : (page : ℕ) → mappings d page ≡ 0 → IsNone (row_of (rows d) page)
  no_row_of page none = by (row_of (rows d) page) refl
    where
      by : (o : Option Row) → row_of (rows d) page ≡ o → IsNone o
      by None is = refl
      by (Some row) is = absurd (row_mapped page (some_is (row_of (rows d) page) row is) none)
        where
          some_is : (x : Option Row) (r : Row) → x ≡ Some r → IsSome x
          some_is None r e = cc
          some_is (Some y) r e = refl

  pub free_is : (page : ℕ) → Contains b.free.free page ↔ IsFree d page
  free_is page = (
    λ has. ((volume.space.free page).0 has).0.free,
    λ free. (volume.space.free page).1 (record { free = free; no_row = no_row_of page free.unmapped }, none_taken page),
  )

pub resting : RestingVolumesAreAtRest
resting d b s volume landed none_begun none_waits none_cleaned = (
  at_rest d b s volume landed none_begun none_waits none_cleaned,
  free_is d b s volume landed none_begun none_waits none_cleaned,
)
