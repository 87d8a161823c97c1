-- The zero check: the row went, or it was counted again.
use Rattle.std.proofs.Common.{◌≡◌, ◌≢◌, ◌⊎◌, inl, inr, ⊎_elim, ℕ, ◌+◌, ◌≤◌, List, [], ◌∷◌, length, refl, sym, ◌∙◌, ap, subst, arith}
use Rattle.std.specs.Prelude.{Option, Some, None, Contains}
use Rattle.std.specs.VecDeque.{deque_len, deque_capacity}
use Rattle.std.proofs.lemmas.Bool.{cases_eq}
use Rattle.std.proofs.lemmas.List.Elements.{All-contains}
use Rattle.pm_device.specs.State.{State, Agree}
use Rattle.pm_device.specs.Settled.{LeavesOnly}
use Rattle.pm_device.specs.Words.{IsIn}
use Rattle.pm_device.proofs.Only.{stores_only-none}
use Rattle.pm_layout.specs.declared.Geometry.{Geometry}
use Rattle.pm_layout.specs.Geometry.{slot_word}
use Rattle.page_alloc.specs.Free.{FreePages}
use Rattle.dn_model.specs.Table.{Row, RowsSay, at_next, at_later}
use Rattle.dn_model.specs.Disk.{Disk, rows}
use Rattle.dn_model.specs.Image.{StandsFor}
use Rattle.dn_model.specs.Own.{Print}
use Rattle.law_table.specs.Changes.{without, slot_before}
use Rattle.law_table.proofs.Rows.{all_listed, listed_here, listed_later, listed_cases}
use Rattle.law_table.proofs.Taken.{without_here, without_other, before_here, before_other}
use Rattle.law_table_on_disk.specs.BalanceLaws.{IsBalanced}
use Rattle.law_table_on_disk.proofs.OneWord.{unread_images}
use Rattle.fact_table.specs.Table.{Table, IsAtSlot}
use Rattle.dn_volume.specs.declared.background.DyingPlace.{DyingPlace}
use Rattle.dn_volume.specs.declared.volume.Parts.{Parts}
use Rattle.dn_volume.specs.Balance.{times, raised, added, dropped, added_to_share, AreCounted}
use Rattle.dn_volume.specs.Reclaims.{one_if}
use Rattle.dn_volume.specs.Reserve.{owed_sum, units_to_clean}
use Rattle.dn_volume.specs.Agrees.{StandsFast, IsVolume}
use Rattle.dn_volume.specs.Events.{IsBetween}
use Rattle.dn_volume.proofs.CountsMoved.{SameUnderWay}
use Rattle.dn_volume.proofs.HandsKept.{owed_same, raised_same}
use Rattle.count_events.specs.Released.{Stops}
use Rattle.reclaim.specs.Worked.{Checks}
use Rattle.reclaim.proofs.RoomWorked.{MovesRoom}

-- what is kept of the rest, where only the table and the free pages came in between
pub checks_since : (b : Parts) (t : Table) (f : FreePages) (b' : Parts) → Checks (record b { fact = t; free = f }) b' → Checks b b'
checks_since b t f b' is = record {
  kept = record {
    geometry = is.kept.geometry;
    names = is.kept.names;
    queue = is.kept.queue;
    flights = is.kept.flights;
    sharing = is.kept.sharing;
    history = is.kept.history;
    trace = is.kept.trace;
    stopped = is.kept.stopped;
    owed_trace = is.kept.owed_trace;
    owed_history = is.kept.owed_history;
    owed_queue = is.kept.owed_queue;
    cleaning = is.kept.cleaning;
    made = is.kept.made;
  };
  inodes = is.inodes;
  zero_check = is.zero_check;
  raised = is.raised;
  releases = is.releases;
  waiting = is.waiting;
  units = is.units;
  owed_releases = is.owed_releases;
}

-- so it is where a fence failed
pub stops_since : (b : Parts) (t : Table) (b' : Parts) → Stops (record b { fact = t }) b' → Stops b b'
stops_since b t b' is = record {
  geometry = is.geometry;
  stopped = is.stopped;
  flights = is.flights;
  sharing = is.sharing;
  cleaning = is.cleaning;
  trace = is.trace;
  history = is.history;
  made = is.made;
}

pub stops_freed : (b : Parts) (f : FreePages) (b' : Parts) → Stops (record b { free = f }) b' → Stops b b'
stops_freed b f b' is = record {
  geometry = is.geometry;
  stopped = is.stopped;
  flights = is.flights;
  sharing = is.sharing;
  cleaning = is.cleaning;
  trace = is.trace;
  history = is.history;
  made = is.made;
}

some_one : (p q : ℕ) (o : Option ℕ) → o ≡ Some p → o ≡ Some q → p ≡ q
some_one p q o a b = cc

none_some : (p : ℕ) (o : Option ℕ) → o ≡ None → o ≡ Some p → ⊥
none_some p o a b = cc

module _ (b b' : Parts) (slot : ℕ) (pending : b.reclaiming.zero_check ≡ Some slot) (checks : Checks b b') where
  pub under_way : (x : ℕ) → SameUnderWay b b' x
  under_way x = record {
    raised_same = raised_same b b' (ap (λ (fs : _). fs.items) checks.kept.flights) checks.kept.sharing checks.raised x;
    added_same = ap (λ (r : _). times x (added_to_share r)) checks.kept.sharing;
    dropped_same = ap (λ (r : _). times x r.items) checks.releases;
  }

  pub one_was : one_if b.reclaiming.zero_check ≡ 1
  one_was = ap (λ (r : Option ℕ). one_if r) pending

  pub none_now : one_if b'.reclaiming.zero_check ≡ 0
  none_now = ap (λ (r : Option ℕ). one_if r) checks.zero_check

  pub raised_one : one_if b'.reclaiming.raised ≡ one_if b.reclaiming.raised
  raised_one = ap (λ (r : Option DyingPlace). one_if r) checks.raised

  pub long_same : length b'.reclaiming.releases.items ≡ length b.reclaiming.releases.items
  long_same = ap (λ (r : _). length r.items) checks.releases

  module _ (d : Disk) (s u : State) (v : IsVolume d b s) where
    pub few_still : length b'.reclaiming.releases.items + owed_sum b' (λ room. room.releases) + one_if b'.reclaiming.raised ≤ 1105920
    few_still = let sum = owed_same b b' (ap (λ (fs : _). fs.items) checks.kept.flights) (λ room. room.releases) in
        omega (arith, v.counts.few, sum, long_same, raised_one)

    pub zero_moves : s.spare ≤ u.spare + 6 → MovesRoom b b' s u
    zero_moves spare = record {
      units = let clean = ap (λ (x : _). units_to_clean x) checks.kept.cleaning in omega (arith, checks.units, one_was, none_now, raised_one, clean);
      spare = omega (arith, checks.units, v.room.units, spare);
      releases = omega (arith, checks.owed_releases, raised_one);
      room = let len = ap (λ (r : _). deque_len r) checks.releases in omega (arith, len, checks.owed_releases);
      capacity = let same = ap (λ (r : _). deque_capacity r) checks.releases in omega (arith, same);
    }

    -- where its row is counted again
    pub counts_again : ((row : Row) → IsAtSlot d slot row → row.rfc ≡ 0 → row.uc ≡ 0 → ⊥) → AreCounted d b'
    counts_again counted = record {
      balanced = all_listed (λ (row : Row). IsBalanced d row (raised b' row.slot) (added b' row.slot) (dropped b' row.slot)) (rows d) (λ row has.
          let was = All-contains (λ (r : Row). IsBalanced d r (raised b r.slot) (added b r.slot) (dropped b r.slot)) (rows d) row v.counts.balanced
          has in
          let same = under_way row.slot in
          record {
            updates = omega (arith, was.updates, same.raised_same, same.added_same, same.dropped_same);
            references = omega (arith, was.references, same.added_same, same.dropped_same);
          });
      there = λ x some. let same = under_way x in v.counts.there x (omega (arith, some, same.raised_same, same.added_same, same.dropped_same));
      zero_checked = λ row has none no_update. absurd
          (counted row (record {
            there = has;
            slot_is = some_one row.slot slot b.reclaiming.zero_check (v.counts.zero_checked row has none no_update)
                pending;
          }) none no_update);
      few = few_still;
    }

-- images of now stand for the disk
pub images_now : (print : Print) (d : Disk) (s : State) (g : Geometry) → StandsFast d g s → Agree s.now s.past → LeavesOnly s s (IsBetween print d d)
images_now print d s g fast agree = record {
  extends = old.extends;
  each = λ m c late left. record { disk = d; stands_for = old.each m c late left; own = λ own. own; same = inl (λ name. refl) };
}
  where
    old : LeavesOnly s s (λ c. StandsFor c d)
    old = unread_images d 0 0 (λ a v told inside. omega (arith, inside.1)) s s (stores_only-none (IsIn 0 0) s agree) fast.stands fast.valid agree
        fast.long

-- the word that decides is told still
pub before_at : (slot b : ℕ) (rs : List Row) → (slot_before b rs slot ≡ b) ⊎ ((r : Row) × Contains rs r × (r.slot ≡ slot_before b rs slot) ×
    (r.slot ≢ slot))
before_at slot b [] = inl refl
before_at slot b (x ∷ rs) = elim (cases_eq x.slot slot) [
  | inl here ↦ inl (before_here slot b x rs here)
  | inr there ↦
      let step : slot_before b (x ∷ rs) slot ≡ slot_before x.slot rs slot = before_other slot b x rs there in
      ⊎_elim (λ first. inr (x, listed_here x rs, sym (step ∙ first), there))
      (λ later. inr (later.0, listed_later x rs later.0 later.1, later.2 ∙ sym step, later.3)) (before_at slot x.slot rs)
]

pub without_kept : (slot : ℕ) (rs : List Row) (r : Row) → Contains rs r → r.slot ≢ slot → Contains (without slot rs) r
without_kept slot [] r has ne = absurd (omega (arith, has.1))
without_kept slot (x ∷ rs) r has ne = ⊎_elim
    (λ (first : x ≡ r).
    subst (λ (y : Row). Contains (without slot (y ∷ rs)) r) (sym first) (subst (λ (ys : List Row). Contains ys r) (sym (without_other slot r rs ne))
    (listed_here r (without slot rs))))
    (λ (later : Contains rs r).
    let still = without_kept slot rs r later ne in
    elim (cases_eq x.slot slot) [
      | inl here ↦ subst (λ (ys : List Row). Contains ys r) (sym (without_here slot x rs here)) still
      | inr there ↦ subst (λ (ys : List Row). Contains ys r) (sym (without_other slot x rs there)) (listed_later x (without slot rs) r still)
    ]) (listed_cases x rs r has)

pub next_told : (g : Geometry) (rs : List Row) (r : Row) → Contains rs r → (v : ℕ) × RowsSay g rs (slot_word g r.slot 5) v
next_told g [] r has = absurd (omega (arith, has.1))
next_told g (x ∷ rs) r has = ⊎_elim
    (λ (first : x ≡ r). (_, at_next (ap (λ (y : Row). slot_word g y.slot 5) (sym first)) refl))
    (λ (later : Contains rs r). let told = next_told g rs r later in (told.0, at_later told.1)) (listed_cases x rs r has)
