-- Where nothing waits, the free pages of the disk are those that are kept as free, those that operations in flight have
-- taken, and at most one that the daemon has raised.
use Rattle.std.proofs.Common.{
  ◌≡◌,
  ◌≢◌,
  ◌⊎◌,
  inl,
  inr,
  ⊎_elim,
  ℕ,
  zero,
  suc,
  ◌+◌,
  ◌-◌,
  ◌/◌,
  ◌<◌,
  ◌≤◌,
  Bool,
  true,
  false,
  List,
  [],
  ◌∷◌,
  ◌++◌,
  length,
  take,
  refl,
  sym,
  ◌∙◌,
  ap,
  subst,
  arith,
  Option,
  Some,
  None,
  length-append,
}
use Rattle.std.specs.Prelude.{All, AllPairs, Contains, IsSome, IsNone, get_or, slice_get, if◌then◌else◌, ◌==◌}
use Rattle.std.proofs.lemmas.Bool.{cases_eq, cases_lt, ne_eqb, eqb-true}
use Rattle.std.proofs.lemmas.Bool.Decides.{Decides-eqb}
use Rattle.std.proofs.lemmas.Cmp.{nat_eq_equiv}
use Rattle.std.proofs.lemmas.List.Elements.{Contains-append_left, Contains-append_right, Contains-append_cases}
use Rattle.std.proofs.lemmas.Map.Made.{length-le_from_is_member, IsDistinct-from_AllPairs, is_member-Decides}
use Rattle.std.proofs.lemmas.Option.{slice_get_cases}
use Rattle.pm_device.specs.State.{State}
use Rattle.dn_model.specs.Maps.{Mapping}
use Rattle.dn_model.specs.Table.{Row, row_of}
use Rattle.dn_model.specs.Disk.{Disk, Use, Free, Live, Dying, IsUsed, IsMapped, maps, rows}
use Rattle.dn_model.specs.History.{needed, IsNeed, AreNeeds, IsHalf, IsShortOfSpace}
use Rattle.dn_volume.specs.Begins.{LacksSpace, AreFlying}
use Rattle.dn_volume.specs.Laws.{WantsAreShort}
use Rattle.dn_volume.proofs.FlightsGranted.{flights_granted}
use Rattle.dn_model.specs.Counts.{total, mappings, IsFree}
use Rattle.law_write.specs.Events.{IsUnused}
use Rattle.law_write.proofs.Counting.{total-some}
use Rattle.law_write.proofs.MappedPlaces.{maps-in_file}
use Rattle.law_unique.proofs.Counted.{counts_mappings}
use Rattle.law_unique.proofs.Listings.{here, later, none_listed, cons_cases}
use Rattle.law_table.proofs.Rows.{row_listed, some_or_none}
use Rattle.law_table_on_disk.specs.BalanceLaws.{IsBalanced}
use Rattle.dn_volume.specs.declared.background.Sharing.{Sharing}
use Rattle.dn_volume.specs.declared.background.SharingStep.{SharingStep}
use Rattle.dn_volume.specs.declared.background.SharingStep.TheVariants.{Look, Remap, Settle}
use Rattle.dn_volume.specs.declared.flight.Flight.{Flight}
use Rattle.dn_volume.specs.declared.flight.Change.{Change}
use Rattle.dn_volume.specs.declared.flight.Change.TheVariants.{Data, Names}
use Rattle.dn_volume.specs.declared.flight.DataChange.{DataChange}
use Rattle.dn_volume.specs.declared.background.Cleaning.{Cleaning}
use Rattle.dn_model.specs.Log.{count}
use Rattle.dn_volume.specs.Cleans.{new_log}
use Rattle.law_clean.specs.Cleaned.{cleaned_slots}
use Rattle.dn_volume.specs.declared.volume.Parts.{Parts}
use Rattle.dn_volume.specs.Parties.{Flies, Takes, for_client, for_cleaning, flight_at, opened, taken_by}
use Rattle.dn_volume.specs.Balance.{times, raised_by, raised_to_share, raised_to_die, raised_at, raised, added, dropped}
use Rattle.dn_volume.specs.Planned.{slot_of_row, slot_of, row_slots, PlansData}
use Rattle.dn_model.specs.declared.op.Op.{Op}
use Rattle.dn_model.specs.declared.op.Op.TheVariants.{Create, Write, Read, Cut, Remove, Rename, Size, List as ListAll}
use Rattle.dn_volume.specs.Flights.{IsFlightOf}
use Rattle.dn_volume.specs.Reclaims.{one_if}
use Rattle.dn_volume.specs.Agrees.{IsVolume}
use Rattle.dn_volume.proofs.Wants.{none_raised, none_released}

distinct-le : (xs ys : List ℕ) → AllPairs (λ p q. p ≢ q) xs → ((x : ℕ) → Contains xs x → Contains ys x) → length xs ≤ length ys
distinct-le xs ys apart has = length-le_from_is_member nat_eq_equiv xs ys (IsDistinct-from_AllPairs Decides-eqb xs apart)
    (λ q member. (is_member-Decides Decides-eqb ys q).1 (has q ((is_member-Decides Decides-eqb xs q).0 member)))

row_of_listed : (rs : List Row) (page : ℕ) (row : Row) → row_of rs page ≡ Some row → Contains rs row × (row.page ≡ page)
row_of_listed [] page row is = absurd (cc is)
row_of_listed (x ∷ rs) page row is = by (x.page == page) refl is (row_of_listed rs page row)
  where
    by : (t : Bool) → (x.page == page) ≡ t → (if t then Some x else row_of rs page) ≡ Some row
        → (row_of rs page ≡ Some row → Contains rs row × (row.page ≡ page)) → Contains (x ∷ rs) row × (row.page ≡ page)
    by true test found rest = let same : x ≡ row = cc found in (
      subst (Contains (x ∷ rs)) same (here x rs),
      ap (λ (r : Row). r.page) (sym same) ∙
          eqb-true x.page page test,
    )
    by false test found rest = let more = rest found in (later x row rs more.0, more.1)

-- what stands in a list
counts_rest : (t : Bool) (n : ℕ) → t ≡ false → 1 ≤ (if t then 1 else 0) + n → 1 ≤ n
counts_rest true n is some = absurd (cc is)
counts_rest false n is some = omega (arith, some)

times_listed : (slot : ℕ) (xs : List ℕ) → 1 ≤ times slot xs → Contains xs slot
times_listed slot [] some = absurd (omega (arith, some))
times_listed slot (x ∷ xs) some = ⊎_elim
    (λ same. subst (Contains (x ∷ xs)) same (here x xs))
    (λ other. later x slot xs (times_listed slot xs (less other))) (cases_eq x slot)
  where
    less : (x ≡ slot → ⊥) → 1 ≤ times slot xs
    less other = counts_rest (x == slot) (times slot xs) (ne_eqb x slot other) some

take_listed : (n : ℕ) (xs : List ℕ) (x : ℕ) → Contains (take n xs) x → Contains xs x
take_listed zero xs x has = absurd (none_listed x has)
take_listed (suc n) [] x has = absurd (none_listed x has)
take_listed (suc n) (y ∷ xs) x has = ⊎_elim (λ same. subst (Contains (y ∷ xs)) same (here y xs)) (λ rest. later y x xs (take_listed n xs x rest))
    (cons_cases y x (take n xs) has)

-- the pages that operations have taken
abbrev taken_at : Option Flight → List ℕ
taken_at None = []
taken_at (Some f) = taken_by f

-- those at n places from k on, and how many they are
abbrev all_from : Parts → ℕ → ℕ → List ℕ
all_from b k zero = []
all_from b k (suc n) = taken_at (flight_at b.flights.items k) ++ all_from b (k + 1) n

abbrev count_from : Parts → ℕ → ℕ → ℕ
count_from b k zero = 0
count_from b k (suc n) = length (taken_at (flight_at b.flights.items k)) + count_from b (k + 1) n

-- the pages that a cleaning has taken
abbrev clean_taken : Option Cleaning → List ℕ
clean_taken None = []
clean_taken (Some c) = c.pages.items

all_length : (b : Parts) (k n : ℕ) → length (all_from b k n) ≡ count_from b k n
all_length b k zero = refl
all_length b k (suc n) = let rest = all_length b (k + 1) n in length-append (taken_at (flight_at b.flights.items k)) (all_from b (k + 1) n) ∙ ap
    (λ (m : ℕ). length (taken_at (flight_at b.flights.items k)) + m) rest

in_taken : (b : Parts) (k n j page : ℕ) → k ≤ j → j < k + n → Contains (taken_at (flight_at b.flights.items j)) page → Contains (all_from b k n) page
in_taken b k zero j page le lt has = absurd (omega (arith, le, lt))
in_taken b k (suc n) j page le lt has = ⊎_elim
    (λ same. Contains-append_left (taken_at (flight_at b.flights.items k)) (all_from b (k + 1) n) page
    (subst (λ (i : ℕ). Contains (taken_at (flight_at b.flights.items i)) page) same has))
    (λ other. Contains-append_right (taken_at (flight_at b.flights.items k)) (all_from b (k + 1) n) page
    (in_taken b (k + 1) n j page (omega (arith, le, other)) (omega (arith, lt)) has)) (cases_eq j k)

-- what they do, as scripts
abbrev ops_at : Option Flight → List Op
ops_at None = []
ops_at (Some f) = f.op ∷ []

abbrev scripts_from : Parts → ℕ → ℕ → List (List Op)
scripts_from b k zero = []
scripts_from b k (suc n) = ops_at (flight_at b.flights.items k) ∷ scripts_from b (k + 1) n

scripts_length : (b : Parts) (k n : ℕ) → length (scripts_from b k n) ≡ n
scripts_length b k zero = refl
scripts_length b k (suc n) = ap suc (scripts_length b (k + 1) n)

script_at : (b : Parts) (k n i : ℕ) (ops : List Op) → slice_get (scripts_from b k n) i ≡ Some ops → ops ≡ ops_at (flight_at b.flights.items (k + i))
script_at b k zero i ops is = absurd (cc is)
script_at b k (suc n) zero ops is = let same : ops_at (flight_at b.flights.items k) ≡ ops = cc is in let e : k ≡ k + 0 = omega arith in
    sym same ∙ ap (λ (j : ℕ). ops_at (flight_at b.flights.items j)) e
script_at b k (suc n) (suc i) ops is = let e : k + 1 + i ≡ k + suc i = omega arith in script_at b (k + 1) n i ops is ∙ ap
    (λ (j : ℕ). ops_at (flight_at b.flights.items j)) e

module _ (d : Disk) (b : Parts) (s : State) (volume : IsVolume d b s) (none_waits : b.reclaiming.waiting ≡ 0) where
  -- rows at one slot are one
  one_row : (r q : Row) → Contains (rows d) r → Contains (rows d) q → r.slot ≡ q.slot → r ≡ q
  one_row r q (i, il, is) (j, jl, js) same =
      let at_i = got (rows d) i r il is in
      let at_j = got (rows d) j q jl js in
      let where_same = volume.fast.valid.rows_apart.slot i j r q at_i at_j same in
      both (slice_get (rows d) i) at_i (ap (slice_get (rows d)) where_same ∙ at_j)
    where
      got : (xs : List Row) (i : ℕ) (x : Row) → i < length xs → get_or xs i x ≡ x → slice_get xs i ≡ Some x
      got [] i x lt is = absurd (omega (arith, lt))
      got (y ∷ xs) zero x lt is = ap Some is
      got (y ∷ xs) (suc i) x lt is = got xs i x (omega (arith, lt)) is

      both : (o : Option Row) → o ≡ Some r → o ≡ Some q → r ≡ q
      both o one other = cc

  -- a slot of the rows of places is that of a mapped page
  slots_mapped : (ino n from slot : ℕ) → ino < d.geometry.inodes → Contains (row_slots d ino from n) slot → (row : Row) × Contains (rows d)
      row × (row.slot ≡ slot) × IsMapped d row.page
  unfolding row_slots
  slots_mapped ino zero from slot lt has = absurd (none_listed slot has)
  slots_mapped ino (suc n) from slot lt has = ⊎_elim (λ first. at_place (maps d ino from) refl first) (λ rest. slots_mapped ino n (from + 1) slot lt
      rest) (Contains-append_cases (slot_of d (maps d ino from)) (row_slots d ino (from + 1) n) slot has)
    where
      slot_is : (row : Row) → Contains (row.slot ∷ []) slot → row.slot ≡ slot
      slot_is row first = ⊎_elim (λ same. same) (λ none. absurd (none_listed slot none)) (cons_cases row.slot slot [] first)

      at_row : (m : Mapping) → maps d ino from ≡ Some m → (r : Option Row) → row_of (rows d) m.block ≡ r → Contains (slot_of_row r) slot
          → (row : Row) × Contains (rows d) row × (row.slot ≡ slot) × IsMapped d row.page
      at_row m is None at first = absurd (none_listed slot first)
      at_row m is (Some row) at first =
          let listed = row_of_listed (rows d) m.block row at in (
            row,
            listed.0,
            slot_is row first,
            record {
              ino = ino;
              idx = from;
              maps_to = record {
                in_table = lt;
                in_file = maps-in_file d volume.fast.valid ino from m lt is;
                by = m;
                is = is;
                block = sym listed.1;
              };
            },
          )

      at_place : (m : Option Mapping) → maps d ino from ≡ m → Contains (slot_of d m) slot → (row : Row) × Contains (rows d) row × (row.slot ≡ slot) ×
          IsMapped d row.page
      at_place None is first = absurd (none_listed slot first)
      at_place (Some m) is first = at_row m is (row_of (rows d) m.block) refl first

  -- the rows that an operation has raised are those of mapped pages
  data_rows : (f : Flight) (c : DataChange) (op : Op) (slot : ℕ) → f.ino < d.geometry.inodes → PlansData d f c op → Contains f.rows.items slot
      → (row : Row) × Contains (rows d) row × (row.slot ≡ slot) × IsMapped d row.page
  data_rows f c (Create name) slot lt plans has = absurd plans
  data_rows f c (Write name at text) slot lt plans has = slots_mapped f.ino _ _ slot lt (subst (λ (xs : List ℕ). Contains xs slot) plans.rows has)
  data_rows f c (Read name at count) slot lt plans has = absurd plans
  data_rows f c (Cut name to) slot lt plans has = slots_mapped f.ino _ _ slot lt (subst (λ (xs : List ℕ). Contains xs slot) plans.rows has)
  data_rows f c (Remove name) slot lt plans has = absurd plans
  data_rows f c (Rename from to) slot lt plans has = absurd plans
  data_rows f c (Size name) slot lt plans has = absurd plans
  data_rows f c ListAll slot lt plans has = absurd plans

  flight_rows : (who : ℕ) (f : Flight) (slot : ℕ) (c : Change) → IsFlightOf d who f s c → Contains f.rows.items slot → (row : Row) × Contains (rows d)
      row × (row.slot ≡ slot) × IsMapped d row.page
  flight_rows who f slot (Data c) is has = data_rows f c f.op slot is.grows.in_table is.plans has
  flight_rows who f slot (Names c) is has = absurd (none_listed slot (subst (λ (xs : List ℕ). Contains xs slot) is.no_rows has))

  raised_mapped : (k slot : ℕ) (x : Option Flight) → flight_at b.flights.items k ≡ x → 1 ≤ times slot (raised_by x) → (row : Row) × Contains (rows d)
      row × (row.slot ≡ slot) × IsMapped d row.page
  raised_mapped k slot None is some = absurd (omega (arith, some))
  raised_mapped k slot (Some f) is some =
      let less : k + 1 - 1 ≡ k = omega arith in
      let flies : Flies b (k + 1) f = record { client = omega arith; is = ap (flight_at b.flights.items) less ∙ is } in
      flight_rows (k + 1) f slot f.change (volume.flights.each (k + 1) f flies)
      (take_listed f.raised f.rows.items slot (times_listed slot (take f.raised f.rows.items) some))

  -- the row that the daemon has raised, if there is one
  abbrev Shared : Row → Type 0
  Shared row = (sharing : Sharing) × (b.sharing ≡ Some sharing) × (sharing.step ≡ Remap row.slot)

  shared_row : (row : Row) (x : Option Sharing) → b.sharing ≡ x → 1 ≤ times row.slot (raised_to_share x) → Shared row
  shared_row row None is some = absurd (omega (arith, some))
  shared_row row (Some sharing) is some = (sharing, is, by sharing.step some)
    where
      by : (step : SharingStep) → 1 ≤ times row.slot (raised_at step) → step ≡ Remap row.slot
      by Look none = absurd (omega (arith, none))
      by (Settle slot inserted) none = absurd (omega (arith, none))
      by (Remap slot) one = ⊎_elim (λ same. ap Remap same) (λ none. absurd (none_listed row.slot none))
          (cons_cases slot row.slot [] (times_listed row.slot (slot ∷ []) one))

  -- a free page with a row is the one that the daemon has raised
  free_row : (page : ℕ) (row : Row) → IsFree d page → Contains (rows d) row → row.page ≡ page → Shared row
  free_row page row free there at =
      ⊎_elim (λ (some : 1 ≤ total 14 (λ k. times row.slot (raised_by (flight_at b.flights.items k)))).
      let where_is = total-some (λ k. times row.slot (raised_by (flight_at b.flights.items k))) 14 some in
      let found = raised_mapped where_is.0 row.slot (flight_at b.flights.items where_is.0) refl where_is.2 in
      let same = one_row found.0 row found.1 there found.2 in
      absurd (let counted = (counts_mappings d page).1 (subst (IsMapped d) (ap (λ (r : Row). r.page) same ∙ at) found.3) in
      omega (arith, counted, free.unmapped)))
      (λ few. shared_row row b.sharing refl (left_over few)) (some_or_few (total 14 (λ k. times row.slot (raised_by (flight_at b.flights.items k)))))
    where
      some_or_few : (n : ℕ) → (1 ≤ n) ⊎ (n ≡ 0)
      some_or_few zero = inr refl
      some_or_few (suc n) = inl (omega arith)

      balanced : IsBalanced d row (raised b row.slot) (added b row.slot) (dropped b row.slot)
      balanced = subst (λ (r : Row). IsBalanced d r (raised b r.slot) (added b r.slot) (dropped b r.slot)) there.2
          (volume.counts.balanced there.0 row there.1)

      unmapped : mappings d row.page ≡ 0
      unmapped = ap (mappings d) at ∙ free.unmapped

      nothing_dropped : dropped b row.slot ≡ 0
      nothing_dropped = empty b.reclaiming.releases.items (none_released d b s volume none_waits)
        where
          empty : (xs : List ℕ) → length xs ≡ 0 → times row.slot xs ≡ 0
          empty [] none = refl
          empty (x ∷ xs) none = absurd (omega (arith, none))

      not_zero : row.rfc ≡ 0 → row.uc ≡ 0 → ⊥
      not_zero rfc uc =
          let check = volume.counts.zero_checked row there rfc uc in
          let one : one_if b.reclaiming.zero_check ≡ 1 = ap one_if check in
          let none : one_if b.reclaiming.raised ≡ 0 = ap one_if (none_raised d b s volume none_waits) in
          let waits = volume.reclaiming.waiting in
          omega (arith, one, none, waits, none_waits)

      some_raised : 1 ≤ raised b row.slot
      some_raised = ⊎_elim (λ some. some)
          (λ none. absurd (not_zero (let r = balanced.references in omega (arith, r, unmapped, nothing_dropped)) (let u = balanced.updates in
          let r = balanced.references in omega (arith, u, r, none, unmapped, nothing_dropped))))
          (some_or_few (raised b row.slot))

      left_over : total 14 (λ k. times row.slot (raised_by (flight_at b.flights.items k))) ≡ 0 → 1 ≤ times row.slot (raised_to_share b.sharing)
      left_over few =
          let some = some_raised in
          let died : times row.slot (raised_to_die b.reclaiming.raised) ≡ 0 = ap (λ r. times row.slot (raised_to_die r))
          (none_raised d b s volume none_waits) in
          omega (arith, some, few, died)

  shared_same : (r q : Row) → Contains (rows d) r → Contains (rows d) q → Shared r → Shared q → r ≡ q
  shared_same r q here_r here_q (one, is_one, step_one) (two, is_two, step_two) =
      let same : Some one ≡ Some two = sym is_one ∙ is_two in
      let same_sharing : one ≡ two = cc same in
      let steps : Remap r.slot ≡ Remap q.slot = sym step_one ∙ ap (λ (x : Sharing). x.step) same_sharing ∙ step_two in
      let slots : r.slot ≡ q.slot = cc steps in
      one_row r q here_r here_q slots

  -- what they need is what they have taken
  need_at : (k : ℕ) (x : Option Flight) → flight_at b.flights.items k ≡ x → IsNeed d (ops_at x) (length (taken_at x))
  need_at k None is = refl
  need_at k (Some f) is =
      let less : k + 1 - 1 ≡ k = omega arith in
      let flies : Flies b (k + 1) f = record { client = omega arith; is = ap (flight_at b.flights.items) less ∙ is } in
      let granted = flights_granted d (k + 1) f s (volume.flights.each (k + 1) f flies) in
      inl (
        (f.op, here f.op [], granted.0, sym granted.1),
        λ op has also. ⊎_elim (λ same. subst (λ (o : Op). needed d o ≤ length (taken_by f)) same
            (let e = granted.1 in omega (arith, e))) (λ none. absurd (none_listed op none)) (cons_cases f.op op [] has),
      )

  needs_from : (k n : ℕ) → AreNeeds d (scripts_from b k n) (count_from b k n)
  needs_from k zero = refl
  needs_from k (suc n) = (
    length (taken_at (flight_at b.flights.items k)),
    count_from b (k + 1) n,
    need_at k (flight_at b.flights.items k) refl,
    needs_from (k + 1) n,
    refl,
  )

  -- the longest log
  used_or_not : (u : Use) → IsUsed u ⊎ (IsUsed u → ⊥)
  used_or_not Free = inr (λ none. none)
  used_or_not Live = inl tt
  used_or_not (Dying cut) = inl tt

  abbrev Longest : ℕ → ℕ → Type 0
  Longest n best = (best < suc n) × IsUsed (d.inode best).use_of × ((i : ℕ) → i < suc n → IsUsed (d.inode i).use_of
      → length (d.inode i).log.pages ≤ length (d.inode best).log.pages)

  longest : (n : ℕ) → (best : ℕ) × Longest n best
  longest zero = (
    0,
    (
      omega arith,
      subst IsUsed (sym volume.fast.valid.root) tt,
      λ i lt used. let e : i ≡ 0 = omega (arith, lt) in
          subst (λ (j : ℕ). length (d.inode i).log.pages ≤ length (d.inode j).log.pages) e (omega arith),
    ),
  )
  longest (suc n) = by (longest n) (used_or_not (d.inode (suc n)).use_of)
    where
      keeps : (best : ℕ) → Longest n best → ((IsUsed (d.inode (suc n)).use_of) → length (d.inode (suc n)).log.pages ≤ length (d.inode best).log.pages)
          → Longest (suc n) best
      keeps best (lt, used, most) last = (
        omega (arith, lt),
        used,
        λ i small is. ⊎_elim (λ below. most i below is)
            (λ top. let e : suc n ≡ i = omega (arith, small, top) in subst (λ (j : ℕ). IsUsed (d.inode j).use_of → length (d.inode j).log.pages ≤ length
            (d.inode best).log.pages) e last is) (cases_lt i (suc n)),
      )

      by : ((best : ℕ) × Longest n best) → (IsUsed (d.inode (suc n)).use_of ⊎ (IsUsed (d.inode (suc n)).use_of → ⊥)) → (best : ℕ) × Longest (suc n)
          best
      by (best, was) (inr unused) = (best, keeps best was (λ used. absurd (unused used)))
      by (best, was) (inl used) = ⊎_elim
          (λ longer. (
            suc n,
            (
              omega arith,
              used,
              λ i small is. ⊎_elim (λ below. let le = was.2 i below is in omega (arith, le, longer))
                  (λ top. let e : suc n ≡ i = omega (arith, small, top) in
                  subst (λ (j : ℕ). length (d.inode j).log.pages ≤ length (d.inode (suc n)).log.pages) e (omega arith)) (cases_lt i (suc n)),
            ),
          ))
          (λ le. (best, keeps best was (λ used'. le))) (cases_lt (length (d.inode best).log.pages) (length (d.inode (suc n)).log.pages))

  half : (h : ℕ) × IsHalf d h
  half =
      let accepted = volume.fast.valid.accepted in
      let best = longest (d.geometry.inodes - 1) in (
        length (d.inode best.0).log.pages / 2,
        record {
          ino = best.0;
          in_table = let it = best.1 in let lt = it.0 in let some = accepted.inodes in omega (arith, lt, some);
          used = let it = best.1 in it.1;
          is = refl;
          most = λ i lt used. let it = best.1 in it.2 i (let some = accepted.inodes in omega (arith, lt, some)) used;
        },
      )

  -- each free page is accounted for
  first_row : (pages : List ℕ) → ((p : ℕ) × Contains pages p × IsSome (row_of (rows d) p)) ⊎ ((p : ℕ) → Contains pages p → IsNone (row_of (rows d) p))
  first_row [] = inr (λ p has. absurd (none_listed p has))
  first_row (x ∷ pages) = by (some_or_none (row_of (rows d) x)) (first_row pages)
    where
      by : IsSome (row_of (rows d) x) ⊎ IsNone (row_of (rows d) x) → ((p : ℕ) × Contains pages p × IsSome (row_of (rows d) p))
          ⊎ ((p : ℕ) → Contains pages p → IsNone (row_of (rows d) p))
          → ((p : ℕ) × Contains (x ∷ pages) p × IsSome (row_of (rows d) p)) ⊎ ((p : ℕ) → Contains (x ∷ pages) p → IsNone (row_of (rows d) p))
      by (inl some) rest = inl (x, here x pages, some)
      by (inr none) (inl found) = inl (found.0, later x found.0 pages found.1, found.2)
      by (inr none) (inr all) = inr (λ p has. ⊎_elim (λ same. subst (λ (q : ℕ). IsNone (row_of (rows d) q)) same none) (λ rest. all p rest)
          (cons_cases x p pages has))

  count_new : (c : Cleaning) → count (new_log d c) ≡ cleaned_slots c.ino (d.inode c.ino).log
  unfolding count
  count_new c = refl

  -- those of a cleaning are at most half of a log's
  few_cleaned : (o : Option Cleaning) → b.reclaiming.cleaning ≡ o → length (clean_taken o) ≤ half.0
  few_cleaned None is = omega arith
  few_cleaned (Some c) is =
      let cleans = volume.cleaning c is in
      let fits = cleans.paged.fits in
      let worth = cleans.worth.half in
      let most = half.1.most c.ino cleans.in_table (subst IsUsed (sym cleans.live) tt) in
      let h = half.1.is in
      let same = count_new c in
      omega (arith, fits, same, worth, most, h)

  abbrev all_taken : List ℕ
  all_taken = all_from b 0 14 ++ clean_taken b.reclaiming.cleaning

  unused_listed : (page : ℕ) → IsUnused d page → Contains b.free.free page ⊎ Contains (all_taken) page
  unused_listed page unused = ⊎_elim (λ none. inl ((volume.space.free page).1 (unused, none)))
      (λ some. inr (taken (volume.space.taker page) (volume.space.taken page some))) (cases_eq (volume.space.taker page) 0)
    where
      few : (who : ℕ) (f : Flight) → flight_at b.flights.items (who - 1) ≡ Some f → who - 1 < 14
      few who f is = ⊎_elim (λ found. let lt = found.1 in let all = volume.flights.clients in omega (arith, lt, all))
          (λ none. absurd (gone (slice_get b.flights.items (who - 1)) none.1 is)) (slice_get_cases b.flights.items (who - 1)).1
        where
          gone : (r : Option (Option Flight)) → r ≡ None → opened r ≡ Some f → ⊥
          gone None none some = cc some
          gone (Some x) none some = cc none

      taken : (who : ℕ) → Takes b who page → Contains all_taken page
      taken who (for_cleaning c him is has) =
          Contains-append_right (all_from b 0 14) (clean_taken b.reclaiming.cleaning) page
          (subst (λ (o : Option Cleaning). Contains (clean_taken o) page) (sym is) has)
      taken who (for_client f flies has) =
          Contains-append_left (all_from b 0 14) (clean_taken b.reclaiming.cleaning) page (in_taken b 0 14 (who - 1) page (omega arith) (let lt = few who f flies.is in omega (arith, lt))
          (subst (λ (x : Option Flight). Contains (taken_at x) page) (sym flies.is) has))

  bounded : (pages : List ℕ) → AllPairs (λ p q. p ≢ q) pages → All (IsFree d) pages → length pages ≤ length b.free.free + count_from b 0 14 + half.0 + 1
  bounded pages apart free = ⊎_elim one_more none_more (first_row pages)
    where
      long : length (b.free.free ++ all_taken) ≤ length b.free.free + count_from b 0 14 + half.0
      long = omega (
        arith,
        length-append b.free.free all_taken,
        length-append (all_from b 0 14) (clean_taken b.reclaiming.cleaning),
        all_length b 0 14,
        few_cleaned b.reclaiming.cleaning refl,
      )

      free_at : (page : ℕ) → Contains pages page → IsFree d page
      free_at page has = subst (IsFree d) has.2 (free has.0 page has.1)

      listed : (page : ℕ) → Contains pages page → IsNone (row_of (rows d) page) → Contains (b.free.free ++ all_taken) page
      listed page has none = ⊎_elim (λ f. Contains-append_left b.free.free all_taken page f)
          (λ t. Contains-append_right b.free.free all_taken page t) (unused_listed page (record { free = free_at page has; no_row = none }))

      none_more : ((p : ℕ) → Contains pages p → IsNone (row_of (rows d) p)) → length pages ≤ length b.free.free + count_from b 0 14 + half.0 + 1
      none_more none = let le = distinct-le pages (b.free.free ++ all_taken) apart (λ page has. listed page has (none page has)) in
          omega (arith, le, long)

      one_more : ((p : ℕ) × Contains pages p × IsSome (row_of (rows d) p)) → length pages ≤ length b.free.free + count_from b 0 14 + half.0 + 1
      one_more (p, has, some) = let le = distinct-le pages (p ∷ (b.free.free ++ all_taken)) apart each in omega (arith, le, long)
        where
          same_page : (page : ℕ) → Contains pages page → IsSome (row_of (rows d) page) → p ≡ page
          same_page page in_pages has_row =
              let one = row_listed (rows d) p some in
              let two = row_listed (rows d) page has_row in
              let same = shared_same one.0 two.0 one.1 two.1 (free_row p one.0 (free_at p has) one.1 one.2)
              (free_row page two.0 (free_at page in_pages) two.1 two.2) in
              sym one.2 ∙ ap (λ (r : Row). r.page) same ∙ two.2

          each : (page : ℕ) → Contains pages page → Contains (p ∷ (b.free.free ++ all_taken)) page
          each page in_pages = ⊎_elim
              (λ row. subst (Contains (p ∷ (b.free.free ++ all_taken))) (same_page page in_pages row) (here p (b.free.free ++ all_taken)))
              (λ none. later p page (b.free.free ++ all_taken) (listed page in_pages none)) (some_or_none (row_of (rows d) page))

  flying : (who : ℕ) → 1 ≤ who → flight_at b.flights.items (who - 1) ≡ None → AreFlying b who (scripts_from b 0 14)
  flying who client idle = record {
    clients = scripts_length b 0 14;
    script = λ i ops is op. let at = script_at b 0 14 i ops is in (
      λ has. told i op (flight_at b.flights.items (0 + i)) refl (subst (λ (xs : List Op). Contains xs op) at has),
      λ said. subst (λ (xs : List Op). Contains xs op) (sym at) (said_op i op said.1 said.2 said.3),
    );
  }
    where
      told : (i : ℕ) (op : Op) (x : Option Flight) → flight_at b.flights.items (0 + i) ≡ x → Contains (ops_at x) op
          → (i + 1 ≢ who) × (f : Flight) × Flies b (i + 1) f × (f.op ≡ op)
      told i op None is has = absurd (none_listed op has)
      told i op (Some f) is has =
          let place : i + 1 - 1 ≡ 0 + i = omega arith in (
            (λ same. let e : 0 + i ≡ who - 1 = omega (arith, same) in
                absurd (clash (flight_at b.flights.items (0 + i)) (ap (flight_at b.flights.items) e ∙ idle) is)),
            f,
            record { client = omega arith; is = ap (flight_at b.flights.items) place ∙ is },
            ⊎_elim (λ same. same) (λ none. absurd (none_listed op none)) (cons_cases f.op op [] has),
          )
        where
          clash : (r : Option Flight) → r ≡ None → r ≡ Some f → ⊥
          clash r none some = cc

      said_op : (i : ℕ) (op : Op) (f : Flight) → Flies b (i + 1) f → f.op ≡ op → Contains (ops_at (flight_at b.flights.items (0 + i))) op
      said_op i op f flies is =
          let place : i + 1 - 1 ≡ 0 + i = omega arith in
          subst (λ (x : Option Flight). Contains (ops_at x) op) (sym (ap (flight_at b.flights.items) (sym place) ∙ flies.is))
          (subst (Contains (f.op ∷ [])) is (here f.op []))

  short : (who : ℕ) (op : Op) → LacksSpace d b op → IsShortOfSpace d (scripts_from b 0 14) op (needed d op) (length b.free.free)
  short who op lacks = record {
    is_need = refl;
    some = lacks.0;
    lacks = lacks.1;
    x = count_from b 0 14;
    others = needs_from 0 14;
    h = half.0;
    half = half.1;
    few = λ pages apart free. let le = bounded pages apart free in omega (arith, le);
  }

pub wants_are_short : WantsAreShort
wants_are_short d b s who op client volume idle none lacks = (
  scripts_from b 0 14,
  flying d b s volume none who client idle,
  short d b s volume none
      who op lacks,
)
