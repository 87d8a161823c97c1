-- What is known where the last event of a cut is made.
use Rattle.std.proofs.Common.{◌≡◌, ◌≢◌, ◌⊎◌, inl, inr, ℕ, ◌+◌, ◌-◌, ◌/◌, ◌%◌, ◌<◌, ◌≤◌, List, [], ◌∷◌, ◌++◌, length, refl, sym, ◌∙◌, ap, subst, arith}
use Rattle.std.specs.Prelude.{slice_get, slice_index, Option, Some, None}
use Rattle.std.specs.Option.{option_map}
use Rattle.std.specs.FinMap.{get}
use Rattle.std.proofs.lemmas.Bool.{cases_eq, cases_lt}
use Rattle.std.proofs.lemmas.List.{length-map}
use Rattle.pm_device.specs.State.{State}
use Rattle.log_entry.specs.Spelling.{pages_of}
use Rattle.file_content.specs.Content.{kept}
use Rattle.file_content.specs.Runs.{seen, all_seen}
use Rattle.dn_model.specs.Log.{count, tail_at, slot_name}
use Rattle.dn_model.specs.Maps.{Mapping as DiskMapping}
use Rattle.dn_model.specs.Disk.{Disk, maps}
use Rattle.dn_model.specs.Files.{files}
use Rattle.dn_model.specs.Apply.{Grants}
use Rattle.dn_model.specs.declared.op.Op.{Op}
use Rattle.dn_model.specs.declared.op.Op.TheVariants.{Cut}
use Rattle.dn_model.specs.declared.op.Reply.TheVariants.{Done}
use Rattle.law_write.specs.Runs.{Run, places_in}
use Rattle.law_cut.specs.Cutting.{MayRefill, last_page, refill_runs, cut_items}
use Rattle.law_cut.specs.CutLaws.{CutsPlaces}
use Rattle.dn_volume.specs.declared.flight.Flight.{Flight}
use Rattle.dn_volume.specs.declared.flight.Change.TheVariants.{Data}
use Rattle.dn_volume.specs.declared.flight.DataChange.{DataChange}
use Rattle.dn_volume.specs.declared.volume.InodeState.{InodeState}
use Rattle.dn_volume.specs.declared.volume.Parts.{Parts}
use Rattle.dn_volume.specs.Parties.{Flies, flight_at}
use Rattle.dn_volume.specs.Planned.{gone_from, PlansCut}
use Rattle.dn_volume.specs.Flights.{IsDataFlight}
use Rattle.dn_volume.specs.Agrees.{IsVolume}
use Rattle.file_ops.specs.Ends.{ChangesData, ChangesInode}
use Rattle.file_ops.specs.Giving.{Gives, IsUnsharedAmong}
use Rattle.file_ops.proofs.Basics.{same_flight}
use Rattle.file_ops.proofs.Changed.{data_same}
use Rattle.file_ops.proofs.CutAfter.{plans, after, changes, ready, own_after, files_after, granted, cut, may, refill_of, runs_here}
use Rattle.file_ops.proofs.Ended.{Decides}
use Rattle.file_ops.proofs.Known.{fact_of}
use Rattle.file_ops.proofs.Nodes.{log_grown}
use Rattle.file_ops.proofs.Ready.{can_end}
use Rattle.file_ops.proofs.Slots.{cut_slot}
use Rattle.size_ops.specs.Ending.{IsLastOfCut, CutsMap, CutsAt, CanFinishCut}
use Rattle.size_ops.proofs.Anew.{run_mapping, refilled_mapping}
use Rattle.size_ops.proofs.Cutting.{from_first}

-- this flight is the client's, and its page is filled and all its rows are raised
pub record IsLast (b : Parts) (who : ℕ) (f : Flight) (c : DataChange) : Type 0 where
  pub flies : Flies b who f
  pub kind : f.change ≡ Data c
  pub name : List ℕ
  pub to : ℕ
  pub op_is : f.op ≡ Cut name to
  pub all_filled : c.filled ≡ length c.blocks.items
  pub all_raised : f.raised ≡ length f.rows.items

pub is_last : (b : Parts) (who : ℕ) (f : Flight) (c : DataChange) → IsLastOfCut b who → flight_at b.flights.items (who - 1) ≡ Some f
    → f.change ≡ Data c → IsLast b who f c
is_last b who f c last was kind =
    let same = same_flight (flight_at b.flights.items (who - 1)) last.flight f last.flies.is was in
    let datum = data_same f.change last.change c (ap (λ (x : Flight). x.change) (sym same) ∙ last.kind) kind in
    record {
      flies = record { client = last.flies.client; is = was };
      kind = kind;
      name = last.name;
      to = last.to;
      op_is = ap (λ (x : Flight). x.op) (sym same) ∙ last.op_is;
      all_filled = subst (λ (x : DataChange). x.filled ≡ length x.blocks.items) datum last.all_filled;
      all_raised = subst (λ (x : Flight). x.raised ≡ length x.rows.items) same last.all_raised;
    }

-- a place is filled anew only where the size ends inside of it
part_page : (d : Disk) (ino : ℕ) (fresh : List ℕ) (size : ℕ) (blocks : List ℕ) → MayRefill d ino fresh size (refill_of blocks) → 1 ≤ length blocks
    → 1 ≤ size % 4096
part_page d ino fresh size [] fills some = absurd (omega (arith, some))
part_page d ino fresh size (x ∷ xs) fills some = fills.0

no_place : (blocks : List ℕ) (size idx : ℕ) → blocks ≡ [] → gone_from size blocks ≤ idx → pages_of size ≤ idx
no_place [] size idx none past = past
no_place (x ∷ xs) size idx none past = let same = ap length none in absurd (omega (arith, same))

one_page : (size first idx : ℕ) → first ≡ size / 4096 → first ≤ idx → idx ≢ first → pages_of size ≤ idx
one_page size first idx is past ne = elim (cases_eq idx first) [ inl e ↦ absurd (ne e) | inr other ↦ omega (arith, is, past, other) ]

head_of : (blocks : List ℕ) → 1 ≤ length blocks → refill_of blocks ≡ Some (slice_index blocks 0)
head_of [] some = absurd (omega arith)
head_of (x ∷ xs) some = refl

few_runs : (size : ℕ) (refill : Option ℕ) → places_in (refill_runs size refill) ≤ 1
few_runs size None = omega arith
few_runs size (Some page) = omega arith

module _ (d : Disk) (b : Parts) (s : State) (who : ℕ) (f : Flight) (c : DataChange) (v : IsVolume d b s) (last : IsLast b who f c) where
  pub fact : IsDataFlight d who f c s
  fact = fact_of d b s who f c v last.flies last.kind

  pub sized : f.op ≡ Cut last.name c.size
  sized = last.op_is ∙ ap (Cut last.name)
      (sym (plans d b s who f c v last.flies last.kind fact last.name last.to last.op_is last.all_filled last.all_raised).size_is)

  plan : PlansCut d f c last.name c.size
  plan = plans d b s who f c v last.flies last.kind fact last.name c.size sized last.all_filled last.all_raised

  abbrev pub from : ℕ
  from = gone_from c.size c.blocks.items

  abbrev pub cut_after : Disk
  cut_after = after d b s who f c v last.flies last.kind fact last.name c.size sized last.all_filled last.all_raised

  abbrev changed : ChangesData d cut_after f c from (4096 - from)
  changed = changes d b s who f c v last.flies last.kind fact last.name c.size sized last.all_filled last.all_raised

  pub small : c.size ≤ 16777216
  small = plan.fits

  runs_are : all_seen c.runs.items ≡ refill_runs c.size (refill_of c.blocks.items)
  runs_are = runs_here d b s who f c v last.flies last.kind fact last.name c.size sized last.all_filled last.all_raised

  refills : MayRefill d f.ino f.fresh.items c.size (refill_of c.blocks.items)
  refills = (may d b s who f c v last.flies last.kind fact last.name c.size sized last.all_filled last.all_raised).refills

  -- the place that is filled anew lies in the file
  pub last_in_file : 1 ≤ length c.blocks.items → c.first < 4096
  last_in_file some =
      let part = part_page d f.ino f.fresh.items c.size c.blocks.items refills some in omega (arith, part, small, plan.first)

  pub from_fits : from ≤ 4096
  from_fits = by_blocks c.blocks.items
    where
      by_blocks : (blocks : List ℕ) → gone_from c.size blocks ≤ 4096
      by_blocks [] = omega (arith, small)
      by_blocks (x ∷ xs) = omega (arith, small)

  slot_waits : (idx : ℕ) (m : DiskMapping) → from ≤ idx → idx < from + (4096 - from) → maps cut_after f.ino idx ≡ Some m
      → (j : ℕ) × (j < length c.runs.items) × (m.slot ≡ slot_name ((d.inode f.ino).log.pages ++ f.fresh.items) (count (d.inode f.ino).log + j))
  slot_waits idx m low high mapped =
      let by = changed.drops.anew idx m low high mapped in
      let found = cut_slot f.ino d cut_after changed.event changed.well c.size (refill_of c.blocks.items) refl idx m mapped by.0 by.1 by.2 in (
        found.0,
        omega (arith, found.1, length-map c.runs.items seen, ap (λ (rs : List Run). length rs) runs_are),
        found.2 ∙ ap (λ (ps : List ℕ). slot_name ps (count (d.inode f.ino).log + found.0)) changed.event.grown.pages,
      )

  pub decides : Decides d s who f c cut_after from (4096 - from)
  decides = record {
    all_filled = last.all_filled;
    all_raised = last.all_raised;
    changes = changed;
    ready = ready d b s who f c v last.flies last.kind fact last.name c.size sized last.all_filled last.all_raised;
    own = own_after d b s who f c v last.flies last.kind fact last.name c.size sized last.all_filled last.all_raised;
    files_after = files_after d b s who f c v last.flies last.kind fact last.name c.size sized last.all_filled last.all_raised;
    granted = granted d b s who f c v last.flies last.kind fact last.name c.size sized last.all_filled last.all_raised;
    grants = subst (λ (o : Op). Grants (files d) o Done) (sym sized) refl;
    slots = slot_waits;
  }

  cuts : CutsPlaces d cut_after f.ino c.size (refill_of c.blocks.items)
  cuts = cut d b s who f c v last.flies last.kind fact last.name c.size sized last.all_filled last.all_raised

  -- the places that are kept in memory are the disk's
  module _ (node : InodeState) (node_is : slice_get b.inodes.items f.ino ≡ Some node) (tail : ℕ)
      (tail_is : tail ≡ tail_at (d.inode f.ino).log.pages (count (d.inode f.ino).log)) (new : InodeState)
      (maps_it : CutsMap c tail f.fresh.items node.map.map new.map.map) where
    anew_place : 1 ≤ length c.blocks.items → get new.map.map c.first ≡ option_map kept (maps cut_after f.ino c.first)
    anew_place some =
        let here = refilled_mapping f.ino d cut_after changed.event c.size (slice_index c.blocks.items 0)
        (ap (λ (r : Option ℕ). cut_items c.size r) (head_of c.blocks.items some)) (inside_file some) in
        maps_it.anew some d.geometry (d.inode f.ino).log changed.event.paged tail_is
        ∙ same_mapping (slice_index c.blocks.items 0) (count (d.inode f.ino).log) changed.event.grown.pages
        ∙ sym (ap (option_map kept) (ap (maps cut_after f.ino) plan.first ∙ here))
      where
        inside_file : 1 ≤ length c.blocks.items → last_page c.size < pages_of c.size
        inside_file some =
            let part = part_page d f.ino f.fresh.items c.size c.blocks.items refills some in omega (arith, part)

        same_mapping : (page k : ℕ) → (cut_after.inode f.ino).log.pages ≡ (d.inode f.ino).log.pages ++ f.fresh.items
            → Some (record { block = page; slot = slot_name ((d.inode f.ino).log.pages ++ f.fresh.items) (k + 0); bit = 0 }) ≡ Some
            (kept (run_mapping page (slot_name (cut_after.inode f.ino).log.pages k) 0))
        same_mapping page k pages =
            ap (λ (j : ℕ). Some (record { block = page; slot = slot_name ((d.inode f.ino).log.pages ++ f.fresh.items) j; bit = 0 })) (none_more k)
            ∙ ap (λ (ps : List ℕ). Some (record { block = page; slot = slot_name ps k; bit = 0 })) (sym pages)
            ∙ ap (λ (p : ℕ). Some (record { block = p; slot = slot_name (cut_after.inode f.ino).log.pages k; bit = 0 })) (sym (none_more page))
          where
            none_more : (k : ℕ) → k + 0 ≡ k
            none_more k = omega arith

    old_place : (idx : ℕ) → get node.map.map idx ≡ option_map kept (maps d f.ino idx)
    old_place = (v.inodes.each f.ino node node_is).places

    gone_place : (idx : ℕ) → from ≤ idx → (c.blocks.items ≡ []) ⊎ (idx ≢ c.first) → pages_of c.size ≤ idx
        → get new.map.map idx ≡ option_map kept (maps cut_after f.ino idx)
    gone_place idx past out over = maps_it.gone idx past out ∙ sym (ap (option_map kept) (cuts.gone idx over))

    pub new_places : (idx : ℕ) → get new.map.map idx ≡ option_map kept (maps cut_after f.ino idx)
    new_places idx = elim (cases_lt idx from) [
      | inl low ↦ maps_it.kept idx low ∙ old_place idx ∙ sym (ap (option_map kept) (changed.drops.kept idx (inl low)))
      | inr past ↦ elim (cases_lt 0 (length c.blocks.items)) [
        | inl some ↦ elim (cases_eq idx c.first) [
          | inl e ↦ subst (λ (i : ℕ). get new.map.map i ≡ option_map kept (maps cut_after f.ino i)) (sym e) (anew_place some)
          | inr ne ↦ gone_place idx past (inr ne)
              (one_page c.size c.first idx plan.first (omega (arith, past, from_first c.size c.first c.blocks.items some plan.first)) ne)
        ]
        | inr none ↦ gone_place idx past (inl (no_blocks c.blocks.items none)) (no_place c.blocks.items c.size idx
            (no_blocks c.blocks.items none) past)
      ]
    ]
      where
        no_blocks : (blocks : List ℕ) → length blocks ≤ 0 → blocks ≡ []
        no_blocks [] none = refl
        no_blocks (x ∷ xs) none = absurd (omega (arith, none))

  pub inode_is : (mid b' : Parts) (tail : ℕ) → tail ≡ tail_at (d.inode f.ino).log.pages (count (d.inode f.ino).log) → mid.inodes ≡ b.inodes
      → CutsAt f.ino c tail f.fresh.items mid.inodes.items b'.inodes.items → ChangesInode cut_after f.ino c.size mid b'
  inode_is mid b' tail tail_is inodes cuts_at = record {
    all = cuts_at.all;
    others = cuts_at.others;
    here = λ old new was now.
        let cuts_it = cuts_at.here old new was now in
        let here = ap (λ (ns : _). slice_get ns.items f.ino) (sym inodes) ∙ was in
        record {
          used = cuts_it.used;
          size_is = cuts_it.size_is;
          log_pages = log_grown d cut_after f c from (4096 - from) changed old new (v.inodes.each f.ino old here) cuts_it.log_pages;
          round = cuts_it.round;
          holder = cuts_it.holder;
          places = new_places old here tail tail_is new cuts_it.places;
        };
  }

  pub can_finish_cut : (node : InodeState) → slice_get b.inodes.items f.ino ≡ Some node → (mid : Parts) (tail : ℕ)
      → tail ≡ tail_at (d.inode f.ino).log.pages (count (d.inode f.ino).log) → Gives (IsUnsharedAmong d node.map.map from (4096 - from))
      b.free mid.free
      → mid.inodes ≡ b.inodes → mid.queue ≡ b.queue → mid.reclaiming ≡ b.reclaiming → mid.owed ≡ b.owed → mid.history ≡ b.history
      → CanFinishCut tail f c mid
  can_finish_cut node node_is mid tail tail_is gives inodes queue reclaiming owed history = record {
    can = can_end d b s who f c v last.flies last.kind fact node node_is mid tail from (4096 - from) in_file tail_is gives inodes queue
        reclaiming owed
        history;
    small = small;
    first = plan.first;
    in_file = last_in_file;
    covers = fact.covers;
  }
    where
      in_file : c.first + places_in (all_seen c.runs.items) ≤ 4096
      in_file =
          let few = few_runs c.size (refill_of c.blocks.items) in
          let same = ap places_in runs_are in
          elim (cases_lt 0 (length c.blocks.items)) [
            | inl some ↦ omega (arith, few, same, last_in_file some)
            | inr none ↦ omega (arith, none, fact.covers, plan.first, small)
          ]
