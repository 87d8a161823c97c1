-- A Write that has its plan: the operation that comes in flight is planned for the disk.
use Rattle.std.proofs.Common.{
  ◌≡◌,
  ⊎_elim,
  ℕ,
  suc,
  ◌+◌,
  ◌-◌,
  ◌*◌,
  ◌<◌,
  ◌≤◌,
  List,
  [],
  ◌∷◌,
  ◌++◌,
  length,
  refl,
  sym,
  ◌∙◌,
  ap,
  subst,
  arith,
  Option,
  Some,
  None,
  length-append,
}
use Rattle.std.specs.Prelude.{◌/◌, if◌then◌else◌, nat_lt, max, Contains, Bool, true, false}
use Rattle.std.proofs.lemmas.Bool.{cases_lt, cond-true, cond-false, lt-ltb, le-ltb}
use Rattle.std.proofs.lemmas.List.Elements.{All-head}
use Rattle.pm_device.specs.State.{State}
use Rattle.log_entry.specs.Name.{IsLegal}
use Rattle.log_entry.specs.Spelling.{spelled}
use Rattle.page_alloc.specs.Free.{FreePages}
use Rattle.law_unique.proofs.Listings.{none_listed, cons_cases}
use Rattle.law_write.proofs.RunItems.{length-spelled-runs}
use Rattle.file_content.specs.Runs.{all_seen}
use Rattle.file_content.specs.declared.runs.Run.{Run}
use Rattle.file_write.specs.Plan.{IsPlan}
use Rattle.file_write.specs.declared.plan.WritePlan.{WritePlan}
use Rattle.file_write.proofs.Taking.{taken-rising, rising-apart}
use Rattle.dn_model.specs.Log.{count}
use Rattle.dn_model.specs.Maps.{size_of}
use Rattle.dn_model.specs.Disk.{Disk, Use, Live, Dying, Free}
use Rattle.dn_model.specs.Files.{named}
use Rattle.dn_model.specs.History.{touched, extra, room, inode_of, needed}
use Rattle.dn_model.specs.declared.op.Op.{Op}
use Rattle.dn_model.specs.declared.op.Op.TheVariants.{Write}
use Rattle.dn_volume.specs.declared.flight.Flight.{Flight}
use Rattle.dn_volume.specs.declared.flight.DataChange.{DataChange}
use Rattle.dn_volume.specs.declared.volume.Parts.{Parts}
use Rattle.dn_volume.specs.Parties.{taken_by}
use Rattle.dn_volume.specs.PlannedNames.{inode_list}
use Rattle.dn_volume.specs.Planned.{row_slots, PlansData, data_items}
use Rattle.dn_volume.specs.Flights.{GrowsBy, IsFlight}
use Rattle.dn_volume.specs.Begins.{wants}
use Rattle.dn_volume.specs.Agrees.{IsVolume}
use Rattle.data_begins.specs.declared.asks.DataAsk.{DataAsk}
use Rattle.data_begins.specs.declared.ready.Ready.{Ready}
use Rattle.data_begins.specs.Asked.{IsAsk}
use Rattle.data_begins.specs.Ready.{data_flight}
use Rattle.data_begins.proofs.LiveFiles.{log_paged}
use Rattle.file_ops.proofs.WriteAsks.{something, touched_few}

-- a log with k slots more, on one page more where its last hasn't the room
grown_fits : (pages n k fresh : ℕ) → 1 ≤ k → k ≤ 63 → pages ≡ (n + 62) / 63 → fresh ≡ (if nat_lt (63 * pages - n) k then 1 else 0)
    → pages + fresh ≡ (n + k + 62) / 63
grown_fits pages n k fresh some few fits needs = ⊎_elim
    (λ (lt : 63 * pages - n < k). let one : fresh ≡ 1 = needs ∙ cond-true (nat_lt (63 * pages - n) k) 1 0 (lt-ltb (63 * pages - n) k lt) in
    omega (arith, some, few, fits, lt, one))
    (λ (le : k ≤ 63 * pages - n). let none : fresh ≡ 0 = needs ∙ cond-false (nat_lt (63 * pages - n) k) 1 0 (le-ltb (63 * pages - n) k le) in
    omega (arith, some, few, fits, le, none))
    (cases_lt (63 * pages - n) k)

seen_long : (runs : List Run) → length (all_seen runs) ≡ length runs
seen_long [] = refl
seen_long (x ∷ xs) = ap (λ (n : ℕ). suc n) (seen_long xs)

module _ (d : Disk) (op : Op) (name : List ℕ) (at : ℕ) (text : List ℕ) (op_is : op ≡ Write name at text) (ask : DataAsk) (is : IsAsk d op ask) where
  abbrev it : IsAsk d (Write name at text) ask
  it = subst (λ (o : Op). IsAsk d o ask) op_is is

  pub some : 1 ≤ length text
  some = by text it.lasts
    where
      by : (xs : List ℕ) → (xs ≡ [] → ⊥) → 1 ≤ length xs
      by [] lasts = absurd (lasts refl)
      by (x ∷ xs) lasts = omega arith

  pub short : length text ≤ 65536
  short = it.granted.short

  pub fits : at + length text ≤ 16777216
  fits = ⊎_elim (λ none. absurd (something text some none)) (λ le. le) it.granted.fits

  pub leads : named d name ≡ Some ask.ino
  leads = by (named d name) (sym (wants_it text some) ∙ it.holds)
    where
      wants_it : (xs : List ℕ) → 1 ≤ length xs → wants d (Write name at xs) ≡ inode_list (named d name)
      wants_it [] some = absurd (omega (arith, some))
      wants_it (x ∷ xs) some = refl

      by : (o : Option ℕ) → inode_list o ≡ ask.ino ∷ [] → o ≡ Some ask.ino
      by None same = cc
      by (Some i) same = let one : i ≡ ask.ino = cc in ap (λ (k : ℕ). Some k) one

  pub places : (1 ≤ touched at (length text)) × (touched at (length text) ≤ 17) × (at / 4096 + touched at (length text) ≤ 4096)
  places = touched_few at (length text) some short fits

  pub needs : ask.needed ≡ touched at (length text) + extra (touched at (length text)) (d.inode ask.ino).log
  needs = sym it.needs ∙ ap (λ (o : Option ℕ). touched at (length text) + extra (touched at (length text)) (d.inode (inode_of o)).log) leads

  pub op_needs : needed d op ≡ touched at (length text) + extra (touched at (length text)) (d.inode ask.ino).log
  op_needs = ap (needed d) op_is ∙ it.needs ∙ needs

  pub loses : row_slots d ask.ino ask.lost ask.lost_places ≡ row_slots d ask.ino (at / 4096) (touched at (length text))
  loses = sym it.loses ∙ ap (λ (o : Option ℕ). row_slots d (inode_of o) (at / 4096) (touched at (length text))) leads

  module _ (b : Parts) (s : State) (v : IsVolume d b s) (who : ℕ) (ready : Ready) (held_is : ready.held.items ≡ ask.ino ∷ [])
      (rows_are : ready.rows.items ≡ row_slots d ask.ino ask.lost ask.lost_places) (size left : ℕ) (size_is : size_of (d.inode ask.ino).log ≡ size)
      (room_is : left ≡ room (d.inode ask.ino).log) (free' : FreePages) (plan : WritePlan)
      (p : IsPlan size at (length text) left b.free free' plan) where
    abbrev f : Flight
    f = data_flight op ask.ino ready plan

    abbrev c : DataChange
    c = record { first = plan.first; size = plan.size; blocks = plan.blocks; runs = plan.runs; filled = 0 }

    pub runs_long : length plan.slots.items ≡ length plan.runs.items
    runs_long = sym (ap length p.spelled_by) ∙ length-spelled-runs plan.size (all_seen plan.runs.items) ∙ seen_long plan.runs.items

    pub runs_few : length plan.runs.items ≤ touched at (length text)
    runs_few = let few = p.cut.few in let long = seen_long plan.runs.items in let all = p.places in omega (arith, few, long, all)

    runs_some : 1 ≤ length plan.runs.items
    runs_some = let some = p.cut.some in let long = seen_long plan.runs.items in omega (arith, some, long)

    pub fresh_few : length plan.fresh.items ≤ 1
    fresh_few = one_most (nat_lt left (length plan.runs.items)) (length plan.fresh.items) p.log_page
      where
        one_most : (t : Bool) (n : ℕ) → n ≡ (if t then 1 else 0) → n ≤ 1
        one_most true n is = omega (arith, is)
        one_most false n is = omega (arith, is)

    grows_room : length ((d.inode ask.ino).log.pages ++ plan.fresh.items) ≡ (count (d.inode ask.ino).log + length plan.slots.items + 62) / 63
    grows_room =
        let log = (d.inode ask.ino).log in
        let long = length-append log.pages plan.fresh.items in
        let few = places.1 in
        let page : length plan.fresh.items ≡ (if nat_lt (63 * length log.pages - count log) (length plan.slots.items) then 1 else 0) =
        p.log_page ∙ ap (λ (k : ℕ). if nat_lt k (length plan.runs.items) then 1 else 0) room_is
        ∙ ap (λ (k : ℕ). if nat_lt (room log) k then 1 else 0) (sym runs_long) in
        long
        ∙ grown_fits (length log.pages) (count log) (length plan.slots.items) (length plan.fresh.items) (omega (arith, runs_some, runs_long))
        (omega (arith, runs_few, runs_long, few)) (log_paged d b s v ask.ino is.file).fits page

    pub taken_long : length (taken_by f) ≡ needed d op
    taken_long = p.needs ∙ ap (λ (k : ℕ). touched at (length text) + (if nat_lt k (touched at (length text)) then 1 else 0)) room_is ∙ sym op_needs

    no_dying : (i cut : ℕ) → Contains ready.held.items i → (d.inode i).use_of ≡ Dying cut → ⊥
    no_dying i cut has dies = ⊎_elim (λ same. use_clash (d.inode ask.ino).use_of is.file.live (ap (λ (k : ℕ). (d.inode k).use_of) same ∙ dies))
        (λ none. none_listed i none) (cons_cases ask.ino i [] (subst (λ (xs : List ℕ). Contains xs i) held_is has))
      where
        use_clash : (u : Use) → u ≡ Live → u ≡ Dying cut → ⊥
        use_clash u live dies = cc

    -- no inode that it holds was free
    pub held_live : (i : ℕ) → Contains ready.held.items i → (d.inode i).use_of ≡ Free → ⊥
    held_live i has free = ⊎_elim (λ same. use_clash (d.inode ask.ino).use_of is.file.live (ap (λ (k : ℕ). (d.inode k).use_of) same ∙ free))
        (λ none. none_listed i none) (cons_cases ask.ino i [] (subst (λ (xs : List ℕ). Contains xs i) held_is has))
      where
        use_clash : (u : Use) → u ≡ Live → u ≡ Free → ⊥
        use_clash u live free = cc

    grows : GrowsBy d f
    grows = record {
      in_table = is.file.in_table;
      live = is.file.live;
      holds = subst (λ (xs : List ℕ). Contains xs ask.ino) (sym held_is) (0, omega arith, refl);
      room = grows_room;
      apart = rising-apart (taken_by f)
          (taken-rising b.free free' plan.fresh.items plan.spare.items plan.blocks.items v.space.in_order p.takes);
      takes = taken_long;
      undying = no_dying;
    }

    plans : PlansData d f c op
    plans = subst (PlansData d f c) (sym op_is) (record {
      held = held_is;
      legal = legal;
      leads = leads;
      some = some;
      short = short;
      fits = fits;
      first = p.first;
      places = p.places;
      size_is = p.size_is ∙ ap (λ (k : ℕ). max k (at + length text)) (sym size_is);
      rows = rows_are ∙ loses ∙ ap (λ (k : ℕ). row_slots d ask.ino k (touched at (length text))) (sym p.first)
          ∙ ap (λ (k : ℕ). row_slots d ask.ino plan.first k) (sym p.places);
    })
      where
        legal : IsLegal name
        legal = All-head IsLegal name [] it.granted.legal

    pub flight_is : IsFlight d who f s
    flight_is = record {
      file = is.file.file;
      grows = grows;
      plans = plans;
      chained = p.cut.chained;
      covers = p.cut.places;
      blocks = p.cut.blocks;
      few = let few = places.1 in let all = p.places in omega (arith, few, all);
      slots = ap (λ (o : Op). spelled (data_items o (all_seen plan.runs.items) plan.size)) op_is ∙ p.spelled_by;
      filled_few = omega arith;
      filled = λ i lt. absurd (omega (arith, lt));
      raised_few = omega arith;
      in_turn = λ none. absurd (omega (arith, none));
    }
