-- The cut that comes in flight is the one that was planned.
use Rattle.std.proofs.Common.{
  ◌≡◌,
  inl,
  inr,
  ℕ,
  ◌+◌,
  ◌-◌,
  ◌*◌,
  ◌/◌,
  ◌%◌,
  ◌<◌,
  ◌≤◌,
  Bool,
  true,
  false,
  List,
  [],
  ◌∷◌,
  ◌++◌,
  length,
  refl,
  sym,
  ◌∙◌,
  ap,
  subst,
  arith,
  length-append,
}
use Rattle.std.specs.Prelude.{slice_index, if◌then◌else◌, ◌==◌, ◌&&◌, not, nat_lt, Option, IsSome, Contains}
use Rattle.std.specs.Option.{option_map}
use Rattle.std.proofs.lemmas.Bool.{cases_lt}
use Rattle.std.proofs.lemmas.Bool.Decides.{nat_tests}
use Rattle.std.proofs.lemmas.List.{length-map}
use Rattle.std.proofs.lemmas.List.Elements.{All-nil, All-cons}
use Rattle.pm_device.specs.State.{State}
use Rattle.page_alloc.specs.Free.{FreePages}
use Rattle.log_entry.specs.Name.{IsLegal}
use Rattle.log_entry.specs.Spelling.{spelled, spelling, pages_of}
use Rattle.log_entry.specs.declared.item.LogItem.TheVariants.{Size as SizeItem}
use Rattle.file_content.specs.Runs.{seen, all_seen}
use Rattle.file_write.specs.Take.{TakesFirst}
use Rattle.file_write.specs.declared.plan.WritePlan.{WritePlan}
use Rattle.file_write.proofs.Taking.{taken-rising, rising-apart, only_one}
use Rattle.dn_model.specs.Log.{count}
use Rattle.dn_model.specs.Disk.{Disk, Use, Live, Dying}
use Rattle.dn_model.specs.Files.{bytes, files}
use Rattle.dn_model.specs.Apply.{IsGranted}
use Rattle.dn_model.specs.History.{needed, refilled, extra, log_of, inode_of}
use Rattle.dn_model.specs.declared.op.Op.{Op}
use Rattle.dn_model.specs.declared.op.Op.TheVariants.{Cut}
use Rattle.law_write.specs.Runs.{Run, run_items, places_in, block_at, IsChained}
use Rattle.dn_volume.specs.declared.flight.Flight.{Flight}
use Rattle.dn_volume.specs.declared.flight.DataChange.{DataChange}
use Rattle.dn_volume.specs.declared.volume.Parts.{Parts}
use Rattle.dn_volume.specs.Parties.{taken_by}
use Rattle.dn_volume.specs.PlannedNames.{inode_list}
use Rattle.dn_volume.specs.Planned.{row_slots, data_items, gone_from, PlansData, PlansCut}
use Rattle.dn_volume.specs.Flights.{GrowsBy, IsDataFlight}
use Rattle.dn_volume.specs.Agrees.{IsVolume}
use Rattle.data_begins.specs.Asked.{IsLiveFile, IsAsk}
use Rattle.data_begins.specs.Ready.{data_flight}
use Rattle.data_begins.specs.declared.asks.DataAsk.{DataAsk}
use Rattle.data_begins.specs.declared.ready.Ready.{Ready}
use Rattle.data_begins.proofs.LiveFiles.{named_file, log_paged}
use Rattle.size_ops.specs.declared.plan.CutPlan.{CutPlan}
use Rattle.size_ops.specs.Planning.{IsPlanOf, lost_from}
use Rattle.size_ops.specs.Taking.{run_on, IsSound, IsMadeOf, TakesPlan}

-- what is counted by tests
one_at_most : (t : Bool) (n : ℕ) → n ≡ (if t then 1 else 0) → n ≤ 1
one_at_most true n e = omega (arith, e)
one_at_most false n e = omega (arith, e)

first_false : (p q r : Bool) (n : ℕ) → n ≡ (if not p && q && r then 1 else 0) → 1 ≤ n → p ≡ false
first_false true q r n e some = absurd (omega (arith, e, some))
first_false false q r n e some = refl

some_left : (a : ℕ) → (a == 0) ≡ false → 1 ≤ a
some_left a e = grind (arith, nat_tests)

-- where the places that go begin
lost_none : (size : ℕ) → lost_from size 0 ≡ pages_of size
lost_none size = refl

lost_some : (size pages : ℕ) → 1 ≤ pages → lost_from size pages ≡ size / 4096
lost_some size pages some =
    let test : (pages == 0) ≡ false = grind (arith, nat_tests) in ap (λ (t : Bool). if t then pages_of size else size / 4096) test

pub lost_fits : (size pages : ℕ) → size ≤ 16777216 → lost_from size pages ≤ 4096
lost_fits size pages small = by (pages == 0)
  where
    by : (t : Bool) → (if t then pages_of size else size / 4096) ≤ 4096
    by true = omega (arith, small)
    by false = omega (arith, small)

pub lost_is : (size pages : ℕ) (blocks : List ℕ) → length blocks ≡ pages → lost_from size pages ≡ gone_from size blocks
lost_is size pages [] long = ap (lost_from size) (sym long)
lost_is size pages (x ∷ xs) long = lost_some size pages (omega (arith, long))

-- a log of so many pages grows for so many slots
grown_is : (pages slots more n : ℕ) → pages ≡ (n + 62) / 63 → more ≡ (if nat_lt (63 * pages - n) slots then 1 else 0) → 1 ≤ slots → slots ≤ 2
    → pages + more ≡ (n + slots + 62) / 63
grown_is pages slots more n fits is some few = elim (cases_lt (63 * pages - n) slots) [
  | inl lt ↦
      let test : nat_lt (63 * pages - n) slots ≡ true = below (63 * pages - n) slots lt in
      let one : more ≡ 1 = is ∙ ap (λ (t : Bool). if t then 1 else 0) test in omega (arith, fits, one, lt, some, few)
  | inr le ↦
      let test : nat_lt (63 * pages - n) slots ≡ false = past (63 * pages - n) slots le in
      let none : more ≡ 0 = is ∙ ap (λ (t : Bool). if t then 1 else 0) test in omega (arith, fits, none, le, some, few)
]
  where
    below : (a b : ℕ) → a < b → nat_lt a b ≡ true
    below a b lt = grind (arith, nat_tests)

    past : (a b : ℕ) → b ≤ a → nat_lt a b ≡ false
    past a b le = grind (arith, nat_tests)

-- the run of one page at most
run_chained : (first : ℕ) (blocks : List ℕ) → IsChained first (run_on first blocks)
run_chained first [] = tt
run_chained first (x ∷ xs) = (refl, omega arith, omega arith, tt)

run_covers : (first : ℕ) (blocks : List ℕ) → length blocks ≤ 1 → places_in (run_on first blocks) ≡ length blocks
run_covers first [] few = refl
run_covers first (x ∷ xs) few = omega (arith, few)

run_blocks : (first : ℕ) (blocks : List ℕ) → length blocks ≤ 1 → (i : ℕ) → i < length blocks → block_at (run_on first blocks) i ≡ slice_index blocks i
run_blocks first [] few i lt = absurd (omega (arith, lt))
run_blocks first (x ∷ xs) few i lt =
    let none : i ≡ 0 = omega (arith, lt, few) in
    subst (λ (k : ℕ). block_at (run_on first (x ∷ xs)) k ≡ slice_index (x ∷ xs) k) (sym none) (plus_none x)
  where
    plus_none : (x : ℕ) → x + 0 ≡ x
    plus_none x = omega arith

run_few : (first : ℕ) (blocks : List ℕ) → length (run_on first blocks) ≤ length blocks
run_few first [] = omega arith
run_few first (x ∷ xs) = omega arith

run_slots : (first size : ℕ) (blocks : List ℕ) → length blocks ≤ 1
    → length (spelled (run_items (run_on first blocks) size ++ SizeItem size ∷ [])) ≡ length blocks + 1
unfolding spelling
run_slots first size [] few = refl
run_slots first size (x ∷ xs) few = omega (arith, few)

module _ (d : Disk) (op : Op) (ino : ℕ) (cut : CutPlan) (is : IsPlanOf d op ino cut) where
  pub sound : IsSound cut
  sound = record {
    few = one_at_most _ cut.pages is.pages;
    few_more = one_at_most _ cut.log_pages is.log_pages;
    small = omega (arith, is.size_is, is.cut.fits);
    part = λ some. subst (λ (n : ℕ). 1 ≤ n % 4096) (sym is.size_is)
        (some_left (is.cut.to % 4096) (first_false (is.cut.to % 4096 == 0) _ _ cut.pages is.pages some));
  }

  from_is : cut.from ≡ lost_from cut.size cut.pages
  from_is = is.from ∙ ap (lost_from is.cut.to) (sym is.pages) ∙ ap (λ (n : ℕ). lost_from n cut.pages) (sym is.size_is)

  pub from_few : cut.from ≤ 4096
  from_few = subst (λ (n : ℕ). n ≤ 4096) (sym from_is) (lost_fits cut.size cut.pages sound.small)

  granted : IsGranted (files d) (Cut is.cut.name is.cut.to)
  granted = record {
    legal = All-cons IsLegal is.cut.name [] is.cut.legal (All-nil IsLegal);
    finds = subst (λ (o : Option ℕ). IsSome (option_map (bytes d) o)) (sym is.cut.leads) refl;
    short = tt;
    fits = is.cut.fits;
  }

  abbrev pub ask : DataAsk
  ask = record { ino = cut.ino; needed = cut.pages + cut.log_pages; lost = cut.from; lost_places = 4096 - cut.from }

  pub is_ask : (b : Parts) (s : State) → IsVolume d b s → IsAsk d op ask
  is_ask b s v = subst (λ (o : Op). IsAsk d o ask) (sym is.cut.op_is) (record {
    granted = granted;
    lasts = λ once. once;
    holds = ap inode_list is.cut.leads ∙ ap (λ (i : ℕ). i ∷ []) (sym is.ino_is);
    file = subst (IsLiveFile d) (sym is.ino_is) (named_file d b s v is.cut.name ino is.cut.leads);
    needs = omega (arith, is.pages, is.log_pages);
    few = omega (arith, sound.few, sound.few_more);
    keeps = refl;
    inode = λ lacks. lacks;
    loses =
        ap (λ (r : Option ℕ). row_slots d (inode_of r) (lost_from is.cut.to (refilled d is.cut.name is.cut.to))
        (4096 - lost_from is.cut.to (refilled d is.cut.name is.cut.to))) is.cut.leads
        ∙ ap (λ (n : ℕ). row_slots d ino n (4096 - n)) (sym is.from)
        ∙ ap (λ (i : ℕ). row_slots d i cut.from (4096 - cut.from)) (sym is.ino_is);
    in_file = omega (arith, from_few);
  })

  module _ (b : Parts) (s : State) (v : IsVolume d b s) (who : ℕ) (free' : FreePages) (ready : Ready) (wp : WritePlan)
      (takes : TakesPlan cut b.free free' wp) (held : ready.held.items ≡ ino ∷ []) (rows : ready.rows.items ≡ row_slots d ino cut.from
      (4096 - cut.from))
    where
      abbrev f : Flight
      f = data_flight op ino ready wp

      abbrev c : DataChange
      c = record { first = wp.first; size = wp.size; blocks = wp.blocks; runs = wp.runs; filled = 0 }

      made : IsMadeOf cut takes.pages wp
      made = takes.made

      file : IsLiveFile d ino
      file = named_file d b s v is.cut.name ino is.cut.leads

      pub long : length wp.blocks.items ≡ cut.pages
      long = made.places

      few : length wp.blocks.items ≤ 1
      few = omega (arith, long, sound.few)

      pub takes_first : TakesFirst b.free free' (wp.fresh.items ++ wp.spare.items ++ wp.blocks.items)
      takes_first = subst (TakesFirst b.free free') (sym made.pages_are) takes.takes

      pub slots_long : length wp.slots.items ≡ cut.pages + 1
      slots_long =
          ap length (sym made.slots) ∙ ap (λ (rs : List Run). length (spelled (run_items rs wp.size ++ SizeItem wp.size ∷ []))) made.runs
          ∙ run_slots wp.first wp.size wp.blocks.items few ∙ ap (λ (n : ℕ). n + 1) long

      pub fresh_few : length wp.fresh.items ≤ 1
      fresh_few = omega (arith, made.log_pages, sound.few_more)

      pub runs_few : length wp.runs.items ≤ cut.pages
      runs_few = omega (arith, sym (length-map wp.runs.items seen) ∙ ap length made.runs, run_few wp.first wp.blocks.items, long)

      log_grows : cut.log_pages ≡ extra (cut.pages + 1) (d.inode ino).log
      log_grows =
          is.log_pages ∙ ap (λ (n : ℕ). extra (n + 1) (log_of d is.cut.name)) (sym is.pages)
          ∙ ap (λ (r : Option ℕ). extra (cut.pages + 1) (d.inode (inode_of r)).log) is.cut.leads

      all_long : length (taken_by f) ≡ cut.pages + cut.log_pages
      all_long =
          let spare_long = ap length made.spare in
          omega (
            arith,
            length-append (wp.fresh.items ++ wp.spare.items) wp.blocks.items,
            length-append wp.fresh.items wp.spare.items,
            spare_long,
            long,
            made.log_pages,
          )

      grows : GrowsBy d f
      grows = record {
        in_table = file.in_table;
        live = file.live;
        holds = subst (λ (xs : List ℕ). Contains xs ino) (sym held) (0, omega arith, refl);
        room =
            length-append (d.inode ino).log.pages wp.fresh.items
            ∙ grown_is (length (d.inode ino).log.pages) (cut.pages + 1) (length wp.fresh.items) (count (d.inode ino).log)
            (log_paged d b s v ino file).fits (made.log_pages ∙ log_grows) (omega arith) (omega (arith, sound.few))
            ∙ ap (λ (n : ℕ). (count (d.inode ino).log + n + 62) / 63) (sym slots_long);
        apart = rising-apart (taken_by f) (taken-rising b.free free' wp.fresh.items wp.spare.items wp.blocks.items v.space.in_order takes_first);
        takes = all_long ∙ omega (arith, is.pages, is.log_pages) ∙ ap (needed d) (sym is.cut.op_is);
        undying = λ i cut_at has dying. one_use (d.inode ino).use_of cut_at file.live
            (subst (λ (j : ℕ). (d.inode j).use_of ≡ Dying cut_at) (sym (only_one ino i (subst (λ (xs : List ℕ). Contains xs i) held has))) dying);
      }
        where
          one_use : (u : Use) (k : ℕ) → u ≡ Live → u ≡ Dying k → ⊥
          one_use u k a b = cc

      plans : PlansCut d f c is.cut.name is.cut.to
      plans = record {
        held = held;
        legal = is.cut.legal;
        leads = is.cut.leads;
        fits = is.cut.fits;
        first = made.first ∙ ap (λ (n : ℕ). n / 4096) is.size_is;
        places = long ∙ is.pages;
        size_is = made.size_is ∙ is.size_is;
        rows = rows ∙ ap (λ (n : ℕ). row_slots d ino n (4096 - n)) (is.from ∙ ap (lost_from is.cut.to) (sym is.pages) ∙ lost_is is.cut.to cut.pages
            wp.blocks.items long);
      }

      pub flown : IsDataFlight d who f c s
      flown = record {
        file = file.file;
        grows = grows;
        plans = subst (PlansData d f c) (sym is.cut.op_is) plans;
        chained = subst (IsChained wp.first) (sym made.runs) (run_chained wp.first wp.blocks.items);
        covers = ap places_in made.runs ∙ run_covers wp.first wp.blocks.items few;
        blocks = λ i lt. ap (λ (rs : List Run). block_at rs i) made.runs ∙ run_blocks wp.first wp.blocks.items few i lt;
        few = omega (arith, few);
        slots = ap (λ (o : Op). spelled (data_items o (all_seen wp.runs.items) wp.size)) is.cut.op_is ∙ made.slots;
        filled_few = omega arith;
        filled = λ i lt. absurd (omega (arith, lt));
        raised_few = omega arith;
        in_turn = λ some. absurd (omega (arith, some));
      }

-- a plan tells its inode
pub own_plan : (d : Disk) (op : Op) (ino : ℕ) (cut : CutPlan) → IsPlanOf d op ino cut → IsPlanOf d op cut.ino cut
own_plan d op ino cut is = subst (λ (i : ℕ). IsPlanOf d op i cut) (sym is.ino_is) is
