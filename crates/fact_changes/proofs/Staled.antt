-- Stale pointers are cleared: what images have on the way, and the table in the end.
use Rattle.std.proofs.Common.{
  ◌≡◌,
  ◌≢◌,
  inl,
  inr,
  ⊎_elim,
  ℕ,
  ◌+◌,
  ◌*◌,
  ◌<◌,
  ◌≤◌,
  Bool,
  true,
  false,
  List,
  [],
  length,
  refl,
  sym,
  ◌∙◌,
  ap,
  subst,
  arith,
  get_or-set_same,
}
use Rattle.std.specs.Prelude.{slice_index, Contains, if◌then◌else◌, Option, Some, None, IsNone, is_some, not, IfSome, IfNone, IsTrue}
use Rattle.std.proofs.lemmas.Bool.{cases_eq, false≢true}
use Rattle.pm_device.specs.State.{State, Agree}
use Rattle.pm_device.specs.Settled.{IsSettled, LeavesOnly, StoresOnly, KeepsFlushed, Others, FlushesAll}
use Rattle.pm_device.specs.Reading.{Stands}
use Rattle.pm_device.specs.Commit.{IsDone, LeavesOneWord}
use Rattle.pm_device.proofs.Layers.{leaves_only-then}
use Rattle.pm_device.proofs.Moments.{leaves_only-weaken}
use Rattle.pm_device.proofs.Only.{stores_only-none, stores_only-then, stores_only-weaken}
use Rattle.pm_device.proofs.Flushed.{keeps-none, keeps-then, keeps-weaken}
use Rattle.pm_device.proofs.AllFlushed.{flushes-none}
use Rattle.pm_layout.specs.declared.Geometry.{Geometry}
use Rattle.pm_layout.specs.Geometry.{pointer_word, directs}
use Rattle.dn_model.specs.Table.{Row}
use Rattle.dn_model.specs.Disk.{Disk, TableSays, rows}
use Rattle.law_table.specs.Changes.{with_table, repointed}
use Rattle.law_table.specs.Words.{HoldsTable, IsOneTableWord}
use Rattle.law_table.proofs.Words.{word_settled, word_any_order, word_stands, word_reads, nothing_ready, nothing_stands, untold_images}
use Rattle.law_table.proofs.Pointed.{rows_repointed, pointer_decides, stale_may_clear}
use Rattle.law_table.proofs.Rows.{same_test, other_test}
use Rattle.fact_table.specs.Table.{Table, IsTable, HasNoneOf, IsOfPage}
use Rattle.fact_table.specs.Seen.{as_row}
use Rattle.fact_scan.specs.declared.row.Row.{Row as FoundRow}
use Rattle.fact_table.proofs.Tables.{pointer_read}
use Rattle.fact_changes.specs.Stale.{IsStale, Clears, HasCleared, IsTidied, IsStaleWord, IsPageCleared, stays, clears, HasPage, IsPageWord}
use Rattle.fact_changes.proofs.Slotted.{table_of, accepted_disk}

-- what a pointer is once one is cleared
pointer_here : (d : Disk) (page q : ℕ) → q ≡ page → (repointed d page 0).pointer q ≡ 0
pointer_here d page q e = ap (λ (b : Bool). if b then 0 else d.pointer q) (same_test q page e)

pointer_other : (d : Disk) (page q : ℕ) → q ≢ page → (repointed d page 0).pointer q ≡ d.pointer q
pointer_other d page q ne = ap (λ (b : Bool). if b then 0 else d.pointer q) (other_test q page ne)

-- nothing is stored: each image has the table
pub still_images : (d : Disk) (s : State) → Agree s.now s.past → Stands (TableSays d) s → LeavesOnly s s (λ c. HoldsTable c d)
still_images d s agree = untold_images d 0 0 (λ a v told h. omega (arith, h.0, h.1)) s s (stores_only-none _ s agree)

-- whether a pointer is stale, by its word and by the row of its page
module _ (d : Disk) (words : List ℕ) (t : Table) (is : IsTable d words t) (k : Geometry) (same : k ≡ t.geometry) (page : ℕ)
    (lt : page < t.geometry.pages) where
  pointer_word_read : slice_index words (pointer_word k page) ≡ d.pointer page
  pointer_word_read = ap (λ (g : Geometry). slice_index words (pointer_word g page)) same ∙ pointer_read d words t is page lt

  stale_from : slice_index words (pointer_word k page) ≢ 0 → HasNoneOf d page → IsStale d page
  stale_from some none = record {
    in_image = subst (λ (g : Geometry). page < g.pages) (sym is.geometry) lt;
    some = λ e. some (pointer_word_read ∙ e);
    no_row = none;
  }

  stale_word : IsStale d page → slice_index words (pointer_word k page) ≢ 0
  stale_word stale e = stale.some (sym pointer_word_read ∙ e)

  -- where the word is 0 the pointer isn't stale
  pub stale_never : {X : Type 0} (entry : Option X) (b : Bool) → b ≡ is_some entry → b ≡ false
      → (IsNone entry → slice_index words (pointer_word k page) ≡ 0) → (IsTrue b → IsStale d page) × (IsStale d page → IsTrue b)
  stale_never None b e off none = (λ t. absurd (false≢true (sym off ∙ t)), λ stale. absurd (stale_word stale (none refl)))
  stale_never (Some x) b e off none = absurd (false≢true (sym off ∙ e))

  -- else the row of the page decides
  pub stale_answer : {X : Type 0} (entry : Option X) (row : Option FoundRow) (b : Bool) → is_some entry ≡ true
      → (slice_index words (pointer_word k page) ≡ 0 → IsNone entry) → is_some row ≡ not b
      → IfNone row ((e : Disk) → IsTable e words t → HasNoneOf e page) → IfSome row (λ r. (e : Disk) → IsTable e words t → IsOfPage e page (as_row r))
      → (IsTrue b → IsStale d page) × (IsStale d page → IsTrue b)
  stale_answer None row b some zero e none found = absurd (false≢true some)
  stale_answer (Some x) None true some zero e none found = (λ t. stale_from (λ is_zero. false≢true (sym (zero is_zero))) (none d is), λ stale. refl)
  stale_answer (Some x) None false some zero e none found = absurd (false≢true e)
  stale_answer (Some x) (Some r) true some zero e none found = absurd (false≢true (sym e))
  stale_answer (Some x) (Some r) false some zero e none found = (
    λ t. absurd (false≢true t),
    λ stale. absurd (stale.no_row (as_row r) (found d is).there (found d is).page_is),
  )

-- one stale pointer is cleared
module _ (d : Disk) (s : State) (t : Table) (is : IsTable d s.now t) (page : ℕ) (stale : IsStale d page) where
  abbrev new : Disk
  new = repointed d page 0

  one : IsOneTableWord d new 0 [] (pointer_word d.geometry page) 0
  one = pointer_decides d page 0 (stale_may_clear d page (accepted_disk d s.now t is) is.good stale.in_image stale.no_row)

  size_is : length s.now ≡ 512 * d.geometry.pages
  size_is = is.size ∙ ap (λ (g : Geometry). 512 * g.pages) (sym is.geometry)

  -- where the code holds the geometry
  module _ (k : Geometry) (same : k ≡ t.geometry) where
    here : d.geometry ≡ k
    here = is.geometry ∙ sym same

    pointer_settled : Stands (TableSays d) s → IsSettled s (pointer_word k page)
    pointer_settled stands = subst (λ (g : Geometry). IsSettled s (pointer_word g page)) here (word_settled d new 0 [] (pointer_word d.geometry page)
        0 one s stands)

    pub stale_images : (u : State) → (IsSettled s (pointer_word k page) → LeavesOnly s u (LeavesOneWord (pointer_word k page) 0 s))
        → Stands (TableSays d) s → LeavesOnly s u (HasPage d page)
    stale_images u leaves stands = leaves_only-weaken s u _ _ (λ c. ⊎_elim (λ old. inl old) (λ after. inr (stale, after)))
        (word_any_order d new 0 [] (pointer_word d.geometry page) 0 one s u stands (nothing_stands 0 s)
        (subst (λ (g : Geometry). LeavesOnly s u (LeavesOneWord (pointer_word g page) 0 s)) (sym here) (leaves (pointer_settled stands))))

    module _ (who : ℕ) (u : State) (only : StoresOnly (λ a. a ≡ pointer_word k page) s u) (done : IsDone who (pointer_word k page) 0 s u) where
      only_here : StoresOnly (λ a. a ≡ pointer_word d.geometry page) s u
      only_here = subst (λ (g : Geometry). StoresOnly (λ a. a ≡ pointer_word g page) s u) (sym here) only

      done_here : IsDone who (pointer_word d.geometry page) 0 s u
      done_here = subst (λ (g : Geometry). IsDone who (pointer_word g page) 0 s u) (sym here) done

      cleared_reads : HoldsTable u.now new
      cleared_reads = word_reads d new 0 [] (pointer_word d.geometry page) 0 one s u is.says (nothing_ready who 0 s).reads
          (ap (λ (xs : List ℕ). slice_index xs (pointer_word d.geometry page)) done_here.now ∙ get_or-set_same s.now (pointer_word d.geometry page) 0
          0 (omega (arith, one.inside, size_is))) only_here

      cleared_table : IsTable new u.now t
      cleared_table =
          let same_rows : rows d ≡ rows new = sym (rows_repointed d page 0) in
          table_of new u.now t is.geometry is.accepted (only.words ∙ is.size) cleared_reads one.good is.set
          (λ q has. subst (λ (rs : List Row). (r : Row) → Contains rs r → r.slot ≢ directs t.geometry + q) same_rows (is.free q has))
          (λ q lt not. let has = is.taken q lt not in
          record {
            row = has.row;
            is = record {
              there = subst (λ (rs : List Row). Contains rs has.row) same_rows has.is.there;
              slot_is = has.is.slot_is;
            };
          })

      pub stale_cleared : IsPageCleared d page t s u
      stale_cleared = clears stale cleared_table (λ stands. word_stands d new 0 [] (pointer_word d.geometry page) 0 one who s u size_is stands
          (nothing_ready who 0 s) done_here only_here)

    pub stale_only : (u : State) → StoresOnly (λ a. a ≡ pointer_word k page) s u → StoresOnly (IsPageWord d page) s u
    stale_only u only = stores_only-weaken _ _ s u (λ a e. (stale, e ∙ ap (λ (g : Geometry). pointer_word g page) (sym here))) only

    pub stale_keeps : (who : ℕ) (u : State) → KeepsFlushed (Others who) (λ a. a ≡ pointer_word k page) s u
        → KeepsFlushed (Others who) (IsPageWord d page) s u
    stale_keeps who u keeps = keeps-weaken (Others who) (Others who) _ _ s u (λ q other. other)
        (λ a e. (stale, e ∙ ap (λ (g : Geometry). pointer_word g page) (sym here))) keeps

-- one is cleared after others
module _ (d e : Disk) (was : Clears d e) where
  none_was : (page : ℕ) → HasNoneOf e page → HasNoneOf d page
  none_was page none = subst (λ (rs : List Row). (r : Row) → Contains rs r → r.page ≢ page) was.rows_same none

  pub stale_was : (page : ℕ) → IsStale e page → IsStale d page
  stale_was page stale = ⊎_elim
      (λ (kept : e.pointer page ≡ d.pointer page). record {
        in_image = subst (λ (x : Disk). page < x.geometry.pages) was.same stale.in_image;
        some = λ zero. stale.some (kept ∙ zero);
        no_row = none_was page stale.no_row;
      })
      (λ (gone : IsStale d page × (e.pointer page ≡ 0)). gone.0) (was.pointers page)

  pub clears_more : (page : ℕ) → IsStale e page → Clears d (repointed e page 0)
  clears_more page stale = record {
    same = ap (λ (x : Disk). with_table x x.chain (repointed e page 0).pointer) was.same;
    rows_same = rows_repointed e page 0 ∙ was.rows_same;
    pointers = λ q. elim (cases_eq q page) [
      | inl here ↦ inr (subst (IsStale d) (sym here) (stale_was page stale), pointer_here e page q here)
      | inr other ↦ ⊎_elim (λ (kept : e.pointer q ≡ d.pointer q). inl (pointer_other e page q other ∙ kept))
          (λ (gone : IsStale d q × (e.pointer q ≡ 0)). inr (gone.0, pointer_other e page q other ∙ gone.1)) (was.pointers q)
    ];
  }

pub clears_none : (d : Disk) → Clears d d
clears_none d = record { same = refl; rows_same = refl; pointers = λ q. inl refl }

-- the pages below p were looked at; what stands and what images have is told where the table of before stood
pub record IsClearedFront (d : Disk) (who p : ℕ) (t : Table) (s0 s : State) : Type 0 where
  pub disk : Disk
  pub clears : Clears d disk
  pub tidy : (q : ℕ) → q < p → IsStale disk q → ⊥
  pub table : IsTable disk s.now t
  pub only : StoresOnly (IsStaleWord d) s0 s
  pub others : KeepsFlushed (Others who) (IsStaleWord d) s0 s
  pub settled : Stands (TableSays d) s0 → Stands (TableSays disk) s
  pub images : Stands (TableSays d) s0 → LeavesOnly s0 s (HasCleared d)

pub record IsClearing (t : Table) (who p : ℕ) (s0 s : State) : Type 0 where
  pub spare : s0.spare ≤ s.spare + 3 * p
  pub faults : s0.faults ≤ s.faults
  pub flushes : FlushesAll who s0 s
  pub front : (d : Disk) → IsTable d s0.now t → IsClearedFront d who p t s0 s

pub clearing_begins : (t : Table) (who : ℕ) (s : State) → Agree s.now s.past → IsClearing t who 0 s s
clearing_begins t who s agree = record {
  spare = omega arith;
  faults = omega arith;
  flushes = flushes-none who s;
  front = λ d is. record {
    disk = d;
    clears = clears_none d;
    tidy = λ q lt stale. absurd (omega arith);
    table = is;
    only = stores_only-none _ s agree;
    others = keeps-none _ _ s;
    settled = λ stands. stands;
    images = λ stands. leaves_only-weaken s s _ _ (λ c holds. record { disk = d; clears = clears_none d; holds = holds })
        (still_images d s agree stands);
  };
}

module _ (d : Disk) (who p : ℕ) (t : Table) (s0 s : State) (front : IsClearedFront d who p t s0 s) (u : State) where
  abbrev e : Disk
  e = front.disk

  -- what one page more makes of it, with a failure or without
  pub front_images : (Stands (TableSays e) s → LeavesOnly s u (HasPage e p)) → Stands (TableSays d) s0 → LeavesOnly s0 u (HasCleared d)
  front_images leaves stands = leaves_only-then s0 s u (HasCleared d) (front.images stands)
      (leaves_only-weaken s u _ _ (λ c. ⊎_elim (λ (old : HoldsTable c e). record { disk = e; clears = front.clears; holds = old })
      (λ (after : IsStale e p × HoldsTable c (repointed e p 0)). record {
        disk = repointed e p 0;
        clears = clears_more d e front.clears p after.0;
        holds = after.1;
      })) (leaves (front.settled stands)))

  of_page : (a : ℕ) → IsPageWord e p a → IsStaleWord d a
  of_page a word = record {
    page = p;
    stale = stale_was d e front.clears p word.0;
    place = word.1 ∙ ap (λ (x : Disk). pointer_word x.geometry p)
        front.clears.same;
  }

  pub front_only : StoresOnly (IsPageWord e p) s u → StoresOnly (IsStaleWord d) s0 u
  front_only only = stores_only-then (IsStaleWord d) s0 s u front.only (stores_only-weaken _ _ s u of_page only)

  pub front_others : KeepsFlushed (Others who) (IsPageWord e p) s u → KeepsFlushed (Others who) (IsStaleWord d) s0 u
  front_others keeps = keeps-then (Others who) (IsStaleWord d) s0 s u front.others (keeps-weaken (Others who) (Others who) _ _ s u (λ q other. other)
      of_page keeps)

  pub front_on : (Stands (TableSays e) s → LeavesOnly s u (HasPage e p)) → StoresOnly (IsPageWord e p) s u
      → KeepsFlushed (Others who) (IsPageWord e p) s u → IsPageCleared e p t s u → IsClearedFront d who (p + 1) t s0 u
  front_on leaves only keeps (stays fresh table stands) = record {
    disk = e;
    clears = front.clears;
    tidy = λ q lt stale. elim (cases_eq q p) [ inl here ↦ fresh (subst (IsStale e) here stale) | inr other ↦ front.tidy q (omega arith) stale ];
    table = table;
    only = front_only only;
    others = front_others keeps;
    settled = λ before. stands (front.settled before);
    images = front_images leaves;
  }
  front_on leaves only keeps (clears stale table stands) = record {
    disk = repointed e p 0;
    clears = clears_more d e front.clears p stale;
    tidy = λ q lt left. elim (cases_eq q p) [
      | inl here ↦ left.some (pointer_here e p q here)
      | inr other ↦ front.tidy q (omega arith) (record {
        in_image = left.in_image;
        some = λ zero. left.some (pointer_other e p q other ∙ zero);
        no_row = subst (λ (rs : List Row). (r : Row) → Contains rs r → r.page ≢ q) (rows_repointed e p 0) left.no_row;
      })
    ];
    table = table;
    only = front_only only;
    others = front_others keeps;
    settled = λ before. stands (front.settled before);
    images = front_images leaves;
  }

-- where all pages were looked at no pointer is stale
pub front_ends : (d : Disk) (who p : ℕ) (t : Table) (s0 s : State) → IsClearedFront d who p t s0 s → t.geometry.pages ≤ p → IsTidied d t s0 s
front_ends d who p t s0 s front all = record {
  disk = front.disk;
  clears = front.clears;
  none_stale = λ q stale.
      let lt : q < t.geometry.pages = subst (λ (g : Geometry). q < g.pages) front.table.geometry stale.in_image in
      front.tidy q (omega (arith, lt, all)) stale;
  table = front.table;
  settled = front.settled;
}
