-- Stale pointers are cleared after the rows are settled.
use Rattle.std.proofs.Common.{◌≡◌, ◌⊎◌, ⊎_elim, ℕ, ◌<◌, List, sym, ◌∙◌, ap, subst}
use Rattle.std.specs.Prelude.{Contains, slice_index}
use Rattle.pm_device.specs.State.{State, Agree}
use Rattle.pm_device.specs.Settled.{Still, LeavesOnly, StoresOnly, Nowhere}
use Rattle.pm_device.proofs.Moments.{leaves_only-weaken}
use Rattle.pm_device.proofs.Only.{stores_only-then, stores_only-weaken}
use Rattle.pm_layout.specs.Geometry.{pointer_word}
use Rattle.pm_layout.specs.declared.Geometry.{Geometry}
use Rattle.dn_model.specs.Table.{Row}
use Rattle.dn_model.specs.Disk.{Disk, rows}
use Rattle.dn_model.specs.Counts.{Exact}
use Rattle.law_table.specs.Words.{IsTableWord}
use Rattle.law_table.proofs.Rows.{all_listed}
use Rattle.law_table_on_disk.specs.CountLaws.{IsExact}
use Rattle.std.proofs.lemmas.List.Elements.{All-contains}
use Rattle.fact_table.specs.Table.{Table, IsTable}
use Rattle.fact_table.proofs.Tables.{pointer_read}
use Rattle.fact_changes.specs.Stale.{IsStale, IsTidied, MakesTidy, LeavesCleared, IsStaleWord, ClearsOnly}
use Rattle.fact_calls.specs.declared.call.TableCall.TheVariants.{ClearStale}
use Rattle.fact_calls.specs.Follows.{Follows}
use Rattle.fact_calls.specs.Made.{MayCall}
use Rattle.fact_calls.proofs.Called.{clear_images, clear_made}
use Rattle.fact_calls.proofs.Words.{only_table, stale_in}
use Rattle.law_table_calls.specs.Calls.{HasRows, IsOnDisk}
use Rattle.law_table_calls.proofs.Disks.{call_images, call_made}
use Rattle.table_repair.specs.Settling.{SettlesFrom, HasSettling, StandsWith, CountsAreSettled, TableIsSettled}
use Rattle.table_repair.proofs.Later.{leaves_then}
use Rattle.table_repair.proofs.Changes.{settles_then, settles_rows, same_mappings}
use Rattle.table_repair.proofs.Stills.{tidy_still}

-- the words tell which pointers are stale, where two disks that they hold have the same rows
stale_same : (d e : Disk) (words : List ℕ) (t : Table) → IsTable d words t → IsTable e words t → rows e ≡ rows d → (page : ℕ) → IsStale d page
    → IsStale e page
stale_same d e words t first second are page stale =
    let lt : page < t.geometry.pages = subst (λ (g : Geometry). page < g.pages) first.geometry stale.in_image in
    record {
      in_image = subst (λ (g : Geometry). page < g.pages) (sym second.geometry) lt;
      some = λ none. stale.some (sym (pointer_read d words t first page lt) ∙ pointer_read e words t second page lt ∙ none);
      no_row = λ row has. stale.no_row row (subst (λ (rs : List Row). Contains rs row) are has);
    }

module _ (d : Disk) (t : Table) (s : State) (counts : CountsAreSettled d t s) (u : State) (stores : ClearsOnly t s u) where
  abbrev e : Disk
  e = counts.disk

  abbrev is : StandsWith e t s
  is = counts.stands

  pub clear_only : StoresOnly (IsTableWord t.geometry) s u
  clear_only = only_table t.geometry (IsStaleWord e) (stale_in e t.geometry is.table.geometry) s u (stores e is.table)

  pub tidy_only : (t0 : Table) → d.geometry ≡ t0.geometry → (s0 : State) → StoresOnly (IsTableWord t0.geometry) s0 s
      → StoresOnly (IsTableWord t0.geometry) s0 u
  tidy_only t0 begun s0 first =
      let here : t.geometry ≡ t0.geometry = sym is.table.geometry ∙ ap (λ (x : Disk). x.geometry) counts.settles.same ∙ begun in
      stores_only-then (IsTableWord t0.geometry) s0 s u first (subst (λ (g : Geometry). StoresOnly (IsTableWord g) s u) here clear_only)

  -- where nothing was stored before and no pointer was stale, nothing is stored
  pub tidy_quiet : (t0 : Table) (s0 : State) → IsTable d s0.now t0 → Exact d → ((page : ℕ) → IsStale d page → ⊥) → StoresOnly Nowhere s0 s
      → StoresOnly Nowhere s0 u
  tidy_quiet t0 s0 table exact none first =
      stores_only-then Nowhere s0 s u first (stores_only-weaken (IsStaleWord e) Nowhere s u (λ a word. none word.page (was word.page word.stale))
      (stores e is.table))
    where
      same : e.geometry ≡ d.geometry
      same = ap (λ (x : Disk). x.geometry) counts.settles.same

      was : (page : ℕ) → IsStale e page → IsStale d page
      was page stale =
          let lt : page < d.geometry.pages = subst (λ (g : Geometry). page < g.pages) same stale.in_image in
          let here : page < t.geometry.pages = subst (λ (g : Geometry). page < g.pages) is.table.geometry stale.in_image in
          let there : page < t0.geometry.pages = subst (λ (g : Geometry). page < g.pages) table.geometry lt in
          let word : pointer_word t.geometry page ≡ pointer_word t0.geometry page =
          ap (λ (g : Geometry). pointer_word g page) (sym is.table.geometry ∙ same ∙ table.geometry) in
          record {
            in_image = lt;
            some = λ zero_is. stale.some (sym (pointer_read e s.now t is.table page here) ∙ ap (slice_index s.now) word
                ∙ first.read (pointer_word t0.geometry page) (λ no_word. no_word) ∙ pointer_read d s0.now t0 table page there ∙ zero_is);
            no_row = λ row has at.
                let one : IsExact d row = All-contains (IsExact d) (rows d) row exact.counts has in
                stale.no_row row (counts.settles.quiet row has one.0 one.2) at;
          }

  clear_may : MayCall e s.now t ClearStale
  clear_may = record { table = is.table; may = tt }

  image_settles : (c : List ℕ) → HasRows e c (λ rs. (rs ≡ rows e) ⊎ (rs ≡ rows e)) → HasSettling e c
  image_settles c has = record {
    disk = has.disk;
    stands_for = has.stands_for;
    is = ⊎_elim (λ (old : rows has.disk ≡ rows e). settles_rows e has.disk is.valid has.same old) (λ (new : rows has.disk ≡ rows e). settles_rows e
        has.disk is.valid has.same new) has.are;
  }

  pub tidy_images : Agree u.now u.past → LeavesCleared t s u → LeavesOnly s u (HasSettling e)
  tidy_images agree leaves = leaves_only-weaken s u _ (HasSettling e) image_settles
      (call_images e is.valid s u is.stands t ClearStale clear_may tt clear_only agree (λ x may stands. clear_images x s u may.table.good
      (leaves x may.table stands)))

  pub tidy_all : (s0 : State) → LeavesOnly s0 s (HasSettling d) → Agree u.now u.past → LeavesCleared t s u → LeavesOnly s0 u (HasSettling d)
  tidy_all s0 first agree leaves = leaves_then SettlesFrom settles_then d e counts.settles s0 s u first (tidy_images agree leaves)

  module _ (makes : MakesTidy t s u) where
    made : IsOnDisk e t u (Follows e.geometry (rows e) ClearStale)
    made = call_made e is.valid s u is.stands t ClearStale clear_may tt clear_only t (λ x may. clear_made x t s u (makes x may.table))

    tidied : IsTidied e t s u
    tidied = makes e is.table

    after : SettlesFrom e made.disk
    after = settles_rows e made.disk is.valid made.same made.are

    exact_still : (row : Row) → Contains (rows made.disk) row → IsExact made.disk row
    exact_still row has =
        let was : IsExact e row = All-contains (IsExact e) (rows e) row counts.exact.counts (subst (λ (rs : List Row). Contains rs row) made.are has)
        in
        (was.0, was.1 ∙ sym (same_mappings e made.disk made.same row.page), was.2)

    pub tidy_settled : TableIsSettled d t u
    tidy_settled = record {
      disk = made.disk;
      settles = settles_then d e made.disk counts.settles after;
      stands = record { valid = made.valid; stands = made.stands; table = made.table };
      exact = record { counts = all_listed (IsExact made.disk) (rows made.disk) exact_still; unshared = made.valid.single.unshared };
      none_stale = λ page stale. tidied.none_stale page (stale_same made.disk tidied.disk u.now t made.table tidied.table
          (tidied.clears.rows_same ∙ sym made.are) page stale);
    }

    pub tidy_keeps_still : Still s → Still u
    tidy_keeps_still = tidy_still e made.disk (ap (λ (x : Disk). x.geometry) made.same) s u (stores e is.table) made.stands
