-- A row without references and updates goes, and the pointer of its page is cleared: the disk of after.
use Rattle.std.proofs.Common.{◌≡◌, ◌≢◌, ◌⊎◌, inl, inr, ⊎_elim, ℕ, ◌<◌, Bool, List, [], ◌∷◌, refl, sym, ◌∙◌, ap, subst, arith}
use Rattle.std.specs.Prelude.{Some, None, IsSome, Contains, if◌then◌else◌, ◌==◌}
use Rattle.std.proofs.lemmas.Bool.{cases_eq}
use Rattle.std.proofs.lemmas.List.Elements.{All-contains}
use Rattle.fingerprint.specs.Count.{count_word}
use Rattle.dn_model.specs.Maps.{Mapping}
use Rattle.dn_model.specs.Table.{Row, row_of, prefix_of}
use Rattle.dn_model.specs.Disk.{Disk, maps, rows}
use Rattle.dn_model.specs.Counts.{mappings, IsNear, IsFree}
use Rattle.dn_model.specs.Own.{Print, IsOwn, page_bytes}
use Rattle.dn_model.specs.Valid.{IsValid}
use Rattle.law_write.specs.Events.{IsUnused}
use Rattle.law_write.proofs.MappedPlaces.{maps-in_file}
use Rattle.law_write.proofs.WriteValid.{mapped_counts}
use Rattle.law_table.specs.Changes.{without, removed}
use Rattle.law_table.specs.Rows.{TakesRow}
use Rattle.law_table.proofs.Rows.{same_test, other_test, none_found, none_listed, listed_here, listed_later}
use Rattle.law_table.proofs.Pointed.{rows_repointed}
use Rattle.law_table.proofs.Taken.{without_here, without_other, rows_removed}
use Rattle.law_table.proofs.TableRows.{good_of, stands_in_chain}
use Rattle.law_table.proofs.Gone.{taken_may_clear}
use Rattle.law_table_on_disk.specs.RowLaws.{MayRemove}
use Rattle.law_table_on_disk.specs.TableLaws.{IsNextDisk}
use Rattle.law_table_on_disk.proofs.Frame.{maps_same, named_same, free_kept, free_only}
use Rattle.law_table_on_disk.proofs.Mappings.{row_page_free}
use Rattle.law_table_on_disk.proofs.Removed.{takes, remove_own, may_take, remove_next}
use Rattle.law_table_on_disk.proofs.Repointed.{repoint_own, may_repoint, repoint_one_word}
use Rattle.fact_rows.specs.Gone.{cleared}
use Rattle.dn_volume.specs.Accounts.{AccountsFor, KeepsAlone}
use Rattle.dn_volume.specs.Events.{word_in, word_at}
use Rattle.dn_volume.specs.Planned.{slot_of_row}
use Rattle.dn_volume.specs.Rely.{KeepsRest}

module _ (d : Disk) (row : Row) (valid : IsValid d) (has : Contains (rows d) row) (no_reference : row.rfc ≡ 0) (no_update : row.uc ≡ 0) where
  abbrev e : Disk
  e = cleared d row

  pub unmapped : mappings d row.page ≡ 0
  unmapped = let near = All-contains (IsNear d) (rows d) row valid.near has in omega (arith, near.0, no_reference, no_update)

  pub rows_gone : rows e ≡ rows (removed d row.slot)
  rows_gone = rows_repointed (removed d row.slot) row.page 0

  pub gone : TakesRow row (rows d) (rows e)
  gone = subst (TakesRow row (rows d)) (sym rows_gone) (takes d row valid has)

  abbrev may : MayRemove d (prefix_of d.geometry row.print) row
  may = let chain = stands_in_chain d (good_of d valid) row has in record {
    valid = valid;
    direct = chain.direct;
    has = chain.listed;
    few = omega (arith, unmapped);
  }

  pub removed_next : IsNextDisk d (removed d row.slot)
  removed_next = remove_next d (prefix_of d.geometry row.print) row may

  pub gone_next : IsNextDisk d e
  gone_next = record {
    same = refl;
    valid = (repoint_one_word (removed d row.slot) row.page 0 (may_repoint (removed d row.slot) row.page 0 removed_next.valid
        (taken_may_clear d (prefix_of d.geometry row.print) row (may_take d (prefix_of d.geometry row.print) row may)))).new_valid;
    read = λ page some. removed_next.read page (subst (λ (rs : List Row). IsSome (row_of rs page)) rows_gone some);
  }

  -- nothing is mapped to its page
  no_place : (i idx : ℕ) (m : Mapping) → i < d.geometry.inodes → maps d i idx ≡ Some m → m.block ≡ row.page → ⊥
  no_place i idx m lt is same = absurd (omega (
    arith,
    unmapped,
    mapped_counts d row.page (record {
      ino = i;
      idx = idx;
      maps_to = record { in_table = lt; in_file = maps-in_file d valid i idx m lt is; by = m; is = is; block = same };
    }),
  ))

  pub removed_own : (print : Print) → IsOwn print d → IsOwn print (removed d row.slot)
  removed_own print = remove_own d row valid has print (λ ino idx m place done same. absurd (no_place ino idx m place.in_table place.maps same))

  pub gone_own : (print : Print) → IsOwn print d → IsOwn print e
  gone_own print own = repoint_own (removed d row.slot) row.page 0 print (removed_own print own)

  -- the page is unused then
  pub gone_then : (page : ℕ) → IsUnused d page ⊎ (page ≡ row.page) → IsUnused e page
  gone_then page is = record {
    free = ⊎_elim (λ (was : IsUnused d page). free_kept d e.chain e.pointer page was.free)
        (λ (same : page ≡ row.page). subst (IsFree e) (sym same) (free_kept d e.chain e.pointer row.page (row_page_free d valid row has unmapped)))
        is;
    no_row = ⊎_elim (λ (was : IsUnused d page). none_found (rows e) page (λ r listed. none_listed (rows d) page was.no_row r (gone.only r listed).0))
        (λ (same : page ≡ row.page). none_found (rows e) page (λ r listed at. (gone.only r listed).3 (at ∙ same))) is;
  }

  pub gone_before : (page : ℕ) → IsUnused e page → IsUnused d page ⊎ (page ≡ row.page)
  gone_before page is = elim (cases_eq page row.page) [
    | inl same ↦ inr same
    | inr ne ↦ inl (record {
      free = free_only d e.chain e.pointer page is.free;
      no_row = none_found (rows d) page (λ r listed at. ⊎_elim (λ (here : r ≡ row). ne (sym at ∙ ap (λ (x : Row). x.page) here))
          (λ (still : Contains (rows e) r). none_listed (rows e) page is.no_row r still at) (gone.kept r listed));
    })
  ]

  pub gone_used : (page : ℕ) → page ≡ row.page → IsUnused d page → ⊥
  gone_used page same unused = none_listed (rows d) page unused.no_row row has (sym same)

  row_found_still : (page : ℕ) → page ≢ row.page → row_of (rows e) page ≡ row_of (rows d) page
  row_found_still page ne = gone.found page ∙ ap (λ (b : Bool). if b then None else row_of (rows d) page)
      (other_test row.page page (λ same. ne (sym same)))

  pub gone_rest : KeepsRest [] [] d e
  gone_rest = record {
    geometry = refl;
    inode = λ i out. refl;
    named_so = λ i name some out. ((λ is. sym (named_same d e.chain e.pointer name) ∙ is), (λ is. named_same d e.chain e.pointer name ∙ is));
    word = λ page k read. refl;
    unused = λ page out is. gone_then page (inl is);
    slots = λ i idx m lt out is. ap slot_of_row (row_found_still m.block (no_place i idx m lt is));
    counting = λ r listed some. ⊎_elim
        (λ (here : r ≡ row). absurd (let one = ap (λ (x : Row). x.rfc) here in let two = ap (λ (x : Row). x.uc) here in
        omega (arith, some, one, two, no_reference, no_update)))
        (λ (still : Contains (rows e) r). record { still = r; there = still; slot = refl; page = refl; print = refl }) (gone.kept r listed);
  }

bytes_still : (d : Disk) (row : Row) (page : ℕ) → page_bytes (cleared d row) page ≡ page_bytes d page
unfolding page_bytes
bytes_still d row page = refl

module _ (d : Disk) (row : Row) (valid : IsValid d) (has : Contains (rows d) row) (no_reference : row.rfc ≡ 0) (no_update : row.uc ≡ 0) where
  pub gone_alone : KeepsAlone d (cleared d row)
  gone_alone ino idx m place alone = record {
    mapping = m;
    place = record {
      in_table = place.in_table;
      live = place.live;
      maps = sym (maps_same d (cleared d row).chain (cleared d row).pointer ino idx) ∙ place.maps;
    };
    alone = alone;
    page_is = refl;
    bytes_are = bytes_still d row m.block;
  }

  pub gone_accounts : (print : Print) → AccountsFor print d (cleared d row)
  gone_accounts print = record {
    alone = λ ino idx m place alone. inl (gone_alone ino idx m place alone);
    row_pages = λ r listed. inl (record {
      was = r;
      there = ((gone d row valid has no_reference no_update).only r listed).0;
      page_is = refl;
      bytes_are = bytes_still d row r.page;
    });
  }

-- the count words without a row whose word was 0
module _ (slot : ℕ) where
  word_gone : (rs : List Row) → word_in (without slot rs) slot ≡ 0
  word_gone [] = refl
  word_gone (r ∷ rs) = elim (cases_eq r.slot slot) [
    | inl here ↦ ap (λ (xs : List Row). word_in xs slot) (without_here slot r rs here) ∙ word_gone rs
    | inr there ↦
        ap (λ (xs : List Row). word_in xs slot) (without_other slot r rs there)
        ∙ ap (λ (t : Bool). if t then count_word r.rfc r.uc else word_in (without slot rs) slot) (other_test r.slot slot there) ∙ word_gone rs
  ]

  word_zero : (rs : List Row) → ((r : Row) → Contains rs r → r.slot ≡ slot → count_word r.rfc r.uc ≡ 0) → word_in rs slot ≡ 0
  word_zero [] zero = refl
  word_zero (r ∷ rs) zero = elim (cases_eq r.slot slot) [
    | inl here ↦ ap (λ (t : Bool). if t then count_word r.rfc r.uc else word_in rs slot) (same_test r.slot slot here) ∙ zero r (listed_here r rs) here
    | inr there ↦ ap (λ (t : Bool). if t then count_word r.rfc r.uc else word_in rs slot) (other_test r.slot slot there) ∙ word_zero rs
        (λ x has. zero x (listed_later r rs x has))
  ]

  word_other : (other : ℕ) → other ≢ slot → (rs : List Row) → word_in (without slot rs) other ≡ word_in rs other
  word_other other ne [] = refl
  word_other other ne (r ∷ rs) = elim (cases_eq r.slot slot) [
    | inl here ↦
        ap (λ (xs : List Row). word_in xs other) (without_here slot r rs here) ∙ word_other other ne rs
        ∙ sym (ap (λ (t : Bool). if t then count_word r.rfc r.uc else word_in rs other) (other_test r.slot other (λ same. ne (sym same ∙ here))))
    | inr there ↦
        ap (λ (xs : List Row). word_in xs other) (without_other slot r rs there)
        ∙ ap (λ (w : ℕ). if r.slot == other then count_word r.rfc r.uc else w) (word_other other ne rs)
  ]

pub gone_words : (d : Disk) (row : Row) → ((r : Row) → Contains (rows d) r → r.slot ≡ row.slot → count_word r.rfc r.uc ≡ 0) → (slot : ℕ)
    → word_at (cleared d row) slot ≡ word_at d slot
gone_words d row zero slot =
    ap (λ (rs : List Row). word_in rs slot) (rows_repointed (removed d row.slot) row.page 0 ∙ rows_removed row.slot d) ∙ elim (cases_eq slot row.slot) [
      | inl here ↦ ap (word_in (without row.slot (rows d))) here ∙ word_gone row.slot (rows d) ∙ sym (word_zero row.slot (rows d) zero) ∙ ap
          (word_in (rows d)) (sym here)
      | inr there ↦ word_other row.slot slot there (rows d)
    ]
