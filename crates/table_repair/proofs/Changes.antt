-- Each change of the table that settling makes keeps what it has to keep.
use Rattle.std.proofs.Common.{◌≡◌, ◌≢◌, inr, ⊎_elim, ℕ, ◌≤◌, List, refl, sym, ◌∙◌, ap, subst, arith}
use Rattle.std.specs.Prelude.{Contains, Some, IsSome, All}
use Rattle.std.proofs.lemmas.Bool.Decides.{nat_tests}
use Rattle.std.proofs.lemmas.List.Elements.{All-contains}
use Rattle.dn_model.specs.Maps.{Mapping}
use Rattle.dn_model.specs.Table.{Row, row_of}
use Rattle.dn_model.specs.Disk.{Disk, maps, rows}
use Rattle.dn_model.specs.Counts.{hit, mappings}
use Rattle.dn_model.specs.Valid.{IsValid}
use Rattle.dn_model.specs.Own.{Print, page_bytes, LivePlace, HasRow, IsOwn}
use Rattle.law_write.proofs.MappedPlaces.{maps-in_file}
use Rattle.law_write.proofs.WriteCounts.{place-le}
use Rattle.law_table.specs.Changes.{with_table, recount}
use Rattle.law_table.specs.Rows.{RecountsRows, TakesRow}
use Rattle.law_table.proofs.Rows.{all_listed, row_listed, row_found, distinct_same}
use Rattle.law_table_on_disk.proofs.Frame.{mappings_same}
use Rattle.law_table_on_disk.proofs.TableOwn.{own_kept}
use Rattle.fact_calls.specs.Made.{IsSameBut}
use Rattle.table_repair.specs.Settling.{SettlesFrom, with_count, AreSameElsewhere}

pub settles_same : (d : Disk) → SettlesFrom d d
settles_same d = record { same = refl; quiet = λ row has still some. has; own = λ print own. own }

pub settles_then : (d e f : Disk) → SettlesFrom d e → SettlesFrom e f → SettlesFrom d f
settles_then d e f first next = record {
  same = next.same ∙ ap (λ (x : Disk). with_table x f.chain f.pointer) first.same;
  quiet = λ row has still some. next.quiet row (first.quiet row has still some) still some;
  own = λ print own. next.own print (first.own print own);
}

-- mappings are what they were
pub same_mappings : (d e : Disk) → IsSameBut d e → (page : ℕ) → mappings e page ≡ mappings d page
same_mappings d e same page = ap (λ (x : Disk). mappings x page) same ∙ mappings_same d e.chain e.pointer page

-- a live place is a mapping of its page
live_counts : (d : Disk) → IsValid d → (ino idx : ℕ) (m : Mapping) → LivePlace d ino idx m → 1 ≤ mappings d m.block
live_counts d valid ino idx m place =
    let one : hit m.block (maps d ino idx) ≡ 1 = ap (hit m.block) place.maps ∙ hit_here m in
    omega (arith, one, place-le d m.block ino idx place.in_table (maps-in_file d valid ino idx m place.in_table place.maps))
  where
    hit_here : (x : Mapping) → hit x.block (Some x) ≡ 1
    hit_here x = grind (arith, nat_tests)

module _ (d e : Disk) (valid : IsValid d) (same : IsSameBut d e) where
  -- each row has the print and the page of one of before, and pages that are mapped keep their rows
  module _ (from : (r : Row) → Contains (rows e) r → (q : Row) × Contains (rows d) q × (q.page ≡ r.page) × (q.print ≡ r.print))
      (found : (page : ℕ) → 1 ≤ mappings d page → IsSome (row_of (rows d) page) → IsSome (row_of (rows e) page)) where
    right : (print : Print) → IsOwn print d → (r : Row) → Contains (rows e) r → r.print ≡ print (page_bytes d r.page)
    right print own r has =
        let was = from r has in
        let is : was.0.print ≡ print (page_bytes d was.0.page) = All-contains (λ (x : Row). x.print ≡ print (page_bytes d x.page)) (rows d) was.0
        own.prints was.1 in
        sym was.3 ∙ is ∙ ap (λ (p : ℕ). print (page_bytes d p)) was.2

    pub keeps_own : (print : Print) → IsOwn print d → IsOwn print e
    keeps_own print own = subst (IsOwn print) (sym same) (own_kept d e.chain e.pointer print own
        (subst (λ (x : Disk). All (λ row. row.print ≡ print (page_bytes d row.page)) (rows x)) same
        (all_listed (λ (row : Row). row.print ≡ print (page_bytes d row.page)) (rows e) (right print own)))
        (λ ino idx m place done some. inr (subst (λ (x : Disk). HasRow x m.block) same (found m.block (live_counts d valid ino idx m place) some))))

  -- the rows stay
  pub settles_rows : rows e ≡ rows d → SettlesFrom d e
  settles_rows are = record {
    same = same;
    quiet = λ row has still some. subst (λ (rs : List Row). Contains rs row) (sym are) has;
    own = keeps_own (λ r has. (r, subst (λ (rs : List Row). Contains rs r) are has, refl, refl))
        (λ page mapped some. subst (λ (rs : List Row). IsSome (row_of rs page)) (sym are) some);
  }

  -- a row gets other counts; it had an update under way
  module _ (slot rfc : ℕ) (row : Row) (there : Contains (rows d) row) (at_slot : row.slot ≡ slot) (moved : RecountsRows slot rfc 0 (rows d) (rows e))
    where
      this_one : (r : Row) → Contains (rows d) r → r.slot ≡ slot → r ≡ row
      this_one r has at = distinct_same (λ (x : Row). x.slot) (rows d) valid.rows_apart.slot r row has there (at ∙ sym at_slot)

      stays : (r : Row) → Contains (rows d) r → r.slot ≢ slot → Contains (rows e) r
      stays r has ne = subst (Contains (rows e)) (moved.others r ne) (moved.kept r has)

      pub settles_count : row.uc ≢ 0 → SettlesFrom d e
      settles_count busy = record {
        same = same;
        quiet = λ r has still some. stays r has (λ at. busy (sym (ap (λ (x : Row). x.uc) (this_one r has at)) ∙ still));
        own = keeps_own (λ r has. let was = moved.only r has in (was.0, was.1, ap (λ (x : Row). x.page) was.2, ap (λ (x : Row). x.print) was.2))
            (λ page mapped some. let was = row_listed (rows d) page some in
            subst (λ (p : ℕ). IsSome (row_of (rows e) p)) was.2 (row_found (rows e) (recount slot rfc 0 was.0) (moved.kept was.0 was.1)));
      }

      pub counted_there : Contains (rows e) (with_count row rfc)
      counted_there = subst (Contains (rows e)) (moved.this row at_slot) (moved.kept row there)

      from_other : (r : Row) → r.slot ≢ slot → (was : Row) × Contains (rows d) was × (recount slot rfc 0 was ≡ r) → Contains (rows d) r
      from_other r ne was =
          let same_slot : was.0.slot ≡ r.slot = ap (λ (x : Row). x.slot) was.2 in
          let is : was.0 ≡ r = sym (moved.others was.0 (λ at. ne (sym same_slot ∙ at))) ∙ was.2 in
          subst (Contains (rows d)) is was.1

      pub counted_others : AreSameElsewhere row.slot (rows d) (rows e)
      counted_others = record {
        kept = λ r has ne. stays r has (λ at. ne (at ∙ sym at_slot));
        only = λ r has ne. from_other r (λ at. ne (at ∙ sym at_slot)) (moved.only r has);
      }

  -- a row without mappings, references and updates goes
  module _ (row : Row) (there : Contains (rows d) row) (takes : TakesRow row (rows d) (rows e)) where
    pub settles_gone : row.rfc ≡ 0 → mappings d row.page ≡ 0 → SettlesFrom d e
    settles_gone no_reference unmapped = record {
      same = same;
      quiet = λ r has still some. ⊎_elim (λ (is : r ≡ row). absurd (some (ap (λ (x : Row). x.rfc) is ∙ no_reference)))
          (λ (stays : Contains (rows e) r). stays) (takes.kept r has);
      own = keeps_own (λ r has. (r, (takes.only r has).0, refl, refl))
          (λ page mapped some. let was = row_listed (rows d) page some in
          ⊎_elim (λ (is : was.0 ≡ row). absurd (never page mapped (sym was.2 ∙ ap (λ (x : Row). x.page) is)))
          (λ (stays : Contains (rows e) was.0). subst (λ (p : ℕ). IsSome (row_of (rows e) p)) was.2 (row_found (rows e) was.0 stays))
          (takes.kept was.0 was.1));
    }
      where
        never : (page : ℕ) → 1 ≤ mappings d page → page ≡ row.page → ⊥
        never page mapped is = let here : 1 ≤ mappings d row.page = subst (λ (p : ℕ). 1 ≤ mappings d p) is mapped in omega (arith, here, unmapped)

    pub gone_here : (r : Row) → Contains (rows e) r → r.slot ≢ row.slot
    gone_here r has = (takes.only r has).1

    pub gone_others : AreSameElsewhere row.slot (rows d) (rows e)
    gone_others = record {
      kept = λ r has ne. ⊎_elim (λ (is : r ≡ row). absurd (ne (ap (λ (x : Row). x.slot) is))) (λ (stays : Contains (rows e) r). stays)
          (takes.kept r has);
      only = λ r has ne. (takes.only r has).0;
    }
