-- The number of mappings of a page, and how it moves.
use Rattle.std.proofs.Common.{◌≡◌, ◌≢◌, ◌⊎◌, inl, inr, ⊎_elim, ℕ, ◌+◌, ◌<◌, ◌≤◌, refl, sym, ◌∙◌, ap, subst, arith}
use Rattle.std.specs.Prelude.{if◌then◌else◌, ◌==◌, All, Contains, Option, Some, None, IsNone, option_map}
use Rattle.std.proofs.lemmas.Bool.{cases_eq}
use Rattle.std.proofs.lemmas.List.Elements.{All-contains}
use Rattle.dn_model.specs.Maps.{Mapping}
use Rattle.dn_model.specs.Table.{Row, row_of}
use Rattle.dn_model.specs.Disk.{Disk, MapsTo, IsMapped, maps, rows}
use Rattle.dn_model.specs.Counts.{total, hit, mappings, IsFree, IsNear, Near}
use Rattle.dn_model.specs.Valid.{IsValid}
use Rattle.law_write.proofs.Counting.{total-same, total-change, total-some, term-le, terms-le}
use Rattle.law_write.proofs.Unread.{read_in_data}
use Rattle.law_write.proofs.WriteCounts.{hit_here, hit_other}
use Rattle.law_write.proofs.WriteValid.{mapped_counts}
use Rattle.law_table_on_disk.specs.MappingLaws.{places, RemapsInode, RemapsPlace, AddsMapping, MovesMapping, CountsTell}
use Rattle.law_table.proofs.Rows.{all_listed, none_or_some, row_found}

-- a mapping that hits the page is there, with this block
hit_some : (page : ℕ) (m : Option Mapping) → 1 ≤ hit page m → (x : Mapping) × (m ≡ Some x) × (x.block ≡ page)
hit_some page None some = absurd (omega arith)
hit_some page (Some x) some = elim (cases_eq x.block page) [
  | inl e ↦ (x, refl, e)
  | inr ne ↦ absurd (omega (arith, hit_other page x ne))
]

pub counted_mapped : (d : Disk) (page : ℕ) → 1 ≤ mappings d page → IsMapped d page
unfolding mappings
counted_mapped d page some =
    let in_inode = total-some (λ ino. places d page ino) d.geometry.inodes some in
    let in_place = total-some (λ idx. hit page (maps d in_inode.0 idx)) 4096 in_inode.2 in
    let by = hit_some page (maps d in_inode.0 in_place.0) in_place.2 in
    record {
      ino = in_inode.0;
      idx = in_place.0;
      maps_to = record { in_table = in_inode.1; in_file = in_place.1; by = by.0; is = by.1; block = by.2 };
    }

place_hits : (d : Disk) (page ino idx : ℕ) → MapsTo d ino idx page → hit page (maps d ino idx) ≡ 1
place_hits d page ino idx to = ap (hit page) to.is ∙ hit_here page to.by to.block

inode_hits : (d : Disk) (page ino idx : ℕ) → MapsTo d ino idx page → 1 ≤ places d page ino
inode_hits d page ino idx to = chain _ _ (place_hits d page ino idx to) (term-le (λ j. hit page (maps d ino j)) 4096 idx to.in_file)
  where
    chain : (a b : ℕ) → a ≡ 1 → a ≤ b → 1 ≤ b
    chain a b one le = omega arith

pub one_place : (d : Disk) (page i j idx jdx : ℕ) → mappings d page ≤ 1 → MapsTo d i idx page → MapsTo d j jdx page → (i ≡ j) × (idx ≡ jdx)
unfolding mappings
one_place d page i j idx jdx few at_i at_j = elim (cases_eq i j) [
  | inl e ↦ elim (cases_eq idx jdx) [
    | inl same ↦ (e, same)
    | inr ne ↦
        let there : MapsTo d i jdx page = subst (λ (k : ℕ). MapsTo d k jdx page) (sym e) at_j in
        absurd (too_many _ _ _ _ (place_hits d page i idx at_i) (place_hits d page i jdx there)
        (terms-le (λ k. hit page (maps d i k)) 4096 idx jdx at_i.in_file there.in_file ne) (term-le (λ k. places d page k) d.geometry.inodes i
        at_i.in_table) few)
  ]
  | inr ne ↦ absurd (two _ _ _ (inode_hits d page i idx at_i) (inode_hits d page j jdx at_j) (terms-le (λ k. places d page k) d.geometry.inodes i j
      at_i.in_table at_j.in_table ne) few)
]
  where
    too_many : (a b c e : ℕ) → a ≡ 1 → b ≡ 1 → a + b ≤ c → c ≤ e → e ≤ 1 → ⊥
    too_many a b c e one also both le most = omega arith

    two : (a b c : ℕ) → 1 ≤ a → 1 ≤ b → a + b ≤ c → c ≤ 1 → ⊥
    two a b c one also both most = omega arith

pub inode_moves : (ino : ℕ) (old new : Disk) → RemapsInode ino old new → (page : ℕ) → mappings new page + places old page ino ≡ mappings old
    page + places new page ino
unfolding mappings
inode_moves ino old new is page =
    ap (λ (n : ℕ). total n (λ i. places new page i) + places old page ino) is.inodes
    ∙ total-change (λ i. places old page i) (λ i. places new page i) old.geometry.inodes ino is.in_table
    (λ i ne. total-same (λ idx. hit page (maps old i idx)) (λ idx. hit page (maps new i idx)) 4096 (λ idx lt. ap (hit page) (is.others i idx ne)))

pub place_moves : (ino idx : ℕ) (old new : Disk) → RemapsPlace ino idx old new → (page : ℕ) → mappings new page + hit page (maps old ino idx) ≡
    mappings old page + hit page (maps new ino idx)
place_moves ino idx old new is page =
    joined _ _ _ _ _ _ (inode_moves ino old new is.in_inode page)
    (total-change (λ j. hit page (maps old ino j)) (λ j. hit page (maps new ino j)) 4096 idx is.in_file
    (λ j ne. ap (hit page) (is.other_places j ne)))
  where
    joined : (a b c e f g : ℕ) → a + b ≡ c + e → e + f ≡ b + g → a + f ≡ c + g
    joined a b c e f g one two = omega arith

module _ (ino idx : ℕ) (old new : Disk) (is : RemapsPlace ino idx old new) where
  moved : (page : ℕ) (m n : Option Mapping) → maps old ino idx ≡ m → maps new ino idx ≡ n → mappings new page + hit page m ≡ mappings old page + hit
      page n
  moved page m n was now = ap (λ (x : Option Mapping). mappings new page + hit page x) (sym was) ∙ place_moves ino idx old new is page ∙ ap
      (λ (x : Option Mapping). mappings old page + hit page x) now

  pub place_mapped : (m : Mapping) → maps old ino idx ≡ None → maps new ino idx ≡ Some m → AddsMapping m.block old new
  place_mapped m was now = record {
    more = omega (arith, moved m.block None (Some m) was now, hit_here m.block m refl);
    others = λ other ne. omega (arith, moved other None (Some m) was now, hit_other other m (λ e. ne (sym e)));
  }

  pub place_unmapped : (m : Mapping) → maps old ino idx ≡ Some m → maps new ino idx ≡ None → AddsMapping m.block new old
  place_unmapped m was now = record {
    more = omega (arith, moved m.block (Some m) None was now, hit_here m.block m refl);
    others = λ other ne. omega (arith, moved other (Some m) None was now, hit_other other m (λ e. ne (sym e)));
  }

  pub place_mapped_over : (m n : Mapping) → maps old ino idx ≡ Some m → maps new ino idx ≡ Some n → m.block ≢ n.block → MovesMapping m.block n.block
      old new
  place_mapped_over m n was now ne = record {
    less = omega (arith, moved m.block (Some m) (Some n) was now, hit_here m.block m refl, hit_other m.block n (λ e. ne (sym e)));
    more = omega (arith, moved n.block (Some m) (Some n) was now, hit_here n.block n refl, hit_other n.block m ne);
    others = λ other not_from not_to. omega (
      arith,
      moved other (Some m) (Some n) was now,
      hit_other other m (λ e. not_from (sym e)),
      hit_other other n (λ e. not_to (sym e)),
    );
  }

-- a mapping's page tells where it hits
hit_block : (page : ℕ) (m n : Option Mapping) → option_map (λ (x : Mapping). x.block) m ≡ option_map (λ (x : Mapping). x.block) n
    → hit page m ≡ hit page n
hit_block page None None e = refl
hit_block page None (Some y) e = cc
hit_block page (Some x) None e = cc
hit_block page (Some x) (Some y) e = let same : x.block ≡ y.block = cc in ap (λ (b : ℕ). if b == page then 1 else 0) same

pub blocks_tell : (old new : Disk) → new.geometry.inodes ≡ old.geometry.inodes
    → ((ino idx : ℕ) → ino < old.geometry.inodes → option_map (λ (m : Mapping). m.block) (maps new ino idx) ≡ option_map (λ (m : Mapping). m.block)
    (maps old ino idx))
    → (page : ℕ) → mappings new page ≡ mappings old page
unfolding mappings
blocks_tell old new inodes same page =
    ap (λ (n : ℕ). total n (λ i. places new page i)) inodes
    ∙ total-same (λ i. places old page i) (λ i. places new page i) old.geometry.inodes
    (λ i in_table. total-same (λ idx. hit page (maps old i idx)) (λ idx. hit page (maps new i idx)) 4096
    (λ idx lt. hit_block page (maps new i idx) (maps old i idx) (same i idx in_table)))

pub near_stays : (old new : Disk) → rows new ≡ rows old → Near old
    → ((row : Row) → Contains (rows old) row → (mappings new row.page ≡ mappings old row.page) ⊎ IsNear new row) → Near new
near_stays old new same near each = subst (All (IsNear new)) (sym same) (all_listed (IsNear new) (rows old) (λ row has. ⊎_elim
    (λ (e : mappings new row.page ≡ mappings old row.page). subst (λ (n : ℕ). (n ≤ row.rfc + row.uc) × (row.rfc ≤ n + row.uc)) (sym e)
    (All-contains (IsNear old) (rows old) row near has))
    (λ now. now) (each row has)))

module _ (d : Disk) (valid : IsValid d) where
  pub counts_tell : (row : Row) → Contains (rows d) row → CountsTell d row
  counts_tell row has = let near = All-contains (IsNear d) (rows d) row valid.near has in record { at_most = near.0; at_least = near.1 }

  pub row_page_free : (row : Row) → Contains (rows d) row → mappings d row.page ≡ 0 → IsFree d row.page
  row_page_free row has none = record {
    data_page = read_in_data d valid row.page (inr (row_found (rows d) row has));
    in_no_log = λ p. none_or_some (row_of (rows d) row.page) (valid.single.log_no_row row.page p) (row_found (rows d) row has);
    unmapped = none;
  }

  pub mapped_once : (page : ℕ) → IsNone (row_of (rows d) page) → IsMapped d page → mappings d page ≡ 1
  mapped_once page none mapped = omega (arith, mapped_counts d page mapped, valid.single.unshared page none)
