-- What the counts of names say of a state.
use Rattle.std.proofs.Common.{◌≡◌, ◌≢◌, inl, inr, ℕ, ◌+◌, ◌<◌, ◌≤◌, Bool, true, false, List, [], length, sym, ◌∙◌, ap, subst, arith}
use Rattle.std.specs.Prelude.{slice_index, slice_index_or, Some, if◌then◌else◌, ◌==◌}
use Rattle.std.specs.Ordering.{nat_cmp}
use Rattle.std.specs.Cmp.{tied_itself}
use Rattle.std.specs.Cmp.Lexicographic.{slice_cmp, nat_list_cmp_total}
use Rattle.std.specs.FinMap.{FinMap, get}
use Rattle.std.specs.declared.cmp.Ordering.{Ordering}
use Rattle.std.specs.declared.cmp.Ordering.TheVariants.{Less, Equal}
use Rattle.std.proofs.lemmas.Bool.{cases_eq, cases_lt, eq-eqb, ne_eqb}
use Rattle.std.proofs.lemmas.List.{get_or_default}
use Rattle.pm_layout.specs.declared.Geometry.{Geometry}
use Rattle.pm_layout.specs.Geometry.{inode_word}
use Rattle.file_index.specs.Index.{ListsEntries}
use Rattle.dn_model.specs.Disk.{Disk, Use, Free, Live, Dying, state_number}
use Rattle.dn_model.specs.Counts.{total}
use Rattle.dn_model.specs.Files.{named}
use Rattle.dn_model.specs.Valid.{IsLinked}
use Rattle.dn_model.specs.Faults.{IsLeast}
use Rattle.law_write.proofs.Counting.{total-some, term-le, terms-le}
use Rattle.image_logs.proofs.Hits.{total-next, total-none, total-few}
use Rattle.image_logs.proofs.Steps.{state_word}
use Rattle.image_uses.specs.Links.{name_hit, ino_at, CountsNames, AreLinks, IsLinkedBy, AllLinked, IsNamed}
use Rattle.image_uses.proofs.Twice.{total-two}

Names : Type 0
Names = FinMap (slice_cmp nat_cmp) ℕ

hit-few : (i ino : ℕ) → name_hit i ino ≤ 1
hit-few i ino = by_test (ino == i)
  where
    by_test : (b : Bool) → (if b then 1 else 0) ≤ 1
    by_test true = omega arith
    by_test false = omega arith

hit-one : (i ino : ℕ) → ino ≡ i → name_hit i ino ≡ 1
hit-one i ino e = ap (λ (b : Bool). if b then 1 else 0) (eq-eqb ino i e)

hit-some : (i ino : ℕ) → 1 ≤ name_hit i ino → ino ≡ i
hit-some i ino some = elim (cases_eq ino i) [
  | inl e ↦ e
  | inr ne ↦ let none : name_hit i ino ≡ 0 = ap (λ (b : Bool). if b then 1 else 0) (ne_eqb ino i ne) in absurd (omega (arith, some, none))
]

-- counting names
pub names-none : (entries : List (List ℕ × ℕ)) (inodes : ℕ) (links : List ℕ) → length links ≡ inodes
    → ((i : ℕ) → i < inodes → slice_index links i ≡ 0) → CountsNames entries 0 inodes links
names-none entries inodes links long none = record { long = long; each = λ i lt. none i lt ∙ sym (total-none (λ k. name_hit i (ino_at entries k))) }

pub names-few : (entries : List (List ℕ × ℕ)) (n inodes : ℕ) (links : List ℕ) → CountsNames entries n inodes links → (i : ℕ) → i < inodes
    → slice_index links i ≤ n
names-few entries n inodes links so_far i lt = omega (
  arith,
  so_far.each i lt,
  total-few (λ k. name_hit i (ino_at entries k)) n
      (λ k. hit-few i (ino_at entries k)),
)

pub names-next : (entries : List (List ℕ × ℕ)) (n inodes : ℕ) (links new : List ℕ) (ino : ℕ) → CountsNames entries n inodes links
    → ino ≡ ino_at entries n → length new ≡ length links
    → ((i : ℕ) → i < length links → slice_index new i ≡ slice_index links i + name_hit i ino) → CountsNames entries (n + 1) inodes new
names-next entries n inodes links new ino so_far is long each = record {
  long = long ∙ so_far.long;
  each = λ i lt. omega (
    arith,
    each i (omega (arith, lt, so_far.long)),
    so_far.each i lt,
    total-next (λ k. name_hit i (ino_at entries k)) n,
    ap (name_hit i) is,
  );
}

less_not_equal : (o : Ordering) → o ≡ Less → o ≡ Equal → ⊥
less_not_equal o x y = no (sym x ∙ y)
  where
    no : Less ≡ Equal → ⊥
    no e = cc

module _ (names : FinMap (slice_cmp nat_cmp) ℕ) (entries : List (List ℕ × ℕ)) (lists : ListsEntries names entries) (i : ℕ) where
  abbrev hits : ℕ → ℕ
  hits k = name_hit i (ino_at entries k)

  abbrev name_at : ℕ → List ℕ
  name_at k = (slice_index_or entries k ([], 0)).0

  entry_leads : (k : ℕ) → k < length entries → ino_at entries k ≡ i → get names (name_at k) ≡ Some i
  entry_leads k lt e = (lists.all (name_at k) i).0 (k, lt, get_or_default entries k (name_at k, i) ([], 0) lt ∙ (λ j. (name_at k, e j)))

  leads_entry : (name : List ℕ) → get names name ≡ Some i → (k : ℕ) × (k < length entries) × (name_at k ≡ name) × (ino_at entries k ≡ i)
  leads_entry name e =
      let there = (lists.all name i).1 e in
      let at : slice_index_or entries there.0 ([], 0) ≡ (name, i) = get_or_default entries there.0 ([], 0) (name, i) there.1 ∙ there.2 in
      (there.0, there.1, ap (λ (x : List ℕ × ℕ). x.0) at, ap (λ (x : List ℕ × ℕ). x.1) at)

  apart : (j k : ℕ) → j < k → k < length entries → name_at j ≢ name_at k
  apart j k lt within e =
      less_not_equal (slice_cmp nat_cmp (name_at j) (name_at k)) (lists.in_order j k ([], 0) lt within)
      (ap (λ (n : List ℕ). slice_cmp nat_cmp (name_at j) n) (sym e) ∙ tied_itself nat_list_cmp_total (name_at j))

  pub none_from : total (length entries) hits ≡ 0 → (name : List ℕ) → get names name ≢ Some i
  none_from none name e =
      let k = leads_entry name e in
      omega (arith, none, term-le hits (length entries) k.0 k.1, hit-one i (ino_at entries k.0) k.3)

  pub none_to : ((name : List ℕ) → get names name ≢ Some i) → total (length entries) hits ≡ 0
  none_to none = elim (cases_eq (total (length entries) hits) 0) [
    | inl e ↦ e
    | inr ne ↦ let k = total-some hits (length entries) (omega (arith, ne)) in
        absurd (none (name_at k.0) (entry_leads k.0 k.1 (hit-some i (ino_at entries k.0) k.2)))
  ]

  pub one_from : total (length entries) hits ≡ 1 → (name : List ℕ) × (get names name ≡ Some i) × ((other : List ℕ) → get names other ≡ Some i
      → other ≡ name)
  one_from one =
      let k = total-some hits (length entries) (omega (arith, one)) in
      let here = hit-some i (ino_at entries k.0) k.2 in (
        name_at k.0,
        entry_leads k.0 k.1 here,
        (λ other e. let j = leads_entry other e in elim (cases_eq j.0 k.0) [
          | inl same ↦ sym j.2 ∙ ap name_at same
          | inr ne ↦ absurd (omega (
            arith,
            one,
            terms-le hits (length entries) j.0 k.0 j.1 k.1 ne,
            hit-one i (ino_at entries j.0) j.3,
            hit-one i (ino_at entries k.0) here,
          ))
        ]),
      )

  pub one_to : (name : List ℕ) → get names name ≡ Some i → ((other : List ℕ) → get names other ≡ Some i → other ≡ name)
      → total (length entries) hits ≡ 1
  one_to name leads alone = elim (cases_lt (total (length entries) hits) 2) [
    | inl few ↦ let k = leads_entry name leads in omega (arith, few, term-le hits (length entries) k.0 k.1, hit-one i (ino_at entries k.0) k.3)
    | inr two ↦
        let found = total-two hits (length entries) (λ k. hit-few i (ino_at entries k)) two in
        let first = alone (name_at found.0) (entry_leads found.0 (omega (arith, found.2, found.3)) (hit-some i (ino_at entries found.0) found.4)) in
        let second = alone (name_at found.1) (entry_leads found.1 found.3 (hit-some i (ino_at entries found.1) found.5)) in
        absurd (apart found.0 found.1 found.2 found.3 (first ∙ sym second))
  ]

module _ (g : Geometry) (c : List ℕ) (names : FinMap (slice_cmp nat_cmp) ℕ) (links : List ℕ) (are : AreLinks names g.inodes links) (d : Disk)
    (said : IsNamed g c names d) where
  module _ (i : ℕ) (in_table : i < g.inodes) where
    count_is : slice_index links i ≡ total (length are.entries) (λ k. name_hit i (ino_at are.entries k))
    count_is = are.counts.each i in_table

    state_is : slice_index c (inode_word i 0) ≡ state_number (d.inode i).use_of
    state_is = state_word g c d said.geometry said.inodes i in_table

    linked_from : IsLinkedBy (slice_index c (inode_word i 0)) (slice_index links i) → IsLinked d i (d.inode i).use_of
    linked_from by = by_use (d.inode i).use_of state_is
      where
        none : slice_index links i ≡ 0 → (name : List ℕ) → named d name ≢ Some i
        none z name e = none_from names are.entries are.lists i (sym count_is ∙ z) name (said.are name ∙ e)

        by_use : (u : Use) → slice_index c (inode_word i 0) ≡ state_number u → IsLinked d i u
        by_use Free e = none (by.1 (λ one. omega (arith, e, one)))
        by_use Live e = let one = one_from names are.entries are.lists i (sym count_is ∙ by.0 e) in
            record { name = one.0; leads = sym (said.are one.0) ∙ one.1; alone = λ other leads. one.2 other (said.are other ∙ leads) }
        by_use (Dying cut) e = none (by.1 (λ one. omega (arith, e, one)))

    linked_to : IsLinked d i (d.inode i).use_of → IsLinkedBy (slice_index c (inode_word i 0)) (slice_index links i)
    linked_to is = by_use (d.inode i).use_of state_is is
      where
        none : ((name : List ℕ) → named d name ≢ Some i) → slice_index links i ≡ 0
        none nobody = count_is ∙ none_to names are.entries are.lists i (λ name e. nobody name (sym (said.are name) ∙ e))

        by_use : (u : Use) → slice_index c (inode_word i 0) ≡ state_number u → IsLinked d i u → IsLinkedBy (slice_index c (inode_word i 0))
            (slice_index links i)
        by_use Free e nothing = ((λ one. absurd (omega (arith, e, one))), (λ other. none nothing))
        by_use Live e one = (
          (λ live. count_is ∙ one_to names are.entries are.lists i one.name (said.are one.name ∙ one.leads)
              (λ other leads. one.alone other (sym (said.are other) ∙ leads))),
          (λ other. absurd (other e)),
        )
        by_use (Dying cut) e nothing = ((λ one. absurd (omega (arith, e, one))), (λ other. none nothing))

  inodes_same : d.geometry.inodes ≡ g.inodes
  inodes_same = ap (λ (h : Geometry). h.inodes) said.geometry

  pub first_unlinked : (ino : ℕ) → 1 ≤ ino → ino < g.inodes → AllLinked c links ino
      → (IsLinkedBy (slice_index c (inode_word ino 0)) (slice_index links ino) → ⊥)
      → IsLeast d.geometry.inodes (λ i. (1 ≤ i) × (IsLinked d i (d.inode i).use_of → ⊥)) ino
  first_unlinked ino low in_table before bad = record {
    below = omega (arith, in_table, inodes_same);
    has = (low, (λ is. bad (linked_to ino in_table is)));
    least = λ m lt wrong. wrong.1 (linked_from m (omega (arith, lt, in_table)) (before m wrong.0 lt));
  }

  pub all_linked : (end : ℕ) → g.inodes ≤ end → AllLinked c links end → (i : ℕ) → 1 ≤ i → i < d.geometry.inodes → IsLinked d i (d.inode i).use_of
  all_linked end all linked i low lt = linked_from i (omega (arith, lt, inodes_same)) (linked i low (omega (arith, lt, inodes_same, all)))

pub linked-next : (c links : List ℕ) (end : ℕ) → AllLinked c links end → IsLinkedBy (slice_index c (inode_word end 0)) (slice_index links end)
    → AllLinked c links (end + 1)
linked-next c links end before here i low lt = elim (cases_eq i end) [
  | inl e ↦ subst (λ (n : ℕ). IsLinkedBy (slice_index c (inode_word n 0)) (slice_index links n)) (sym e) here
  | inr ne ↦ before i low (omega arith)
]
