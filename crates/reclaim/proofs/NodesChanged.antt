-- One inode of those that are kept in memory changes.
use Rattle.std.proofs.Common.{◌≡◌, ◌≢◌, inl, inr, ⊎_elim, ℕ, ◌<◌, List, length, get_or, refl, sym, ◌∙◌, ap, subst, arith}
use Rattle.std.specs.Prelude.{slice_get, slice_set, Option, Some, None}
use Rattle.std.specs.Option.{option_map}
use Rattle.std.proofs.lemmas.Bool.{cases_eq, cases_lt}
use Rattle.std.proofs.lemmas.Option.{slice_get_read, slice_get-get_or, slice_get_past, slice_get_cases}
use Rattle.std.proofs.lemmas.List.{length-set, get_or-set_same, get_or-set_other}
use Rattle.file_content.specs.Content.{kept}
use Rattle.dn_model.specs.Maps.{size_of}
use Rattle.dn_model.specs.Disk.{Disk, Inode, IsUsed, maps}
use Rattle.dn_volume.specs.declared.volume.InodeState.{InodeState}
use Rattle.dn_volume.specs.Inodes.{IsInodeOf, AreInodesOf}
use Rattle.reclaim.specs.Worked.{ChangesOne}
use Rattle.reclaim.proofs.WorkEvent.{KeepsNodes}

module _ {X : Type 0} where
  pub same_some : (o : Option X) (x y : X) → o ≡ Some x → o ≡ Some y → x ≡ y
  same_some o x y a b = cc

  not_both : (o : Option X) (x : X) → o ≡ None → o ≡ Some x → ⊥
  not_both o x none some = cc

  pub there_at : (xs : List X) (k : ℕ) → k < length xs → (x : X) × (slice_get xs k ≡ Some x)
  there_at xs k lt = by_it (slice_get xs k) refl
    where
      by_it : (r : Option X) → slice_get xs k ≡ r → (x : X) × (slice_get xs k ≡ Some x)
      by_it None is = absurd (⊎_elim (λ found. not_both (slice_get xs k) found.0 is found.2) (λ past. omega (arith, lt, past.0))
          (slice_get_cases xs k).1)
      by_it (Some x) is = (x, is)

  set_here : (xs : List X) (k : ℕ) (x : X) → k < length xs → slice_get (slice_set xs k x) k ≡ Some x
  set_here xs k x lt = slice_get_read (slice_set xs k x) (length (slice_set xs k x)) k x refl (omega (arith, lt, length-set xs k x))
      (sym (get_or-set_same xs k x x lt))

  set_other : (xs : List X) (k j : ℕ) (x : X) → j ≢ k → slice_get (slice_set xs k x) j ≡ slice_get xs j
  set_other xs k j x ne = elim (cases_lt j (length xs)) [
    | inl lt ↦
        slice_get-get_or (slice_set xs k x) j x (omega (arith, lt, length-set xs k x)) ∙ ap (λ (y : X). Some y) (get_or-set_other xs k j x x ne) ∙ sym
        (slice_get-get_or xs j x lt)
    | inr past ↦ slice_get_past (slice_set xs k x) j (omega (arith, past, length-set xs k x)) ∙ sym (slice_get_past xs j past)
  ]

-- by one store into the list
pub changes_at : (R : InodeState → InodeState → Type 0) (ino : ℕ) (nodes : List InodeState) (x y : InodeState) → ino < length nodes
    → x ≡ get_or nodes ino x → R x y → ChangesOne R ino nodes (slice_set nodes ino y)
changes_at R ino nodes x y lt value becomes = record {
  all = length-set nodes ino y;
  others = λ i ne. set_other nodes ino i y ne;
  here = λ u v was is.
      subst (λ (a : InodeState). R a v) (same_some (slice_get nodes ino) x u (slice_get_read nodes (length nodes) ino x refl lt value) was)
      (subst (λ (z : InodeState). R x z) (same_some (slice_get (slice_set nodes ino y) ino) y v (set_here nodes ino y lt) is) becomes);
}

module _ (R : InodeState → InodeState → Type 0) (ino : ℕ) (old new : List InodeState) (change : ChangesOne R ino old new) (lt : ino < length old)
  where
    pub was : (x : InodeState) × (slice_get old ino ≡ Some x)
    was = there_at old ino lt

    pub is_now : (y : InodeState) × (slice_get new ino ≡ Some y)
    is_now = there_at new ino (omega (arith, lt, change.all))

    -- who holds them, and how often their logs were replaced, stays
    module _ (holder : (x y : InodeState) → R x y → y.holder ≡ x.holder) (round : (x y : InodeState) → R x y → y.round ≡ x.round) where
      back : (i : ℕ) (y : InodeState) → slice_get new i ≡ Some y → (x : InodeState) × (slice_get old i ≡ Some x) × (y.holder ≡ x.holder)
      back i y at = elim (cases_eq i ino) [
        | inl same ↦ (was.0, ap (slice_get old) same ∙ was.1, holder was.0 y (change.here was.0 y was.1 (ap (slice_get new) (sym same) ∙ at)))
        | inr ne ↦ (y, sym (change.others i ne) ∙ at, refl)
      ]

      on : (i : ℕ) (x : InodeState) → slice_get old i ≡ Some x → (y : InodeState) × (slice_get new i ≡ Some y) × (y.round ≡ x.round)
      on i x at = elim (cases_eq i ino) [
        | inl same ↦ (
          is_now.0,
          ap (slice_get new) same ∙ is_now.1,
          round x is_now.0 (change.here x is_now.0 (ap (slice_get old) (sym same) ∙ at)
              is_now.1),
        )
        | inr ne ↦ (x, change.others i ne ∙ at, refl)
      ]

      pub nodes_kept : KeepsNodes old new
      nodes_kept = record { all = change.all; back = back; on = on }

    -- what is kept of each is the disk's
    module _ (d e : Disk) (inodes : AreInodesOf d old) (geometry : e.geometry ≡ d.geometry) (others : (i : ℕ) → i ≢ ino → e.inode i ≡ d.inode i)
        (maps_others : (i idx : ℕ) → i ≢ ino → maps e i idx ≡ maps d i idx) (here : (x y : InodeState) → IsInodeOf d ino x → R x y → IsInodeOf e ino y)
      where
        other_node : (i : ℕ) (x : InodeState) → i ≢ ino → IsInodeOf d i x → IsInodeOf e i x
        other_node i x ne is = record {
          use_is = ap (λ (n : Inode). n.use_of) (others i ne) ∙ is.use_is;
          size_is = λ used. ap (λ (n : Inode). size_of n.log) (others i ne) ∙ is.size_is (subst (λ (n : Inode). IsUsed n.use_of) (others i ne) used);
          small = is.small;
          log_pages = λ used. ap (λ (n : Inode). length n.log.pages) (others i ne)
              ∙ is.log_pages (subst (λ (n : Inode). IsUsed n.use_of) (others i ne) used);
          places = λ idx. is.places idx ∙ ap (option_map kept) (sym (maps_others i idx ne));
        }

        pub nodes_are : AreInodesOf e new
        nodes_are = record {
          all = change.all ∙ inodes.all ∙ sym (ap (λ g. g.inodes) geometry);
          each = λ i y at. elim (cases_eq i ino) [
            | inl same ↦ subst (λ (j : ℕ). IsInodeOf e j y) (sym same)
                (here was.0 y (inodes.each ino was.0 was.1) (change.here was.0 y was.1 (ap (slice_get new) (sym same) ∙ at)))
            | inr ne ↦ other_node i y ne (inodes.each i y (sym (change.others i ne) ∙ at))
          ];
        }

-- where none changes
pub nodes_same : (old new : List InodeState) → new ≡ old → KeepsNodes old new
nodes_same old new same = record {
  all = ap (λ (ns : List InodeState). length ns) same;
  back = λ i y at. (y, ap (λ (ns : List InodeState). slice_get ns i) (sym same) ∙ at, refl);
  on = λ i x at. (x, ap (λ (ns : List InodeState). slice_get ns i) same ∙ at, refl);
}
