-- Which places a write and a lowered cut map otherwise.
use Rattle.std.proofs.Common.{◌≡◌, ◌≢◌, ◌⊎◌, inl, inr, ℕ, ◌+◌, ◌<◌, ◌≤◌, Bool, true, false, refl, sym, ◌∙◌, ap, arith}
use Rattle.std.specs.Prelude.{if◌then◌else◌, nat_lt, Option, Some, None}
use Rattle.std.proofs.lemmas.Bool.{cases_lt}
use Rattle.std.proofs.lemmas.Bool.Decides.{nat_tests}
use Rattle.pm_layout.specs.declared.Geometry.{Geometry}
use Rattle.log_entry.specs.Spelling.{pages_of}
use Rattle.dn_model.specs.Log.{Log}
use Rattle.dn_model.specs.Maps.{Mapping, mapping, cut_to, size_of}
use Rattle.dn_model.specs.Disk.{Disk, Inode, Use, Dying, maps, maps_by_use}
use Rattle.law_write.specs.Writing.{Writes}
use Rattle.law_write.proofs.MappedPlaces.{mapping-below, uncut}
use Rattle.law_write.proofs.WriteCounts.{maps_old, maps_others}
use Rattle.law_table_on_disk.specs.MappingLaws.{RemapsInode, RemapsPlace, LowersCut, UnmapsPlace}

pub write_remaps : (ino : ℕ) (old new : Disk) → Writes ino old new → RemapsInode ino old new
write_remaps ino old new w = record {
  inodes = ap (λ (g : Geometry). g.inodes) w.relogs.geometry;
  in_table = w.in_table;
  others = λ i idx ne.
      maps_others ino old new w i idx ne;
}

abbrev cut_by : Bool → Option Mapping → Option Mapping
cut_by b m = if b then m else None

none_cut : (b : Bool) → cut_by b None ≡ None
none_cut true = refl
none_cut false = refl

-- what is mapped below a size is not cut at a greater one
module _ (size more idx : ℕ) (le : size ≤ more) where
  not_cut : (m : Option Mapping) → ((x : Mapping) → m ≡ Some x → idx < pages_of size) → cut_to more idx m ≡ m
  not_cut None inside = none_cut (nat_lt idx (pages_of more))
  not_cut (Some x) inside = uncut more idx (Some x) (grown (inside x refl))
    where
      grown : idx < pages_of size → idx < pages_of more
      grown lt = omega arith

module _ (ino : ℕ) (old new : Disk) (w : Writes ino old new) (one : w.n ≡ 1) (in_file : w.first < 4096) (grows : size_of (old.inode ino).log ≤ w.size)
  where
    other_place : (j : ℕ) → j ≢ w.first → maps new ino j ≡ maps old ino j
    other_place j ne = w.other j (out (cases_lt j w.first)) ∙ not_cut (size_of (old.inode ino).log) w.size j grows (maps old ino j)
        (λ x is. mapping-below (old.inode ino).log j x (sym (maps_old ino old new w j) ∙ is))
      where
        out : (j < w.first) ⊎ (w.first ≤ j) → (j < w.first) ⊎ (w.first + w.n ≤ j)
        out (inl low) = inl low
        out (inr from) = inr (omega arith)

    pub write_remaps_place : RemapsPlace ino w.first old new
    write_remaps_place = record { in_inode = write_remaps ino old new w; in_file = in_file; other_places = other_place }

-- what a dying inode maps
dying_below : (c idx : ℕ) (log : Log) → idx < c → maps_by_use (Dying c) log idx ≡ mapping log idx
dying_below c idx log lt = ap (λ (b : Bool). if b then mapping log idx else None) (test idx c lt)
  where
    test : (a b : ℕ) → a < b → nat_lt a b ≡ true
    test a b lt = grind (arith, nat_tests)

dying_past : (c idx : ℕ) (log : Log) → c ≤ idx → maps_by_use (Dying c) log idx ≡ None
dying_past c idx log le = ap (λ (b : Bool). if b then mapping log idx else None) (test idx c le)
  where
    test : (a b : ℕ) → b ≤ a → nat_lt a b ≡ false
    test a b le = grind (arith, nat_tests)

module _ (ino c k : ℕ) (old new : Disk) (is : LowersCut ino c k old new) where
  maps_before : (j : ℕ) → maps old ino j ≡ maps_by_use (Dying k) (old.inode ino).log j
  unfolding maps
  maps_before j = ap (λ (u : Use). maps_by_use u (old.inode ino).log j) is.was

  maps_after : (j : ℕ) → maps new ino j ≡ maps_by_use (Dying c) (old.inode ino).log j
  unfolding maps
  maps_after j = ap (λ (u : Use). maps_by_use u (new.inode ino).log j) is.now ∙ ap (λ (l : Log). maps_by_use (Dying c) l j) is.same_log

  other_inode : (i idx : ℕ) → i ≢ ino → maps new i idx ≡ maps old i idx
  unfolding maps
  other_inode i idx ne = ap (λ (n : Inode). maps_by_use n.use_of n.log idx) (is.others i ne)

  below_or_past : (j : ℕ) → j ≢ c → (j < c) ⊎ (c ≤ j) → maps new ino j ≡ maps old ino j
  below_or_past j ne (inl low) = maps_after j ∙ dying_below c j (old.inode ino).log low ∙ sym
      (dying_below k j (old.inode ino).log (omega (arith, low, is.below))) ∙ sym (maps_before j)
  below_or_past j ne (inr from) = maps_after j ∙ dying_past c j (old.inode ino).log from ∙ sym (is.greatest j (omega (arith, ne, from)))

  pub lowered_cut_unmaps : UnmapsPlace ino c old new
  lowered_cut_unmaps = record {
    remaps = record {
      in_inode = record { inodes = is.inodes; in_table = is.in_table; others = other_inode };
      in_file = is.in_file;
      other_places = λ j ne. below_or_past j ne (cases_lt j c);
    };
    gone = maps_after c ∙ dying_past c c (old.inode ino).log (omega arith);
  }
