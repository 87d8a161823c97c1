-- The files after Write items came: the one whose log got them, and no other, is another.
use Rattle.std.proofs.Common.{
  ◌≡◌,
  ◌≢◌,
  inl,
  inr,
  ℕ,
  zero,
  ◌/◌,
  ◌%◌,
  ◌^◌,
  ◌<◌,
  ◌≤◌,
  Bool,
  true,
  false,
  List,
  [],
  ◌∷◌,
  refl,
  sym,
  ◌∙◌,
  ap,
  subst,
  arith,
}
use Rattle.std.specs.Prelude.{if◌then◌else◌, ◌==◌, slice_index, Option, Some, None, All}
use Rattle.std.specs.Option.{option_map}
use Rattle.std.proofs.lemmas.Bool.{cases_eq, and_parts, and_from}
use Rattle.std.proofs.lemmas.Bool.Decides.{nat_tests}
use Rattle.std.proofs.lemmas.Grind.{same_number_lists}
use Rattle.std.proofs.lemmas.List.Elements.{All-head, All-tail}
use Rattle.pm_layout.specs.declared.Geometry.{Geometry}
use Rattle.log_entry.specs.Name.{same_name}
use Rattle.log_entry.specs.declared.item.LogItem.{LogItem}
use Rattle.log_entry.specs.declared.item.LogItem.TheVariants.{Write, Size, Add, Forget}
use Rattle.dn_model.specs.Maps.{Mapping, size_of}
use Rattle.dn_model.specs.Disk.{Disk, Inode, Live, MapsTo, IsUsed, maps}
use Rattle.dn_model.specs.Files.{bytes, mapped_byte, named, named_after, files, IsSameFiles}
use Rattle.dn_model.specs.Apply.{written, bytes_or_none, after_op}
use Rattle.dn_model.specs.Valid.{MayStand, HasOneName, IsLinked, IsValid}
use Rattle.dn_model.specs.declared.op.Op.TheVariants.{Write as WriteOp}
use Rattle.law_write.specs.Writing.{Writes, WritesWell, WritesBytes}
use Rattle.law_write.proofs.MappedPlaces.{maps-in_file}
use Rattle.law_write.proofs.WriteCounts.{maps_others}
use Rattle.law_write.proofs.WriteValid.{named_same}
use Rattle.law_write.proofs.WriteBytes.{length-bytes, byte_at, bytes-written}

same_names : (xs ys : List ℕ) → same_name xs ys ≡ true → xs ≡ ys
same_names [] [] e = refl
same_names [] (y ∷ ys) e = cc
same_names (x ∷ xs) [] e = cc
same_names (x ∷ xs) (y ∷ ys) e = let both = and_parts (x == y) (same_name xs ys) e in (λ i. same x y both.0 i ∷ same_names xs ys both.1 i)
  where
    same : (a b : ℕ) → (a == b) ≡ true → a ≡ b
    same a b e = grind (arith, nat_tests)

same_name-self : (xs : List ℕ) → same_name xs xs ≡ true
same_name-self [] = refl
same_name-self (x ∷ xs) = and_from (x == x) (same_name xs xs) (itself x) (same_name-self xs)
  where
    itself : (a : ℕ) → (a == a) ≡ true
    itself a = grind (arith, nat_tests)

-- an inode that a name may lead to
abbrev IsFileNumber : Geometry → ℕ → Type 0
IsFileNumber g i = (1 ≤ i) × (i < g.inodes)

after-in_table : (g : Geometry) (name : List ℕ) (found : Option ℕ) (items : List LogItem) → All (MayStand g zero) items
    → ((i : ℕ) → found ≡ Some i → IsFileNumber g i)
    → (i : ℕ) → named_after name found items ≡ Some i → IsFileNumber g i
after-in_table g name found [] standing before = before
after-in_table g name found (Write first n block size flag mask ∷ items) standing before = absurd
    (All-head (MayStand g zero) (Write first n block size flag mask) items standing)
after-in_table g name found (Size size ∷ items) standing before = absurd (All-head (MayStand g zero) (Size size) items standing)
after-in_table g name found (Add ino new ∷ items) standing before =
    after-in_table g name (if same_name new name then Some ino else found) items (All-tail (MayStand g zero) (Add ino new) items standing)
    (by_test (same_name new name))
  where
    one : (j i : ℕ) → Some j ≡ Some i → j ≡ i
    one j i e = cc

    by_test : (b : Bool) (i : ℕ) → (if b then Some ino else found) ≡ Some i → IsFileNumber g i
    by_test true i e = subst (IsFileNumber g) (one ino i e) (All-head (MayStand g zero) (Add ino new) items standing)
    by_test false i e = before i e
after-in_table g name found (Forget old ∷ items) standing before =
    after-in_table g name (if same_name old name then None else found) items (All-tail (MayStand g zero) (Forget old) items standing)
    (by_test (same_name old name))
  where
    by_test : (b : Bool) (i : ℕ) → (if b then None else found) ≡ Some i → IsFileNumber g i
    by_test true i e = cc
    by_test false i e = before i e

-- a name leads to an inode of the table, and not to the root
pub named-in_table : (d : Disk) → IsValid d → (name : List ℕ) (i : ℕ) → named d name ≡ Some i → IsFileNumber d.geometry i
unfolding named
named-in_table d valid name i e =
    after-in_table d.geometry name None (d.inode 0).log.items (valid.logs 0 (omega (arith, valid.accepted.inodes))
    (subst IsUsed (sym valid.root) tt)).standing (λ j none. cc) i e

-- a name that leads to a live inode is the only one
pub one_name : (d : Disk) → IsValid d → (ino : ℕ) → IsFileNumber d.geometry ino → (d.inode ino).use_of ≡ Live → (name other : List ℕ)
    → named d name ≡ Some ino → named d other ≡ Some ino → other ≡ name
one_name d valid ino file live name other e e' =
    let linked : HasOneName d ino = subst (IsLinked d ino) live (valid.links ino file.0 file.1) in
    linked.alone other e' ∙ sym (linked.alone name e)

module _ (ino : ℕ) (old new : Disk) (w : Writes ino old new) (ok : WritesWell ino old new w) where
  -- mapped pages hold what they held
  mapped_byte-same : (i idx k : ℕ) → i < old.geometry.inodes → mapped_byte new k (maps old i idx) ≡ mapped_byte old k (maps old i idx)
  mapped_byte-same i idx k in_table = by_map (maps old i idx) refl
    where
      by_map : (m : Option Mapping) → maps old i idx ≡ m → mapped_byte new k m ≡ mapped_byte old k m
      by_map None e = refl
      by_map (Some m) e =
          let to : MapsTo old i idx m.block = record {
            in_table = in_table;
            in_file = maps-in_file old ok.valid i idx m in_table e;
            by = m;
            is = e;
            block = refl;
          } in
          ap (λ (v : ℕ). v / 256 ^ (k % 8) % 256) (w.relogs.word m.block (k / 8) (inl (record { ino = i; idx = idx; maps_to = to })))

  -- the other files keep their bytes
  pub bytes-others : (i : ℕ) → i ≢ ino → i < old.geometry.inodes → bytes new i ≡ bytes old i
  bytes-others i ne in_table = same_number_lists (bytes new i) (bytes old i) (length-bytes new i ∙ same_size ∙ sym (length-bytes old i))
      (λ j lt. byte j (omega (arith, lt, length-bytes new i)))
    where
      same_size : size_of (new.inode i).log ≡ size_of (old.inode i).log
      same_size = ap (λ (n : Inode). size_of n.log) (w.relogs.others i ne)

      byte : (j : ℕ) → j < size_of (new.inode i).log → slice_index (bytes new i) j ≡ slice_index (bytes old i) j
      byte j lt =
          byte_at new i j lt ∙ ap (mapped_byte new (j % 4096)) (maps_others ino old new w i (j / 4096) ne) ∙ mapped_byte-same i (j / 4096) (j % 4096)
          in_table
          ∙ sym (byte_at old i j (omega (arith, lt, same_size)))

  -- the files are those after the operation
  pub files-written : (name : List ℕ) → named old name ≡ Some ino → (at b : ℕ) (text : List ℕ) → WritesBytes ino old new w at (b ∷ text)
      → IsSameFiles (files new) (after_op (files old) (WriteOp name at (b ∷ text)))
  files-written name leads at b text is other = ap (option_map (bytes new)) (named_same ino old new w ok other) ∙ by_test (same_name name other) refl
    where
      file : IsFileNumber old.geometry ino
      file = named-in_table old ok.valid name ino leads

      old_bytes : bytes_or_none (files old name) ≡ bytes old ino
      old_bytes = ap (λ (r : Option ℕ). bytes_or_none (option_map (bytes old) r)) leads

      elsewhere : same_name name other ≡ false → (r : Option ℕ) → named old other ≡ r → option_map (bytes new) r ≡ option_map (bytes old) r
      elsewhere t None e = refl
      elsewhere t (Some j) e = elim (cases_eq j ino) [
        | inl same ↦ absurd (both (one_name old ok.valid ino file w.live name other leads (e ∙ ap Some same)))
        | inr ne ↦ ap Some (bytes-others j ne (named-in_table old ok.valid other j e).1)
      ]
        where
          both : other ≡ name → ⊥
          both same = let self : same_name name name ≡ true = same_name-self name in let differs : same_name name name ≡ false = ap (same_name name)
              (sym same) ∙ t in cc

      by_test : (t : Bool) → same_name name other ≡ t
          → option_map (bytes new) (named old other) ≡ (if t then Some (written (bytes_or_none (files old name)) at (b ∷ text)) else files old other)
      by_test true e =
          ap (λ (n : List ℕ). option_map (bytes new) (named old n)) (sym (same_names name other e)) ∙ ap (option_map (bytes new)) leads
          ∙ ap Some (bytes-written ino old new w ok at (b ∷ text) is ∙ ap (λ (before : List ℕ). written before at (b ∷ text)) (sym old_bytes))
      by_test false e = elsewhere e (named old other) refl
