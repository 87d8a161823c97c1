-- The bytes of files after a change of names.
use Rattle.std.proofs.Common.{◌≡◌, ℕ, ◌/◌, ◌%◌, ◌^◌, ◌<◌, ◌≤◌, List, [], ◌∷◌, length, refl, sym, ◌∙◌, ap, subst, arith}
use Rattle.std.specs.Prelude.{slice_index, Option, Some, None}
use Rattle.std.proofs.lemmas.Grind.{same_number_lists}
use Rattle.dn_model.specs.Log.{no_log}
use Rattle.dn_model.specs.Maps.{Mapping, size_of}
use Rattle.dn_model.specs.Disk.{Disk, Inode, IsUsed, maps}
use Rattle.dn_model.specs.Files.{bytes, mapped_byte}
use Rattle.law_write.proofs.WriteBytes.{length-bytes, byte_at}
use Rattle.law_names.specs.NameChange.{NameChange, Turn, Stays, Comes, Goes, MayTurn, turned, names_changed, MayChange}
use Rattle.law_names.proofs.Changed.{at_ino, at_other, same_word, Where, is_root, is_here, elsewhere, where_is}
use Rattle.law_names.proofs.Kept.{maps_same}

turned_size : (turn : Turn) (node : Inode) → MayTurn turn node.use_of → IsUsed node.use_of → size_of (turned turn node).log ≡ size_of node.log
turned_size Stays node may used = refl
turned_size Comes node may used = absurd (subst IsUsed may used)
turned_size Goes node may used = refl

empty : (xs : List ℕ) → length xs ≡ 0 → xs ≡ []
empty [] e = refl
empty (x ∷ xs) e = absurd (omega (arith, e))

no_size : size_of no_log ≡ 0
unfolding size_of
no_size = refl

module _ (d : Disk) (change : NameChange) (may : MayChange d change) where
  abbrev new : Disk
  new = names_changed d change

  size_at : (i : ℕ) → 1 ≤ i → IsUsed (d.inode i).use_of → Where d change i → size_of (new.inode i).log ≡ size_of (d.inode i).log
  size_at i some used (is_root e) = absurd (omega (arith, e, some))
  size_at i some used (is_here e) =
      let node : new.inode i ≡ turned change.turn (d.inode change.ino) = ap new.inode e ∙ at_ino d change may.file in
      ap (λ (n : Inode). size_of n.log) node
      ∙ turned_size change.turn (d.inode change.ino) may.may_turn (subst (λ (j : ℕ). IsUsed (d.inode j).use_of) e used) ∙ ap
      (λ (j : ℕ). size_of (d.inode j).log) (sym e)
  size_at i some used (elsewhere some' ne) = ap (λ (n : Inode). size_of n.log) (at_other d change i some ne)

  -- the files that there were have their sizes
  pub size_same : (i : ℕ) → 1 ≤ i → IsUsed (d.inode i).use_of → size_of (new.inode i).log ≡ size_of (d.inode i).log
  size_same i some used = size_at i some used (where_is d change i)

  mapped_byte_same : (k : ℕ) (m : Option Mapping) → mapped_byte new k m ≡ mapped_byte d k m
  mapped_byte_same k None = refl
  mapped_byte_same k (Some m) = ap (λ (v : ℕ). v / 256 ^ (k % 8) % 256) (same_word d change m.block (k / 8))

  -- and their bytes
  pub bytes_same : (i : ℕ) → 1 ≤ i → IsUsed (d.inode i).use_of → bytes new i ≡ bytes d i
  bytes_same i some used =
      same_number_lists (bytes new i) (bytes d i) (length-bytes new i ∙ size_same i some used ∙ sym (length-bytes d i))
      (λ j lt. byte j (omega (arith, lt, length-bytes new i)))
    where
      byte : (j : ℕ) → j < size_of (new.inode i).log → slice_index (bytes new i) j ≡ slice_index (bytes d i) j
      byte j lt =
          byte_at new i j lt ∙ ap (mapped_byte new (j % 4096)) (maps_same d change may i (j / 4096)) ∙ mapped_byte_same (j % 4096)
          (maps d i (j / 4096))
          ∙ sym (byte_at d i j (omega (arith, lt, size_same i some used)))

  -- a file that comes has none
  pub no_bytes : change.turn ≡ Comes → bytes new change.ino ≡ []
  no_bytes comes = empty (bytes new change.ino) (length-bytes new change.ino
      ∙ ap (λ (n : Inode). size_of n.log) (at_ino d change may.file ∙ ap (λ (t : Turn). turned t (d.inode change.ino)) comes) ∙ no_size)
