-- Whether inodes are held.
use Rattle.std.specs.Prelude.{◌≡◌, ℕ, List, ◌∷◌, ◌++◌, slice_get, Some, None, Contains}
use Rattle.dn_volume.specs.declared.volume.InodeState.{InodeState}

-- this inode's state tells that this actor holds it
pub record TellsHolder (inodes : List InodeState) (ino who : ℕ) : Type 0 where
  pub node : InodeState
  pub at : slice_get inodes ino ≡ Some node
  pub holder : node.holder ≡ Some who

-- none of these inodes is held
abbrev pub AreLooseAmong : List InodeState → List ℕ → Type 0
AreLooseAmong inodes wanted = (ino : ℕ) (n : InodeState) → Contains wanted ino
    → slice_get inodes ino ≡ Some n → n.holder ≡ None

-- the first of them that is held is held by this actor
pub record IsHeldAmong (inodes : List InodeState) (wanted : List ℕ) (who : ℕ) : Type 0 where
  pub before : List ℕ
  pub ino : ℕ
  pub after : List ℕ
  pub split : wanted ≡ before ++ ino ∷ after
  pub held : TellsHolder inodes ino who
  pub loose : AreLooseAmong inodes before
