-- The laws of dying inodes.
use Rattle.std.specs.Prelude.{ℕ, []}
use Rattle.pm_layout.specs.Geometry.{inode_word}
use Rattle.dn_model.specs.Disk.{Disk}
use Rattle.dn_model.specs.Own.{Print, IsOwn}
use Rattle.law_table_on_disk.specs.OneWord.{IsOneWord}
use Rattle.law_table_on_disk.specs.MappingLaws.{LowersCut}
use Rattle.law_dying.specs.Dying.{
  Step,
  Falls,
  Ends,
  stepped,
  MayFall,
  MayEnd,
  IsStepped,
  KeepsLiving,
  DropsPlace,
  DropsLog,
}

abbrev pub SteppedDisksAre : Type 0
SteppedDisksAre = (d : Disk) (ino : ℕ) (step : Step) → IsStepped d ino step (stepped d ino step)

-- one word decides, and no other is new: the cut, or the state
abbrev pub FallIsOneWord : Type 0
FallIsOneWord = (d : Disk) (ino cut : ℕ) → MayFall d ino cut
    → IsOneWord d (stepped d ino (Falls cut)) 0 [] (inode_word ino 3) cut

abbrev pub EndIsOneWord : Type 0
EndIsOneWord = (d : Disk) (ino : ℕ) → MayEnd d ino → IsOneWord d (stepped d ino Ends) 0 []
    (inode_word ino 0) 0

-- what lives stays
abbrev pub FallKeepsLiving : Type 0
FallKeepsLiving = (d : Disk) (ino cut : ℕ) → MayFall d ino cut
    → KeepsLiving d (stepped d ino (Falls cut)) ino

abbrev pub EndKeepsLiving : Type 0
EndKeepsLiving = (d : Disk) (ino : ℕ) → MayEnd d ino → KeepsLiving d (stepped d ino Ends) ino

abbrev pub FallStaysOwn : Type 0
FallStaysOwn = (print : Print) (d : Disk) (ino cut : ℕ) → MayFall d ino cut → IsOwn print d
    → IsOwn print (stepped d ino (Falls cut))

abbrev pub EndStaysOwn : Type 0
EndStaysOwn = (print : Print) (d : Disk) (ino : ℕ) → MayEnd d ino → IsOwn print d
    → IsOwn print (stepped d ino Ends)

-- the cut is lower
abbrev pub FallLowersCut : Type 0
FallLowersCut = (d : Disk) (ino cut : ℕ) (may : MayFall d ino cut) → LowersCut ino cut may.before d
    (stepped d ino (Falls cut))

-- what goes
abbrev pub FallDropsPlace : Type 0
FallDropsPlace = (d : Disk) (ino cut : ℕ) (may : MayFall d ino cut)
    → DropsPlace d (stepped d ino (Falls cut)) may.by.block

abbrev pub EndDropsLog : Type 0
EndDropsLog = (d : Disk) (ino : ℕ) → MayEnd d ino → DropsLog d (stepped d ino Ends) ino
