-- What an inode is used for, as a program tells it.
use Rattle.dn_model.specs.Disk.{Use, Free, Live, Dying}
use Rattle.image_head.specs.declared.inodes.InodeUse.{InodeUse}

abbrev pub told_use : InodeUse → Use
told_use InodeUse.Free = Free
told_use InodeUse.Live = Live
told_use (InodeUse.Dying cut) = Dying cut
