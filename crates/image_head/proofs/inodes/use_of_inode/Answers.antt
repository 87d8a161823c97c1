use Rattle.std.proofs.Common.{◌≡◌, ◌<◌, ◌≤◌, ℕ, sym, ◌∙◌, subst, arith}
use Rattle.std.specs.Prelude.{slice_index}
use Rattle.pm_layout.specs.declared.Geometry.{Geometry}
use Rattle.pm_layout.specs.Geometry.{inode_word}
use Rattle.dn_model.specs.Disk.{Disk}
use Rattle.image_head.proofs.Uses.{is_use, free_by, live_by, dying_by}
use Rattle.image_head.proofs.inodes.use_of_inode.Goals as goal

in_table : (d : Disk) (g : Geometry) (ino : ℕ) → d.geometry ≡ g → ino < g.inodes → ino < d.geometry.inodes
in_table d g ino same lt = subst (λ (h : Geometry). ino < h.inodes) (sym same) lt

pub returns-in-0 : goal.returns-in-0
returns-in-0 h c = λ d same reads.
    free_by _ _ (d.inode c.args.ino).use_of (is_use d (h.D.Pm.state c.args.device.now).now c.args.ino
    (in_table d c.args.g.now c.args.ino same c.requires.ino) reads)
    (sym c.read_field.ensures ∙ c.in-0.is)

pub returns-in-1 : goal.returns-in-1
returns-in-1 h c = λ d same reads.
    live_by _ _ (d.inode c.args.ino).use_of (is_use d (h.D.Pm.state c.args.device.now).now c.args.ino
    (in_table d c.args.g.now c.args.ino same c.requires.ino) reads)
    (sym c.read_field.ensures ∙ c.in-1.is)

pub returns-in_default : goal.returns-in_default
returns-in_default h c = λ d same reads.
    let high : 2 ≤ c.read_field.result = omega arith in
    let high_word : 2 ≤ slice_index (h.D.Pm.state c.args.device.now).now (inode_word c.args.ino 0) = omega (arith, high, c.read_field.ensures) in
    rw c.read_field-in_default.ensures
    (dying_by _ _ (d.inode c.args.ino).use_of (is_use d (h.D.Pm.state c.args.device.now).now c.args.ino
    (in_table d c.args.g.now c.args.ino same c.requires.ino)
    reads) high_word)
