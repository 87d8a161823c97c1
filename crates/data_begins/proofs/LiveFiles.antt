-- A file of a volume, as it is kept in memory and on the disk.
use Rattle.std.proofs.Common.{◌≡◌, ℕ, ◌+◌, ◌*◌, ◌<◌, List, [], ◌∷◌, length, refl, sym, ◌∙◌, ap, subst, arith, Option, Some, None}
use Rattle.std.specs.Prelude.{slice_get, slice_index, get_or}
use Rattle.std.proofs.lemmas.Option.{slice_get-get_or}
use Rattle.pm_device.specs.State.{State}
use Rattle.pm_layout.specs.declared.Geometry.{Geometry}
use Rattle.pm_layout.specs.Geometry.{IsAccepted, inode_word}
use Rattle.file_content.specs.Content.{IsFileOf, AreBlocksIn}
use Rattle.file_content.proofs.Blocks.{blocks_in-file}
use Rattle.law_unique.proofs.Ranges.{named-in_table, named-live}
use Rattle.dn_model.specs.Log.{IsPaged, count, tail_at, at_tail}
use Rattle.dn_model.specs.Disk.{Disk, IsUsed, of_logs}
use Rattle.dn_model.specs.Files.{named}
use Rattle.dn_model.specs.Counts.{total}
use Rattle.dn_volume.specs.declared.volume.InodeState.{InodeState}
use Rattle.dn_volume.specs.declared.volume.Parts.{Parts}
use Rattle.dn_volume.specs.Reclaims.{one_if, dying_units}
use Rattle.dn_volume.specs.Agrees.{IsVolume}
use Rattle.data_begins.specs.Places.{ArePlacesOf}
use Rattle.data_begins.specs.Asked.{IsLiveFile}

module _ (d : Disk) (b : Parts) (s : State) (v : IsVolume d b s) where
  -- a name leads to a file
  pub named_file : (name : List ℕ) (ino : ℕ) → named d name ≡ Some ino → IsLiveFile d ino
  named_file name ino leads =
      let number = named-in_table d v.fast.valid name ino leads in
      record { file = number.0; in_table = number.1; live = named-live d v.fast.valid name ino leads }

  pub accepted : IsAccepted b.geometry
  accepted = subst IsAccepted v.fast.geometry v.fast.valid.accepted

  pub device_long : length s.now ≡ 512 * b.geometry.pages
  device_long = v.fast.long ∙ ap (λ (g : Geometry). 512 * g.pages) v.fast.geometry

  -- nothing waits
  pub none_waits : b.reclaiming.waiting ≡ 0 → b.reclaiming.releases.items ≡ []
  none_waits none = by b.reclaiming.releases.items (few b.reclaiming.raised v.reclaiming.waiting)
    where
      few : {X : Type 0} (o : Option X)
          → b.reclaiming.waiting + one_if o ≡ one_if b.reclaiming.zero_check + 2 * length b.reclaiming.releases.items + total d.geometry.inodes
          (dying_units d)
          → length b.reclaiming.releases.items ≡ 0
      few None is = omega (arith, is, none)
      few (Some x) is = omega (arith, is, none)

      by : (xs : List ℕ) → length xs ≡ 0 → xs ≡ []
      by [] long = refl
      by (x ∷ xs) long = absurd (omega (arith, long))

  module _ (ino : ℕ) (file : IsLiveFile d ino) where
    pub in_nodes : ino < length b.inodes.items
    in_nodes = let small = file.in_table in let all = v.inodes.all in omega (arith, small, all)

    pub in_geometry : ino < b.geometry.inodes
    in_geometry = subst (λ (g : Geometry). ino < g.inodes) v.fast.geometry file.in_table

    used : IsUsed (d.inode ino).use_of
    used = subst IsUsed (sym file.live) tt

    pub node_at : (x : InodeState) → x ≡ get_or b.inodes.items ino x → slice_get b.inodes.items ino ≡ Some x
    node_at x is = slice_get-get_or b.inodes.items ino x in_nodes ∙ ap (λ (n : InodeState). Some n) (sym is)

    pub file_is : (x : InodeState) → slice_get b.inodes.items ino ≡ Some x → IsFileOf d ino x.size x.map.map
    file_is x at = let was = v.inodes.each ino x at in record {
      live = file.live;
      in_table = file.in_table;
      size_is = was.size_is used;
      small = was.small;
      places = was.places;
    }

    pub places_are : (x : InodeState) → slice_get b.inodes.items ino ≡ Some x → ArePlacesOf d ino x.map.map
    places_are x at = (v.inodes.each ino x at).places

    pub blocks_in : (x : InodeState) → slice_get b.inodes.items ino ≡ Some x → AreBlocksIn b.geometry x.map.map
    blocks_in x at = blocks_in-file d ino x.size x.map.map b.geometry (file_is x at) v.fast.valid v.fast.geometry

    pub blocks_in_table : (x : InodeState) → slice_get b.inodes.items ino ≡ Some x → AreBlocksIn b.fact.geometry x.map.map
    blocks_in_table x at = blocks_in-file d ino x.size x.map.map b.fact.geometry (file_is x at) v.fast.valid v.table.geometry

    -- its log
    pub log_paged : IsPaged d.geometry (d.inode ino).log
    log_paged = (v.fast.valid.logs ino file.in_table used).paged

    pub tail_within : inode_word ino 2 < length s.now
    tail_within = v.fast.stands.within (inode_word ino 2) (tail_at (d.inode ino).log.pages (count (d.inode ino).log))
        (of_logs (record { ino = ino; in_table = file.in_table; used = used; says = at_tail refl refl }))

    pub tail_read : slice_index s.now (inode_word ino 2) ≡ tail_at (d.inode ino).log.pages (count (d.inode ino).log)
    tail_read = v.fast.stands.reads (inode_word ino 2) (tail_at (d.inode ino).log.pages (count (d.inode ino).log))
        (of_logs (record { ino = ino; in_table = file.in_table; used = used; says = at_tail refl refl }))
