use Rattle.std.proofs.Common.{◌≡◌, ℕ, ◌<◌, true, List, length, map, get_or, sym, ◌∙◌, ap, subst}
use Rattle.std.specs.Prelude.{slice_get, Some, All}
use Rattle.std.proofs.lemmas.Option.{slice_get-get_or}
use Rattle.pm_device.specs.State.{State}
use Rattle.pm_layout.specs.Geometry.{IsAccepted}
use Rattle.log_entry.specs.Spelling.{spelled}
use Rattle.log_entry.specs.declared.item.LogItem.{LogItem}
use Rattle.dn_model.specs.Log.{Log, placed}
use Rattle.dn_model.specs.Disk.{Disk}
use Rattle.log_walk.specs.Items.{seen}
use Rattle.log_walk.specs.declared.items.Placed.{Placed as PlacedItem}
use Rattle.log_walk.specs.Walk.{HasLog}
use Rattle.file_scan.specs.Index.{MayBeIndexed}
use Rattle.law_clean.specs.Cleaned.{cleaned_items}
use Rattle.clean_items.specs.Cleaning.{IsKeptOf}
use Rattle.dn_volume.specs.declared.volume.InodeState.{InodeState}
use Rattle.dn_volume.specs.declared.volume.Parts.{Parts}
use Rattle.dn_volume.specs.Agrees.{IsVolume}
use Rattle.dn_volume.specs.Cleans.{may_clean}
use Rattle.log_clean.specs.Planning.{MayBeLaid}
use Rattle.log_clean.proofs.Remaining.{volume_of, read_indexed, items_same, kept_of, new_laid}
use Rattle.log_clean.proofs.plan.read_remains.Goals as goal

indexed : (d : Disk) (b : Parts) (s : State) → IsVolume d b s → (ino : ℕ) (items seen_items : List PlacedItem)
    → HasLog b.geometry s.now ino items → seen_items ≡ items → All MayBeIndexed seen_items
indexed d b s v ino items seen_items has same = subst (All MayBeIndexed) (sym same)
    (read_indexed b.geometry s.now ino items (subst IsAccepted v.fast.geometry v.fast.valid.accepted) has)

-- what is read of an inode whose log may be cleaned
module _ (d : Disk) (b : Parts) (s : State) (v : IsVolume d b s) (ino : ℕ) (n : InodeState) (inside : ino < length b.inodes.items)
    (at : n ≡ get_or b.inodes.items ino n) (may : may_clean b ino ≡ true) where
  there : slice_get b.inodes.items ino ≡ Some n
  there = slice_get-get_or b.inodes.items ino n inside ∙ ap Some (sym at)

  made : (items seen_items : List PlacedItem) (made_items : List LogItem) → HasLog b.geometry s.now ino items → seen_items ≡ items
      → ((log : Log) → map seen seen_items ≡ placed log → IsKeptOf log n.size n.map.map → made_items ≡ cleaned_items ino log)
      → made_items ≡ cleaned_items ino (d.inode ino).log
  made items seen_items made_items has same so = so (d.inode ino).log
      (ap (λ (xs : List PlacedItem). map seen xs) same ∙ items_same d b s v ino n there may items has) (kept_of d b s v ino n there may)

  laid : (made_items : List LogItem) → made_items ≡ cleaned_items ino (d.inode ino).log → All MayBeLaid made_items
  laid made_items is = subst (All MayBeLaid) (sym is) (new_laid d b s v ino n there may)

pub cleaned_items-requires : goal.cleaned_items-requires
cleaned_items-requires g c =
    let S = g.D.Pm.state in
    let found = volume_of S c.args.v.now c.requires.agrees c.requires.running in
    indexed found.0 c.args.v.now.parts (S c.args.v.now.device) found.1 c.args.ino c.in-Ok.items.items c.deref.result.now c.in-Ok.ensures.log
    c.deref.ensures.value

pub spell-requires : goal.spell-requires
spell-requires g c =
    let S = g.D.Pm.state in
    let found = volume_of S c.args.v.now c.requires.agrees c.requires.running in
    subst (All MayBeLaid) (sym c.deref-2.ensures.value)
    (laid found.0 c.args.v.now.parts (S c.args.v.now.device) found.1 c.args.ino c.index-node.result.now c.requires.inside c.index-node.ensures
    c.requires.may c.in_ok-items.items.items
    (made found.0 c.args.v.now.parts (S c.args.v.now.device) found.1 c.args.ino c.index-node.result.now c.requires.inside c.index-node.ensures
    c.requires.may c.in-Ok.items.items c.deref.result.now c.in_ok-items.items.items c.in-Ok.ensures.log c.deref.ensures.value
    c.in_ok-items.ensures))

pub returns-clause-remains : goal.returns-clause-remains
returns-clause-remains g c = λ d v.
    let S = g.D.Pm.state in
    record {
      items =
          made d c.args.v.now.parts (S c.args.v.now.device) v c.args.ino c.index-node.result.now c.requires.inside c.index-node.ensures
          c.requires.may c.in-Ok.items.items c.deref.result.now c.in_ok-items.items.items c.in-Ok.ensures.log c.deref.ensures.value
          c.in_ok-items.ensures;
      slots = ap (λ (xs : List LogItem). spelled xs) (sym c.deref-2.ensures.value) ∙ c.in_ok-slots.ensures;
    }

pub returns-clause-laid : goal.returns-clause-laid
returns-clause-laid g c =
    let S = g.D.Pm.state in
    let found = volume_of S c.args.v.now c.requires.agrees c.requires.running in
    laid found.0 c.args.v.now.parts (S c.args.v.now.device) found.1 c.args.ino c.index-node.result.now c.requires.inside c.index-node.ensures
    c.requires.may c.in_ok-items.items.items
    (made found.0 c.args.v.now.parts (S c.args.v.now.device) found.1 c.args.ino c.index-node.result.now c.requires.inside c.index-node.ensures
    c.requires.may c.in-Ok.items.items c.deref.result.now c.in_ok-items.items.items c.in-Ok.ensures.log c.deref.ensures.value
    c.in_ok-items.ensures)
