-- The item that is begun has few places.
use Rattle.std.proofs.Common.{◌≡◌, ⊎_elim, ℕ, ◌+◌, ◌^◌, ◌<◌, List, [], ◌∷◌, length, ap, subst, arith}
use Rattle.std.specs.Prelude.{Contains}
use Rattle.std.proofs.lemmas.List.Elements.{All-contains}
use Rattle.log_entry.specs.Spelling.{IsSpelled, spelling}
use Rattle.log_entry.specs.declared.item.LogItem.{LogItem}
use Rattle.log_entry.specs.declared.item.LogItem.TheVariants.{Write}
use Rattle.log_entry.specs.declared.item.Flag.TheVariants.{InProcess}
use Rattle.dn_model.specs.Log.{Log, Placed, placed, placed_from}
use Rattle.dn_model.specs.Disk.{Disk, Use, Live, IsUsed}
use Rattle.law_table.proofs.Rows.{listed_here, listed_later, listed_cases}
use Rattle.dn_volume.specs.declared.background.Sharing.{Sharing}
use Rattle.dn_volume.specs.Shares.{IsBegun}
use Rattle.dn_model.specs.Valid.{IsValid}

placed_item : (pages : List ℕ) (k : ℕ) (items : List LogItem) (p : Placed) → Contains (placed_from pages k items) p → Contains items p.item
placed_item pages k [] p has = absurd (omega (arith, has.1))
placed_item pages k (x ∷ items) p has = ⊎_elim
    (λ first. subst (Contains (x ∷ items)) (ap (λ (q : Placed). q.item) first) (listed_here x items))
    (λ later. listed_later x items p.item (placed_item pages (k + length (spelling x)) items p later)) (listed_cases _ _ p has)

log_item : (log : Log) (p : Placed) → Contains (placed log) p → Contains log.items p.item
log_item log p has = placed_item log.pages 0 log.items p has

module _ (d : Disk) (valid : IsValid d) (item : Sharing) (begun : IsBegun d item) where
  live_used : (u : Use) → u ≡ Live → IsUsed u
  live_used u is = subst IsUsed (sym' u is) tt
    where
      sym' : (u : Use) → u ≡ Live → Live ≡ u
      sym' u is = cc

  pub item_spelled : IsSpelled (Write item.first item.count begun.block begun.size InProcess begun.mask)
  item_spelled = All-contains IsSpelled (d.inode item.work.ino).log.items _ (valid.logs item.work.ino begun.in_table (live_used _
      begun.live)).spelled
      (log_item (d.inode item.work.ino).log _ begun.item)

  pub item_few : item.count < 2 ^ 32
  item_few = omega (arith, item_spelled.1)
