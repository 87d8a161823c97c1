-- What is in the way of a write or a cut, of the parts and of the disk.
use Rattle.std.proofs.Common.{◌≡◌, inl, inr, ⊎_elim, ℕ, ◌<◌, List, [], ◌∷◌, length, refl, sym, ◌∙◌, ap, subst, arith, Option, Some, None}
use Rattle.std.specs.Prelude.{All}
use Rattle.std.proofs.lemmas.List.Elements.{All-nil, All-cons}
use Rattle.pm_device.specs.State.{State}
use Rattle.dn_model.specs.Disk.{Disk}
use Rattle.dn_model.specs.declared.op.Op.{Op}
use Rattle.dn_model.specs.declared.op.Reply.TheVariants.{Refused}
use Rattle.dn_model.specs.declared.op.Refusal.TheVariants.{NoSpace as NoSpaceFor}
use Rattle.dn_volume.specs.declared.volume.Parts.{Parts}
use Rattle.dn_volume.specs.Planned.{row_slots}
use Rattle.dn_volume.specs.Begins.{wants, LacksSpace, LacksReleases, lost_rows, AreLoose, IsHeldFirst, IsUnhindered, IsAnswerOf, no_space}
use Rattle.dn_volume.specs.Agrees.{IsVolume}
use Rattle.begin_steps.proofs.Loose.{loose_all, held_first}
use Rattle.data_begins.specs.declared.asks.DataAsk.{DataAsk}
use Rattle.data_begins.specs.declared.hindrance.Hindrance.{Hindrance}
use Rattle.data_begins.specs.declared.hindrance.Hindrance.TheVariants.{Held, Waits, NoSpace}
use Rattle.data_begins.specs.Hindered.{LacksPages, IsCrowded, IsLoose, IsHindrance}
use Rattle.data_begins.specs.Asked.{IsAsk, IsInTheWay}
use Rattle.data_begins.proofs.LiveFiles.{in_nodes}

module _ (d : Disk) (b : Parts) (s : State) (v : IsVolume d b s) (op : Op) (ask : DataAsk) (is : IsAsk d op ask) (lost : ℕ)
    (lost_is : lost ≡ length (row_slots d ask.ino ask.lost ask.lost_places)) where
  inside : All (λ ino. ino < length b.inodes.items) (ask.ino ∷ [])
  inside = All-cons (λ ino. ino < length b.inodes.items) ask.ino [] (in_nodes d b s v ask.ino is.file) (All-nil (λ ino. ino < length b.inodes.items))

  loose : IsLoose b ask.ino → AreLoose b (wants d op)
  loose none = subst (AreLoose b) (sym is.holds) (loose_all d b s v (ask.ino ∷ []) inside none)

  unhindered : IsLoose b ask.ino → IsUnhindered d b op
  unhindered none = record { granted = is.granted; lasts = is.lasts; loose = loose none }

  lost_long : length (lost_rows d op) ≡ lost
  lost_long = ap length is.loses ∙ sym lost_is

  lacks_space : LacksPages b ask.needed → LacksSpace d b op
  lacks_space lacks = let some = lacks.0 in let few = lacks.1 in let need = is.needs in let four = is.keeps in
      (omega (arith, some, need), omega (arith, few, need, four))

  space_lacks : LacksSpace d b op → LacksPages b ask.needed
  space_lacks lacks = let some = lacks.0 in let few = lacks.1 in let need = is.needs in let four = is.keeps in
      (omega (arith, some, need), omega (arith, few, need, four))

  lacks_releases : IsCrowded b lost → LacksReleases d b op
  lacks_releases many = let long = lost_long in omega (arith, many, long)

  releases_lack : LacksReleases d b op → IsCrowded b lost
  releases_lack many = let long = lost_long in omega (arith, many, long)

  pub is_in_the_way : (h : Option Hindrance) → IsHindrance b ask.ino ask.needed lost h → IsInTheWay d b op ask h
  is_in_the_way None free = record {
    unhindered = unhindered free.loose;
    inode = is.inode;
    space = λ lacks. free.pages (space_lacks lacks);
    releases = λ lacks. free.releases (releases_lack lacks);
  }
  is_in_the_way (Some (Held holder)) held = record {
    granted = is.granted;
    held = subst (λ (xs : List ℕ). IsHeldFirst b xs holder) (sym is.holds) (held_first d b s v (ask.ino ∷ []) holder held);
  }
  is_in_the_way (Some Waits) waits = record {
    unhindered = unhindered waits.loose;
    lacks = inr (⊎_elim (λ lacks. inl (lacks_space lacks)) (λ lacks. inr (lacks_releases lacks)) waits.lacks);
    some = waits.some;
    is = refl;
  }
  is_in_the_way (Some NoSpace) full = subst (λ (n : ℕ). IsAnswerOf d b op (Refused (NoSpaceFor n (length b.free.free)))) is.needs
      (no_space (unhindered full.loose) full.none is.inode (lacks_space full.lacks))
