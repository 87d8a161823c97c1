-- One element of a list changes.
use Rattle.std.proofs.Common.{◌≡◌, ◌≢◌, inl, inr, ℕ, ◌<◌, List, length, get_or, refl, sym, ◌∙◌, ap, subst, arith}
use Rattle.std.specs.Prelude.{slice_get, slice_set, Option, Some}
use Rattle.std.proofs.lemmas.Bool.{cases_lt}
use Rattle.std.proofs.lemmas.Option.{slice_get_read, slice_get-get_or, slice_get_past}
use Rattle.std.proofs.lemmas.List.{length-set, get_or-set_same, get_or-set_other}
use Rattle.file_content.specs.declared.runs.Run.{Run}
use Rattle.dn_volume.specs.declared.flight.Flight.{Flight}
use Rattle.dn_volume.specs.declared.flight.Change.{Change}
use Rattle.dn_volume.specs.declared.flight.Change.TheVariants.{Data}
use Rattle.dn_volume.specs.declared.flight.DataChange.{DataChange}
use Rattle.dn_volume.specs.declared.volume.InodeState.{InodeState}
use Rattle.dn_volume.specs.declared.volume.Parts.{Parts}
use Rattle.file_ops.specs.Ending.{MapsInode, MapsAt, FinishesParts}

module _ {X : Type 0} where
  same_some : (o : Option X) (x y : X) → o ≡ Some x → o ≡ Some y → x ≡ y
  same_some o x y a b = cc

  pub set_here : (xs : List X) (k : ℕ) (x : X) → k < length xs → slice_get (slice_set xs k x) k ≡ Some x
  set_here xs k x lt = slice_get_read (slice_set xs k x) (length (slice_set xs k x)) k x refl (omega (arith, lt, length-set xs k x))
      (sym (get_or-set_same xs k x x lt))

  pub set_other : (xs : List X) (k j : ℕ) (x : X) → j ≢ k → slice_get (slice_set xs k x) j ≡ slice_get xs j
  set_other xs k j x ne = elim (cases_lt j (length xs)) [
    | inl lt ↦
        slice_get-get_or (slice_set xs k x) j x (omega (arith, lt, length-set xs k x)) ∙ ap (λ (y : X). Some y) (get_or-set_other xs k j x x ne) ∙ sym
        (slice_get-get_or xs j x lt)
    | inr past ↦ slice_get_past (slice_set xs k x) j (omega (arith, past, length-set xs k x)) ∙ sym (slice_get_past xs j past)
  ]

pub maps_at : (ino size tail : ℕ) (fresh : List ℕ) (runs : List Run) (nodes : List InodeState) (x y : InodeState) → ino < length nodes
    → x ≡ get_or nodes ino x → MapsInode ino size tail fresh runs x y
    → MapsAt ino size tail fresh runs nodes (slice_set nodes ino y)
maps_at ino size tail fresh runs nodes x y lt value maps = record {
  all = length-set nodes ino y;
  others = λ i ne. set_other nodes ino i y ne;
  here = λ u v was is.
      subst (λ (a : InodeState). MapsInode ino size tail fresh runs a v)
      (same_some (slice_get nodes ino) x u (slice_get_read nodes (length nodes) ino x refl lt value) was)
      (subst (λ (z : InodeState). MapsInode ino size tail fresh runs x z) (same_some (slice_get (slice_set nodes ino y) ino) y v
      (set_here nodes ino y lt) is) maps);
}

pub data_same : (x : Change) (c c' : DataChange) → x ≡ Data c → x ≡ Data c' → c ≡ c'
data_same x c c' a b = cc

pub finishes_same : (who tail : ℕ) (f : Flight) (c c' : DataChange) (b b' : Parts) → c ≡ c' → FinishesParts who tail f c b b'
    → FinishesParts who tail f c' b b'
finishes_same who tail f c c' b b' e = subst (λ (x : DataChange). FinishesParts who tail f x b b') e
